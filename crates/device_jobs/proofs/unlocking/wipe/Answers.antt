use Rattle.std.proofs.Common.{◌≡◌, ◌∙◌, Some, Err, option_map, length, sym, subst, ap, arith, ◌∷◌, []}
use Rattle.dev_disk.proofs.TwinLemmas.{same-bytes}
use Rattle.dev_model.specs.Partitions.{bytes_of}
use Rattle.dev_store.specs.Changes.{range_flaw, put_at, repeated}
use Rattle.dev_store.specs.Held.{image_of, seen}
use Rattle.dev_store.specs.StoreCalls.{IsPartly}
use Rattle.device_jobs.specs.Unlocking.{IsWiped}
use Rattle.device_jobs.proofs.HashLemmas.{range-none, disk-fails}
use Rattle.device_jobs.proofs.WipeLemmas.{size-four, size-is, size-there, fill-wipes, none-wiped, wiped-partly, partly-wiped, seen-mode}
use Rattle.device_jobs.proofs.unlocking.wipe.Goals as goal

pub returns-in_default-clause-wiped : goal.returns-in_default-clause-wiped
returns-in_default-clause-wiped g c =
    let dev = c.args.store.now.device in
    none-wiped (image_of g.K.Disk.told c.args.store.now) dev c.length.ensures.valid
    (sym c.in_default.is ∙ subst (λ n. c.length.result ≡ option_map length (bytes_of dev n)) c.userdata-name.ensures c.length.ensures.length)

pub returns-in_default-clause-left : goal.returns-in_default-clause-left
returns-in_default-clause-left g c =
    let dev = c.args.store.now.device in
    wiped-partly (image_of g.K.Disk.told c.args.store.now) dev dev c.length.ensures.valid
    (none-wiped (image_of g.K.Disk.told c.args.store.now) dev c.length.ensures.valid
    (sym c.in_default.is ∙ subst (λ n. c.length.result ≡ option_map length (bytes_of dev n)) c.userdata-name.ensures c.length.ensures.length))

pub fill_part-requires-clause-whole : goal.fill_part-requires-clause-whole
fill_part-requires-clause-whole g c =
    size-four c.args.store.now.device c.userdata-name.result c.in-Some.size c.length.ensures.valid (sym c.in-Some.is ∙ c.length.ensures.length)

pub returns-in_default-fill_part-clause-left : goal.returns-in_default-fill_part-clause-left
returns-in_default-fill_part-clause-left g c =
    let dev = c.args.store.now.device in
    let e = sym c.in-Some.is ∙ c.length.ensures.length in
    let inside = size-is dev c.userdata-name.result c.in-Some.size e in
    let flaw = range-none dev c.userdata-name.result 0 c.in-Some.size (size-there dev c.userdata-name.result c.in-Some.size e) (omega (arith, inside)) in
    let fails = disk-fails (Unit {0}) g.K.Disk.told (range_flaw dev c.userdata-name.result 0 c.in-Some.size) c.args.store.now c.fill_part.new.self c.in_default-fill_part.field-0 flaw c.in_default-fill_part.ensures.decided in
    let partly = c.in_default-fill_part.ensures.part (ap Err fails.0) in
    partly-wiped (image_of g.K.Disk.told c.fill_part.new.self) dev c.fill_part.new.self.device c.in-Some.size (subst (λ n. Some c.in-Some.size ≡ option_map length (bytes_of dev n)) c.userdata-name.ensures e)
    (subst (λ n. IsPartly n 0 c.in-Some.size dev c.fill_part.new.self.device) c.userdata-name.ensures partly)

pub returns-in_default-fill_part-clause-cause : goal.returns-in_default-fill_part-clause-cause
returns-in_default-fill_part-clause-cause g c =
    let dev = c.args.store.now.device in
    let e = sym c.in-Some.is ∙ c.length.ensures.length in
    let inside = size-is dev c.userdata-name.result c.in-Some.size e in
    let flaw = range-none dev c.userdata-name.result 0 c.in-Some.size (size-there dev c.userdata-name.result c.in-Some.size e) (omega (arith, inside)) in
    (disk-fails (Unit {0}) g.K.Disk.told (range_flaw dev c.userdata-name.result 0 c.in-Some.size) c.args.store.now c.fill_part.new.self c.in_default-fill_part.field-0 flaw c.in_default-fill_part.ensures.decided).1

pub returns-in_default-sync-clause-left : goal.returns-in_default-sync-clause-left
returns-in_default-sync-clause-left g c =
    let told = g.K.Disk.told in
    let dev = c.args.store.now.device in
    let a = c.fill_part.new.self in
    let b = c.sync.new.self in
    let name = c.userdata-name.ensures in
    let e = subst (λ n. Some c.in-Some.size ≡ option_map length (bytes_of dev n)) name (sym c.in-Some.is ∙ c.length.ensures.length) in
    let filled = subst (λ n. a.device ≡ seen (image_of told a) (put_at n 0 (repeated c.in-Some.size (255 ∷ 255 ∷ 255 ∷ 255 ∷ [])) dev)) name c.in-Ok.ensures.filled in
    let wiped = fill-wipes (image_of told a) dev a.device c.in-Some.size c.length.ensures.valid e filled in
    wiped-partly (image_of told b) dev b.device c.length.ensures.valid
    (subst (λ d. IsWiped (image_of told b) dev d) (sym c.sync.ensures.device) (subst (λ o. IsWiped o dev a.device) (sym (same-bytes (told a.disk) (told b.disk) c.sync.ensures.files)) wiped))

pub returns-clause-wiped : goal.returns-clause-wiped
returns-clause-wiped g c =
    let told = g.K.Disk.told in
    let dev = c.args.store.now.device in
    let a = c.fill_part.new.self in
    let b = c.sync.new.self in
    let name = c.userdata-name.ensures in
    let e = subst (λ n. Some c.in-Some.size ≡ option_map length (bytes_of dev n)) name (sym c.in-Some.is ∙ c.length.ensures.length) in
    let filled = subst (λ n. a.device ≡ seen (image_of told a) (put_at n 0 (repeated c.in-Some.size (255 ∷ 255 ∷ 255 ∷ 255 ∷ [])) dev)) name c.in-Ok.ensures.filled in
    let wiped = fill-wipes (image_of told a) dev a.device c.in-Some.size c.length.ensures.valid e filled in
    subst (λ d. IsWiped (image_of told b) dev d) (sym c.sync.ensures.device) (subst (λ o. IsWiped o dev a.device) (sym (same-bytes (told a.disk) (told b.disk) c.sync.ensures.files)) wiped)

pub returns-clause-mode : goal.returns-clause-mode
returns-clause-mode g c =
    let told = g.K.Disk.told in
    let dev = c.args.store.now.device in
    let a = c.fill_part.new.self in
    ap (λ d. d.mode) c.sync.ensures.device
    ∙ seen-mode (image_of told a) dev a.device c.userdata-name.result (repeated c.in-Some.size (255 ∷ 255 ∷ 255 ∷ 255 ∷ [])) c.in-Ok.ensures.filled

pub returns-clause-left : goal.returns-clause-left
returns-clause-left g c =
    let told = g.K.Disk.told in
    let dev = c.args.store.now.device in
    let a = c.fill_part.new.self in
    let b = c.sync.new.self in
    let name = c.userdata-name.ensures in
    let e = subst (λ n. Some c.in-Some.size ≡ option_map length (bytes_of dev n)) name (sym c.in-Some.is ∙ c.length.ensures.length) in
    let filled = subst (λ n. a.device ≡ seen (image_of told a) (put_at n 0 (repeated c.in-Some.size (255 ∷ 255 ∷ 255 ∷ 255 ∷ [])) dev)) name c.in-Ok.ensures.filled in
    let wiped = fill-wipes (image_of told a) dev a.device c.in-Some.size c.length.ensures.valid e filled in
    wiped-partly (image_of told b) dev b.device c.length.ensures.valid
    (subst (λ d. IsWiped (image_of told b) dev d) (sym c.sync.ensures.device) (subst (λ o. IsWiped o dev a.device) (sym (same-bytes (told a.disk) (told b.disk) c.sync.ensures.files)) wiped))
