use Rattle.std.proofs.Common.{sym, subst}
use Rattle.fb_frame.specs.Told.{Both}
use Rattle.dev_disk.specs.Files.{DifferWithin}
use Rattle.dev_disk.specs.Disks.{open_bytes}
use Rattle.dev_store.specs.Opening.{StandsAs}
use Rattle.dev_store.specs.Reading.{IsStateRead, IsStateLeft, AreStatesMended, IsImageRead, IsWithinRead, IsSuperMade, IsSuperKept, IsMended}
use Rattle.dev_store.proofs.StateRepairs.{told-more, on-told, ok-more, err-more}
use Rattle.dev_store.proofs.OpenSuper.{both-then, both-ends}
use Rattle.dev_store.proofs.OpenLemmas.{IsHalfway, within-alike, rest-alike, states-left, halfway-left, halfway-made}
use Rattle.dev_store.proofs.image_repair.repair_image.Goals as goal

pub repair_states-requires-clause-read : goal.repair_states-requires-clause-read
repair_states-requires-clause-read g c =
    let r = c.args.read.now in
    told-more (IsImageRead r) (IsStateRead c.slots.result r.found) (open_bytes (g.K.Disk.told c.args.disk.now)) (λ file h. subst (λ n. IsStateRead n r.found file) (sym c.slots.ensures) h.state) c.requires.read

pub returns-in_default-clause-left : goal.returns-in_default-clause-left
returns-in_default-clause-left g c = λ honest.
    let r = c.args.read.now in
    both-ends (IsImageRead r) (IsStateLeft c.slots.result r.found.state) (DifferWithin 4096 8192) StandsAs
    (open_bytes (g.K.Disk.told c.args.disk.now)) (open_bytes (g.K.Disk.told c.repair_states.new.disk))
    (λ old new p d q. states-left r old new p d (subst (λ n. IsStateLeft n r.found.state new) c.slots.ensures q)) c.requires.read c.repair_states.ensures.within (c.in_default.ensures.left honest)

pub repair_within-requires-clause-read : goal.repair_within-requires-clause-read
repair_within-requires-clause-read g c =
    let r = c.args.read.now in
    on-told (IsImageRead r) (IsWithinRead r.layout r.layout.super_part r.within) (DifferWithin 4096 8192)
    (open_bytes (g.K.Disk.told c.args.disk.now)) (open_bytes (g.K.Disk.told c.repair_states.new.disk))
    (λ old new p d. within-alike r.layout r.layout.super_part r.within old new (rest-alike r.layout old new d) p.super) c.requires.read c.repair_states.ensures.within

pub returns-clause-mended : goal.returns-clause-mended
returns-clause-mended g c =
    let r = c.args.read.now in
    let o = open_bytes (g.K.Disk.told c.args.disk.now) in
    let p = open_bytes (g.K.Disk.told c.repair_states.new.disk) in
    let half : Both (IsHalfway r) o p = both-ends (IsImageRead r) (AreStatesMended c.slots.result r.found.state) (DifferWithin 4096 8192) (IsHalfway r) o p
    (λ old new h d q. record { read = h; differs = d; mended = subst (λ n. AreStatesMended n r.found.state new) c.slots.ensures q }) c.requires.read c.repair_states.ensures.within c.in-Ok.ensures.mended in
    ok-more c.repair_within.result (λ m. both-then (IsHalfway r) (IsSuperMade r.layout) (IsMended r) o p (open_bytes (g.K.Disk.told c.repair_within.new.disk)) (halfway-made r) half m) c.repair_within.ensures.mended

pub returns-clause-left : goal.returns-clause-left
returns-clause-left g c =
    let r = c.args.read.now in
    let o = open_bytes (g.K.Disk.told c.args.disk.now) in
    let p = open_bytes (g.K.Disk.told c.repair_states.new.disk) in
    let half : Both (IsHalfway r) o p = both-ends (IsImageRead r) (AreStatesMended c.slots.result r.found.state) (DifferWithin 4096 8192) (IsHalfway r) o p
    (λ old new h d q. record { read = h; differs = d; mended = subst (λ n. AreStatesMended n r.found.state new) c.slots.ensures q }) c.requires.read c.repair_states.ensures.within c.in-Ok.ensures.mended in
    err-more c.repair_within.result (λ f honest. both-then (IsHalfway r) (IsSuperKept r.layout) StandsAs o p (open_bytes (g.K.Disk.told c.repair_within.new.disk)) (halfway-left r) half (f honest)) c.repair_within.ensures.left
