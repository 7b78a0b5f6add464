use Rattle.std.proofs.Common.{◌≡◌, ◌+◌, ◌∙◌, length, sym, ap, subst, arith}
use Rattle.fb_frame.specs.Told.{Both}
use Rattle.dev_disk.specs.Files.{DifferWithin}
use Rattle.dev_disk.specs.Disks.{open_bytes}
use Rattle.dev_disk.proofs.TwinLemmas.{same-bytes, OpenKept-files, OpenKept-then, Rose-behind}
use Rattle.dev_store.specs.SuperBounds.{geometry_place}
use Rattle.dev_store.specs.SuperRepairs.{HoldsGeometry, IsRangeMended}
use Rattle.dev_store.proofs.PlaceLemmas.{block-inside, range-inside}
use Rattle.dev_store.proofs.SuperRepairLemmas.{both-kept, both-kept-if, both-from, both-map, differ-self, block-mended, written-mended, torn-within, range-told, inside-kept}
use Rattle.dev_store.proofs.super_repair.mend_geometry.Goals as goal

pub overflow_add-at : goal.overflow_add-at
overflow_add-at g c =
    let b = block-inside c.args.s.now c.args.second c.requires.bounded in omega (arith, b, c.geometry_place.ensures, c.requires.end)

pub write_at-requires : goal.write_at-requires
write_at-requires g c = record {
  inside =
      let a = g.K.Disk.told c.args.disk.now in
      let b = g.K.Disk.told c.reads_geometry.new.disk in
      let l = block-inside c.args.s.now c.args.second c.requires.bounded in
      range-inside _ c.args.at c.args.s.now.size c.geometry_place.result (length c.put_geometry.new.block) (inside-kept a b c.args.at c.args.s.now.size c.reads_geometry.ensures.kept c.requires.inside) (omega (arith, l, c.geometry_place.ensures, c.put_geometry.ensures.long));
}

pub returns-in_default-clause-within : goal.returns-in_default-clause-within
returns-in_default-clause-within g c =
    let a = g.K.Disk.told c.args.disk.now in
    let b = g.K.Disk.told c.reads_geometry.new.disk in
    both-kept (DifferWithin (c.args.at + geometry_place c.args.second) 4096) (open_bytes a) (open_bytes b) (same-bytes a b c.reads_geometry.ensures.kept) (differ-self (c.args.at + geometry_place c.args.second) 4096)

pub returns-in_default-clause-kept : goal.returns-in_default-clause-kept
returns-in_default-clause-kept g c = OpenKept-files (g.K.Disk.told c.args.disk.now) (g.K.Disk.told c.reads_geometry.new.disk) c.reads_geometry.ensures.kept

pub returns-then-holds-clause-mended : goal.returns-then-holds-clause-mended
returns-then-holds-clause-mended g c =
    let a = g.K.Disk.told c.args.disk.now in
    let b = g.K.Disk.told c.reads_geometry.new.disk in
    both-kept-if _ (IsRangeMended (c.args.at + geometry_place c.args.second) 4096 (HoldsGeometry c.args.s.now)) (open_bytes a) (open_bytes b) (same-bytes a b c.reads_geometry.ensures.kept) c.in-Ok.ensures.holds
    (λ file h. block-mended c.args.s.now c.args.at c.args.second c.in-Ok.holds file c.requires.bounded c.if-holds.true h)

pub returns-then-holds-clause-within : goal.returns-then-holds-clause-within
returns-then-holds-clause-within g c =
    let a = g.K.Disk.told c.args.disk.now in
    let b = g.K.Disk.told c.reads_geometry.new.disk in
    both-kept (DifferWithin (c.args.at + geometry_place c.args.second) 4096) (open_bytes a) (open_bytes b) (same-bytes a b c.reads_geometry.ensures.kept) (differ-self (c.args.at + geometry_place c.args.second) 4096)

pub returns-then-holds-clause-kept : goal.returns-then-holds-clause-kept
returns-then-holds-clause-kept g c = OpenKept-files (g.K.Disk.told c.args.disk.now) (g.K.Disk.told c.reads_geometry.new.disk) c.reads_geometry.ensures.kept

pub returns-in_default-write_at-clause-within : goal.returns-in_default-write_at-clause-within
returns-in_default-write_at-clause-within g c =
    let a = g.K.Disk.told c.args.disk.now in
    let b = g.K.Disk.told c.reads_geometry.new.disk in
    let d = g.K.Disk.told c.write_at.new.self in
    both-from (DifferWithin (c.args.at + geometry_place c.args.second) 4096) (open_bytes a) (open_bytes b) (open_bytes d) (same-bytes a b c.reads_geometry.ensures.kept)
    (subst (λ p. Both (DifferWithin (c.args.at + p) 4096) (open_bytes b) (open_bytes d)) c.geometry_place.ensures
    (torn-within d.torn (open_bytes b) (open_bytes d) (c.args.at + c.geometry_place.result) 4096 c.put_geometry.new.block c.put_geometry.ensures.long c.in_default-write_at.ensures.fails.part))

pub returns-in_default-write_at-clause-kept : goal.returns-in_default-write_at-clause-kept
returns-in_default-write_at-clause-kept g c =
    let a = g.K.Disk.told c.args.disk.now in
    let b = g.K.Disk.told c.reads_geometry.new.disk in
    let d = g.K.Disk.told c.write_at.new.self in
    OpenKept-then a b d (OpenKept-files a b c.reads_geometry.ensures.kept) c.in_default-write_at.ensures.fails.kept

pub returns-in_default-write_at-clause-cause : goal.returns-in_default-write_at-clause-cause
returns-in_default-write_at-clause-cause g c =
    let a = g.K.Disk.told c.args.disk.now in
    let b = g.K.Disk.told c.reads_geometry.new.disk in
    let d = g.K.Disk.told c.write_at.new.self in
    Rose-behind a.faults b.faults d.faults c.reads_geometry.ensures.kept.later c.in_default-write_at.ensures.fails.rose

pub returns-clause-mended : goal.returns-clause-mended
returns-clause-mended g c =
    let a = g.K.Disk.told c.args.disk.now in
    let b = g.K.Disk.told c.reads_geometry.new.disk in
    let d = g.K.Disk.told c.write_at.new.self in
    let l = block-inside c.args.s.now c.args.second c.requires.bounded in
    let range = range-told b c.args.at c.args.s.now.size c.geometry_place.result 4096 (g.met.K.Disk.agrees c.reads_geometry.new.disk) (inside-kept a b c.args.at c.args.s.now.size c.reads_geometry.ensures.kept c.requires.inside) (omega (arith, l, c.geometry_place.ensures)) in
    both-from (IsRangeMended (c.args.at + geometry_place c.args.second) 4096 (HoldsGeometry c.args.s.now)) (open_bytes a) (open_bytes b) (open_bytes d) (same-bytes a b c.reads_geometry.ensures.kept)
    (subst (λ p. Both (IsRangeMended (c.args.at + p) 4096 (HoldsGeometry c.args.s.now)) (open_bytes b) (open_bytes d)) c.geometry_place.ensures
    (written-mended (open_bytes b) (open_bytes d) (c.args.at + c.geometry_place.result) 4096 c.put_geometry.new.block (HoldsGeometry c.args.s.now) range c.put_geometry.ensures.long c.in-Ok-write_at.ensures.writes.wrote c.put_geometry.ensures.holds))

pub returns-clause-within : goal.returns-clause-within
returns-clause-within g c =
    let a = g.K.Disk.told c.args.disk.now in
    let b = g.K.Disk.told c.reads_geometry.new.disk in
    let d = g.K.Disk.told c.write_at.new.self in
    let l = block-inside c.args.s.now c.args.second c.requires.bounded in
    let range = range-told b c.args.at c.args.s.now.size c.geometry_place.result 4096 (g.met.K.Disk.agrees c.reads_geometry.new.disk) (inside-kept a b c.args.at c.args.s.now.size c.reads_geometry.ensures.kept c.requires.inside) (omega (arith, l, c.geometry_place.ensures)) in
    both-from (DifferWithin (c.args.at + geometry_place c.args.second) 4096) (open_bytes a) (open_bytes b) (open_bytes d) (same-bytes a b c.reads_geometry.ensures.kept)
    (subst (λ p. Both (DifferWithin (c.args.at + p) 4096) (open_bytes b) (open_bytes d)) c.geometry_place.ensures
    (both-map (open_bytes b) (open_bytes d) (written-mended (open_bytes b) (open_bytes d) (c.args.at + c.geometry_place.result) 4096 c.put_geometry.new.block (HoldsGeometry c.args.s.now) range c.put_geometry.ensures.long c.in-Ok-write_at.ensures.writes.wrote c.put_geometry.ensures.holds) (λ x y m. m.differs)))

pub returns-clause-kept : goal.returns-clause-kept
returns-clause-kept g c =
    let a = g.K.Disk.told c.args.disk.now in
    let b = g.K.Disk.told c.reads_geometry.new.disk in
    let d = g.K.Disk.told c.write_at.new.self in
    OpenKept-then a b d (OpenKept-files a b c.reads_geometry.ensures.kept) c.in-Ok-write_at.ensures.writes.kept
