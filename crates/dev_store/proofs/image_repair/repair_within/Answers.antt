use Rattle.std.proofs.Common.{◌≡◌, ◌+◌, ◌-◌, subst, arith, Some}
use Rattle.std.specs.Prelude.{IsTrue}
use Rattle.dev_disk.specs.Files.{DifferWithin, copy}
use Rattle.dev_disk.specs.Disks.{open_bytes}
use Rattle.dev_store.specs.Laid.{is_good_super}
use Rattle.dev_store.specs.LayoutLines.{first_unit}
use Rattle.dev_store.specs.SuperReads.{IsSuperRead}
use Rattle.dev_store.specs.SuperRepairs.{IsSuperMended, IsSuperLeft}
use Rattle.dev_store.specs.Reading.{IsSuperMade, IsSuperKept}
use Rattle.dev_store.proofs.StateRepairs.{ok-more, err-more}
use Rattle.dev_store.proofs.OpenSuper.{roomy, within-super, super-made, super-kept, both-two, both-three}
use Rattle.dev_store.proofs.image_repair.repair_within.Goals as goal

pub repair_super-requires-clause-buffer : goal.repair_super-requires-clause-buffer
repair_super-requires-clause-buffer g c =
    let part : c.args.read.now.layout.super_part ≡ Some c.in-Some.part = cc in
    let r = roomy c.in-Some.part (subst (λ p. IsTrue (is_good_super p)) part c.requires.laid.super) in
    omega (arith, r.room, c.requires.room)

pub repair_super-requires-clause-end : goal.repair_super-requires-clause-end
repair_super-requires-clause-end g c =
    let part : c.args.read.now.layout.super_part ≡ Some c.in-Some.part = cc in
    let r = roomy c.in-Some.part (subst (λ p. IsTrue (is_good_super p)) part c.requires.laid.super) in
    omega (arith, r.size, c.parts_end-at.ensures.bounded)

pub repair_super-requires-clause-read : goal.repair_super-requires-clause-read
repair_super-requires-clause-read g c =
    let layout = c.args.read.now.layout in
    let part : layout.super_part ≡ Some c.in-Some.part = cc in
    within-super layout layout.super_part c.args.read.now.within c.in-Some.part c.in-Some-within.within c.parts_end-at.result (open_bytes (g.K.Disk.told c.args.disk.now))
    part c.in-Some-within.is c.parts_end-at.ensures.end c.requires.read

pub returns-clause-mended : goal.returns-clause-mended
returns-clause-mended g c =
    let layout = c.args.read.now.layout in
    let s = c.in-Some.part in
    let at = c.parts_end-at.result in
    let count = first_unit s - 4096 in
    let part : layout.super_part ≡ Some s = cc in
    ok-more c.repair_super.result (λ m. both-two (IsSuperMended s at) (DifferWithin (at + 4096) count) (IsSuperMade layout)
    (open_bytes (g.K.Disk.told c.args.disk.now)) (open_bytes (g.K.Disk.told c.repair_super.new.disk))
    (λ old new h d. super-made layout s at count old new part c.parts_end-at.ensures.end h d) m c.repair_super.ensures.within) c.repair_super.ensures.repaired

pub returns-clause-left : goal.returns-clause-left
returns-clause-left g c =
    let layout = c.args.read.now.layout in
    let s = c.in-Some.part in
    let w = c.in-Some-within.within in
    let at = c.parts_end-at.result in
    let count = first_unit s - 4096 in
    let o = open_bytes (g.K.Disk.told c.args.disk.now) in
    let part : layout.super_part ≡ Some s = cc in
    let r = roomy s (subst (λ p. IsTrue (is_good_super p)) part c.requires.laid.super) in
    let read = within-super layout layout.super_part c.args.read.now.within s w at o part c.in-Some-within.is c.parts_end-at.ensures.end c.requires.read in
    err-more c.repair_super.result (λ f honest. both-three (λ file. IsSuperRead s (copy file at s.size) w) (IsSuperLeft s at) (DifferWithin (at + 4096) count) (IsSuperKept layout)
    o (open_bytes (g.K.Disk.told c.repair_super.new.disk))
    (λ old new p h d. super-kept layout s at w old new part c.parts_end-at.ensures.end r p h d) read (f honest) c.repair_super.ensures.within) c.repair_super.ensures.left
