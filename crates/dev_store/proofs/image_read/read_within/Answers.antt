use Rattle.std.proofs.Common.{◌≡◌, arith, ap, subst, Some, Err}
use Rattle.std.specs.Prelude.{IfSome, IsTrue}
use Rattle.dev_disk.specs.Files.{copy}
use Rattle.dev_disk.specs.Disks.{open_bytes}
use Rattle.dev_store.specs.declared.errors.OpenError.TheVariants.{Bad}
use Rattle.dev_store.specs.Stand.{table_in, super_bytes}
use Rattle.dev_store.specs.SuperReads.{IsSuperRead}
use Rattle.dev_store.specs.Laid.{is_good_super}
use Rattle.dev_store.proofs.OpenSuper.{roomy}
use Rattle.dev_store.proofs.ImageReads.{within-read, within-bad}
use Rattle.dev_store.proofs.image_read.read_within.Goals as goal

pub read_super-requires-clause-end : goal.read_super-requires-clause-end
read_super-requires-clause-end g c =
    let part : c.args.layout.now.super_part ≡ Some c.in-Some.part = cc in
    let r = roomy c.in-Some.part (subst (λ p. IsTrue (is_good_super p)) part c.requires.laid.super) in
    omega (arith, r.size, c.parts_end-at.ensures.bounded)

pub returns-in-Ok-clause-read : goal.returns-in-Ok-clause-read
returns-in-Ok-clause-read g c =
    let o = open_bytes (g.K.Disk.told c.args.disk.now) in
    let layout = c.args.layout.now in
    let s = c.in-Some.part in
    let part : layout.super_part ≡ Some s = cc in
    within-read layout layout.super_part s c.in-Ok.within o part
    (subst (λ n. IfSome o (λ file. IsSuperRead s (copy file n s.size) c.in-Ok.within)) c.parts_end-at.ensures.end c.in-Ok.ensures.read)

pub returns-in-Err-clause-bad : goal.returns-in-Err-clause-bad
returns-in-Err-clause-bad g c = λ bad e.
    let o = open_bytes (g.K.Disk.told c.args.disk.now) in
    let layout = c.args.layout.now in
    let s = c.in-Some.part in
    let part : layout.super_part ≡ Some s = cc in
    let same : c.in-Err.e ≡ Bad bad = cc in
    within-bad layout layout.super_part s bad o part
    (subst (λ ps. IfSome o (λ file. table_in ps s (super_bytes layout s file) ≡ Err bad)) c.physical.ensures
    (subst (λ n. IfSome o (λ file. table_in c.physical.result.now s (copy file n s.size) ≡ Err bad)) c.parts_end-at.ensures.end (c.in-Err.ensures.bad bad (ap Err same))))
