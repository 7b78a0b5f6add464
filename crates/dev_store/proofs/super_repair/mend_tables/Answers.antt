use Rattle.std.proofs.Common.{◌≡◌, ◌+◌, ◌*◌, ◌<◌, ◌∙◌, length, sym, ap, subst, refl, arith}
use Rattle.std.specs.Result.{result_ok}
use Rattle.fb_frame.specs.Told.{Both}
use Rattle.dev_disk.specs.Disks.{open_bytes}
use Rattle.dev_disk.proofs.TwinLemmas.{OpenKept-then, Rose-behind}
use Rattle.super_meta.specs.Contents.{content}
use Rattle.dev_store.specs.SuperReads.{copy_read}
use Rattle.dev_store.specs.SuperRepairs.{AreMendedTo, AreTablesMended, AreTablesLeft}
use Rattle.dev_store.proofs.SuperRepairLemmas.{both-kept-if, both-then, both-map, both-start-then, start-mended, next-mended, all-mended, tables-left, self-kept, inside-open, own-there}
use Rattle.dev_store.proofs.super_repair.mend_tables.Goals as goal

pub loop-number-init : goal.loop-number-init
loop-number-init g c =
    let a = g.K.Disk.told c.args.disk.now in
    let s = c.args.s.now in
    let r = c.args.read.now in
    record {
      kept = self-kept a;
      same = refl;
      mended = both-kept-if _ (AreMendedTo s c.args.at (copy_read s r.backup) (content r.table) 0) (open_bytes a) (open_bytes a) refl c.requires.read
          (λ file h. start-mended s c.args.at r.backup (content r.table) file h);
    }

pub mend_other-requires-clause-inside : goal.mend_other-requires-clause-inside
mend_other-requires-clause-inside g c =
    inside-open (g.K.Disk.told c.args.disk.now) (g.K.Disk.told c.loop-number.disk) c.args.at c.args.s.now.size c.loop-number.invariant.kept c.requires.inside

pub returns-in_default-clause-left : goal.returns-in_default-clause-left
returns-in_default-clause-left g c =
    let a = g.K.Disk.told c.args.disk.now in
    let b = g.K.Disk.told c.loop-number.disk in
    let d = g.K.Disk.told c.mend_other.new.disk in
    let s = c.args.s.now in
    let r = c.args.read.now in
    let t = content r.table in
    both-start-then (open_bytes a) (open_bytes b) (open_bytes d) c.requires.read c.loop-number.invariant.mended c.in_default.ensures.left
    (λ x y z read m l. tables-left d.torn s c.args.at r c.loop-number.number x y z c.requires.bounded c.loop-number-test.true read
    (ap result_ok (c.laws.ensures.table_read r.copy.items t c.requires.spelled.copy)) m l)

pub returns-in_default-clause-kept : goal.returns-in_default-clause-kept
returns-in_default-clause-kept g c =
    OpenKept-then (g.K.Disk.told c.args.disk.now) (g.K.Disk.told c.loop-number.disk) (g.K.Disk.told c.mend_other.new.disk) c.loop-number.invariant.kept c.mend_other.ensures.kept

pub returns-in_default-clause-cause : goal.returns-in_default-clause-cause
returns-in_default-clause-cause g c =
    let a = g.K.Disk.told c.args.disk.now in
    let b = g.K.Disk.told c.loop-number.disk in
    let d = g.K.Disk.told c.mend_other.new.disk in
    Rose-behind a.faults b.faults d.faults c.loop-number.invariant.kept.later c.in_default.ensures.cause

pub loop-number-preserved : goal.loop-number-preserved
loop-number-preserved g c =
    let a = g.K.Disk.told c.args.disk.now in
    let b = g.K.Disk.told c.loop-number.disk in
    let d = g.K.Disk.told c.mend_other.new.disk in
    let s = c.args.s.now in
    let r = c.args.read.now in
    let t = content r.table in
    let i = c.loop-number.invariant in
    record {
      kept = OpenKept-then a b d i.kept c.mend_other.ensures.kept;
      same = c.mend_other.ensures.same ∙ i.same;
      mended = both-then (open_bytes a) (open_bytes b) (open_bytes d) i.mended c.in-Ok.ensures.mended
          (λ x y z m n. next-mended s c.args.at (copy_read s r.backup) t c.loop-number.number x y z c.requires.bounded (own-there s r.backup c.requires.bounded) c.loop-number-test.true m n);
    }

pub returns-clause-mended : goal.returns-clause-mended
returns-clause-mended g c =
    let a = g.K.Disk.told c.args.disk.now in
    let b = g.K.Disk.told c.loop-number.disk in
    let s = c.args.s.now in
    let r = c.args.read.now in
    both-map (open_bytes a) (open_bytes b) c.loop-number.invariant.mended
    (λ x y m. all-mended s c.args.at (copy_read s r.backup) (content r.table) c.loop-number.number x y c.loop-number-test.false m)
