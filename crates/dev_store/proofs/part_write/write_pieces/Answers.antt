use Rattle.std.proofs.Common.{◌+◌, ◌∙◌, refl, arith}
use Rattle.dev_disk.specs.Disks.{open_bytes}
use Rattle.dev_disk.proofs.TwinLemmas.{OpenKept-then}
use Rattle.dev_store.proofs.SuperRepairLemmas.{self-kept}
use Rattle.dev_store.proofs.PartPieces.{puts-nothing, none-before, last-before, write-more, write-left, write-all}
use Rattle.dev_store.proofs.part_write.write_pieces.Goals as goal

pub loop-done-init : goal.loop-done-init
loop-done-init g c = record {
  long = omega arith;
  put = puts-nothing c.args.part.now c.args.at (open_bytes (g.K.Disk.told c.args.disk.now));
  kept = self-kept (g.K.Disk.told c.args.disk.now);
  same = refl;
  before = λ _. none-before c.args.part.now (c.args.at + 0);
}

pub returns-in_default-clause-left : goal.returns-in_default-clause-left
returns-in_default-clause-left g c =
    let d = g.K.Disk.told c.write_at.new.self in
    write-left c.args.part.now c.args.at c.loop-done.done c.piece-piece.result c.args.bytes.now d.torn (open_bytes (g.K.Disk.told c.args.disk.now)) (open_bytes (g.K.Disk.told c.loop-done.disk)) (open_bytes d)
    c.loop-done.invariant.put c.piece-piece.ensures.piece (omega (arith, c.loop-done.invariant.long, c.piece-piece.ensures.most)) c.requires.fits c.in_default.ensures.fails.part

pub loop-done-preserved : goal.loop-done-preserved
loop-done-preserved g c =
    let a = g.K.Disk.told c.args.disk.now in
    let b = g.K.Disk.told c.loop-done.disk in
    let d = g.K.Disk.told c.write_at.new.self in
    let i = c.loop-done.invariant in
    record {
      long = omega (arith, i.long, c.piece-piece.ensures.most);
      put = write-more c.args.part.now c.args.at c.loop-done.done c.piece-piece.result c.args.bytes.now (open_bytes a) (open_bytes b) (open_bytes d)
          i.put c.piece-piece.ensures.piece (omega (arith, i.long, c.piece-piece.ensures.most)) c.requires.fits c.in-Ok.ensures.writes.wrote;
      kept = OpenKept-then a b d i.kept c.in-Ok.ensures.writes.kept;
      same = c.write_at.ensures.same ∙ i.same;
      before = λ h. last-before c.args.part.now c.args.at c.loop-done.done _ c.piece-piece.result c.piece-piece.ensures.last h;
    }

pub returns-clause-written : goal.returns-clause-written
returns-clause-written g c =
    write-all c.args.part.now c.args.at c.loop-done.done c.args.bytes.now (open_bytes (g.K.Disk.told c.args.disk.now)) (open_bytes (g.K.Disk.told c.loop-done.disk)) c.loop-done.invariant.put c.loop-done-test.false
