use Rattle.std.proofs.Common.{◌≡◌, ◌+◌, ◌-◌, ◌≤◌, ◌∙◌, refl, take, arith}
use Rattle.std.specs.Prelude.{◌%◌}
use Rattle.std.proofs.lemmas.List.{length-take-le}
use Rattle.dev_disk.specs.Disks.{open_bytes}
use Rattle.dev_disk.proofs.TwinLemmas.{OpenKept-then}
use Rattle.dev_store.proofs.SuperRepairLemmas.{self-kept}
use Rattle.dev_store.proofs.PartPieces.{puts-nothing, none-before, last-before}
use Rattle.dev_store.proofs.PartFilling.{piece-fours, fill-more, fill-left, fill-all}
use Rattle.dev_store.proofs.part_fill.fill_pieces.Goals as goal

pub loop-done-init : goal.loop-done-init
loop-done-init g c = record {
  long = omega arith;
  fours = refl;
  put = puts-nothing c.args.part.now c.args.at (open_bytes (g.K.Disk.told c.args.disk.now));
  kept = self-kept (g.K.Disk.told c.args.disk.now);
  same = refl;
  before = λ _. none-before c.args.part.now (c.args.at + 0);
}

pub fill_piece-requires-clause-fours : goal.fill_piece-requires-clause-fours
fill_piece-requires-clause-fours g c =
    let i = c.loop-done.invariant in
    piece-fours c.args.part.now (c.args.at + c.loop-done.done) (c.args.count - c.loop-done.done) c.piece-piece.result.count c.requires.safe.room c.piece-piece.ensures.whole
    (omega (arith, c.requires.place, i.fours)) (omega (arith, c.requires.fours, i.fours, i.long)) c.piece-piece.ensures.most

pub returns-in_default-clause-left : goal.returns-in_default-clause-left
returns-in_default-clause-left g c =
    let i = c.loop-done.invariant in
    fill-left c.args.part.now c.args.at c.loop-done.done c.args.count c.piece-piece.result (take 4 c.args.buffer.now) (open_bytes (g.K.Disk.told c.args.disk.now)) (open_bytes (g.K.Disk.told c.loop-done.disk))
    (open_bytes (g.K.Disk.told c.fill_piece.new.disk)) i.put c.piece-piece.ensures.piece i.fours (length-take-le 4 c.args.buffer.now (omega (arith, c.requires.room, c.requires.whole)))
    (omega (arith, i.long, c.piece-piece.ensures.most)) c.requires.fits c.fill_piece.ensures.within

pub loop-done-preserved : goal.loop-done-preserved
loop-done-preserved g c =
    let a = g.K.Disk.told c.args.disk.now in
    let b = g.K.Disk.told c.loop-done.disk in
    let d = g.K.Disk.told c.fill_piece.new.disk in
    let i = c.loop-done.invariant in
    let piece = c.piece-piece.result in
    let fours : piece.count % 4 ≡ 0 = piece-fours c.args.part.now (c.args.at + c.loop-done.done) (c.args.count - c.loop-done.done) piece.count c.requires.safe.room c.piece-piece.ensures.whole
    (omega (arith, c.requires.place, i.fours)) (omega (arith, c.requires.fours, i.fours, i.long)) c.piece-piece.ensures.most in
    let all : c.loop-done.done + piece.count ≤ c.args.count = omega (arith, i.long, c.piece-piece.ensures.most) in
    record {
      long = all;
      fours = omega (arith, i.fours, fours);
      put = fill-more c.args.part.now c.args.at c.loop-done.done piece (take 4 c.args.buffer.now) (open_bytes a) (open_bytes b) (open_bytes d) i.put c.piece-piece.ensures.piece i.fours fours
          (length-take-le 4 c.args.buffer.now (omega (arith, c.requires.room, c.requires.whole))) (omega (arith, all, c.requires.fits)) c.in-Ok.ensures.written;
      kept = OpenKept-then a b d i.kept c.fill_piece.ensures.kept;
      same = c.fill_piece.ensures.same ∙ i.same;
      before = λ h. last-before c.args.part.now c.args.at c.loop-done.done _ piece c.piece-piece.ensures.last h;
    }

pub returns-clause-written : goal.returns-clause-written
returns-clause-written g c =
    fill-all c.args.part.now c.args.at c.loop-done.done c.args.count (take 4 c.args.buffer.now) (open_bytes (g.K.Disk.told c.args.disk.now)) (open_bytes (g.K.Disk.told c.loop-done.disk)) c.loop-done.invariant.put
    c.loop-done.invariant.long c.loop-done-test.false
