use Rattle.std.proofs.Common.{◌+◌, ◌-◌, ◌∙◌, refl, arith}
use Rattle.dev_disk.specs.Disks.{open_bytes}
use Rattle.dev_disk.proofs.TwinLemmas.{FilesKept-then, same-bytes}
use Rattle.dev_store.proofs.PartPieces.{reads-nothing, read-more, buffer-long, none-before, last-before, reads-all}
use Rattle.dev_store.proofs.part_read.read_pieces.Goals as goal

pub loop-done-init : goal.loop-done-init
loop-done-init g c = record {
  long = omega arith;
  read = reads-nothing c.args.part.now c.args.at (open_bytes (g.K.Disk.told c.args.disk.now));
  kept = record { files = refl; path = refl; length = refl; later = omega arith; torn = λ _ _ _ t. t };
  same = refl;
  before = λ _. none-before c.args.part.now (c.args.at + 0);
}

pub loop-done-preserved : goal.loop-done-preserved
loop-done-preserved g c =
    let a = g.K.Disk.told c.args.disk.now in
    let b = g.K.Disk.told c.loop-done.disk in
    let d = g.K.Disk.told c.read_at.new.self in
    let i = c.loop-done.invariant in
    let piece = c.piece-piece.result in
    let all = buffer-long c.loop-done.done (c.loop-done.done + piece.count - c.loop-done.done) c.loop-done.buf c.read_at.new.buf c.read_at.auto.buf in
    record {
      long = omega (arith, i.long, all, c.piece-piece.ensures.most);
      read = read-more c.args.part.now c.args.at c.loop-done.done piece c.loop-done.buf c.read_at.new.buf (open_bytes a) (open_bytes b) (same-bytes a b i.kept)
          i.read c.piece-piece.ensures.piece (omega (arith, i.long, c.piece-piece.ensures.most)) (omega (arith, c.requires.fits, c.loop-done.auto.buf)) c.read_at.auto.buf c.in-Ok.ensures.read;
      kept = FilesKept-then a b d i.kept c.in-Ok.ensures.kept;
      same = c.read_at.ensures.same ∙ i.same;
      before = λ h. last-before c.args.part.now c.args.at c.loop-done.done _ piece c.piece-piece.ensures.last (omega (arith, all, h));
    }

pub returns-clause-read : goal.returns-clause-read
returns-clause-read g c = reads-all c.args.part.now c.args.at c.loop-done.done c.loop-done.buf (open_bytes (g.K.Disk.told c.args.disk.now)) c.loop-done.invariant.read c.loop-done-test.false
