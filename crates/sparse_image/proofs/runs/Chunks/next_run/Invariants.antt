use Rattle.sparse_image.specs.Runs.{Skips, AreWhole, chunks_left}
use Rattle.sparse_image.proofs.runs.Chunks.next_run.Given as goal

abbrev pub invariant-loop-self : goal.invariant-loop-self
invariant-loop-self l = record {
  skips : Skips (chunks_left l.initial.self) (chunks_left l.self);
  whole : AreWhole l.self;
}

abbrev pub decreases-loop-self : goal.decreases-loop-self
decreases-loop-self l = l.self.chunks
