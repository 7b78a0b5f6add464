use Rattle.sparse_image.specs.Runs.{chunks_left}
use Rattle.sparse_image.proofs.RunLemmas.{Skips-run, Skips-more}
use Rattle.sparse_image.proofs.runs.Chunks.next_run.Goals as goal

pub returns-in-Some-clause-gives : goal.returns-in-Some-clause-gives
returns-in-Some-clause-gives c =
    Skips-run (chunks_left c.args.self.now) (chunks_left c.loop-self.self) (chunks_left c.take_front.new.self) c.in-Some.run' c.loop-self.invariant.skips c.in-Some.ensures.gives

pub loop-self-preserved : goal.loop-self-preserved
loop-self-preserved c = record {
  skips = Skips-more (chunks_left c.args.self.now) (chunks_left c.loop-self.self) (chunks_left c.take_front.new.self) c.loop-self.invariant.skips (rw c.in_default.is at c.take_front.ensures.gives);
  whole = c.take_front.ensures.whole;
}
