use Rattle.std.proofs.Common.{◌≢◌, ℕ, List, ◌++◌, take}
use Rattle.std.specs.Prelude.{flat_map}
use Rattle.fb_frame.specs.Stages.{Left}
use Rattle.fb_frame.specs.Gathered.{ReadsTold}
use Rattle.fb_frame.proofs.listener.feed_all.Given as goal

abbrev pub invariant-loop-piece : goal.invariant-loop-piece
invariant-loop-piece g l = record {
  ended : l.initial.deframer ≢ Left 0 → l.deframer ≢ Left 0;
  reads : (bytes : List ℕ) → ReadsTold bytes (g.L.Listener.told l.initial.listener) l.initial.deframer
      → ReadsTold (bytes ++ flat_map (λ p. p.now) (take l.piece-index l.pieces)) (g.L.Listener.told l.listener) l.deframer;
}
