use Rattle.std.proofs.Common.{ℕ, ◌≤◌, ◌+◌, ◌*◌, ◌-◌, List, ◌++◌, take, length}
use Rattle.fb_frame.specs.Gathered.{ReadsTold}
use Rattle.fb_frame.proofs.FeedLemmas.{weight}
use Rattle.fb_frame.proofs.listener.feed_piece.Given as goal

abbrev pub invariant-loop-at : goal.invariant-loop-at
invariant-loop-at g l = record {
  within : l.at ≤ length l.piece;
  reads : (bytes : List ℕ) → ReadsTold bytes (g.L.Listener.told l.initial.listener) l.initial.deframer → ReadsTold (bytes ++ take l.at l.piece) (g.L.Listener.told l.listener) l.deframer;
}

abbrev pub decreases-loop-at : goal.decreases-loop-at
decreases-loop-at g l = 2 * (length l.piece - l.at) + weight l.deframer
