use Rattle.std.proofs.Common.{List, ◌-◌}
use Rattle.sparse_image.specs.declared.chunk.Chunk.{Chunk}
use Rattle.sparse_image.specs.Reaches.{IsReach, GrowsBy}
use Rattle.sparse_image.proofs.reach.Reach.grow.Given as goal

abbrev pub invariant-loop-chunk : goal.invariant-loop-chunk
invariant-loop-chunk l = record {
  reach : IsReach l.self;
  whole : (done : List Chunk) × GrowsBy l.initial.self done l.self;
}

abbrev pub decreases-loop-chunk : goal.decreases-loop-chunk
decreases-loop-chunk l = l.self.blocks - l.self.at
