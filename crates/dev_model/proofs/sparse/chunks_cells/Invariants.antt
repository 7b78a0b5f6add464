use Rattle.std.proofs.Common.{◌≡◌, ◌-◌, ◌++◌, Some}
use Rattle.dev_model.specs.Options.{◌>>=◌}
use Rattle.dev_model.specs.Chunks.{cells_of}
use Rattle.dev_model.proofs.sparse.chunks_cells.Given as goal

-- the chunks that follow give the rest of the cells
abbrev pub invariant-loop-i : goal.invariant-loop-i
invariant-loop-i l = (cells_of (l.chunks - l.i) l.block l.left l.rest >>= λ cells. Some (l.cells.items ++ cells)) ≡ cells_of l.chunks l.block l.blocks l.bytes
