use Rattle.std.proofs.Common.{◌≡◌, map, take}
use Rattle.dev_model.specs.declared.cells.Cell.TheVariants.{Byte}
use Rattle.dev_model.proofs.images.byte_cells.Given as goal

-- the bytes that were passed are cells
abbrev pub invariant-loop-b : goal.invariant-loop-b
invariant-loop-b l = l.cells.items ≡ map Byte (take l.b-index l.bytes)
