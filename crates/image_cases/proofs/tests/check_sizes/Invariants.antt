use Rattle.std.proofs.Common.{◌≡◌, length, Ok}
use Rattle.sparse_image.specs.Walks.{checked}
use Rattle.image_cases.proofs.tests.check_sizes.Given as goal

abbrev pub invariant-loop-size : goal.invariant-loop-size
invariant-loop-size g l = record { len : length l.file ≡ l.pieces.kept.source_len; told : checked l.file ≡ Ok l.pieces.kept }
