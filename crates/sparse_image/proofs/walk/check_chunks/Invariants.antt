use Rattle.std.proofs.Common.{◌≡◌, ◌-◌, ◌≤◌, length, drop}
use Rattle.std.specs.Result.{result_err}
use Rattle.sparse_image.specs.Walks.{walked}
use Rattle.sparse_image.proofs.walk.check_chunks.Given as goal

abbrev pub invariant-loop : goal.invariant-loop
invariant-loop l = record {
  within : l.place ≤ length l.file;
  same : result_err (walked (l.header.chunks - l.counter) l.header.block l.blocks l.place (drop l.place l.file)) ≡ result_err (walked l.header.chunks l.header.block l.header.blocks 28 (drop 28 l.file));
}
