use Rattle.std.proofs.Common.{◌≡◌, drop}
use Rattle.super_meta.specs.Contents.{are_apart}
use Rattle.super_meta.proofs.checks.are_apart.Given as goal

abbrev pub invariant-loop-i : goal.invariant-loop-i
invariant-loop-i l = are_apart (drop l.i l.extents) ≡ are_apart l.extents
