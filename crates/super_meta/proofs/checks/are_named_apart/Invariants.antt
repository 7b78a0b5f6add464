use Rattle.std.proofs.Common.{◌≡◌, map, drop}
use Rattle.fb_frame.specs.Distinct.{are_distinct}
use Rattle.super_meta.proofs.checks.are_named_apart.Given as goal

abbrev pub invariant-loop-i : goal.invariant-loop-i
invariant-loop-i g l = are_distinct (map g.T.Named.named (drop l.i l.entries)) ≡ are_distinct (map g.T.Named.named l.entries)
