use Rattle.std.proofs.Common.{◌≡◌, drop}
use Rattle.flash_plan.specs.Facts.{kind_in}
use Rattle.flash_plan.proofs.answers.kind_in.Given as goal

-- the name isn't one of those before
abbrev pub invariant-loop-part : goal.invariant-loop-part
invariant-loop-part l = kind_in (drop l.part-index l.parts) l.name ≡ kind_in l.parts l.name
