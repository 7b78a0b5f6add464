use Rattle.std.proofs.Common.{◌≡◌, ◌++◌, drop, filter}
use Rattle.std.specs.Prelude.{not, bytes_eq}
use Rattle.std.specs.List.{list_any}
use Rattle.dev_model.specs.Variables.{first_ones}
use Rattle.dev_model.proofs.all_rows.first_ones.Given as goal

-- what follows adds the texts that weren't found yet
abbrev pub invariant-loop-text : goal.invariant-loop-text
invariant-loop-text l = l.found ++ filter (λ y. not (list_any (λ x. bytes_eq y x) l.found)) (first_ones (drop l.text-index l.texts)) ≡ first_ones l.texts
