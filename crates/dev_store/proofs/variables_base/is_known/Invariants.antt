use Rattle.std.proofs.Common.{◌≡◌, take, map, false}
use Rattle.std.specs.Prelude.{bytes_eq}
use Rattle.std.specs.List.{list_any}
use Rattle.dev_model.specs.Variables.{base_name}
use Rattle.dev_store.specs.StoreCalls.{names_of}
use Rattle.dev_store.specs.ToldRows.{told_device}
use Rattle.dev_store.proofs.variables_base.is_known.Given as goal

abbrev pub invariant-loop-earlier : goal.invariant-loop-earlier
invariant-loop-earlier l = list_any (λ x. bytes_eq l.base x) (take l.earlier (map (base_name (told_device l.facts)) (names_of (told_device l.facts)))) ≡ false
