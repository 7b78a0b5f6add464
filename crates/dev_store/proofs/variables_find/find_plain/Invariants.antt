use Rattle.std.proofs.Common.{◌≡◌, drop}
use Rattle.std.specs.Prelude.{bytes_eq}
use Rattle.std.specs.Map.{lookup}
use Rattle.dev_model.specs.Variables.{plain_rows}
use Rattle.dev_store.specs.ToldRows.{told_device}
use Rattle.dev_store.proofs.variables_find.find_plain.Given as goal

abbrev pub invariant-loop-place : goal.invariant-loop-place
invariant-loop-place l = lookup (λ n. bytes_eq n l.name) (drop l.place (plain_rows (told_device l.facts))) ≡ lookup (λ n. bytes_eq n l.name) (plain_rows (told_device l.facts))
