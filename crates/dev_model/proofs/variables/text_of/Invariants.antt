use Rattle.std.proofs.Common.{◌≡◌, drop}
use Rattle.std.specs.Prelude.{bytes_eq}
use Rattle.std.specs.Map.{lookup}
use Rattle.dev_model.proofs.variables.text_of.Given as goal

-- no row that was passed has the name
abbrev pub invariant-loop-row : goal.invariant-loop-row
invariant-loop-row l = lookup (λ n. bytes_eq n l.name) l.rows ≡ lookup (λ n. bytes_eq n l.name) (drop l.row-index l.rows)
