use Rattle.std.proofs.Common.{◌∙◌, ap}
use Rattle.std.specs.Prelude.{unwrap_or}
use Rattle.dev_store.proofs.BuildNext.{placed-limited}
use Rattle.dev_store.proofs.table_next.group_place.Goals as goal

pub returns : goal.returns
returns c = c.unwrap_or.ensures ∙ (ap (λ o. unwrap_or o 0) c.place_of.ensures ∙ placed-limited c.args.name.now c.args.groups.now)
