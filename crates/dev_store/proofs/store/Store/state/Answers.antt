use Rattle.std.proofs.Common.{◌∙◌, ap}
use Rattle.dev_store.specs.States.{kept_state}
use Rattle.dev_store.specs.Reading.{table_within}
use Rattle.dev_store.proofs.ToldStore.{state-kept}
use Rattle.dev_store.proofs.store.Store.state.Goals as goal

pub returns-clause-state : goal.returns-clause-state
returns-clause-state g c = let s = c.self.inside in state-kept s.layout s.state (table_within s.within) _ c.self.invariant.kept ∙ ap (λ h. kept_state h.device) c.self.view_is
