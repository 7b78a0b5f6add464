use Rattle.dev_store.proofs.StateRepairs.{withins}
use Rattle.dev_store.proofs.states_read.repair_states.Goals as goal

pub returns-clause-within : goal.returns-clause-within
returns-clause-within g c = withins _ _ _ c.mend_other.ensures.within c.mend_own.ensures.within
