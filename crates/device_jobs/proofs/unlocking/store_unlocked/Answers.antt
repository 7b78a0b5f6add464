use Rattle.std.proofs.Common.{false, sym, subst}
use Rattle.std.specs.Prelude.{IsTrue}
use Rattle.dev_store.specs.States.{is_state}
use Rattle.dev_store.specs.declared.state.State.{State}
use Rattle.device_jobs.proofs.LockLemmas.{fits-unlocked}
use Rattle.device_jobs.proofs.unlocking.store_unlocked.Goals as goal

pub set_state-requires-clause-fits : goal.set_state-requires-clause-fits
set_state-requires-clause-fits g c =
    subst (λ (s : State). IsTrue (is_state c.args.store.now.device.slots (record s { locked = false }))) (sym c.state-state.ensures.state) (fits-unlocked c.args.store.now.device c.state-state.ensures.valid)
