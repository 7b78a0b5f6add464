use Rattle.std.proofs.Common.{◌≡◌, subst}
use Rattle.std.specs.Prelude.{OnOk, OnErr}
use Rattle.dev_store.specs.Faults.{IsHonest}
use Rattle.dev_store.specs.Held.{image_of}
use Rattle.dev_store.specs.StoreCalls.{StandsAround}
use Rattle.device_engine.proofs.StartLemmas.{state-stored, device-started, decided-rose, decided-so}
use Rattle.device_engine.proofs.starting.store_start.Goals as goal

pub set_state-requires-clause-fits : goal.set_state-requires-clause-fits
set_state-requires-clause-fits g c =
    state-stored c.args.store.now.device c.state-state.result c.args.userspace c.state-state.ensures.valid c.state-state.ensures.state

pub returns-clause-changed : goal.returns-clause-changed
returns-clause-changed g c =
    let dev = c.args.store.now.device in
    subst (λ d. OnOk c.set_state.result (c.set_state.new.self.device ≡ d))
    (device-started dev c.state-state.result c.args.userspace c.state-state.ensures.state) c.set_state.ensures.changed

pub returns-clause-rose : goal.returns-clause-rose
returns-clause-rose g c = decided-rose g.K.Disk.told c.args.store.now c.set_state.new.self c.set_state.result c.set_state.ensures.decided

pub returns-clause-around : goal.returns-clause-around
returns-clause-around g c =
    let told = g.K.Disk.told in
    let old = c.args.store.now in
    let new = c.set_state.new.self in
    subst (λ d. OnErr c.set_state.result (IsHonest (told new.disk).torn → StandsAround (image_of told new) old.device d))
    (device-started old.device c.state-state.result c.args.userspace c.state-state.ensures.state)
    (decided-so told old new c.set_state.result c.set_state.ensures.decided c.set_state.ensures.around)
