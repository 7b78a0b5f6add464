use Rattle.std.proofs.Common.{◌∙◌, ap, sym, subst}
use Rattle.std.specs.Prelude.{IsTrue, IfSome}
use Rattle.fb_frame.specs.Told.{Both}
use Rattle.dev_disk.specs.Disks.{open_bytes, OpenKept}
use Rattle.dev_store.specs.States.{is_state, with_state}
use Rattle.dev_store.specs.Held.{device_held}
use Rattle.dev_store.specs.Reading.{AreStatesMended, IsStateAround, table_within}
use Rattle.dev_store.specs.StoreCalls.{StandsAround}
use Rattle.dev_store.proofs.StateWrites.{device-set, set-whole, set-stored, set-broken, set-around}
use Rattle.dev_store.proofs.store.Store.set_state.Goals as goal

pub write_states-requires-clause-fits : goal.write_states-requires-clause-fits
unfolding device_held
write_states-requires-clause-fits g c =
    subst (λ n. IsTrue (is_state n c.args.state.now)) (ap (λ h. h.device.slots) (sym c.self.view_is) ∙ sym c.slots-slots.ensures) c.requires.fits

pub invariant_of-self : goal.invariant_of-self
invariant_of-self g c =
    let s = c.self.inside in
    set-broken g.K.Disk.told s.disk c.write_states.new.disk s.layout s.state s.within s.buffer.items s.broken c.self.invariant c.write_states.ensures.within c.write_states.ensures.kept.length

pub returns-in_default-clause-around : goal.returns-in_default-clause-around
unfolding device_held
returns-in_default-clause-around g c = λ e honest.
    let s = c.self.inside in
    let told = g.K.Disk.told in
    let fits = subst (λ n. IsTrue (is_state n c.args.state.now)) (ap (λ h. h.device.slots) (sym c.self.view_is)) c.requires.fits in
    let left = subst (λ n. Both (IsStateAround n c.args.state.now) (open_bytes (told s.disk)) (open_bytes (told c.write_states.new.disk))) c.slots-slots.ensures (c.in_default.ensures.left honest) in
    subst (λ h. StandsAround (open_bytes (told c.write_states.new.disk)) h.device (with_state c.args.state.now h.device)) c.self.view_is
    (set-around told s.disk c.write_states.new.disk s.layout s.state c.args.state.now s.within s.buffer.items s.broken (ap (λ h. h.broken) c.self.view_is ∙ c.requires.usable)
    c.self.invariant fits c.write_states.ensures.within left)

pub returns-in_default-clause-kept : goal.returns-in_default-clause-kept
returns-in_default-clause-kept g c = record {
  same = c.write_states.ensures.same ∙ ap (λ h. g.K.Disk.lent h.disk) c.self.view_is;
  kept = subst (λ h. OpenKept (g.K.Disk.told h.disk) (g.K.Disk.told c.write_states.new.disk)) c.self.view_is c.write_states.ensures.kept;
}

pub invariant_of-self-2 : goal.invariant_of-self-2
unfolding device_held
invariant_of-self-2 g c =
    let s = c.self.inside in
    set-stored g.K.Disk.told s.disk c.write_states.new.disk s.layout s.state c.args.state.now s.within s.buffer.items s.broken (ap (λ h. h.broken) c.self.view_is ∙ c.requires.usable) c.self.invariant
    (record {
      fits = subst (λ n. IsTrue (is_state n c.args.state.now)) (ap (λ h. h.device.slots) (sym c.self.view_is)) c.requires.fits;
      within = c.write_states.ensures.within;
      mended = subst (λ n. IfSome (open_bytes (g.K.Disk.told c.write_states.new.disk)) (AreStatesMended n c.args.state.now)) c.slots-slots.ensures c.in-Ok.ensures.written;
      length = c.write_states.ensures.kept.length;
    })

pub returns-clause-changed : goal.returns-clause-changed
returns-clause-changed g c =
    let s = c.self.inside in
    let told = g.K.Disk.told in
    device-set s.layout s.state c.args.state.now (table_within s.within) (open_bytes (told s.disk)) (open_bytes (told c.write_states.new.disk)) c.write_states.ensures.within
    ∙ ap (λ h. with_state c.args.state.now h.device) c.self.view_is

pub returns-clause-whole : goal.returns-clause-whole
unfolding device_held
returns-clause-whole g c =
    let s = c.self.inside in
    set-whole g.K.Disk.told s.disk c.write_states.new.disk s.layout s.state c.args.state.now s.within s.buffer.items s.broken (ap (λ h. h.broken) c.self.view_is ∙ c.requires.usable) c.self.invariant
    (record {
      fits = subst (λ n. IsTrue (is_state n c.args.state.now)) (ap (λ h. h.device.slots) (sym c.self.view_is)) c.requires.fits;
      within = c.write_states.ensures.within;
      mended = subst (λ n. IfSome (open_bytes (g.K.Disk.told c.write_states.new.disk)) (AreStatesMended n c.args.state.now)) c.slots-slots.ensures c.in-Ok.ensures.written;
      length = c.write_states.ensures.kept.length;
    })
