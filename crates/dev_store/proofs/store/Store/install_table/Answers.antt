use Rattle.std.proofs.Common.{◌≡◌, ◌∙◌, ap, sym, subst, refl, Some, None, false}
use Rattle.std.specs.Prelude.{◌==◌}
use Rattle.dev_disk.specs.Disks.{open_bytes, OpenKept}
use Rattle.fb_frame.specs.Causes.{Rose}
use Rattle.super_meta.specs.Contents.{content}
use Rattle.super_meta.specs.Held.{tables_of_image}
use Rattle.dev_store.specs.declared.table_install.Keeps.{Keeps}
use Rattle.dev_store.specs.declared.errors.StoreError.TheVariants.{BadTable, Disk}
use Rattle.dev_store.specs.Changes.{install_flaw, installed}
use Rattle.dev_store.specs.Held.{device_held, seen, IsWhole}
use Rattle.dev_store.specs.Reading.{IsStored, held_by, table_within}
use Rattle.dev_store.specs.StoreCalls.{StandsAround, KeepsUsedUnits, IsTableWritten}
use Rattle.dev_store.proofs.CallStores.{next-sound, next-fits}
use Rattle.dev_store.proofs.CallPut.{IsPut, IsUnput, opened-in, bounds-in, end-in, put-stored, put-whole, put-seen, put-written, fail-stored, fail-around}
use Rattle.dev_store.proofs.CallDelete.{no-flaw-ok, no-flaw-err}
use Rattle.dev_store.proofs.InstallCall.{bad-without, without-super, flaw-decided, refusal-is, install-never, install-one, install-few, install-grouped, install-short, install-refused, install-fine, install-has-space, install-ready, install-used}
use Rattle.dev_store.proofs.MakingLemmas.{OpenKept-self}
use Rattle.dev_store.proofs.store.Store.install_table.Goals as goal

pub returns-in_default-clause-decided : goal.returns-in_default-clause-decided
returns-in_default-clause-decided g c =
    let s = c.self.inside in
    let none : s.layout.super_part ≡ None = sym c.super_part.ensures ∙ c.in_default.is in
    flaw-decided (Unit {0}) g.K.Disk.told _ c.args.self.now _ BadTable
    (ap (λ h. install_flaw (tables_of_image c.args.file.now) c.args.wipe h.device) (sym c.self.view_is)
    ∙ bad-without (tables_of_image c.args.file.now) c.args.wipe _ (without-super s.layout s.state (table_within s.within) (open_bytes (g.K.Disk.told s.disk)) none))

pub plan_install-requires-clause-bounded : goal.plan_install-requires-clause-bounded
plan_install-requires-clause-bounded g c =
    let s = c.self.inside in
    let told = g.K.Disk.told in
    let file = c.args.file.now in
    let wipe = c.args.wipe in
    let sp = c.in-Some.s in
    let w = c.in-Some-within.within in
    let part : s.layout.super_part ≡ Some sp = sym c.super_part.ensures ∙ c.in-Some.is in
    let usable = ap (λ h. h.broken) c.self.view_is ∙ c.requires.usable in
    let store = opened-in told s.disk s.layout s.state s.within w s.buffer.items s.broken c.in-Some-within.is usable c.self.invariant in
    bounds-in told s.disk s.layout sp s.state w s.buffer.items part store

pub plan_install-requires-clause-one : goal.plan_install-requires-clause-one
plan_install-requires-clause-one g c =
    let s = c.self.inside in
    let told = g.K.Disk.told in
    let file = c.args.file.now in
    let wipe = c.args.wipe in
    let sp = c.in-Some.s in
    let w = c.in-Some-within.within in
    let part : s.layout.super_part ≡ Some sp = sym c.super_part.ensures ∙ c.in-Some.is in
    let usable = ap (λ h. h.broken) c.self.view_is ∙ c.requires.usable in
    let store = opened-in told s.disk s.layout s.state s.within w s.buffer.items s.broken c.in-Some-within.is usable c.self.invariant in
    let keeps : Keeps = record { wipe = wipe; slots = c.slots.result == 2; active = s.state.active } in
    let are : keeps ≡ record { wipe = wipe; slots = s.layout.slots == 2; active = s.state.active } = λ j. record { wipe = wipe; slots = c.slots.ensures j == 2; active = s.state.active } in
    install-one told s.disk s.layout sp s.state w s.buffer.items file wipe part store c.physical.result.now c.physical.ensures keeps are

pub plan_install-requires-clause-few : goal.plan_install-requires-clause-few
plan_install-requires-clause-few g c =
    let s = c.self.inside in
    let told = g.K.Disk.told in
    let file = c.args.file.now in
    let wipe = c.args.wipe in
    let sp = c.in-Some.s in
    let w = c.in-Some-within.within in
    let part : s.layout.super_part ≡ Some sp = sym c.super_part.ensures ∙ c.in-Some.is in
    let usable = ap (λ h. h.broken) c.self.view_is ∙ c.requires.usable in
    let store = opened-in told s.disk s.layout s.state s.within w s.buffer.items s.broken c.in-Some-within.is usable c.self.invariant in
    let keeps : Keeps = record { wipe = wipe; slots = c.slots.result == 2; active = s.state.active } in
    let are : keeps ≡ record { wipe = wipe; slots = s.layout.slots == 2; active = s.state.active } = λ j. record { wipe = wipe; slots = c.slots.ensures j == 2; active = s.state.active } in
    install-few told s.disk s.layout sp s.state w s.buffer.items file wipe part store c.physical.result.now c.physical.ensures keeps are

pub plan_install-requires-clause-grouped : goal.plan_install-requires-clause-grouped
plan_install-requires-clause-grouped g c =
    let s = c.self.inside in
    let told = g.K.Disk.told in
    let file = c.args.file.now in
    let wipe = c.args.wipe in
    let sp = c.in-Some.s in
    let w = c.in-Some-within.within in
    let part : s.layout.super_part ≡ Some sp = sym c.super_part.ensures ∙ c.in-Some.is in
    let usable = ap (λ h. h.broken) c.self.view_is ∙ c.requires.usable in
    let store = opened-in told s.disk s.layout s.state s.within w s.buffer.items s.broken c.in-Some-within.is usable c.self.invariant in
    let keeps : Keeps = record { wipe = wipe; slots = c.slots.result == 2; active = s.state.active } in
    let are : keeps ≡ record { wipe = wipe; slots = s.layout.slots == 2; active = s.state.active } = λ j. record { wipe = wipe; slots = c.slots.ensures j == 2; active = s.state.active } in
    install-grouped told s.disk s.layout sp s.state w s.buffer.items file wipe part store c.physical.result.now c.physical.ensures keeps are

pub plan_install-requires-clause-short : goal.plan_install-requires-clause-short
plan_install-requires-clause-short g c =
    let s = c.self.inside in
    let told = g.K.Disk.told in
    let file = c.args.file.now in
    let wipe = c.args.wipe in
    let sp = c.in-Some.s in
    let w = c.in-Some-within.within in
    let part : s.layout.super_part ≡ Some sp = sym c.super_part.ensures ∙ c.in-Some.is in
    let usable = ap (λ h. h.broken) c.self.view_is ∙ c.requires.usable in
    let store = opened-in told s.disk s.layout s.state s.within w s.buffer.items s.broken c.in-Some-within.is usable c.self.invariant in
    let keeps : Keeps = record { wipe = wipe; slots = c.slots.result == 2; active = s.state.active } in
    let are : keeps ≡ record { wipe = wipe; slots = s.layout.slots == 2; active = s.state.active } = λ j. record { wipe = wipe; slots = c.slots.ensures j == 2; active = s.state.active } in
    install-short told s.disk s.layout sp s.state w s.buffer.items file wipe part store c.physical.result.now c.physical.ensures keeps are

pub plan_install-requires-clause-space : goal.plan_install-requires-clause-space
plan_install-requires-clause-space g c =
    let s = c.self.inside in
    let told = g.K.Disk.told in
    let file = c.args.file.now in
    let wipe = c.args.wipe in
    let sp = c.in-Some.s in
    let w = c.in-Some-within.within in
    let part : s.layout.super_part ≡ Some sp = sym c.super_part.ensures ∙ c.in-Some.is in
    let usable = ap (λ h. h.broken) c.self.view_is ∙ c.requires.usable in
    let store = opened-in told s.disk s.layout s.state s.within w s.buffer.items s.broken c.in-Some-within.is usable c.self.invariant in
    let keeps : Keeps = record { wipe = wipe; slots = c.slots.result == 2; active = s.state.active } in
    let are : keeps ≡ record { wipe = wipe; slots = s.layout.slots == 2; active = s.state.active } = λ j. record { wipe = wipe; slots = c.slots.ensures j == 2; active = s.state.active } in
    λ room t. install-has-space told s.disk s.layout sp s.state w s.buffer.items file wipe part store c.physical.result.now c.physical.ensures keeps are room t

pub returns-in-Err-clause-decided : goal.returns-in-Err-clause-decided
returns-in-Err-clause-decided g c =
    let s = c.self.inside in
    let told = g.K.Disk.told in
    let file = c.args.file.now in
    let wipe = c.args.wipe in
    let sp = c.in-Some.s in
    let w = c.in-Some-within.within in
    let part : s.layout.super_part ≡ Some sp = sym c.super_part.ensures ∙ c.in-Some.is in
    let usable = ap (λ h. h.broken) c.self.view_is ∙ c.requires.usable in
    let store = opened-in told s.disk s.layout s.state s.within w s.buffer.items s.broken c.in-Some-within.is usable c.self.invariant in
    let keeps : Keeps = record { wipe = wipe; slots = c.slots.result == 2; active = s.state.active } in
    let are : keeps ≡ record { wipe = wipe; slots = s.layout.slots == 2; active = s.state.active } = λ j. record { wipe = wipe; slots = c.slots.ensures j == 2; active = s.state.active } in
    let view = (λ j. held_by told s.disk s.layout s.state (sym c.in-Some-within.is j) (sym usable j)) ∙ c.self.view_is in
    flaw-decided (Unit {0}) told _ c.args.self.now _ c.in-Err.refusal
    (ap (λ h. install_flaw (tables_of_image file) wipe h.device) (sym view) ∙ install-refused told s.disk s.layout sp s.state w s.buffer.items file wipe part store c.physical.result.now c.physical.ensures keeps are c.in-Err.refusal (c.in-Err.ensures.refused c.in-Err.refusal refl))

pub returns-in-Err-clause-around : goal.returns-in-Err-clause-around
returns-in-Err-clause-around g c =
    let s = c.self.inside in
    let told = g.K.Disk.told in
    let file = c.args.file.now in
    let wipe = c.args.wipe in
    let sp = c.in-Some.s in
    let w = c.in-Some-within.within in
    let part : s.layout.super_part ≡ Some sp = sym c.super_part.ensures ∙ c.in-Some.is in
    let usable = ap (λ h. h.broken) c.self.view_is ∙ c.requires.usable in
    let store = opened-in told s.disk s.layout s.state s.within w s.buffer.items s.broken c.in-Some-within.is usable c.self.invariant in
    let keeps : Keeps = record { wipe = wipe; slots = c.slots.result == 2; active = s.state.active } in
    let are : keeps ≡ record { wipe = wipe; slots = s.layout.slots == 2; active = s.state.active } = λ j. record { wipe = wipe; slots = c.slots.ensures j == 2; active = s.state.active } in
    λ e honest. absurd
    (install-never (tables_of_image file) wipe (device_held s.layout s.state (Some (content w.table)) (open_bytes (told s.disk)))
    (install-refused told s.disk s.layout sp s.state w s.buffer.items file wipe part store c.physical.result.now c.physical.ensures keeps are c.in-Err.refusal (c.in-Err.ensures.refused c.in-Err.refusal refl) ∙ ap Some (refusal-is c.in-Err.refusal Disk e)))

pub returns-in-Err-clause-kept : goal.returns-in-Err-clause-kept
returns-in-Err-clause-kept g c =
    let told = g.K.Disk.told in
    let e = ap (λ h. h.disk) c.self.view_is in
    record {
      same = ap g.K.Disk.lent e;
      kept = subst (λ d. OpenKept (told d) (told c.self.inside.disk)) e (OpenKept-self (told c.self.inside.disk));
    }

pub put_next-requires-clause-bounded : goal.put_next-requires-clause-bounded
put_next-requires-clause-bounded g c =
    let s = c.self.inside in
    let told = g.K.Disk.told in
    let file = c.args.file.now in
    let wipe = c.args.wipe in
    let sp = c.in-Some.s in
    let w = c.in-Some-within.within in
    let part : s.layout.super_part ≡ Some sp = sym c.super_part.ensures ∙ c.in-Some.is in
    let usable = ap (λ h. h.broken) c.self.view_is ∙ c.requires.usable in
    let store = opened-in told s.disk s.layout s.state s.within w s.buffer.items s.broken c.in-Some-within.is usable c.self.invariant in
    bounds-in told s.disk s.layout sp s.state w s.buffer.items part store

pub put_next-requires-clause-end : goal.put_next-requires-clause-end
put_next-requires-clause-end g c =
    let s = c.self.inside in
    let told = g.K.Disk.told in
    let file = c.args.file.now in
    let wipe = c.args.wipe in
    let sp = c.in-Some.s in
    let w = c.in-Some-within.within in
    let part : s.layout.super_part ≡ Some sp = sym c.super_part.ensures ∙ c.in-Some.is in
    let usable = ap (λ h. h.broken) c.self.view_is ∙ c.requires.usable in
    let store = opened-in told s.disk s.layout s.state s.within w s.buffer.items s.broken c.in-Some-within.is usable c.self.invariant in
    end-in s.layout sp c.parts_end-at.result (bounds-in told s.disk s.layout sp s.state w s.buffer.items part store) c.parts_end-at.ensures.bounded

pub put_next-requires-clause-sound : goal.put_next-requires-clause-sound
put_next-requires-clause-sound g c =
    let s = c.self.inside in
    let told = g.K.Disk.told in
    let file = c.args.file.now in
    let wipe = c.args.wipe in
    let sp = c.in-Some.s in
    let w = c.in-Some-within.within in
    let part : s.layout.super_part ≡ Some sp = sym c.super_part.ensures ∙ c.in-Some.is in
    let usable = ap (λ h. h.broken) c.self.view_is ∙ c.requires.usable in
    let store = opened-in told s.disk s.layout s.state s.within w s.buffer.items s.broken c.in-Some-within.is usable c.self.invariant in
    let keeps : Keeps = record { wipe = wipe; slots = c.slots.result == 2; active = s.state.active } in
    let are : keeps ≡ record { wipe = wipe; slots = s.layout.slots == 2; active = s.state.active } = λ j. record { wipe = wipe; slots = c.slots.ensures j == 2; active = s.state.active } in
    let x = c.plan_install.new.self in
    let taken = c.in-Ok.ensures.taken in
    let planned = c.in-Ok.ensures.planned in
    let dev = installed (tables_of_image file) wipe (device_held s.layout s.state (Some (content w.table)) (open_bytes (told s.disk))) in
    let ready = install-ready told s.disk s.layout sp s.state w s.buffer.items file wipe part store c.physical.result.now c.physical.ensures keeps are x.room taken x planned in
    next-sound s.layout sp dev x (bounds-in told s.disk s.layout sp s.state w s.buffer.items part store) ready.next

pub put_next-requires-clause-fits : goal.put_next-requires-clause-fits
put_next-requires-clause-fits g c =
    let s = c.self.inside in
    let told = g.K.Disk.told in
    let file = c.args.file.now in
    let wipe = c.args.wipe in
    let sp = c.in-Some.s in
    let w = c.in-Some-within.within in
    let part : s.layout.super_part ≡ Some sp = sym c.super_part.ensures ∙ c.in-Some.is in
    let usable = ap (λ h. h.broken) c.self.view_is ∙ c.requires.usable in
    let store = opened-in told s.disk s.layout s.state s.within w s.buffer.items s.broken c.in-Some-within.is usable c.self.invariant in
    let keeps : Keeps = record { wipe = wipe; slots = c.slots.result == 2; active = s.state.active } in
    let are : keeps ≡ record { wipe = wipe; slots = s.layout.slots == 2; active = s.state.active } = λ j. record { wipe = wipe; slots = c.slots.ensures j == 2; active = s.state.active } in
    let x = c.plan_install.new.self in
    let taken = c.in-Ok.ensures.taken in
    let planned = c.in-Ok.ensures.planned in
    let dev = installed (tables_of_image file) wipe (device_held s.layout s.state (Some (content w.table)) (open_bytes (told s.disk))) in
    let ready = install-ready told s.disk s.layout sp s.state w s.buffer.items file wipe part store c.physical.result.now c.physical.ensures keeps are x.room taken x planned in
    next-fits s.layout sp dev x (bounds-in told s.disk s.layout sp s.state w s.buffer.items part store) ready.next

pub invariant_of-self-in-Ok-put_next : goal.invariant_of-self-in-Ok-put_next
invariant_of-self-in-Ok-put_next g c =
    let s = c.self.inside in
    let told = g.K.Disk.told in
    let file = c.args.file.now in
    let wipe = c.args.wipe in
    let sp = c.in-Some.s in
    let w = c.in-Some-within.within in
    let part : s.layout.super_part ≡ Some sp = sym c.super_part.ensures ∙ c.in-Some.is in
    let usable = ap (λ h. h.broken) c.self.view_is ∙ c.requires.usable in
    let store = opened-in told s.disk s.layout s.state s.within w s.buffer.items s.broken c.in-Some-within.is usable c.self.invariant in
    let keeps : Keeps = record { wipe = wipe; slots = c.slots.result == 2; active = s.state.active } in
    let are : keeps ≡ record { wipe = wipe; slots = s.layout.slots == 2; active = s.state.active } = λ j. record { wipe = wipe; slots = c.slots.ensures j == 2; active = s.state.active } in
    let x = c.plan_install.new.self in
    let taken = c.in-Ok.ensures.taken in
    let planned = c.in-Ok.ensures.planned in
    let dev = installed (tables_of_image file) wipe (device_held s.layout s.state (Some (content w.table)) (open_bytes (told s.disk))) in
    let ready = install-ready told s.disk s.layout sp s.state w s.buffer.items file wipe part store c.physical.result.now c.physical.ensures keeps are x.room taken x planned in
    let y = c.put_next.new.within in
    let at = c.parts_end-at.result in
    let new = c.put_next.new.disk in
    let put : IsPut told s.disk new sp at x y = record {
      written = c.in-Ok-put_next.ensures.written;
      put = c.in-Ok-put_next.ensures.put;
      spelled = c.in-Ok-put_next.ensures.spelled;
      rooms = c.put_next.ensures.rooms planned.rooms;
      owners = c.put_next.ensures.owners;
      parts = c.put_next.ensures.parts;
      kept = c.put_next.ensures.kept;
    } in
    subst (λ b. IsStored told (held_by told new s.layout s.state (Some y) b) s.layout s.state (Some y) s.buffer.items) (sym usable)
    (put-stored told s.disk new s.layout sp at s.state w s.buffer.items dev x y ready c.parts_end-at.ensures.end put)

pub invariant_of-self-in_default-put_next : goal.invariant_of-self-in_default-put_next
invariant_of-self-in_default-put_next g c =
    let s = c.self.inside in
    let told = g.K.Disk.told in
    let file = c.args.file.now in
    let wipe = c.args.wipe in
    let sp = c.in-Some.s in
    let w = c.in-Some-within.within in
    let part : s.layout.super_part ≡ Some sp = sym c.super_part.ensures ∙ c.in-Some.is in
    let usable = ap (λ h. h.broken) c.self.view_is ∙ c.requires.usable in
    let store = opened-in told s.disk s.layout s.state s.within w s.buffer.items s.broken c.in-Some-within.is usable c.self.invariant in
    let keeps : Keeps = record { wipe = wipe; slots = c.slots.result == 2; active = s.state.active } in
    let are : keeps ≡ record { wipe = wipe; slots = s.layout.slots == 2; active = s.state.active } = λ j. record { wipe = wipe; slots = c.slots.ensures j == 2; active = s.state.active } in
    let x = c.plan_install.new.self in
    let taken = c.in-Ok.ensures.taken in
    let planned = c.in-Ok.ensures.planned in
    let dev = installed (tables_of_image file) wipe (device_held s.layout s.state (Some (content w.table)) (open_bytes (told s.disk))) in
    let ready = install-ready told s.disk s.layout sp s.state w s.buffer.items file wipe part store c.physical.result.now c.physical.ensures keeps are x.room taken x planned in
    let y = c.put_next.new.within in
    let at = c.parts_end-at.result in
    let new = c.put_next.new.disk in
    let unput : IsUnput told s.disk new sp at x y = record {
      around = c.in_default-put_next.ensures.around;
      says = c.put_next.ensures.says;
      stays = c.in_default-put_next.ensures.stays;
      kept = c.put_next.ensures.kept;
    } in
    fail-stored told s.disk new s.layout sp at s.state w s.buffer.items dev x y ready c.parts_end-at.ensures.end unput

pub returns-in_default-put_next-clause-decided : goal.returns-in_default-put_next-clause-decided
returns-in_default-put_next-clause-decided g c =
    let s = c.self.inside in
    let told = g.K.Disk.told in
    let file = c.args.file.now in
    let wipe = c.args.wipe in
    let sp = c.in-Some.s in
    let w = c.in-Some-within.within in
    let part : s.layout.super_part ≡ Some sp = sym c.super_part.ensures ∙ c.in-Some.is in
    let usable = ap (λ h. h.broken) c.self.view_is ∙ c.requires.usable in
    let store = opened-in told s.disk s.layout s.state s.within w s.buffer.items s.broken c.in-Some-within.is usable c.self.invariant in
    let keeps : Keeps = record { wipe = wipe; slots = c.slots.result == 2; active = s.state.active } in
    let are : keeps ≡ record { wipe = wipe; slots = s.layout.slots == 2; active = s.state.active } = λ j. record { wipe = wipe; slots = c.slots.ensures j == 2; active = s.state.active } in
    let view = (λ j. held_by told s.disk s.layout s.state (sym c.in-Some-within.is j) (sym usable j)) ∙ c.self.view_is in
    no-flaw-err (Unit {0}) told _ c.args.self.now _
    (ap (λ h. install_flaw (tables_of_image file) wipe h.device) (sym view) ∙ install-fine told s.disk s.layout sp s.state w s.buffer.items file wipe part store c.physical.result.now c.physical.ensures keeps are c.plan_install.new.self.room c.in-Ok.ensures.taken)
    (subst (λ h. Rose (told h.disk).faults (told c.put_next.new.disk).faults) view c.in_default-put_next.ensures.cause)

pub returns-in_default-put_next-clause-around : goal.returns-in_default-put_next-clause-around
returns-in_default-put_next-clause-around g c =
    let s = c.self.inside in
    let told = g.K.Disk.told in
    let file = c.args.file.now in
    let wipe = c.args.wipe in
    let sp = c.in-Some.s in
    let w = c.in-Some-within.within in
    let part : s.layout.super_part ≡ Some sp = sym c.super_part.ensures ∙ c.in-Some.is in
    let usable = ap (λ h. h.broken) c.self.view_is ∙ c.requires.usable in
    let store = opened-in told s.disk s.layout s.state s.within w s.buffer.items s.broken c.in-Some-within.is usable c.self.invariant in
    let keeps : Keeps = record { wipe = wipe; slots = c.slots.result == 2; active = s.state.active } in
    let are : keeps ≡ record { wipe = wipe; slots = s.layout.slots == 2; active = s.state.active } = λ j. record { wipe = wipe; slots = c.slots.ensures j == 2; active = s.state.active } in
    let x = c.plan_install.new.self in
    let taken = c.in-Ok.ensures.taken in
    let planned = c.in-Ok.ensures.planned in
    let dev = installed (tables_of_image file) wipe (device_held s.layout s.state (Some (content w.table)) (open_bytes (told s.disk))) in
    let ready = install-ready told s.disk s.layout sp s.state w s.buffer.items file wipe part store c.physical.result.now c.physical.ensures keeps are x.room taken x planned in
    let y = c.put_next.new.within in
    let at = c.parts_end-at.result in
    let new = c.put_next.new.disk in
    let unput : IsUnput told s.disk new sp at x y = record {
      around = c.in_default-put_next.ensures.around;
      says = c.put_next.ensures.says;
      stays = c.in_default-put_next.ensures.stays;
      kept = c.put_next.ensures.kept;
    } in
    let view = (λ j. held_by told s.disk s.layout s.state (sym c.in-Some-within.is j) (sym usable j)) ∙ c.self.view_is in
    λ e honest. subst (λ h. StandsAround (open_bytes (told new)) h.device (installed (tables_of_image file) wipe h.device)) view
    (fail-around told s.disk new s.layout sp at s.state w s.buffer.items dev x y ready c.parts_end-at.ensures.end unput honest)

pub returns-clause-decided : goal.returns-clause-decided
returns-clause-decided g c =
    let s = c.self.inside in
    let told = g.K.Disk.told in
    let file = c.args.file.now in
    let wipe = c.args.wipe in
    let sp = c.in-Some.s in
    let w = c.in-Some-within.within in
    let part : s.layout.super_part ≡ Some sp = sym c.super_part.ensures ∙ c.in-Some.is in
    let usable = ap (λ h. h.broken) c.self.view_is ∙ c.requires.usable in
    let store = opened-in told s.disk s.layout s.state s.within w s.buffer.items s.broken c.in-Some-within.is usable c.self.invariant in
    let keeps : Keeps = record { wipe = wipe; slots = c.slots.result == 2; active = s.state.active } in
    let are : keeps ≡ record { wipe = wipe; slots = s.layout.slots == 2; active = s.state.active } = λ j. record { wipe = wipe; slots = c.slots.ensures j == 2; active = s.state.active } in
    let view = (λ j. held_by told s.disk s.layout s.state (sym c.in-Some-within.is j) (sym usable j)) ∙ c.self.view_is in
    no-flaw-ok told _ c.args.self.now _ tt
    (ap (λ h. install_flaw (tables_of_image file) wipe h.device) (sym view) ∙ install-fine told s.disk s.layout sp s.state w s.buffer.items file wipe part store c.physical.result.now c.physical.ensures keeps are c.plan_install.new.self.room c.in-Ok.ensures.taken)

pub returns-clause-changed : goal.returns-clause-changed
returns-clause-changed g c =
    let s = c.self.inside in
    let told = g.K.Disk.told in
    let file = c.args.file.now in
    let wipe = c.args.wipe in
    let sp = c.in-Some.s in
    let w = c.in-Some-within.within in
    let part : s.layout.super_part ≡ Some sp = sym c.super_part.ensures ∙ c.in-Some.is in
    let usable = ap (λ h. h.broken) c.self.view_is ∙ c.requires.usable in
    let store = opened-in told s.disk s.layout s.state s.within w s.buffer.items s.broken c.in-Some-within.is usable c.self.invariant in
    let keeps : Keeps = record { wipe = wipe; slots = c.slots.result == 2; active = s.state.active } in
    let are : keeps ≡ record { wipe = wipe; slots = s.layout.slots == 2; active = s.state.active } = λ j. record { wipe = wipe; slots = c.slots.ensures j == 2; active = s.state.active } in
    let x = c.plan_install.new.self in
    let taken = c.in-Ok.ensures.taken in
    let planned = c.in-Ok.ensures.planned in
    let dev = installed (tables_of_image file) wipe (device_held s.layout s.state (Some (content w.table)) (open_bytes (told s.disk))) in
    let ready = install-ready told s.disk s.layout sp s.state w s.buffer.items file wipe part store c.physical.result.now c.physical.ensures keeps are x.room taken x planned in
    let y = c.put_next.new.within in
    let at = c.parts_end-at.result in
    let new = c.put_next.new.disk in
    let put : IsPut told s.disk new sp at x y = record {
      written = c.in-Ok-put_next.ensures.written;
      put = c.in-Ok-put_next.ensures.put;
      spelled = c.in-Ok-put_next.ensures.spelled;
      rooms = c.put_next.ensures.rooms planned.rooms;
      owners = c.put_next.ensures.owners;
      parts = c.put_next.ensures.parts;
      kept = c.put_next.ensures.kept;
    } in
    let view = (λ j. held_by told s.disk s.layout s.state (sym c.in-Some-within.is j) (sym usable j)) ∙ c.self.view_is in
    put-seen told s.disk new s.layout sp at s.state w s.buffer.items dev x y ready c.parts_end-at.ensures.end put
    ∙ ap (λ h. seen (open_bytes (told new)) (installed (tables_of_image file) wipe h.device)) view

pub returns-clause-handed : goal.returns-clause-handed
returns-clause-handed g c =
    let s = c.self.inside in
    let told = g.K.Disk.told in
    let file = c.args.file.now in
    let wipe = c.args.wipe in
    let sp = c.in-Some.s in
    let w = c.in-Some-within.within in
    let part : s.layout.super_part ≡ Some sp = sym c.super_part.ensures ∙ c.in-Some.is in
    let usable = ap (λ h. h.broken) c.self.view_is ∙ c.requires.usable in
    let store = opened-in told s.disk s.layout s.state s.within w s.buffer.items s.broken c.in-Some-within.is usable c.self.invariant in
    let keeps : Keeps = record { wipe = wipe; slots = c.slots.result == 2; active = s.state.active } in
    let are : keeps ≡ record { wipe = wipe; slots = s.layout.slots == 2; active = s.state.active } = λ j. record { wipe = wipe; slots = c.slots.ensures j == 2; active = s.state.active } in
    let x = c.plan_install.new.self in
    let taken = c.in-Ok.ensures.taken in
    let planned = c.in-Ok.ensures.planned in
    let dev = installed (tables_of_image file) wipe (device_held s.layout s.state (Some (content w.table)) (open_bytes (told s.disk))) in
    let ready = install-ready told s.disk s.layout sp s.state w s.buffer.items file wipe part store c.physical.result.now c.physical.ensures keeps are x.room taken x planned in
    let y = c.put_next.new.within in
    let at = c.parts_end-at.result in
    let new = c.put_next.new.disk in
    let put : IsPut told s.disk new sp at x y = record {
      written = c.in-Ok-put_next.ensures.written;
      put = c.in-Ok-put_next.ensures.put;
      spelled = c.in-Ok-put_next.ensures.spelled;
      rooms = c.put_next.ensures.rooms planned.rooms;
      owners = c.put_next.ensures.owners;
      parts = c.put_next.ensures.parts;
      kept = c.put_next.ensures.kept;
    } in
    let view = (λ j. held_by told s.disk s.layout s.state (sym c.in-Some-within.is j) (sym usable j)) ∙ c.self.view_is in
    subst (λ h. KeepsUsedUnits h (held_by told new s.layout s.state (Some y) s.broken)) view
    (subst (λ b. KeepsUsedUnits (held_by told s.disk s.layout s.state (Some w) false) (held_by told new s.layout s.state (Some y) b)) (sym usable)
    (install-used told s.disk s.layout sp s.state w s.buffer.items file wipe part store c.physical.result.now c.physical.ensures keeps are x.room taken x planned new at y c.parts_end-at.ensures.end put))

pub returns-clause-table : goal.returns-clause-table
returns-clause-table g c =
    let s = c.self.inside in
    let told = g.K.Disk.told in
    let file = c.args.file.now in
    let wipe = c.args.wipe in
    let sp = c.in-Some.s in
    let w = c.in-Some-within.within in
    let part : s.layout.super_part ≡ Some sp = sym c.super_part.ensures ∙ c.in-Some.is in
    let usable = ap (λ h. h.broken) c.self.view_is ∙ c.requires.usable in
    let store = opened-in told s.disk s.layout s.state s.within w s.buffer.items s.broken c.in-Some-within.is usable c.self.invariant in
    let keeps : Keeps = record { wipe = wipe; slots = c.slots.result == 2; active = s.state.active } in
    let are : keeps ≡ record { wipe = wipe; slots = s.layout.slots == 2; active = s.state.active } = λ j. record { wipe = wipe; slots = c.slots.ensures j == 2; active = s.state.active } in
    let x = c.plan_install.new.self in
    let taken = c.in-Ok.ensures.taken in
    let planned = c.in-Ok.ensures.planned in
    let dev = installed (tables_of_image file) wipe (device_held s.layout s.state (Some (content w.table)) (open_bytes (told s.disk))) in
    let ready = install-ready told s.disk s.layout sp s.state w s.buffer.items file wipe part store c.physical.result.now c.physical.ensures keeps are x.room taken x planned in
    let y = c.put_next.new.within in
    let at = c.parts_end-at.result in
    let new = c.put_next.new.disk in
    let put : IsPut told s.disk new sp at x y = record {
      written = c.in-Ok-put_next.ensures.written;
      put = c.in-Ok-put_next.ensures.put;
      spelled = c.in-Ok-put_next.ensures.spelled;
      rooms = c.put_next.ensures.rooms planned.rooms;
      owners = c.put_next.ensures.owners;
      parts = c.put_next.ensures.parts;
      kept = c.put_next.ensures.kept;
    } in
    subst (λ b. IsTableWritten told (held_by told new s.layout s.state (Some y) b)) (sym usable)
    (put-written told s.disk new s.layout sp at s.state w s.buffer.items dev x y ready c.parts_end-at.ensures.end put)

pub returns-clause-whole : goal.returns-clause-whole
returns-clause-whole g c =
    let s = c.self.inside in
    let told = g.K.Disk.told in
    let file = c.args.file.now in
    let wipe = c.args.wipe in
    let sp = c.in-Some.s in
    let w = c.in-Some-within.within in
    let part : s.layout.super_part ≡ Some sp = sym c.super_part.ensures ∙ c.in-Some.is in
    let usable = ap (λ h. h.broken) c.self.view_is ∙ c.requires.usable in
    let store = opened-in told s.disk s.layout s.state s.within w s.buffer.items s.broken c.in-Some-within.is usable c.self.invariant in
    let keeps : Keeps = record { wipe = wipe; slots = c.slots.result == 2; active = s.state.active } in
    let are : keeps ≡ record { wipe = wipe; slots = s.layout.slots == 2; active = s.state.active } = λ j. record { wipe = wipe; slots = c.slots.ensures j == 2; active = s.state.active } in
    let x = c.plan_install.new.self in
    let taken = c.in-Ok.ensures.taken in
    let planned = c.in-Ok.ensures.planned in
    let dev = installed (tables_of_image file) wipe (device_held s.layout s.state (Some (content w.table)) (open_bytes (told s.disk))) in
    let ready = install-ready told s.disk s.layout sp s.state w s.buffer.items file wipe part store c.physical.result.now c.physical.ensures keeps are x.room taken x planned in
    let y = c.put_next.new.within in
    let at = c.parts_end-at.result in
    let new = c.put_next.new.disk in
    let put : IsPut told s.disk new sp at x y = record {
      written = c.in-Ok-put_next.ensures.written;
      put = c.in-Ok-put_next.ensures.put;
      spelled = c.in-Ok-put_next.ensures.spelled;
      rooms = c.put_next.ensures.rooms planned.rooms;
      owners = c.put_next.ensures.owners;
      parts = c.put_next.ensures.parts;
      kept = c.put_next.ensures.kept;
    } in
    subst (λ b. IsWhole told (held_by told new s.layout s.state (Some y) b)) (sym usable)
    (put-whole told s.disk new s.layout sp at s.state w s.buffer.items dev x y ready c.parts_end-at.ensures.end put)
