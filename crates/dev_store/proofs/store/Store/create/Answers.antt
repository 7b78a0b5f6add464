use Rattle.std.proofs.Common.{◌∙◌, refl, ap, sym, subst, length, take, drop, ◌++◌, Some, Ok, false}
use Rattle.std.specs.Prelude.{◌||◌}
use Rattle.dev_disk.specs.Disks.{open_bytes}
use Rattle.fb_frame.specs.Causes.{Rose}
use Rattle.dev_model.specs.Images.{round_up}
use Rattle.dev_model.specs.Partitions.{is_partition, is_super}
use Rattle.dev_model.specs.Steps.{created}
use Rattle.super_meta.specs.Contents.{content}
use Rattle.dev_store.specs.declared.part_zero.NewBytes.{NewBytes}
use Rattle.dev_store.specs.declared.errors.StoreError.TheVariants.{Disk}
use Rattle.dev_store.specs.Changes.{create_flaw}
use Rattle.dev_store.specs.Held.{device_held, seen, IsWhole, DiskKept}
use Rattle.dev_store.specs.Reading.{IsStored, held_by}
use Rattle.dev_store.specs.StoreCalls.{StandsAround, IsAdded, IsTableWritten}
use Rattle.dev_store.proofs.CallDelete.{no-flaw-ok, no-flaw-err}
use Rattle.dev_store.proofs.CallPut.{bounds-in, end-in}
use Rattle.dev_store.proofs.CallStores.{next-sound, next-fits}
use Rattle.dev_store.proofs.CreateFlaws.{refused-flaw, not-disk, err-is}
use Rattle.dev_store.proofs.CreateCall.{taken-in, taken-flaw, taken-groups, taken-short, taken-few, taken-place, taken-next, taken-held, taken-growing, taken-handed}
use Rattle.dev_store.proofs.RegrowCall.{flaw-decided}
use Rattle.dev_store.proofs.RegrowStores.{grown-stored, grown-whole, grown-seen, grown-written, left-stored, left-around}
use Rattle.dev_store.proofs.RegrowZeros.{lent-long}
use Rattle.dev_store.proofs.store.Store.create.Goals as goal

pub returns-in-Err-clause-decided : goal.returns-in-Err-clause-decided
returns-in-Err-clause-decided g c =
    let s = c.self.inside in
    let told = g.K.Disk.told in
    let name = c.args.name.now in
    let size = c.args.size in
    let usable = ap (λ h. h.broken) c.self.view_is ∙ c.requires.usable in
    let free = ap (λ h. is_partition h.device name || is_super h.device name) c.self.view_is ∙ (sym c.is_taken.ensures.taken ∙ c.if-is_taken.false) in
    let flaw = refused-flaw s.layout s.state s.within (open_bytes (told s.disk)) name size c.in-Err.refusal c.self.invariant.kept (c.self.invariant.super usable) free (c.in-Err.ensures.refused c.in-Err.refusal name refl) in
    flaw-decided (Unit {0}) told _ c.in-Err.refusal c.args.self.now _ (ap (λ h. create_flaw h.device name size) (sym c.self.view_is) ∙ flaw)

pub returns-in-Err-clause-around : goal.returns-in-Err-clause-around
returns-in-Err-clause-around g c =
    λ e. absurd (not-disk c.self.inside.layout.super_part c.self.inside.within c.args.name.now c.args.size
    (c.in-Err.ensures.refused c.in-Err.refusal c.args.name.now refl ∙ ap Some (err-is c.in-Err.refusal Disk e)))

pub take_in-requires-clause-bounded : goal.take_in-requires-clause-bounded
take_in-requires-clause-bounded g c =
    let s = c.self.inside in
    let told = g.K.Disk.told in
    let name = c.args.name.now in
    let size = c.args.size in
    let sp = c.in-Ok.found.0 in
    let n = c.in-Ok.found.1 in
    let w = c.in-Some.within in
    let usable = ap (λ h. h.broken) c.self.view_is ∙ c.requires.usable in
    let free = ap (λ h. is_partition h.device name || is_super h.device name) c.self.view_is ∙ (sym c.is_taken.ensures.taken ∙ c.if-is_taken.false) in
    let t = taken-in told s.disk s.layout s.state s.within w s.buffer.items s.broken sp name size n c.is_taken.ensures.name c.in-Some.is usable c.self.invariant free c.in-Ok.ensures.part (c.in-Ok.ensures.taken name) c.in-Ok.ensures.new in
    bounds-in told s.disk s.layout sp s.state w s.buffer.items t.part t.store

pub take_in-requires-clause-groups : goal.take_in-requires-clause-groups
take_in-requires-clause-groups g c =
    let s = c.self.inside in
    let told = g.K.Disk.told in
    let name = c.args.name.now in
    let size = c.args.size in
    let sp = c.in-Ok.found.0 in
    let n = c.in-Ok.found.1 in
    let w = c.in-Some.within in
    let usable = ap (λ h. h.broken) c.self.view_is ∙ c.requires.usable in
    let free = ap (λ h. is_partition h.device name || is_super h.device name) c.self.view_is ∙ (sym c.is_taken.ensures.taken ∙ c.if-is_taken.false) in
    let t = taken-in told s.disk s.layout s.state s.within w s.buffer.items s.broken sp name size n c.is_taken.ensures.name c.in-Some.is usable c.self.invariant free c.in-Ok.ensures.part (c.in-Ok.ensures.taken name) c.in-Ok.ensures.new in
    taken-groups told s.disk s.layout sp s.state w s.buffer.items name size n t

pub take_in-requires-clause-short : goal.take_in-requires-clause-short
take_in-requires-clause-short g c =
    let s = c.self.inside in
    let told = g.K.Disk.told in
    let name = c.args.name.now in
    let size = c.args.size in
    let sp = c.in-Ok.found.0 in
    let n = c.in-Ok.found.1 in
    let w = c.in-Some.within in
    let usable = ap (λ h. h.broken) c.self.view_is ∙ c.requires.usable in
    let free = ap (λ h. is_partition h.device name || is_super h.device name) c.self.view_is ∙ (sym c.is_taken.ensures.taken ∙ c.if-is_taken.false) in
    let t = taken-in told s.disk s.layout s.state s.within w s.buffer.items s.broken sp name size n c.is_taken.ensures.name c.in-Some.is usable c.self.invariant free c.in-Ok.ensures.part (c.in-Ok.ensures.taken name) c.in-Ok.ensures.new in
    taken-short told s.disk s.layout sp s.state w s.buffer.items name size n t

pub take_in-requires-clause-few : goal.take_in-requires-clause-few
take_in-requires-clause-few g c =
    let s = c.self.inside in
    let told = g.K.Disk.told in
    let name = c.args.name.now in
    let size = c.args.size in
    let sp = c.in-Ok.found.0 in
    let n = c.in-Ok.found.1 in
    let w = c.in-Some.within in
    let usable = ap (λ h. h.broken) c.self.view_is ∙ c.requires.usable in
    let free = ap (λ h. is_partition h.device name || is_super h.device name) c.self.view_is ∙ (sym c.is_taken.ensures.taken ∙ c.if-is_taken.false) in
    let t = taken-in told s.disk s.layout s.state s.within w s.buffer.items s.broken sp name size n c.is_taken.ensures.name c.in-Some.is usable c.self.invariant free c.in-Ok.ensures.part (c.in-Ok.ensures.taken name) c.in-Ok.ensures.new in
    taken-few told s.disk s.layout sp s.state w s.buffer.items name size n t

pub take_in-requires-clause-fits : goal.take_in-requires-clause-fits
take_in-requires-clause-fits g c =
    let s = c.self.inside in
    let told = g.K.Disk.told in
    let name = c.args.name.now in
    let size = c.args.size in
    let sp = c.in-Ok.found.0 in
    let n = c.in-Ok.found.1 in
    let w = c.in-Some.within in
    let usable = ap (λ h. h.broken) c.self.view_is ∙ c.requires.usable in
    let free = ap (λ h. is_partition h.device name || is_super h.device name) c.self.view_is ∙ (sym c.is_taken.ensures.taken ∙ c.if-is_taken.false) in
    let t = taken-in told s.disk s.layout s.state s.within w s.buffer.items s.broken sp name size n c.is_taken.ensures.name c.in-Some.is usable c.self.invariant free c.in-Ok.ensures.part (c.in-Ok.ensures.taken name) c.in-Ok.ensures.new in
    taken-place told s.disk s.layout sp s.state w s.buffer.items name size n t

pub put_grown-requires-clause-bounded : goal.put_grown-requires-clause-bounded
put_grown-requires-clause-bounded g c =
    let s = c.self.inside in
    let told = g.K.Disk.told in
    let name = c.args.name.now in
    let size = c.args.size in
    let sp = c.in-Ok.found.0 in
    let n = c.in-Ok.found.1 in
    let w = c.in-Some.within in
    let usable = ap (λ h. h.broken) c.self.view_is ∙ c.requires.usable in
    let free = ap (λ h. is_partition h.device name || is_super h.device name) c.self.view_is ∙ (sym c.is_taken.ensures.taken ∙ c.if-is_taken.false) in
    let t = taken-in told s.disk s.layout s.state s.within w s.buffer.items s.broken sp name size n c.is_taken.ensures.name c.in-Some.is usable c.self.invariant free c.in-Ok.ensures.part (c.in-Ok.ensures.taken name) c.in-Ok.ensures.new in
    bounds-in told s.disk s.layout sp s.state w s.buffer.items t.part t.store

pub put_grown-requires-clause-end : goal.put_grown-requires-clause-end
put_grown-requires-clause-end g c =
    let s = c.self.inside in
    let told = g.K.Disk.told in
    let name = c.args.name.now in
    let size = c.args.size in
    let sp = c.in-Ok.found.0 in
    let n = c.in-Ok.found.1 in
    let w = c.in-Some.within in
    let usable = ap (λ h. h.broken) c.self.view_is ∙ c.requires.usable in
    let free = ap (λ h. is_partition h.device name || is_super h.device name) c.self.view_is ∙ (sym c.is_taken.ensures.taken ∙ c.if-is_taken.false) in
    let t = taken-in told s.disk s.layout s.state s.within w s.buffer.items s.broken sp name size n c.is_taken.ensures.name c.in-Some.is usable c.self.invariant free c.in-Ok.ensures.part (c.in-Ok.ensures.taken name) c.in-Ok.ensures.new in
    end-in s.layout sp c.parts_end-at.result (bounds-in told s.disk s.layout sp s.state w s.buffer.items t.part t.store) c.parts_end-at.ensures.bounded

pub put_grown-requires-clause-sound : goal.put_grown-requires-clause-sound
put_grown-requires-clause-sound g c =
    let s = c.self.inside in
    let told = g.K.Disk.told in
    let name = c.args.name.now in
    let size = c.args.size in
    let sp = c.in-Ok.found.0 in
    let n = c.in-Ok.found.1 in
    let w = c.in-Some.within in
    let usable = ap (λ h. h.broken) c.self.view_is ∙ c.requires.usable in
    let free = ap (λ h. is_partition h.device name || is_super h.device name) c.self.view_is ∙ (sym c.is_taken.ensures.taken ∙ c.if-is_taken.false) in
    let t = taken-in told s.disk s.layout s.state s.within w s.buffer.items s.broken sp name size n c.is_taken.ensures.name c.in-Some.is usable c.self.invariant free c.in-Ok.ensures.part (c.in-Ok.ensures.taken name) c.in-Ok.ensures.new in
    let x = c.take_in.new.self in
    let b : NewBytes = record { part = n.part; from = 0; to = n.bytes } in
    next-sound s.layout sp _ x (bounds-in told s.disk s.layout sp s.state w s.buffer.items t.part t.store)
    (taken-next told s.disk s.layout sp s.state w s.buffer.items name size n t x b c.take_in.ensures.planned c.take_in.ensures.parts refl refl refl)

pub put_grown-requires-clause-fits : goal.put_grown-requires-clause-fits
put_grown-requires-clause-fits g c =
    let s = c.self.inside in
    let told = g.K.Disk.told in
    let name = c.args.name.now in
    let size = c.args.size in
    let sp = c.in-Ok.found.0 in
    let n = c.in-Ok.found.1 in
    let w = c.in-Some.within in
    let usable = ap (λ h. h.broken) c.self.view_is ∙ c.requires.usable in
    let free = ap (λ h. is_partition h.device name || is_super h.device name) c.self.view_is ∙ (sym c.is_taken.ensures.taken ∙ c.if-is_taken.false) in
    let t = taken-in told s.disk s.layout s.state s.within w s.buffer.items s.broken sp name size n c.is_taken.ensures.name c.in-Some.is usable c.self.invariant free c.in-Ok.ensures.part (c.in-Ok.ensures.taken name) c.in-Ok.ensures.new in
    let x = c.take_in.new.self in
    let b : NewBytes = record { part = n.part; from = 0; to = n.bytes } in
    next-fits s.layout sp _ x (bounds-in told s.disk s.layout sp s.state w s.buffer.items t.part t.store)
    (taken-next told s.disk s.layout sp s.state w s.buffer.items name size n t x b c.take_in.ensures.planned c.take_in.ensures.parts refl refl refl)

pub put_grown-requires-clause-held : goal.put_grown-requires-clause-held
put_grown-requires-clause-held g c =
    let s = c.self.inside in
    let told = g.K.Disk.told in
    let name = c.args.name.now in
    let size = c.args.size in
    let sp = c.in-Ok.found.0 in
    let n = c.in-Ok.found.1 in
    let w = c.in-Some.within in
    let usable = ap (λ h. h.broken) c.self.view_is ∙ c.requires.usable in
    let free = ap (λ h. is_partition h.device name || is_super h.device name) c.self.view_is ∙ (sym c.is_taken.ensures.taken ∙ c.if-is_taken.false) in
    let t = taken-in told s.disk s.layout s.state s.within w s.buffer.items s.broken sp name size n c.is_taken.ensures.name c.in-Some.is usable c.self.invariant free c.in-Ok.ensures.part (c.in-Ok.ensures.taken name) c.in-Ok.ensures.new in
    let x = c.take_in.new.self in
    let b : NewBytes = record { part = n.part; from = 0; to = n.bytes } in
    taken-held told s.disk s.layout sp s.state w s.buffer.items name size n t x b c.take_in.ensures.planned c.take_in.ensures.parts refl refl refl

pub put_grown-requires-clause-room : goal.put_grown-requires-clause-room
put_grown-requires-clause-room g c =
    ap length c.deref_mut.ensures.value ∙ c.self.invariant.room

pub invariant_of-self : goal.invariant_of-self
invariant_of-self g c =
    let s = c.self.inside in
    let told = g.K.Disk.told in
    let name = c.args.name.now in
    let size = c.args.size in
    let sp = c.in-Ok.found.0 in
    let n = c.in-Ok.found.1 in
    let w = c.in-Some.within in
    let usable = ap (λ h. h.broken) c.self.view_is ∙ c.requires.usable in
    let free = ap (λ h. is_partition h.device name || is_super h.device name) c.self.view_is ∙ (sym c.is_taken.ensures.taken ∙ c.if-is_taken.false) in
    let t = taken-in told s.disk s.layout s.state s.within w s.buffer.items s.broken sp name size n c.is_taken.ensures.name c.in-Some.is usable c.self.invariant free c.in-Ok.ensures.part (c.in-Ok.ensures.taken name) c.in-Ok.ensures.new in
    let x = c.take_in.new.self in
    let b : NewBytes = record { part = n.part; from = 0; to = n.bytes } in
    let was = device_held s.layout s.state (Some (content w.table)) (open_bytes (told s.disk)) in
    let growing = taken-growing told s.disk s.layout sp s.state w s.buffer.items name size n t x b c.take_in.ensures.planned c.take_in.ensures.parts refl refl refl in
    let y = c.put_grown.new.within in
    let at = c.parts_end-at.result in
    let disk = c.put_grown.new.disk in
    let buffer = c.put_grown.new.buffer in
    let after = take s.buffer.len (buffer ++ drop (length buffer) s.buffer.items) in
    let room = lent-long s.buffer.len s.buffer.items buffer (sym c.deref_mut.ensures.len ∙ ap length c.deref_mut.ensures.value) (c.put_grown.auto.buffer ∙ ap length c.deref_mut.ensures.value) in
    subst (λ broken. IsStored told (held_by told disk s.layout s.state (Some y) broken) s.layout s.state (Some y) after) (sym usable)
    (grown-stored told s.disk disk s.layout sp at s.state w s.buffer.items after name (created name size was) x y b growing c.parts_end-at.ensures.end room c.in-Ok-put_grown.ensures.grown)

pub invariant_of-self-in_default-put_grown : goal.invariant_of-self-in_default-put_grown
invariant_of-self-in_default-put_grown g c =
    let s = c.self.inside in
    let told = g.K.Disk.told in
    let name = c.args.name.now in
    let size = c.args.size in
    let sp = c.in-Ok.found.0 in
    let n = c.in-Ok.found.1 in
    let w = c.in-Some.within in
    let usable = ap (λ h. h.broken) c.self.view_is ∙ c.requires.usable in
    let free = ap (λ h. is_partition h.device name || is_super h.device name) c.self.view_is ∙ (sym c.is_taken.ensures.taken ∙ c.if-is_taken.false) in
    let t = taken-in told s.disk s.layout s.state s.within w s.buffer.items s.broken sp name size n c.is_taken.ensures.name c.in-Some.is usable c.self.invariant free c.in-Ok.ensures.part (c.in-Ok.ensures.taken name) c.in-Ok.ensures.new in
    let x = c.take_in.new.self in
    let b : NewBytes = record { part = n.part; from = 0; to = n.bytes } in
    let was = device_held s.layout s.state (Some (content w.table)) (open_bytes (told s.disk)) in
    let growing = taken-growing told s.disk s.layout sp s.state w s.buffer.items name size n t x b c.take_in.ensures.planned c.take_in.ensures.parts refl refl refl in
    let y = c.put_grown.new.within in
    let at = c.parts_end-at.result in
    let disk = c.put_grown.new.disk in
    let buffer = c.put_grown.new.buffer in
    let after = take s.buffer.len (buffer ++ drop (length buffer) s.buffer.items) in
    let room = lent-long s.buffer.len s.buffer.items buffer (sym c.deref_mut.ensures.len ∙ ap length c.deref_mut.ensures.value) (c.put_grown.auto.buffer ∙ ap length c.deref_mut.ensures.value) in
    left-stored told s.disk disk s.layout sp at s.state w s.buffer.items after name (created name size was) x y b growing c.parts_end-at.ensures.end room c.in_default-put_grown.ensures.left

pub returns-in_default-put_grown-clause-decided : goal.returns-in_default-put_grown-clause-decided
returns-in_default-put_grown-clause-decided g c =
    let s = c.self.inside in
    let told = g.K.Disk.told in
    let name = c.args.name.now in
    let size = c.args.size in
    let sp = c.in-Ok.found.0 in
    let n = c.in-Ok.found.1 in
    let w = c.in-Some.within in
    let usable = ap (λ h. h.broken) c.self.view_is ∙ c.requires.usable in
    let free = ap (λ h. is_partition h.device name || is_super h.device name) c.self.view_is ∙ (sym c.is_taken.ensures.taken ∙ c.if-is_taken.false) in
    let t = taken-in told s.disk s.layout s.state s.within w s.buffer.items s.broken sp name size n c.is_taken.ensures.name c.in-Some.is usable c.self.invariant free c.in-Ok.ensures.part (c.in-Ok.ensures.taken name) c.in-Ok.ensures.new in
    let view = (λ j. held_by told s.disk s.layout s.state (sym c.in-Some.is j) (sym usable j)) ∙ c.self.view_is in
    no-flaw-err (Unit {0}) told _ c.args.self.now _ (ap (λ h. create_flaw h.device name size) (sym view) ∙ taken-flaw told s.disk s.layout sp s.state w s.buffer.items name size n t)
    (subst (λ h. Rose (told h.disk).faults (told c.put_grown.new.disk).faults) view c.in_default-put_grown.ensures.cause)

pub returns-in_default-put_grown-clause-around : goal.returns-in_default-put_grown-clause-around
returns-in_default-put_grown-clause-around g c =
    let s = c.self.inside in
    let told = g.K.Disk.told in
    let name = c.args.name.now in
    let size = c.args.size in
    let sp = c.in-Ok.found.0 in
    let n = c.in-Ok.found.1 in
    let w = c.in-Some.within in
    let usable = ap (λ h. h.broken) c.self.view_is ∙ c.requires.usable in
    let free = ap (λ h. is_partition h.device name || is_super h.device name) c.self.view_is ∙ (sym c.is_taken.ensures.taken ∙ c.if-is_taken.false) in
    let t = taken-in told s.disk s.layout s.state s.within w s.buffer.items s.broken sp name size n c.is_taken.ensures.name c.in-Some.is usable c.self.invariant free c.in-Ok.ensures.part (c.in-Ok.ensures.taken name) c.in-Ok.ensures.new in
    let view = (λ j. held_by told s.disk s.layout s.state (sym c.in-Some.is j) (sym usable j)) ∙ c.self.view_is in
    let x = c.take_in.new.self in
    let b : NewBytes = record { part = n.part; from = 0; to = n.bytes } in
    let was = device_held s.layout s.state (Some (content w.table)) (open_bytes (told s.disk)) in
    let growing = taken-growing told s.disk s.layout sp s.state w s.buffer.items name size n t x b c.take_in.ensures.planned c.take_in.ensures.parts refl refl refl in
    let y = c.put_grown.new.within in
    let at = c.parts_end-at.result in
    let disk = c.put_grown.new.disk in
    let buffer = c.put_grown.new.buffer in
    let after = take s.buffer.len (buffer ++ drop (length buffer) s.buffer.items) in
    let room = lent-long s.buffer.len s.buffer.items buffer (sym c.deref_mut.ensures.len ∙ ap length c.deref_mut.ensures.value) (c.put_grown.auto.buffer ∙ ap length c.deref_mut.ensures.value) in
    λ e honest. subst (λ h. StandsAround (open_bytes (told disk)) h.device (created name size h.device)) view
    (left-around told s.disk disk s.layout sp at s.state w s.buffer.items after name (created name size was) x y b growing c.parts_end-at.ensures.end room c.in_default-put_grown.ensures.left honest)

pub returns-clause-decided : goal.returns-clause-decided
returns-clause-decided g c =
    let s = c.self.inside in
    let told = g.K.Disk.told in
    let name = c.args.name.now in
    let size = c.args.size in
    let sp = c.in-Ok.found.0 in
    let n = c.in-Ok.found.1 in
    let w = c.in-Some.within in
    let usable = ap (λ h. h.broken) c.self.view_is ∙ c.requires.usable in
    let free = ap (λ h. is_partition h.device name || is_super h.device name) c.self.view_is ∙ (sym c.is_taken.ensures.taken ∙ c.if-is_taken.false) in
    let t = taken-in told s.disk s.layout s.state s.within w s.buffer.items s.broken sp name size n c.is_taken.ensures.name c.in-Some.is usable c.self.invariant free c.in-Ok.ensures.part (c.in-Ok.ensures.taken name) c.in-Ok.ensures.new in
    let view = (λ j. held_by told s.disk s.layout s.state (sym c.in-Some.is j) (sym usable j)) ∙ c.self.view_is in
    no-flaw-ok told _ c.args.self.now _ tt (ap (λ h. create_flaw h.device name size) (sym view) ∙ taken-flaw told s.disk s.layout sp s.state w s.buffer.items name size n t)

pub returns-clause-changed : goal.returns-clause-changed
returns-clause-changed g c =
    let s = c.self.inside in
    let told = g.K.Disk.told in
    let name = c.args.name.now in
    let size = c.args.size in
    let sp = c.in-Ok.found.0 in
    let n = c.in-Ok.found.1 in
    let w = c.in-Some.within in
    let usable = ap (λ h. h.broken) c.self.view_is ∙ c.requires.usable in
    let free = ap (λ h. is_partition h.device name || is_super h.device name) c.self.view_is ∙ (sym c.is_taken.ensures.taken ∙ c.if-is_taken.false) in
    let t = taken-in told s.disk s.layout s.state s.within w s.buffer.items s.broken sp name size n c.is_taken.ensures.name c.in-Some.is usable c.self.invariant free c.in-Ok.ensures.part (c.in-Ok.ensures.taken name) c.in-Ok.ensures.new in
    let view = (λ j. held_by told s.disk s.layout s.state (sym c.in-Some.is j) (sym usable j)) ∙ c.self.view_is in
    let x = c.take_in.new.self in
    let b : NewBytes = record { part = n.part; from = 0; to = n.bytes } in
    let was = device_held s.layout s.state (Some (content w.table)) (open_bytes (told s.disk)) in
    let growing = taken-growing told s.disk s.layout sp s.state w s.buffer.items name size n t x b c.take_in.ensures.planned c.take_in.ensures.parts refl refl refl in
    let y = c.put_grown.new.within in
    let at = c.parts_end-at.result in
    let disk = c.put_grown.new.disk in
    let buffer = c.put_grown.new.buffer in
    let after = take s.buffer.len (buffer ++ drop (length buffer) s.buffer.items) in
    let room = lent-long s.buffer.len s.buffer.items buffer (sym c.deref_mut.ensures.len ∙ ap length c.deref_mut.ensures.value) (c.put_grown.auto.buffer ∙ ap length c.deref_mut.ensures.value) in
    grown-seen told s.disk disk s.layout sp at s.state w s.buffer.items after name (created name size was) x y b growing c.parts_end-at.ensures.end room c.in-Ok-put_grown.ensures.grown
    ∙ ap (λ h. seen (open_bytes (told disk)) (created name size h.device)) view

pub returns-clause-handed : goal.returns-clause-handed
returns-clause-handed g c =
    let s = c.self.inside in
    let told = g.K.Disk.told in
    let name = c.args.name.now in
    let size = c.args.size in
    let sp = c.in-Ok.found.0 in
    let n = c.in-Ok.found.1 in
    let w = c.in-Some.within in
    let usable = ap (λ h. h.broken) c.self.view_is ∙ c.requires.usable in
    let free = ap (λ h. is_partition h.device name || is_super h.device name) c.self.view_is ∙ (sym c.is_taken.ensures.taken ∙ c.if-is_taken.false) in
    let t = taken-in told s.disk s.layout s.state s.within w s.buffer.items s.broken sp name size n c.is_taken.ensures.name c.in-Some.is usable c.self.invariant free c.in-Ok.ensures.part (c.in-Ok.ensures.taken name) c.in-Ok.ensures.new in
    let view = (λ j. held_by told s.disk s.layout s.state (sym c.in-Some.is j) (sym usable j)) ∙ c.self.view_is in
    let x = c.take_in.new.self in
    let b : NewBytes = record { part = n.part; from = 0; to = n.bytes } in
    let was = device_held s.layout s.state (Some (content w.table)) (open_bytes (told s.disk)) in
    let growing = taken-growing told s.disk s.layout sp s.state w s.buffer.items name size n t x b c.take_in.ensures.planned c.take_in.ensures.parts refl refl refl in
    let y = c.put_grown.new.within in
    let at = c.parts_end-at.result in
    let disk = c.put_grown.new.disk in
    let buffer = c.put_grown.new.buffer in
    let after = take s.buffer.len (buffer ++ drop (length buffer) s.buffer.items) in
    let room = lent-long s.buffer.len s.buffer.items buffer (sym c.deref_mut.ensures.len ∙ ap length c.deref_mut.ensures.value) (c.put_grown.auto.buffer ∙ ap length c.deref_mut.ensures.value) in
    let p = c.in-Ok-put_grown.ensures.grown in
    subst (λ h. IsAdded name (round_up size) h (held_by told disk s.layout s.state (Some y) s.broken)) view
    (subst (λ broken. IsAdded name (round_up size) (held_by told s.disk s.layout s.state (Some w) false) (held_by told disk s.layout s.state (Some y) broken)) (sym usable)
    (taken-handed told s.disk s.layout sp s.state w s.buffer.items name size n t x b c.take_in.ensures.planned c.take_in.ensures.parts refl refl refl disk y p.owners p.parts (grown-seen told s.disk disk s.layout sp at s.state w s.buffer.items after name (created name size was) x y b growing c.parts_end-at.ensures.end room p)))

pub returns-clause-table : goal.returns-clause-table
returns-clause-table g c =
    let s = c.self.inside in
    let told = g.K.Disk.told in
    let name = c.args.name.now in
    let size = c.args.size in
    let sp = c.in-Ok.found.0 in
    let n = c.in-Ok.found.1 in
    let w = c.in-Some.within in
    let usable = ap (λ h. h.broken) c.self.view_is ∙ c.requires.usable in
    let free = ap (λ h. is_partition h.device name || is_super h.device name) c.self.view_is ∙ (sym c.is_taken.ensures.taken ∙ c.if-is_taken.false) in
    let t = taken-in told s.disk s.layout s.state s.within w s.buffer.items s.broken sp name size n c.is_taken.ensures.name c.in-Some.is usable c.self.invariant free c.in-Ok.ensures.part (c.in-Ok.ensures.taken name) c.in-Ok.ensures.new in
    let x = c.take_in.new.self in
    let b : NewBytes = record { part = n.part; from = 0; to = n.bytes } in
    let was = device_held s.layout s.state (Some (content w.table)) (open_bytes (told s.disk)) in
    let growing = taken-growing told s.disk s.layout sp s.state w s.buffer.items name size n t x b c.take_in.ensures.planned c.take_in.ensures.parts refl refl refl in
    let y = c.put_grown.new.within in
    let at = c.parts_end-at.result in
    let disk = c.put_grown.new.disk in
    let buffer = c.put_grown.new.buffer in
    let after = take s.buffer.len (buffer ++ drop (length buffer) s.buffer.items) in
    let room = lent-long s.buffer.len s.buffer.items buffer (sym c.deref_mut.ensures.len ∙ ap length c.deref_mut.ensures.value) (c.put_grown.auto.buffer ∙ ap length c.deref_mut.ensures.value) in
    subst (λ broken. IsTableWritten told (held_by told disk s.layout s.state (Some y) broken)) (sym usable)
    (grown-written told s.disk disk s.layout sp at s.state w s.buffer.items after name (created name size was) x y b growing c.parts_end-at.ensures.end room c.in-Ok-put_grown.ensures.grown)

pub returns-clause-whole : goal.returns-clause-whole
returns-clause-whole g c =
    let s = c.self.inside in
    let told = g.K.Disk.told in
    let name = c.args.name.now in
    let size = c.args.size in
    let sp = c.in-Ok.found.0 in
    let n = c.in-Ok.found.1 in
    let w = c.in-Some.within in
    let usable = ap (λ h. h.broken) c.self.view_is ∙ c.requires.usable in
    let free = ap (λ h. is_partition h.device name || is_super h.device name) c.self.view_is ∙ (sym c.is_taken.ensures.taken ∙ c.if-is_taken.false) in
    let t = taken-in told s.disk s.layout s.state s.within w s.buffer.items s.broken sp name size n c.is_taken.ensures.name c.in-Some.is usable c.self.invariant free c.in-Ok.ensures.part (c.in-Ok.ensures.taken name) c.in-Ok.ensures.new in
    let x = c.take_in.new.self in
    let b : NewBytes = record { part = n.part; from = 0; to = n.bytes } in
    let was = device_held s.layout s.state (Some (content w.table)) (open_bytes (told s.disk)) in
    let growing = taken-growing told s.disk s.layout sp s.state w s.buffer.items name size n t x b c.take_in.ensures.planned c.take_in.ensures.parts refl refl refl in
    let y = c.put_grown.new.within in
    let at = c.parts_end-at.result in
    let disk = c.put_grown.new.disk in
    let buffer = c.put_grown.new.buffer in
    let after = take s.buffer.len (buffer ++ drop (length buffer) s.buffer.items) in
    let room = lent-long s.buffer.len s.buffer.items buffer (sym c.deref_mut.ensures.len ∙ ap length c.deref_mut.ensures.value) (c.put_grown.auto.buffer ∙ ap length c.deref_mut.ensures.value) in
    subst (λ broken. IsWhole told (held_by told disk s.layout s.state (Some y) broken)) (sym usable)
    (grown-whole told s.disk disk s.layout sp at s.state w s.buffer.items after name (created name size was) x y b growing c.parts_end-at.ensures.end room c.in-Ok-put_grown.ensures.grown)

pub returns-clause-kept : goal.returns-clause-kept
returns-clause-kept g c =
    subst (λ h. DiskKept g.K.Disk.told g.K.Disk.lent h.disk c.put_grown.new.disk) c.self.view_is (record { same = c.put_grown.ensures.same; kept = c.put_grown.ensures.kept })
