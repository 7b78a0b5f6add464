use Rattle.std.proofs.Common.{◌≡◌, ◌∙◌, refl, None, ap, sym, subst, length, take, drop, ◌++◌, Some, false}
use Rattle.dev_disk.specs.Disks.{open_bytes}
use Rattle.std.specs.Result.{result_err}
use Rattle.fb_frame.specs.Causes.{Rose}
use Rattle.dev_model.specs.declared.step.Step.TheVariants.{Resize}
use Rattle.dev_model.specs.Images.{round_up}
use Rattle.dev_model.specs.Partitions.{is_logical}
use Rattle.dev_model.specs.Steps.{apply}
use Rattle.super_meta.specs.Contents.{content}
use Rattle.dev_store.specs.Changes.{resize_flaw}
use Rattle.dev_store.specs.Held.{device_held, seen, IsWhole, DiskKept}
use Rattle.dev_store.specs.Reading.{IsStored, held_by, table_within}
use Rattle.dev_store.specs.StoreCalls.{StandsAround, IsRegrown, IsTableWritten}
use Rattle.dev_store.specs.TableCalls.{IsFound}
use Rattle.dev_store.specs.Growing.{resize_bar}
use Rattle.dev_store.specs.declared.errors.StoreError.TheVariants.{NoPartition}
use Rattle.dev_store.proofs.CallFound.{found-none}
use Rattle.dev_store.proofs.CallStores.{next-sound, next-fits}
use Rattle.dev_store.proofs.CallPut.{super-in, bounds-in, inside-in, end-in}
use Rattle.dev_store.proofs.CallDelete.{no-flaw-ok, no-flaw-err, delete-groups, delete-short, delete-inside}
use Rattle.dev_store.proofs.RegrowZeros.{lent-long, OpenKept-same}
use Rattle.dev_store.proofs.RegrowStores.{grown-stored, grown-whole, grown-seen, grown-written, left-stored, left-around}
use Rattle.dev_store.proofs.RegrowCall.{found-here, no-bar, some-bar, flaw-decided, absent-flaw, resize-few, call-bar, call-place, call-next, call-held, call-growing, call-handed}
use Rattle.dev_store.proofs.store.Store.resize.Goals as goal

pub returns-in_default-clause-decided : goal.returns-in_default-clause-decided
returns-in_default-clause-decided g c =
    let s = c.self.inside in
    let told = g.K.Disk.told in
    let name = c.args.name.now in
    let found = subst (λ n. IsFound s.layout.super_part (table_within s.within) n c.find_in_table.result) c.bytes.ensures.bytes c.find_in_table.ensures in
    let none = subst (IsFound s.layout.super_part (table_within s.within) name) c.in_default.is found in
    flaw-decided (Unit {0}) told _ NoPartition c.args.self.now _
    (absent-flaw c.args.self.now.device name c.args.size
    (ap (λ h. is_logical h.device name) (sym c.self.view_is) ∙ found-none s.layout s.state (table_within s.within) (open_bytes (told s.disk)) name c.self.invariant.kept none))

pub resize_at-requires-clause-bounded : goal.resize_at-requires-clause-bounded
resize_at-requires-clause-bounded g c =
    let s = c.self.inside in
    let told = g.K.Disk.told in
    let name = c.args.name.now in
    let size = c.args.size in
    let sp = c.in-Some.s in
    let i = c.in-Some.place in
    let w = c.in-Some-within.within in
    let usable = ap (λ h. h.broken) c.self.view_is ∙ c.requires.usable in
    let h = found-here told s.disk s.layout s.state s.within w s.buffer.items s.broken sp name _ i c.find_in_table.result c.bytes.ensures.bytes c.find_in_table.ensures c.in-Some.is c.in-Some-within.is usable c.self.invariant in
    bounds-in told s.disk s.layout sp s.state w s.buffer.items h.part h.store

pub resize_at-requires-clause-mapped : goal.resize_at-requires-clause-mapped
resize_at-requires-clause-mapped g c =
    let s = c.self.inside in
    let told = g.K.Disk.told in
    let name = c.args.name.now in
    let size = c.args.size in
    let sp = c.in-Some.s in
    let i = c.in-Some.place in
    let w = c.in-Some-within.within in
    let usable = ap (λ h. h.broken) c.self.view_is ∙ c.requires.usable in
    let h = found-here told s.disk s.layout s.state s.within w s.buffer.items s.broken sp name _ i c.find_in_table.result c.bytes.ensures.bytes c.find_in_table.ensures c.in-Some.is c.in-Some-within.is usable c.self.invariant in
    (super-in told s.disk s.layout sp s.state w s.buffer.items h.part h.store).mapped

pub resize_at-requires-clause-rooms : goal.resize_at-requires-clause-rooms
resize_at-requires-clause-rooms g c =
    let s = c.self.inside in
    let told = g.K.Disk.told in
    let name = c.args.name.now in
    let size = c.args.size in
    let sp = c.in-Some.s in
    let i = c.in-Some.place in
    let w = c.in-Some-within.within in
    let usable = ap (λ h. h.broken) c.self.view_is ∙ c.requires.usable in
    let h = found-here told s.disk s.layout s.state s.within w s.buffer.items s.broken sp name _ i c.find_in_table.result c.bytes.ensures.bytes c.find_in_table.ensures c.in-Some.is c.in-Some-within.is usable c.self.invariant in
    (super-in told s.disk s.layout sp s.state w s.buffer.items h.part h.store).rooms

pub resize_at-requires-clause-few : goal.resize_at-requires-clause-few
resize_at-requires-clause-few g c =
    let s = c.self.inside in
    let told = g.K.Disk.told in
    let name = c.args.name.now in
    let size = c.args.size in
    let sp = c.in-Some.s in
    let i = c.in-Some.place in
    let w = c.in-Some-within.within in
    let usable = ap (λ h. h.broken) c.self.view_is ∙ c.requires.usable in
    let h = found-here told s.disk s.layout s.state s.within w s.buffer.items s.broken sp name _ i c.find_in_table.result c.bytes.ensures.bytes c.find_in_table.ensures c.in-Some.is c.in-Some-within.is usable c.self.invariant in
    resize-few told s.disk s.layout sp s.state w s.buffer.items name size i h.part h.store h.here

pub resize_at-requires-clause-groups : goal.resize_at-requires-clause-groups
resize_at-requires-clause-groups g c =
    let s = c.self.inside in
    let told = g.K.Disk.told in
    let name = c.args.name.now in
    let size = c.args.size in
    let sp = c.in-Some.s in
    let i = c.in-Some.place in
    let w = c.in-Some-within.within in
    let usable = ap (λ h. h.broken) c.self.view_is ∙ c.requires.usable in
    let h = found-here told s.disk s.layout s.state s.within w s.buffer.items s.broken sp name _ i c.find_in_table.result c.bytes.ensures.bytes c.find_in_table.ensures c.in-Some.is c.in-Some-within.is usable c.self.invariant in
    delete-groups told s.disk s.layout sp s.state w s.buffer.items name i h.part h.store h.here

pub resize_at-requires-clause-short : goal.resize_at-requires-clause-short
resize_at-requires-clause-short g c =
    let s = c.self.inside in
    let told = g.K.Disk.told in
    let name = c.args.name.now in
    let size = c.args.size in
    let sp = c.in-Some.s in
    let i = c.in-Some.place in
    let w = c.in-Some-within.within in
    let usable = ap (λ h. h.broken) c.self.view_is ∙ c.requires.usable in
    let h = found-here told s.disk s.layout s.state s.within w s.buffer.items s.broken sp name _ i c.find_in_table.result c.bytes.ensures.bytes c.find_in_table.ensures c.in-Some.is c.in-Some-within.is usable c.self.invariant in
    delete-short told s.disk s.layout sp s.state w s.buffer.items name i h.part h.store h.here

pub resize_at-requires-clause-there : goal.resize_at-requires-clause-there
resize_at-requires-clause-there g c =
    let s = c.self.inside in
    let told = g.K.Disk.told in
    let name = c.args.name.now in
    let size = c.args.size in
    let sp = c.in-Some.s in
    let i = c.in-Some.place in
    let w = c.in-Some-within.within in
    let usable = ap (λ h. h.broken) c.self.view_is ∙ c.requires.usable in
    let h = found-here told s.disk s.layout s.state s.within w s.buffer.items s.broken sp name _ i c.find_in_table.result c.bytes.ensures.bytes c.find_in_table.ensures c.in-Some.is c.in-Some-within.is usable c.self.invariant in
    delete-inside told s.disk s.layout sp s.state w s.buffer.items name i h.part h.store h.here

pub resize_at-requires-clause-fits : goal.resize_at-requires-clause-fits
resize_at-requires-clause-fits g c =
    let s = c.self.inside in
    let told = g.K.Disk.told in
    let name = c.args.name.now in
    let size = c.args.size in
    let sp = c.in-Some.s in
    let i = c.in-Some.place in
    let w = c.in-Some-within.within in
    let usable = ap (λ h. h.broken) c.self.view_is ∙ c.requires.usable in
    let h = found-here told s.disk s.layout s.state s.within w s.buffer.items s.broken sp name _ i c.find_in_table.result c.bytes.ensures.bytes c.find_in_table.ensures c.in-Some.is c.in-Some-within.is usable c.self.invariant in
    λ free one. call-place told s.disk s.layout sp s.state w s.buffer.items name size i h.part h.store h.here (subst (λ t. resize_bar sp w i t (round_up size) ≡ None) c.bytes-2.ensures.bytes free) one

pub returns-in-Err-clause-decided : goal.returns-in-Err-clause-decided
returns-in-Err-clause-decided g c =
    let s = c.self.inside in
    let told = g.K.Disk.told in
    let name = c.args.name.now in
    let size = c.args.size in
    let sp = c.in-Some.s in
    let i = c.in-Some.place in
    let w = c.in-Some-within.within in
    let usable = ap (λ h. h.broken) c.self.view_is ∙ c.requires.usable in
    let h = found-here told s.disk s.layout s.state s.within w s.buffer.items s.broken sp name _ i c.find_in_table.result c.bytes.ensures.bytes c.find_in_table.ensures c.in-Some.is c.in-Some-within.is usable c.self.invariant in
    let view = (λ j. held_by told s.disk s.layout s.state (sym c.in-Some-within.is j) (sym usable j)) ∙ c.self.view_is in
    let decided = subst (λ t. result_err c.resize_at.result ≡ resize_bar sp w i t (round_up size)) c.bytes-2.ensures.bytes c.resize_at.ensures.decided in
    flaw-decided (Unit {0}) told _ c.in-Err.refusal c.args.self.now _
    (ap (λ h. resize_flaw h.device name size) (sym view) ∙ (call-bar told s.disk s.layout sp s.state w s.buffer.items name size i h.part h.store h.here ∙ some-bar c.resize_at.result c.in-Err.refusal _ c.in-Err.is decided))

pub returns-in-Err-clause-kept : goal.returns-in-Err-clause-kept
returns-in-Err-clause-kept g c =
    let s = c.self.inside in
    let told = g.K.Disk.told in
    subst (λ h. DiskKept told g.K.Disk.lent h.disk s.disk) c.self.view_is (record { same = refl; kept = OpenKept-same (told s.disk) })

pub invariant_of-self : goal.invariant_of-self
invariant_of-self g c =
    let s = c.self.inside in
    let told = g.K.Disk.told in
    subst (λ v. IsStored told (held_by told s.disk s.layout s.state v s.broken) s.layout s.state v s.buffer.items) (c.in-Some-within.is ∙ ap Some (sym c.in-Err.ensures.unchanged)) c.self.invariant

pub put_grown-requires-clause-bounded : goal.put_grown-requires-clause-bounded
put_grown-requires-clause-bounded g c =
    let s = c.self.inside in
    let told = g.K.Disk.told in
    let name = c.args.name.now in
    let size = c.args.size in
    let sp = c.in-Some.s in
    let i = c.in-Some.place in
    let w = c.in-Some-within.within in
    let usable = ap (λ h. h.broken) c.self.view_is ∙ c.requires.usable in
    let h = found-here told s.disk s.layout s.state s.within w s.buffer.items s.broken sp name _ i c.find_in_table.result c.bytes.ensures.bytes c.find_in_table.ensures c.in-Some.is c.in-Some-within.is usable c.self.invariant in
    bounds-in told s.disk s.layout sp s.state w s.buffer.items h.part h.store

pub put_grown-requires-clause-inside : goal.put_grown-requires-clause-inside
put_grown-requires-clause-inside g c =
    let s = c.self.inside in
    let told = g.K.Disk.told in
    let name = c.args.name.now in
    let size = c.args.size in
    let sp = c.in-Some.s in
    let i = c.in-Some.place in
    let w = c.in-Some-within.within in
    let usable = ap (λ h. h.broken) c.self.view_is ∙ c.requires.usable in
    let h = found-here told s.disk s.layout s.state s.within w s.buffer.items s.broken sp name _ i c.find_in_table.result c.bytes.ensures.bytes c.find_in_table.ensures c.in-Some.is c.in-Some-within.is usable c.self.invariant in
    inside-in told s.disk s.layout sp s.state w s.buffer.items c.parts_end-at.result h.part h.store c.parts_end-at.ensures.end

pub put_grown-requires-clause-end : goal.put_grown-requires-clause-end
put_grown-requires-clause-end g c =
    let s = c.self.inside in
    let told = g.K.Disk.told in
    let name = c.args.name.now in
    let size = c.args.size in
    let sp = c.in-Some.s in
    let i = c.in-Some.place in
    let w = c.in-Some-within.within in
    let usable = ap (λ h. h.broken) c.self.view_is ∙ c.requires.usable in
    let h = found-here told s.disk s.layout s.state s.within w s.buffer.items s.broken sp name _ i c.find_in_table.result c.bytes.ensures.bytes c.find_in_table.ensures c.in-Some.is c.in-Some-within.is usable c.self.invariant in
    end-in s.layout sp c.parts_end-at.result (bounds-in told s.disk s.layout sp s.state w s.buffer.items h.part h.store) c.parts_end-at.ensures.bounded

pub put_grown-requires-clause-sound : goal.put_grown-requires-clause-sound
put_grown-requires-clause-sound g c =
    let s = c.self.inside in
    let told = g.K.Disk.told in
    let name = c.args.name.now in
    let size = c.args.size in
    let sp = c.in-Some.s in
    let i = c.in-Some.place in
    let w = c.in-Some-within.within in
    let usable = ap (λ h. h.broken) c.self.view_is ∙ c.requires.usable in
    let h = found-here told s.disk s.layout s.state s.within w s.buffer.items s.broken sp name _ i c.find_in_table.result c.bytes.ensures.bytes c.find_in_table.ensures c.in-Some.is c.in-Some-within.is usable c.self.invariant in
    let x = c.resize_at.new.self in
    let n = c.in-Ok.new in
    let decided = subst (λ t. result_err c.resize_at.result ≡ resize_bar sp w i t (round_up size)) c.bytes-2.ensures.bytes c.resize_at.ensures.decided in
    let free = no-bar c.resize_at.result n _ c.in-Ok.is decided in
    next-sound s.layout sp _ x (bounds-in told s.disk s.layout sp s.state w s.buffer.items h.part h.store) (call-next told s.disk s.layout sp s.state w s.buffer.items name size i h.part h.store h.here free x n c.in-Ok.ensures.planned (λ j. (c.in-Ok.ensures.parts j).items) c.in-Ok.ensures.new)

pub put_grown-requires-clause-fits : goal.put_grown-requires-clause-fits
put_grown-requires-clause-fits g c =
    let s = c.self.inside in
    let told = g.K.Disk.told in
    let name = c.args.name.now in
    let size = c.args.size in
    let sp = c.in-Some.s in
    let i = c.in-Some.place in
    let w = c.in-Some-within.within in
    let usable = ap (λ h. h.broken) c.self.view_is ∙ c.requires.usable in
    let h = found-here told s.disk s.layout s.state s.within w s.buffer.items s.broken sp name _ i c.find_in_table.result c.bytes.ensures.bytes c.find_in_table.ensures c.in-Some.is c.in-Some-within.is usable c.self.invariant in
    let x = c.resize_at.new.self in
    let n = c.in-Ok.new in
    let decided = subst (λ t. result_err c.resize_at.result ≡ resize_bar sp w i t (round_up size)) c.bytes-2.ensures.bytes c.resize_at.ensures.decided in
    let free = no-bar c.resize_at.result n _ c.in-Ok.is decided in
    next-fits s.layout sp _ x (bounds-in told s.disk s.layout sp s.state w s.buffer.items h.part h.store) (call-next told s.disk s.layout sp s.state w s.buffer.items name size i h.part h.store h.here free x n c.in-Ok.ensures.planned (λ j. (c.in-Ok.ensures.parts j).items) c.in-Ok.ensures.new)

pub put_grown-requires-clause-long : goal.put_grown-requires-clause-long
put_grown-requires-clause-long g c =
    let s = c.self.inside in
    let told = g.K.Disk.told in
    let name = c.args.name.now in
    let size = c.args.size in
    let sp = c.in-Some.s in
    let i = c.in-Some.place in
    let w = c.in-Some-within.within in
    let usable = ap (λ h. h.broken) c.self.view_is ∙ c.requires.usable in
    let h = found-here told s.disk s.layout s.state s.within w s.buffer.items s.broken sp name _ i c.find_in_table.result c.bytes.ensures.bytes c.find_in_table.ensures c.in-Some.is c.in-Some-within.is usable c.self.invariant in
    (λ j. length (c.in-Ok.ensures.planned.copy j).items) ∙ (super-in told s.disk s.layout sp s.state w s.buffer.items h.part h.store).spelled.long

pub put_grown-requires-clause-rooms : goal.put_grown-requires-clause-rooms
put_grown-requires-clause-rooms g c =
    c.in-Ok.ensures.planned.rooms

pub put_grown-requires-clause-held : goal.put_grown-requires-clause-held
put_grown-requires-clause-held g c =
    let s = c.self.inside in
    let told = g.K.Disk.told in
    let name = c.args.name.now in
    let size = c.args.size in
    let sp = c.in-Some.s in
    let i = c.in-Some.place in
    let w = c.in-Some-within.within in
    let usable = ap (λ h. h.broken) c.self.view_is ∙ c.requires.usable in
    let h = found-here told s.disk s.layout s.state s.within w s.buffer.items s.broken sp name _ i c.find_in_table.result c.bytes.ensures.bytes c.find_in_table.ensures c.in-Some.is c.in-Some-within.is usable c.self.invariant in
    let x = c.resize_at.new.self in
    let n = c.in-Ok.new in
    let decided = subst (λ t. result_err c.resize_at.result ≡ resize_bar sp w i t (round_up size)) c.bytes-2.ensures.bytes c.resize_at.ensures.decided in
    let free = no-bar c.resize_at.result n _ c.in-Ok.is decided in
    call-held told s.disk s.layout sp s.state w s.buffer.items name size i h.part h.store h.here free x n c.in-Ok.ensures.planned (λ j. (c.in-Ok.ensures.parts j).items) c.in-Ok.ensures.new

pub put_grown-requires-clause-room : goal.put_grown-requires-clause-room
put_grown-requires-clause-room g c =
    ap length c.deref_mut.ensures.value ∙ c.self.invariant.room

pub invariant_of-self-in-Ok-put_grown : goal.invariant_of-self-in-Ok-put_grown
invariant_of-self-in-Ok-put_grown g c =
    let s = c.self.inside in
    let told = g.K.Disk.told in
    let name = c.args.name.now in
    let size = c.args.size in
    let sp = c.in-Some.s in
    let i = c.in-Some.place in
    let w = c.in-Some-within.within in
    let usable = ap (λ h. h.broken) c.self.view_is ∙ c.requires.usable in
    let h = found-here told s.disk s.layout s.state s.within w s.buffer.items s.broken sp name _ i c.find_in_table.result c.bytes.ensures.bytes c.find_in_table.ensures c.in-Some.is c.in-Some-within.is usable c.self.invariant in
    let was = device_held s.layout s.state (Some (content w.table)) (open_bytes (told s.disk)) in
    let x = c.resize_at.new.self in
    let n = c.in-Ok.new in
    let decided = subst (λ t. result_err c.resize_at.result ≡ resize_bar sp w i t (round_up size)) c.bytes-2.ensures.bytes c.resize_at.ensures.decided in
    let free = no-bar c.resize_at.result n _ c.in-Ok.is decided in
    let growing = call-growing told s.disk s.layout sp s.state w s.buffer.items name size i h.part h.store h.here free x n c.in-Ok.ensures.planned (λ j. (c.in-Ok.ensures.parts j).items) c.in-Ok.ensures.new in
    let y = c.put_grown.new.within in
    let at = c.parts_end-at.result in
    let disk = c.put_grown.new.disk in
    let buffer = c.put_grown.new.buffer in
    let after = take s.buffer.len (buffer ++ drop (length buffer) s.buffer.items) in
    let room = lent-long s.buffer.len s.buffer.items buffer (sym c.deref_mut.ensures.len ∙ ap length c.deref_mut.ensures.value) (c.put_grown.auto.buffer ∙ ap length c.deref_mut.ensures.value) in
    subst (λ b. IsStored told (held_by told disk s.layout s.state (Some y) b) s.layout s.state (Some y) after) (sym usable)
    (grown-stored told s.disk disk s.layout sp at s.state w s.buffer.items after name (apply (Resize name size) was) x y n growing c.parts_end-at.ensures.end room c.in-Ok-put_grown.ensures.grown)

pub invariant_of-self-in_default-put_grown : goal.invariant_of-self-in_default-put_grown
invariant_of-self-in_default-put_grown g c =
    let s = c.self.inside in
    let told = g.K.Disk.told in
    let name = c.args.name.now in
    let size = c.args.size in
    let sp = c.in-Some.s in
    let i = c.in-Some.place in
    let w = c.in-Some-within.within in
    let usable = ap (λ h. h.broken) c.self.view_is ∙ c.requires.usable in
    let h = found-here told s.disk s.layout s.state s.within w s.buffer.items s.broken sp name _ i c.find_in_table.result c.bytes.ensures.bytes c.find_in_table.ensures c.in-Some.is c.in-Some-within.is usable c.self.invariant in
    let was = device_held s.layout s.state (Some (content w.table)) (open_bytes (told s.disk)) in
    let x = c.resize_at.new.self in
    let n = c.in-Ok.new in
    let decided = subst (λ t. result_err c.resize_at.result ≡ resize_bar sp w i t (round_up size)) c.bytes-2.ensures.bytes c.resize_at.ensures.decided in
    let free = no-bar c.resize_at.result n _ c.in-Ok.is decided in
    let growing = call-growing told s.disk s.layout sp s.state w s.buffer.items name size i h.part h.store h.here free x n c.in-Ok.ensures.planned (λ j. (c.in-Ok.ensures.parts j).items) c.in-Ok.ensures.new in
    let y = c.put_grown.new.within in
    let at = c.parts_end-at.result in
    let disk = c.put_grown.new.disk in
    let buffer = c.put_grown.new.buffer in
    let after = take s.buffer.len (buffer ++ drop (length buffer) s.buffer.items) in
    let room = lent-long s.buffer.len s.buffer.items buffer (sym c.deref_mut.ensures.len ∙ ap length c.deref_mut.ensures.value) (c.put_grown.auto.buffer ∙ ap length c.deref_mut.ensures.value) in
    left-stored told s.disk disk s.layout sp at s.state w s.buffer.items after name (apply (Resize name size) was) x y n growing c.parts_end-at.ensures.end room c.in_default-put_grown.ensures.left

pub returns-in_default-put_grown-clause-decided : goal.returns-in_default-put_grown-clause-decided
returns-in_default-put_grown-clause-decided g c =
    let s = c.self.inside in
    let told = g.K.Disk.told in
    let name = c.args.name.now in
    let size = c.args.size in
    let sp = c.in-Some.s in
    let i = c.in-Some.place in
    let w = c.in-Some-within.within in
    let usable = ap (λ h. h.broken) c.self.view_is ∙ c.requires.usable in
    let h = found-here told s.disk s.layout s.state s.within w s.buffer.items s.broken sp name _ i c.find_in_table.result c.bytes.ensures.bytes c.find_in_table.ensures c.in-Some.is c.in-Some-within.is usable c.self.invariant in
    let view = (λ j. held_by told s.disk s.layout s.state (sym c.in-Some-within.is j) (sym usable j)) ∙ c.self.view_is in
    let x = c.resize_at.new.self in
    let n = c.in-Ok.new in
    let decided = subst (λ t. result_err c.resize_at.result ≡ resize_bar sp w i t (round_up size)) c.bytes-2.ensures.bytes c.resize_at.ensures.decided in
    let free = no-bar c.resize_at.result n _ c.in-Ok.is decided in
    no-flaw-err (Unit {0}) told _ c.args.self.now _ (ap (λ h. resize_flaw h.device name size) (sym view) ∙ (call-bar told s.disk s.layout sp s.state w s.buffer.items name size i h.part h.store h.here ∙ free))
    (subst (λ h. Rose (told h.disk).faults (told c.put_grown.new.disk).faults) view c.in_default-put_grown.ensures.cause)

pub returns-in_default-put_grown-clause-around : goal.returns-in_default-put_grown-clause-around
returns-in_default-put_grown-clause-around g c =
    let s = c.self.inside in
    let told = g.K.Disk.told in
    let name = c.args.name.now in
    let size = c.args.size in
    let sp = c.in-Some.s in
    let i = c.in-Some.place in
    let w = c.in-Some-within.within in
    let usable = ap (λ h. h.broken) c.self.view_is ∙ c.requires.usable in
    let h = found-here told s.disk s.layout s.state s.within w s.buffer.items s.broken sp name _ i c.find_in_table.result c.bytes.ensures.bytes c.find_in_table.ensures c.in-Some.is c.in-Some-within.is usable c.self.invariant in
    let view = (λ j. held_by told s.disk s.layout s.state (sym c.in-Some-within.is j) (sym usable j)) ∙ c.self.view_is in
    let was = device_held s.layout s.state (Some (content w.table)) (open_bytes (told s.disk)) in
    let x = c.resize_at.new.self in
    let n = c.in-Ok.new in
    let decided = subst (λ t. result_err c.resize_at.result ≡ resize_bar sp w i t (round_up size)) c.bytes-2.ensures.bytes c.resize_at.ensures.decided in
    let free = no-bar c.resize_at.result n _ c.in-Ok.is decided in
    let growing = call-growing told s.disk s.layout sp s.state w s.buffer.items name size i h.part h.store h.here free x n c.in-Ok.ensures.planned (λ j. (c.in-Ok.ensures.parts j).items) c.in-Ok.ensures.new in
    let y = c.put_grown.new.within in
    let at = c.parts_end-at.result in
    let disk = c.put_grown.new.disk in
    let buffer = c.put_grown.new.buffer in
    let after = take s.buffer.len (buffer ++ drop (length buffer) s.buffer.items) in
    let room = lent-long s.buffer.len s.buffer.items buffer (sym c.deref_mut.ensures.len ∙ ap length c.deref_mut.ensures.value) (c.put_grown.auto.buffer ∙ ap length c.deref_mut.ensures.value) in
    λ e honest. subst (λ h. StandsAround (open_bytes (told disk)) h.device (apply (Resize name size) h.device)) view
    (left-around told s.disk disk s.layout sp at s.state w s.buffer.items after name (apply (Resize name size) was) x y n growing c.parts_end-at.ensures.end room c.in_default-put_grown.ensures.left honest)

pub returns-clause-decided : goal.returns-clause-decided
returns-clause-decided g c =
    let s = c.self.inside in
    let told = g.K.Disk.told in
    let name = c.args.name.now in
    let size = c.args.size in
    let sp = c.in-Some.s in
    let i = c.in-Some.place in
    let w = c.in-Some-within.within in
    let usable = ap (λ h. h.broken) c.self.view_is ∙ c.requires.usable in
    let h = found-here told s.disk s.layout s.state s.within w s.buffer.items s.broken sp name _ i c.find_in_table.result c.bytes.ensures.bytes c.find_in_table.ensures c.in-Some.is c.in-Some-within.is usable c.self.invariant in
    let view = (λ j. held_by told s.disk s.layout s.state (sym c.in-Some-within.is j) (sym usable j)) ∙ c.self.view_is in
    let x = c.resize_at.new.self in
    let n = c.in-Ok.new in
    let decided = subst (λ t. result_err c.resize_at.result ≡ resize_bar sp w i t (round_up size)) c.bytes-2.ensures.bytes c.resize_at.ensures.decided in
    let free = no-bar c.resize_at.result n _ c.in-Ok.is decided in
    no-flaw-ok told _ c.args.self.now _ tt (ap (λ h. resize_flaw h.device name size) (sym view) ∙ (call-bar told s.disk s.layout sp s.state w s.buffer.items name size i h.part h.store h.here ∙ free))

pub returns-clause-changed : goal.returns-clause-changed
returns-clause-changed g c =
    let s = c.self.inside in
    let told = g.K.Disk.told in
    let name = c.args.name.now in
    let size = c.args.size in
    let sp = c.in-Some.s in
    let i = c.in-Some.place in
    let w = c.in-Some-within.within in
    let usable = ap (λ h. h.broken) c.self.view_is ∙ c.requires.usable in
    let h = found-here told s.disk s.layout s.state s.within w s.buffer.items s.broken sp name _ i c.find_in_table.result c.bytes.ensures.bytes c.find_in_table.ensures c.in-Some.is c.in-Some-within.is usable c.self.invariant in
    let view = (λ j. held_by told s.disk s.layout s.state (sym c.in-Some-within.is j) (sym usable j)) ∙ c.self.view_is in
    let was = device_held s.layout s.state (Some (content w.table)) (open_bytes (told s.disk)) in
    let x = c.resize_at.new.self in
    let n = c.in-Ok.new in
    let decided = subst (λ t. result_err c.resize_at.result ≡ resize_bar sp w i t (round_up size)) c.bytes-2.ensures.bytes c.resize_at.ensures.decided in
    let free = no-bar c.resize_at.result n _ c.in-Ok.is decided in
    let growing = call-growing told s.disk s.layout sp s.state w s.buffer.items name size i h.part h.store h.here free x n c.in-Ok.ensures.planned (λ j. (c.in-Ok.ensures.parts j).items) c.in-Ok.ensures.new in
    let y = c.put_grown.new.within in
    let at = c.parts_end-at.result in
    let disk = c.put_grown.new.disk in
    let buffer = c.put_grown.new.buffer in
    let after = take s.buffer.len (buffer ++ drop (length buffer) s.buffer.items) in
    let room = lent-long s.buffer.len s.buffer.items buffer (sym c.deref_mut.ensures.len ∙ ap length c.deref_mut.ensures.value) (c.put_grown.auto.buffer ∙ ap length c.deref_mut.ensures.value) in
    grown-seen told s.disk disk s.layout sp at s.state w s.buffer.items after name (apply (Resize name size) was) x y n growing c.parts_end-at.ensures.end room c.in-Ok-put_grown.ensures.grown
    ∙ ap (λ h. seen (open_bytes (told disk)) (apply (Resize name size) h.device)) view

pub returns-clause-handed : goal.returns-clause-handed
returns-clause-handed g c =
    let s = c.self.inside in
    let told = g.K.Disk.told in
    let name = c.args.name.now in
    let size = c.args.size in
    let sp = c.in-Some.s in
    let i = c.in-Some.place in
    let w = c.in-Some-within.within in
    let usable = ap (λ h. h.broken) c.self.view_is ∙ c.requires.usable in
    let h = found-here told s.disk s.layout s.state s.within w s.buffer.items s.broken sp name _ i c.find_in_table.result c.bytes.ensures.bytes c.find_in_table.ensures c.in-Some.is c.in-Some-within.is usable c.self.invariant in
    let view = (λ j. held_by told s.disk s.layout s.state (sym c.in-Some-within.is j) (sym usable j)) ∙ c.self.view_is in
    let was = device_held s.layout s.state (Some (content w.table)) (open_bytes (told s.disk)) in
    let x = c.resize_at.new.self in
    let n = c.in-Ok.new in
    let decided = subst (λ t. result_err c.resize_at.result ≡ resize_bar sp w i t (round_up size)) c.bytes-2.ensures.bytes c.resize_at.ensures.decided in
    let free = no-bar c.resize_at.result n _ c.in-Ok.is decided in
    let growing = call-growing told s.disk s.layout sp s.state w s.buffer.items name size i h.part h.store h.here free x n c.in-Ok.ensures.planned (λ j. (c.in-Ok.ensures.parts j).items) c.in-Ok.ensures.new in
    let y = c.put_grown.new.within in
    let at = c.parts_end-at.result in
    let disk = c.put_grown.new.disk in
    let buffer = c.put_grown.new.buffer in
    let after = take s.buffer.len (buffer ++ drop (length buffer) s.buffer.items) in
    let room = lent-long s.buffer.len s.buffer.items buffer (sym c.deref_mut.ensures.len ∙ ap length c.deref_mut.ensures.value) (c.put_grown.auto.buffer ∙ ap length c.deref_mut.ensures.value) in
    let p = c.in-Ok-put_grown.ensures.grown in
    subst (λ h. IsRegrown name (round_up size) h (held_by told disk s.layout s.state (Some y) s.broken)) view
    (subst (λ b. IsRegrown name (round_up size) (held_by told s.disk s.layout s.state (Some w) false) (held_by told disk s.layout s.state (Some y) b)) (sym usable)
    (call-handed told s.disk s.layout sp s.state w s.buffer.items name size i h.part h.store h.here free x n c.in-Ok.ensures.planned (λ j. (c.in-Ok.ensures.parts j).items) c.in-Ok.ensures.new disk y p.owners p.parts (grown-seen told s.disk disk s.layout sp at s.state w s.buffer.items after name (apply (Resize name size) was) x y n growing c.parts_end-at.ensures.end room p)))

pub returns-clause-table : goal.returns-clause-table
returns-clause-table g c =
    let s = c.self.inside in
    let told = g.K.Disk.told in
    let name = c.args.name.now in
    let size = c.args.size in
    let sp = c.in-Some.s in
    let i = c.in-Some.place in
    let w = c.in-Some-within.within in
    let usable = ap (λ h. h.broken) c.self.view_is ∙ c.requires.usable in
    let h = found-here told s.disk s.layout s.state s.within w s.buffer.items s.broken sp name _ i c.find_in_table.result c.bytes.ensures.bytes c.find_in_table.ensures c.in-Some.is c.in-Some-within.is usable c.self.invariant in
    let was = device_held s.layout s.state (Some (content w.table)) (open_bytes (told s.disk)) in
    let x = c.resize_at.new.self in
    let n = c.in-Ok.new in
    let decided = subst (λ t. result_err c.resize_at.result ≡ resize_bar sp w i t (round_up size)) c.bytes-2.ensures.bytes c.resize_at.ensures.decided in
    let free = no-bar c.resize_at.result n _ c.in-Ok.is decided in
    let growing = call-growing told s.disk s.layout sp s.state w s.buffer.items name size i h.part h.store h.here free x n c.in-Ok.ensures.planned (λ j. (c.in-Ok.ensures.parts j).items) c.in-Ok.ensures.new in
    let y = c.put_grown.new.within in
    let at = c.parts_end-at.result in
    let disk = c.put_grown.new.disk in
    let buffer = c.put_grown.new.buffer in
    let after = take s.buffer.len (buffer ++ drop (length buffer) s.buffer.items) in
    let room = lent-long s.buffer.len s.buffer.items buffer (sym c.deref_mut.ensures.len ∙ ap length c.deref_mut.ensures.value) (c.put_grown.auto.buffer ∙ ap length c.deref_mut.ensures.value) in
    subst (λ b. IsTableWritten told (held_by told disk s.layout s.state (Some y) b)) (sym usable)
    (grown-written told s.disk disk s.layout sp at s.state w s.buffer.items after name (apply (Resize name size) was) x y n growing c.parts_end-at.ensures.end room c.in-Ok-put_grown.ensures.grown)

pub returns-clause-whole : goal.returns-clause-whole
returns-clause-whole g c =
    let s = c.self.inside in
    let told = g.K.Disk.told in
    let name = c.args.name.now in
    let size = c.args.size in
    let sp = c.in-Some.s in
    let i = c.in-Some.place in
    let w = c.in-Some-within.within in
    let usable = ap (λ h. h.broken) c.self.view_is ∙ c.requires.usable in
    let h = found-here told s.disk s.layout s.state s.within w s.buffer.items s.broken sp name _ i c.find_in_table.result c.bytes.ensures.bytes c.find_in_table.ensures c.in-Some.is c.in-Some-within.is usable c.self.invariant in
    let was = device_held s.layout s.state (Some (content w.table)) (open_bytes (told s.disk)) in
    let x = c.resize_at.new.self in
    let n = c.in-Ok.new in
    let decided = subst (λ t. result_err c.resize_at.result ≡ resize_bar sp w i t (round_up size)) c.bytes-2.ensures.bytes c.resize_at.ensures.decided in
    let free = no-bar c.resize_at.result n _ c.in-Ok.is decided in
    let growing = call-growing told s.disk s.layout sp s.state w s.buffer.items name size i h.part h.store h.here free x n c.in-Ok.ensures.planned (λ j. (c.in-Ok.ensures.parts j).items) c.in-Ok.ensures.new in
    let y = c.put_grown.new.within in
    let at = c.parts_end-at.result in
    let disk = c.put_grown.new.disk in
    let buffer = c.put_grown.new.buffer in
    let after = take s.buffer.len (buffer ++ drop (length buffer) s.buffer.items) in
    let room = lent-long s.buffer.len s.buffer.items buffer (sym c.deref_mut.ensures.len ∙ ap length c.deref_mut.ensures.value) (c.put_grown.auto.buffer ∙ ap length c.deref_mut.ensures.value) in
    subst (λ b. IsWhole told (held_by told disk s.layout s.state (Some y) b)) (sym usable)
    (grown-whole told s.disk disk s.layout sp at s.state w s.buffer.items after name (apply (Resize name size) was) x y n growing c.parts_end-at.ensures.end room c.in-Ok-put_grown.ensures.grown)
