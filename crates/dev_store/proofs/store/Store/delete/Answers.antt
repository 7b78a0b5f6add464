use Rattle.std.proofs.Common.{◌∙◌, ap, sym, subst, length, Some, false}
use Rattle.dev_disk.specs.Disks.{open_bytes}
use Rattle.dev_model.specs.Steps.{deleted}
use Rattle.super_meta.specs.Contents.{content}
use Rattle.fb_frame.specs.Causes.{Rose}
use Rattle.dev_model.specs.Partitions.{is_logical}
use Rattle.dev_store.specs.Changes.{delete_flaw}
use Rattle.dev_store.specs.Held.{device_held, seen, IsWhole}
use Rattle.dev_store.specs.Reading.{IsStored, held_by, table_within}
use Rattle.dev_store.specs.StoreCalls.{StandsAround, IsReleased, IsTableWritten}
use Rattle.dev_store.specs.TableCalls.{IsFound}
use Rattle.dev_store.proofs.CallFound.{found-part, found-place, found-none}
use Rattle.dev_store.proofs.CallStores.{next-sound, next-fits}
use Rattle.dev_store.proofs.CallPut.{IsPut, IsUnput, opened-in, super-in, bounds-in, inside-in, end-in, put-stored, put-whole, put-seen, put-written, fail-stored, fail-around}
use Rattle.dev_store.proofs.CallDelete.{absent-decided, there-flaw, no-flaw-ok, no-flaw-err, delete-there, delete-groups, delete-short, delete-inside, delete-place, delete-ready, delete-released}
use Rattle.dev_store.proofs.store.Store.delete.Goals as goal

pub returns-in_default-clause-decided : goal.returns-in_default-clause-decided
returns-in_default-clause-decided g c =
    let s = c.self.inside in
    let told = g.K.Disk.told in
    let name = c.args.name.now in
    let found = subst (λ n. IsFound s.layout.super_part (table_within s.within) n c.find_in_table.result) c.bytes.ensures.bytes c.find_in_table.ensures in
    let none = subst (IsFound s.layout.super_part (table_within s.within) name) c.in_default.is found in
    absent-decided (Unit {0}) told c.args.self.now.device name c.args.self.now _
    (ap (λ h. is_logical h.device name) (sym c.self.view_is) ∙ found-none s.layout s.state (table_within s.within) (open_bytes (told s.disk)) name c.self.invariant.kept none)

pub take_away-requires-clause-bounded : goal.take_away-requires-clause-bounded
take_away-requires-clause-bounded g c =
    let s = c.self.inside in
    let told = g.K.Disk.told in
    let name = c.args.name.now in
    let sp = c.in-Some.s in
    let i = c.in-Some.place in
    let w = c.in-Some-within.within in
    let found = subst (λ n. IsFound s.layout.super_part (table_within s.within) n c.find_in_table.result) c.bytes.ensures.bytes c.find_in_table.ensures in
    let part = found-part s.layout.super_part (table_within s.within) name c.find_in_table.result sp i found c.in-Some.is in
    let here = found-place s.layout.super_part (content w.table) name c.find_in_table.result sp i
    (subst (λ v. IsFound s.layout.super_part (table_within v) name c.find_in_table.result) c.in-Some-within.is found) c.in-Some.is in
    let usable = ap (λ h. h.broken) c.self.view_is ∙ c.requires.usable in
    let store = opened-in told s.disk s.layout s.state s.within w s.buffer.items s.broken c.in-Some-within.is usable c.self.invariant in
    bounds-in told s.disk s.layout sp s.state w s.buffer.items part store

pub take_away-requires-clause-mapped : goal.take_away-requires-clause-mapped
take_away-requires-clause-mapped g c =
    let s = c.self.inside in
    let told = g.K.Disk.told in
    let name = c.args.name.now in
    let sp = c.in-Some.s in
    let i = c.in-Some.place in
    let w = c.in-Some-within.within in
    let found = subst (λ n. IsFound s.layout.super_part (table_within s.within) n c.find_in_table.result) c.bytes.ensures.bytes c.find_in_table.ensures in
    let part = found-part s.layout.super_part (table_within s.within) name c.find_in_table.result sp i found c.in-Some.is in
    let here = found-place s.layout.super_part (content w.table) name c.find_in_table.result sp i
    (subst (λ v. IsFound s.layout.super_part (table_within v) name c.find_in_table.result) c.in-Some-within.is found) c.in-Some.is in
    let usable = ap (λ h. h.broken) c.self.view_is ∙ c.requires.usable in
    let store = opened-in told s.disk s.layout s.state s.within w s.buffer.items s.broken c.in-Some-within.is usable c.self.invariant in
    (super-in told s.disk s.layout sp s.state w s.buffer.items part store).mapped

pub take_away-requires-clause-rooms : goal.take_away-requires-clause-rooms
take_away-requires-clause-rooms g c =
    let s = c.self.inside in
    let told = g.K.Disk.told in
    let name = c.args.name.now in
    let sp = c.in-Some.s in
    let i = c.in-Some.place in
    let w = c.in-Some-within.within in
    let found = subst (λ n. IsFound s.layout.super_part (table_within s.within) n c.find_in_table.result) c.bytes.ensures.bytes c.find_in_table.ensures in
    let part = found-part s.layout.super_part (table_within s.within) name c.find_in_table.result sp i found c.in-Some.is in
    let here = found-place s.layout.super_part (content w.table) name c.find_in_table.result sp i
    (subst (λ v. IsFound s.layout.super_part (table_within v) name c.find_in_table.result) c.in-Some-within.is found) c.in-Some.is in
    let usable = ap (λ h. h.broken) c.self.view_is ∙ c.requires.usable in
    let store = opened-in told s.disk s.layout s.state s.within w s.buffer.items s.broken c.in-Some-within.is usable c.self.invariant in
    (super-in told s.disk s.layout sp s.state w s.buffer.items part store).rooms

pub take_away-requires-clause-groups : goal.take_away-requires-clause-groups
take_away-requires-clause-groups g c =
    let s = c.self.inside in
    let told = g.K.Disk.told in
    let name = c.args.name.now in
    let sp = c.in-Some.s in
    let i = c.in-Some.place in
    let w = c.in-Some-within.within in
    let found = subst (λ n. IsFound s.layout.super_part (table_within s.within) n c.find_in_table.result) c.bytes.ensures.bytes c.find_in_table.ensures in
    let part = found-part s.layout.super_part (table_within s.within) name c.find_in_table.result sp i found c.in-Some.is in
    let here = found-place s.layout.super_part (content w.table) name c.find_in_table.result sp i
    (subst (λ v. IsFound s.layout.super_part (table_within v) name c.find_in_table.result) c.in-Some-within.is found) c.in-Some.is in
    let usable = ap (λ h. h.broken) c.self.view_is ∙ c.requires.usable in
    let store = opened-in told s.disk s.layout s.state s.within w s.buffer.items s.broken c.in-Some-within.is usable c.self.invariant in
    delete-groups told s.disk s.layout sp s.state w s.buffer.items name i part store here

pub take_away-requires-clause-short : goal.take_away-requires-clause-short
take_away-requires-clause-short g c =
    let s = c.self.inside in
    let told = g.K.Disk.told in
    let name = c.args.name.now in
    let sp = c.in-Some.s in
    let i = c.in-Some.place in
    let w = c.in-Some-within.within in
    let found = subst (λ n. IsFound s.layout.super_part (table_within s.within) n c.find_in_table.result) c.bytes.ensures.bytes c.find_in_table.ensures in
    let part = found-part s.layout.super_part (table_within s.within) name c.find_in_table.result sp i found c.in-Some.is in
    let here = found-place s.layout.super_part (content w.table) name c.find_in_table.result sp i
    (subst (λ v. IsFound s.layout.super_part (table_within v) name c.find_in_table.result) c.in-Some-within.is found) c.in-Some.is in
    let usable = ap (λ h. h.broken) c.self.view_is ∙ c.requires.usable in
    let store = opened-in told s.disk s.layout s.state s.within w s.buffer.items s.broken c.in-Some-within.is usable c.self.invariant in
    delete-short told s.disk s.layout sp s.state w s.buffer.items name i part store here

pub take_away-requires-clause-there : goal.take_away-requires-clause-there
take_away-requires-clause-there g c =
    let s = c.self.inside in
    let told = g.K.Disk.told in
    let name = c.args.name.now in
    let sp = c.in-Some.s in
    let i = c.in-Some.place in
    let w = c.in-Some-within.within in
    let found = subst (λ n. IsFound s.layout.super_part (table_within s.within) n c.find_in_table.result) c.bytes.ensures.bytes c.find_in_table.ensures in
    let part = found-part s.layout.super_part (table_within s.within) name c.find_in_table.result sp i found c.in-Some.is in
    let here = found-place s.layout.super_part (content w.table) name c.find_in_table.result sp i
    (subst (λ v. IsFound s.layout.super_part (table_within v) name c.find_in_table.result) c.in-Some-within.is found) c.in-Some.is in
    let usable = ap (λ h. h.broken) c.self.view_is ∙ c.requires.usable in
    let store = opened-in told s.disk s.layout s.state s.within w s.buffer.items s.broken c.in-Some-within.is usable c.self.invariant in
    delete-inside told s.disk s.layout sp s.state w s.buffer.items name i part store here

pub take_away-requires-clause-fits : goal.take_away-requires-clause-fits
take_away-requires-clause-fits g c =
    let s = c.self.inside in
    let told = g.K.Disk.told in
    let name = c.args.name.now in
    let sp = c.in-Some.s in
    let i = c.in-Some.place in
    let w = c.in-Some-within.within in
    let found = subst (λ n. IsFound s.layout.super_part (table_within s.within) n c.find_in_table.result) c.bytes.ensures.bytes c.find_in_table.ensures in
    let part = found-part s.layout.super_part (table_within s.within) name c.find_in_table.result sp i found c.in-Some.is in
    let here = found-place s.layout.super_part (content w.table) name c.find_in_table.result sp i
    (subst (λ v. IsFound s.layout.super_part (table_within v) name c.find_in_table.result) c.in-Some-within.is found) c.in-Some.is in
    let usable = ap (λ h. h.broken) c.self.view_is ∙ c.requires.usable in
    let store = opened-in told s.disk s.layout s.state s.within w s.buffer.items s.broken c.in-Some-within.is usable c.self.invariant in
    delete-place told s.disk s.layout sp s.state w s.buffer.items name i part store here

pub put_next-requires-clause-bounded : goal.put_next-requires-clause-bounded
put_next-requires-clause-bounded g c =
    let s = c.self.inside in
    let told = g.K.Disk.told in
    let name = c.args.name.now in
    let sp = c.in-Some.s in
    let i = c.in-Some.place in
    let w = c.in-Some-within.within in
    let found = subst (λ n. IsFound s.layout.super_part (table_within s.within) n c.find_in_table.result) c.bytes.ensures.bytes c.find_in_table.ensures in
    let part = found-part s.layout.super_part (table_within s.within) name c.find_in_table.result sp i found c.in-Some.is in
    let here = found-place s.layout.super_part (content w.table) name c.find_in_table.result sp i
    (subst (λ v. IsFound s.layout.super_part (table_within v) name c.find_in_table.result) c.in-Some-within.is found) c.in-Some.is in
    let usable = ap (λ h. h.broken) c.self.view_is ∙ c.requires.usable in
    let store = opened-in told s.disk s.layout s.state s.within w s.buffer.items s.broken c.in-Some-within.is usable c.self.invariant in
    bounds-in told s.disk s.layout sp s.state w s.buffer.items part store

pub put_next-requires-clause-inside : goal.put_next-requires-clause-inside
put_next-requires-clause-inside g c =
    let s = c.self.inside in
    let told = g.K.Disk.told in
    let name = c.args.name.now in
    let sp = c.in-Some.s in
    let i = c.in-Some.place in
    let w = c.in-Some-within.within in
    let found = subst (λ n. IsFound s.layout.super_part (table_within s.within) n c.find_in_table.result) c.bytes.ensures.bytes c.find_in_table.ensures in
    let part = found-part s.layout.super_part (table_within s.within) name c.find_in_table.result sp i found c.in-Some.is in
    let here = found-place s.layout.super_part (content w.table) name c.find_in_table.result sp i
    (subst (λ v. IsFound s.layout.super_part (table_within v) name c.find_in_table.result) c.in-Some-within.is found) c.in-Some.is in
    let usable = ap (λ h. h.broken) c.self.view_is ∙ c.requires.usable in
    let store = opened-in told s.disk s.layout s.state s.within w s.buffer.items s.broken c.in-Some-within.is usable c.self.invariant in
    inside-in told s.disk s.layout sp s.state w s.buffer.items c.parts_end-at.result part store c.parts_end-at.ensures.end

pub put_next-requires-clause-end : goal.put_next-requires-clause-end
put_next-requires-clause-end g c =
    let s = c.self.inside in
    let told = g.K.Disk.told in
    let name = c.args.name.now in
    let sp = c.in-Some.s in
    let i = c.in-Some.place in
    let w = c.in-Some-within.within in
    let found = subst (λ n. IsFound s.layout.super_part (table_within s.within) n c.find_in_table.result) c.bytes.ensures.bytes c.find_in_table.ensures in
    let part = found-part s.layout.super_part (table_within s.within) name c.find_in_table.result sp i found c.in-Some.is in
    let here = found-place s.layout.super_part (content w.table) name c.find_in_table.result sp i
    (subst (λ v. IsFound s.layout.super_part (table_within v) name c.find_in_table.result) c.in-Some-within.is found) c.in-Some.is in
    let usable = ap (λ h. h.broken) c.self.view_is ∙ c.requires.usable in
    let store = opened-in told s.disk s.layout s.state s.within w s.buffer.items s.broken c.in-Some-within.is usable c.self.invariant in
    end-in s.layout sp c.parts_end-at.result (bounds-in told s.disk s.layout sp s.state w s.buffer.items part store) c.parts_end-at.ensures.bounded

pub put_next-requires-clause-sound : goal.put_next-requires-clause-sound
put_next-requires-clause-sound g c =
    let s = c.self.inside in
    let told = g.K.Disk.told in
    let name = c.args.name.now in
    let sp = c.in-Some.s in
    let i = c.in-Some.place in
    let w = c.in-Some-within.within in
    let found = subst (λ n. IsFound s.layout.super_part (table_within s.within) n c.find_in_table.result) c.bytes.ensures.bytes c.find_in_table.ensures in
    let part = found-part s.layout.super_part (table_within s.within) name c.find_in_table.result sp i found c.in-Some.is in
    let here = found-place s.layout.super_part (content w.table) name c.find_in_table.result sp i
    (subst (λ v. IsFound s.layout.super_part (table_within v) name c.find_in_table.result) c.in-Some-within.is found) c.in-Some.is in
    let usable = ap (λ h. h.broken) c.self.view_is ∙ c.requires.usable in
    let store = opened-in told s.disk s.layout s.state s.within w s.buffer.items s.broken c.in-Some-within.is usable c.self.invariant in
    let x = c.take_away.new.self in
    let ready = delete-ready told s.disk s.layout sp s.state w s.buffer.items name i part store here x c.take_away.ensures.planned c.take_away.ensures.parts in
    next-sound s.layout sp _ x (bounds-in told s.disk s.layout sp s.state w s.buffer.items part store) ready.next

pub put_next-requires-clause-fits : goal.put_next-requires-clause-fits
put_next-requires-clause-fits g c =
    let s = c.self.inside in
    let told = g.K.Disk.told in
    let name = c.args.name.now in
    let sp = c.in-Some.s in
    let i = c.in-Some.place in
    let w = c.in-Some-within.within in
    let found = subst (λ n. IsFound s.layout.super_part (table_within s.within) n c.find_in_table.result) c.bytes.ensures.bytes c.find_in_table.ensures in
    let part = found-part s.layout.super_part (table_within s.within) name c.find_in_table.result sp i found c.in-Some.is in
    let here = found-place s.layout.super_part (content w.table) name c.find_in_table.result sp i
    (subst (λ v. IsFound s.layout.super_part (table_within v) name c.find_in_table.result) c.in-Some-within.is found) c.in-Some.is in
    let usable = ap (λ h. h.broken) c.self.view_is ∙ c.requires.usable in
    let store = opened-in told s.disk s.layout s.state s.within w s.buffer.items s.broken c.in-Some-within.is usable c.self.invariant in
    let x = c.take_away.new.self in
    let ready = delete-ready told s.disk s.layout sp s.state w s.buffer.items name i part store here x c.take_away.ensures.planned c.take_away.ensures.parts in
    next-fits s.layout sp _ x (bounds-in told s.disk s.layout sp s.state w s.buffer.items part store) ready.next

pub put_next-requires-clause-long : goal.put_next-requires-clause-long
put_next-requires-clause-long g c =
    let s = c.self.inside in
    let told = g.K.Disk.told in
    let name = c.args.name.now in
    let sp = c.in-Some.s in
    let i = c.in-Some.place in
    let w = c.in-Some-within.within in
    let found = subst (λ n. IsFound s.layout.super_part (table_within s.within) n c.find_in_table.result) c.bytes.ensures.bytes c.find_in_table.ensures in
    let part = found-part s.layout.super_part (table_within s.within) name c.find_in_table.result sp i found c.in-Some.is in
    let here = found-place s.layout.super_part (content w.table) name c.find_in_table.result sp i
    (subst (λ v. IsFound s.layout.super_part (table_within v) name c.find_in_table.result) c.in-Some-within.is found) c.in-Some.is in
    let usable = ap (λ h. h.broken) c.self.view_is ∙ c.requires.usable in
    let store = opened-in told s.disk s.layout s.state s.within w s.buffer.items s.broken c.in-Some-within.is usable c.self.invariant in
    (λ j. length (c.take_away.ensures.planned.copy j).items) ∙ (super-in told s.disk s.layout sp s.state w s.buffer.items part store).spelled.long

pub invariant_of-self : goal.invariant_of-self
invariant_of-self g c =
    let s = c.self.inside in
    let told = g.K.Disk.told in
    let name = c.args.name.now in
    let sp = c.in-Some.s in
    let i = c.in-Some.place in
    let w = c.in-Some-within.within in
    let found = subst (λ n. IsFound s.layout.super_part (table_within s.within) n c.find_in_table.result) c.bytes.ensures.bytes c.find_in_table.ensures in
    let part = found-part s.layout.super_part (table_within s.within) name c.find_in_table.result sp i found c.in-Some.is in
    let here = found-place s.layout.super_part (content w.table) name c.find_in_table.result sp i
    (subst (λ v. IsFound s.layout.super_part (table_within v) name c.find_in_table.result) c.in-Some-within.is found) c.in-Some.is in
    let usable = ap (λ h. h.broken) c.self.view_is ∙ c.requires.usable in
    let store = opened-in told s.disk s.layout s.state s.within w s.buffer.items s.broken c.in-Some-within.is usable c.self.invariant in
    let x = c.take_away.new.self in
    let ready = delete-ready told s.disk s.layout sp s.state w s.buffer.items name i part store here x c.take_away.ensures.planned c.take_away.ensures.parts in
    let y = c.put_next.new.within in
    let at = c.parts_end-at.result in
    let new = c.put_next.new.disk in
    let put : IsPut told s.disk new sp at x y = record {
      written = c.in-Ok.ensures.written;
      put = c.in-Ok.ensures.put;
      spelled = c.in-Ok.ensures.spelled;
      rooms = c.put_next.ensures.rooms c.take_away.ensures.planned.rooms;
      owners = c.put_next.ensures.owners;
      parts = c.put_next.ensures.parts;
      kept = c.put_next.ensures.kept;
    } in
    subst (λ b. IsStored told (held_by told new s.layout s.state (Some y) b) s.layout s.state (Some y) s.buffer.items) (sym usable)
    (put-stored told s.disk new s.layout sp at s.state w s.buffer.items (deleted name (device_held s.layout s.state (Some (content w.table)) (open_bytes (told s.disk)))) x y ready c.parts_end-at.ensures.end put)

pub invariant_of-self-in_default-put_next : goal.invariant_of-self-in_default-put_next
invariant_of-self-in_default-put_next g c =
    let s = c.self.inside in
    let told = g.K.Disk.told in
    let name = c.args.name.now in
    let sp = c.in-Some.s in
    let i = c.in-Some.place in
    let w = c.in-Some-within.within in
    let found = subst (λ n. IsFound s.layout.super_part (table_within s.within) n c.find_in_table.result) c.bytes.ensures.bytes c.find_in_table.ensures in
    let part = found-part s.layout.super_part (table_within s.within) name c.find_in_table.result sp i found c.in-Some.is in
    let here = found-place s.layout.super_part (content w.table) name c.find_in_table.result sp i
    (subst (λ v. IsFound s.layout.super_part (table_within v) name c.find_in_table.result) c.in-Some-within.is found) c.in-Some.is in
    let usable = ap (λ h. h.broken) c.self.view_is ∙ c.requires.usable in
    let store = opened-in told s.disk s.layout s.state s.within w s.buffer.items s.broken c.in-Some-within.is usable c.self.invariant in
    let x = c.take_away.new.self in
    let ready = delete-ready told s.disk s.layout sp s.state w s.buffer.items name i part store here x c.take_away.ensures.planned c.take_away.ensures.parts in
    let y = c.put_next.new.within in
    let at = c.parts_end-at.result in
    let new = c.put_next.new.disk in
    let unput : IsUnput told s.disk new sp at x y = record {
      around = c.in_default-put_next.ensures.around;
      says = c.put_next.ensures.says;
      stays = c.in_default-put_next.ensures.stays;
      kept = c.put_next.ensures.kept;
    } in
    fail-stored told s.disk new s.layout sp at s.state w s.buffer.items (deleted name (device_held s.layout s.state (Some (content w.table)) (open_bytes (told s.disk)))) x y ready c.parts_end-at.ensures.end unput

pub returns-in_default-put_next-clause-decided : goal.returns-in_default-put_next-clause-decided
returns-in_default-put_next-clause-decided g c =
    let s = c.self.inside in
    let told = g.K.Disk.told in
    let name = c.args.name.now in
    let sp = c.in-Some.s in
    let i = c.in-Some.place in
    let w = c.in-Some-within.within in
    let found = subst (λ n. IsFound s.layout.super_part (table_within s.within) n c.find_in_table.result) c.bytes.ensures.bytes c.find_in_table.ensures in
    let part = found-part s.layout.super_part (table_within s.within) name c.find_in_table.result sp i found c.in-Some.is in
    let here = found-place s.layout.super_part (content w.table) name c.find_in_table.result sp i
    (subst (λ v. IsFound s.layout.super_part (table_within v) name c.find_in_table.result) c.in-Some-within.is found) c.in-Some.is in
    let usable = ap (λ h. h.broken) c.self.view_is ∙ c.requires.usable in
    let store = opened-in told s.disk s.layout s.state s.within w s.buffer.items s.broken c.in-Some-within.is usable c.self.invariant in
    let view = (λ j. held_by told s.disk s.layout s.state (sym c.in-Some-within.is j) (sym usable j)) ∙ c.self.view_is in
    no-flaw-err (Unit {0}) told _ c.args.self.now _ (ap (λ h. delete_flaw h.device name) (sym view) ∙ there-flaw (device_held s.layout s.state (Some (content w.table)) (open_bytes (told s.disk))) name (delete-there told s.disk s.layout sp s.state w s.buffer.items name i part store here))
    (subst (λ h. Rose (told h.disk).faults (told c.put_next.new.disk).faults) view c.in_default-put_next.ensures.cause)

pub returns-in_default-put_next-clause-around : goal.returns-in_default-put_next-clause-around
returns-in_default-put_next-clause-around g c =
    let s = c.self.inside in
    let told = g.K.Disk.told in
    let name = c.args.name.now in
    let sp = c.in-Some.s in
    let i = c.in-Some.place in
    let w = c.in-Some-within.within in
    let found = subst (λ n. IsFound s.layout.super_part (table_within s.within) n c.find_in_table.result) c.bytes.ensures.bytes c.find_in_table.ensures in
    let part = found-part s.layout.super_part (table_within s.within) name c.find_in_table.result sp i found c.in-Some.is in
    let here = found-place s.layout.super_part (content w.table) name c.find_in_table.result sp i
    (subst (λ v. IsFound s.layout.super_part (table_within v) name c.find_in_table.result) c.in-Some-within.is found) c.in-Some.is in
    let usable = ap (λ h. h.broken) c.self.view_is ∙ c.requires.usable in
    let store = opened-in told s.disk s.layout s.state s.within w s.buffer.items s.broken c.in-Some-within.is usable c.self.invariant in
    let x = c.take_away.new.self in
    let ready = delete-ready told s.disk s.layout sp s.state w s.buffer.items name i part store here x c.take_away.ensures.planned c.take_away.ensures.parts in
    let y = c.put_next.new.within in
    let at = c.parts_end-at.result in
    let new = c.put_next.new.disk in
    let unput : IsUnput told s.disk new sp at x y = record {
      around = c.in_default-put_next.ensures.around;
      says = c.put_next.ensures.says;
      stays = c.in_default-put_next.ensures.stays;
      kept = c.put_next.ensures.kept;
    } in
    let view = (λ j. held_by told s.disk s.layout s.state (sym c.in-Some-within.is j) (sym usable j)) ∙ c.self.view_is in
    λ e honest. subst (λ h. StandsAround (open_bytes (told new)) h.device (deleted name h.device)) view
    (fail-around told s.disk new s.layout sp at s.state w s.buffer.items (deleted name (device_held s.layout s.state (Some (content w.table)) (open_bytes (told s.disk)))) x y ready c.parts_end-at.ensures.end unput honest)

pub returns-clause-decided : goal.returns-clause-decided
returns-clause-decided g c =
    let s = c.self.inside in
    let told = g.K.Disk.told in
    let name = c.args.name.now in
    let sp = c.in-Some.s in
    let i = c.in-Some.place in
    let w = c.in-Some-within.within in
    let found = subst (λ n. IsFound s.layout.super_part (table_within s.within) n c.find_in_table.result) c.bytes.ensures.bytes c.find_in_table.ensures in
    let part = found-part s.layout.super_part (table_within s.within) name c.find_in_table.result sp i found c.in-Some.is in
    let here = found-place s.layout.super_part (content w.table) name c.find_in_table.result sp i
    (subst (λ v. IsFound s.layout.super_part (table_within v) name c.find_in_table.result) c.in-Some-within.is found) c.in-Some.is in
    let usable = ap (λ h. h.broken) c.self.view_is ∙ c.requires.usable in
    let store = opened-in told s.disk s.layout s.state s.within w s.buffer.items s.broken c.in-Some-within.is usable c.self.invariant in
    let view = (λ j. held_by told s.disk s.layout s.state (sym c.in-Some-within.is j) (sym usable j)) ∙ c.self.view_is in
    no-flaw-ok told _ c.args.self.now _ tt (ap (λ h. delete_flaw h.device name) (sym view) ∙ there-flaw (device_held s.layout s.state (Some (content w.table)) (open_bytes (told s.disk))) name (delete-there told s.disk s.layout sp s.state w s.buffer.items name i part store here))

pub returns-clause-changed : goal.returns-clause-changed
returns-clause-changed g c =
    let s = c.self.inside in
    let told = g.K.Disk.told in
    let name = c.args.name.now in
    let sp = c.in-Some.s in
    let i = c.in-Some.place in
    let w = c.in-Some-within.within in
    let found = subst (λ n. IsFound s.layout.super_part (table_within s.within) n c.find_in_table.result) c.bytes.ensures.bytes c.find_in_table.ensures in
    let part = found-part s.layout.super_part (table_within s.within) name c.find_in_table.result sp i found c.in-Some.is in
    let here = found-place s.layout.super_part (content w.table) name c.find_in_table.result sp i
    (subst (λ v. IsFound s.layout.super_part (table_within v) name c.find_in_table.result) c.in-Some-within.is found) c.in-Some.is in
    let usable = ap (λ h. h.broken) c.self.view_is ∙ c.requires.usable in
    let store = opened-in told s.disk s.layout s.state s.within w s.buffer.items s.broken c.in-Some-within.is usable c.self.invariant in
    let x = c.take_away.new.self in
    let ready = delete-ready told s.disk s.layout sp s.state w s.buffer.items name i part store here x c.take_away.ensures.planned c.take_away.ensures.parts in
    let y = c.put_next.new.within in
    let at = c.parts_end-at.result in
    let new = c.put_next.new.disk in
    let put : IsPut told s.disk new sp at x y = record {
      written = c.in-Ok.ensures.written;
      put = c.in-Ok.ensures.put;
      spelled = c.in-Ok.ensures.spelled;
      rooms = c.put_next.ensures.rooms c.take_away.ensures.planned.rooms;
      owners = c.put_next.ensures.owners;
      parts = c.put_next.ensures.parts;
      kept = c.put_next.ensures.kept;
    } in
    let view = (λ j. held_by told s.disk s.layout s.state (sym c.in-Some-within.is j) (sym usable j)) ∙ c.self.view_is in
    put-seen told s.disk new s.layout sp at s.state w s.buffer.items (deleted name (device_held s.layout s.state (Some (content w.table)) (open_bytes (told s.disk)))) x y ready c.parts_end-at.ensures.end put
    ∙ ap (λ h. seen (open_bytes (told new)) (deleted name h.device)) view

pub returns-clause-handed : goal.returns-clause-handed
returns-clause-handed g c =
    let s = c.self.inside in
    let told = g.K.Disk.told in
    let name = c.args.name.now in
    let sp = c.in-Some.s in
    let i = c.in-Some.place in
    let w = c.in-Some-within.within in
    let found = subst (λ n. IsFound s.layout.super_part (table_within s.within) n c.find_in_table.result) c.bytes.ensures.bytes c.find_in_table.ensures in
    let part = found-part s.layout.super_part (table_within s.within) name c.find_in_table.result sp i found c.in-Some.is in
    let here = found-place s.layout.super_part (content w.table) name c.find_in_table.result sp i
    (subst (λ v. IsFound s.layout.super_part (table_within v) name c.find_in_table.result) c.in-Some-within.is found) c.in-Some.is in
    let usable = ap (λ h. h.broken) c.self.view_is ∙ c.requires.usable in
    let store = opened-in told s.disk s.layout s.state s.within w s.buffer.items s.broken c.in-Some-within.is usable c.self.invariant in
    let x = c.take_away.new.self in
    let ready = delete-ready told s.disk s.layout sp s.state w s.buffer.items name i part store here x c.take_away.ensures.planned c.take_away.ensures.parts in
    let y = c.put_next.new.within in
    let at = c.parts_end-at.result in
    let new = c.put_next.new.disk in
    let put : IsPut told s.disk new sp at x y = record {
      written = c.in-Ok.ensures.written;
      put = c.in-Ok.ensures.put;
      spelled = c.in-Ok.ensures.spelled;
      rooms = c.put_next.ensures.rooms c.take_away.ensures.planned.rooms;
      owners = c.put_next.ensures.owners;
      parts = c.put_next.ensures.parts;
      kept = c.put_next.ensures.kept;
    } in
    let view = (λ j. held_by told s.disk s.layout s.state (sym c.in-Some-within.is j) (sym usable j)) ∙ c.self.view_is in
    subst (λ h. IsReleased name h (held_by told new s.layout s.state (Some y) s.broken)) view
    (subst (λ b. IsReleased name (held_by told s.disk s.layout s.state (Some w) false) (held_by told new s.layout s.state (Some y) b)) (sym usable)
    (delete-released told s.disk s.layout sp s.state w s.buffer.items name i part store here new at x y c.take_away.ensures.planned c.take_away.ensures.parts c.parts_end-at.ensures.end put))

pub returns-clause-table : goal.returns-clause-table
returns-clause-table g c =
    let s = c.self.inside in
    let told = g.K.Disk.told in
    let name = c.args.name.now in
    let sp = c.in-Some.s in
    let i = c.in-Some.place in
    let w = c.in-Some-within.within in
    let found = subst (λ n. IsFound s.layout.super_part (table_within s.within) n c.find_in_table.result) c.bytes.ensures.bytes c.find_in_table.ensures in
    let part = found-part s.layout.super_part (table_within s.within) name c.find_in_table.result sp i found c.in-Some.is in
    let here = found-place s.layout.super_part (content w.table) name c.find_in_table.result sp i
    (subst (λ v. IsFound s.layout.super_part (table_within v) name c.find_in_table.result) c.in-Some-within.is found) c.in-Some.is in
    let usable = ap (λ h. h.broken) c.self.view_is ∙ c.requires.usable in
    let store = opened-in told s.disk s.layout s.state s.within w s.buffer.items s.broken c.in-Some-within.is usable c.self.invariant in
    let x = c.take_away.new.self in
    let ready = delete-ready told s.disk s.layout sp s.state w s.buffer.items name i part store here x c.take_away.ensures.planned c.take_away.ensures.parts in
    let y = c.put_next.new.within in
    let at = c.parts_end-at.result in
    let new = c.put_next.new.disk in
    let put : IsPut told s.disk new sp at x y = record {
      written = c.in-Ok.ensures.written;
      put = c.in-Ok.ensures.put;
      spelled = c.in-Ok.ensures.spelled;
      rooms = c.put_next.ensures.rooms c.take_away.ensures.planned.rooms;
      owners = c.put_next.ensures.owners;
      parts = c.put_next.ensures.parts;
      kept = c.put_next.ensures.kept;
    } in
    subst (λ b. IsTableWritten told (held_by told new s.layout s.state (Some y) b)) (sym usable)
    (put-written told s.disk new s.layout sp at s.state w s.buffer.items (deleted name (device_held s.layout s.state (Some (content w.table)) (open_bytes (told s.disk)))) x y ready c.parts_end-at.ensures.end put)

pub returns-clause-whole : goal.returns-clause-whole
returns-clause-whole g c =
    let s = c.self.inside in
    let told = g.K.Disk.told in
    let name = c.args.name.now in
    let sp = c.in-Some.s in
    let i = c.in-Some.place in
    let w = c.in-Some-within.within in
    let found = subst (λ n. IsFound s.layout.super_part (table_within s.within) n c.find_in_table.result) c.bytes.ensures.bytes c.find_in_table.ensures in
    let part = found-part s.layout.super_part (table_within s.within) name c.find_in_table.result sp i found c.in-Some.is in
    let here = found-place s.layout.super_part (content w.table) name c.find_in_table.result sp i
    (subst (λ v. IsFound s.layout.super_part (table_within v) name c.find_in_table.result) c.in-Some-within.is found) c.in-Some.is in
    let usable = ap (λ h. h.broken) c.self.view_is ∙ c.requires.usable in
    let store = opened-in told s.disk s.layout s.state s.within w s.buffer.items s.broken c.in-Some-within.is usable c.self.invariant in
    let x = c.take_away.new.self in
    let ready = delete-ready told s.disk s.layout sp s.state w s.buffer.items name i part store here x c.take_away.ensures.planned c.take_away.ensures.parts in
    let y = c.put_next.new.within in
    let at = c.parts_end-at.result in
    let new = c.put_next.new.disk in
    let put : IsPut told s.disk new sp at x y = record {
      written = c.in-Ok.ensures.written;
      put = c.in-Ok.ensures.put;
      spelled = c.in-Ok.ensures.spelled;
      rooms = c.put_next.ensures.rooms c.take_away.ensures.planned.rooms;
      owners = c.put_next.ensures.owners;
      parts = c.put_next.ensures.parts;
      kept = c.put_next.ensures.kept;
    } in
    subst (λ b. IsWhole told (held_by told new s.layout s.state (Some y) b)) (sym usable)
    (put-whole told s.disk new s.layout sp at s.state w s.buffer.items (deleted name (device_held s.layout s.state (Some (content w.table)) (open_bytes (told s.disk)))) x y ready c.parts_end-at.ensures.end put)
