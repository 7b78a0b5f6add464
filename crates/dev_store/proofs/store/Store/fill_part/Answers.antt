use Rattle.std.proofs.Common.{rules, ◌≡◌, ◌∙◌, ◌++◌, refl, ap, sym, subst, length, take, drop, true, Ok, Err}
use Rattle.dev_disk.specs.Disks.{open_bytes}
use Rattle.dev_store.specs.declared.errors.StoreError.TheVariants.{Disk}
use Rattle.dev_store.specs.Changes.{range_flaw, put_at, repeated}
use Rattle.dev_store.specs.Held.{device_held, seen}
use Rattle.dev_store.specs.Reading.{held_by, table_within}
use Rattle.dev_store.specs.StoreCalls.{Decided, IsPartly}
use Rattle.dev_store.proofs.PartRanges.{decided-refused, decided-fault, decided-done}
use Rattle.dev_store.proofs.PartCalls.{left-partly, put-body, left-body, body-stored, body-whole, body-sound}
use Rattle.dev_store.proofs.PartFilling.{IsFilled, buffer-filled}
use Rattle.dev_store.proofs.store.Store.fill_part.Goals as goal

pub fill_pieces-requires-clause-repeated : goal.fill_pieces-requires-clause-repeated
fill_pieces-requires-clause-repeated g c =
    let s = c.self.inside in
    let after = take s.buffer.len (c.repeat.new.buffer ++ drop (length c.repeat.new.buffer) s.buffer.items) in
    let filled : IsFilled c.args.pattern s.buffer.items after =
    buffer-filled s.buffer.len (length c.deref_mut.result.now) s.buffer.items c.repeat.new.buffer c.args.pattern (sym c.deref_mut.ensures.len ∙ ap length c.deref_mut.ensures.value)
    (ap length c.deref_mut.ensures.value) c.self.invariant.room (search rules) c.repeat.ensures c.repeat.auto.buffer in
    subst (λ xs. xs ≡ repeated (length xs) (take 4 xs)) (sym c.deref.ensures.value) filled.repeats

pub returns-clause-filled : goal.returns-clause-filled
unfolding device_held
returns-clause-filled g c =
    let s = c.self.inside in
    let told = g.K.Disk.told in
    let table = table_within s.within in
    let new = open_bytes (told c.fill_pieces.new.disk) in
    let after = take s.buffer.len (c.repeat.new.buffer ++ drop (length c.repeat.new.buffer) s.buffer.items) in
    let filled : IsFilled c.args.pattern s.buffer.items after =
    buffer-filled s.buffer.len (length c.deref_mut.result.now) s.buffer.items c.repeat.new.buffer c.args.pattern (sym c.deref_mut.ensures.len ∙ ap length c.deref_mut.ensures.value)
    (ap length c.deref_mut.ensures.value) c.self.invariant.room (search rules) c.repeat.ensures c.repeat.auto.buffer in
    let front : take 4 c.deref.result.now ≡ c.args.pattern = ap (take 4) c.deref.ensures.value ∙ filled.front in
    (c.in-Ok-fill_pieces.ensures.written s.layout s.state table c.args.name.now c.in-Ok.ensures.place c.self.invariant.kept).device
    ∙ (ap (λ p. seen new (put_at c.args.name.now c.args.at (repeated c.args.length p) (device_held s.layout s.state table (open_bytes (told s.disk))))) front
    ∙ ap (λ h. seen new (put_at c.args.name.now c.args.at (repeated c.args.length c.args.pattern) h.device)) c.self.view_is)

pub returns-in-Err-clause-decided : goal.returns-in-Err-clause-decided
returns-in-Err-clause-decided g c =
    let s = c.self.inside in
    let told = g.K.Disk.told in
    let n = c.args.length in
    subst (λ h. Decided {T = Unit {0}} told (range_flaw h.device c.args.name.now c.args.at n) h c.args.self.now (Err c.in-Err.refusal)) c.self.view_is
    (decided-refused told s.disk s.layout s.state s.within s.broken c.args.name.now c.args.at n c.in-Err.refusal c.args.self.now c.self.invariant.kept (c.in-Err.ensures.refused c.in-Err.refusal refl))

pub invariant_of-self-in_default : goal.invariant_of-self-in_default
invariant_of-self-in_default g c =
    let s = c.self.inside in
    let after = take s.buffer.len (c.repeat.new.buffer ++ drop (length c.repeat.new.buffer) s.buffer.items) in
    let filled : IsFilled c.args.pattern s.buffer.items after =
    buffer-filled s.buffer.len (length c.deref_mut.result.now) s.buffer.items c.repeat.new.buffer c.args.pattern (sym c.deref_mut.ensures.len ∙ ap length c.deref_mut.ensures.value)
    (ap length c.deref_mut.ensures.value) c.self.invariant.room (search rules) c.repeat.ensures c.repeat.auto.buffer in
    let told = g.K.Disk.told in
    let new = c.fill_pieces.new.disk in
    let body = left-body s.layout s.state (table_within s.within) c.args.name.now c.in-Ok.part c.args.at c.args.length (open_bytes (told s.disk)) (open_bytes (told new))
    c.in-Ok.ensures.place c.self.invariant.kept c.in_default.ensures.left in
    body-stored told s.disk new s.layout s.state s.within s.buffer.items after s.broken true (ap (λ h. h.broken) c.self.view_is ∙ c.requires.usable) c.self.invariant body c.fill_pieces.ensures.kept filled.long

pub returns-in_default-clause-decided : goal.returns-in_default-clause-decided
returns-in_default-clause-decided g c =
    let s = c.self.inside in
    let told = g.K.Disk.told in
    let n = c.args.length in
    let after = held_by told c.fill_pieces.new.disk s.layout s.state s.within true in
    subst (λ h. Decided {T = Unit {0}} told (range_flaw h.device c.args.name.now c.args.at n) h after (Err Disk)) c.self.view_is
    (decided-fault told s.disk s.layout s.state s.within s.broken c.args.name.now c.args.at n after c.self.invariant.kept c.in-Ok.ensures.taken c.in_default.ensures.cause)

pub returns-in_default-clause-part : goal.returns-in_default-clause-part
unfolding device_held
returns-in_default-clause-part g c = λ _.
    let s = c.self.inside in
    let told = g.K.Disk.told in
    let table = table_within s.within in
    let new = open_bytes (told c.fill_pieces.new.disk) in
    subst (λ h. IsPartly c.args.name.now c.args.at c.args.length h.device (device_held s.layout s.state table new)) c.self.view_is
    (left-partly s.layout s.state table c.args.name.now c.in-Ok.part c.args.at c.args.length (open_bytes (told s.disk)) new c.in-Ok.ensures.place c.self.invariant.kept c.in-Ok.ensures.fits c.in_default.ensures.left)

pub returns-in_default-clause-sound : goal.returns-in_default-clause-sound
returns-in_default-clause-sound g c =
    let s = c.self.inside in
    let told = g.K.Disk.told in
    let new = c.fill_pieces.new.disk in
    let body = left-body s.layout s.state (table_within s.within) c.args.name.now c.in-Ok.part c.args.at c.args.length (open_bytes (told s.disk)) (open_bytes (told new))
    c.in-Ok.ensures.place c.self.invariant.kept c.in_default.ensures.left in
    body-sound told s.disk new s.layout s.state s.within s.buffer.items s.broken true (ap (λ h. h.broken) c.self.view_is ∙ c.requires.usable) c.self.invariant body

pub invariant_of-self : goal.invariant_of-self
invariant_of-self g c =
    let s = c.self.inside in
    let after = take s.buffer.len (c.repeat.new.buffer ++ drop (length c.repeat.new.buffer) s.buffer.items) in
    let filled : IsFilled c.args.pattern s.buffer.items after =
    buffer-filled s.buffer.len (length c.deref_mut.result.now) s.buffer.items c.repeat.new.buffer c.args.pattern (sym c.deref_mut.ensures.len ∙ ap length c.deref_mut.ensures.value)
    (ap length c.deref_mut.ensures.value) c.self.invariant.room (search rules) c.repeat.ensures c.repeat.auto.buffer in
    let told = g.K.Disk.told in
    let new = c.fill_pieces.new.disk in
    let body = put-body s.layout s.state (table_within s.within) c.args.name.now c.in-Ok.part c.args.at (repeated c.args.length (take 4 c.deref.result.now)) (open_bytes (told s.disk)) (open_bytes (told new))
    c.in-Ok.ensures.place c.self.invariant.kept c.in-Ok-fill_pieces.ensures.written in
    body-stored told s.disk new s.layout s.state s.within s.buffer.items after s.broken s.broken (ap (λ h. h.broken) c.self.view_is ∙ c.requires.usable) c.self.invariant body c.fill_pieces.ensures.kept filled.long

pub returns-clause-decided : goal.returns-clause-decided
returns-clause-decided g c =
    let s = c.self.inside in
    let told = g.K.Disk.told in
    let n = c.args.length in
    let after = held_by told c.fill_pieces.new.disk s.layout s.state s.within s.broken in
    subst (λ h. Decided {T = Unit {0}} told (range_flaw h.device c.args.name.now c.args.at n) h after (Ok tt)) c.self.view_is
    (decided-done told s.disk s.layout s.state s.within s.broken c.args.name.now c.args.at n after c.self.invariant.kept c.in-Ok.ensures.taken)

pub returns-clause-whole : goal.returns-clause-whole
returns-clause-whole g c =
    let s = c.self.inside in
    let told = g.K.Disk.told in
    let new = c.fill_pieces.new.disk in
    let body = put-body s.layout s.state (table_within s.within) c.args.name.now c.in-Ok.part c.args.at (repeated c.args.length (take 4 c.deref.result.now)) (open_bytes (told s.disk)) (open_bytes (told new))
    c.in-Ok.ensures.place c.self.invariant.kept c.in-Ok-fill_pieces.ensures.written in
    body-whole told s.disk new s.layout s.state s.within s.buffer.items s.broken (ap (λ h. h.broken) c.self.view_is ∙ c.requires.usable) c.self.invariant body

pub returns-clause-sound : goal.returns-clause-sound
returns-clause-sound g c =
    let s = c.self.inside in
    let told = g.K.Disk.told in
    let new = c.fill_pieces.new.disk in
    let body = put-body s.layout s.state (table_within s.within) c.args.name.now c.in-Ok.part c.args.at (repeated c.args.length (take 4 c.deref.result.now)) (open_bytes (told s.disk)) (open_bytes (told new))
    c.in-Ok.ensures.place c.self.invariant.kept c.in-Ok-fill_pieces.ensures.written in
    body-sound told s.disk new s.layout s.state s.within s.buffer.items s.broken s.broken (ap (λ h. h.broken) c.self.view_is ∙ c.requires.usable) c.self.invariant body
