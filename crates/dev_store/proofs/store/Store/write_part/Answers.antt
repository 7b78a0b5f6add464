use Rattle.std.proofs.Common.{◌∙◌, refl, ap, subst, length, true, Ok, Err}
use Rattle.dev_disk.specs.Disks.{open_bytes}
use Rattle.dev_store.specs.declared.errors.StoreError.TheVariants.{Disk}
use Rattle.dev_store.specs.Changes.{range_flaw}
use Rattle.dev_store.specs.Held.{device_held}
use Rattle.dev_store.specs.Reading.{held_by, table_within}
use Rattle.dev_store.specs.StoreCalls.{Decided, IsPartly}
use Rattle.dev_store.proofs.PartRanges.{decided-refused, decided-fault, decided-done}
use Rattle.dev_store.proofs.PartCalls.{left-partly, put-body, left-body, body-stored, body-whole, body-sound}
use Rattle.dev_store.proofs.store.Store.write_part.Goals as goal

pub returns-in-Err-clause-decided : goal.returns-in-Err-clause-decided
returns-in-Err-clause-decided g c =
    let s = c.self.inside in
    let told = g.K.Disk.told in
    let n = length c.args.bytes.now in
    subst (λ h. Decided {T = Unit {0}} told (range_flaw h.device c.args.name.now c.args.at n) h c.args.self.now (Err c.in-Err.refusal)) c.self.view_is
    (decided-refused told s.disk s.layout s.state s.within s.broken c.args.name.now c.args.at n c.in-Err.refusal c.args.self.now c.self.invariant.kept (c.in-Err.ensures.refused c.in-Err.refusal refl))

pub invariant_of-self-in_default : goal.invariant_of-self-in_default
invariant_of-self-in_default g c =
    let s = c.self.inside in
    let told = g.K.Disk.told in
    let new = c.write_pieces.new.disk in
    let body = left-body s.layout s.state (table_within s.within) c.args.name.now c.in-Ok.part c.args.at (length c.args.bytes.now) (open_bytes (told s.disk)) (open_bytes (told new))
    c.in-Ok.ensures.place c.self.invariant.kept c.in_default.ensures.left in
    body-stored told s.disk new s.layout s.state s.within s.buffer.items s.buffer.items s.broken true (ap (λ h. h.broken) c.self.view_is ∙ c.requires.usable) c.self.invariant body c.write_pieces.ensures.kept refl

pub returns-in_default-clause-decided : goal.returns-in_default-clause-decided
returns-in_default-clause-decided g c =
    let s = c.self.inside in
    let told = g.K.Disk.told in
    let n = length c.args.bytes.now in
    let after = held_by told c.write_pieces.new.disk s.layout s.state s.within true in
    subst (λ h. Decided {T = Unit {0}} told (range_flaw h.device c.args.name.now c.args.at n) h after (Err Disk)) c.self.view_is
    (decided-fault told s.disk s.layout s.state s.within s.broken c.args.name.now c.args.at n after c.self.invariant.kept c.in-Ok.ensures.taken c.in_default.ensures.cause)

pub returns-in_default-clause-part : goal.returns-in_default-clause-part
unfolding device_held
returns-in_default-clause-part g c = λ _.
    let s = c.self.inside in
    let told = g.K.Disk.told in
    let table = table_within s.within in
    let new = open_bytes (told c.write_pieces.new.disk) in
    subst (λ h. IsPartly c.args.name.now c.args.at (length c.args.bytes.now) h.device (device_held s.layout s.state table new)) c.self.view_is
    (left-partly s.layout s.state table c.args.name.now c.in-Ok.part c.args.at (length c.args.bytes.now) (open_bytes (told s.disk)) new c.in-Ok.ensures.place c.self.invariant.kept c.in-Ok.ensures.fits c.in_default.ensures.left)

pub returns-in_default-clause-sound : goal.returns-in_default-clause-sound
returns-in_default-clause-sound g c =
    let s = c.self.inside in
    let told = g.K.Disk.told in
    let new = c.write_pieces.new.disk in
    let body = left-body s.layout s.state (table_within s.within) c.args.name.now c.in-Ok.part c.args.at (length c.args.bytes.now) (open_bytes (told s.disk)) (open_bytes (told new))
    c.in-Ok.ensures.place c.self.invariant.kept c.in_default.ensures.left in
    body-sound told s.disk new s.layout s.state s.within s.buffer.items s.broken true (ap (λ h. h.broken) c.self.view_is ∙ c.requires.usable) c.self.invariant body

pub invariant_of-self : goal.invariant_of-self
invariant_of-self g c =
    let s = c.self.inside in
    let told = g.K.Disk.told in
    let new = c.write_pieces.new.disk in
    let body = put-body s.layout s.state (table_within s.within) c.args.name.now c.in-Ok.part c.args.at c.args.bytes.now (open_bytes (told s.disk)) (open_bytes (told new))
    c.in-Ok.ensures.place c.self.invariant.kept c.in-Ok-write_pieces.ensures.written in
    body-stored told s.disk new s.layout s.state s.within s.buffer.items s.buffer.items s.broken s.broken (ap (λ h. h.broken) c.self.view_is ∙ c.requires.usable) c.self.invariant body c.write_pieces.ensures.kept refl

pub returns-clause-decided : goal.returns-clause-decided
returns-clause-decided g c =
    let s = c.self.inside in
    let told = g.K.Disk.told in
    let n = length c.args.bytes.now in
    let after = held_by told c.write_pieces.new.disk s.layout s.state s.within s.broken in
    subst (λ h. Decided {T = Unit {0}} told (range_flaw h.device c.args.name.now c.args.at n) h after (Ok tt)) c.self.view_is
    (decided-done told s.disk s.layout s.state s.within s.broken c.args.name.now c.args.at n after c.self.invariant.kept c.in-Ok.ensures.taken)

pub returns-clause-whole : goal.returns-clause-whole
returns-clause-whole g c =
    let s = c.self.inside in
    let told = g.K.Disk.told in
    let new = c.write_pieces.new.disk in
    let body = put-body s.layout s.state (table_within s.within) c.args.name.now c.in-Ok.part c.args.at c.args.bytes.now (open_bytes (told s.disk)) (open_bytes (told new))
    c.in-Ok.ensures.place c.self.invariant.kept c.in-Ok-write_pieces.ensures.written in
    body-whole told s.disk new s.layout s.state s.within s.buffer.items s.broken (ap (λ h. h.broken) c.self.view_is ∙ c.requires.usable) c.self.invariant body

pub returns-clause-sound : goal.returns-clause-sound
returns-clause-sound g c =
    let s = c.self.inside in
    let told = g.K.Disk.told in
    let new = c.write_pieces.new.disk in
    let body = put-body s.layout s.state (table_within s.within) c.args.name.now c.in-Ok.part c.args.at c.args.bytes.now (open_bytes (told s.disk)) (open_bytes (told new))
    c.in-Ok.ensures.place c.self.invariant.kept c.in-Ok-write_pieces.ensures.written in
    body-sound told s.disk new s.layout s.state s.within s.buffer.items s.broken s.broken (ap (λ h. h.broken) c.self.view_is ∙ c.requires.usable) c.self.invariant body
