use Rattle.std.proofs.Common.{◌∙◌, ◌+◌, refl, ap, subst, length, Ok, Err}
use Rattle.dev_store.specs.declared.errors.StoreError.TheVariants.{Disk}
use Rattle.dev_store.specs.Changes.{range_flaw}
use Rattle.dev_store.specs.Reading.{held_by, table_within}
use Rattle.dev_store.specs.StoreCalls.{Decided}
use Rattle.dev_store.specs.PartPlaces.{part_size, size_flaw}
use Rattle.dev_store.proofs.StoredLemmas.{same-stored}
use Rattle.dev_store.proofs.PartRanges.{decided-refused, decided-fault, decided-done}
use Rattle.dev_store.proofs.store.Store.read_part.Goals as goal

pub returns-in-Err-clause-decided : goal.returns-in-Err-clause-decided
returns-in-Err-clause-decided g c =
    let s = c.self.inside in
    let told = g.K.Disk.told in
    let n = length c.args.buf.now in
    subst (λ h. Decided {T = Unit {0}} told (range_flaw h.device c.args.name.now c.args.at n) h c.args.self.now (Err c.in-Err.refusal)) c.self.view_is
    (decided-refused told s.disk s.layout s.state s.within s.broken c.args.name.now c.args.at n c.in-Err.refusal c.args.self.now c.self.invariant.kept (c.in-Err.ensures.refused c.in-Err.refusal refl))

pub invariant_of-self : goal.invariant_of-self
invariant_of-self g c =
    let s = c.self.inside in
    same-stored g.K.Disk.told s.disk c.read_pieces.new.disk s.layout s.state s.within s.buffer.items s.broken c.self.invariant c.read_pieces.ensures.kept

pub returns-in_default-clause-decided : goal.returns-in_default-clause-decided
returns-in_default-clause-decided g c =
    let s = c.self.inside in
    let told = g.K.Disk.told in
    let n = length c.read_pieces.new.buf in
    let after = held_by told c.read_pieces.new.disk s.layout s.state s.within s.broken in
    let taken = ap (λ k. size_flaw (part_size s.layout (table_within s.within) c.args.name.now) (c.args.at + k)) c.read_pieces.auto.buf ∙ c.in-Ok.ensures.taken in
    subst (λ h. Decided {T = Unit {0}} told (range_flaw h.device c.args.name.now c.args.at n) h after (Err Disk)) c.self.view_is
    (decided-fault told s.disk s.layout s.state s.within s.broken c.args.name.now c.args.at n after c.self.invariant.kept taken c.in_default.ensures.cause)

pub invariant_of-self-2 : goal.invariant_of-self-2
invariant_of-self-2 g c =
    let s = c.self.inside in
    same-stored g.K.Disk.told s.disk c.read_pieces.new.disk s.layout s.state s.within s.buffer.items s.broken c.self.invariant c.read_pieces.ensures.kept

pub returns-clause-decided : goal.returns-clause-decided
returns-clause-decided g c =
    let s = c.self.inside in
    let told = g.K.Disk.told in
    let n = length c.read_pieces.new.buf in
    let after = held_by told c.read_pieces.new.disk s.layout s.state s.within s.broken in
    let taken = ap (λ k. size_flaw (part_size s.layout (table_within s.within) c.args.name.now) (c.args.at + k)) c.read_pieces.auto.buf ∙ c.in-Ok.ensures.taken in
    subst (λ h. Decided {T = Unit {0}} told (range_flaw h.device c.args.name.now c.args.at n) h after (Ok tt)) c.self.view_is
    (decided-done told s.disk s.layout s.state s.within s.broken c.args.name.now c.args.at n after c.self.invariant.kept taken)
