-- The entries that stay are a log of what the part keeps.
use Rattle.std.proofs.Common.{◌≡◌, ◌<◌, List, length, take, drop, All, arith, ap, sym, subst, ◌∙◌}
use Rattle.unit_alloc.specs.declared.plain.Entry.{Entry}
use Rattle.unit_alloc.specs.Log.{replayed, IsLog}
use Rattle.unit_alloc.specs.Owning.{kept}
use Rattle.unit_alloc.proofs.FrontLemmas.{front_written, log_kept}
use Rattle.unit_alloc.proofs.plain.PlainOwners.shrink.Goals as goal

front : (c : goal.After-truncate) → c.truncate.new.self.items ≡ take c.keep_first-count.result c.keep_first-count.new.entries
front c =
    c.truncate.ensures.items
    ∙ front_written c.keep_first-count.result c.self.inside.entries.len c.keep_first-count.new.entries (drop (length c.keep_first-count.new.entries) c.self.inside.entries.items)
    (omega (arith, c.deref_mut.ensures.len, c.keep_first-count.auto.entries)) (omega (arith, c.keep_first-count.ensures.bound, c.deref_mut.ensures.len))

stays : (c : goal.After-truncate) →
    let a = c.self.inside in
    IsLog a.units a.parts c.truncate.new.self.items × (replayed a.units a.parts c.truncate.new.self.items ≡ kept c.args.self.now c.args.part c.args.keep)
stays c =
    let a = c.self.inside in
    let es = a.entries.items in
    log_kept a.units a.parts c.args.part c.args.keep es c.truncate.new.self.items c.args.self.now c.self.view_is c.self.invariant.0 c.requires
    (subst (All (λ (e : Entry). e.part < a.parts)) (sym (front c)) (c.keep_first-count.ensures.parted a.parts (subst (All (λ (e : Entry). e.part < a.parts)) (sym c.deref_mut.ensures.value) c.self.invariant.0.parted)))
    (λ h. ap (replayed a.units a.parts) (front c) ∙ c.keep_first-count.ensures.kept a.units a.parts h ∙ ap (λ (l : List Entry). kept (replayed a.units a.parts l) c.args.part c.args.keep) c.deref_mut.ensures.value)

pub invariant_of-self : goal.invariant_of-self
invariant_of-self c = ((stays c).0, omega (arith, c.self.invariant.1, c.truncate.ensures.capacity), c.self.invariant.2)

pub returns-clause-kept : goal.returns-clause-kept
returns-clause-kept c = (stays c).1

pub returns-clause-one_owner : goal.returns-clause-one_owner
returns-clause-one_owner c = (stays c).0.one
