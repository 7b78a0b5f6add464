-- A part's units are those of its entries.
use Rattle.std.proofs.Common.{ℕ, ◌<◌, List, length, get_or, ap, sym, subst, ◌∙◌}
use Rattle.unit_alloc.specs.declared.plain.Entry.{Entry}
use Rattle.unit_alloc.specs.Owning.{OneOwner}
use Rattle.unit_alloc.specs.Log.{given}
use Rattle.unit_alloc.proofs.LogLemmas.{units_of-view}
use Rattle.unit_alloc.proofs.RunLemmas.{unit-is_there}
use Rattle.unit_alloc.proofs.plain.PlainOwners.unit_at.Goals as goal

pub nth_unit-requires : goal.nth_unit-requires
nth_unit-requires c =
    let a = c.self.inside in
    let e = units_of-view c.args.part a.units a.parts a.entries.items c.args.self.now c.self.view_is c.requires.part in
    subst (λ (entries : List Entry). c.args.place < length (given c.args.part entries)) (sym c.deref.ensures.value)
    (subst (λ (l : List ℕ). c.args.place < length l) e c.requires.place)

pub returns-clause-unit : goal.returns-clause-unit
returns-clause-unit c =
    let a = c.self.inside in
    c.nth_unit.ensures
    ∙ ap (λ (entries : List Entry). get_or (given c.args.part entries) c.args.place 0) c.deref.ensures.value
    ∙ ap (λ (l : List ℕ). get_or l c.args.place 0) (sym (units_of-view c.args.part a.units a.parts a.entries.items c.args.self.now c.self.view_is c.requires.part))

pub returns-clause-there : goal.returns-clause-there
returns-clause-there c =
    let one : OneOwner c.args.self.now = subst OneOwner c.self.view_is c.self.invariant.0.one in
    unit-is_there c.args.self.now c.args.part c.args.place c.nth_unit.result one c.requires.part c.requires.place (returns-clause-unit c)
