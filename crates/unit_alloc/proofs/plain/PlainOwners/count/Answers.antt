-- A part's units are those of its entries, of which there are no more than units.
use Rattle.std.proofs.Common.{ℕ, List, length, arith, ap, sym, ◌∙◌}
use Rattle.unit_alloc.specs.declared.plain.Entry.{Entry}
use Rattle.unit_alloc.specs.Log.{given}
use Rattle.unit_alloc.proofs.LogLemmas.{log_fits, units-view, units_of-view}
use Rattle.unit_alloc.proofs.plain.PlainOwners.count.Goals as goal

pub count_entries-requires : goal.count_entries-requires
count_entries-requires c =
    let a = c.self.inside in
    omega (arith, log_fits a.units a.parts a.entries.items c.self.invariant.0, c.self.invariant.2, ap (length {A = Entry}) c.deref.ensures.value)

pub returns-clause-count : goal.returns-clause-count
returns-clause-count c =
    let a = c.self.inside in
    c.count_entries.ensures
    ∙ ap (λ (entries : List Entry). length (given c.args.part entries)) c.deref.ensures.value
    ∙ ap (length {A = ℕ}) (sym (units_of-view c.args.part a.units a.parts a.entries.items c.args.self.now c.self.view_is c.requires))

pub returns-clause-small : goal.returns-clause-small
returns-clause-small c =
    let a = c.self.inside in
    let u = units-view a.units a.parts a.entries.items c.args.self.now c.self.view_is in
    let small = c.self.invariant.2 in
    omega (arith, u, small)
