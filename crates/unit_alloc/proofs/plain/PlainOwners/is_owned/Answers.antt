-- A unit is owned where an entry has it.
use Rattle.std.proofs.Common.{List, ap, ◌∙◌, ltb, eqb}
use Rattle.std.specs.List.{list_any}
use Rattle.unit_alloc.specs.declared.plain.Entry.{Entry}
use Rattle.unit_alloc.specs.Owning.{Owning, times}
use Rattle.unit_alloc.proofs.LogLemmas.{is_owned-replayed}
use Rattle.unit_alloc.proofs.plain.PlainOwners.is_owned.Goals as goal

pub returns-clause-owned : goal.returns-clause-owned
returns-clause-owned c =
    let a = c.self.inside in
    c.has_entry.ensures
    ∙ ap (λ (entries : List Entry). list_any (λ e. eqb e.unit c.args.unit) entries) c.deref.ensures.value
    ∙ is_owned-replayed c.args.unit a.units a.parts a.entries.items c.self.invariant.0.parted
    ∙ ap (λ (m : Owning). ltb 0 (times c.args.unit m.parts)) c.self.view_is
