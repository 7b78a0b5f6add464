-- All units are counted.
use Rattle.std.proofs.Common.{sym, ap, ◌∙◌, arith}
use Rattle.unit_alloc.proofs.FreeLemmas.{free_below, length-free_units_below}
use Rattle.unit_alloc.proofs.LogLemmas.{units-view}
use Rattle.unit_alloc.proofs.plain.PlainOwners.free.Goals as goal

pub returns-clause-free : goal.returns-clause-free
returns-clause-free c =
    let a = c.self.inside in
    let m = c.args.self.now in
    let u = units-view a.units a.parts a.entries.items m c.self.view_is in
    c.loop-unit.invariant.0 ∙ ap (free_below m) (omega arith) ∙ sym (length-free_units_below m)
