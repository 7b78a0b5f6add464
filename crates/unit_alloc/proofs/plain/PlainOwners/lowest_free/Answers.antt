-- Each lower unit was seen to have an owner.
use Rattle.std.proofs.Common.{ℕ, length, ap, arith}
use Rattle.std.proofs.lemmas.Bool.Decides.{nat_tests}
use Rattle.unit_alloc.proofs.FreeLemmas.{free_units-none}
use Rattle.unit_alloc.proofs.LogLemmas.{units-view}
use Rattle.unit_alloc.proofs.plain.PlainOwners.lowest_free.Goals as goal

pub returns-then-not-is_owned : goal.returns-then-not-is_owned
returns-then-not-is_owned c =
    let a = c.self.inside in
    let u = units-view a.units a.parts a.entries.items c.args.self.now c.self.view_is in
    record {
      there = omega arith;
      free = grind (arith, nat_tests);
      lowest = c.loop-unit.invariant;
    }

pub unreachable-requires : goal.unreachable-requires
unreachable-requires c =
    let a = c.self.inside in
    let m = c.args.self.now in
    let u = units-view a.units a.parts a.entries.items m c.self.view_is in
    let none = ap (length {A = ℕ}) (free_units-none m (λ k lt. c.loop-unit.invariant k (omega arith))) in
    omega arith
