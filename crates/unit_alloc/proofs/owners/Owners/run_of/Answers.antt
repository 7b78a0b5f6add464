-- The run goes on along the chain.
use Rattle.std.proofs.Common.{ℕ, ◌≡◌, ◌<◌, ◌-◌, ◌+◌, List, length, drop, ap, sym, subst, ◌∙◌, arith}
use Rattle.unit_alloc.specs.Owning.{run_from, units_of}
use Rattle.unit_alloc.specs.Chains.{stepped, linked}
use Rattle.unit_alloc.proofs.LinkedLemmas.{stepped-stepped, drop-linked}
use Rattle.unit_alloc.proofs.ChainedLemmas.{length-view, steps-view, unit-view, unit_at-view, units_of-view}
use Rattle.unit_alloc.proofs.owners.Owners.run_of.Goals as goal

pub overflow_sub-index : goal.overflow_sub-index
overflow_sub-index c =
    let a = c.self.inside in
    let n = length-view a.states a.next.items a.chains.items c.args.self.now c.args.part c.index.result.now c.self.view_is c.requires.part c.index.ensures in
    omega (arith, c.requires.place)

pub run_length-requires-clause-some : goal.run_length-requires-clause-some
run_length-requires-clause-some c =
    let a = c.self.inside in
    let n = length-view a.states a.next.items a.chains.items c.args.self.now c.args.part c.index.result.now c.self.view_is c.requires.part c.index.ensures in
    omega (arith, c.requires.place)

pub run_length-requires-clause-within : goal.run_length-requires-clause-within
run_length-requires-clause-within c =
    let a = c.self.inside in
    let ch = c.index.result.now in
    let n = length-view a.states a.next.items a.chains.items c.args.self.now c.args.part ch c.self.view_is c.requires.part c.index.ensures in
    let first : c.args.first ≡ stepped a.next.items ch.first c.args.place =
    c.requires.first ∙ sym (unit_at-view a.states a.next.items a.chains.items c.args.self.now c.args.part c.args.place ch c.self.view_is c.requires.part c.index.ensures (omega (arith, c.requires.place))) in
    subst (λ (next : List ℕ). (k : ℕ) → k < ch.count - c.args.place → stepped next c.args.first k < length next) (sym c.deref.ensures.value)
    (λ k lt. subst (λ (u : ℕ). stepped a.next.items u k < length a.next.items) (sym first)
    (subst (λ (u : ℕ). u < length a.next.items) (sym (stepped-stepped a.next.items ch.first c.args.place k))
    (steps-view a.states a.next.items a.chains.items c.args.self.now c.args.part ch c.self.view_is c.requires.part c.index.ensures c.self.invariant (c.args.place + k) (omega arith))))

pub returns-clause-run : goal.returns-clause-run
returns-clause-run c =
    let a = c.self.inside in
    let ch = c.index.result.now in
    let next = a.next.items in
    let u : ℕ = c.args.first in
    let n = length-view a.states next a.chains.items c.args.self.now c.args.part ch c.self.view_is c.requires.part c.index.ensures in
    let first : u ≡ stepped next ch.first c.args.place =
    c.requires.first ∙ sym (unit_at-view a.states next a.chains.items c.args.self.now c.args.part c.args.place ch c.self.view_is c.requires.part c.index.ensures (omega (arith, c.requires.place))) in
    let list : linked next u (ch.count - c.args.place) ≡ drop c.args.place (units_of c.args.self.now c.args.part) =
    ap (λ (x : ℕ). linked next x (ch.count - c.args.place)) first
    ∙ sym (drop-linked next ch.first c.args.place ch.count (omega (arith, c.requires.place)))
    ∙ ap (drop c.args.place) (sym (units_of-view a.states next a.chains.items c.args.self.now c.args.part ch c.self.view_is c.requires.part c.index.ensures)) in
    c.run_length.ensures ∙ ap (λ (l : List ℕ). run_from u (linked l u (ch.count - c.args.place))) c.deref.ensures.value ∙ ap (run_from u) list

pub returns-clause-small : goal.returns-clause-small
returns-clause-small c =
    let a = c.self.inside in
    let u = unit-view a.states a.next.items a.chains.items c.args.self.now c.self.view_is in
    let small = c.self.invariant.small in
    omega (arith, u, small)
