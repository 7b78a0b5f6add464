-- The chain is cut behind the units that the part keeps, and the others are given back.
use Rattle.std.proofs.Common.{ℕ, ◌<◌, ◌-◌, List, length, refl, ap, sym, subst, ◌∙◌, arith}
use Rattle.unit_alloc.specs.Chains.{stepped, linked, AreOwned, freed}
use Rattle.unit_alloc.proofs.KeptLemmas.{kept-all}
use Rattle.unit_alloc.proofs.ChainedLemmas.{steps-view, length-view, AreChained-same, chained-same}
use Rattle.unit_alloc.proofs.CutLemmas.{cuts}
use Rattle.unit_alloc.proofs.owners.Owners.shrink.Goals as goal

pub cut-last-requires-clause-within : goal.cut-last-requires-clause-within
cut-last-requires-clause-within c =
    let a = c.self.inside in
    let ch = c.index-chain.result.now in
    subst (λ (next : List ℕ). (k : ℕ) → k < ch.count → stepped next ch.first k < length next) (sym c.deref.ensures.value)
    (steps-view a.states a.next.items a.chains.items c.args.self.now c.args.part ch c.self.view_is c.requires c.index-chain.ensures c.self.invariant)

pub free_chain-requires-clause-owned : goal.free_chain-requires-clause-owned
free_chain-requires-clause-owned c =
    let a = c.self.inside in
    let ch = c.index-chain.result.now in
    let last = c.cut-last.result.0 in
    let from = c.cut-last.result.1 in
    let next = c.deref.ensures.value in
    subst (λ (l : List ℕ). AreOwned a.states (linked l from (ch.count - c.args.keep))) (sym c.deref-then-keep-chain.ensures.value)
    (cuts a.states a.next.items a.chains.items c.args.self.now c.args.part c.args.keep last from ch c.self.invariant c.self.view_is c.requires c.index-chain.ensures c.if-keep-chain.true
    (λ h. c.cut-last.ensures.last h ∙ ap (λ (l : List ℕ). stepped l ch.first (c.args.keep - 1)) next) (c.cut-last.ensures.from ∙ ap (λ (l : List ℕ). stepped l ch.first c.args.keep) next)).owned

pub invariant_of-self : goal.invariant_of-self
invariant_of-self c =
    let a = c.self.inside in
    let ch = c.index-chain.result.now in
    let last = c.cut-last.result.0 in
    let from = c.cut-last.result.1 in
    let next = c.deref.ensures.value in
    AreChained-same _ _ _ _ _ _ (c.free_chain.ensures ∙ ap (λ (l : List ℕ). freed a.states (linked l from (ch.count - c.args.keep))) c.deref-then-keep-chain.ensures.value) refl refl
    (cuts a.states a.next.items a.chains.items c.args.self.now c.args.part c.args.keep last from ch c.self.invariant c.self.view_is c.requires c.index-chain.ensures c.if-keep-chain.true
    (λ h. c.cut-last.ensures.last h ∙ ap (λ (l : List ℕ). stepped l ch.first (c.args.keep - 1)) next) (c.cut-last.ensures.from ∙ ap (λ (l : List ℕ). stepped l ch.first c.args.keep) next)).still

pub returns-then-keep-chain-clause-kept : goal.returns-then-keep-chain-clause-kept
returns-then-keep-chain-clause-kept c =
    let a = c.self.inside in
    let ch = c.index-chain.result.now in
    let last = c.cut-last.result.0 in
    let from = c.cut-last.result.1 in
    let next = c.deref.ensures.value in
    chained-same _ _ _ _ _ _ (c.free_chain.ensures ∙ ap (λ (l : List ℕ). freed a.states (linked l from (ch.count - c.args.keep))) c.deref-then-keep-chain.ensures.value) refl refl
    ∙ (cuts a.states a.next.items a.chains.items c.args.self.now c.args.part c.args.keep last from ch c.self.invariant c.self.view_is c.requires c.index-chain.ensures c.if-keep-chain.true
    (λ h. c.cut-last.ensures.last h ∙ ap (λ (l : List ℕ). stepped l ch.first (c.args.keep - 1)) next) (c.cut-last.ensures.from ∙ ap (λ (l : List ℕ). stepped l ch.first c.args.keep) next)).owning

pub returns-then-keep-chain-clause-one_owner : goal.returns-then-keep-chain-clause-one_owner
returns-then-keep-chain-clause-one_owner c =
    let a = c.self.inside in
    let ch = c.index-chain.result.now in
    let last = c.cut-last.result.0 in
    let from = c.cut-last.result.1 in
    let next = c.deref.ensures.value in
    (AreChained-same _ _ _ _ _ _ (c.free_chain.ensures ∙ ap (λ (l : List ℕ). freed a.states (linked l from (ch.count - c.args.keep))) c.deref-then-keep-chain.ensures.value) refl refl
    (cuts a.states a.next.items a.chains.items c.args.self.now c.args.part c.args.keep last from ch c.self.invariant c.self.view_is c.requires c.index-chain.ensures c.if-keep-chain.true
    (λ h. c.cut-last.ensures.last h ∙ ap (λ (l : List ℕ). stepped l ch.first (c.args.keep - 1)) next) (c.cut-last.ensures.from ∙ ap (λ (l : List ℕ). stepped l ch.first c.args.keep) next)).still).one

pub returns-else-keep-chain-clause-kept : goal.returns-else-keep-chain-clause-kept
returns-else-keep-chain-clause-kept c =
    let a = c.self.inside in
    let n = length-view a.states a.next.items a.chains.items c.args.self.now c.args.part c.index-chain.result.now c.self.view_is c.requires c.index-chain.ensures in
    sym (kept-all c.args.self.now c.args.part c.args.keep (omega arith))
