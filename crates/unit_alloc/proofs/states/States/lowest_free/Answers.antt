-- The lowest bit of the first word that isn't 0 is that of the lowest free unit.
use Rattle.std.proofs.Common.{ℕ, ◌≡◌, ◌<◌, ◌*◌, ◌+◌, ◌^◌, List, Option, w64, true, false, ap, sym, subst, ◌∙◌, arith}
use Rattle.std.specs.Int.{trailing_zeros}
use Rattle.std.proofs.lemmas.List.{get_or_read}
use Rattle.unit_alloc.specs.Marks.{is_free, free_count}
use Rattle.unit_alloc.proofs.MarksLemmas.{lowest_mark-free, lowest_mark-below, lowest_mark-fits, empty_word, no_word}
use Rattle.unit_alloc.proofs.states.States.lowest_free.Goals as goal

-- none of the first units is free
abbrev NoneBelow : ℕ → List (Option ℕ) → Type 0
NoneBelow n owners = (k : ℕ) → k < n → is_free owners k ≡ false

fits : (c : goal.Then-bits-ne0) → c.loop-word.word * 64 + trailing_zeros w64 c.index-bits.result.now < 2 ^ 32
fits c =
    let a = c.self.inside in
    lowest_mark-fits a.owners.items a.words.items a.free c.loop-word.word c.index-bits.result.now c.self.invariant
    (get_or_read a.words.items c.loop-word.word c.index-bits.result.now (omega arith) c.index-bits.ensures 0) (omega arith) (omega arith)

pub overflow_cast-result : goal.overflow_cast-result
overflow_cast-result c = omega (arith, fits c)

pub overflow_mul-result : goal.overflow_mul-result
overflow_mul-result c = omega (arith, fits c)

pub overflow_add-result : goal.overflow_add-result
overflow_add-result c = omega (arith, fits c)

pub returns-then-bits-ne0-clause-free : goal.returns-then-bits-ne0-clause-free
returns-then-bits-ne0-clause-free c =
    let a = c.self.inside in
    subst (λ (owners : List (Option ℕ)). is_free owners (c.loop-word.word * 64 + trailing_zeros w64 c.index-bits.result.now) ≡ true) c.self.view_is
    (lowest_mark-free a.owners.items a.words.items a.free c.loop-word.word c.index-bits.result.now c.self.invariant
    (get_or_read a.words.items c.loop-word.word c.index-bits.result.now (omega arith) c.index-bits.ensures 0) (omega arith) (omega arith))

pub returns-then-bits-ne0-clause-lowest : goal.returns-then-bits-ne0-clause-lowest
returns-then-bits-ne0-clause-lowest c =
    let a = c.self.inside in
    subst (NoneBelow (c.loop-word.word * 64 + trailing_zeros w64 c.index-bits.result.now)) c.self.view_is
    (lowest_mark-below a.owners.items a.words.items a.free c.loop-word.word c.index-bits.result.now c.self.invariant
    (get_or_read a.words.items c.loop-word.word c.index-bits.result.now (omega arith) c.index-bits.ensures 0) (omega arith) (omega arith)
    (subst (NoneBelow (64 * c.loop-word.word)) (sym c.self.view_is) c.loop-word.invariant))

pub loop-word-preserved : goal.loop-word-preserved
loop-word-preserved c =
    let a = c.self.inside in
    subst (NoneBelow (64 * (c.loop-word.word + 1))) c.self.view_is
    (empty_word a.owners.items a.words.items a.free c.loop-word.word c.self.invariant
    (sym (get_or_read a.words.items c.loop-word.word c.index-bits.result.now (omega arith) c.index-bits.ensures 0) ∙ c.if-bits-ne0.false)
    (subst (NoneBelow (64 * c.loop-word.word)) (sym c.self.view_is) c.loop-word.invariant))

pub unreachable-requires : goal.unreachable-requires
unreachable-requires c =
    let a = c.self.inside in
    let none = no_word a.owners.items a.words.items a.free c.self.invariant
    (λ k lt. subst (NoneBelow (64 * c.loop-word.word)) (sym c.self.view_is) c.loop-word.invariant k (omega arith)) in
    let same : free_count a.owners.items ≡ free_count c.args.self.now = ap free_count c.self.view_is in
    omega arith
