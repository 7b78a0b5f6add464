-- The text of attempts, one after another.
use Rattle.std.proofs.Common.{◌≡◌, ℕ, suc, ◌+◌, Bool, true, false, Some, List, [], ◌∷◌, ◌++◌, map, length, refl, sym, ap, ◌∙◌, arith, append_assoc, append-nil}
use Rattle.std.specs.Prelude.{◌||◌}
use Rattle.std.specs.List.{list_any}
use Rattle.host_driver.specs.Jobs.{last_in}
use Rattle.host_driver.specs.Printing.{Lines, Attempt, Asking, Asked, Again, steps_in, is_answered, acknowledged_in, in_order, attempt_text, lead, text_from, text_of, numbers_due}

-- one attempt more
pub order-more : (b : Bool) (past : List Attempt) (this : Attempt) → in_order b past ≡ true → in_order (b || list_any is_answered past) (this ∷ []) ≡ true → in_order b (past ++ this ∷ []) ≡ true
order-more true [] this e f = f
order-more false [] this e f = f
order-more false (Asking m ∷ past) this e f = order-more false past this e f
order-more false (Asked n ∷ past) this e f = order-more true past this e f
order-more false (Again n ∷ past) this e f = absurd cc
order-more true (Asking m ∷ past) this e f = absurd cc
order-more true (Asked n ∷ past) this e f = absurd cc
order-more true (Again n ∷ past) this e f = order-more true past this e f

text-more : (lines : Lines) (k : ℕ) (past : List Attempt) (this : Attempt) → text_from lines k (past ++ this ∷ []) ≡ (text_from lines k past ++ lead (k + length past)) ++ attempt_text lines this
text-more lines k [] this =
    let e : k + 0 ≡ k = omega arith in
    ap (λ t. lead k ++ t) (append-nil (attempt_text lines this)) ∙ ap (λ n. lead n ++ attempt_text lines this) (sym e)
text-more lines k (a ∷ past) this =
    let n : (k + 1) + length past ≡ k + suc (length past) = omega arith in
    let rest = text_from lines (k + 1) past in
    let more = lead (k + suc (length past)) in
    let last = attempt_text lines this in
    let here = attempt_text lines a in
    ap (λ t. lead k ++ (here ++ t)) (text-more lines (k + 1) past this ∙ ap (λ m. (rest ++ lead m) ++ last) n)
    ∙ (ap (λ t. lead k ++ t) (sym (append_assoc here (rest ++ more) last) ∙ ap (λ t. t ++ last) (sym (append_assoc here rest more)))
    ∙ (sym (append_assoc (lead k) ((here ++ rest) ++ more) last) ∙ ap (λ t. t ++ last) (sym (append_assoc (lead k) (here ++ rest) more))))

pub text-next : (lines : Lines) (past : List Attempt) (this : Attempt) → text_of lines (past ++ this ∷ []) ≡ (text_of lines past ++ lead (length past)) ++ attempt_text lines this
text-next lines past this =
    let e : 0 + length past ≡ length past = omega arith in
    text-more lines 0 past this ∙ ap (λ n. (text_of lines past ++ lead n) ++ attempt_text lines this) e

pub last-next : {X : Type 0} (past : List X) (this : X) → last_in (past ++ this ∷ []) ≡ Some this
last-next [] this = refl
last-next (a ∷ []) this = refl
last-next (a ∷ b ∷ past) this = last-next (b ∷ past) this

pub due-next : (past : List Attempt) (this : Attempt) → numbers_due (past ++ this ∷ []) ≡ map steps_in past ++ acknowledged_in this ∷ []
due-next [] this = refl
due-next (a ∷ []) this = refl
due-next (a ∷ b ∷ past) this = ap (λ l. steps_in a ∷ l) (due-next (b ∷ past) this)

pub steps-next : (past : List Attempt) (this : Attempt) → map steps_in (past ++ this ∷ []) ≡ map steps_in past ++ steps_in this ∷ []
steps-next [] this = refl
steps-next (a ∷ past) this = ap (λ l. steps_in a ∷ l) (steps-next past this)

pub answered-next : (past : List Attempt) (this : Attempt) → list_any is_answered (past ++ this ∷ []) ≡ (list_any is_answered past || is_answered this)
answered-next [] this = by (is_answered this)
  where
    by : (b : Bool) → (b || false) ≡ b
    by true = refl
    by false = refl
answered-next (a ∷ past) this = by (is_answered a) (answered-next past this)
  where
    by : (b : Bool) → list_any is_answered (past ++ this ∷ []) ≡ (list_any is_answered past || is_answered this) → (b || list_any is_answered (past ++ this ∷ [])) ≡ ((b || list_any is_answered past) || is_answered this)
    by true e = refl
    by false e = e
