-- What digits are worth as they come one by one.
use Rattle.std.proofs.Common.{◌≡◌, ℕ, zero, suc, ◌+◌, ◌-◌, ◌*◌, ◌^◌, ◌<◌, ◌≤◌, List, [], ◌∷◌, ◌++◌, length, take, get_or, Option, Some, None, refl, ap, ◌∙◌, arith, add-one}
use Rattle.std.specs.Prelude.{if◌then◌else◌, nat_lt, fold}
use Rattle.std.proofs.Math.Seq.{take-suc}
use Rattle.std.proofs.lemmas.Bool.Decides.{nat_tests}
use Rattle.std.proofs.lemmas.List.{get_or_default}
use Rattle.std.proofs.lemmas.List.Sums.{fold-append}
use Rattle.fb_frame.specs.Numbers.{digits_worth}

abbrev worth_after : ℕ → List ℕ → ℕ
worth_after n text = fold (λ n b. 10 * n + (b - 48)) n text

-- digits that follow don't make a number smaller
grows : (text : List ℕ) (n m : ℕ) → n ≤ m → n ≤ worth_after m text
grows [] n m h = h
grows (b ∷ text) n m h = grows text n (10 * m + (b - 48)) (omega arith)

front : (text : List ℕ) (i n m : ℕ) → n ≤ m → worth_after n (take i text) ≤ worth_after m text
front [] zero n m h = h
front [] (suc i) n m h = h
front (b ∷ text) zero n m h = grows text n (10 * m + (b - 48)) (omega arith)
front (b ∷ text) (suc i) n m h = front text i (10 * n + (b - 48)) (10 * m + (b - 48)) (omega arith)

one-more : (text : List ℕ) (i b : ℕ) → i < length text → b ≡ get_or text i b → take (i + 1) text ≡ take i text ++ b ∷ []
one-more text i b h e = rw (add-one, take-suc text i b h, ← e) refl

-- one digit more
worth-more : (text : List ℕ) (i b : ℕ) → i < length text → b ≡ get_or text i b → digits_worth (take (i + 1) text) ≡ 10 * digits_worth (take i text) + (b - 48)
worth-more text i b h e =
    ap digits_worth (one-more text i b h e) ∙ fold-append (λ n d. 10 * n + (d - 48)) 0 (take i text) (b ∷ [])

-- a front that passes 64 bits
too-large : (text : List ℕ) (i n : ℕ) → i < length text → n ≡ digits_worth (take i text) → 2 ^ 64 ≤ 10 * n + (get_or text i 0 - 48) → 2 ^ 64 ≤ digits_worth text
too-large text i n h e k =
    let b = get_or text i 0 in
    omega (arith, worth-more text i b h (get_or_default text i 0 b h), front text (i + 1) 0 0 (omega arith), e, k)

none-back : (v : ℕ) → (let n : Option ℕ = None in n ≡ (if nat_lt v (2 ^ 64) then Some v else None)) → 2 ^ 64 ≤ v
none-back v e = grind (arith, nat_tests)

none-if : (v : ℕ) → 2 ^ 64 ≤ v → let n : Option ℕ = None in n ≡ (if nat_lt v (2 ^ 64) then Some v else None)
none-if v h = grind (arith, nat_tests)

-- where a front passes 64 bits, the whole does
pub stops : (text : List ℕ) (i n : ℕ) → i < length text → n ≡ digits_worth (take i text) →
    (let o : Option ℕ = None in o ≡ (if nat_lt (10 * n + (get_or text i 0 - 48)) (2 ^ 64) then Some (10 * n + (get_or text i 0 - 48)) else None)) →
    let o : Option ℕ = None in o ≡ (if nat_lt (digits_worth text) (2 ^ 64) then Some (digits_worth text) else None)
stops text i n h e f = none-if (digits_worth text) (too-large text i n h e (none-back (10 * n + (get_or text i 0 - 48)) f))
