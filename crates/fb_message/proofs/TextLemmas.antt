-- Words and colons in texts.
use Rattle.std.proofs.Common.{◌≡◌, ℕ, suc, cond, not, ◌+◌, Bool, true, false, ◌-◌, List, [], ◌∷◌, length, take, drop, Option, Some, None, refl, sym, ap, ◌∙◌, arith}
use Rattle.std.specs.Prelude.{◌==◌, ◌&&◌, bytes_eq, if◌then◌else◌, option_map, nat_lt}
use Rattle.std.specs.List.{position, position_or_len}
use Rattle.std.proofs.lemmas.Bool.Decides.{nat_tests}
use Rattle.std.proofs.lemmas.List.{take_rest}
use Rattle.fb_message.specs.Prefixes.{behind_word, at_colon}

word-cell : (b c : Bool) (a : Bool) (some rest : Option (List ℕ)) → b ≡ c → rest ≡ (if a then some else None) → (if b then rest else None) ≡ (if c && a then some else None)
word-cell true true a some rest e f = f
word-cell true false a some rest e f = absurd cc
word-cell false true a some rest e f = absurd cc
word-cell false false a some rest e f = refl

turned : (w t : ℕ) → (w == t) ≡ (t == w)
turned w t = grind (arith, nat_tests)

-- what follows a word, as `strip_prefix` finds it
pub behind-is : (word text : List ℕ) → behind_word word text ≡ (if bytes_eq (take (length word) text) word then Some (drop (length word) text) else None)
behind-is [] text = refl
behind-is (w ∷ word) [] = refl
behind-is (w ∷ word) (t ∷ text) =
    word-cell (w == t) (t == w) (bytes_eq (take (length word) text) word) (Some (drop (length word) text)) (behind_word word text) (turned w t) (behind-is word text)

-- a byte more before the colon
abbrev before : ℕ → List ℕ × List ℕ → List ℕ × List ℕ
before b parts = (b ∷ parts.0, parts.1)

-- the parts around a place, where the test passes
abbrev place_if : Bool → List ℕ → ℕ → Option (List ℕ × List ℕ)
place_if test text i = if test then Some (take i text, drop (i + 1) text) else None

abbrev at_place : List ℕ → ℕ → Option (List ℕ × List ℕ)
at_place text i = place_if (nat_lt i (length text)) text i

place-cell : (b : ℕ) (text : List ℕ) (n : ℕ) (d : Bool) → nat_lt n (length text) ≡ d → option_map (before b) (place_if d text n) ≡ at_place (b ∷ text) (suc n)
place-cell b text n true e =
    let within : nat_lt (suc n) (length (b ∷ text)) ≡ true = grind (arith, nat_tests) in
    let next : suc n + 1 ≡ suc (n + 1) = omega arith in
    rw (within, next) refl
place-cell b text n false e =
    let past : nat_lt (suc n) (length (b ∷ text)) ≡ false = grind (arith, nat_tests) in
    rw past refl

colon-cell : (b : ℕ) (text : List ℕ) (n : ℕ) (c : Bool) → at_colon text ≡ at_place text n →
    (if c then Some ([], text) else option_map (before b) (at_colon text)) ≡ at_place (b ∷ text) (cond (not c) (1 + n) 0)
colon-cell b text n true e =
    let within : nat_lt 0 (length (b ∷ text)) ≡ true = grind (arith, nat_tests) in
    sym (ap (λ d. place_if d (b ∷ text) 0) within)
colon-cell b text n false e =
    let next : suc n ≡ 1 + n = omega arith in
    ap (option_map (before b)) e ∙ (place-cell b text n (nat_lt n (length text)) refl ∙ ap (at_place (b ∷ text)) next)

-- the parts at the first colon, as `position` finds it
colon-is : (text : List ℕ) → at_colon text ≡ at_place text (position_or_len (λ b. b == 58) text)
colon-is [] = refl
colon-is (b ∷ text) = colon-cell b text (position_or_len (λ b. b == 58) text) (b == 58) (colon-is text)

some-place : (text : List ℕ) (n i : ℕ) (d : Bool) → Some i ≡ (if d then Some n else None) → place_if d text n ≡ place_if true text i
some-place text n i true e = let same : i ≡ n = cc in rw same refl
some-place text n i false e = absurd cc

no-place : (text : List ℕ) (n : ℕ) (d : Bool) → (let o : Option ℕ = None in o ≡ (if d then Some n else None)) → place_if d text n ≡ None
no-place text n true e = absurd cc
no-place text n false e = refl

pub colon-parts : (text : List ℕ) (i : ℕ) → Some i ≡ position (λ b. b == 58) text →
    (let parts : List ℕ × List ℕ = (take i text, take (length text - (i + 1)) (drop (i + 1) text)) in Some parts ≡ at_colon text)
colon-parts text i e =
    let n = position_or_len (λ b. b == 58) text in
    rw (take_rest text (i + 1)) (sym (colon-is text ∙ some-place text n i (nat_lt n (length text)) e))

pub no-colon : (text : List ℕ) → (let o : Option ℕ = None in o ≡ position (λ b. b == 58) text) → None ≡ at_colon text
no-colon text e =
    let n = position_or_len (λ b. b == 58) text in
    sym (colon-is text ∙ no-place text n (nat_lt n (length text)) e)

pub ruleset behind_words = (behind-is)

pub ruleset colons = (colon-parts, no-colon)
