-- What a device tells as a size is read again.
use Rattle.std.proofs.Common.{◌≡◌, ℕ, zero, suc, ◌<◌, ◌≤◌, ◌^◌, ◌&&◌, Bool, true, false, cond, if◌then◌else◌, List, [], ◌∷◌, length, drop, Option, Some, None, Result, Ok, Err, refl, sym, ap, ◌∙◌, subst, arith, nat_le, nat_lt, ◌==◌}
use Rattle.std.specs.Prelude.{slice_index, min}
use Rattle.std.specs.Char.{digit_value}
use Rattle.std.specs.List.{list_all}
use Rattle.std.specs.Str.{IsUtf8}
use Rattle.std.specs.Str.Parse.{AllDigits, IsNumeral, digits_value, without_leading_plus, ParsesUnsigned}
use Rattle.std.specs.Fmt.{digits}
use Rattle.std.proofs.lemmas.Bool.Decides.{nat_tests}
use Rattle.std.proofs.lemmas.Str.{IsUtf8-from_ascii}
use Rattle.std.proofs.lemmas.Fmt.{digits_is_IsNumeral}
use Rattle.fb_frame.specs.Numbers.{size_text}
use Rattle.fb_message.proofs.Words.{parts}
use Rattle.dev_model.proofs.DigitLemmas.{digits-short}
use Rattle.host_driver.specs.SizeText.{is_hex, is_hex_row, hex_number, size_bounded, download_size}

-- hexadecimal digits are ASCII, and none is a plus
digit-ascii : (c : ℕ) → digit_value c < 16 → c < 128
digit-ascii c h = grind (arith, nat_tests)

digits-ascii : (ds : List ℕ) → AllDigits 16 ds → (i : ℕ) → slice_index ds i < 128
digits-ascii [] h i = omega arith
digits-ascii (c ∷ ds) h zero = digit-ascii c h.0
digits-ascii (c ∷ ds) h (suc i) = digits-ascii ds h.1 i

below : (c : ℕ) → is_hex c ≡ true → digit_value c < 16
below c h = let k : digit_value c < 16 = grind (arith, nat_tests) in k

all-digits : (ds : List ℕ) → list_all is_hex ds ≡ true → AllDigits 16 ds
all-digits [] h = tt
all-digits (c ∷ ds) h = let both = parts (is_hex c) (list_all is_hex ds) h in (below c both.0, all-digits ds both.1)

pub IsUtf8-hex : (ds : List ℕ) → list_all is_hex ds ≡ true → IsUtf8 ds
IsUtf8-hex ds h = IsUtf8-from_ascii ds (digits-ascii ds (all-digits ds h))

no-plus : (c : ℕ) → digit_value c < 16 → (c == 43) ≡ false
no-plus c h = grind (arith, nat_tests)

plain-numeral : (ds : List ℕ) → AllDigits 16 ds → without_leading_plus ds ≡ ds
plain-numeral [] h = refl
plain-numeral (c ∷ ds) h = ap (λ b. drop (cond b 1 0) (c ∷ ds)) (no-plus c h.0)

row : (b c d e : Bool) → b ≡ true → c ≡ true → d ≡ true → (b && (c && (d && e))) ≡ e
row true true true e x y z = refl
row false c d e x y z = absurd cc
row true false d e x y z = absurd cc
row true true false e x y z = absurd cc

number-by : (b : Bool) (n : ℕ) (r : Option ℕ) → (b ≡ true → r ≡ Some n) → (b ≡ false → r ≡ None) → r ≡ (if b then Some n else None)
number-by true n r f g = f refl
number-by false n r f g = g refl

-- what the digits are read as
pub hex-read : {E : Type 0} (ds : List ℕ) (r : Result ℕ E) → 0 < length ds → length ds ≤ 16 → list_all is_hex ds ≡ true → ParsesUnsigned 64 16 ds r → (o : Option ℕ) → ((n : ℕ) → r ≡ Ok n → o ≡ Some n) → ((e : E) → r ≡ Err e → o ≡ None) → o ≡ hex_number ds
hex-read {E = E} ds r some short all p o ok err =
    number-by (is_hex_row ds) (digits_value 16 ds) o
    (λ h. found r p (fits (h' h)) refl) (λ h. missed r p (λ f. over (n' h) f) refl)
  where
    whole : is_hex_row ds ≡ nat_lt (digits_value 16 ds) (2 ^ 64)
    whole = row (nat_le 1 (length ds)) (nat_le (length ds) 16) (list_all is_hex ds) (nat_lt (digits_value 16 ds) (2 ^ 64)) (grind (arith, nat_tests)) (grind (arith, nat_tests)) all

    h' : is_hex_row ds ≡ true → nat_lt (digits_value 16 ds) (2 ^ 64) ≡ true
    h' h = sym whole ∙ h

    n' : is_hex_row ds ≡ false → nat_lt (digits_value 16 ds) (2 ^ 64) ≡ false
    n' h = sym whole ∙ h

    plain : without_leading_plus ds ≡ ds
    plain = plain-numeral ds (all-digits ds all)

    fits : nat_lt (digits_value 16 ds) (2 ^ 64) ≡ true → digits_value 16 ds < 2 ^ 64
    fits h = grind (arith, nat_tests)

    over : nat_lt (digits_value 16 ds) (2 ^ 64) ≡ false → digits_value 16 ds < 2 ^ 64 → ⊥
    over h f = grind (arith, nat_tests)

    meets : digits_value 16 ds < 2 ^ 64 → IsNumeral 16 (without_leading_plus ds) × (digits_value 16 (without_leading_plus ds) < 2 ^ 64)
    meets f = subst (λ t. IsNumeral 16 t × (digits_value 16 t < 2 ^ 64)) (sym plain) ((some, all-digits ds all), f)

    met : IsNumeral 16 (without_leading_plus ds) × (digits_value 16 (without_leading_plus ds) < 2 ^ 64) → digits_value 16 ds < 2 ^ 64
    met m = (subst (λ t. IsNumeral 16 t × (digits_value 16 t < 2 ^ 64)) plain m).1

    found : (q : Result ℕ E) → ParsesUnsigned 64 16 ds q → digits_value 16 ds < 2 ^ 64 → r ≡ q → o ≡ Some (digits_value 16 ds)
    found (Ok n) q f e = ok n e ∙ ap (λ k. Some k) (q.1 ∙ ap (digits_value 16) plain)
    found (Err x) q f e = absurd (q (meets f))

    missed : (q : Result ℕ E) → ParsesUnsigned 64 16 ds q → (digits_value 16 ds < 2 ^ 64 → ⊥) → r ≡ q → o ≡ None
    missed (Ok n) q f e = absurd (f (met q.0))
    missed (Err x) q f e = err x e

pub ruleset numerals = (IsUtf8-hex)

-- the digits of a size
hex-all : (ds : List ℕ) → AllDigits 16 ds → list_all is_hex ds ≡ true
hex-all [] h = refl
hex-all (c ∷ ds) h = let k : is_hex c ≡ true = grind (arith, nat_tests, h.0) in rw k (hex-all ds h.1)

size-row : (n : ℕ) → n ≤ 268435456 → is_hex_row (digits 16 true n) ≡ true
size-row n h =
    let numeral = digits_is_IsNumeral 16 true (omega arith) (omega arith) n (omega (arith, h)) in
    let some : nat_le 1 (length (digits 16 true n)) ≡ true = grind (arith, nat_tests, numeral.0.0) in
    let short : nat_le (length (digits 16 true n)) 16 ≡ true = (let s = digits-short n (omega (arith, h)) in grind (arith, nat_tests)) in
    let fits : nat_lt (digits_value 16 (digits 16 true n)) (2 ^ 64) ≡ true = (let e = numeral.1 in grind (arith, nat_tests)) in
    row (nat_le 1 (length (digits 16 true n))) (nat_le (length (digits 16 true n)) 16) (list_all is_hex (digits 16 true n)) (nat_lt (digits_value 16 (digits 16 true n)) (2 ^ 64)) some short (hex-all (digits 16 true n) numeral.0.1) ∙ fits

size-number : (n : ℕ) → n ≤ 268435456 → hex_number (digits 16 true n) ≡ Some n
size-number n h =
    let numeral = digits_is_IsNumeral 16 true (omega arith) (omega arith) n (omega (arith, h)) in
    ap (λ b. if b then Some (digits_value 16 (digits 16 true n)) else None) (size-row n h) ∙ ap (λ k. Some k) numeral.1

bounded-same : (n : ℕ) → 131072 ≤ n → n ≤ 268435456 → size_bounded (Some n) ≡ Some n
bounded-same n low high =
    let least : nat_le 131072 n ≡ true = grind (arith, nat_tests) in
    let most : min n 268435456 ≡ n = grind (arith, nat_tests) in
    rw (least, most) refl

pub size-again : (n : ℕ) → 131072 ≤ n → n ≤ 268435456 → download_size (size_text n) ≡ Some n
size-again n low high = ap size_bounded (size-number n high) ∙ bounded-same n low high
