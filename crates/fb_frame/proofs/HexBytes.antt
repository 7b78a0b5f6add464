-- The bytes of a number as hexadecimal text are its digits, and they are read again.
use Rattle.std.proofs.Common.{◌≡◌, ℕ, zero, suc, ◌/◌, ◌%◌, ◌^◌, ◌<◌, ◌==◌, Bool, true, false, ◌&&◌, List, [], ◌∷◌, Option, Some, None, Result, Ok, Err, refl, sym, ap, ◌∙◌, arith, slice_index, inl, inr, subst}
use Rattle.std.specs.Prelude.{MatchResult}
use Rattle.std.specs.Result.{is_ok}
use Rattle.std.specs.Int.{w32, to_be_bytes, from_be_bytes}
use Rattle.std.specs.Fmt.{digit_glyph}
use Rattle.std.proofs.lemmas.Bool.{and_parts, eqb-true, cases_lt}
use Rattle.std.proofs.lemmas.Nat.{from_be_bytes-to_be_bytes_4}
use Rattle.hex.specs.Hex.{encode_lower, encode_with, lower_digits, decode_pairs, decode_sized, IsBytes}
use Rattle.hex.specs.declared.error.FromHexError.{FromHexError}
use Rattle.hex.proofs.HexLemmas.{decode_pairs-encode_with, IsDigits-lower_digits}
use Rattle.fb_frame.specs.Numbers.{hex8, read_hex8}
use Rattle.fb_frame.proofs.HexDigits.{hex_read}

-- the first n digits of the table are those that are written
abbrev are_glyphs : ℕ → Bool
are_glyphs zero = true
are_glyphs (suc n) = (slice_index lower_digits n == digit_glyph false n) && are_glyphs n

glyph-at : (n d : ℕ) → are_glyphs n ≡ true → d < n → slice_index lower_digits d ≡ digit_glyph false d
glyph-at zero d h l = absurd (omega arith)
glyph-at (suc n) d h l =
    let both = and_parts (slice_index lower_digits n == digit_glyph false n) (are_glyphs n) h in
    elim (cases_lt d n) [
      | inl below ↦ glyph-at n d both.1 below
      | inr top ↦
          let e : d ≡ n = omega arith in
          rw e (eqb-true (slice_index lower_digits n) (digit_glyph false n) both.0)
    ]

glyph : (d e : ℕ) → d ≡ e → e < 16 → slice_index lower_digits d ≡ digit_glyph false e
glyph d e h l = ap (slice_index lower_digits) h ∙ glyph-at 16 e refl l

pub hex8-bytes : (n : ℕ) → n < 2 ^ 32 → encode_lower (to_be_bytes w32 n) ≡ hex8 n
unfolding encode_with
hex8-bytes n h =
    let a = glyph (n / 16777216 % 256 / 16) (n / 16 / 16 / 16 / 16 / 16 / 16 / 16 % 16) (omega arith) (omega arith) in
    let b = glyph (n / 16777216 % 256 % 16) (n / 16 / 16 / 16 / 16 / 16 / 16 % 16) (omega arith) (omega arith) in
    let c = glyph (n / 65536 % 256 / 16) (n / 16 / 16 / 16 / 16 / 16 % 16) (omega arith) (omega arith) in
    let d = glyph (n / 65536 % 256 % 16) (n / 16 / 16 / 16 / 16 % 16) (omega arith) (omega arith) in
    let e = glyph (n / 256 % 256 / 16) (n / 16 / 16 / 16 % 16) (omega arith) (omega arith) in
    let f = glyph (n / 256 % 256 % 16) (n / 16 / 16 % 16) (omega arith) (omega arith) in
    let g = glyph (n % 256 / 16) (n / 16 % 16) (omega arith) (omega arith) in
    let k = glyph (n % 256 % 16) (n % 16) (omega arith) (omega arith) in
    λ i. a i ∷ b i ∷ c i ∷ d i ∷ e i ∷ f i ∷ g i ∷ k i ∷ []

pub ruleset hex_bytes = (hex8-bytes)

bytes-small : (n : ℕ) → IsBytes (to_be_bytes w32 n)
bytes-small n zero = omega arith
bytes-small n (suc zero) = omega arith
bytes-small n (suc (suc zero)) = omega arith
bytes-small n (suc (suc (suc zero))) = omega arith
bytes-small n (suc (suc (suc (suc i)))) = omega arith

-- the digits of a number are decoded into its bytes
decoded : (n : ℕ) → n < 2 ^ 32 → decode_sized (hex8 n) 4 ≡ Ok (to_be_bytes w32 n)
decoded n h =
    ap (decode_pairs 0) (sym (hex8-bytes n h)) ∙ decode_pairs-encode_with lower_digits IsDigits-lower_digits 0 (to_be_bytes w32 n) (bytes-small n)

none-case : (o : Option ℕ) → ((n : ℕ) → o ≡ Some n → ⊥) → None ≡ o
none-case None f = refl
none-case (Some n) f = absurd (f n refl)

-- a text that no number is spelled by
none-read : (text : List ℕ) → ((n : ℕ) → n < 2 ^ 32 → text ≡ hex8 n → ⊥) → None ≡ read_hex8 text
none-read text f = none-case (read_hex8 text) (λ n e. let both = (hex_read text n).0 e in f n both.0 both.1)

-- what `decode_to_slice` answers and writes for a text of eight digits
abbrev Decoded : List ℕ → List ℕ → Result (Unit {0}) FromHexError → Type 0
Decoded text out answer = MatchResult (decode_sized text 4) (λ bytes. (answer ≡ Ok tt) × (out ≡ bytes)) (λ e. answer ≡ Err e)

decoded-again : (text out : List ℕ) (answer : Result (Unit {0}) FromHexError) (n : ℕ) → Decoded text out answer → n < 2 ^ 32 → text ≡ hex8 n →
    (answer ≡ Ok tt) × (out ≡ to_be_bytes w32 n)
decoded-again text out answer n d h e =
    let P : Result (List ℕ) FromHexError → Type 0 = λ r. MatchResult r (λ bytes. (answer ≡ Ok tt) × (out ≡ bytes)) (λ e. answer ≡ Err e) in
    subst P (ap (λ t. decode_sized t 4) e ∙ decoded n h) d

-- a text that the number spells is read as it
pub read-same : (text : List ℕ) (n : ℕ) → n < 2 ^ 32 → text ≡ hex8 n → Some n ≡ read_hex8 text
read-same text n h e = sym ((hex_read text n).1 (h, e))

-- a text that isn't decoded
pub read-none : (text out : List ℕ) (answer : Result (Unit {0}) FromHexError) → Decoded text out answer → false ≡ is_ok answer → None ≡ read_hex8 text
read-none text out answer d f = none-read text (λ n h e. let both = decoded-again text out answer n d h e in absurd (not-ok both.0 f))
  where
    not-ok : {answer : Result (Unit {0}) FromHexError} → answer ≡ Ok tt → false ≡ is_ok answer → ⊥
    not-ok e f = let g = f ∙ ap is_ok e in absurd cc

-- a text that is decoded into a number of another spelling
pub read-other : (text out : List ℕ) (answer : Result (Unit {0}) FromHexError) (n : ℕ) → Decoded text out answer → n ≡ from_be_bytes w32 out →
    (text ≡ hex8 n → ⊥) → None ≡ read_hex8 text
read-other text out answer n d v f = none-read text (λ m h e.
    let both = decoded-again text out answer m d h e in
    let number : n ≡ m = v ∙ ap (from_be_bytes w32) both.1 ∙ from_be_bytes-to_be_bytes_4 m h in
    f (e ∙ ap hex8 (sym number)))
