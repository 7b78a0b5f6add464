-- A number in a field is the one that was written there, and its field has the number's bytes.
use Rattle.std.proofs.Common.{◌≡◌, ℕ, zero, suc, ◌+◌, ◌^◌, ◌<◌, ◌≤◌, List, [], ◌∷◌, ◌++◌, length, take, drop, refl, sym, ap, ◌∙◌, arith, inl, inr}
use Rattle.std.specs.Int.{w16, w32, w64, from_le_bytes, to_le_bytes}
use Rattle.std.proofs.lemmas.Bool.{cases_lt}
use Rattle.std.proofs.lemmas.List.{take-append-drop, drop-drop, length-take, length-take-le, length-drop, get_or-drop, get_or-take, get_or_past}
use Rattle.std.proofs.lemmas.Nat.{le_bytes_2, le_bytes_4, le_bytes_8, from_le_bytes-to_le_bytes_2, from_le_bytes-to_le_bytes_4, from_le_bytes-to_le_bytes_8}
use Rattle.fb_frame.specs.Bytes.{AreBytes}
use Rattle.fb_frame.specs.Fields.{u16_at, u32_at, u64_at}

pub bytes-append : (x y : List ℕ) → AreBytes x → AreBytes y → AreBytes (x ++ y)
bytes-append [] y f g i = g i
bytes-append (b ∷ x) y f g zero = f 0
bytes-append (b ∷ x) y f g (suc i) = bytes-append x y (λ j. f (suc j)) g i

pub bytes-drop : (n : ℕ) (bytes : List ℕ) → AreBytes bytes → AreBytes (drop n bytes)
bytes-drop n bytes h i = rw get_or-drop (h (n + i))

pub bytes-take : (n : ℕ) (bytes : List ℕ) → AreBytes bytes → AreBytes (take n bytes)
bytes-take n bytes h i =
    elim (cases_lt i n) [
      | inl below ↦ rw (get_or-take n bytes i 0 below) (h i)
      | inr past ↦ rw (get_or_past (take n bytes) i 0 (omega (arith, length-take n bytes))) (omega arith)
    ]

-- the bytes from a place on are a field and the bytes after it
pub field-cut : (k n j : ℕ) (bytes : List ℕ) → k + n ≡ j → drop k bytes ≡ take n (drop k bytes) ++ drop j bytes
field-cut k n j bytes e = sym (take-append-drop n (drop k bytes)) ∙ ap (λ t. take n (drop k bytes) ++ t) (drop-drop n k bytes ∙ ap (λ m. drop m bytes) e)

pub field-length : (k n : ℕ) (bytes : List ℕ) → k + n ≤ length bytes → length (take n (drop k bytes)) ≡ n
field-length k n bytes h = length-take-le n (drop k bytes) (omega (arith, length-drop k bytes))

pub field-bytes : (k n : ℕ) (bytes : List ℕ) → AreBytes bytes → AreBytes (take n (drop k bytes))
field-bytes k n bytes h = bytes-take n (drop k bytes) (bytes-drop k bytes h)

-- a field by std's words
pub u16_at-is : (place : ℕ) (bytes : List ℕ) → u16_at place bytes ≡ from_le_bytes w16 (take 2 (drop place bytes))
unfolding u16_at
u16_at-is place bytes = refl

pub u32_at-is : (place : ℕ) (bytes : List ℕ) → u32_at place bytes ≡ from_le_bytes w32 (take 4 (drop place bytes))
unfolding u32_at
u32_at-is place bytes = refl

pub u64_at-is : (place : ℕ) (bytes : List ℕ) → u64_at place bytes ≡ from_le_bytes w64 (take 8 (drop place bytes))
unfolding u64_at
u64_at-is place bytes = refl

-- a number that stands in a field has the field's bytes
pub field16 : (k : ℕ) (bytes : List ℕ) → AreBytes bytes → k + 2 ≤ length bytes → take 2 (drop k bytes) ≡ to_le_bytes w16 (u16_at k bytes)
unfolding u16_at
field16 k bytes h l = sym (le_bytes_2 (take 2 (drop k bytes)) _ (field-length k 2 bytes l) (field-bytes k 2 bytes h) refl)

pub field32 : (k : ℕ) (bytes : List ℕ) → AreBytes bytes → k + 4 ≤ length bytes → take 4 (drop k bytes) ≡ to_le_bytes w32 (u32_at k bytes)
unfolding u32_at
field32 k bytes h l = sym (le_bytes_4 (take 4 (drop k bytes)) _ (field-length k 4 bytes l) (field-bytes k 4 bytes h) refl)

pub field64 : (k : ℕ) (bytes : List ℕ) → AreBytes bytes → k + 8 ≤ length bytes → take 8 (drop k bytes) ≡ to_le_bytes w64 (u64_at k bytes)
unfolding u64_at
field64 k bytes h l = sym (le_bytes_8 (take 8 (drop k bytes)) _ (field-length k 8 bytes l) (field-bytes k 8 bytes h) refl)

-- the number in a field fits its width
pub below16 : (k : ℕ) (bytes : List ℕ) → AreBytes bytes → u16_at k bytes < 2 ^ 16
unfolding u16_at
below16 k bytes h = let b = field-bytes k 2 bytes h in omega (arith, b 0, b 1)

pub below32 : (k : ℕ) (bytes : List ℕ) → AreBytes bytes → u32_at k bytes < 2 ^ 32
unfolding u32_at
below32 k bytes h = let b = field-bytes k 4 bytes h in omega (arith, b 0, b 1, b 2, b 3)

pub below64 : (k : ℕ) (bytes : List ℕ) → AreBytes bytes → u64_at k bytes < 2 ^ 64
unfolding u64_at
below64 k bytes h = let b = field-bytes k 8 bytes h in omega (arith, b 0, b 1, b 2, b 3, b 4, b 5, b 6, b 7)

-- the bytes from a place on are those of the number there and the bytes after it
pub next16 : (k j : ℕ) (bytes : List ℕ) → AreBytes bytes → k + 2 ≡ j → j ≤ length bytes → drop k bytes ≡ to_le_bytes w16 (u16_at k bytes) ++ drop j bytes
next16 k j bytes h e l = field-cut k 2 j bytes e ∙ ap (λ t. t ++ drop j bytes) (field16 k bytes h (omega arith))

pub next32 : (k j : ℕ) (bytes : List ℕ) → AreBytes bytes → k + 4 ≡ j → j ≤ length bytes → drop k bytes ≡ to_le_bytes w32 (u32_at k bytes) ++ drop j bytes
next32 k j bytes h e l = field-cut k 4 j bytes e ∙ ap (λ t. t ++ drop j bytes) (field32 k bytes h (omega arith))

pub next64 : (k j : ℕ) (bytes : List ℕ) → AreBytes bytes → k + 8 ≡ j → j ≤ length bytes → drop k bytes ≡ to_le_bytes w64 (u64_at k bytes) ++ drop j bytes
next64 k j bytes h e l = field-cut k 8 j bytes e ∙ ap (λ t. t ++ drop j bytes) (field64 k bytes h (omega arith))

-- a number that was written at a place is read there
pub again16 : (k n : ℕ) (bytes rest : List ℕ) → n < 2 ^ 16 → drop k bytes ≡ to_le_bytes w16 n ++ rest → u16_at k bytes ≡ n
unfolding u16_at
again16 k n bytes rest h e = ap (λ t. from_le_bytes w16 (take 2 t)) e ∙ from_le_bytes-to_le_bytes_2 n h

pub again32 : (k n : ℕ) (bytes rest : List ℕ) → n < 2 ^ 32 → drop k bytes ≡ to_le_bytes w32 n ++ rest → u32_at k bytes ≡ n
unfolding u32_at
again32 k n bytes rest h e = ap (λ t. from_le_bytes w32 (take 4 t)) e ∙ from_le_bytes-to_le_bytes_4 n h

pub again64 : (k n : ℕ) (bytes rest : List ℕ) → n < 2 ^ 64 → drop k bytes ≡ to_le_bytes w64 n ++ rest → u64_at k bytes ≡ n
unfolding u64_at
again64 k n bytes rest h e = ap (λ t. from_le_bytes w64 (take 8 t)) e ∙ from_le_bytes-to_le_bytes_8 n h
