-- One bit of the words, set and cleared, and the free units that the bits mark.
use Rattle.std.proofs.Common.{◌≡◌, ℕ, suc, ◌+◌, ◌-◌, ◌*◌, ◌/◌, ◌%◌, ◌^◌, ◌<◌, ◌≤◌, ◌≢◌, Bool, true, false, cond, eqb, ltb, not, ◌&&◌, ◌||◌, bit_and, bit_or, List, Option, Some, None, is_none, IsSome, [], ◌∷◌, length, get_or, set, replicate, count_by, refl, sym, ap, subst, ◌∙◌, inl, inr, arith, w64, length-set}
use Rattle.std.specs.Int.{bit_at, trailing_zeros}
use Rattle.std.proofs.lemmas.List.{get_or-set_same, get_or-set_other, get_or_past, get_or-replicate, length-replicate}
use Rattle.std.proofs.lemmas.List.Sums.{sum_by-set, sum_by-cons, count_by-le-length}
use Rattle.std.proofs.lemmas.Nat.Bits.{bit_at_set_same, bit_at_set_other, bit_at_clear_same, bit_at_clear_other, bit_at-zero, bit_at-trailing_zeros}
use Rattle.std.proofs.lemmas.List.Folds.{sum_by-replicate}
use Rattle.std.proofs.lemmas.Bool.{cases_eq, cases_lt, false≢true}
use Rattle.std.proofs.lemmas.Bool.Decides.{nat_tests}
use Rattle.unit_alloc.specs.Marks.{is_marked, is_free, free_count, AreMarked}

-- the word and the bit tell the unit
same_unit : (u v : ℕ) → v / 64 ≡ u / 64 → v % 64 ≡ u % 64 → v ≡ u
same_unit u v q r = omega arith

other_unit : (u v : ℕ) → v / 64 ≢ u / 64 → eqb v u ≡ false
other_unit u v ne = elim (cases_eq v u) [
  | inl e ↦ absurd (ne (ap (λ k. k / 64) e))
  | inr n ↦ grind (arith, nat_tests)
]

-- a word that is written, read at a unit's bit
bit_written : (words : List ℕ) (u v x : ℕ) → u < 64 * length words → v / 64 ≡ u / 64 → bit_at (get_or (set words (u / 64) x) (v / 64) 0) (v % 64) ≡ bit_at x (v % 64)
bit_written words u v x h e =
    ap (λ k. bit_at (get_or (set words (u / 64) x) k 0) (v % 64)) e
    ∙ ap (λ y. bit_at y (v % 64)) (get_or-set_same words (u / 64) x 0 (omega arith))

pub is_marked-mark : (words : List ℕ) (u v : ℕ) → u < 64 * length words →
    is_marked (set words (u / 64) (bit_or (get_or words (u / 64) 0) (1 * 2 ^ (u % 64) % 2 ^ 64))) v ≡ (eqb v u || is_marked words v)
unfolding is_marked
is_marked-mark words u v h =
    let w = get_or words (u / 64) 0 in
    let x = bit_or w (1 * 2 ^ (u % 64) % 2 ^ 64) in
    elim (cases_eq (v / 64) (u / 64)) [
      | inl e ↦ elim (cases_eq (v % 64) (u % 64)) [
        | inl r ↦
            let t : eqb v u ≡ true = let s = same_unit u v e r in grind (arith, nat_tests) in
            let b : bit_at x (v % 64) ≡ 1 = ap (bit_at x) r ∙ bit_at_set_same w64 w (u % 64) (omega arith) in
            ap (λ k. eqb k 1) (bit_written words u v x h e ∙ b) ∙ ap (λ k. k || eqb (bit_at (get_or words (v / 64) 0) (v % 64)) 1) (sym t)
        | inr r ↦
            let t : eqb v u ≡ false = grind (arith, nat_tests, ap (λ k. k % 64)) in
            let b : bit_at x (v % 64) ≡ bit_at w (v % 64) = bit_at_set_other w64 w (u % 64) (omega arith) (v % 64) r in
            ap (λ k. eqb k 1) (bit_written words u v x h e ∙ b ∙ ap (λ k. bit_at (get_or words k 0) (v % 64)) (sym e))
            ∙ ap (λ k. k || eqb (bit_at (get_or words (v / 64) 0) (v % 64)) 1) (sym t)
      ]
      | inr ne ↦
          let t : eqb v u ≡ false = other_unit u v ne in
          ap (λ k. eqb (bit_at k (v % 64)) 1) (get_or-set_other words (u / 64) (v / 64) x 0 ne)
          ∙ ap (λ k. k || eqb (bit_at (get_or words (v / 64) 0) (v % 64)) 1) (sym t)
    ]

pub is_marked-unmark : (words : List ℕ) (u v : ℕ) → u < 64 * length words →
    is_marked (set words (u / 64) (bit_and (get_or words (u / 64) 0) (2 ^ 64 - 1 - 1 * 2 ^ (u % 64) % 2 ^ 64))) v ≡ (not (eqb v u) && is_marked words v)
unfolding is_marked
is_marked-unmark words u v h =
    let w = get_or words (u / 64) 0 in
    let x = bit_and w (2 ^ 64 - 1 - 1 * 2 ^ (u % 64) % 2 ^ 64) in
    elim (cases_eq (v / 64) (u / 64)) [
      | inl e ↦ elim (cases_eq (v % 64) (u % 64)) [
        | inl r ↦
            let t : eqb v u ≡ true = let s = same_unit u v e r in grind (arith, nat_tests) in
            let b : bit_at x (v % 64) ≡ 0 = ap (bit_at x) r ∙ bit_at_clear_same w64 w (u % 64) (omega arith) in
            ap (λ k. eqb k 1) (bit_written words u v x h e ∙ b) ∙ ap (λ k. not k && eqb (bit_at (get_or words (v / 64) 0) (v % 64)) 1) (sym t)
        | inr r ↦
            let t : eqb v u ≡ false = grind (arith, nat_tests, ap (λ k. k % 64)) in
            let b : bit_at x (v % 64) ≡ bit_at w (v % 64) = bit_at_clear_other w64 w (u % 64) (omega arith) (v % 64) (omega arith) r in
            ap (λ k. eqb k 1) (bit_written words u v x h e ∙ b ∙ ap (λ k. bit_at (get_or words k 0) (v % 64)) (sym e))
            ∙ ap (λ k. not k && eqb (bit_at (get_or words (v / 64) 0) (v % 64)) 1) (sym t)
      ]
      | inr ne ↦
          let t : eqb v u ≡ false = other_unit u v ne in
          ap (λ k. eqb (bit_at k (v % 64)) 1) (get_or-set_other words (u / 64) (v / 64) x 0 ne)
          ∙ ap (λ k. not k && eqb (bit_at (get_or words (v / 64) 0) (v % 64)) 1) (sym t)
    ]

-- no bit of words of zeros is set
pub is_marked-zeros : (n u : ℕ) → is_marked (replicate n 0) u ≡ false
unfolding is_marked
is_marked-zeros n u = elim (cases_lt (u / 64) n) [
  | inl lt ↦ ap (λ k. eqb (bit_at k (u % 64)) 1) (get_or-replicate n (u / 64) 0 0 lt) ∙ ap (λ k. eqb k 1) (bit_at-zero (u % 64))
  | inr ge ↦ ap (λ k. eqb (bit_at k (u % 64)) 1) (get_or_past (replicate n 0) (u / 64) 0 (omega (arith, length-replicate {A = ℕ} n 0))) ∙ ap (λ k. eqb k 1) (bit_at-zero (u % 64))
]

-- an owner is written, and the bit with it
is_free-set : (owners : List (Option ℕ)) (u v : ℕ) (o : Option ℕ) → u < length owners → is_free (set owners u o) v ≡ cond (eqb v u) (is_none o) (is_free owners v)
is_free-set owners u v o h =
    let n = length-set owners u o in
    elim (cases_eq v u) [
      | inl e ↦
          let t : eqb v u ≡ true = grind (arith, nat_tests) in
          let l : ltb v (length (set owners u o)) ≡ true = grind (arith, nat_tests) in
          ap (λ b. b && is_none (get_or (set owners u o) v None)) l
          ∙ ap (λ k. is_none (get_or (set owners u o) k None)) e
          ∙ ap is_none (get_or-set_same owners u o None h)
          ∙ ap (λ b. cond b (is_none o) (is_free owners v)) (sym t)
      | inr ne ↦
          let t : eqb v u ≡ false = grind (arith, nat_tests) in
          ap (λ k. ltb v k && is_none (get_or (set owners u o) v None)) n
          ∙ ap (λ k. ltb v (length owners) && is_none k) (get_or-set_other owners u v o None ne)
          ∙ ap (λ b. cond b (is_none o) (is_free owners v)) (sym t)
    ]

-- how many are free after an owner is written
free_count-set : (owners : List (Option ℕ)) (u : ℕ) (o : Option ℕ) → u < length owners →
    free_count (set owners u o) + cond (is_none (get_or owners u None)) 1 0 ≡ free_count owners + cond (is_none o) 1 0
unfolding free_count
free_count-set owners u o h = sum_by-set (λ (x : Option ℕ). cond (is_none x) 1 0) owners u o None h

-- a free unit is there
pub is_free-within : (owners : List (Option ℕ)) (u : ℕ) → is_free owners u ≡ true → (u < length owners) × (is_none (get_or owners u None) ≡ true)
is_free-within owners u h = elim (cases_lt u (length owners)) [
  | inl lt ↦ let l : ltb u (length owners) ≡ true = grind (arith, nat_tests) in (lt, ap (λ b. b && is_none (get_or owners u None)) (sym l) ∙ h)
  | inr ge ↦ let l : ltb u (length owners) ≡ false = grind (arith, nat_tests) in absurd (false≢true (ap (λ b. b && is_none (get_or owners u None)) (sym l) ∙ h))
]

-- a free unit is counted
pub free_count-some : (owners : List (Option ℕ)) (u : ℕ) → is_free owners u ≡ true → 1 ≤ free_count owners
free_count-some owners u h =
    let w = is_free-within owners u h in
    let c = free_count-set owners u (Some 0) w.0 in
    let e : ◌≡◌ {A = ℕ} (cond (is_none (get_or owners u None)) 1 0) 1 = ap (λ (b : Bool). cond {A = ℕ} b 1 0) w.1 in
    omega arith

-- a unit that a part has is there
pub owner-within : (owners : List (Option ℕ)) (u : ℕ) → IsSome (get_or owners u None) → (u < length owners) × (is_none (get_or owners u None) ≡ false)
owner-within owners u h = elim (cases_lt u (length owners)) [
  | inl lt ↦ (lt, ap not h)
  | inr ge ↦ absurd (false≢true (subst IsSome (get_or_past owners u None ge) h))
]

-- there are no more free units than units
pub free_count-le : (owners : List (Option ℕ)) → free_count owners ≤ length owners
unfolding free_count
free_count-le owners = count_by-le-length is_none owners

-- a unit that a part has is none of the free ones
pub free_count-room : (owners : List (Option ℕ)) (u : ℕ) → IsSome (get_or owners u None) → free_count owners < length owners
free_count-room owners u h =
    let w = owner-within owners u h in
    let c = free_count-set owners u None w.0 in
    let e : ◌≡◌ {A = ℕ} (cond (is_none (get_or owners u None)) 1 0) 0 = ap (λ (b : Bool). cond {A = ℕ} b 1 0) w.1 in
    omega (arith, free_count-le (set owners u None), length-set owners u None)

-- a free unit gets an owner
pub AreMarked-give : (owners : List (Option ℕ)) (words new : List ℕ) (free u p : ℕ) → AreMarked owners words free → is_free owners u ≡ true → length new ≡ length words →
    ((v : ℕ) → is_marked new v ≡ (not (eqb v u) && is_marked words v)) → AreMarked (set owners u (Some p)) new (free - 1)
AreMarked-give owners words new free u p m h long marks =
    let w = is_free-within owners u h in
    let n = length-set owners u (Some p) in
    let c = free_count-set owners u (Some p) w.0 in
    let e : ◌≡◌ {A = ℕ} (cond (is_none (get_or owners u None)) 1 0) 1 = ap (λ (b : Bool). cond {A = ℕ} b 1 0) w.1 in
    record {
      marks = λ v. marks v ∙ ap (λ b. not (eqb v u) && b) (m.marks v)
          ∙ elim (eqb v u) as (λ b. (not b && is_free owners v) ≡ cond b false (is_free owners v)) [ true ↦ refl | false ↦ refl ]
          ∙ sym (is_free-set owners u v (Some p) w.0);
      long = omega (arith, m.long);
      small = omega (arith, m.small);
      counted = omega (arith, m.counted);
    }

-- a unit is taken back from its owner
pub AreMarked-take_back : (owners : List (Option ℕ)) (words new : List ℕ) (free u : ℕ) → AreMarked owners words free → IsSome (get_or owners u None) → length new ≡ length words →
    ((v : ℕ) → is_marked new v ≡ (eqb v u || is_marked words v)) → AreMarked (set owners u None) new (free + 1)
AreMarked-take_back owners words new free u m h long marks =
    let w = owner-within owners u h in
    let n = length-set owners u None in
    let c = free_count-set owners u None w.0 in
    let e : ◌≡◌ {A = ℕ} (cond (is_none (get_or owners u None)) 1 0) 0 = ap (λ (b : Bool). cond {A = ℕ} b 1 0) w.1 in
    record {
      marks = λ v. marks v ∙ ap (λ b. eqb v u || b) (m.marks v)
          ∙ elim (eqb v u) as (λ b. (b || is_free owners v) ≡ cond b true (is_free owners v)) [ true ↦ refl | false ↦ refl ]
          ∙ sym (is_free-set owners u v None w.0);
      long = omega (arith, m.long);
      small = omega (arith, m.small);
      counted = omega (arith, m.counted);
    }

-- no unit is free where none has no owner
free_count-none : (owners : List (Option ℕ)) → ((k : ℕ) → k < length owners → is_none (get_or owners k None) ≡ false) → free_count owners ≡ 0
unfolding free_count
free_count-none [] h = refl
free_count-none (o ∷ owners) h =
    let c = sum_by-cons (λ (x : Option ℕ). cond {A = ℕ} (is_none x) 1 0) o owners in
    let i : count_by is_none owners ≡ 0 = free_count-none owners (λ k lt. h (suc k) (omega arith)) in
    let z : ◌≡◌ {A = ℕ} (cond (is_none o) 1 0) 0 = ap (λ (b : Bool). cond {A = ℕ} b 1 0) (h 0 (omega arith)) in
    omega arith

-- the test of a unit that is there
pub is_none-is_free : (owners : List (Option ℕ)) (k : ℕ) → k < length owners → is_free owners k ≡ is_none (get_or owners k None)
is_none-is_free owners k h = let l : ltb k (length owners) ≡ true = grind (arith, nat_tests) in ap (λ b. b && is_none (get_or owners k None)) l

-- no word is left
pub no_word : (owners : List (Option ℕ)) (words : List ℕ) (free : ℕ) → AreMarked owners words free → ((k : ℕ) → k < 64 * length words → is_free owners k ≡ false) → free_count owners ≡ 0
no_word owners words free m h = free_count-none owners (λ k lt. sym (is_none-is_free owners k lt) ∙ h k (omega (arith, m.long)))

-- a unit's bit in a word
pub mark_in : (words : List ℕ) (w k : ℕ) → k / 64 ≡ w → is_marked words k ≡ eqb (bit_at (get_or words w 0) (k % 64)) 1
unfolding is_marked
mark_in words w k e = ap (λ q. eqb (bit_at (get_or words q 0) (k % 64)) 1) e

-- a word without a bit
pub empty_word : (owners : List (Option ℕ)) (words : List ℕ) (free w : ℕ) → AreMarked owners words free → get_or words w 0 ≡ 0 →
    ((k : ℕ) → k < 64 * w → is_free owners k ≡ false) → (k : ℕ) → k < 64 * (w + 1) → is_free owners k ≡ false
empty_word owners words free w m e h k lt = elim (cases_lt k (64 * w)) [
  | inl below ↦ h k below
  | inr here ↦
      sym (m.marks k) ∙ mark_in words w k (omega arith)
      ∙ ap (λ x. eqb (bit_at x (k % 64)) 1) e ∙ ap (λ x. eqb x 1) (bit_at-zero (k % 64))
]

-- the lowest bit of the first word that has one
module _ (owners : List (Option ℕ)) (words : List ℕ) (free w x : ℕ) (m : AreMarked owners words free) (e : x ≡ get_or words w 0) (fits : x < 2 ^ 64) (some : 0 < x) where
  pub lowest_mark-free : is_free owners (w * 64 + trailing_zeros w64 x) ≡ true
  lowest_mark-free =
      let t = bit_at-trailing_zeros w64 x some fits in
      let r : ℕ = w * 64 + trailing_zeros w64 x in
      sym (m.marks r) ∙ mark_in words w r (omega (arith, t.0))
      ∙ ap (λ y. eqb (bit_at y (r % 64)) 1) (sym e) ∙ ap (λ i. eqb (bit_at x i) 1) (omega (arith, t.0)) ∙ ap (λ y. eqb y 1) t.1

  pub lowest_mark-below : ((k : ℕ) → k < 64 * w → is_free owners k ≡ false) → (k : ℕ) → k < w * 64 + trailing_zeros w64 x → is_free owners k ≡ false
  lowest_mark-below h k lt = elim (cases_lt k (64 * w)) [
    | inl below ↦ h k below
    | inr here ↦
        let t = bit_at-trailing_zeros w64 x some fits in
        sym (m.marks k) ∙ mark_in words w k (omega (arith, t.0))
        ∙ ap (λ y. eqb (bit_at y (k % 64)) 1) (sym e) ∙ ap (λ y. eqb y 1) (t.2 (k % 64) (omega (arith, t.0)))
  ]

  -- it is one of the units
  pub lowest_mark-fits : w * 64 + trailing_zeros w64 x < 2 ^ 32
  lowest_mark-fits = omega (arith, m.small, (is_free-within owners (w * 64 + trailing_zeros w64 x) lowest_mark-free).0)

-- all units are free
pub AreMarked-all : (words : List ℕ) (n : ℕ) → n < 2 ^ 32 → n ≤ 64 * length words → ((v : ℕ) → is_marked words v ≡ ltb v n) → AreMarked (replicate n None) words n
unfolding free_count
AreMarked-all words n small long marks =
    let l = length-replicate {A = Option ℕ} n None in
    record {
      marks = λ v. marks v ∙ elim (cases_lt v n) [
        | inl lt ↦ let t : ltb v n ≡ true = grind (arith, nat_tests) in t ∙ sym (is_none-is_free (replicate n None) v (omega arith) ∙ ap is_none (get_or-replicate n v None None lt))
        | inr ge ↦ let t : ltb v n ≡ false = grind (arith, nat_tests) in t ∙ ap (λ (b : Bool). b && is_none {T = ℕ} (get_or (replicate n None) v None)) (sym t ∙ ap (ltb v) (sym l))
      ];
      long = omega arith;
      small = omega arith;
      counted = let c : count_by is_none (replicate n None) ≡ n * 1 = sum_by-replicate (λ (x : Option ℕ). cond {A = ℕ} (is_none x) 1 0) n None in grind arith;
    }
