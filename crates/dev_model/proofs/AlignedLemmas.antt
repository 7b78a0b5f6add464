-- Partitions of two devices side by side, which steps still to come make equal.
use Rattle.std.proofs.Common.{◌≡◌, ℕ, ◌-◌, Bool, true, false, Option, Some, None, List, [], ◌∷◌, length, map, replicate, refl, sym, ap, ◌∙◌, subst, arith}
use Rattle.std.specs.Prelude.{bytes_eq, if◌then◌else◌, ◌||◌, find, option_map, unwrap_or, MatchBool}
use Rattle.std.specs.Option.{option_or}
use Rattle.std.specs.List.{list_any}
use Rattle.std.proofs.lemmas.Slice.Eq.{bytes_eq-Decides}
use Rattle.dev_model.specs.declared.device.Physical.{Physical}
use Rattle.dev_model.specs.declared.device.Logical.{Logical}
use Rattle.dev_model.specs.declared.step.Step.{Step}
use Rattle.dev_model.specs.declared.step.Step.TheVariants.{Resize}
use Rattle.dev_model.specs.Images.{round_up}
use Rattle.dev_model.specs.Partitions.{physical_changed, logical_changed}
use Rattle.dev_model.specs.Sizes.{sizes_of}
use Rattle.dev_model.specs.Steps.{cut_or_padded}
use Rattle.dev_model.specs.Repeats.{is_among}
use Rattle.dev_model.proofs.CellLemmas.{touch, touch-length, wash}

-- two texts are the same or aren't
pub same-by : (x y : List ℕ) (b : Bool) → bytes_eq x y ≡ b → (b ≡ true → x ≡ y)
same-by x y b e f = (bytes_eq-Decides x y).0 (e ∙ f)

-- the names of physical partitions are the same, and so are their lengths and what the steps make of their bytes
abbrev pub Phys : List Step → List Physical → List Physical → Type 0
Phys q [] [] = Unit {0}
Phys q [] (y ∷ ys) = ⊥
Phys q (x ∷ xs) [] = ⊥
Phys q (x ∷ xs) (y ∷ ys) = (x.name ≡ y.name) × (length x.bytes ≡ length y.bytes) × (wash q x.name x.bytes ≡ wash q x.name y.bytes) × Phys q xs ys

-- The bytes of a logical partition: of one that is still to be emptied they play no part, of one that was emptied they are the same, and of
-- any other the steps make them the same.
abbrev pub Bytes : List (List ℕ) → List (List ℕ) → List Step → List ℕ → List ℕ → List ℕ → Type 0
Bytes all done q name x y =
    MatchBool (is_among all name) (MatchBool (is_among done name) (x ≡ y) (Unit {0})) ((length x ≡ length y) × (wash q name x ≡ wash q name y))

abbrev pub Log : List (List ℕ) → List (List ℕ) → List Step → List Logical → List Logical → Type 0
Log all done q [] [] = Unit {0}
Log all done q [] (y ∷ ys) = ⊥
Log all done q (x ∷ xs) [] = ⊥
Log all done q (x ∷ xs) (y ∷ ys) =
    (x.name ≡ y.name) × (x.attributes ≡ y.attributes) × (x.group ≡ y.group) × Bytes all done q x.name x.bytes y.bytes × Log all done q xs ys

pub phys-names : (q : List Step) (xs ys : List Physical) → Phys q xs ys → map (λ p. p.name) xs ≡ map (λ p. p.name) ys
phys-names q [] [] h = refl
phys-names q [] (y ∷ ys) h = absurd h
phys-names q (x ∷ xs) [] h = absurd h
phys-names q (x ∷ xs) (y ∷ ys) h = let first = h.0 in let rest = phys-names q xs ys h.3 in λ i. first i ∷ rest i

pub log-names : (all done : List (List ℕ)) (q : List Step) (xs ys : List Logical) → Log all done q xs ys → map (λ p. p.name) xs ≡ map (λ p. p.name) ys
log-names all done q [] [] h = refl
log-names all done q [] (y ∷ ys) h = absurd h
log-names all done q (x ∷ xs) [] h = absurd h
log-names all done q (x ∷ xs) (y ∷ ys) h = let first = h.0 in let rest = log-names all done q xs ys h.4 in λ i. first i ∷ rest i

pub physical-among : (xs : List Physical) (name : List ℕ) → list_any (λ p. bytes_eq p.name name) xs ≡ is_among (map (λ p. p.name) xs) name
physical-among [] name = refl
physical-among (x ∷ xs) name = ap (λ b. bytes_eq x.name name || b) (physical-among xs name)

pub logical-among : (xs : List Logical) (name : List ℕ) → list_any (λ p. bytes_eq p.name name) xs ≡ is_among (map (λ p. p.name) xs) name
logical-among [] name = refl
logical-among (x ∷ xs) name = ap (λ b. bytes_eq x.name name || b) (logical-among xs name)

-- physical partitions behind a step
pub phys-step : (step : Step) (q : List Step) (name : List ℕ) (change : List ℕ → List ℕ) → ((own x : List ℕ) → (if bytes_eq own name then change else λ b. b) x ≡ touch step own x) →
    (xs ys : List Physical) → Phys (step ∷ q) xs ys → Phys q (map (physical_changed name change) xs) (map (physical_changed name change) ys)
phys-step step q name change t [] [] h = tt
phys-step step q name change t [] (y ∷ ys) h = absurd h
phys-step step q name change t (x ∷ xs) [] h = absurd h
phys-step step q name change t (x ∷ xs) (y ∷ ys) h =
    let f = t x.name x.bytes in
    let g = ap (λ n. (if bytes_eq n name then change else λ b. b) y.bytes) (sym h.0) ∙ t x.name y.bytes in (
      h.0,
      ap length f ∙ (touch-length step x.name x.bytes ∙ (h.1 ∙ sym (ap length g ∙ touch-length step x.name y.bytes))),
      ap (wash q x.name) f ∙ (h.2 ∙ sym (ap (wash q x.name) g)),
      phys-step step q name change t xs ys h.3,
    )

pub phys-still : (step : Step) (q : List Step) → ((own x : List ℕ) → touch step own x ≡ x) → (xs ys : List Physical) → Phys (step ∷ q) xs ys → Phys q xs ys
phys-still step q t [] [] h = tt
phys-still step q t [] (y ∷ ys) h = absurd h
phys-still step q t (x ∷ xs) [] h = absurd h
phys-still step q t (x ∷ xs) (y ∷ ys) h =
    (h.0, h.1, sym (ap (wash q x.name) (t x.name x.bytes)) ∙ (h.2 ∙ ap (wash q x.name) (t x.name y.bytes)), phys-still step q t xs ys h.3)

-- the bytes of one logical partition behind a step that writes
write-bytes : (a d : Bool) (step : Step) (q : List Step) (name x y : List ℕ) →
    MatchBool a (MatchBool d (x ≡ y) (Unit {0})) ((length x ≡ length y) × (wash (step ∷ q) name x ≡ wash (step ∷ q) name y)) →
    MatchBool a (MatchBool d (touch step name x ≡ touch step name y) (Unit {0})) ((length (touch step name x) ≡ length (touch step name y)) × (wash q name (touch step name x) ≡ wash q name (touch step name y)))
write-bytes true true step q name x y h = ap (touch step name) h
write-bytes true false step q name x y h = tt
write-bytes false d step q name x y h = (touch-length step name x ∙ (h.0 ∙ sym (touch-length step name y)), h.1)

abbrev Pair : List (List ℕ) → List (List ℕ) → List Step → List ℕ → List ℕ → List ℕ → Type 0
Pair all done q name x y = Bytes all done q name x y

swap : (all done : List (List ℕ)) (q : List Step) (name x y u v : List ℕ) → x ≡ u → y ≡ v → Bytes all done q name u v → Bytes all done q name x y
swap all done q name x y u v e f h = subst (λ z. Bytes all done q name z y) (sym e) (subst (λ z. Bytes all done q name u z) (sym f) h)

pub log-step : (all done : List (List ℕ)) (step : Step) (q : List Step) (name : List ℕ) (change : List ℕ → List ℕ) → ((own x : List ℕ) → (if bytes_eq own name then change else λ b. b) x ≡ touch step own x) →
    (xs ys : List Logical) → Log all done (step ∷ q) xs ys → Log all done q (map (logical_changed name change) xs) (map (logical_changed name change) ys)
log-step all done step q name change t [] [] h = tt
log-step all done step q name change t [] (y ∷ ys) h = absurd h
log-step all done step q name change t (x ∷ xs) [] h = absurd h
log-step all done step q name change t (x ∷ xs) (y ∷ ys) h =
    let f = t x.name x.bytes in
    let g = ap (λ n. (if bytes_eq n name then change else λ b. b) y.bytes) (sym h.0) ∙ t x.name y.bytes in (
      h.0,
      h.1,
      h.2,
      swap all done q x.name ((if bytes_eq x.name name then change else λ b. b) x.bytes) ((if bytes_eq y.name name then change else λ b. b) y.bytes)
          (touch step x.name x.bytes) (touch step x.name y.bytes) f g
          (write-bytes (is_among all x.name) (is_among done x.name) step q x.name x.bytes y.bytes h.3),
      log-step all done step q name change t xs ys h.4,
    )

still-bytes : (a d : Bool) (step : Step) (q : List Step) (name x y : List ℕ) → ((own z : List ℕ) → touch step own z ≡ z) →
    MatchBool a (MatchBool d (x ≡ y) (Unit {0})) ((length x ≡ length y) × (wash (step ∷ q) name x ≡ wash (step ∷ q) name y)) →
    MatchBool a (MatchBool d (x ≡ y) (Unit {0})) ((length x ≡ length y) × (wash q name x ≡ wash q name y))
still-bytes true true step q name x y t h = h
still-bytes true false step q name x y t h = tt
still-bytes false d step q name x y t h = (h.0, sym (ap (wash q name) (t name x)) ∙ (h.1 ∙ ap (wash q name) (t name y)))

pub log-still : (all done : List (List ℕ)) (step : Step) (q : List Step) → ((own x : List ℕ) → touch step own x ≡ x) → (xs ys : List Logical) → Log all done (step ∷ q) xs ys → Log all done q xs ys
log-still all done step q t [] [] h = tt
log-still all done step q t [] (y ∷ ys) h = absurd h
log-still all done step q t (x ∷ xs) [] h = absurd h
log-still all done step q t (x ∷ xs) (y ∷ ys) h =
    (h.0, h.1, h.2, still-bytes (is_among all x.name) (is_among done x.name) step q x.name x.bytes y.bytes t h.3, log-still all done step q t xs ys h.4)

-- a partition is emptied
emptied : (n : ℕ) (x : List ℕ) → n ≡ 0 → cut_or_padded n x ≡ []
emptied n x e = ap (λ m. cut_or_padded m x) e ∙ ap (λ m. replicate m 0) (let z : 0 - length x ≡ 0 = omega arith in z)

-- Of the bytes behind a resize, where a partition that isn't emptied yet is only emptied.
resize-bytes : (a d same : Bool) (size : ℕ) (q : List Step) (name x y : List ℕ) → (a ≡ false → same ≡ false) → (a ≡ true → d ≡ false → round_up size ≡ 0) →
    MatchBool a (MatchBool d (x ≡ y) (Unit {0})) ((length x ≡ length y) × (wash q name x ≡ wash q name y)) →
    MatchBool a (MatchBool (same || d) ((if same then cut_or_padded (round_up size) else λ b. b) x ≡ (if same then cut_or_padded (round_up size) else λ b. b) y) (Unit {0}))
    ((length ((if same then cut_or_padded (round_up size) else λ b. b) x) ≡ length ((if same then cut_or_padded (round_up size) else λ b. b) y))
    × (wash q name ((if same then cut_or_padded (round_up size) else λ b. b) x) ≡ wash q name ((if same then cut_or_padded (round_up size) else λ b. b) y)))
resize-bytes true true true size q name x y out nought h = ap (cut_or_padded (round_up size)) h
resize-bytes true true false size q name x y out nought h = h
resize-bytes true false true size q name x y out nought h = emptied (round_up size) x (nought refl refl) ∙ sym (emptied (round_up size) y (nought refl refl))
resize-bytes true false false size q name x y out nought h = tt
resize-bytes false d true size q name x y out nought h = let f = out refl in absurd cc
resize-bytes false d false size q name x y out nought h = h

-- all partitions that are emptied when this one is, too
more-done : (b s d a : Bool) (P Q R : Type 0) → s ≡ b → MatchBool a (MatchBool (b || d) P Q) R → MatchBool a (MatchBool (s || d) P Q) R
more-done b s d a P Q R e h = subst (λ c. MatchBool a (MatchBool (c || d) P Q) R) (sym e) h

-- the order in which two texts are compared plays no part
by-case : (x y : List ℕ) (a b : Bool) → bytes_eq x y ≡ a → bytes_eq y x ≡ b → a ≡ b
by-case x y true true e f = refl
by-case x y false false e f = refl
by-case x y true false e f = let g = (bytes_eq-Decides y x).1 (sym ((bytes_eq-Decides x y).0 e)) in absurd cc
by-case x y false true e f = let g = (bytes_eq-Decides x y).1 (sym ((bytes_eq-Decides y x).0 f)) in absurd cc

pub turned : (x y : List ℕ) → bytes_eq x y ≡ bytes_eq y x
turned x y = by-case x y (bytes_eq x y) (bytes_eq y x) refl refl

among-when : (all : List (List ℕ)) (own name : List ℕ) (b : Bool) → bytes_eq own name ≡ b → is_among all name ≡ true → is_among all own ≡ false → b ≡ false
among-when all own name false e h n = refl
among-when all own name true e h n = let g = ap (is_among all) ((bytes_eq-Decides own name).0 e) in absurd cc

-- logical partitions behind a resize that empties
pub log-empty : (all done : List (List ℕ)) (name : List ℕ) (size : ℕ) (q : List Step) → is_among all name ≡ true → round_up size ≡ 0 → (xs ys : List Logical) →
    Log all done (Resize name size ∷ q) xs ys → Log all (name ∷ done) q (map (logical_changed name (cut_or_padded (round_up size))) xs) (map (logical_changed name (cut_or_padded (round_up size))) ys)
log-empty all done name size q m z [] [] h = tt
log-empty all done name size q m z [] (y ∷ ys) h = absurd h
log-empty all done name size q m z (x ∷ xs) [] h = absurd h
log-empty all done name size q m z (x ∷ xs) (y ∷ ys) h =
    let step : List ℕ → List ℕ → List ℕ = λ own b. (if bytes_eq own name then cut_or_padded (round_up size) else λ c. c) b in
    let one = resize-bytes (is_among all x.name) (is_among done x.name) (bytes_eq x.name name) size q x.name x.bytes y.bytes
    (λ n. among-when all x.name name (bytes_eq x.name name) refl m n) (λ e f. z) h.3 in
    let two = more-done (bytes_eq x.name name) (bytes_eq name x.name) (is_among done x.name) (is_among all x.name) (step x.name x.bytes ≡ step x.name y.bytes) (Unit {0})
    ((length (step x.name x.bytes) ≡ length (step x.name y.bytes)) × (wash q x.name (step x.name x.bytes) ≡ wash q x.name (step x.name y.bytes))) (turned name x.name) one in (
      h.0,
      h.1,
      h.2,
      swap all (name ∷ done) q x.name (step x.name x.bytes) (step y.name y.bytes) (step x.name x.bytes) (step x.name y.bytes) refl (ap (λ n. step n y.bytes) (sym h.0)) two,
      log-empty all done name size q m z xs ys h.4,
    )

longer-bytes : (a d same : Bool) (size : ℕ) (q : List Step) (name x y : List ℕ) → (a ≡ false → same ≡ false) → (a ≡ true → d ≡ true) →
    MatchBool a (MatchBool d (x ≡ y) (Unit {0})) ((length x ≡ length y) × (wash q name x ≡ wash q name y)) →
    MatchBool a (MatchBool d ((if same then cut_or_padded (round_up size) else λ b. b) x ≡ (if same then cut_or_padded (round_up size) else λ b. b) y) (Unit {0}))
    ((length ((if same then cut_or_padded (round_up size) else λ b. b) x) ≡ length ((if same then cut_or_padded (round_up size) else λ b. b) y))
    × (wash q name ((if same then cut_or_padded (round_up size) else λ b. b) x) ≡ wash q name ((if same then cut_or_padded (round_up size) else λ b. b) y)))
longer-bytes true true true size q name x y out all h = ap (cut_or_padded (round_up size)) h
longer-bytes true true false size q name x y out all h = h
longer-bytes true false same size q name x y out all h = let f = all refl in absurd cc
longer-bytes false d true size q name x y out all h = let f = out refl in absurd cc
longer-bytes false d false size q name x y out all h = h

-- and behind any other, where all were emptied
pub log-resize : (all done : List (List ℕ)) (name : List ℕ) (size : ℕ) (q : List Step) → is_among all name ≡ true → ((own : List ℕ) → is_among all own ≡ true → is_among done own ≡ true) → (xs ys : List Logical) →
    Log all done (Resize name size ∷ q) xs ys → Log all done q (map (logical_changed name (cut_or_padded (round_up size))) xs) (map (logical_changed name (cut_or_padded (round_up size))) ys)
log-resize all done name size q m d [] [] h = tt
log-resize all done name size q m d [] (y ∷ ys) h = absurd h
log-resize all done name size q m d (x ∷ xs) [] h = absurd h
log-resize all done name size q m d (x ∷ xs) (y ∷ ys) h =
    let step : List ℕ → List ℕ → List ℕ = λ own b. (if bytes_eq own name then cut_or_padded (round_up size) else λ c. c) b in
    let one = longer-bytes (is_among all x.name) (is_among done x.name) (bytes_eq x.name name) size q x.name x.bytes y.bytes
    (λ n. among-when all x.name name (bytes_eq x.name name) refl m n) (d x.name) h.3 in (
      h.0,
      h.1,
      h.2,
      swap all done q x.name (step x.name x.bytes) (step y.name y.bytes) (step x.name x.bytes) (step x.name y.bytes) refl (ap (λ n. step n y.bytes) (sym h.0)) one,
      log-resize all done name size q m d xs ys h.4,
    )

-- the sizes of logical partitions are the same where all were emptied
same-length : (a d : Bool) (q : List Step) (name x y : List ℕ) → (a ≡ true → d ≡ true) →
    MatchBool a (MatchBool d (x ≡ y) (Unit {0})) ((length x ≡ length y) × (wash q name x ≡ wash q name y)) → length x ≡ length y
same-length true true q name x y h b = ap length b
same-length true false q name x y h b = let f = h refl in absurd cc
same-length false d q name x y h b = b.0

pub log-sizes : (all done : List (List ℕ)) (q : List Step) → ((own : List ℕ) → is_among all own ≡ true → is_among done own ≡ true) → (xs ys : List Logical) → Log all done q xs ys → sizes_of xs ≡ sizes_of ys
log-sizes all done q d [] [] h = refl
log-sizes all done q d [] (y ∷ ys) h = absurd h
log-sizes all done q d (x ∷ xs) [] h = absurd h
log-sizes all done q d (x ∷ xs) (y ∷ ys) h =
    let n = h.0 in
    let g = h.2 in
    let b = same-length (is_among all x.name) (is_among done x.name) q x.name x.bytes y.bytes (d x.name) h.3 in
    let rest = log-sizes all done q d xs ys h.4 in
    λ i. record { name = n i; group = g i; bytes = b i } ∷ rest i

-- the partitions are the same when no step is to come and all were emptied
pub phys-end : (xs ys : List Physical) → Phys [] xs ys → xs ≡ ys
phys-end [] [] h = refl
phys-end [] (y ∷ ys) h = absurd h
phys-end (x ∷ xs) [] h = absurd h
phys-end (x ∷ xs) (y ∷ ys) h =
    let n = h.0 in
    let b = h.2 in
    let rest = phys-end xs ys h.3 in
    λ i. record { name = n i; bytes = b i } ∷ rest i

same-bytes : (a d : Bool) (name x y : List ℕ) → (a ≡ true → d ≡ true) → MatchBool a (MatchBool d (x ≡ y) (Unit {0})) ((length x ≡ length y) × (x ≡ y)) → x ≡ y
same-bytes true true name x y h b = b
same-bytes true false name x y h b = let f = h refl in absurd cc
same-bytes false d name x y h b = b.1

pub log-end : (all done : List (List ℕ)) → ((own : List ℕ) → is_among all own ≡ true → is_among done own ≡ true) → (xs ys : List Logical) → Log all done [] xs ys → xs ≡ ys
log-end all done d [] [] h = refl
log-end all done d [] (y ∷ ys) h = absurd h
log-end all done d (x ∷ xs) [] h = absurd h
log-end all done d (x ∷ xs) (y ∷ ys) h =
    let n = h.0 in
    let a = h.1 in
    let g = h.2 in
    let b = same-bytes (is_among all x.name) (is_among done x.name) x.name x.bytes y.bytes (d x.name) h.3 in
    let rest = log-end all done d xs ys h.4 in
    λ i. record { name = n i; attributes = a i; group = g i; bytes = b i } ∷ rest i

-- the bytes of a partition that isn't still to be emptied are as long
abbrev pub AsLong : Option (List ℕ) → Option (List ℕ) → Type 0
AsLong None None = Unit {0}
AsLong None (Some y) = ⊥
AsLong (Some x) None = ⊥
AsLong (Some x) (Some y) = length x ≡ length y

phys-case : (q : List Step) (name : List ℕ) (x y : Physical) (xs ys : List Physical) (b c : Bool) → b ≡ c → length x.bytes ≡ length y.bytes →
    AsLong (option_map (λ p. p.bytes) (find (λ p. bytes_eq p.name name) xs)) (option_map (λ p. p.bytes) (find (λ p. bytes_eq p.name name) ys)) →
    AsLong (option_map (λ p. p.bytes) (if b then Some x else find (λ p. bytes_eq p.name name) xs)) (option_map (λ p. p.bytes) (if c then Some y else find (λ p. bytes_eq p.name name) ys))
phys-case q name x y xs ys true true e l h = l
phys-case q name x y xs ys false false e l h = h
phys-case q name x y xs ys true false e l h = absurd cc
phys-case q name x y xs ys false true e l h = absurd cc

pub phys-long : (q : List Step) (name : List ℕ) (xs ys : List Physical) → Phys q xs ys →
    AsLong (option_map (λ p. p.bytes) (find (λ p. bytes_eq p.name name) xs)) (option_map (λ p. p.bytes) (find (λ p. bytes_eq p.name name) ys))
phys-long q name [] [] h = tt
phys-long q name [] (y ∷ ys) h = absurd h
phys-long q name (x ∷ xs) [] h = absurd h
phys-long q name (x ∷ xs) (y ∷ ys) h =
    phys-case q name x y xs ys (bytes_eq x.name name) (bytes_eq y.name name) (ap (λ n. bytes_eq n name) h.0) h.1 (phys-long q name xs ys h.3)

log-case : (name : List ℕ) (x y : Logical) (xs ys : List Logical) (b c : Bool) → b ≡ c → (b ≡ true → length x.bytes ≡ length y.bytes) →
    AsLong (option_map (λ p. p.bytes) (find (λ p. bytes_eq p.name name) xs)) (option_map (λ p. p.bytes) (find (λ p. bytes_eq p.name name) ys)) →
    AsLong (option_map (λ p. p.bytes) (if b then Some x else find (λ p. bytes_eq p.name name) xs)) (option_map (λ p. p.bytes) (if c then Some y else find (λ p. bytes_eq p.name name) ys))
log-case name x y xs ys true true e l h = l refl
log-case name x y xs ys false false e l h = h
log-case name x y xs ys true false e l h = absurd cc
log-case name x y xs ys false true e l h = absurd cc

pub log-long : (all done : List (List ℕ)) (q : List Step) (name : List ℕ) → (is_among all name ≡ true → is_among done name ≡ true) → (xs ys : List Logical) → Log all done q xs ys →
    AsLong (option_map (λ p. p.bytes) (find (λ p. bytes_eq p.name name) xs)) (option_map (λ p. p.bytes) (find (λ p. bytes_eq p.name name) ys))
log-long all done q name d [] [] h = tt
log-long all done q name d [] (y ∷ ys) h = absurd h
log-long all done q name d (x ∷ xs) [] h = absurd h
log-long all done q name d (x ∷ xs) (y ∷ ys) h =
    log-case name x y xs ys (bytes_eq x.name name) (bytes_eq y.name name) (ap (λ n. bytes_eq n name) h.0)
    (λ e. let own = (bytes_eq-Decides x.name name).0 e in
    same-length (is_among all x.name) (is_among done x.name) q x.name x.bytes y.bytes
    (λ f. ap (is_among done) own ∙ d (ap (is_among all) (sym own) ∙ f)) h.3)
    (log-long all done q name d xs ys h.4)

pub long-or : (a b c d : Option (List ℕ)) → AsLong a b → AsLong c d → length (unwrap_or (option_or a c) []) ≡ length (unwrap_or (option_or b d) [])
long-or None None None None h g = refl
long-or None None None (Some y) h g = absurd g
long-or None None (Some x) None h g = absurd g
long-or None None (Some x) (Some y) h g = g
long-or None (Some y) c d h g = absurd h
long-or (Some x) None c d h g = absurd h
long-or (Some x) (Some y) c d h g = h
