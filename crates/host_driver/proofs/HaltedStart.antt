-- A device that halted at first is one that an attempt may leave that took nothing.
use Rattle.std.proofs.Common.{◌≡◌, inl, inr, ℕ, Bool, true, false, Option, Some, None, List, [], ◌∷◌, ◌++◌, map, length, refl, sym, ap, ◌∙◌, subst, arith}
use Rattle.std.specs.Prelude.{not, if◌then◌else◌, bytes_eq, find, option_map, option_to_list, IfSome, slice_get}
use Rattle.std.specs.Option.{option_or}
use Rattle.std.specs.List.{list_all}
use Rattle.std.proofs.lemmas.Slice.Eq.{bytes_eq-Decides}
use Rattle.fb_frame.specs.NameText.{is_name}
use Rattle.fb_frame.specs.Distinct.{are_distinct}
use Rattle.dev_model.specs.declared.device.Dev.{Dev}
use Rattle.dev_model.specs.declared.device.Mode.{Mode}
use Rattle.dev_model.specs.declared.device.Mode.TheVariants as mode
use Rattle.dev_model.specs.declared.device.Physical.{Physical}
use Rattle.dev_model.specs.declared.device.Logical.{Logical}
use Rattle.dev_model.specs.declared.step.Step.{Step}
use Rattle.dev_model.specs.declared.step.Step.TheVariants.{Active, Resize, Put, Wipe, Table, Boot}
use Rattle.dev_model.specs.Attempts.{Left, LeftHalted, LeftBehind, IsHaltedOver, IsHaltedAt, is_halted}
use Rattle.dev_model.specs.Partitions.{bytes_of, physical_changed, logical_changed, with_bytes, with_mode}
use Rattle.dev_model.specs.Validity.{IsValid, all_names}
use Rattle.dev_model.proofs.FixedValid.{found-mem}
use Rattle.dev_model.proofs.LeavingLemmas.{left_taken, left_serving, in-first}
use Rattle.dev_model.proofs.Names.{Mem, among, mem-any, distinct-left, distinct-right, distinct-apart}
use Rattle.dev_model.proofs.Valid.{both}

-- the bytes, whatever the old ones are
abbrev constant : List ℕ → List ℕ → List ℕ
constant bytes old = bytes

abbrev as_is : List ℕ → List ℕ
as_is old = old

module _ {X : Type 0} (nm by : X → List ℕ) (set : X → List ℕ → X) (same : (x : X) → set x (by x) ≡ x) (name bytes : List ℕ) where
  -- what has the name has these bytes
  abbrev Held : List X → Type 0
  Held [] = Unit {0}
  Held (x ∷ xs) = (bytes_eq (nm x) name ≡ true → by x ≡ bytes) × Held xs

  abbrev changed : X → X
  changed x = set x ((if bytes_eq (nm x) name then constant bytes else as_is) (by x))

  one-held : (b : Bool) (x : X) → (b ≡ true → by x ≡ bytes) → set x ((if b then constant bytes else as_is) (by x)) ≡ x
  one-held true x h = ap (set x) (sym (h refl)) ∙ same x
  one-held false x h = same x

  pub all-held : (xs : List X) → Held xs → map changed xs ≡ xs
  all-held [] h = refl
  all-held (x ∷ xs) h =
      let first = one-held (bytes_eq (nm x) name) x h.0 in
      let rest = all-held xs h.1 in
      λ i. first i ∷ rest i

  pub held-absent : (xs : List X) → (Mem name (map nm xs) → ⊥) → Held xs
  held-absent [] h = tt
  held-absent (x ∷ xs) h = (λ e. absurd (h (inl ((bytes_eq-Decides (nm x) name).0 e))), held-absent xs (λ m. h (inr m)))

  apart-head : (x : X) (xs : List X) → are_distinct (map nm (x ∷ xs)) ≡ true → bytes_eq (nm x) name ≡ true → Mem name (map nm xs) → ⊥
  apart-head x xs d e m =
      let there : Mem (nm x) (map nm xs) = subst (λ n. Mem n (map nm xs)) (sym ((bytes_eq-Decides (nm x) name).0 e)) m in
      let yes : among (nm x) (map nm xs) ≡ true = mem-any (nm x) (map nm xs) there in
      let no = (both (not (among (nm x) (map nm xs))) (are_distinct (map nm xs)) d).0 in
      absurd cc

  found-case : (b : Bool) (x : X) (xs : List X) → bytes_eq (nm x) name ≡ b → are_distinct (map nm (x ∷ xs)) ≡ true →
      (are_distinct (map nm xs) ≡ true → IfSome (option_map by (find (λ p. bytes_eq (nm p) name) xs)) (λ old. old ≡ bytes) → Held xs) →
      IfSome (option_map by (if b then Some x else find (λ p. bytes_eq (nm p) name) xs)) (λ old. old ≡ bytes) → Held (x ∷ xs)
  found-case true x xs e d ih h = (λ f. h, held-absent xs (apart-head x xs d e))
  found-case false x xs e d ih h = (λ f. absurd cc, ih (both (not (among (nm x) (map nm xs))) (are_distinct (map nm xs)) d).1 h)

  pub held-found : (xs : List X) → are_distinct (map nm xs) ≡ true → IfSome (option_map by (find (λ p. bytes_eq (nm p) name) xs)) (λ old. old ≡ bytes) → Held xs
  held-found [] d h = tt
  held-found (x ∷ xs) d h = found-case (bytes_eq (nm x) name) x xs refl d (held-found xs) h

abbrev set_physical : Physical → List ℕ → Physical
set_physical p b = record p { bytes = b }

abbrev set_logical : Logical → List ℕ → Logical
set_logical p b = record p { bytes = b }

-- the bytes that a partition has, or none
abbrev found : Option (List ℕ) → List ℕ
found None = []
found (Some bytes) = bytes

found-is : (o : Option (List ℕ)) → IfSome o (λ old. old ≡ found o)
found-is None = tt
found-is (Some bytes) = refl

found-long : (o : Option (List ℕ)) → IfSome o (λ old. length (found o) ≡ length old)
found-long None = tt
found-long (Some bytes) = refl

first-is : (o q : Option (List ℕ)) → IfSome o (λ old. old ≡ found (option_or o q))
first-is None q = tt
first-is (Some bytes) q = refl

-- the logical partitions, where a physical one may have the name
logical-held : (name : List ℕ) (s : Dev) (o : Option (List ℕ)) → option_map (λ p. p.bytes) (find (λ p. bytes_eq p.name name) s.physical) ≡ o → are_distinct (map (λ p. p.name) s.logical) ≡ true →
    (Mem name (map (λ p. p.name) s.physical) → Mem name (map (λ p. p.name) s.logical) → ⊥) →
    Held {X = Logical} (λ p. p.name) (λ p. p.bytes) set_logical (λ p. refl) name (found (option_or o (option_map (λ p. p.bytes) (find (λ p. bytes_eq p.name name) s.logical)))) s.logical
logical-held name s None e d apart =
    let q = option_map (λ p. p.bytes) (find (λ p. bytes_eq p.name name) s.logical) in
    held-found {X = Logical} (λ p. p.name) (λ p. p.bytes) set_logical (λ p. refl) name (found q) s.logical d (found-is q)
logical-held name s (Some old) e d apart =
    held-absent {X = Logical} (λ p. p.name) (λ p. p.bytes) set_logical (λ p. refl) name old s.logical
    (apart (found-mem {X = Physical} (λ p. p.name) (λ p. p.bytes) set_physical name old s.physical old e))

-- its own bytes put over a partition change nothing
bytes-again : (name : List ℕ) (s : Dev) → IsValid s → with_bytes name (λ _. found (bytes_of s name)) s ≡ s
bytes-again name s v =
    let physicals = map (λ p. p.name) s.physical in
    let logicals = map (λ p. p.name) s.logical in
    let d : are_distinct ((physicals ++ logicals) ++ option_to_list s.super_name) ≡ true =
    (both (list_all is_name (all_names s)) (are_distinct (all_names s)) v.names).1 in
    let two = distinct-left (physicals ++ logicals) (option_to_list s.super_name) d in
    let dp = distinct-left physicals logicals two in
    let dl = distinct-right physicals logicals two in
    let o = option_map (λ p. p.bytes) (find (λ p. bytes_eq p.name name) s.physical) in
    let q = option_map (λ p. p.bytes) (find (λ p. bytes_eq p.name name) s.logical) in
    let bytes = found (bytes_of s name) in
    let a : map (physical_changed name (λ _. bytes)) s.physical ≡ s.physical =
    all-held {X = Physical} (λ p. p.name) (λ p. p.bytes) set_physical (λ p. refl) name bytes s.physical
    (held-found {X = Physical} (λ p. p.name) (λ p. p.bytes) set_physical (λ p. refl) name bytes s.physical dp (first-is o q)) in
    let b : map (logical_changed name (λ _. bytes)) s.logical ≡ s.logical =
    all-held {X = Logical} (λ p. p.name) (λ p. p.bytes) set_logical (λ p. refl) name bytes s.logical (logical-held name s o refl dl (λ m k. distinct-apart physicals logicals two name m k)) in
    λ i. record s { physical = a i; logical = b i }

halted-mode : (m : Mode) → is_halted m ≡ true → m ≡ mode.Halted
halted-mode mode.Halted e = refl
halted-mode mode.Bootloader e = absurd cc
halted-mode mode.Userspace e = absurd cc
halted-mode mode.System e = absurd cc
halted-mode mode.Recovery e = absurd cc

mode-again : (s : Dev) → s.mode ≡ mode.Halted → s ≡ with_mode mode.Halted s
mode-again s e = λ i. record s { mode = e i }

over-again : (name : List ℕ) (s : Dev) → IsValid s → s.mode ≡ mode.Halted → IsHaltedOver name s s
over-again name s v e = (found (bytes_of s name), found-long (bytes_of s name), mode-again s e ∙ ap (with_mode mode.Halted) (sym (bytes-again name s v)))

at-again : (step : Option Step) (s : Dev) → IsValid s → s.mode ≡ mode.Halted → IsHaltedAt step s s
at-again None s v e = mode-again s e
at-again (Some (Put name cells)) s v e = over-again name s v e
at-again (Some (Wipe name)) s v e = over-again name s v e
at-again (Some (Active slot)) s v e = mode-again s e
at-again (Some (Resize name size)) s v e = mode-again s e
at-again (Some (Table tables wipe)) s v e = mode-again s e
at-again (Some (Boot what)) s v e = mode-again s e

-- an attempt that took nothing of a plan, over whatever device
pub left-still : (plan : List Step) (s : Dev) → IsValid s → LeftBehind plan s 0 s
left-still plan s v = by (is_halted s.mode) refl
  where
    left : Left plan s 0 s
    left = left_taken plan s s 0 (omega arith) refl

    by : (b : Bool) → is_halted s.mode ≡ b → LeftBehind plan s 0 s
    by true h = in-first (is_halted s.mode) (LeftHalted plan s 0 s) (Left plan s 0 s) h (record { before = s; left = left; halted = at-again (slice_get plan 0) s v (halted-mode s.mode h) })
    by false h = left_serving plan s s 0 left h
