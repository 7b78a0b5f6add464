-- The lines of partitions by their names are those of the partitions.
use Rattle.std.proofs.Common.{◌≡◌, ◌∙◌, refl, ap, subst, ℕ, Bool, true, false, not, ◌||◌, List, [], ◌∷◌, ◌++◌, map, find, Some, None, option_map, unwrap_or, if◌then◌else◌, append-nil}
use Rattle.std.specs.Prelude.{bytes_eq}
use Rattle.std.specs.Option.{option_or}
use Rattle.std.specs.List.{flat_map, list_any, AllByRecursion}
use Rattle.std.proofs.lemmas.List.Concat.{flat_map-append}
use Rattle.std.proofs.lemmas.Slice.Eq.{bytes_eq-Decides}
use Rattle.fb_frame.specs.Distinct.{are_distinct}
use Rattle.dev_model.specs.declared.device.Dev.{Dev}
use Rattle.dev_model.specs.declared.device.Physical.{Physical}
use Rattle.dev_model.specs.declared.device.Logical.{Logical}
use Rattle.dev_model.specs.Partitions.{is_physical, is_logical}
use Rattle.dev_model.specs.Validity.{IsValid}
use Rattle.dev_model.proofs.Names.{among, any-mem, distinct-left, distinct-right, distinct-apart}
use Rattle.dev_model.proofs.Valid.{both, not-back}
use Rattle.dev_model.proofs.ValidTable.{any-map}
use Rattle.dev_store.specs.StoreCalls.{names_of, kind_of, group_of, part_bytes}
use Rattle.dev_store.proofs.PartDevices.{names-apart, found-some, not-among}
use Rattle.device_jobs.specs.Printed.{physical_line, logical_line, logical_label, part_text}
use Rattle.device_jobs.specs.Working.{is_kind, label, part_line}

eq-self : (x : List ℕ) → bytes_eq x x ≡ true
eq-self x = (bytes_eq-Decides x x).1 refl

all-weaker : {X : Type 0} (P Q : X → Type 0) → ((x : X) → P x → Q x) → (xs : List X) → AllByRecursion P xs → AllByRecursion Q xs
all-weaker P Q f [] h = tt
all-weaker P Q f (x ∷ xs) h = (f x h.0, all-weaker P Q f xs h.1)

module _ {X : Type 0} (nm : X → List ℕ) where
  abbrev FindsSelf : List X → X → Type 0
  FindsSelf xs x = find (λ y. bytes_eq (nm y) (nm x)) xs ≡ Some x

  find-behind : (x y : X) (ys : List X) → bytes_eq (nm x) (nm y) ≡ false → FindsSelf ys y → FindsSelf (x ∷ ys) y
  find-behind x y ys e h = ap (λ b. if b then Some x else find (λ z. bytes_eq (nm z) (nm y)) ys) e ∙ h

  find-first : (x : X) (xs : List X) → FindsSelf (x ∷ xs) x
  find-first x xs = ap (λ b. if b then Some x else find (λ z. bytes_eq (nm z) (nm x)) xs) (eq-self (nm x))

  -- each element is found by its name
  pub finds-all : (xs : List X) → are_distinct (map nm xs) ≡ true → AllByRecursion (FindsSelf xs) xs
  finds-all [] d = tt
  finds-all (x ∷ xs) d =
      let parts = both (not (among (nm x) (map nm xs))) (are_distinct (map nm xs)) d in
      let free = not-back (among (nm x) (map nm xs)) parts.0 in
      let other : (y : X) → FindsSelf xs y → FindsSelf (x ∷ xs) y = λ y h. find-behind x y xs
      (not-among (bytes_eq (nm x) (nm y)) (λ e. taken (nm x) y free (found-some nm (nm y) xs y h) ((bytes_eq-Decides (nm x) (nm y)).0 e))) h in
      (find-first x xs, all-weaker (FindsSelf xs) (FindsSelf (x ∷ xs)) other xs (finds-all xs parts.1)) where
        taken : (n : List ℕ) (y : X) → among n (map nm xs) ≡ false → among (nm y) (map nm xs) ≡ true → n ≡ nm y → ⊥
        taken n y f t e = let g : among (nm y) (map nm xs) ≡ false = subst (λ m. among m (map nm xs) ≡ false) e f in absurd cc

  found-among : (xs : List X) (x : X) → FindsSelf xs x → list_any (λ y. bytes_eq (nm y) (nm x)) xs ≡ true
  found-among xs x h = any-map nm (nm x) xs ∙ found-some nm (nm x) xs x h

  no-find : (xs : List X) (n : List ℕ) → list_any (λ y. bytes_eq (nm y) n) xs ≡ false → find (λ y. bytes_eq (nm y) n) xs ≡ None
  no-find [] n h = refl
  no-find (x ∷ xs) n h = by (bytes_eq (nm x) n) (no-find xs n) h where
    by : (b : Bool) → (list_any (λ y. bytes_eq (nm y) n) xs ≡ false → find (λ y. bytes_eq (nm y) n) xs ≡ None) → (b || list_any (λ y. bytes_eq (nm y) n) xs) ≡ false →
        (if b then Some x else find (λ y. bytes_eq (nm y) n) xs) ≡ None
    by true more h = absurd cc
    by false more h = more h

  -- the lines by the names are those of the elements
  pub lines-by : (g : List ℕ → List ℕ) (f : X → List ℕ) (xs : List X) → AllByRecursion (λ x. g (nm x) ≡ f x) xs → flat_map g (map nm xs) ≡ flat_map f xs
  lines-by g f [] h = refl
  lines-by g f (x ∷ xs) h = ap (λ t. t ++ flat_map g (map nm xs)) h.0 ∙ ap (λ t. f x ++ t) (lines-by g f xs h.1)

  pub no-lines : (g : List ℕ → List ℕ) (xs : List X) → AllByRecursion (λ x. g (nm x) ≡ []) xs → flat_map g (map nm xs) ≡ []
  no-lines g [] h = refl
  no-lines g (x ∷ xs) h = ap (λ t. t ++ flat_map g (map nm xs)) h.0 ∙ no-lines g xs h.1

module _ (dev : Dev) (v : IsValid dev) where
  abbrev pnames : List (List ℕ)
  pnames = map (λ p. p.name) dev.physical

  abbrev lnames : List (List ℕ)
  lnames = map (λ p. p.name) dev.logical

  apart : are_distinct (pnames ++ lnames) ≡ true
  apart = names-apart dev v

  -- a name that one kind has is of no partition of the other kind
  not-logical : (name : List ℕ) → among name pnames ≡ true → is_logical dev name ≡ false
  not-logical name h = any-map (λ p. p.name) name dev.logical ∙ not-among (among name lnames) (λ e. distinct-apart pnames lnames apart name (any-mem name pnames h) (any-mem name lnames e))

  not-physical : (name : List ℕ) → among name lnames ≡ true → is_physical dev name ≡ false
  not-physical name h = any-map (λ p. p.name) name dev.physical ∙ not-among (among name pnames) (λ e. distinct-apart pnames lnames apart name (any-mem name pnames e) (any-mem name lnames h))

  kind-is : (name : List ℕ) (a b : Bool) → is_physical dev name ≡ a → is_logical dev name ≡ b → (a || b) ≡ true → kind_of dev name ≡ Some b
  kind-is name a b e f h =
      ap (λ t. if t || is_logical dev name then Some (is_logical dev name) else None) e
      ∙ (ap (λ t. if a || t then Some t else None) f ∙ ap (λ t. if t then Some b else None) h)

  line-shown : (logical kind : Bool) (name : List ℕ) → kind_of dev name ≡ Some kind → (if logical then kind else not kind) ≡ true → part_line dev logical name ≡ label dev logical name ++ part_text (part_bytes name dev)
  line-shown logical kind name e h =
      ap (λ o. if is_kind logical o then label dev logical name ++ part_text (part_bytes name dev) else []) e
      ∙ ap (λ b. if b then label dev logical name ++ part_text (part_bytes name dev) else []) h

  line-left : (logical kind : Bool) (name : List ℕ) → kind_of dev name ≡ Some kind → (if logical then kind else not kind) ≡ false → part_line dev logical name ≡ []
  line-left logical kind name e h =
      ap (λ o. if is_kind logical o then label dev logical name ++ part_text (part_bytes name dev) else []) e
      ∙ ap (λ b. if b then label dev logical name ++ part_text (part_bytes name dev) else []) h

  abbrev SelfPhysical : Physical → Type 0
  SelfPhysical p = find (λ q. bytes_eq q.name p.name) dev.physical ≡ Some p

  abbrev SelfLogical : Logical → Type 0
  SelfLogical p = find (λ q. bytes_eq q.name p.name) dev.logical ≡ Some p

  physical-kind : (p : Physical) → SelfPhysical p → kind_of dev p.name ≡ Some false
  physical-kind p h =
      kind-is p.name true false (found-among (λ q. q.name) dev.physical p h) (not-logical p.name (found-some (λ q. q.name) p.name dev.physical p h)) refl

  logical-kind : (p : Logical) → SelfLogical p → kind_of dev p.name ≡ Some true
  logical-kind p h =
      kind-is p.name false true (not-physical p.name (found-some (λ q. q.name) p.name dev.logical p h)) (found-among (λ q. q.name) dev.logical p h) refl

  physical-bytes : (p : Physical) → SelfPhysical p → part_bytes p.name dev ≡ p.bytes
  physical-bytes p h =
      ap (λ o. unwrap_or (option_or (option_map (λ q. q.bytes) o) (option_map (λ q. q.bytes) (find (λ q. bytes_eq q.name p.name) dev.logical))) []) h

  logical-bytes : (p : Logical) → SelfLogical p → part_bytes p.name dev ≡ p.bytes
  logical-bytes p h =
      let none = no-find (λ q. q.name) dev.physical p.name (not-physical p.name (found-some (λ q. q.name) p.name dev.logical p h)) in
      ap (λ o. unwrap_or (option_or (option_map (λ q. q.bytes) o) (option_map (λ q. q.bytes) (find (λ q. bytes_eq q.name p.name) dev.logical))) []) none
      ∙ ap (λ o. unwrap_or (option_map (λ q. q.bytes) o) []) h

  logical-group : (p : Logical) → SelfLogical p → unwrap_or (group_of dev p.name) [] ≡ p.group
  logical-group p h = ap (λ o. unwrap_or (option_map (λ q. q.group) o) []) h

  physical-shown : (p : Physical) → SelfPhysical p → part_line dev false p.name ≡ physical_line p
  physical-shown p h =
      line-shown false false p.name (physical-kind p h) refl ∙ ap (λ b. label dev false p.name ++ part_text b) (physical-bytes p h)

  logical-shown : (p : Logical) → SelfLogical p → part_line dev true p.name ≡ logical_line p
  logical-shown p h =
      line-shown true true p.name (logical-kind p h) refl
      ∙ (ap (λ b. label dev true p.name ++ part_text b) (logical-bytes p h)
      ∙ ap (λ g. logical_label p.name g ++ part_text p.bytes) (logical-group p h))

  finds-physical : AllByRecursion SelfPhysical dev.physical
  finds-physical = finds-all (λ p. p.name) dev.physical (distinct-left pnames lnames apart)

  finds-logical : AllByRecursion SelfLogical dev.logical
  finds-logical = finds-all (λ p. p.name) dev.logical (distinct-right pnames lnames apart)

  -- the lines of all partitions of a kind
  pub physical-lines : flat_map (part_line dev false) (names_of dev) ≡ flat_map physical_line dev.physical
  physical-lines =
      let shown = lines-by (λ p. p.name) (part_line dev false) physical_line dev.physical (all-weaker SelfPhysical (λ p. part_line dev false p.name ≡ physical_line p) physical-shown dev.physical finds-physical) in
      let left = no-lines (λ p. p.name) (part_line dev false) dev.logical
      (all-weaker SelfLogical (λ p. part_line dev false p.name ≡ []) (λ p h. line-left false true p.name (logical-kind p h) refl) dev.logical finds-logical) in
      flat_map-append (part_line dev false) pnames lnames
      ∙ (ap (λ t. t ++ flat_map (part_line dev false) lnames) shown ∙ (ap (λ t. flat_map physical_line dev.physical ++ t) left ∙ append-nil (flat_map physical_line dev.physical)))

  pub logical-lines : flat_map (part_line dev true) (names_of dev) ≡ flat_map logical_line dev.logical
  logical-lines =
      let left = no-lines (λ p. p.name) (part_line dev true) dev.physical
      (all-weaker SelfPhysical (λ p. part_line dev true p.name ≡ []) (λ p h. line-left true false p.name (physical-kind p h) refl) dev.physical finds-physical) in
      let shown = lines-by (λ p. p.name) (part_line dev true) logical_line dev.logical (all-weaker SelfLogical (λ p. part_line dev true p.name ≡ logical_line p) logical-shown dev.logical finds-logical) in
      flat_map-append (part_line dev true) pnames lnames
      ∙ (ap (λ t. t ++ flat_map (part_line dev true) lnames) left ∙ shown)
