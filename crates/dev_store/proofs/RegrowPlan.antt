-- A partition of another length: its entry, how long it was, and its units.
use Rattle.std.proofs.Common.{◌≡◌, ◌∙◌, refl, ap, sym, subst, ℕ, zero, suc, ◌+◌, ◌-◌, ◌<◌, ◌≤◌, Bool, true, false, cond, List, [], ◌∷◌, map, find, length, arith, Some}
use Rattle.std.specs.Prelude.{not, ◌||◌, ◌%◌, slice_get, get_or, bytes_eq, if◌then◌else◌}
use Rattle.std.specs.List.{list_any, position_or_len, AllByRecursion}
use Rattle.std.proofs.lemmas.List.Sums.{sum_by-set}
use Rattle.std.proofs.lemmas.Slice.Eq.{bytes_eq-Decides}
use Rattle.fb_frame.specs.Distinct.{are_distinct}
use Rattle.dev_model.specs.declared.device.Logical.{Logical}
use Rattle.dev_model.specs.Sizes.{units_for}
use Rattle.dev_model.proofs.Names.{among}
use Rattle.dev_model.proofs.Valid.{both}
use Rattle.unit_alloc.specs.Owning.{Owning, OneOwner, free_units, units_of}
use Rattle.unit_alloc.proofs.OwnerLaws.{free-count}
use Rattle.super_meta.specs.declared.table.Partition.{Partition}
use Rattle.super_meta.specs.Contents.{Content}
use Rattle.dev_store.specs.declared.layout.SuperPart.{SuperPart}
use Rattle.dev_store.specs.Supers.{extents_of, bytes_in}
use Rattle.dev_store.proofs.ValidUnits.{ceil-le, ceil-holds}
use Rattle.dev_store.proofs.ChangeNamed.{at-name}
use Rattle.dev_store.proofs.ChangeResize.{IsLong, found-long}
use Rattle.dev_store.specs.TableChanges.{IsFitted, AreEntriesOf}

-- an entry at a place
pub entry-at : {X : Type 0} (xs : List X) (i : ℕ) → i < length xs → (x : X) × (slice_get xs i ≡ Some x)
entry-at [] i h = absurd (omega arith)
entry-at (x ∷ xs) zero h = (x, refl)
entry-at (x ∷ xs) (suc i) h = entry-at xs i (omega arith)

pub read-at : {X : Type 0} (xs : List X) (i : ℕ) (x d : X) → slice_get xs i ≡ Some x → x ≡ get_or xs i d
read-at [] i x d h = absurd cc
read-at (y ∷ xs) zero x d h = cc
read-at (y ∷ xs) (suc i) x d h = read-at xs i x d h

-- the partition of a name is as long as the entry at its place says
pub long-at : (s : SuperPart) (c : Content) (name : List ℕ) (e : Partition) (es : List Partition) (ps : List Logical) (lists : List (List ℕ)) (i : ℕ) → AreEntriesOf s c es ps lists →
    are_distinct (map (λ p. p.name) ps) ≡ true → list_any (at-name name) ps ≡ true → position_or_len (at-name name) ps ≡ i → slice_get es i ≡ Some e → IsLong name (bytes_in (extents_of c e)) ps
long-at s c name e [] [] lists i h d there at get = tt
long-at s c name e [] (p ∷ ps) lists i h d there at get = absurd h
long-at s c name e (f ∷ es) [] lists i h d there at get = absurd h
long-at s c name e (f ∷ es) (p ∷ ps) [] i h d there at get = absurd h
long-at s c name e (f ∷ es) (p ∷ ps) (units ∷ lists) i h d there at get =
    by (bytes_eq p.name name) refl there at
    (λ j t a g. long-at s c name e es ps lists j h.1 (both (not (among p.name (map (λ q. q.name) ps))) _ d).1 t a g)
  where
    never : (b : Bool) → b ≡ true → b ≡ false → ⊥
    never b h k = cc

    by : (b : Bool) → bytes_eq p.name name ≡ b → (b || list_any (at-name name) ps) ≡ true → cond (not b) (1 + position_or_len (at-name name) ps) 0 ≡ i →
        ((j : ℕ) → list_any (at-name name) ps ≡ true → position_or_len (at-name name) ps ≡ j → slice_get es j ≡ Some e → IsLong name (bytes_in (extents_of c e)) ps) →
        IsLong name (bytes_in (extents_of c e)) (p ∷ ps)
    by true is t a more =
        let same : f ≡ e = here i (sym a) get in
        subst (λ n. IsLong name n (p ∷ ps)) (sym h.0.long ∙ ap (λ (q : Partition). bytes_in (extents_of c q)) same)
        (found-long name (p ∷ ps) p d (ap (λ b. if b then Some p else find (at-name name) ps) is))
      where
        here : (i : ℕ) → i ≡ 0 → slice_get (f ∷ es) i ≡ Some e → f ≡ e
        here zero z g = cc
        here (suc i) z g = absurd (omega arith)
    by false is t a more = ((λ q. absurd (never (bytes_eq p.name name) ((bytes_eq-Decides p.name name).1 q) is)), later i (sym a) get)
      where
        later : (i : ℕ) → i ≡ 1 + position_or_len (at-name name) ps → slice_get (f ∷ es) i ≡ Some e → IsLong name (bytes_in (extents_of c e)) ps
        later zero z g = absurd (omega arith)
        later (suc j) z g = more j t (omega (arith, z)) g

-- and has as many units as it needs
pub fit-of : (unit : ℕ) (f : List ℕ → List ℕ) (name : List ℕ) (len : ℕ) (ps : List Logical) → list_any (at-name name) ps ≡ true → AllByRecursion (λ p. IsFitted unit p (f p.name)) ps → IsLong name len ps →
    (length (f name) ≡ units_for unit len) × (len % 4096 ≡ 0)
fit-of unit f name len [] there h n = absurd cc
fit-of unit f name len (p ∷ ps) there h n = by (bytes_eq p.name name) refl there (λ t. fit-of unit f name len ps t h.1 n.1)
  where
    by : (b : Bool) → bytes_eq p.name name ≡ b → (b || list_any (at-name name) ps) ≡ true →
        (list_any (at-name name) ps ≡ true → (length (f name) ≡ units_for unit len) × (len % 4096 ≡ 0)) → (length (f name) ≡ units_for unit len) × (len % 4096 ≡ 0)
    by true e t more =
        let is = (bytes_eq-Decides p.name name).0 e in
        let long = n.0 is in
        (ap (λ x. length (f x)) (sym is) ∙ (h.0.many ∙ ap (units_for unit) long), ap (λ k. k % 4096) (sym long) ∙ h.0.whole)
    by false e t more = more t

-- fewer bytes need no more units
pub fewer-units : (unit a b : ℕ) → 0 < unit → a ≤ b → units_for unit a ≤ units_for unit b
fewer-units unit a b p h = ceil-le a (units_for unit b) unit p (let c = ceil-holds b unit p in omega (arith, h, c))

-- a part's units and the free ones are units that there are
pub own-free : (o : Owning) (part : ℕ) → OneOwner o → part < length o.parts → length (units_of o part) + length (free_units o) ≤ o.units
own-free o part one h =
    let n = free-count o one in
    let s = sum_by-set (length {A = ℕ}) o.parts part [] [] h in
    omega (arith, n, s)
