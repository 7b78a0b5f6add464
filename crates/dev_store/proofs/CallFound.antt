-- A logical partition that is found by its name in the table of a store.
use Rattle.std.proofs.Common.{◌≡◌, ◌∙◌, refl, ap, sym, subst, ℕ, suc, ◌+◌, ◌<◌, ◌≤◌, Bool, true, false, cond, List, [], ◌∷◌, map, length, Option, Some, None, arith, option_map}
use Rattle.std.specs.Prelude.{◌||◌, not, nat_lt, slice_get, slice_index, bytes_eq, position}
use Rattle.std.specs.List.{list_any, position_or_len}
use Rattle.std.proofs.lemmas.Bool.Decides.{nat_tests}
use Rattle.std.proofs.lemmas.Option.{slice_get-get_or}
use Rattle.dev_model.specs.declared.device.Dev.{Dev}
use Rattle.super_meta.specs.declared.table.Partition.{Partition}
use Rattle.super_meta.specs.Contents.{Content, content}
use Rattle.dev_store.specs.declared.layout.SuperPart.{SuperPart}
use Rattle.dev_store.specs.declared.state.State.{State}
use Rattle.dev_store.specs.declared.super_read.SuperRead.{SuperRead}
use Rattle.dev_store.specs.Layouts.{LayoutValue}
use Rattle.dev_store.specs.Supers.{logical_at}
use Rattle.dev_store.specs.Stand.{super_bytes}
use Rattle.dev_store.specs.Held.{device_held, super_by, file_or_zeros, IsTabled, IsKept}
use Rattle.dev_store.specs.Reading.{table_within}
use Rattle.dev_store.specs.TableChanges.{IsStoreSuper}
use Rattle.dev_store.specs.TableCalls.{IsFound}
use Rattle.dev_store.proofs.ChangeNamed.{at-name}
use Rattle.dev_store.proofs.ChangeStore.{device_in, held-logical}
use Rattle.dev_store.proofs.OpenOwns.{place-alike}
use Rattle.dev_store.proofs.CallUnits.{map-many}

-- ---- places in a list

some-passes : {X : Type 0} (test : X → Bool) (xs : List X) → position_or_len test xs < length xs → list_any test xs ≡ true
some-passes test [] h = absurd (omega arith)
some-passes test (x ∷ xs) h = by (test x) h (some-passes test xs)
  where
    by : (b : Bool) → cond (not b) (1 + position_or_len test xs) 0 < suc (length xs) → (position_or_len test xs < length xs → list_any test xs ≡ true) → (b || list_any test xs) ≡ true
    by true h more = refl
    by false h more = more (omega arith)

none-passes : {X : Type 0} (test : X → Bool) (xs : List X) → length xs ≤ position_or_len test xs → list_any test xs ≡ false
none-passes test [] h = refl
none-passes test (x ∷ xs) h = by (test x) h (none-passes test xs)
  where
    by : (b : Bool) → suc (length xs) ≤ cond (not b) (1 + position_or_len test xs) 0 → (length xs ≤ position_or_len test xs → list_any test xs ≡ false) → (b || list_any test xs) ≡ false
    by true h more = absurd (omega arith)
    by false h more = more (omega arith)

at-place : {X : Type 0} (test : X → Bool) (xs : List X) (i : ℕ) → position test xs ≡ Some i → (position_or_len test xs ≡ i) × (i < length xs)
at-place test xs i h = by (nat_lt (position_or_len test xs) (length xs)) refl h
  where
    by : (b : Bool) → nat_lt (position_or_len test xs) (length xs) ≡ b → cond b (Some (position_or_len test xs)) None ≡ Some i → (position_or_len test xs ≡ i) × (i < length xs)
    by true e k = let q : position_or_len test xs ≡ i = cc in (q, grind (arith, nat_tests))
    by false e k = absurd cc

no-place : {X : Type 0} (test : X → Bool) (xs : List X) → position test xs ≡ None → list_any test xs ≡ false
no-place test xs h = by (nat_lt (position_or_len test xs) (length xs)) refl h
  where
    by : (b : Bool) → nat_lt (position_or_len test xs) (length xs) ≡ b → cond b (Some (position_or_len test xs)) None ≡ None → list_any test xs ≡ false
    by true e k = absurd cc
    by false e k = none-passes test xs (grind (arith, nat_tests))

-- ---- partitions by their names

any-alike : (s : SuperPart) (c : Content) (super name : List ℕ) (ps : List Partition) → list_any (at-name name) (map (logical_at s c super) ps) ≡ list_any (λ p. bytes_eq p.name name) ps
any-alike s c super name [] = refl
any-alike s c super name (p ∷ ps) = ap (λ b. bytes_eq p.name name || b) (any-alike s c super name ps)

-- What is known of a partition that was found.
pub record IsFoundAt (w : SuperRead) (dev : Dev) (name : List ℕ) (i : ℕ) : Type 0 where
  pub place : position_or_len (at-name name) dev.logical ≡ i
  pub there : list_any (at-name name) dev.logical ≡ true
  pub inside : i < length (content w.table).partitions
  pub part : slice_get w.parts.items i ≡ Some (slice_index w.parts.items i)

pub found-at : (layout : LayoutValue) (s : SuperPart) (state : State) (w : SuperRead) (file name : List ℕ) (place : ℕ) → IsStoreSuper layout s state (content w.table) w.owners w.parts.items file →
    position (λ p. bytes_eq p.name name) (content w.table).partitions ≡ Some place → IsFoundAt w (device_in layout state (content w.table) file) name place
found-at layout s state w file name place h at =
    let c = content w.table in
    let p = at-place (λ (p : Partition). bytes_eq p.name name) c.partitions place at in
    let logical = held-logical layout s state c file h.part in
    let inside = p.1 in
    record {
      place = ap (position_or_len (at-name name)) logical ∙ (place-alike s c (super_bytes layout s file) name c.partitions ∙ p.0);
      there = ap (list_any (at-name name)) logical ∙ (any-alike s c (super_bytes layout s file) name c.partitions
          ∙ some-passes (λ (p : Partition). bytes_eq p.name name) c.partitions (omega (arith, p.0, inside)));
      inside = inside;
      part = slice_get-get_or w.parts.items place 0 (omega (arith, map-many s c w.owners w.parts.items h.mapped, inside));
    }

-- what was found
pub found-part : (part : Option SuperPart) (table : Option Content) (name : List ℕ) (found : Option (SuperPart × ℕ)) (s : SuperPart) (place : ℕ) → IsFound part table name found → found ≡ Some (s, place) → part ≡ Some s
found-part None None name found s place h e = absurd (never (sym h ∙ e))
  where
    never : (◌≡◌ {A = Option (SuperPart × ℕ)} None (Some (s, place))) → ⊥
    never k = cc
found-part None (Some c) name found s place h e = absurd (never (sym h ∙ e))
  where
    never : (◌≡◌ {A = Option (SuperPart × ℕ)} None (Some (s, place))) → ⊥
    never k = cc
found-part (Some t) None name found s place h e = absurd (never (sym h ∙ e))
  where
    never : (◌≡◌ {A = Option (SuperPart × ℕ)} None (Some (s, place))) → ⊥
    never k = cc
found-part (Some t) (Some c) name found s place h e = by (position (λ p. bytes_eq p.name name) c.partitions) (sym h ∙ e)
  where
    by : (o : Option ℕ) → option_map {U = SuperPart × ℕ} (λ place. (t, place)) o ≡ Some (s, place) → Some t ≡ Some s
    by None k = absurd cc
    by (Some q) k = ap (λ (o : Option (SuperPart × ℕ)). option_map (λ (x : SuperPart × ℕ). x.0) o) k

pub found-place : (part : Option SuperPart) (c : Content) (name : List ℕ) (found : Option (SuperPart × ℕ)) (s : SuperPart) (place : ℕ) → IsFound part (Some c) name found → found ≡ Some (s, place) →
    position (λ p. bytes_eq p.name name) c.partitions ≡ Some place
found-place None c name found s place h e = absurd (never (sym h ∙ e))
  where
    never : (◌≡◌ {A = Option (SuperPart × ℕ)} None (Some (s, place))) → ⊥
    never k = cc
found-place (Some t) c name found s place h e = by (position (λ p. bytes_eq p.name name) c.partitions) (sym h ∙ e)
  where
    by : (o : Option ℕ) → option_map {U = SuperPart × ℕ} (λ place. (t, place)) o ≡ Some (s, place) → o ≡ Some place
    by None k = absurd cc
    by (Some q) k = ap (λ (o : Option (SuperPart × ℕ)). option_map (λ (x : SuperPart × ℕ). x.1) o) k

-- and where nothing was found there is no such partition
absent-by : (layout : LayoutValue) (part : Option SuperPart) (table : Option Content) (file name : List ℕ) → IsTabled layout part table → IsFound part table name None →
    list_any (at-name name) (super_by layout part table file).logical ≡ false
absent-by layout None None file name t h = refl
absent-by layout None (Some c) file name t h = absurd t
absent-by layout (Some s) None file name t h = absurd t
absent-by layout (Some s) (Some c) file name t h =
    any-alike s c (super_bytes layout s file) name c.partitions
    ∙ no-place (λ (p : Partition). bytes_eq p.name name) c.partitions (by (position (λ p. bytes_eq p.name name) c.partitions) h)
  where
    by : (o : Option ℕ) → None ≡ option_map {U = SuperPart × ℕ} (λ place. (s, place)) o → o ≡ None
    by None k = refl
    by (Some q) k = absurd cc

pub found-none : (layout : LayoutValue) (state : State) (table : Option Content) (image : Option (List ℕ)) (name : List ℕ) → IsKept layout state table image → IsFound layout.super_part table name None →
    list_any (at-name name) (device_held layout state table image).logical ≡ false
unfolding device_held
found-none layout state table image name k h = absent-by layout layout.super_part table (file_or_zeros layout image) name k.tabled h

-- the table has no partition of the name
pub not-found : (part : Option SuperPart) (within : Option SuperRead) (name : List ℕ) (s : SuperPart) (w : SuperRead) → part ≡ Some s → within ≡ Some w →
    position (λ p. bytes_eq p.name name) (content w.table).partitions ≡ None → IsFound part (table_within within) name None
not-found part within name s w e f h =
    subst (λ q. IsFound q (table_within within) name None) (sym e) (subst (λ v. IsFound (Some s) (table_within v) name None) (sym f)
    (sym (ap (option_map {U = SuperPart × ℕ} (λ place. (s, place))) h)))
