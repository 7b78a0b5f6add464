-- What a store keeps of a logical partition that was found by its name.
use Rattle.std.proofs.Common.{◌≡◌, ◌∙◌, refl, ap, sym, subst, ℕ, zero, suc, ◌<◌, true, cond, List, [], ◌∷◌, map, find, length, Option, Some, None, option_map, unwrap_or, Result, Ok, Err, arith}
use Rattle.std.specs.Prelude.{slice_get, position, nat_lt, IfSome}
use Rattle.std.specs.Option.{option_and_then}
use Rattle.std.specs.List.{list_all, position_or_len}
use Rattle.std.specs.Result.{result_ok}
use Rattle.std.proofs.lemmas.List.{length-map}
use Rattle.std.proofs.lemmas.Option.{slice_get_past}
use Rattle.super_meta.specs.declared.errors.MetaError.{MetaError}
use Rattle.super_meta.specs.declared.table.Partition.{Partition}
use Rattle.super_meta.specs.Contents.{Content, content}
use Rattle.super_meta.specs.Held.{group_name}
use Rattle.super_meta.specs.TableText.{table_of}
use Rattle.super_meta.proofs.HeldLemmas.{table-read, all-there}
use Rattle.dev_store.specs.declared.layout.SuperPart.{SuperPart}
use Rattle.dev_store.specs.declared.state.State.{State}
use Rattle.dev_store.specs.declared.super_read.SuperRead.{SuperRead}
use Rattle.dev_store.specs.Layouts.{LayoutValue}
use Rattle.dev_store.specs.Supers.{logical_at}
use Rattle.dev_store.specs.Stand.{super_bytes}
use Rattle.dev_store.specs.Held.{IsKept, IsTabled, device_held, file_or_zeros, super_by}
use Rattle.dev_store.specs.SuperReads.{IsMap}
use Rattle.dev_store.specs.Reading.{IsWithinSound, table_within, parts_within}
use Rattle.dev_store.specs.StoreCalls.{group_of}
use Rattle.dev_store.proofs.OpenOwns.{at-name, at-logical, place-alike}
use Rattle.dev_model.proofs.Valid.{both}
use Rattle.dev_store.proofs.NamedLemmas.{find-told, below}

-- the place of a name in the table is its place in the device
place-told : (s : SuperPart) (c : Content) (super name : List ℕ) (ps : List Partition) → position (at-name name) ps ≡ position (at-logical name) (map (logical_at s c super) ps)
place-told s c super name ps =
    let at = place-alike s c super name ps in
    let many = length-map ps (logical_at s c super) in
    ap (λ q. cond (nat_lt q (length ps)) (Some q) None) (sym at)
    ∙ ap (λ n. cond (nat_lt (position_or_len (at-logical name) (map (logical_at s c super) ps)) n) (Some (position_or_len (at-logical name) (map (logical_at s c super) ps))) None) (sym many)

place-by : (layout : LayoutValue) (c : Content) (file name : List ℕ) (part : Option SuperPart) → IsTabled layout part (Some c) →
    position (at-name name) c.partitions ≡ position (at-logical name) (super_by layout part (Some c) file).logical
place-by layout c file name None t = absurd t
place-by layout c file name (Some s) t = place-told s c (super_bytes layout s file) name c.partitions

-- where nothing was found, nothing stands past the end
at-place : (parts : List ℕ) (o : Option ℕ) → option_and_then (slice_get parts) o ≡ slice_get parts (unwrap_or o (length parts))
at-place parts None = sym (slice_get_past parts (length parts) (omega arith))
at-place parts (Some q) = refl

place-kept : (layout : LayoutValue) (state : State) (c : Content) (image : Option (List ℕ)) (parts name : List ℕ) → IsKept layout state (Some c) image →
    option_and_then (slice_get parts) (position (at-name name) c.partitions)
    ≡ slice_get parts (unwrap_or (position (at-logical name) (device_held layout state (Some c) image).logical) (length parts))
unfolding device_held
place-kept layout state c image parts name k =
    ap (option_and_then (slice_get parts)) (place-by layout c (file_or_zeros layout image) name layout.super_part k.tabled) ∙ at-place parts _

pub place-within : (layout : LayoutValue) (state : State) (within : Option SuperRead) (w : SuperRead) (image : Option (List ℕ)) (name : List ℕ) → within ≡ Some w → IsKept layout state (table_within within) image →
    option_and_then (slice_get w.parts.items) (position (at-name name) w.table.partitions.items)
    ≡ slice_get (parts_within within) (unwrap_or (position (at-logical name) (device_held layout state (table_within within) image).logical) (length (parts_within within)))
place-within layout state within w image name e k =
    subst (λ v. IsKept layout state (table_within v) image → option_and_then (slice_get w.parts.items) (position (at-name name) w.table.partitions.items)
    ≡ slice_get (parts_within v) (unwrap_or (position (at-logical name) (device_held layout state (table_within v) image).logical) (length (parts_within v)))) (sym e)
    (λ h. place-kept layout state (content w.table) image w.parts.items name h) k

-- each partition has a part that the map has
part-below : (parts : List ℕ) (bound i part : ℕ) → list_all (λ p. nat_lt p bound) parts ≡ true → slice_get parts i ≡ Some part → part < bound
part-below [] bound i part all h = let past = slice_get_past {X = ℕ} [] i (omega arith) in absurd cc
part-below (p ∷ parts) bound zero part all h =
    let same : p ≡ part = cc in
    subst (λ n. n < bound) same (below p bound (both (nat_lt p bound) (list_all (λ p. nat_lt p bound) parts) all).0)
part-below (p ∷ parts) bound (suc i) part all h = part-below parts bound i part (both (nat_lt p bound) (list_all (λ p. nat_lt p bound) parts) all).1 h

part-known : (s : SuperPart) (w : SuperRead) (o : Option ℕ) → IsMap s w → IfSome (option_and_then (slice_get w.parts.items) o) (λ part. part < length w.owners.parts)
part-known s w None h = tt
part-known s w (Some i) h = by (slice_get w.parts.items i) refl
  where
    by : (found : Option ℕ) → slice_get w.parts.items i ≡ found → IfSome found (λ part. part < length w.owners.parts)
    by None e = tt
    by (Some part) e = subst (λ n. part < n) (sym h.many) (part-below w.parts.items 128 i part h.there e)

pub part-inside : (layout : LayoutValue) (part : Option SuperPart) (within : Option SuperRead) (w : SuperRead) (o : Option ℕ) → within ≡ Some w → IsWithinSound layout part within →
    IfSome (option_and_then (slice_get w.parts.items) o) (λ n. IfSome (option_map (λ w. w.owners) within) (λ owning. n < length owning.parts))
part-inside layout part within w o e sound =
    subst (λ v. IfSome (option_and_then (slice_get w.parts.items) o) (λ n. IfSome (option_map (λ w. w.owners) v) (λ owning. n < length owning.parts))) (sym e)
    (by part (subst (IsWithinSound layout part) e sound))
  where
    by : (p : Option SuperPart) → IsWithinSound layout p (Some w) → IfSome (option_and_then (slice_get w.parts.items) o) (λ n. n < length w.owners.parts)
    by None h = absurd h
    by (Some s) h = part-known s w o h.mapped

-- the group of each partition is there
ok-of : (r : Result Content MetaError) (c : Content) → result_ok r ≡ Some c → r ≡ Ok c
ok-of (Ok x) c h = cc
ok-of (Err e) c h = absurd cc

there-by : (layout : LayoutValue) (part : Option SuperPart) (c : Content) → IsTabled layout part (Some c) → list_all (λ p. nat_lt p.group (length c.groups)) c.partitions ≡ true
there-by layout None c t = absurd t
there-by layout (Some s) c t = all-there c (table-read t.1.0 c (ok-of (table_of t.1.0) c t.1.1)).indexed

pub groups-there : (layout : LayoutValue) (state : State) (within : Option SuperRead) (w : SuperRead) (image : Option (List ℕ)) → within ≡ Some w → IsKept layout state (table_within within) image →
    list_all (λ p. nat_lt p.group (length (content w.table).groups)) (content w.table).partitions ≡ true
groups-there layout state within w image e k =
    subst (λ v. IsKept layout state (table_within v) image → list_all (λ p. nat_lt p.group (length (content w.table).groups)) (content w.table).partitions ≡ true) (sym e)
    (λ h. there-by layout layout.super_part (content w.table) h.tabled) k

-- the group of a partition
group-told : (s : SuperPart) (c : Content) (super : List ℕ) (o : Option Partition) → option_map (λ p. group_name c.groups p.group) o ≡ option_map (λ p. p.group) (option_map (logical_at s c super) o)
group-told s c super None = refl
group-told s c super (Some p) = refl

group-by : (layout : LayoutValue) (c : Content) (file name : List ℕ) (part : Option SuperPart) → IsTabled layout part (Some c) →
    option_map (λ p. group_name c.groups p.group) (find (at-name name) c.partitions) ≡ option_map (λ p. p.group) (find (at-logical name) (super_by layout part (Some c) file).logical)
group-by layout c file name None t = absurd t
group-by layout c file name (Some s) t =
    let super = super_bytes layout s file in
    group-told s c super (find (at-name name) c.partitions)
    ∙ ap (option_map (λ p. p.group)) (sym (find-told name (λ p. p.name) (λ p. p.name) (logical_at s c super) (λ p. refl) c.partitions))

group-kept : (layout : LayoutValue) (state : State) (c : Content) (image : Option (List ℕ)) (name : List ℕ) → IsKept layout state (Some c) image →
    option_map (λ p. group_name c.groups p.group) (find (at-name name) c.partitions) ≡ group_of (device_held layout state (Some c) image) name
unfolding device_held
group-kept layout state c image name k = group-by layout c (file_or_zeros layout image) name layout.super_part k.tabled

pub group-within : (layout : LayoutValue) (state : State) (within : Option SuperRead) (w : SuperRead) (image : Option (List ℕ)) (name : List ℕ) → within ≡ Some w → IsKept layout state (table_within within) image →
    option_map (λ p. group_name (content w.table).groups p.group) (find (at-name name) (content w.table).partitions) ≡ group_of (device_held layout state (table_within within) image) name
group-within layout state within w image name e k =
    subst (λ v. IsKept layout state (table_within v) image → option_map (λ p. group_name (content w.table).groups p.group) (find (at-name name) (content w.table).partitions) ≡ group_of (device_held layout state (table_within v) image) name) (sym e)
    (λ h. group-kept layout state (content w.table) image name h) k

-- without super there is none
none-by : (layout : LayoutValue) (file : List ℕ) (part : Option SuperPart) → (super_by layout part None file).logical ≡ []
none-by layout file None = refl
none-by layout file (Some s) = refl

none-kept : (layout : LayoutValue) (state : State) (image : Option (List ℕ)) (name : List ℕ) → None ≡ group_of (device_held layout state None image) name
unfolding device_held
none-kept layout state image name = ap (λ ls. option_map (λ p. p.group) (find (at-logical name) ls)) (sym (none-by layout (file_or_zeros layout image) layout.super_part))

pub none-within : (layout : LayoutValue) (state : State) (within : Option SuperRead) (image : Option (List ℕ)) (name : List ℕ) → within ≡ None → None ≡ group_of (device_held layout state (table_within within) image) name
none-within layout state within image name e = subst (λ v. None ≡ group_of (device_held layout state (table_within v) image) name) (sym e) (none-kept layout state image name)
