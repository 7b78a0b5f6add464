-- Zeros that were written in the partition of the next table, wholly or in part.
use Rattle.std.proofs.Common.{◌≡◌, ◌∙◌, refl, ap, sym, subst, ℕ, ◌+◌, ◌-◌, ◌<◌, ◌≤◌, Bool, true, false, List, [], ◌∷◌, ◌++◌, map, length, take, arith, Option, Some, None, codes}
use Rattle.dev_store.specs.PartWrites.{IsPartWritten}
use Rattle.dev_store.specs.Changes.{put_at}
use Rattle.std.specs.Prelude.{not, ◌==◌, slice_get}
use Rattle.std.specs.List.{list_any, position_or_len}
use Rattle.fb_frame.specs.Bytes.{zeros}
use Rattle.dev_model.specs.declared.step.Step.TheVariants.{Resize}
use Rattle.dev_model.specs.Images.{round_up}
use Rattle.dev_model.specs.Partitions.{is_physical}
use Rattle.dev_model.specs.Sizes.{units_for}
use Rattle.dev_model.specs.Steps.{apply, created}
use Rattle.dev_model.specs.Tables.{is_group}
use Rattle.dev_model.proofs.Names.{among}
use Rattle.unit_alloc.specs.Owning.{Owning, OneOwner, free_units, handed, units_of}
use Rattle.super_meta.specs.Contents.{Content}
use Rattle.dev_store.specs.declared.layout.SuperPart.{SuperPart}
use Rattle.dev_store.specs.declared.state.State.{State}
use Rattle.dev_store.specs.declared.part_place.Units.{Units}
use Rattle.dev_store.specs.declared.part_place.Part.TheVariants.{InUnits}
use Rattle.dev_store.specs.Layouts.{LayoutValue, parts_end}
use Rattle.dev_store.specs.PartPlaces.{AreUnitsIn, AreUnitsOf, Puts, PutsSome}
use Rattle.dev_store.specs.Runs.{table_for}
use Rattle.dev_store.specs.Held.{device_held, file_or_zeros, seen, IsKept}
use Rattle.dev_store.proofs.ChangeNamed.{at-name}
use Rattle.dev_store.proofs.ChangeStore.{device_in}
use Rattle.dev_store.proofs.ChangeResize.{IsLong}
use Rattle.dev_store.specs.Growing.{AreUnitsAt}
use Rattle.dev_store.proofs.ChangeParts.{resize-part, create-part}
use Rattle.dev_store.proofs.ChangeImages.{resize-put, resize-stays, create-put, create-stays}
use Rattle.dev_store.specs.TableChanges.{IsStoreSuper, regrown}

-- the units of a name by a table of the layout's super
units-in : (layout : LayoutValue) (s : SuperPart) (c : Content) (name : List ℕ) (u : Units) → layout.super_part ≡ Some s → AreUnitsOf (parts_end layout.physical) s c name u → AreUnitsIn (parts_end layout.physical) layout.super_part (Some c) name u
units-in layout s c name u part h = subst (λ q. AreUnitsIn (parts_end layout.physical) q (Some c) name u) (sym part) h

module _ (layout : LayoutValue) (s : SuperPart) (state : State) (c : Content) (o now : Owning) (parts name : List ℕ) (part size : ℕ) (old new : Option (List ℕ)) (u : Units)
    (h : IsStoreSuper layout s state c o parts (file_or_zeros layout old)) (at : slice_get parts (position_or_len (at-name name) (device_held layout state (Some c) old).logical) ≡ Some part)
    (there : list_any (at-name name) (device_held layout state (Some c) old).logical ≡ true) (e : now ≡ regrown o part (units_for s.unit (round_up size))) (one : OneOwner now)
    (room : units_for s.unit (round_up size) ≤ length (units_of o part) + length (free_units o))
    (kept : IsKept layout state (Some (table_for s (apply (Resize name size) (device_held layout state (Some c) old)) (map (units_of now) parts))) old)
    (units : AreUnitsAt (parts_end layout.physical) s now part (round_up size) u) (len : ℕ) (long : IsLong name len (device_held layout state (Some c) old).logical) where
  -- the next table has the partition
  pub resize-there : AreUnitsIn (parts_end layout.physical) layout.super_part (Some (table_for s (apply (Resize name size) (device_held layout state (Some c) old)) (map (units_of now) parts))) name u
  unfolding device_held
  resize-there =
      units-in layout s (table_for s (apply (Resize name size) (device_in layout state c (file_or_zeros layout old))) (map (units_of now) parts)) name u h.part
      (resize-part layout s state c o now parts (file_or_zeros layout old) name part size h at e one room there (parts_end layout.physical) u units)

  -- zeros were written in all that is new
  pub resize-fill : (bytes : List ℕ) → bytes ≡ zeros (round_up size - len) → len ≤ round_up size → Puts (InUnits u) len bytes old new →
      device_held layout state (Some (table_for s (apply (Resize name size) (device_held layout state (Some c) old)) (map (units_of now) parts))) new ≡ seen new (apply (Resize name size) (device_held layout state (Some c) old))
  resize-fill bytes are grows puts =
      resize-put layout s state c o now parts name part size e one room old new h at there len long grows
      (subst (λ b. IsPartWritten layout (device_held layout state (Some (table_for s (apply (Resize name size) (device_held layout state (Some c) old)) (map (units_of now) parts)))) (put_at name len b) old new) are
      (puts layout state (Some (table_for s (apply (Resize name size) (device_held layout state (Some c) old)) (map (units_of now) parts))) name resize-there kept))

  -- the device of the table before is as it was, then and after a write that failed
  pub resize-filled-stays : (bytes : List ℕ) → len + length bytes ≤ round_up size → length (units_of o part) ≤ units_for s.unit (round_up size) → Puts (InUnits u) len bytes old new →
      device_held layout state (Some c) new ≡ device_held layout state (Some c) old
  resize-filled-stays bytes fits grows puts =
      resize-stays layout s state c o now parts name part size e one room old new h at there len bytes long fits grows
      (puts layout state (Some (table_for s (apply (Resize name size) (device_held layout state (Some c) old)) (map (units_of now) parts))) name resize-there kept)

  pub resize-left-stays : (count : ℕ) → len + count ≤ round_up size → length (units_of o part) ≤ units_for s.unit (round_up size) → PutsSome (InUnits u) len count old new →
      device_held layout state (Some c) new ≡ device_held layout state (Some c) old
  resize-left-stays count fits grows puts =
      let p = puts layout state (Some (table_for s (apply (Resize name size) (device_held layout state (Some c) old)) (map (units_of now) parts))) name resize-there kept in
      let few = p.1 in
      let n = p.2.1 in
      resize-stays layout s state c o now parts name part size e one room old new h at there len p.2.0 long (omega (arith, few, n)) grows p.2.2

module _ (layout : LayoutValue) (s : SuperPart) (state : State) (c : Content) (o now : Owning) (parts name : List ℕ) (part count size : ℕ) (old new : Option (List ℕ)) (u : Units)
    (h : IsStoreSuper layout s state c o parts (file_or_zeros layout old)) (free : list_any (λ p. p == part) parts ≡ false) (inside : part < 128) (e : now ≡ handed o part (take count (free_units o)))
    (one : OneOwner now) (needs : count ≡ units_for s.unit (round_up size)) (room : count ≤ length (free_units o))
    (fresh : not (among name (map (λ p. p.name) (device_held layout state (Some c) old).logical)) ≡ true) (physical : is_physical (device_held layout state (Some c) old) name ≡ false)
    (group : is_group (device_held layout state (Some c) old).groups (codes "default") ≡ true)
    (kept : IsKept layout state (Some (table_for s (created name size (device_held layout state (Some c) old)) (map (units_of now) (parts ++ part ∷ [])))) old)
    (units : AreUnitsAt (parts_end layout.physical) s now part (round_up size) u) where
  -- the next table has the partition
  pub create-there : AreUnitsIn (parts_end layout.physical) layout.super_part (Some (table_for s (created name size (device_held layout state (Some c) old)) (map (units_of now) (parts ++ part ∷ [])))) name u
  unfolding device_held
  create-there =
      units-in layout s (table_for s (created name size (device_in layout state c (file_or_zeros layout old))) (map (units_of now) (parts ++ part ∷ []))) name u h.part
      (create-part layout s state c o now parts (file_or_zeros layout old) name part count size h free inside e fresh needs room group (parts_end layout.physical) u units)

  -- zeros were written in all of it
  pub create-fill : (bytes : List ℕ) → bytes ≡ zeros (round_up size) → Puts (InUnits u) 0 bytes old new →
      device_held layout state (Some (table_for s (created name size (device_held layout state (Some c) old)) (map (units_of now) (parts ++ part ∷ [])))) new ≡ seen new (created name size (device_held layout state (Some c) old))
  create-fill bytes are puts =
      create-put layout s state c o now parts name part count size free inside e one needs room old new h fresh physical group
      (subst (λ b. IsPartWritten layout (device_held layout state (Some (table_for s (created name size (device_held layout state (Some c) old)) (map (units_of now) (parts ++ part ∷ []))))) (put_at name 0 b) old new) are
      (puts layout state (Some (table_for s (created name size (device_held layout state (Some c) old)) (map (units_of now) (parts ++ part ∷ [])))) name create-there kept))

  -- the device of the table before is as it was, then and after a write that failed
  pub create-filled-stays : (bytes : List ℕ) → length bytes ≤ round_up size → Puts (InUnits u) 0 bytes old new → device_held layout state (Some c) new ≡ device_held layout state (Some c) old
  create-filled-stays bytes fits puts =
      create-stays layout s state c o now parts name part count size free inside e one needs room old new h fresh physical group bytes fits
      (puts layout state (Some (table_for s (created name size (device_held layout state (Some c) old)) (map (units_of now) (parts ++ part ∷ [])))) name create-there kept)

  pub create-left-stays : (most : ℕ) → most ≤ round_up size → PutsSome (InUnits u) 0 most old new → device_held layout state (Some c) new ≡ device_held layout state (Some c) old
  create-left-stays most fits puts =
      let p = puts layout state (Some (table_for s (created name size (device_held layout state (Some c) old)) (map (units_of now) (parts ++ part ∷ [])))) name create-there kept in
      let few = p.1 in
      let n = p.2.1 in
      create-stays layout s state c o now parts name part count size free inside e one needs room old new h fresh physical group p.2.0 (omega (arith, few, n)) p.2.2
