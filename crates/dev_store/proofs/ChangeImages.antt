-- Changes of the table over an image that is told, or isn't.
use Rattle.std.proofs.Common.{◌≡◌, ◌∙◌, refl, ap, sym, ℕ, ◌+◌, ◌-◌, ◌<◌, ◌≤◌, true, false, List, [], ◌∷◌, ◌++◌, map, length, take, drop, arith, Option, Some, None, codes}
use Rattle.dev_store.proofs.ToldLemmas.{zeros-long}
use Rattle.std.specs.Prelude.{not, ◌==◌, slice_get}
use Rattle.std.specs.List.{list_any, position_or_len, AllByRecursion}
use Rattle.std.proofs.lemmas.List.{length-take-le, length-drop}
use Rattle.fb_frame.specs.Bytes.{zeros}
use Rattle.dev_model.specs.declared.device.Dev.{Dev}
use Rattle.dev_model.specs.declared.device.Logical.{Logical}
use Rattle.dev_model.specs.declared.step.Step.TheVariants.{Resize}
use Rattle.dev_model.specs.Images.{round_up}
use Rattle.dev_model.specs.Sizes.{units_for}
use Rattle.dev_model.specs.Steps.{apply, created}
use Rattle.dev_model.specs.Partitions.{is_physical}
use Rattle.dev_model.specs.Tables.{is_group}
use Rattle.dev_model.proofs.Names.{among}
use Rattle.unit_alloc.specs.Owning.{Owning, OneOwner, free_units, handed, units_of}
use Rattle.super_meta.specs.Contents.{Content}
use Rattle.dev_store.specs.declared.layout.SuperPart.{SuperPart}
use Rattle.dev_store.specs.declared.state.State.{State}
use Rattle.dev_store.specs.Changes.{put_at}
use Rattle.dev_store.specs.Layouts.{LayoutValue, image_size, parts_end}
use Rattle.dev_store.specs.PartWrites.{IsPartWritten}
use Rattle.dev_store.specs.Runs.{table_for}
use Rattle.dev_store.specs.Supers.{units_bytes}
use Rattle.dev_store.specs.Stand.{super_bytes}
use Rattle.dev_store.specs.Held.{device_held, file_or_zeros, seen, zeroed}
use Rattle.dev_store.proofs.OpenZeros.{zeros-self, of-zeros, of-drop, of-take, of-units, held-zeroed}
use Rattle.dev_store.proofs.ChangeNamed.{by_name, at-name}
use Rattle.dev_store.proofs.ChangeBytes.{IsFilled, all-others, filled-none}
use Rattle.dev_store.proofs.ChangeStore.{device_in, store-device}
use Rattle.dev_store.proofs.ChangeResize.{IsLong, resize-after, resize-before}
use Rattle.dev_store.proofs.ChangeCreate.{create-after, create-before}
use Rattle.dev_store.proofs.ChangeFill.{resize-touched, resize-filled, create-touched, create-filled, resize-holds, create-holds}
use Rattle.dev_store.specs.TableChanges.{LiesIn, IsStoreSuper, regrown}

-- units of zeros are zeros
padded-zeros : (layout : LayoutValue) (s : SuperPart) (units : List ℕ) (from size n : ℕ) → from ≤ size → size ≤ length (units_bytes s (super_bytes layout s (zeros n)) units) →
    take (size - from) (drop from (units_bytes s (super_bytes layout s (zeros n)) units)) ≡ zeros (size - from)
unfolding units_bytes
padded-zeros layout s units from size n h k =
    let super = super_bytes layout s (zeros n) in
    let bytes = units_bytes s super units in
    let z = of-take (size - from) (drop from bytes) (of-drop from bytes (of-units s super units (of-take s.size _ (of-drop (parts_end layout.physical) (zeros n) (of-zeros n))))) in
    let d = length-drop from bytes in
    let l : length (take (size - from) (drop from bytes)) ≡ size - from = length-take-le (size - from) (drop from bytes) (omega arith) in
    sym (zeros-self (take (size - from) (drop from bytes)) z) ∙ ap zeros l

-- Zeros over zeros fill each partition.
pub filled-zeros : (layout : LayoutValue) (s : SuperPart) (f : List ℕ → List ℕ) (ps : List Logical) (name units : List ℕ) (from size n : ℕ) → from ≤ size → size ≤ length (units_bytes s (super_bytes layout s (zeros n)) units) →
    AllByRecursion (λ p. LiesIn s (super_bytes layout s (zeros n)) p (f p.name)) ps → IsFilled layout s f ps name units from size (zeros n) (zeros n)
filled-zeros layout s f ps name units from size n h k lies = record {
  touched = record { same_length = refl; physical = refl; others = all-others s (super_bytes layout s (zeros n)) f name ps lies; kept = refl };
  padded = padded-zeros layout s units from size n h k;
}

-- a device of an image that isn't told has zeros alone
zeroed-is : (layout : LayoutValue) (state : State) (c : Content) (dev : Dev) → device_in layout state c (zeros (image_size layout)) ≡ dev → device_held layout state (Some c) None ≡ seen None dev
unfolding device_held seen
zeroed-is layout state c dev e = held-zeroed layout state (Some c) ∙ ap zeroed e

told-is : (layout : LayoutValue) (state : State) (c : Content) (file : List ℕ) (dev : Dev) → device_in layout state c file ≡ dev → device_held layout state (Some c) (Some file) ≡ seen (Some file) dev
unfolding seen
told-is layout state c file dev e = e

seen-told : (file : List ℕ) (dev : Dev) → seen (Some file) dev ≡ dev
unfolding seen
seen-told file dev = refl

-- A partition gets another length over an image: the device of the next table, and of the one before.
module _ (layout : LayoutValue) (s : SuperPart) (state : State) (c : Content) (o now : Owning) (parts name : List ℕ) (part size : ℕ) (e : now ≡ regrown o part (units_for s.unit (round_up size))) (one : OneOwner now)
    (room : units_for s.unit (round_up size) ≤ length (units_of o part) + length (free_units o)) where
  -- the table that is written
  abbrev pub resized-table : Option (List ℕ) → Content
  resized-table image = table_for s (apply (Resize name size) (device_held layout state (Some c) image)) (map (units_of now) parts)

  put-told : (old new : List ℕ) → (len : ℕ) (bytes : List ℕ) (next : Content) → IsPartWritten layout (device_held layout state (Some next)) (put_at name len bytes) (Some old) (Some new) →
      (length new ≡ length old) × (device_in layout state next new ≡ put_at name len bytes (device_in layout state next old))
  put-told old new len bytes next put = (put.body.same_length, put.device ∙ seen-told new (put_at name len bytes (device_in layout state next old)))

  -- zeros were put behind its bytes
  pub resize-put : (old new : Option (List ℕ)) → IsStoreSuper layout s state c o parts (file_or_zeros layout old) →
      slice_get parts (position_or_len (at-name name) (device_held layout state (Some c) old).logical) ≡ Some part →
      list_any (at-name name) (device_held layout state (Some c) old).logical ≡ true → (len : ℕ) → IsLong name len (device_held layout state (Some c) old).logical → len ≤ round_up size →
      IsPartWritten layout (device_held layout state (Some (resized-table old))) (put_at name len (zeros (round_up size - len))) old new →
      device_held layout state (Some (resized-table old)) new ≡ seen new (apply (Resize name size) (device_held layout state (Some c) old))
  unfolding device_held
  resize-put None None h at there len n grows put =
      let file = zeros (image_size layout) in
      let d = store-device layout s state c o parts file h in
      zeroed-is layout state (resized-table None) (apply (Resize name size) (device_in layout state c file))
      (resize-after layout s state c o now parts file name part size h at e one room file len n
      (filled-zeros layout s (by_name o parts (device_in layout state c file).logical) (device_in layout state c file).logical name (units_of now part) len (round_up size) (image_size layout) grows
      (resize-holds layout s state c o now parts file name part size h at e one room) d.units.lies))
  resize-put None (Some new) h at there len n grows put = absurd put.body
  resize-put (Some old) None h at there len n grows put = absurd put.body
  resize-put (Some old) (Some new) h at there len n grows put =
      let bytes = zeros (round_up size - len) in
      let w = put-told old new len bytes (resized-table (Some old)) put in
      let l = zeros-long (round_up size - len) in
      told-is layout state (resized-table (Some old)) new (apply (Resize name size) (device_in layout state c old))
      (resize-after layout s state c o now parts old name part size h at e one room new len n
      (resize-filled layout s state c o now parts old name part size h at e one room there new len bytes w.0 w.1 (omega arith) refl))

  -- it doesn't grow
  pub resize-none : (old : Option (List ℕ)) → IsStoreSuper layout s state c o parts (file_or_zeros layout old) →
      slice_get parts (position_or_len (at-name name) (device_held layout state (Some c) old).logical) ≡ Some part →
      (len : ℕ) → IsLong name len (device_held layout state (Some c) old).logical → round_up size ≤ len →
      device_held layout state (Some (resized-table old)) old ≡ seen old (apply (Resize name size) (device_held layout state (Some c) old))
  unfolding device_held
  resize-none None h at len n shrinks =
      let file = zeros (image_size layout) in
      let d = store-device layout s state c o parts file h in
      zeroed-is layout state (resized-table None) (apply (Resize name size) (device_in layout state c file))
      (resize-after layout s state c o now parts file name part size h at e one room file len n
      (filled-none layout s (by_name o parts (device_in layout state c file).logical) (device_in layout state c file).logical name (units_of now part) len (round_up size) file shrinks d.units.lies))
  resize-none (Some file) h at len n shrinks =
      let d = store-device layout s state c o parts file h in
      told-is layout state (resized-table (Some file)) file (apply (Resize name size) (device_in layout state c file))
      (resize-after layout s state c o now parts file name part size h at e one room file len n
      (filled-none layout s (by_name o parts (device_in layout state c file).logical) (device_in layout state c file).logical name (units_of now part) len (round_up size) file shrinks d.units.lies))

  -- what of it was put, or only a part, leaves the device of the table before as it was
  pub resize-stays : (old new : Option (List ℕ)) → IsStoreSuper layout s state c o parts (file_or_zeros layout old) →
      slice_get parts (position_or_len (at-name name) (device_held layout state (Some c) old).logical) ≡ Some part →
      list_any (at-name name) (device_held layout state (Some c) old).logical ≡ true → (len : ℕ) (bytes : List ℕ) → IsLong name len (device_held layout state (Some c) old).logical →
      len + length bytes ≤ round_up size → length (units_of o part) ≤ units_for s.unit (round_up size) →
      IsPartWritten layout (device_held layout state (Some (resized-table old))) (put_at name len bytes) old new →
      device_held layout state (Some c) new ≡ device_held layout state (Some c) old
  unfolding device_held
  resize-stays None None h at there len bytes n fits grows put = refl
  resize-stays None (Some new) h at there len bytes n fits grows put = absurd put.body
  resize-stays (Some old) None h at there len bytes n fits grows put = absurd put.body
  resize-stays (Some old) (Some new) h at there len bytes n fits grows put =
      let w = put-told old new len bytes (resized-table (Some old)) put in
      resize-before layout s state c o now parts old new name part len (units_for s.unit (round_up size)) h at e one grows n
      (resize-touched layout s state c o now parts old name part size h at e one room there new len bytes w.0 w.1 fits)

-- A new partition over an image.
module _ (layout : LayoutValue) (s : SuperPart) (state : State) (c : Content) (o now : Owning) (parts name : List ℕ) (part count size : ℕ)
    (free : list_any (λ p. p == part) parts ≡ false) (inside : part < 128) (e : now ≡ handed o part (take count (free_units o)))
    (one : OneOwner now) (needs : count ≡ units_for s.unit (round_up size)) (room : count ≤ length (free_units o)) where
  -- the table that is written
  abbrev pub created-table : Option (List ℕ) → Content
  created-table image = table_for s (created name size (device_held layout state (Some c) image)) (map (units_of now) (parts ++ part ∷ []))

  created-told : (old new : List ℕ) → (bytes : List ℕ) (next : Content) → IsPartWritten layout (device_held layout state (Some next)) (put_at name 0 bytes) (Some old) (Some new) →
      (length new ≡ length old) × (device_in layout state next new ≡ put_at name 0 bytes (device_in layout state next old))
  created-told old new bytes next put = (put.body.same_length, put.device ∙ seen-told new (put_at name 0 bytes (device_in layout state next old)))

  -- zeros were put in all of it
  pub create-put : (old new : Option (List ℕ)) → IsStoreSuper layout s state c o parts (file_or_zeros layout old) →
      not (among name (map (λ p. p.name) (device_held layout state (Some c) old).logical)) ≡ true → is_physical (device_held layout state (Some c) old) name ≡ false →
      is_group (device_held layout state (Some c) old).groups (codes "default") ≡ true →
      IsPartWritten layout (device_held layout state (Some (created-table old))) (put_at name 0 (zeros (round_up size))) old new →
      device_held layout state (Some (created-table old)) new ≡ seen new (created name size (device_held layout state (Some c) old))
  unfolding device_held
  create-put None None h fresh physical group put =
      let file = zeros (image_size layout) in
      let d = store-device layout s state c o parts file h in
      zeroed-is layout state (created-table None) (created name size (device_in layout state c file))
      (create-after layout s state c o now parts file name part count size h free inside e fresh file needs room group
      (filled-zeros layout s (by_name o parts (device_in layout state c file).logical) (device_in layout state c file).logical name (units_of now part) 0 (round_up size) (image_size layout) (omega arith)
      (create-holds layout s state c o now parts file name part count size h free inside e fresh one needs room group) d.units.lies))
  create-put None (Some new) h fresh physical group put = absurd put.body
  create-put (Some old) None h fresh physical group put = absurd put.body
  create-put (Some old) (Some new) h fresh physical group put =
      let bytes = zeros (round_up size) in
      let w = created-told old new bytes (created-table (Some old)) put in
      told-is layout state (created-table (Some old)) new (created name size (device_in layout state c old))
      (create-after layout s state c o now parts old name part count size h free inside e fresh new needs room group
      (create-filled layout s state c o now parts old name part count size h free inside e fresh physical one needs room group new bytes w.0 w.1 refl))

  -- what of it was put, or only a part, leaves the device of the table before as it was
  pub create-stays : (old new : Option (List ℕ)) → IsStoreSuper layout s state c o parts (file_or_zeros layout old) →
      not (among name (map (λ p. p.name) (device_held layout state (Some c) old).logical)) ≡ true → is_physical (device_held layout state (Some c) old) name ≡ false →
      is_group (device_held layout state (Some c) old).groups (codes "default") ≡ true → (bytes : List ℕ) → length bytes ≤ round_up size →
      IsPartWritten layout (device_held layout state (Some (created-table old))) (put_at name 0 bytes) old new →
      device_held layout state (Some c) new ≡ device_held layout state (Some c) old
  unfolding device_held
  create-stays None None h fresh physical group bytes fits put = refl
  create-stays None (Some new) h fresh physical group bytes fits put = absurd put.body
  create-stays (Some old) None h fresh physical group bytes fits put = absurd put.body
  create-stays (Some old) (Some new) h fresh physical group bytes fits put =
      let w = created-told old new bytes (created-table (Some old)) put in
      create-before layout s state c o now parts old name part count size h free inside e fresh new
      (create-touched layout s state c o now parts old name part count size h free inside e fresh physical one needs room group new bytes w.0 w.1 fits)
