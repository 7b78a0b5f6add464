-- A store stays one when nothing but partitions' bytes changed in its image.
use Rattle.std.proofs.Common.{◌≡◌, ◌∙◌, refl, ℕ, Bool, true, false, List, length, Option, Some, None}
use Rattle.std.specs.Prelude.{IfSome}
use Rattle.fb_frame.specs.Told.{Both}
use Rattle.dev_disk.specs.Disks.{DiskTold, open_bytes}
use Rattle.super_meta.specs.Contents.{Content}
use Rattle.dev_store.specs.declared.state.State.{State}
use Rattle.dev_store.specs.declared.super_read.SuperRead.{SuperRead}
use Rattle.dev_store.specs.Layouts.{LayoutValue}
use Rattle.dev_store.specs.Held.{IsSound, IsWhole}
use Rattle.dev_store.specs.Reading.{IsStored, held_by, table_within}
use Rattle.dev_store.specs.PartWrites.{IsBodyChanged}
use Rattle.dev_store.proofs.StoredLemmas.{IsHeld, whole-now, stored-now, held-in, breaks}
use Rattle.dev_store.proofs.PartBody.{image-of-kept, settled-kept}
use Rattle.dev_store.proofs.PartWritten.{body_kept}

-- the told image has what the store holds still
held-kept : (layout : LayoutValue) (state : State) (table : Option Content) (old new : Option (List ℕ)) → IfSome old (IsHeld layout state table) → Both (IsBodyChanged layout) old new →
    IfSome new (IsHeld layout state table)
held-kept layout state table None None h b = tt
held-kept layout state table None (Some new) h b = absurd b
held-kept layout state table (Some old) None h b = absurd b
held-kept layout state table (Some old) (Some new) h b = record {
  image = image-of-kept layout state table old new b h.image;
  settled = settled-kept layout old new h.image.laid b h.settled;
}

-- A store of which a partition was written is one still, and so it is where it is broken then.
pub part_stored : {K : Type 0} (told : K → DiskTold) (old new : K) (layout : LayoutValue) (state : State) (within : Option SuperRead) (before after : List ℕ) (broken : Bool) →
    IsStored told (held_by told old layout state within false) layout state within before → Both (IsBodyChanged layout) (open_bytes (told old)) (open_bytes (told new)) →
    (told new).open_length ≡ (told old).open_length → length after ≡ length before → IsStored told (held_by told new layout state within broken) layout state within after
part_stored told old new layout state within before after broken h b long room = by broken usable where
  usable : IsStored told (held_by told new layout state within false) layout state within after
  usable =
      stored-now told new layout state within after (body_kept layout state (table_within within) (open_bytes (told old)) (open_bytes (told new)) h.kept b) (h.super refl)
      (held-kept layout state (table_within within) (open_bytes (told old)) (open_bytes (told new)) (held-in told old layout state within before h) b) (long ∙ h.opened) (room ∙ h.room)

  by : (broken : Bool) → IsStored told (held_by told new layout state within false) layout state within after → IsStored told (held_by told new layout state within broken) layout state within after
  by false s = s
  by true s = breaks told new layout state within after false s

-- It is whole, and its image stands for its device even where it is broken then.
pub part_whole : {K : Type 0} (told : K → DiskTold) (old new : K) (layout : LayoutValue) (state : State) (within : Option SuperRead) (buffer : List ℕ) →
    IsStored told (held_by told old layout state within false) layout state within buffer → Both (IsBodyChanged layout) (open_bytes (told old)) (open_bytes (told new)) →
    IsWhole told (held_by told new layout state within false)
part_whole told old new layout state within buffer h b =
    whole-now told new layout state within (body_kept layout state (table_within within) (open_bytes (told old)) (open_bytes (told new)) h.kept b) (h.super refl)
    (held-kept layout state (table_within within) (open_bytes (told old)) (open_bytes (told new)) (held-in told old layout state within buffer h) b)

pub part_sound : {K : Type 0} (told : K → DiskTold) (old new : K) (layout : LayoutValue) (state : State) (within : Option SuperRead) (buffer : List ℕ) (broken : Bool) →
    IsStored told (held_by told old layout state within false) layout state within buffer → Both (IsBodyChanged layout) (open_bytes (told old)) (open_bytes (told new)) →
    IsSound told (held_by told new layout state within broken)
part_sound told old new layout state within buffer broken h b =
    let w = (part_whole told old new layout state within buffer h b).sound in record { valid = w.valid; stands = w.stands }
