-- What writing in a partition makes of a store.
use Rattle.std.proofs.Common.{◌≡◌, ◌∙◌, refl, sym, subst, ℕ, ◌+◌, ◌≤◌, Bool, false, List, length, Option, Some, None, arith}
use Rattle.fb_frame.specs.Told.{Both}
use Rattle.dev_disk.specs.Disks.{DiskTold, open_bytes, OpenKept}
use Rattle.super_meta.specs.Contents.{Content}
use Rattle.dev_store.specs.declared.layout.SuperPart.{SuperPart}
use Rattle.dev_store.specs.declared.state.State.{State}
use Rattle.dev_store.specs.declared.super_read.SuperRead.{SuperRead}
use Rattle.dev_store.specs.declared.part_place.Units.{Units}
use Rattle.dev_store.specs.declared.part_place.Part.{Part}
use Rattle.dev_store.specs.declared.part_place.Part.TheVariants.{Whole, InUnits}
use Rattle.dev_store.specs.Layouts.{LayoutValue, parts_end}
use Rattle.dev_store.specs.Held.{device_held, IsKept, IsSound, IsWhole}
use Rattle.dev_store.specs.Reading.{IsStored, held_by}
use Rattle.dev_store.specs.StoreCalls.{part_bytes, IsPartly}
use Rattle.dev_store.specs.PartWrites.{IsBodyChanged}
use Rattle.dev_store.specs.PartPlaces.{AreUnitsIn, IsPartOf, size_of, Puts, PutsSome}
use Rattle.dev_store.proofs.PartFills.{partly_wider}
use Rattle.dev_store.proofs.PartStores.{part_stored, part_whole, part_sound}
use Rattle.dev_store.proofs.PartWritten.{physical_long, logical_long, put_partly}

units-long : (layout : LayoutValue) (state : State) (part : Option SuperPart) (table : Option Content) (image : Option (List ℕ)) (name : List ℕ) (u : Units) → layout.super_part ≡ part →
    AreUnitsIn (parts_end layout.physical) part table name u → IsKept layout state table image → length (part_bytes name (device_held layout state table image)) ≡ u.size
units-long layout state None table image name u e a k = absurd a
units-long layout state (Some s) None image name u e a k = absurd a
units-long layout state (Some s) (Some c) image name u e a k = logical_long layout state s c name a.entry image k e a.found ∙ sym a.size

-- a partition that was found is as long as was found
part-long : (layout : LayoutValue) (state : State) (table : Option Content) (image : Option (List ℕ)) (name : List ℕ) (part : Part) → IsPartOf layout table name part → IsKept layout state table image →
    length (part_bytes name (device_held layout state table image)) ≡ size_of part
part-long layout state table image name (Whole span) is k = physical_long layout state table name span.start span.size image k is
part-long layout state table image name (InUnits u) is k = units-long layout state layout.super_part table image name u refl is k

-- a write that failed changed the range at most
pub left-partly : (layout : LayoutValue) (state : State) (table : Option Content) (name : List ℕ) (part : Part) (at count : ℕ) (old new : Option (List ℕ)) → IsPartOf layout table name part → IsKept layout state table old →
    at + count ≤ size_of part → PutsSome part at count old new → IsPartly name at count (device_held layout state table old) (device_held layout state table new)
left-partly layout state table name part at count old new is k fits puts =
    let p = puts layout state table name is k in
    let some = p.2 in
    let few : length some.0 ≤ count = (let l = p.1 in let e = some.1 in omega arith) in
    let long = part-long layout state table old name part is k in
    partly_wider name at (length some.0) at count (device_held layout state table old) (device_held layout state table new) (omega arith) (omega arith)
    (put_partly layout state table name at some.0 old new k (omega arith) some.2)

-- nothing but the bytes of partitions changed
pub put-body : (layout : LayoutValue) (state : State) (table : Option Content) (name : List ℕ) (part : Part) (at : ℕ) (bytes : List ℕ) (old new : Option (List ℕ)) → IsPartOf layout table name part → IsKept layout state table old →
    Puts part at bytes old new → Both (IsBodyChanged layout) old new
put-body layout state table name part at bytes old new is k puts = (puts layout state table name is k).body

pub left-body : (layout : LayoutValue) (state : State) (table : Option Content) (name : List ℕ) (part : Part) (at count : ℕ) (old new : Option (List ℕ)) → IsPartOf layout table name part → IsKept layout state table old →
    PutsSome part at count old new → Both (IsBodyChanged layout) old new
left-body layout state table name part at count old new is k puts = let p = puts layout state table name is k in let some = p.2 in some.2.body

-- so the store is one still, broken or not
usable-now : {K : Type 0} (told : K → DiskTold) (disk : K) (layout : LayoutValue) (state : State) (within : Option SuperRead) (buffer : List ℕ) (broken : Bool) → broken ≡ false →
    IsStored told (held_by told disk layout state within broken) layout state within buffer → IsStored told (held_by told disk layout state within false) layout state within buffer
usable-now told disk layout state within buffer broken e h = subst (λ b. IsStored told (held_by told disk layout state within b) layout state within buffer) e h

pub body-stored : {K : Type 0} (told : K → DiskTold) (old new : K) (layout : LayoutValue) (state : State) (within : Option SuperRead) (before after : List ℕ) (broken now : Bool) → broken ≡ false →
    IsStored told (held_by told old layout state within broken) layout state within before → Both (IsBodyChanged layout) (open_bytes (told old)) (open_bytes (told new)) → OpenKept (told old) (told new) →
    length after ≡ length before → IsStored told (held_by told new layout state within now) layout state within after
body-stored told old new layout state within before after broken now e h b k room =
    part_stored told old new layout state within before after now (usable-now told old layout state within before broken e h) b k.length room

pub body-whole : {K : Type 0} (told : K → DiskTold) (old new : K) (layout : LayoutValue) (state : State) (within : Option SuperRead) (buffer : List ℕ) (broken : Bool) → broken ≡ false →
    IsStored told (held_by told old layout state within broken) layout state within buffer → Both (IsBodyChanged layout) (open_bytes (told old)) (open_bytes (told new)) →
    IsWhole told (held_by told new layout state within broken)
body-whole told old new layout state within buffer broken e h b =
    subst (λ n. IsWhole told (held_by told new layout state within n)) (sym e) (part_whole told old new layout state within buffer (usable-now told old layout state within buffer broken e h) b)

pub body-sound : {K : Type 0} (told : K → DiskTold) (old new : K) (layout : LayoutValue) (state : State) (within : Option SuperRead) (buffer : List ℕ) (broken now : Bool) → broken ≡ false →
    IsStored told (held_by told old layout state within broken) layout state within buffer → Both (IsBodyChanged layout) (open_bytes (told old)) (open_bytes (told new)) →
    IsSound told (held_by told new layout state within now)
body-sound told old new layout state within buffer broken now e h b = part_sound told old new layout state within buffer now (usable-now told old layout state within buffer broken e h) b
