-- A store after a call: what its invariant needs, whether the call succeeded or broke it.
use Rattle.std.proofs.Common.{◌≡◌, ◌∙◌, refl, ap, sym, subst, ℕ, Bool, true, false, List, length, Option, Some, None}
use Rattle.std.specs.Prelude.{IfSome}
use Rattle.super_meta.specs.Contents.{Content}
use Rattle.dev_disk.specs.Disks.{DiskTold, open_bytes, FilesKept}
use Rattle.dev_disk.proofs.TwinLemmas.{same-bytes}
use Rattle.dev_store.specs.declared.layout.SuperPart.{SuperPart}
use Rattle.dev_store.specs.declared.state.State.{State}
use Rattle.dev_store.specs.declared.super_read.SuperRead.{SuperRead}
use Rattle.dev_store.specs.declared.image_read.ImageRead.{ImageRead}
use Rattle.dev_store.specs.Layouts.{LayoutValue, image_size}
use Rattle.dev_store.specs.Stand.{Stands, Settled, owned_by, owned_in}
use Rattle.dev_store.specs.Held.{device_held, IsSettled, IsWhole, IsKept}
use Rattle.dev_store.specs.PartWrites.{IsImageOf, IsTableOf}
use Rattle.dev_store.specs.Reading.{IsReadSound, IsWithinSound, IsStored, held_by, table_within, owned_within}
use Rattle.dev_store.proofs.OpenLemmas.{owned-laid}
use Rattle.dev_store.proofs.OpenWhole.{IsNow, whole, stored, kept-valid, starts-self}
use Rattle.dev_store.proofs.PartBody.{image-stands}

-- an image stands for its device
pub stands-for : (layout : LayoutValue) (state : State) (table : Option Content) (file : List ℕ) → IsKept layout state table (Some file) → IsImageOf layout state table file →
    Stands file (device_held layout state table (Some file))
unfolding device_held
stands-for layout state table file k h = record {
  found = device_held layout state table (Some file);
  reads = image-stands layout state table file k h;
  same = refl;
  starts = starts-self state.userspace;
}

-- what a store holds, as if it had been opened
abbrev as-read : LayoutValue → State → Option SuperRead → ImageRead
as-read layout state within = record {
  layout = layout;
  found = record { state = state; version = 2; second = false; alike = true };
  within = within;
}

read-sound : (layout : LayoutValue) (state : State) (within : Option SuperRead) (o : Option (List ℕ)) → IsKept layout state (table_within within) o → IsWithinSound layout layout.super_part within →
    IsReadSound (as-read layout state within)
read-sound layout state within o k w = record { laid = k.laid; fits = k.stated; super = w }

owns-within : (layout : LayoutValue) (part : Option SuperPart) (within : Option SuperRead) (file name : List ℕ) → IsWithinSound layout part within → IsTableOf layout part (table_within within) file →
    owned_by layout part file name ≡ owned_within part within name
owns-within layout None None file name w h = refl
owns-within layout None (Some r) file name w h = absurd w
owns-within layout (Some s) None file name w h = absurd w
owns-within layout (Some s) (Some r) file name w h = ap (λ o. owned_in s o name) h.read

-- the told image has what the store holds, and nothing is left to repair in it
pub record IsHeld (layout : LayoutValue) (state : State) (table : Option Content) (file : List ℕ) : Type 0 where
  pub image : IsImageOf layout state table file
  pub settled : Settled file

now-of : (layout : LayoutValue) (state : State) (within : Option SuperRead) (o : Option (List ℕ)) → IsKept layout state (table_within within) o → IsWithinSound layout layout.super_part within →
    IfSome o (IsHeld layout state (table_within within)) → IfSome o (IsNow (as-read layout state within))
now-of layout state within None k w h = tt
now-of layout state within (Some file) k w h = record {
  stands = image-stands layout state (table_within within) file k h.image;
  settled = h.settled;
  owns = λ name. owned-laid layout file name h.image.laid ∙ owns-within layout layout.super_part within file name w h.image.tabled;
  long = k.long;
}

image-in : (layout : LayoutValue) (state : State) (table : Option Content) (o : Option (List ℕ)) → IfSome o (IsHeld layout state table) → IfSome o (IsImageOf layout state table)
image-in layout state table None h = tt
image-in layout state table (Some file) h = h.image

-- a store that isn't broken
pub whole-now : {K : Type 0} (told : K → DiskTold) (disk : K) (layout : LayoutValue) (state : State) (within : Option SuperRead) →
    IsKept layout state (table_within within) (open_bytes (told disk)) → IsWithinSound layout layout.super_part within → IfSome (open_bytes (told disk)) (IsHeld layout state (table_within within)) →
    IsWhole told (held_by told disk layout state within false)
whole-now told disk layout state within k w h =
    let o = open_bytes (told disk) in
    whole told disk (as-read layout state within) (read-sound layout state within o k w) (now-of layout state within o k w h)

pub stored-now : {K : Type 0} (told : K → DiskTold) (disk : K) (layout : LayoutValue) (state : State) (within : Option SuperRead) (buffer : List ℕ) →
    IsKept layout state (table_within within) (open_bytes (told disk)) → IsWithinSound layout layout.super_part within → IfSome (open_bytes (told disk)) (IsHeld layout state (table_within within)) →
    (told disk).open_length ≡ Some (image_size layout) → length buffer ≡ 126976 → IsStored told (held_by told disk layout state within false) layout state within buffer
stored-now told disk layout state within buffer k w h size room =
    let o = open_bytes (told disk) in
    stored told disk (as-read layout state within) buffer (read-sound layout state within o k w) (now-of layout state within o k w h) (image-in layout state (table_within within) o h) size room

-- a broken store
pub stored-broken : {K : Type 0} (told : K → DiskTold) (disk : K) (layout : LayoutValue) (state : State) (within : Option SuperRead) (buffer : List ℕ) →
    IsKept layout state (table_within within) (open_bytes (told disk)) → (told disk).open_length ≡ Some (image_size layout) → length buffer ≡ 126976 →
    IsStored told (held_by told disk layout state within true) layout state within buffer
stored-broken told disk layout state within buffer k size room = record {
  valid = kept-valid layout state (table_within within) (open_bytes (told disk)) k;
  opened = size;
  kept = k;
  whole = λ e. absurd cc;
  super = λ e. absurd cc;
  read = λ e. absurd cc;
  room = room;
}

-- what the image of a store has that isn't broken
settled-in : (layout : LayoutValue) (state : State) (table : Option Content) (o : Option (List ℕ)) → IfSome o (IsImageOf layout state table) → IsSettled o → IfSome o (IsHeld layout state table)
unfolding IsSettled
settled-in layout state table None h s = tt
settled-in layout state table (Some file) h s = record { image = h; settled = s }

pub held-in : {K : Type 0} (told : K → DiskTold) (disk : K) (layout : LayoutValue) (state : State) (within : Option SuperRead) (buffer : List ℕ) →
    IsStored told (held_by told disk layout state within false) layout state within buffer → IfSome (open_bytes (told disk)) (IsHeld layout state (table_within within))
held-in told disk layout state within buffer h = settled-in layout state (table_within within) (open_bytes (told disk)) (h.read refl) (h.whole refl).settled

-- a store after a call that changes no bytes
pub same-stored : {K : Type 0} (told : K → DiskTold) (old new : K) (layout : LayoutValue) (state : State) (within : Option SuperRead) (buffer : List ℕ) (broken : Bool) →
    IsStored told (held_by told old layout state within broken) layout state within buffer → FilesKept (told old) (told new) → IsStored told (held_by told new layout state within broken) layout state within buffer
same-stored told old new layout state within buffer true h f =
    stored-broken told new layout state within buffer (subst (IsKept layout state (table_within within)) (sym (same-bytes (told old) (told new) f)) h.kept) (f.length ∙ h.opened) h.room
same-stored told old new layout state within buffer false h f =
    let same = sym (same-bytes (told old) (told new) f) in
    stored-now told new layout state within buffer (subst (IsKept layout state (table_within within)) same h.kept) (h.super refl)
    (subst (λ o. IfSome o (IsHeld layout state (table_within within))) same (held-in told old layout state within buffer h)) (f.length ∙ h.opened) h.room

-- it breaks
pub breaks : {K : Type 0} (told : K → DiskTold) (disk : K) (layout : LayoutValue) (state : State) (within : Option SuperRead) (buffer : List ℕ) (broken : Bool) →
    IsStored told (held_by told disk layout state within broken) layout state within buffer → IsStored told (held_by told disk layout state within true) layout state within buffer
breaks told disk layout state within buffer broken h = stored-broken told disk layout state within buffer h.kept h.opened h.room
