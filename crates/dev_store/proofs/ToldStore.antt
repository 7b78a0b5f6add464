-- What a store keeps is of a device that there can be, and that tells what the facts do.
use Rattle.std.proofs.Common.{◌≡◌, ◌∙◌, refl, ap, sym, subst, ℕ, Bool, true, false, List, [], ◌∷◌, length, Option, Some, None, arith, ◌==◌}
use borrow.Author.Tests.{eqb-true}
use Rattle.dev_model.specs.declared.device.SlotFlags.{SlotFlags}
use Rattle.dev_model.specs.Partitions.{is_userspace}
use Rattle.dev_model.proofs.Valid.{both}
use Rattle.dev_store.specs.States.{both_flags, start_mode, kept_state, is_state}
use Rattle.std.specs.Prelude.{IfSome, slice_get, option_map, map}
use Rattle.std.proofs.lemmas.Option.{slice_get-map}
use Rattle.super_meta.specs.Held.{limited}
use Rattle.std.proofs.lemmas.List.{length-replicate}
use Rattle.fb_frame.specs.Bytes.{zeros}
use Rattle.dev_model.specs.Validity.{IsValid}
use Rattle.super_meta.specs.Contents.{Content, content}
use Rattle.dev_store.specs.declared.super_read.SuperRead.{SuperRead}
use Rattle.dev_store.specs.Reading.{table_within}
use Rattle.dev_store.specs.declared.layout.SuperPart.{SuperPart}
use Rattle.dev_store.specs.declared.state.State.{State}
use Rattle.dev_store.specs.declared.variables_row.Facts.{Facts}
use Rattle.dev_store.specs.Layouts.{LayoutValue, image_size}
use Rattle.dev_store.specs.Held.{IsKept, IsTabled, device_held, file_or_zeros, super_by}
use Rattle.dev_store.specs.Stand.{physical_at, device_with}
use Rattle.dev_store.specs.StoreCalls.{started_in}
use Rattle.dev_store.specs.ToldRows.{told_device, AreFactsOf, AreTellable}
use Rattle.dev_store.proofs.ValidStands.{super_makes_valid, plain_makes_valid}
use Rattle.dev_store.proofs.ToldKept.{super-tells, plain-tells, super-tellable, plain-tellable}
use Rattle.dev_store.proofs.ZeroedTold.{TellAlike}

zeros-long : (n : ℕ) → length (zeros n) ≡ n
unfolding zeros
zeros-long n = length-replicate n 0

long-file : (layout : LayoutValue) (image : Option (List ℕ)) → IfSome image (λ file. length file ≡ image_size layout) → length (file_or_zeros layout image) ≡ image_size layout
long-file layout None h = zeros-long (image_size layout)
long-file layout (Some file) h = h

valid-by : (layout : LayoutValue) (state : State) (table : Option Content) (image : Option (List ℕ)) (part : Option SuperPart) → layout.super_part ≡ part → IsKept layout state table image → IsTabled layout part table →
    IsValid (device_with layout state (physical_at 12288 layout.physical (file_or_zeros layout image)) (super_by layout part table (file_or_zeros layout image)))
valid-by layout state None image None e k t = plain_makes_valid layout state (file_or_zeros layout image) k.laid e (long-file layout image k.long) k.stated
valid-by layout state (Some c) image None e k t = absurd t
valid-by layout state None image (Some s) e k t = absurd t
valid-by layout state (Some c) image (Some s) e k t = super_makes_valid layout s state c (file_or_zeros layout image) t.1.0 k.laid e (long-file layout image k.long) t.1.1 t.0 k.stated

-- a device that is kept is one that there can be
pub kept_valid : (layout : LayoutValue) (state : State) (table : Option Content) (image : Option (List ℕ)) → IsKept layout state table image → IsValid (device_held layout state table image)
unfolding device_held
kept_valid layout state table image k = valid-by layout state table image layout.super_part refl k k.tabled

tells-by : (layout : LayoutValue) (state : State) (table : Option Content) (image : Option (List ℕ)) (userspace : Bool) (f : Facts) (part : Option SuperPart) → layout.super_part ≡ part → IsKept layout state table image → IsTabled layout part table →
    AreFactsOf layout state table userspace f →
    TellAlike (started_in userspace (device_with layout state (physical_at 12288 layout.physical (file_or_zeros layout image)) (super_by layout part table (file_or_zeros layout image)))) (told_device f)
tells-by layout state None image userspace f None e k t a = plain-tells layout state userspace (file_or_zeros layout image) f e (long-file layout image k.long) a
tells-by layout state (Some c) image userspace f None e k t a = absurd t
tells-by layout state None image userspace f (Some s) e k t a = absurd t
tells-by layout state (Some c) image userspace f (Some s) e k t a = super-tells layout s state c userspace (file_or_zeros layout image) f k.laid e (long-file layout image k.long) t.0 a

-- a device that is kept tells what the facts do
pub kept-tells : (layout : LayoutValue) (state : State) (table : Option Content) (image : Option (List ℕ)) (userspace : Bool) (f : Facts) → IsKept layout state table image → AreFactsOf layout state table userspace f →
    TellAlike (started_in userspace (device_held layout state table image)) (told_device f)
unfolding device_held
kept-tells layout state table image userspace f k a = tells-by layout state table image userspace f layout.super_part refl k k.tabled a

tellable-by : (layout : LayoutValue) (state : State) (table : Option Content) (image : Option (List ℕ)) (userspace : Bool) (f : Facts) (part : Option SuperPart) → layout.super_part ≡ part → IsKept layout state table image → IsTabled layout part table →
    AreFactsOf layout state table userspace f → AreTellable f
tellable-by layout state None image userspace f None e k t a = plain-tellable layout state userspace (file_or_zeros layout image) f k.laid e (long-file layout image k.long) k.stated a
tellable-by layout state (Some c) image userspace f None e k t a = absurd t
tellable-by layout state None image userspace f (Some s) e k t a = absurd t
tellable-by layout state (Some c) image userspace f (Some s) e k t a = super-tellable layout s state c userspace (file_or_zeros layout image) t.1.0 f k.laid e (long-file layout image k.long) t.1.1 t.0 k.stated a

pub kept-tellable : (layout : LayoutValue) (state : State) (table : Option Content) (image : Option (List ℕ)) (userspace : Bool) (f : Facts) → IsKept layout state table image → AreFactsOf layout state table userspace f → AreTellable f
kept-tellable layout state table image userspace f k a = tellable-by layout state table image userspace f layout.super_part refl k k.tabled a

-- the state that is kept is the state
two-flags : (s : State) → length s.flags ≡ 2 → (both_flags s.flags).a ∷ (both_flags s.flags).b ∷ [] ≡ s.flags
two-flags s h = by s.flags h where
  by : (flags : List SlotFlags) → length flags ≡ 2 → (both_flags flags).a ∷ (both_flags flags).b ∷ [] ≡ flags
  by [] k = absurd (omega arith)
  by (f ∷ []) k = absurd (omega arith)
  by (f ∷ g ∷ []) k = refl
  by (f ∷ g ∷ h ∷ rest) k = absurd (omega arith)

userspace-back : (userspace : Bool) → is_userspace (start_mode userspace) ≡ userspace
userspace-back true = refl
userspace-back false = refl

stated-two : (slots : ℕ) (s : State) → is_state slots s ≡ true → length s.flags ≡ 2
unfolding is_state
stated-two slots s h = eqb-true (length s.flags) 2 (both (length s.flags == 2) _ h).0

pub state-kept : (layout : LayoutValue) (state : State) (table : Option Content) (image : Option (List ℕ)) → IsKept layout state table image → state ≡ kept_state (device_held layout state table image)
unfolding device_held
state-kept layout state table image k =
    let f = sym (two-flags state (stated-two layout.slots state k.stated)) in
    let u = sym (userspace-back state.userspace) in
    λ i. record { locked = state.locked; active = state.active; flags = f i; userspace = u i }

groups-by : (layout : LayoutValue) (c : Content) (image : Option (List ℕ)) (part : Option SuperPart) → IsTabled layout part (Some c) → (super_by layout part (Some c) (file_or_zeros layout image)).groups ≡ map limited c.groups
groups-by layout c image None t = absurd t
groups-by layout c image (Some s) t = refl

-- the groups that are kept are the table's
pub group-kept : (layout : LayoutValue) (state : State) (c : Content) (image : Option (List ℕ)) (place : ℕ) → IsKept layout state (Some c) image →
    option_map limited (slice_get c.groups place) ≡ slice_get (device_held layout state (Some c) image).groups place
unfolding device_held
group-kept layout state c image place k =
    sym (slice_get-map limited c.groups place) ∙ ap (λ gs. slice_get gs place) (sym (groups-by layout c image layout.super_part k.tabled))

pub group-within : (layout : LayoutValue) (state : State) (within : Option SuperRead) (w : SuperRead) (image : Option (List ℕ)) (place : ℕ) → within ≡ Some w → IsKept layout state (table_within within) image →
    option_map limited (slice_get w.table.groups.items place) ≡ slice_get (device_held layout state (table_within within) image).groups place
group-within layout state within w image place e k =
    subst (λ v. IsKept layout state (table_within v) image → option_map limited (slice_get w.table.groups.items place) ≡ slice_get (device_held layout state (table_within v) image).groups place) (sym e)
    (λ h. group-kept layout state (content w.table) image place h) k
