-- A store before and after a call on its table: the next table that is planned, and what writing it makes.
use Rattle.std.proofs.Common.{◌≡◌, ◌∙◌, refl, ap, sym, subst, ℕ, suc, ◌≤◌, List, [], ◌∷◌, map, length, Option, Some, None, option_map}
use Rattle.std.specs.Prelude.{IsTrue}
use Rattle.std.proofs.lemmas.List.{length-map}
use Rattle.unit_alloc.specs.Owning.{Owning, OneOwner, units_of}
use Rattle.dev_model.specs.declared.device.Dev.{Dev}
use Rattle.dev_model.specs.declared.device.Logical.{Logical}
use Rattle.super_meta.specs.Contents.{Content, content, is_sound}
use Rattle.super_meta.specs.TableText.{table_size}
use Rattle.dev_store.specs.declared.layout.SuperPart.{SuperPart}
use Rattle.dev_store.specs.declared.state.State.{State}
use Rattle.dev_store.specs.declared.super_read.SuperRead.{SuperRead}
use Rattle.dev_store.specs.declared.table_build.Planned.{Planned}
use Rattle.dev_store.specs.LayoutLines.{unit_count}
use Rattle.dev_store.specs.Layouts.{LayoutValue, image_size}
use Rattle.dev_store.specs.Supers.{are_good_units}
use Rattle.dev_store.specs.SuperBounds.{IsBounded, IsMapOf}
use Rattle.dev_store.specs.SuperReads.{IsSpelled, HasRooms}
use Rattle.dev_store.specs.SuperRepairs.{SaysTable}
use Rattle.dev_store.specs.Runs.{table_for}
use Rattle.dev_store.specs.Stand.{number_in}
use Rattle.dev_store.specs.Held.{device_held, file_or_zeros, IsKept, IsTabled}
use Rattle.dev_store.specs.Reading.{IsSuperSound}
use Rattle.dev_store.specs.Building.{planned_for, AreGiven, IsOnSuper}
use Rattle.dev_store.specs.TableChanges.{AreFitted, IsStoreSuper}
use Rattle.dev_store.specs.TableCalls.{HavePlace, IsPlanned, IsNextOf}
use Rattle.dev_store.proofs.ToldLemmas.{zeros-long}
use Rattle.dev_store.proofs.ValidLemmas.{names-same}
use Rattle.dev_store.proofs.ChangeHeld.{IsHeadOf}
use Rattle.dev_store.proofs.ChangeStore.{device_in, store-valid, held-is}
use Rattle.dev_store.proofs.ChangeResize.{IsWrittenFor}
use Rattle.dev_store.proofs.BuildNext.{next-table, plan-few, plan-units}
use Rattle.dev_store.proofs.BuildSound.{good-written, sound-written, fits-written}
use Rattle.dev_store.proofs.CallUnits.{one-owner, given-of}

-- ---- a store before the call

kept-file : (layout : LayoutValue) (state : State) (c : Option Content) (image : Option (List ℕ)) → IsKept layout state c image → IsKept layout state c (Some (file_or_zeros layout image))
kept-file layout state c None k = record { laid = k.laid; stated = k.stated; tabled = k.tabled; long = zeros-long (image_size layout) }
kept-file layout state c (Some file) k = k

-- the device is that of the file, or of zeros
pub held-file : (layout : LayoutValue) (state : State) (c : Option Content) (image : Option (List ℕ)) → device_held layout state c image ≡ device_held layout state c (Some (file_or_zeros layout image))
unfolding device_held
held-file layout state c None = refl
held-file layout state c (Some file) = refl

pub store-super : (layout : LayoutValue) (s : SuperPart) (state : State) (w : SuperRead) (image : Option (List ℕ)) → layout.super_part ≡ Some s → IsKept layout state (Some (content w.table)) image →
    IsSuperSound layout.physical s w → IsStoreSuper layout s state (content w.table) w.owners w.parts.items (file_or_zeros layout image)
store-super layout s state w image part k sound = record {
  kept = kept-file layout state (Some (content w.table)) image k;
  part = part;
  mapped = sound.mapped;
  one = one-owner layout.physical s (content w.table) w.owners w.parts.items sound.mapped sound.good;
}

-- its device is one with this super
pub on-super : (layout : LayoutValue) (s : SuperPart) (state : State) (c : Content) (o : Owning) (parts file : List ℕ) → IsStoreSuper layout s state c o parts file →
    IsOnSuper layout.physical s (device_in layout state c file)
unfolding device_held
on-super layout s state c o parts file h = record {
  valid = store-valid layout s state c o parts file h;
  named = ap (λ q. option_map (λ s. s.name) q) h.part;
  physical = names-same 12288 layout.physical file;
  unit = ap (number_in (λ s. s.unit)) h.part;
  units = ap (number_in unit_count) h.part;
}

-- and its table has the device's version and groups
pub head-of : (layout : LayoutValue) (s : SuperPart) (state : State) (c : Content) (file : List ℕ) → layout.super_part ≡ Some s → IsHeadOf c (device_in layout state c file)
head-of layout s state c file part =
    let is = held-is layout s state c file part in
    record { minor = sym (ap (λ (d : Dev). d.table_minor) is); flags = sym (ap (λ (d : Dev). d.table_flags) is); groups = sym (ap (λ (d : Dev). d.groups) is) }

-- ---- the next table

fitted-many : (unit : ℕ) (ps : List Logical) (lists : List (List ℕ)) → AreFitted unit ps lists → length lists ≡ length ps
fitted-many unit [] [] h = refl
fitted-many unit [] (l ∷ lists) h = absurd h
fitted-many unit (p ∷ ps) [] h = absurd h
fitted-many unit (p ∷ ps) (l ∷ lists) h = ap suc (fitted-many unit ps lists h.1)

fitted-parts : (s : SuperPart) (now : Owning) (parts : List ℕ) (dev : Dev) → AreFitted s.unit dev.logical (map (units_of now) parts) → length parts ≡ length dev.logical
fitted-parts s now parts dev h = sym (length-map parts (units_of now)) ∙ fitted-many s.unit dev.logical (map (units_of now) parts) h

-- what is planned for a device has room, where each partition has as many units as it needs
pub fitted-place : (layout : LayoutValue) (s : SuperPart) (now : Owning) (parts : List ℕ) (dev : Dev) (plan : List Planned) → AreFitted s.unit dev.logical (map (units_of now) parts) →
    IsOnSuper layout.physical s dev → plan ≡ planned_for dev.groups dev.logical parts → HavePlace s now plan
fitted-place layout s now parts dev plan h on e = subst (HavePlace s now) (sym e) (record {
  few = plan-few dev parts on.valid (fitted-parts s now parts dev h);
  units = plan-units s now dev parts on.valid on.unit on.units h;
})

pub have-place : (layout : LayoutValue) (s : SuperPart) (state : State) (now : Owning) (parts file : List ℕ) (dev : Dev) (plan : List Planned) → IsWrittenFor layout s state now parts file dev →
    IsOnSuper layout.physical s dev → plan ≡ planned_for dev.groups dev.logical parts → HavePlace s now plan
have-place layout s state now parts file dev plan w on e = fitted-place layout s now parts dev plan w.fitted on e

-- the next table that is planned is that of the device
pub fitted-next : (layout : LayoutValue) (s : SuperPart) (now : Owning) (parts : List ℕ) (dev : Dev) (plan : List Planned) (w x : SuperRead) → IsMapOf s (table_for s dev (map (units_of now) parts)) now parts →
    AreFitted s.unit dev.logical (map (units_of now) parts) → IsOnSuper layout.physical s dev → IsHeadOf (content w.table) dev → plan ≡ planned_for dev.groups dev.logical parts →
    IsPlanned s now plan w x → x.parts.items ≡ parts → IsNextOf layout s dev x
fitted-next layout s now parts dev plan w x mapped fitted on head e p same =
    let many = fitted-parts s now parts dev fitted in
    let table : content x.next ≡ table_for s dev (map (units_of now) parts) = p.next ∙ next-table s now (content w.table) dev plan parts head e many in
    let back : map (units_of x.owners) x.parts.items ≡ map (units_of now) parts = λ i. map (units_of (p.owners i)) (same i) in
    record {
      table = table ∙ ap (table_for s dev) (sym back);
      given = subst (AreGiven s dev.logical) (sym back) (given-of s _ now parts dev.logical mapped (subst OneOwner p.owners p.one) fitted);
      super = on;
      mapped = subst (λ q. IsMapOf s (content x.next) q x.parts.items) (sym p.owners)
          (subst (λ l. IsMapOf s (content x.next) now l) (sym same) (subst (λ c. IsMapOf s c now parts) (sym table) mapped));
    }

pub planned-next : (layout : LayoutValue) (s : SuperPart) (state : State) (now : Owning) (parts file : List ℕ) (dev : Dev) (plan : List Planned) (w x : SuperRead) → IsWrittenFor layout s state now parts file dev →
    IsOnSuper layout.physical s dev → IsHeadOf (content w.table) dev → plan ≡ planned_for dev.groups dev.logical parts → IsPlanned s now plan w x → x.parts.items ≡ parts → IsNextOf layout s dev x
planned-next layout s state now parts file dev plan w x h on head e p same = fitted-next layout s now parts dev plan w x h.mapped h.fitted on head e p same

-- and its device is the one
pub next-device : (layout : LayoutValue) (s : SuperPart) (state : State) (now : Owning) (parts : List ℕ) (image : Option (List ℕ)) (dev : Dev) (plan : List Planned) (w x : SuperRead) →
    IsWrittenFor layout s state now parts (file_or_zeros layout image) dev → IsHeadOf (content w.table) dev → plan ≡ planned_for dev.groups dev.logical parts → IsPlanned s now plan w x →
    device_held layout state (Some (content x.next)) image ≡ dev
next-device layout s state now parts image dev plan w x h head e p =
    let many = fitted-parts s now parts dev h.fitted in
    let table : content x.next ≡ table_for s dev (map (units_of now) parts) = p.next ∙ next-table s now (content w.table) dev plan parts head e many in
    held-file layout state (Some (content x.next)) image ∙ (ap (λ c. device_held layout state (Some c) (Some (file_or_zeros layout image))) table ∙ h.device)

-- it can be written
pub next-good : (layout : LayoutValue) (s : SuperPart) (dev : Dev) (x : SuperRead) → IsBounded s → IsNextOf layout s dev x → IsTrue (are_good_units layout.physical s (content x.next))
next-good layout s dev x b n = subst (λ c. IsTrue (are_good_units layout.physical s c)) (sym n.table) (good-written layout.physical s dev (map (units_of x.owners) x.parts.items) b n.super n.given)

pub next-sound : (layout : LayoutValue) (s : SuperPart) (dev : Dev) (x : SuperRead) → IsBounded s → IsNextOf layout s dev x → IsTrue (is_sound (content x.next))
next-sound layout s dev x b n = subst (λ c. IsTrue (is_sound c)) (sym n.table) (sound-written layout.physical s dev (map (units_of x.owners) x.parts.items) b n.super n.given)

pub next-fits : (layout : LayoutValue) (s : SuperPart) (dev : Dev) (x : SuperRead) → IsBounded s → IsNextOf layout s dev x → table_size (content x.next) ≤ s.max_size
next-fits layout s dev x b n = subst (λ c. table_size c ≤ s.max_size) (sym n.table) (fits-written s dev (map (units_of x.owners) x.parts.items) b n.super.valid n.given)

-- and a store may have it
tabled-of : (layout : LayoutValue) (part : Option SuperPart) (s : SuperPart) (c : Content) (bytes : List ℕ) → part ≡ Some s → IsTrue (are_good_units layout.physical s c) → SaysTable c bytes →
    IsTabled layout part (Some c)
tabled-of layout part s c bytes e good says = subst (λ q. IsTabled layout q (Some c)) (sym e) (good, (bytes, says))

pub kept-next : (layout : LayoutValue) (s : SuperPart) (state : State) (dev : Dev) (image : Option (List ℕ)) (was : Option Content) (x : SuperRead) (bytes : List ℕ) → layout.super_part ≡ Some s → IsBounded s →
    IsKept layout state was image → IsNextOf layout s dev x → SaysTable (content x.next) bytes → IsKept layout state (Some (content x.next)) image
kept-next layout s state dev image was x bytes part b k n says = record {
  laid = k.laid;
  stated = k.stated;
  tabled = tabled-of layout layout.super_part s (content x.next) bytes part (next-good layout s dev x b n) says;
  long = k.long;
}

-- super after the next table was put in the table's place
pub put-sound : (layout : LayoutValue) (s : SuperPart) (dev : Dev) (x y : SuperRead) → IsBounded s → IsNextOf layout s dev x → y.table ≡ x.next → y.owners ≡ x.owners → y.parts ≡ x.parts → IsSpelled s y → HasRooms s y →
    IsSuperSound layout.physical s y
put-sound layout s dev x y b n table owners parts spelled rooms = record {
  mapped = subst (λ l. IsMapOf s (content y.table) y.owners l.items) (sym parts)
      (subst (λ q. IsMapOf s (content y.table) q x.parts.items) (sym owners) (subst (λ t. IsMapOf s (content t) x.owners x.parts.items) (sym table) n.mapped));
  good = subst (λ t. IsTrue (are_good_units layout.physical s (content t))) (sym table) (next-good layout s dev x b n);
  spelled = spelled;
  rooms = rooms;
}
