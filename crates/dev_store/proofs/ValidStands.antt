-- A file stands for devices that there can be, with a super or without one.
use Rattle.std.proofs.Common.{◌≡◌, ◌∙◌, refl, ap, sym, subst, ℕ, Bool, true, false, List, length, Option, Some, None, Result, Ok, Err, if◌then◌else◌}
use Rattle.std.specs.Prelude.{IsTrue}
use Rattle.std.specs.Option.{option_or}
use Rattle.std.specs.Result.{result_ok}
use borrow.Author.Tests.{eqb-true}
use Rattle.dev_model.specs.declared.bad_image.BadImage.{BadImage}
use Rattle.dev_model.specs.declared.bad_image.BadImage.TheVariants.{NoGeometry, NoTable, BadUnits}
use Rattle.dev_model.specs.declared.device.Dev.{Dev}
use Rattle.dev_model.specs.Validity.{IsValid}
use Rattle.super_meta.specs.Contents.{Content}
use Rattle.super_meta.specs.Flaws.{◌then_on◌}
use Rattle.super_meta.specs.TableText.{table_of}
use Rattle.dev_store.specs.declared.layout.PhysicalPart.{PhysicalPart}
use Rattle.dev_store.specs.declared.layout.SuperPart.{SuperPart}
use Rattle.dev_store.specs.declared.state.State.{State}
use Rattle.dev_store.specs.Layouts.{LayoutValue, image_size}
use Rattle.dev_store.specs.States.{is_state, state_copy}
use Rattle.dev_store.specs.Supers.{geometry_copy, holds_geometry, copy_reads, table_copy, table_read, are_good_units}
use Rattle.dev_store.specs.Stand.{SuperValue, no_super, super_bytes, super_value, super_found, table_in, check, or_bad, physical_at, device_with}
use Rattle.dev_store.specs.Laid.{IsLaid}
use Rattle.dev_store.specs.Laws.{IsRead, StandsValid}
use Rattle.dev_store.proofs.StandLemmas.{then-ok, there, passed, stands_by_parts}
use Rattle.dev_store.proofs.ValidLemmas.{laid-in, or-fits, plain, plain-valid, no-super}
use Rattle.dev_store.proofs.ValidSuper.{with-super, super-valid}

ok-is : {X E : Type 0} (x y : X) (r : Result X E) → r ≡ Ok x → r ≡ Ok y → x ≡ y
ok-is x y (Ok z) h k = cc
ok-is x y (Err e) h k = absurd cc

ok-of : {X E : Type 0} (r : Result X E) (x : X) → result_ok r ≡ Some x → r ≡ Ok x
ok-of (Ok y) x h = ap Ok cc
ok-of (Err e) x h = absurd cc

-- A layout with super, a state and a table make a device that there can be, over bytes of the image's length.
pub super_makes_valid : (layout : LayoutValue) (s : SuperPart) (state : State) (c : Content) (file bytes : List ℕ) → IsLaid layout → layout.super_part ≡ Some s → length file ≡ image_size layout →
    result_ok (table_of bytes) ≡ Some c → IsTrue (are_good_units layout.physical s c) → IsTrue (is_state layout.slots state) →
    IsValid (device_with layout state (physical_at 12288 layout.physical file) (super_value s c (super_bytes layout s file)))
super_makes_valid layout s state c file bytes laid part long read units fits =
    let same : layout ≡ with-super s layout = ap (λ q. record layout { super_part = q }) part in
    subst IsValid (sym (ap (λ l. device_with l state (physical_at 12288 layout.physical file) (super_value s c (super_bytes layout s file))) same))
    (super-valid layout s state c file bytes (subst IsLaid same laid) (long ∙ ap image_size same) (ok-of (table_of bytes) c read) units fits)

-- so do a layout without super and a state
pub plain_makes_valid : (layout : LayoutValue) (state : State) (file : List ℕ) → IsLaid layout → layout.super_part ≡ None → length file ≡ image_size layout → IsTrue (is_state layout.slots state) →
    IsValid (device_with layout state (physical_at 12288 layout.physical file) no_super)
plain_makes_valid layout state file laid part long fits =
    let same : layout ≡ plain layout = ap (λ q. record layout { super_part = q }) part in
    subst IsValid (sym (ap (λ l. device_with l state (physical_at 12288 layout.physical file) no_super) same))
    (plain-valid layout state file (subst IsLaid same laid) fits (long ∙ ap image_size same))

-- what `table_in` goes on with
abbrev on-units : Content → Unit {0} → Result Content BadImage
on-units c u = Ok c

abbrev on-table : List PhysicalPart → SuperPart → Content → Result Content BadImage
on-table parts s c = check BadUnits (are_good_units parts s c) then_on on-units c

abbrev on-geometry : List PhysicalPart → SuperPart → List ℕ → Unit {0} → Result Content BadImage
on-geometry parts s super u = or_bad NoTable (table_read s super) then_on on-table parts s

-- a table that is found is read, and its units are good
pub table-found : (parts : List PhysicalPart) (s : SuperPart) (super : List ℕ) (c : Content) → table_in parts s super ≡ Ok c → (table_read s super ≡ Some c) × (are_good_units parts s c ≡ true)
unfolding table_in
table-found parts s super c h =
    let held : Bool = if holds_geometry s (geometry_copy false super) then true else holds_geometry s (geometry_copy true super) in
    let a = then-ok (check NoGeometry held) (on-geometry parts s super) c h in
    let b = then-ok (or_bad NoTable (table_read s super)) (on-table parts s) c a.second in
    let d = then-ok (check BadUnits (are_good_units parts s b.value)) (on-units b.value) c b.second in
    let e : b.value ≡ c = ok-is b.value c (Ok b.value) refl d.second in
    (there NoTable (table_read s super) b.value b.first ∙ ap Some e, subst (λ x. are_good_units parts s x ≡ true) e (passed BadUnits (are_good_units parts s b.value) d.value d.first))

-- what is found in super is what a table says
pub record IsFound (layout : LayoutValue) (s : SuperPart) (file : List ℕ) (super : SuperValue) : Type 0 where
  pub content : Content
  pub read : table_read s (super_bytes layout s file) ≡ Some content
  pub units : are_good_units layout.physical s content ≡ true
  pub value : super ≡ super_value s content (super_bytes layout s file)

abbrev on-content : LayoutValue → SuperPart → List ℕ → Content → Result SuperValue BadImage
on-content layout s file c = Ok (super_value s c (super_bytes layout s file))

pub super-read : (layout : LayoutValue) (s : SuperPart) (file : List ℕ) (super : SuperValue) → super_found layout (Some s) file ≡ Ok super → IsFound layout s file super
unfolding super_found
super-read layout s file super h =
    let a = then-ok (table_in layout.physical s (super_bytes layout s file)) (on-content layout s file) super h in
    let f = table-found layout.physical s (super_bytes layout s file) a.value a.first in
    record { content = a.value; read = f.0; units = f.1; value = ok-is super (super_value s a.value (super_bytes layout s file)) (Ok super) refl (sym a.second) }

-- a copy that is read is a table's bytes
pub copy-bytes : (s : SuperPart) (super : List ℕ) (c : Content) → table_read s super ≡ Some c → (bytes : List ℕ) × (result_ok (table_of bytes) ≡ Some c)
unfolding copy_reads
copy-bytes s super c h = by (result_ok (table_of (table_copy s 0 super))) refl h where
  by : (o : Option Content) → result_ok (table_of (table_copy s 0 super)) ≡ o → option_or o (result_ok (table_of (table_copy s s.slots super))) ≡ Some c → (bytes : List ℕ) × (result_ok (table_of bytes) ≡ Some c)
  by None e k = (table_copy s s.slots super, k)
  by (Some d) e k = (table_copy s 0 super, e ∙ k)

by-part : (file : List ℕ) (dev : Dev) (p : IsRead file dev) (part : Option SuperPart) → p.layout.super_part ≡ part → IsValid dev
by-part file dev p None e =
    let layout = p.layout in
    let super : p.super ≡ no_super = no-super layout layout.super_part file p.super e p.tabled in
    subst IsValid (sym (p.device ∙ ap (device_with layout p.state (physical_at 12288 layout.physical file)) super))
    (plain_makes_valid layout p.state file (laid-in file layout p.laid) e (eqb-true (length file) (image_size layout) p.long) (or-fits layout.slots p.version p.state (state_copy false file) (state_copy true file) p.recorded))
by-part file dev p (Some s) e =
    let layout = p.layout in
    let f = super-read layout s file p.super (ap (λ q. super_found layout q file) (sym e) ∙ p.tabled) in
    let b = copy-bytes s (super_bytes layout s file) f.content f.read in
    subst IsValid (sym (p.device ∙ ap (device_with layout p.state (physical_at 12288 layout.physical file)) f.value))
    (super_makes_valid layout s p.state f.content file b.0 (laid-in file layout p.laid) e (eqb-true (length file) (image_size layout) p.long) b.1 f.units
    (or-fits layout.slots p.version p.state (state_copy false file) (state_copy true file) p.recorded))

pub stands_valid : StandsValid
stands_valid file dev h = let p = stands_by_parts file dev h in by-part file dev p p.layout.super_part refl
