-- A device that a layout, a state and a table make tells what their facts do.
use Rattle.std.proofs.Common.{◌≡◌, ◌∙◌, refl, ap, sym, subst, ℕ, ◌+◌, ◌<◌, ◌≤◌, ◌^◌, Bool, true, false, List, [], ◌∷◌, map, length, sum_by, Option, Some, None, option_map, arith, length-append}
use Rattle.std.specs.Prelude.{nat_le, ◌&&◌, ◌%◌, ◌==◌, filter_map, IsTrue, is_some, if◌then◌else◌}
use Rattle.std.specs.List.{list_all, AllByRecursion}
use Rattle.std.specs.Result.{result_ok}
use Rattle.std.proofs.lemmas.Bool.Decides.{nat_tests}
use Rattle.std.proofs.lemmas.List.{length-replicate}
use Rattle.std.proofs.lemmas.List.Sums.{sum_by-cons}
use Rattle.fb_frame.specs.Bytes.{zeros}
use Rattle.fb_frame.specs.Versions.{are_attributes}
use Rattle.dev_model.specs.declared.device.Dev.{Dev}
use Rattle.dev_model.specs.declared.device.Variable.{Variable}
use Rattle.dev_model.specs.declared.device.BothFlags.{BothFlags}
use Rattle.fb_frame.specs.declared.slot.Slot.{Slot}
use Rattle.fb_frame.specs.declared.tables.TableGroup.{TableGroup}
use Rattle.dev_model.specs.Tables.{is_group}
use Rattle.dev_model.specs.Texts.{AreShortRows}
use Rattle.dev_model.specs.Validity.{IsValid, is_entry, is_whole, super_is_good, is_without_super}
use Rattle.dev_model.specs.Variables.{plain_rows, all_rows, has_slot_row, base_names}
use Rattle.dev_model.proofs.ShortTexts.{rows_short}
use Rattle.dev_model.proofs.RowCounts.{rows_few}
use Rattle.dev_model.proofs.Valid.{both}
use Rattle.super_meta.specs.declared.table.Partition.{Partition}
use Rattle.super_meta.specs.Contents.{Content}
use Rattle.super_meta.specs.TableText.{table_of}
use Rattle.dev_store.specs.declared.layout.PhysicalPart.{PhysicalPart}
use Rattle.dev_store.specs.declared.layout.SuperPart.{SuperPart}
use Rattle.dev_store.specs.declared.state.State.{State}
use Rattle.dev_store.specs.declared.variables_row.Facts.{Facts}
use Rattle.dev_store.specs.Layouts.{LayoutValue, parts_end, image_size}
use Rattle.dev_store.specs.Laid.{IsLaid, is_good_super}
use Rattle.dev_store.specs.States.{is_state, start_mode, both_flags}
use Rattle.dev_store.specs.Stand.{no_super, super_bytes, super_value, physical_at, device_with}
use Rattle.dev_store.specs.StoreCalls.{started_in}
use Rattle.dev_store.specs.Supers.{are_good_units, extents_of, bytes_in, is_at_unit, lies_in_units, logical_at}
use Rattle.dev_store.specs.ToldRows.{told_device, told_physical, told_logical, part_extents, AreFactsOf, AreTellable}
use Rattle.dev_store.proofs.ValidLemmas.{range-long}
use Rattle.dev_store.proofs.ValidSuper.{good-units, good-super, unit-is, logical-long}
use Rattle.dev_store.proofs.ValidStands.{super_makes_valid, plain_makes_valid}
use Rattle.dev_store.proofs.ZeroedTold.{Outline, physical-outline, logical-outline, plain-of, bare, TellAlike, tell-alike}

zeros-long : (n : ℕ) → length (zeros n) ≡ n
unfolding zeros
zeros-long n = length-replicate n 0

le-is : (a b : ℕ) → nat_le a b ≡ true → a ≤ b
le-is a b h = grind (arith, nat_tests)

physical-outlines : (place : ℕ) (parts : List PhysicalPart) (file : List ℕ) → place + sum_by (λ p. p.size) parts ≤ length file → map physical-outline (physical_at place parts file) ≡ map physical-outline (map told_physical parts)
physical-outlines place [] file h = refl
physical-outlines place (p ∷ parts) file h =
    let s = sum_by-cons (λ (q : PhysicalPart). q.size) p parts in
    let one = range-long place p.size file (omega arith) ∙ sym (zeros-long p.size) in
    let more = physical-outlines (place + p.size) parts file (omega arith) in
    λ i. (p.name, one i) ∷ more i

logical-outlines : (s : SuperPart) (c : Content) (super : List ℕ) → length super ≡ s.size → 0 < s.unit → list_all (λ e. is_at_unit s e && lies_in_units s e) c.extents ≡ true → (ps : List Partition) →
    map logical-outline (map (logical_at s c super) ps) ≡ map logical-outline (map (told_logical c.extents) ps)
logical-outlines s c super l h placed [] = refl
logical-outlines s c super l h placed (p ∷ ps) =
    let one = logical-long s c super p l h placed ∙ sym (zeros-long (bytes_in (extents_of c p))) in
    let more = logical-outlines s c super l h placed ps in
    λ i. (p.name, one i) ∷ more i

-- all that a bare device has
abbrev bare-with : (product serial : List ℕ) (vars : List Variable) (slots : ℕ) (active : Slot) (flags : BothFlags) (locked userspace : Bool) (max : ℕ) (super_name : Option (List ℕ)) (ps ls : List Outline) → Dev
bare-with product serial vars slots active flags locked userspace max super_name ps ls =
    plain-of (record {
      product = product;
      serial = serial;
      vars = vars;
      slots = slots;
      active = active;
      flags = flags;
      locked = locked;
      mode = start_mode userspace;
      max = max;
      physical = [];
      super_name = super_name;
      geometry = record { max_size = 0; slots = 0 };
      groups = [];
      logical = [];
      unit = 0;
      units = 0;
      super_size = 0;
      table_minor = 0;
      table_flags = 0;
    }) ps ls

bare-told : (layout : LayoutValue) (state : State) (table : Option Content) (userspace : Bool) (f : Facts) (ps ls : List Outline) → AreFactsOf layout state table userspace f →
    ps ≡ map physical-outline (map told_physical f.physical.now) → ls ≡ map logical-outline (map (told_logical f.extents.now) f.logical.now) →
    bare-with layout.product layout.serial layout.vars layout.slots state.active (both_flags state.flags) state.locked userspace layout.max (option_map (λ s. s.name) layout.super_part) ps ls ≡ bare (told_device f)
bare-told layout state table userspace f ps ls t p l =
    let product = sym t.product in let serial = sym t.serial in let vars = sym t.vars in let slots = sym t.slots in let active = sym t.active in let flags = sym t.flags in let locked = sym t.locked in
    let mode = sym t.mode in let max = sym t.max in let super_name = sym t.super_name in
    λ i. bare-with (product i) (serial i) (vars i) (slots i) (active i) (flags i) (locked i) (mode i) (max i) (super_name i) (p i) (l i)

-- with a super
pub super-tells : (layout : LayoutValue) (s : SuperPart) (state : State) (c : Content) (userspace : Bool) (file : List ℕ) (f : Facts) → IsLaid layout → layout.super_part ≡ Some s → length file ≡ image_size layout →
    IsTrue (are_good_units layout.physical s c) → AreFactsOf layout state (Some c) userspace f →
    TellAlike (started_in userspace (device_with layout state (physical_at 12288 layout.physical file) (super_value s c (super_bytes layout s file)))) (told_device f)
super-tells layout s state c userspace file f laid part long units t =
    let super = super_bytes layout s file in
    let size : length file ≡ parts_end layout.physical + s.size = long ∙ ap (λ q. image_size (record layout { super_part = q })) part in
    let good = good-super s (subst (λ q. IsTrue (is_good_super q)) part laid.super) in
    let u = good-units layout.physical s c units in
    let p = physical-outlines 12288 layout.physical file (omega arith) ∙ ap (λ parts. map physical-outline (map told_physical parts)) (sym t.physical) in
    let whole : length super ≡ s.size = range-long (parts_end layout.physical) s.size file (omega arith) in
    let l = logical-outlines s c super whole (unit-is s good) u.placed c.partitions ∙ (ap (λ es. map logical-outline (map (told_logical es) c.partitions)) (sym t.extents) ∙ ap (λ ps. map logical-outline (map (told_logical f.extents.now) ps)) (sym t.logical)) in
    tell-alike _ _ (bare-told layout state (Some c) userspace f _ _ t p l)

-- and without one
pub plain-tells : (layout : LayoutValue) (state : State) (userspace : Bool) (file : List ℕ) (f : Facts) → layout.super_part ≡ None → length file ≡ image_size layout → AreFactsOf layout state None userspace f →
    TellAlike (started_in userspace (device_with layout state (physical_at 12288 layout.physical file) no_super)) (told_device f)
plain-tells layout state userspace file f part long t =
    let size : length file ≡ parts_end layout.physical + 0 = long ∙ ap (λ q. image_size (record layout { super_part = q })) part in
    let p = physical-outlines 12288 layout.physical file (omega arith) ∙ ap (λ parts. map physical-outline (map told_physical parts)) (sym t.physical) in
    let l = ap (λ ps. map logical-outline (map (told_logical f.extents.now) ps)) (sym t.logical) in
    tell-alike _ _ (bare-told layout state None userspace f _ _ t p l)

-- what is enough to tell the facts
short-whole : (dev told : Dev) → TellAlike dev told → IsValid dev → (AreShortRows (all_rows told)) × (length (plain_rows told) ≤ 848)
unfolding all_rows
short-whole dev told t v =
    let few = rows_few dev v in
    let a = length-append (plain_rows dev) (filter_map (has_slot_row dev) (base_names dev)) in
    let p = ap length t.plain in
    (subst AreShortRows t.all (rows_short dev v), omega arith)

summed-by : (minor : ℕ) (groups : List TableGroup) (s : SuperPart) (c : Content) (super : List ℕ) → length super ≡ s.size → 0 < s.unit → list_all (λ e. is_at_unit s e && lies_in_units s e) c.extents ≡ true → (ps : List Partition) →
    list_all (is_entry minor groups) (map (logical_at s c super) ps) ≡ true → AllByRecursion (λ p. bytes_in (part_extents c.extents p) < 2 ^ 64) ps
summed-by minor groups s c super l h placed [] e = tt
summed-by minor groups s c super l h placed (p ∷ ps) e =
    let a = both (is_entry minor groups (logical_at s c super p)) _ e in
    let b = both (is_group groups (logical_at s c super p).group && is_whole (length (logical_at s c super p).bytes)) (are_attributes minor p.attributes) a.0 in
    let w = both (length (logical_at s c super p).bytes % 4096 == 0) (nat_le (length (logical_at s c super p).bytes) (2 ^ 44)) (both (is_group groups (logical_at s c super p).group) _ b.0).1 in
    let long = logical-long s c super p l h placed in
    let m : length (logical_at s c super p).bytes ≤ 2 ^ 44 = le-is (length (logical_at s c super p).bytes) (2 ^ 44) w.1 in
    (omega arith, summed-by minor groups s c super l h placed ps a.1)

super-in-mode : (userspace b : Bool) (dev : Dev) → IsTrue ((if b then super_is_good else is_without_super) dev) → IsTrue ((if b then super_is_good else is_without_super) (started_in userspace dev))
super-in-mode userspace true dev h = h
super-in-mode userspace false dev h = h

in-mode : (userspace : Bool) (dev : Dev) → IsValid dev → IsValid (started_in userspace dev)
in-mode userspace dev v = record {
  names = v.names;
  labels = v.labels;
  variables = v.variables;
  variable_names = v.variable_names;
  slots = v.slots;
  download = v.download;
  physical = v.physical;
  groups = v.groups;
  logical = v.logical;
  version = v.version;
  units_fit = v.units_fit;
  groups_fit = v.groups_fit;
  super = super-in-mode userspace (is_some dev.super_name) dev v.super;
}

pub super-tellable : (layout : LayoutValue) (s : SuperPart) (state : State) (c : Content) (userspace : Bool) (file bytes : List ℕ) (f : Facts) → IsLaid layout → layout.super_part ≡ Some s → length file ≡ image_size layout →
    result_ok (table_of bytes) ≡ Some c → IsTrue (are_good_units layout.physical s c) → IsTrue (is_state layout.slots state) → AreFactsOf layout state (Some c) userspace f → AreTellable f
super-tellable layout s state c userspace file bytes f laid part long read units fits t =
    let super = super_bytes layout s file in
    let dev = device_with layout state (physical_at 12288 layout.physical file) (super_value s c super) in
    let size : length file ≡ parts_end layout.physical + s.size = long ∙ ap (λ q. image_size (record layout { super_part = q })) part in
    let whole : length super ≡ s.size = range-long (parts_end layout.physical) s.size file (omega arith) in
    let good = good-super s (subst (λ q. IsTrue (is_good_super q)) part laid.super) in
    let u = good-units layout.physical s c units in
    let v : IsValid dev = super_makes_valid layout s state c file bytes laid part long read units fits in
    let w = short-whole (started_in userspace dev) (told_device f) (super-tells layout s state c userspace file f laid part long units t) (in-mode userspace dev v) in
    let many = both (nat_le (length dev.logical) 128) (list_all (is_entry dev.table_minor dev.groups) dev.logical) v.logical in
    let sums = summed-by dev.table_minor dev.groups s c super whole (unit-is s good) u.placed c.partitions many.1 in
    record {
      short = w.0;
      few = w.1;
      summed = subst (λ ps. AllByRecursion (λ p. bytes_in (part_extents f.extents.now p) < 2 ^ 64) ps) (sym t.logical) (subst (λ es. AllByRecursion (λ p. bytes_in (part_extents es p) < 2 ^ 64) c.partitions) (sym t.extents) sums);
    }

pub plain-tellable : (layout : LayoutValue) (state : State) (userspace : Bool) (file : List ℕ) (f : Facts) → IsLaid layout → layout.super_part ≡ None → length file ≡ image_size layout → IsTrue (is_state layout.slots state) →
    AreFactsOf layout state None userspace f → AreTellable f
plain-tellable layout state userspace file f laid part long fits t =
    let dev = device_with layout state (physical_at 12288 layout.physical file) no_super in
    let v : IsValid dev = plain_makes_valid layout state file laid part long fits in
    let w = short-whole (started_in userspace dev) (told_device f) (plain-tells layout state userspace file f part long t) (in-mode userspace dev v) in
    record { short = w.0; few = w.1; summed = subst (λ ps. AllByRecursion (λ p. bytes_in (part_extents f.extents.now p) < 2 ^ 64) ps) (sym t.logical) tt }
