-- A file without super stands for devices that there can be.
use Rattle.std.proofs.Common.{◌≡◌, ◌∙◌, refl, ap, sym, subst, ℕ, suc, ◌+◌, ◌≤◌, Bool, true, false, not, ◌&&◌, ◌||◌, List, [], ◌∷◌, ◌++◌, map, length, take, drop, sum_by, Option, Some, None, Result, Ok, Err, inl, inr, ◌==◌, if◌then◌else◌, arith}
use Rattle.std.specs.Prelude.{◌⊎◌, nat_le}
use Rattle.std.specs.Option.{option_or}
use Rattle.std.specs.List.{list_all}
use Rattle.std.specs.Result.{result_ok}
use Rattle.std.proofs.lemmas.List.{length-take-le, length-drop}
use Rattle.std.proofs.lemmas.List.Sums.{sum_by-cons}
use borrow.Author.Tests.{eqb-true}
use Rattle.fb_frame.specs.NameText.{is_name}
use Rattle.fb_frame.specs.declared.slot.Slot.{Slot}
use Rattle.dev_model.specs.declared.bad_image.BadImage.{BadImage}
use Rattle.dev_model.specs.declared.device.SlotFlags.{SlotFlags}
use Rattle.fb_frame.specs.Distinct.{are_distinct}
use Rattle.dev_model.specs.Validity.{IsValid, is_flags, is_blank, is_first, is_sized}
use Rattle.dev_model.proofs.Valid.{both, and-true}
use Rattle.dev_store.specs.declared.layout.LayoutError.{LayoutError}
use Rattle.dev_store.specs.declared.layout.PhysicalPart.{PhysicalPart}
use Rattle.dev_store.specs.declared.layout.SuperPart.{SuperPart}
use Rattle.dev_store.specs.declared.state.State.{State}
use Rattle.dev_store.specs.LayoutLines.{is_size}
use Rattle.dev_store.specs.Layouts.{LayoutValue, layout_of, layout_in, text_in, image_size}
use Rattle.dev_store.specs.States.{state_at, is_state, is_record, record_of, both_flags}
use Rattle.dev_store.specs.Stand.{SuperValue, no_super, super_found, physical_at, device_with}
use Rattle.dev_store.specs.Laid.{IsLaid}
use Rattle.dev_store.proofs.LaidLemmas.{laid_valid}

ok-there : (r : Result LayoutValue LayoutError) (l : LayoutValue) → result_ok r ≡ Some l → r ≡ Ok l
ok-there (Ok x) l h = cc
ok-there (Err e) l h = absurd cc

pub laid-in : (file : List ℕ) (layout : LayoutValue) → layout_in file ≡ Some layout → IsLaid layout
unfolding layout_in
laid-in file layout h = laid_valid (text_in (take 4096 file)) layout (ok-there (layout_of (text_in (take 4096 file))) layout h)

-- a record that is read has a state of the device
some-pair : (a b : ℕ × State) → Some a ≡ Some b → a.1 ≡ b.1
some-pair a b h = by (Some a) refl h where
  by : (o : Option (ℕ × State)) → o ≡ Some a → o ≡ Some b → a.1 ≡ b.1
  by None k l = absurd cc
  by (Some c) k l = cc

state-fits : (slots version : ℕ) (block : List ℕ) → is_record slots version block ≡ true → is_state slots (state_at block) ≡ true
unfolding is_record
state-fits slots version block h =
    let a = both (is_state slots (state_at block) && (version == 2 || not (state_at block).userspace)) _ h in
    (both (is_state slots (state_at block)) (version == 2 || not (state_at block).userspace) a.0).0

abbrev as-record : ℕ → State → Option (ℕ × State)
as-record version state = Some (version, state)

pub record-fits : (slots version : ℕ) (state : State) (block : List ℕ) → record_of slots block ≡ Some (version, state) → is_state slots state ≡ true
unfolding record_of
record-fits slots version state block h = by (is_record slots 2 block) (is_record slots 1 block) refl refl h where
  by : (a b : Bool) → is_record slots 2 block ≡ a → is_record slots 1 block ≡ b → (if a then as-record 2 (state_at block) else (if b then as-record 1 (state_at block) else None)) ≡ Some (version, state) →
      is_state slots state ≡ true
  by true b e f k = subst (λ s. is_state slots s ≡ true) (some-pair (2, state_at block) (version, state) k) (state-fits slots 2 block e)
  by false true e f k = subst (λ s. is_state slots s ≡ true) (some-pair (1, state_at block) (version, state) k) (state-fits slots 1 block f)
  by false false e f k = absurd cc

pub or-fits : (slots version : ℕ) (state : State) (first second : List ℕ) → option_or (record_of slots first) (record_of slots second) ≡ Some (version, state) → is_state slots state ≡ true
or-fits slots version state first second h = by (record_of slots first) refl h where
  by : (o : Option (ℕ × State)) → record_of slots first ≡ o → option_or o (record_of slots second) ≡ Some (version, state) → is_state slots state ≡ true
  by None e k = record-fits slots version state second k
  by (Some found) e k = record-fits slots version state first (e ∙ k)

or-cases : (a b : Bool) → (a || b) ≡ true → (a ≡ true) ⊎ (b ≡ true)
or-cases true b h = inl refl
or-cases false b h = inr h

or-first : (a b : Bool) → a ≡ true → (a || b) ≡ true
or-first a b h = ap (λ t. t || b) h

or-second : (a b : Bool) → b ≡ true → (a || b) ≡ true
or-second true b h = refl
or-second false b h = h

abbrev flags-good : ℕ → Slot → SlotFlags → SlotFlags → Bool
flags-good slots active f g = (slots == 2 && is_flags f && is_flags g) || (slots == 0 && is_first active && is_blank f && is_blank g)

two-good : (slots : ℕ) (active : Slot) (f g : SlotFlags) →
    ((slots == 2 && list_all is_flags (f ∷ g ∷ [])) || (slots == 0 && is_first active && list_all is_blank (f ∷ g ∷ []))) ≡ true → flags-good slots active f g ≡ true
two-good slots active f g h = by (or-cases _ _ h) where
  by : ((slots == 2 && list_all is_flags (f ∷ g ∷ [])) ≡ true) ⊎ ((slots == 0 && is_first active && list_all is_blank (f ∷ g ∷ [])) ≡ true) → flags-good slots active f g ≡ true
  by (inl k) =
      let a = both (slots == 2) _ k in
      let b = both (is_flags f) _ a.1 in
      let c = both (is_flags g) true b.1 in
      or-first _ _ (and-true _ _ (and-true _ _ a.0 b.0) c.0)
  by (inr k) =
      let a = both (slots == 0 && is_first active) _ k in
      let b = both (is_blank f) _ a.1 in
      let c = both (is_blank g) true b.1 in
      or-second _ _ (and-true _ _ (and-true _ _ a.0 b.0) c.0)

pub slots-fit : (slots : ℕ) (locked : Bool) (active : Slot) (flags : List SlotFlags) (userspace : Bool) →
    is_state slots (record { locked = locked; active = active; flags = flags; userspace = userspace }) ≡ true →
    flags-good slots active (both_flags flags).a (both_flags flags).b ≡ true
unfolding is_state
slots-fit slots locked active [] userspace h = absurd cc
slots-fit slots locked active (f ∷ []) userspace h = absurd cc
slots-fit slots locked active (f ∷ g ∷ []) userspace h = two-good slots active f g h
slots-fit slots locked active (f ∷ g ∷ k ∷ rest) userspace h =
    let long : length (f ∷ g ∷ k ∷ rest) ≡ 2 = eqb-true (length (f ∷ g ∷ k ∷ rest)) 2 (both (length (f ∷ g ∷ k ∷ rest) == 2) _ h).0 in
    absurd (omega (arith, long))

-- the physical partitions are the layout's, with as many bytes
pub names-same : (place : ℕ) (parts : List PhysicalPart) (file : List ℕ) → map (λ p. p.name) (physical_at place parts file) ≡ map (λ p. p.name) parts
names-same place [] file = refl
names-same place (p ∷ parts) file = ap (λ rest. p.name ∷ rest) (names-same (place + p.size) parts file)

pub count-same : (place : ℕ) (parts : List PhysicalPart) (file : List ℕ) → length (physical_at place parts file) ≡ length parts
count-same place [] file = refl
count-same place (p ∷ parts) file = ap suc (count-same (place + p.size) parts file)

pub range-long : (place size : ℕ) (file : List ℕ) → place + size ≤ length file → length (take size (drop place file)) ≡ size
range-long place size file h = let d = length-drop place file in length-take-le size (drop place file) (omega arith)

pub sizes-fit : (place : ℕ) (parts : List PhysicalPart) (file : List ℕ) → place + sum_by (λ p. p.size) parts ≤ length file → list_all (λ p. is_size p.size) parts ≡ true →
    list_all (λ p. is_sized p.bytes) (physical_at place parts file) ≡ true
sizes-fit place [] file h k = refl
sizes-fit place (p ∷ parts) file h k =
    let parts-good = both (is_size p.size) _ k in
    let more = sum_by-cons (λ (q : PhysicalPart). q.size) p parts in
    and-true (is_sized (take p.size (drop place file))) _ (ap is_size (range-long place p.size file (omega arith)) ∙ parts-good.0)
    (sizes-fit (place + p.size) parts file (omega arith) parts-good.1)

pub all-mapped : (parts : List PhysicalPart) → list_all (λ p. is_name p.name) parts ≡ true → list_all is_name (map (λ p. p.name) parts) ≡ true
all-mapped [] h = refl
all-mapped (p ∷ parts) h = let b = both (is_name p.name) _ h in and-true (is_name p.name) _ b.0 (all-mapped parts b.1)

nothing-behind : (xs : List (List ℕ)) → xs ++ [] ≡ xs
nothing-behind [] = refl
nothing-behind (x ∷ xs) = ap (λ rest. x ∷ rest) (nothing-behind xs)

abbrev pub plain : LayoutValue → LayoutValue
plain layout = record layout { super_part = None }

pub plain-valid : (layout : LayoutValue) (state : State) (file : List ℕ) → IsLaid (plain layout) → is_state layout.slots state ≡ true → length file ≡ image_size (plain layout) →
    IsValid (device_with (plain layout) state (physical_at 12288 layout.physical file) no_super)
plain-valid layout state file l s long =
    let parts = physical_at 12288 layout.physical file in
    let names : (map (λ p. p.name) parts ++ []) ++ [] ≡ map (λ p. p.name) layout.physical =
    nothing-behind (map (λ p. p.name) parts ++ []) ∙ (nothing-behind (map (λ p. p.name) parts) ∙ names-same 12288 layout.physical file) in
    let own : are_distinct (map (λ p. p.name) layout.physical) ≡ true = ap are_distinct (sym (nothing-behind (map (λ p. p.name) layout.physical))) ∙ l.names in
    let size = both (nat_le (length layout.physical) 64) _ l.physical in
    let vars = both (nat_le (length layout.vars) 64) _ l.variables in
    record {
      names = ap (λ ns. list_all is_name ns && are_distinct ns) names ∙ and-true _ _ (all-mapped layout.physical l.physical_names) own;
      labels = l.labels;
      variables = l.variables;
      variable_names = l.variable_names;
      slots = slots-fit layout.slots state.locked state.active state.flags state.userspace s;
      download = l.download;
      physical = and-true _ _ (ap (λ n. nat_le n 64) (count-same 12288 layout.physical file) ∙ size.0) (sizes-fit 12288 layout.physical file (omega (arith, long)) size.1);
      groups = refl;
      logical = refl;
      version = refl;
      units_fit = refl;
      groups_fit = refl;
      super = refl;
    }

pub no-super : (layout : LayoutValue) (part : Option SuperPart) (file : List ℕ) (super : SuperValue) → part ≡ None → super_found layout part file ≡ Ok super → super ≡ no_super
unfolding super_found
no-super layout None file super e h = by (super_found layout None file) refl h where
  by : (r : Result SuperValue BadImage) → r ≡ Ok no_super → r ≡ Ok super → super ≡ no_super
  by (Ok x) k l = cc
  by (Err b) k l = absurd cc
no-super layout (Some s) file super e h = absurd cc
