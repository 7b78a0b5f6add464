-- The texts of a device that there can be are short.
use Rattle.std.proofs.Common.{◌≡◌, ℕ, ◌+◌, ◌%◌, ◌^◌, ◌<◌, ◌≤◌, Bool, true, false, cond, Option, Some, None, List, [], ◌∷◌, ◌++◌, length, take, map, refl, ap, ◌∙◌, arith, length-append, length-take}
use Rattle.std.specs.Prelude.{◌&&◌, ◌||◌, not, nat_le, nat_lt, ◌==◌, codes, filter, flat_map, filter_map, option_map, option_and_then, option_to_list, bytes_eq, decimal, slice_index, ◌-◌}
use Rattle.std.specs.Option.{option_or}
use Rattle.std.specs.List.{list_all, list_any, cons_option, AllByRecursion}
use Rattle.std.specs.Map.{lookup}
use Rattle.std.specs.Fmt.{digits}
use Rattle.std.proofs.lemmas.Fmt.{length-decimal-le}
use Rattle.std.proofs.lemmas.Bool.Decides.{nat_tests}
use Rattle.fb_frame.specs.declared.slot.Slot.{Slot}
use Rattle.fb_frame.specs.declared.slot.Slot.TheVariants.{A, B}
use Rattle.fb_frame.specs.declared.tables.TableGroup.{TableGroup}
use Rattle.fb_frame.specs.Distinct.{are_distinct}
use Rattle.fb_frame.specs.Versions.{are_attributes}
use Rattle.fb_frame.specs.Slots.{letter, suffix}
use Rattle.fb_frame.specs.NameText.{is_name, is_name_byte, is_word}
use Rattle.fb_frame.specs.Numbers.{size_text}
use Rattle.dev_model.specs.declared.device.Dev.{Dev}
use Rattle.dev_model.specs.declared.device.SlotFlags.{SlotFlags}
use Rattle.dev_model.specs.declared.device.Variable.{Variable}
use Rattle.dev_model.specs.declared.device.Physical.{Physical}
use Rattle.dev_model.specs.declared.device.Logical.{Logical}
use Rattle.dev_model.specs.Partitions.{has_slots, is_userspace, is_partition}
use Rattle.dev_model.specs.Tables.{is_group}
use Rattle.dev_model.specs.Texts.{AreShortRows, TextsShort, RowsShort, ValueShort}
use Rattle.dev_model.specs.Validity.{IsValid, is_between, is_label, is_value, is_variable, own_names, is_whole, is_sized, is_flags, is_blank, is_first, slots_are_good, is_entry, all_names}
use Rattle.dev_model.specs.Variables.{Row, yes_or_no, with_slots_only, super_row, device_rows, slot_rows, partition_rows, plain_rows, has_slot, slotted_name, value, base_name, first_ones, base_names, has_slot_row, all_rows}
use Rattle.dev_model.proofs.Valid.{both, and-true}
use Rattle.dev_model.proofs.DigitLemmas.{digits-short}

fit-append : (xs ys : List Row) → AreShortRows xs → AreShortRows ys → AreShortRows (xs ++ ys)
fit-append [] ys f g = g
fit-append (x ∷ xs) ys f g = (f.0, fit-append xs ys f.1 g)

-- Numbers.
size-short : (n : ℕ) → n < 2 ^ 64 → length (size_text n) ≤ 18
size-short n h =
    let d = digits-short n h in
    omega (arith, d, length-append (codes "0x") (digits 16 true n))

yes-short : (b : Bool) → length (yes_or_no b) ≤ 3
yes-short true = omega arith
yes-short false = omega arith

pub most : (m n : ℕ) → nat_le m n ≡ true → m ≤ n
most m n e = let h : m ≤ n = grind (arith, nat_tests) in h

between-most : (low high n : ℕ) → is_between low high n ≡ true → n ≤ high
between-most low high n e = most n high (both (nat_le low n) (nat_le n high) e).1

label-short : (text : List ℕ) → is_label text ≡ true → length text ≤ 64
label-short text e = between-most 1 64 (length text) (both (is_between 1 64 (length text)) _ e).0

name-short : (text : List ℕ) → is_name text ≡ true → length text ≤ 35
name-short text e = most (length text) 35 (both (nat_le 1 (length text)) (nat_le (length text) 35) (both (nat_le 1 (length text) && nat_le (length text) 35) (list_all is_name_byte text) e).0).1

value-short : (text : List ℕ) → is_value text ≡ true → length text ≤ 128
value-short text e =
    let a = both (is_between 1 128 (length text) && list_all (is_between 0x20 0x7E) text && not (slice_index text 0 == 32)) (not (slice_index text (length text - 1) == 32)) e in
    let b = both (is_between 1 128 (length text) && list_all (is_between 0x20 0x7E) text) (not (slice_index text 0 == 32)) a.0 in
    between-most 1 128 (length text) (both (is_between 1 128 (length text)) (list_all (is_between 0x20 0x7E) text) b.0).0

-- The rows.
slots-only : (has : Bool) (rows : List Row) → AreShortRows rows → AreShortRows (cond has rows [])
slots-only true rows f = f
slots-only false rows f = tt

count-short : (has : Bool) → length (cond has (codes "2") (codes "0")) ≤ 1
count-short true = omega arith
count-short false = omega arith

super-fits : (o : Option (List ℕ)) → list_all is_name (option_to_list o) ≡ true → AreShortRows (super_row o)
super-fits None e = tt
super-fits (Some name) e = (let h = name-short name (both (is_name name) true e).0 in omega (arith, h), tt)

device-fits : (dev : Dev) → length dev.product ≤ 64 → length dev.serial ≤ 64 → dev.max < 2 ^ 64 → list_all is_name (option_to_list dev.super_name) ≡ true → AreShortRows (device_rows dev)
device-fits dev p s m u =
    let l = yes-short dev.locked in
    let n = yes-short (not dev.locked) in
    let c = count-short (has_slots dev) in
    let z = size-short dev.max m in
    let q = yes-short (is_userspace dev.mode) in (
      omega arith,
      (
        omega (arith, p),
        (
          omega (arith, s),
          (
            omega (arith, l),
            (
              omega (arith, n),
              fit-append (with_slots_only dev ((codes "current-slot", letter dev.active ∷ []) ∷ [])) _
                  (slots-only (has_slots dev) ((codes "current-slot", letter dev.active ∷ []) ∷ []) (omega arith, tt))
                  (omega (arith, c), (omega (arith, z), (omega (arith, q), super-fits dev.super_name u))),
            ),
          ),
        ),
      ),
    )

letters-short : (slot : Slot) (text : List ℕ) → length text ≤ 100 → length (text ++ letter slot ∷ []) ≤ 101
letters-short slot text h = omega (arith, h, length-append text (letter slot ∷ []))

slot-fits : (slot : Slot) (flags : SlotFlags) → is_flags flags ≡ true → AreShortRows (slot_rows slot flags)
slot-fits slot flags e =
    let r : length (decimal flags.retries) ≤ 1 = length-decimal-le 1 flags.retries (omega arith) (let h = most flags.retries 7 e in omega (arith, h)) (let h = most flags.retries 7 e in omega (arith, h)) in
    let s = yes-short flags.successful in
    let u = yes-short flags.unbootable in (
      let h = letters-short slot (codes "slot-successful:") (omega arith) in omega (arith, h, s),
      (
        let h = letters-short slot (codes "slot-unbootable:") (omega arith) in omega (arith, h, u),
        (let h = letters-short slot (codes "slot-retry-count:") (omega arith) in omega (arith, h, r), tt),
      ),
    )

variable-length : (v : Variable) → is_variable v ≡ true → (length v.name ≤ 64) × (length v.text ≤ 128)
variable-length v e =
    let one = both (is_word v.name && list_all is_name_byte v.name && not (list_any (λ n. bytes_eq n v.name) own_names)) (is_value v.text) e in
    let n = both (is_word v.name) (list_all is_name_byte v.name) (both (is_word v.name && list_all is_name_byte v.name) _ one.0).0 in
    (most (length v.name) 64 (both (nat_le 1 (length v.name)) (nat_le (length v.name) 64) n.0).1, value-short v.text one.1)

vars-fit : (vars : List Variable) → list_all is_variable vars ≡ true → AreShortRows (map (λ v. (v.name, v.text)) vars)
vars-fit [] e = tt
vars-fit (v ∷ vars) e =
    let parts = both (is_variable v) (list_all is_variable vars) e in
    let l = variable-length v parts.0 in
    (omega (arith, l.0, l.1), vars-fit vars parts.1)

whole-short : (size : ℕ) → is_whole size ≡ true → size < 2 ^ 64
whole-short size e =
    let h = most size (2 ^ 44) (both (size % 4096 == 0) (nat_le size (2 ^ 44)) e).1 in
    omega (arith, h)

partition-fits : (logical : Bool) (name bytes : List ℕ) → is_name name ≡ true → is_whole (length bytes) ≡ true → AreShortRows (partition_rows logical name bytes)
partition-fits logical name bytes e f =
    let n = name-short name e in
    let z = size-short (length bytes) (whole-short (length bytes) f) in
    let y = yes-short logical in
    (omega (arith, n, z, length-append (codes "partition-size:") name), (omega (arith, n, length-append (codes "partition-type:") name), (omega (arith, n, y, length-append (codes "is-logical:") name), tt)))

physical-fit : (ps : List Physical) → list_all is_name (map (λ p. p.name) ps) ≡ true → list_all (λ p. is_sized p.bytes) ps ≡ true → AreShortRows (flat_map (λ p. partition_rows false p.name p.bytes) ps)
physical-fit [] e f = tt
physical-fit (p ∷ ps) e f =
    let n = both (is_name p.name) (list_all is_name (map (λ p. p.name) ps)) e in
    let s = both (is_sized p.bytes) (list_all (λ p. is_sized p.bytes) ps) f in
    fit-append (partition_rows false p.name p.bytes) _
    (partition-fits false p.name p.bytes n.0 (both (is_whole (length p.bytes)) (nat_lt 0 (length p.bytes)) s.0).0) (physical-fit ps n.1 s.1)

logical-fit : (minor : ℕ) (groups : List TableGroup) (ps : List Logical) → list_all is_name (map (λ p. p.name) ps) ≡ true → list_all (is_entry minor groups) ps ≡ true → AreShortRows (flat_map (λ p. partition_rows true p.name p.bytes) ps)
logical-fit minor groups [] e f = tt
logical-fit minor groups (p ∷ ps) e f =
    let n = both (is_name p.name) (list_all is_name (map (λ p. p.name) ps)) e in
    let s = both (is_entry minor groups p) (list_all (is_entry minor groups) ps) f in
    let w = both (is_group groups p.group) (is_whole (length p.bytes)) (both (is_group groups p.group && is_whole (length p.bytes)) (are_attributes minor p.attributes) s.0).0 in
    fit-append (partition_rows true p.name p.bytes) _ (partition-fits true p.name p.bytes n.0 w.1) (logical-fit minor groups ps n.1 s.1)

all-split : (q : List ℕ → Bool) (xs ys : List (List ℕ)) → list_all q (xs ++ ys) ≡ true → (list_all q xs ≡ true) × (list_all q ys ≡ true)
all-split q [] ys e = (refl, e)
all-split q (x ∷ xs) ys e =
    let a = both (q x) (list_all q (xs ++ ys)) e in
    let b = all-split q xs ys a.1 in
    (and-true (q x) (list_all q xs) a.0 b.0, b.1)

blank-flags : (f : SlotFlags) → is_blank f ≡ true → is_flags f ≡ true
blank-flags f e =
    let z = (both (not f.successful && not f.unbootable) (f.retries == 0) e).1 in
    grind (arith, nat_tests)

flags-good : (dev : Dev) → slots_are_good dev ≡ true → (is_flags dev.flags.a ≡ true) × (is_flags dev.flags.b ≡ true)
flags-good dev e = pick (dev.slots == 2 && is_flags dev.flags.a && is_flags dev.flags.b) refl e
  where
    pick : (b : Bool) → (dev.slots == 2 && is_flags dev.flags.a && is_flags dev.flags.b) ≡ b → (b || (dev.slots == 0 && is_first dev.active && is_blank dev.flags.a && is_blank dev.flags.b)) ≡ true → (is_flags dev.flags.a ≡ true) × (is_flags dev.flags.b ≡ true)
    pick true f g =
        let x = both (dev.slots == 2 && is_flags dev.flags.a) (is_flags dev.flags.b) f in
        ((both (dev.slots == 2) (is_flags dev.flags.a) x.0).1, x.1)
    pick false f g =
        let x = both (dev.slots == 0 && is_first dev.active && is_blank dev.flags.a) (is_blank dev.flags.b) g in
        (blank-flags dev.flags.a (both (dev.slots == 0 && is_first dev.active) (is_blank dev.flags.a) x.0).1, blank-flags dev.flags.b x.1)

plain-fit : (dev : Dev) → IsValid dev → AreShortRows (plain_rows dev)
plain-fit dev v =
    let names = (both (list_all is_name (all_names dev)) (are_distinct (all_names dev)) v.names).0 in
    let one = all-split is_name (map (λ p. p.name) dev.physical ++ map (λ p. p.name) dev.logical) (option_to_list dev.super_name) names in
    let two = all-split is_name (map (λ p. p.name) dev.physical) (map (λ p. p.name) dev.logical) one.0 in
    let labels = both (is_label dev.product) (is_label dev.serial) v.labels in
    let flags = flags-good dev v.slots in
    let max = between-most 131072 268435456 dev.max v.download in
    let device = device-fits dev (label-short dev.product labels.0) (label-short dev.serial labels.1) (omega (arith, max)) one.1 in
    let vars = vars-fit dev.vars (both (nat_le (length dev.vars) 64) (list_all is_variable dev.vars) v.variables).1 in
    let slots = slots-only (has_slots dev) (slot_rows A dev.flags.a ++ slot_rows B dev.flags.b)
    (fit-append (slot_rows A dev.flags.a) (slot_rows B dev.flags.b) (slot-fits A dev.flags.a flags.0) (slot-fits B dev.flags.b flags.1)) in
    let physical = physical-fit dev.physical two.0 (both (nat_le (length dev.physical) 64) (list_all (λ p. is_sized p.bytes) dev.physical) v.physical).1 in
    let logical = logical-fit dev.table_minor dev.groups dev.logical two.1 (both (nat_le (length dev.logical) 128) (list_all (is_entry dev.table_minor dev.groups) dev.logical) v.logical).1 in
    let three = fit-append (device_rows dev) (map (λ x. (x.name, x.text)) dev.vars) device vars in
    let four = fit-append (device_rows dev ++ map (λ x. (x.name, x.text)) dev.vars) (with_slots_only dev (slot_rows A dev.flags.a ++ slot_rows B dev.flags.b)) three slots in
    let five = fit-append (device_rows dev ++ map (λ x. (x.name, x.text)) dev.vars ++ with_slots_only dev (slot_rows A dev.flags.a ++ slot_rows B dev.flags.b)) (flat_map (λ p. partition_rows false p.name p.bytes) dev.physical) four physical in
    fit-append (device_rows dev ++ map (λ x. (x.name, x.text)) dev.vars ++ with_slots_only dev (slot_rows A dev.flags.a ++ slot_rows B dev.flags.b) ++ flat_map (λ p. partition_rows false p.name p.bytes) dev.physical)
    (flat_map (λ p. partition_rows true p.name p.bytes) dev.logical) five logical

-- The rows of has-slot.
abbrev AllNames : List (List ℕ) → Type 0
AllNames [] = Unit {0}
AllNames (x ∷ xs) = (length x ≤ 35) × AllNames xs

names-filter : (q : List ℕ → Bool) (xs : List (List ℕ)) → AllNames xs → AllNames (filter q xs)
names-filter q [] a = tt
names-filter q (x ∷ xs) a = step (q x) x (filter q xs) a.0 (names-filter q xs a.1)
  where
    step : (b : Bool) (x : List ℕ) (ys : List (List ℕ)) → length x ≤ 35 → AllNames ys → AllNames (cond b (x ∷ ys) ys)
    step true x ys h a = (h, a)
    step false x ys h a = a

names-once : (xs : List (List ℕ)) → AllNames xs → AllNames (first_ones xs)
names-once [] a = tt
names-once (x ∷ xs) a = (a.0, names-filter (λ y. not (bytes_eq y x)) (first_ones xs) (names-once xs a.1))

base-short : (dev : Dev) (name : List ℕ) → length name ≤ 35 → length (base_name dev name) ≤ 35
base-short dev name h = pick _
  where
    pick : (b : Bool) → length (cond b (take (length name - 2) name) name) ≤ 35
    pick true = omega (arith, h, length-take (length name - 2) name)
    pick false = h

bases-short : (dev : Dev) (xs : List (List ℕ)) → list_all is_name xs ≡ true → AllNames (map (base_name dev) xs)
bases-short dev [] e = tt
bases-short dev (x ∷ xs) e =
    let parts = both (is_name x) (list_all is_name xs) e in
    (base-short dev x (name-short x parts.0), bases-short dev xs parts.1)

has-short : (dev : Dev) (name text : List ℕ) → has_slot dev name ≡ Some text → length text ≤ 3
has-short dev name text e = pick (has_slots dev && (is_partition dev (name ++ suffix A) || is_partition dev (name ++ suffix B))) (is_partition dev name) e
  where
    pick : (b c : Bool) → cond b (Some (codes "yes")) (cond c (Some (codes "no")) None) ≡ Some text → length text ≤ 3
    pick true c f = let g : codes "yes" ≡ text = cc in omega (arith, ap length g)
    pick false true f = let g : codes "no" ≡ text = cc in omega (arith, ap length g)
    pick false false f = absurd cc

has-row-fits : (dev : Dev) (base : List ℕ) → length base ≤ 35 → (o : Option (List ℕ)) → has_slot dev base ≡ o → (rows : List Row) → AreShortRows rows → AreShortRows (cons_option (option_map (λ text. (codes "has-slot:" ++ base, text)) o) rows)
has-row-fits dev base h None e rows f = f
has-row-fits dev base h (Some text) e rows f = (let t = has-short dev base text e in omega (arith, t, h, length-append (codes "has-slot:") base), f)

has-rows-fit : (dev : Dev) (bases : List (List ℕ)) → AllNames bases → AreShortRows (filter_map (has_slot_row dev) bases)
has-rows-fit dev [] a = tt
has-rows-fit dev (base ∷ bases) a = has-row-fits dev base a.0 (has_slot dev base) refl (filter_map (has_slot_row dev) bases) (has-rows-fit dev bases a.1)

pub rows_short : RowsShort
unfolding all_rows
rows_short dev v =
    let names = (both (list_all is_name (all_names dev)) (are_distinct (all_names dev)) v.names).0 in
    let one = all-split is_name (map (λ p. p.name) dev.physical ++ map (λ p. p.name) dev.logical) (option_to_list dev.super_name) names in
    fit-append (plain_rows dev) _ (plain-fit dev v)
    (has-rows-fit dev (base_names dev) (names-once _ (bases-short dev (map (λ p. p.name) dev.physical ++ map (λ p. p.name) dev.logical) one.0)))

-- the text that stands beside the name
abbrev text_of : List ℕ → List Row → Option (List ℕ)
text_of name rows = lookup (λ n. bytes_eq n name) rows

text-short : (name : List ℕ) (rows : List Row) (text : List ℕ) → AreShortRows rows → text_of name rows ≡ Some text → length text ≤ 251
text-short name [] text f e = absurd cc
text-short name (row ∷ rows) text f e = pick (bytes_eq row.0 name) (λ g. text-short name rows text f.1 g) e
  where
    pick : (b : Bool) → (text_of name rows ≡ Some text → length text ≤ 251) → cond b (Some row.1) (text_of name rows) ≡ Some text → length text ≤ 251
    pick true ih g = let h : row.1 ≡ text = cc in omega (arith, f.0, ap length h)
    pick false ih g = ih g

slotted-short : (dev : Dev) (o : Option (List ℕ)) (text : List ℕ) → option_and_then (has_slot dev) o ≡ Some text → length text ≤ 251
slotted-short dev None text e = absurd cc
slotted-short dev (Some name) text e = let h = has-short dev name text e in omega (arith, h)

value-of-short : (dev : Dev) (name : List ℕ) (o : Option (List ℕ)) (text : List ℕ) → IsValid dev → text_of name (plain_rows dev) ≡ o → option_or o (option_and_then (has_slot dev) (slotted_name name)) ≡ Some text → length text ≤ 251
value-of-short dev name None text v e f = slotted-short dev (slotted_name name) text f
value-of-short dev name (Some t) text v e f = text-short name (plain_rows dev) text (plain-fit dev v) (e ∙ f)

pub value_short : ValueShort
unfolding value
value_short dev name text v e = value-of-short dev name (text_of name (plain_rows dev)) text v refl e

-- The texts themselves.
short-names : (names : List (List ℕ)) → list_all is_name names ≡ true → AllByRecursion (λ name. length name ≤ 35) names
short-names [] e = tt
short-names (name ∷ names) e =
    let parts = both (is_name name) (list_all is_name names) e in
    (name-short name parts.0, short-names names parts.1)

short-groups : (groups : List TableGroup) → list_all (λ g. is_name g.name) groups ≡ true → AllByRecursion (λ g. length g.name ≤ 35) groups
short-groups [] e = tt
short-groups (g ∷ groups) e =
    let parts = both (is_name g.name) (list_all (λ x. is_name x.name) groups) e in
    (name-short g.name parts.0, short-groups groups parts.1)

short-variables : (vars : List Variable) → list_all is_variable vars ≡ true → AllByRecursion (λ v. (length v.name ≤ 64) × (length v.text ≤ 128)) vars
short-variables [] e = tt
short-variables (v ∷ vars) e =
    let parts = both (is_variable v) (list_all is_variable vars) e in
    (variable-length v parts.0, short-variables vars parts.1)

pub texts_short : TextsShort
texts_short dev v =
    let labels = both (is_label dev.product) (is_label dev.serial) v.labels in
    let groups = both (nat_le (length dev.groups) 64 && are_distinct (map (λ g. g.name) dev.groups)) (list_all (λ g. is_name g.name) dev.groups) v.groups in
    record {
      product = label-short dev.product labels.0;
      serial = label-short dev.serial labels.1;
      names = short-names (all_names dev) (both (list_all is_name (all_names dev)) (are_distinct (all_names dev)) v.names).0;
      groups = short-groups dev.groups groups.1;
      variables = short-variables dev.vars (both (nat_le (length dev.vars) 64) (list_all is_variable dev.vars) v.variables).1;
    }
