-- How many variables a device tells that there can be.
use Rattle.std.proofs.Common.{◌≡◌, ℕ, suc, ◌+◌, ◌*◌, ◌≤◌, Bool, true, false, cond, Option, Some, None, List, [], ◌∷◌, ◌++◌, length, map, refl, ap, ◌∙◌, arith, length-append}
use Rattle.std.specs.Prelude.{not, nat_le, codes, filter, flat_map, filter_map, bytes_eq, ◌-◌, if◌then◌else◌}
use Rattle.std.specs.List.{list_all, cons_option}
use Rattle.fb_frame.specs.declared.slot.Slot.TheVariants.{A, B}
use Rattle.fb_frame.specs.Slots.{letter}
use Rattle.fb_frame.specs.Numbers.{size_text}
use Rattle.dev_model.specs.declared.device.Dev.{Dev}
use Rattle.dev_model.specs.Partitions.{has_slots, is_userspace}
use Rattle.dev_model.specs.Texts.{RowsFew}
use Rattle.dev_model.specs.Validity.{IsValid, is_variable, is_sized, is_entry}
use Rattle.dev_model.specs.Variables.{Row, yes_or_no, with_slots_only, super_row, device_rows, slot_rows, partition_rows, plain_rows, base_name, first_ones, base_names, has_slot_row, all_rows}
use Rattle.dev_model.proofs.Valid.{both}
use Rattle.dev_model.proofs.ShortTexts.{most}

count-append : {X : Type 0} (m n : ℕ) (xs ys : List X) → length xs ≤ m → length ys ≤ n → length (xs ++ ys) ≤ m + n
count-append m n xs ys h k = omega (arith, h, k, length-append xs ys)

count-map : {X Y : Type 0} (f : X → Y) (xs : List X) → length (map f xs) ≡ length xs
count-map f [] = refl
count-map f (x ∷ xs) = ap suc (count-map f xs)

count-flat : {X : Type 0} (f : X → List Row) (n : ℕ) → ((x : X) → length (f x) ≡ n) → (xs : List X) → length (flat_map f xs) ≡ length xs * n
count-flat f n h [] = omega arith
count-flat f n h (x ∷ xs) =
    let ih = count-flat f n h xs in
    let one = h x in
    length-append (f x) (flat_map f xs) ∙ (ap (λ k. k + length (flat_map f xs)) one ∙ (ap (λ k. n + k) ih ∙ omega arith))

count-either : {X : Type 0} (b : Bool) (x : X) (xs ys : List X) → length ys ≤ length xs → length (cond b (x ∷ ys) ys) ≤ length (x ∷ xs)
count-either true x xs ys h = omega (arith, h)
count-either false x xs ys h = omega (arith, h)

count-filter : {X : Type 0} (q : X → Bool) (xs : List X) → length (filter q xs) ≤ length xs
count-filter q [] = omega arith
count-filter q (x ∷ xs) = count-either (q x) x xs (filter q xs) (count-filter q xs)

count-once : (xs : List (List ℕ)) → length (first_ones xs) ≤ length xs
count-once [] = omega arith
count-once (x ∷ xs) = let f = count-filter (λ y. not (bytes_eq y x)) (first_ones xs) in let ih = count-once xs in omega (arith, f, ih)

count-cons : (o : Option Row) (rows : List Row) → length (cons_option o rows) ≤ 1 + length rows
count-cons None rows = omega arith
count-cons (Some row) rows = omega arith

count-some : (h : List ℕ → Option Row) (xs : List (List ℕ)) → length (filter_map h xs) ≤ length xs
count-some h [] = omega arith
count-some h (x ∷ xs) = let ih = count-some h xs in let c = count-cons (h x) (filter_map h xs) in omega (arith, ih, c)

count-slots : (has : Bool) (rows : List Row) (n : ℕ) → length rows ≤ n → length (cond has rows []) ≤ n
count-slots true rows n h = h
count-slots false rows n h = omega arith

count-super : (o : Option (List ℕ)) → length (super_row o) ≤ 1
count-super None = omega arith
count-super (Some name) = omega arith

device-count : (dev : Dev) → length (device_rows dev) ≤ 10
device-count dev =
    let s = count-super dev.super_name in
    let c = count-slots (has_slots dev) ((codes "current-slot", letter dev.active ∷ []) ∷ []) 1 (omega arith) in
    let a = length-append (with_slots_only dev ((codes "current-slot", letter dev.active ∷ []) ∷ []))
    ((codes "slot-count", if has_slots dev then codes "2" else codes "0") ∷ (codes "max-download-size", size_text dev.max) ∷ (codes "is-userspace", yes_or_no (is_userspace dev.mode)) ∷ super_row dev.super_name) in
    omega (arith, s, c, a)

plain-count : (dev : Dev) → IsValid dev → length (plain_rows dev) ≤ 10 + 64 + 6 + 192 + 3 * length dev.logical
plain-count dev v =
    let device = device-count dev in
    let vars = count-map {Y = Row} (λ x. (x.name, x.text)) dev.vars in
    let most_vars = most (length dev.vars) 64 (both (nat_le (length dev.vars) 64) (list_all is_variable dev.vars) v.variables).0 in
    let slots = count-slots (has_slots dev) (slot_rows A dev.flags.a ++ slot_rows B dev.flags.b) 6 (omega arith) in
    let physical = count-flat (λ p. partition_rows false p.name p.bytes) 3 (λ p. refl) dev.physical in
    let most_physical = most (length dev.physical) 64 (both (nat_le (length dev.physical) 64) (list_all (λ p. is_sized p.bytes) dev.physical) v.physical).0 in
    let logical = count-flat (λ p. partition_rows true p.name p.bytes) 3 (λ p. refl) dev.logical in
    let two = length-append (device_rows dev) (map (λ x. (x.name, x.text)) dev.vars) in
    let three = length-append (device_rows dev ++ map (λ x. (x.name, x.text)) dev.vars) (with_slots_only dev (slot_rows A dev.flags.a ++ slot_rows B dev.flags.b)) in
    let four = length-append (device_rows dev ++ map (λ x. (x.name, x.text)) dev.vars ++ with_slots_only dev (slot_rows A dev.flags.a ++ slot_rows B dev.flags.b)) (flat_map (λ p. partition_rows false p.name p.bytes) dev.physical) in
    let five = length-append (device_rows dev ++ map (λ x. (x.name, x.text)) dev.vars ++ with_slots_only dev (slot_rows A dev.flags.a ++ slot_rows B dev.flags.b) ++ flat_map (λ p. partition_rows false p.name p.bytes) dev.physical) (flat_map (λ p. partition_rows true p.name p.bytes) dev.logical) in
    omega (arith, device, vars, most_vars, slots, physical, most_physical, logical, two, three, four, five)

pub rows_few : RowsFew
unfolding all_rows
rows_few dev v =
    let plain = plain-count dev v in
    let most_physical = most (length dev.physical) 64 (both (nat_le (length dev.physical) 64) (list_all (λ p. is_sized p.bytes) dev.physical) v.physical).0 in
    let most_logical = most (length dev.logical) 128 (both (nat_le (length dev.logical) 128) (list_all (is_entry dev.table_minor dev.groups) dev.logical) v.logical).0 in
    let some = count-some (has_slot_row dev) (base_names dev) in
    let once = count-once (map (base_name dev) (map (λ p. p.name) dev.physical ++ map (λ p. p.name) dev.logical)) in
    let based = count-map (base_name dev) (map (λ p. p.name) dev.physical ++ map (λ p. p.name) dev.logical) in
    let named = length-append (map (λ p. p.name) dev.physical) (map (λ p. p.name) dev.logical) in
    let one = count-map (λ p. p.name) dev.physical in
    let two = count-map (λ p. p.name) dev.logical in
    let both_parts = length-append (plain_rows dev) (filter_map (has_slot_row dev) (base_names dev)) in
    omega (arith, plain, most_physical, most_logical, some, once, based, named, one, two, both_parts)
