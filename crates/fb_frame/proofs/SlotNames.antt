-- A slot's partition has a name.
use Rattle.std.proofs.Common.{◌≡◌, ℕ, ◌+◌, ◌≤◌, Bool, true, List, ◌++◌, length, refl, arith, length-append}
use Rattle.std.specs.Prelude.{◌&&◌, nat_le}
use Rattle.std.specs.List.{list_all}
use Rattle.std.proofs.lemmas.Bool.{and_parts}
use Rattle.std.proofs.lemmas.Bool.Decides.{nat_tests}
use Rattle.std.proofs.lemmas.List.Folds.{list_all-append}
use Rattle.fb_frame.specs.declared.slot.Slot.{Slot}
use Rattle.fb_frame.specs.declared.slot.Slot.TheVariants.{A, B}
use Rattle.fb_frame.specs.NameText.{is_name_byte, IsName}
use Rattle.fb_frame.specs.Slots.{suffix}

suffix-bytes : (slot : Slot) → list_all is_name_byte (suffix slot) ≡ true
suffix-bytes A = refl
suffix-bytes B = refl

all-three : (a b c : Bool) → a ≡ true → b ≡ true → c ≡ true → (a && b && c) ≡ true
all-three a b c d e f = rw (d, e, f) refl

pub suffix-name : (name : List ℕ) (slot : Slot) → IsName name → length name + 2 ≤ 35 → IsName (name ++ suffix slot)
suffix-name name slot h l =
    let three = and_parts (nat_le 1 (length name) && nat_le (length name) 35) (list_all is_name_byte name) h in
    let two = and_parts (nat_le 1 (length name)) (nat_le (length name) 35) three.0 in
    let some = two.0 in
    let long = length-append name (suffix slot) in
    all-three (nat_le 1 (length (name ++ suffix slot))) (nat_le (length (name ++ suffix slot)) 35) (list_all is_name_byte (name ++ suffix slot))
    (grind (arith, nat_tests)) (grind (arith, nat_tests)) (rw (list_all-append is_name_byte name (suffix slot), three.1, suffix-bytes slot) refl)

pub ruleset slot_names = (suffix-name)
