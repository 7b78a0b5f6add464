-- How long the image of a layout is at most.
use Rattle.std.proofs.Common.{◌≡◌, ℕ, ◌^◌, ◌≤◌, true, List, length, Some, None, Ok, arith, Option, ap, subst}
use Rattle.std.specs.Prelude.{◌&&◌, nat_le, IsTrue, ◌==◌, ◌%◌}
use Rattle.std.specs.List.{list_all}
use Rattle.std.specs.Option.{option_map_or}
use Rattle.dev_model.specs.Validity.{is_between}
use Rattle.std.proofs.lemmas.Bool.Decides.{nat_tests}
use Rattle.dev_model.proofs.Valid.{both}
use Rattle.dev_store.specs.declared.entries.Entry.TheVariants.{SuperLine}
use Rattle.dev_store.specs.declared.layout.SuperPart.{SuperPart}
use Rattle.fb_frame.specs.NameText.{is_name}
use Rattle.dev_store.specs.LayoutLines.{is_size, is_sized, has_room}
use Rattle.dev_store.specs.Layouts.{LayoutValue, layout_of}
use Rattle.dev_store.specs.Laid.{is_good_super}
use Rattle.dev_store.proofs.LaidLemmas.{laid_valid}

pub parts-few : (text : List ℕ) (layout : LayoutValue) → layout_of text ≡ Ok layout → length layout.physical ≤ 64
parts-few text layout h =
    let laid = laid_valid text layout h in
    let few = (both (nat_le (length layout.physical) 64) (list_all (λ p. is_size p.size) layout.physical) laid.physical).0 in
    grind (arith, nat_tests, few)

pub parts-sized : (text : List ℕ) (layout : LayoutValue) → layout_of text ≡ Ok layout → IsTrue (list_all (λ p. is_size p.size) layout.physical)
parts-sized text layout h =
    let laid = laid_valid text layout h in
    (both (nat_le (length layout.physical) 64) (list_all (λ p. is_size p.size) layout.physical) laid.physical).1

size-bound : (n : ℕ) → is_size n ≡ true → n ≤ 2 ^ 44
size-bound n h = grind (arith, nat_tests)

good-bound : (o : Option SuperPart) (s : SuperPart) → o ≡ Some s → is_good_super o ≡ true → s.size ≤ 2 ^ 44
good-bound None s e h = absurd cc
good-bound (Some t) s e h =
    let sized = (both (is_name t.name) (is_sized (SuperLine t)) (both (is_name t.name && is_sized (SuperLine t)) (has_room (SuperLine t)) h).0).1 in
    let four = (both (is_size t.size && t.unit % 4096 == 0 && is_between 4096 (2 ^ 30) t.unit && t.max_size % 512 == 0 && nat_le t.max_size 126976) (is_between 1 4 t.slots) sized).0 in
    let three = (both (is_size t.size && t.unit % 4096 == 0 && is_between 4096 (2 ^ 30) t.unit && t.max_size % 512 == 0) (nat_le t.max_size 126976) four).0 in
    let two = (both (is_size t.size && t.unit % 4096 == 0 && is_between 4096 (2 ^ 30) t.unit) (t.max_size % 512 == 0) three).0 in
    let one = (both (is_size t.size && t.unit % 4096 == 0) (is_between 4096 (2 ^ 30) t.unit) two).0 in
    let size = (both (is_size t.size) (t.unit % 4096 == 0) one).0 in
    let same : t.size ≡ s.size = ap (λ o. option_map_or (λ p. p.size) o 0) e in
    subst (λ n. n ≤ 2 ^ 44) same (size-bound t.size size)

pub super-bounded : (text : List ℕ) (layout : LayoutValue) (s : SuperPart) → layout_of text ≡ Ok layout → layout.super_part ≡ Some s → s.size ≤ 2 ^ 44
super-bounded text layout s h e = good-bound layout.super_part s e (laid_valid text layout h).super
