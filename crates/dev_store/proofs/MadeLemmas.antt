-- A made image stands for the new device, and nothing is left to repair.
use Rattle.std.proofs.Common.{◌≡◌, ◌∙◌, refl, ap, sym, subst, ℕ, ◌+◌, ◌≤◌, Bool, true, false, ◌||◌, List, [], ◌∷◌, ◌++◌, map, ◌-◌, length, take, drop, Option, Some, None, Ok, nat_le, ◌==◌, if◌then◌else◌, arith, length-append}
use Rattle.std.specs.Prelude.{IsTrue, sum_by}
use Rattle.std.specs.Option.{option_or}
use Rattle.std.specs.Result.{result_ok}
use Rattle.std.proofs.lemmas.List.{take_at, take_all}
use Rattle.std.proofs.lemmas.Bool.Decides.{nat_tests}
use Rattle.sha2.specs.Sha256.{sha256}
use Rattle.sha2.proofs.Facts256.{length-sha256}
use Rattle.fb_frame.specs.Bytes.{zeros}
use Rattle.dev_model.specs.declared.bad_image.BadImage.TheVariants.{ShortFile, BadLayout, BadLength, BadState}
use Rattle.dev_model.specs.Images.{copies}
use Rattle.super_meta.specs.Flaws.{◌then_on◌}
use Rattle.dev_store.specs.declared.layout.PhysicalPart.{PhysicalPart}
use Rattle.dev_store.specs.declared.layout.SuperPart.{SuperPart}
use Rattle.dev_store.specs.Layouts.{LayoutValue, layout_of, layout_in, text_in, parts_end, super_size, image_size}
use Rattle.dev_store.specs.States.{record_head, record_block, record_of, record_in, state_copy, is_state}
use Rattle.dev_store.specs.Stand.{stand, check, or_bad, super_found, super_bytes, super_value, physical_at, device_with, SuperIsAlike, IsAlike, table_in}
use Rattle.dev_store.specs.NewDevice.{filled_up, made_image, super_image, new_table, new_state, new_flags, new_part, new_super, new_device}
use Rattle.dev_store.specs.Laid.{is_good_super}
use Rattle.dev_store.specs.Laws.{MadeStands}
use Rattle.dev_store.proofs.LaidLemmas.{laid_valid}
use Rattle.dev_store.proofs.RecordLemmas.{record_again}
use Rattle.dev_store.proofs.RepairLemmas.{goes-on, found, passes}
use Rattle.dev_store.proofs.MadeText.{text-of, text-again, length-zeros}
use Rattle.dev_store.proofs.MadeParts.{length-filled, twice, behind, part-at, zeros-at}
use Rattle.dev_store.proofs.MadeSuper.{has-numbers, length-super, is-alike, table-there}

-- the state of a new device
pub length-record : (layout : LayoutValue) (unlocked : Bool) → length (record_block 2 (new_state layout unlocked)) ≡ 4096
unfolding record_block record_head
length-record layout unlocked =
    let s = new_state layout unlocked in
    let head : length (record_head 2 s) ≡ 32 = omega (arith, length-zeros 15) in
    omega (arith, head, length-append (record_head 2 s) (sha256 (record_head 2 s) ++ zeros 4032), length-append (sha256 (record_head 2 s)) (zeros 4032), length-sha256 (record_head 2 s), length-zeros 4032)

number-cases : (n : ℕ) → ((n == 0) || (n == 2)) ≡ true → (n == 0) ≡ false → n ≡ 2
number-cases n h k = grind (arith, nat_tests)

zero-is : (n : ℕ) → (n == 0) ≡ true → n ≡ 0
zero-is n h = grind (arith, nat_tests)

state-by : (layout : LayoutValue) (unlocked : Bool) (slots : ℕ) → layout.slots ≡ slots → is_state slots (record (new_state layout unlocked) {
  flags = new_flags slots ∷ new_flags slots ∷ [];
}) ≡ true → is_state layout.slots (new_state layout unlocked) ≡ true
state-by layout unlocked slots e h =
    subst (λ n. is_state n (record (new_state layout unlocked) { flags = new_flags n ∷ new_flags n ∷ [] }) ≡ true) (sym e) h

state-fits : (layout : LayoutValue) (unlocked none : Bool) → ((layout.slots == 0) || (layout.slots == 2)) ≡ true → (layout.slots == 0) ≡ none → IsTrue (is_state layout.slots (new_state layout unlocked))
unfolding is_state
state-fits layout unlocked true h e = state-by layout unlocked 0 (zero-is layout.slots e) refl
state-fits layout unlocked false h e = state-by layout unlocked 2 (number-cases layout.slots h e) refl

-- what lies in a made image, part by part
abbrev block_of : LayoutValue → List ℕ
block_of layout = filled_up 4096 layout.text

abbrev parts_of : LayoutValue → List ℕ
parts_of layout = zeros (sum_by (λ p. p.size) layout.physical)

record HasBlocks (layout : LayoutValue) (block file : List ℕ) : Type 0 where
  pub text : take 4096 file ≡ block_of layout
  pub first : drop 4096 file ≡ block ++ (block ++ (parts_of layout ++ super_image layout.super_part))
  pub second : drop 8192 file ≡ block ++ (parts_of layout ++ super_image layout.super_part)
  pub parts : drop 12288 file ≡ parts_of layout ++ super_image layout.super_part
  pub super : drop (parts_end layout.physical) file ≡ super_image layout.super_part
  pub long : length file ≡ 12288 + sum_by (λ p. p.size) layout.physical + length (super_image layout.super_part)

has-blocks : (layout : LayoutValue) (block : List ℕ) → length layout.text ≤ 4096 → length block ≡ 4096 →
    HasBlocks layout block (block_of layout ++ (copies 2 block ++ (parts_of layout ++ super_image layout.super_part)))
has-blocks layout block short l =
    let text = block_of layout in
    let super = super_image layout.super_part in
    let rest = parts_of layout ++ super in
    let file = text ++ (copies 2 block ++ rest) in
    let sum = sum_by (λ (p : PhysicalPart). p.size) layout.physical in
    let t : length text ≡ 4096 = length-filled 4096 layout.text short in
    let first : drop 4096 file ≡ block ++ (block ++ rest) = behind 0 4096 4096 file text (copies 2 block ++ rest) refl t refl ∙ twice block rest in
    let second : drop 8192 file ≡ block ++ rest = behind 4096 4096 8192 file block (block ++ rest) first l refl in
    let parts : drop 12288 file ≡ rest = behind 8192 4096 12288 file block rest second l refl in
    let two : length (copies 2 block ++ rest) ≡ 4096 + (4096 + length rest) = ap length (twice block rest) ∙ omega (arith, length-append block (block ++ rest), length-append block rest, l) in
    record {
      text = take_at text (copies 2 block ++ rest) 4096 t;
      first = first;
      second = second;
      parts = parts;
      super = behind 12288 sum (parts_end layout.physical) file (parts_of layout) super parts (length-zeros sum) refl;
      long = omega (arith, length-append text (copies 2 block ++ rest), t, two, length-append (parts_of layout) super, length-zeros sum);
    }

made-blocks : (layout : LayoutValue) (unlocked : Bool) → length layout.text ≤ 4096 → HasBlocks layout (record_block 2 (new_state layout unlocked)) (made_image layout unlocked)
unfolding made_image
made-blocks layout unlocked short = has-blocks layout (record_block 2 (new_state layout unlocked)) short (length-record layout unlocked)

-- how long super is, and what is found in it
long-super : (part : Option SuperPart) → IsTrue (is_good_super part) → length (super_image part) ≡ super_size part
long-super None h = refl
long-super (Some s) h = length-super s (has-numbers s h)

super-there : (layout : LayoutValue) (part : Option SuperPart) (file : List ℕ) → IsTrue (is_good_super part) → drop (parts_end layout.physical) file ≡ super_image part →
    super_found layout part file ≡ Ok (new_super part)
unfolding super_found
super-there layout None file h e = refl
super-there layout (Some s) file h e =
    let n = has-numbers s h in
    let whole : super_bytes layout s file ≡ super_image (Some s) = ap (take s.size) e ∙ take_all s.size (super_image (Some s)) (omega (arith, length-super s n)) in
    ap (λ super. table_in layout.physical s super then_on λ c. Ok (super_value s c super)) whole
    ∙ goes-on (table_in layout.physical s (super_image (Some s))) (λ c. Ok (super_value s c (super_image (Some s)))) (new_table s) (table-there layout.physical s n)

super-alike : (layout : LayoutValue) (part : Option SuperPart) (file : List ℕ) → IsTrue (is_good_super part) → drop (parts_end layout.physical) file ≡ super_image part → SuperIsAlike layout part file
super-alike layout None file h e = tt
super-alike layout (Some s) file h e =
    let n = has-numbers s h in
    let whole : super_bytes layout s file ≡ super_image (Some s) = ap (take s.size) e ∙ take_all s.size (super_image (Some s)) (omega (arith, length-super s n)) in
    subst (IsAlike s) (sym whole) (is-alike s n)

-- what is known of a made image
record IsGood (layout : LayoutValue) (unlocked : Bool) (file : List ℕ) : Type 0 where
  pub long : IsTrue (length file == image_size layout)
  pub enough : IsTrue (nat_le 12288 (length file))
  pub laid : layout_in file ≡ Some layout
  pub first : record_of layout.slots (state_copy false file) ≡ Some (2, new_state layout unlocked)
  pub second : record_of layout.slots (state_copy true file) ≡ Some (2, new_state layout unlocked)
  pub super : super_found layout layout.super_part file ≡ Ok (new_super layout.super_part)
  pub physical : physical_at 12288 layout.physical file ≡ map new_part layout.physical
  pub alike : SuperIsAlike layout layout.super_part file

same-if : (a b : ℕ) → a ≡ b → (a == b) ≡ true
same-if a b h = grind (arith, nat_tests)

enough-if : (n : ℕ) → 12288 ≤ n → nat_le 12288 n ≡ true
enough-if n h = grind (arith, nat_tests)

good-image : (text : List ℕ) (layout : LayoutValue) (unlocked : Bool) → layout_of text ≡ Ok layout → IsGood layout unlocked (made_image layout unlocked)
unfolding layout_in
good-image text layout unlocked h =
    let file = made_image layout unlocked in
    let block = record_block 2 (new_state layout unlocked) in
    let l = laid_valid text layout h in
    let t = text-of text layout h in
    let short : length layout.text ≤ 4096 = subst (λ x. length x ≤ 4096) (sym t.same) t.short in
    let b = made-blocks layout unlocked short in
    let size : length file ≡ image_size layout = b.long ∙ ap (λ n. 12288 + sum_by (λ p. p.size) layout.physical + n) (long-super layout.super_part l.super) in
    let again : text_in (take 4096 file) ≡ text = ap text_in (b.text ∙ ap (filled_up 4096) t.same) ∙ text-again text (4096 - length text) t.ended_so in
    let state : record_of layout.slots block ≡ Some (2, new_state layout unlocked) = record_again layout.slots (new_state layout unlocked) (state-fits layout unlocked (layout.slots == 0) l.slots refl) in
    let rest = parts_of layout ++ super_image layout.super_part in
    record {
      long = same-if (length file) (image_size layout) size;
      enough = enough-if (length file) (omega (arith, b.long));
      laid = ap (λ x. result_ok (layout_of x)) again ∙ ap result_ok h;
      first = ap (record_of layout.slots) (part-at 4096 4096 file block (block ++ rest) b.first (length-record layout unlocked)) ∙ state;
      second = ap (record_of layout.slots) (part-at 8192 4096 file block rest b.second (length-record layout unlocked)) ∙ state;
      super = super-there layout layout.super_part file l.super b.super;
      physical = zeros-at 12288 layout.physical file (super_image layout.super_part) b.parts;
      alike = super-alike layout layout.super_part file l.super b.super;
    }

first-of : {X : Type 0} (a b : Option X) (x : X) → a ≡ Some x → option_or a b ≡ Some x
first-of a b x h = subst (λ o. option_or o b ≡ Some x) (sym h) refl

good-stands : (layout : LayoutValue) (unlocked : Bool) (file : List ℕ) → IsGood layout unlocked file → stand file ≡ Ok (new_device layout unlocked)
unfolding stand
good-stands layout unlocked file g =
    let state = new_state layout unlocked in
    goes-on (check ShortFile (nat_le 12288 (length file))) _ tt (passes ShortFile _ g.enough)
    ∙ (goes-on (or_bad BadLayout (layout_in file)) _ layout (found BadLayout _ layout g.laid)
    ∙ (goes-on (check BadLength (length file == image_size layout)) _ tt (passes BadLength _ g.long)
    ∙ (goes-on (or_bad BadState (record_in layout.slots file)) _ (2, state)
    (found BadState _ (2, state) (first-of (record_of layout.slots (state_copy false file)) (record_of layout.slots (state_copy true file)) (2, state) g.first))
    ∙ (goes-on (super_found layout layout.super_part file) _ (new_super layout.super_part) g.super
    ∙ ap (λ parts. Ok (device_with layout state parts (new_super layout.super_part))) g.physical))))

pub made_stands : MadeStands
made_stands text layout unlocked h =
    let file = made_image layout unlocked in
    let g = good-image text layout unlocked h in
    record {
      stands = good-stands layout unlocked file g;
      settled = record { layout = layout; laid = g.laid; state = new_state layout unlocked; first = g.first; second = g.second; super = g.alike };
    }
