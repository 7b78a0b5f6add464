-- What a device says to the host's questions.
use Rattle.std.proofs.Common.{◌≡◌, ℕ, Bool, true, false, not, ◌&&◌, ◌||◌, if◌then◌else◌, List, [], ◌∷◌, ◌++◌, length, map, Option, Some, None, refl, sym, ap, ◌∙◌}
use Rattle.std.specs.Prelude.{option_and_then, nat_le, codes, bytes_eq, flat_map}
use Rattle.std.specs.List.{list_all, list_any}
use Rattle.std.specs.Option.{option_or}
use Rattle.std.specs.Map.{lookup}
use Rattle.std.proofs.lemmas.Slice.Eq.{bytes_eq-Decides}
use Rattle.fb_frame.specs.declared.slot.Slot.TheVariants.{A, B}
use Rattle.fb_frame.specs.NameText.{is_name_byte, is_word}
use Rattle.fb_frame.specs.Numbers.{size_text}
use Rattle.fb_message.proofs.Words.{parts}
use Rattle.dev_model.specs.declared.device.Dev.{Dev}
use Rattle.dev_model.specs.declared.device.Physical.{Physical}
use Rattle.dev_model.specs.declared.device.Logical.{Logical}
use Rattle.dev_model.specs.declared.device.Variable.{Variable}
use Rattle.dev_model.specs.Partitions.{has_slots, is_physical, is_logical, is_userspace}
use Rattle.dev_model.specs.Variables.{Row, value, slotted_name, has_slot, plain_rows, slot_rows, partition_rows, super_row, yes_or_no, with_slots_only}
use Rattle.fb_frame.specs.Slots.{letter}
use Rattle.host_driver.specs.AnswerText.{kind_question}
use Rattle.dev_model.specs.Validity.{IsValid, is_variable, is_value, own_names}

abbrev text_of : List ℕ → List Row → Option (List ℕ)
text_of name rows = lookup (λ n. bytes_eq n name) rows

option_or-none : (o : Option (List ℕ)) → option_or o None ≡ o
option_or-none None = refl
option_or-none (Some x) = refl

bytes_eq-same : (xs ys : List ℕ) → bytes_eq xs ys ≡ true → xs ≡ ys
bytes_eq-same xs ys e = (bytes_eq-Decides xs ys).0 e

second-of-four : (a b c d : Bool) → (a && b && c && d) ≡ true → b ≡ true
second-of-four a b c d e = (parts a b (parts (a && b) c (parts (a && b && c) d e).0).0).1

is_variable-bytes : (v : Variable) → is_variable v ≡ true → list_all is_name_byte v.name ≡ true
is_variable-bytes v good =
    second-of-four (is_word v.name) (list_all is_name_byte v.name) (not (list_any (λ n. bytes_eq n v.name) own_names)) (is_value v.text) good

-- the rows of what the device tells of itself, by whether it has slots
own-rows : Bool → Dev → List Row
own-rows slotted dev =
    (codes "version", codes "0.4")
    ∷ (codes "product", dev.product)
    ∷ (codes "serialno", dev.serial)
    ∷ (codes "secure", yes_or_no dev.locked)
    ∷ (codes "unlocked", yes_or_no (not dev.locked))
    ∷ (if slotted then (codes "current-slot", letter dev.active ∷ []) ∷ [] else [])
    ++ (codes "slot-count", if slotted then codes "2" else codes "0")
    ∷ (codes "max-download-size", size_text dev.max)
    ∷ (codes "is-userspace", yes_or_no (is_userspace dev.mode))
    ∷ super_row dev.super_name

-- the first text that stands in one list or behind it
text-append : (name : List ℕ) (xs ys : List Row) → text_of name (xs ++ ys) ≡ option_or (text_of name xs) (text_of name ys)
text-append name [] ys = refl
text-append name (x ∷ xs) ys = pick (text-append name xs ys) (bytes_eq x.0 name)
  where
    pick : text_of name (xs ++ ys) ≡ option_or (text_of name xs) (text_of name ys) → (b : Bool) → (if b then Some x.1 else text_of name (xs ++ ys)) ≡ option_or (if b then Some x.1 else text_of name xs) (text_of name ys)
    pick more true = refl
    pick more false = more

own-slots : (slotted : Bool) (dev : Dev) → text_of (codes "slot-count") (own-rows slotted dev) ≡ Some (if slotted then codes "2" else codes "0")
unfolding own-rows
own-slots true dev = refl
own-slots false dev = refl

own-size : (slotted : Bool) (dev : Dev) → text_of (codes "max-download-size") (own-rows slotted dev) ≡ Some (size_text dev.max)
unfolding own-rows
own-size true dev = refl
own-size false dev = refl

-- what stands in any of five lists, one behind the other
text-rows : (name : List ℕ) (d v s p l : List Row) →
    text_of name (d ++ v ++ s ++ p ++ l) ≡ option_or (option_or (option_or (option_or (text_of name d) (text_of name v)) (text_of name s)) (text_of name p)) (text_of name l)
text-rows name d v s p l =
    text-append name (d ++ v ++ s ++ p) l
    ∙ ap (λ o. option_or o (text_of name l)) (text-append name (d ++ v ++ s) p
    ∙ ap (λ o. option_or o (text_of name p)) (text-append name (d ++ v) s
    ∙ ap (λ o. option_or o (text_of name s)) (text-append name d v)))

-- the rows of variables of the layout, of the slots, and of partitions
var-rows : Dev → List Row
var-rows dev = map (λ v. (v.name, v.text)) dev.vars

flag-rows : Dev → List Row
flag-rows dev = with_slots_only dev (slot_rows A dev.flags.a ++ slot_rows B dev.flags.b)

physical-rows : List Physical → List Row
physical-rows ps = flat_map (λ p. partition_rows false p.name p.bytes) ps

logical-rows : List Logical → List Row
logical-rows ps = flat_map (λ p. partition_rows true p.name p.bytes) ps

-- the text of a variable that isn't has-slot, by the lists
by-lists : (dev : Dev) (name : List ℕ) → slotted_name name ≡ None →
    value dev name ≡ option_or (option_or (option_or (option_or (text_of name (own-rows (has_slots dev) dev)) (text_of name (var-rows dev))) (text_of name (flag-rows dev))) (text_of name (physical-rows dev.physical))) (text_of name (logical-rows dev.logical))
unfolding value own-rows var-rows flag-rows physical-rows logical-rows
by-lists dev name e =
    ap (λ o. option_or (text_of name (plain_rows dev)) (option_and_then (has_slot dev) o)) e
    ∙ (option_or-none (text_of name (plain_rows dev))
    ∙ text-rows name (own-rows (has_slots dev) dev) (var-rows dev) (flag-rows dev) (physical-rows dev.physical) (logical-rows dev.logical))

-- whether the device has slots
pub slot-count : (dev : Dev) → value dev (codes "slot-count") ≡ Some (if has_slots dev then codes "2" else codes "0")
slot-count dev =
    let name : List ℕ = codes "slot-count" in
    by-lists dev (codes "slot-count") refl
    ∙ ap (λ o. option_or (option_or (option_or (option_or o (text_of (codes "slot-count") (var-rows dev))) (text_of (codes "slot-count") (flag-rows dev))) (text_of (codes "slot-count") (physical-rows dev.physical))) (text_of (codes "slot-count") (logical-rows dev.logical))) (own-slots (has_slots dev) dev)

-- how much it takes at once
pub download-size : (dev : Dev) → value dev (codes "max-download-size") ≡ Some (size_text dev.max)
download-size dev =
    by-lists dev (codes "max-download-size") refl
    ∙ ap (λ o. option_or (option_or (option_or (option_or o (text_of (codes "max-download-size") (var-rows dev))) (text_of (codes "max-download-size") (flag-rows dev))) (text_of (codes "max-download-size") (physical-rows dev.physical))) (text_of (codes "max-download-size") (logical-rows dev.logical))) (own-size (has_slots dev) dev)

-- which slot is active, where there are slots
own-active : (slotted : Bool) (dev : Dev) → slotted ≡ true → text_of (codes "current-slot") (own-rows slotted dev) ≡ Some (letter dev.active ∷ [])
unfolding own-rows
own-active true dev e = refl
own-active false dev e = absurd cc

pub current-slot : (dev : Dev) → has_slots dev ≡ true → value dev (codes "current-slot") ≡ Some (letter dev.active ∷ [])
current-slot dev slotted =
    by-lists dev (codes "current-slot") refl
    ∙ ap (λ o. option_or (option_or (option_or (option_or o (text_of (codes "current-slot") (var-rows dev))) (text_of (codes "current-slot") (flag-rows dev))) (text_of (codes "current-slot") (physical-rows dev.physical))) (text_of (codes "current-slot") (logical-rows dev.logical))) (own-active (has_slots dev) dev slotted)

-- the name of super, which no variable of a layout has
own-super : (slotted : Bool) (dev : Dev) (o : Option (List ℕ)) → dev.super_name ≡ o → text_of (codes "super-partition-name") (own-rows slotted dev) ≡ o
unfolding own-rows
own-super true dev None e = rw e refl
own-super true dev (Some s) e = rw e refl
own-super false dev None e = rw e refl
own-super false dev (Some s) e = rw e refl

third-of-four : (a b c d : Bool) → (a && b && c && d) ≡ true → c ≡ true
third-of-four a b c d e = (parts (a && b) c (parts (a && b && c) d e).0).1

no-super : (v : Variable) → is_variable v ≡ true → bytes_eq v.name (codes "super-partition-name") ≡ false
no-super v good = pick (bytes_eq v.name (codes "super-partition-name")) refl
  where
    free : not (list_any (λ n. bytes_eq n v.name) own_names) ≡ true
    free = third-of-four (is_word v.name) (list_all is_name_byte v.name) (not (list_any (λ n. bytes_eq n v.name) own_names)) (is_value v.text) good

    pick : (b : Bool) → bytes_eq v.name (codes "super-partition-name") ≡ b → b ≡ false
    pick false e = refl
    pick true e =
        let same : v.name ≡ codes "super-partition-name" = bytes_eq-same v.name (codes "super-partition-name") e in
        let k : false ≡ true = sym (ap (λ name. not (list_any (λ n. bytes_eq n name) own_names)) same) ∙ free in
        sym k

var-super : (vars : List Variable) → list_all is_variable vars ≡ true → text_of (codes "super-partition-name") (map (λ v. (v.name, v.text)) vars) ≡ None
var-super [] good = refl
var-super (v ∷ vars) good =
    let both = parts (is_variable v) (list_all is_variable vars) good in
    ap (λ b. if b then Some v.text else text_of (codes "super-partition-name") (map (λ v. (v.name, v.text)) vars)) (no-super v both.0) ∙ var-super vars both.1

flag-super : (slotted : Bool) (dev : Dev) → text_of (codes "super-partition-name") (if slotted then slot_rows A dev.flags.a ++ slot_rows B dev.flags.b else []) ≡ None
flag-super true dev = refl
flag-super false dev = refl

physical-super : (ps : List Physical) → text_of (codes "super-partition-name") (physical-rows ps) ≡ None
unfolding physical-rows
physical-super [] = refl
physical-super (p ∷ ps) = physical-super ps

logical-super : (ps : List Logical) → text_of (codes "super-partition-name") (logical-rows ps) ≡ None
unfolding logical-rows
logical-super [] = refl
logical-super (p ∷ ps) = logical-super ps

first-alone : (o : Option (List ℕ)) → option_or (option_or (option_or (option_or o None) None) None) None ≡ o
first-alone None = refl
first-alone (Some x) = refl

pub super-name : (dev : Dev) → IsValid dev → value dev (codes "super-partition-name") ≡ dev.super_name
unfolding flag-rows var-rows
super-name dev valid =
    let vars = (parts (nat_le (length dev.vars) 64) (list_all is_variable dev.vars) valid.variables).1 in
    by-lists dev (codes "super-partition-name") refl
    ∙ (rw (own-super (has_slots dev) dev dev.super_name refl, var-super dev.vars vars, flag-super (has_slots dev) dev, physical-super dev.physical, logical-super dev.logical) refl
    ∙ first-alone dev.super_name)

own-kind : (slotted : Bool) (dev : Dev) (o : Option (List ℕ)) (name : List ℕ) → dev.super_name ≡ o → text_of (kind_question name) (own-rows slotted dev) ≡ None
unfolding own-rows
own-kind true dev None name e = rw e refl
own-kind true dev (Some s) name e = rw e refl
own-kind false dev None name e = rw e refl
own-kind false dev (Some s) name e = rw e refl

flag-kind : (slotted : Bool) (dev : Dev) (name : List ℕ) → text_of (kind_question name) (if slotted then slot_rows A dev.flags.a ++ slot_rows B dev.flags.b else []) ≡ None
flag-kind true dev name = refl
flag-kind false dev name = refl

-- a question for a kind has a colon, which no variable of a layout has
no-kind : (v : Variable) (name : List ℕ) → is_variable v ≡ true → bytes_eq v.name (kind_question name) ≡ false
no-kind v name good = pick (bytes_eq v.name (kind_question name)) refl
  where
    pick : (b : Bool) → bytes_eq v.name (kind_question name) ≡ b → b ≡ false
    pick false e = refl
    pick true e =
        let same : v.name ≡ kind_question name = bytes_eq-same v.name (kind_question name) e in
        let bytes : list_all is_name_byte v.name ≡ true = is_variable-bytes v good in
        let k : false ≡ true = sym (ap (list_all is_name_byte) same) ∙ bytes in
        sym k

var-kind : (vars : List Variable) (name : List ℕ) → list_all is_variable vars ≡ true → text_of (kind_question name) (map (λ v. (v.name, v.text)) vars) ≡ None
var-kind [] name good = refl
var-kind (v ∷ vars) name good =
    let both = parts (is_variable v) (list_all is_variable vars) good in
    ap (λ b. if b then Some v.text else text_of (kind_question name) (map (λ v. (v.name, v.text)) vars)) (no-kind v name both.0) ∙ var-kind vars name both.1

physical-kind : (ps : List Physical) (name : List ℕ) → text_of (kind_question name) (physical-rows ps) ≡ (if list_any (λ p. bytes_eq p.name name) ps then Some (codes "no") else None)
unfolding physical-rows
physical-kind [] name = refl
physical-kind (p ∷ ps) name = pick (physical-kind ps name) (bytes_eq p.name name)
  where
    pick : text_of (kind_question name) (physical-rows ps) ≡ (if list_any (λ p. bytes_eq p.name name) ps then Some (codes "no") else None) → (b : Bool) → (if b then Some (codes "no") else text_of (kind_question name) (physical-rows ps)) ≡ (if b || list_any (λ p. bytes_eq p.name name) ps then Some (codes "no") else None)
    pick more true = refl
    pick more false = more

logical-kind : (ps : List Logical) (name : List ℕ) → text_of (kind_question name) (logical-rows ps) ≡ (if list_any (λ p. bytes_eq p.name name) ps then Some (codes "yes") else None)
unfolding logical-rows
logical-kind [] name = refl
logical-kind (p ∷ ps) name = pick (logical-kind ps name) (bytes_eq p.name name)
  where
    pick : text_of (kind_question name) (logical-rows ps) ≡ (if list_any (λ p. bytes_eq p.name name) ps then Some (codes "yes") else None) → (b : Bool) → (if b then Some (codes "yes") else text_of (kind_question name) (logical-rows ps)) ≡ (if b || list_any (λ p. bytes_eq p.name name) ps then Some (codes "yes") else None)
    pick more true = refl
    pick more false = more

-- what a device tells of the kind of a partition
abbrev pub kind_text : Dev → List ℕ → Option (List ℕ)
kind_text dev name = option_or (if is_physical dev name then Some (codes "no") else None) (if is_logical dev name then Some (codes "yes") else None)

pub partition-kind : (dev : Dev) (name : List ℕ) → IsValid dev → value dev (kind_question name) ≡ kind_text dev name
unfolding flag-rows var-rows
partition-kind dev name valid =
    let vars = (parts (nat_le (length dev.vars) 64) (list_all is_variable dev.vars) valid.variables).1 in
    by-lists dev (kind_question name) refl
    ∙ rw (own-kind (has_slots dev) dev dev.super_name name refl, var-kind dev.vars name vars, flag-kind (has_slots dev) dev name, physical-kind dev.physical name, logical-kind dev.logical name) refl
