-- What a host reads of the texts that a valid device tells.
use Rattle.std.proofs.Common.{◌≡◌, ◌≤◌, ℕ, Bool, true, false, ◌||◌, nat_le, min, List, [], ◌∷◌, ◌++◌, map, Option, Some, None, refl, ap, ◌∙◌, subst, arith}
use Rattle.std.specs.Prelude.{codes, bytes_eq, option_to_list, if◌then◌else◌}
use Rattle.std.specs.Option.{option_or, option_map_or}
use Rattle.std.specs.List.{list_all}
use Rattle.std.proofs.lemmas.Bool.Decides.{nat_tests}
use Rattle.fb_frame.specs.declared.slot.Slot.{Slot}
use Rattle.fb_frame.specs.declared.slot.Slot.TheVariants.{A, B}
use Rattle.fb_frame.specs.NameText.{is_name}
use Rattle.fb_frame.specs.Numbers.{size_text}
use Rattle.fb_frame.specs.Slots.{letter}
use Rattle.fb_frame.specs.Distinct.{are_distinct}
use Rattle.fb_message.proofs.Words.{parts}
use Rattle.dev_model.specs.declared.device.Dev.{Dev}
use Rattle.dev_model.specs.Partitions.{has_slots, is_physical, is_logical}
use Rattle.dev_model.specs.Validity.{IsValid, all_names}
use Rattle.dev_model.specs.Variables.{value}
use Rattle.flash_plan.specs.Facts.{kind_of}
use Rattle.host_driver.specs.AnswerText.{slots_read, slot_read, active_read, max_read, super_read, kind_read, kind_question}
use Rattle.host_driver.specs.HeardLast.{is_answer}
use Rattle.host_driver.specs.SizeText.{download_size, size_read, size_bounded}
use Rattle.host_driver.proofs.SizeLemmas.{size-again}
use Rattle.host_driver.proofs.VariableLemmas.{slot-count, download-size, partition-kind, current-slot, super-name}

-- whether there are slots
pub slots-agree : (dev : Dev) → IsValid dev → slots_read (value dev (codes "slot-count")) ≡ Some (has_slots dev)
slots-agree dev valid = ap slots_read (slot-count dev) ∙ pick (has_slots dev)
  where
    pick : (b : Bool) → slots_read (Some (if b then codes "2" else codes "0")) ≡ Some b
    pick true = refl
    pick false = refl

-- the active slot
pub active-agrees : (dev : Dev) → has_slots dev ≡ true → active_read (value dev (codes "current-slot")) ≡ Some dev.active
active-agrees dev slotted = ap active_read (current-slot dev slotted) ∙ pick dev.active
  where
    pick : (slot : Slot) → slot_read (letter slot ∷ []) ≡ Some slot
    pick A = refl
    pick B = refl

-- the kind of a partition
pub kinds-agree : (name : List ℕ) (dev : Dev) → IsValid dev → kind_read (value dev (kind_question name)) ≡ Some (kind_of dev name)
kinds-agree name dev valid = ap kind_read (partition-kind dev name valid) ∙ pick (is_physical dev name) (is_logical dev name)
  where
    pick : (p l : Bool) → kind_read (option_or (if p then Some (codes "no") else None) (if l then Some (codes "yes") else None)) ≡ Some (if p then Some false else (if l then Some true else None))
    pick true l = refl
    pick false true = refl
    pick false false = refl

-- how much a valid device takes in one download
max-agrees : (dev : Dev) → IsValid dev → download_size (size_text dev.max) ≡ Some dev.max
max-agrees dev valid =
    let both = parts (nat_le 131072 dev.max) (nat_le dev.max 268435456) valid.download in
    let low : 131072 ≤ dev.max = grind (arith, nat_tests, both.0) in
    let high : dev.max ≤ 268435456 = grind (arith, nat_tests, both.1) in
    size-again dev.max low high

pub most-agrees : (dev : Dev) → IsValid dev → max_read (value dev (codes "max-download-size")) ≡ Some dev.max
most-agrees dev valid = ap max_read (download-size dev) ∙ max-agrees dev valid

pub most-read : (line : List ℕ) (dev : Dev) → IsValid dev → Some line ≡ value dev (codes "max-download-size") → download_size line ≡ Some dev.max
most-read line dev valid e = ap max_read e ∙ most-agrees dev valid

-- the name of super
last-name : (xs ys : List (List ℕ)) (name : List ℕ) → list_all is_name (xs ++ ys ++ name ∷ []) ≡ true → is_name name ≡ true
last-name [] [] name e = (parts (is_name name) true e).0
last-name [] (y ∷ ys) name e = last-name [] ys name (parts (is_name y) (list_all is_name (ys ++ name ∷ [])) e).1
last-name (x ∷ xs) ys name e = last-name xs ys name (parts (is_name x) (list_all is_name (xs ++ ys ++ name ∷ [])) e).1

pub super-agrees : (dev : Dev) → IsValid dev → super_read (value dev (codes "super-partition-name")) ≡ Some dev.super_name
super-agrees dev valid = ap super_read (super-name dev valid) ∙ pick dev.super_name refl
  where
    names : list_all is_name (all_names dev) ≡ true
    names = (parts (list_all is_name (all_names dev)) (are_distinct (all_names dev)) valid.names).0

    pick : (o : Option (List ℕ)) → dev.super_name ≡ o → super_read o ≡ Some o
    pick None e = refl
    pick (Some name) e =
        let listed : list_all is_name (map (λ p. p.name) dev.physical ++ map (λ p. p.name) dev.logical ++ name ∷ []) ≡ true = subst (λ o. list_all is_name (map (λ p. p.name) dev.physical ++ map (λ p. p.name) dev.logical ++ option_to_list o) ≡ true) e names in
        ap (λ b. if b then Some (Some name) else None) (last-name (map (λ p. p.name) dev.physical) (map (λ p. p.name) dev.logical) name listed)

-- A text of which nothing is read is no answer to the question.
pub slots-other : (text : List ℕ) → slots_read (Some text) ≡ None → is_answer (codes "slot-count") text ≡ false
slots-other text e = by (bytes_eq text (codes "2")) (bytes_eq text (codes "0")) e
  where
    by : (two none : Bool) → (if two then Some true else (if none then Some false else None)) ≡ None → (none || two) ≡ false
    by true none e = absurd cc
    by false true e = absurd cc
    by false false e = refl

pub active-other : (text : List ℕ) → slot_read text ≡ None → is_answer (codes "current-slot") text ≡ false
active-other text e = by (bytes_eq text (codes "a")) (bytes_eq text (codes "_a")) (bytes_eq text (codes "b")) (bytes_eq text (codes "_b")) e
  where
    by : (a xa b xb : Bool) → (if a || xa then Some A else (if b || xb then Some B else None)) ≡ None → (a || (b || (xa || (xb || false)))) ≡ false
    by true xa b xb e = absurd cc
    by false true b xb e = absurd cc
    by false false true xb e = absurd cc
    by false false false true e = absurd cc
    by false false false false e = refl

pub most-other : (text : List ℕ) → download_size text ≡ None → is_answer (codes "max-download-size") text ≡ false
most-other text e = by (size_read text) e
  where
    enough : (b : Bool) (n : ℕ) → (if b then Some (min n 268435456) else None) ≡ None → b ≡ false
    enough true n e = absurd cc
    enough false n e = refl

    by : (o : Option ℕ) → size_bounded o ≡ None → option_map_or (nat_le 131072) o false ≡ false
    by None e = refl
    by (Some n) e = enough (nat_le 131072 n) n e

pub super-other : (text : List ℕ) → super_read (Some text) ≡ None → is_answer (codes "super-partition-name") text ≡ false
super-other text e = by (is_name text) e
  where
    by : (b : Bool) → (if b then Some (Some text) else None) ≡ None → b ≡ false
    by true e = absurd cc
    by false e = refl

pub kind-other : (name text : List ℕ) → kind_read (Some text) ≡ None → is_answer (kind_question name) text ≡ false
kind-other name text e = by (bytes_eq text (codes "yes")) (bytes_eq text (codes "no")) e
  where
    by : (yes not : Bool) → (if yes then Some (Some true) else (if not then Some (Some false) else None)) ≡ None → (yes || not) ≡ false
    by true not e = absurd cc
    by false true e = absurd cc
    by false false e = refl
