-- The form of a line by the word that it begins with.
use Rattle.std.proofs.Common.{◌≡◌, ◌∙◌, refl, ap, sym, subst, ℕ, Bool, true, false, List, [], ◌∷◌, length, drop, Option, Some, None, Result, if◌then◌else◌, option_map, arith}
use Rattle.std.specs.Prelude.{nat_eq, codes}
use Rattle.std.specs.Option.{option_or}
use Rattle.std.specs.List.{starts_with, slice_split}
use Rattle.std.proofs.lemmas.Bool.Decides.{nat_tests}
use Rattle.dev_model.proofs.Valid.{both}
use Rattle.dev_store.specs.declared.entries.Entry.{Entry}
use Rattle.dev_store.specs.declared.entries.Entry.TheVariants.{ProductLine, SerialLine, SlotsLine, DownloadLine}
use Rattle.dev_store.specs.declared.layout_line.LineError.{LineError}
use Rattle.dev_store.specs.LayoutLines.{entry_of, behind, label_of, number_of, variable_of, partition_of, super_of, at_space, is_space}
use Rattle.dev_store.specs.LineReading.{IsRead}

same-number : (x a : ℕ) → nat_eq x a ≡ true → a ≡ x
same-number x a h = grind (arith, nat_tests)

-- a line that begins with a word of two bytes or more begins with them
opens : (x y : ℕ) (word line : List ℕ) → starts_with nat_eq line (x ∷ y ∷ word) ≡ true → (rest : List ℕ) × (line ≡ x ∷ y ∷ rest)
opens x y word [] h = absurd cc
opens x y word (a ∷ []) h = absurd (let k = (both (nat_eq x a) false h).1 in cc)
opens x y word (a ∷ b ∷ rest) h =
    let first = both (nat_eq x a) _ h in
    let second = both (nat_eq y b) _ first.1 in
    let e = same-number x a first.0 in
    let f = same-number y b second.0 in
    (rest, ap (λ n. n ∷ b ∷ rest) e ∙ ap (λ n. x ∷ n ∷ rest) f)

-- of several words the one that fits
only : (t : Bool) (o : Option Entry) → t ≡ true → option_or (if t then o else None) None ≡ o
only true None h = refl
only true (Some e) h = refl
only false o h = absurd cc

last : (t : Bool) (o : Option Entry) → t ≡ true → (if t then o else None) ≡ o
last true o h = refl
last false o h = absurd cc

-- what a word leaves of the line
left : (t : Bool) (text rest : List ℕ) → Some text ≡ (if t then Some rest else None) → (t ≡ true) × (text ≡ rest)
left true text rest e = (refl, cc)
left false text rest e = absurd cc

unfit : (t : Bool) (rest : List ℕ) → (let o : Option (List ℕ) = None in o ≡ (if t then Some rest else None)) → t ≡ false
unfit true rest e = absurd cc
unfit false rest e = refl

product-at : (line : List ℕ) → starts_with nat_eq line (codes "product ") ≡ true → entry_of line ≡ option_map ProductLine (label_of (drop (length (codes "product ")) line))
unfolding entry_of
product-at line h = let o = opens 112 114 (codes "oduct ") line h in
    subst (λ l. starts_with nat_eq l (codes "product ") ≡ true → entry_of l ≡ option_map ProductLine (label_of (drop (length (codes "product ")) l))) (sym o.1)
    (λ k. only (starts_with nat_eq (112 ∷ 114 ∷ o.0) (codes "product ")) _ k) h

pub product-line : (line text : List ℕ) (r : Result Entry LineError) → Some text ≡ (if starts_with nat_eq line (codes "product ") then Some (drop (length (codes "product ")) line) else None) →
    IsRead (option_map ProductLine (label_of (text))) r → IsRead (entry_of line) r
product-line line text r e h =
    let f = left (starts_with nat_eq line (codes "product ")) text _ e in
    subst (λ o. IsRead o r) (ap (λ t. option_map ProductLine (label_of (t))) f.1 ∙ sym (product-at line f.0)) h

serial-at : (line : List ℕ) → starts_with nat_eq line (codes "serialno ") ≡ true → entry_of line ≡ option_map SerialLine (label_of (drop (length (codes "serialno ")) line))
unfolding entry_of
serial-at line h = let o = opens 115 101 (codes "rialno ") line h in
    subst (λ l. starts_with nat_eq l (codes "serialno ") ≡ true → entry_of l ≡ option_map SerialLine (label_of (drop (length (codes "serialno ")) l))) (sym o.1)
    (λ k. only (starts_with nat_eq (115 ∷ 101 ∷ o.0) (codes "serialno ")) _ k) h

pub serial-line : (line text : List ℕ) (r : Result Entry LineError) → Some text ≡ (if starts_with nat_eq line (codes "serialno ") then Some (drop (length (codes "serialno ")) line) else None) →
    IsRead (option_map SerialLine (label_of (text))) r → IsRead (entry_of line) r
serial-line line text r e h =
    let f = left (starts_with nat_eq line (codes "serialno ")) text _ e in
    subst (λ o. IsRead o r) (ap (λ t. option_map SerialLine (label_of (t))) f.1 ∙ sym (serial-at line f.0)) h

slots-at : (line : List ℕ) → starts_with nat_eq line (codes "slots ") ≡ true → entry_of line ≡ option_map SlotsLine (number_of (drop (length (codes "slots ")) line))
unfolding entry_of
slots-at line h = let o = opens 115 108 (codes "ots ") line h in
    subst (λ l. starts_with nat_eq l (codes "slots ") ≡ true → entry_of l ≡ option_map SlotsLine (number_of (drop (length (codes "slots ")) l))) (sym o.1)
    (λ k. only (starts_with nat_eq (115 ∷ 108 ∷ o.0) (codes "slots ")) _ k) h

pub slots-line : (line text : List ℕ) (r : Result Entry LineError) → Some text ≡ (if starts_with nat_eq line (codes "slots ") then Some (drop (length (codes "slots ")) line) else None) →
    IsRead (option_map SlotsLine (number_of (text))) r → IsRead (entry_of line) r
slots-line line text r e h =
    let f = left (starts_with nat_eq line (codes "slots ")) text _ e in
    subst (λ o. IsRead o r) (ap (λ t. option_map SlotsLine (number_of (t))) f.1 ∙ sym (slots-at line f.0)) h

download-at : (line : List ℕ) → starts_with nat_eq line (codes "max-download ") ≡ true → entry_of line ≡ option_map DownloadLine (number_of (drop (length (codes "max-download ")) line))
unfolding entry_of
download-at line h = let o = opens 109 97 (codes "x-download ") line h in
    subst (λ l. starts_with nat_eq l (codes "max-download ") ≡ true → entry_of l ≡ option_map DownloadLine (number_of (drop (length (codes "max-download ")) l))) (sym o.1)
    (λ k. only (starts_with nat_eq (109 ∷ 97 ∷ o.0) (codes "max-download ")) _ k) h

pub download-line : (line text : List ℕ) (r : Result Entry LineError) → Some text ≡ (if starts_with nat_eq line (codes "max-download ") then Some (drop (length (codes "max-download ")) line) else None) →
    IsRead (option_map DownloadLine (number_of (text))) r → IsRead (entry_of line) r
download-line line text r e h =
    let f = left (starts_with nat_eq line (codes "max-download ")) text _ e in
    subst (λ o. IsRead o r) (ap (λ t. option_map DownloadLine (number_of (t))) f.1 ∙ sym (download-at line f.0)) h

variable-at : (line : List ℕ) → starts_with nat_eq line (codes "var ") ≡ true → entry_of line ≡ variable_of (at_space (drop (length (codes "var ")) line))
unfolding entry_of
variable-at line h = let o = opens 118 97 (codes "r ") line h in
    subst (λ l. starts_with nat_eq l (codes "var ") ≡ true → entry_of l ≡ variable_of (at_space (drop (length (codes "var ")) l))) (sym o.1)
    (λ k. only (starts_with nat_eq (118 ∷ 97 ∷ o.0) (codes "var ")) _ k) h

pub variable-line : (line text : List ℕ) (r : Result Entry LineError) → Some text ≡ (if starts_with nat_eq line (codes "var ") then Some (drop (length (codes "var ")) line) else None) →
    IsRead (variable_of (at_space (text))) r → IsRead (entry_of line) r
variable-line line text r e h =
    let f = left (starts_with nat_eq line (codes "var ")) text _ e in
    subst (λ o. IsRead o r) (ap (λ t. variable_of (at_space (t))) f.1 ∙ sym (variable-at line f.0)) h

partition-at : (line : List ℕ) → starts_with nat_eq line (codes "partition ") ≡ true → entry_of line ≡ partition_of (slice_split is_space (drop (length (codes "partition ")) line))
unfolding entry_of
partition-at line h = let o = opens 112 97 (codes "rtition ") line h in
    subst (λ l. starts_with nat_eq l (codes "partition ") ≡ true → entry_of l ≡ partition_of (slice_split is_space (drop (length (codes "partition ")) l))) (sym o.1)
    (λ k. only (starts_with nat_eq (112 ∷ 97 ∷ o.0) (codes "partition ")) _ k) h

pub partition-line : (line text : List ℕ) (r : Result Entry LineError) → Some text ≡ (if starts_with nat_eq line (codes "partition ") then Some (drop (length (codes "partition ")) line) else None) →
    IsRead (partition_of (slice_split is_space (text))) r → IsRead (entry_of line) r
partition-line line text r e h =
    let f = left (starts_with nat_eq line (codes "partition ")) text _ e in
    subst (λ o. IsRead o r) (ap (λ t. partition_of (slice_split is_space (t))) f.1 ∙ sym (partition-at line f.0)) h

super-at : (line : List ℕ) → starts_with nat_eq line (codes "super ") ≡ true → entry_of line ≡ super_of (slice_split is_space (drop (length (codes "super ")) line))
unfolding entry_of
super-at line h = let o = opens 115 117 (codes "per ") line h in
    subst (λ l. starts_with nat_eq l (codes "super ") ≡ true → entry_of l ≡ super_of (slice_split is_space (drop (length (codes "super ")) l))) (sym o.1)
    (λ k. last (starts_with nat_eq (115 ∷ 117 ∷ o.0) (codes "super ")) _ k) h

pub super-line : (line text : List ℕ) (r : Result Entry LineError) → Some text ≡ (if starts_with nat_eq line (codes "super ") then Some (drop (length (codes "super ")) line) else None) →
    IsRead (super_of (slice_split is_space (text))) r → IsRead (entry_of line) r
super-line line text r e h =
    let f = left (starts_with nat_eq line (codes "super ")) text _ e in
    subst (λ o. IsRead o r) (ap (λ t. super_of (slice_split is_space (t))) f.1 ∙ sym (super-at line f.0)) h

abbrev Misses : (word line : List ℕ) → Type 0
Misses word line = (let o : Option (List ℕ) = None in o ≡ (if starts_with nat_eq line word then Some (drop (length word) line) else None))

or-none : (a b : Option Entry) → a ≡ None → b ≡ None → option_or a b ≡ None
or-none a b h k = ap (λ x. option_or x b) h ∙ k

no-behind : (word : List ℕ) (read : List ℕ → Option Entry) (line : List ℕ) → Misses word line → behind word read line ≡ None
no-behind word read line h = by (starts_with nat_eq line word) (unfit (starts_with nat_eq line word) (drop (length word) line) h) where
  by : (t : Bool) → t ≡ false → (if t then read (drop (length word) line) else None) ≡ None
  by true e = absurd cc
  by false e = refl

-- a line that begins with none of the words
pub no-line : (line : List ℕ) → Misses (codes "product ") line → Misses (codes "serialno ") line → Misses (codes "slots ") line → Misses (codes "max-download ") line → Misses (codes "var ") line → Misses (codes "partition ") line → Misses (codes "super ") line → entry_of line ≡ None
unfolding entry_of
no-line line a b c d e f g =
    or-none _ _ (no-behind (codes "product ") (λ rest. option_map ProductLine (label_of rest)) line a)
    (or-none _ _ (no-behind (codes "serialno ") (λ rest. option_map SerialLine (label_of rest)) line b)
    (or-none _ _ (no-behind (codes "slots ") (λ rest. option_map SlotsLine (number_of rest)) line c)
    (or-none _ _ (no-behind (codes "max-download ") (λ rest. option_map DownloadLine (number_of rest)) line d)
    (or-none _ _ (no-behind (codes "var ") (λ rest. variable_of (at_space rest)) line e)
    (or-none _ _ (no-behind (codes "partition ") (λ rest. partition_of (slice_split is_space rest)) line f) (no-behind (codes "super ") (λ rest. super_of (slice_split is_space rest)) line g))))))
