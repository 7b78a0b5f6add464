-- The numbers of a line, which may be of any length.
use Rattle.std.proofs.Common.{◌≡◌, ◌∙◌, refl, ap, sym, ℕ, ◌^◌, ◌≤◌, min, Bool, true, false, ◌&&◌, List, [], ◌∷◌, length, Option, Some, None, inl, inr, if◌then◌else◌, cond, arith, option_map, Ok}
use Rattle.std.specs.Prelude.{nat_le, ◌==◌, ◌%◌}
use Rattle.std.specs.List.{list_all, slice_split, onto_first}
use Rattle.std.proofs.lemmas.Bool.Decides.{nat_tests}
use Rattle.dev_model.proofs.Valid.{both, and-true}
use Rattle.dev_model.specs.Validity.{is_between, is_value}
use Rattle.fb_frame.specs.NameText.{is_name, name_of}
use Rattle.fb_frame.specs.Numbers.{is_digit, digits_worth}
use Rattle.dev_store.specs.declared.entries.Entry.{Entry}
use Rattle.dev_store.specs.declared.entries.Entry.TheVariants.{PartitionLine, SuperLine, VariableLine}
use Rattle.dev_store.specs.declared.layout.SuperPart.{SuperPart}
use Rattle.dev_store.specs.LayoutLines.{is_number, is_size, is_sized, is_space, partition_of, super_of, variable_of}
use Rattle.dev_store.specs.LineReading.{IsRead, sized_super, variable_name}
use Rattle.dev_store.proofs.NumberLemmas.{least-too-big, capped, uncapped}
use Rattle.dev_store.proofs.SplitLemmas.{one-or-more}

-- a number has no space
digit-no-space : (text : List ℕ) → list_all is_digit text ≡ true → slice_split is_space text ≡ text ∷ []
digit-no-space [] h = refl
digit-no-space (b ∷ text) h =
    let parts = both (is_digit b) (list_all is_digit text) h in
    let no : is_space b ≡ false = grind (arith, nat_tests, parts.0) in
    ap (λ t. cond t ([] ∷ slice_split is_space text) (onto_first b (slice_split is_space text))) no
    ∙ ap (onto_first b) (digit-no-space text parts.1)

pub number-word : (word : List ℕ) → is_number word ≡ true → slice_split is_space word ≡ word ∷ []
number-word word h = digit-no-space word (both (nat_le 1 (length word)) (list_all is_digit word) (both (nat_le 1 (length word) && list_all is_digit word) _ h).0).1

and-false : (a b : Bool) → b ≡ false → (a && b) ≡ false
and-false true b h = h
and-false false b h = refl

first-false : (a b : Bool) → a ≡ false → (a && b) ≡ false
first-false true b h = absurd cc
first-false false b h = refl

none-if : {X : Type 0} (b : Bool) (x : X) → b ≡ false → (if b then Some x else None) ≡ None
none-if true x h = absurd cc
none-if false x h = refl

some-if : {X : Type 0} (b : Bool) (x : X) → b ≡ true → (if b then Some x else None) ≡ Some x
some-if true x h = refl
some-if false x h = absurd cc

large-size : (n : ℕ) → least-too-big ≤ n → is_size n ≡ false
large-size n h = grind (arith, nat_tests)

abbrev part-entry : List ℕ → ℕ → Entry
part-entry name size = PartitionLine (record { name = name; size = size })

pub part-no-name : (name size : List ℕ) → is_name name ≡ false → partition_of (name ∷ slice_split is_space size) ≡ None
part-no-name name size h = elim (one-or-more size) [
  | inl e ↦ ap (λ r. partition_of (name ∷ r)) e ∙ none-if (is_name name && is_number size) (part-entry name (digits_worth size)) (first-false (is_name name) (is_number size) h)
  | inr s ↦ ap (λ r. partition_of (name ∷ r)) s.same
]

pub part-no-number : (name size : List ℕ) → is_number size ≡ false → partition_of (name ∷ slice_split is_space size) ≡ None
part-no-number name size h = elim (one-or-more size) [
  | inl e ↦ ap (λ r. partition_of (name ∷ r)) e ∙ none-if (is_name name && is_number size) (part-entry name (digits_worth size)) (and-false (is_name name) (is_number size) h)
  | inr s ↦ ap (λ r. partition_of (name ∷ r)) s.same
]

part-is : (name size : List ℕ) → is_name name ≡ true → is_number size ≡ true → partition_of (name ∷ slice_split is_space size) ≡ Some (part-entry name (digits_worth size))
part-is name size h k =
    ap (λ r. partition_of (name ∷ r)) (number-word size k)
    ∙ some-if (is_name name && is_number size) (part-entry name (digits_worth size)) (and-true (is_name name) (is_number size) h k)

pub part-size : (name size : List ℕ) (n : ℕ) → is_name name ≡ true → is_number size ≡ true → n ≡ min (digits_worth size) least-too-big → is_size n ≡ false →
    option_map is_sized (partition_of (name ∷ slice_split is_space size)) ≡ Some false
part-size name size n h k e z =
    ap (option_map is_sized) (part-is name size h k)
    ∙ ap Some (sym (capped is_size large-size (digits_worth size)) ∙ (ap is_size (sym e) ∙ z))

pub part-said : (name size : List ℕ) (n : ℕ) → is_name name ≡ true → is_number size ≡ true → n ≡ min (digits_worth size) least-too-big → is_size n ≡ true →
    partition_of (name ∷ slice_split is_space size) ≡ Some (part-entry name n)
part-said name size n h k e z =
    part-is name size h k
    ∙ ap (λ m. Some (part-entry name m)) (sym (e ∙ uncapped is_size large-size (digits_worth size) (ap is_size (sym e) ∙ z)))

pub ruleset parts = (part-no-name, part-no-number, part-size, part-said)

-- the four numbers of super
abbrev good-unit : ℕ → Bool
good-unit n = n % 4096 == 0 && is_between 4096 (2 ^ 30) n

abbrev good-room : ℕ → Bool
good-room n = n % 512 == 0 && nat_le n 126976

abbrev good-slots : ℕ → Bool
good-slots n = is_between 1 4 n

large-unit : (n : ℕ) → least-too-big ≤ n → good-unit n ≡ false
large-unit n h = and-false (n % 4096 == 0) (is_between 4096 (2 ^ 30) n) (grind (arith, nat_tests))

large-room : (n : ℕ) → least-too-big ≤ n → good-room n ≡ false
large-room n h = and-false (n % 512 == 0) (nat_le n 126976) (grind (arith, nat_tests))

large-slots : (n : ℕ) → least-too-big ≤ n → good-slots n ≡ false
large-slots n h = grind (arith, nat_tests)

regroup : (a b c d e f : Bool) → (a && b && c && d && e && f) ≡ ((a && (b && c)) && (d && e) && f)
regroup true true true d e f = refl
regroup true true false d e f = refl
regroup true false c d e f = refl
regroup false b c d e f = refl

abbrev super-of-four : List ℕ → ℕ → ℕ → ℕ → ℕ → SuperPart
super-of-four name a b c d = record { name = name; size = a; unit = b; max_size = c; slots = d }

four : (name : List ℕ) (a b c d : ℕ) → is_sized (SuperLine (super-of-four name a b c d)) ≡ ((is_size a && good-unit b) && good-room c && good-slots d)
four name a b c d = regroup (is_size a) (b % 4096 == 0) (is_between 4096 (2 ^ 30) b) (c % 512 == 0) (nat_le c 126976) (is_between 1 4 d)

abbrev cap : ℕ → ℕ
cap n = min n least-too-big

four-capped : (name : List ℕ) (a b c d : ℕ) → is_sized (SuperLine (super-of-four name (cap a) (cap b) (cap c) (cap d))) ≡ is_sized (SuperLine (super-of-four name a b c d))
four-capped name a b c d =
    four name (cap a) (cap b) (cap c) (cap d)
    ∙ (ap (λ t. (t && good-unit (cap b)) && good-room (cap c) && good-slots (cap d)) (capped is_size large-size a)
    ∙ (ap (λ t. (is_size a && t) && good-room (cap c) && good-slots (cap d)) (capped good-unit large-unit b)
    ∙ (ap (λ t. (is_size a && good-unit b) && t && good-slots (cap d)) (capped good-room large-room c)
    ∙ (ap (λ t. (is_size a && good-unit b) && good-room c && t) (capped good-slots large-slots d) ∙ sym (four name a b c d)))))

four-same : (name : List ℕ) (a b c d : ℕ) → is_sized (SuperLine (super-of-four name (cap a) (cap b) (cap c) (cap d))) ≡ true →
    super-of-four name (cap a) (cap b) (cap c) (cap d) ≡ super-of-four name a b c d
four-same name a b c d h =
    let all = sym (four name (cap a) (cap b) (cap c) (cap d)) ∙ h in
    let last = both ((is_size (cap a) && good-unit (cap b)) && good-room (cap c)) (good-slots (cap d)) all in
    let next = both (is_size (cap a) && good-unit (cap b)) (good-room (cap c)) last.0 in
    let first = both (is_size (cap a)) (good-unit (cap b)) next.0 in
    let ea = uncapped is_size large-size a first.0 in
    let eb = uncapped good-unit large-unit b first.1 in
    let ec = uncapped good-room large-room c next.1 in
    let ed = uncapped good-slots large-slots d last.1 in
    λ i. super-of-four name (ea i) (eb i) (ec i) (ed i)

abbrev super-entry : List ℕ → List ℕ → List ℕ → List ℕ → List ℕ → Entry
super-entry name size unit room slots = SuperLine (super-of-four name (digits_worth size) (digits_worth unit) (digits_worth room) (digits_worth slots))

super-cell : (a b c d e : Bool) → (a && b && c && d && e) ≡ (a && (b && c && d && e))
super-cell true b c d e = refl
super-cell false b c d e = refl

pub super-no-name : (name size unit room slots : List ℕ) → is_name name ≡ false → super_of (name ∷ size ∷ unit ∷ room ∷ slice_split is_space slots) ≡ None
super-no-name name size unit room slots h = elim (one-or-more slots) [
  | inl e ↦ ap (λ r. super_of (name ∷ size ∷ unit ∷ room ∷ r)) e
      ∙ none-if (is_name name && is_number size && is_number unit && is_number room && is_number slots) (super-entry name size unit room slots)
      (super-cell (is_name name) (is_number size) (is_number unit) (is_number room) (is_number slots)
      ∙ first-false (is_name name) (is_number size && is_number unit && is_number room && is_number slots) h)
  | inr s ↦ ap (λ r. super_of (name ∷ size ∷ unit ∷ room ∷ r)) s.same
]

pub super-no-numbers : (name size unit room slots : List ℕ) → (is_number size && is_number unit && is_number room && is_number slots) ≡ false →
    super_of (name ∷ size ∷ unit ∷ room ∷ slice_split is_space slots) ≡ None
super-no-numbers name size unit room slots h = elim (one-or-more slots) [
  | inl e ↦ ap (λ r. super_of (name ∷ size ∷ unit ∷ room ∷ r)) e
      ∙ none-if (is_name name && is_number size && is_number unit && is_number room && is_number slots) (super-entry name size unit room slots)
      (super-cell (is_name name) (is_number size) (is_number unit) (is_number room) (is_number slots)
      ∙ and-false (is_name name) (is_number size && is_number unit && is_number room && is_number slots) h)
  | inr s ↦ ap (λ r. super_of (name ∷ size ∷ unit ∷ room ∷ r)) s.same
]

super-is : (name size unit room slots : List ℕ) → is_name name ≡ true → (is_number size && is_number unit && is_number room && is_number slots) ≡ true →
    super_of (name ∷ size ∷ unit ∷ room ∷ slice_split is_space slots) ≡ Some (super-entry name size unit room slots)
super-is name size unit room slots h k =
    ap (λ r. super_of (name ∷ size ∷ unit ∷ room ∷ r)) (number-word slots (both (is_number size && is_number unit && is_number room) (is_number slots) k).1)
    ∙ some-if (is_name name && is_number size && is_number unit && is_number room && is_number slots) (super-entry name size unit room slots)
    (super-cell (is_name name) (is_number size) (is_number unit) (is_number room) (is_number slots)
    ∙ and-true (is_name name) (is_number size && is_number unit && is_number room && is_number slots) h k)

by-sized : (b : Bool) (s : SuperPart) → (let o : Option SuperPart = None in o ≡ (if b then Some s else None)) → b ≡ false
by-sized true s h = absurd cc
by-sized false s h = refl

by-part : (b : Bool) (s part : SuperPart) → Some part ≡ (if b then Some s else None) → (b ≡ true) × (part ≡ s)
by-part true s part h = (refl, cc)
by-part false s part h = absurd cc

pub super-sizes : (name size unit room slots : List ℕ) → is_name name ≡ true → (is_number size && is_number unit && is_number room && is_number slots) ≡ true →
    (let o : Option SuperPart = None in o ≡ sized_super name (cap (digits_worth size)) (cap (digits_worth unit)) (cap (digits_worth room)) (cap (digits_worth slots))) →
    option_map is_sized (super_of (name ∷ size ∷ unit ∷ room ∷ slice_split is_space slots)) ≡ Some false
super-sizes name size unit room slots h k e =
    ap (option_map is_sized) (super-is name size unit room slots h k)
    ∙ ap Some (sym (four-capped name (digits_worth size) (digits_worth unit) (digits_worth room) (digits_worth slots)) ∙ by-sized _ _ e)

pub super-said : (name size unit room slots : List ℕ) (part : SuperPart) → is_name name ≡ true → (is_number size && is_number unit && is_number room && is_number slots) ≡ true →
    Some part ≡ sized_super name (cap (digits_worth size)) (cap (digits_worth unit)) (cap (digits_worth room)) (cap (digits_worth slots)) →
    IsRead (super_of (name ∷ size ∷ unit ∷ room ∷ slice_split is_space slots)) (Ok (SuperLine part))
super-said name size unit room slots part h k e =
    let p = by-part _ _ part e in
    let same = four-same name (digits_worth size) (digits_worth unit) (digits_worth room) (digits_worth slots) p.0 in
    (super-is name size unit room slots h k ∙ ap (λ s. Some (SuperLine s)) (sym (p.1 ∙ same)), ap (λ s. is_sized (SuperLine s)) p.1 ∙ p.0)

-- variables
name-bad : (a v : Bool) (name : List ℕ) (e : Entry) → (let o : Option (List ℕ) = None in o ≡ (if a then Some name else None)) → (if a && v then Some e else None) ≡ None
name-bad true v name e h = absurd cc
name-bad false v name e h = refl

name-good : (a v : Bool) (name word : List ℕ) (make : List ℕ → Entry) → Some word ≡ (if a then Some name else None) → v ≡ true → (if a && v then Some (make name) else None) ≡ Some (make word)
name-good true true name word make h k = ap (λ n. Some (make n)) (let e : name ≡ word = cc in e)
name-good true false name word make h k = absurd cc
name-good false v name word make h k = absurd cc

abbrev entry-of : List ℕ → List ℕ → Entry
entry-of text name = VariableLine (record { name = name; text = text })

pub variable-no-name : (name text : List ℕ) → (let o : Option (List ℕ) = None in o ≡ variable_name name) → variable_of (Some (name, text)) ≡ None
variable-no-name name text h = name-bad _ (is_value text) name (entry-of text name) h

pub variable-no-value : (name text : List ℕ) → is_value text ≡ false → variable_of (Some (name, text)) ≡ None
variable-no-value name text h = none-if _ (entry-of text name) (and-false _ (is_value text) h)

pub variable-said : (name text word : List ℕ) → Some word ≡ variable_name name → is_value text ≡ true → variable_of (Some (name, text)) ≡ Some (entry-of text word)
variable-said name text word h k = name-good _ (is_value text) name word (entry-of text) h k

named : (b : Bool) (name word : List ℕ) → Some word ≡ (if b then Some name else None) → (b ≡ true) × (word ≡ name)
named true name word e = (refl, cc)
named false name word e = absurd cc

pub super-sized-not : (name size unit room slots word : List ℕ) (a b c d : ℕ) → Some word ≡ name_of name →
    (is_number size && is_number unit && is_number room && is_number slots) ≡ true →
    a ≡ cap (digits_worth size) → b ≡ cap (digits_worth unit) → c ≡ cap (digits_worth room) → d ≡ cap (digits_worth slots) →
    (let o : Option SuperPart = None in o ≡ sized_super word a b c d) →
    option_map is_sized (super_of (name ∷ size ∷ unit ∷ room ∷ slice_split is_space slots)) ≡ Some false
super-sized-not name size unit room slots word a b c d n k ea eb ec ed e =
    let f = named (is_name name) name word n in
    super-sizes name size unit room slots f.0 k (e ∙ (λ i. sized_super (f.1 i) (ea i) (eb i) (ec i) (ed i)))

pub super-sized : (name size unit room slots word : List ℕ) (a b c d : ℕ) (part : SuperPart) → Some word ≡ name_of name →
    (is_number size && is_number unit && is_number room && is_number slots) ≡ true →
    a ≡ cap (digits_worth size) → b ≡ cap (digits_worth unit) → c ≡ cap (digits_worth room) → d ≡ cap (digits_worth slots) →
    Some part ≡ sized_super word a b c d →
    IsRead (super_of (name ∷ size ∷ unit ∷ room ∷ slice_split is_space slots)) (Ok (SuperLine part))
super-sized name size unit room slots word a b c d part n k ea eb ec ed e =
    let f = named (is_name name) name word n in
    super-said name size unit room slots part f.0 k (e ∙ (λ i. sized_super (f.1 i) (ea i) (eb i) (ec i) (ed i)))

pub ruleset supers = (super-no-name, super-no-numbers)
