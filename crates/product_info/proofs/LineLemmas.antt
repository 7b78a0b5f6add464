-- The lines of requirements.
use Rattle.std.proofs.Common.{◌≡◌, ℕ, Bool, true, false, List, [], ◌∷◌, ◌++◌, take, drop, refl, sym, ◌∙◌, ap, subst, Some, None, Option, zero, suc}
use Rattle.std.specs.Prelude.{◌&&◌, ◌||◌, not, ◌==◌, nat_eq, codes, bytes_eq, if◌then◌else◌, reverse}
use Rattle.std.specs.List.{list_all, starts_with}
use Rattle.std.specs.Cmp.Lexicographic.{same_text}
use Rattle.fb_frame.specs.NameText.{is_name, is_name_byte, is_word, word_of}
use Rattle.product_info.specs.declared.requirement.ReqKind.{ReqKind}
use Rattle.product_info.specs.declared.requirement.ReqKind.TheVariants.{Require, Reject, Exists}
use Rattle.product_info.specs.declared.requirement.Requirement.{Requirement}
use Rattle.product_info.specs.Blanks.{is_blank, trimmed, cut_at, cut_blank}
use Rattle.product_info.specs.Grammar.{IsPadded, IsVariable, Opening, Unopened, Requires, Rejects, ForProduct, opened_for, is_rejecting, IsOpener, IsLonger, IsOpened, IsPair, IsWanted, IsRequirementLine}
use Rattle.product_info.specs.RequirementText.{is_variable_byte, variable_of, values_of, asked_name, listed, exists, named, sided, body_of, product_of, for_product, by_word, requirement_of}
use Rattle.product_info.proofs.WordLemmas.{both}
use Rattle.product_info.proofs.FormLemmas.{bytes-same, bytes-apart, nat-same}
use Rattle.product_info.proofs.TrimLemmas.{all-append, all-imply, all-reverse, flush-all, trim-padded, trimmed-padded, cut-read, Cut, cut-is}
use Rattle.product_info.proofs.ListLemmas.{blank-other, listed-read, listed-spelled, values-trimmed}

abbrev is_equals : ℕ → Bool
is_equals b = b == 61

never : true ≡ false → ⊥
never q = cc

some-same : {X : Type 0} (x y : X) → ◌≡◌ {A = Option X} (Some x) (Some y) → x ≡ y
some-same x y e = cc

-- a byte of a name is no blank and no `=`
not-byte : (c : ℕ) → is_variable_byte c ≡ false → (b : ℕ) → is_variable_byte b ≡ true → not (b == c) ≡ true
not-byte c h b e = by (b == c) refl where
  by : (t : Bool) → (b == c) ≡ t → not t ≡ true
  by true f = absurd (never (sym e ∙ (ap is_variable_byte (nat-same b c f) ∙ h)))
  by false f = refl

not-blank : (b : ℕ) → is_variable_byte b ≡ true → not (is_blank b) ≡ true
not-blank b e = by (b == 32) (b == 9) (not-byte 32 refl b e) (not-byte 9 refl b e) where
  by : (x y : Bool) → not x ≡ true → not y ≡ true → not (x || y) ≡ true
  by true y h g = h
  by false y h g = g

unbroken : (name : List ℕ) → IsVariable name → list_all (λ b. not (is_blank b)) name ≡ true
unbroken name h = all-imply is_variable_byte (λ b. not (is_blank b)) not-blank name h.bytes

variable-read : (name : List ℕ) → IsVariable name → variable_of name ≡ Some name
variable-read name h = ap (λ b. if b then word_of name else None) h.bytes ∙ ap (λ b. if b then Some name else None) h.word

variable-spelled : (text name : List ℕ) → variable_of text ≡ Some name → (text ≡ name) × IsVariable name
variable-spelled text name e = by (list_all is_variable_byte text) refl (is_word text) refl e where
  by : (a : Bool) → list_all is_variable_byte text ≡ a → (b : Bool) → is_word text ≡ b →
      (if a then (if b then Some text else None) else None) ≡ Some name → (text ≡ name) × IsVariable name
  by true f true g q = let s = some-same text name q in (s, subst IsVariable s (record { word = g; bytes = f }))
  by true f false g q = absurd cc
  by false f b g q = absurd cc

named-trim : (left name : List ℕ) → IsVariable name → IsPadded left name → trimmed left ≡ name
named-trim left name h p =
    trim-padded left name p.0 p.1 p.2 p.3 p.4 (flush-all name (unbroken name h))
    (flush-all (reverse name) (all-reverse (λ b. not (is_blank b)) name (unbroken name h)))

no-equals : (left name : List ℕ) → IsVariable name → IsPadded left name → list_all (λ b. not (is_equals b)) left ≡ true
no-equals left name h p =
    let blanks = all-imply is_blank (λ b. not (is_equals b)) (blank-other 61 refl) in
    subst (λ t. list_all (λ b. not (is_equals b)) t ≡ true) (sym p.2)
    (all-append (λ b. not (is_equals b)) p.0 (name ++ p.1) (blanks p.0 p.3)
    (all-append (λ b. not (is_equals b)) name p.1 (all-imply is_variable_byte (λ b. not (is_equals b)) (not-byte 61 refl) name h.bytes) (blanks p.1 p.4)))

pair-read : (number : ℕ) (product : Option (List ℕ)) (rejects : Bool) (body name right : List ℕ) → IsPair body name right →
    body_of number product rejects body ≡ named number product rejects (Some name) (trimmed right)
pair-read number product rejects body name right h =
    ap (λ t. sided number product rejects (cut_at 61 t)) h.whole
    ∙ (ap (sided number product rejects) (cut-read is_equals h.left 61 right (no-equals h.left name h.variable h.named) refl)
    ∙ ap (λ v. named number product rejects v (trimmed right))
    (ap variable_of (named-trim h.left name h.variable h.named) ∙ variable-read name h.variable))

same-requirement : (r : Requirement) (number : ℕ) (product : Option (List ℕ)) (kind : ReqKind) (name : List ℕ) (values : List (List ℕ)) →
    r.line ≡ number → r.product ≡ product → r.kind ≡ kind → r.name ≡ name → r.values ≡ values →
    record { line = number; product = product; kind = kind; name = name; values = values } ≡ r
same-requirement r number product kind name values e f g h i =
    ap (λ x. record { line = x; product = product; kind = kind; name = name; values = values }) (sym e)
    ∙ (ap (λ x. record { line = r.line; product = x; kind = kind; name = name; values = values }) (sym f)
    ∙ (ap (λ x. record { line = r.line; product = r.product; kind = x; name = name; values = values }) (sym g)
    ∙ (ap (λ x. record { line = r.line; product = r.product; kind = r.kind; name = x; values = values }) (sym h)
    ∙ ap (λ x. record { line = r.line; product = r.product; kind = r.kind; name = r.name; values = x }) (sym i))))

name-trim : (right name : List ℕ) → is_name name ≡ true → IsPadded right name → trimmed right ≡ name
name-trim right name h p =
    let bytes = (both _ (list_all is_name_byte name) h).1 in
    let dark = all-imply is_name_byte (λ b. not (is_blank b)) of-name name bytes in
    trim-padded right name p.0 p.1 p.2 p.3 p.4 (flush-all name dark) (flush-all (reverse name) (all-reverse (λ b. not (is_blank b)) name dark))
  where
    of-name : (b : ℕ) → is_name_byte b ≡ true → not (is_blank b) ≡ true
    of-name b e = not-blank b (ap (λ t. t || (b == 58)) e)

wanted-read : (number : ℕ) (product : Option (List ℕ)) (rejects : Bool) (name right : List ℕ) (r : Requirement) (kind : ReqKind) →
    r.line ≡ number → r.product ≡ product → r.kind ≡ kind → IsWanted rejects name right r kind →
    named number product rejects (Some name) (trimmed right) ≡ Some r
wanted-read number product rejects name right r Require e f g w =
    ap (λ b. if not b && bytes_eq name (codes "partition-exists") then exists number product (trimmed right)
    else listed number product b name (values_of (trimmed right))) w.0
    ∙ (ap (λ b. if b then exists number product (trimmed right) else listed number product false name (values_of (trimmed right)))
    (bytes-apart name (codes "partition-exists") w.1)
    ∙ (ap (listed number product false name) (values-trimmed right ∙ listed-read r.values right w.3)
    ∙ ap Some (same-requirement r number product Require (asked_name name) r.values e f g w.2 refl)))
wanted-read number product rejects name right r Reject e f g w =
    ap (λ b. if not b && bytes_eq name (codes "partition-exists") then exists number product (trimmed right)
    else listed number product b name (values_of (trimmed right))) w.0
    ∙ (ap (listed number product true name) (values-trimmed right ∙ listed-read r.values right w.2)
    ∙ ap Some (same-requirement r number product Reject (asked_name name) r.values e f g w.1 refl))
wanted-read number product rejects name right r Exists e f g w =
    ap (λ b. if not b && bytes_eq name (codes "partition-exists") then exists number product (trimmed right)
    else listed number product b name (values_of (trimmed right))) w.0
    ∙ (ap (λ n. if bytes_eq n (codes "partition-exists") then exists number product (trimmed right)
    else listed number product false name (values_of (trimmed right))) w.1
    ∙ (ap (exists number product) (name-trim right r.name w.2 w.4)
    ∙ (ap (λ b. if b then Some (record { line = number; product = product; kind = Exists; name = r.name; values = [] }) else None) w.2
    ∙ ap Some (same-requirement r number product Exists r.name [] e f g refl w.3))))

-- the first word of a longer form has no blank
opener-unbroken : (word : List ℕ) (opening : Opening) → IsOpener word opening → list_all (λ b. not (is_blank b)) word ≡ true
opener-unbroken word Unopened h = absurd h
opener-unbroken word Requires h = subst (λ w. list_all (λ b. not (is_blank b)) w ≡ true) (sym h) refl
opener-unbroken word Rejects h = subst (λ w. list_all (λ b. not (is_blank b)) w ≡ true) (sym h) refl
opener-unbroken word (ForProduct product) h =
    subst (λ w. list_all (λ b. not (is_blank b)) w ≡ true) (sym h.0)
    (all-append (λ b. not (is_blank b)) (codes "require-for-product:") product refl (unbroken product h.1))

longer-cut : (line : List ℕ) (opening : Opening) (rest : List ℕ) (h : IsLonger line opening rest) → cut_blank line ≡ Some (h.word, rest)
longer-cut line opening rest h =
    ap cut_blank h.whole ∙ cut-read is_blank h.word h.blank rest (opener-unbroken h.word opening h.opens) h.is_blank

product-read : (product : List ℕ) → IsVariable product → product_of (codes "require-for-product:" ++ product) ≡ Some product
product-read product h = variable-read product h

take-drop : (n : ℕ) (xs : List ℕ) → take n xs ++ drop n xs ≡ xs
take-drop zero xs = refl
take-drop (suc n) [] = refl
take-drop (suc n) (x ∷ xs) = ap (λ t. x ∷ t) (take-drop n xs)

product-spelled : (word product : List ℕ) → product_of word ≡ Some product → IsOpener word (ForProduct product)
product-spelled word product e = by (starts_with nat_eq word (codes "require-for-product:")) refl e where
  by : (b : Bool) → starts_with nat_eq word (codes "require-for-product:") ≡ b → (if b then variable_of (drop 20 word) else None) ≡ Some product →
      IsOpener word (ForProduct product)
  by true f q =
      let v = variable-spelled (drop 20 word) product q in
      let front : codes "require-for-product:" ≡ take 20 word = same_text (codes "require-for-product:") (take 20 word) (sym f) in
      (sym (take-drop 20 word) ∙ (ap (λ t. t ++ drop 20 word) (sym front) ∙ ap (λ t. codes "require-for-product:" ++ t) v.0), v.1)
  by false f q = absurd cc

-- a line of a longer form is read by its opening
longer-read : (number : ℕ) (line : List ℕ) (opening : Opening) (rest : List ℕ) → IsLonger line opening rest →
    requirement_of number line ≡ body_of number (opened_for opening) (is_rejecting opening) rest
unfolding requirement_of
longer-read number line opening rest h = ap (by_word number line) (longer-cut line opening rest h) ∙ by opening h.opens where
  by : (o : Opening) → IsOpener h.word o → by_word number line (Some (h.word, rest)) ≡ body_of number (opened_for o) (is_rejecting o) rest
  by Unopened w = absurd w
  by Requires w = ap (λ x. by_word number line (Some (x, rest))) w
  by Rejects w = ap (λ x. by_word number line (Some (x, rest))) w
  by (ForProduct product) w =
      ap (λ x. by_word number line (Some (x, rest))) w.0 ∙ ap (for_product number line rest) (product-read product w.1)

-- the words before a blank that open no longer form
not-longer : (number : ℕ) (line word : List ℕ) (b : ℕ) (rest : List ℕ) → line ≡ word ++ b ∷ rest → is_blank b ≡ true →
    ((opening : Opening) (rest : List ℕ) → IsLonger line opening rest → ⊥) →
    by_word number line (Some (word, rest)) ≡ body_of number None false line
not-longer number line word b rest e f h =
    ap (λ t. if t then body_of number None false rest
    else (if bytes_eq word (codes "reject") then body_of number None true rest else for_product number line rest (product_of word)))
    (bytes-apart word (codes "require") (λ q. h Requires rest (longer Requires q)))
    ∙ (ap (λ t. if t then body_of number None true rest else for_product number line rest (product_of word))
    (bytes-apart word (codes "reject") (λ q. h Rejects rest (longer Rejects q)))
    ∙ by (product_of word) refl)
  where
    longer : (o : Opening) → IsOpener word o → IsLonger line o rest
    longer o q = record { word = word; opens = q; blank = b; is_blank = f; whole = e }

    by : (o : Option (List ℕ)) → product_of word ≡ o → for_product number line rest o ≡ body_of number None false line
    by None q = refl
    by (Some product) q = absurd (h (ForProduct product) rest (longer (ForProduct product) (product-spelled word product q)))

unopened-read : (number : ℕ) (line : List ℕ) → ((opening : Opening) (rest : List ℕ) → IsLonger line opening rest → ⊥) →
    requirement_of number line ≡ body_of number None false line
unfolding requirement_of
unopened-read number line h = by (cut_blank line) (cut-is is_blank line) where
  by : (o : Option (List ℕ × List ℕ)) → Cut is_blank line o → by_word number line o ≡ body_of number None false line
  by None c = refl
  by (Some sides) c = not-longer number line sides.0 c.0 sides.1 c.3 c.2 h

opened-read : (number : ℕ) (line : List ℕ) (opening : Opening) (body : List ℕ) → IsOpened line opening body →
    requirement_of number line ≡ body_of number (opened_for opening) (is_rejecting opening) body
opened-read number line Unopened body h = unopened-read number line h.1 ∙ ap (body_of number None false) (sym h.0)
opened-read number line Requires body h = longer-read number line Requires body h
opened-read number line Rejects body h = longer-read number line Rejects body h
opened-read number line (ForProduct product) body h = longer-read number line (ForProduct product) body h

pub requirements-read : (number : ℕ) (line : List ℕ) (r : Requirement) → IsRequirementLine number line r → requirement_of number line ≡ Some r
requirements-read number line r h =
    opened-read number line h.opening h.body h.opened
    ∙ (pair-read number (opened_for h.opening) (is_rejecting h.opening) h.body h.name h.right h.pair
    ∙ wanted-read number (opened_for h.opening) (is_rejecting h.opening) h.name h.right r r.kind h.numbered h.product refl h.wanted)

-- What the text after the opening says.
record Body (number : ℕ) (product : Option (List ℕ)) (rejects : Bool) (body : List ℕ) (r : Requirement) : Type 0 where
  numbered : r.line ≡ number
  for_it : r.product ≡ product
  name : List ℕ
  right : List ℕ
  pair : IsPair body name right
  wanted : IsWanted rejects name right r r.kind

-- What the name and the text after its `=` say.
record Says (number : ℕ) (product : Option (List ℕ)) (rejects : Bool) (name right : List ℕ) (r : Requirement) : Type 0 where
  numbered : r.line ≡ number
  for_it : r.product ≡ product
  wanted : IsWanted rejects name right r r.kind

exists-says : (number : ℕ) (product : Option (List ℕ)) (name right : List ℕ) (r : Requirement) → name ≡ codes "partition-exists" →
    exists number product (trimmed right) ≡ Some r → Says number product false name right r
exists-says number product name right r f e = by (is_name (trimmed right)) refl e where
  by : (b : Bool) → is_name (trimmed right) ≡ b → (if b then Some (record { line = number; product = product; kind = Exists; name = trimmed right; values = [] }) else None) ≡ Some r →
      Says number product false name right r
  by true g q =
      subst (λ x. Says number product false name right x) (some-same (record { line = number; product = product; kind = Exists; name = trimmed right; values = [] }) r q)
      (record { numbered = refl; for_it = refl; wanted = (refl, f, g, refl, trimmed-padded right) })
  by false g q = absurd cc

listed-says : (number : ℕ) (product : Option (List ℕ)) (rejects : Bool) (name right : List ℕ) (o : Option (List (List ℕ))) (r : Requirement) →
    (rejects ≡ false → name ≡ codes "partition-exists" → ⊥) → values_of (trimmed right) ≡ o → listed number product rejects name o ≡ Some r →
    Says number product rejects name right r
listed-says number product rejects name right None r h f e = absurd cc
listed-says number product true name right (Some values) r h f e =
    subst (λ x. Says number product true name right x)
    (some-same (record { line = number; product = product; kind = Reject; name = asked_name name; values = values }) r e)
    (record { numbered = refl; for_it = refl; wanted = (refl, refl, listed-spelled right values (sym (values-trimmed right) ∙ f)) })
listed-says number product false name right (Some values) r h f e =
    subst (λ x. Says number product false name right x)
    (some-same (record { line = number; product = product; kind = Require; name = asked_name name; values = values }) r e)
    (record { numbered = refl; for_it = refl; wanted = (refl, h refl, refl, listed-spelled right values (sym (values-trimmed right) ∙ f)) })

named-says : (number : ℕ) (product : Option (List ℕ)) (rejects : Bool) (name right : List ℕ) (r : Requirement) →
    named number product rejects (Some name) (trimmed right) ≡ Some r → Says number product rejects name right r
named-says number product true name right r e = listed-says number product true name right (values_of (trimmed right)) r (λ q. absurd (never q)) refl e
named-says number product false name right r e = by (bytes_eq name (codes "partition-exists")) refl e where
  other : bytes_eq name (codes "partition-exists") ≡ false → name ≡ codes "partition-exists" → ⊥
  other f q = never (sym (ap (λ n. bytes_eq n (codes "partition-exists")) q) ∙ f)

  by : (b : Bool) → bytes_eq name (codes "partition-exists") ≡ b →
      (if b then exists number product (trimmed right) else listed number product false name (values_of (trimmed right))) ≡ Some r →
      Says number product false name right r
  by true f q = exists-says number product name right r (bytes-same name (codes "partition-exists") f) q
  by false f q = listed-says number product false name right (values_of (trimmed right)) r (λ _. other f) refl q

variable-says : (number : ℕ) (product : Option (List ℕ)) (rejects : Bool) (body left right : List ℕ) (o : Option (List ℕ)) (r : Requirement) →
    body ≡ left ++ 61 ∷ right → variable_of (trimmed left) ≡ o → named number product rejects o (trimmed right) ≡ Some r → Body number product rejects body r
variable-says number product rejects body left right None r e f g = absurd cc
variable-says number product rejects body left right (Some name) r e f g =
    let v = variable-spelled (trimmed left) name f in
    let s = named-says number product rejects name right r g in
    record {
      numbered = s.numbered;
      for_it = s.for_it;
      name = name;
      right = right;
      pair = record { left = left; whole = e; variable = v.1; named = subst (IsPadded left) v.0 (trimmed-padded left) };
      wanted = s.wanted;
    }

body-says : (number : ℕ) (product : Option (List ℕ)) (rejects : Bool) (body : List ℕ) (r : Requirement) →
    body_of number product rejects body ≡ Some r → Body number product rejects body r
body-says number product rejects body r e = by (cut_at 61 body) (cut-is is_equals body) e where
  by : (o : Option (List ℕ × List ℕ)) → Cut is_equals body o → sided number product rejects o ≡ Some r → Body number product rejects body r
  by None c q = absurd cc
  by (Some sides) c q =
      variable-says number product rejects body sides.0 sides.1 (variable_of (trimmed sides.0)) r
      (c.3 ∙ ap (λ b. sides.0 ++ b ∷ sides.1) (nat-same c.0 61 c.2)) refl q

line-says : (number : ℕ) (line : List ℕ) (opening : Opening) (body : List ℕ) (r : Requirement) → IsOpened line opening body →
    body_of number (opened_for opening) (is_rejecting opening) body ≡ Some r → IsRequirementLine number line r
line-says number line opening body r o e =
    let b = body-says number (opened_for opening) (is_rejecting opening) body r e in
    record {
      numbered = b.numbered;
      opening = opening;
      body = body;
      opened = o;
      product = b.for_it;
      name = b.name;
      right = b.right;
      pair = b.pair;
      wanted = b.wanted;
    }

-- how a line is opened, by its first blank
record Opened (number : ℕ) (line : List ℕ) : Type 0 where
  opening : Opening
  body : List ℕ
  opened : IsOpened line opening body

longer-in : (number : ℕ) (line word : List ℕ) (b : ℕ) (rest : List ℕ) → line ≡ word ++ b ∷ rest → list_all (λ c. not (is_blank c)) word ≡ true → is_blank b ≡ true →
    (opening : Opening) (body : List ℕ) (h : IsLonger line opening body) → h.word ≡ word
longer-in number line word b rest e f g opening body h =
    ap (λ s. s.0) (some-same (h.word, body) (word, rest) (sym (longer-cut line opening body h) ∙ (ap cut_blank e ∙ cut-read is_blank word b rest f g)))

opened-cut : (number : ℕ) (line word : List ℕ) (b : ℕ) (rest : List ℕ) → line ≡ word ++ b ∷ rest → list_all (λ c. not (is_blank c)) word ≡ true → is_blank b ≡ true → Opened number line
opened-cut number line word b rest e f g =
    by (bytes_eq word (codes "require")) refl (bytes_eq word (codes "reject")) refl (product_of word) refl
  where
    longer : (o : Opening) → IsOpener word o → IsLonger line o rest
    longer o q = record { word = word; opens = q; blank = b; is_blank = g; whole = e }

    none : bytes_eq word (codes "require") ≡ false → bytes_eq word (codes "reject") ≡ false → product_of word ≡ None →
        (o : Opening) → IsOpener word o → ⊥
    none x y z Unopened w = w
    none x y z Requires w = never (sym (ap (λ t. bytes_eq t (codes "require")) w) ∙ x)
    none x y z Rejects w = never (sym (ap (λ t. bytes_eq t (codes "reject")) w) ∙ y)
    none x y z (ForProduct product) w = apart (sym (ap product_of w.0 ∙ product-read product w.1) ∙ z) where
      apart : ◌≡◌ {A = Option (List ℕ)} (Some product) None → ⊥
      apart q = cc

    by : (x : Bool) → bytes_eq word (codes "require") ≡ x → (y : Bool) → bytes_eq word (codes "reject") ≡ y → (z : Option (List ℕ)) → product_of word ≡ z → Opened number line
    by true f1 y f2 z f3 = record { opening = Requires; body = rest; opened = longer Requires (bytes-same word (codes "require") f1) }
    by false f1 true f2 z f3 = record { opening = Rejects; body = rest; opened = longer Rejects (bytes-same word (codes "reject") f2) }
    by false f1 false f2 (Some product) f3 =
        record { opening = ForProduct product; body = rest; opened = longer (ForProduct product) (product-spelled word product f3) }
    by false f1 false f2 None f3 = record {
      opening = Unopened;
      body = line;
      opened = (refl, λ o body h. none f1 f2 f3 o (subst (λ w. IsOpener w o) (longer-in number line word b rest e f g o body h) h.opens));
    }

opened-is : (number : ℕ) (line : List ℕ) → Opened number line
opened-is number line = by (cut_blank line) refl (cut-is is_blank line) where
  by : (o : Option (List ℕ × List ℕ)) → cut_blank line ≡ o → Cut is_blank line o → Opened number line
  by None e c = record { opening = Unopened; body = line; opened = (refl, λ o body h. apart (h.word, body) (sym (longer-cut line o body h) ∙ e)) } where
    apart : (s : List ℕ × List ℕ) → ◌≡◌ {A = Option (List ℕ × List ℕ)} (Some s) None → ⊥
    apart s q = cc
  by (Some sides) e c = opened-cut number line sides.0 c.0 sides.1 c.3 c.1 c.2

pub requirements-spelled : (number : ℕ) (line : List ℕ) (r : Requirement) → requirement_of number line ≡ Some r → IsRequirementLine number line r
requirements-spelled number line r e =
    let o = opened-is number line in
    line-says number line o.opening o.body r o.opened (sym (opened-read number line o.opening o.body o.opened) ∙ e)
