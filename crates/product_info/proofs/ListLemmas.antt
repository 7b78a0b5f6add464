-- Values with `|` between them.
use Rattle.std.proofs.Common.{◌≡◌, ℕ, Bool, true, false, List, [], ◌∷◌, ◌++◌, refl, sym, ◌∙◌, ap, subst, Some, None, Option}
use Rattle.std.specs.Prelude.{not, ◌==◌, if◌then◌else◌}
use Rattle.std.specs.List.{list_all, slice_split, onto_first, join_with_byte, AllByRecursion}
use Rattle.std.proofs.lemmas.List.Splits.{slice_split-cons_no, slice_split-cons_yes, join_with_byte-slice_split}
use Rattle.fb_frame.specs.NameText.{is_word, word_of}
use Rattle.product_info.specs.Blanks.{is_blank, trimmed, parts}
use Rattle.product_info.specs.Grammar.{AreBlanks, IsPadded, IsValue, AreListed}
use Rattle.product_info.specs.RequirementText.{value_then, values_in, values_of}
use Rattle.product_info.proofs.WordLemmas.{both, and-true, not-true, split-alone, split-first}
use Rattle.product_info.proofs.FormLemmas.{nat-same}
use Rattle.product_info.proofs.TrimLemmas.{all-append, all-imply, trim-padded, trimmed-is, trimmed-padded, trimmed-front, trimmed-back}

abbrev is_bar : ℕ → Bool
is_bar b = b == 124

-- a blank isn't this byte
pub blank-other : (c : ℕ) → is_blank c ≡ false → (b : ℕ) → is_blank b ≡ true → not (b == c) ≡ true
blank-other c h b e = by (b == c) refl where
  never : true ≡ false → ⊥
  never q = cc

  by : (t : Bool) → (b == c) ≡ t → not t ≡ true
  by true f = absurd (never (sym e ∙ (ap is_blank (nat-same b c f) ∙ h)))
  by false f = refl

no-bar : (xs : List ℕ) → AreBlanks xs → list_all (λ b. not (is_bar b)) xs ≡ true
no-bar xs h = all-imply is_blank (λ b. not (is_bar b)) (blank-other 124 refl) xs h

padded-bars : (text value : List ℕ) → IsValue value → IsPadded text value → list_all (λ b. not (is_bar b)) text ≡ true
padded-bars text value h p =
    subst (λ t. list_all (λ b. not (is_bar b)) t ≡ true) (sym p.2)
    (all-append (λ b. not (is_bar b)) p.0 (value ++ p.1) (no-bar p.0 p.3)
    (all-append (λ b. not (is_bar b)) value p.1 h.bars (no-bar p.1 p.4)))

value-read : (text value : List ℕ) (more : Option (List (List ℕ))) → IsValue value → IsPadded text value →
    value_then (word_of (trimmed text)) more ≡ value_then (Some value) more
value-read text value more h p =
    ap (λ t. value_then (word_of t) more) (trim-padded text value p.0 p.1 p.2 p.3 p.4 h.first h.last)
    ∙ ap (λ b. value_then (if b then Some value else None) more) h.word

pub listed-read : (values : List (List ℕ)) (text : List ℕ) → AreListed text values → values_of text ≡ Some values
unfolding parts
listed-read [] text h = absurd h
listed-read (value ∷ []) text h =
    ap values_in (split-alone is_bar text (padded-bars text value h.0 h.1)) ∙ value-read text value (Some []) h.0 h.1
listed-read (value ∷ next ∷ values) text h =
    ap values_in (ap (slice_split is_bar) h.2 ∙ split-first is_bar h.0 124 h.1 (padded-bars h.0 value h.3 h.4) refl)
    ∙ (value-read h.0 value (values_in (slice_split is_bar h.1)) h.3 h.4
    ∙ ap (value_then (Some value)) (listed-read (next ∷ values) h.1 h.5))

-- a part has no `|`
abbrev IsClean : List ℕ → Type 0
IsClean part = list_all (λ b. not (is_bar b)) part ≡ true

abbrev AreClean : List (List ℕ) → Type 0
AreClean parts = AllByRecursion IsClean parts

clean-first : (b : ℕ) (parts : List (List ℕ)) → is_bar b ≡ false → AreClean parts → AreClean (onto_first b parts)
clean-first b [] e h = (and-true (not (is_bar b)) true (ap not e) refl, tt)
clean-first b (part ∷ parts) e h = (and-true (not (is_bar b)) (list_all (λ c. not (is_bar c)) part) (ap not e) h.0, h.1)

clean : (text : List ℕ) → AreClean (slice_split is_bar text)
clean [] = (refl, tt)
clean (b ∷ rest) = by (clean rest) (is_bar b) refl where
  by : AreClean (slice_split is_bar rest) → (t : Bool) → is_bar b ≡ t → AreClean (slice_split is_bar (b ∷ rest))
  by h true e = subst AreClean (sym (slice_split-cons_yes is_bar b rest e)) (refl, h)
  by h false e = subst AreClean (sym (slice_split-cons_no is_bar b rest e)) (clean-first b (slice_split is_bar rest) e h)

-- there is a first part
record Some_parts (all : List (List ℕ)) : Type 0 where
  part : List ℕ
  parts : List (List ℕ)
  are : all ≡ part ∷ parts

some-first : (b : ℕ) (all : List (List ℕ)) → Some_parts (onto_first b all)
some-first b [] = record { part = b ∷ []; parts = []; are = refl }
some-first b (part ∷ parts) = record { part = b ∷ part; parts = parts; are = refl }

some-parts : (p : ℕ → Bool) (text : List ℕ) → Some_parts (slice_split p text)
some-parts p [] = record { part = []; parts = []; are = refl }
some-parts p (b ∷ rest) = by (p b) where
  by : (t : Bool) → Some_parts (if t then [] ∷ slice_split p rest else onto_first b (slice_split p rest))
  by true = record { part = []; parts = slice_split p rest; are = refl }
  by false = some-first b (slice_split p rest)

-- the value and the others that are read of parts
record Firsts (part : List ℕ) (more : Option (List (List ℕ))) (values : List (List ℕ)) : Type 0 where
  word : is_word (trimmed part) ≡ true
  others : List (List ℕ)
  read : more ≡ Some others
  are : values ≡ trimmed part ∷ others

firsts : (part : List ℕ) (more : Option (List (List ℕ))) (values : List (List ℕ)) → value_then (word_of (trimmed part)) more ≡ Some values → Firsts part more values
firsts part more values e = by (is_word (trimmed part)) refl more refl e where
  same : (xs : List (List ℕ)) → ◌≡◌ {A = Option (List (List ℕ))} (Some xs) (Some values) → values ≡ xs
  same xs q = cc

  by : (w : Bool) → is_word (trimmed part) ≡ w → (o : Option (List (List ℕ))) → more ≡ o →
      value_then (if w then Some (trimmed part) else None) o ≡ Some values → Firsts part more values
  by true f (Some others) g q = record { word = f; others = others; read = g; are = same (trimmed part ∷ others) q }
  by true f None g q = absurd cc
  by false f o g q = absurd cc

front-clean : (xs ys zs : List ℕ) → list_all (λ b. not (is_bar b)) (xs ++ (ys ++ zs)) ≡ true → list_all (λ b. not (is_bar b)) ys ≡ true
front-clean [] [] zs h = refl
front-clean [] (y ∷ ys) zs h =
    let q = both (not (is_bar y)) (list_all (λ b. not (is_bar b)) (ys ++ zs)) h in
    and-true (not (is_bar y)) (list_all (λ b. not (is_bar b)) ys) q.0 (front-clean [] ys zs q.1)
front-clean (x ∷ xs) ys zs h = front-clean xs ys zs (both (not (is_bar x)) (list_all (λ b. not (is_bar b)) (xs ++ (ys ++ zs))) h).1

value-is : (part : List ℕ) → IsClean part → is_word (trimmed part) ≡ true → IsValue (trimmed part)
value-is part h w =
    let t = trimmed-is part in
    record {
      word = w;
      bars = front-clean t.front (trimmed part) t.back (subst IsClean t.whole h);
      first = t.flush;
      last = t.ends;
    }

listed-next : (part more : List ℕ) (others values : List (List ℕ)) → IsClean part → is_word (trimmed part) ≡ true → values ≡ trimmed part ∷ others →
    AreListed more others → AreListed (part ++ 124 ∷ more) values
listed-next part more [] values c w e h = absurd h
listed-next part more (next ∷ others) values c w e h =
    subst (AreListed (part ++ 124 ∷ more)) (sym e) (part, more, refl, value-is part c w, trimmed-padded part, h)

listed-last : (part : List ℕ) (others values : List (List ℕ)) → IsClean part → is_word (trimmed part) ≡ true → values ≡ trimmed part ∷ others →
    ◌≡◌ {A = Option (List (List ℕ))} (Some []) (Some others) → AreListed part values
listed-last part [] values c w e f = subst (AreListed part) (sym e) (value-is part c w, trimmed-padded part)
listed-last part (next ∷ others) values c w e f = absurd (none f) where
  none : ◌≡◌ {A = Option (List (List ℕ))} (Some []) (Some (next ∷ others)) → ⊥
  none q = cc

joined : (part : List ℕ) (parts : List (List ℕ)) (values : List (List ℕ)) → AreClean (part ∷ parts) → values_in (part ∷ parts) ≡ Some values →
    AreListed (join_with_byte 124 (part ∷ parts)) values
joined part [] values c e =
    let f = firsts part (Some []) values e in listed-last part f.others values c.0 f.word f.are f.read
joined part (next ∷ parts) values c e =
    let f = firsts part (values_in (next ∷ parts)) values e in
    listed-next part (join_with_byte 124 (next ∷ parts)) f.others values c.0 f.word f.are (joined next parts f.others c.1 f.read)

pub listed-spelled : (text : List ℕ) (values : List (List ℕ)) → values_of text ≡ Some values → AreListed text values
unfolding parts
listed-spelled text values e =
    let s = some-parts is_bar text in
    subst (λ t. AreListed t values) (ap (join_with_byte 124) (sym s.are) ∙ join_with_byte-slice_split 124 text)
    (joined s.part s.parts values (subst AreClean s.are (clean text)) (ap values_in (sym s.are) ∙ e))

-- Blanks at the ends of a list are no part of a value.
values-first : (b : ℕ) (all : List (List ℕ)) → is_blank b ≡ true → Some_parts all → values_in (onto_first b all) ≡ values_in all
values-first b all e h =
    ap (λ x. values_in (onto_first b x)) h.are
    ∙ (ap (λ t. value_then (word_of t) (values_in h.parts)) (trimmed-front b h.part e) ∙ ap values_in (sym h.are))

front-same : (front text : List ℕ) → AreBlanks front → values_of (front ++ text) ≡ values_of text
unfolding parts
front-same [] text h = refl
front-same (b ∷ front) text h =
    let q = both (is_blank b) (list_all is_blank front) h in
    ap values_in (slice_split-cons_no is_bar b (front ++ text) (not-true (is_bar b) (blank-other 124 refl b q.0)))
    ∙ (values-first b (slice_split is_bar (front ++ text)) q.0 (some-parts is_bar (front ++ text)) ∙ front-same front text q.1)

abbrev onto_last : List ℕ → List (List ℕ) → List (List ℕ)
onto_last back [] = back ∷ []
onto_last back (part ∷ []) = (part ++ back) ∷ []
onto_last back (part ∷ next ∷ parts) = part ∷ onto_last back (next ∷ parts)

last-yes : (back : List ℕ) (all : List (List ℕ)) → Some_parts all → [] ∷ onto_last back all ≡ onto_last back ([] ∷ all)
last-yes back all h =
    ap (λ x. [] ∷ onto_last back x) h.are ∙ ap (λ x. onto_last back ([] ∷ x)) (sym h.are)

last-no : (b : ℕ) (back : List ℕ) (all : List (List ℕ)) → onto_first b (onto_last back all) ≡ onto_last back (onto_first b all)
last-no b back [] = refl
last-no b back (part ∷ []) = refl
last-no b back (part ∷ next ∷ parts) = refl

split-back : (text back : List ℕ) → list_all (λ b. not (is_bar b)) back ≡ true → slice_split is_bar (text ++ back) ≡ onto_last back (slice_split is_bar text)
split-back [] back h = split-alone is_bar back h
split-back (b ∷ text) back h = by (split-back text back h) (is_bar b) refl where
  by : slice_split is_bar (text ++ back) ≡ onto_last back (slice_split is_bar text) → (t : Bool) → is_bar b ≡ t →
      slice_split is_bar (b ∷ (text ++ back)) ≡ onto_last back (slice_split is_bar (b ∷ text))
  by f true e =
      slice_split-cons_yes is_bar b (text ++ back) e
      ∙ (ap (λ x. [] ∷ x) f ∙ (last-yes back (slice_split is_bar text) (some-parts is_bar text)
      ∙ ap (onto_last back) (sym (slice_split-cons_yes is_bar b text e))))
  by f false e =
      slice_split-cons_no is_bar b (text ++ back) e
      ∙ (ap (onto_first b) f ∙ (last-no b back (slice_split is_bar text) ∙ ap (onto_last back) (sym (slice_split-cons_no is_bar b text e))))

values-last : (back : List ℕ) (part : List ℕ) (parts : List (List ℕ)) → AreBlanks back → values_in (onto_last back (part ∷ parts)) ≡ values_in (part ∷ parts)
values-last back part [] h = ap (λ t. value_then (word_of t) (Some [])) (trimmed-back part back h)
values-last back part (next ∷ parts) h = ap (value_then (word_of (trimmed part))) (values-last back next parts h)

back-same : (text back : List ℕ) → AreBlanks back → values_of (text ++ back) ≡ values_of text
unfolding parts
back-same text back h =
    let s = some-parts is_bar text in
    ap values_in (split-back text back (no-bar back h) ∙ ap (onto_last back) s.are)
    ∙ (values-last back s.part s.parts h ∙ ap values_in (sym s.are))

pub values-trimmed : (text : List ℕ) → values_of (trimmed text) ≡ values_of text
values-trimmed text =
    let t = trimmed-is text in
    sym (ap values_of t.whole ∙ (front-same t.front (trimmed text ++ t.back) t.before ∙ back-same (trimmed text) t.back t.after))
