-- The text of an image's first block is the layout's: a text that gives a layout ends with a line feed.
use Rattle.std.proofs.Common.{◌≡◌, ◌∙◌, refl, ap, sym, ℕ, ◌+◌, ◌-◌, ◌<◌, ◌≤◌, Bool, true, false, cond, List, [], ◌∷◌, ◌++◌, length, take, get_or, Option, Some, None, Result, Ok, Err, ◌==◌, if◌then◌else◌, arith, append_assoc, length-append}
use Rattle.std.specs.Prelude.{is_some, nat_lt, bytes_eq, codes, option_and_then}
use Rattle.std.specs.List.{list_all, slice_split, onto_first, suffix_len}
use Rattle.std.proofs.Math.Seq.{get_or-append_seam}
use Rattle.std.proofs.lemmas.List.{take_at, length-replicate, get_or-append_right, get_or-replicate}
use Rattle.std.proofs.lemmas.List.Splits.{length-slice_split}
use Rattle.std.proofs.lemmas.List.Sums.{suffix_len_is}
use Rattle.std.proofs.lemmas.Bool.Decides.{nat_tests}
use Rattle.fb_frame.specs.Bytes.{zeros}
use Rattle.super_meta.specs.Entries.{is_zero}
use Rattle.dev_model.proofs.Valid.{and-true}
use Rattle.dev_store.specs.declared.layout.LayoutKind.{LayoutKind}
use Rattle.dev_store.specs.declared.layout.LayoutKind.TheVariants.{TooLong}
use Rattle.dev_store.specs.declared.layout.LayoutError.{LayoutError}
use Rattle.dev_store.specs.declared.entries.Entry.{Entry}
use Rattle.dev_store.specs.LayoutLines.{is_feed, whole_lines, lines, entry_of, entry_flaw}
use Rattle.dev_store.specs.Layouts.{LayoutValue, layout_of, layout_with, with_text, entries_of, read_lines, added, unless_flawed, at_line, text_in}

-- the last byte is a line feed; of no bytes as is said
abbrev ended : Bool → List ℕ → Bool
ended b [] = b
ended b (x ∷ xs) = ended (is_feed x) xs

not-none : {X : Type 0} (x : X) (xs : List X) → (length (x ∷ xs) == 0) ≡ false
not-none x xs = let long : 0 < length (x ∷ xs) = omega arith in grind (arith, nat_tests)

-- the parts of a text, with and without a byte before them
abbrev WholeAre : List (List ℕ) → Bool → Type 0
WholeAre parts b = list_all is_some (whole_lines parts) ≡ b

-- a last line without its line feed, or none
abbrev last_line : Bool → List (Option (List ℕ))
last_line none = if none then [] else None ∷ []

whole-step : (b : Bool) (y : ℕ) (parts : List (List ℕ)) (e : Bool → Bool) → 0 < length parts → WholeAre parts (e true) → WholeAre (onto_first y parts) (e false) →
    WholeAre (cond b ([] ∷ parts) (onto_first y parts)) (e b)
whole-step true y [] e n h k = absurd (omega (arith, n))
whole-step true y (p ∷ ps) e n h k = h
whole-step false y parts e n h k = k

begun-step : (b : Bool) (x y : ℕ) (parts : List (List ℕ)) (e : Bool → Bool) → 0 < length parts → WholeAre parts (e true) → WholeAre (onto_first y parts) (e false) →
    WholeAre (onto_first x (cond b ([] ∷ parts) (onto_first y parts))) (e b)
begun-step true x y [] e n h k = absurd (omega (arith, n))
begun-step true x y (p ∷ ps) e n h k = h
begun-step false x y [] e n h k = absurd (omega (arith, n))
begun-step false x y (p ∷ []) e n h k =
    ap (λ none. list_all is_some (last_line none)) (not-none x (y ∷ p))
    ∙ (sym (ap (λ none. list_all is_some (last_line none)) (not-none y p)) ∙ k)
begun-step false x y (p ∷ q ∷ ps) e n h k = k

parts-some : (text : List ℕ) → 0 < length (slice_split is_feed text)
parts-some text = omega (arith, length-slice_split is_feed text)

-- each line of a text ends exactly where the text ends with a line feed, or is empty
record AreEnded (text : List ℕ) : Type 0 where
  pub whole : WholeAre (slice_split is_feed text) (ended true text)
  pub begun : (x : ℕ) → WholeAre (onto_first x (slice_split is_feed text)) (ended false text)

are-ended : (text : List ℕ) → AreEnded text
are-ended [] = record { whole = refl; begun = λ x. refl }
are-ended (y ∷ ys) =
    let h = are-ended ys in
    let n = parts-some ys in
    record {
      whole = whole-step (is_feed y) y (slice_split is_feed ys) (λ b. ended b ys) n h.whole (h.begun y);
      begun = λ x. begun-step (is_feed y) x y (slice_split is_feed ys) (λ b. ended b ys) n h.whole (h.begun y);
    }

-- a text with a line feed at its end
pub record IsEnded (text : List ℕ) : Type 0 where
  pub front : List ℕ
  pub whole : text ≡ front ++ 10 ∷ []

same-if : (a b : ℕ) → (a == b) ≡ true → a ≡ b
same-if a b h = grind (arith, nat_tests)

last-feed : (b : Bool) (x : ℕ) (xs : List ℕ) → ended b (x ∷ xs) ≡ true → IsEnded (x ∷ xs)
last-feed b x [] h = record { front = []; whole = ap (λ y. y ∷ []) (same-if x 10 h) }
last-feed b x (y ∷ ys) h =
    let e = last-feed (is_feed x) y ys h in record { front = x ∷ e.front; whole = ap (λ l. x ∷ l) e.whole }

-- a line that is added is one
record IsAdded (entries before : List Entry) (o : Option Entry) (more : List Entry → Result (List Entry) LayoutError) : Type 0 where
  pub entry : Entry
  pub there : o ≡ Some entry
  pub rest : more (before ++ entry ∷ []) ≡ Ok entries

unflawed : (number : ℕ) (flaw : Option LayoutKind) (more : Result (List Entry) LayoutError) (entries : List Entry) → unless_flawed number flaw more ≡ Ok entries → more ≡ Ok entries
unflawed number None more entries h = h
unflawed number (Some kind) more entries h = absurd cc

is-added : (number : ℕ) (entries before : List Entry) (o : Option Entry) (more : List Entry → Result (List Entry) LayoutError) → added number before o more ≡ Ok entries →
    IsAdded entries before o more
is-added number entries before None more h = absurd cc
is-added number entries before (Some entry) more h =
    record { entry = entry; there = refl; rest = unflawed number (entry_flaw before entry) (more (before ++ entry ∷ [])) entries h }

line-some : (line : Option (List ℕ)) (entry : Entry) → option_and_then entry_of line ≡ Some entry → is_some line ≡ true
line-some None entry h = absurd cc
line-some (Some line) entry h = refl

read-some : (number : ℕ) (before entries : List Entry) (rest : List (Option (List ℕ))) → read_lines number before rest ≡ Ok entries → list_all is_some rest ≡ true
read-some number before entries [] h = refl
read-some number before entries (line ∷ rest) h =
    let a = is-added number entries before (option_and_then entry_of line) (λ next. read_lines (number + 1) next rest) h in
    and-true (is_some line) (list_all is_some rest) (line-some line a.entry a.there) (read-some (number + 1) (before ++ a.entry ∷ []) entries rest a.rest)

-- the lines that say something are whole, and there are some
record AreLines (all : List (Option (List ℕ))) : Type 0 where
  pub whole : list_all is_some all ≡ true
  pub some : 0 < length all

first-line : (b : Bool) (line : List ℕ) (rest : List (Option (List ℕ))) (entries : List Entry) (bad : LayoutError) → (if b then read_lines 2 [] rest else Err bad) ≡ Ok entries → AreLines (Some line ∷ rest)
first-line true line rest entries bad h = record { whole = read-some 2 [] entries rest h; some = omega arith }
first-line false line rest entries bad h = absurd cc

are-lines : (all : List (Option (List ℕ))) (entries : List Entry) → entries_of all ≡ Ok entries → AreLines all
are-lines [] entries h = absurd cc
are-lines (None ∷ rest) entries h = absurd cc
are-lines (Some line ∷ rest) entries h = first-line (bytes_eq line (codes "fbdevice 1")) line rest entries _ h

-- what there is of a text that gives a layout
pub record IsText (text : List ℕ) (layout : LayoutValue) : Type 0 where
  pub short : length text ≤ 4096
  pub same : layout.text ≡ text
  pub ended_so : IsEnded text

of-lines : (text : List ℕ) → AreLines (whole_lines (slice_split is_feed text)) → IsEnded text
of-lines [] h = absurd (omega (arith, h.some))
of-lines (x ∷ xs) h = last-feed true x xs (sym (are-ended (x ∷ xs)).whole ∙ h.whole)

ok-text : (layout : LayoutValue) (text : List ℕ) (r : Result (List Entry) LayoutError) → with_text text r ≡ Ok layout → layout.text ≡ text
ok-text layout text (Ok entries) h = ap (λ (l : LayoutValue). l.text) (ok-same layout (layout_with text entries) (sym h))
  where
    ok-same : (a b : LayoutValue) → (let x : Result LayoutValue LayoutError = Ok a in x) ≡ Ok b → a ≡ b
    ok-same a b e = cc
ok-text layout text (Err bad) h = absurd cc

ok-entries : (layout : LayoutValue) (text : List ℕ) (all : List (Option (List ℕ))) (r : Result (List Entry) LayoutError) → entries_of all ≡ r → with_text text r ≡ Ok layout → AreLines all
ok-entries layout text all (Ok entries) e h = are-lines all entries e
ok-entries layout text all (Err bad) e h = absurd cc

short-if : (n : ℕ) → nat_lt 4096 n ≡ false → n ≤ 4096
short-if n h = grind (arith, nat_tests)

pub text-of : (text : List ℕ) (layout : LayoutValue) → layout_of text ≡ Ok layout → IsText text layout
unfolding layout_of lines
text-of text layout h = by-length (nat_lt 4096 (length text)) refl h
  where
    by-length : (long : Bool) → nat_lt 4096 (length text) ≡ long → (if long then Err (at_line 0 TooLong) else with_text text (entries_of (whole_lines (slice_split is_feed text)))) ≡ Ok layout → IsText text layout
    by-length true e g = absurd cc
    by-length false e g = record {
      short = short-if (length text) e;
      same = ok-text layout text (entries_of (whole_lines (slice_split is_feed text))) g;
      ended_so = of-lines text (ok-entries layout text (whole_lines (slice_split is_feed text)) (entries_of (whole_lines (slice_split is_feed text))) refl g);
    }

zeros-read : (n i : ℕ) → i < n → get_or (zeros n) i 0 ≡ 0
unfolding zeros
zeros-read n i h = get_or-replicate n i 0 0 h

pub length-zeros : (n : ℕ) → length (zeros n) ≡ n
unfolding zeros
length-zeros n = length-replicate {A = ℕ} n 0

-- the text with zeros after it is read as the text
pub text-again : (text : List ℕ) (n : ℕ) → IsEnded text → text_in (text ++ zeros n) ≡ text
text-again text n e =
    let block = text ++ zeros n in
    let long : length block ≡ length text + n = length-append text (zeros n) ∙ ap (λ k. length text + k) (length-zeros n) in
    let seam : length text ≡ length e.front + 1 = ap length e.whole ∙ length-append e.front (10 ∷ []) in
    let grouped : block ≡ e.front ++ 10 ∷ zeros n = ap (λ t. t ++ zeros n) e.whole ∙ append_assoc e.front (10 ∷ []) (zeros n) in
    let place : length text - 1 ≡ length e.front = omega (arith, seam) in
    let last : get_or block (length text - 1) 0 ≡ 10 = ap (λ b. get_or b (length text - 1) 0) grouped ∙ (ap (λ k. get_or (e.front ++ 10 ∷ zeros n) k 0) place ∙ get_or-append_seam e.front 10 (zeros n) 0) in
    let count : suffix_len is_zero block ≡ length block - length text = suffix_len_is is_zero block (length text) 0 (omega (arith, long))
    (λ k from below. ap is_zero (get_or-append_right text (zeros n) (length text) k 0 refl from ∙ zeros-read n (k - length text) (omega (arith, long, from, below))))
    (λ some. ap is_zero last) in
    let front : length block - suffix_len is_zero block ≡ length text = omega (arith, count, long) in
    ap (λ k. take k block) front ∙ take_at text (zeros n) (length text) refl
