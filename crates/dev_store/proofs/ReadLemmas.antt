-- Reading the lines one by one.
use Rattle.std.proofs.Common.{◌≡◌, ◌∙◌, refl, ap, sym, ℕ, ◌+◌, ◌≤◌, ◌<◌, Bool, true, false, not, List, [], ◌∷◌, ◌++◌, length, Option, Some, None, Ok, Err, if◌then◌else◌, option_map, unwrap_or, arith}
use Rattle.std.specs.Prelude.{bytes_eq, nat_lt, codes, ◌==◌}
use Rattle.std.proofs.lemmas.Bool.Decides.{nat_tests}
use Rattle.std.proofs.lemmas.List.{nil_from_length}
use Rattle.dev_model.specs.Options.{first_passed}
use Rattle.dev_store.specs.declared.entries.Entry.{Entry}
use Rattle.dev_store.specs.declared.layout.LayoutKind.{LayoutKind}
use Rattle.dev_store.specs.declared.layout.LayoutKind.TheVariants.{BadFirst, BadLine, BadSize, Duplicate, TooMany, NoRoom, Missing, TooLong}
use Rattle.dev_store.specs.declared.layout.LayoutError.{LayoutError}
use Rattle.dev_store.specs.LayoutLines.{entry_of, entry_flaw, is_sized, is_repeated, is_too_many, has_room, lines}
use Rattle.dev_store.specs.Layouts.{layout_of, layout_with, read_lines, added, unless_flawed, at_line, is_complete, entries_of, with_text}
use Rattle.dev_store.specs.declared.layout_draft.Draft.{Draft}
use Rattle.dev_store.specs.Drafts.{Gathers, drafted}
use Rattle.dev_store.specs.LineReading.{IsGoneOn, IsStopped}

pub line-added : (number : ℕ) (line : List ℕ) (entry : Entry) (old : List Entry) → entry_of line ≡ Some entry → entry_flaw old entry ≡ None →
    IsGoneOn number (Some line) old (old ++ entry ∷ [])
line-added number line entry old e f = λ rest.
    ap (λ o. added number old o (λ entries. read_lines (number + 1) entries rest)) e
    ∙ ap (λ o. unless_flawed number o (read_lines (number + 1) (old ++ entry ∷ []) rest)) f

pub line-formless : (number : ℕ) (line : List ℕ) (old : List Entry) → entry_of line ≡ None → IsStopped number (Some line) old (at_line number BadLine)
line-formless number line old e = λ rest. ap (λ o. added number old o (λ entries. read_lines (number + 1) entries rest)) e

pub line-flawed : (number : ℕ) (line : List ℕ) (entry : Entry) (old : List Entry) (kind : LayoutKind) → entry_of line ≡ Some entry → entry_flaw old entry ≡ Some kind →
    IsStopped number (Some line) old (at_line number kind)
line-flawed number line entry old kind e f = λ rest.
    ap (λ o. added number old o (λ entries. read_lines (number + 1) entries rest)) e
    ∙ ap (λ o. unless_flawed number o (read_lines (number + 1) (old ++ entry ∷ []) rest)) f

unsized-flaw : (old : List Entry) (entry : Entry) → is_sized entry ≡ false → entry_flaw old entry ≡ Some BadSize
unsized-flaw old entry h =
    ap (λ t. first_passed ((not t, BadSize) ∷ (is_repeated old entry, Duplicate) ∷ (is_too_many old entry, TooMany) ∷ (not (has_room entry), NoRoom) ∷ [])) h

sizeless : (number : ℕ) (line : List ℕ) (old : List Entry) (o : Option Entry) → entry_of line ≡ o → option_map is_sized o ≡ Some false → IsStopped number (Some line) old (at_line number BadSize)
sizeless number line old None e h = absurd cc
sizeless number line old (Some entry) e h = line-flawed number line entry old BadSize e (unsized-flaw old entry (let k : is_sized entry ≡ false = cc in k))

pub line-sizeless : (number : ℕ) (line : List ℕ) (old : List Entry) → option_map is_sized (entry_of line) ≡ Some false → IsStopped number (Some line) old (at_line number BadSize)
line-sizeless number line old h = sizeless number line old (entry_of line) refl h

pub no-lines : (text : List ℕ) → length text ≡ 0 → lines text ≡ []
unfolding lines
no-lines text h = ap lines (nil_from_length text h)

complete : (b : Bool) (entries : List Entry) (bad : LayoutError) → b ≡ true → (if b then Ok entries else Err bad) ≡ Ok entries
complete true entries bad h = refl
complete false entries bad h = absurd cc

lacking : (b : Bool) (entries : List Entry) (bad : LayoutError) → b ≡ false → (if b then Ok entries else Err bad) ≡ Err bad
lacking true entries bad h = absurd cc
lacking false entries bad h = refl

pub ends-well : (number : ℕ) (entries : List Entry) (text : List ℕ) → length text ≡ 0 → is_complete entries ≡ true → read_lines number entries (lines text) ≡ Ok entries
ends-well number entries text h k = ap (read_lines number entries) (no-lines text h) ∙ complete (is_complete entries) entries (at_line number Missing) k

pub ends-short : (number : ℕ) (entries : List Entry) (text : List ℕ) → length text ≡ 0 → is_complete entries ≡ false → read_lines number entries (lines text) ≡ Err (at_line number Missing)
ends-short number entries text h k = ap (read_lines number entries) (no-lines text h) ∙ lacking (is_complete entries) entries (at_line number Missing) k

-- the whole text
pub text-long : (text : List ℕ) → 4096 < length text → layout_of text ≡ Err (at_line 0 TooLong)
unfolding layout_of
text-long text h = by (nat_lt 4096 (length text)) (grind (arith, nat_tests)) where
  by : (b : Bool) → b ≡ true → (if b then Err (at_line 0 TooLong) else with_text text (entries_of (lines text))) ≡ Err (at_line 0 TooLong)
  by true k = refl
  by false k = absurd cc

text-short : (text : List ℕ) → length text ≤ 4096 → layout_of text ≡ with_text text (entries_of (lines text))
unfolding layout_of
text-short text h = by (nat_lt 4096 (length text)) (grind (arith, nat_tests)) where
  by : (b : Bool) → b ≡ false → (if b then Err (at_line 0 TooLong) else with_text text (entries_of (lines text))) ≡ with_text text (entries_of (lines text))
  by true k = absurd cc
  by false k = refl

unstarted : (n : ℕ) → entries_of (if n == 0 then [] else None ∷ []) ≡ Err (at_line 1 BadFirst)
unstarted n = by (n == 0) where
  by : (b : Bool) → entries_of (if b then [] else None ∷ []) ≡ Err (at_line 1 BadFirst)
  by true = refl
  by false = refl

pub text-unstarted : (text : List ℕ) → length text ≤ 4096 → lines text ≡ (if length text == 0 then [] else None ∷ []) → layout_of text ≡ Err (at_line 1 BadFirst)
text-unstarted text h e = text-short text h ∙ ap (with_text text) (ap entries_of e ∙ unstarted (length text))

begun : (text first rest : List ℕ) → length text ≤ 4096 → lines text ≡ Some first ∷ lines rest →
    layout_of text ≡ with_text text (if bytes_eq first (codes "fbdevice 1") then read_lines 2 [] (lines rest) else Err (at_line 1 BadFirst))
begun text first rest h e = text-short text h ∙ ap (λ l. with_text text (entries_of l)) e

pub text-otherwise : (text first rest : List ℕ) → length text ≤ 4096 → lines text ≡ Some first ∷ lines rest → bytes_eq first (codes "fbdevice 1") ≡ false →
    layout_of text ≡ Err (at_line 1 BadFirst)
text-otherwise text first rest h e k = begun text first rest h e ∙ ap (λ b. with_text text (if b then read_lines 2 [] (lines rest) else Err (at_line 1 BadFirst))) k

pub text-says : (text first rest : List ℕ) (entries : List Entry) → length text ≤ 4096 → lines text ≡ Some first ∷ lines rest → bytes_eq first (codes "fbdevice 1") ≡ true →
    read_lines 2 [] (lines rest) ≡ Ok entries → layout_of text ≡ Ok (layout_with text entries)
text-says text first rest entries h e k r =
    begun text first rest h e
    ∙ (ap (λ b. with_text text (if b then read_lines 2 [] (lines rest) else Err (at_line 1 BadFirst))) k ∙ ap (with_text text) r)

pub text-fails : (text first rest : List ℕ) (bad : LayoutError) → length text ≤ 4096 → lines text ≡ Some first ∷ lines rest → bytes_eq first (codes "fbdevice 1") ≡ true →
    read_lines 2 [] (lines rest) ≡ Err bad → layout_of text ≡ Err bad
text-fails text first rest bad h e k r =
    begun text first rest h e
    ∙ (ap (λ b. with_text text (if b then read_lines 2 [] (lines rest) else Err (at_line 1 BadFirst))) k ∙ ap (with_text text) r)

pub drafted-same : (text : List ℕ) (draft : Draft) (entries : List Entry) → Gathers draft entries → drafted text draft ≡ layout_with text entries
drafted-same text draft entries g = λ i. record {
  text = text;
  product = unwrap_or (g.product i) [];
  serial = unwrap_or (g.serial i) [];
  vars = g.vars i;
  slots = unwrap_or (g.slots i) 0;
  max = unwrap_or (g.max i) 0;
  physical = g.physical i;
  super_part = g.super_part i;
}

pub text-drafted : (text first rest : List ℕ) (entries : List Entry) (draft : Draft) → length text ≤ 4096 → lines text ≡ Some first ∷ lines rest →
    bytes_eq first (codes "fbdevice 1") ≡ true → read_lines 2 [] (lines rest) ≡ Ok entries → Gathers draft entries → layout_of text ≡ Ok (drafted text draft)
text-drafted text first rest entries draft h e k r g = text-says text first rest entries h e k r ∙ ap Ok (sym (drafted-same text draft entries g))

pub ruleset ended = (ends-well, ends-short)

pub ruleset texts = (text-long, text-unstarted, text-otherwise, text-fails, text-drafted)
