-- The layout of a file, and the image that is made of it.
use Rattle.std.proofs.Common.{◌≡◌, ◌∙◌, sym, ap, subst, ℕ, ◌<◌, true, List, take, length, Option, Some, None, option_map, Result, Err, arith, if◌then◌else◌}
use Rattle.std.specs.Prelude.{nat_lt}
use Rattle.std.proofs.lemmas.Bool.Decides.{nat_tests}
use Rattle.std.proofs.lemmas.List.{take_all}
use Rattle.dev_disk.specs.Calls.{HasLength, OpensPath}
use Rattle.dev_disk.specs.Files.{Files, content, IsRead}
use Rattle.dev_disk.specs.Disks.{DiskTold, Opens, open_bytes}
use Rattle.dev_store.specs.declared.layout.LayoutKind.TheVariants.{TooLong}
use Rattle.dev_store.specs.declared.layout.LayoutError.{LayoutError}
use Rattle.dev_store.specs.Layouts.{LayoutValue, layout_of, at_line, entries_of, with_text}
use Rattle.dev_store.specs.LayoutLines.{lines}
use Rattle.device_jobs.specs.Outcomes.{Outcome, BadLayout, laid, laid_as, make_outcome}
use Rattle.device_jobs.specs.Working.{IsOutcome}

long-text : (text : List ℕ) → 4096 < length text → layout_of text ≡ Err (at_line 0 TooLong)
unfolding layout_of
long-text text h =
    let long : nat_lt 4096 (length text) ≡ true = grind (arith, nat_tests) in
    ap (λ b. if b then Err (at_line 0 TooLong) else with_text text (entries_of (lines text))) long

-- a file that is too long
pub too-long : (files : Option Files) (path : List ℕ) (size : ℕ) → HasLength files path (Some size) → 4096 < size → IsOutcome (make_outcome files path) (BadLayout (at_line 0 TooLong))
too-long None path size h l = tt
too-long (Some f) path size h l = by (f path) h where
  by : (o : Option (List ℕ)) → Some size ≡ option_map length o → laid o ≡ BadLayout (at_line 0 TooLong)
  by None e = absurd cc
  by (Some text) e = let is : size ≡ length text = cc in ap laid_as (long-text text (subst (λ n. 4096 < n) is l))

-- the bytes that were read are those of the file
whole-read : (o : Option (List ℕ)) (size : ℕ) (text : List ℕ) (r : Result LayoutValue LayoutError) → Some size ≡ option_map length o → length text ≡ size → IsRead o 0 text → layout_of text ≡ r → laid o ≡ laid_as r
whole-read None size text r e l h k = absurd cc
whole-read (Some file) size text r e l h k =
    let is : size ≡ length file = cc in
    let same : text ≡ file = h ∙ (ap (λ n. take n file) (l ∙ is) ∙ take_all (length file) file (omega arith)) in
    ap laid_as (ap layout_of (sym same) ∙ k)

at-path : (path text : List ℕ) (f : Files) (p : Option (List ℕ)) → p ≡ Some path → IsRead (content (Some f) p) 0 text → IsRead (f path) 0 text
unfolding content
at-path path text f None e h = absurd cc
at-path path text f (Some q) e h = let same : q ≡ path = cc in subst (λ x. IsRead (f x) 0 text) same h

pub layout-read : (old mid : DiskTold) (path : List ℕ) (size : ℕ) (text : List ℕ) (r : Result LayoutValue LayoutError) → Opens old mid path (Some size) → length text ≡ size → IsRead (open_bytes mid) 0 text → layout_of text ≡ r →
    (outcome : Outcome) → laid_as r ≡ outcome → IsOutcome (make_outcome old.files path) outcome
layout-read old mid path size text r o l h k outcome is =
    by old.files o.found o.path_open (subst (λ files. IsRead (content files mid.open_path) 0 text) o.files h) where
      by : (files : Option Files) → HasLength files path (Some size) → OpensPath files old.open_path mid.open_path path (Some size) → IsRead (content files mid.open_path) 0 text → IsOutcome (make_outcome files path) outcome
      by None found path_open h = tt
      by (Some f) found path_open h = whole-read (f path) size text r found l (at-path path text f mid.open_path path_open h) k ∙ is
