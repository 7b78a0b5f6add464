-- Lists of files: what stands at a place after a write there, and after a file more.
use Rattle.std.proofs.Common.{arith, ◌≡◌, ◌≢◌, ℕ, zero, suc, ◌+◌, ◌<◌, ◌≤◌, Bool, true, false, cond, List, [], ◌∷◌, ◌++◌, length, length-append, get_or, take, drop, Option, Vec, Some, None, refl, ap, sym, ◌∙◌, subst, option_map}
use Rattle.std.proofs.Math.ListN.{set, length-set, get_or-append}
use Rattle.std.proofs.lemmas.Bool.Decides.{nat_tests}
use Rattle.std.proofs.lemmas.List.Sums.{prefix_len-le-length}
use Rattle.std.proofs.Math.Dec.{eqb}
use Rattle.std.proofs.lemmas.List.{get_or-set_same}
use Rattle.std.specs.Str.{bytes_eq}
use Rattle.std.specs.Prelude.{nat_lt, find, slice_get, not}
use Rattle.std.specs.Option.{option_map_or, option_or}
use Rattle.std.specs.List.{position_or_len}
use Rattle.std.proofs.lemmas.List.Folds.{find_at, find-set, find_past, find-append, position_or_len-set, position_or_len_push}
use Rattle.std.proofs.lemmas.List.Quantifiers.{position-Some}
use Rattle.std.proofs.lemmas.Slice.Eq.{bytes_eq-Decides}
use Rattle.std.specs.Vec.{with_items}
use Rattle.std.proofs.Math.Seq.{take-append_seam, get_or-append_seam}
use Rattle.std.proofs.lemmas.Option.{slice_get_past}
use borrow.Author.Tests.{ltb-false}
use Rattle.dev_disk.specs.declared.memory_files.MemoryFile.{MemoryFile}
use Rattle.dev_disk.specs.MemoryFiles.{has_path, file_of, place_of, path_at, length_at, IsFirst}
use Rattle.dev_disk.specs.MemoryLaws.{place-inside, place-is, file_of-place, path_at-inside, length_at-inside}

pub first-inside : (files : List MemoryFile) (place : ℕ) → IsFirst files place → place < length files
first-inside files place h = place-inside files (path_at files place) place h

pub first-bytes : (files : List MemoryFile) (place : ℕ) (d : MemoryFile) → IsFirst files place → file_of files (path_at files place) ≡ Some (get_or files place d).bytes.items
first-bytes files place d h = file_of-place files (path_at files place) place d h

pub first-length : (files : List MemoryFile) (place : ℕ) (d : MemoryFile) → IsFirst files place → length_at files place ≡ length (get_or files place d).bytes.items
first-length files place d h = length_at-inside files place d (first-inside files place h)

pub ruleset reads = (first-inside, first-bytes, first-length)

-- the file that was found has the path
pub found-path : (files : List MemoryFile) (path : List ℕ) (place : ℕ) (d : MemoryFile) → place_of files path ≡ Some place → has_path path (get_or files place d) ≡ true
unfolding place_of
found-path files path place d h = (position-Some (has_path path) files place d h).1

pub path_at-place : (files : List MemoryFile) (path : List ℕ) (place : ℕ) (d : MemoryFile) → place_of files path ≡ Some place → path_at files place ≡ path
path_at-place files path place d h =
    path_at-inside files place d (place-inside files path place h)
    ∙ (bytes_eq-Decides (get_or files place d).path.items path).0 (found-path files path place d h)

-- A file with the path of the one that was found stands in its place.
pub record Replaces (files : List MemoryFile) (path : List ℕ) (place : ℕ) (file : MemoryFile) : Type 0 where
  pub found : place_of files path ≡ Some place
  pub same_path : file.path.items ≡ path

same-test : (files : List MemoryFile) (path : List ℕ) (place : ℕ) (file : MemoryFile) → Replaces files path place file → (q : List ℕ) →
    has_path q file ≡ has_path q (get_or files place file)
same-test files path place file h q =
    ap (λ p. bytes_eq p q) (h.same_path ∙ (sym (path_at-place files path place file h.found) ∙ path_at-inside files place file (place-inside files path place h.found)))

pub place_of-set : (files : List MemoryFile) (path : List ℕ) (place : ℕ) (file : MemoryFile) → Replaces files path place file → (q : List ℕ) →
    place_of (set files place file) q ≡ place_of files q
unfolding place_of
place_of-set files path place file h q =
    let e = position_or_len-set (has_path q) files place file file (same-test files path place file h q) in
    let l : length (set files place file) ≡ length files = length-set files place file in
    (λ i. cond (nat_lt (e i) (l i)) (Some (e i)) None)

same_paths : (files : List MemoryFile) (place : ℕ) (file : MemoryFile) →
    file.path.items ≡ option_map_or (λ file. file.path.items) (slice_get files place) [] → (k : ℕ) →
    option_map_or (λ file. file.path.items) (slice_get (set files place file) k) [] ≡ option_map_or (λ file. file.path.items) (slice_get files k) []
same_paths [] place file e k = refl
same_paths (x ∷ files) zero file e zero = e
same_paths (x ∷ files) zero file e (suc k) = refl
same_paths (x ∷ files) (suc place) file e zero = refl
same_paths (x ∷ files) (suc place) file e (suc k) = same_paths files place file e k

pub path_at-set : (files : List MemoryFile) (path : List ℕ) (place : ℕ) (file : MemoryFile) → Replaces files path place file → (k : ℕ) →
    path_at (set files place file) k ≡ path_at files k
unfolding path_at
path_at-set files path place file h k = same_paths files place file (h.same_path ∙ sym (path_at-place files path place file h.found)) k

pub first-set : (files : List MemoryFile) (path : List ℕ) (place : ℕ) (file : MemoryFile) → Replaces files path place file → (k : ℕ) →
    IsFirst files k → IsFirst (set files place file) k
first-set files path place file h k e =
    subst (λ q. place_of (set files place file) q ≡ Some k) (sym (path_at-set files path place file h k)) (place_of-set files path place file h (path_at files k) ∙ e)

pub file_of-set : (files : List MemoryFile) (path : List ℕ) (place : ℕ) (file : MemoryFile) → Replaces files path place file →
    file_of (set files place file) path ≡ Some file.bytes.items
unfolding file_of
file_of-set files path place file h =
    ap (option_map (λ file. file.bytes.items))
    (find-set (has_path path) files place file (sym (place-is files path place h.found)) (place-inside files path place h.found)
    ((bytes_eq-Decides file.path.items path).1 h.same_path))

is-other : (b : Bool) → (b ≡ true → ⊥) → b ≡ false
is-other true h = absurd (h refl)
is-other false h = refl

pub file_of-set_other : (files : List MemoryFile) (path : List ℕ) (place : ℕ) (file : MemoryFile) → Replaces files path place file → (q : List ℕ) → q ≢ path →
    file_of (set files place file) q ≡ file_of files q
unfolding file_of
file_of-set_other files path place file h q ne =
    let other : has_path q file ≡ false = is-other (has_path q file) (λ t. ne (sym ((bytes_eq-Decides file.path.items q).0 t) ∙ h.same_path)) in
    ap (option_map (λ file. file.bytes.items))
    (find_past (has_path q) files place file file (sym (same-test files path place file h q) ∙ other) other)

pub length_at-set : (files : List MemoryFile) (path : List ℕ) (place : ℕ) (file : MemoryFile) → Replaces files path place file →
    length_at (set files place file) place ≡ length file.bytes.items
length_at-set files path place file h =
    let inside : place < length (set files place file) = subst (λ n. place < n) (sym (length-set files place file)) (place-inside files path place h.found) in
    length_at-inside (set files place file) place file inside
    ∙ ap (λ f. length f.bytes.items) (get_or-set_same files place file file (place-inside files path place h.found))

-- a `Vec` whose elements were written over
pub with-items : {X Z : Type 0} (v : Vec X Z) (items : List X) → length items ≡ length v.items → (with_items v items).items ≡ items
with-items v items h =
    ap (λ n. take n (items ++ drop (length items) v.items)) (v.ok.0 ∙ sym h) ∙ take-append_seam items (drop (length items) v.items)

-- the same file with other bytes
abbrev pub refilled : MemoryFile → List ℕ → MemoryFile
refilled file bytes = record { path = file.path; bytes = with_items file.bytes bytes }

pub refilled-bytes : (file : MemoryFile) (bytes : List ℕ) → length bytes ≡ length file.bytes.items → (refilled file bytes).bytes.items ≡ bytes
refilled-bytes file bytes h = with-items file.bytes bytes h

pub refills : (files : List MemoryFile) (place : ℕ) (d : MemoryFile) (bytes : List ℕ) → IsFirst files place →
    Replaces files (path_at files place) place (refilled (get_or files place d) bytes)
refills files place d bytes h = record {
  found = h;
  same_path = sym (path_at-inside files place d (first-inside files place h));
}

-- other bytes under a path that was found
pub in-found-place : (files : List MemoryFile) (path : List ℕ) (place : ℕ) (file d : MemoryFile) → place_of files path ≡ Some place → file.path ≡ (get_or files place d).path → Replaces files path place file
in-found-place files path place file d h e = record {
  found = h;
  same_path = ap (λ path. path.items) e ∙ (sym (path_at-inside files place d (place-inside files path place h)) ∙ path_at-place files path place d h);
}

absent : (n l : ℕ) → cond (nat_lt n l) (Some n) None ≡ None → nat_lt n l ≡ false
absent n l h = none (nat_lt n l) n h
  where
    none : (b : Bool) (n : ℕ) → cond b (Some n) None ≡ None → b ≡ false
    none true n h = absurd cc
    none false n h = refl

none-more : (n l m a : ℕ) → nat_lt n l ≡ false → n ≤ l → m ≡ cond (eqb n l) (l + a) n → a ≡ 0 → cond (nat_lt m (l + 1)) (Some m) None ≡ Some l
none-more n l m a h k e f = grind (arith, nat_tests)

some-more : (n l m a : ℕ) → n < l → m ≡ cond (eqb n l) (l + a) n → cond (nat_lt m (l + 1)) (Some m) None ≡ Some n
some-more n l m a h e = grind (arith, nat_tests)

length-push : (files : List MemoryFile) (file : MemoryFile) → length (files ++ file ∷ []) ≡ length files + 1
length-push files file = length-append files (file ∷ [])

-- a file more, of a path that no file has
pub place_of-push : (files : List MemoryFile) (file : MemoryFile) → place_of files file.path.items ≡ None → place_of (files ++ file ∷ []) file.path.items ≡ Some (length files)
unfolding place_of
place_of-push files file h =
    let p = has_path file.path.items in
    let own : p file ≡ true = (bytes_eq-Decides file.path.items file.path.items).1 refl in
    subst (λ l. cond (nat_lt (position_or_len p (files ++ file ∷ [])) l) (Some (position_or_len p (files ++ file ∷ []))) None ≡ Some (length files))
    (sym (length-push files file))
    (none-more (position_or_len p files) (length files) (position_or_len p (files ++ file ∷ [])) (cond (p file) 0 1)
    (absent (position_or_len p files) (length files) h) (prefix_len-le-length (λ x. not (p x)) files) (position_or_len_push p files file) (ap (λ b. cond b 0 1) own))

place_of-push_found : (files : List MemoryFile) (file : MemoryFile) (q : List ℕ) (k : ℕ) → place_of files q ≡ Some k → place_of (files ++ file ∷ []) q ≡ Some k
unfolding place_of
place_of-push_found files file q k h =
    let p = has_path q in
    subst (λ l. cond (nat_lt (position_or_len p (files ++ file ∷ [])) l) (Some (position_or_len p (files ++ file ∷ []))) None ≡ Some k)
    (sym (length-push files file))
    (some-more (position_or_len p files) (length files) (position_or_len p (files ++ file ∷ [])) (cond (p file) 0 1)
    (subst (λ n. n < length files) (sym (place-is files q k h)) (place-inside files q k h)) (position_or_len_push p files file)
    ∙ ap Some (place-is files q k h))

pub path_at-push : (files : List MemoryFile) (file : MemoryFile) (k : ℕ) → IsFirst files k → path_at (files ++ file ∷ []) k ≡ path_at files k
path_at-push files file k h =
    let inside = first-inside files k h in
    let more : k < length (files ++ file ∷ []) = omega (arith, length-push files file) in
    path_at-inside (files ++ file ∷ []) k file more
    ∙ (ap (λ f. f.path.items) (get_or-append files (file ∷ []) file k inside) ∙ sym (path_at-inside files k file inside))

pub first-push : (files : List MemoryFile) (file : MemoryFile) (k : ℕ) → IsFirst files k → IsFirst (files ++ file ∷ []) k
first-push files file k h =
    subst (λ q. place_of (files ++ file ∷ []) q ≡ Some k) (sym (path_at-push files file k h)) (place_of-push_found files file (path_at files k) k h)

pub file_of-push : (files : List MemoryFile) (file : MemoryFile) → place_of files file.path.items ≡ None → file_of (files ++ file ∷ []) file.path.items ≡ Some file.bytes.items
file_of-push files file h =
    file_of-place (files ++ file ∷ []) file.path.items (length files) file (place_of-push files file h)
    ∙ ap (λ f. Some f.bytes.items) (get_or-append_seam files file [] file)

no-more : (o : Option MemoryFile) (b : Bool) (file : MemoryFile) → b ≡ false → option_or o (cond b (Some file) None) ≡ o
no-more None true file h = absurd cc
no-more None false file h = refl
no-more (Some x) b file h = refl

pub file_of-push_other : (files : List MemoryFile) (file : MemoryFile) (q : List ℕ) → q ≢ file.path.items → file_of (files ++ file ∷ []) q ≡ file_of files q
unfolding file_of
file_of-push_other files file q ne =
    let other : has_path q file ≡ false = is-other (has_path q file) (λ t. ne (sym ((bytes_eq-Decides file.path.items q).0 t))) in
    ap (option_map (λ file. file.bytes.items))
    (find-append (has_path q) files (file ∷ []) ∙ no-more (find (has_path q) files) (has_path q file) file other)

pub first-found : (files : List MemoryFile) (path : List ℕ) (place : ℕ) → place_of files path ≡ Some place → IsFirst files place
first-found [] path place h = absurd (omega (arith, place-inside [] path place h))
first-found (d ∷ files) path place h = subst (λ p. place_of (d ∷ files) p ≡ Some place) (sym (path_at-place (d ∷ files) path place d h)) h

pub path_at-found : (files : List MemoryFile) (path : List ℕ) (place : ℕ) → place_of files path ≡ Some place → path_at files place ≡ path
path_at-found [] path place h = absurd (omega (arith, place-inside [] path place h))
path_at-found (d ∷ files) path place h = path_at-place (d ∷ files) path place d h

pub file_of-absent : (files : List MemoryFile) (path : List ℕ) → place_of files path ≡ None → file_of files path ≡ None
unfolding file_of place_of
file_of-absent files path h =
    let past = absent (position_or_len (has_path path) files) (length files) h in
    ap (option_map (λ file. file.bytes.items))
    (find_at (has_path path) files ∙ slice_get_past files (position_or_len (has_path path) files) (ltb-false (position_or_len (has_path path) files) (length files) past))

pub length_at-found : (files : List MemoryFile) (path : List ℕ) (place : ℕ) (bytes : List ℕ) → place_of files path ≡ Some place → file_of files path ≡ Some bytes → length_at files place ≡ length bytes
length_at-found [] path place bytes h e = absurd (omega (arith, place-inside [] path place h))
length_at-found (d ∷ files) path place bytes h e =
    length_at-inside (d ∷ files) place d (place-inside (d ∷ files) path place h)
    ∙ ap length (same (sym (file_of-place (d ∷ files) path place d h) ∙ e))
  where
    same : {x y : List ℕ} → Some x ≡ Some y → x ≡ y
    same q = cc

pub ruleset finds = (first-found, path_at-found, file_of-absent)
