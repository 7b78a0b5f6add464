-- What stands at the place of a file in the list of a disk in memory.
use Rattle.std.specs.Prelude.{◌≡◌, ℕ, ◌<◌, Bool, true, false, cond, nat_lt, List, [], ◌∷◌, length, Option, Some, None, option_map, slice_get, refl}
use Rattle.std.specs.Option.{ForSome, option_map_or}
use Rattle.std.specs.List.{position_or_len}
use Rattle.std.proofs.Common.{arith, ap, sym, ◌∙◌, subst, get_or}
use Rattle.std.proofs.lemmas.List.Folds.{find_at}
use Rattle.std.proofs.lemmas.Option.{slice_get-get_or}
use borrow.Author.Tests.{ltb-true}
use Rattle.dev_disk.specs.declared.memory_files.MemoryFile.{MemoryFile}
use Rattle.dev_disk.specs.Calls.{Agrees, IsFileOf}
use Rattle.dev_disk.specs.MemoryFiles.{has_path, file_of, place_of, path_at, length_at, IsFirst}

some-place : (b : Bool) (n i : ℕ) → cond b (Some n) None ≡ Some i → (b ≡ true) × (n ≡ i)
some-place true n i e = (refl, cc)
some-place false n i e = absurd cc

-- the file of a path stands at its place
pub place-inside : (files : List MemoryFile) (path : List ℕ) (place : ℕ) → place_of files path ≡ Some place → place < length files
unfolding place_of
place-inside files path place e =
    let h = some-place (nat_lt (position_or_len (has_path path) files) (length files)) (position_or_len (has_path path) files) place e in
    subst (λ n. n < length files) h.1 (ltb-true (position_or_len (has_path path) files) (length files) h.0)

pub place-is : (files : List MemoryFile) (path : List ℕ) (place : ℕ) → place_of files path ≡ Some place → position_or_len (has_path path) files ≡ place
unfolding place_of
place-is files path place e =
    (some-place (nat_lt (position_or_len (has_path path) files) (length files)) (position_or_len (has_path path) files) place e).1

pub file_of-place : (files : List MemoryFile) (path : List ℕ) (place : ℕ) (d : MemoryFile) → place_of files path ≡ Some place → file_of files path ≡ Some (get_or files place d).bytes.items
unfolding file_of
file_of-place files path place d e =
    ap (option_map (λ file. file.bytes.items)) (find_at (has_path path) files ∙ (ap (slice_get files) (place-is files path place e) ∙ slice_get-get_or files place d (place-inside files path place e)))

pub path_at-inside : (files : List MemoryFile) (place : ℕ) (d : MemoryFile) → place < length files → path_at files place ≡ (get_or files place d).path.items
unfolding path_at
path_at-inside files place d h = ap (λ o. option_map_or (λ file. file.path.items) o []) (slice_get-get_or files place d h)

pub length_at-inside : (files : List MemoryFile) (place : ℕ) (d : MemoryFile) → place < length files → length_at files place ≡ length (get_or files place d).bytes.items
unfolding length_at
length_at-inside files place d h = ap (λ o. option_map_or (λ file. length file.bytes.items) o 0) (slice_get-get_or files place d h)

of-first : (files : List MemoryFile) (place : ℕ) (d : MemoryFile) → IsFirst files place → IsFileOf (file_of files (path_at files place)) (length_at files place)
of-first files place d e =
    let h = place-inside files (path_at files place) place e in
    subst (λ o. IsFileOf o (length_at files place)) (sym (file_of-place files (path_at files place) place d e)) (sym (length_at-inside files place d h))

at-first : (files : List MemoryFile) (place : ℕ) → IsFirst files place → IsFileOf (file_of files (path_at files place)) (length_at files place)
at-first [] place e = absurd (omega (arith, place-inside [] (path_at [] place) place e))
at-first (file ∷ files) place e = of-first (file ∷ files) place file e

-- the meanings of a disk in memory hang together
pub agree : (files : List MemoryFile) (opened : Option ℕ) → ForSome opened (IsFirst files) →
    Agrees (Some (file_of files)) (option_map (path_at files) opened) (option_map (length_at files) opened)
agree files None h = refl
agree files (Some place) h = at-first files place (h place refl)
