-- What is read and written at the open place of a list of files.
use Rattle.std.proofs.Common.{◌≡◌, ℕ, List, length, take, drop, Option, Some, None, refl, ap, sym, ◌∙◌, subst, option_map}
use Rattle.std.specs.Option.{ForSome}
use Rattle.dev_disk.specs.declared.memory_files.MemoryFile.{MemoryFile}
use Rattle.dev_disk.specs.Files.{content, written, IsRead, Wrote}
use Rattle.dev_disk.specs.MemoryFiles.{file_of, path_at, IsFirst}

-- the invariant at a known place
pub for-place : (files : List MemoryFile) (opened : Option ℕ) (place : ℕ) → opened ≡ Some place → IsFirst files place → ForSome opened (IsFirst files)
for-place files opened place e h other is = subst (IsFirst files) (same (sym e ∙ is)) h
  where
    same : {m n : ℕ} → Some m ≡ Some n → m ≡ n
    same q = cc

pub read-open : (files : List MemoryFile) (opened : Option ℕ) (place at : ℕ) (file bytes : List ℕ) → opened ≡ Some place →
    file_of files (path_at files place) ≡ Some file → bytes ≡ take (length bytes) (drop at file) →
    IsRead (content (Some (file_of files)) (option_map (path_at files) opened)) at bytes
unfolding content
read-open files opened place at file bytes e found h =
    subst (λ o. IsRead (content (Some (file_of files)) (option_map (path_at files) o)) at bytes) (sym e)
    (subst (λ o. IsRead o at bytes) (sym found) h)

wrote-map : (o : Option (List ℕ)) (at : ℕ) (bytes : List ℕ) → Wrote o (option_map (λ file. written file at bytes) o) at bytes
wrote-map None at bytes = tt
wrote-map (Some file) at bytes = refl

pub write-open : (old new : List MemoryFile) (opened : Option ℕ) (place at : ℕ) (bytes : List ℕ) → opened ≡ Some place →
    path_at new place ≡ path_at old place →
    file_of new (path_at old place) ≡ option_map (λ file. written file at bytes) (file_of old (path_at old place)) →
    Wrote (content (Some (file_of old)) (option_map (path_at old) opened)) (content (Some (file_of new)) (option_map (path_at new) opened)) at bytes
unfolding content
write-open old new opened place at bytes e same h =
    subst (λ o. Wrote (content (Some (file_of old)) (option_map (path_at old) o)) (content (Some (file_of new)) (option_map (path_at new) o)) at bytes) (sym e)
    (subst (λ o. Wrote (file_of old (path_at old place)) o at bytes) (sym (ap (file_of new) same ∙ h)) (wrote-map (file_of old (path_at old place)) at bytes))
