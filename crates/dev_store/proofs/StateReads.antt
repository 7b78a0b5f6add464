-- What is read of the state records.
use Rattle.std.proofs.Common.{◌≡◌, ◌∙◌, ap, sym, subst, ℕ, Bool, true, false, List, length, take, drop, Option, Some, None}
use Rattle.std.specs.Prelude.{IsTrue, IfSome}
use Rattle.dev_disk.specs.declared.twin.Twin.{Twin}
use Rattle.dev_disk.specs.Files.{IsRead}
use Rattle.dev_disk.specs.Twins.{copy_place}
use Rattle.dev_store.specs.declared.state.State.{State}
use Rattle.dev_store.specs.States.{record_of, state_copy, is_state}
use Rattle.dev_store.specs.Reading.{state_places}
use Rattle.dev_store.proofs.ValidLemmas.{record-fits}

pub copy-read : (slots : ℕ) (second : Bool) (o : Option (List ℕ)) (block : List ℕ) (r : Option (ℕ × State)) (twin : Twin) → twin ≡ state_places → length block ≡ 4096 → r ≡ record_of slots block →
    IsRead o (copy_place twin second) block → IfSome o (λ file. record_of slots (state_copy second file) ≡ r)
copy-read slots second None block r twin same long e h = tt
copy-read slots second (Some file) block r twin same long e h =
    let here : block ≡ take 4096 (drop (copy_place state_places second) file) =
    subst (λ n. block ≡ take n (drop (copy_place state_places second) file)) long (subst (λ t. block ≡ take (length block) (drop (copy_place t second) file)) same h) in
    at second here
  where
    at : (which : Bool) → block ≡ take 4096 (drop (copy_place state_places which) file) → record_of slots (state_copy which file) ≡ r
    at false k = ap (record_of slots) (sym k) ∙ sym e
    at true k = ap (record_of slots) (sym k) ∙ sym e

pub record-fitting : (slots : ℕ) (block : List ℕ) (r : Option (ℕ × State)) → r ≡ record_of slots block → IfSome r (λ found. IsTrue (is_state slots found.1))
record-fitting slots block None e = tt
record-fitting slots block (Some (version, state)) e = record-fits slots version state block (sym e)
