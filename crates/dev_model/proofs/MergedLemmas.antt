-- The entries after a product's table, partition by partition.
use Rattle.std.proofs.Common.{◌≡◌, ℕ, ◌+◌, ◌<◌, Bool, true, false, List, [], ◌∷◌, ◌++◌, length, get_or, drop, filter, refl, ap, sym, ◌∙◌, append_assoc, add-one}
use Rattle.std.specs.Prelude.{if◌then◌else◌}
use Rattle.std.proofs.Math.Seq.{drop-cons}
use Rattle.fb_frame.specs.declared.tables.Tables.{Tables}
use Rattle.dev_model.specs.declared.device.Dev.{Dev}
use Rattle.dev_model.specs.declared.device.Logical.{Logical}
use Rattle.dev_model.specs.Tables.{is_kept, is_listed, is_left_over, left_over}

-- a partition stands first among those left over, where it is one of them
pub left-over-cons : (tables : Tables) (wipe : Bool) (dev : Dev) (p : Logical) (old : List Logical) →
    left_over tables (filter (is_kept dev wipe) (p ∷ old)) ≡ (if is_left_over tables wipe dev p then p ∷ [] else []) ++ left_over tables (filter (is_kept dev wipe) old)
left-over-cons tables wipe dev p old = by (is_kept dev wipe p) (is_listed tables.partitions p.name) refl refl where
  by : (k l : Bool) → is_kept dev wipe p ≡ k → is_listed tables.partitions p.name ≡ l →
      left_over tables (filter (is_kept dev wipe) (p ∷ old)) ≡ (if is_left_over tables wipe dev p then p ∷ [] else []) ++ left_over tables (filter (is_kept dev wipe) old)
  by true true e f = rw (e, f) refl
  by true false e f = rw (e, f) refl
  by false true e f = rw e refl
  by false false e f = rw e refl

-- one partition more is done
pub merged_turn : (tables : Tables) (wipe : Bool) (dev : Dev) (done : List Logical) (i : ℕ) (p : Logical) → i < length dev.logical → p ≡ get_or dev.logical i p →
    (done ++ (if is_left_over tables wipe dev p then p ∷ [] else [])) ++ left_over tables (filter (is_kept dev wipe) (drop (i + 1) dev.logical))
    ≡ done ++ left_over tables (filter (is_kept dev wipe) (drop i dev.logical))
merged_turn tables wipe dev done i p h e =
    let next : p ∷ drop (i + 1) dev.logical ≡ drop i dev.logical = rw (add-one, drop-cons dev.logical i p h, ← e) refl in
    append_assoc done (if is_left_over tables wipe dev p then p ∷ [] else []) (left_over tables (filter (is_kept dev wipe) (drop (i + 1) dev.logical)))
    ∙ ap (λ t. done ++ t) (sym (left-over-cons tables wipe dev p (drop (i + 1) dev.logical)) ∙ ap (λ t. left_over tables (filter (is_kept dev wipe) t)) next)

pub ruleset merged_turns = (merged_turn)
