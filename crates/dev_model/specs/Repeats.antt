-- Which plans may be run again over what a broken attempt at them left. Nothing here is of a standard: it is how the plans
-- of this project are built.
use Rattle.std.specs.Prelude.{ℕ, Bool, true, false, not, ◌&&◌, ◌||◌, ◌==◌, List, [], ◌∷◌, flat_map, IsTrue, if◌then◌else◌, bytes_eq}
use Rattle.std.specs.List.{list_any, list_all}
use Rattle.dev_model.specs.declared.step.Step.{Step}
use Rattle.dev_model.specs.declared.step.Step.TheVariants.{Active, Resize, Put, Wipe, Table, Boot}
use Rattle.dev_model.specs.Steps.{is_boot}

-- the name stands among these
abbrev pub is_among : List (List ℕ) → List ℕ → Bool
is_among names name = list_any (λ n. bytes_eq n name) names

abbrev pub is_active : Step → Bool
is_active (Active slot) = true
is_active _ = false

-- a slot is made active by the first step alone
abbrev pub activates_first : List Step → Bool
activates_first [] = true
activates_first (step ∷ steps) = not (list_any is_active steps)

-- a table, or a change of a partition that isn't one of these
abbrev pub is_logical_step : List (List ℕ) → Step → Bool
is_logical_step fixed (Active slot) = false
is_logical_step fixed (Boot mode) = false
is_logical_step fixed (Put name cells) = not (is_among fixed name)
is_logical_step fixed (Wipe name) = not (is_among fixed name)
is_logical_step fixed (Resize name size) = true
is_logical_step fixed (Table tables wipe) = true

abbrev pub is_table : Step → Bool
is_table (Table tables wipe) = true
is_table _ = false

-- at most one table, and it stands before all other logical steps
abbrev pub tables_first : List (List ℕ) → List Step → Bool
tables_first fixed [] = true
tables_first fixed (step ∷ steps) =
    (if is_logical_step fixed step then not (list_any is_table steps) else true) && tables_first fixed steps

-- no logical step stands before the first reboot, so that the mode in which the plan begins plays no part
abbrev pub boots_first : List (List ℕ) → List Step → Bool
boots_first fixed [] = true
boots_first fixed (step ∷ steps) = is_boot step || (not (is_logical_step fixed step) && boots_first fixed steps)

-- the partition that a step resizes
abbrev pub resized_name : Step → List (List ℕ)
resized_name (Resize name size) = name ∷ []
resized_name _ = []

-- the partitions that any step resizes
abbrev pub resized_names : List Step → List (List ℕ)
resized_names steps = flat_map resized_name steps

-- all of these are among those
abbrev pub are_among : List (List ℕ) → List (List ℕ) → Bool
are_among done all = list_all (is_among done) all

-- Each partition that is resized is emptied before any is made longer, and before an image is put over one of them.
abbrev pub empties_first : List (List ℕ) → List (List ℕ) → List Step → Bool
empties_first all done [] = true
empties_first all done (Resize name size ∷ steps) =
    (size == 0 || are_among done all) && empties_first all (if size == 0 then name ∷ done else done) steps
empties_first all done (Put name cells ∷ steps) = (not (is_among all name) || are_among done all) && empties_first all done steps
empties_first all done (Active slot ∷ steps) = empties_first all done steps
empties_first all done (Wipe name ∷ steps) = empties_first all done steps
empties_first all done (Table tables wipe ∷ steps) = empties_first all done steps
empties_first all done (Boot mode ∷ steps) = empties_first all done steps

-- A plan that may be run again, on a device with these physical partitions.
pub record IsRepeatable (fixed : List (List ℕ)) (plan : List Step) : Type 0 where
  pub active : IsTrue (activates_first plan)
  pub table : IsTrue (tables_first fixed plan)
  pub boots : IsTrue (boots_first fixed plan)
  pub empties : IsTrue (empties_first (resized_names plan) [] plan)
  pub apart : IsTrue (list_all (λ name. not (is_among fixed name)) (resized_names plan))
