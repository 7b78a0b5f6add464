-- The plan for the answers of a device is the plan for the device.
use Rattle.std.proofs.Common.{◌≡◌, ℕ, Bool, true, false, Option, Some, None, List, [], ◌∷◌, ◌++◌, refl, ap, ◌∙◌}
use Rattle.std.specs.Prelude.{flat_map, IsTrue, Result, Ok, Err, is_none, ◌&&◌, if◌then◌else◌, ◌||◌}
use Rattle.std.specs.Option.{option_or}
use Rattle.std.specs.List.{list_any, AllByRecursion}
use Rattle.fb_frame.specs.declared.slot.Slot.{Slot}
use Rattle.product_info.specs.declared.task.Action.{Action}
use Rattle.product_info.specs.declared.task.Action.TheVariants.{Flash, Reboot, UpdateSuper, Erase}
use Rattle.product_info.specs.declared.task.Task.{Task}
use Rattle.flash_plan.specs.declared.plan.PlanKind.{PlanKind}
use Rattle.flash_plan.specs.declared.plan.PlanKind.TheVariants as why
use Rattle.flash_plan.specs.Facts.{Facts, facts_of, facts_in}
use Rattle.flash_plan.specs.Laws.{PlansTold}
use Rattle.flash_plan.specs.declared.plan_move.Move.{Move}
use Rattle.flash_plan.specs.declared.plan_move.Move.TheVariants.{Flashes, Erases}
use Rattle.flash_plan.specs.Moves.{Work, PlanFault, move_of, moves_from, at_line, aimed, next_size, updating}
use Rattle.flash_plan.specs.Orders.{orders, ordered_by}
use Rattle.flash_plan.specs.Products.{is_update}
use Rattle.flash_plan.specs.Questions.{action_probes}
use Rattle.dev_model.specs.Repeats.{is_among}
use Rattle.flash_plan.specs.Targets.{found, found_first, target_in, probed, probed_by, candidates, slot_of, is_slotless}

all-left : {X : Type 0} (P : X → Type 0) (xs ys : List X) → AllByRecursion P (xs ++ ys) → AllByRecursion P xs
all-left P [] ys h = tt
all-left P (x ∷ xs) ys h = (h.0, all-left P xs ys h.1)

all-right : {X : Type 0} (P : X → Type 0) (xs ys : List X) → AllByRecursion P (xs ++ ys) → AllByRecursion P ys
all-right P [] ys h = h
all-right P (x ∷ xs) ys h = all-right P xs ys h.1

module _ (k m : List ℕ → Option Bool) (listed : List (List ℕ)) where
  abbrev Agree : List ℕ → Type 0
  Agree name = k name ≡ m name

  found-same : (name : List ℕ) → Agree name → found k listed name ≡ found m listed name
  found-same name e = ap (λ o. option_or o (if is_among listed name then Some true else None)) e

  first-case : (name : List ℕ) (o : Option Bool) (names : List (List ℕ)) → AllByRecursion Agree (probed_by name o (probed m listed names)) →
      (AllByRecursion Agree (probed m listed names) → target_in k listed names ≡ target_in m listed names) →
      found_first name o (target_in k listed names) ≡ found_first name o (target_in m listed names)
  first-case name (Some l) names h ih = refl
  first-case name None names h ih = ih h.1

  head-agrees : (name : List ℕ) (o : Option Bool) (rest : List (List ℕ)) → AllByRecursion Agree (probed_by name o rest) → Agree name
  head-agrees name (Some l) rest h = h.0
  head-agrees name None rest h = h.0

  pub target-same : (names : List (List ℕ)) → AllByRecursion Agree (probed m listed names) → target_in k listed names ≡ target_in m listed names
  target-same [] h = refl
  target-same (name ∷ names) h =
      ap (λ o. found_first name o (target_in k listed names)) (found-same name (head-agrees name (found m listed name) (probed m listed names) h))
      ∙ first-case name (found m listed name) names h (target-same names)

line-same : {X Y : Type 0} (line : ℕ) (r : Result X PlanKind) (f g : X → Result Y PlanFault) → ((x : X) → f x ≡ g x) → at_line line r f ≡ at_line line r g
line-same line (Err kind) f g e = refl
line-same line (Ok x) f g e = e x

module _ (work : Work) (slot : Option Slot) (f g : Facts) where
  abbrev Told : List ℕ → Type 0
  Told name = f.kind name ≡ g.kind name

  move-same : (before : List Move) (later : List Task) (action : Action) → (IsTrue (list_any is_update (record { line = 0; if_wipe = false; action = action } ∷ [])) → f.super_name ≡ g.super_name) →
      AllByRecursion Told (action_probes g slot work.listed action) → move_of work f slot before later action ≡ move_of work g slot before later action
  move-same before later (Flash name file other) s h =
      ap (λ t. if other && is_none slot then Err why.NoSlot else aimed (λ part logical. Flashes part logical (next_size work before)) t)
      (target-same f.kind g.kind work.listed (candidates slot other name) h)
  move-same before later (Erase name) s h = ap (aimed Erases) (target-same f.kind g.kind work.listed (candidates slot false name) h)
  move-same before later UpdateSuper s h = ap (updating before) (s refl)
  move-same before later (Reboot what) s h = refl

  head-update : (task : Task) (tasks : List Task) → (IsTrue (list_any is_update (task ∷ tasks)) → f.super_name ≡ g.super_name) →
      IsTrue (list_any is_update (record { line = 0; if_wipe = false; action = task.action } ∷ [])) → f.super_name ≡ g.super_name
  head-update task tasks s e = s (or-true (is_update task) (list_any is_update tasks) (or-false (is_update task) e)) where
    or-true : (a b : Bool) → a ≡ true → (a || b) ≡ true
    or-true a b e = ap (λ c. c || b) e

    or-false : (a : Bool) → (a || false) ≡ true → a ≡ true
    or-false true e = refl
    or-false false e = e

  tail-update : (task : Task) (tasks : List Task) → (IsTrue (list_any is_update (task ∷ tasks)) → f.super_name ≡ g.super_name) →
      IsTrue (list_any is_update tasks) → f.super_name ≡ g.super_name
  tail-update task tasks s e = s (right (is_update task) (list_any is_update tasks) e) where
    right : (a b : Bool) → b ≡ true → (a || b) ≡ true
    right true b e = refl
    right false b e = e

  pub moves-same : (before : List Move) (tasks : List Task) → (IsTrue (list_any is_update tasks) → f.super_name ≡ g.super_name) →
      AllByRecursion Told (flat_map (λ task. action_probes g slot work.listed task.action) tasks) →
      moves_from work f slot before tasks ≡ moves_from work g slot before tasks
  moves-same before [] s h = refl
  moves-same before (task ∷ tasks) s h =
      let first = all-left Told (action_probes g slot work.listed task.action) (flat_map (λ t. action_probes g slot work.listed t.action) tasks) h in
      let rest = all-right Told (action_probes g slot work.listed task.action) (flat_map (λ t. action_probes g slot work.listed t.action) tasks) h in
      ap (λ r. at_line task.line r (λ move. moves_from work f slot (before ++ move ∷ []) tasks)) (move-same before tasks task.action (head-update task tasks s) first)
      ∙ line-same task.line (move_of work g slot before tasks task.action) (λ move. moves_from work f slot (before ++ move ∷ []) tasks)
      (λ move. moves_from work g slot (before ++ move ∷ []) tasks) (λ move. moves-same (before ++ move ∷ []) tasks (tail-update task tasks s) rest)

pub plans_told : PlansTold
unfolding orders
plans_told work options dev answers h =
    let f = facts_in answers in
    let g = facts_of dev in
    ap (λ c. if is_slotless options.slot c then Err (0, why.NoSlot) else ordered_by options (slot_of options.slot c) (moves_from work f (slot_of options.slot c) [] work.tasks)) h.current
    ∙ ap (λ r. if is_slotless options.slot g.current then Err (0, why.NoSlot) else ordered_by options (slot_of options.slot g.current) r)
    (moves-same work (slot_of options.slot g.current) f g [] work.tasks h.super_name h.parts)
