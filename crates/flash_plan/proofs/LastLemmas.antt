-- None but the last step of a plan leaves fastboot.
use Rattle.std.proofs.Common.{◌≡◌, ℕ, Bool, true, false, Option, Some, None, List, [], ◌∷◌, ◌++◌, length, map, refl, sym, ap, ◌∙◌, subst, arith, append_assoc, append-nil}
use Rattle.std.specs.Prelude.{not, ◌||◌, ◌&&◌, ◌==◌, Result, Ok, Err, is_none, option_to_list, if◌then◌else◌}
use Rattle.std.specs.Option.{option_or}
use Rattle.std.specs.List.{list_any, AllByRecursion}
use Rattle.std.proofs.lemmas.Bool.Decides.{nat_tests}
use Rattle.fb_frame.specs.declared.slot.Slot.{Slot}
use Rattle.fb_frame.specs.declared.tables.Tables.{Tables}
use Rattle.fb_message.specs.declared.command.BootTarget.{BootTarget}
use Rattle.fb_message.specs.declared.command.BootTarget.TheVariants as target
use Rattle.dev_model.specs.declared.cells.Cell.{Cell}
use Rattle.dev_model.specs.declared.step.Step.{Step}
use Rattle.dev_model.specs.Steps.{leaves_last, leaves as step_leaves}
use Rattle.product_info.specs.declared.task.Action.{Action}
use Rattle.product_info.specs.declared.task.Action.TheVariants.{Flash, Reboot, UpdateSuper, Erase}
use Rattle.product_info.specs.declared.task.Task.{Task}
use Rattle.flash_plan.specs.declared.options.Options.{Options}
use Rattle.flash_plan.specs.declared.plan.Order.{Order}
use Rattle.flash_plan.specs.declared.plan.Order.TheVariants.{Active, Resize, Boot}
use Rattle.flash_plan.specs.declared.plan.PlanKind.{PlanKind}
use Rattle.flash_plan.specs.declared.plan.PlanKind.TheVariants as why
use Rattle.flash_plan.specs.declared.product.Product.{Product}
use Rattle.flash_plan.specs.Facts.{Facts, facts_of}
use Rattle.flash_plan.specs.Files.{Files}
use Rattle.flash_plan.specs.Laws.{PlanLeavesLast}
use Rattle.flash_plan.specs.declared.plan_move.Move.{Move}
use Rattle.flash_plan.specs.declared.plan_move.Move.TheVariants.{Flashes, Erases, Updates, Boots}
use Rattle.flash_plan.specs.Moves.{Work, PlanFault, is_logical_move, leaves, move_of, moves_from, at_line, aimed, updating, next_size}
use Rattle.flash_plan.specs.Orders.{is_logical_flash, logical_targets, last_that, runs_userspace, rises, empties, fits, own, block, blocks, is_left, ends_left, ordered, ordered_by, orders}
use Rattle.flash_plan.specs.Plans.{work_of, step_of, steps_of, steps_by, images_of, tables_in}
use Rattle.flash_plan.specs.Targets.{candidates, target_in, slot_of, is_slotless}
use Rattle.flash_plan.proofs.RepeatLemmas.{ok-same}

-- none but the last of these leaves fastboot
abbrev left_last : List Move → Bool
left_last [] = true
left_last (move ∷ moves) = if is_left (Some move) then length moves == 0 else left_last moves

-- a task that leaves fastboot is the last
abbrev IsLast : List Task → Move → Type 0
IsLast later move = is_left (Some move) ≡ true → (length later == 0) ≡ true

aimed-stays : (later : List Task) (make : List ℕ → Bool → Move) (o : Option (List ℕ × Bool)) (move : Move) →
    ((name : List ℕ) (logical : Bool) → is_left (Some (make name logical)) ≡ false) → aimed make o ≡ Ok move → IsLast later move
aimed-stays later make None move h e = absurd cc
aimed-stays later make (Some aim) move h e = λ f. absurd (apart (sym f ∙ (ap (λ m. is_left (Some m)) (sym (ok-same (make aim.0 aim.1) move e)) ∙ h aim.0 aim.1)))
  where
    apart : true ≡ false → ⊥
    apart q = cc

flash-stays : (later : List Task) (make : List ℕ → Bool → Move) (o : Option (List ℕ × Bool)) (kind : PlanKind) (b : Bool) (move : Move) →
    ((name : List ℕ) (logical : Bool) → is_left (Some (make name logical)) ≡ false) → (if b then Err kind else aimed make o) ≡ Ok move → IsLast later move
flash-stays later make o kind true move h e = absurd cc
flash-stays later make o kind false move h e = aimed-stays later make o move h e

update-stays : (later : List Task) (before : List Move) (o : Option (List ℕ)) (move : Move) → updating before o ≡ Ok move → IsLast later move
update-stays later before None move e = absurd cc
update-stays later before (Some name) move e = by (list_any is_logical_move before) e where
  apart : is_left (Some (Updates name)) ≡ true → ⊥
  apart q = cc

  by : (b : Bool) → (if b then Err why.UpdateSuper else Ok (Updates name)) ≡ Ok move → IsLast later move
  by true q = absurd cc
  by false q = λ f. absurd (apart (ap (λ m. is_left (Some m)) (ok-same (Updates name) move q) ∙ f))

boot-last : (later : List Task) (what : BootTarget) (a z : Bool) (move : Move) → leaves what ≡ a → (length later == 0) ≡ z →
    (if a && not z then Err why.Reboot else Ok (Boots what)) ≡ Ok move → IsLast later move
boot-last later what a true move f g e = λ _. g
boot-last later what true false move f g e = absurd cc
boot-last later what false false move f g e = λ q. absurd (apart (sym q ∙ (ap (λ m. is_left (Some m)) (sym (ok-same (Boots what) move e)) ∙ f))) where
  apart : true ≡ false → ⊥
  apart r = cc

move-last : (work : Work) (facts : Facts) (slot : Option Slot) (before : List Move) (later : List Task) (action : Action) (move : Move) →
    move_of work facts slot before later action ≡ Ok move → IsLast later move
move-last work facts slot before later (Flash name file other) move e =
    flash-stays later (λ part logical. Flashes part logical (next_size work before)) (target_in facts.kind work.listed (candidates slot other name)) why.NoSlot
    (other && is_none slot) move (λ part logical. refl) e
move-last work facts slot before later (Erase name) move e =
    aimed-stays later Erases (target_in facts.kind work.listed (candidates slot false name)) move (λ part logical. refl) e
move-last work facts slot before later UpdateSuper move e = update-stays later before facts.super_name move e
move-last work facts slot before later (Reboot what) move e = boot-last later what (leaves what) (length later == 0) move refl refl e

-- The moves of the tasks that are left stand after those before them.
record After (before : List Move) (tasks : List Task) (moves : List Move) : Type 0 where
  rest : List Move
  are : moves ≡ before ++ rest
  last : left_last rest ≡ true
  many : length rest ≡ length tasks

one-more : (before : List Move) (move : Move) (later : List Task) (task : Task) (moves : List Move) → IsLast later move →
    After (before ++ move ∷ []) later moves → After before (task ∷ later) moves
one-more before move later task moves h a = record {
  rest = move ∷ a.rest;
  are = a.are ∙ append_assoc before (move ∷ []) a.rest;
  last = by (is_left (Some move)) refl;
  many = counted;
}
  where
    counted : length (move ∷ a.rest) ≡ length (task ∷ later)
    counted = let m = a.many in omega (arith, m)

    by : (b : Bool) → is_left (Some move) ≡ b → (if b then length a.rest == 0 else left_last a.rest) ≡ true
    by true e = ap (λ n. n == 0) a.many ∙ h e
    by false e = a.last

moves-case : (work : Work) (facts : Facts) (slot : Option Slot) (before : List Move) (later : List Task) (task : Task) (r : Result Move PlanKind) (moves : List Move) →
    move_of work facts slot before later task.action ≡ r → at_line task.line r (λ move. moves_from work facts slot (before ++ move ∷ []) later) ≡ Ok moves →
    ((move : Move) → moves_from work facts slot (before ++ move ∷ []) later ≡ Ok moves → After (before ++ move ∷ []) later moves) → After before (task ∷ later) moves
moves-case work facts slot before later task (Err kind) moves e f ih = absurd cc
moves-case work facts slot before later task (Ok move) moves e f ih =
    one-more before move later task moves (move-last work facts slot before later task.action move e) (ih move f)

moves-last : (work : Work) (facts : Facts) (slot : Option Slot) (before : List Move) (tasks : List Task) (moves : List Move) →
    moves_from work facts slot before tasks ≡ Ok moves → After before tasks moves
moves-last work facts slot before [] moves e =
    record { rest = []; are = sym (ok-same before moves e) ∙ sym (append-nil before); last = refl; many = refl }
moves-last work facts slot before (task ∷ tasks) moves e =
    moves-case work facts slot before tasks task (move_of work facts slot before tasks task.action) moves refl e
    (λ move f. moves-last work facts slot (before ++ move ∷ []) tasks moves f)

module _ (images : List (List Cell)) (tables : Tables) (wipe : Bool) where
  abbrev as_step : Order → Step
  as_step = step_of images tables

  abbrev as_steps : List Order → List Step
  as_steps orders = map (step_of images tables) orders

  -- an order by which the device stays in fastboot
  abbrev Stays : Order → Type 0
  Stays order = step_leaves (as_step order) ≡ false

  pass : (xs ys : List Order) → AllByRecursion Stays xs → leaves_last (as_steps ys) ≡ true → leaves_last (as_steps (xs ++ ys)) ≡ true
  pass [] ys h e = e
  pass (x ∷ xs) ys h e =
      ap (λ b. if b then length (as_steps (xs ++ ys)) == 0 else leaves_last (as_steps (xs ++ ys))) h.0 ∙ pass xs ys h.1 e

  rises-stay : (before : List Move) (move : Move) → AllByRecursion Stays (rises before move)
  rises-stay before move = by (is_logical_move move && not (runs_userspace before)) where
    by : (b : Bool) → AllByRecursion Stays (if b then Boot target.Fastboot ∷ [] else [])
    by true = (refl, tt)
    by false = tt

  names-stay : (names : List (List ℕ)) → AllByRecursion Stays (map (λ name. Resize name 0) names)
  names-stay [] = tt
  names-stay (name ∷ names) = (refl, names-stay names)

  empties-stay : (before : List Move) (move : Move) (later : List Move) → AllByRecursion Stays (empties before move later)
  empties-stay before move later = by (is_logical_flash move && not (list_any is_logical_flash before)) where
    by : (b : Bool) → AllByRecursion Stays (if b then map (λ name. Resize name 0) (logical_targets (before ++ move ∷ later)) else [])
    by true = names-stay (logical_targets (before ++ move ∷ later))
    by false = tt

  fits-stay : (move : Move) → AllByRecursion Stays (fits move)
  fits-stay (Flashes name true size) = (refl, tt)
  fits-stay (Flashes name false size) = tt
  fits-stay (Erases name logical) = tt
  fits-stay (Updates name) = tt
  fits-stay (Boots what) = tt

  own-stays : (before : List Move) (move : Move) → is_left (Some move) ≡ false → Stays (own wipe before move)
  own-stays before (Flashes name logical size) e = refl
  own-stays before (Erases name logical) e = refl
  own-stays before (Updates name) e = refl
  own-stays before (Boots target.System) e = absurd cc
  own-stays before (Boots target.Bootloader) e = refl
  own-stays before (Boots target.Fastboot) e = refl
  own-stays before (Boots target.Recovery) e = absurd cc

  all-append : (xs ys : List Order) → AllByRecursion Stays xs → AllByRecursion Stays ys → AllByRecursion Stays (xs ++ ys)
  all-append [] ys h g = g
  all-append (x ∷ xs) ys h g = (h.0, all-append xs ys h.1 g)

  block-stays : (before : List Move) (move : Move) (later : List Move) → is_left (Some move) ≡ false → AllByRecursion Stays (block wipe before move later)
  block-stays before move later e =
      all-append (rises before move) (empties before move later ++ (fits move ++ own wipe before move ∷ [])) (rises-stay before move)
      (all-append (empties before move later) (fits move ++ own wipe before move ∷ []) (empties-stay before move later)
      (all-append (fits move) (own wipe before move ∷ []) (fits-stay move) (own-stays before move e, tt)))

  -- the block of a reboot that leaves fastboot is that step
  left-alone : (before : List Move) (move : Move) (later : List Move) → is_left (Some move) ≡ true → leaves_last (as_steps (block wipe before move later ++ [])) ≡ true
  left-alone before (Flashes name logical size) later e = absurd cc
  left-alone before (Erases name logical) later e = absurd cc
  left-alone before (Updates name) later e = absurd cc
  left-alone before (Boots target.System) later e = refl
  left-alone before (Boots target.Bootloader) later e = absurd cc
  left-alone before (Boots target.Fastboot) later e = absurd cc
  left-alone before (Boots target.Recovery) later e = refl

  last-or : (o : Option Move) (move : Move) → is_left o ≡ true → is_left (option_or o (Some move)) ≡ true
  last-or None move e = absurd cc
  last-or (Some m) move e = e

  none-left : (moves : List Move) → (length moves == 0) ≡ true → moves ≡ []
  none-left [] e = refl
  none-left (move ∷ moves) e =
      let none : length (move ∷ moves) ≡ 0 = grind (arith, nat_tests) in
      absurd (omega (arith, none))

  blocks-last : (before later : List Move) (rest : List Order) → left_last later ≡ true → (is_left (last_that (λ move. true) later) ≡ true → rest ≡ []) →
      leaves_last (as_steps rest) ≡ true → leaves_last (as_steps (blocks wipe before later ++ rest)) ≡ true
  blocks-last before [] rest h f e = e
  blocks-last before (move ∷ later) rest h f e =
      by (is_left (Some move)) refl h (λ g. blocks-last (before ++ move ∷ []) later rest g (λ q. f (last-or (last_that (λ m. true) later) move q)) e)
    where
      by : (b : Bool) → is_left (Some move) ≡ b → (if b then length later == 0 else left_last later) ≡ true →
          (left_last later ≡ true → leaves_last (as_steps (blocks wipe (before ++ move ∷ []) later ++ rest)) ≡ true) →
          leaves_last (as_steps ((block wipe before move later ++ blocks wipe (before ++ move ∷ []) later) ++ rest)) ≡ true
      by true q g ih =
          let none = none-left later g in
          let empty : rest ≡ [] = f (ap (λ l. is_left (option_or (last_that (λ m. true) l) (Some move))) none ∙ q) in
          ap (λ l. leaves_last (as_steps ((block wipe before move l ++ blocks wipe (before ++ move ∷ []) l) ++ rest))) none
          ∙ (ap (λ r. leaves_last (as_steps ((block wipe before move [] ++ []) ++ r))) empty
          ∙ (ap (λ o. leaves_last (as_steps o)) (append-nil (block wipe before move [] ++ [])) ∙ left-alone before move [] q))
      by false q g ih =
          ap (λ o. leaves_last (as_steps o)) (append_assoc (block wipe before move later) (blocks wipe (before ++ move ∷ []) later) rest)
          ∙ pass (block wipe before move later) (blocks wipe (before ++ move ∷ []) later ++ rest) (block-stays before move later q) (ih g)

  tail-last : (b : Bool) → leaves_last (as_steps (if b then [] else Boot target.System ∷ [])) ≡ true
  tail-last true = refl
  tail-last false = refl

  tail-none : (skip left : Bool) → left ≡ true → (if skip || left then [] else Boot target.System ∷ []) ≡ []
  tail-none true left e = refl
  tail-none false left e = ap (λ b. if b then [] else Boot target.System ∷ []) e

  slot-first : (slot : Option Slot) (list : List Order) → leaves_last (as_steps list) ≡ true → leaves_last (as_steps (map Active (option_to_list slot) ++ list)) ≡ true
  slot-first None list e = e
  slot-first (Some slot) list e = e

  ordered-last : (skip : Bool) (slot : Option Slot) (moves : List Move) → left_last moves ≡ true →
      leaves_last (as_steps (map Active (option_to_list slot) ++ (blocks wipe [] moves ++ (if skip || ends_left moves then [] else Boot target.System ∷ [])))) ≡ true
  ordered-last skip slot moves h =
      slot-first slot (blocks wipe [] moves ++ (if skip || ends_left moves then [] else Boot target.System ∷ []))
      (blocks-last [] moves (if skip || ends_left moves then [] else Boot target.System ∷ []) h (tail-none skip (ends_left moves)) (tail-last (skip || ends_left moves)))

by-moves : (files : Files) (product : Product) (options : Options) (slot : Option Slot) (facts : Facts) (r : Result (List Move) PlanFault) (plan : List Step) →
    moves_from (work_of product) facts slot [] product.tasks ≡ r → steps_by files product (ordered_by options slot r) ≡ Ok plan → leaves_last plan ≡ true
by-moves files product options slot facts (Err fault) plan m e = absurd cc
by-moves files product options slot facts (Ok moves) plan m e =
    let a = moves-last (work_of product) facts slot [] product.tasks moves m in
    subst (λ p. leaves_last p ≡ true) (ok-same (steps_of files product (ordered options slot moves)) plan e)
    (ordered-last (images_of files product.tasks) (tables_in product.empty) options.wipe options.skip_reboot slot moves
    (ap left_last a.are ∙ a.last))

by-slot : (files : Files) (product : Product) (options : Options) (facts : Facts) (b : Bool) (plan : List Step) →
    steps_by files product (if b then Err (0, why.NoSlot) else ordered_by options (slot_of options.slot facts.current)
    (moves_from (work_of product) facts (slot_of options.slot facts.current) [] product.tasks)) ≡ Ok plan → leaves_last plan ≡ true
by-slot files product options facts true plan e = absurd cc
by-slot files product options facts false plan e =
    by-moves files product options (slot_of options.slot facts.current) facts
    (moves_from (work_of product) facts (slot_of options.slot facts.current) [] product.tasks) plan refl e

pub plan_leaves_last : PlanLeavesLast
unfolding orders
plan_leaves_last files product options s plan e = by-slot files product options (facts_of s) (is_slotless options.slot (facts_of s).current) plan e
