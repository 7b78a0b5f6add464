-- What the orders of a plan need of the product and of its device.
use Rattle.std.proofs.Common.{◌≡◌, ℕ, suc, ◌+◌, ◌*◌, ◌^◌, ◌<◌, ◌≤◌, Bool, true, false, List, [], ◌∷◌, ◌++◌, length, map, Option, Some, None, filter, refl, sym, ap, ◌∙◌, subst, arith, append_assoc, append-nil, length-append}
use Rattle.std.specs.Prelude.{Result, Ok, Err, IsTrue, not, ◌&&◌, ◌||◌, ◌==◌, flat_map, is_some, is_none, bytes_eq, option_to_list, if◌then◌else◌}
use Rattle.std.specs.List.{AllByRecursion, list_any}
use Rattle.std.proofs.lemmas.List.Sums.{sum_by-cons}
use Rattle.fb_frame.specs.declared.slot.Slot.{Slot}
use Rattle.fb_message.specs.declared.command.BootTarget.{BootTarget}
use Rattle.fb_message.specs.declared.command.BootTarget.TheVariants as target
use Rattle.dev_model.specs.declared.device.Dev.{Dev}
use Rattle.dev_model.specs.Steps.{leaves_last}
use Rattle.dev_model.specs.Variables.{first_ones}
use Rattle.product_info.specs.declared.task.Action.{Action}
use Rattle.product_info.specs.declared.task.Action.TheVariants.{Flash, Reboot, UpdateSuper, Erase}
use Rattle.product_info.specs.declared.task.Task.{Task}
use Rattle.flash_plan.specs.declared.options.Options.{Options}
use Rattle.flash_plan.specs.declared.plan.Order.{Order}
use Rattle.flash_plan.specs.declared.plan.Order.TheVariants.{Active, Resize, Put, Wipe, Table, Boot}
use Rattle.flash_plan.specs.declared.plan.PlanKind.{PlanKind}
use Rattle.flash_plan.specs.declared.plan.PlanKind.TheVariants as why
use Rattle.flash_plan.specs.declared.plan_move.Move.{Move}
use Rattle.flash_plan.specs.declared.plan_move.Move.TheVariants.{Flashes, Erases, Updates, Boots}
use Rattle.flash_plan.specs.declared.product.Product.{Product}
use Rattle.flash_plan.specs.Facts.{Facts, facts_of}
use Rattle.flash_plan.specs.Moves.{Work, PlanFault, is_flash, is_logical_move, leaves, aimed, updating, move_of, at_line, moves_from, next_size}
use Rattle.flash_plan.specs.Orders.{logical_target, is_logical_flash, logical_targets, runs_userspace, rises, empties, fits, own, block, blocks, ends_left, ordered, ordered_by, orders}
use Rattle.flash_plan.specs.Plans.{work_of, steps_of, steps_by, step_of, images_of, tables_in}
use Rattle.flash_plan.specs.Products.{IsWhole, is_update, is_update_action, image_file, file_of_action}
use Rattle.flash_plan.specs.Targets.{candidates, target_in, slot_of, is_slotless}
use Rattle.flash_plan.proofs.LastLemmas.{plan_leaves_last}
use Rattle.host_driver.specs.Running.{plan_cost, leave_last, IsOf, IsFor}
use Rattle.host_driver.specs.Stepping.{IsFixed}
use Rattle.host_driver.specs.Taking.{HasOwn, IsNamed, is_leaving, order_cost}
use Rattle.host_driver.proofs.DriveTaken.{no_files, step-leaves}
use Rattle.host_driver.proofs.LoopLemmas.{length-map}

-- What a task came to.
abbrev IsMove : Facts → Action → Move → Type 0
IsMove facts (Flash name file other) move = is_flash move ≡ true
IsMove facts (Erase name) move = (part : List ℕ) × (logical : Bool) × (move ≡ Erases part logical)
IsMove facts UpdateSuper move = (name : List ℕ) × (move ≡ Updates name) × (facts.super_name ≡ Some name)
IsMove facts (Reboot what) move = move ≡ Boots what

aimed-is : (make : List ℕ → Bool → Move) (o : Option (List ℕ × Bool)) (move : Move) → aimed make o ≡ Ok move → (aim : List ℕ × Bool) × (make aim.0 aim.1 ≡ move)
aimed-is make None move e = absurd cc
aimed-is make (Some aim) move e = let same : make aim.0 aim.1 ≡ move = cc in (aim, same)

flash-is : (b : Bool) (kind : PlanKind) (size : ℕ) (o : Option (List ℕ × Bool)) (move : Move) → (if b then Err kind else aimed (λ part logical. Flashes part logical size) o) ≡ Ok move → is_flash move ≡ true
flash-is true kind size o move e = absurd cc
flash-is false kind size o move e = let a = aimed-is (λ part logical. Flashes part logical size) o move e in sym (ap is_flash a.1)

update-is : (before : List Move) (o : Option (List ℕ)) (move : Move) → updating before o ≡ Ok move → (name : List ℕ) × (move ≡ Updates name) × (o ≡ Some name)
update-is before None move e = absurd cc
update-is before (Some name) move e = by (list_any is_logical_move before) e
  where
    by : (b : Bool) → (if b then Err why.UpdateSuper else Ok (Updates name)) ≡ Ok move → (n : List ℕ) × (move ≡ Updates n) × (Some name ≡ Some n)
    by true q = absurd cc
    by false q = let same : Updates name ≡ move = cc in (name, sym same, refl)

boot-is : (b : Bool) (what : BootTarget) (move : Move) → (if b then Err why.Reboot else Ok (Boots what)) ≡ Ok move → move ≡ Boots what
boot-is true what move e = absurd cc
boot-is false what move e = let same : Boots what ≡ move = cc in sym same

move-is : (work : Work) (facts : Facts) (slot : Option Slot) (before : List Move) (later : List Task) (action : Action) (move : Move) → move_of work facts slot before later action ≡ Ok move → IsMove facts action move
move-is work facts slot before later (Flash name file other) move e = flash-is (other && is_none slot) why.NoSlot (next_size work before) (target_in facts.kind work.listed (candidates slot other name)) move e
move-is work facts slot before later (Erase name) move e = let a = aimed-is Erases (target_in facts.kind work.listed (candidates slot false name)) move e in (a.0.0, a.0.1, sym a.1)
move-is work facts slot before later UpdateSuper move e = update-is before facts.super_name move e
move-is work facts slot before later (Reboot what) move e = boot-is (leaves what && not (length later == 0)) what move e

-- and what all came to, side by side
abbrev AreMoves : Facts → List Task → List Move → Type 0
AreMoves facts [] [] = Unit {0}
AreMoves facts [] (move ∷ moves) = ⊥
AreMoves facts (task ∷ tasks) [] = ⊥
AreMoves facts (task ∷ tasks) (move ∷ moves) = IsMove facts task.action move × AreMoves facts tasks moves

line-ok : {X Y : Type 0} (line : ℕ) (r : Result X PlanKind) (onward : X → Result Y PlanFault) (y : Y) → at_line line r onward ≡ Ok y → (x : X) × (r ≡ Ok x) × (onward x ≡ Ok y)
line-ok line (Err kind) onward y e = absurd cc
line-ok line (Ok x) onward y e = (x, refl, e)

moves-are : (work : Work) (facts : Facts) (slot : Option Slot) (before : List Move) (tasks : List Task) (moves : List Move) → moves_from work facts slot before tasks ≡ Ok moves → (more : List Move) × (moves ≡ before ++ more) × AreMoves facts tasks more
moves-are work facts slot before [] moves e = let same : before ≡ moves = cc in ([], sym same ∙ sym (append-nil before), tt)
moves-are work facts slot before (task ∷ later) moves e =
    let a = line-ok task.line (move_of work facts slot before later task.action) (λ move. moves_from work facts slot (before ++ move ∷ []) later) moves e in
    let r = moves-are work facts slot (before ++ a.0 ∷ []) later moves a.2 in
    (a.0 ∷ r.0, r.1 ∙ append_assoc before (a.0 ∷ []) r.0, (move-is work facts slot before later task.action a.0 a.1, r.2))

-- there are as many
are-many : (facts : Facts) (tasks : List Task) (moves : List Move) → AreMoves facts tasks moves → length moves ≡ length tasks
are-many facts [] [] a = refl
are-many facts [] (move ∷ moves) a = absurd a
are-many facts (task ∷ tasks) [] a = absurd a
are-many facts (task ∷ tasks) (move ∷ moves) a = ap suc (are-many facts tasks moves a.1)

-- as many flashes as images
abbrev flashes : List Move → ℕ
flashes moves = length (filter is_flash moves)

with-flash : (move : Move) (moves : List Move) (b : Bool) → is_flash move ≡ b → flashes (move ∷ moves) ≡ (if b then suc (flashes moves) else flashes moves)
with-flash move moves true e = rw e refl
with-flash move moves false e = rw e refl

flash-one : (facts : Facts) (action : Action) (move : Move) (moves : List Move) → IsMove facts action move → flashes (move ∷ moves) ≡ length (file_of_action action) + flashes moves
flash-one facts (Flash name file other) move moves a = let e = with-flash move moves true a in omega (arith, e)
flash-one facts (Erase name) move moves a = let e = with-flash move moves false (ap is_flash a.2) in omega (arith, e)
flash-one facts UpdateSuper move moves a = let e = with-flash move moves false (ap is_flash a.1) in omega (arith, e)
flash-one facts (Reboot what) move moves a = let e = with-flash move moves false (ap is_flash a) in omega (arith, e)

flashes-many : (facts : Facts) (tasks : List Task) (moves : List Move) → AreMoves facts tasks moves → flashes moves ≡ length (flat_map image_file tasks)
flashes-many facts [] [] a = refl
flashes-many facts [] (move ∷ moves) a = absurd a
flashes-many facts (task ∷ tasks) [] a = absurd a
flashes-many facts (task ∷ tasks) (move ∷ moves) a =
    let one = flash-one facts task.action move moves a.0 in
    let rest = flashes-many facts tasks moves a.1 in
    let both = length-append (file_of_action task.action) (flat_map image_file tasks) in
    omega (arith, one, rest, both)

-- where super is updated, a task updates it, and it has the name
abbrev IsSupplied : Facts → Type 0 → Move → Type 0
IsSupplied facts X (Updates name) = X × (facts.super_name ≡ Some name)
IsSupplied facts X (Flashes name logical size) = Unit {0}
IsSupplied facts X (Erases name logical) = Unit {0}
IsSupplied facts X (Boots what) = Unit {0}

flash-supplied : (facts : Facts) (X : Type 0) (move : Move) → is_flash move ≡ true → IsSupplied facts X move
flash-supplied facts X (Flashes name logical size) e = tt
flash-supplied facts X (Erases name logical) e = tt
flash-supplied facts X (Updates name) e = absurd cc
flash-supplied facts X (Boots what) e = tt

move-supplied : (facts : Facts) (X : Type 0) (task : Task) (move : Move) → (is_update task ≡ true → X) → IsMove facts task.action move → IsSupplied facts X move
move-supplied facts X task move x a = by task.action x a
  where
    by : (action : Action) → (is_update_action action ≡ true → X) → IsMove facts action move → IsSupplied facts X move
    by (Flash name file other) x a = flash-supplied facts X move a
    by (Erase name) x a = subst (IsSupplied facts X) (sym a.2) tt
    by UpdateSuper x a = subst (IsSupplied facts X) (sym a.1) (x refl, a.2)
    by (Reboot what) x a = subst (IsSupplied facts X) (sym a) tt

or-one : (a b : Bool) → a ≡ true → (a || b) ≡ true
or-one a b e = rw e refl

or-two : (a b : Bool) → b ≡ true → (a || b) ≡ true
or-two true b e = refl
or-two false b e = e

all-supplied : (facts : Facts) (X : Type 0) (tasks : List Task) (moves : List Move) → (list_any is_update tasks ≡ true → X) → AreMoves facts tasks moves → AllByRecursion (IsSupplied facts X) moves
all-supplied facts X [] [] x a = tt
all-supplied facts X [] (move ∷ moves) x a = absurd a
all-supplied facts X (task ∷ tasks) [] x a = absurd a
all-supplied facts X (task ∷ tasks) (move ∷ moves) x a = (
  move-supplied facts X task move (λ e. x (or-one (is_update task) (list_any is_update tasks) e)) a.0,
  all-supplied facts X tasks moves (λ e. x (or-two (is_update task) (list_any is_update tasks) e)) a.1,
)

-- What the orders need, task by task.
abbrev Fits : Facts → Product → Order → Type 0
Fits facts product (Put name place) = place < length product.images
Fits facts product (Table name wipe) = IsTrue (is_some product.empty) × (facts.super_name ≡ Some name)
Fits facts product (Active slot) = Unit {0}
Fits facts product (Resize name size) = Unit {0}
Fits facts product (Wipe name) = Unit {0}
Fits facts product (Boot what) = Unit {0}

all-append : {X : Type 0} (P : X → Type 0) (xs ys : List X) → AllByRecursion P xs → AllByRecursion P ys → AllByRecursion P (xs ++ ys)
all-append P [] ys a b = b
all-append P (x ∷ xs) ys a b = (a.0, all-append P xs ys a.1 b)

all-if : {X : Type 0} (P : X → Type 0) (b : Bool) (xs : List X) → AllByRecursion P xs → AllByRecursion P (if b then xs else [])
all-if P true xs a = a
all-if P false xs a = tt

all-emptied : (facts : Facts) (product : Product) (names : List (List ℕ)) → AllByRecursion (Fits facts product) (map (λ name. Resize name 0) names)
all-emptied facts product [] = tt
all-emptied facts product (name ∷ names) = (tt, all-emptied facts product names)

all-fits : (facts : Facts) (product : Product) (move : Move) → AllByRecursion (Fits facts product) (fits move)
all-fits facts product (Flashes name true size) = (tt, tt)
all-fits facts product (Flashes name false size) = tt
all-fits facts product (Erases name logical) = tt
all-fits facts product (Updates name) = tt
all-fits facts product (Boots what) = tt

flashes-append : (xs ys : List Move) → flashes (xs ++ ys) ≡ flashes xs + flashes ys
flashes-append [] ys = omega arith
flashes-append (x ∷ xs) ys = by (is_flash x) refl (flashes-append xs ys)
  where
    by : (b : Bool) → is_flash x ≡ b → flashes (xs ++ ys) ≡ flashes xs + flashes ys → flashes (x ∷ xs ++ ys) ≡ flashes (x ∷ xs) + flashes ys
    by true e h = let a = with-flash x (xs ++ ys) true e in let b = with-flash x xs true e in omega (arith, h, a, b)
    by false e h = let a = with-flash x (xs ++ ys) false e in let b = with-flash x xs false e in omega (arith, h, a, b)

own-fits : (facts : Facts) (product : Product) (wipe : Bool) (before : List Move) (move : Move) (later : List Move) → IsSupplied facts (IsTrue (is_some product.empty)) move → flashes (before ++ move ∷ later) ≤ length product.images →
    Fits facts product (own wipe before move)
own-fits facts product wipe before (Flashes name logical size) later s h = let e = flashes-append before (Flashes name logical size ∷ later) in let one = with-flash (Flashes name logical size) later true refl in omega (arith, h, e, one)
own-fits facts product wipe before (Erases name logical) later s h = tt
own-fits facts product wipe before (Updates name) later s h = s
own-fits facts product wipe before (Boots what) later s h = tt

block-fits : (facts : Facts) (product : Product) (wipe : Bool) (before : List Move) (move : Move) (later : List Move) → IsSupplied facts (IsTrue (is_some product.empty)) move → flashes (before ++ move ∷ later) ≤ length product.images →
    AllByRecursion (Fits facts product) (block wipe before move later)
block-fits facts product wipe before move later s h =
    let one : AllByRecursion (Fits facts product) (Boot target.Fastboot ∷ []) = (tt, tt) in
    let last : AllByRecursion (Fits facts product) (own wipe before move ∷ []) = (own-fits facts product wipe before move later s h, tt) in
    all-append (Fits facts product) (rises before move) (empties before move later ++ (fits move ++ own wipe before move ∷ []))
    (all-if (Fits facts product) (is_logical_move move && not (runs_userspace before)) (Boot target.Fastboot ∷ []) one)
    (all-append (Fits facts product) (empties before move later) (fits move ++ own wipe before move ∷ [])
    (all-if (Fits facts product) (is_logical_flash move && not (list_any is_logical_flash before)) (map (λ name. Resize name 0) (logical_targets (before ++ move ∷ later))) (all-emptied facts product (logical_targets (before ++ move ∷ later))))
    (all-append (Fits facts product) (fits move) (own wipe before move ∷ []) (all-fits facts product move) last))

blocks-fit : (facts : Facts) (product : Product) (wipe : Bool) (before later : List Move) → AllByRecursion (IsSupplied facts (IsTrue (is_some product.empty))) later → flashes (before ++ later) ≤ length product.images →
    AllByRecursion (Fits facts product) (blocks wipe before later)
blocks-fit facts product wipe before [] s h = tt
blocks-fit facts product wipe before (move ∷ later) s h =
    all-append (Fits facts product) (block wipe before move later) (blocks wipe (before ++ move ∷ []) later) (block-fits facts product wipe before move later s.0 h)
    (blocks-fit facts product wipe (before ++ move ∷ []) later s.1 (subst (λ l. flashes l ≤ length product.images) (sym (append_assoc before (move ∷ []) later)) h))

-- How much they take of a connection.
cost-append : (xs ys : List Order) → plan_cost (xs ++ ys) ≡ plan_cost xs + plan_cost ys
cost-append [] ys = omega arith
cost-append (x ∷ xs) ys = let h = cost-append xs ys in let a = sum_by-cons order_cost x (xs ++ ys) in let b = sum_by-cons order_cost x xs in omega (arith, h, a, b)

cost-if : (b : Bool) (xs : List Order) → plan_cost (if b then xs else []) ≤ plan_cost xs
cost-if true xs = omega arith
cost-if false xs = omega arith

cost-emptied : (names : List (List ℕ)) → plan_cost (map (λ name. Resize name 0) names) ≡ 2 ^ 30 * length names
cost-emptied [] = refl
cost-emptied (name ∷ names) = let h = cost-emptied names in let a = sum_by-cons order_cost (Resize name 0) (map (λ name. Resize name 0) names) in omega (arith, h, a)

cost-fits : (move : Move) → plan_cost (fits move) ≤ 2 ^ 30
cost-fits (Flashes name true size) = omega arith
cost-fits (Flashes name false size) = omega arith
cost-fits (Erases name logical) = omega arith
cost-fits (Updates name) = omega arith
cost-fits (Boots what) = omega arith

cost-own : (wipe : Bool) (before : List Move) (move : Move) → order_cost (own wipe before move) ≤ 2 ^ 48
cost-own wipe before (Flashes name logical size) = omega arith
cost-own wipe before (Erases name logical) = omega arith
cost-own wipe before (Updates name) = omega arith
cost-own wipe before (Boots what) = omega arith

fewer-filter : {X : Type 0} (test : X → Bool) (xs : List X) → length (filter test xs) ≤ length xs
fewer-filter test [] = omega arith
fewer-filter test (x ∷ xs) = by (test x) refl (fewer-filter test xs)
  where
    by : (b : Bool) → test x ≡ b → length (filter test xs) ≤ length xs → length (filter test (x ∷ xs)) ≤ suc (length xs)
    by true e h = rw e (omega (arith, h))
    by false e h = rw e (omega (arith, h))

few-ones : (xs : List (List ℕ)) → length (first_ones xs) ≤ length xs
few-ones [] = omega arith
few-ones (x ∷ xs) = let h = few-ones xs in let g = fewer-filter (λ y. not (bytes_eq y x)) (first_ones xs) in omega (arith, h, g)

few-target : (move : Move) → length (logical_target move) ≤ 1
few-target (Flashes name true size) = omega arith
few-target (Flashes name false size) = omega arith
few-target (Erases name logical) = omega arith
few-target (Updates name) = omega arith
few-target (Boots what) = omega arith

few-targets : (moves : List Move) → length (flat_map logical_target moves) ≤ length moves
few-targets [] = omega arith
few-targets (move ∷ moves) = let h = few-targets moves in let g = few-target move in let e = length-append (logical_target move) (flat_map logical_target moves) in omega (arith, h, g, e)

cost-block : (wipe : Bool) (before : List Move) (move : Move) (later : List Move) → length (before ++ move ∷ later) ≤ 256 → plan_cost (block wipe before move later) ≤ 2 ^ 49
cost-block wipe before move later h =
    let names = logical_targets (before ++ move ∷ later) in
    let one = sum_by-cons order_cost (Boot target.Fastboot) [] in
    let two = sum_by-cons order_cost (own wipe before move) [] in
    let a = cost-append (rises before move) (empties before move later ++ (fits move ++ own wipe before move ∷ [])) in
    let b = cost-append (empties before move later) (fits move ++ own wipe before move ∷ []) in
    let c = cost-append (fits move) (own wipe before move ∷ []) in
    let r = cost-if (is_logical_move move && not (runs_userspace before)) (Boot target.Fastboot ∷ []) in
    let e = cost-if (is_logical_flash move && not (list_any is_logical_flash before)) (map (λ name. Resize name 0) names) in
    let n = cost-emptied names in
    let m = few-ones (flat_map logical_target (before ++ move ∷ later)) in
    let k = few-targets (before ++ move ∷ later) in
    let f = cost-fits move in
    let o = cost-own wipe before move in
    omega (arith, h, one, two, a, b, c, r, e, n, m, k, f, o)

cost-blocks : (wipe : Bool) (before later : List Move) → length (before ++ later) ≤ 256 → plan_cost (blocks wipe before later) ≤ 2 ^ 49 * length later
cost-blocks wipe before [] h = omega arith
cost-blocks wipe before (move ∷ later) h =
    let a = cost-append (block wipe before move later) (blocks wipe (before ++ move ∷ []) later) in
    let b = cost-block wipe before move later h in
    let c = cost-blocks wipe (before ++ move ∷ []) later (subst (λ l. length l ≤ 256) (sym (append_assoc before (move ∷ []) later)) h) in
    omega (arith, a, b, c)

least-one : (o : Order) → 2 ^ 30 ≤ order_cost o
least-one (Active slot) = omega arith
least-one (Resize name size) = omega arith
least-one (Put name place) = omega arith
least-one (Wipe name) = omega arith
least-one (Table name wipe) = omega arith
least-one (Boot what) = omega arith

cost-least : (plan : List Order) → 2 ^ 30 * length plan ≤ plan_cost plan
cost-least [] = omega arith
cost-least (o ∷ plan) = let h = cost-least plan in let g = least-one o in let a = sum_by-cons order_cost o plan in omega (arith, h, g, a)

-- All that a plan needs.
pub record IsFitting (facts : Facts) (product : Product) (plan : List Order) : Type 0 where
  pub all : AllByRecursion (Fits facts product) plan
  pub room : plan_cost plan ≤ 2 ^ 60

slot-fits : (facts : Facts) (product : Product) (slot : Option Slot) → AllByRecursion (Fits facts product) (map Active (option_to_list slot))
slot-fits facts product None = tt
slot-fits facts product (Some slot) = (tt, tt)

slot-cost : (slot : Option Slot) → plan_cost (map Active (option_to_list slot)) ≤ 2 ^ 30
slot-cost None = omega arith
slot-cost (Some slot) = omega arith

tail-fits : (facts : Facts) (product : Product) (b : Bool) → AllByRecursion (Fits facts product) (if b then [] else Boot target.System ∷ [])
tail-fits facts product true = tt
tail-fits facts product false = (tt, tt)

tail-cost : (b : Bool) → plan_cost (if b then [] else Boot target.System ∷ []) ≤ 2 ^ 30
tail-cost true = omega arith
tail-cost false = omega arith

ordered-fits : (facts : Facts) (product : Product) (options : Options) (slot : Option Slot) (moves : List Move) → AllByRecursion (IsSupplied facts (IsTrue (is_some product.empty))) moves → flashes moves ≤ length product.images → length moves ≤ 256 →
    IsFitting facts product (ordered options slot moves)
ordered-fits facts product options slot moves s h few =
    let last = (if options.skip_reboot || ends_left moves then [] else Boot target.System ∷ []) in
    let a = cost-append (map Active (option_to_list slot)) (blocks options.wipe [] moves ++ last) in
    let b = cost-append (blocks options.wipe [] moves) last in
    let c = cost-blocks options.wipe [] moves few in
    let d = slot-cost slot in
    let e = tail-cost (options.skip_reboot || ends_left moves) in
    record {
      all = all-append (Fits facts product) (map Active (option_to_list slot)) _ (slot-fits facts product slot)
          (all-append (Fits facts product) (blocks options.wipe [] moves) last (blocks-fit facts product options.wipe [] moves s h) (tail-fits facts product (options.skip_reboot || ends_left moves)));
      room = omega (arith, a, b, c, d, e, few);
    }

supplied-by : (a b : Bool) → IsTrue (not a || b) → a ≡ true → IsTrue b
supplied-by true b h e = h
supplied-by false b h e = absurd cc

by-moves : (facts : Facts) (product : Product) (options : Options) (slot : Option Slot) (r : Result (List Move) PlanFault) (plan : List Order) → IsWhole product → moves_from (work_of product) facts slot [] product.tasks ≡ r →
    ordered_by options slot r ≡ Ok plan → IsFitting facts product plan
by-moves facts product options slot (Err fault) plan w m e = absurd cc
by-moves facts product options slot (Ok moves) plan w m e =
    let a = moves-are (work_of product) facts slot [] product.tasks moves m in
    let same : moves ≡ a.0 = a.1 in
    let many = are-many facts product.tasks a.0 a.2 in
    let flash = flashes-many facts product.tasks a.0 a.2 in
    let few = w.few_tasks in
    let images = w.images in
    let it : ordered options slot moves ≡ plan = cc in
    subst (IsFitting facts product) it
    (subst (λ l. IsFitting facts product (ordered options slot l)) (sym same)
    (ordered-fits facts product options slot a.0 (all-supplied facts (IsTrue (is_some product.empty)) product.tasks a.0 (supplied-by (list_any is_update product.tasks) (is_some product.empty) w.updates) a.2) (omega (arith, flash, images)) (omega (arith, many, few))))

by-slot : (facts : Facts) (product : Product) (options : Options) (b : Bool) (plan : List Order) → IsWhole product →
    (if b then Err (0, why.NoSlot) else ordered_by options (slot_of options.slot facts.current) (moves_from (work_of product) facts (slot_of options.slot facts.current) [] product.tasks)) ≡ Ok plan → IsFitting facts product plan
by-slot facts product options true plan w e = absurd cc
by-slot facts product options false plan w e =
    by-moves facts product options (slot_of options.slot facts.current) (moves_from (work_of product) facts (slot_of options.slot facts.current) [] product.tasks) plan w refl e

pub plan-fits : (product : Product) (options : Options) (facts : Facts) (plan : List Order) → IsWhole product → orders (work_of product) options facts ≡ Ok plan → IsFitting facts product plan
unfolding orders
plan-fits product options facts plan w e = by-slot facts product options (is_slotless options.slot facts.current) plan w e

-- of the product
owns : (facts : Facts) (product : Product) (plan : List Order) → AllByRecursion (Fits facts product) plan → AllByRecursion (HasOwn product) plan
owns facts product [] a = tt
owns facts product (Active slot ∷ plan) a = (tt, owns facts product plan a.1)
owns facts product (Resize name size ∷ plan) a = (tt, owns facts product plan a.1)
owns facts product (Put name place ∷ plan) a = (a.0, owns facts product plan a.1)
owns facts product (Wipe name ∷ plan) a = (tt, owns facts product plan a.1)
owns facts product (Table name wipe ∷ plan) a = (a.0.0, owns facts product plan a.1)
owns facts product (Boot what ∷ plan) a = (tt, owns facts product plan a.1)

pub plan-of : (product : Product) (options : Options) (facts : Facts) (plan : List Order) → IsWhole product → orders (work_of product) options facts ≡ Ok plan → IsOf product plan
plan-of product options facts plan w e =
    let f = plan-fits product options facts plan w e in
    record { own = owns facts product plan f.all; few = (let c = cost-least plan in let r = f.room in omega (arith, c, r)); room = f.room }

-- and of the device
names : (facts : Facts) (product : Product) (dev : Dev) (plan : List Order) → dev.super_name ≡ facts.super_name → AllByRecursion (Fits facts product) plan → AllByRecursion (IsNamed dev) plan
names facts product dev [] e a = tt
names facts product dev (Active slot ∷ plan) e a = (tt, names facts product dev plan e a.1)
names facts product dev (Resize name size ∷ plan) e a = (tt, names facts product dev plan e a.1)
names facts product dev (Put name place ∷ plan) e a = (tt, names facts product dev plan e a.1)
names facts product dev (Wipe name ∷ plan) e a = (tt, names facts product dev plan e a.1)
names facts product dev (Table name wipe ∷ plan) e a = (e ∙ a.0.1, names facts product dev plan e a.1)
names facts product dev (Boot what ∷ plan) e a = (tt, names facts product dev plan e a.1)

last-orders : (product : Product) (plan : List Order) → leaves_last (steps_of no_files product plan) ≡ true → leave_last plan ≡ true
last-orders product [] e = refl
last-orders product (o ∷ plan) e =
    by (is_leaving o) (last-orders product plan)
    (subst (λ b. (if b then length (steps_of no_files product plan) == 0 else leaves_last (steps_of no_files product plan)) ≡ true) (step-leaves (images_of no_files product.tasks) (tables_in product.empty) o) e)
  where
    by : (b : Bool) → (leaves_last (steps_of no_files product plan) ≡ true → leave_last plan ≡ true) → (if b then length (steps_of no_files product plan) == 0 else leaves_last (steps_of no_files product plan)) ≡ true →
        (if b then length plan == 0 else leave_last plan) ≡ true
    by true k q = ap (λ n. n == 0) (sym (length-map (step_of (images_of no_files product.tasks) (tables_in product.empty)) plan)) ∙ q
    by false k q = k q

pub plan-for : (product : Product) (options : Options) (most : ℕ) (s t : Dev) (plan : List Order) → IsWhole product → orders (work_of product) options (facts_of s) ≡ Ok plan → most ≡ s.max → IsFixed s t → IsFor plan most t
plan-for product options most s t plan w e m f =
    let a = plan-fits product options (facts_of s) plan w e in
    record {
      fits = (let k = f.most in omega (arith, m, k));
      named = names (facts_of s) product t plan f.super_name a.all;
      last = last-orders product plan (plan_leaves_last no_files product options s (steps_of no_files product plan) (ap (steps_by no_files product) e));
    }
