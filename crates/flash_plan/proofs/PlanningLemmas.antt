-- What a planner carries from task to task.
use Rattle.std.proofs.Common.{◌≡◌, ℕ, ◌+◌, ◌-◌, ◌≤◌, ◌<◌, Bool, true, false, cond, Option, Some, None, List, [], ◌∷◌, ◌++◌, length, get_or, take, drop, filter, refl, ap, sym, ◌∙◌, arith, add-one, append-nil}
use Rattle.std.specs.Prelude.{not, ◌||◌, Result, Ok, Err, map, slice_get, if◌then◌else◌}
use Rattle.std.specs.Option.{option_or}
use Rattle.std.specs.List.{list_any}
use Rattle.std.specs.Result.{IsErrOf}
use Rattle.std.proofs.Math.Seq.{drop-cons, take-length}
use Rattle.std.proofs.lemmas.List.{take_more, take-append-drop, length-drop}
use Rattle.std.proofs.lemmas.Option.{slice_get_within, slice_get-get_or}
use Rattle.fb_frame.specs.declared.slot.Slot.{Slot}
use Rattle.product_info.specs.declared.task.Task.{Task}
use Rattle.dev_model.specs.Variables.{first_ones}
use Rattle.dev_model.proofs.FirstOnes.{among, first_turn}
use Rattle.flash_plan.specs.declared.answers.Answers.{Answers}
use Rattle.flash_plan.specs.declared.options.Options.{Options}
use Rattle.flash_plan.specs.declared.plan.Order.{Order}
use Rattle.flash_plan.specs.declared.plan.PlanError.{PlanError}
use Rattle.flash_plan.specs.declared.plan.PlanError.TheVariants.{Bad}
use Rattle.flash_plan.specs.declared.plan.PlanKind.{PlanKind}
use Rattle.flash_plan.specs.declared.plan.PlanKind.TheVariants as why
use Rattle.flash_plan.specs.declared.plan_move.Move.{Move}
use Rattle.flash_plan.specs.declared.plan_move.Move.TheVariants.{Flashes, Erases, Updates, Boots}
use Rattle.flash_plan.specs.declared.plan_move.Past.{Past}
use Rattle.flash_plan.specs.declared.product.Product.{Product}
use Rattle.flash_plan.specs.Facts.{Facts, facts_in}
use Rattle.flash_plan.specs.Moves.{Work, PlanFault, is_flash, is_logical_move, move_of, moves_from, at_line}
use Rattle.flash_plan.specs.Orders.{is_logical_flash, logical_target, logical_targets, is_turn, is_up, is_left, ends_left, last_that, runs_userspace, block, blocks, ordered_by, orders}
use Rattle.flash_plan.specs.Planning.{past_of}
use Rattle.flash_plan.specs.Plans.{work_of, image_size, listed_in}
use Rattle.flash_plan.specs.Targets.{slot_of, is_slotless}
use Rattle.flash_plan.proofs.RepeatLemmas.{any-snoc}

-- The list from a place on.
pub from-here : {X : Type 0} (xs : List X) (i : ℕ) (x : X) → i < length xs → x ≡ get_or xs i x → drop i xs ≡ x ∷ drop (i + 1) xs
from-here xs i x h e = sym (rw (add-one, drop-cons xs i x h, ← e) refl)

pub up-to-here : {X : Type 0} (xs : List X) (i : ℕ) (x : X) → i < length xs → x ≡ get_or xs i x → take (i + 1) xs ≡ take i xs ++ x ∷ []
up-to-here xs i x h e = take_more xs i x h ∙ ap (λ y. take i xs ++ y ∷ []) (sym e)

-- what is left from a place on is all of it
pub all-left : {X : Type 0} (xs : List X) (n : ℕ) → take (length xs - n) (drop n xs) ≡ drop n xs
all-left xs n = ap (λ k. take k (drop n xs)) (sym (length-drop n xs)) ∙ take-length (drop n xs)

-- One task more.
last-snoc : (test : Move → Bool) (before : List Move) (act : Move) → last_that test (before ++ act ∷ []) ≡ (if test act then Some act else last_that test before)
last-snoc test [] act = by (test act) where
  by : (b : Bool) → option_or None (if b then Some act else None) ≡ (if b then Some act else None)
  by true = refl
  by false = refl
last-snoc test (move ∷ before) act =
    ap (λ o. option_or o (if test move then Some move else None)) (last-snoc test before act) ∙ by (test act)
  where
    by : (b : Bool) → option_or (if b then Some act else last_that test before) (if test move then Some move else None)
        ≡ (if b then Some act else option_or (last_that test before) (if test move then Some move else None))
    by true = refl
    by false = refl

runs-snoc : (before : List Move) (act : Move) → runs_userspace (before ++ act ∷ []) ≡ (if is_turn act then is_up (Some act) else runs_userspace before)
runs-snoc before act = ap is_up (last-snoc is_turn before act) ∙ by (is_turn act) where
  by : (b : Bool) → is_up (if b then Some act else last_that is_turn before) ≡ (if b then is_up (Some act) else runs_userspace before)
  by true = refl
  by false = refl

flashes-snoc : (before : List Move) (act : Move) → length (filter is_flash (before ++ act ∷ [])) ≡ length (filter is_flash before) + cond (is_flash act) 1 0
flashes-snoc [] act = by (is_flash act) where
  by : (b : Bool) → length (cond b (act ∷ []) []) ≡ 0 + cond b 1 0
  by true = refl
  by false = refl
flashes-snoc (move ∷ before) act = by (is_flash move) (flashes-snoc before act) where
  by : (b : Bool) → length (filter is_flash (before ++ act ∷ [])) ≡ length (filter is_flash before) + cond (is_flash act) 1 0 →
      length (cond b (move ∷ filter is_flash (before ++ act ∷ [])) (filter is_flash (before ++ act ∷ [])))
      ≡ length (cond b (move ∷ filter is_flash before) (filter is_flash before)) + cond (is_flash act) 1 0
  by true e = omega (arith, e)
  by false e = e

-- what is carried after one task more
pub past-more : (before : List Move) (act : Move) → past_of (before ++ act ∷ []) ≡ record {
  flashes = length (filter is_flash before) + cond (is_flash act) 1 0;
  logical = list_any is_logical_move before || is_logical_move act;
  emptied = list_any is_logical_flash before || is_logical_flash act;
  userspace = if is_turn act then is_up (Some act) else runs_userspace before;
}
past-more before act =
    let f = flashes-snoc before act in
    let l = any-snoc is_logical_move before act in
    let e = any-snoc is_logical_flash before act in
    let u = runs-snoc before act in
    cc

-- a test that is one of two
pub or-first : (r a b : Bool) → a ≡ true → r ≡ a → r ≡ (a || b)
or-first r a b e h = h ∙ e ∙ sym (ap (λ c. c || b) e)

pub or-second : (r a b : Bool) → a ≡ false → r ≡ b → r ≡ (a || b)
or-second r a b e h = h ∙ sym (ap (λ c. c || b) e)

few-flashes : (moves : List Move) → length (filter is_flash moves) ≤ length moves
few-flashes [] = omega arith
few-flashes (move ∷ moves) = by (is_flash move) (few-flashes moves) where
  by : (b : Bool) → length (filter is_flash moves) ≤ length moves → length (cond b (move ∷ filter is_flash moves) (filter is_flash moves)) ≤ length (move ∷ moves)
  by true h = omega (arith, h)
  by false h = omega (arith, h)

pub past-few : (moves : List Move) (past : Past) → past ≡ past_of moves → past.flashes ≤ length moves
past-few moves past e = let f = few-flashes moves in let g : past.flashes ≡ length (filter is_flash moves) = ap (λ p. p.flashes) e in omega (arith, f, g)

pub past-after : (before : List Move) (act : Move) (past : Past) (one : ℕ) (l m u : Bool) → past ≡ past_of before →
    one ≡ cond (is_flash act) 1 0 → l ≡ (past.logical || is_logical_move act) → m ≡ (past.emptied || is_logical_flash act) →
    u ≡ (if is_turn act then is_up (Some act) else past.userspace) →
    record { flashes = past.flashes + one; logical = l; emptied = m; userspace = u } ≡ past_of (before ++ act ∷ [])
past-after before act past one l m u e f g h i =
    let all = past-more before act in
    let k : past.userspace ≡ runs_userspace before = ap (λ p. p.userspace) e in
    let n : u ≡ (if is_turn act then is_up (Some act) else runs_userspace before) = i ∙ ap (λ b. if is_turn act then is_up (Some act) else b) k in
    let o : l ≡ (list_any is_logical_move before || is_logical_move act) = g ∙ ap (λ p. p.logical || is_logical_move act) e in
    let q : m ≡ (list_any is_logical_flash before || is_logical_flash act) = h ∙ ap (λ p. p.emptied || is_logical_flash act) e in
    let r : past.flashes + one ≡ length (filter is_flash before) + cond (is_flash act) 1 0 = ap (λ p. p.flashes + one) e ∙ ap (λ n. length (filter is_flash before) + n) f in
    cc

-- The device leaves fastboot by the last task.
pub left-snoc : (before : List Move) (act : Move) → ends_left (before ++ act ∷ []) ≡ is_left (Some act)
left-snoc before act = ap is_left (last-snoc (λ move. true) before act)

pub ends-at : (moves : List Move) (act : Move) → Some act ≡ slice_get moves (length moves - 1) → is_left (Some act) ≡ ends_left moves
ends-at moves act e =
    let within : length moves - 1 < length moves = slice_get_within moves (length moves - 1) act (sym e) in
    let here : act ≡ get_or moves (length moves - 1) act = some-same (e ∙ slice_get-get_or moves (length moves - 1) act within) in
    let last : (length moves - 1) + 1 ≡ length moves = omega (arith, within) in
    let all : take (length moves - 1) moves ++ act ∷ [] ≡ moves =
    sym (up-to-here moves (length moves - 1) act within here) ∙ ap (λ n. take n moves) last ∙ take-length moves in
    sym (left-snoc (take (length moves - 1) moves) act) ∙ ap ends_left all
  where
    some-same : {x y : Move} → Some x ≡ Some y → x ≡ y
    some-same f = cc

-- The next task of those that are left.
pub moves-turn : (work : Work) (facts : Facts) (slot : Option Slot) (before : List Move) (tasks : List Task) (i : ℕ) (task : Task) →
    i < length tasks → task ≡ get_or tasks i task →
    moves_from work facts slot before (drop i tasks)
    ≡ at_line task.line (move_of work facts slot before (drop (i + 1) tasks) task.action) (λ move. moves_from work facts slot (before ++ move ∷ []) (drop (i + 1) tasks))
moves-turn work facts slot before tasks i task h e = ap (λ left. moves_from work facts slot before left) (from-here tasks i task h e)

pub moves-next : (work : Work) (facts : Facts) (slot : Option Slot) (before after : List Move) (tasks : List Task) (i : ℕ) (task : Task) (act : Move) →
    i < length tasks → task ≡ get_or tasks i task →
    move_of work facts slot before (take (length tasks - (i + 1)) (drop (i + 1) tasks)) task.action ≡ Ok act → after ≡ before ++ act ∷ [] →
    moves_from work facts slot after (drop (i + 1) tasks) ≡ moves_from work facts slot before (drop i tasks)
moves-next work facts slot before after tasks i task act h e f g =
    ap (λ moves. moves_from work facts slot moves (drop (i + 1) tasks)) g
    ∙ sym (moves-turn work facts slot before tasks i task h e ∙ ap (λ r. at_line task.line r (λ move. moves_from work facts slot (before ++ move ∷ []) (drop (i + 1) tasks))) called)
  where
    called : move_of work facts slot before (drop (i + 1) tasks) task.action ≡ Ok act
    called = ap (λ later. move_of work facts slot before later task.action) (sym (all-left tasks (i + 1))) ∙ f

-- The next block of those that are left.
pub blocks-turn : (wipe : Bool) (moves : List Move) (i : ℕ) (act : Move) → i < length moves → act ≡ get_or moves i act →
    blocks wipe (take i moves) (drop i moves)
    ≡ block wipe (take i moves) act (drop (i + 1) moves) ++ blocks wipe (take (i + 1) moves) (drop (i + 1) moves)
blocks-turn wipe moves i act h e =
    ap (λ left. blocks wipe (take i moves) left) (from-here moves i act h e)
    ∙ ap (λ before. block wipe (take i moves) act (drop (i + 1) moves) ++ blocks wipe before (drop (i + 1) moves)) (sym (up-to-here moves i act h e))

-- all of these are those before, this one, and those after it
pub targets-here : (moves : List Move) (i : ℕ) (act : Move) → i < length moves → act ≡ get_or moves i act →
    logical_targets moves ≡ logical_targets (take i moves ++ act ∷ drop (i + 1) moves)
targets-here moves i act h e = ap logical_targets (sym (ap (λ left. take i moves ++ left) (sym (from-here moves i act h e)) ∙ take-append-drop i moves))

-- The names that are found, up to one more.
abbrev pub Found : List (List ℕ) → List (List ℕ) → List (List ℕ)
Found names left = names ++ filter (λ y. not (among names y)) (first_ones left)

found-more : (names left : List (List ℕ)) (name : List ℕ) →
    Found (names ++ (if among names name then [] else name ∷ [])) left ≡ Found names (name ∷ left)
found-more names left name = first_turn names (name ∷ left) 0 name (omega arith) refl

pub found-target : (names : List (List ℕ)) (act : Move) (left : List (List ℕ)) →
    Found (names ++ filter (λ name. not (among names name)) (logical_target act)) left ≡ Found names (logical_target act ++ left)
found-target names (Flashes name true size) left = ap (λ more. Found (names ++ more) left) (by (among names name)) ∙ found-more names left name where
  by : (b : Bool) → cond (not b) (name ∷ []) [] ≡ (if b then [] else name ∷ [])
  by true = refl
  by false = refl
found-target names (Flashes name false size) left = ap (λ more. Found more left) (append-nil names)
found-target names (Erases name logical) left = ap (λ more. Found more left) (append-nil names)
found-target names (Updates name) left = ap (λ more. Found more left) (append-nil names)
found-target names (Boots what) left = ap (λ more. Found more left) (append-nil names)

-- those of the names that aren't among these
abbrev pub Left : List (List ℕ) → List (List ℕ) → List (List ℕ)
Left names more = filter (λ other. not (among names other)) more

pub kept-already : (names : List (List ℕ)) (name : List ℕ) → among names name ≡ true → names ≡ names ++ filter (λ other. not (among names other)) (name ∷ [])
kept-already names name e = sym (ap (λ b. names ++ cond (not b) (name ∷ []) []) e ∙ append-nil names)

pub kept-new : (names : List (List ℕ)) (name : List ℕ) → among names name ≡ false → names ++ name ∷ [] ≡ names ++ filter (λ other. not (among names other)) (name ∷ [])
kept-new names name e = sym (ap (λ b. names ++ cond (not b) (name ∷ []) []) e)

-- The orders of a product.
pub bad-same : {X : Type 0} (a line : ℕ) (k kind : PlanKind) → IsErrOf {T = X} {E = PlanError} (Err (Bad a k)) (Bad line kind) →
    IsErrOf {T = List Order} {E = PlanFault} (Err (a, k)) (line, kind)
bad-same a line k kind e = cc

pub err-same : {X Y : Type 0} (a b : PlanError) → IsErrOf {T = X} {E = PlanError} (Err a) b → IsErrOf {T = Y} {E = PlanError} (Err a) b
err-same {X} {Y} a b e = ap (λ (error : PlanError). Err error) (same e) where
  same : IsErrOf {T = X} {E = PlanError} (Err a) b → a ≡ b
  same f = cc

pub orders-slotless : (work : Work) (options : Options) (facts : Facts) → is_slotless options.slot facts.current ≡ true →
    orders work options facts ≡ Err (0, why.NoSlot)
unfolding orders
orders-slotless work options facts e =
    ap (λ b. if b then Err (0, why.NoSlot) else ordered_by options (slot_of options.slot facts.current)
    (moves_from work facts (slot_of options.slot facts.current) [] work.tasks)) e

orders-slotted : (work : Work) (options : Options) (facts : Facts) → is_slotless options.slot facts.current ≡ false →
    orders work options facts
    ≡ ordered_by options (slot_of options.slot facts.current) (moves_from work facts (slot_of options.slot facts.current) [] work.tasks)
unfolding orders
orders-slotted work options facts e =
    ap (λ b. if b then Err (0, why.NoSlot) else ordered_by options (slot_of options.slot facts.current)
    (moves_from work facts (slot_of options.slot facts.current) [] work.tasks)) e

pub orders-are : (product : Product) (options : Options) (answers : Answers) (listed : List (List ℕ)) (slot : Option Slot) (moves : Result (List Move) PlanFault) →
    is_slotless options.slot answers.current ≡ false → listed ≡ listed_in product.tasks product.empty → slot ≡ slot_of options.slot answers.current →
    moves_from (record { tasks = product.tasks; sizes = map image_size product.images; listed = listed }) (facts_in answers) slot [] product.tasks ≡ moves →
    orders (work_of product) options (facts_in answers) ≡ ordered_by options slot moves
orders-are product options answers listed slot moves e l s m =
    orders-slotted (work_of product) options (facts_in answers) e
    ∙ ap (λ o. ordered_by options o (moves_from (work_of product) (facts_in answers) o [] product.tasks)) (sym s)
    ∙ ap (λ names. ordered_by options slot
    (moves_from (record { tasks = product.tasks; sizes = map image_size product.images; listed = names }) (facts_in answers) slot [] product.tasks)) (sym l)
    ∙ ap (ordered_by options slot) m
