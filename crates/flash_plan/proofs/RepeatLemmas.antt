-- A plan may be run again over what a broken attempt left.
use Rattle.std.proofs.Common.{◌≡◌, ℕ, Bool, true, false, Option, Some, None, List, [], ◌∷◌, ◌++◌, length, refl, sym, ap, ◌∙◌, subst}
use Rattle.std.specs.Prelude.{not, ◌||◌, ◌&&◌, ◌==◌, Result, Ok, Err, is_none, if◌then◌else◌}
use Rattle.std.specs.Option.{option_or}
use Rattle.std.specs.List.{list_any, AllByRecursion}
use Rattle.fb_frame.specs.declared.slot.Slot.{Slot}
use Rattle.fb_message.specs.declared.command.BootTarget.{BootTarget}
use Rattle.dev_model.specs.declared.device.Dev.{Dev}
use Rattle.dev_model.specs.Partitions.{is_physical, is_logical}
use Rattle.dev_model.proofs.Valid.{both, and-true}
use Rattle.product_info.specs.declared.task.Action.{Action}
use Rattle.product_info.specs.declared.task.Action.TheVariants.{Flash, Reboot, UpdateSuper, Erase}
use Rattle.product_info.specs.declared.task.Task.{Task}
use Rattle.dev_model.specs.Repeats.{is_among}
use Rattle.dev_model.specs.Resuming.{fixed_names}
use Rattle.dev_model.proofs.AlignedLemmas.{physical-among}
use Rattle.flash_plan.specs.declared.plan.PlanKind.{PlanKind}
use Rattle.flash_plan.specs.Facts.{kind_of, facts_of}
use Rattle.flash_plan.specs.declared.plan_move.Move.{Move}
use Rattle.flash_plan.specs.declared.plan_move.Move.TheVariants.{Flashes, Erases, Updates, Boots}
use Rattle.flash_plan.specs.Moves.{Work, is_logical_move, move_of, moves_from, at_line, aimed, updating, leaves, next_size}
use Rattle.flash_plan.specs.Targets.{found, found_first, target_in, candidates}

pub or-false : (a b : Bool) → (a || b) ≡ false → (a ≡ false) × (b ≡ false)
or-false true b e = absurd cc
or-false false b e = (refl, e)

pub or-left : (a b : Bool) → a ≡ true → (a || b) ≡ true
or-left a b e = ap (λ c. c || b) e

pub or-right : (a b : Bool) → b ≡ true → (a || b) ≡ true
or-right true b e = refl
or-right false b e = e

-- A partition that is found is logical exactly where it isn't physical.
kind-case : (b c d l : Bool) → option_or (if b then Some false else (if c then Some true else None)) (if d then Some true else None) ≡ Some l → b ≡ not l
kind-case true c d true e = absurd cc
kind-case true c d false e = refl
kind-case false true d true e = refl
kind-case false true d false e = absurd cc
kind-case false false true true e = refl
kind-case false false true false e = absurd cc
kind-case false false false l e = absurd cc

found-kind : (s : Dev) (listed : List (List ℕ)) (name : List ℕ) (l : Bool) → found (kind_of s) listed name ≡ Some l → is_among (fixed_names s) name ≡ not l
found-kind s listed name l e = sym (physical-among s.physical name) ∙ kind-case (is_physical s name) (is_logical s name) (is_among listed name) l e

first-case : (k : List ℕ → Option Bool) (listed : List (List ℕ)) (name : List ℕ) (o : Option Bool) (rest : Option (List ℕ × Bool)) (aim : List ℕ × Bool) → found k listed name ≡ o → found_first name o rest ≡ Some aim →
    (rest ≡ Some aim → found k listed aim.0 ≡ Some aim.1) → found k listed aim.0 ≡ Some aim.1
first-case k listed name (Some l) rest aim e f ih = let same : (name, l) ≡ aim = cc in subst (λ a. found k listed a.0 ≡ Some a.1) same e
first-case k listed name None rest aim e f ih = ih f

target-found : (k : List ℕ → Option Bool) (listed names : List (List ℕ)) (aim : List ℕ × Bool) → target_in k listed names ≡ Some aim → found k listed aim.0 ≡ Some aim.1
target-found k listed [] aim e = absurd cc
target-found k listed (name ∷ names) aim e = first-case k listed name (found k listed name) (target_in k listed names) aim refl e (target-found k listed names aim)

-- what a move says of its partition
abbrev pub IsGood : List (List ℕ) → Move → Type 0
IsGood fixed (Flashes name l size) = is_among fixed name ≡ not l
IsGood fixed (Erases name l) = is_among fixed name ≡ not l
IsGood fixed (Updates name) = Unit {0}
IsGood fixed (Boots what) = Unit {0}

abbrev pub is_updates : Move → Bool
is_updates (Updates name) = true
is_updates _ = false

-- an update of super stands before all else that is logical
abbrev pub updates_first : List Move → Bool
updates_first [] = true
updates_first (move ∷ moves) = (if is_logical_move move then not (list_any is_updates moves) else true) && updates_first moves

record Fit (fixed : List (List ℕ)) (before : List Move) (move : Move) : Type 0 where
  good : IsGood fixed move
  early : is_updates move ≡ true → list_any is_logical_move before ≡ false

pub ok-same : {X E : Type 0} (x y : X) → ◌≡◌ {A = Result X E} (Ok x) (Ok y) → x ≡ y
ok-same x y e = cc

aimed-flash : (s : Dev) (listed names : List (List ℕ)) (before : List Move) (size : ℕ) (o : Option (List ℕ × Bool)) (move : Move) → target_in (kind_of s) listed names ≡ o → aimed (λ part l. Flashes part l size) o ≡ Ok move → Fit (fixed_names s) before move
aimed-flash s listed names before size None move t e = absurd cc
aimed-flash s listed names before size (Some aim) move t e =
    subst (λ m. Fit (fixed_names s) before m) (ok-same (Flashes aim.0 aim.1 size) move e)
    (record { good = found-kind s listed aim.0 aim.1 (target-found (kind_of s) listed names aim t); early = λ f. absurd cc })

aimed-erase : (s : Dev) (listed names : List (List ℕ)) (before : List Move) (o : Option (List ℕ × Bool)) (move : Move) → target_in (kind_of s) listed names ≡ o → aimed Erases o ≡ Ok move → Fit (fixed_names s) before move
aimed-erase s listed names before None move t e = absurd cc
aimed-erase s listed names before (Some aim) move t e =
    subst (λ m. Fit (fixed_names s) before m) (ok-same (Erases aim.0 aim.1) move e)
    (record { good = found-kind s listed aim.0 aim.1 (target-found (kind_of s) listed names aim t); early = λ f. absurd cc })

flash-case : (s : Dev) (listed names : List (List ℕ)) (before : List Move) (size : ℕ) (kind : PlanKind) (b : Bool) (move : Move) →
    (if b then Err kind else aimed (λ part l. Flashes part l size) (target_in (kind_of s) listed names)) ≡ Ok move → Fit (fixed_names s) before move
flash-case s listed names before size kind true move e = absurd cc
flash-case s listed names before size kind false move e = aimed-flash s listed names before size (target_in (kind_of s) listed names) move refl e

update-case : (fixed : List (List ℕ)) (before : List Move) (name : List ℕ) (kind : PlanKind) (b : Bool) (move : Move) → list_any is_logical_move before ≡ b → (if b then Err kind else Ok (Updates name)) ≡ Ok move → Fit fixed before move
update-case fixed before name kind true move e f = absurd cc
update-case fixed before name kind false move e f = subst (λ m. Fit fixed before m) (ok-same (Updates name) move f) (record { good = tt; early = λ g. e })

update-fit : (fixed : List (List ℕ)) (before : List Move) (o : Option (List ℕ)) (move : Move) → updating before o ≡ Ok move → Fit fixed before move
update-fit fixed before None move e = absurd cc
update-fit fixed before (Some name) move e = update-case fixed before name _ (list_any is_logical_move before) move refl e

boot-case : (fixed : List (List ℕ)) (before : List Move) (what : BootTarget) (kind : PlanKind) (b : Bool) (move : Move) → (if b then Err kind else Ok (Boots what)) ≡ Ok move → Fit fixed before move
boot-case fixed before what kind true move e = absurd cc
boot-case fixed before what kind false move e = subst (λ m. Fit fixed before m) (ok-same (Boots what) move e) (record { good = tt; early = λ f. absurd cc })

move-fit : (work : Work) (s : Dev) (slot : Option Slot) (before : List Move) (later : List Task) (action : Action) (move : Move) → move_of work (facts_of s) slot before later action ≡ Ok move → Fit (fixed_names s) before move
move-fit work s slot before later (Flash name file other) move e = flash-case s work.listed (candidates slot other name) before (next_size work before) _ (other && is_none slot) move e
move-fit work s slot before later (Erase name) move e = aimed-erase s work.listed (candidates slot false name) before (target_in (kind_of s) work.listed (candidates slot false name)) move refl e
move-fit work s slot before later UpdateSuper move e = update-fit (fixed_names s) before s.super_name move e
move-fit work s slot before later (Reboot what) move e = boot-case (fixed_names s) before what _ (leaves what && not (length later == 0)) move e

pub all-snoc : {X : Type 0} (P : X → Type 0) (xs : List X) (x : X) → AllByRecursion P xs → P x → AllByRecursion P (xs ++ x ∷ [])
all-snoc P [] x h p = (p, tt)
all-snoc P (y ∷ xs) x h p = (h.0, all-snoc P xs x h.1 p)

pub any-snoc : {X : Type 0} (f : X → Bool) (xs : List X) (x : X) → list_any f (xs ++ x ∷ []) ≡ (list_any f xs || f x)
any-snoc f [] x = one (f x) where
  one : (b : Bool) → (b || false) ≡ b
  one true = refl
  one false = refl
any-snoc f (y ∷ xs) x = ap (λ b. f y || b) (any-snoc f xs x) ∙ two (f y) (list_any f xs) (f x) where
  two : (a b c : Bool) → (a || (b || c)) ≡ ((a || b) || c)
  two true b c = refl
  two false b c = refl

snoc-case : (b u v : Bool) → (if b then not u else true) ≡ true → (v ≡ true → b ≡ false) → (if b then not (u || v) else true) ≡ true
snoc-case false u v h e = refl
snoc-case true true v h e = absurd cc
snoc-case true false true h e = let f = e refl in absurd cc
snoc-case true false false h e = refl

updates-snoc : (before : List Move) (move : Move) → updates_first before ≡ true → (is_updates move ≡ true → list_any is_logical_move before ≡ false) → updates_first (before ++ move ∷ []) ≡ true
updates-snoc [] move h e = alone (is_logical_move move) where
  alone : (b : Bool) → ((if b then not false else true) && true) ≡ true
  alone true = refl
  alone false = refl
updates-snoc (x ∷ before) move h e =
    let parts = both (if is_logical_move x then not (list_any is_updates before) else true) (updates_first before) h in
    let here : (if is_logical_move x then not (list_any is_updates before || is_updates move) else true) ≡ true =
    snoc-case (is_logical_move x) (list_any is_updates before) (is_updates move) parts.0 (λ f. (or-false (is_logical_move x) (list_any is_logical_move before) (e f)).0) in
    and-true (if is_logical_move x then not (list_any is_updates (before ++ move ∷ [])) else true) (updates_first (before ++ move ∷ []))
    (ap (λ b. if is_logical_move x then not b else true) (any-snoc is_updates before move) ∙ here)
    (updates-snoc before move parts.1 (λ f. (or-false (is_logical_move x) (list_any is_logical_move before) (e f)).1))

pub record Sound (fixed : List (List ℕ)) (moves : List Move) : Type 0 where
  pub good : AllByRecursion (IsGood fixed) moves
  pub updates : updates_first moves ≡ true

moves-case : (work : Work) (s : Dev) (slot : Option Slot) (before : List Move) (later : List Task) (line : ℕ) (action : Action) (r : Result Move PlanKind) (moves : List Move) → move_of work (facts_of s) slot before later action ≡ r →
    at_line line r (λ move. moves_from work (facts_of s) slot (before ++ move ∷ []) later) ≡ Ok moves → Sound (fixed_names s) before →
    ((move : Move) → moves_from work (facts_of s) slot (before ++ move ∷ []) later ≡ Ok moves → Sound (fixed_names s) (before ++ move ∷ []) → Sound (fixed_names s) moves) → Sound (fixed_names s) moves
moves-case work s slot before later line action (Err kind) moves e f h ih = absurd cc
moves-case work s slot before later line action (Ok move) moves e f h ih =
    let fit = move-fit work s slot before later action move e in
    ih move f (record { good = all-snoc (IsGood (fixed_names s)) before move h.good fit.good; updates = updates-snoc before move h.updates fit.early })

pub moves-sound : (work : Work) (s : Dev) (slot : Option Slot) (before : List Move) (tasks : List Task) (moves : List Move) → moves_from work (facts_of s) slot before tasks ≡ Ok moves → Sound (fixed_names s) before → Sound (fixed_names s) moves
moves-sound work s slot before [] moves e h = subst (Sound (fixed_names s)) (ok-same before moves e) h
moves-sound work s slot before (task ∷ tasks) moves e h =
    moves-case work s slot before tasks task.line task.action (move_of work (facts_of s) slot before tasks task.action) moves refl e h
    (λ move f g. moves-sound work s slot (before ++ move ∷ []) tasks moves f g)
