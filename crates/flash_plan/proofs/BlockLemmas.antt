-- The blocks of a plan: which steps they have, in which order.
use Rattle.std.proofs.Common.{◌≡◌, ℕ, Bool, true, false, Some, None, List, [], ◌∷◌, ◌++◌, map, refl, ap, ◌∙◌}
use Rattle.std.specs.Prelude.{not, ◌||◌, ◌&&◌, if◌then◌else◌}
use Rattle.std.specs.Option.{option_or}
use Rattle.std.specs.List.{list_any, AllByRecursion}
use Rattle.fb_frame.specs.declared.tables.Tables.{Tables}
use Rattle.fb_message.specs.declared.command.BootTarget.{BootTarget}
use Rattle.fb_message.specs.declared.command.BootTarget.TheVariants as target
use Rattle.dev_model.specs.declared.cells.Cell.{Cell}
use Rattle.dev_model.specs.declared.step.Step.{Step}
use Rattle.dev_model.specs.Images.{round_up}
use Rattle.dev_model.specs.Steps.{is_boot}
use Rattle.dev_model.proofs.Valid.{both, and-true}
use Rattle.dev_model.specs.Repeats.{is_active, is_table, is_logical_step, tables_first, boots_first, resized_names, empties_first}
use Rattle.flash_plan.specs.declared.plan.Order.{Order}
use Rattle.flash_plan.specs.declared.plan.Order.TheVariants.{Resize, Put, Wipe, Table, Boot}
use Rattle.flash_plan.specs.declared.plan_move.Move.{Move}
use Rattle.flash_plan.specs.declared.plan_move.Move.TheVariants.{Flashes, Erases, Updates, Boots}
use Rattle.flash_plan.specs.Moves.{is_logical_move}
use Rattle.flash_plan.specs.Orders.{is_logical_flash, logical_targets, is_turn, is_up, last_that, runs_userspace, rises, empties, fits, own, block, blocks}
use Rattle.flash_plan.specs.Plans.{step_of}
use Rattle.flash_plan.proofs.RepeatLemmas.{IsGood, is_updates, updates_first, or-false, or-right, any-snoc}

all-append : {X : Type 0} (P : X → Type 0) (xs ys : List X) → AllByRecursion P xs → AllByRecursion P ys → AllByRecursion P (xs ++ ys)
all-append P [] ys h g = g
all-append P (x ∷ xs) ys h g = (h.0, all-append P xs ys h.1 g)

map-append : {X Y : Type 0} (f : X → Y) (xs ys : List X) → map f (xs ++ ys) ≡ map f xs ++ map f ys
map-append f [] ys = refl
map-append f (x ∷ xs) ys = ap (λ r. f x ∷ r) (map-append f xs ys)

append-assoc : {X : Type 0} (xs ys zs : List X) → (xs ++ ys) ++ zs ≡ xs ++ (ys ++ zs)
append-assoc [] ys zs = refl
append-assoc (x ∷ xs) ys zs = ap (λ r. x ∷ r) (append-assoc xs ys zs)

module _ (images : List (List Cell)) (tables : Tables) (fixed : List (List ℕ)) (wipe : Bool) where
  abbrev as_step : Order → Step
  as_step = step_of images tables

  abbrev as_steps : List Order → List Step
  as_steps orders = map (step_of images tables) orders

  -- what is true of each order of the blocks that is true of each kind of order that they have
  record Holds (P : Order → Type 0) : Type 0 where
    boot : (what : BootTarget) → P (Boot what)
    resize : (name : List ℕ) (size : ℕ) → P (Resize name size)
    put : (name : List ℕ) (place : ℕ) → P (Put name place)
    wiped : (name : List ℕ) → P (Wipe name)

  names-hold : (P : Order → Type 0) → Holds P → (names : List (List ℕ)) → AllByRecursion P (map (λ name. Resize name 0) names)
  names-hold P h [] = tt
  names-hold P h (name ∷ names) = (h.resize name 0, names-hold P h names)

  rises-hold : (P : Order → Type 0) → Holds P → (before : List Move) (move : Move) → AllByRecursion P (rises before move)
  rises-hold P h before move = by (is_logical_move move && not (runs_userspace before)) where
    by : (b : Bool) → AllByRecursion P (if b then Boot target.Fastboot ∷ [] else [])
    by true = (h.boot target.Fastboot, tt)
    by false = tt

  empties-hold : (P : Order → Type 0) → Holds P → (before : List Move) (move : Move) (later : List Move) → AllByRecursion P (empties before move later)
  empties-hold P h before move later = by (is_logical_flash move && not (list_any is_logical_flash before)) where
    by : (b : Bool) → AllByRecursion P (if b then map (λ name. Resize name 0) (logical_targets (before ++ move ∷ later)) else [])
    by true = names-hold P h (logical_targets (before ++ move ∷ later))
    by false = tt

  fits-hold : (P : Order → Type 0) → Holds P → (move : Move) → AllByRecursion P (fits move)
  fits-hold P h (Flashes name true size) = (h.resize name (round_up size), tt)
  fits-hold P h (Flashes name false size) = tt
  fits-hold P h (Erases name l) = tt
  fits-hold P h (Updates name) = tt
  fits-hold P h (Boots what) = tt

  block-hold : (P : Order → Type 0) → Holds P → (before : List Move) (move : Move) (later : List Move) → P (own wipe before move) → AllByRecursion P (block wipe before move later)
  block-hold P h before move later o =
      all-append P (rises before move) (empties before move later ++ (fits move ++ own wipe before move ∷ [])) (rises-hold P h before move)
      (all-append P (empties before move later) (fits move ++ own wipe before move ∷ []) (empties-hold P h before move later)
      (all-append P (fits move) (own wipe before move ∷ []) (fits-hold P h move) (o, tt)))

  -- No order of the blocks makes a slot active.
  abbrev NoActive : Order → Type 0
  NoActive order = is_active (as_step order) ≡ false

  own-no-active : (before : List Move) (move : Move) → NoActive (own wipe before move)
  own-no-active before (Flashes name l size) = refl
  own-no-active before (Erases name l) = refl
  own-no-active before (Updates name) = refl
  own-no-active before (Boots what) = refl

  active-holds : Holds NoActive
  active-holds = record { boot = λ what. refl; resize = λ name size. refl; put = λ name place. refl; wiped = λ name. refl }

  pub blocks-no-active : (before later : List Move) → AllByRecursion NoActive (blocks wipe before later)
  blocks-no-active before [] = tt
  blocks-no-active before (move ∷ later) =
      all-append NoActive (block wipe before move later) (blocks wipe (before ++ move ∷ []) later)
      (block-hold NoActive active-holds before move later (own-no-active before move)) (blocks-no-active (before ++ move ∷ []) later)

  pub none-of : (f : Step → Bool) (orders : List Order) → AllByRecursion (λ o. f (as_step o) ≡ false) orders → list_any f (as_steps orders) ≡ false
  none-of f [] h = refl
  none-of f (o ∷ orders) h = ap (λ b. b || list_any f (as_steps orders)) h.0 ∙ none-of f orders h.1

  -- Without an update no order brings a table.
  abbrev NoTable : Order → Type 0
  NoTable order = is_table (as_step order) ≡ false

  table-holds : Holds NoTable
  table-holds = record { boot = λ what. refl; resize = λ name size. refl; put = λ name place. refl; wiped = λ name. refl }

  own-no-table : (before : List Move) (move : Move) → is_updates move ≡ false → NoTable (own wipe before move)
  own-no-table before (Flashes name l size) e = refl
  own-no-table before (Erases name l) e = refl
  own-no-table before (Updates name) e = absurd cc
  own-no-table before (Boots what) e = refl

  blocks-no-table : (before later : List Move) → list_any is_updates later ≡ false → AllByRecursion NoTable (blocks wipe before later)
  blocks-no-table before [] e = tt
  blocks-no-table before (move ∷ later) e =
      let parts = or-false (is_updates move) (list_any is_updates later) e in
      all-append NoTable (block wipe before move later) (blocks wipe (before ++ move ∷ []) later)
      (block-hold NoTable table-holds before move later (own-no-table before move parts.0)) (blocks-no-table (before ++ move ∷ []) later parts.1)

  -- orders that aren't logical
  abbrev Fixed : Order → Type 0
  Fixed order = is_logical_step fixed (as_step order) ≡ false

  tables-plain : (xs ys : List Order) → AllByRecursion Fixed xs → tables_first fixed (as_steps ys) ≡ true → tables_first fixed (as_steps (xs ++ ys)) ≡ true
  tables-plain [] ys h e = e
  tables-plain (x ∷ xs) ys h e =
      ap (λ b. (if b then not (list_any is_table (as_steps (xs ++ ys))) else true) && tables_first fixed (as_steps (xs ++ ys))) h.0 ∙ tables-plain xs ys h.1 e

  none-case : (b t : Bool) → t ≡ false → (if b then not t else true) ≡ true
  none-case true t e = ap not e
  none-case false t e = refl

  tables-none : (orders : List Order) → AllByRecursion NoTable orders → tables_first fixed (as_steps orders) ≡ true
  tables-none [] h = refl
  tables-none (o ∷ orders) h =
      and-true (if is_logical_step fixed (as_step o) then not (list_any is_table (as_steps orders)) else true) (tables_first fixed (as_steps orders))
      (none-case (is_logical_step fixed (as_step o)) (list_any is_table (as_steps orders)) (none-of is_table orders h.1)) (tables-none orders h.1)

  -- The block of a move that isn't logical is one step on a physical partition, or a reboot.
  plain-block : (before : List Move) (move : Move) (later : List Move) → is_logical_move move ≡ false → block wipe before move later ≡ own wipe before move ∷ []
  plain-block before (Flashes name true size) later e = absurd cc
  plain-block before (Flashes name false size) later e = refl
  plain-block before (Erases name true) later e = absurd cc
  plain-block before (Erases name false) later e = refl
  plain-block before (Updates name) later e = absurd cc
  plain-block before (Boots what) later e = refl

  own-fixed : (before : List Move) (move : Move) → is_logical_move move ≡ false → IsGood fixed move → Fixed (own wipe before move)
  own-fixed before (Flashes name true size) e g = absurd cc
  own-fixed before (Flashes name false size) e g = ap not g
  own-fixed before (Erases name true) e g = absurd cc
  own-fixed before (Erases name false) e g = ap not g
  own-fixed before (Updates name) e g = absurd cc
  own-fixed before (Boots what) e g = refl

  -- the block of an update is a reboot at most, and the table
  update-tables : (b : Bool) (before : List Move) (name : List ℕ) (rest : List Order) → list_any is_table (as_steps rest) ≡ false → tables_first fixed (as_steps rest) ≡ true →
      tables_first fixed (as_steps ((if b then Boot target.Fastboot ∷ [] else []) ++ (Table name wipe ∷ rest))) ≡ true
  update-tables true before name rest n e = and-true (not (list_any is_table (as_steps rest))) (tables_first fixed (as_steps rest)) (ap not n) e
  update-tables false before name rest n e = and-true (not (list_any is_table (as_steps rest))) (tables_first fixed (as_steps rest)) (ap not n) e

  -- orders after the blocks: at most a reboot
  pub record Ends (rest : List Order) : Type 0 where
    pub active : AllByRecursion NoActive rest
    pub table : AllByRecursion NoTable rest
    pub boots : boots_first fixed (as_steps rest) ≡ true
    pub empties : (all done : List (List ℕ)) → empties_first all done (as_steps rest) ≡ true
    pub resized : resized_names (as_steps rest) ≡ []

  logical-case : (l u : Bool) → l ≡ true → (if l then not u else true) ≡ true → u ≡ false
  logical-case true true e h = absurd cc
  logical-case true false e h = refl
  logical-case false u e h = absurd cc

  tables-move : (before : List Move) (move : Move) (later : List Move) (rest : List Order) (l u : Bool) → is_logical_move move ≡ l → is_updates move ≡ u → (if is_logical_move move then not (list_any is_updates later) else true) ≡ true →
      IsGood fixed move → AllByRecursion NoTable rest → tables_first fixed (as_steps (blocks wipe (before ++ move ∷ []) later ++ rest)) ≡ true → tables_first fixed (as_steps (block wipe before move later ++ (blocks wipe (before ++ move ∷ []) later ++ rest))) ≡ true
  tables-move before move later rest false u e f h g n ih =
      ap (λ b. tables_first fixed (as_steps (b ++ (blocks wipe (before ++ move ∷ []) later ++ rest)))) (plain-block before move later e)
      ∙ tables-plain (own wipe before move ∷ []) (blocks wipe (before ++ move ∷ []) later ++ rest) (own-fixed before move e g, tt) ih
  tables-move before move later rest true false e f h g n ih =
      tables-none (block wipe before move later ++ (blocks wipe (before ++ move ∷ []) later ++ rest))
      (all-append NoTable (block wipe before move later) (blocks wipe (before ++ move ∷ []) later ++ rest) (block-hold NoTable table-holds before move later (own-no-table before move f))
      (all-append NoTable (blocks wipe (before ++ move ∷ []) later) rest (blocks-no-table (before ++ move ∷ []) later (logical-case (is_logical_move move) (list_any is_updates later) e h)) n))
  tables-move before (Updates name) later rest true true e f h g n ih =
      let none = none-of is_table (blocks wipe (before ++ Updates name ∷ []) later ++ rest)
      (all-append NoTable (blocks wipe (before ++ Updates name ∷ []) later) rest (blocks-no-table (before ++ Updates name ∷ []) later (logical-case true (list_any is_updates later) refl h)) n) in
      reshaped (not (runs_userspace before)) none
    where
      reshaped : (b : Bool) → list_any is_table (as_steps (blocks wipe (before ++ Updates name ∷ []) later ++ rest)) ≡ false →
          tables_first fixed (as_steps (((if b then Boot target.Fastboot ∷ [] else []) ++ ([] ++ ([] ++ Table name wipe ∷ []))) ++ (blocks wipe (before ++ Updates name ∷ []) later ++ rest))) ≡ true
      reshaped true none = and-true (not (list_any is_table (as_steps (blocks wipe (before ++ Updates name ∷ []) later ++ rest)))) (tables_first fixed (as_steps (blocks wipe (before ++ Updates name ∷ []) later ++ rest))) (ap not none) ih
      reshaped false none = and-true (not (list_any is_table (as_steps (blocks wipe (before ++ Updates name ∷ []) later ++ rest)))) (tables_first fixed (as_steps (blocks wipe (before ++ Updates name ∷ []) later ++ rest))) (ap not none) ih
  tables-move before (Flashes name l size) later rest true true e f h g n ih = absurd cc
  tables-move before (Erases name l) later rest true true e f h g n ih = absurd cc
  tables-move before (Boots what) later rest true true e f h g n ih = absurd cc

  pub blocks-tables : (before later : List Move) (rest : List Order) → AllByRecursion (IsGood fixed) later → updates_first later ≡ true → Ends rest → tables_first fixed (as_steps (blocks wipe before later ++ rest)) ≡ true
  blocks-tables before [] rest g u e = tables-none rest e.table
  blocks-tables before (move ∷ later) rest g u e =
      let parts = both (if is_logical_move move then not (list_any is_updates later) else true) (updates_first later) u in
      ap (λ o. tables_first fixed (as_steps o)) (append-assoc (block wipe before move later) (blocks wipe (before ++ move ∷ []) later) rest)
      ∙ tables-move before move later rest (is_logical_move move) (is_updates move) refl refl parts.0 g.0 e.table (blocks-tables (before ++ move ∷ []) later rest g.1 parts.1 e)

  -- Before the first reboot no order is logical.
  last-none : (test : Move → Bool) (moves : List Move) → list_any test moves ≡ false → last_that test moves ≡ None
  last-none test [] e = refl
  last-none test (move ∷ moves) e =
      let parts = or-false (test move) (list_any test moves) e in
      ap (λ o. option_or o (if test move then Some move else None)) (last-none test moves parts.1) ∙ ap (λ b. if b then Some move else None) parts.0

  no-userspace : (before : List Move) → list_any is_turn before ≡ false → runs_userspace before ≡ false
  no-userspace before e = ap is_up (last-none is_turn before e)

  boots-plain : (o : Order) (rest : List Step) → Fixed o → boots_first fixed rest ≡ true → boots_first fixed (as_step o ∷ rest) ≡ true
  boots-plain o rest f e = or-right (is_boot (as_step o)) (not (is_logical_step fixed (as_step o)) && boots_first fixed rest) (and-true (not (is_logical_step fixed (as_step o))) (boots_first fixed rest) (ap not f) e)

  -- a logical move begins with a reboot
  logical-boots : (before : List Move) (move : Move) (later : List Move) (rest : List Order) → is_logical_move move ≡ true → runs_userspace before ≡ false → boots_first fixed (as_steps (block wipe before move later ++ rest)) ≡ true
  logical-boots before move later rest e f =
      ap (λ b. boots_first fixed (as_steps (((if b then Boot target.Fastboot ∷ [] else []) ++ (empties before move later ++ (fits move ++ own wipe before move ∷ []))) ++ rest)))
      (ap (λ b. b && not (runs_userspace before)) e ∙ ap not f)

  turn-case : (before : List Move) (move : Move) (later : List Move) (rest : List Order) (l t : Bool) → is_logical_move move ≡ l → is_turn move ≡ t → list_any is_turn before ≡ false → IsGood fixed move →
      (is_turn move ≡ false → boots_first fixed (as_steps (blocks wipe (before ++ move ∷ []) later ++ rest)) ≡ true) → boots_first fixed (as_steps (block wipe before move later ++ (blocks wipe (before ++ move ∷ []) later ++ rest))) ≡ true
  turn-case before move later rest true t e f n g ih = logical-boots before move later (blocks wipe (before ++ move ∷ []) later ++ rest) e (no-userspace before n)
  turn-case before move later rest false false e f n g ih =
      ap (λ b. boots_first fixed (as_steps (b ++ (blocks wipe (before ++ move ∷ []) later ++ rest)))) (plain-block before move later e)
      ∙ boots-plain (own wipe before move) (as_steps (blocks wipe (before ++ move ∷ []) later ++ rest)) (own-fixed before move e g) (ih f)
  turn-case before (Boots what) later rest false true e f n g ih = refl
  turn-case before (Flashes name l size) later rest false true e f n g ih = absurd cc
  turn-case before (Erases name l) later rest false true e f n g ih = absurd cc
  turn-case before (Updates name) later rest false true e f n g ih = absurd cc

  pub blocks-boots : (before later : List Move) (rest : List Order) → AllByRecursion (IsGood fixed) later → list_any is_turn before ≡ false → Ends rest → boots_first fixed (as_steps (blocks wipe before later ++ rest)) ≡ true
  blocks-boots before [] rest g n e = e.boots
  blocks-boots before (move ∷ later) rest g n e =
      ap (λ o. boots_first fixed (as_steps o)) (append-assoc (block wipe before move later) (blocks wipe (before ++ move ∷ []) later) rest)
      ∙ turn-case before move later rest (is_logical_move move) (is_turn move) refl refl n g.0
      (λ f. blocks-boots (before ++ move ∷ []) later rest g.1 (any-snoc is_turn before move ∙ (ap (λ b. b || is_turn move) n ∙ f)) e)
