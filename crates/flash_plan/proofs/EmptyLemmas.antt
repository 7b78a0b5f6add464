-- The resizes of a plan: each partition that is resized is emptied before any gets longer.
use Rattle.std.proofs.Common.{◌≡◌, ◌⊎◌, inl, inr, ℕ, Bool, true, false, cond, Option, Some, None, List, [], ◌∷◌, ◌++◌, length, map, refl, sym, ap, ◌∙◌, subst}
use Rattle.std.specs.Prelude.{bytes_eq, filter, flat_map, not, ◌||◌, ◌&&◌, ◌==◌, Result, Ok, Err, option_to_list, unwrap_or, if◌then◌else◌}
use Rattle.std.specs.List.{list_any, list_all, AllByRecursion}
use Rattle.std.proofs.lemmas.Slice.Eq.{bytes_eq-Decides}
use Rattle.fb_frame.specs.declared.slot.Slot.{Slot}
use Rattle.fb_frame.specs.declared.tables.Tables.{Tables}
use Rattle.fb_message.specs.declared.command.BootTarget.TheVariants as target
use Rattle.dev_model.specs.declared.cells.Cell.{Cell}
use Rattle.dev_model.specs.declared.device.Dev.{Dev}
use Rattle.dev_model.specs.declared.step.Step.{Step}
use Rattle.dev_model.specs.Images.{round_up}
use Rattle.dev_model.specs.Validity.{IsStep, are_tables}
use Rattle.dev_model.specs.Variables.{first_ones}
use Rattle.dev_model.proofs.Valid.{and-true}
use Rattle.wire_model.specs.TableFile.{tables_of}
use Rattle.wire_model.proofs.HeldLemmas.{held_tables}
use Rattle.dev_model.specs.Repeats.{IsRepeatable, is_among, are_among, is_active, activates_first, resized_name, resized_names, empties_first}
use Rattle.dev_model.specs.Resuming.{fixed_names}
use Rattle.dev_model.proofs.SimLemmas.{all-among}
use Rattle.flash_plan.specs.declared.options.Options.{Options}
use Rattle.flash_plan.specs.declared.plan.Order.{Order}
use Rattle.flash_plan.specs.declared.plan.Order.TheVariants.{Active, Resize, Put, Wipe, Table, Boot}
use Rattle.flash_plan.specs.declared.plan.PlanKind.TheVariants as why
use Rattle.flash_plan.specs.declared.product.Product.{Product}
use Rattle.flash_plan.specs.Files.{Files}
use Rattle.flash_plan.specs.Facts.{facts_of}
use Rattle.flash_plan.specs.Laws.{PlanRepeats}
use Rattle.flash_plan.specs.declared.plan_move.Move.{Move}
use Rattle.flash_plan.specs.declared.plan_move.Move.TheVariants.{Flashes, Erases, Updates, Boots}
use Rattle.flash_plan.specs.Moves.{PlanFault, is_logical_move, is_flash, moves_from}
use Rattle.flash_plan.specs.Orders.{logical_target, is_logical_flash, logical_targets, runs_userspace, rises, empties, fits, own, block, blocks, ends_left, ordered, ordered_by, orders}
use Rattle.flash_plan.specs.Plans.{step_of, steps_of, steps_by, work_of, images_of, tables_in, no_tables}
use Rattle.flash_plan.specs.Targets.{slot_of, is_slotless}
use Rattle.flash_plan.proofs.RepeatLemmas.{IsGood, or-false, or-left, or-right, any-snoc, ok-same, Sound, moves-sound}
use Rattle.flash_plan.proofs.BlockLemmas.{Ends, blocks-no-active, none-of, blocks-tables, blocks-boots}

-- Names among names.
either : (a b : Bool) → (a || b) ≡ true → (a ≡ true) ⊎ (b ≡ true)
either true b e = inl refl
either false b e = inr e

among-append : (xs ys : List (List ℕ)) (own : List ℕ) → is_among (xs ++ ys) own ≡ (is_among xs own || is_among ys own)
among-append [] ys own = refl
among-append (x ∷ xs) ys own = ap (λ b. bytes_eq x own || b) (among-append xs ys own) ∙ same (bytes_eq x own) (is_among xs own) (is_among ys own) where
  same : (a b c : Bool) → (a || (b || c)) ≡ ((a || b) || c)
  same true b c = refl
  same false b c = refl

here : (own : List ℕ) (names : List (List ℕ)) → is_among (own ∷ names) own ≡ true
here own names = or-left (bytes_eq own own) (is_among names own) ((bytes_eq-Decides own own).1 refl)

are-all : (done all : List (List ℕ)) → ((own : List ℕ) → is_among all own ≡ true → is_among done own ≡ true) → are_among done all ≡ true
are-all done [] h = refl
are-all done (x ∷ all) h = and-true (is_among done x) (are_among done all) (h x (here x all)) (are-all done all (λ own e. h own (or-right (bytes_eq x own) (is_among all own) e)))

unlike : (x y : List ℕ) (b : Bool) → bytes_eq y x ≡ b → bytes_eq x y ≡ false → b ≡ false
unlike x y false e f = refl
unlike x y true e f = let g = (bytes_eq-Decides x y).1 (sym ((bytes_eq-Decides y x).0 e)) in absurd cc

left-case : (x y own : List ℕ) (ys : List (List ℕ)) (b : Bool) → bytes_eq y own ≡ b → bytes_eq own x ≡ false → (b || is_among ys own) ≡ true → (is_among ys own ≡ true → is_among (filter (λ z. not (bytes_eq z x)) ys) own ≡ true) →
    is_among (cond (not (bytes_eq y x)) (y ∷ filter (λ z. not (bytes_eq z x)) ys) (filter (λ z. not (bytes_eq z x)) ys)) own ≡ true
left-case x y own ys true e n h ih =
    let same = (bytes_eq-Decides y own).0 e in
    ap (λ c. is_among (cond (not c) (y ∷ filter (λ z. not (bytes_eq z x)) ys) (filter (λ z. not (bytes_eq z x)) ys)) own) (ap (λ z. bytes_eq z x) same ∙ n)
    ∙ or-left (bytes_eq y own) (is_among (filter (λ z. not (bytes_eq z x)) ys) own) e
left-case x y own ys false e n h ih = keep (bytes_eq y x) where
  keep : (c : Bool) → is_among (cond (not c) (y ∷ filter (λ z. not (bytes_eq z x)) ys) (filter (λ z. not (bytes_eq z x)) ys)) own ≡ true
  keep true = ih h
  keep false = or-right (bytes_eq y own) (is_among (filter (λ z. not (bytes_eq z x)) ys) own) (ih h)

left-among : (x own : List ℕ) (ys : List (List ℕ)) → bytes_eq own x ≡ false → is_among ys own ≡ true → is_among (filter (λ z. not (bytes_eq z x)) ys) own ≡ true
left-among x own [] n h = absurd cc
left-among x own (y ∷ ys) n h = left-case x y own ys (bytes_eq y own) refl n h (left-among x own ys n)

once-case : (x own : List ℕ) (xs : List (List ℕ)) (b : Bool) → bytes_eq x own ≡ b → (b || is_among xs own) ≡ true → (is_among xs own ≡ true → is_among (first_ones xs) own ≡ true) → is_among (first_ones (x ∷ xs)) own ≡ true
once-case x own xs true e h ih = or-left (bytes_eq x own) (is_among (filter (λ y. not (bytes_eq y x)) (first_ones xs)) own) e
once-case x own xs false e h ih =
    or-right (bytes_eq x own) (is_among (filter (λ y. not (bytes_eq y x)) (first_ones xs)) own) (left-among x own (first_ones xs) (unlike x own (bytes_eq own x) refl e) (ih h))

-- each text that stands in a list stands in it once
once-among : (own : List ℕ) (xs : List (List ℕ)) → is_among xs own ≡ true → is_among (first_ones xs) own ≡ true
once-among own [] h = absurd cc
once-among own (x ∷ xs) h = once-case x own xs (bytes_eq x own) refl h (once-among own xs)

back-case : (q : List ℕ → Bool) (own y : List ℕ) (ys : List (List ℕ)) (b : Bool) → is_among (cond b (y ∷ filter q ys) (filter q ys)) own ≡ true → (is_among (filter q ys) own ≡ true → is_among ys own ≡ true) → is_among (y ∷ ys) own ≡ true
back-case q own y ys true h ih = pick (either (bytes_eq y own) (is_among (filter q ys) own) h) where
  pick : (bytes_eq y own ≡ true) ⊎ (is_among (filter q ys) own ≡ true) → is_among (y ∷ ys) own ≡ true
  pick (inl e) = or-left (bytes_eq y own) (is_among ys own) e
  pick (inr e) = or-right (bytes_eq y own) (is_among ys own) (ih e)
back-case q own y ys false h ih = or-right (bytes_eq y own) (is_among ys own) (ih h)

filter-back : (q : List ℕ → Bool) (own : List ℕ) (ys : List (List ℕ)) → is_among (filter q ys) own ≡ true → is_among ys own ≡ true
filter-back q own [] h = h
filter-back q own (y ∷ ys) h = back-case q own y ys (q y) h (filter-back q own ys)

once-back : (own : List ℕ) (xs : List (List ℕ)) → is_among (first_ones xs) own ≡ true → is_among xs own ≡ true
once-back own [] h = h
once-back own (x ∷ xs) h = pick (either (bytes_eq x own) (is_among (filter (λ y. not (bytes_eq y x)) (first_ones xs)) own) h) (once-back own xs) where
  pick : (bytes_eq x own ≡ true) ⊎ (is_among (filter (λ y. not (bytes_eq y x)) (first_ones xs)) own ≡ true) → (is_among (first_ones xs) own ≡ true → is_among xs own ≡ true) → is_among (x ∷ xs) own ≡ true
  pick (inl e) ih = or-left (bytes_eq x own) (is_among xs own) e
  pick (inr e) ih = or-right (bytes_eq x own) (is_among xs own) (ih (filter-back (λ y. not (bytes_eq y x)) own (first_ones xs) e))

-- the targets of a move are among those of all moves
flat-among : (before : List Move) (move : Move) (later : List Move) (own : List ℕ) → is_among (logical_target move) own ≡ true → is_among (flat_map logical_target (before ++ move ∷ later)) own ≡ true
flat-among [] move later own e = among-append (logical_target move) (flat_map logical_target later) own ∙ or-left (is_among (logical_target move) own) (is_among (flat_map logical_target later) own) e
flat-among (x ∷ before) move later own e =
    among-append (logical_target x) (flat_map logical_target (before ++ move ∷ later)) own
    ∙ or-right (is_among (logical_target x) own) (is_among (flat_map logical_target (before ++ move ∷ later)) own) (flat-among before move later own e)

target-apart : (fixed : List (List ℕ)) (move : Move) (own : List ℕ) → IsGood fixed move → is_among (logical_target move) own ≡ true → is_among fixed own ≡ false
target-apart fixed (Flashes name true size) own g e =
    pick (either (bytes_eq name own) false e) where
      pick : (bytes_eq name own ≡ true) ⊎ (false ≡ true) → is_among fixed own ≡ false
      pick (inl f) = sym (ap (is_among fixed) ((bytes_eq-Decides name own).0 f)) ∙ g
      pick (inr f) = absurd cc
target-apart fixed (Flashes name false size) own g e = absurd cc
target-apart fixed (Erases name l) own g e = absurd cc
target-apart fixed (Updates name) own g e = absurd cc
target-apart fixed (Boots what) own g e = absurd cc

flat-apart : (fixed : List (List ℕ)) (moves : List Move) (own : List ℕ) → AllByRecursion (IsGood fixed) moves → is_among (flat_map logical_target moves) own ≡ true → is_among fixed own ≡ false
flat-apart fixed [] own g e = absurd cc
flat-apart fixed (move ∷ moves) own g e =
    pick (either (is_among (logical_target move) own) (is_among (flat_map logical_target moves) own) (sym (among-append (logical_target move) (flat_map logical_target moves) own) ∙ e)) (flat-apart fixed moves own g.1)
  where
    pick : (is_among (logical_target move) own ≡ true) ⊎ (is_among (flat_map logical_target moves) own ≡ true) → (is_among (flat_map logical_target moves) own ≡ true → is_among fixed own ≡ false) → is_among fixed own ≡ false
    pick (inl f) ih = target-apart fixed move own g.0 f
    pick (inr f) ih = ih f

-- Partitions that are emptied one after another.
pushed : List (List ℕ) → List (List ℕ) → List (List ℕ)
pushed [] done = done
pushed (name ∷ names) done = pushed names (name ∷ done)

pushed-keeps : (names done : List (List ℕ)) (own : List ℕ) → is_among done own ≡ true → is_among (pushed names done) own ≡ true
unfolding pushed
pushed-keeps [] done own e = e
pushed-keeps (name ∷ names) done own e = pushed-keeps names (name ∷ done) own (or-right (bytes_eq name own) (is_among done own) e)

pushed-among : (names done : List (List ℕ)) (own : List ℕ) → is_among names own ≡ true → is_among (pushed names done) own ≡ true
unfolding pushed
pushed-among [] done own e = absurd cc
pushed-among (name ∷ names) done own e = pick (either (bytes_eq name own) (is_among names own) e) (pushed-among names (name ∷ done) own) where
  pick : (bytes_eq name own ≡ true) ⊎ (is_among names own ≡ true) → (is_among names own ≡ true → is_among (pushed names (name ∷ done)) own ≡ true) → is_among (pushed names (name ∷ done)) own ≡ true
  pick (inl f) ih = pushed-keeps names (name ∷ done) own (or-left (bytes_eq name own) (is_among done own) f)
  pick (inr f) ih = ih f

module _ (images : List (List Cell)) (tables : Tables) (fixed : List (List ℕ)) (wipe : Bool) (moves : List Move) where
  abbrev as_steps : List Order → List Step
  as_steps list = map (step_of images tables) list

  abbrev aims : List (List ℕ)
  aims = logical_targets moves

  -- each order resizes only what is flashed
  abbrev Inside : Order → Type 0
  Inside order = (own : List ℕ) → is_among (resized_name (step_of images tables order)) own ≡ true → is_among aims own ≡ true

  all-append : (xs ys : List Order) → AllByRecursion Inside xs → AllByRecursion Inside ys → AllByRecursion Inside (xs ++ ys)
  all-append [] ys h g = g
  all-append (x ∷ xs) ys h g = (h.0, all-append xs ys h.1 g)

  one-inside : (name : List ℕ) (size : ℕ) → is_among aims name ≡ true → Inside (Resize name size)
  one-inside name size m own e = pick (either (bytes_eq name own) false e) where
    pick : (bytes_eq name own ≡ true) ⊎ (false ≡ true) → is_among aims own ≡ true
    pick (inl f) = ap (is_among aims) (sym ((bytes_eq-Decides name own).0 f)) ∙ m
    pick (inr f) = absurd cc

  names-inside : (names : List (List ℕ)) → ((own : List ℕ) → is_among names own ≡ true → is_among aims own ≡ true) → AllByRecursion Inside (map (λ name. Resize name 0) names)
  names-inside [] h = tt
  names-inside (name ∷ names) h = (one-inside name 0 (h name (here name names)), names-inside names (λ own e. h own (or-right (bytes_eq name own) (is_among names own) e)))

  fits-inside : (before : List Move) (move : Move) (later : List Move) → before ++ move ∷ later ≡ moves → AllByRecursion Inside (fits move)
  fits-inside before (Flashes name true size) later e = (
    one-inside name (round_up size) (once-among name (flat_map logical_target moves)
        (subst (λ ms. is_among (flat_map logical_target ms) name ≡ true) e (flat-among before (Flashes name true size) later name (here name [])))),
    tt,
  )
  fits-inside before (Flashes name false size) later e = tt
  fits-inside before (Erases name l) later e = tt
  fits-inside before (Updates name) later e = tt
  fits-inside before (Boots what) later e = tt

  own-inside : (before : List Move) (move : Move) → Inside (own wipe before move)
  own-inside before (Flashes name l size) x e = absurd cc
  own-inside before (Erases name l) x e = absurd cc
  own-inside before (Updates name) x e = absurd cc
  own-inside before (Boots what) x e = absurd cc

  rises-inside : (b : Bool) → AllByRecursion Inside (if b then Boot target.Fastboot ∷ [] else [])
  rises-inside true = (λ own e. absurd cc, tt)
  rises-inside false = tt

  empties-inside : (b : Bool) (list : List Move) → list ≡ moves → AllByRecursion Inside (if b then map (λ name. Resize name 0) (logical_targets list) else [])
  empties-inside true list e = names-inside (logical_targets list) (λ own m. ap (λ ms. is_among (logical_targets ms) own) (sym e) ∙ m)
  empties-inside false list e = tt

  assoc : (before : List Move) (move : Move) (later : List Move) → (before ++ move ∷ []) ++ later ≡ before ++ move ∷ later
  assoc [] move later = refl
  assoc (x ∷ before) move later = ap (λ r. x ∷ r) (assoc before move later)

  blocks-inside : (before later : List Move) → before ++ later ≡ moves → AllByRecursion Inside (blocks wipe before later)
  blocks-inside before [] e = tt
  blocks-inside before (move ∷ later) e =
      all-append (block wipe before move later) (blocks wipe (before ++ move ∷ []) later)
      (all-append (rises before move) (empties before move later ++ (fits move ++ own wipe before move ∷ [])) (rises-inside (is_logical_move move && not (runs_userspace before)))
      (all-append (empties before move later) (fits move ++ own wipe before move ∷ []) (empties-inside (is_logical_flash move && not (list_any is_logical_flash before)) (before ++ move ∷ later) e)
      (all-append (fits move) (own wipe before move ∷ []) (fits-inside before move later e) (own-inside before move, tt))))
      (blocks-inside (before ++ move ∷ []) later (assoc before move later ∙ e))

  resized-inside : (list : List Order) → AllByRecursion Inside list → (own : List ℕ) → is_among (resized_names (as_steps list)) own ≡ true → is_among aims own ≡ true
  resized-inside [] h own e = absurd cc
  resized-inside (o ∷ list) h own e =
      pick (either (is_among (resized_name (step_of images tables o)) own) (is_among (resized_names (as_steps list)) own) (sym (among-append (resized_name (step_of images tables o)) (resized_names (as_steps list)) own) ∙ e))
      (resized-inside list h.1 own)
    where
      pick : (is_among (resized_name (step_of images tables o)) own ≡ true) ⊎ (is_among (resized_names (as_steps list)) own ≡ true) → (is_among (resized_names (as_steps list)) own ≡ true → is_among aims own ≡ true) → is_among aims own ≡ true
      pick (inl f) ih = h.0 own f
      pick (inr f) ih = ih f

  -- The order of the resizes.
  module _ (all : List (List ℕ)) (inside : (own : List ℕ) → is_among all own ≡ true → is_among aims own ≡ true) (apart : (own : List ℕ) → is_among fixed own ≡ true → is_among all own ≡ false) where
    abbrev Full : List (List ℕ) → Type 0
    Full done = are_among done all ≡ true

    more-full : (name : List ℕ) (done : List (List ℕ)) → Full done → Full (name ∷ done)
    more-full name done h = are-all (name ∷ done) all (λ own e. or-right (bytes_eq name own) (is_among done own) (all-among done all own h e))

    names-run : (names done : List (List ℕ)) (rest : List Order) → empties_first all (pushed names done) (as_steps rest) ≡ true → empties_first all done (as_steps (map (λ name. Resize name 0) names ++ rest)) ≡ true
    unfolding pushed
    names-run [] done rest e = e
    names-run (name ∷ names) done rest e = names-run names (name ∷ done) rest e

    pushed-full : (names done : List (List ℕ)) → ((own : List ℕ) → is_among all own ≡ true → is_among names own ≡ true) → Full (pushed names done)
    pushed-full names done h = are-all (pushed names done) all (λ own e. pushed-among names done own (h own e))

    size-case : (z : Bool) (name : List ℕ) (place : ℕ) (done : List (List ℕ)) (rest : List Order) → Full done → ((d : List (List ℕ)) → Full d → empties_first all d (as_steps rest) ≡ true) →
        ((z || are_among done all) && ((not (is_among all name) || are_among (if z then name ∷ done else done) all) && empties_first all (if z then name ∷ done else done) (as_steps rest))) ≡ true
    size-case true name place done rest h k =
        and-true (not (is_among all name) || are_among (name ∷ done) all) (empties_first all (name ∷ done) (as_steps rest)) (or-right (not (is_among all name)) (are_among (name ∷ done) all) (more-full name done h)) (k (name ∷ done) (more-full name done h))
    size-case false name place done rest h k =
        and-true (are_among done all) ((not (is_among all name) || are_among done all) && empties_first all done (as_steps rest)) h
        (and-true (not (is_among all name) || are_among done all) (empties_first all done (as_steps rest)) (or-right (not (is_among all name)) (are_among done all) h) (k done h))

    -- a logical partition is made as long as its image, which is put over it
    flash-run : (name : List ℕ) (size place : ℕ) (done : List (List ℕ)) (rest : List Order) → Full done → ((d : List (List ℕ)) → Full d → empties_first all d (as_steps rest) ≡ true) →
        empties_first all done (as_steps (Resize name (round_up size) ∷ Put name place ∷ rest)) ≡ true
    flash-run name size place done rest h k = size-case (round_up size == 0) name place done rest h k

    abbrev State : List Move → List (List ℕ) → Type 0
    State before done = list_any is_logical_flash before ≡ true → Full done

    next-same : (before : List Move) (move : Move) (done : List (List ℕ)) → is_logical_flash move ≡ false → State before done → State (before ++ move ∷ []) done
    next-same before move done n h e = h (pick (list_any is_logical_flash before) (is_logical_flash move) n (sym (any-snoc is_logical_flash before move) ∙ e)) where
      pick : (a b : Bool) → b ≡ false → (a || b) ≡ true → a ≡ true
      pick true b f g = refl
      pick false true f g = absurd cc
      pick false false f g = absurd cc

    raised : (b : Bool) (done : List (List ℕ)) (rest : List Order) → empties_first all done (as_steps rest) ≡ true → empties_first all done (as_steps ((if b then Boot target.Fastboot ∷ [] else []) ++ rest)) ≡ true
    raised true done rest e = e
    raised false done rest e = e

    join : (xs ys zs : List Order) → (xs ++ ys) ++ zs ≡ xs ++ (ys ++ zs)
    join [] ys zs = refl
    join (x ∷ xs) ys zs = ap (λ r. x ∷ r) (join xs ys zs)

    -- the flash of a logical partition, with all that stands before it
    flash-block : (before : List Move) (name : List ℕ) (size : ℕ) (later : List Move) (done : List (List ℕ)) (rest : List Order) (d : Bool) → list_any is_logical_flash before ≡ d → before ++ Flashes name true size ∷ later ≡ moves → State before done →
        ((k : List (List ℕ)) → Full k → empties_first all k (as_steps rest) ≡ true) →
        empties_first all done (as_steps ((if not d then map (λ n. Resize n 0) (logical_targets (before ++ Flashes name true size ∷ later)) else []) ++ (Resize name (round_up size) ∷ Put name (length (filter is_flash before)) ∷ rest))) ≡ true
    flash-block before name size later done rest true e w h k = flash-run name size (length (filter is_flash before)) done rest (h e) k
    flash-block before name size later done rest false e w h k =
        let names = logical_targets (before ++ Flashes name true size ∷ later) in
        let same : names ≡ aims = ap logical_targets w in
        let full = pushed-full names done (λ own m. ap (λ ns. is_among ns own) same ∙ inside own m) in
        names-run names done (Resize name (round_up size) ∷ Put name (length (filter is_flash before)) ∷ rest) (flash-run name size (length (filter is_flash before)) (pushed names done) rest full k)

    put-fixed : (name : List ℕ) (done : List (List ℕ)) (rest : List Step) → is_among fixed name ≡ true → empties_first all done rest ≡ true → ((not (is_among all name) || are_among done all) && empties_first all done rest) ≡ true
    put-fixed name done rest e h = and-true (not (is_among all name) || are_among done all) (empties_first all done rest) (or-left (not (is_among all name)) (are_among done all) (ap not (apart name e))) h

    move-run : (before : List Move) (move : Move) (later : List Move) (done : List (List ℕ)) (rest : List Order) → IsGood fixed move → before ++ move ∷ later ≡ moves → State before done →
        ((k : List (List ℕ)) → State (before ++ move ∷ []) k → empties_first all k (as_steps rest) ≡ true) → empties_first all done (as_steps (block wipe before move later ++ rest)) ≡ true
    move-run before (Flashes name false size) later done rest g w h k = put-fixed name done (as_steps rest) g (k done (next-same before (Flashes name false size) done refl h))
    move-run before (Erases name false) later done rest g w h k = k done (next-same before (Erases name false) done refl h)
    move-run before (Boots what) later done rest g w h k = k done (next-same before (Boots what) done refl h)
    move-run before (Erases name true) later done rest g w h k = by (not (runs_userspace before)) where
      by : (b : Bool) → empties_first all done (as_steps (((if b then Boot target.Fastboot ∷ [] else []) ++ ([] ++ ([] ++ Wipe name ∷ []))) ++ rest)) ≡ true
      by true = k done (next-same before (Erases name true) done refl h)
      by false = k done (next-same before (Erases name true) done refl h)
    move-run before (Updates name) later done rest g w h k = by (not (runs_userspace before)) where
      by : (b : Bool) → empties_first all done (as_steps (((if b then Boot target.Fastboot ∷ [] else []) ++ ([] ++ ([] ++ Table name wipe ∷ []))) ++ rest)) ≡ true
      by true = k done (next-same before (Updates name) done refl h)
      by false = k done (next-same before (Updates name) done refl h)
    move-run before (Flashes name true size) later done rest g w h k =
        let b = not (runs_userspace before) in
        let place = length (filter is_flash before) in
        let head = if not (list_any is_logical_flash before) then map (λ n. Resize n 0) (logical_targets (before ++ Flashes name true size ∷ later)) else [] in
        let tail = Resize name (round_up size) ∷ Put name place ∷ [] in
        let whole = flash-block before name size later done rest (list_any is_logical_flash before) refl w h (λ x f. k x (λ e. f)) in
        ap (λ o. empties_first all done (as_steps o)) (join (if b then Boot target.Fastboot ∷ [] else []) (head ++ tail) rest ∙ ap (λ r. (if b then Boot target.Fastboot ∷ [] else []) ++ r) (join head tail rest))
        ∙ raised b done (head ++ (Resize name (round_up size) ∷ Put name place ∷ rest)) whole

    pub blocks-empties : (before later : List Move) (done : List (List ℕ)) (rest : List Order) → AllByRecursion (IsGood fixed) later → before ++ later ≡ moves → State before done → ((k : List (List ℕ)) → empties_first all k (as_steps rest) ≡ true) →
        empties_first all done (as_steps (blocks wipe before later ++ rest)) ≡ true
    blocks-empties before [] done rest g w h e = e done
    blocks-empties before (move ∷ later) done rest g w h e =
        ap (λ o. empties_first all done (as_steps o)) (join (block wipe before move later) (blocks wipe (before ++ move ∷ []) later) rest)
        ∙ move-run before move later done (blocks wipe (before ++ move ∷ []) later ++ rest) g.0 w h
        (λ k s. blocks-empties (before ++ move ∷ []) later k rest g.1 (assoc before move later ∙ w) s e)

-- All steps of a plan.
all-false : (fixed names : List (List ℕ)) → ((own : List ℕ) → is_among names own ≡ true → is_among fixed own ≡ false) → list_all (λ name. not (is_among fixed name)) names ≡ true
all-false fixed [] h = refl
all-false fixed (x ∷ names) h =
    and-true (not (is_among fixed x)) (list_all (λ name. not (is_among fixed name)) names) (ap not (h x (here x names))) (all-false fixed names (λ own e. h own (or-right (bytes_eq x own) (is_among names own) e)))

active-rest : (steps : List Step) → list_any is_active steps ≡ false → activates_first steps ≡ true
active-rest [] e = refl
active-rest (s ∷ steps) e = ap not (or-false (is_active s) (list_any is_active steps) e).1

opposite : (a b : Bool) → (b ≡ true → a ≡ false) → a ≡ true → b ≡ false
opposite a true h e = let f = h refl in absurd cc
opposite a false h e = refl

any-append : {X : Type 0} (f : X → Bool) (xs ys : List X) → list_any f xs ≡ false → list_any f ys ≡ false → list_any f (xs ++ ys) ≡ false
any-append f [] ys h g = g
any-append f (x ∷ xs) ys h g = let parts = or-false (f x) (list_any f xs) h in ap (λ b. b || list_any f (xs ++ ys)) parts.0 ∙ any-append f xs ys parts.1 g

map-append : {X Y : Type 0} (f : X → Y) (xs ys : List X) → map f (xs ++ ys) ≡ map f xs ++ map f ys
map-append f [] ys = refl
map-append f (x ∷ xs) ys = ap (λ r. f x ∷ r) (map-append f xs ys)

module _ (images : List (List Cell)) (tables : Tables) (fixed : List (List ℕ)) (wipe : Bool) (moves : List Move) (sound : Sound fixed moves) (rest : List Order) (ends : Ends images tables fixed wipe rest) where
  abbrev steps : List Step
  steps = map (step_of images tables) (blocks wipe [] moves ++ rest)

  names-in : (own : List ℕ) → is_among (resized_names steps) own ≡ true → is_among (logical_targets moves) own ≡ true
  names-in own e =
      resized-inside images tables fixed wipe moves (blocks wipe [] moves ++ rest)
      (all-append images tables fixed wipe moves (blocks wipe [] moves) rest (blocks-inside images tables fixed wipe moves [] moves refl) (none-inside rest ends.resized)) own e
    where
      none-inside : (list : List Order) → resized_names (map (step_of images tables) list) ≡ [] → AllByRecursion (λ order. (own : List ℕ) → is_among (resized_name (step_of images tables order)) own ≡ true → is_among (logical_targets moves) own ≡ true) list
      none-inside [] h = tt
      none-inside (Active slot ∷ list) h = (λ own e. absurd cc, none-inside list h)
      none-inside (Resize name size ∷ list) h = absurd cc
      none-inside (Put name place ∷ list) h = (λ own e. absurd cc, none-inside list h)
      none-inside (Wipe name ∷ list) h = (λ own e. absurd cc, none-inside list h)
      none-inside (Table name w ∷ list) h = (λ own e. absurd cc, none-inside list h)
      none-inside (Boot what ∷ list) h = (λ own e. absurd cc, none-inside list h)

  names-apart : (own : List ℕ) → is_among (resized_names steps) own ≡ true → is_among fixed own ≡ false
  names-apart own e = flat-apart fixed moves own sound.good (once-back own (flat_map logical_target moves) (names-in own e))

  no-active : list_any is_active steps ≡ false
  no-active =
      ap (list_any is_active) (map-append (step_of images tables) (blocks wipe [] moves) rest)
      ∙ any-append is_active (map (step_of images tables) (blocks wipe [] moves)) (map (step_of images tables) rest)
      (none-of images tables fixed wipe is_active (blocks wipe [] moves) (blocks-no-active images tables fixed wipe [] moves)) (none-of images tables fixed wipe is_active rest ends.active)

  pub repeats : IsRepeatable fixed steps
  repeats = record {
    active = active-rest steps no-active;
    table = blocks-tables images tables fixed wipe [] moves rest sound.good sound.updates ends;
    boots = blocks-boots images tables fixed wipe [] moves rest sound.good refl ends;
    empties = blocks-empties images tables fixed wipe moves (resized_names steps) names-in (λ own e. opposite (is_among fixed own) (is_among (resized_names steps) own) (names-apart own) e) [] moves [] rest sound.good refl (λ e. absurd cc) (λ k. ends.empties (resized_names steps) k);
    apart = all-false fixed (resized_names steps) names-apart;
  }

  pub repeats-slot : (slot : Option Slot) → IsRepeatable fixed (map (step_of images tables) (map Active (option_to_list slot) ++ (blocks wipe [] moves ++ rest)))
  repeats-slot None = repeats
  repeats-slot (Some slot) = record { active = ap not no-active; table = repeats.table; boots = repeats.boots; empties = repeats.empties; apart = repeats.apart }

boot-ends : (images : List (List Cell)) (tables : Tables) (fixed : List (List ℕ)) (wipe b : Bool) → Ends images tables fixed wipe (if b then [] else Boot target.System ∷ [])
boot-ends images tables fixed wipe true = record { active = tt; table = tt; boots = refl; empties = λ all done. refl; resized = refl }
boot-ends images tables fixed wipe false = record { active = (refl, tt); table = (refl, tt); boots = refl; empties = λ all done. refl; resized = refl }

-- the tables of a product are such as a step may bring
read-tables : (file : List ℕ) (o : Option Tables) → tables_of file ≡ o → are_tables (unwrap_or o no_tables) ≡ true
read-tables file None e = refl
read-tables file (Some tables) e = held_tables file tables e

held-tables : (empty : Option (List ℕ)) → are_tables (tables_in empty) ≡ true
held-tables None = refl
held-tables (Some file) = read-tables file (tables_of file) refl

steps-allowed : (images : List (List Cell)) (tables : Tables) → are_tables tables ≡ true → (list : List Order) → AllByRecursion IsStep (map (step_of images tables) list)
steps-allowed images tables e [] = tt
steps-allowed images tables e (Active slot ∷ list) = (tt, steps-allowed images tables e list)
steps-allowed images tables e (Resize name size ∷ list) = (tt, steps-allowed images tables e list)
steps-allowed images tables e (Put name place ∷ list) = (tt, steps-allowed images tables e list)
steps-allowed images tables e (Wipe name ∷ list) = (tt, steps-allowed images tables e list)
steps-allowed images tables e (Table name w ∷ list) = (e, steps-allowed images tables e list)
steps-allowed images tables e (Boot what ∷ list) = (tt, steps-allowed images tables e list)

module _ (files : Files) (product : Product) (options : Options) (s : Dev) (plan : List Step) where
  abbrev Wanted : Type 0
  Wanted = IsRepeatable (fixed_names s) plan × AllByRecursion IsStep plan

  by-moves : (r : Result (List Move) PlanFault) → moves_from (work_of product) (facts_of s) (slot_of options.slot (facts_of s).current) [] (work_of product).tasks ≡ r →
      steps_by files product (ordered_by options (slot_of options.slot (facts_of s).current) r) ≡ Ok plan → Wanted
  by-moves (Err fault) m e = absurd cc
  by-moves (Ok moves) m e =
      let images = images_of files product.tasks in
      let tables = tables_in product.empty in
      let sound = moves-sound (work_of product) s (slot_of options.slot (facts_of s).current) [] (work_of product).tasks moves m (record { good = tt; updates = refl }) in
      let end = boot-ends images tables (fixed_names s) options.wipe (options.skip_reboot || ends_left moves) in
      let same = ok-same (steps_of files product (ordered options (slot_of options.slot (facts_of s).current) moves)) plan e in (
        subst (λ p. IsRepeatable (fixed_names s) p) same (repeats-slot images tables (fixed_names s) options.wipe moves sound (if options.skip_reboot || ends_left moves then [] else Boot target.System ∷ []) end (slot_of options.slot (facts_of s).current)),
        subst (λ p. AllByRecursion IsStep p) same (steps-allowed images tables (held-tables product.empty) (ordered options (slot_of options.slot (facts_of s).current) moves)),
      )

  by-slot : (b : Bool) → steps_by files product (if b then Err (0, why.NoSlot) else ordered_by options (slot_of options.slot (facts_of s).current) (moves_from (work_of product) (facts_of s) (slot_of options.slot (facts_of s).current) [] (work_of product).tasks)) ≡ Ok plan → Wanted
  by-slot true e = absurd cc
  by-slot false e = by-moves (moves_from (work_of product) (facts_of s) (slot_of options.slot (facts_of s).current) [] (work_of product).tasks) refl e

pub plan_repeats : PlanRepeats
unfolding orders
plan_repeats files product options s plan e = by-slot files product options s plan (is_slotless options.slot (facts_of s).current) e
