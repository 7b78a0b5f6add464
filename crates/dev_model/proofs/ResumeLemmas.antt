-- A plan that is run again over what an attempt left comes to the same.
use Rattle.std.proofs.Common.{◌≡◌, inl, inr, ℕ, zero, suc, Bool, true, false, Option, Some, List, [], ◌∷◌, ◌++◌, map, take, refl, sym, ap, ◌∙◌, subst, slice_get}
use Rattle.std.specs.Prelude.{bytes_eq, if◌then◌else◌, not, ◌||◌, ◌&&◌, ◌==◌}
use Rattle.std.specs.List.{list_any, AllByRecursion}
use Rattle.fb_frame.specs.declared.slot.Slot.{Slot}
use Rattle.fb_frame.specs.declared.slot.Slot.TheVariants.{A, B}
use Rattle.fb_frame.specs.declared.tables.Tables.{Tables}
use Rattle.dev_model.specs.declared.device.BothFlags.{BothFlags}
use Rattle.dev_model.specs.declared.device.Dev.{Dev}
use Rattle.dev_model.specs.declared.step.Step.{Step}
use Rattle.dev_model.specs.declared.step.Step.TheVariants.{Active, Resize, Put, Wipe, Table, Boot}
use Rattle.dev_model.specs.Attempts.{IsNextAtMost}
use Rattle.dev_model.specs.Options.{◌>>=◌, needs}
use Rattle.dev_model.specs.Partitions.{is_fastboot, has_slots}
use Rattle.dev_model.specs.Steps.{run, can, apply, activated, with_fresh, is_boot}
use Rattle.fb_frame.specs.Distinct.{are_distinct}
use Rattle.dev_model.specs.Validity.{IsValid, IsStep}
use Rattle.dev_model.proofs.Valid.{both, and-true, not-back, or-left, or-right, or-false}
use Rattle.dev_model.proofs.Keeps.{keeps_valid}
use Rattle.dev_model.specs.Repeats.{IsRepeatable, is_among, are_among, is_active, is_table, is_logical_step, tables_first, boots_first, resized_name, resized_names, empties_first}
use Rattle.dev_model.specs.Resuming.{Resumes, fixed_names}
use Rattle.dev_model.proofs.CellLemmas.{IsWritten, all-written}
use Rattle.dev_model.proofs.SimLemmas.{Modes, Fine, sim-run}
use Rattle.dev_model.proofs.SimTable.{simtable-run}
use Rattle.dev_model.proofs.TableAgain.{log-same}
use Rattle.dev_model.proofs.EntryLemmas.{OnWay, IsIn, Plainly, Early, Late, Keeps, keeps-plainly, keeps-early, keeps-late, left-keeps, left-tabled, phys-same}

-- A device that doesn't run fastboot takes no step.
first-false : (f l m : Bool) → f ≡ false → (f && l && m) ≡ true → ⊥
first-false false l m e c = cc
first-false true l m e c = absurd cc

cannot : (step : Step) (s : Dev) → is_fastboot s.mode ≡ false → can step s ≡ true → ⊥
cannot step s f c = first-false (is_fastboot s.mode) _ _ f c

stuck-part : (step : Step) (s t : Dev) → is_fastboot s.mode ≡ false → IsNextAtMost (Some step) s t → t ≡ s
stuck-part step s t f (inl e) = e
stuck-part step s t f (inr (inl h)) = absurd (cannot step s f h.0)
stuck-part (Put name cells) s t f (inr (inr h)) = absurd (cannot (Put name cells) s f h.0)
stuck-part (Active slot) s t f (inr (inr h)) = absurd h
stuck-part (Wipe name) s t f (inr (inr h)) = absurd h
stuck-part (Resize name size) s t f (inr (inr h)) = absurd h
stuck-part (Table tables wipe) s t f (inr (inr h)) = absurd h
stuck-part (Boot mode) s t f (inr (inr h)) = absurd h

needs-true : {X : Type 0} (b : Bool) (o : Option X) (x : X) → (needs b >>= λ _. o) ≡ Some x → (b ≡ true) × (o ≡ Some x)
needs-true true o x e = (refl, e)
needs-true false o x e = absurd cc

stuck : (plan : List Step) (s t before : Dev) (a : ℕ) → is_fastboot s.mode ≡ false → run (take a plan) s ≡ Some before → IsNextAtMost (slice_get plan a) before t → t ≡ s
stuck [] s t before zero f e n = let same : s ≡ before = cc in n ∙ sym same
stuck [] s t before (suc a) f e n = let same : s ≡ before = cc in n ∙ sym same
stuck (step ∷ plan) s t before zero f e n =
    let same : s ≡ before = cc in
    let P : Dev → Type 0 = λ x. IsNextAtMost (Some step) x t in
    stuck-part step s t f (subst P (sym same) n)
stuck (step ∷ plan) s t before (suc a) f e n = absurd (cannot step s f (needs-true (can step s) (run (take a plan) (apply step s)) before e).0)

-- Facts of each step of a plan.
zip : {X : Type 0} (P Q R : X → Type 0) → ((x : X) → P x → Q x → R x) → (xs : List X) → AllByRecursion P xs → AllByRecursion Q xs → AllByRecursion R xs
zip P Q R f [] h g = tt
zip P Q R f (x ∷ xs) h g = (f x h.0 g.0, zip P Q R f xs h.1 g.1)

all-left : {X : Type 0} (P : X → Type 0) (xs ys : List X) → AllByRecursion P (xs ++ ys) → AllByRecursion P xs
all-left P [] ys h = tt
all-left P (x ∷ xs) ys h = (h.0, all-left P xs ys h.1)

all-right : {X : Type 0} (P : X → Type 0) (xs ys : List X) → AllByRecursion P (xs ++ ys) → AllByRecursion P ys
all-right P [] ys h = h
all-right P (x ∷ xs) ys h = all-right P xs ys h.1

-- a test that an element passes some element passes
any-more : {X : Type 0} (f : X → Bool) (x : X) (xs : List X) (some : List X) → AllByRecursion (λ y. f y ≡ true → list_any f xs ≡ true) some → AllByRecursion (λ y. f y ≡ true → list_any f (x ∷ xs) ≡ true) some
any-more f x xs [] h = tt
any-more f x xs (y ∷ some) h = (λ e. or-right (f x) (list_any f xs) (h.0 e), any-more f x xs some h.1)

any-all : {X : Type 0} (f : X → Bool) (xs : List X) → AllByRecursion (λ y. f y ≡ true → list_any f xs ≡ true) xs
any-all f [] = tt
any-all f (x ∷ xs) = (λ e. or-left (f x) (list_any f xs) e, any-more f x xs xs (any-all f xs))

no-all : {X : Type 0} (f : X → Bool) (xs : List X) → list_any f xs ≡ false → AllByRecursion (λ y. f y ≡ false) xs
no-all f [] e = tt
no-all f (x ∷ xs) e = let parts = or-false (f x) (list_any f xs) e in (parts.0, no-all f xs parts.1)

among-append : (xs ys : List (List ℕ)) (own : List ℕ) → is_among (xs ++ ys) own ≡ (is_among xs own || is_among ys own)
among-append [] ys own = refl
among-append (x ∷ xs) ys own = ap (λ b. bytes_eq x own || b) (among-append xs ys own) ∙ same (bytes_eq x own) (is_among xs own) (is_among ys own) where
  same : (a b c : Bool) → (a || (b || c)) ≡ ((a || b) || c)
  same true b c = refl
  same false b c = refl

abbrev Sized : List (List ℕ) → Step → Type 0
Sized all step = (own : List ℕ) → is_among (resized_name step) own ≡ true → is_among all own ≡ true

sized-more : (step : Step) (steps some : List Step) → AllByRecursion (Sized (resized_names steps)) some → AllByRecursion (Sized (resized_names (step ∷ steps))) some
sized-more step steps [] h = tt
sized-more step steps (x ∷ some) h =
    (λ own e. among-append (resized_name step) (resized_names steps) own ∙ or-right (is_among (resized_name step) own) (is_among (resized_names steps) own) (h.0 own e), sized-more step steps some h.1)

all-sized : (steps : List Step) → AllByRecursion (Sized (resized_names steps)) steps
all-sized [] = tt
all-sized (step ∷ steps) =
    (λ own e. among-append (resized_name step) (resized_names steps) own ∙ or-left (is_among (resized_name step) own) (is_among (resized_names steps) own) e, sized-more step steps steps (all-sized steps))

all-in : (whole : List Step) → AllByRecursion IsStep whole → AllByRecursion (IsIn whole) whole
all-in whole h =
    zip (λ x. IsWritten whole x × (is_boot x ≡ true → list_any is_boot whole ≡ true)) IsStep (IsIn whole) (λ x p i. record { writes = p.0; boots = p.1; allowed = i }) whole
    (zip (IsWritten whole) (λ x. is_boot x ≡ true → list_any is_boot whole ≡ true) (λ x. IsWritten whole x × (is_boot x ≡ true → list_any is_boot whole ≡ true)) (λ x p q. (p, q)) whole
    (all-written whole) (any-all is_boot whole)) h

begins : (fixed : List (List ℕ)) (whole : List Step) (s : Dev) → fixed_names s ≡ fixed → IsValid s → OnWay fixed whole s s
begins fixed whole s n v = record { base = refl; phys = phys-same whole s.physical; names = n; modes = λ e. refl; valid = v }

modes-case : (fixed : List (List ℕ)) (q : List Step) (t s : Dev) (b : Bool) → list_any is_boot q ≡ b → (list_any is_boot q ≡ false → t.mode ≡ s.mode) → is_fastboot t.mode ≡ true → is_fastboot s.mode ≡ true →
    boots_first fixed q ≡ true → Modes fixed q t s
modes-case fixed q t s true e m f g b = inr (f, g, b, e)
modes-case fixed q t s false e m f g b = inl (m e)

-- What a plan without a table and without a change of the slot asks.
record Ordered (fixed : List (List ℕ)) (q : List Step) : Type 0 where
  steps : AllByRecursion IsStep q
  active : list_any is_active q ≡ false
  tables : tables_first fixed q ≡ true
  boots : boots_first fixed q ≡ true
  empties : empties_first (resized_names q) [] q ≡ true

plain-resumes : (fixed : List (List ℕ)) (q : List Step) (s t before : Dev) (a : ℕ) → Ordered fixed q → list_any is_table q ≡ false → fixed_names s ≡ fixed → IsValid s → is_fastboot t.mode ≡ true → is_fastboot s.mode ≡ true →
    run (take a q) s ≡ Some before → IsNextAtMost (slice_get q a) before t → run q t ≡ run q s
plain-resumes fixed q s t before a o n names v f g e x =
    let all = resized_names q in
    let keep = zip (λ y. IsIn q y × (is_active y ≡ false)) (λ y. (is_table y ≡ false) × Sized all y) (Keeps fixed q s (Plainly fixed q s all))
    (λ y p r. keeps-plainly fixed q s all y p.0 p.1 r.0 r.1) q
    (zip (IsIn q) (λ y. is_active y ≡ false) (λ y. IsIn q y × (is_active y ≡ false)) (λ y p r. (p, r)) q (all-in q o.steps) (no-all is_active q o.active))
    (zip (λ y. is_table y ≡ false) (Sized all) (λ y. (is_table y ≡ false) × Sized all y) (λ y p r. (p, r)) q (no-all is_table q n) (all-sized q)) in
    let start : Plainly fixed q s all s = record { way = begins fixed q s names v; groups = refl; minor = refl; flags = refl; log = log-same all q s.logical } in
    let h = left-keeps fixed q s (Plainly fixed q s all) q keep s t before a start e x in
    sim-run fixed all [] q t s
    (record {
      base = h.way.base;
      groups = h.groups;
      minor = h.minor;
      flags = h.flags;
      modes = modes-case fixed q t s (list_any is_boot q) refl h.way.modes f g o.boots;
      phys = h.way.phys;
      log = h.log;
      names = names;
      valid_t = h.way.valid;
      valid_s = v;
    })
    (record { steps = o.steps; active = o.active; table = n; empties = o.empties; due = λ own m. inr m; inside = λ own m. m })

-- A plan with a table in three parts.
abbrev Plain : List (List ℕ) → List Step → Type 0
Plain fixed steps = AllByRecursion (λ step. (is_logical_step fixed step ≡ false) × (is_active step ≡ false)) steps

record Parted (fixed : List (List ℕ)) (q : List Step) : Type 0 where
  pre : List Step
  tables : Tables
  wipe : Bool
  post : List Step
  whole : q ≡ pre ++ Table tables wipe ∷ post
  plain : Plain fixed pre
  once : list_any is_table post ≡ false

logical-case : (fixed : List (List ℕ)) (step : Step) (q : List Step) (b : Bool) → is_logical_step fixed step ≡ b → (if b then not (list_any is_table q) else true) ≡ true → list_any is_table q ≡ true → b ≡ false
logical-case fixed step q false e h t = refl
logical-case fixed step q true e h t = absurd cc

more-parted : (fixed : List (List ℕ)) (step : Step) (q : List Step) → is_logical_step fixed step ≡ false → is_active step ≡ false → Parted fixed q → Parted fixed (step ∷ q)
more-parted fixed step q l n p = record {
  pre = step ∷ p.pre;
  tables = p.tables;
  wipe = p.wipe;
  post = p.post;
  whole = ap (λ r. step ∷ r) p.whole;
  plain = ((l, n), p.plain);
  once = p.once;
}

parted-step : (fixed : List (List ℕ)) (step : Step) (q : List Step) → is_table step ≡ false → list_any is_table (step ∷ q) ≡ true → list_any is_active (step ∷ q) ≡ false → tables_first fixed (step ∷ q) ≡ true →
    (list_any is_table q ≡ true → list_any is_active q ≡ false → tables_first fixed q ≡ true → Parted fixed q) → Parted fixed (step ∷ q)
parted-step fixed step q n t a h ih =
    let parts = or-false (is_active step) (list_any is_active q) a in
    let two = both (if is_logical_step fixed step then not (list_any is_table q) else true) (tables_first fixed q) h in
    let later : list_any is_table q ≡ true = sym (ap (λ b. b || list_any is_table q) n) ∙ t in
    more-parted fixed step q (logical-case fixed step q (is_logical_step fixed step) refl two.0 later) parts.0 (ih later parts.1 two.1)

parted : (fixed : List (List ℕ)) (q : List Step) → list_any is_table q ≡ true → list_any is_active q ≡ false → tables_first fixed q ≡ true → Parted fixed q
parted fixed [] t a h = absurd cc
parted fixed (Table tables wipe ∷ q) t a h =
    let two = both (not (list_any is_table q)) (tables_first fixed q) h in
    record { pre = []; tables = tables; wipe = wipe; post = q; whole = refl; plain = tt; once = not-back (list_any is_table q) two.0 }
parted fixed (Active slot ∷ q) t a h = absurd cc
parted fixed (Put name cells ∷ q) t a h = parted-step fixed (Put name cells) q refl t a h (parted fixed q)
parted fixed (Wipe name ∷ q) t a h = parted-step fixed (Wipe name) q refl t a h (parted fixed q)
parted fixed (Resize name size ∷ q) t a h = parted-step fixed (Resize name size) q refl t a h (parted fixed q)
parted fixed (Boot mode ∷ q) t a h = parted-step fixed (Boot mode) q refl t a h (parted fixed q)

pre-names : (fixed : List (List ℕ)) (pre post : List Step) (tables : Tables) (wipe : Bool) → Plain fixed pre → resized_names (pre ++ Table tables wipe ∷ post) ≡ resized_names post
pre-names fixed [] post tables wipe p = refl
pre-names fixed (Put name cells ∷ pre) post tables wipe p = pre-names fixed pre post tables wipe p.1
pre-names fixed (Wipe name ∷ pre) post tables wipe p = pre-names fixed pre post tables wipe p.1
pre-names fixed (Boot mode ∷ pre) post tables wipe p = pre-names fixed pre post tables wipe p.1
pre-names fixed (Active slot ∷ pre) post tables wipe p = let e = p.0.1 in absurd cc
pre-names fixed (Resize name size ∷ pre) post tables wipe p = let e = p.0.0 in absurd cc
pre-names fixed (Table other way ∷ pre) post tables wipe p = let e = p.0.0 in absurd cc

pre-empties : (fixed all : List (List ℕ)) (pre post : List Step) (tables : Tables) (wipe : Bool) → Plain fixed pre → empties_first all [] (pre ++ Table tables wipe ∷ post) ≡ true → empties_first all [] post ≡ true
pre-empties fixed all [] post tables wipe p e = e
pre-empties fixed all (Put name cells ∷ pre) post tables wipe p e =
    pre-empties fixed all pre post tables wipe p.1 (both (not (is_among all name) || are_among [] all) (empties_first all [] (pre ++ Table tables wipe ∷ post)) e).1
pre-empties fixed all (Wipe name ∷ pre) post tables wipe p e = pre-empties fixed all pre post tables wipe p.1 e
pre-empties fixed all (Boot mode ∷ pre) post tables wipe p e = pre-empties fixed all pre post tables wipe p.1 e
pre-empties fixed all (Active slot ∷ pre) post tables wipe p e = let f = p.0.1 in absurd cc
pre-empties fixed all (Resize name size ∷ pre) post tables wipe p e = let f = p.0.0 in absurd cc
pre-empties fixed all (Table other way ∷ pre) post tables wipe p e = let f = p.0.0 in absurd cc

any-append : {X : Type 0} (f : X → Bool) (xs ys : List X) → list_any f (xs ++ ys) ≡ false → list_any f ys ≡ false
any-append f [] ys e = e
any-append f (x ∷ xs) ys e = any-append f xs ys (or-false (f x) (list_any f (xs ++ ys)) e).1

apart-names : (tables : Tables) (wipe : Bool) → IsStep (Table tables wipe) → are_distinct (map (λ p. p.name) tables.partitions) ≡ true
apart-names tables wipe i = first-five (are_distinct (map (λ p. p.name) tables.partitions)) _ _ _ _ i where
  first-five : (a b c d e : Bool) → (a && b && c && d && e) ≡ true → a ≡ true
  first-five true b c d e h = refl
  first-five false b c d e h = absurd cc

tabled-resumes : (fixed pre : List (List ℕ)) (q : List Step) (s t before : Dev) (a : ℕ) → Ordered fixed q → (p : Parted fixed q) → fixed_names s ≡ fixed → IsValid s → is_fastboot t.mode ≡ true → is_fastboot s.mode ≡ true →
    run (take a q) s ≡ Some before → IsNextAtMost (slice_get q a) before t → run q t ≡ run q s
tabled-resumes fixed pre q s t before a o p names v f g e x =
    let tables = p.tables in
    let wipe = p.wipe in
    let post = p.post in
    let whole = p.pre ++ Table tables wipe ∷ post in
    let all = resized_names post in
    let steps : AllByRecursion IsStep whole = subst (AllByRecursion IsStep) p.whole o.steps in
    let behind = all-right IsStep p.pre (Table tables wipe ∷ post) steps in
    let active : list_any is_active whole ≡ false = subst (λ w. list_any is_active w ≡ false) p.whole o.active in
    let later : list_any is_active post ≡ false = any-append is_active p.pre (Table tables wipe ∷ post) active in
    let names-same = pre-names fixed p.pre post tables wipe p.plain in
    let empties : empties_first all [] whole ≡ true =
    subst (λ ns. empties_first ns [] whole ≡ true) names-same (subst (λ w. empties_first (resized_names w) [] w ≡ true) p.whole o.empties) in
    let fine : Fine all [] post = record {
      steps = behind.1;
      active = later;
      table = p.once;
      empties = pre-empties fixed all p.pre post tables wipe p.plain empties;
      due = λ own m. inr m;
      inside = λ own m. m;
    } in
    let within = all-in whole steps in
    let early = zip (IsIn whole) (λ y. (is_logical_step fixed y ≡ false) × (is_active y ≡ false)) (Keeps fixed whole s (Early fixed whole s)) (λ y i r. keeps-early fixed whole s y i r) p.pre
    (all-left (IsIn whole) p.pre (Table tables wipe ∷ post) within) p.plain in
    let late = zip (λ y. IsIn whole y × IsWritten post y) (λ y. ((is_active y ≡ false) × (is_table y ≡ false)) × Sized all y) (Keeps fixed whole s (Late fixed whole s all tables wipe post))
    (λ y i r. keeps-late fixed whole s all tables wipe post y i.0 i.1 r.0.0 r.0.1 r.1) post
    (zip (IsIn whole) (IsWritten post) (λ y. IsIn whole y × IsWritten post y) (λ y i r. (i, r)) post (all-right (IsIn whole) p.pre (Table tables wipe ∷ post) within).1 (all-written post))
    (zip (λ y. (is_active y ≡ false) × (is_table y ≡ false)) (Sized all) (λ y. ((is_active y ≡ false) × (is_table y ≡ false)) × Sized all y) (λ y i r. (i, r)) post
    (zip (λ y. is_active y ≡ false) (λ y. is_table y ≡ false) (λ y. (is_active y ≡ false) × (is_table y ≡ false)) (λ y i r. (i, r)) post (no-all is_active post later) (no-all is_table post p.once))
    (all-sized post)) in
    let start : Early fixed whole s s = record { way = begins fixed whole s names v; before = record { groups = refl; minor = refl; flags = refl; logical = refl } } in
    let h = left-tabled fixed whole s all tables wipe post behind.0 names p.pre early late s t before a start
    (subst (λ w. run (take a w) s ≡ Some before) p.whole e) (subst (λ w. IsNextAtMost (slice_get w a) before t) p.whole x) in
    let boots : boots_first fixed whole ≡ true = subst (λ w. boots_first fixed w ≡ true) p.whole o.boots in
    let same = simtable-run fixed all tables wipe post (apart-names tables wipe behind.0) behind.0 p.pre t s p.plain fine
    (record {
      base = h.way.base;
      modes = modes-case fixed whole t s (list_any is_boot whole) refl h.way.modes f g boots;
      phys = h.way.phys;
      names = names;
      valid_t = h.way.valid;
      valid_s = v;
      stage = h.stage;
    }) in
    subst (λ w. run w t ≡ run w s) (sym p.whole) same

either-table : (fixed : List (List ℕ)) (q : List Step) (s t before : Dev) (a : ℕ) (b : Bool) → list_any is_table q ≡ b → Ordered fixed q → fixed_names s ≡ fixed → IsValid s → is_fastboot t.mode ≡ true → is_fastboot s.mode ≡ true →
    run (take a q) s ≡ Some before → IsNextAtMost (slice_get q a) before t → run q t ≡ run q s
either-table fixed q s t before a true b o names v f g e x = tabled-resumes fixed [] q s t before a o (parted fixed q b o.active o.tables) names v f g e x
either-table fixed q s t before a false b o names v f g e x = plain-resumes fixed q s t before a o b names v f g e x

serves-case : (fixed : List (List ℕ)) (q : List Step) (s t before : Dev) (a : ℕ) (b : Bool) → is_fastboot s.mode ≡ b → Ordered fixed q → fixed_names s ≡ fixed → IsValid s → is_fastboot t.mode ≡ true →
    run (take a q) s ≡ Some before → IsNextAtMost (slice_get q a) before t → run q t ≡ run q s
serves-case fixed q s t before a true b o names v f e x = either-table fixed q s t before a (list_any is_table q) refl o names v f b e x
serves-case fixed q s t before a false b o names v f e x = ap (run q) (stuck q s t before a b e x)

-- What no step but a change of the slot changes.
record Seat : Type 0 where
  active : Slot
  flags : BothFlags
  slots : ℕ
  locked : Bool

abbrev seat : Dev → Seat
seat dev = record { active = dev.active; flags = dev.flags; slots = dev.slots; locked = dev.locked }

keeps-seat : (fixed : List (List ℕ)) (whole : List Step) (s : Dev) (u : Seat) (step : Step) → is_active step ≡ false → Keeps fixed whole s (λ d. seat d ≡ u) step
keeps-seat fixed whole s u step n d t i (inl e) = ap seat e ∙ i
keeps-seat fixed whole s u (Active slot) n d t i (inr (inl h)) = absurd cc
keeps-seat fixed whole s u (Put name cells) n d t i (inr (inl h)) = ap seat h.1 ∙ i
keeps-seat fixed whole s u (Wipe name) n d t i (inr (inl h)) = ap seat h.1 ∙ i
keeps-seat fixed whole s u (Resize name size) n d t i (inr (inl h)) = ap seat h.1 ∙ i
keeps-seat fixed whole s u (Table tables wipe) n d t i (inr (inl h)) = ap seat h.1 ∙ i
keeps-seat fixed whole s u (Boot mode) n d t i (inr (inl h)) = ap seat h.1 ∙ i
keeps-seat fixed whole s u (Put name cells) n d t i (inr (inr h)) = ap seat h.3 ∙ i
keeps-seat fixed whole s u (Active slot) n d t i (inr (inr h)) = absurd h
keeps-seat fixed whole s u (Wipe name) n d t i (inr (inr h)) = absurd h
keeps-seat fixed whole s u (Resize name size) n d t i (inr (inr h)) = absurd h
keeps-seat fixed whole s u (Table tables wipe) n d t i (inr (inr h)) = absurd h
keeps-seat fixed whole s u (Boot mode) n d t i (inr (inr h)) = absurd h

map-all : {X : Type 0} (P Q : X → Type 0) → ((x : X) → P x → Q x) → (xs : List X) → AllByRecursion P xs → AllByRecursion Q xs
map-all P Q f [] h = tt
map-all P Q f (x ∷ xs) h = (f x h.0, map-all P Q f xs h.1)

left-seat : (q : List Step) (s t before : Dev) (a : ℕ) → list_any is_active q ≡ false → run (take a q) s ≡ Some before → IsNextAtMost (slice_get q a) before t → seat t ≡ seat s
left-seat q s t before a n e x =
    left-keeps [] q s (λ d. seat d ≡ seat s) q
    (map-all (λ y. is_active y ≡ false) (Keeps [] q s (λ d. seat d ≡ seat s)) (λ y i. keeps-seat [] q s (seat s) y i) q (no-all is_active q n)) s t before a refl e x

fresh-twice : (slot : Slot) (flags : BothFlags) → with_fresh slot (with_fresh slot flags) ≡ with_fresh slot flags
fresh-twice A flags = refl
fresh-twice B flags = refl

-- a slot that is active already
active-again : (slot : Slot) (s t : Dev) → seat t ≡ seat (activated slot s) → activated slot t ≡ t
active-again slot s t e =
    let a : t.active ≡ slot = ap (λ (x : Seat). x.active) e in
    let f : t.flags ≡ with_fresh slot s.flags = ap (λ (x : Seat). x.flags) e in
    ap (λ x. record t { active = x; flags = with_fresh slot t.flags }) (sym a)
    ∙ ap (λ x. record t { flags = x }) (ap (with_fresh slot) f ∙ (fresh-twice slot s.flags ∙ sym f))

active-can : (slot : Slot) (s t : Dev) → is_fastboot t.mode ≡ true → seat t ≡ seat (activated slot s) → can (Active slot) s ≡ true → can (Active slot) t ≡ true
active-can slot s t f e c =
    let l : t.locked ≡ s.locked = ap (λ (x : Seat). x.locked) e in
    let n : t.slots ≡ s.slots = ap (λ (x : Seat). x.slots) e in
    let parts = three (is_fastboot s.mode) (false || not s.locked) (has_slots s) c in
    ap (λ b. b && (false || not t.locked) && has_slots t) f
    ∙ (ap (λ b. true && (false || not b) && has_slots t) l
    ∙ (ap (λ b. true && (false || not s.locked) && b) (ap (λ m. m == 2) n)
    ∙ and-true (true && (false || not s.locked)) (has_slots s) parts.0 parts.1))
  where
    three : (a b c : Bool) → (a && b && c) ≡ true → ((true && b) ≡ true) × (c ≡ true)
    three true true true h = (refl, refl)
    three true true false h = absurd cc
    three true false c h = absurd cc
    three false b c h = absurd cc

ordered-of : (fixed : List (List ℕ)) (q : List Step) → AllByRecursion IsStep q → list_any is_active q ≡ false → IsRepeatable fixed q → Ordered fixed q
ordered-of fixed q h n r = record { steps = h; active = n; tables = r.table; boots = r.boots; empties = r.empties }

run-active : (slot : Slot) (q : List Step) (d : Dev) → can (Active slot) d ≡ true → run (Active slot ∷ q) d ≡ run q (activated slot d)
run-active slot q d c = ap (λ b. needs b >>= λ _. run q (activated slot d)) c

activated-twice : (slot : Slot) (s : Dev) → activated slot (activated slot s) ≡ activated slot s
activated-twice A s = refl
activated-twice B s = refl

-- A plan that begins with a change of the slot.
active-resumes : (slot : Slot) (q : List Step) (s t before : Dev) (a : ℕ) → AllByRecursion IsStep q → list_any is_active q ≡ false → Ordered (fixed_names s) q → IsValid s → is_fastboot t.mode ≡ true →
    run (take a (Active slot ∷ q)) s ≡ Some before → IsNextAtMost (slice_get (Active slot ∷ q) a) before t → run (Active slot ∷ q) t ≡ run (Active slot ∷ q) s
active-resumes slot q s t before zero h n o v f e x =
    let same : s ≡ before = cc in
    let P : Dev → Type 0 = λ d. IsNextAtMost (Some (Active slot)) d t in
    first (subst P (sym same) x)
  where
    first : IsNextAtMost (Some (Active slot)) s t → run (Active slot ∷ q) t ≡ run (Active slot ∷ q) s
    first (inl g) = ap (run (Active slot ∷ q)) g
    first (inr (inl g)) =
        ap (run (Active slot ∷ q)) g.1
        ∙ (run-active slot q (activated slot s) g.0
        ∙ (ap (run q) (activated-twice slot s) ∙ sym (run-active slot q s g.0)))
    first (inr (inr g)) = absurd g
active-resumes slot q s t before (suc a) h n o v f e x =
    let parts = needs-true (can (Active slot) s) (run (take a q) (activated slot s)) before e in
    let there = left-seat q (activated slot s) t before a n parts.1 x in
    let can_t = active-can slot s t f there parts.0 in
    let rest = serves-case (fixed_names s) q (activated slot s) t before a (is_fastboot s.mode) refl o refl (keeps_valid (Active slot) s tt v parts.0) f parts.1 x in
    run-active slot q t can_t ∙ (ap (run q) (active-again slot s t there) ∙ (rest ∙ sym (run-active slot q s parts.0)))

pub resumes : Resumes
resumes [] s a t h r v l f = end a l.taken l.next where
  end : (a : ℕ) → run (take a []) s ≡ Some l.before → IsNextAtMost (slice_get [] a) l.before t → run [] t ≡ run [] s
  end zero e x = let same : s ≡ l.before = cc in ap Some (x ∙ sym same)
  end (suc a) e x = let same : s ≡ l.before = cc in ap Some (x ∙ sym same)
resumes (Active slot ∷ q) s a t h r v l f =
    let n = not-back (list_any is_active q) r.active in
    active-resumes slot q s t l.before a h.1 n
    (record { steps = h.1; active = n; tables = r.table; boots = r.boots; empties = r.empties }) v f l.taken l.next
resumes (Put name cells ∷ q) s a t h r v l f =
    serves-case (fixed_names s) (Put name cells ∷ q) s t l.before a (is_fastboot s.mode) refl (ordered-of (fixed_names s) (Put name cells ∷ q) h (not-back (list_any is_active q) r.active) r) refl v f l.taken l.next
resumes (Wipe name ∷ q) s a t h r v l f =
    serves-case (fixed_names s) (Wipe name ∷ q) s t l.before a (is_fastboot s.mode) refl (ordered-of (fixed_names s) (Wipe name ∷ q) h (not-back (list_any is_active q) r.active) r) refl v f l.taken l.next
resumes (Resize name size ∷ q) s a t h r v l f =
    serves-case (fixed_names s) (Resize name size ∷ q) s t l.before a (is_fastboot s.mode) refl (ordered-of (fixed_names s) (Resize name size ∷ q) h (not-back (list_any is_active q) r.active) r) refl v f l.taken l.next
resumes (Table tables wipe ∷ q) s a t h r v l f =
    serves-case (fixed_names s) (Table tables wipe ∷ q) s t l.before a (is_fastboot s.mode) refl (ordered-of (fixed_names s) (Table tables wipe ∷ q) h (not-back (list_any is_active q) r.active) r) refl v f l.taken l.next
resumes (Boot mode ∷ q) s a t h r v l f =
    serves-case (fixed_names s) (Boot mode ∷ q) s t l.before a (is_fastboot s.mode) refl (ordered-of (fixed_names s) (Boot mode ∷ q) h (not-back (list_any is_active q) r.active) r) refl v f l.taken l.next
