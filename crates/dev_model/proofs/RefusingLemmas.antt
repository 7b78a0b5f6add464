-- First refusals, and what a refusal depends on.
use Rattle.std.proofs.Common.{◌≡◌, ℕ, zero, suc, Bool, true, false, Option, Some, None, List, [], ◌∷◌, length, take, refl, sym, ap, ◌∙◌, arith}
use Rattle.std.specs.Prelude.{not, ◌||◌, ◌==◌, nat_lt, is_none, is_some, unwrap_or, option_to_list, if◌then◌else◌, bytes_eq, codes}
use Rattle.std.specs.Option.{option_or}
use Rattle.std.specs.List.{list_any}
use Rattle.std.proofs.lemmas.Bool.Decides.{nat_tests}
use Rattle.std.proofs.lemmas.Slice.Eq.{bytes_eq-Decides}
use Rattle.dev_model.specs.declared.device.Dev.{Dev}
use Rattle.dev_model.specs.declared.device.Mode.{Mode}
use Rattle.dev_model.specs.declared.step.Step.{Step}
use Rattle.dev_model.specs.declared.step.Step.TheVariants.{Active, Resize, Put, Wipe, Table, Boot}
use Rattle.dev_model.specs.Options.{◌>>=◌, needs, first_passed}
use Rattle.dev_model.specs.Partitions.{is_fastboot, is_userspace, is_super, bytes_of}
use Rattle.dev_model.specs.Refusals.{refusal_of, erase_refusal}
use Rattle.dev_model.specs.Refusing.{PutRefusedByLength, UpdateRefusedAsTable, RunUnrefused, RefusedUnlessRun, RefusedAfter, RunStops}
use Rattle.dev_model.specs.Steps.{can, apply, run, first_refusal, leaves, leaves_last}
use Rattle.dev_model.specs.Tables.{table_refusal}
use Rattle.dev_model.proofs.Taken.{takes_unless_refused}

pub put_refused_by_length : PutRefusedByLength
put_refused_by_length name a b dev e =
    ap
    (λ n. option_or (erase_refusal dev name) (first_passed ((nat_lt (length (unwrap_or (bytes_of dev name) [])) n, codes "image too large") ∷ [])))
    e

own-name : (name : List ℕ) → bytes_eq name name ≡ true
own-name name = (bytes_eq-Decides name name).1 refl

same-first : (l u s : Bool) (o : Option (List ℕ)) (x y v z : List ℕ) → s ≡ true →
    option_or (first_passed ((l, x) ∷ (not u, y) ∷ (false, v) ∷ (not s, z) ∷ [])) o
    ≡ option_or (first_passed ((l, x) ∷ (not u, y) ∷ (false, z) ∷ [])) o
same-first true u s o x y v z e = refl
same-first false false s o x y v z e = refl
same-first false true true o x y v z e = refl
same-first false true false o x y v z e = absurd cc

super-name : (name : List ℕ) (o : Option (List ℕ)) → o ≡ Some name →
    (is_none o ≡ false) × (list_any (λ n. bytes_eq n name) (option_to_list o) ≡ true)
super-name name (Some other) e =
    (refl, ap (λ b. b || false) (ap (λ n. bytes_eq n name) (let same : other ≡ name = cc in same) ∙ own-name name))
super-name name None e = absurd cc

pub update_refused_as_table : UpdateRefusedAsTable
update_refused_as_table dev name file tables wipe e =
    let known = super-name name dev.super_name e in
    same-first dev.locked (is_userspace dev.mode) (is_super dev name) (table_refusal tables wipe dev) _ _ _ (codes "no such partition") known.1
    ∙ ap
    (λ b. option_or
    (first_passed ((dev.locked, codes "locked") ∷ (not (is_userspace dev.mode), codes "userspace only") ∷ (b, codes "no such partition") ∷ []))
    (table_refusal tables wipe dev))
    (sym known.0)

-- a device that can take a step runs fastboot, and doesn't refuse it
serves : (step : Step) (dev : Dev) (b : Bool) → is_fastboot dev.mode ≡ b → can step dev ≡ true → b ≡ true
serves step dev true e c = refl
serves step dev false e c = absurd cc

no-refusal : (o : Option (List ℕ)) → is_none o ≡ true → o ≡ None
no-refusal None e = refl
no-refusal (Some text) e = absurd cc

pub takes-none : (step : Step) (dev : Dev) → can step dev ≡ true → refusal_of step dev ≡ None
takes-none step dev c =
    no-refusal (refusal_of step dev) (sym (takes_unless_refused step dev (serves step dev (is_fastboot dev.mode) refl c)) ∙ c)

taken-case : (step : Step) (steps : List Step) (dev t : Dev) (b : Bool) → can step dev ≡ b →
    (needs b >>= λ _. run steps (apply step dev)) ≡ Some t →
    (run steps (apply step dev) ≡ Some t → first_refusal steps (apply step dev) ≡ None) →
    option_or (refusal_of step dev) (first_refusal steps (apply step dev)) ≡ None
taken-case step steps dev t true c e ih =
    ap (λ o. option_or o (first_refusal steps (apply step dev))) (takes-none step dev c) ∙ ih e
taken-case step steps dev t false c e ih = absurd cc

pub run_unrefused : RunUnrefused
run_unrefused [] dev t e = refl
run_unrefused (step ∷ plan) dev t e = taken-case step plan dev t (can step dev) refl e (run_unrefused plan (apply step dev) t)

stays-at : (mode : Mode) → not (is_fastboot mode) ≡ false → is_fastboot mode ≡ true
stays-at mode e = back (is_fastboot mode) e where
  back : (b : Bool) → not b ≡ false → b ≡ true
  back true f = refl
  back false f = absurd cc

stays : (step : Step) (dev : Dev) → leaves step ≡ false → is_fastboot dev.mode ≡ true → is_fastboot (apply step dev).mode ≡ true
stays (Boot mode) dev l f = stays-at mode l
stays (Active slot) dev l f = f
stays (Resize name size) dev l f = f
stays (Put name cells) dev l f = f
stays (Wipe name) dev l f = f
stays (Table tables wipe) dev l f = f

-- the steps after one that was taken are run or refused
rest-case : (b : Bool) (step : Step) (steps : List Step) (dev : Dev) → leaves step ≡ b →
    (if b then length steps == 0 else leaves_last steps) ≡ true → is_fastboot dev.mode ≡ true →
    (is_fastboot (apply step dev).mode ≡ true → leaves_last steps ≡ true →
    is_none (run steps (apply step dev)) ≡ is_some (first_refusal steps (apply step dev))) →
    is_none (run steps (apply step dev)) ≡ is_some (first_refusal steps (apply step dev))
rest-case true step [] dev e l f ih = refl
rest-case true step (next ∷ steps) dev e l f ih = absurd (grind (arith, nat_tests, l))
rest-case false step steps dev e l f ih = ih (stays step dev e f) l

refused-case : (b : Bool) (o : Option (List ℕ)) (steps : List Step) (next : Dev) → b ≡ is_none o →
    is_none (run steps next) ≡ is_some (first_refusal steps next) →
    is_none (needs b >>= λ _. run steps next) ≡ is_some (option_or o (first_refusal steps next))
refused-case true None steps next e h = h
refused-case true (Some text) steps next e h = absurd cc
refused-case false None steps next e h = absurd cc
refused-case false (Some text) steps next e h = refl

pub refused_unless_run : RefusedUnlessRun
refused_unless_run [] dev f l = refl
refused_unless_run (step ∷ plan) dev f l =
    refused-case (can step dev) (refusal_of step dev) plan (apply step dev) (takes_unless_refused step dev f)
    (rest-case (leaves step) step plan dev refl l f (refused_unless_run plan (apply step dev)))

first-case : (step : Step) (steps : List Step) (s t : Dev) (a : ℕ) (text : List ℕ) (b : Bool) → can step s ≡ b →
    (run (take a steps) (apply step s) ≡ Some t → first_refusal steps (apply step s) ≡ Some text) →
    (needs b >>= λ _. run (take a steps) (apply step s)) ≡ Some t →
    option_or (refusal_of step s) (first_refusal steps (apply step s)) ≡ Some text
first-case step steps s t a text true c ih e = ap (λ o. option_or o (first_refusal steps (apply step s))) (takes-none step s c) ∙ ih e
first-case step steps s t a text false c ih e = absurd cc

pub refused_after : RefusedAfter
refused_after [] s t a step text e g r = absurd cc
refused_after (first ∷ plan) s t zero step text e g r =
    let same : s ≡ t = cc in
    let here : first ≡ step = cc in
    ap (λ o. option_or o (first_refusal plan (apply first s))) (ap (λ d. refusal_of first d) same ∙ (ap (λ x. refusal_of x t) here ∙ r))
refused_after (first ∷ plan) s t (suc a) step text e g r =
    first-case first plan s t a text (can first s) refl (λ f. refused_after plan (apply first s) t a step text f g r) e

stop-case : (step : Step) (steps : List Step) (s t : Dev) (a : ℕ) (b : Bool) →
    (run (take a steps) (apply step s) ≡ Some t → run steps (apply step s) ≡ None) →
    (needs b >>= λ _. run (take a steps) (apply step s)) ≡ Some t → (needs b >>= λ _. run steps (apply step s)) ≡ None
stop-case step steps s t a true ih e = ih e
stop-case step steps s t a false ih e = absurd cc

run-none : (step : Step) (steps : List Step) (s : Dev) → can step s ≡ false → run (step ∷ steps) s ≡ None
run-none step steps s e = ap (λ b. needs b >>= λ _. run steps (apply step s)) e

pub run_stops : RunStops
run_stops [] s t a step e g c = absurd cc
run_stops (first ∷ plan) s t zero step e g c =
    let same : s ≡ t = cc in
    let here : first ≡ step = cc in
    run-none first plan s (ap (λ d. can first d) same ∙ (ap (λ x. can x t) here ∙ c))
run_stops (first ∷ plan) s t (suc a) step e g c =
    stop-case first plan s t a (can first s) (λ f. run_stops plan (apply first s) t a step f g c) e
