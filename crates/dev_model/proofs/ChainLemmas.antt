-- Resuming what a chain of attempts left, from resuming what one left.
use Rattle.std.proofs.Common.{◌≡◌, inl, inr, ℕ, Bool, true, false, Option, Some, None, List, [], ◌∷◌, take, All, refl, sym, ap, ◌∙◌, subst, slice_get}
use Rattle.std.specs.Prelude.{MatchBool, is_none}
use Rattle.dev_model.specs.declared.device.Dev.{Dev}
use Rattle.dev_model.specs.declared.step.Step.{Step}
use Rattle.dev_model.specs.declared.step.Step.TheVariants.{Active, Resize, Put, Wipe, Table, Boot}
use Rattle.dev_model.specs.Attempts.{Left, IsNextAtMost, LeftBehind, LeftHalted, Chain, is_halted}
use Rattle.dev_model.specs.Options.{◌>>=◌, needs}
use Rattle.dev_model.specs.Partitions.{is_fastboot}
use Rattle.dev_model.specs.Steps.{run, can, apply}
use Rattle.dev_model.proofs.LeftValid.{left_valid, not-halted, the-second}
use Rattle.dev_model.specs.Repeats.{IsRepeatable}
use Rattle.dev_model.specs.Resuming.{Resumes, ResumesChain, ResumesUnrefused, ResumesRefused, fixed_names}
use Rattle.dev_model.proofs.RefusingLemmas.{run_unrefused, refused_unless_run}
use Rattle.dev_model.proofs.Valid.{names-kept}

-- no step changes the names of physical partitions
pub apply-fixed : (step : Step) (dev : Dev) → fixed_names (apply step dev) ≡ fixed_names dev
apply-fixed (Active slot) dev = refl
apply-fixed (Resize name size) dev = refl
apply-fixed (Put name cells) dev = names-kept name _ dev.physical
apply-fixed (Wipe name) dev = names-kept name _ dev.physical
apply-fixed (Table tables wipe) dev = refl
apply-fixed (Boot mode) dev = refl

run-case : (step : Step) (steps : List Step) (dev t : Dev) → (run steps (apply step dev) ≡ Some t → fixed_names t ≡ fixed_names dev) → (b : Bool) →
    (needs b >>= λ _. run steps (apply step dev)) ≡ Some t → fixed_names t ≡ fixed_names dev
run-case step steps dev t ih true e = ih e
run-case step steps dev t ih false e = absurd cc

pub run-fixed : (steps : List Step) (dev t : Dev) → run steps dev ≡ Some t → fixed_names t ≡ fixed_names dev
run-fixed [] dev t e = let same : dev ≡ t = cc in ap fixed_names (sym same)
run-fixed (step ∷ steps) dev t e =
    run-case step steps dev t (λ f. run-fixed steps (apply step dev) t f ∙ apply-fixed step dev) (can step dev) e

next-fixed : (o : Option Step) (dev t : Dev) → IsNextAtMost o dev t → fixed_names t ≡ fixed_names dev
next-fixed None dev t e = ap fixed_names e
next-fixed (Some step) dev t (inl e) = ap fixed_names e
next-fixed (Some step) dev t (inr (inl h)) = ap fixed_names h.1 ∙ apply-fixed step dev
next-fixed (Some (Put name cells)) dev t (inr (inr h)) = ap fixed_names h.3 ∙ names-kept name _ dev.physical
next-fixed (Some (Active slot)) dev t (inr (inr h)) = absurd h
next-fixed (Some (Wipe name)) dev t (inr (inr h)) = absurd h
next-fixed (Some (Resize name size)) dev t (inr (inr h)) = absurd h
next-fixed (Some (Table tables wipe)) dev t (inr (inr h)) = absurd h
next-fixed (Some (Boot mode)) dev t (inr (inr h)) = absurd h

-- nor does what an attempt leaves
pub left-fixed : (plan : List Step) (s : Dev) (a : ℕ) (t : Dev) → Left plan s a t → fixed_names t ≡ fixed_names s
left-fixed plan s a t l = next-fixed (slice_get plan a) l.before t l.next ∙ run-fixed (take a plan) s l.before l.taken

-- what an attempt leaves that runs fastboot
pub unhalted : (plan : List Step) (s : Dev) (a : ℕ) (t : Dev) → is_fastboot t.mode ≡ true → LeftBehind plan s a t → Left plan s a t
unhalted plan s a t f l = the-second (is_halted t.mode) (LeftHalted plan s a t) (Left plan s a t) (not-halted t.mode f) l

later : {C : Type 0} (b : Bool) (u t : Dev) (Q R : Type 0) → is_fastboot u.mode ≡ b → is_fastboot t.mode ≡ true → (is_fastboot u.mode ≡ true → Q → C) →
    MatchBool b Q (R × (t ≡ u)) → C
later true u t Q R e f g m = g e m
later false u t Q R e f g m = let same : is_fastboot t.mode ≡ is_fastboot u.mode = ap (λ d. is_fastboot d.mode) m.1 in absurd cc

again : (plan : List Step) (s u : Dev) → fixed_names u ≡ fixed_names s → IsRepeatable (fixed_names s) plan → IsRepeatable (fixed_names u) plan
again plan s u e r = subst (λ names. IsRepeatable names plan) (sym e) r

pub resumes_chain : Resumes → ResumesChain
resumes_chain one plan s [] t h r v c f = absurd c
resumes_chain one plan s (a ∷ []) t h r v c f = one plan s a t h r v (unhalted plan s a t f c) f
resumes_chain one plan s (a ∷ b ∷ rest) t h r v c f =
    later (is_fastboot c.0.mode) c.0 t (Chain plan c.0 (b ∷ rest) t) (All (λ n. n ≡ 0) (b ∷ rest)) refl f
    (λ e k.
    let left = unhalted plan s a c.0 e c.1 in
    resumes_chain one plan c.0 (b ∷ rest) t h (again plan s c.0 (left-fixed plan s a c.0 left) r) (left_valid plan s a c.0 h v left) k f
    ∙ one plan s a c.0 h r v left e)
    c.2

pub resumes_unrefused : ResumesChain → ResumesUnrefused
resumes_unrefused chain plan s numbers t end h r v c f e = run_unrefused plan t end (chain plan s numbers t h r v c f ∙ e)

pub resumes_refused : ResumesChain → ResumesRefused
resumes_refused chain plan s numbers t h r v l c f g =
    sym (refused_unless_run plan t g l) ∙ (ap is_none (chain plan s numbers t h r v c g) ∙ refused_unless_run plan s f l)
