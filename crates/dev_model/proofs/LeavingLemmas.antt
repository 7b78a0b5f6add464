-- What attempts leave, as the steps go on and attempts follow one another.
use Rattle.std.proofs.Common.{◌≡◌, inl, inr, ℕ, zero, suc, Bool, true, false, Option, Some, None, List, [], ◌∷◌, ◌++◌, take, All, refl, sym, ap, ◌∙◌, subst, arith, slice_get}
use Rattle.std.specs.Prelude.{MatchBool}
use Rattle.std.proofs.lemmas.Option.{slice_get_within}
use Rattle.dev_model.specs.declared.device.Dev.{Dev}
use Rattle.dev_model.specs.declared.step.Step.{Step}
use Rattle.dev_model.specs.declared.step.Step.TheVariants.{Active, Resize, Put, Wipe, Table, Boot}
use Rattle.dev_model.specs.Attempts.{Left, LeftHalted, Chain, IsNextAtMost, IsHaltedAt, is_halted}
use Rattle.dev_model.specs.Images.{over}
use Rattle.dev_model.specs.Leaving.{RunNext, LeftTaken, LeftUnheard, LeftInPart, LeftStopped, LeftServing, ChainNext, ChainUnmet}
use Rattle.dev_model.specs.Options.{◌>>=◌, needs}
use Rattle.dev_model.specs.Partitions.{is_fastboot, with_bytes}
use Rattle.dev_model.specs.Steps.{run, can, apply}
use Rattle.dev_model.proofs.Runs.{begun}

-- the part of MatchBool that holds
pub in-first : (b : Bool) (P Q : Type 0) → b ≡ true → P → MatchBool b P Q
in-first true P Q e h = h
in-first false P Q e h = absurd cc

pub in-second : (b : Bool) (P Q : Type 0) → b ≡ false → Q → MatchBool b P Q
in-second true P Q e h = absurd cc
in-second false P Q e h = h

some-eq : {X : Type 0} (x y : X) → ◌≡◌ {A = Option X} (Some x) (Some y) → x ≡ y
some-eq x y e = cc

one-more : (step : Step) (s : Dev) (b : Bool) → can step s ≡ b → b ≡ true → (needs b >>= λ _. run [] (apply step s)) ≡ Some (apply step s)
one-more step s true c e = refl
one-more step s false c e = absurd cc

more-case : (steps : List Step) (a : ℕ) (next t end : Dev) (b : Bool) →
    (run (take a steps) next ≡ Some t → run (take (suc a) steps) next ≡ Some end) →
    (needs b >>= λ _. run (take a steps) next) ≡ Some t → (needs b >>= λ _. run (take (suc a) steps) next) ≡ Some end
more-case steps a next t end true ih e = ih e
more-case steps a next t end false ih e = absurd cc

pub run_next : RunNext
run_next [] s u a step e g c = absurd cc
run_next (first ∷ plan) s u zero step e g c =
    let same : s ≡ u = cc in
    let here : first ≡ step = cc in
    one-more first s (can first s) refl (ap (λ d. can first d) same ∙ (ap (λ x. can x u) here ∙ c))
    ∙ ap Some (ap (λ d. apply first d) same ∙ ap (λ x. apply x u) here)
run_next (first ∷ plan) s u (suc a) step e g c =
    more-case plan a (apply first s) u (apply step u) (can first s) (λ f. run_next plan (apply first s) u a step f g c) e

pub left_taken : LeftTaken
left_taken plan s t a h e = record { count = h; before = t; taken = e; next = begun (slice_get plan a) t }

first-left : (step : Step) (steps : List Step) (s t : Dev) (b : Bool) → can step s ≡ b →
    (needs b >>= λ _. run (take zero steps) (apply step s)) ≡ Some t → Left (step ∷ steps) s zero t
first-left step steps s t true c e = record {
  count = omega arith;
  before = s;
  taken = refl;
  next = inr (inl (c, sym (some-eq (apply step s) t e)));
}
first-left step steps s t false c e = absurd cc

later-left : (step : Step) (steps : List Step) (s t : Dev) (n : ℕ) (b : Bool) → can step s ≡ b →
    (run (take (suc n) steps) (apply step s) ≡ Some t → Left steps (apply step s) n t) →
    (needs b >>= λ _. run (take (suc n) steps) (apply step s)) ≡ Some t → Left (step ∷ steps) s (suc n) t
later-left step steps s t n true c ih e =
    let l = ih e in
    let short = l.count in
    record {
      count = omega (arith, short);
      before = l.before;
      taken = ap (λ b. needs b >>= λ _. run (take n steps) (apply step s)) c ∙ l.taken;
      next = l.next;
    }
later-left step steps s t n false c ih e = absurd cc

pub left_unheard : LeftUnheard
left_unheard [] s t n h e = absurd (omega (arith, h))
left_unheard (step ∷ plan) s t zero h e = first-left step plan s t (can step s) refl e
left_unheard (step ∷ plan) s t (suc n) h e =
    later-left step plan s t n (can step s) refl (left_unheard plan (apply step s) t n (omega (arith, h))) e

pub left_in_part : LeftInPart
left_in_part plan s u a n name cells e g c h =
    let within = slice_get_within plan a (Put name cells) g in
    let t = with_bytes name (over (take n cells)) u in
    let P : Option Step → Type 0 = λ o. IsNextAtMost o u t in
    record {
      count = omega (arith, within);
      before = u;
      taken = e;
      next = subst P (sym g) (inr (inr (c, n, h, refl)));
    }

halted-at : (o : Option Step) (u t : Dev) → IsHaltedAt o u t → is_halted t.mode ≡ true
halted-at None u t h = ap (λ (d : Dev). is_halted d.mode) h
halted-at (Some (Put name cells)) u t h = ap (λ (d : Dev). is_halted d.mode) h.2
halted-at (Some (Wipe name)) u t h = ap (λ (d : Dev). is_halted d.mode) h.2
halted-at (Some (Active slot)) u t h = ap (λ (d : Dev). is_halted d.mode) h
halted-at (Some (Resize name size)) u t h = ap (λ (d : Dev). is_halted d.mode) h
halted-at (Some (Table tables wipe)) u t h = ap (λ (d : Dev). is_halted d.mode) h
halted-at (Some (Boot mode)) u t h = ap (λ (d : Dev). is_halted d.mode) h

pub left_stopped : LeftStopped
left_stopped plan s u t a l h =
    in-first (is_halted t.mode) (LeftHalted plan s a t) (Left plan s a t) (halted-at (slice_get plan a) u t h)
    (record { before = u; left = l; halted = h })

pub left_serving : LeftServing
left_serving plan s t a l f = in-second (is_halted t.mode) (LeftHalted plan s a t) (Left plan s a t) f l

-- what later attempts leave of u and one more, where u runs fastboot
next-case : (b : Bool) (u v : Dev) (Q R : Type 0) (S : Type 0) → is_fastboot u.mode ≡ b → is_fastboot v.mode ≡ true → (Q → S) →
    MatchBool b Q (R × (v ≡ u)) → S
next-case true u v Q R S e f g m = g m
next-case false u v Q R S e f g m = let same : is_fastboot v.mode ≡ is_fastboot u.mode = ap (λ (d : Dev). is_fastboot d.mode) m.1 in absurd cc

serving-first : (b : Bool) (u v : Dev) (Q R : Type 0) → is_fastboot u.mode ≡ b → is_fastboot v.mode ≡ true → MatchBool b Q (R × (v ≡ u)) → b ≡ true
serving-first true u v Q R e f m = refl
serving-first false u v Q R e f m = let same : is_fastboot v.mode ≡ is_fastboot u.mode = ap (λ (d : Dev). is_fastboot d.mode) m.1 in absurd cc

pub chain_next : ChainNext
chain_next plan s u t [] a c f l = absurd c
chain_next plan s u t (n ∷ []) a c f l =
    (u, c, in-first (is_fastboot u.mode) (Chain plan u (a ∷ []) t) (All (λ k. k ≡ 0) (a ∷ []) × (t ≡ u)) f l)
chain_next plan s u t (n ∷ m ∷ rest) a c f l =
    let v = c.0 in
    let R = All (λ k. k ≡ 0) (m ∷ rest) in
    let runs = serving-first (is_fastboot v.mode) v u (Chain plan v (m ∷ rest) u) R refl f c.2 in
    let later = next-case (is_fastboot v.mode) v u (Chain plan v (m ∷ rest) u) R (Chain plan v (m ∷ rest ++ a ∷ []) t) refl f (λ k. chain_next plan v u t (m ∷ rest) a k f l) c.2 in
    (v, c.1, in-first (is_fastboot v.mode) (Chain plan v (m ∷ rest ++ a ∷ []) t) (All (λ k. k ≡ 0) (m ∷ rest ++ a ∷ []) × (t ≡ v)) runs later)

all-more : (xs : List ℕ) → All (λ n. n ≡ 0) xs → All (λ n. n ≡ 0) (xs ++ 0 ∷ [])
all-more [] h zero d l = refl
all-more [] h (suc k) d l = absurd (omega (arith, l))
all-more (x ∷ xs) h zero d l = h 0 d (omega arith)
all-more (x ∷ xs) h (suc k) d l = all-more xs (λ j e m. h (suc j) e (omega (arith, m))) k d (omega (arith, l))

unmet-case : (plan : List Step) (b : Bool) (v t : Dev) (m : ℕ) (rest : List ℕ) → is_fastboot v.mode ≡ b →
    (Chain plan v (m ∷ rest) t → Chain plan v (m ∷ rest ++ 0 ∷ []) t) →
    MatchBool b (Chain plan v (m ∷ rest) t) (All (λ k. k ≡ 0) (m ∷ rest) × (t ≡ v)) →
    MatchBool b (Chain plan v (m ∷ rest ++ 0 ∷ []) t) (All (λ k. k ≡ 0) (m ∷ rest ++ 0 ∷ []) × (t ≡ v))
unmet-case plan true v t m rest e ih h = ih h
unmet-case plan false v t m rest e ih h = (all-more (m ∷ rest) h.0, h.1)

pub chain_unmet : ChainUnmet
chain_unmet plan s t [] c f = absurd c
chain_unmet plan s t (n ∷ []) c f =
    (t, c, in-second (is_fastboot t.mode) (Chain plan t (0 ∷ []) t) (All (λ k. k ≡ 0) (0 ∷ []) × (t ≡ t)) f (all-more [] (λ k d h. absurd (omega (arith, h))), refl))
chain_unmet plan s t (n ∷ m ∷ rest) c f =
    (c.0, c.1, unmet-case plan (is_fastboot c.0.mode) c.0 t m rest refl (λ k. chain_unmet plan c.0 t (m ∷ rest) k f) c.2)
