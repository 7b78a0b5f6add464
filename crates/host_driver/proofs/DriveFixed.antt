-- What no step changes of a device.
use Rattle.std.proofs.Common.{◌≡◌, inl, inr, ℕ, Bool, true, false, List, [], ◌∷◌, Some, refl, sym, ap, ◌∙◌}
use Rattle.std.specs.Prelude.{MatchBool}
use Rattle.dev_model.specs.declared.device.Dev.{Dev}
use Rattle.dev_model.specs.declared.step.Step.{Step}
use Rattle.dev_model.specs.declared.step.Step.TheVariants.{Active, Resize, Put, Wipe, Table, Boot}
use Rattle.dev_model.specs.Attempts.{IsNextAtMost, IsPutInPart, Left, LeftHalted, IsHaltedOver, IsHaltedAt, is_halted}
use Rattle.dev_model.specs.Steps.{apply}
use Rattle.host_driver.specs.Commands.{TookStep}
use Rattle.host_driver.specs.Stepping.{IsFixed, IsBrokenIn}

pub fixed-same : (s : Dev) → IsFixed s s
fixed-same s = record { most = refl; super_name = refl }

pub fixed-is : (s t : Dev) → t ≡ s → IsFixed s t
fixed-is s t e = record { most = ap (λ (d : Dev). d.max) e; super_name = ap (λ (d : Dev). d.super_name) e }

pub fixed-then : (s t u : Dev) → IsFixed s t → IsFixed t u → IsFixed s u
fixed-then s t u a b = record { most = b.most ∙ a.most; super_name = b.super_name ∙ a.super_name }

pub fixed-apply : (step : Step) (s : Dev) → IsFixed s (apply step s)
fixed-apply (Active slot) s = record { most = refl; super_name = refl }
fixed-apply (Resize name size) s = record { most = refl; super_name = refl }
fixed-apply (Put name cells) s = record { most = refl; super_name = refl }
fixed-apply (Wipe name) s = record { most = refl; super_name = refl }
fixed-apply (Table tables wipe) s = record { most = refl; super_name = refl }
fixed-apply (Boot mode) s = record { most = refl; super_name = refl }

pub fixed-took : (step : Step) (s t : Dev) → TookStep step s t → IsFixed s t
fixed-took step s t k = fixed-then s (apply step s) t (fixed-apply step s) (fixed-is (apply step s) t k.taken)

pub fixed-over : (name : List ℕ) (s t : Dev) → IsHaltedOver name s t → IsFixed s t
fixed-over name s t h = record { most = ap (λ (d : Dev). d.max) h.2; super_name = ap (λ (d : Dev). d.super_name) h.2 }

fixed-halted : (step : Step) (s t : Dev) → IsHaltedAt (Some step) s t → IsFixed s t
fixed-halted (Active slot) s t h = record { most = ap (λ (d : Dev). d.max) h; super_name = ap (λ (d : Dev). d.super_name) h }
fixed-halted (Resize name size) s t h = record { most = ap (λ (d : Dev). d.max) h; super_name = ap (λ (d : Dev). d.super_name) h }
fixed-halted (Put name cells) s t h = fixed-over name s t h
fixed-halted (Wipe name) s t h = fixed-over name s t h
fixed-halted (Table tables wipe) s t h = record { most = ap (λ (d : Dev). d.max) h; super_name = ap (λ (d : Dev). d.super_name) h }
fixed-halted (Boot mode) s t h = record { most = ap (λ (d : Dev). d.max) h; super_name = ap (λ (d : Dev). d.super_name) h }

fixed-part : (step : Step) (s t : Dev) → IsPutInPart step s t → IsFixed s t
fixed-part (Active slot) s t p = absurd p
fixed-part (Resize name size) s t p = absurd p
fixed-part (Put name cells) s t p = record { most = ap (λ (d : Dev). d.max) p.3; super_name = ap (λ (d : Dev). d.super_name) p.3 }
fixed-part (Wipe name) s t p = absurd p
fixed-part (Table tables wipe) s t p = absurd p
fixed-part (Boot mode) s t p = absurd p

fixed-next : (step : Step) (s t : Dev) → IsNextAtMost (Some step) s t → IsFixed s t
fixed-next step s t (inl e) = fixed-is s t e
fixed-next step s t (inr (inl k)) = fixed-then s (apply step s) t (fixed-apply step s) (fixed-is (apply step s) t k.1)
fixed-next step s t (inr (inr p)) = fixed-part step s t p

fixed-one : (step : Step) (s t : Dev) → Left (step ∷ []) s 0 t → IsFixed s t
fixed-one step s t l =
    let same : s ≡ l.before = (let e = l.taken in cc) in
    fixed-then s l.before t (fixed-is s l.before (sym same)) (fixed-next step l.before t l.next)

-- what an attempt at one step leaves
fixed-by : (step : Step) (s t : Dev) (b : Bool) → MatchBool b (LeftHalted (step ∷ []) s 0 t) (Left (step ∷ []) s 0 t) → IsFixed s t
fixed-by step s t true l = fixed-then s l.before t (fixed-one step s l.before l.left) (fixed-halted step l.before t l.halted)
fixed-by step s t false l = fixed-one step s t l

pub fixed-broken : (step : Step) (broke : Type 0) (s t : Dev) → IsBrokenIn step broke s t → IsFixed s t
fixed-broken step broke s t b = fixed-by step s t (is_halted t.mode) b.left
