-- What may follow from bytes, with a cause for what the disk does.
use Rattle.std.proofs.Common.{◌≡◌, ◌⊎◌, inl, inr, ℕ, List, [], ◌++◌, refl, sym, ap, ◌∙◌}
use Rattle.wire_model.specs.Wire.{Wire, after}
use Rattle.wire_model.specs.Halts.{Faults, Goes}
use Rattle.wire_told.specs.Turns.{IsSettled}
use Rattle.wire_told.specs.Told.{GoesBy}
use Rattle.wire_model.proofs.InParts.{in_parts}
use Rattle.wire_model.proofs.GoesInParts.{goes_in_parts}

-- with and without the cause
to-goes : (broke : Type 0) (w v : Wire) (bytes : List ℕ) → (v ≡ after w bytes) ⊎ (broke × Faults w bytes v) → Goes w bytes v
to-goes broke w v bytes (inl e) = inl e
to-goes broke w v bytes (inr f) = inr f.1

pub goes-plain : (broke : Type 0) (w v : Wire) (bytes : List ℕ) → GoesBy broke w bytes v → Goes w bytes v
unfolding GoesBy
goes-plain broke w v bytes g = to-goes broke w v bytes g

because : (broke : Type 0) (w v : Wire) (bytes : List ℕ) → broke → Goes w bytes v → GoesBy broke w bytes v
unfolding GoesBy
because broke w v bytes c (inl e) = inl e
because broke w v bytes c (inr f) = inr (c, f)

two-parts : (broke : Type 0) (w v t : Wire) (x y : List ℕ) → (v ≡ after w x) ⊎ (broke × Faults w x v) → (t ≡ after v y) ⊎ (broke × Faults v y t) → GoesBy broke w (x ++ y) t
unfolding GoesBy
two-parts broke w v t x y (inl e) (inl g) = inl (g ∙ (ap (λ u. after u y) e ∙ in_parts w x y))
two-parts broke w v t x y (inl e) (inr g) = because broke w t (x ++ y) g.0 (goes_in_parts w v t x y (inl e) (inr g.1))
two-parts broke w v t x y (inr f) g = because broke w t (x ++ y) f.0 (goes_in_parts w v t x y (inr f.1) (to-goes broke v t y g))

-- bytes in two parts
pub goes-append : (broke : Type 0) (w v t : Wire) (x y : List ℕ) → GoesBy broke w x v → GoesBy broke v y t → GoesBy broke w (x ++ y) t
unfolding GoesBy
goes-append broke w v t x y f g = two-parts broke w v t x y f g

weaker : (broke more : Type 0) → (broke → more) → (w v : Wire) (bytes : List ℕ) → (v ≡ after w bytes) ⊎ (broke × Faults w bytes v) → GoesBy more w bytes v
unfolding GoesBy
weaker broke more c w v bytes (inl e) = inl e
weaker broke more c w v bytes (inr f) = inr (c f.0, f.1)

-- a weaker cause
pub goes-weaker : (broke more : Type 0) → (broke → more) → (w v : Wire) (bytes : List ℕ) → GoesBy broke w bytes v → GoesBy more w bytes v
unfolding GoesBy
goes-weaker broke more c w v bytes g = weaker broke more c w v bytes g

pub goes-after : (broke : Type 0) (w : Wire) (bytes : List ℕ) → GoesBy broke w bytes (after w bytes)
unfolding GoesBy
goes-after broke w bytes = inl refl

-- no bytes lead nowhere
pub goes-nothing : (broke : Type 0) (w : Wire) → IsSettled w → GoesBy broke w [] w
unfolding GoesBy
goes-nothing broke w e = inl (sym e)
