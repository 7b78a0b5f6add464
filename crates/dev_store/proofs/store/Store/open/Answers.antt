use Rattle.std.proofs.Common.{◌≡◌, ap, inl, inr, Result, Err}
use Rattle.std.specs.Prelude.{◌⊎◌}
use Rattle.dev_store.specs.Held.{device_held}
use Rattle.dev_store.proofs.OpenWhole.{starts-fastboot}
use Rattle.dev_store.proofs.store.Store.open.Goals as goal

pub returns-in-Ok-clause-starts : goal.returns-in-Ok-clause-starts
unfolding device_held
returns-in-Ok-clause-starts g c = starts-fastboot c.in-Ok.opened.read.found.state.userspace

-- an error is one of two
one-of : {T E : Type 0} (e a b : E) → (e ≡ a) ⊎ (e ≡ b) → (◌≡◌ {A = Result T E} (Err e) (Err a)) ⊎ (◌≡◌ {A = Result T E} (Err e) (Err b))
one-of e a b (inl h) = inl (ap Err h)
one-of e a b (inr h) = inr (ap Err h)

pub returns-in-Err-clause-unwritten : goal.returns-in-Err-clause-unwritten
returns-in-Err-clause-unwritten g c = λ bad h. c.in-Err.ensures.unwritten bad (one-of _ _ _ h)
