-- For a port that tells its connection.
use Rattle.std.proofs.Common.{◌≡◌, ℕ, List, take, drop, Some, sym, ap, subst, take-append-drop}
use Rattle.fb_frame.specs.Causes.{Rose}
use Rattle.wire_told.specs.Peers.{Joined}
use Rattle.wire_model.specs.Wire.{Wire, after}
use Rattle.wire_told.specs.Told.{Sent, Heard}
use Rattle.wire_told.proofs.Going.{goes-after}

-- what a send leaves that took these bytes without a fault
pub Sent-after : (k : ℕ) (w : Wire) (bytes : List ℕ) → Sent k k (Some (Joined w)) (Some (Joined (after w bytes))) bytes
Sent-after k w bytes = goes-after (Rose k k) w bytes

pub Sent-to : (k l : ℕ) (w v : Wire) (bytes : List ℕ) → v ≡ after w bytes → Sent k l (Some (Joined w)) (Some (Joined v)) bytes
Sent-to k l w v bytes e = subst (λ u. Sent k l (Some (Joined w)) (Some (Joined u)) bytes) (sym e) (goes-after (Rose k l) w bytes)

-- what a recv leaves that gave the first n bytes of the output
pub Heard-front : (w : Wire) (n : ℕ) → Heard (Some (Joined w)) (Some (Joined (record w { out = drop n w.out }))) (take n w.out)
Heard-front w n = ap (λ o. record w { out = o }) (sym (take-append-drop n w.out))
