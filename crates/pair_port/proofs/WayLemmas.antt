-- What a port does is told of it beside another port too.
use Rattle.std.proofs.Common.{◌≡◌, ℕ, ◌+◌, List, take, Option, Some, None, sym, subst, arith}
use Rattle.fb_frame.specs.Causes.{Rose}
use Rattle.dev_model.specs.declared.device.Dev.{Dev}
use Rattle.wire_model.specs.Wire.{Wire}
use Rattle.wire_told.specs.Peers.{Peer, Apart, Joined}
use Rattle.wire_told.specs.Told.{GoesBy, Sent, IsLeft, LeftBy, InTurn}
use Rattle.wire_told.specs.Ports.{PortTold}
use Rattle.wire_told.proofs.Going.{goes-weaker}
use Rattle.wire_told.proofs.Lifted.{on-on}
use Rattle.pair_port.specs.declared.any_port.Way.{Way}
use Rattle.pair_port.specs.Ways.{Ways, turned, told_on}

raised : (k l r : ℕ) → Rose k l → Rose (k + r) (l + r)
raised k l r e = omega (arith, e)

pub Sent-beside : (k l r : ℕ) (a b : Option Peer) (x : List ℕ) → Sent k l a b x → Sent (k + r) (l + r) a b x
Sent-beside k l r a b x f =
    on-on (λ w v. GoesBy (Rose k l) w x v) (λ w v. GoesBy (Rose (k + r) (l + r)) w x v) (λ w v g. goes-weaker (Rose k l) (Rose (k + r) (l + r)) (raised k l r) w v x g) a b f

left-beside : (k l r : ℕ) (x : List ℕ) (w : Wire) (dev : Dev) → IsLeft (Rose k l) x w dev → IsLeft (Rose (k + r) (l + r)) x w dev
left-beside k l r x w dev f = record {
  count = f.count;
  within = f.within;
  state = f.state;
  goes = goes-weaker (Rose k l) (Rose (k + r) (l + r)) (raised k l r) w f.state (take f.count x) f.goes;
  device = f.device;
}

pub LeftBy-beside : (k l r : ℕ) (a b : Option Peer) (x : List ℕ) → LeftBy k l a b x → LeftBy (k + r) (l + r) a b x
LeftBy-beside k l r None None x f = tt
LeftBy-beside k l r None (Some b) x f = absurd f
LeftBy-beside k l r (Some (Apart dev)) b x f = absurd f
LeftBy-beside k l r (Some (Joined w)) None x f = absurd f
LeftBy-beside k l r (Some (Joined w)) (Some (Joined v)) x f = absurd f
LeftBy-beside k l r (Some (Joined w)) (Some (Apart dev)) x f = left-beside k l r x w dev f

pub ruleset ways = (Sent-beside, LeftBy-beside)

-- the port of the way may be sent what may be sent
pub turn-on : {A I : Type 0} (f : A → PortTold) (h : I → PortTold) (s v : Ways A I) (way : Way) (bytes : List ℕ) → s ≡ v → s.way ≡ way →
    InTurn (told_on v.way (f v.addresses) (h v.images)).peer bytes → InTurn (turned way (f s.addresses) (h s.images)).peer bytes
turn-on f h s v way bytes e w t =
    subst (λ k. InTurn (turned k (f s.addresses) (h s.images)).peer bytes) w
    (subst (λ u. InTurn (turned u.way (f u.addresses) (h u.images)).peer bytes) (sym e) t)
