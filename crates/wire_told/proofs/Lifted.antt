-- What holds of connections, brought to what a port tells.
use Rattle.std.proofs.Common.{◌≡◌, Option, Some, None, refl, sym, ◌∙◌, subst}
use Rattle.dev_model.specs.declared.device.Dev.{Dev}
use Rattle.wire_told.specs.Peers.{Peer, Apart, Joined, OfLink, OnLink, OffLink}
use Rattle.wire_told.specs.Told.{HungUp}
use Rattle.wire_model.specs.Wire.{Wire}

-- a fact of one connection gives another of it
pub of-of : (P Q : Wire → Type 0) → ((w : Wire) → P w → Q w) → (a : Option Peer) → OfLink P a → OfLink Q a
of-of P Q f None p = tt
of-of P Q f (Some (Apart dev)) p = absurd p
of-of P Q f (Some (Joined w)) p = f w p

-- a fact that holds of no connection is told of nothing
pub of-none : (P : Wire → Type 0) → ((w : Wire) → P w → ⊥) → (a : Option Peer) → OfLink P a → a ≡ None
of-none P f None p = refl
of-none P f (Some (Apart dev)) p = absurd p
of-none P f (Some (Joined w)) p = absurd (f w p)

-- two facts of one connection give a third
pub of-both : (P Q R : Wire → Type 0) → ((w : Wire) → P w → Q w → R w) → (a : Option Peer) → OfLink P a → OfLink Q a → OfLink R a
of-both P Q R f None p q = tt
of-both P Q R f (Some (Apart dev)) p q = absurd p
of-both P Q R f (Some (Joined w)) p q = f w p q

-- a fact of one connection gives what leads from it to itself
pub of-stays : (P : Wire → Type 0) (R : Wire → Wire → Type 0) → ((w : Wire) → P w → R w w) → (a : Option Peer) → OfLink P a → OnLink R a a
of-stays P R f None p = tt
of-stays P R f (Some (Apart dev)) p = absurd p
of-stays P R f (Some (Joined w)) p = f w p

pub on-on : (R S : Wire → Wire → Type 0) → ((w v : Wire) → R w v → S w v) → (a b : Option Peer) → OnLink R a b → OnLink S a b
on-on R S f None None r = tt
on-on R S f None (Some q) r = absurd r
on-on R S f (Some (Apart dev)) b r = absurd r
on-on R S f (Some (Joined w)) None r = absurd r
on-on R S f (Some (Joined w)) (Some (Apart dev)) r = absurd r
on-on R S f (Some (Joined w)) (Some (Joined v)) r = f w v r

-- a fact of the connection before, and what a call did to it, give a fact of the one after
pub of-on : (P : Wire → Type 0) (R : Wire → Wire → Type 0) (Q : Wire → Type 0) → ((w v : Wire) → P w → R w v → Q v) → (a b : Option Peer) → OfLink P a → OnLink R a b → OfLink Q b
of-on P R Q f None None p r = tt
of-on P R Q f None (Some q) p r = absurd r
of-on P R Q f (Some (Apart dev)) b p r = absurd r
of-on P R Q f (Some (Joined w)) None p r = absurd r
of-on P R Q f (Some (Joined w)) (Some (Apart dev)) p r = absurd r
of-on P R Q f (Some (Joined w)) (Some (Joined v)) p r = f w v p r

-- and more of what it did
pub with-on : (P : Wire → Type 0) (R S : Wire → Wire → Type 0) → ((w v : Wire) → P w → R w v → S w v) → (a b : Option Peer) → OfLink P a → OnLink R a b → OnLink S a b
with-on P R S f None None p r = tt
with-on P R S f None (Some q) p r = absurd r
with-on P R S f (Some (Apart dev)) b p r = absurd r
with-on P R S f (Some (Joined w)) None p r = absurd r
with-on P R S f (Some (Joined w)) (Some (Apart dev)) p r = absurd r
with-on P R S f (Some (Joined w)) (Some (Joined v)) p r = f w v p r

-- two calls
pub on-then : (R S T : Wire → Wire → Type 0) → ((w u v : Wire) → R w u → S u v → T w v) → (a b c : Option Peer) → OnLink R a b → OnLink S b c → OnLink T a c
on-then R S T f None None None r s = tt
on-then R S T f None None (Some q) r s = absurd s
on-then R S T f None (Some q) c r s = absurd r
on-then R S T f (Some (Apart dev)) b c r s = absurd r
on-then R S T f (Some (Joined w)) None c r s = absurd r
on-then R S T f (Some (Joined w)) (Some (Apart dev)) c r s = absurd r
on-then R S T f (Some (Joined w)) (Some (Joined u)) None r s = absurd s
on-then R S T f (Some (Joined w)) (Some (Joined u)) (Some (Apart dev)) r s = absurd s
on-then R S T f (Some (Joined w)) (Some (Joined u)) (Some (Joined v)) r s = f w u v r s

-- two calls, of which the second ended the connection
pub on-off : (R : Wire → Wire → Type 0) (S T : Wire → Dev → Type 0) → ((w u : Wire) (dev : Dev) → R w u → S u dev → T w dev) → (a b c : Option Peer) → OnLink R a b → OffLink S b c → OffLink T a c
on-off R S T f None None None r s = tt
on-off R S T f None None (Some q) r s = absurd s
on-off R S T f None (Some q) c r s = absurd r
on-off R S T f (Some (Apart dev)) b c r s = absurd r
on-off R S T f (Some (Joined w)) None c r s = absurd r
on-off R S T f (Some (Joined w)) (Some (Apart dev)) c r s = absurd r
on-off R S T f (Some (Joined w)) (Some (Joined u)) None r s = absurd s
on-off R S T f (Some (Joined w)) (Some (Joined u)) (Some (Joined v)) r s = absurd s
on-off R S T f (Some (Joined w)) (Some (Joined u)) (Some (Apart dev)) r s = f w u dev r s

-- and left the device as it was
pub on-hung : (R : Wire → Wire → Type 0) (T : Wire → Dev → Type 0) → ((w u : Wire) → R w u → T w u.device) → (a b c : Option Peer) → OnLink R a b → HungUp b c → OffLink T a c
on-hung R T f None None None r s = tt
on-hung R T f None None (Some q) r s = absurd s
on-hung R T f None (Some q) c r s = absurd r
on-hung R T f (Some (Apart dev)) b c r s = absurd r
on-hung R T f (Some (Joined w)) None c r s = absurd r
on-hung R T f (Some (Joined w)) (Some (Apart dev)) c r s = absurd r
on-hung R T f (Some (Joined w)) (Some (Joined u)) None r s = absurd s
on-hung R T f (Some (Joined w)) (Some (Joined u)) (Some (Joined v)) r s = absurd s
on-hung R T f (Some (Joined w)) (Some (Joined u)) (Some (Apart dev)) r s = subst (T w) (sym s) (f w u r)

-- where a call kept the device and the next one ended the connection
pub kept-hung : (R : Wire → Wire → Type 0) → ((w u : Wire) → R w u → u.device ≡ w.device) → (a b c : Option Peer) → OnLink R a b → HungUp b c → HungUp a c
kept-hung R f None None None r s = tt
kept-hung R f None None (Some q) r s = absurd s
kept-hung R f None (Some q) c r s = absurd r
kept-hung R f (Some (Apart dev)) b c r s = absurd r
kept-hung R f (Some (Joined w)) None c r s = absurd r
kept-hung R f (Some (Joined w)) (Some (Apart dev)) c r s = absurd r
kept-hung R f (Some (Joined w)) (Some (Joined u)) None r s = absurd s
kept-hung R f (Some (Joined w)) (Some (Joined u)) (Some (Joined v)) r s = absurd s
kept-hung R f (Some (Joined w)) (Some (Joined u)) (Some (Apart dev)) r s = s ∙ f w u r
