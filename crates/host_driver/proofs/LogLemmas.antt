-- A port with a log counts the faults of its port and those of its own.
use Rattle.std.proofs.Common.{◌≡◌, ℕ, ◌+◌, ◌≤◌, List, ◌++◌, take, length, Option, Some, None, sym, ap, ◌∙◌, subst, arith, length-take-le}
use Rattle.fb_frame.specs.Causes.{Rose}
use Rattle.dev_model.specs.declared.device.Dev.{Dev}
use Rattle.wire_told.specs.Peers.{Peer, Apart, Joined}
use Rattle.wire_model.specs.Wire.{Wire}
use Rattle.wire_told.specs.Told.{GoesBy, Sent, IsLeft, LeftBy, HungUp, InTurn}
use Rattle.wire_told.specs.Ports.{PortTold, Sends}
use Rattle.host_driver.specs.Logs.{Logged}
use Rattle.wire_told.proofs.Going.{goes-weaker, goes-nothing}
use Rattle.wire_told.proofs.Lifted.{on-on}

raised : (k l r s : ℕ) → r ≤ s → Rose k l → Rose (k + r) (l + s)
raised k l r s h e = omega (arith, h, e)

pub Sent-raised : (k l r : ℕ) (a b : Option Peer) (x : List ℕ) → Sent k l a b x → Sent (k + r) (l + r) a b x
Sent-raised k l r a b x f =
    on-on (λ w v. GoesBy (Rose k l) w x v) (λ w v. GoesBy (Rose (k + r) (l + r)) w x v) (λ w v g. goes-weaker (Rose k l) (Rose (k + r) (l + r)) (raised k l r r (omega arith)) w v x g) a b f

left-raised : (k l r : ℕ) (x : List ℕ) (w : Wire) (dev : Dev) → IsLeft (Rose k l) x w dev → IsLeft (Rose (k + r) (l + r)) x w dev
left-raised k l r x w dev f = record {
  count = f.count;
  within = f.within;
  state = f.state;
  goes = goes-weaker (Rose k l) (Rose (k + r) (l + r)) (raised k l r r (omega arith)) w f.state (take f.count x) f.goes;
  device = f.device;
}

pub LeftBy-raised : (k l r : ℕ) (a b : Option Peer) (x : List ℕ) → LeftBy k l a b x → LeftBy (k + r) (l + r) a b x
LeftBy-raised k l r None None x f = tt
LeftBy-raised k l r None (Some b) x f = absurd f
LeftBy-raised k l r (Some (Apart dev)) b x f = absurd f
LeftBy-raised k l r (Some (Joined w)) None x f = absurd f
LeftBy-raised k l r (Some (Joined w)) (Some (Joined v)) x f = absurd f
LeftBy-raised k l r (Some (Joined w)) (Some (Apart dev)) x f = left-raised k l r x w dev f

-- nothing was sent, and the connection was given up
pub LeftBy-refused : (k l : ℕ) (a b : Option Peer) (x : List ℕ) → InTurn a x → HungUp a b → LeftBy k l a b x
LeftBy-refused k l None None x t h = tt
LeftBy-refused k l None (Some b) x t h = absurd h
LeftBy-refused k l (Some (Apart dev)) b x t h = absurd t
LeftBy-refused k l (Some (Joined w)) None x t h = absurd h
LeftBy-refused k l (Some (Joined w)) (Some (Joined v)) x t h = absurd h
LeftBy-refused k l (Some (Joined w)) (Some (Apart dev)) x t h = record {
  count = 0;
  within = omega arith;
  state = w;
  goes = goes-nothing (Rose k l) w t.settled;
  device = h;
}

-- what a port sent stands in the log too
pub Sends-logged : (a b : PortTold) (log more bytes : List ℕ) (r : ℕ) → Sends a b bytes → more ≡ log ++ bytes →
    Sends (record a { log = Some log; faults = a.faults + r }) (record b { log = Some more; faults = b.faults + r }) bytes
Sends-logged a b log more bytes r f e = record {
  up = f.up;
  sent = Sent-raised a.faults b.faults r a.peer b.peer bytes f.sent;
  kept = record {
    aimed_still = f.kept.aimed_still;
    last_same = f.kept.last_same;
    others = f.kept.others;
    later = omega (arith, f.kept.later);
    no_fewer = f.kept.no_fewer;
    honest = f.kept.honest;
  };
  heard = f.heard;
  log = e;
  ends = f.ends;
}

-- the same of a port with a log, whose value is what its parts make
pub Sends-kept : {P : Type 0} (told : P → PortTold) (s v : Logged P) (q : P) (have n : ℕ) (new bytes : List ℕ) →
    s ≡ v → n ≤ length bytes → Sends (told s.port) (told q) (take n bytes) →
    take (have + length (take n bytes)) new ≡ s.log ++ take n bytes →
    Sends (record (told v.port) { log = Some v.log; faults = (told v.port).faults + v.refused })
    (record (told q) { log = Some (take (have + n) new); faults = (told q).faults + s.refused }) (take n bytes)
Sends-kept told s v q have n new bytes e h f w =
    subst
    (λ x. Sends (record (told x.port) { log = Some x.log; faults = (told x.port).faults + x.refused })
    (record (told q) { log = Some (take (have + n) new); faults = (told q).faults + s.refused }) (take n bytes))
    e
    (Sends-logged (told s.port) (told q) s.log (take (have + n) new) (take n bytes) s.refused f
    (ap (λ k. take (have + k) new) (sym (length-take-le n bytes h)) ∙ w))

pub ruleset logs = (Sent-raised, LeftBy-raised, LeftBy-refused)
