-- What is known of a port that was aimed, and of what a call over it leaves.
use Rattle.std.proofs.Common.{◌≡◌, Option, Some, None, refl, sym, ap, ◌∙◌, subst}
use Rattle.std.specs.Prelude.{◌≢◌, IsTrue, IsFalse}
use Rattle.dev_model.specs.declared.device.Dev.{Dev}
use Rattle.wire_told.specs.Answered.{Sound}
use Rattle.wire_told.specs.Peers.{Peer, Apart, Joined, device_of}
use Rattle.wire_told.specs.Places.{Place, Stand, Stands, AimsBy, LastBy, IsLast, KeepsOthers}
use Rattle.wire_told.specs.Ports.{PortTold, Kept, IsAimed}
use Rattle.wire_told.specs.Told.{IsBarred}
use Rattle.host_driver.specs.Jobs.{Outside, OfTold}
use Rattle.host_top.specs.Ending.{OnAimed, IsTurned}

-- the device that was aimed at is one that there can be, and runs fastboot
aims-sound : (o : Option Stand) (a : Option Peer) → AimsBy o a → Sound a
aims-sound None None p = tt
aims-sound None (Some (Joined w)) p = absurd p
aims-sound None (Some (Apart dev)) p = p.1
aims-sound (Some stand) None p = absurd p
aims-sound (Some stand) (Some (Joined w)) p = absurd p
aims-sound (Some stand) (Some (Apart dev)) p = p.1

pub aimed-sound : (old port : PortTold) (place : Place) → IsAimed old port place → Sound port.peer
aimed-sound old port place a = aims-sound (old.stands place) port.peer a.aims

aims-unbarred : (o : Option Stand) (a : Option Peer) → AimsBy o a → IsBarred a → ⊥
aims-unbarred None None p b = b
aims-unbarred None (Some (Joined w)) p b = p
aims-unbarred None (Some (Apart dev)) p b = let f = p.0 in absurd cc
aims-unbarred (Some stand) None p b = p
aims-unbarred (Some stand) (Some (Joined w)) p b = p
aims-unbarred (Some stand) (Some (Apart dev)) p b = let f = p.0 in absurd cc

pub aimed-unbarred : (old port : PortTold) (place : Place) → IsAimed old port place → IsBarred port.peer → ⊥
aimed-unbarred old port place a b = aims-unbarred (old.stands place) port.peer a.aims b

-- a relation of the told devices before and after is one of the device that was aimed at
aims-on : {R Q : Dev → Dev → Type 0} (o : Option Stand) (a b : Option Peer) → ((s t : Dev) → R s t → Q s t) → AimsBy o a → OfTold a b R → OnAimed o b Q
aims-on None None None f p r = tt
aims-on None None (Some b) f p r = absurd r
aims-on None (Some (Joined w)) b f p r = absurd p
aims-on None (Some (Apart dev)) None f p r = absurd r
aims-on None (Some (Apart dev)) (Some b) f p r = (dev, record { valid = p.1; serves = p.0 }, f dev (device_of b) r)
aims-on (Some stand) None b f p r = absurd p
aims-on (Some stand) (Some (Joined w)) b f p r = absurd p
aims-on (Some stand) (Some (Apart dev)) None f p r = absurd r
aims-on {Q = Q} (Some stand) (Some (Apart dev)) (Some b) f p r =
    subst (λ x. OnAimed (Some x) (Some b) Q) (sym p.2) (record { valid = p.1; serves = p.0 }, f dev (device_of b) r)

pub aimed-on : {R Q : Dev → Dev → Type 0} (old port new : PortTold) (place : Place) → ((s t : Dev) → R s t → Q s t) → IsAimed old port place → OfTold port.peer new.peer R → OnAimed (old.stands place) new.peer Q
aimed-on {R} {Q} old port new place f a r = aims-on {R = R} {Q = Q} (old.stands place) port.peer new.peer f a.aims r

-- a port tells its device before a call and after it, or neither time
pub untold-still : (R : Dev → Dev → Type 0) (a b : Option Peer) → OfTold a b R → a ≡ None → b ≡ None
untold-still R None None r e = refl
untold-still R None (Some b) r e = absurd r
untold-still R (Some a) b r e = absurd cc

pub untold-before : (R : Dev → Dev → Type 0) (a b : Option Peer) → OfTold a b R → b ≡ None → a ≡ None
untold-before R None b r e = refl
untold-before R (Some a) None r e = absurd r
untold-before R (Some a) (Some b) r e = absurd cc

-- a target stays the last one
last-by : (o p : Option Stand) (last : Option Place) (place : Place) → (last ≡ None → p ≡ o) → LastBy o last place → LastBy p last place
last-by None None None place k l = tt
last-by None (Some x) None place k l = let e = k refl in absurd cc
last-by None None (Some q) place k l = l
last-by None (Some x) (Some q) place k l = ap Some l
last-by (Some y) None None place k l = absurd cc
last-by (Some y) None (Some q) place k l = cc
last-by (Some y) (Some x) last place k l = l

nowhere : (last : Option Place) (place : Place) → last ≡ None → last ≢ Some place
nowhere last place e f = cc

last-kept : (place : Place) (last same : Option Place) (s t : Stands) → same ≡ last → KeepsOthers last s t → IsLast s last place → IsLast t same place
last-kept place last same s t e k l =
    subst (λ x. IsLast t x place) (sym e) (last-by (s place) (t place) last place (λ f. k place (nowhere last place f)) l)

-- all targets but this one stand for what they did
elsewhere : (o : Option Stand) (last : Option Place) (place other : Place) → LastBy o last place → (Some place ≢ Some other) → last ≢ Some other
elsewhere None None place other l n f = cc
elsewhere None (Some q) place other l n f = n (sym (ap Some l) ∙ f)
elsewhere (Some y) last place other l n f = n (sym l ∙ f)

others-kept : (place : Place) (last : Option Place) (s t u : Stands) → IsLast t last place → KeepsOthers last s t → KeepsOthers last t u → KeepsOthers (Some place) s u
others-kept place last s t u l a b other n =
    let away = elsewhere (t place) last place other l n in
    b other away ∙ a other away

pub turned-by : (place : Place) (old new : Outside) (port : PortTold) → IsAimed old.port port place → Kept port new.port → IsFalse new.port.up → IsTurned place old new
turned-by place old new port a k down = record {
  aimed = subst IsTrue (sym k.aimed_still) a.aimed;
  last = last-kept place port.last new.port.last port.stands new.port.stands k.last_same k.others a.last;
  others = others-kept place port.last old.port.stands port.stands new.port.stands a.last a.others k.others;
  down = down;
}
