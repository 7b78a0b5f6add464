-- What follows of a question.
use Rattle.std.proofs.Common.{◌≡◌, ◌⊎◌, inl, inr, ℕ, true, Option, Some, None, List, sym, ap, ◌∙◌, subst, arith}
use Rattle.std.specs.Prelude.{IfSome, IsTrue}
use Rattle.fb_frame.specs.Causes.{Rose}
use Rattle.dev_model.specs.declared.device.Dev.{Dev}
use Rattle.dev_model.specs.declared.device.Mode.{Mode}
use Rattle.dev_model.specs.declared.device.Mode.TheVariants.{Halted}
use Rattle.dev_model.specs.Partitions.{is_fastboot}
use Rattle.wire_told.specs.Peers.{Peer, device_of}
use Rattle.wire_told.specs.Places.{Place, Stand, Device, Bad, Nothing}
use Rattle.host_driver.specs.Driving.{moved, LinkFailed}
use Rattle.host_driver.specs.Jobs.{Outside}
use Rattle.host_words.specs.Requests.{GetVar}
use Rattle.host_top.specs.Ending.{IsSamePort, IsMet, OnAimed, ShowsLast, WhyAsked, Answers, Questioned}
use Rattle.host_top.specs.Hosted.{Follows, OfStand, SpentBy}
use Rattle.host_top.specs.Verdicts.{Verdict, Usage, NoMemory, NoFolder, Flawed, NoLink, NoDevice, Unmet, NoPlan, Refusing, NoPeer, TooManyLines, Done, Told, status_of}
use Rattle.host_top.proofs.EarlyLemmas.{shown-says}
use Rattle.host_top.proofs.SaysLemmas.{Says, follows-from}

pub not-halted : (mode : Mode) → IsTrue (is_fastboot mode) → mode ≡ Halted → ⊥
not-halted mode f e = let g : is_fastboot Halted ≡ true = subst (λ m. is_fastboot m ≡ true) e f in absurd cc

-- a relation of the device that was aimed at is one of what the target stands for
pub aimed-stand : (o : Option Stand) (b : Option Peer) {R Q : Dev → Dev → Type 0} → ((s t : Dev) → IsMet s → R s t → Q s t) → OnAimed o b R → OfStand o b Q
aimed-stand None b f r = tt
aimed-stand (Some Nothing) b f r = r
aimed-stand (Some (Bad kind)) b f r = r
aimed-stand (Some (Device s)) None f r = r
aimed-stand (Some (Device s)) (Some b) f r = f s (device_of b) r.0 r.1

-- a relation of the device that was aimed at is a fact of the one that is told
pub aimed-told : (o : Option Stand) (b : Option Peer) {R : Dev → Dev → Type 0} {P : Dev → Type 0} → ((s t : Dev) → IsMet s → R s t → P t) → OnAimed o b R → IfSome b (λ p. P (device_of p))
aimed-told None None f r = tt
aimed-told None (Some b) f r = f r.0 (device_of b) r.1 r.2
aimed-told (Some Nothing) b f r = absurd r
aimed-told (Some (Bad kind)) b f r = absurd r
aimed-told (Some (Device s)) None f r = absurd r
aimed-told (Some (Device s)) (Some b) f r = f s (device_of b) r.0 r.1

spent-asked : (place : Place) (b : Option Peer) (old new : Outside) → LinkFailed (moved old new) ⊎ ((b ≡ None) × Rose old.port.ends new.port.ends) → SpentBy 0 place b old new
spent-asked place None old new (inl l) = inl l
spent-asked place None old new (inr l) = inr (inl l.1)
spent-asked place (Some b) old new (inl l) = inl (omega (arith, l))
spent-asked place (Some b) old new (inr l) = let e = l.0 in absurd cc

module _ (place : Place) (name : List ℕ) (old new : Outside) (status : ℕ) (q : Questioned place name old new status) where
  still : OfStand (old.port.stands place) new.port.peer (λ s t. t ≡ s)
  still = aimed-stand (old.port.stands place) new.port.peer (λ s t m r. r.0) q.device

  served-halts : (s t : Dev) → IsMet s → (t ≡ s) × Answers s name q.verdict old.text q.mid → t.mode ≡ Halted → LinkFailed (moved old new) ⊎ IsSamePort old.port new.port
  served-halts s t m r h = absurd (not-halted s.mode m.serves (sym (ap (λ (d : Dev). d.mode) r.0) ∙ h))

  asked-says : (v : Verdict) → WhyAsked old new (Some v) → Says (Some (GetVar place name)) old new (status_of v)
  asked-says (Told text) w = (still, tt, q.turned)
  asked-says NoMemory w = tt
  asked-says NoLink w = spent-asked place new.port.peer old new w
  asked-says (Refusing text) w = (tt, q.turned)
  asked-says (NoPeer kept) w = (w.0, q.turned)
  asked-says TooManyLines w = (w.0, q.turned)
  asked-says (Done steps) w = absurd w
  asked-says Usage w = absurd w
  asked-says (NoFolder file) w = absurd w
  asked-says (Flawed file flaw) w = absurd w
  asked-says (Unmet line word value) w = absurd w
  asked-says (NoPlan line kind) w = absurd w
  asked-says (NoDevice kind) w = absurd w

  last-says : (v : Option Verdict) → WhyAsked old new v → ShowsLast v q.mid new.text status → Says (Some (GetVar place name)) old new status
  last-says None w s = subst (Says (Some (GetVar place name)) old new) (sym s.0) w
  last-says (Some v) w s = shown-says (Says (Some (GetVar place name)) old new) v q.mid new.text status (asked-says v w) q.unput s

  pub question-follows : Follows (Some (GetVar place name)) old new status
  question-follows =
      follows-from (Some (GetVar place name)) old new status (last-says q.verdict q.why q.shows) (inr (inr (q.turned, still))) q.turned.others
      (aimed-told (old.port.stands place) new.port.peer {P = λ t. t.mode ≡ Halted → LinkFailed (moved old new) ⊎ IsSamePort old.port new.port} served-halts q.device)
