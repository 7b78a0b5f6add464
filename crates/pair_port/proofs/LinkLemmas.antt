-- What a port tells of its other end before and after a call.
use Rattle.std.proofs.Common.{◌≡◌, ◌⊎◌, inl, inr, ℕ, ◌<◌, ◌≤◌, false, true, List, [], ◌∷◌, ◌++◌, length, take, Option, Some, None, is_some, refl, sym, ap, subst, ◌∙◌, arith}
use Rattle.std.specs.Prelude.{Bool, not, ◌&&◌, ◌||◌, ◌==◌, IsFalse, IsTrue}
use Rattle.fb_frame.specs.Causes.{Rose}
use Rattle.dev_disk.specs.Files.{Files}
use Rattle.dev_model.specs.declared.device.Dev.{Dev}
use Rattle.dev_model.specs.Partitions.{is_fastboot}
use Rattle.dev_store.specs.Held.{Held}
use Rattle.device_session.specs.Living.{Live, wire_of}
use Rattle.device_session.specs.Inlets.{is_shaking}
use Rattle.wire_model.specs.Wire.{Wire, Phase, Shake, fresh}
use Rattle.wire_told.specs.Peers.{Peer, Apart, Joined, OfLink, OnLink, OffLink}
use Rattle.wire_told.specs.Turns.{IsTurn}
use Rattle.wire_told.specs.Told.{GoesBy, IsLeft, Heard, HungUp, MayConnect, Connected, AtEnd, MayHear, IsBarred}
use Rattle.wire_told.proofs.Going.{goes-weaker, goes-nothing}
use Rattle.pair_port.specs.Counters.{Counters, refused_once}
use Rattle.pair_port.specs.Calls.{OfDevice, OfLive, IsStopped, IsAtEnd, IsMute}
use Rattle.pair_port.specs.Pairs.{End, Alone, Down, Up, disk_of, down, is_up, is_aimed, device_at, wire_at, peer_by, faults_by}
use Rattle.pair_port.proofs.DeviceLemmas.{runs-at, runs-wire}
use Rattle.pair_port.proofs.KeptLemmas.{refused-rose}

pub disk-down : {K : Type 0} (end : End K) → disk_of (down end) ≡ disk_of end
disk-down (Alone disk) = refl
disk-down (Down held room) = refl
disk-down (Up live) = refl

pub aimed-down : {K : Type 0} (end : End K) → is_aimed (down end) ≡ is_aimed end
aimed-down (Alone disk) = refl
aimed-down (Down held room) = refl
aimed-down (Up live) = refl

pub up-down : {K : Type 0} (end : End K) → is_up (down end) ≡ false
up-down (Alone disk) = refl
up-down (Down held room) = refl
up-down (Up live) = refl

pub hung : {K : Type 0} (files : Option Files) (end : End K) (left : Dev) → HungUp (peer_by files end left) (peer_by files (down end) left)
hung None end left = tt
hung (Some f) (Alone disk) left = tt
hung (Some f) (Down held room) left = refl
hung (Some f) (Up live) left = refl

-- Connections that begin.
held-or : {K : Type 0} → Held K → End K → Held K
held-or other (Alone disk) = other
held-or other (Down held room) = held
held-or other (Up live) = other

same-held : {K : Type 0} (a b : Held K) (m n : ℕ) → Down a m ≡ Down b n → a ≡ b
unfolding held-or
same-held a b m n e = ap (held-or a) e

begun-with : {K : Type 0} (held : Held K) (live : Live K) (left : Dev) → live.held ≡ held → wire_of live ≡ fresh held.device → IsTrue (is_fastboot held.device.mode) →
    MayConnect (device_at held left) × (wire_at live left ≡ fresh (device_at held left))
begun-with held live left e w f =
    let same = runs-at held left f in (
      subst (λ (d : Dev). IsTrue (is_fastboot d.mode)) (sym same) f,
      runs-wire live left (subst (λ (h : Held _). IsTrue (is_fastboot h.device.mode)) (sym e) f) ∙ (w ∙ ap fresh (sym same)),
    )

pub connected : {K : Type 0} (files : Option Files) (end : End K) (held : Held K) (room : ℕ) (live : Live K) (left : Dev) → down end ≡ Down held room → live.held ≡ held →
    wire_of live ≡ fresh held.device → IsTrue (is_fastboot held.device.mode) → Connected (peer_by files end left) (peer_by files (Up live) left)
connected None end held room live left there e w f = tt
connected (Some x) (Alone disk) held room live left there e w f = absurd cc
connected (Some x) (Down h r) held room live left there e w f =
    let same = same-held h held r room there in
    begun-with h live left (e ∙ sym same) (w ∙ ap (λ (k : Held _). fresh k.device) (sym same)) (subst (λ (k : Held _). IsTrue (is_fastboot k.device.mode)) (sym same) f)
connected (Some x) (Up l) held room live left there e w f =
    let same = same-held l.held held l.room room there in
    begun-with l.held live left (e ∙ sym same) (w ∙ ap (λ (k : Held _). fresh k.device) (sym same)) (subst (λ (k : Held _). IsTrue (is_fastboot k.device.mode)) (sym same) f)

-- a device that is in no mode for a connection bars it
pub barred : {K : Type 0} (files : Files) (end : End K) (left : Dev) → OfDevice (λ dev. IsFalse (is_fastboot dev.mode)) end left → IsBarred (peer_by (Some files) end left)
barred files (Alone disk) left h = absurd h
barred files (Down held room) left h = h
barred files (Up live) left h = h

-- Bytes that were sent.
pub sent : {K : Type 0} (x y : Option Files) (broke more : Type 0) (before after : Live K) (was left : Dev) (bytes : List ℕ) → is_some y ≡ is_some x → (broke → more) →
    (IsTrue (is_some y) → GoesBy broke (wire_at before was) bytes (wire_at after left)) →
    OnLink (λ w v. GoesBy more w bytes v) (peer_by x (Up before) was) (peer_by y (Up after) left)
sent (Some x) (Some y) broke more before after was left bytes e c g = goes-weaker broke more c (wire_at before was) (wire_at after left) bytes (g refl)
sent (Some x) None broke more before after was left bytes e c g = absurd cc
sent None (Some y) broke more before after was left bytes e c g = absurd cc
sent None None broke more before after was left bytes e c g = tt

pub sent-nothing : (broke : Type 0) (peer : Option Peer) (bytes : List ℕ) → OfLink (IsTurn bytes) peer → OnLink (λ w v. GoesBy broke w [] v) peer peer
sent-nothing broke None bytes t = tt
sent-nothing broke (Some (Apart dev)) bytes t = absurd t
sent-nothing broke (Some (Joined w)) bytes t = goes-nothing broke w t.settled

nothing-left : (broke : Type 0) (w : Wire) (bytes : List ℕ) → IsTurn bytes w → IsLeft broke bytes w w.device
nothing-left broke w bytes t = record { count = 0; within = omega arith; state = w; goes = goes-nothing broke w t.settled; device = refl }

-- a connection that ended before any byte was sent
pub left-by : {K : Type 0} (broke : Type 0) (files : Option Files) (end : End K) (left : Dev) (bytes : List ℕ) → OfLink (IsTurn bytes) (peer_by files end left) →
    OffLink (IsLeft broke bytes) (peer_by files end left) (peer_by files (down end) left)
left-by broke None end left bytes t = tt
left-by broke (Some f) (Alone disk) left bytes t = tt
left-by broke (Some f) (Down held room) left bytes t = absurd t
left-by broke (Some f) (Up live) left bytes t = nothing-left broke (wire_at live left) bytes t

stopped-shaking : (closed : Bool) (phase : Phase) (drained : Bool) → IsFalse closed → phase ≡ Shake → IsTrue (closed || (not (is_shaking phase) && not drained)) → ⊥
stopped-shaking closed phase drained r p s =
    let none : (closed || (not (is_shaking phase) && not drained)) ≡ false = ap (λ (b : Bool). b || (not (is_shaking phase) && not drained)) r ∙ ap (λ (q : Phase). not (is_shaking q) && not drained) p in
    absurd cc

stopped-drained : (closed shaking : Bool) (out : List ℕ) → IsFalse closed → out ≡ [] → IsTrue (closed || (not shaking && not (length out == 0))) → ⊥
stopped-drained closed true out r o s =
    let none : (closed || false) ≡ false = ap (λ (b : Bool). b || false) r in absurd cc
stopped-drained closed false out r o s =
    let none : (closed || not (length out == 0)) ≡ false = ap (λ (b : Bool). b || not (length out == 0)) r ∙ ap (λ (l : List ℕ). not (length l == 0)) o in absurd cc

-- a told session that is in turn isn't stopped
started : {K : Type 0} (live : Live K) (bytes : List ℕ) (left : Dev) → IsTurn bytes (wire_at live left) → IsStopped live → ⊥
started live bytes left t s =
    let phased : live.phase ≡ Shake → ⊥ = λ p. stopped-shaking live.closed live.phase (length live.out == 0) t.running p s in
    let drained : live.out ≡ [] → ⊥ = λ o. stopped-drained live.closed (is_shaking live.phase) live.out t.running o s in
    elim t.heard as (λ _. ⊥) [ inl p ↦ phased p | inr o ↦ drained o ]

pub stopped-rose : {K : Type 0} (files : Option Files) (end : End K) (left : Dev) (bytes : List ℕ) (c : Counters) (n : ℕ) → OfLive IsStopped end →
    OfLink (IsTurn bytes) (peer_by files end left) → Rose (faults_by files c n) (faults_by files (refused_once c) n)
stopped-rose None end left bytes c n s t = refused-rose c n
stopped-rose (Some f) (Alone disk) left bytes c n s t = absurd s
stopped-rose (Some f) (Down held room) left bytes c n s t = absurd s
stopped-rose (Some f) (Up live) left bytes c n s t = absurd (started live bytes left t s)

-- a told session that may be heard isn't mute
heard-first : {K : Type 0} (live : Live K) (left : Dev) → (0 < length (wire_at live left).out) ⊎ IsTrue (wire_at live left).closed → IsMute live → ⊥
heard-first live left (inl some) m = let none = ap length m.quiet in omega (arith, some, none)
heard-first live left (inr closed) m = let no = m.running in absurd cc

pub mute-rose : {K : Type 0} (files : Option Files) (end : End K) (left : Dev) (c : Counters) (n : ℕ) → OfLive IsMute end → MayHear (peer_by files end left) →
    Rose (faults_by files c n) (faults_by files (refused_once c) n)
mute-rose None end left c n m h = refused-rose c n
mute-rose (Some f) (Alone disk) left c n m h = absurd m
mute-rose (Some f) (Down held room) left c n m h = absurd m
mute-rose (Some f) (Up live) left c n m h = absurd (heard-first live left h m)

-- Bytes that were heard.
pub heard : {K : Type 0} (files : Option Files) (live : Live K) (left : Dev) (bytes rest : List ℕ) → live.out ≡ bytes ++ rest →
    Heard (peer_by files (Up live) left) (peer_by files (Up (record live { out = rest })) left) bytes
heard None live left bytes rest e = tt
heard (Some f) live left bytes rest e = ap (λ (o : List ℕ). record (wire_at live left) { out = o }) e

pub heard-none : {K : Type 0} (P : Live K → Type 0) (files : Option Files) (end : End K) (left : Dev) → OfLive P end → Heard (peer_by files end left) (peer_by files end left) []
heard-none P None end left h = tt
heard-none P (Some f) (Alone disk) left h = absurd h
heard-none P (Some f) (Down held room) left h = absurd h
heard-none P (Some f) (Up live) left h = refl

pub live-up : {K : Type 0} (P : Live K → Type 0) (end : End K) → OfLive P end → IsTrue (is_up end)
live-up P (Alone disk) h = absurd h
live-up P (Down held room) h = absurd h
live-up P (Up live) h = refl

pub live-there : {K : Type 0} (end : End K) → IsTrue (is_up end) → OfLive (λ live. Unit {0}) end
live-there (Alone disk) u = absurd cc
live-there (Down held room) u = absurd cc
live-there (Up live) u = tt

pub at-end : {K : Type 0} (files : Option Files) (end : End K) (left : Dev) → OfLive IsAtEnd end → AtEnd (peer_by files end left)
at-end None end left h = tt
at-end (Some f) (Alone disk) left h = absurd h
at-end (Some f) (Down held room) left h = absurd h
at-end (Some f) (Up live) left h = (h.quiet, h.closed)
