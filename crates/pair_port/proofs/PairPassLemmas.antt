-- Bytes that pass, as a port tells them.
use Rattle.std.proofs.Common.{◌≡◌, ◌⊎◌, inl, inr, ℕ, ◌<◌, ◌≤◌, false, true, List, [], ◌∷◌, ◌++◌, length, take, drop, Option, Some, None, is_some, refl, sym, ap, subst, ◌∙◌, arith}
use Rattle.std.specs.Prelude.{IsFalse, IsTrue}
use Rattle.fb_frame.specs.Causes.{Rose}
use Rattle.dev_disk.specs.Disks.{DiskTold}
use Rattle.dev_disk.specs.Files.{Files}
use Rattle.dev_model.specs.declared.device.Dev.{Dev}
use Rattle.dev_store.specs.Held.{Held}
use Rattle.device_session.specs.Living.{Live, wire_of, is_full}
use Rattle.wire_told.specs.Peers.{Peer, Apart, Joined, OfLink, OnLink, OffLink}
use Rattle.wire_told.specs.Turns.{IsTurn}
use Rattle.wire_told.specs.Told.{GoesBy, InTurn, IsLeft, Heard, MayHear, AtEnd}
use Rattle.wire_told.specs.Ports.{PortTold, Kept, Sends, SendFails, Hears, Ends, Drops}
use Rattle.wire_told.proofs.PortLemmas.{Kept-same, Front-nothing}
use Rattle.pair_port.specs.Counters.{Counters, passed, ended_once, broken_once, refused_once}
use Rattle.pair_port.specs.Calls.{ended, SendsPair, GivesPair, HearsPair, OfLive, IsStopped, IsMute, IsAtEnd, MeetsEnd, BreaksPair, GivesUp}
use Rattle.pair_port.specs.Pairs.{Pair, End, Alone, Down, Up, disk_of, down, is_up, is_aimed, wire_at, peer_by, faults_by, told_by, pair_told}
use Rattle.pair_port.proofs.DeviceLemmas.{alike}
use Rattle.pair_port.proofs.KeptLemmas.{Counts, kept-by, still, faults-rose, broken-rose, refused-rose}
use Rattle.pair_port.proofs.LinkLemmas.{disk-down, sent, sent-nothing, left-by, stopped-rose, mute-rose, heard, heard-none, live-up, at-end}
use Rattle.pair_port.proofs.PortLemmas.{counts-same, counts-passed, counts-broken, counts-refused, counts-ended, counts-like, drops, ended-faults}

-- Bytes that were sent.
sends-by : {K : Type 0} (told : K → DiskTold) (p q : Pair K) (many : ℕ) (bytes : List ℕ) (s : SendsPair told p q many bytes) →
    Sends (told_by (told s.feeds.before.held.disk) p) (told_by (told s.feeds.after.held.disk) q) bytes
sends-by told p q many bytes s =
    let a = told s.feeds.before.held.disk in
    let b = told s.feeds.after.held.disk in
    let k = s.feeds.takes.kept in
    let same = alike a.files b.files a.open_path k.others in
    let count : Counts p.counters q.counters = counts-like p.counters q.counters (passed (length bytes) p.counters) s.counters (counts-passed (length bytes) p.counters) in
    let broke = Rose a.faults b.faults in
    let more = Rose (faults_by a.files p.counters a.faults) (faults_by b.files q.counters b.faults) in
    record {
      up = ap is_up s.feeds.up_now;
      sent = subst (λ (e : End _). OnLink (λ w v. GoesBy more w bytes v) (peer_by a.files e p.left) (peer_by b.files q.end q.left)) (sym s.feeds.up_before)
          (subst (λ (e : End _). OnLink (λ w v. GoesBy more w bytes v) (peer_by a.files (Up s.feeds.before) p.left) (peer_by b.files e q.left)) (sym s.feeds.up_now)
          (sent a.files b.files broke more s.feeds.before s.feeds.after p.left q.left bytes same (faults-rose a.files b.files p.counters q.counters a.faults b.faults same count) s.feeds.takes.goes));
      kept = kept-by a b p q k (ap is_aimed s.feeds.up_now ∙ sym (ap is_aimed s.feeds.up_before)) count;
      heard = refl;
      log = tt;
      ends = ap (λ (c : Counters). c.ended) s.counters;
    }

pub sends : {K : Type 0} (told : K → DiskTold) (p q : Pair K) (many : ℕ) (bytes : List ℕ) → SendsPair told p q many bytes → Sends (pair_told told p) (pair_told told q) bytes
sends told p q many bytes s =
    subst (λ d. Sends (told_by (told d) p) (pair_told told q) bytes) (sym (ap disk_of s.feeds.up_before))
    (subst (λ d. Sends (told_by (told s.feeds.before.held.disk) p) (told_by (told d) q) bytes) (sym (ap disk_of s.feeds.up_now)) (sends-by told p q many bytes s))

pub sends-none : {K : Type 0} (told : K → DiskTold) (p : Pair K) (bytes : List ℕ) → IsTrue (is_up p.end) → InTurn (pair_told told p).peer bytes →
    Sends (pair_told told p) (pair_told told p) []
sends-none told p bytes up t = record {
  up = up;
  sent = sent-nothing _ (pair_told told p).peer bytes t;
  kept = Kept-same (pair_told told p);
  heard = refl;
  log = tt;
  ends = refl;
}

-- Sends that fail.
left-end : {K : Type 0} (told : K → DiskTold) (p : Pair K) (count : Counters → Counters) (broke : Type 0) (bytes : List ℕ) → InTurn (pair_told told p).peer bytes →
    OffLink (IsLeft broke bytes) (pair_told told p).peer (pair_told told (ended count p)).peer
left-end told p count broke bytes t =
    subst (λ d. OffLink (IsLeft broke bytes) (pair_told told p).peer (peer_by (told d).files (down p.end) p.left)) (sym (disk-down p.end))
    (left-by broke (told (disk_of p.end)).files p.end p.left bytes t)

fails-by : {K : Type 0} (told : K → DiskTold) (p : Pair K) (count : Counters → Counters) (bytes : List ℕ) → Counts p.counters (count p.counters) → (count p.counters).ended ≡ p.counters.ended →
    Rose (pair_told told p).faults (faults_by (told (disk_of p.end)).files (count p.counters) (told (disk_of p.end)).faults) → InTurn (pair_told told p).peer bytes →
    SendFails (pair_told told p) (pair_told told (ended count p)) bytes
fails-by told p count bytes k e r t =
    let d = drops told p count k e in
    let a = told (disk_of p.end) in
    let rose : Rose (pair_told told p).faults (pair_told told (ended count p)).faults = subst (λ (n : ℕ). Rose (pair_told told p).faults n) (sym (ended-faults told p count)) r in
    record {
      down = d.down;
      left = left-end told p count _ bytes t;
      kept = d.kept;
      heard = refl;
      log = Front-nothing None bytes;
      ends = e;
      rose = rose;
    }

pub breaks-send : {K : Type 0} (told : K → DiskTold) (p q : Pair K) (bytes : List ℕ) → BreaksPair p q → InTurn (pair_told told p).peer bytes →
    SendFails (pair_told told p) (pair_told told q) bytes
breaks-send told p q bytes b t =
    let a = told (disk_of p.end) in
    subst (λ (x : Pair _). SendFails (pair_told told p) (pair_told told x) bytes) (sym b.ends)
    (fails-by told p broken_once bytes (counts-broken p.counters) refl (broken-rose a.files p.counters a.faults) t)

pub gives-up-send : {K : Type 0} (told : K → DiskTold) (p q : Pair K) (bytes : List ℕ) → GivesUp IsStopped p q → InTurn (pair_told told p).peer bytes →
    SendFails (pair_told told p) (pair_told told q) bytes
gives-up-send told p q bytes g t =
    let a = told (disk_of p.end) in
    subst (λ (x : Pair _). SendFails (pair_told told p) (pair_told told x) bytes) (sym g.ends)
    (fails-by told p refused_once bytes (counts-refused p.counters) refl (stopped-rose a.files p.end p.left bytes p.counters a.faults g.why t) t)

-- Bytes that were heard.
hears-by : {K : Type 0} (told : K → DiskTold) (p q : Pair K) (bytes : List ℕ) (g : GivesPair p q bytes) (c : Counters) → Counts p.counters q.counters →
    Hears (told_by (told g.live.held.disk) p) (told_by (told g.live.held.disk) q) bytes
hears-by told p q bytes g c k =
    let a = told g.live.held.disk in
    let rest = drop (length bytes) g.live.out in
    record {
      up = ap is_up g.up_now;
      got = subst (λ (e : End _). Heard (peer_by a.files e p.left) (peer_by a.files q.end q.left) bytes) (sym g.up_before)
          (subst (λ (e : End _). Heard (peer_by a.files (Up g.live) p.left) (peer_by a.files e q.left) bytes) (sym g.up_now)
          (subst (λ (d : Dev). Heard (peer_by a.files (Up g.live) p.left) (peer_by a.files (Up (record g.live { out = rest })) d) bytes) (sym g.left)
          (heard a.files g.live p.left bytes rest g.next)));
      kept = kept-by a a p q (still a) (ap is_aimed g.up_now ∙ sym (ap is_aimed g.up_before)) k;
      heard = tt;
      log = refl;
    }

pub hears : {K : Type 0} (told : K → DiskTold) (p q : Pair K) (many : ℕ) (bytes : List ℕ) → HearsPair p q many bytes → Hears (pair_told told p) (pair_told told q) bytes
hears told p q many bytes h =
    let g = h.gives in
    subst (λ d. Hears (told_by (told d) p) (pair_told told q) bytes) (sym (ap disk_of g.up_before))
    (subst (λ d. Hears (told_by (told g.live.held.disk) p) (told_by (told d) q) bytes) (sym (ap disk_of g.up_now))
    (hears-by told p q bytes g p.counters (counts-like p.counters q.counters (passed (length bytes) p.counters) h.counters (counts-passed (length bytes) p.counters))))

pub hears-ends : {K : Type 0} (told : K → DiskTold) (p q : Pair K) (many : ℕ) (bytes : List ℕ) → HearsPair p q many bytes → (pair_told told q).ends ≡ (pair_told told p).ends
hears-ends told p q many bytes h = ap (λ (c : Counters). c.ended) h.counters

-- nothing is heard by a call that asks for nothing, or at the end
pub hears-none : {K : Type 0} (told : K → DiskTold) (P : Live K → Type 0) (p : Pair K) → OfLive P p.end → Hears (pair_told told p) (pair_told told p) []
hears-none told P p h = record {
  up = live-up P p.end h;
  got = heard-none P (told (disk_of p.end)).files p.end p.left h;
  kept = Kept-same (pair_told told p);
  heard = tt;
  log = refl;
}

meets-at : {K : Type 0} (told : K → DiskTold) (p : Pair K) → OfLive IsAtEnd p.end → Hears (pair_told told p) (pair_told told (record p { counters = ended_once p.counters })) []
meets-at told p h =
    let a = told (disk_of p.end) in
    record {
      up = live-up IsAtEnd p.end h;
      got = heard-none IsAtEnd a.files p.end p.left h;
      kept = kept-by a a p (record p { counters = ended_once p.counters }) (still a) refl (counts-ended p.counters);
      heard = tt;
      log = refl;
    }

pub meets : {K : Type 0} (told : K → DiskTold) (p q : Pair K) → MeetsEnd p q → Hears (pair_told told p) (pair_told told q) []
meets told p q m = subst (λ (x : Pair _). Hears (pair_told told p) (pair_told told x) []) (sym m.same) (meets-at told p m.at_end)

ends-at : {K : Type 0} (told : K → DiskTold) (p : Pair K) → OfLive IsAtEnd p.end → Ends (pair_told told p) (pair_told told (record p { counters = ended_once p.counters }))
ends-at told p h = record { at_end = at-end (told (disk_of p.end)).files p.end p.left h; rose = omega arith }

pub ends : {K : Type 0} (told : K → DiskTold) (p q : Pair K) → MeetsEnd p q → Ends (pair_told told p) (pair_told told q)
ends told p q m = subst (λ (x : Pair _). Ends (pair_told told p) (pair_told told x)) (sym m.same) (ends-at told p m.at_end)

-- Calls that hear nothing, and fail.
breaks-hear : {K : Type 0} (told : K → DiskTold) (p q : Pair K) → BreaksPair p q → Drops (pair_told told p) (pair_told told q)
breaks-hear told p q b = subst (λ (x : Pair _). Drops (pair_told told p) (pair_told told x)) (sym b.ends) (drops told p broken_once (counts-broken p.counters) refl)

breaks-rise : {K : Type 0} (told : K → DiskTold) (p q : Pair K) → BreaksPair p q → Rose (pair_told told p).faults (pair_told told q).faults
breaks-rise told p q b =
    let a = told (disk_of p.end) in
    subst (λ (n : ℕ). Rose (pair_told told p).faults n) (sym (ap (λ (x : Pair _). (pair_told told x).faults) b.ends ∙ ended-faults told p broken_once)) (broken-rose a.files p.counters a.faults)

mute-hear : {K : Type 0} (told : K → DiskTold) (p q : Pair K) → GivesUp IsMute p q → Drops (pair_told told p) (pair_told told q)
mute-hear told p q g = subst (λ (x : Pair _). Drops (pair_told told p) (pair_told told x)) (sym g.ends) (drops told p refused_once (counts-refused p.counters) refl)

mute-rise : {K : Type 0} (told : K → DiskTold) (p q : Pair K) → GivesUp IsMute p q → MayHear (pair_told told p).peer → Rose (pair_told told p).faults (pair_told told q).faults
mute-rise told p q g h =
    let a = told (disk_of p.end) in
    subst (λ (n : ℕ). Rose (pair_told told p).faults n) (sym (ap (λ (x : Pair _). (pair_told told x).faults) g.ends ∙ ended-faults told p refused_once))
    (mute-rose a.files p.end p.left p.counters a.faults g.why h)

pub hear-drops : {K : Type 0} (told : K → DiskTold) (p q : Pair K) → BreaksPair p q ⊎ GivesUp IsMute p q → Drops (pair_told told p) (pair_told told q)
hear-drops told p q (inl b) = breaks-hear told p q b
hear-drops told p q (inr g) = mute-hear told p q g

pub hear-rises : {K : Type 0} (told : K → DiskTold) (p q : Pair K) → BreaksPair p q ⊎ GivesUp IsMute p q → MayHear (pair_told told p).peer →
    Rose (pair_told told p).faults (pair_told told q).faults
hear-rises told p q (inl b) h = breaks-rise told p q b
hear-rises told p q (inr g) h = mute-rise told p q g h

pub send-fails : {K : Type 0} (told : K → DiskTold) (p q : Pair K) (bytes : List ℕ) → BreaksPair p q ⊎ GivesUp IsStopped p q → InTurn (pair_told told p).peer bytes →
    SendFails (pair_told told p) (pair_told told q) bytes
send-fails told p q bytes (inl b) t = breaks-send told p q bytes b t
send-fails told p q bytes (inr g) t = gives-up-send told p q bytes g t
