-- What the calls of the pair are, as a port tells them.
use Rattle.std.proofs.Common.{◌≡◌, ◌⊎◌, inl, inr, ℕ, ◌<◌, ◌≤◌, false, true, List, [], ◌∷◌, ◌++◌, length, take, drop, Option, Some, None, is_some, refl, sym, ap, subst, ◌∙◌, arith}
use Rattle.std.specs.Prelude.{IsFalse, IsTrue}
use Rattle.fb_frame.specs.Causes.{Rose}
use Rattle.dev_disk.specs.Disks.{DiskTold}
use Rattle.dev_disk.specs.Files.{Files}
use Rattle.dev_model.specs.declared.device.Dev.{Dev}
use Rattle.dev_store.specs.Held.{Held}
use Rattle.dev_model.specs.Partitions.{is_fastboot}
use Rattle.device_session.specs.Living.{Live, wire_of, is_full}
use Rattle.wire_told.specs.Peers.{OfLink, OnLink, OffLink}
use Rattle.wire_told.specs.Turns.{IsTurn}
use Rattle.wire_told.specs.Told.{GoesBy, InTurn, IsLeft, Connected, Heard, MayHear, AtEnd, IsBarred}
use Rattle.wire_told.specs.Ports.{PortTold, Kept, Begins, Sends, SendFails, Hears, Ends, Drops}
use Rattle.wire_told.proofs.PortLemmas.{Front-nothing}
use Rattle.pair_port.specs.Counters.{Counters, one_more, begun_once, passed, ended_once, broken_once, refused_once}
use Rattle.pair_port.specs.Calls.{ended, OfDevice, ConnectsPair, RefusesPair}
use Rattle.pair_port.specs.Pairs.{Pair, End, Alone, Down, Up, disk_of, down, is_up, is_aimed, wire_at, peer_by, stands_in, faults_by, told_by, pair_told}
use Rattle.pair_port.proofs.DeviceLemmas.{alike}
use Rattle.pair_port.proofs.KeptLemmas.{Counts, kept-by, still, faults-rose, broken-rose, refused-rose}
use Rattle.pair_port.proofs.LinkLemmas.{disk-down, aimed-down, up-down, hung, connected, barred, sent, sent-nothing, left-by}

more-later : (n : ℕ) → n ≤ one_more n
more-later n = omega arith

pub counts-same : (c : Counters) → Counts c c
counts-same c = record { broken = omega arith; refused = omega arith; ended = omega arith }

pub counts-begun : (c : Counters) → Counts c (begun_once c)
counts-begun c = record { broken = omega arith; refused = omega arith; ended = omega arith }

pub counts-passed : (n : ℕ) (c : Counters) → Counts c (passed n c)
counts-passed n c = record { broken = omega arith; refused = omega arith; ended = omega arith }

pub counts-broken : (c : Counters) → Counts c (broken_once c)
counts-broken c = record { broken = more-later c.broken; refused = omega arith; ended = omega arith }

pub counts-refused : (c : Counters) → Counts c (refused_once c)
counts-refused c = record { broken = omega arith; refused = more-later c.refused; ended = omega arith }

pub counts-ended : (c : Counters) → Counts c (ended_once c)
counts-ended c = record { broken = omega arith; refused = omega arith; ended = more-later c.ended }

pub counts-like : (c d e : Counters) → d ≡ e → Counts c e → Counts c d
counts-like c d e h k = subst (λ (x : Counters). Counts c x) (sym h) k

-- Connections that end.
drops-by : {K : Type 0} (a : DiskTold) (p : Pair K) (count : Counters → Counters) → Counts p.counters (count p.counters) → (count p.counters).ended ≡ p.counters.ended →
    Drops (told_by a p) (told_by a (ended count p))
drops-by a p count k e = record {
  down = up-down p.end;
  left = hung a.files p.end p.left;
  kept = kept-by a a p (ended count p) (still a) (aimed-down p.end) k;
  heard = refl;
  log = refl;
  ends = e;
}

pub drops : {K : Type 0} (told : K → DiskTold) (p : Pair K) (count : Counters → Counters) → Counts p.counters (count p.counters) → (count p.counters).ended ≡ p.counters.ended →
    Drops (pair_told told p) (pair_told told (ended count p))
drops told p count k e = subst (λ d. Drops (pair_told told p) (told_by (told d) (ended count p))) (sym (disk-down p.end)) (drops-by (told (disk_of p.end)) p count k e)

-- Connections that begin.
begins-by : {K : Type 0} (a : DiskTold) (p q : Pair K) → ConnectsPair p q → Begins (told_by a p) (told_by a q)
begins-by a p q c = record {
  up = ap is_up c.begins.end_now;
  connected = subst (λ (e : End _). Connected (peer_by a.files p.end p.left) (peer_by a.files e q.left)) (sym c.begins.end_now)
      (subst (λ (d : Dev). Connected (peer_by a.files p.end p.left) (peer_by a.files (Up c.begins.live) d)) (sym c.left)
      (connected a.files p.end c.begins.held c.begins.room c.begins.live p.left c.begins.there c.begins.same c.begins.state c.begins.runs));
  kept = kept-by a a p q (still a) (ap is_aimed c.begins.end_now ∙ (sym (ap is_aimed c.begins.there) ∙ aimed-down p.end)) (counts-like p.counters q.counters (begun_once p.counters) c.counters (counts-begun p.counters));
  emptied = tt;
  log = refl;
  ends = ap (λ (c : Counters). c.ended) c.counters;
}

disk-begun : {K : Type 0} (p q : Pair K) → ConnectsPair p q → disk_of q.end ≡ disk_of p.end
disk-begun p q c =
    ap disk_of c.begins.end_now ∙ (ap (λ (h : Held _). h.disk) c.begins.same ∙ (sym (ap disk_of c.begins.there) ∙ disk-down p.end))

pub begins : {K : Type 0} (told : K → DiskTold) (p q : Pair K) → ConnectsPair p q → Begins (pair_told told p) (pair_told told q)
begins told p q c = subst (λ d. Begins (pair_told told p) (told_by (told d) q)) (sym (disk-begun p q c)) (begins-by (told (disk_of p.end)) p q c)

-- they count no fault
begun-faults : (f : Option Files) (c d : Counters) (n : ℕ) → d ≡ begun_once c → faults_by f d n ≡ faults_by f c n
begun-faults None c d n e = ap (λ (x : Counters). faults_by None x n) e
begun-faults (Some f) c d n e = ap (λ (x : Counters). faults_by (Some f) x n) e

pub begins-faults : {K : Type 0} (told : K → DiskTold) (p q : Pair K) → ConnectsPair p q → (pair_told told q).faults ≡ (pair_told told p).faults
begins-faults told p q c =
    ap (λ d. faults_by (told d).files q.counters (told d).faults) (disk-begun p q c)
    ∙ begun-faults (told (disk_of p.end)).files p.counters q.counters (told (disk_of p.end)).faults c.counters

-- Connections that are refused.
pub ended-faults : {K : Type 0} (told : K → DiskTold) (p : Pair K) (count : Counters → Counters) →
    (pair_told told (ended count p)).faults ≡ faults_by (told (disk_of p.end)).files (count p.counters) (told (disk_of p.end)).faults
ended-faults told p count = ap (λ d. faults_by (told d).files (count p.counters) (told d).faults) (disk-down p.end)

refused-why : {K : Type 0} (f : Option Files) (p : Pair K) (n : ℕ) → OfDevice (λ dev. IsFalse (is_fastboot dev.mode)) p.end p.left →
    Rose (faults_by f p.counters n) (faults_by f (refused_once p.counters) n) ⊎ IsBarred (peer_by f p.end p.left)
refused-why None p n u = inl (refused-rose p.counters n)
refused-why (Some f) p n u = inr (barred f p.end p.left u)

refused-still : {K : Type 0} (f : Option Files) (p : Pair K) (n : ℕ) → IsBarred (peer_by f p.end p.left) → faults_by f (refused_once p.counters) n ≡ faults_by f p.counters n
refused-still None p n b = absurd b
refused-still (Some f) p n b = refl

pub refuses : {K : Type 0} (told : K → DiskTold) (p q : Pair K) → RefusesPair p q → Drops (pair_told told p) (pair_told told q)
refuses told p q r = subst (λ (x : Pair _). Drops (pair_told told p) (pair_told told x)) (sym r.ends) (drops told p refused_once (counts-refused p.counters) refl)

pub refuses-why : {K : Type 0} (told : K → DiskTold) (p q : Pair K) → RefusesPair p q →
    Rose (pair_told told p).faults (pair_told told q).faults ⊎ IsBarred (pair_told told p).peer
refuses-why told p q r =
    let a = told (disk_of p.end) in
    subst (λ (n : ℕ). Rose (pair_told told p).faults n ⊎ IsBarred (pair_told told p).peer) (sym (ap (λ (x : Pair _). (pair_told told x).faults) r.ends ∙ ended-faults told p refused_once))
    (refused-why a.files p a.faults r.unready)

pub refuses-still : {K : Type 0} (told : K → DiskTold) (p q : Pair K) → RefusesPair p q → IsBarred (pair_told told p).peer → (pair_told told q).faults ≡ (pair_told told p).faults
refuses-still told p q r b =
    let a = told (disk_of p.end) in
    ap (λ (x : Pair _). (pair_told told x).faults) r.ends ∙ (ended-faults told p refused_once ∙ refused-still a.files p a.faults b)
