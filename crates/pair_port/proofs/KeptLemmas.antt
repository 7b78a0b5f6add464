-- What a port tells before and after a call that keeps its aim.
use Rattle.std.proofs.Common.{◌≡◌, ◌≢◌, ℕ, ◌≤◌, List, Option, Some, None, is_some, option_map, refl, sym, ap, subst, ◌∙◌, arith}
use Rattle.fb_frame.specs.Causes.{Rose}
use Rattle.dev_disk.specs.Disks.{DiskTold, OpenKept}
use Rattle.dev_disk.specs.Files.{Files, KeepsUnopened}
use Rattle.dev_disk.proofs.TwinLemmas.{OpenKept-files}
use Rattle.dev_store.specs.Faults.{honest_before}
use Rattle.wire_told.specs.Places.{ImageAt, TcpAt, KeepsOthers}
use Rattle.wire_told.specs.Ports.{Kept}
use Rattle.pair_port.specs.Counters.{Counters, broken_once, refused_once}
use Rattle.pair_port.specs.Pairs.{Pair, is_aimed, stand_in, stands_in, faults_by, told_by}
use Rattle.pair_port.proofs.DeviceLemmas.{alike}

pub others-kept : (a b : Option Files) (path : Option (List ℕ)) → KeepsUnopened a b path → KeepsOthers (option_map ImageAt path) (stands_in a) (stands_in b)
others-kept a b None k other n = ap (λ f. stands_in f other) k
others-kept (Some x) (Some y) (Some path) k (TcpAt host port) n = refl
others-kept (Some x) (Some y) (Some path) k (ImageAt other) n = ap (λ o. Some (stand_in o)) (k other (λ e. n (ap (λ p. Some (ImageAt p)) (sym e))))
others-kept (Some x) None (Some path) k other n = absurd k
others-kept None (Some y) (Some path) k other n = absurd k
others-kept None None (Some path) k other n = refl

-- Counts.
pub record Counts (c d : Counters) : Type 0 where
  pub broken : c.broken ≤ d.broken
  pub refused : c.refused ≤ d.refused
  pub ended : c.ended ≤ d.ended

pub faults-later : (a b : Option Files) (c d : Counters) (m n : ℕ) → is_some b ≡ is_some a → Counts c d → m ≤ n → faults_by a c m ≤ faults_by b d n
faults-later (Some x) (Some y) c d m n e k h = omega (arith, k.broken, h)
faults-later (Some x) None c d m n e k h = absurd cc
faults-later None (Some y) c d m n e k h = absurd cc
faults-later None None c d m n e k h = omega (arith, k.broken, k.refused, h)

-- a fault of the disk is one of the port
pub faults-rose : (a b : Option Files) (c d : Counters) (m n : ℕ) → is_some b ≡ is_some a → Counts c d → Rose m n → Rose (faults_by a c m) (faults_by b d n)
faults-rose (Some x) (Some y) c d m n e k h = grind (arith, k.broken, h)
faults-rose (Some x) None c d m n e k h = absurd cc
faults-rose None (Some y) c d m n e k h = absurd cc
faults-rose None None c d m n e k h = grind (arith, k.broken, k.refused, h)

-- and so is a break; and a refused call where no device is told
pub broken-rose : (a : Option Files) (c : Counters) (n : ℕ) → Rose (faults_by a c n) (faults_by a (broken_once c) n)
broken-rose (Some x) c n = omega arith
broken-rose None c n = omega arith

pub refused-rose : (c : Counters) (n : ℕ) → Rose (faults_by None c n) (faults_by None (refused_once c) n)
refused-rose c n = omega arith

pub still : (a : DiskTold) → OpenKept a a
still a = OpenKept-files a a (record { files = refl; path = refl; length = refl; later = omega arith; torn = λ old written left t. t })

pub kept-by : {K : Type 0} (a b : DiskTold) (p q : Pair K) → OpenKept a b → is_aimed q.end ≡ is_aimed p.end → Counts p.counters q.counters → Kept (told_by a p) (told_by b q)
kept-by a b p q k aim c = record {
  aimed_still = aim;
  last_same = ap (λ (o : Option (List ℕ)). option_map ImageAt o) k.path;
  others = others-kept a.files b.files a.open_path k.others;
  later = faults-later a.files b.files p.counters q.counters a.faults b.faults (alike a.files b.files a.open_path k.others) c k.later;
  no_fewer = c.ended;
  honest = honest_before a.torn b.torn k.torn;
}
