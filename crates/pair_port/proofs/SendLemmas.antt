-- Bytes that the session that is up took.
use Rattle.std.proofs.Common.{◌≡◌, ◌⊎◌, inl, inr, ℕ, zero, suc, ◌<◌, ◌≤◌, Bool, true, false, nat_eq, List, [], length, take, Result, Ok, Err, IfOk, refl, sym, ap, ◌∙◌, subst, arith}
use Rattle.std.specs.Prelude.{IsTrue}
use Rattle.std.proofs.lemmas.List.{length-take-le, take-take}
use Rattle.dev_disk.specs.Disks.{DiskTold}
use Rattle.dev_model.specs.declared.device.Dev.{Dev}
use Rattle.wire_told.specs.Ports.{Sends}
use Rattle.wire_told.specs.Told.{InTurn}
use Rattle.pair_port.specs.Calls.{FeedsPair, SendsPair, IsStopped, OfLive, Takes}
use Rattle.pair_port.specs.Counters.{most, passed}
use Rattle.pair_port.specs.Pairs.{Pair, End, is_up, wire_at, pair_told}
use Rattle.pair_port.proofs.PairPassLemmas.{sends, sends-none}

-- as many, or fewer
all-or-fewer : (n m : ℕ) → n ≤ m → (n ≡ m) ⊎ (n < m)
all-or-fewer n m h = by (nat_eq n m) refl where
  by : (b : Bool) → nat_eq n m ≡ b → (n ≡ m) ⊎ (n < m)
  by true e = inl (grind (arith, e))
  by false e = inr (grind (arith, e, h))

-- the same session, with other counters
feeds-pair : {K : Type 0} (told : K → DiskTold) (old mid new : Pair K) (bytes more : List ℕ) → FeedsPair told old mid bytes → new.end ≡ mid.end → new.left ≡ mid.left → bytes ≡ more → FeedsPair told old new more
feeds-pair told old mid new bytes more f e l b = record {
  before = f.before;
  after = f.after;
  up_before = f.up_before;
  up_now = e ∙ f.up_now;
  takes = subst (λ (x : List ℕ). Takes told f.before f.after (wire_at f.before old.left) (wire_at f.after new.left) x) b
      (subst (λ (d : Dev). Takes told f.before f.after (wire_at f.before old.left) (wire_at f.after d) bytes) (sym l) f.takes);
}

pub sends-pair : {K : Type 0} (told : K → DiskTold) (old mid new : Pair K) (n m : ℕ) (bytes : List ℕ) → FeedsPair told old mid (take n (take m bytes)) → new.end ≡ mid.end → new.left ≡ mid.left →
    n ≤ length (take m bytes) → m ≤ length bytes → m ≡ most old.counters (length bytes) → (n < length (take m bytes) → OfLive IsStopped mid.end) → new.counters ≡ passed n old.counters →
    SendsPair told old new (length bytes) (take n bytes)
sends-pair told old mid new n m bytes f e l within fits is stops c =
    let all : length (take m bytes) ≡ m = length-take-le m bytes fits in
    let few : n ≤ m = subst (λ (k : ℕ). n ≤ k) all within in
    let long : length (take n bytes) ≡ n = length-take-le n bytes (omega (arith, few, fits)) in
    record {
      feeds = feeds-pair told old mid new (take n (take m bytes)) (take n bytes) f e l (take-take n m bytes few);
      within = subst (λ (k : ℕ). k ≤ most old.counters (length bytes)) (sym long) (subst (λ (k : ℕ). n ≤ k) is few);
      all = stop-or (all-or-fewer n m few) long;
      counters = c ∙ ap (λ (k : ℕ). passed k old.counters) (sym long);
    } where
      stop-or : (n ≡ m) ⊎ (n < m) → length (take n bytes) ≡ n → (length (take n bytes) ≡ most old.counters (length bytes)) ⊎ OfLive IsStopped new.end
      stop-or (inl s) long = inl (long ∙ s ∙ is)
      stop-or (inr s) long = inr (subst (λ (x : End _). OfLive IsStopped x) (sym e) (stops (subst (λ (k : ℕ). n < k) (sym (length-take-le m bytes fits)) s)))

-- nothing was sent, or bytes were
sent-by : {K : Type 0} (told : K → DiskTold) (p q : Pair K) (n : ℕ) (bytes : List ℕ) → IsTrue (is_up p.end) → InTurn (pair_told told p).peer bytes → (n ≡ 0 → q ≡ p) →
    (0 < n → SendsPair told p q (length bytes) (take n bytes)) → Sends (pair_told told p) (pair_told told q) (take n bytes)
sent-by told p q zero bytes up t same s = subst (λ (x : Pair _). Sends (pair_told told p) (pair_told told x) []) (sym (same refl)) (sends-none told p bytes up t)
sent-by told p q (suc n) bytes up t same s = sends told p q (length bytes) (take (suc n) bytes) (s (omega arith))

pub send-sends : {K E : Type 0} (told : K → DiskTold) (p q : Pair K) (r : Result ℕ E) (bytes : List ℕ) → IsTrue (is_up p.end) → InTurn (pair_told told p).peer bytes → IfOk r (λ n. n ≡ 0 → q ≡ p) →
    IfOk r (λ n. 0 < n → SendsPair told p q (length bytes) (take n bytes)) → IfOk r (λ n. Sends (pair_told told p) (pair_told told q) (take n bytes))
send-sends told p q (Ok n) bytes up t same s = sent-by told p q n bytes up t same s
send-sends told p q (Err e) bytes up t same s = s
