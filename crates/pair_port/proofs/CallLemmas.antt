-- What a call says of its answer.
use Rattle.std.proofs.Common.{◌≡◌, ℕ, zero, suc, ◌<◌, List, [], ◌∷◌, length, take, Result, Ok, Err, OnOk, OnErr, IfOk, IsOk, refl, sym, subst, arith}
use Rattle.std.specs.Prelude.{IsTrue}
use Rattle.dev_disk.specs.Disks.{DiskTold}
use Rattle.wire_told.specs.Ports.{Hears}
use Rattle.pair_port.specs.Calls.{HearsPair, MeetsEnd}
use Rattle.pair_port.specs.Pairs.{Pair, is_up, pair_told}
use Rattle.pair_port.proofs.LinkLemmas.{live-there}
use Rattle.pair_port.proofs.PairPassLemmas.{hears, hears-none, meets}

pub ok-map : {T E : Type 0} (r : Result T E) (P Q : Type 0) → (P → Q) → OnOk r P → OnOk r Q
ok-map (Ok x) P Q f p = f p
ok-map (Err e) P Q f p = p

pub err-map : {T E : Type 0} (r : Result T E) (P Q : Type 0) → (P → Q) → OnErr r P → OnErr r Q
err-map (Ok x) P Q f p = p
err-map (Err e) P Q f p = f p

pub either-way : {T E : Type 0} (r : Result T E) (P Q R : Type 0) → (P → R) → (Q → R) → OnOk r P → OnErr r Q → R
either-way (Ok x) P Q R f h p q = f p
either-way (Err e) P Q R f h p q = h q

-- nothing was asked for, the end was met, or bytes were heard
heard-by : {K : Type 0} (told : K → DiskTold) (p q : Pair K) (n : ℕ) (buf : List ℕ) → IsTrue (is_up p.end) → (length buf ≡ 0 → q ≡ p) → (0 < n → HearsPair p q (length buf) (take n buf)) →
    (n ≡ 0 → 0 < length buf → MeetsEnd p q) → Hears (pair_told told p) (pair_told told q) (take n buf)
heard-by told p q zero [] up same h m =
    subst (λ (x : Pair _). Hears (pair_told told p) (pair_told told x) []) (sym (same refl)) (hears-none told (λ live. Unit {0}) p (live-there p.end up))
heard-by told p q zero (b ∷ buf) up same h m = meets told p q (m refl (omega arith))
heard-by told p q (suc n) buf up same h m = hears told p q (length buf) (take (suc n) buf) (h (omega arith))

pub recv-hears : {K E : Type 0} (told : K → DiskTold) (p q : Pair K) (r : Result ℕ E) (buf : List ℕ) → IsTrue (is_up p.end) → (length buf ≡ 0 → IsOk r × (q ≡ p)) →
    IfOk r (λ n. 0 < n → HearsPair p q (length buf) (take n buf)) → IfOk r (λ n. n ≡ 0 → 0 < length buf → MeetsEnd p q) →
    IfOk r (λ n. Hears (pair_told told p) (pair_told told q) (take n buf))
recv-hears told p q (Ok n) buf up same h m = heard-by told p q n buf up (λ e. (same e).1) h m
recv-hears told p q (Err e) buf up same h m = h
