-- A download's data, in frames.
use Rattle.std.proofs.Common.{◌≡◌, ◌≢◌, ◌⊎◌, inl, inr, ℕ, ◌+◌, ◌<◌, ◌≤◌, true, false, cond, List, [], ◌++◌, length, take, drop, Some, refl, sym, ap, ◌∙◌, subst, arith, length-append, length-drop}
use Rattle.std.specs.Prelude.{codes, nat_eq, nat_lt}
use Rattle.std.proofs.lemmas.Bool.Decides.{nat_tests}
use Rattle.std.proofs.lemmas.List.{take-append-drop, take_all}
use Rattle.wire_model.proofs.InParts.{told}
use Rattle.dev_model.specs.declared.device.Dev.{Dev}
use Rattle.fb_frame.specs.Framing.{frame}
use Rattle.wire_model.specs.Wire.{Wire, Shake, Command, Data, received, paid}
use Rattle.wire_told.specs.Turns.{room}
use Rattle.wire_told.specs.Told.{GoesBy, OneFrame, IsReceiving, IsFilled, IsLoaded, IsLeft}
use Rattle.wire_told.specs.Answered.{got_by, got_of}
use Rattle.wire_told.proofs.OneFrames.{goes-same, length-frame, goes-whole, paid_by, IsBroken}

shake-not-data : (count : ℕ) (got : List ℕ) → Shake ≢ Data count got
shake-not-data count got e = cc

command-not-data : (count : ℕ) (got : List ℕ) → Command ≢ Data count got
command-not-data count got e = cc

pub data-frame : (spare count : ℕ) (got p : List ℕ) (w : Wire) → IsReceiving spare count got w → 0 < length p → length got + length p ≤ count → length p ≤ 65536 → OneFrame p (frame p) w
data-frame spare count got p w i some h s = record {
  running = i.running;
  quiet = i.quiet;
  framed = λ e. shake-not-data count got (sym e ∙ i.receiving);
  whole = ap (λ r. r ++ frame p) i.rest;
  due = omega (arith, length-frame p);
  some = some;
  fits = subst (λ ph. length p ≤ room ph) (sym i.receiving) (omega arith);
  small = s;
  bounded = omega (arith, i.bounded, length-frame p);
}

-- a whole frame of data is taken as it is: nothing breaks
pub taken : (broke : Type 0) (spare count : ℕ) (got p : List ℕ) (w v : Wire) → IsReceiving spare count got w → 0 < length p → length got + length p ≤ count → length p ≤ 65536 → GoesBy broke w (frame p) v → v ≡ record (received count (got ++ p) w) { rest = []; taken = w.taken + length (frame p) }
taken broke spare count got p w v i some h s g =
    pick (goes-whole broke p (frame p) w v (data-frame spare count got p w i some h s) g)
  where
    pick : (v ≡ paid_by p w (length (frame p))) ⊎ (broke × IsBroken p (length (frame p)) w v) → v ≡ record (received count (got ++ p) w) { rest = []; taken = w.taken + length (frame p) }
    pick (inl e) = e ∙ ap (λ ph. record (paid ph p w) { rest = []; taken = w.taken + length (frame p) }) i.receiving
    pick (inr b) = absurd (command-not-data count got (sym b.1.commanding ∙ i.receiving))

received-more : (count : ℕ) (got : List ℕ) (w : Wire) (n : ℕ) → length got < count → record (received count got w) { rest = []; taken = n } ≡ record w { phase = Data count got; rest = []; taken = n }
received-more count got w n h =
    let e : nat_eq (length got) count ≡ false = grind (arith, nat_tests) in
    ap (λ b. record (cond b (record w { out = w.out ++ frame (codes "OKAY"); loaded = Some got; phase = Command }) (record w { phase = Data count got })) { rest = []; taken = n }) e

received-all : (count : ℕ) (got : List ℕ) (w : Wire) (n : ℕ) → length got ≡ count → record (received count got w) { rest = []; taken = n } ≡ record w { out = w.out ++ frame (codes "OKAY"); loaded = Some got; phase = Command; rest = []; taken = n }
received-all count got w n h =
    let e : nat_eq (length got) count ≡ true = grind (arith, nat_tests) in
    ap (λ b. record (cond b (record w { out = w.out ++ frame (codes "OKAY"); loaded = Some got; phase = Command }) (record w { phase = Data count got })) { rest = []; taken = n }) e

pub filled : (broke : Type 0) (spare count : ℕ) (got p : List ℕ) (w v : Wire) → IsReceiving spare count got w → 0 < length p → length got + length p < count → length p ≤ 65536 → GoesBy broke w (frame p) v → IsFilled spare count (got ++ p) w v
filled broke spare count got p w v i some h s g =
    let m = length-append got p in
    let e = taken broke spare count got p w v i some (omega arith) s g ∙ received-more count (got ++ p) w (w.taken + length (frame p)) (omega arith) in
    record {
      device = ap (λ (x : Wire). x.device) e;
      receiving = record {
        running = ap (λ (x : Wire). x.closed) e ∙ i.running;
        quiet = ap (λ (x : Wire). x.out) e ∙ i.quiet;
        receiving = ap (λ (x : Wire). x.phase) e;
        rest = ap (λ (x : Wire). x.rest) e;
        bounded = omega (arith, ap (λ (x : Wire). x.taken) e, i.bounded, length-frame p, m);
      };
    }

pub loaded_by : (broke : Type 0) (spare count : ℕ) (got p : List ℕ) (w v : Wire) → IsReceiving spare count got w → 0 < length p → length got + length p ≡ count → length p ≤ 65536 → GoesBy broke w (frame p) v → IsLoaded spare (got ++ p) w v
loaded_by broke spare count got p w v i some h s g =
    let m = length-append got p in
    let e = taken broke spare count got p w v i some (omega arith) s g ∙ received-all count (got ++ p) w (w.taken + length (frame p)) (omega arith) in
    record {
      device = ap (λ (x : Wire). x.device) e;
      loaded = ap (λ (x : Wire). x.loaded) e;
      out = ap (λ (x : Wire). x.out) e ∙ ap (λ t. t ++ frame (codes "OKAY")) i.quiet;
      commanding = ap (λ (x : Wire). x.phase) e;
      rest = ap (λ (x : Wire). x.rest) e;
      running = ap (λ (x : Wire). x.closed) e ∙ i.running;
      bounded = omega (arith, ap (λ (x : Wire). x.taken) e, i.bounded, length-frame p, m);
    }

pub received-device : (count : ℕ) (got : List ℕ) (w : Wire) (n : ℕ) → (record (received count got w) { rest = []; taken = n }).device ≡ w.device
received-device count got w n =
    elim (nat_eq (length got) count) as (λ b. (cond b (record w { out = w.out ++ frame (codes "OKAY"); loaded = Some got; phase = Command }) (record w { phase = Data count got })).device ≡ w.device) [ true ↦ refl | false ↦ refl ]

pub received-got : (count : ℕ) (got : List ℕ) (w : Wire) (n : ℕ) → got_of (record (received count got w) { rest = []; taken = n }) ≡ got
unfolding got_of
received-got count got w n =
    elim (nat_eq (length got) count) as (λ b. got_by (cond b (record w { out = w.out ++ frame (codes "OKAY"); loaded = Some got; phase = Command }) (record w { phase = Data count got })).phase (cond b (record w { out = w.out ++ frame (codes "OKAY"); loaded = Some got; phase = Command }) (record w { phase = Data count got })).loaded ≡ got) [ true ↦ refl | false ↦ refl ]

-- a frame of data, whole or not, leaves the device as it was
data-same : (broke : Type 0) (spare count : ℕ) (got p : List ℕ) (n : ℕ) (w v : Wire) → IsReceiving spare count got w → 0 < length p → length got + length p ≤ count → length p ≤ 65536 → (n < length (frame p)) ⊎ (length (frame p) ≤ n) → GoesBy broke w (take n (frame p)) v → v.device ≡ w.device
data-same broke spare count got p n w v i some h s (inl less) g =
    goes-same broke p (take n (frame p)) (drop n (frame p)) w v
    (subst (λ t. OneFrame p t w) (sym (take-append-drop n (frame p))) (data-frame spare count got p w i some h s))
    (omega (arith, less, length-drop n (frame p))) g
data-same broke spare count got p n w v i some h s (inr all) g =
    ap (λ (x : Wire). x.device) (taken broke spare count got p w v i some h s (subst (λ t. GoesBy broke w t v) (take_all n (frame p) all) g))
    ∙ received-device count (got ++ p) w (w.taken + length (frame p))

less-or-not : (m n : ℕ) → (nat_lt m n ≡ true) ⊎ (nat_lt m n ≡ false) → (m < n) ⊎ (n ≤ m)
less-or-not m n (inl e) = inl (let h : m < n = grind (arith, nat_tests) in h)
less-or-not m n (inr e) = inr (let h : n ≤ m = grind (arith, nat_tests) in h)

pub data-left : (broke : Type 0) (spare count : ℕ) (got p : List ℕ) → 0 < length p → length got + length p ≤ count → length p ≤ 65536 → (w : Wire) (dev : Dev) → IsReceiving spare count got w → IsLeft broke (frame p) w dev → dev ≡ w.device
data-left broke spare count got p some h s w dev i r =
    r.device ∙ data-same broke spare count got p r.count w r.state i some h s (less-or-not r.count (length (frame p)) (told (nat_lt r.count (length (frame p))))) r.goes
