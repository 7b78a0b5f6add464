-- What a session takes in several calls.
use Rattle.std.proofs.Common.{◌≡◌, ℕ, zero, suc, ◌+◌, ◌-◌, ◌<◌, ◌≤◌, List, [], ◌∷◌, ◌++◌, length, take, drop, is_some, refl, sym, ap, subst, ◌∙◌, arith}
use Rattle.std.specs.Prelude.{IsTrue, IsFalse, ◌==◌, not, ◌||◌, ◌&&◌, false}
use Rattle.std.proofs.Math.Seq.{take-add, take-length}
use Rattle.std.proofs.lemmas.List.{length-drop}
use Rattle.fb_frame.specs.Causes.{Rose}
use Rattle.dev_disk.specs.Disks.{DiskTold}
use Rattle.dev_disk.proofs.TwinLemmas.{OpenKept-then}
use Rattle.device_session.specs.Inlets.{is_shaking}
use Rattle.device_session.specs.Living.{Live, wire_of, is_full}
use Rattle.wire_model.specs.Wire.{Wire}
use Rattle.wire_told.proofs.Going.{goes-append, goes-weaker}
use Rattle.dev_model.specs.declared.device.Dev.{Dev}
use Rattle.pair_port.specs.Calls.{Takes, IsStopped}
use Rattle.pair_port.specs.Pairs.{wire_at}
use Rattle.pair_port.specs.Ready.{IsReady, Runs}
use Rattle.pair_port.proofs.DeviceLemmas.{alike}

rose-later : (before now later : ℕ) → now ≤ later → Rose before now → Rose before later
rose-later before now later h r = omega (arith, h, r)

rose-earlier : (first before now : ℕ) → first ≤ before → Rose before now → Rose first now
rose-earlier first before now h r = grind (arith, h, r)

pub takes-then : {K : Type 0} (told : K → DiskTold) (a b c : Live K) (u v w : Wire) (x y : List ℕ) → Takes told a b u v x → Takes told b c v w y → Takes told a c u w (x ++ y)
takes-then told a b c u v w x y p q =
    let d = told a.held.disk in
    let e = told b.held.disk in
    let f = told c.held.disk in
    record {
      running = p.running;
      kept = OpenKept-then d e f p.kept q.kept;
      goes = λ t. goes-append (Rose d.faults f.faults) u v w x y
          (goes-weaker (Rose d.faults e.faults) (Rose d.faults f.faults) (rose-later d.faults e.faults f.faults q.kept.later) u v x
          (p.goes (sym (alike e.files f.files e.open_path q.kept.others) ∙ t)))
          (goes-weaker (Rose e.faults f.faults) (Rose d.faults f.faults) (rose-earlier d.faults e.faults f.faults p.kept.later) v w y (q.goes t));
    }

-- the piece from a place on
pub takes-on : {K : Type 0} (told : K → DiskTold) (a b c : Live K) (u v w : Wire) (piece : List ℕ) (at n : ℕ) → Takes told a b u v (take at piece) → Takes told b c v w (take n (drop at piece)) →
    Takes told a c u w (take (at + n) piece)
takes-on told a b c u v w piece at n p q = subst (λ (l : List ℕ). Takes told a c u w l) (sym (take-add at n piece)) (takes-then told a b c u v w (take at piece) (take n (drop at piece)) p q)

-- a session that takes nothing of a piece that isn't empty is stopped
pub full-stopped : {K : Type 0} (live : Live K) (piece : List ℕ) → 0 < length piece → IsTrue (is_full (wire_of live) piece) → IsStopped live
full-stopped live piece some full =
    let there : (length piece == 0) ≡ false = grind (arith, some) in
    sym (ap (λ b. live.closed || (b || (not (is_shaking live.phase) && not (length live.out == 0)))) there) ∙ full

-- how far a piece was fed, a part of it after another
pub record IsFed {K L : Type 0} (told : K → DiskTold) (lent : K → L) (piece : List ℕ) (at : ℕ) (old new : Live K) (was left : Dev) : Type 0 where
  pub within : at ≤ length piece
  pub still : at ≡ 0 → new ≡ old
  pub left_still : at ≡ 0 → left ≡ was
  pub takes : 0 < at → Takes told old new (wire_at old was) (wire_at new left) (take at piece)
  pub ready : IsReady told new.held new.room left
  pub runs : Runs new
  pub same : lent new.held.disk ≡ lent old.held.disk

pub fed-none : {K L : Type 0} (told : K → DiskTold) (lent : K → L) (piece : List ℕ) (live : Live K) (left : Dev) → IsReady told live.held live.room left → Runs live → IsFed told lent piece 0 live live left left
fed-none told lent piece live left r s = record {
  within = omega arith;
  still = λ _. refl;
  left_still = λ _. refl;
  takes = λ k. absurd (none k);
  ready = r;
  runs = s;
  same = refl;
} where
  none : 0 < 0 → ⊥
  none k = omega (arith, k)

pub fed-on : {K L : Type 0} (told : K → DiskTold) (lent : K → L) (piece : List ℕ) (at n : ℕ) (old mid new : Live K) (was midst left : Dev) → IsFed told lent piece at old mid was midst → 0 < n → n ≤ length (drop at piece) →
    Takes told mid new (wire_at mid midst) (wire_at new left) (take n (drop at piece)) → IsReady told new.held new.room left → Runs new → lent new.held.disk ≡ lent mid.held.disk →
    IsFed told lent piece (at + n) old new was left
fed-on told lent piece at n old mid new was midst left f some within t r s e = record {
  within = let long : length (drop at piece) ≡ length piece - at = length-drop at piece in let h = f.within in omega (arith, long, within, h);
  still = λ z. absurd (none z);
  left_still = λ z. absurd (none z);
  takes = λ _. all at f t refl;
  ready = r;
  runs = s;
  same = e ∙ f.same;
} where
  none : at + n ≡ 0 → ⊥
  none z = omega (arith, some, z)

  all : (k : ℕ) → IsFed told lent piece k old mid was midst → Takes told mid new (wire_at mid midst) (wire_at new left) (take n (drop k piece)) → at ≡ k → Takes told old new (wire_at old was) (wire_at new left) (take (at + n) piece)
  all zero h u z =
      subst (λ (k : ℕ). Takes told old new (wire_at old was) (wire_at new left) (take (k + n) piece)) (sym z)
      (let plus : n ≡ 0 + n = omega arith in
      subst (λ (m : ℕ). Takes told old new (wire_at old was) (wire_at new left) (take m piece)) plus
      (subst (λ (w : Wire). Takes told old new w (wire_at new left) (take n piece)) (ap (λ (d : Dev). wire_at old d) (h.left_still refl))
      (subst (λ (m : Live _). Takes told m new (wire_at m midst) (wire_at new left) (take n piece)) (h.still refl) u)))
  all (suc k) h u z =
      subst (λ (j : ℕ). Takes told old new (wire_at old was) (wire_at new left) (take (j + n) piece)) (sym z)
      (takes-on told old mid new (wire_at old was) (wire_at mid midst) (wire_at new left) piece (suc k) n (h.takes (omega arith)) u)

-- the rest of a piece, as a slice of it
rest-is : (at : ℕ) (piece : List ℕ) → take (length piece - at) (drop at piece) ≡ drop at piece
rest-is at piece = ap (λ (k : ℕ). take k (drop at piece)) (sym (length-drop at piece)) ∙ take-length (drop at piece)

pub fed-slice : {K L : Type 0} (told : K → DiskTold) (lent : K → L) (piece : List ℕ) (at n : ℕ) (old mid new : Live K) (was midst left : Dev) → IsFed told lent piece at old mid was midst → 0 < n →
    n ≤ length (take (length piece - at) (drop at piece)) → Takes told mid new (wire_at mid midst) (wire_at new left) (take n (take (length piece - at) (drop at piece))) →
    IsReady told new.held new.room left → Runs new → lent new.held.disk ≡ lent mid.held.disk → IsFed told lent piece (at + n) old new was left
fed-slice told lent piece at n old mid new was midst left f some within t r s e =
    fed-on told lent piece at n old mid new was midst left f some (subst (λ (x : List ℕ). n ≤ length x) (rest-is at piece) within)
    (subst (λ (x : List ℕ). Takes told mid new (wire_at mid midst) (wire_at new left) (take n x)) (rest-is at piece) t) r s e
