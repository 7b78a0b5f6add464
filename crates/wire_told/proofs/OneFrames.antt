-- A frame that comes in pieces.
use Rattle.std.proofs.Common.{◌≡◌, ◌≢◌, ◌⊎◌, inl, inr, ℕ, ◌+◌, ◌^◌, ◌<◌, ◌≤◌, Bool, true, false, Option, Some, None, List, [], ◌∷◌, ◌++◌, length, take, refl, sym, ap, ◌∙◌, subst, arith, length-append, append_assoc, append-nil}
use Rattle.std.specs.Prelude.{nat_lt}
use Rattle.std.specs.Int.{w64, from_be_bytes}
use Rattle.std.proofs.lemmas.Bool.Decides.{nat_tests}
use Rattle.std.proofs.lemmas.List.{take-append-le}
use Rattle.fb_frame.specs.Framing.{head, frame, announced}
use Rattle.fb_frame.proofs.Cuts.{announced-frame}
use Rattle.fb_message.specs.CommandText.{command_of}
use Rattle.dev_model.specs.declared.device.Dev.{Dev}
use Rattle.wire_model.specs.Wire.{Wire, Phase, Shake, Command, Data, Item, Payload, first_frame, front, paid, joined, after}
use Rattle.wire_model.specs.Halts.{Faults, FaultsAt, Halts, faulted}
use Rattle.wire_told.specs.Turns.{room, IsSettled}
use Rattle.wire_told.specs.Told.{GoesBy, OneFrame}
use Rattle.wire_model.proofs.Items.{after_part, after_item, front_frame}

pub length-frame : (p : List ℕ) → length (frame p) ≡ 8 + length p
length-frame p = length-append (head (length p)) p

-- in each phase but the first a frame is looked for
front-framed : (ph : Phase) (bytes : List ℕ) → ph ≢ Shake → front ph bytes ≡ first_frame (room ph) bytes
front-framed Shake bytes n = absurd (n refl)
front-framed Command bytes n = refl
front-framed (Data count got) bytes n = refl

-- a front of a frame that has a head tells the payload's length
pub head-told : (p x y : List ℕ) → length p < 2 ^ 64 → x ++ y ≡ frame p → 8 ≤ length x → announced x ≡ length p
unfolding announced
head-told p x y small e long =
    ap (from_be_bytes w64) (sym (take-append-le 8 x y long) ∙ ap (take 8) (e ∙ sym (append-nil (frame p)))) ∙ announced-frame p [] small

lacks-by-head : (most : ℕ) (x : List ℕ) → length x < 8 → first_frame most x ≡ None
lacks-by-head most x h = grind (arith, nat_tests)

lacks-by-length : (most : ℕ) (x : List ℕ) → 8 ≤ length x → announced x ≤ most → length x < 8 + announced x → first_frame most x ≡ None
lacks-by-length most x h g l = grind (arith, nat_tests)

lacks : (most : ℕ) (p x y : List ℕ) → length p ≤ most → length p < 2 ^ 64 → x ++ y ≡ frame p → 0 < length y → (nat_lt (length x) 8 ≡ true) ⊎ (nat_lt (length x) 8 ≡ false) → first_frame most x ≡ None
lacks most p x y h small e due (inl short) = lacks-by-head most x (let s : length x < 8 = grind (arith, nat_tests) in s)
lacks most p x y h small e due (inr long) =
    let n : 8 ≤ length x = grind (arith, nat_tests) in
    let told = head-told p x y small e n in
    let size : length x + length y ≡ 8 + length p = sym (length-append x y) ∙ (ap length e ∙ length-frame p) in
    lacks-by-length most x n (omega (arith, told, h)) (omega (arith, told, size, due))

either : (b : Bool) → (b ≡ true) ⊎ (b ≡ false)
either true = inl refl
either false = inr refl

-- a part of a frame has nothing whole at its front
pub part-lacks : (p x y : List ℕ) (w : Wire) → OneFrame p (x ++ y) w → 0 < length y → front w.phase (w.rest ++ x) ≡ None
part-lacks p x y w o due =
    front-framed w.phase (w.rest ++ x) o.framed
    ∙ lacks (room w.phase) p (w.rest ++ x) y o.fits (omega (arith, o.small)) (append_assoc w.rest x y ∙ o.whole) due (either (nat_lt (length (w.rest ++ x)) 8))

-- a whole frame has its payload at its front
pub whole-front-frame : (p bytes : List ℕ) (w : Wire) → OneFrame p bytes w → front w.phase (w.rest ++ bytes) ≡ Some (Payload p, [])
whole-front-frame p bytes w o =
    front-framed w.phase (w.rest ++ bytes) o.framed ∙ (ap (first_frame (room w.phase)) o.whole ∙ front_frame (room w.phase) p o.fits (omega (arith, o.small)))

-- a part of a frame is kept
pub after-inside : (p x y : List ℕ) (w : Wire) → OneFrame p (x ++ y) w → 0 < length y → after w x ≡ joined x w
after-inside p x y w o due = after_part w x o.running (omega (arith, o.bounded, length-append x y)) (part-lacks p x y w o due)

-- what is still to come after a part
pub frame-rest : (p x y : List ℕ) (w : Wire) → OneFrame p (x ++ y) w → 0 < length y → OneFrame p y (joined x w)
frame-rest p x y w o due = record {
  running = o.running;
  quiet = o.quiet;
  framed = o.framed;
  whole = append_assoc w.rest x y ∙ o.whole;
  due = due;
  some = o.some;
  fits = o.fits;
  small = o.small;
  bounded = omega (arith, o.bounded, length-append x y);
}

pub joined-nothing : (w : Wire) → joined [] w ≡ w
joined-nothing w =
    let t : w.taken + 0 ≡ w.taken = omega arith in
    let r : w.rest ++ [] ≡ w.rest = append-nil w.rest in
    λ i. record w { rest = r i; taken = t i }

pub frame-settled : (p bytes : List ℕ) (w : Wire) → OneFrame p bytes w → IsSettled w
frame-settled p bytes w o = after-inside p [] bytes w o o.due ∙ joined-nothing w

no-fault-inside : (p x y : List ℕ) (w v : Wire) → OneFrame p (x ++ y) w → 0 < length y → Faults w x v → ⊥
no-fault-inside p x y w v o due f =
    let e : x ++ y ≡ f.before ++ (f.last ∷ (f.behind ++ y)) =
    ap (λ b. b ++ y) f.split ∙ append_assoc f.before (f.last ∷ f.behind) y in
    let o1 : OneFrame p (f.before ++ (f.last ∷ (f.behind ++ y))) w = subst (λ b. OneFrame p b w) e o in
    let kept : after w f.before ≡ joined f.before w = after-inside p f.before (f.last ∷ (f.behind ++ y)) w o1 (omega arith) in
    let e2 : f.before ++ (f.last ∷ (f.behind ++ y)) ≡ (f.before ++ f.last ∷ []) ++ (f.behind ++ y) = sym (append_assoc f.before (f.last ∷ []) (f.behind ++ y)) in
    let o2 : OneFrame p ((f.before ++ f.last ∷ []) ++ (f.behind ++ y)) w = subst (λ b. OneFrame p b w) e2 o1 in
    let none : front w.phase (w.rest ++ (f.before ++ f.last ∷ [])) ≡ None = part-lacks p (f.before ++ f.last ∷ []) (f.behind ++ y) w o2 (omega (arith, due, length-append f.behind y)) in
    let at : FaultsAt (joined f.before w) f.last v = subst (λ u. FaultsAt u f.last v) kept f.fault in
    let some : front w.phase (w.rest ++ (f.before ++ f.last ∷ [])) ≡ Some (Payload at.payload, []) =
    ap (front w.phase) (sym (append_assoc w.rest f.before (f.last ∷ []))) ∙ (ap (λ ph. front ph ((w.rest ++ f.before) ++ f.last ∷ [])) at.commanding ∙ at.completes) in
    absurd cc

inside : (broke : Type 0) (p x y : List ℕ) (w v : Wire) → OneFrame p (x ++ y) w → 0 < length y → (v ≡ after w x) ⊎ (broke × Faults w x v) → OneFrame p y v
inside broke p x y w v o due (inl e) = subst (OneFrame p y) (sym (e ∙ after-inside p x y w o due)) (frame-rest p x y w o due)
inside broke p x y w v o due (inr f) = absurd (no-fault-inside p x y w v o due f.1)

-- a part of a frame leads to what is still to come of it
pub goes-inside : (broke : Type 0) (p x y : List ℕ) (w v : Wire) → OneFrame p (x ++ y) w → 0 < length y → GoesBy broke w x v → OneFrame p y v
unfolding GoesBy
goes-inside broke p x y w v o due g = inside broke p x y w v o due g

joined-inside : (broke : Type 0) (p x y : List ℕ) (w v : Wire) → OneFrame p (x ++ y) w → 0 < length y → (v ≡ after w x) ⊎ (broke × Faults w x v) → v ≡ joined x w
joined-inside broke p x y w v o due (inl e) = e ∙ after-inside p x y w o due
joined-inside broke p x y w v o due (inr f) = absurd (no-fault-inside p x y w v o due f.1)

-- and is kept
pub goes-joined : (broke : Type 0) (p x y : List ℕ) (w v : Wire) → OneFrame p (x ++ y) w → 0 < length y → GoesBy broke w x v → v ≡ joined x w
unfolding GoesBy
goes-joined broke p x y w v o due g = joined-inside broke p x y w v o due g

same-device : (broke : Type 0) (p x y : List ℕ) (w v : Wire) → OneFrame p (x ++ y) w → 0 < length y → (v ≡ after w x) ⊎ (broke × Faults w x v) → v.device ≡ w.device
same-device broke p x y w v o due (inl e) = ap (λ u. u.device) (e ∙ after-inside p x y w o due)
same-device broke p x y w v o due (inr f) = absurd (no-fault-inside p x y w v o due f.1)

-- and leaves the device as it was
pub goes-same : (broke : Type 0) (p x y : List ℕ) (w v : Wire) → OneFrame p (x ++ y) w → 0 < length y → GoesBy broke w x v → v.device ≡ w.device
unfolding GoesBy
goes-same broke p x y w v o due g = same-device broke p x y w v o due g

-- the payload was heard, n bytes later
abbrev pub paid_by : List ℕ → Wire → ℕ → Wire
paid_by p w n = record (paid w.phase p w) { rest = []; taken = w.taken + n }

-- a disk call failed while the command was run
pub record IsBroken (p : List ℕ) (n : ℕ) (w v : Wire) : Type 0 where
  pub commanding : w.phase ≡ Command
  pub device : Dev
  pub halts : Halts w.device w.loaded (command_of p) device
  pub state : v ≡ record (faulted device w) { taken = w.taken + n }

broken-end : (p before behind : List ℕ) (last : ℕ) (w v : Wire) → OneFrame p (before ++ last ∷ behind) w → FaultsAt (after w before) last v → 0 < length behind → ⊥
broken-end p before behind last w v o f due =
    let e : before ++ last ∷ behind ≡ (before ++ last ∷ []) ++ behind = sym (append_assoc before (last ∷ []) behind) in
    no-fault-inside p (before ++ last ∷ []) behind w v (subst (λ b. OneFrame p b w) e o) due
    (record { before = before; last = last; behind = []; split = refl; fault = f })

-- a payload and nothing after it
abbrev alone : List ℕ → Option (Item × List ℕ)
alone p = Some (Payload p, [])

payload-of : (p q : List ℕ) → alone p ≡ alone q → p ≡ q
payload-of p q e = ap pick e
  where
    inner : Item → List ℕ
    inner (Payload r) = r
    inner _ = []

    pick : Option (Item × List ℕ) → List ℕ
    pick None = []
    pick (Some found) = inner found.0

broken : (p before behind : List ℕ) (last : ℕ) (w v : Wire) → OneFrame p (before ++ last ∷ behind) w → FaultsAt (after w before) last v → behind ≡ [] → IsBroken p (length (before ++ last ∷ behind)) w v
broken p before behind last w v o f n =
    let o1 : OneFrame p (before ++ last ∷ []) w = subst (λ b. OneFrame p (before ++ last ∷ b) w) n o in
    let kept : after w before ≡ joined before w = after-inside p before (last ∷ []) w o1 (omega arith) in
    let at : FaultsAt (joined before w) last v = subst (λ u. FaultsAt u last v) kept f in
    let there : front w.phase (w.rest ++ (before ++ last ∷ [])) ≡ Some (Payload p, []) = whole-front-frame p (before ++ last ∷ []) w o1 in
    let some : front w.phase (w.rest ++ (before ++ last ∷ [])) ≡ Some (Payload at.payload, []) =
    ap (front w.phase) (sym (append_assoc w.rest before (last ∷ []))) ∙ (ap (λ ph. front ph ((w.rest ++ before) ++ last ∷ [])) at.commanding ∙ at.completes) in
    let same : at.payload ≡ p = payload-of at.payload p (sym some ∙ there) in
    let size : w.taken + length before + 1 ≡ w.taken + length (before ++ last ∷ behind) =
    omega (arith, length-append before (last ∷ behind), ap length n) in
    record {
      commanding = at.commanding;
      device = at.device;
      halts = subst (λ q. Halts w.device w.loaded (command_of q) at.device) same at.halts;
      state = at.state ∙ ap (λ t. record (faulted at.device w) { taken = t }) size;
    }

none-or-some : (xs : List ℕ) → (xs ≡ []) ⊎ (0 < length xs)
none-or-some [] = inl refl
none-or-some (x ∷ xs) = inr (omega arith)

broken-by : (p bytes : List ℕ) (w v : Wire) → OneFrame p bytes w → (f : Faults w bytes v) → (f.behind ≡ []) ⊎ (0 < length f.behind) → IsBroken p (length bytes) w v
broken-by p bytes w v o f (inl n) =
    subst (λ b. IsBroken p (length b) w v) (sym f.split) (broken p f.before f.behind f.last w v (subst (λ b. OneFrame p b w) f.split o) f.fault n)
broken-by p bytes w v o f (inr due) = absurd (broken-end p f.before f.behind f.last w v (subst (λ b. OneFrame p b w) f.split o) f.fault due)

whole : (broke : Type 0) (p bytes : List ℕ) (w v : Wire) → OneFrame p bytes w → (v ≡ after w bytes) ⊎ (broke × Faults w bytes v) → (v ≡ paid_by p w (length bytes)) ⊎ (broke × IsBroken p (length bytes) w v)
whole broke p bytes w v o (inl e) = inl (e ∙ after_item w bytes (Payload p) o.running o.bounded (whole-front-frame p bytes w o))
whole broke p bytes w v o (inr f) = inr (f.0, broken-by p bytes w v o f.1 (none-or-some f.1.behind))

-- a whole frame leads to its answer, or to what a failed disk call leaves
pub goes-whole : (broke : Type 0) (p bytes : List ℕ) (w v : Wire) → OneFrame p bytes w → GoesBy broke w bytes v → (v ≡ paid_by p w (length bytes)) ⊎ (broke × IsBroken p (length bytes) w v)
unfolding GoesBy
goes-whole broke p bytes w v o g = whole broke p bytes w v o g
