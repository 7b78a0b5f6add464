-- A handshake that comes in pieces.
use Rattle.std.proofs.Common.{◌≡◌, ◌≢◌, ◌⊎◌, inl, inr, ℕ, ◌+◌, ◌<◌, Option, Some, None, List, [], ◌∷◌, ◌++◌, length, refl, sym, ap, ◌∙◌, subst, arith, length-append, append_assoc}
use Rattle.std.proofs.lemmas.Bool.Decides.{nat_tests}
use Rattle.fb_frame.specs.Greeting.{handshake}
use Rattle.dev_model.specs.declared.device.Dev.{Dev}
use Rattle.wire_model.specs.Wire.{Wire, Phase, Shake, Command, Item, Greeting, front, joined, after, fresh}
use Rattle.wire_model.specs.Halts.{Faults}
use Rattle.wire_told.specs.Turns.{IsSettled}
use Rattle.wire_told.specs.Told.{GoesBy, OneShake}
use Rattle.wire_model.proofs.Items.{after_part, after_item}
use Rattle.wire_told.proofs.OneFrames.{joined-nothing}

short-front : (bytes : List ℕ) → length bytes < 4 → front Shake bytes ≡ None
short-front bytes h = grind (arith, nat_tests)

shaking-front : (ph : Phase) (bytes : List ℕ) → ph ≡ Shake → front ph bytes ≡ front Shake bytes
shaking-front ph bytes e = ap (λ p. front p bytes) e

part-lacks : (x y : List ℕ) (w : Wire) → OneShake (x ++ y) w → 0 < length y → front w.phase (w.rest ++ x) ≡ None
part-lacks x y w o due =
    let size : length (w.rest ++ x) + length y ≡ 4 = sym (length-append (w.rest ++ x) y) ∙ ap length (append_assoc w.rest x y ∙ o.whole) in
    shaking-front w.phase (w.rest ++ x) o.shaking ∙ short-front (w.rest ++ x) (omega (arith, size, due))

-- a part of a handshake is kept
pub after-shake-part : (x y : List ℕ) (w : Wire) → OneShake (x ++ y) w → 0 < length y → after w x ≡ joined x w
after-shake-part x y w o due = after_part w x o.running (omega (arith, o.bounded, length-append x y)) (part-lacks x y w o due)

pub shake-rest : (x y : List ℕ) (w : Wire) → OneShake (x ++ y) w → 0 < length y → OneShake y (joined x w)
shake-rest x y w o due = record {
  running = o.running;
  shaking = o.shaking;
  whole = append_assoc w.rest x y ∙ o.whole;
  due = due;
  bounded = omega (arith, o.bounded, length-append x y);
}

pub shake-settled : (bytes : List ℕ) (w : Wire) → OneShake bytes w → IsSettled w
shake-settled bytes w o = after-shake-part [] bytes w o o.due ∙ joined-nothing w

shake-not-command : Shake ≢ Command
shake-not-command e = cc

-- no fault comes before the handshake's end, nor at it
no-fault : (x y : List ℕ) (w v : Wire) → OneShake (x ++ y) w → Faults w x v → ⊥
no-fault x y w v o f =
    let e : x ++ y ≡ f.before ++ (f.last ∷ (f.behind ++ y)) =
    ap (λ b. b ++ y) f.split ∙ append_assoc f.before (f.last ∷ f.behind) y in
    let o1 : OneShake (f.before ++ (f.last ∷ (f.behind ++ y))) w = subst (λ b. OneShake b w) e o in
    let kept : after w f.before ≡ joined f.before w = after-shake-part f.before (f.last ∷ (f.behind ++ y)) w o1 (omega arith) in
    shake-not-command (sym o.shaking ∙ (sym (ap (λ u. u.phase) kept) ∙ f.fault.commanding))

part : (broke : Type 0) (x y : List ℕ) (w v : Wire) → OneShake (x ++ y) w → 0 < length y → (v ≡ after w x) ⊎ (broke × Faults w x v) → OneShake y v
part broke x y w v o due (inl e) = subst (OneShake y) (sym (e ∙ after-shake-part x y w o due)) (shake-rest x y w o due)
part broke x y w v o due (inr f) = absurd (no-fault x y w v o f.1)

-- a part of the handshake leads to what is still to come of it
pub shake-part : (broke : Type 0) (x y : List ℕ) (w v : Wire) → OneShake (x ++ y) w → 0 < length y → GoesBy broke w x v → OneShake y v
unfolding GoesBy
shake-part broke x y w v o due g = part broke x y w v o due g

abbrev greeting : List ℕ → Option (Item × List ℕ)
greeting four = Some (Greeting four, [])

whole-front : (bytes : List ℕ) (w : Wire) → OneShake bytes w → front w.phase (w.rest ++ bytes) ≡ greeting (handshake 1)
whole-front bytes w o = shaking-front w.phase (w.rest ++ bytes) o.shaking ∙ ap (front Shake) o.whole

-- the state after a handshake
abbrev pub shaken : ℕ → Wire → Wire
shaken n w = record w { phase = Command; rest = []; taken = w.taken + n }

whole : (broke : Type 0) (bytes : List ℕ) (w v : Wire) → OneShake bytes w → (v ≡ after w bytes) ⊎ (broke × Faults w bytes v) → v ≡ shaken (length bytes) w
whole broke bytes w v o (inl e) = e ∙ after_item w bytes (Greeting (handshake 1)) o.running o.bounded (whole-front bytes w o)
whole broke bytes w v o (inr f) = absurd (no-fault-whole f.1)
  where
    no-fault-whole : Faults w bytes v → ⊥
    no-fault-whole g =
        let o1 : OneShake (g.before ++ g.last ∷ g.behind) w = subst (λ b. OneShake b w) g.split o in
        let kept : after w g.before ≡ joined g.before w = after-shake-part g.before (g.last ∷ g.behind) w o1 (omega arith) in
        shake-not-command (sym o.shaking ∙ (sym (ap (λ u. u.phase) kept) ∙ g.fault.commanding))

-- the whole handshake leads to where commands are awaited, and nothing breaks
pub shake-whole : (broke : Type 0) (bytes : List ℕ) (w v : Wire) → OneShake bytes w → GoesBy broke w bytes v → v ≡ shaken (length bytes) w
unfolding GoesBy
shake-whole broke bytes w v o g = whole broke bytes w v o g

-- where a connection begins the handshake is still to come
pub fresh-shake : (dev : Dev) → OneShake (handshake 1) (fresh dev)
fresh-shake dev = record { running = refl; shaking = refl; whole = refl; due = omega arith; bounded = omega arith }

same-device : (broke : Type 0) (x y : List ℕ) (w v : Wire) → OneShake (x ++ y) w → 0 < length y → (v ≡ after w x) ⊎ (broke × Faults w x v) → v.device ≡ w.device
same-device broke x y w v o due (inl e) = ap (λ u. u.device) (e ∙ after-shake-part x y w o due)
same-device broke x y w v o due (inr f) = absurd (no-fault x y w v o f.1)

-- a part of it leaves the device as it was
pub shake-same : (broke : Type 0) (x y : List ℕ) (w v : Wire) → OneShake (x ++ y) w → 0 < length y → GoesBy broke w x v → v.device ≡ w.device
unfolding GoesBy
shake-same broke x y w v o due g = same-device broke x y w v o due g
