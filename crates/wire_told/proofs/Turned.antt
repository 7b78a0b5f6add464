-- What a host keeps is what `send` asks for.
use Rattle.std.proofs.Common.{◌≡◌, ◌≢◌, inl, inr, ℕ, ◌<◌, ◌≤◌, Bool, true, false, List, [], ◌∷◌, ◌++◌, length, refl, sym, ◌∙◌, subst, arith, append_assoc}
use Rattle.std.specs.Prelude.{◌&&◌}
use Rattle.std.proofs.lemmas.Bool.Decides.{nat_tests}
use Rattle.fb_frame.specs.Framing.{announced}
use Rattle.wire_model.specs.Wire.{Wire, Phase, Shake, Command, Data, front, joined, after}
use Rattle.wire_told.specs.Turns.{room, head_is_fine, heads_are_fine, IsTurn, IsSettled}
use Rattle.wire_told.specs.Told.{OneFrame, OneShake, OneWhole, IsFront}
use Rattle.wire_model.proofs.InParts.{in_parts}
use Rattle.wire_told.proofs.OneFrames.{head-told, after-inside, frame-rest, frame-settled}
use Rattle.wire_told.proofs.OneShakes.{after-shake-part, shake-rest, shake-settled}

both : (a b : Bool) → a ≡ true → b ≡ true → (a && b) ≡ true
both a b p q = grind (arith, nat_tests)

-- a head that tells a length within these bounds is fine
fits : (phase : Phase) (begun : List ℕ) (n : ℕ) → phase ≢ Shake → (8 ≤ length begun → announced begun ≡ n) → 0 < n → n ≤ room phase → n ≤ 65536 → head_is_fine phase begun ≡ true
fits Shake begun n s h l r k = refl
fits Command begun n s h l r k = grind (arith, nat_tests)
fits (Data count got) begun n s h l r k = grind (arith, nat_tests)

byte-fine : (p : List ℕ) (b : ℕ) (bytes : List ℕ) (w : Wire) → OneFrame p (b ∷ bytes) w → head_is_fine w.phase (w.rest ++ b ∷ []) ≡ true
byte-fine p b bytes w o =
    fits w.phase (w.rest ++ b ∷ []) (length p) o.framed
    (head-told p (w.rest ++ b ∷ []) bytes (omega (arith, o.small)) (append_assoc w.rest (b ∷ []) bytes ∙ o.whole)) o.some o.fits o.small

-- the next bytes of a frame
pub frame-heads : (p bytes more : List ℕ) (w : Wire) → OneFrame p (bytes ++ more) w → heads_are_fine w bytes ≡ true
unfolding heads_are_fine
frame-heads p [] more w o = refl
frame-heads p (b ∷ []) more w o = both _ _ (byte-fine p b more w o) refl
frame-heads p (b ∷ c ∷ cs) more w o =
    both _ _ (byte-fine p b (c ∷ (cs ++ more)) w o)
    (subst (λ u. heads_are_fine u (c ∷ cs) ≡ true) (sym (after-inside p (b ∷ []) (c ∷ (cs ++ more)) w o (omega arith)))
    (frame-heads p (c ∷ cs) more (joined (b ∷ []) w) (frame-rest p (b ∷ []) (c ∷ (cs ++ more)) w o (omega arith))))

-- where a handshake is awaited there is no head
shake-fine : (ph : Phase) (begun : List ℕ) → ph ≡ Shake → head_is_fine ph begun ≡ true
shake-fine Shake begun e = refl
shake-fine Command begun e = cc
shake-fine (Data count got) begun e = cc

pub shake-heads : (bytes more : List ℕ) (w : Wire) → OneShake (bytes ++ more) w → heads_are_fine w bytes ≡ true
unfolding heads_are_fine
shake-heads [] more w o = refl
shake-heads (b ∷ []) more w o = both _ _ (shake-fine w.phase (w.rest ++ b ∷ []) o.shaking) refl
shake-heads (b ∷ c ∷ cs) more w o =
    both _ _ (shake-fine w.phase (w.rest ++ b ∷ []) o.shaking)
    (subst (λ u. heads_are_fine u (c ∷ cs) ≡ true) (sym (after-shake-part (b ∷ []) (c ∷ (cs ++ more)) w o (omega arith)))
    (shake-heads (c ∷ cs) more (joined (b ∷ []) w) (shake-rest (b ∷ []) (c ∷ (cs ++ more)) w o (omega arith))))

turn-of : (bytes more : List ℕ) (w : Wire) → OneWhole (bytes ++ more) w → IsTurn bytes w
turn-of bytes more w (inl o) = record {
  running = o.one.running;
  heard = inr o.one.quiet;
  heads = frame-heads o.payload bytes more w o.one;
  settled = frame-settled o.payload (bytes ++ more) w o.one;
}
turn-of bytes more w (inr o) = record {
  running = o.running;
  heard = inl o.shaking;
  heads = shake-heads bytes more w o;
  settled = shake-settled (bytes ++ more) w o;
}

-- a front of what is still to come may be sent
pub front-turn : (bytes : List ℕ) (w : Wire) → IsFront bytes w → IsTurn bytes w
front-turn bytes w m = turn-of bytes m.more w m.one

-- For who takes the bytes: at each byte of a piece in turn the head that it completes is fine.
first-of : (a b : Bool) → (a && b) ≡ true → a ≡ true
first-of true b e = refl
first-of false b e = e

second-of : (a b : Bool) → (a && b) ≡ true → b ≡ true
second-of true b e = e
second-of false b e = absurd cc

after-settled-byte : (w : Wire) (b : ℕ) → IsSettled (after w (b ∷ []))
after-settled-byte w b = in_parts w (b ∷ []) []

pub heads-at : (w : Wire) (x : List ℕ) (b : ℕ) (y : List ℕ) → IsSettled w → heads_are_fine w (x ++ b ∷ y) ≡ true → head_is_fine (after w x).phase ((after w x).rest ++ b ∷ []) ≡ true
unfolding heads_are_fine
heads-at w [] b y s h = subst (λ u. head_is_fine u.phase (u.rest ++ b ∷ []) ≡ true) (sym s) (first-of _ _ h)
heads-at w (c ∷ x) b y s h =
    subst (λ u. head_is_fine u.phase (u.rest ++ b ∷ []) ≡ true) (in_parts w (c ∷ []) x)
    (heads-at (after w (c ∷ [])) x b y (after-settled-byte w c) (second-of _ _ h))
