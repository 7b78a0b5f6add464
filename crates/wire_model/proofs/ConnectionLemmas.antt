-- What a connection hears, as the program goes on with it.
use Rattle.std.proofs.Common.{◌≡◌, ◌≢◌, ℕ, Bool, true, false, cond, List, [], ◌∷◌, ◌++◌, length, Some, None, refl, sym, ap, ◌∙◌, arith}
use Rattle.std.specs.Prelude.{◌==◌}
use Rattle.std.proofs.lemmas.Bool.Decides.{nat_tests}
use Rattle.fb_message.specs.declared.reply.Reply.{Reply}
use Rattle.fb_message.specs.declared.reply.Reply.TheVariants.{Okay, Fail, Info, Text, Load}
use Rattle.wire_model.specs.declared.answer.Answer.{Answer}
use Rattle.wire_model.specs.Answers.{frames_of, due_of, answer_of}
use Rattle.wire_model.specs.Says.{Said}
use Rattle.wire_model.specs.Wire.{Wire, Command, Data, with_replies, fails, received, awaited, answered}

-- FAIL was written
pub fail_written : (text reply out : List ℕ) (w : Wire) → reply ≡ frames_of (Fail text ∷ []) → out ≡ w.out ++ reply →
    record w { out = out; closed = true } ≡ fails text w
unfolding frames_of
fail_written text reply out w e f = ap (λ o. record w { out = o; closed = true }) (f ∙ ap (λ r. w.out ++ r) e)

-- all data has come
pub all_received : (count : ℕ) (got reply out : List ℕ) (w : Wire) → length got ≡ count → reply ≡ frames_of (Okay [] ∷ []) → out ≡ w.out ++ reply →
    record w { loaded = Some got; phase = Command; out = out } ≡ received count got w
unfolding frames_of
all_received count got reply out w h e f = by-test (length got == count) refl
  where
    by-test : (b : Bool) → (length got == count) ≡ b → record w { loaded = Some got; phase = Command; out = out } ≡ received count got w
    by-test true g =
        ap (λ o. record w { loaded = Some got; phase = Command; out = o }) (f ∙ ap (λ r. w.out ++ r) e)
        ∙ sym (ap (λ b. cond b (record (with_replies (Okay [] ∷ []) w) { loaded = Some got; phase = Command }) (record w { phase = Data count got })) g)
    by-test false g = absurd (let k : length got ≢ count = grind (arith, nat_tests) in k h)

-- an answer that awaits no data
no-due : (replies : List Reply) (w : Wire) → due_of replies ≡ None → awaited replies w ≡ w
no-due [] w e = refl
no-due (Load count ∷ replies) w e = absurd cc
no-due (Okay text ∷ replies) w e = refl
no-due (Fail text ∷ replies) w e = refl
no-due (Info text ∷ replies) w e = refl
no-due (Text text ∷ replies) w e = refl

-- an answer that awaits so many bytes
some-due : (replies : List Reply) (count : ℕ) (w : Wire) → due_of replies ≡ Some count → awaited replies w ≡ received count [] w
some-due [] count w e = absurd cc
some-due (Load n ∷ replies) count w e = let same : n ≡ count = cc in ap (λ k. received k [] w) same
some-due (Okay text ∷ replies) count w e = absurd cc
some-due (Fail text ∷ replies) count w e = absurd cc
some-due (Info text ∷ replies) count w e = absurd cc
some-due (Text text ∷ replies) count w e = absurd cc

-- the state behind the frames of an answer
abbrev pub told : Answer → List ℕ → Wire → Wire
told answer out w = record w { device = answer.device; loaded = answer.loaded; out = out; closed = answer.closed }

told-said : (said : Said) (answer : Answer) (out : List ℕ) (w : Wire) → answer ≡ answer_of said → out ≡ w.out ++ answer.out →
    told answer out w ≡ record (with_replies said.replies w) { device = said.device; loaded = said.loaded; closed = said.closed }
unfolding frames_of
told-said said answer out w e f = ap (λ o. told answer o w) f ∙ ap (λ a. told a (w.out ++ a.out) w) e

pub answered_plainly : (said : Said) (answer : Answer) (out : List ℕ) (w : Wire) → answer ≡ answer_of said → out ≡ w.out ++ answer.out → answer.due ≡ None →
    told answer out w ≡ answered said w
answered_plainly said answer out w e f n =
    told-said said answer out w e f
    ∙ sym (no-due said.replies (record (with_replies said.replies w) { device = said.device; loaded = said.loaded; closed = said.closed }) (sym (ap (λ (a : Answer). a.due) e) ∙ n))

pub answered_due : (said : Said) (answer : Answer) (out : List ℕ) (count : ℕ) (w : Wire) → answer ≡ answer_of said → out ≡ w.out ++ answer.out → answer.due ≡ Some count →
    received count [] (told answer out w) ≡ answered said w
answered_due said answer out count w e f n =
    ap (received count []) (told-said said answer out w e f)
    ∙ sym (some-due said.replies count (record (with_replies said.replies w) { device = said.device; loaded = said.loaded; closed = said.closed }) (sym (ap (λ (a : Answer). a.due) e) ∙ n))
