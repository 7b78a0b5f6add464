-- What a session makes of what came in, as the message machine has it.
use Rattle.std.proofs.Common.{◌≡◌, ℕ, zero, suc, ◌^◌, Bool, true, false, not, ◌||◌, nat_le, nat_eq, List, [], ◌∷◌, ◌++◌, length, Option, Some, None, is_some, refl, sym, ap, ◌∙◌, arith, append-nil}
use Rattle.std.specs.Prelude.{if◌then◌else◌}
use Rattle.std.proofs.lemmas.Bool.Decides.{nat_tests}
use Rattle.fb_message.specs.declared.reply.Reply.{Reply}
use Rattle.fb_message.specs.declared.reply.Reply.TheVariants.{Okay, Fail}
use Rattle.fb_message.specs.declared.reply.Reply.TheVariants as reply
use Rattle.wire_model.specs.Answers.{due_of}
use Rattle.wire_model.specs.Says.{Loaded, Said}
use Rattle.wire_model.specs.Wire as wire
use Rattle.wire_model.specs.Wire.{Wire, Phase, with_replies, greeted, received, awaited, answered, limited}
use Rattle.device_engine.specs.Replied.{reply_frame}
use Rattle.device_engine.specs.Running.{loaded_then}
use Rattle.device_session.specs.Inlets.{Inflow}
use Rattle.device_session.specs.Answering.{ended, AwaitsData, AwaitsDue}
use Rattle.device_session.specs.Living.{is_over}

-- a connection that is over has no rest and is closed
abbrev pub over : Bool → Wire → Wire
over b w = record w { rest = if b then [] else w.rest; closed = b }

shut-either : (closes b : Bool) (w : Wire) → w.closed ≡ closes → (closes ≡ true → w.rest ≡ []) →
    (if b then record w { rest = []; closed = true } else w) ≡ over (closes || b) w
shut-either true true w e r = refl
shut-either false true w e r = refl
shut-either true false w e r = ap (λ (l : List ℕ). record w { rest = l; closed = w.closed }) (r refl) ∙ ap (λ (c : Bool). record w { rest = []; closed = c }) e
shut-either false false w e r = ap (λ (c : Bool). record w { closed = c }) e

-- the limit closes, and so does what came
pub limited-over : (closes : Bool) (w : Wire) → w.closed ≡ closes → (closes ≡ true → w.rest ≡ []) → limited w ≡ over (is_over closes w.taken) w
limited-over closes w e r = shut-either closes (nat_le (2 ^ 62) w.taken) w e r

-- the wire state of a device's outbox, and of what came in
abbrev pub heard_as : Wire → Inflow → List ℕ → Bool → Wire
heard_as w inflow out closes = record w { loaded = inflow.loaded; phase = inflow.phase; rest = inflow.rest; taken = inflow.taken; out = out; closed = closes }

-- what follows from a handshake
pub greeted-as : (o : Option ℕ) (w : Wire) → w.closed ≡ false →
    record w { phase = if is_some o then wire.Command else w.phase; closed = not (is_some o) } ≡ greeted o w
greeted-as None w e = refl
greeted-as (Some version) w e = ap (λ (c : Bool). record w { phase = wire.Command; closed = c }) (sym e)

-- a reply behind what is in the outbox
pub one-reply : (reply : Reply) (w : Wire) → record w { out = w.out ++ reply_frame reply } ≡ with_replies (reply ∷ []) w
one-reply reply w = ap (λ (l : List ℕ). record w { out = w.out ++ l }) (sym (append-nil (reply_frame reply)))

chosen-received : (b : Bool) (count : ℕ) (got : List ℕ) (w : Wire) →
    record w { loaded = if b then Some got else w.loaded; phase = if b then wire.Command else wire.Data count got; out = w.out ++ (if b then reply_frame (Okay []) else []) }
    ≡ (if b then record (with_replies (Okay [] ∷ []) w) { loaded = Some got; phase = wire.Command } else record w { phase = wire.Data count got })
chosen-received true count got w = ap (λ (v : Wire). record v { loaded = Some got; phase = wire.Command }) (one-reply (Okay []) w)
chosen-received false count got w = ap (λ (l : List ℕ). record w { phase = wire.Data count got; out = l }) (append-nil w.out)

-- what follows from a frame of data
pub received-as : (b : Bool) (count : ℕ) (got : List ℕ) (w : Wire) → b ≡ nat_eq (length got) count →
    record w { loaded = if b then Some got else w.loaded; phase = if b then wire.Command else wire.Data count got; out = w.out ++ (if b then reply_frame (Okay []) else []) }
    ≡ received count got w
received-as b count got w e =
    chosen-received b count got w
    ∙ ap (λ c. if c then record (with_replies (Okay [] ∷ []) w) { loaded = Some got; phase = wire.Command } else record w { phase = wire.Data count got }) e

no-due : (replies : List Reply) (w : Wire) → due_of replies ≡ None → w ≡ awaited replies w
no-due [] w e = refl
no-due (Okay text ∷ replies) w e = refl
no-due (Fail text ∷ replies) w e = refl
no-due (reply.Info text ∷ replies) w e = refl
no-due (reply.Text text ∷ replies) w e = refl
no-due (reply.Load count ∷ replies) w e = absurd cc

some-due : (replies : List Reply) (count : ℕ) (w : Wire) → due_of replies ≡ Some count → received count [] w ≡ awaited replies w
some-due [] count w e = absurd cc
some-due (reply.Load n ∷ replies) count w e = let same : count ≡ n = cc in ap (λ k. received k [] w) same
some-due (Okay text ∷ replies) count w e = absurd cc
some-due (Fail text ∷ replies) count w e = absurd cc
some-due (reply.Info text ∷ replies) count w e = absurd cc
some-due (reply.Text text ∷ replies) count w e = absurd cc

-- a state with these
abbrev pub made : Wire → Loaded → Phase → List ℕ → Wire
made v loaded phase out = record v { loaded = loaded; phase = phase; out = out }

made-same : (v : Wire) (k l : Loaded) (p q : Phase) (x y : List ℕ) → k ≡ l → p ≡ q → x ≡ y → made v k p x ≡ made v l q y
made-same v k l p q x y e f g = ap (λ i. made v i p x) e ∙ (ap (λ i. made v l i x) f ∙ ap (λ i. made v l q i) g)

-- data is due: none of it, or some
due-as : (count : ℕ) (before after : Inflow) (v : Wire) → v.phase ≡ wire.Command → v.loaded ≡ None → AwaitsData count before after →
    made v after.loaded after.phase (ended (Some count) v.out) ≡ received count [] v
due-as zero before after v p l a =
    made-same v after.loaded (Some []) after.phase wire.Command _ _
    (a.received.loaded ∙ ap (λ b. if b then Some [] else None) a.received.all) (a.received.phase ∙ ap (λ b. if b then wire.Command else wire.Data 0 []) a.received.all)
    (ap (λ (t : List ℕ). v.out ++ t) (sym (append-nil (reply_frame (Okay [])))))
due-as (suc count) before after v p l a =
    let none : nat_eq 0 (suc count) ≡ false = grind (arith, nat_tests) in
    made-same v after.loaded v.loaded after.phase (wire.Data (suc count) []) _ _
    (a.received.loaded ∙ (ap (λ b. if b then Some [] else None) (a.received.all ∙ none) ∙ sym l))
    (a.received.phase ∙ ap (λ b. if b then wire.Command else wire.Data (suc count) []) (a.received.all ∙ none)) refl
    ∙ ap (λ b. if b then record (with_replies (Okay [] ∷ []) v) { loaded = Some []; phase = wire.Command } else record v { phase = wire.Data (suc count) [] }) (sym none)

-- what is due and awaited after an answer
awaits-as : (due : Option ℕ) (before after : Inflow) (v : Wire) (replies : List Reply) → due ≡ due_of replies → before.phase ≡ wire.Command → v.phase ≡ wire.Command →
    v.loaded ≡ loaded_then due before.loaded → AwaitsDue due before after → made v after.loaded after.phase (ended due v.out) ≡ awaited replies v
awaits-as None before after v replies e p q l a =
    made-same v after.loaded v.loaded after.phase v.phase v.out v.out (ap (λ (i : Inflow). i.loaded) a ∙ sym l) (ap (λ (i : Inflow). i.phase) a ∙ (p ∙ sym q)) refl
    ∙ no-due replies v (sym e)
awaits-as (Some count) before after v replies e p q l a = due-as count before after v q l a ∙ some-due replies count v (sym e)

-- what follows from an answer
pub answered-as : (said : Said) (w : Wire) (due : Option ℕ) (before after : Inflow) → due ≡ due_of said.replies → before.phase ≡ wire.Command → w.phase ≡ wire.Command →
    said.loaded ≡ loaded_then due before.loaded → AwaitsDue due before after →
    (let v : Wire = record (with_replies said.replies w) { device = said.device; loaded = said.loaded; closed = said.closed } in
    made v after.loaded after.phase (ended due v.out) ≡ answered said w)
answered-as said w due before after e p q l a =
    let v : Wire = record (with_replies said.replies w) { device = said.device; loaded = said.loaded; closed = said.closed } in
    awaits-as due before after v said.replies e p q l a
