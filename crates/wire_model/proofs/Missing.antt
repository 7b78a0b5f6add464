-- Data is awaited only where some of it is missing.
use Rattle.std.proofs.Common.{◌≡◌, ◌≢◌, ◌⊎◌, inl, inr, ℕ, zero, suc, ◌+◌, ◌-◌, ◌^◌, ◌<◌, ◌≤◌, Bool, true, false, cond, Option, Some, None, List, [], ◌∷◌, ◌++◌, take, drop, length, refl, sym, subst, arith, length-append, length-take}
use Rattle.std.specs.Prelude.{nat_lt, nat_le, ◌==◌, if◌then◌else◌}
use Rattle.std.proofs.lemmas.Bool.Decides.{nat_tests}
use Rattle.fb_frame.specs.Greeting.{read_handshake}
use Rattle.fb_frame.specs.Framing.{announced, lacks_head, lacks_frame, first_payload, behind_frame}
use Rattle.fb_message.specs.declared.reply.Reply.{Reply}
use Rattle.fb_message.specs.declared.reply.Reply.TheVariants.{Okay, Fail, Info, Text, Load}
use Rattle.fb_message.specs.CommandText.{command_of}
use Rattle.wire_model.specs.Says.{Said, says}
use Rattle.wire_model.specs.Wire.{Wire, Phase, Shake, Command, Data, Item, Greeting, TooLong, Payload, front, with_replies, greeted, received, awaited, answered, paid, heard, shut, next, settled, joined, limited, takes, after}
use Rattle.wire_model.specs.Laws.{IsMissing, AfterKeepsMissing}
use Rattle.wire_model.proofs.InParts.{frame-inverse, is-within, Rest}

less-still : (got : List ℕ) (count : ℕ) → length got ≤ count → (length got == count) ≡ false → length got < count
less-still got count h e = let k : length got ≢ count = grind (arith, nat_tests) in omega (arith, h, k)

received-missing : (count : ℕ) (got : List ℕ) (w : Wire) → length got ≤ count → IsMissing (received count got w).phase
received-missing count got w h = pick (length got == count) refl
  where
    pick : (b : Bool) → (length got == count) ≡ b →
        IsMissing (cond (length got == count) (record (with_replies (Okay [] ∷ []) w) { loaded = Some got; phase = Command }) (record w { phase = Data count got })).phase
    pick true e = subst (λ b. IsMissing (cond b (record (with_replies (Okay [] ∷ []) w) { loaded = Some got; phase = Command }) (record w { phase = Data count got })).phase) (sym e) tt
    pick false e = subst (λ b. IsMissing (cond b (record (with_replies (Okay [] ∷ []) w) { loaded = Some got; phase = Command }) (record w { phase = Data count got })).phase) (sym e) (less-still got count h e)

awaited-missing : (replies : List Reply) (w : Wire) → IsMissing w.phase → IsMissing (awaited replies w).phase
awaited-missing [] w h = h
awaited-missing (Load count ∷ replies) w h = received-missing count [] w (omega arith)
awaited-missing (Okay text ∷ replies) w h = h
awaited-missing (Fail text ∷ replies) w h = h
awaited-missing (Info text ∷ replies) w h = h
awaited-missing (Text text ∷ replies) w h = h

answered-missing : (said : Said) (w : Wire) → IsMissing w.phase → IsMissing (answered said w).phase
answered-missing said w h =
    awaited-missing said.replies (record (with_replies said.replies w) { device = said.device; loaded = said.loaded; closed = said.closed }) h

-- an item that stands at the front has at most as much data as is missing
abbrev Suits : Phase → Item → Type 0
Suits (Data count got) (Payload payload) = length payload ≤ count - length got
Suits _ item = Unit {0}

frame-suits : (count : ℕ) (got r : List ℕ) (found : Item × List ℕ) →
    (lacks_head r ≡ false) × (((nat_lt (count - length got) (announced r) ≡ true) × (Rest (TooLong, drop 8 r) found)) ⊎ ((nat_lt (count - length got) (announced r) ≡ false) × (lacks_frame r ≡ false) × Rest (Payload (first_payload r), behind_frame r) found)) →
    Suits (Data count got) found.0
frame-suits count got r found (h, inl (g, e)) = subst (λ f. Suits (Data count got) f.0) e tt
frame-suits count got r found (h, inr (g, d, e)) =
    subst (λ f. Suits (Data count got) f.0) e (omega (arith, is-within (count - length got) (announced r) g, length-take (announced r) (drop 8 r)))

front-suits : (ph : Phase) (r : List ℕ) (found : Item × List ℕ) → front ph r ≡ Some found → Suits ph found.0
front-suits Shake r found e = tt
front-suits Command r found e = tt
front-suits (Data count got) r found e = frame-suits count got r found (frame-inverse _ _ _ _ _ found e)

paid-missing : (ph : Phase) (payload : List ℕ) (w : Wire) → Suits ph (Payload payload) → IsMissing ph → IsMissing w.phase → IsMissing (paid ph payload w).phase
paid-missing Shake payload w s m h = h
paid-missing Command payload w s m h = answered-missing (says w.device w.loaded (command_of payload)) w h
paid-missing (Data count got) payload w s m h = received-missing count (got ++ payload) w (omega (arith, s, m, length-append got payload))

greeted-missing : (o : Option ℕ) (w : Wire) → IsMissing w.phase → IsMissing (greeted o w).phase
greeted-missing None w h = h
greeted-missing (Some version) w h = tt

heard-missing : (item : Item) (w : Wire) → Suits w.phase item → IsMissing w.phase → IsMissing (heard item w).phase
heard-missing (Greeting four) w s h = greeted-missing (read_handshake four) w h
heard-missing TooLong w s h = h
heard-missing (Payload payload) w s h = paid-missing w.phase payload w s h h

abbrev Kept : (Wire → Wire) → Type 0
Kept onward = (w : Wire) → IsMissing w.phase → IsMissing (onward w).phase

chosen-missing : (b : Bool) (f g : Wire → Wire) → Kept f → Kept g → (w : Wire) → IsMissing w.phase → IsMissing ((if b then f else g) w).phase
chosen-missing true f g p q w h = p w h
chosen-missing false f g p q w h = q w h

next-missing : (onward : Wire → Wire) → Kept onward → (o : Option (Item × List ℕ)) (w : Wire) → front w.phase w.rest ≡ o → IsMissing w.phase → IsMissing (next onward o w).phase
next-missing onward p None w e h = h
next-missing onward p (Some found) w e h =
    chosen-missing (heard found.0 w).closed (shut found.1) (λ u. onward (record u { rest = found.1 })) (λ u k. k)
    (λ u k. p (record u { rest = found.1 }) k) (heard found.0 w) (heard-missing found.0 w (front-suits w.phase w.rest found e) h)

settled-missing : (n : ℕ) → Kept (settled n)
settled-missing zero w h = h
settled-missing (suc n) w h = next-missing (settled n) (settled-missing n) (front w.phase w.rest) w refl h

limited-missing : (w : Wire) → IsMissing w.phase → IsMissing (limited w).phase
limited-missing w h =
    elim (nat_le (2 ^ 62) w.taken) as (λ b. IsMissing (if b then record w { rest = []; closed = true } else w).phase) [ true ↦ h | false ↦ h ]

takes-missing : (bytes : List ℕ) → Kept (takes bytes)
takes-missing bytes w h =
    limited-missing (settled (length w.rest + length bytes) (joined bytes w)) (settled-missing (length w.rest + length bytes) (joined bytes w) h)

pub after_keeps_missing : AfterKeepsMissing
unfolding after
after_keeps_missing w bytes h =
    chosen-missing w.closed (λ v. v) (takes (take (2 ^ 62 - w.taken) bytes)) (λ u k. k) (takes-missing (take (2 ^ 62 - w.taken) bytes)) w h
