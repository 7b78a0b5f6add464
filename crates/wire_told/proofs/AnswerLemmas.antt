-- What a device answers to a command, as a host hears it.
use Rattle.std.proofs.Common.{◌≡◌, ℕ, ◌+◌, ◌^◌, ◌<◌, Bool, true, false, cond, List, [], ◌∷◌, ◌++◌, length, Some, refl, sym, ap, ◌∙◌, append_assoc, append-nil}
use Rattle.std.specs.Prelude.{flat_map, ◌==◌}
use Rattle.std.specs.Int.{w64, from_be_bytes}
use Rattle.std.proofs.lemmas.Nat.{from_be_bytes-to_be_bytes_8}
use Rattle.fb_frame.specs.Framing.{head, frame}
use Rattle.fb_message.specs.declared.reply.Reply.{Reply}
use Rattle.fb_message.specs.declared.reply.Reply.TheVariants.{Okay, Fail, Info, Text, Load}
use Rattle.fb_message.specs.ReplyText.{reply_bytes}
use Rattle.wire_model.specs.Says.{Said}
use Rattle.wire_model.specs.Wire.{Wire, Phase, Command, Data, with_replies, received, awaited, answered, paid}
use Rattle.wire_told.specs.Told.{disk_fault, done}
use Rattle.wire_told.proofs.OneFrames.{IsBroken}
use Rattle.wire_told.proofs.ToldLemmas.{front-same}

-- after DATA there may be an OKAY at once, and the device stays
abbrev Adds : Wire → Wire → Type 0
Adds w v = (v.device ≡ w.device) × (more : List ℕ) × (v.out ≡ w.out ++ more)

adds-nothing : (w : Wire) → Adds w w
adds-nothing w = (refl, [], sym (append-nil w.out))

received-by : (b : Bool) (count : ℕ) (got : List ℕ) (w : Wire) →
    Adds w (cond b (record (with_replies (Okay [] ∷ []) w) { loaded = Some got; phase = Command }) (record w { phase = Data count got }))
received-by true count got w = (refl, frame (reply_bytes (Okay [])) ++ [], refl)
received-by false count got w = (refl, [], sym (append-nil w.out))

received-adds : (count : ℕ) (got : List ℕ) (w : Wire) → Adds w (received count got w)
received-adds count got w = received-by (length got == count) count got w

awaited-adds : (replies : List Reply) (w : Wire) → Adds w (awaited replies w)
awaited-adds [] w = adds-nothing w
awaited-adds (Load count ∷ replies) w = received-adds count [] w
awaited-adds (Okay text ∷ replies) w = adds-nothing w
awaited-adds (Fail text ∷ replies) w = adds-nothing w
awaited-adds (Info text ∷ replies) w = adds-nothing w
awaited-adds (Text text ∷ replies) w = adds-nothing w

abbrev pub bytes_of : List Reply → List ℕ
bytes_of replies = flat_map (λ reply. frame (reply_bytes reply)) replies

pub answered-adds : (said : Said) (w : Wire) → ((answered said w).device ≡ said.device) × (more : List ℕ) × ((answered said w).out ≡ (w.out ++ bytes_of said.replies) ++ more)
answered-adds said w =
    awaited-adds said.replies (record (with_replies said.replies w) { device = said.device; loaded = said.loaded; closed = said.closed })

pub broken-out : (p : List ℕ) (n : ℕ) (w v : Wire) → w.out ≡ [] → IsBroken p n w v → v.out ≡ frame disk_fault ++ []
broken-out p n w v quiet b = ap (λ (x : Wire). x.out) b.state ∙ ap (λ t. t ++ (frame disk_fault ++ [])) quiet

-- two lists that begin with a frame begin with the same one
pub frame-front : (a b x y : List ℕ) → length a < 2 ^ 64 → length b < 2 ^ 64 → frame a ++ x ≡ frame b ++ y → (a ≡ b) × (x ≡ y)
frame-front a b x y s t e =
    let f : head (length a) ++ (a ++ x) ≡ head (length b) ++ (b ++ y) = sym (append_assoc (head (length a)) a x) ∙ (e ∙ append_assoc (head (length b)) b y) in
    let g = front-same (head (length a)) (a ++ x) (head (length b)) (b ++ y) refl f in
    let n : length a ≡ length b = sym (from_be_bytes-to_be_bytes_8 (length a) s) ∙ (ap (from_be_bytes w64) g.0 ∙ from_be_bytes-to_be_bytes_8 (length b) t) in
    front-same a x b y n g.1

pub paid-done : (ph : Phase) (p : List ℕ) (w : Wire) (n : ℕ) → ph ≡ Command → n ≡ length (frame p) → record (paid ph p w) { rest = []; taken = w.taken + n } ≡ done p w
paid-done ph p w n e m = ap (λ q. record (paid q p w) { rest = []; taken = w.taken + n }) e ∙ ap (λ k. record (paid Command p w) { rest = []; taken = w.taken + k }) m
