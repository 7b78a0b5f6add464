-- A session that took bytes, as a state that follows from them.
use Rattle.std.proofs.Common.{◌≡◌, ℕ, ◌+◌, ◌^◌, ◌≤◌, Bool, true, false, not, List, [], ◌++◌, length, Option, Some, is_some, refl, sym, ap, subst, ◌∙◌, append-nil}
use Rattle.std.specs.Prelude.{IsTrue, if◌then◌else◌}
use Rattle.fb_frame.specs.Greeting.{read_handshake}
use Rattle.fb_message.specs.declared.reply.Reply.TheVariants.{Okay, Fail}
use Rattle.dev_disk.specs.Disks.{DiskTold}
use Rattle.dev_model.specs.declared.device.Dev.{Dev}
use Rattle.dev_model.specs.Partitions.{is_fastboot}
use Rattle.dev_store.specs.Held.{image_of, seen}
use Rattle.wire_model.specs.Wire as wire
use Rattle.wire_model.specs.Wire.{Wire, Phase, Greeting, TooLong, Payload, received, paid, heard, joined, limited, too_long, after}
use Rattle.wire_model.proofs.AtLimit.{part_up_to, item_up_to}
use Rattle.wire_told.proofs.Going.{goes-after}
use Rattle.device_engine.specs.Replied.{reply_frame}
use Rattle.device_engine.specs.Running.{held_of, IsInOrder, HasDevice}
use Rattle.device_session.specs.declared.responder.Responder.{Responder}
use Rattle.device_session.specs.Inlets.{Inflow, IsPart, IsShaken, IsTooLong, IsFilled}
use Rattle.device_session.specs.Answering.{side, Side}
use Rattle.device_session.specs.Living.{live_of, is_over, Feeds}
use Rattle.device_session.proofs.StillLemmas.{has-device}
use Rattle.device_session.proofs.HeardLemmas.{over, limited-over, greeted-as, one-reply, received-as}

-- the wire state of a device, of what came in, and of the outbox
abbrev pub now : Dev → Inflow → List ℕ → Bool → Wire
now dev inflow out closed = record {
  device = dev;
  loaded = inflow.loaded;
  phase = inflow.phase;
  rest = inflow.rest;
  taken = inflow.taken;
  out = out;
  closed = closed;
}

-- what the session was before
abbrev pub first : {K : Type 0} → Responder K → Inflow → Wire
first r i = now (held_of r.device).device i r.outbox false

-- bytes that lead to a state, up to the limit
pub leads : {K : Type 0} (told : K → DiskTold) (r s : Responder K) (i j : Inflow) (bytes : List ℕ) (closes : Bool) (dev : Dev) →
    after (first r i) bytes ≡ limited (now dev j s.outbox closes) → (closes ≡ true → j.rest ≡ []) →
    HasDevice told (held_of s.device) (seen (image_of told (held_of s.device)) dev) →
    Feeds told (live_of r i false) (live_of s j (is_over closes j.taken)) bytes
leads told r s i j bytes closes dev e shut has =
    let v : Wire = now dev j s.outbox closes in
    let held = held_of s.device in
    let state : after (first r i) bytes ≡ over (is_over closes j.taken) v = e ∙ limited-over closes v refl shut in
    record {
      running = refl;
      state = after (first r i) bytes;
      goes = goes-after _ (first r i) bytes;
      comes = record {
        same = ap (λ (u : Wire). record u { device = held.device }) (sym state);
        device = subst (λ (d : Dev). HasDevice told held (seen (image_of told held) d)) (ap (λ (u : Wire). u.device) (sym state)) has;
      };
    }

-- what is kept where nothing was run
pub record Stays {K : Type 0} (r s : Responder K) (out : List ℕ) (i j : Inflow) : Type 0 where
  pub device : held_of s.device ≡ held_of r.device
  pub outbox : s.outbox ≡ r.outbox ++ out
  pub inflow : j ≡ i

stays : {K : Type 0} (r s : Responder K) (out : List ℕ) (i j : Inflow) → side s j ≡ side (record r { outbox = r.outbox ++ out }) i → Stays r s out i j
stays r s out i j e = record {
  device = ap (λ (x : Side _). held_of x.responder.device) e;
  outbox = ap (λ (x : Side _). x.responder.outbox) e;
  inflow = ap (λ (x : Side _). x.inflow) e;
}

stays-same : {K : Type 0} (r s : Responder K) (i j : Inflow) → side s j ≡ side r i → Stays r s [] i j
stays-same r s i j e = record {
  device = ap (λ (x : Side _). held_of x.responder.device) e;
  outbox = ap (λ (x : Side _). x.responder.outbox) e ∙ sym (append-nil r.outbox);
  inflow = ap (λ (x : Side _). x.inflow) e;
}

-- the same where nothing was run
quietly : {K : Type 0} (told : K → DiskTold) (r s : Responder K) (i k j : Inflow) (out bytes : List ℕ) (closes : Bool) →
    IsTrue (is_fastboot (held_of r.device).device.mode) → IsInOrder told (held_of r.device) → Stays r s out k j →
    after (first r i) bytes ≡ limited (now (held_of r.device).device k (r.outbox ++ out) closes) → (closes ≡ true → k.rest ≡ []) →
    Feeds told (live_of r i false) (live_of s j (is_over closes j.taken)) bytes
quietly told r s i k j out bytes closes f o same e shut =
    leads told r s i j bytes closes (held_of r.device).device
    (e ∙ ap limited (ap (λ (l : List ℕ). now (held_of r.device).device k l closes) (sym same.outbox) ∙ ap (λ (x : Inflow). now (held_of r.device).device x s.outbox closes) (sym same.inflow)))
    (λ c. ap (λ (x : Inflow). x.rest) same.inflow ∙ shut c)
    (subst (λ h. HasDevice told h (seen (image_of told h) (held_of r.device).device)) (sym same.device) (has-device told (held_of r.device) f o))

pub feeds-more : {K : Type 0} (told : K → DiskTold) (r s : Responder K) (i k j : Inflow) (bytes : List ℕ) (closes : Bool) →
    IsTrue (is_fastboot (held_of r.device).device.mode) → IsInOrder told (held_of r.device) → i.taken + length bytes ≤ 2 ^ 62 →
    IsPart i k bytes → k.taken ≡ i.taken + length bytes → side s j ≡ side r k → closes ≡ false →
    Feeds told (live_of r i false) (live_of s j (is_over closes j.taken)) bytes
feeds-more told r s i k j bytes closes f o limit p t e c =
    let w = first r i in
    let same : joined bytes w ≡ now (held_of r.device).device k (r.outbox ++ []) closes =
    let out : r.outbox ++ [] ≡ r.outbox = append-nil r.outbox in
    let rest = p.rest in let phase = p.phase in let loaded = p.loaded in cc in
    quietly told r s i k j [] bytes closes f o (stays-same r s k j e) (part_up_to w bytes refl limit p.none ∙ ap limited same)
    (λ d. absurd cc)

pub feeds-greeting : {K : Type 0} (told : K → DiskTold) (r s : Responder K) (i k j : Inflow) (bytes : List ℕ) (good closes : Bool) →
    IsTrue (is_fastboot (held_of r.device).device.mode) → IsInOrder told (held_of r.device) → i.taken + length bytes ≤ 2 ^ 62 →
    IsShaken i k bytes good → k.taken ≡ i.taken + length bytes → side s j ≡ side r k → closes ≡ not good →
    Feeds told (live_of r i false) (live_of s j (is_over closes j.taken)) bytes
feeds-greeting told r s i k j bytes good closes f o limit p t e c =
    let w = first r i in
    let h : Option ℕ = read_handshake p.four in
    let out : r.outbox ++ [] ≡ r.outbox = append-nil r.outbox in
    let phase : k.phase ≡ (if is_some h then wire.Command else i.phase) = p.phase ∙ ap (λ b. if b then wire.Command else i.phase) p.good_one in
    let closing : closes ≡ not (is_some h) = c ∙ ap not p.good_one in
    let led : record (heard (Greeting p.four) w) { rest = []; taken = i.taken + length bytes }
    ≡ record w { phase = if is_some h then wire.Command else i.phase; closed = not (is_some h); rest = []; taken = i.taken + length bytes } =
    ap (λ (u : Wire). record u { rest = []; taken = i.taken + length bytes }) (sym (greeted-as h w refl)) in
    let same : record w { phase = if is_some h then wire.Command else i.phase; closed = not (is_some h); rest = []; taken = i.taken + length bytes }
    ≡ now (held_of r.device).device k (r.outbox ++ []) closes =
    let rest = p.rest in let loaded = p.loaded in cc in
    quietly told r s i k j [] bytes closes f o (stays-same r s k j e) (item_up_to w bytes (Greeting p.four) refl limit p.item ∙ ap limited (led ∙ same))
    (λ d. p.rest)

pub feeds-long : {K : Type 0} (told : K → DiskTold) (r s : Responder K) (i k j : Inflow) (bytes : List ℕ) (closes : Bool) →
    IsTrue (is_fastboot (held_of r.device).device.mode) → IsInOrder told (held_of r.device) → i.taken + length bytes ≤ 2 ^ 62 →
    IsTooLong i k bytes → k.taken ≡ i.taken + length bytes → side s j ≡ side (record r { outbox = r.outbox ++ reply_frame (Fail (too_long k.phase)) }) k → closes ≡ true →
    Feeds told (live_of r i false) (live_of s j (is_over closes j.taken)) bytes
feeds-long told r s i k j bytes closes f o limit p t e c =
    let w = first r i in
    let text : reply_frame (Fail (too_long k.phase)) ≡ reply_frame (Fail (too_long i.phase)) = ap (λ (ph : Phase). reply_frame (Fail (too_long ph))) p.phase in
    let led : record (heard TooLong w) { rest = []; taken = i.taken + length bytes }
    ≡ record w { out = r.outbox ++ reply_frame (Fail (too_long i.phase)); closed = true; rest = []; taken = i.taken + length bytes } =
    ap (λ (u : Wire). record u { closed = true; rest = []; taken = i.taken + length bytes }) (sym (one-reply (Fail (too_long i.phase)) w)) in
    let same : record w { out = r.outbox ++ reply_frame (Fail (too_long i.phase)); closed = true; rest = []; taken = i.taken + length bytes }
    ≡ now (held_of r.device).device k (r.outbox ++ reply_frame (Fail (too_long k.phase))) closes =
    let rest = p.rest in let phase = p.phase in let loaded = p.loaded in cc in
    quietly told r s i k j (reply_frame (Fail (too_long k.phase))) bytes closes f o (stays r s _ k j e)
    (item_up_to w bytes TooLong refl limit p.item ∙ ap limited (led ∙ same)) (λ d. p.rest)

pub feeds-data : {K : Type 0} (told : K → DiskTold) (r s : Responder K) (i k j : Inflow) (bytes : List ℕ) (whole closes : Bool) →
    IsTrue (is_fastboot (held_of r.device).device.mode) → IsInOrder told (held_of r.device) → i.taken + length bytes ≤ 2 ^ 62 →
    IsFilled i k bytes whole → k.taken ≡ i.taken + length bytes →
    side s j ≡ side (record r { outbox = r.outbox ++ (if whole then reply_frame (Okay []) else []) }) k → closes ≡ false →
    Feeds told (live_of r i false) (live_of s j (is_over closes j.taken)) bytes
feeds-data told r s i k j bytes whole closes f o limit p t e c =
    let w = first r i in
    let got : List ℕ = p.got ++ p.payload in
    let out : List ℕ = if whole then reply_frame (Okay []) else [] in
    let led : record (heard (Payload p.payload) w) { rest = []; taken = i.taken + length bytes }
    ≡ record (received p.count got w) { rest = []; taken = i.taken + length bytes } =
    ap (λ (ph : Phase). record (paid ph p.payload w) { rest = []; taken = i.taken + length bytes }) p.awaited in
    let came : record (received p.count got w) { rest = []; taken = i.taken + length bytes }
    ≡ record w { loaded = if whole then Some got else i.loaded; phase = if whole then wire.Command else wire.Data p.count got; out = r.outbox ++ out; rest = []; taken = i.taken + length bytes } =
    ap (λ (u : Wire). record u { rest = []; taken = i.taken + length bytes }) (sym (received-as whole p.count got w p.received.all)) in
    let same : record w { loaded = if whole then Some got else i.loaded; phase = if whole then wire.Command else wire.Data p.count got; out = r.outbox ++ out; rest = []; taken = i.taken + length bytes }
    ≡ now (held_of r.device).device k (r.outbox ++ out) closes =
    let rest = p.received.rest in let phase = p.received.phase in let loaded = p.received.loaded in cc in
    quietly told r s i k j out bytes closes f o (stays r s _ k j e)
    (item_up_to w bytes (Payload p.payload) refl limit p.item ∙ ap limited (led ∙ (came ∙ same))) (λ d. p.received.rest)
