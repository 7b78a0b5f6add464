-- A session that ran a command, as a state that follows from its bytes.
use Rattle.std.proofs.Common.{◌≡◌, ◌≢◌, ◌⊎◌, inl, inr, ℕ, ◌+◌, ◌^◌, ◌<◌, ◌≤◌, Bool, true, false, List, [], ◌∷◌, ◌++◌, length, Option, Some, None, refl, sym, ap, subst, ◌∙◌, arith}
use Rattle.std.specs.Prelude.{IsTrue, codes}
use Rattle.fb_frame.specs.Causes.{Rose}
use Rattle.fb_message.specs.declared.reply.Reply.TheVariants.{Fail}
use Rattle.fb_message.specs.CommandText.{command_of}
use Rattle.dev_disk.specs.Disks.{DiskTold}
use Rattle.dev_model.specs.declared.device.Dev.{Dev}
use Rattle.dev_model.specs.declared.device.Mode.TheVariants as mode
use Rattle.dev_model.specs.Partitions.{is_fastboot}
use Rattle.dev_store.specs.Held.{image_of, seen}
use Rattle.wire_model.specs.Says.{Loaded, Said, says}
use Rattle.wire_model.specs.Wire as wire
use Rattle.wire_model.specs.Wire.{Wire, Phase, Payload, front, with_replies, answered, paid, heard, limited, after}
use Rattle.wire_model.specs.Halts as halting
use Rattle.wire_model.specs.Halts.{Halts, Goes}
use Rattle.wire_model.proofs.AtLimit.{item_up_to}
use Rattle.wire_model.proofs.GoesItems.{fault_item}
use Rattle.device_engine.specs.Replied.{Framed, framed}
use Rattle.device_engine.specs.Running.{held_of, Ran, IsDone, IsBroken, Answer, answer}
use Rattle.device_session.specs.declared.responder.Responder.{Responder}
use Rattle.device_session.specs.Inlets.{Inflow, IsOrdered}
use Rattle.device_session.specs.Answering.{ended, order_in, Obeys, AwaitsDue}
use Rattle.device_session.specs.Living.{live_of, wire_of, is_over, Feeds}
use Rattle.device_session.proofs.CallLemmas.{because}
use Rattle.device_session.proofs.RunLemmas.{says-mode, Starts}
use Rattle.device_session.proofs.StillLemmas.{seen-mode, running, has-in, halted-seen}
use Rattle.device_session.proofs.HeardLemmas.{made, answered-as}
use Rattle.device_session.proofs.FeedLemmas.{now, first, leads}

-- what is awaited has nothing yet, and no more was taken
pub record IsFresh (before after : Inflow) : Type 0 where
  pub rest : after.rest ≡ []
  pub taken : after.taken ≡ before.taken
  pub room : after.room ≡ before.room

pub awaits-fresh : (due : Option ℕ) (before after : Inflow) → before.rest ≡ [] → AwaitsDue due before after → IsFresh before after
awaits-fresh None before after r a = record {
  rest = ap (λ (i : Inflow). i.rest) a ∙ r;
  taken = ap (λ (i : Inflow). i.taken) a;
  room = ap (λ (i : Inflow). i.room) a;
}
awaits-fresh (Some count) before after r a = record { rest = a.received.rest; taken = a.taken; room = a.room }

-- the mode after a command that was done isn't Halted
pub says-unhalted : (dev : Dev) (said : Said) → IsTrue (is_fastboot dev.mode) → (said.device.mode ≡ dev.mode) ⊎ Starts dev said → said.device.mode ≢ mode.Halted
says-unhalted dev said f (inl e) h = running dev.mode f (sym e ∙ h)
says-unhalted dev said f (inr s) h = s.running h

done-feeds : {K : Type 0} (told : K → DiskTold) (r s : Responder K) (i k j : Inflow) (bytes : List ℕ) (replies : Framed) (due : Option ℕ) (closes : Bool) →
    IsTrue (is_fastboot (held_of r.device).device.mode) → i.taken + length bytes ≤ 2 ^ 62 → r.outbox ≡ [] →
    IsOrdered i k bytes → k.taken ≡ i.taken + length bytes →
    IsDone (image_of told (held_of s.device)) (says (held_of r.device).device k.loaded (command_of k.command)) (order_in k) (held_of s.device).device (answer replies due closes) →
    s.outbox ≡ ended due replies.frames → AwaitsDue due k j →
    Feeds told (live_of r i false) (live_of s j (is_over closes j.taken)) bytes
done-feeds told r s i k j bytes replies due closes f limit empty p t d out a =
    let w = first r i in
    let dev : Dev = (held_of r.device).device in
    let held = held_of s.device in
    let said : Said = says dev k.loaded (command_of k.command) in
    let count : ℕ = i.taken + length bytes in
    let fresh = awaits-fresh due k j p.rest a in
    let led : record (heard (Payload k.command) w) { rest = []; taken = count } ≡ record (answered said w) { rest = []; taken = count } =
    ap (λ (ph : Phase). record (paid ph k.command w) { rest = []; taken = count }) p.awaited
    ∙ ap (λ (l : Loaded). record (answered (says dev l (command_of k.command)) w) { rest = []; taken = count }) (sym p.loaded) in
    let v : Wire = record (with_replies said.replies w) { device = said.device; loaded = said.loaded; closed = said.closed } in
    let follows : record (answered said w) { rest = []; taken = count } ≡ record (made v j.loaded j.phase (ended due v.out)) { rest = []; taken = count } =
    ap (λ (u : Wire). record u { rest = []; taken = count }) (sym (answered-as said w due k j d.due (p.phase ∙ p.awaited) p.awaited d.loaded a)) in
    let same : record (made v j.loaded j.phase (ended due v.out)) { rest = []; taken = count } ≡ now said.device j s.outbox closes =
    let rest = fresh.rest in
    let taken : j.taken ≡ count = fresh.taken ∙ t in
    let closing : closes ≡ said.closed = d.closing in
    let said_out : s.outbox ≡ ended due v.out =
    out ∙ (ap (λ (x : Framed). ended due x.frames) d.replied ∙ ap (λ (l : List ℕ). ended due (l ++ (framed said.replies).frames)) (sym empty)) in
    cc in
    let mode : held.device.mode ≡ said.device.mode = ap (λ (x : Dev). x.mode) d.left ∙ seen-mode (image_of told held) said.device in
    leads told r s i j bytes closes said.device (item_up_to w bytes (Payload k.command) refl limit p.item ∙ ap limited (led ∙ (follows ∙ same)))
    (λ c. fresh.rest)
    (has-in told held held.device.mode (seen (image_of told held) said.device)
    (λ h. says-unhalted dev said f (says-mode dev k.loaded (command_of k.command)) (sym mode ∙ h)) (sym d.left))

-- the last of some bytes
split-last : (x : ℕ) (xs : List ℕ) → (before : List ℕ) × (last : ℕ) × (x ∷ xs ≡ before ++ last ∷ [])
split-last x [] = ([], x, refl)
split-last x (y ∷ ys) = let s = split-last y ys in (x ∷ s.0, s.1, ap (λ (l : List ℕ). x ∷ l) s.2)

last-of : (xs : List ℕ) → 0 < length xs → (before : List ℕ) × (last : ℕ) × (xs ≡ before ++ last ∷ [])
last-of [] h = absurd (omega (arith, h))
last-of (x ∷ xs) h = split-last x xs

-- bytes that complete a command whose disk call failed
fault-goes : (w : Wire) (bytes payload : List ℕ) (t : Dev) → w.closed ≡ false → w.phase ≡ wire.Command → w.taken + length bytes ≤ 2 ^ 62 → 0 < length bytes →
    front wire.Command (w.rest ++ bytes) ≡ Some (Payload payload, []) → Halts w.device w.loaded (command_of payload) t →
    Goes w bytes (record (halting.faulted t w) { taken = w.taken + length bytes })
fault-goes w bytes payload t running ph limit some e halts =
    let s = last-of bytes some in
    subst (λ (l : List ℕ). Goes w l (record (halting.faulted t w) { taken = w.taken + length l })) (sym s.2)
    (fault_item w s.0 s.1 payload t running ph (subst (λ (l : List ℕ). w.taken + length l ≤ 2 ^ 62) s.2 limit)
    (subst (λ (l : List ℕ). front wire.Command (w.rest ++ l) ≡ Some (Payload payload, [])) s.2 e) halts)

broken-feeds : {K : Type 0} (told : K → DiskTold) (r s : Responder K) (i k j : Inflow) (bytes : List ℕ) (replies : Framed) (due : Option ℕ) (closes : Bool) →
    0 < length bytes → i.taken + length bytes ≤ 2 ^ 62 → r.outbox ≡ [] → IsOrdered i k bytes → k.taken ≡ i.taken + length bytes →
    Rose (told (held_of r.device).disk).faults (told (held_of s.device).disk).faults →
    IsBroken told (held_of r.device).device (order_in k) (held_of s.device) (answer replies due closes) →
    s.outbox ≡ ended due replies.frames → AwaitsDue due k j →
    Feeds told (live_of r i false) (live_of s j (is_over closes j.taken)) bytes
broken-feeds told r s i k j bytes replies due closes some limit empty p t rose b out a =
    let w = first r i in
    let dev : Dev = (held_of r.device).device in
    let held = held_of s.device in
    let count : ℕ = i.taken + length bytes in
    let state : Wire = record (halting.faulted b.left w) { taken = count } in
    let none : due ≡ None = ap (λ (x : Answer). x.due) b.answered in
    let closing : closes ≡ true = ap (λ (x : Answer). x.closes) b.answered in
    let text : List ℕ = (framed (Fail (codes "disk fault") ∷ [])).frames in
    let kept : j ≡ k = subst (λ (o : Option ℕ). AwaitsDue o k j) none a in
    let said_out : s.outbox ≡ r.outbox ++ text =
    out ∙ (ap (λ (o : Option ℕ). ended o replies.frames) none ∙ (ap (λ (x : Answer). x.replies.frames) b.answered ∙ ap (λ (l : List ℕ). l ++ text) (sym empty))) in
    let over : is_over closes j.taken ≡ true = ap (λ c. is_over c j.taken) closing in
    let item : front wire.Command (i.rest ++ bytes) ≡ Some (Payload k.command, []) = subst (λ (ph : Phase). front ph (i.rest ++ bytes) ≡ Some (Payload k.command, [])) p.awaited p.item in
    let halts : Halts dev i.loaded (command_of k.command) b.left = subst (λ (l : Loaded). Halts dev l (command_of k.command) b.left) p.loaded b.halts in
    record {
      running = refl;
      state = state;
      goes = because _ w state bytes rose (fault-goes w bytes k.command b.left refl p.awaited limit some item halts);
      comes = record {
        same = ap (λ c. wire_of (live_of s j c)) over
            ∙ (let loaded : j.loaded ≡ i.loaded = ap (λ (x : Inflow). x.loaded) kept ∙ p.loaded in
            let phase : j.phase ≡ i.phase = ap (λ (x : Inflow). x.phase) kept ∙ p.phase in
            let taken : j.taken ≡ count = ap (λ (x : Inflow). x.taken) kept ∙ t in cc);
        device = halted-seen told held held.device.mode b.left b.halted b.stands;
      };
    }

ran-feeds : {K : Type 0} (told : K → DiskTold) (r s : Responder K) (i k j : Inflow) (bytes : List ℕ) (replies : Framed) (due : Option ℕ) (closes : Bool) →
    IsTrue (is_fastboot (held_of r.device).device.mode) → 0 < length bytes → i.taken + length bytes ≤ 2 ^ 62 → r.outbox ≡ [] →
    IsOrdered i k bytes → k.taken ≡ i.taken + length bytes → Ran told (held_of r.device) (held_of s.device) (order_in k) (answer replies due closes) →
    s.outbox ≡ ended due replies.frames → AwaitsDue due k j →
    Feeds told (live_of r i false) (live_of s j (is_over closes j.taken)) bytes
unfolding Ran
ran-feeds told r s i k j bytes replies due closes f some limit empty p t (inl d) out a = done-feeds told r s i k j bytes replies due closes f limit empty p t d out a
ran-feeds told r s i k j bytes replies due closes f some limit empty p t (inr b) out a = broken-feeds told r s i k j bytes replies due closes some limit empty p t b.0 b.1 out a

pub feeds-order : {K : Type 0} (told : K → DiskTold) (r s : Responder K) (i k j : Inflow) (bytes : List ℕ) (closes : Bool) →
    IsTrue (is_fastboot (held_of r.device).device.mode) → 0 < length bytes → i.taken + length bytes ≤ 2 ^ 62 → r.outbox ≡ [] →
    IsOrdered i k bytes → k.taken ≡ i.taken + length bytes → Obeys told r s k j closes →
    Feeds told (live_of r i false) (live_of s j (is_over closes j.taken)) bytes
feeds-order told r s i k j bytes closes f some limit empty p t o =
    ran-feeds told r s i k j bytes o.ran.replies o.due closes f some limit empty p t o.ran.ran o.ran.out o.awaits
