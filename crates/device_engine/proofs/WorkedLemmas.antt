-- Commands that work on a store.
use Rattle.std.proofs.Common.{◌≡◌, ◌∙◌, refl, ap, sym, inl, inr, [], ◌∷◌, None, Result, Ok, Err}
use Rattle.std.specs.Prelude.{codes, true, false, IsTrue}
use Rattle.std.proofs.lemmas.Bool.{false≢true}
use Rattle.std.proofs.lemmas.List.{append-nil}
use Rattle.fb_message.specs.declared.reply.Reply.{Reply}
use Rattle.fb_message.specs.declared.reply.Reply.TheVariants.{Okay, Fail}
use Rattle.dev_disk.specs.Disks.{DiskTold}
use Rattle.dev_model.specs.declared.device.Mode.TheVariants.{Halted}
use Rattle.dev_model.specs.Partitions.{is_fastboot}
use Rattle.dev_model.specs.RefusalTexts.{text_of}
use Rattle.wire_model.specs.Answers.{due_of}
use Rattle.dev_store.specs.Held.{Held, held_in, image_of, seen}
use Rattle.device_engine.specs.Replied.{Framed, none_framed, with_reply, framed, reply_frame}
use Rattle.device_engine.specs.Running.{Order, answer, Ran}
use Rattle.device_engine.specs.declared.working.NotDone.{NotDone}
use Rattle.device_engine.specs.declared.working.NotDone.TheVariants.{Refused, Disk}
use Rattle.device_engine.specs.Working.{IsAnswered, IsStopped, Worked, IsReady, reply_to, is_broken}

-- one reply alone
pub with-one : (reply : Reply) → with_reply none_framed reply ≡ framed (reply ∷ [])
with-one reply = λ i. record { frames = sym (append-nil (reply_frame reply)) i; count = 1 }

-- the one reply that is pushed
pub pushed-one : (done : Result (Unit {0}) NotDone) (before after : Framed) (reply : Reply) → before ≡ none_framed → after ≡ with_reply before reply → reply ≡ reply_to done → after ≡ with_reply none_framed (reply_to done)
pushed-one done before after reply e k h = k ∙ (ap (λ r. with_reply r reply) e ∙ ap (with_reply none_framed) h)

module _ {K : Type 0} (told : K → DiskTold) (old new : Held K) (order : Order) where
  pub ran-answered : (reply : Reply) (replies : Framed) → replies ≡ with_reply none_framed reply → due_of (reply ∷ []) ≡ None → IsAnswered told old new order reply →
      Ran told old new order (answer replies None false)
  unfolding Ran
  ran-answered reply replies e k h = inl (record {
    replied = e ∙ (with-one reply ∙ sym (ap (λ s. framed s.replies) h.said));
    left = h.left ∙ sym (ap (λ s. seen (image_of told new) s.device) h.said);
    due = sym (ap (λ s. due_of s.replies) h.said ∙ k);
    loaded = ap (λ s. s.loaded) h.said;
    closing = sym (ap (λ s. s.closed) h.said);
  })

  pub ran-stopped : (replies : Framed) → replies ≡ with_reply none_framed (Fail (codes "disk fault")) → IsStopped told old new order →
      Ran told old (held_in Halted new) order (answer replies None true)
  unfolding Ran
  ran-stopped replies e h = inr ((
    h.rose,
    record {
      left = h.left;
      halts = h.halts;
      halted = refl;
      stands = (h.halted, h.stands);
      answered = ap (λ r. answer r None true) (e ∙ with-one (Fail (codes "disk fault")));
    },
  ))

  -- the disk failed
  pub ran-broken : (done : Result (Unit {0}) NotDone) (replies : Framed) → is_broken done ≡ true → replies ≡ with_reply none_framed (reply_to done) → Worked told old new order done →
      Ran told old (held_in Halted new) order (answer replies None true)
  ran-broken (Err Disk) replies b e w = ran-stopped replies e w
  ran-broken (Err (Refused refusal)) replies b e w = absurd (false≢true b)
  ran-broken (Ok x) replies b e w = absurd (false≢true b)

  -- it didn't
  pub ran-whole : (done : Result (Unit {0}) NotDone) (replies : Framed) → is_broken done ≡ false → replies ≡ with_reply none_framed (reply_to done) → Worked told old new order done →
      Ran told old new order (answer replies None false)
  ran-whole (Err Disk) replies b e w = absurd (false≢true (sym b))
  ran-whole (Err (Refused refusal)) replies b e w = ran-answered (Fail (text_of refusal)) replies e refl w
  ran-whole (Ok x) replies b e w = ran-answered (Okay []) replies e refl w

  -- unless the disk failed, the store can be used on
  pub ready : (done : Result (Unit {0}) NotDone) → IsTrue (is_fastboot old.device.mode) → Worked told old new order done → IsReady told new done
  ready (Ok x) f w b = (w.whole, ap is_fastboot w.mode ∙ f)
  ready (Err (Refused refusal)) f w b = (w.whole, ap is_fastboot w.mode ∙ f)
  ready (Err Disk) f w b = absurd (false≢true (sym b))
