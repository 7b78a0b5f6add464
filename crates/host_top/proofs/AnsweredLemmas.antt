-- A question over an aimed port: what its parts come to together.
use Rattle.std.proofs.Common.{◌≡◌, ◌⊎◌, inl, inr, ℕ, Option, Some, None, List, [], ◌++◌, refl, sym, ap, ◌∙◌, subst, append-nil}
use Rattle.std.specs.Prelude.{Result, Ok, Err, IfSome, IsFalse}
use Rattle.fb_frame.specs.Causes.{Rose}
use Rattle.fb_frame.specs.Framing.{frame}
use Rattle.fb_frame.specs.Sinks.{Grew}
use Rattle.fb_frame.proofs.SinkLemmas.{Grew-nothing}
use Rattle.fb_message.specs.ReplyText.{reply_bytes}
use Rattle.dev_model.specs.declared.device.Dev.{Dev}
use Rattle.wire_told.specs.Peers.{Peer}
use Rattle.wire_told.specs.Ports.{PortTold, Kept, Drops}
use Rattle.wire_told.specs.Told.{IsBarred}
use Rattle.wire_told.proofs.PortLemmas.{Kept-trans}
use Rattle.fb_link.specs.Seen.{Seen, seen}
use Rattle.host_driver.specs.declared.drive.DriveError.{DriveError}
use Rattle.host_driver.specs.declared.drive.DriveError.TheVariants as stop
use Rattle.host_driver.specs.Asking.{Told, Tells, IsAsked, IsUnasked, IsUnrefused, ShowsBy, lines_to, told_reply}
use Rattle.host_driver.specs.Beginning.{IsBegun, IsUnbegun, WhyUnbegun}
use Rattle.host_driver.specs.Driving.{Grows}
use Rattle.host_driver.specs.HeardLast.{HeardThen, HeardFail, HeardAt}
use Rattle.host_driver.specs.Jobs.{OfTold}
use Rattle.host_driver.specs.Printing.{joined}
use Rattle.host_driver.specs.Stepping.{WhyStopped, NoFiles}
use Rattle.host_driver.proofs.AlongLemmas.{told-then, told-more}
use Rattle.host_driver.proofs.DriveTaken.{why-move}
use Rattle.host_driver.proofs.LoopLemmas.{told-hung}
use Rattle.host_top.specs.Acts.{IsAnswered, WhyAnswered, answer_verdict}
use Rattle.host_top.specs.Ending.{Answers}
use Rattle.host_top.specs.Verdicts.{verdict_of}
use Rattle.host_top.proofs.AimLemmas.{untold-before}

-- a text that stays grows by nothing
grows-nothing : (t : Option (List ℕ)) → Grows t t
grows-nothing t = record { more = []; grew = Grew-nothing t }

-- where no device is told before, all is said of it
untold-all : (R S : Dev → Dev → Type 0) (a b : Option Peer) → a ≡ None → OfTold a b R → OfTold a b S
untold-all R S None None e r = tt
untold-all R S None (Some b) e r = r
untold-all R S (Some a) b e r = absurd cc

-- Why no connection began is why a question broke off, where the device is in a mode for one.
begun-by : (e : DriveError) (a b : PortTold) → (IsBarred a.peer → ⊥) → WhyUnbegun a b e → WhyStopped NoFiles a b e × IsUnrefused e
begun-by stop.Memory a b n w = absurd w
begun-by (stop.Directory file) a b n w = absurd w
begun-by stop.Output a b n w = absurd w
begun-by stop.Link a b n (inl r) = (r, tt)
begun-by stop.Link a b n (inr r) = absurd (n r)
begun-by stop.Ended a b n w = (w, tt)
begun-by (stop.Refused text) a b n w = absurd w
begun-by (stop.Peer kept) a b n w = (w, tt)
begun-by stop.TooManyInfos a b n w = absurd w
begun-by (stop.Requirement line name value) a b n w = absurd w
begun-by (stop.Plan line kind) a b n w = absurd w

-- so many of the lines were shown: none
begun-answers : (name : List ℕ) (e : DriveError) (a b : PortTold) (text : Option (List ℕ)) → WhyUnbegun a b e → OfTold a.peer b.peer (λ s t. t ≡ s) →
    OfTold a.peer b.peer (λ s t. (t ≡ s) × Answers s name (verdict_of (Err e)) text text)
begun-answers name stop.Memory a b text w r = absurd w
begun-answers name (stop.Directory file) a b text w r = absurd w
begun-answers name stop.Output a b text w r = absurd w
begun-answers name stop.Link a b text w r = told-more (λ s t. t ≡ s) (λ s t. (t ≡ s) × Answers s name (verdict_of (Err stop.Link)) text text) (λ s t e. (e, record { count = 0; grew = Grew-nothing text })) a.peer b.peer r
begun-answers name stop.Ended a b text w r = untold-all (λ s t. t ≡ s) (λ s t. (t ≡ s) × Answers s name (verdict_of (Err stop.Ended)) text text) a.peer b.peer w.0 r
begun-answers name (stop.Refused x) a b text w r = absurd w
begun-answers name (stop.Peer kept) a b text w r = untold-all (λ s t. t ≡ s) (λ s t. (t ≡ s) × Answers s name (verdict_of (Err (stop.Peer kept))) text text) a.peer b.peer w r
begun-answers name stop.TooManyInfos a b text w r = absurd w
begun-answers name (stop.Requirement line n value) a b text w r = absurd w
begun-answers name (stop.Plan line kind) a b text w r = absurd w

-- No connection began.
pub answered-unbegun : (name : List ℕ) (a b : PortTold) (text : Option (List ℕ)) (e : DriveError) → (IsBarred a.peer → ⊥) → IsUnbegun a b e → IsAnswered name (seen a text) (seen b text) (Err e)
answered-unbegun name a b text e n u =
    let y = begun-by e a b n u.why in
    record {
      why = (y.0, y.1, u.heard);
      told = begun-answers name e a b text u.why u.still;
      grows = grows-nothing text;
      down = u.down;
      kept = u.kept;
    }

-- what a device was heard to say, by the error
stopped-answers : (name : List ℕ) (e : DriveError) (a b : PortTold) (x y : Option (List ℕ)) → WhyStopped NoFiles a b e → IsUnrefused e → OfTold a.peer b.peer (λ s t. (t ≡ s) × ShowsBy (lines_to s name) e x y) →
    OfTold a.peer b.peer (λ s t. (t ≡ s) × Answers s name (verdict_of (Err e)) x y)
stopped-answers name stop.Memory a b x y w n r = absurd w
stopped-answers name (stop.Directory file) a b x y w n r = absurd w
stopped-answers name stop.Output a b x y w n r = r
stopped-answers name stop.Link a b x y w n r = r
stopped-answers name stop.Ended a b x y w n r = r
stopped-answers name (stop.Refused text) a b x y w n r = absurd n
stopped-answers name (stop.Peer kept) a b x y w n r =
    untold-all (λ s t. (t ≡ s) × ShowsBy (lines_to s name) (stop.Peer kept) x y) (λ s t. (t ≡ s) × Answers s name (verdict_of (Err (stop.Peer kept))) x y) a.peer b.peer w r
stopped-answers name stop.TooManyInfos a b x y w n r =
    untold-all (λ s t. (t ≡ s) × ShowsBy (lines_to s name) stop.TooManyInfos x y) (λ s t. (t ≡ s) × Answers s name (verdict_of (Err stop.TooManyInfos)) x y) a.peer b.peer w r
stopped-answers name (stop.Requirement line z value) a b x y w n r = absurd w
stopped-answers name (stop.Plan line kind) a b x y w n r = absurd w

both-told : (R S : Dev → Dev → Type 0) (a b : Option Peer) → OfTold a b R → OfTold a b S → OfTold a b (λ s t. R s t × S s t)
both-told R S None None r q = tt
both-told R S None (Some b) r q = r
both-told R S (Some a) None r q = r
both-told R S (Some a) (Some b) r q = (r, q)

-- what is known of the device in a connection is known of the one before it
before-it : (P : Dev → Type 0) (a b c : Option Peer) → OfTold a b (λ s t. t ≡ s) → OfTold b c (λ s t. (t ≡ s) × P s) → OfTold a c (λ s t. (t ≡ s) × P s)
before-it P a b c r q = told-then (λ s t. t ≡ s) (λ s t. (t ≡ s) × P s) (λ s t. (t ≡ s) × P s) (λ s t u e x. (x.0 ∙ e, subst P e x.1)) a b c r q

-- A connection began, and the attempt broke off in the question.
pub answered-unasked : (name : List ℕ) (a b c : PortTold) (x y : Option (List ℕ)) (e : DriveError) → IsBegun a b → IsUnasked name (seen b x) (seen c y) e → IsAnswered name (seen a x) (seen c y) (Err e)
answered-unasked name a b c x y e g u = record {
  why = (why-move NoFiles NoFiles a b c e (λ file w. w) g.kept (untold-before (λ s t. t ≡ s) a.peer b.peer g.same) u.why, u.unrefused, u.heard g.heard);
  told = before-it (λ s. Answers s name (verdict_of (Err e)) x y) a.peer b.peer c.peer g.same
      (stopped-answers name e b c x y u.why u.unrefused (both-told (λ s t. t ≡ s) (λ s t. ShowsBy (lines_to s name) e x y) b.peer c.peer u.still u.shown));
  grows = u.grows;
  down = u.down;
  kept = Kept-trans a b c g.kept u.kept;
}

told-answers : (name : List ℕ) (answer : Told) (s : Dev) (x y : Option (List ℕ)) → Tells name answer s → Grew x y (joined (lines_to s name)) → Answers s name (answer_verdict (Ok answer)) x y
told-answers name (Ok text) s x y t g = (t, g)
told-answers name (Err text) s x y t g = (t.0, t.1, g)

why-told : (answer : Told) (a b c : PortTold) → c.heard ≡ b.heard → HeardThen b.heard (frame (reply_bytes (told_reply answer))) → WhyAnswered a c (Ok answer)
why-told (Ok text) a b c e h = subst (λ l. HeardThen l (frame (reply_bytes (told_reply (Ok text))))) (sym e) h
why-told (Err text) a b c e h = subst (λ l. HeardThen l (frame (reply_bytes (told_reply (Err text))))) (sym e) h

-- A connection began, the question was answered, and the link hung up.
pub answered-asked : (name : List ℕ) (answer : Told) (a b c d : PortTold) (x y : Option (List ℕ)) → IsBegun a b → IsAsked name answer (seen b x) (seen c y) → Drops c d → IsAnswered name (seen a x) (seen d y) (Ok answer)
answered-asked name answer a b c d x y g q h = record {
  why = why-told answer a c d h.heard (q.last g.heard);
  told = told-hung a.peer c.peer d.peer (λ s t. (t ≡ s) × Answers s name (answer_verdict (Ok answer)) x y)
      (before-it (λ s. Answers s name (answer_verdict (Ok answer)) x y) a.peer b.peer c.peer g.same
      (told-more (λ s t. ((t ≡ s) × Tells name answer s) × Grew x y (joined (lines_to s name))) (λ s t. (t ≡ s) × Answers s name (answer_verdict (Ok answer)) x y)
      (λ s t p. (p.0.0, told-answers name answer s x y p.0.1 p.1)) b.peer c.peer
      (both-told (λ s t. (t ≡ s) × Tells name answer s) (λ s t. Grew x y (joined (lines_to s name))) b.peer c.peer q.told q.shown)))
      h.left;
  grows = q.grows;
  down = h.down;
  kept = Kept-trans a b d g.kept (Kept-trans b c d q.kept h.kept);
}
