-- Lines that were heard of a command are the first that its device says.
use Rattle.std.proofs.Common.{◌≡◌, ◌⊎◌, inl, inr, ℕ, ◌<◌, ◌≤◌, ◌+◌, true, false, cond, List, [], ◌∷◌, ◌++◌, length, Option, Some, None, refl, sym, ap, ◌∙◌, arith, append_assoc}
use Rattle.std.specs.Prelude.{◌==◌, codes}
use Rattle.std.specs.List.{list_all}
use Rattle.fb_frame.specs.Causes.{Rose}
use Rattle.fb_frame.specs.Framing.{frame}
use Rattle.fb_message.specs.declared.reply.Reply.{Reply}
use Rattle.fb_message.specs.declared.reply.Reply.TheVariants.{Okay, Fail}
use Rattle.fb_message.specs.ReplyText.{reply_bytes, reply_fits}
use Rattle.fb_message.specs.CommandText.{CommandValue, command_of, spelling}
use Rattle.fb_message.proofs.Commands.{command_again}
use Rattle.dev_model.specs.Validity.{IsValid}
use Rattle.dev_model.proofs.Valid.{both}
use Rattle.wire_model.specs.Says.{says}
use Rattle.wire_model.specs.Wire.{Wire}
use Rattle.wire_model.proofs.ValidReplies.{says_replies}
use Rattle.wire_told.specs.Peers.{Peer, Apart, Joined, OfLink}
use Rattle.wire_told.specs.Told.{IsIdle, Sent, done}
use Rattle.wire_told.specs.Answered.{is_line, ends_well, reply_frames, Between, Free, IsDue, IsLoadedNow, IsSending, Downloading}
use Rattle.wire_told.specs.Ports.{PortTold, Sends}
use Rattle.wire_told.specs.Exchanges.{said_to}
use Rattle.wire_told.proofs.OneFrames.{goes-whole, paid_by, IsBroken}
use Rattle.wire_told.proofs.ToldLemmas.{idle-frame}
use Rattle.wire_told.proofs.AnswerLemmas.{broken-out, paid-done, answered-adds}
use Rattle.wire_told.proofs.AnsweredLemmas.{says-well}
use Rattle.wire_told.proofs.HearingLemmas.{same-front}
use Rattle.fb_link.specs.Broken.{GivesNext, SaysFirst, GivesNone}
use Rattle.fb_link.proofs.TypedLemmas.{IsOpenFor, open-for, idle-of}

ends-line : (r : Reply) (rs : List Reply) → is_line r ≡ true → ends_well (r ∷ rs) ≡ true → ends_well rs ≡ true
ends-line r rs l e = sym (ap (λ b. cond b (ends_well rs) (length rs == 0)) l) ∙ e

cons-frames : (r : Reply) (rs : List Reply) (x : List ℕ) → frame (reply_bytes r) ++ (reply_frames rs ++ x) ≡ reply_frames (r ∷ rs) ++ x
cons-frames r rs x = sym (append_assoc (frame (reply_bytes r)) (reply_frames rs) x)

-- lines whose frames come first are the first of the replies
lines-first : (rs ss : List Reply) (x y : List ℕ) → list_all is_line rs ≡ true → list_all reply_fits rs ≡ true → ends_well ss ≡ true → list_all reply_fits ss ≡ true → reply_frames rs ++ x ≡ reply_frames ss ++ y → (more : List Reply) × (ss ≡ rs ++ more)
lines-first [] ss x y l f b g e = (ss, refl)
lines-first (r ∷ rs) [] x y l f b g e = absurd cc
lines-first (r ∷ rs) (s ∷ ss) x y l f b g e =
    let lr = both (is_line r) (list_all is_line rs) l in
    let fr = both (reply_fits r) (list_all reply_fits rs) f in
    let gs = both (reply_fits s) (list_all reply_fits ss) g in
    let h = same-front r s (reply_frames rs ++ x) (reply_frames ss ++ y) fr.0 gs.0 (cons-frames r rs x ∙ (e ∙ sym (cons-frames s ss y))) in
    let t = lines-first rs ss x y lr.1 fr.1 (ends-line s ss (sym (ap is_line h.0) ∙ lr.0) b) gs.1 h.1 in
    (t.0, λ i. sym h.0 i ∷ t.1 i)

-- no line comes where the last reply is next
no-lines : (s : Reply) (rs : List Reply) (x y : List ℕ) → is_line s ≡ false → reply_fits s ≡ true → list_all is_line rs ≡ true → list_all reply_fits rs ≡ true → reply_frames rs ++ x ≡ frame (reply_bytes s) ++ y → rs ≡ []
no-lines s [] x y n g l f e = refl
no-lines s (r ∷ rs) x y n g l f e =
    let lr = both (is_line r) (list_all is_line rs) l in
    let fr = both (reply_fits r) (list_all reply_fits rs) f in
    let h = same-front r s (reply_frames rs ++ x) y fr.0 g (cons-frames r rs x ∙ e) in
    let no : true ≡ false = sym lr.0 ∙ (ap is_line h.0 ∙ n) in
    absurd cc

said-by : (broke : Type 0) (spare : ℕ) (c : CommandValue) (p : List ℕ) (infos : List Reply) (more : List ℕ) (w v : Wire) → command_of p ≡ c → IsIdle spare w → IsValid w.device → list_all is_line infos ≡ true → list_all reply_fits infos ≡ true →
    (v ≡ paid_by p w (length (frame p))) ⊎ (broke × IsBroken p (length (frame p)) w v) → v.out ≡ reply_frames infos ++ more → (rest : List Reply) × ((said_to c w).replies ≡ infos ++ rest)
said-by broke spare c p infos more w v e i valid l f (inl g) h =
    let said = says w.device w.loaded (command_of p) in
    let d : v ≡ done p w = g ∙ paid-done w.phase p w (length (frame p)) i.commanding refl in
    let a = answered-adds said w in
    let out : v.out ≡ reply_frames said.replies ++ a.1 = ap (λ (x : Wire). x.out) d ∙ (a.2 ∙ ap (λ t. (t ++ reply_frames said.replies) ++ a.1) i.quiet) in
    let t = lines-first infos said.replies more a.1 l f (says-well w.device w.loaded (command_of p)) (says_replies w.device w.loaded p valid).0 (sym h ∙ out) in
    (t.0, ap (λ x. (says w.device w.loaded x).replies) (sym e) ∙ t.1)
said-by broke spare c p infos more w v e i valid l f (inr g) h =
    let out : v.out ≡ frame (reply_bytes (Fail (codes "disk fault"))) ++ [] = broken-out p (length (frame p)) w v i.quiet g.1 in
    let none : infos ≡ [] = no-lines (Fail (codes "disk fault")) infos more [] refl refl l f (sym h ∙ out) in
    ((said_to c w).replies, ap (λ x. x ++ (said_to c w).replies) (sym none))

said-now : (k l : ℕ) (c : CommandValue) (p : List ℕ) (infos : List Reply) → spelling c ≡ Some p → 0 < length p → length p ≤ 4096 → list_all is_line infos ≡ true → list_all reply_fits infos ≡ true → (a b : Option Peer) → OfLink IsOpenFor a → Sent k l a b (frame p) → GivesNext b infos → SaysFirst c a infos
said-now k l c p infos e some short lines fits None b o g h = tt
said-now k l c p infos e some short lines fits (Some (Apart dev)) b o g h = absurd o
said-now k l c p infos e some short lines fits (Some (Joined w)) None o g h = absurd g
said-now k l c p infos e some short lines fits (Some (Joined w)) (Some (Apart dev)) o g h = absurd g
said-now k l c p infos e some short lines fits (Some (Joined w)) (Some (Joined v)) o g h =
    let idle = idle-of (8 + length p) (omega (arith, short)) w o in
    said-by (Rose k l) (8 + length p) c p infos h.0 w v (command_again c p e) idle o.0.valid lines fits (goes-whole (Rose k l) p (frame p) w v (idle-frame (8 + length p) p w idle some short (omega arith)) g) h.1

-- the lines that were heard of a command that was sent
pub says-first : (c : CommandValue) (a b : PortTold) (p : List ℕ) → Between a.peer → Free a.peer → 0 < length p → length p ≤ 4096 → spelling c ≡ Some p → Sends a b (frame p) → (infos : List Reply) → list_all is_line infos ≡ true → list_all reply_fits infos ≡ true → GivesNext b.peer infos → SaysFirst c a.peer infos
says-first c a b p between free some short e g infos lines fits h =
    said-now a.faults b.faults c p infos e some short lines fits a.peer b.peer (open-for a.peer between free) g.sent h

loaded-at : (left : ℕ) (w : Wire) → left ≡ 0 → ((0 < left) × IsDue left w) ⊎ ((left ≡ 0) × IsLoadedNow w) → IsLoadedNow w
loaded-at left w e (inl d) = absurd (omega (arith, e, d.0))
loaded-at left w e (inr d) = d.1

loaded-none : (w : Wire) → IsSending 0 w → (infos : List Reply) (more : List ℕ) → list_all is_line infos ≡ true → list_all reply_fits infos ≡ true → w.out ≡ reply_frames infos ++ more → infos ≡ []
loaded-none w s infos more lines fits h = no-lines (Okay []) infos more [] refl refl lines fits (sym h ∙ (loaded-at 0 w refl s.due).okay)

-- and of the end of a download
pub gives-none : (a : Option Peer) → Downloading 0 a → (infos : List Reply) → list_all is_line infos ≡ true → list_all reply_fits infos ≡ true → GivesNext a infos → GivesNone a infos
gives-none None s infos lines fits h = tt
gives-none (Some (Apart dev)) s infos lines fits h = absurd s
gives-none (Some (Joined w)) s infos lines fits h = loaded-none w s infos h.0 lines fits h.1
