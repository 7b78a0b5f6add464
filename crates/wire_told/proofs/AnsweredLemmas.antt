-- A command and all of its replies: what was heard is what the device says.
use Rattle.std.proofs.Common.{◌≡◌, ◌⊎◌, inl, inr, ℕ, ◌+◌, ◌<◌, ◌≤◌, Bool, true, false, cond, List, [], ◌∷◌, ◌++◌, length, map, Option, Some, None, refl, sym, ap, ◌∙◌, arith, append-nil}
use Rattle.std.specs.Prelude.{codes, bytes_eq, option_and_then}
use Rattle.std.specs.List.{list_all}
use Rattle.fb_frame.specs.Framing.{frame}
use Rattle.fb_message.specs.declared.reply.Reply.{Reply}
use Rattle.fb_message.specs.declared.reply.Reply.TheVariants.{Okay, Fail, Info}
use Rattle.fb_message.specs.ReplyText.{reply_fits}
use Rattle.fb_message.specs.CommandText.{CommandValue, GetVar, Download, Flash, Erase, SetActive, Reboot, Continue, Lock, Unlock, UnlockAbility, UpdateSuper, Create, Delete, Resize, Unknown, command_of}
use Rattle.dev_model.specs.declared.device.Dev.{Dev}
use Rattle.dev_model.specs.Refusals.{flash_refusal, erase_refusal, active_refusal, download_refusal, lock_refusal, create_refusal, delete_refusal, resize_refusal, update_refusal}
use Rattle.dev_model.specs.Validity.{IsValid}
use Rattle.dev_model.specs.Variables.{value, all_rows, Row}
use Rattle.wire_model.specs.TableFile.{tables_of}
use Rattle.wire_model.specs.Says.{Loaded, says, decides, awaits, tells, tells_all}
use Rattle.wire_model.specs.Wire.{Wire}
use Rattle.wire_told.specs.Told.{GoesBy, IsIdle, disk_fault, done}
use Rattle.wire_told.specs.Answered.{ends_well, reply_frames, IsAnswered, IsListening}
use Rattle.wire_told.proofs.OneFrames.{goes-whole, paid_by, IsBroken}
use Rattle.wire_told.proofs.ToldLemmas.{idle-frame}
use Rattle.wire_told.proofs.AnswerLemmas.{broken-out, paid-done, answered-adds}
use Rattle.wire_told.proofs.FailedLemmas.{failed-now}
use Rattle.wire_model.proofs.ValidReplies.{says_replies}
use Rattle.wire_told.proofs.HearingLemmas.{same-replies}

-- each command's replies end well
decides-well : (refusal : Option (List ℕ)) (change : Dev → Dev) (dev : Dev) (loaded : Loaded) → ends_well (decides refusal change dev loaded).replies ≡ true
decides-well (Some text) change dev loaded = refl
decides-well None change dev loaded = refl

awaits-well : (refusal : Option (List ℕ)) (count : ℕ) (dev : Dev) (loaded : Loaded) → ends_well (awaits refusal count dev loaded).replies ≡ true
awaits-well (Some text) count dev loaded = refl
awaits-well None count dev loaded = refl

infos-well : (rows : List Row) → ends_well (map (λ row. Info (row.0 ++ 58 ∷ row.1)) rows ++ Okay [] ∷ []) ≡ true
infos-well [] = refl
infos-well (row ∷ rows) = infos-well rows

tells-well : (text : Option (List ℕ)) → ends_well (tells text) ≡ true
tells-well None = refl
tells-well (Some text) = refl

either-well : (b : Bool) (xs ys : List Reply) → ends_well xs ≡ true → ends_well ys ≡ true → ends_well (cond b xs ys) ≡ true
either-well true xs ys p q = p
either-well false xs ys p q = q

pub says-well : (dev : Dev) (loaded : Loaded) (c : CommandValue) → ends_well (says dev loaded c).replies ≡ true
unfolding says all_rows
says-well dev loaded (GetVar name) = either-well (bytes_eq name (codes "all")) (tells_all dev) (tells (value dev name)) (infos-well (all_rows dev)) (tells-well (value dev name))
says-well dev loaded (Download count) = awaits-well (download_refusal dev count) count dev loaded
says-well dev loaded (Flash name) = decides-well (flash_refusal dev loaded name) _ dev loaded
says-well dev loaded (Erase name) = decides-well (erase_refusal dev name) _ dev loaded
says-well dev loaded (SetActive slot) = decides-well (active_refusal dev) _ dev loaded
says-well dev loaded (Reboot what) = refl
says-well dev loaded Continue = refl
says-well dev loaded Lock = decides-well (lock_refusal dev) _ dev loaded
says-well dev loaded Unlock = refl
says-well dev loaded UnlockAbility = refl
says-well dev loaded (UpdateSuper name wipe) = decides-well (update_refusal dev loaded (option_and_then tables_of loaded) name wipe) _ dev loaded
says-well dev loaded (Create name size) = decides-well (create_refusal dev name size) _ dev loaded
says-well dev loaded (Delete name) = decides-well (delete_refusal dev name) _ dev loaded
says-well dev loaded (Resize name size) = decides-well (resize_refusal dev name size) _ dev loaded
says-well dev loaded Unknown = refl

-- the replies a whole payload leaves to hear
paid-due : (spare : ℕ) (p : List ℕ) (w v : Wire) → IsIdle spare w → v ≡ done p w → (extra : List ℕ) × (v.out ≡ reply_frames (says w.device w.loaded (command_of p)).replies ++ extra)
paid-due spare p w v i e =
    let a = answered-adds (says w.device w.loaded (command_of p)) w in
    (a.1, ap (λ (x : Wire). x.out) e ∙ (a.2 ∙ ap (λ t. (t ++ reply_frames (says w.device w.loaded (command_of p)).replies) ++ a.1) i.quiet))

to-done : (spare : ℕ) (p : List ℕ) (w v : Wire) → IsIdle spare w → v ≡ paid_by p w (length (frame p)) → v ≡ done p w
to-done spare p w v i e = e ∙ paid-done w.phase p w (length (frame p)) i.commanding refl

listening-by : (broke : Type 0) (spare : ℕ) (p : List ℕ) (w v : Wire) → IsIdle spare w → IsValid w.device → (v ≡ paid_by p w (length (frame p))) ⊎ (broke × IsBroken p (length (frame p)) w v) → IsListening 0 v
listening-by broke spare p w v i valid (inl e) =
    let d = paid-due spare p w v i (to-done spare p w v i e) in
    let s = says_replies w.device w.loaded p valid in
    record {
      more = (says w.device w.loaded (command_of p)).replies;
      extra = d.0;
      due = d.1;
      ends = says-well w.device w.loaded (command_of p);
      fits = s.0;
      few = omega (arith, s.1);
    }
listening-by broke spare p w v i valid (inr b) = record {
  more = Fail (codes "disk fault") ∷ [];
  extra = [];
  due = broken-out p (length (frame p)) w v i.quiet b.1 ∙ ap (λ t. t ++ []) (sym (append-nil (frame disk_fault)));
  ends = refl;
  fits = refl;
  few = omega arith;
}

-- a whole command was sent: its replies are left to hear
pub sent-listening : (broke : Type 0) (spare : ℕ) (p : List ℕ) (w v : Wire) → IsIdle spare w → IsValid w.device → 0 < length p → length p ≤ 4096 → 8 + length p ≤ spare → GoesBy broke w (frame p) v → IsListening 0 v
sent-listening broke spare p w v i valid some h room g = listening-by broke spare p w v i valid (goes-whole broke p (frame p) w v (idle-frame spare p w i some h room) g)

answered-by : (broke : Type 0) (spare : ℕ) (p : List ℕ) (rs : List Reply) (w v u : Wire) → IsIdle spare w → IsValid w.device → ends_well rs ≡ true → list_all reply_fits rs ≡ true → (v ≡ paid_by p w (length (frame p))) ⊎ (broke × IsBroken p (length (frame p)) w v) → v ≡ record u { out = reply_frames rs ++ u.out } → IsAnswered broke p rs w u
answered-by broke spare p rs w v u i valid ends fits (inl e) h =
    let f = to-done spare p w v i e in
    let d = paid-due spare p w v i f in
    let s = says_replies w.device w.loaded p valid in
    let all = same-replies rs (says w.device w.loaded (command_of p)).replies u.out d.0 ends (says-well w.device w.loaded (command_of p)) fits s.0 (sym (ap (λ (x : Wire). x.out) h) ∙ d.1) in
    inl (record { all = all.0; state = sym h ∙ f })
answered-by broke spare p rs w v u i valid ends fits (inr b) h =
    let o : v.out ≡ reply_frames (Fail (codes "disk fault") ∷ []) ++ [] = broken-out p (length (frame p)) w v i.quiet b.1 ∙ ap (λ t. t ++ []) (sym (append-nil (frame disk_fault))) in
    let all = same-replies rs (Fail (codes "disk fault") ∷ []) u.out [] ends refl fits refl (sym (ap (λ (x : Wire). x.out) h) ∙ o) in
    let one : v ≡ record u { out = frame disk_fault ++ u.out } = h ∙ ap (λ t. record u { out = t ++ u.out }) (ap reply_frames all.0 ∙ append-nil (frame disk_fault)) in
    let f = failed-now spare p disk_fault w v u i (omega arith) b.1 one in
    inr (b.0, record { told = all.0; halts = f.halts; state = f.state })

-- all that was left to hear was heard
pub answered-from : (broke : Type 0) (spare : ℕ) (p : List ℕ) (rs : List Reply) (w v u : Wire) → IsIdle spare w → IsValid w.device → 0 < length p → length p ≤ 4096 → 8 + length p ≤ spare → ends_well rs ≡ true → list_all reply_fits rs ≡ true → GoesBy broke w (frame p) v → v ≡ record u { out = reply_frames rs ++ u.out } → IsAnswered broke p rs w u
answered-from broke spare p rs w v u i valid some h room ends fits g e = answered-by broke spare p rs w v u i valid ends fits (goes-whole broke p (frame p) w v (idle-frame spare p w i some h room) g) e
