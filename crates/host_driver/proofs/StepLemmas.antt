-- One command of a told device, and the step that it decides.
use Rattle.std.proofs.Common.{◌≡◌, ◌⊎◌, inl, inr, ℕ, Bool, true, Option, Some, None, List, [], ◌∷◌, ◌++◌, length, refl, sym, ap, ◌∙◌, subst, arith, length-append}
use Rattle.std.specs.Prelude.{is_none, unwrap_or}
use Rattle.fb_frame.specs.declared.slot.Slot.{Slot}
use Rattle.fb_frame.specs.declared.tables.Tables.{Tables}
use Rattle.fb_message.specs.declared.command.BootTarget.{BootTarget}
use Rattle.fb_message.specs.declared.reply.Reply.{Reply}
use Rattle.fb_message.specs.declared.reply.Reply.TheVariants.{Okay, Fail}
use Rattle.fb_message.specs.CommandText.{CommandValue, SetActive, Resize, Erase, Reboot, Flash, UpdateSuper}
use Rattle.dev_model.specs.declared.cells.Cell.{Cell}
use Rattle.dev_model.specs.declared.device.Dev.{Dev}
use Rattle.dev_model.specs.declared.step.Step.{Step}
use Rattle.dev_model.specs.declared.step.Step.TheVariants as step
use Rattle.dev_model.specs.Images.{image}
use Rattle.dev_model.specs.Partitions.{is_fastboot}
use Rattle.dev_model.specs.Refusals.{refusal_of, flash_refusal, update_refusal}
use Rattle.dev_model.specs.Steps.{apply}
use Rattle.dev_model.proofs.RefusingLemmas.{update_refused_as_table}
use Rattle.dev_model.proofs.Taken.{takes_unless_refused, flash_refuses_as_put}
use Rattle.wire_model.specs.Says.{Loaded, Said, says, decides, mode_of, updates}
use Rattle.wire_model.specs.TableFile.{tables_of}
use Rattle.host_driver.specs.Commands.{IsDecided, IsBooted, Decisions, TookStep, RefusedStep}

-- Replies that end with one that isn't the only one.
pub alone : (infos : List Reply) (x y : Reply) → y ∷ [] ≡ infos ++ x ∷ [] → y ≡ x
alone [] x y e = cc
alone (i ∷ infos) x y e = absurd (omega (arith, ap length e, length-append infos (x ∷ [])))

fail-okay : (x y : List ℕ) → Fail x ≡ Okay y → ⊥
fail-okay x y e = cc

okay-fail : (x y : List ℕ) → Okay x ≡ Fail y → ⊥
okay-fail x y e = cc

same-text : (x y : List ℕ) → Fail x ≡ Fail y → x ≡ y
same-text x y e = cc

pub decides-okay : (o : Option (List ℕ)) (change : Dev → Dev) (dev : Dev) (loaded : Loaded) (infos : List Reply) (line : List ℕ) →
    (decides o change dev loaded).replies ≡ infos ++ Okay line ∷ [] → (o ≡ None) × ((decides o change dev loaded).device ≡ change dev)
decides-okay (Some text) change dev loaded infos line e = absurd (fail-okay text line (alone infos (Okay line) (Fail text) e))
decides-okay None change dev loaded infos line e = (refl, refl)

pub decides-fail : (o : Option (List ℕ)) (change : Dev → Dev) (dev : Dev) (loaded : Loaded) (infos : List Reply) (line : List ℕ) →
    (decides o change dev loaded).replies ≡ infos ++ Fail line ∷ [] → (o ≡ Some line) × ((decides o change dev loaded).device ≡ dev)
decides-fail (Some text) change dev loaded infos line e = (ap Some (same-text text line (alone infos (Fail line) (Fail text) e)), refl)
decides-fail None change dev loaded infos line e = absurd (okay-fail [] line (alone infos (Fail line) (Okay []) e))

pub took : (s : Step) (dev t : Dev) → is_fastboot dev.mode ≡ true → refusal_of s dev ≡ None → t ≡ apply s dev → TookStep s dev t
took s dev t f e g = record { can_so = takes_unless_refused s dev f ∙ ap is_none e; taken = g }

-- A step that a command decides: OKAY tells that the device took it, FAIL that it refuses it with this text.
pub decided-okay : (c : CommandValue) (s : Step) (dev : Dev) (loaded : Loaded) (infos : List Reply) (line : List ℕ) →
    IsDecided c s dev loaded → is_fastboot dev.mode ≡ true → (says dev loaded c).replies ≡ infos ++ Okay line ∷ [] → TookStep s dev (says dev loaded c).device
decided-okay c s dev loaded infos line d f r =
    let e = decides-okay (refusal_of s dev) (apply s) dev loaded infos line (sym (ap (λ (x : Said). x.replies) d) ∙ r) in
    took s dev (says dev loaded c).device f e.0 (ap (λ (x : Said). x.device) d ∙ e.1)

pub decided-fail : (c : CommandValue) (s : Step) (dev : Dev) (loaded : Loaded) (infos : List Reply) (text : List ℕ) →
    IsDecided c s dev loaded → (says dev loaded c).replies ≡ infos ++ Fail text ∷ [] → RefusedStep s text dev (says dev loaded c).device
decided-fail c s dev loaded infos text d r =
    let e = decides-fail (refusal_of s dev) (apply s) dev loaded infos text (sym (ap (λ (x : Said). x.replies) d) ∙ r) in
    record { refusal = e.0; same = ap (λ (x : Said). x.device) d ∙ e.1 }

-- the device after such a command, whatever it answers
decided-device : (o : Option (List ℕ)) (s : Step) (dev : Dev) (loaded : Loaded) → is_fastboot dev.mode ≡ true → refusal_of s dev ≡ o →
    ((decides o (apply s) dev loaded).device ≡ dev) ⊎ TookStep s dev (decides o (apply s) dev loaded).device
decided-device (Some text) s dev loaded f e = inl refl
decided-device None s dev loaded f e = inr (took s dev (apply s dev) f e refl)

pub decided-left : (c : CommandValue) (s : Step) (dev : Dev) (loaded : Loaded) → IsDecided c s dev loaded → is_fastboot dev.mode ≡ true →
    ((says dev loaded c).device ≡ dev) ⊎ TookStep s dev (says dev loaded c).device
decided-left c s dev loaded d f =
    subst (λ x. (x ≡ dev) ⊎ TookStep s dev x) (sym (ap (λ (x : Said). x.device) d)) (decided-device (refusal_of s dev) s dev loaded f refl)

-- Which command decides which step.
active-decides : (slot : Slot) (dev : Dev) (loaded : Loaded) → IsDecided (SetActive slot) (step.Active slot) dev loaded
unfolding says
active-decides slot dev loaded = refl

resize-decides : (name : List ℕ) (size : ℕ) (dev : Dev) (loaded : Loaded) → IsDecided (Resize name size) (step.Resize name size) dev loaded
unfolding says
resize-decides name size dev loaded = refl

wipe-decides : (name : List ℕ) (dev : Dev) (loaded : Loaded) → IsDecided (Erase name) (step.Wipe name) dev loaded
unfolding says
wipe-decides name dev loaded = refl

put-decides : (name file : List ℕ) (cells : List Cell) (dev : Dev) → image file ≡ Some cells → IsDecided (Flash name) (step.Put name cells) dev (Some file)
unfolding says
put-decides name file cells dev e =
    ap (λ o. decides (flash_refusal dev (Some file) name) (apply (step.Put name (unwrap_or o []))) dev (Some file)) e
    ∙ ap (λ o. decides o (apply (step.Put name cells)) dev (Some file)) (flash_refuses_as_put dev name file cells e)

boot-boots : (what : BootTarget) (dev : Dev) (loaded : Loaded) → IsBooted (Reboot what) (mode_of what) dev loaded
unfolding says
boot-boots what dev loaded = refl

table-decides : (name file : List ℕ) (tables : Tables) (wipe : Bool) (dev : Dev) → tables_of file ≡ Some tables → dev.super_name ≡ Some name →
    IsDecided (UpdateSuper name wipe) (step.Table tables wipe) dev (Some file)
unfolding says
table-decides name file tables wipe dev e n =
    ap (λ o. decides (update_refusal dev (Some file) o name wipe) (updates o wipe) dev (Some file)) e
    ∙ ap (λ o. decides o (apply (step.Table tables wipe)) dev (Some file)) (update_refused_as_table dev name file tables wipe n)

pub decisions : Decisions
decisions = record { active = active-decides; resize = resize-decides; wipe = wipe-decides; put = put-decides; table = table-decides; boot = boot-boots }
