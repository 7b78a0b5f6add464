-- What a command leaves of a device's mode, and what is due after it.
use Rattle.std.proofs.Common.{◌≡◌, ◌≢◌, ◌⊎◌, inl, inr, ℕ, ◌<◌, ◌≤◌, Bool, true, false, nat_lt, List, [], ◌∷◌, length, Option, Some, None, refl, sym, ap, subst, ◌∙◌, arith}
use Rattle.std.specs.Prelude.{codes}
use Rattle.std.specs.Prelude.{option_and_then}
use Rattle.std.proofs.lemmas.Bool.Decides.{nat_tests}
use Rattle.fb_message.specs.declared.command.BootTarget.TheVariants as target
use Rattle.fb_message.specs.declared.reply.Reply.{Reply}
use Rattle.fb_message.specs.declared.reply.Reply.TheVariants.{Okay, Fail, Info, Text, Load}
use Rattle.fb_message.specs.CommandText.{CommandValue, GetVar, Download, Flash, Erase, SetActive, Reboot, Continue, Lock, Unlock, UnlockAbility, UpdateSuper, Create, Delete, Resize, Unknown}
use Rattle.fb_frame.specs.declared.tables.Tables.{Tables}
use Rattle.dev_disk.specs.Disks.{DiskTold}
use Rattle.dev_model.specs.declared.device.Dev.{Dev}
use Rattle.dev_model.specs.declared.device.Mode.{Mode}
use Rattle.dev_model.specs.declared.device.Mode.TheVariants as mode
use Rattle.dev_model.specs.Options.{first_passed}
use Rattle.dev_model.specs.Refusals.{download_refusal}
use Rattle.dev_model.specs.Steps.{apply, created, deleted, relocked}
use Rattle.dev_model.specs.declared.step.Step.TheVariants as step
use Rattle.wire_model.specs.Answers.{due_of}
use Rattle.wire_model.specs.TableFile.{tables_of}
use Rattle.wire_model.specs.Says.{Loaded, Said, says, decides, awaits, updates, loaded_image, mode_of}
use Rattle.wire_model.proofs.ValidReplies.{AllPlain, says-plain}
use Rattle.dev_store.specs.Held.{Held}
use Rattle.device_engine.specs.Replied.{Framed}
use Rattle.device_engine.specs.Running.{Order, Ran, Answer}

-- replies that have no DATA
plain-due : (replies : List Reply) → AllPlain replies → due_of replies ≡ None
plain-due [] p = refl
plain-due (Load count ∷ replies) p = absurd p.0
plain-due (Okay text ∷ replies) p = refl
plain-due (Fail text ∷ replies) p = refl
plain-due (Info text ∷ replies) p = refl
plain-due (Text text ∷ replies) p = refl

-- one reply at most, and a length that is taken
pub record IsSmall (dev : Dev) (count : ℕ) (said : Said) : Type 0 where
  pub few : length said.replies ≤ 1
  pub fits : count ≤ dev.max

not-due : (dev : Dev) (said : Said) (count : ℕ) → due_of said.replies ≡ None → due_of said.replies ≡ Some count → IsSmall dev count said
not-due dev said count n e = absurd cc

passed : (b : Bool) (text : List ℕ) → first_passed ((b, text) ∷ []) ≡ None → b ≡ false
passed true text e = absurd cc
passed false text e = refl

within : (most count : ℕ) → nat_lt most count ≡ false → count ≤ most
within most count e = grind (arith, nat_tests)

awaits-due : (r : Option (List ℕ)) (dev : Dev) (loaded : Loaded) (n count : ℕ) → r ≡ download_refusal dev n → due_of (awaits r n dev loaded).replies ≡ Some count →
    IsSmall dev count (awaits r n dev loaded)
awaits-due (Some text) dev loaded n count f e = absurd cc
awaits-due None dev loaded n count f e =
    let same : n ≡ count = cc in
    record {
      few = omega arith;
      fits = subst (λ k. k ≤ dev.max) same (within dev.max n (passed (nat_lt dev.max n) (codes "download too large") (sym f)));
    }

-- Data is due only after DATA alone, for a length that is taken.
pub says-due : (dev : Dev) (loaded : Loaded) (c : CommandValue) (count : ℕ) → due_of (says dev loaded c).replies ≡ Some count → IsSmall dev count (says dev loaded c)
unfolding says
says-due dev loaded (Download n) count e = awaits-due (download_refusal dev n) dev loaded n count refl e
says-due dev loaded (GetVar name) count e = not-due dev _ count (plain-due _ (says-plain dev loaded (GetVar name) tt)) e
says-due dev loaded (Flash name) count e = not-due dev _ count (plain-due _ (says-plain dev loaded (Flash name) tt)) e
says-due dev loaded (Erase name) count e = not-due dev _ count (plain-due _ (says-plain dev loaded (Erase name) tt)) e
says-due dev loaded (SetActive slot) count e = not-due dev _ count (plain-due _ (says-plain dev loaded (SetActive slot) tt)) e
says-due dev loaded (Reboot what) count e = absurd cc
says-due dev loaded Continue count e = absurd cc
says-due dev loaded Lock count e = not-due dev _ count (plain-due _ (says-plain dev loaded Lock tt)) e
says-due dev loaded Unlock count e = absurd cc
says-due dev loaded UnlockAbility count e = absurd cc
says-due dev loaded (UpdateSuper name wipe) count e = not-due dev _ count (plain-due _ (says-plain dev loaded (UpdateSuper name wipe) tt)) e
says-due dev loaded (Create name size) count e = not-due dev _ count (plain-due _ (says-plain dev loaded (Create name size) tt)) e
says-due dev loaded (Delete name) count e = not-due dev _ count (plain-due _ (says-plain dev loaded (Delete name) tt)) e
says-due dev loaded (Resize name size) count e = not-due dev _ count (plain-due _ (says-plain dev loaded (Resize name size) tt)) e
says-due dev loaded Unknown count e = absurd cc

decides-mode : (r : Option (List ℕ)) (change : Dev → Dev) (dev : Dev) (loaded : Loaded) → (change dev).mode ≡ dev.mode → (decides r change dev loaded).device.mode ≡ dev.mode
decides-mode (Some text) change dev loaded e = refl
decides-mode None change dev loaded e = e

awaits-mode : (r : Option (List ℕ)) (n : ℕ) (dev : Dev) (loaded : Loaded) → (awaits r n dev loaded).device.mode ≡ dev.mode
awaits-mode (Some text) n dev loaded = refl
awaits-mode None n dev loaded = refl

updates-mode : (o : Option Tables) (wipe : Bool) (dev : Dev) → (updates o wipe dev).mode ≡ dev.mode
updates-mode None wipe dev = refl
updates-mode (Some tables) wipe dev = refl

-- the mode is as it was, or another one starts and the connection closes
pub record Starts (dev : Dev) (said : Said) : Type 0 where
  pub running : said.device.mode ≢ mode.Halted
  pub closes : said.closed ≡ true

starts : (m : Mode) (dev : Dev) (said : Said) → said.device.mode ≡ m → m ≢ mode.Halted → said.closed ≡ true → Starts dev said
starts m dev said e n c = record { running = λ h. n (sym e ∙ h); closes = c }

boots : (what : target.the_data) → mode_of what ≢ mode.Halted
boots target.System e = absurd cc
boots target.Bootloader e = absurd cc
boots target.Fastboot e = absurd cc
boots target.Recovery e = absurd cc

pub says-mode : (dev : Dev) (loaded : Loaded) (c : CommandValue) → ((says dev loaded c).device.mode ≡ dev.mode) ⊎ Starts dev (says dev loaded c)
unfolding says
says-mode dev loaded (GetVar name) = inl refl
says-mode dev loaded (Download n) = inl (awaits-mode (download_refusal dev n) n dev loaded)
says-mode dev loaded (Flash name) = inl (decides-mode _ (apply (step.Put name (loaded_image loaded))) dev loaded refl)
says-mode dev loaded (Erase name) = inl (decides-mode _ (apply (step.Wipe name)) dev loaded refl)
says-mode dev loaded (SetActive slot) = inl (decides-mode _ (apply (step.Active slot)) dev loaded refl)
says-mode dev loaded (Reboot what) = inr (starts (mode_of what) dev _ refl (boots what) refl)
says-mode dev loaded Continue = inr (starts mode.System dev _ refl (λ e. absurd cc) refl)
says-mode dev loaded Lock = inl (decides-mode _ relocked dev loaded refl)
says-mode dev loaded Unlock = inl refl
says-mode dev loaded UnlockAbility = inl refl
says-mode dev loaded (UpdateSuper name wipe) = inl (decides-mode _ (updates (option_and_then tables_of loaded) wipe) dev loaded (updates-mode (option_and_then tables_of loaded) wipe dev))
says-mode dev loaded (Create name size) = inl (decides-mode _ (created name size) dev loaded refl)
says-mode dev loaded (Delete name) = inl (decides-mode _ (deleted name) dev loaded refl)
says-mode dev loaded (Resize name size) = inl (decides-mode _ (apply (step.Resize name size)) dev loaded refl)
says-mode dev loaded Unknown = inl refl

-- Where data is due after a command, it has one reply and its length is taken.
pub ran-due : {K : Type 0} (told : K → DiskTold) (old new : Held K) (order : Order) (a : Answer) (count : ℕ) → Ran told old new order a → a.due ≡ Some count →
    (a.replies.count < 1024) × (count ≤ old.device.max)
unfolding Ran
ran-due told old new order a count (inl done) e =
    let small = says-due old.device order.loaded order.command count (sym done.due ∙ e) in
    (omega (arith, small.few, ap (λ (f : Framed). f.count) done.replied), small.fits)
ran-due told old new order a count (inr broke) e =
    let none : a.due ≡ None = ap (λ (b : Answer). b.due) broke.1.answered in absurd cc
