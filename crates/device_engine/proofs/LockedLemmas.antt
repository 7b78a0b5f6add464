-- Of a locked device a command changes the mode alone, also where the disk fails in it.
use Rattle.std.proofs.Common.{◌≡◌, ◌∙◌, inl, inr, refl, ap, sym, subst, ℕ, true, List, Option, Some, None}
use Rattle.std.specs.Prelude.{IsTrue, IsFalse, codes, option_and_then}
use Rattle.std.specs.List.{list_any}
use Rattle.fb_message.specs.CommandText.{CommandValue, GetVar, Download, Flash, Erase, SetActive, Reboot, Continue, Lock, Unlock, UnlockAbility, UpdateSuper, Create, Delete, Resize, Unknown}
use Rattle.dev_disk.specs.Disks.{DiskTold}
use Rattle.dev_model.specs.declared.device.Dev.{Dev}
use Rattle.dev_model.specs.declared.device.Mode.TheVariants.{Halted}
use Rattle.dev_model.specs.declared.step.Step.TheVariants as step
use Rattle.dev_model.specs.Refusals.{download_refusal, flash_refusal, erase_refusal, active_refusal, lock_refusal, create_refusal, delete_refusal, resize_refusal, update_refusal}
use Rattle.dev_model.specs.Steps.{apply, created, deleted, relocked}
use Rattle.wire_model.specs.TableFile.{tables_of}
use Rattle.wire_model.specs.Says.{Loaded, says, decides, awaits, loaded_image, updates}
use Rattle.wire_model.specs.Halts.{Halts, HaltsBy, is_fail}
use Rattle.wire_model.specs.Laws.{OnlyModeChanges}
use Rattle.wire_model.proofs.Locked.{locked_says, first, first-of-two}
use Rattle.dev_store.specs.Held.{Held, image_of, seen, Holds, IsSound}
use Rattle.device_engine.specs.Kinds.{IsLive}
use Rattle.device_engine.specs.Running.{Order, Answer, Ran, IsDone, IsBroken, StaysLocked}
use Rattle.device_engine.proofs.KeptLemmas.{seen-mode, mode-seen, device-in}
use Rattle.device_engine.proofs.StartLemmas.{target-live}

-- what a locked device refuses isn't done
refuses : (refusal : Option (List ℕ)) (text : List ℕ) (change : Dev → Dev) (dev : Dev) (loaded : Loaded) → refusal ≡ Some text →
    IsFalse (list_any is_fail (decides refusal change dev loaded).replies) → ⊥
refuses refusal text change dev loaded e f =
    let fails : list_any is_fail (decides refusal change dev loaded).replies ≡ true = ap (λ r. list_any is_fail (decides r change dev loaded).replies) e in
    cc

halts-by : (dev : Dev) (loaded : Loaded) (c : CommandValue) (t : Dev) → IsTrue dev.locked → IsFalse (list_any is_fail (says dev loaded c).replies) → HaltsBy dev loaded c t → OnlyModeChanges dev t
unfolding says
halts-by dev loaded (GetVar name) t l f h = absurd h
halts-by dev loaded (Download count) t l f h = absurd h
halts-by dev loaded (Flash name) t l f h = absurd (refuses (flash_refusal dev loaded name) (codes "locked") (apply (step.Put name (loaded_image loaded))) dev loaded (first _ _ dev.locked l) f)
halts-by dev loaded (Erase name) t l f h = absurd (refuses (erase_refusal dev name) (codes "locked") (apply (step.Wipe name)) dev loaded (first _ _ dev.locked l) f)
halts-by dev loaded (SetActive slot) t l f h = absurd (refuses (active_refusal dev) (codes "locked") (apply (step.Active slot)) dev loaded (first _ _ dev.locked l) f)
halts-by dev loaded (Reboot what) t l f h = (Halted, h)
halts-by dev loaded Continue t l f h = (Halted, h)
halts-by dev loaded Lock t l f h = absurd (refuses (lock_refusal dev) (codes "already locked") relocked dev loaded (first _ _ dev.locked l) f)
halts-by dev loaded Unlock t l f h = absurd h
halts-by dev loaded UnlockAbility t l f h = absurd h
halts-by dev loaded (UpdateSuper name wipe) t l f h =
    absurd (refuses (update_refusal dev loaded (option_and_then tables_of loaded) name wipe) (codes "locked") (updates (option_and_then tables_of loaded) wipe) dev loaded (first-of-two _ _ _ dev.locked l) f)
halts-by dev loaded (Create name size) t l f h = absurd (refuses (create_refusal dev name size) (codes "locked") (created name size) dev loaded (first-of-two _ _ _ dev.locked l) f)
halts-by dev loaded (Delete name) t l f h = absurd (refuses (delete_refusal dev name) (codes "locked") (deleted name) dev loaded (first _ _ dev.locked l) f)
halts-by dev loaded (Resize name size) t l f h = absurd (refuses (resize_refusal dev name size) (codes "locked") (apply (step.Resize name size)) dev loaded (first-of-two _ _ _ dev.locked l) f)
halts-by dev loaded Unknown t l f h = absurd h

pub locked-halts : (dev : Dev) (loaded : Loaded) (c : CommandValue) (t : Dev) → IsTrue dev.locked → Halts dev loaded c t → OnlyModeChanges dev t
locked-halts dev loaded c t l h = halts-by dev loaded c t l h.accepted h.change

-- a device that isn't halted isn't halted by what it says
refused-live : (refusal : Option (List ℕ)) (text : List ℕ) (change : Dev → Dev) (dev : Dev) (loaded : Loaded) → IsLive dev.mode → refusal ≡ Some text → IsLive (decides refusal change dev loaded).device.mode
refused-live refusal text change dev loaded l e = subst (λ r. IsLive (decides r change dev loaded).device.mode) (sym e) l

awaits-live : (refusal : Option (List ℕ)) (count : ℕ) (dev : Dev) (loaded : Loaded) → IsLive dev.mode → IsLive (awaits refusal count dev loaded).device.mode
awaits-live None count dev loaded l = l
awaits-live (Some text) count dev loaded l = l

locked-live : (dev : Dev) (loaded : Loaded) (c : CommandValue) → IsTrue dev.locked → IsLive dev.mode → IsLive (says dev loaded c).device.mode
unfolding says
locked-live dev loaded (GetVar name) l m = m
locked-live dev loaded (Download count) l m = awaits-live (download_refusal dev count) count dev loaded m
locked-live dev loaded (Flash name) l m = refused-live _ _ _ dev loaded m (first _ _ dev.locked l)
locked-live dev loaded (Erase name) l m = refused-live _ _ _ dev loaded m (first _ _ dev.locked l)
locked-live dev loaded (SetActive slot) l m = refused-live _ _ _ dev loaded m (first _ _ dev.locked l)
locked-live dev loaded (Reboot what) l m = target-live what
locked-live dev loaded Continue l m = tt
locked-live dev loaded Lock l m = refused-live _ _ _ dev loaded m (first _ _ dev.locked l)
locked-live dev loaded Unlock l m = m
locked-live dev loaded UnlockAbility l m = m
locked-live dev loaded (UpdateSuper name wipe) l m = refused-live _ _ _ dev loaded m (first-of-two _ _ _ dev.locked l)
locked-live dev loaded (Create name size) l m = refused-live _ _ _ dev loaded m (first-of-two _ _ _ dev.locked l)
locked-live dev loaded (Delete name) l m = refused-live _ _ _ dev loaded m (first _ _ dev.locked l)
locked-live dev loaded (Resize name size) l m = refused-live _ _ _ dev loaded m (first-of-two _ _ _ dev.locked l)
locked-live dev loaded Unknown l m = m

-- a device whose image tells its bytes still is told as far as it is
still-seen : (o p : Option (List ℕ)) (dev : Dev) → Holds p dev → (o ≡ None → p ≡ None) → dev ≡ seen o dev
unfolding seen Holds
still-seen None p dev h t = subst (λ q. Holds q dev) (t refl) h
still-seen (Some file) p dev h t = refl

seen-only : (o : Option (List ℕ)) (dev said new : Dev) → dev ≡ seen o dev → new ≡ seen o said → OnlyModeChanges dev said → OnlyModeChanges dev new
seen-only o dev said new h e (mode, same) = (mode, e ∙ ap (seen o) same ∙ sym (seen-mode o mode dev h))

module _ {K : Type 0} (told : K → DiskTold) (old new : Held K) (order : Order) (answer : Answer) where
  done-locked : IsSound told old → IsLive old.device.mode → (image_of told new ≡ None → image_of told old ≡ None) → IsDone (image_of told new) (says old.device order.loaded order.command) order new.device answer →
      StaysLocked told old new
  done-locked sound live still done locked =
      let said = (says old.device order.loaded order.command).device in
      let mode = ap (λ d. d.mode) done.left ∙ mode-seen (image_of told new) said in
      let lives = subst IsLive (sym mode) (locked-live old.device order.loaded order.command locked live) in (
        new.device,
        device-in told new.device.mode new lives,
        seen-only (image_of told new) old.device said new.device (still-seen (image_of told new) (image_of told old) old.device sound.stands still) done.left (locked_says old.device order.loaded order.command locked),
      )

  broken-locked : IsBroken told old.device order new answer → StaysLocked told old new
  broken-locked b locked = (b.left, b.stands, locked-halts old.device order.loaded order.command b.left locked b.halts)

  pub ran-locked : IsSound told old → IsLive old.device.mode → (image_of told new ≡ None → image_of told old ≡ None) → Ran told old new order answer → StaysLocked told old new
  unfolding Ran
  ran-locked sound live still (inl done) = done-locked sound live still done
  ran-locked sound live still (inr (rose, broken)) = broken-locked broken
