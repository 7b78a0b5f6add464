-- What a device says to the commands that are refused or done.
use Rattle.std.proofs.Common.{◌≡◌, refl, ℕ, Bool, List}
use Rattle.std.specs.Prelude.{option_and_then}
use Rattle.fb_frame.specs.declared.slot.Slot.{Slot}
use Rattle.fb_message.specs.CommandText.{Flash, Erase, SetActive, Lock, UpdateSuper, Create, Delete, Resize}
use Rattle.dev_model.specs.declared.device.Dev.{Dev}
use Rattle.dev_model.specs.declared.step.Step.TheVariants as step
use Rattle.dev_model.specs.Refusals.{flash_refusal, erase_refusal, active_refusal, lock_refusal, create_refusal, delete_refusal, resize_refusal, update_refusal}
use Rattle.dev_model.specs.Steps.{apply, activated, created, deleted, relocked}
use Rattle.wire_model.specs.Says.{Loaded, says, decides, loaded_image, updates}
use Rattle.wire_model.specs.TableFile.{tables_of}

module _ (dev : Dev) (loaded : Loaded) where
  pub says-active : (slot : Slot) → says dev loaded (SetActive slot) ≡ decides (active_refusal dev) (activated slot) dev loaded
  unfolding says
  says-active slot = refl

  pub says-lock : says dev loaded Lock ≡ decides (lock_refusal dev) relocked dev loaded
  unfolding says
  says-lock = refl

  pub says-create : (name : List ℕ) (size : ℕ) → says dev loaded (Create name size) ≡ decides (create_refusal dev name size) (created name size) dev loaded
  unfolding says
  says-create name size = refl

  pub says-delete : (name : List ℕ) → says dev loaded (Delete name) ≡ decides (delete_refusal dev name) (deleted name) dev loaded
  unfolding says
  says-delete name = refl

  pub says-resize : (name : List ℕ) (size : ℕ) → says dev loaded (Resize name size) ≡ decides (resize_refusal dev name size) (apply (step.Resize name size)) dev loaded
  unfolding says
  says-resize name size = refl

  pub says-update : (name : List ℕ) (wipe : Bool) →
      says dev loaded (UpdateSuper name wipe)
      ≡ decides (update_refusal dev loaded (option_and_then tables_of loaded) name wipe) (updates (option_and_then tables_of loaded) wipe) dev loaded
  unfolding says
  says-update name wipe = refl

  pub says-erase : (name : List ℕ) → says dev loaded (Erase name) ≡ decides (erase_refusal dev name) (apply (step.Wipe name)) dev loaded
  unfolding says
  says-erase name = refl

  pub says-flash : (name : List ℕ) → says dev loaded (Flash name) ≡ decides (flash_refusal dev loaded name) (apply (step.Put name (loaded_image loaded))) dev loaded
  unfolding says
  says-flash name = refl
