-- Commands that change nothing of a device.
use Rattle.std.proofs.Common.{◌≡◌, ◌∙◌, inl, refl, ap, sym, subst, ℕ, Bool, true, false, cond, List, [], ◌∷◌, ◌++◌, map, Option, Some, None}
use Rattle.std.specs.Prelude.{bytes_eq, codes}
use Rattle.fb_message.specs.declared.reply.Reply.TheVariants.{Okay, Info}
use Rattle.fb_message.specs.CommandText.{CommandValue, GetVar, Download, Flash, Erase, SetActive, Reboot, Continue, Lock, Unlock, UnlockAbility, UpdateSuper, Create, Delete, Resize, Unknown}
use Rattle.dev_disk.specs.Disks.{DiskTold}
use Rattle.dev_model.specs.declared.device.Dev.{Dev}
use Rattle.dev_model.specs.declared.device.Mode.{Mode}
use Rattle.dev_model.specs.declared.device.Mode.TheVariants.{Bootloader, Userspace, System, Recovery, Halted}
use Rattle.dev_model.specs.Partitions.{is_fastboot, is_userspace}
use Rattle.dev_model.specs.Refusals.{download_refusal}
use Rattle.dev_model.specs.Variables.{Row, value, all_rows}
use Rattle.wire_model.specs.Answers.{due_of}
use Rattle.wire_model.specs.Says.{Loaded, Said, says, awaits, tells}
use Rattle.dev_store.specs.Held.{Held, image_of, seen, IsWhole}
use Rattle.dev_store.specs.States.{start_mode}
use Rattle.dev_store.specs.StoreCalls.{started_in}
use Rattle.device_engine.specs.Replied.{Framed, framed}
use Rattle.device_engine.specs.Running.{Order, answer, loaded_then, Ran}
use Rattle.device_engine.specs.Kinds.{IsTold}
use Rattle.device_engine.proofs.KeptLemmas.{seen-held}

-- a device that answers commands is started as it is
pub same-mode : (mode : Mode) → is_fastboot mode ≡ true → start_mode (is_userspace mode) ≡ mode
same-mode Bootloader e = refl
same-mode Userspace e = refl
same-mode System e = absurd cc
same-mode Recovery e = absurd cc
same-mode Halted e = absurd cc

pub same-started : (userspace : Bool) (dev : Dev) → is_fastboot dev.mode ≡ true → userspace ≡ is_userspace dev.mode → started_in userspace dev ≡ dev
same-started userspace dev e u =
    let mode = ap start_mode u ∙ same-mode dev.mode e in
    λ i. record dev { mode = mode i }

-- no download is due where a device only tells
infos-due : (rows : List Row) → due_of (map (λ row. Info (row.0 ++ 58 ∷ row.1)) rows ++ Okay [] ∷ []) ≡ None
infos-due [] = refl
infos-due (row ∷ rows) = refl

told-due : (text : Option (List ℕ)) → due_of (tells text) ≡ None
told-due None = refl
told-due (Some text) = refl

pub asked-due : (all : Bool) (rows : List Row) (text : Option (List ℕ)) →
    due_of (cond all (map (λ row. Info (row.0 ++ 58 ∷ row.1)) rows ++ Okay [] ∷ []) (tells text)) ≡ None
asked-due true rows text = infos-due rows
asked-due false rows text = told-due text

pub get-due : (dev : Dev) (loaded : Loaded) (command : CommandValue) (name : List ℕ) → command ≡ GetVar name → None ≡ due_of (says dev loaded command).replies
unfolding says
get-due dev loaded command name e =
    sym (ap (λ c. due_of (says dev loaded c).replies) e ∙ asked-due (bytes_eq name (codes "all")) (all_rows dev) (value dev name))

-- the device stays, the connection stays open, and what is loaded goes only where a download is due
record IsStill (dev : Dev) (was : Loaded) (said : Said) : Type 0 where
  device : said.device ≡ dev
  loaded : said.loaded ≡ loaded_then (due_of said.replies) was
  closed : said.closed ≡ false

awaits-still : (refusal : Option (List ℕ)) (count : ℕ) (dev : Dev) (loaded : Loaded) → IsStill dev loaded (awaits refusal count dev loaded)
awaits-still None count dev loaded = record { device = refl; loaded = refl; closed = refl }
awaits-still (Some text) count dev loaded = record { device = refl; loaded = refl; closed = refl }

told-still : (dev : Dev) (loaded : Loaded) (command : CommandValue) → IsTold command → IsStill dev loaded (says dev loaded command)
unfolding says
told-still dev loaded (GetVar name) t = record {
  device = refl;
  loaded = ap (λ due. loaded_then due loaded) (sym (asked-due (bytes_eq name (codes "all")) (all_rows dev) (value dev name)));
  closed = refl;
}
told-still dev loaded (Download count) t = awaits-still (download_refusal dev count) count dev loaded
told-still dev loaded Unknown t = record { device = refl; loaded = refl; closed = refl }
told-still dev loaded (Flash name) t = absurd t
told-still dev loaded (Erase name) t = absurd t
told-still dev loaded (SetActive slot) t = absurd t
told-still dev loaded (Reboot what) t = absurd t
told-still dev loaded Continue t = absurd t
told-still dev loaded Lock t = absurd t
told-still dev loaded Unlock t = record { device = refl; loaded = refl; closed = refl }
told-still dev loaded UnlockAbility t = record { device = refl; loaded = refl; closed = refl }
told-still dev loaded (UpdateSuper name wipe) t = absurd t
told-still dev loaded (Create name size) t = absurd t
told-still dev loaded (Delete name) t = absurd t
told-still dev loaded (Resize name size) t = absurd t

-- a command that changes nothing is done once its replies are there
pub told-ran : {K : Type 0} (told : K → DiskTold) (held new : Held K) (order : Order) (replies : Framed) (due : Option ℕ) → IsWhole told held → IsTold order.command →
    new ≡ held → replies ≡ framed (says held.device order.loaded order.command).replies → due ≡ due_of (says held.device order.loaded order.command).replies →
    Ran told held new order (answer replies due false)
unfolding Ran
told-ran told held new order replies due w t e r d =
    let still = told-still held.device order.loaded order.command t in
    subst (λ h. Ran told held h order (answer replies due false)) (sym e) (inl (record {
      replied = r;
      left = seen-held (image_of told held) held.device w.sound.stands ∙ ap (seen (image_of told held)) (sym still.device);
      due = d;
      loaded = still.loaded ∙ ap (λ o. loaded_then o order.loaded) (sym d);
      closing = sym still.closed;
    }))
