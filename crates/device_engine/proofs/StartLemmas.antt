-- Commands that start a device in another mode.
use Rattle.std.proofs.Common.{◌≡◌, ◌∙◌, inl, inr, refl, ap, sym, subst, ℕ, Bool, true, false, List, [], ◌∷◌, Option, Some, None}
use Rattle.std.specs.Result.{IsErrOf}
use Rattle.std.specs.Prelude.{Result, Ok, Err, OnErr, ◌&&◌, ◌||◌, ◌==◌, IsTrue, codes, unwrap_or}
use Rattle.fb_frame.specs.Causes.{Rose}
use Rattle.fb_message.specs.declared.reply.Reply.TheVariants.{Okay, Fail}
use Rattle.fb_message.specs.declared.command.BootTarget.{BootTarget}
use Rattle.fb_message.specs.declared.command.BootTarget.TheVariants as target
use Rattle.fb_message.specs.CommandText.{CommandValue, GetVar, Download, Flash, Erase, SetActive, Reboot, Continue, Lock, Unlock, UnlockAbility, UpdateSuper, Create, Delete, Resize, Unknown}
use Rattle.dev_disk.specs.Disks.{DiskTold}
use Rattle.dev_model.specs.declared.device.Dev.{Dev}
use Rattle.dev_model.specs.declared.device.Mode.{Mode}
use Rattle.dev_model.specs.declared.device.Mode.TheVariants.{Bootloader, Userspace, System, Recovery, Halted}
use Rattle.dev_model.specs.Partitions.{with_mode, is_userspace}
use Rattle.dev_model.specs.Validity.{IsValid, is_flags, is_blank, is_first}
use Rattle.wire_model.specs.Answers.{due_of}
use Rattle.wire_model.specs.Says.{Loaded, says, leaves, mode_of}
use Rattle.wire_model.specs.Halts.{Halts}
use Rattle.dev_store.specs.Faults.{IsHonest}
use Rattle.dev_store.specs.Held.{Held, held_in, image_of, seen, Holds, IsWhole}
use Rattle.dev_store.specs.Stand.{Stands, Starts}
use Rattle.dev_store.specs.declared.state.State.{State}
use Rattle.dev_store.specs.States.{is_state, start_mode, kept_state, with_state}
use Rattle.dev_store.specs.declared.errors.StoreError.{StoreError}
use Rattle.dev_store.specs.declared.errors.StoreError.TheVariants.{Disk}
use Rattle.dev_store.specs.StoreCalls.{Decided, StandsAround}
use Rattle.device_engine.specs.Replied.{Framed, framed}
use Rattle.device_engine.specs.Running.{Order, answer, Ran}
use Rattle.device_engine.specs.Kinds.{started, IsLive}
use Rattle.device_engine.proofs.KeptLemmas.{seen-held, seen-mode}
use Rattle.device_engine.proofs.ModeLemmas.{whole-in}

-- what a record keeps of a valid device can be stored, with any start mode
both-alike : (p a b : Bool) → (p && (a && (b && true))) ≡ ((p && a) && b)
both-alike false a b = refl
both-alike true a true = refl
both-alike true a false = refl

pub state-fits : (dev : Dev) (userspace : Bool) → IsValid dev → IsTrue (is_state dev.slots (record (kept_state dev) { userspace = userspace }))
unfolding is_state
state-fits dev userspace v =
    let bare = (dev.slots == 0) && is_first dev.active in
    let slotted = dev.slots == 2 in
    ap (λ x. x || (bare && (is_blank dev.flags.a && (is_blank dev.flags.b && true)))) (both-alike slotted (is_flags dev.flags.a) (is_flags dev.flags.b))
    ∙ ap (λ y. ((slotted && is_flags dev.flags.a) && is_flags dev.flags.b) || y) (both-alike bare (is_blank dev.flags.a) (is_blank dev.flags.b))
    ∙ v.slots

pub state-stored : (dev : Dev) (state : State) (userspace : Bool) → IsValid dev → state ≡ kept_state dev → IsTrue (is_state dev.slots (record state { userspace = userspace }))
state-stored dev state userspace v e = subst (λ s. IsTrue (is_state dev.slots (record s { userspace = userspace }))) (sym e) (state-fits dev userspace v)

-- the device with the start mode alone changed
pub device-started : (dev : Dev) (state : State) (userspace : Bool) → state ≡ kept_state dev → with_state (record state { userspace = userspace }) dev ≡ with_mode (start_mode userspace) dev
device-started dev state userspace e = ap (λ s. with_state (record s { userspace = userspace }) dev) e

-- only the disk fails, and its count rose
pub decided-rose : {K T : Type 0} (told : K → DiskTold) (old new : Held K) (r : Result T StoreError) → Decided told None old new r → OnErr r (Rose (told old.disk).faults (told new.disk).faults)
decided-rose told old new (Ok x) d = tt
decided-rose told old new (Err error) d = d.1

pub decided-so : {K T A : Type 0} (told : K → DiskTold) (old new : Held K) (r : Result T StoreError) → Decided told None old new r → (IsErrOf r Disk → A) → OnErr r A
decided-so told old new (Ok x) d f = tt
decided-so told old new (Err error) d f = f (ap Err d.0)

-- the command starts the mode
pub said-started : (dev : Dev) (loaded : Loaded) (command : CommandValue) (mode : Mode) → started command ≡ Some mode → says dev loaded command ≡ leaves mode dev loaded
unfolding says
said-started dev loaded (Reboot what) mode e = ap (λ m. leaves m dev loaded) (ap (λ o. unwrap_or o mode) e)
said-started dev loaded Continue mode e = ap (λ m. leaves m dev loaded) (ap (λ o. unwrap_or o mode) e)
said-started dev loaded (GetVar name) mode e = absurd cc
said-started dev loaded (Download count) mode e = absurd cc
said-started dev loaded (Flash name) mode e = absurd cc
said-started dev loaded (Erase name) mode e = absurd cc
said-started dev loaded (SetActive slot) mode e = absurd cc
said-started dev loaded Lock mode e = absurd cc
said-started dev loaded Unlock mode e = absurd cc
said-started dev loaded UnlockAbility mode e = absurd cc
said-started dev loaded (UpdateSuper name wipe) mode e = absurd cc
said-started dev loaded (Create name size) mode e = absurd cc
said-started dev loaded (Delete name) mode e = absurd cc
said-started dev loaded (Resize name size) mode e = absurd cc
said-started dev loaded Unknown mode e = absurd cc

-- where its disk fails the device halts as it was
pub started-halts : (dev : Dev) (loaded : Loaded) (command : CommandValue) (mode : Mode) → started command ≡ Some mode → Halts dev loaded command (with_mode Halted dev)
unfolding says
started-halts dev loaded (Reboot what) mode e = record { accepted = refl; change = refl }
started-halts dev loaded Continue mode e = record { accepted = refl; change = refl }
started-halts dev loaded (GetVar name) mode e = absurd cc
started-halts dev loaded (Download count) mode e = absurd cc
started-halts dev loaded (Flash name) mode e = absurd cc
started-halts dev loaded (Erase name) mode e = absurd cc
started-halts dev loaded (SetActive slot) mode e = absurd cc
started-halts dev loaded Lock mode e = absurd cc
started-halts dev loaded Unlock mode e = absurd cc
started-halts dev loaded UnlockAbility mode e = absurd cc
started-halts dev loaded (UpdateSuper name wipe) mode e = absurd cc
started-halts dev loaded (Create name size) mode e = absurd cc
started-halts dev loaded (Delete name) mode e = absurd cc
started-halts dev loaded (Resize name size) mode e = absurd cc
started-halts dev loaded Unknown mode e = absurd cc

-- no command starts a halted device
pub target-live : (what : BootTarget) → IsLive (mode_of what)
target-live target.System = tt
target-live target.Bootloader = tt
target-live target.Fastboot = tt
target-live target.Recovery = tt

pub started-live : (command : CommandValue) (mode : Mode) → started command ≡ Some mode → IsLive mode
started-live (Reboot what) mode e = subst IsLive (ap (λ o. unwrap_or o mode) e) (target-live what)
started-live Continue mode e = subst IsLive (ap (λ o. unwrap_or o mode) e) tt
started-live (GetVar name) mode e = absurd cc
started-live (Download count) mode e = absurd cc
started-live (Flash name) mode e = absurd cc
started-live (Erase name) mode e = absurd cc
started-live (SetActive slot) mode e = absurd cc
started-live Lock mode e = absurd cc
started-live Unlock mode e = absurd cc
started-live UnlockAbility mode e = absurd cc
started-live (UpdateSuper name wipe) mode e = absurd cc
started-live (Create name size) mode e = absurd cc
started-live (Delete name) mode e = absurd cc
started-live (Resize name size) mode e = absurd cc
started-live Unknown mode e = absurd cc

-- an image that opens in the mode stands for the device in it
starts-stored : (mode start : Mode) → IsLive mode → Starts start (start_mode (is_userspace mode)) → Starts start mode
starts-stored Bootloader start l s = s
starts-stored Userspace start l s = s
starts-stored System start l s = s
starts-stored Recovery start l s = s
starts-stored Halted start l s = absurd l

pub whole-started : {K : Type 0} (told : K → DiskTold) (mode : Mode) (stored : Held K) → IsLive mode → IsWhole told stored → stored.device.mode ≡ start_mode (is_userspace mode) →
    IsWhole told (held_in mode stored)
whole-started told mode stored l w e = whole-in told mode stored (λ start s. starts-stored mode start l (subst (Starts start) e s)) w

-- The mode was stored, and the device is in it.
pub started-ran : {K : Type 0} (told : K → DiskTold) (old stored new : Held K) (order : Order) (mode : Mode) (replies : Framed) → started order.command ≡ Some mode →
    IsWhole told stored → stored.device ≡ with_mode (start_mode (is_userspace mode)) old.device → new ≡ held_in mode stored → replies ≡ framed (Okay [] ∷ []) →
    Ran told old new order (answer replies None true)
unfolding Ran
started-ran told old stored new order mode replies s w changed e r =
    let said = said-started old.device order.loaded order.command mode s in
    let seen-so = seen-mode (image_of told stored) mode stored.device (seen-held (image_of told stored) stored.device w.sound.stands) in
    subst (λ h. Ran told old h order (answer replies None true)) (sym e) (inl (record {
      replied = r ∙ ap (λ x. framed x.replies) (sym said);
      left = seen-so ∙ ap (λ d. seen (image_of told stored) (with_mode mode d)) changed ∙ ap (λ x. seen (image_of told stored) x.device) (sym said);
      due = ap (λ x. due_of x.replies) (sym said);
      loaded = ap (λ x. x.loaded) said;
      closing = ap (λ x. x.closed) (sym said);
    }))

-- The disk failed: the device is as it was, or opens in the new mode, and it halted.
stands-halted : (file : List ℕ) (mode : Mode) (dev : Dev) → Stands file (with_mode mode dev) → Stands file (with_mode Halted dev)
stands-halted file mode dev s = record { found = s.found; reads = s.reads; same = ap (with_mode Halted) s.same; starts = tt }

holds-around : (o p : Option (List ℕ)) (mode : Mode) (dev : Dev) → Holds p dev → (o ≡ None → p ≡ None) → StandsAround o dev (with_mode mode dev) → Holds o (with_mode Halted dev)
unfolding Holds
holds-around None p mode dev h t a = ap (with_mode Halted) (subst (λ q. Holds q dev) (t refl) h)
holds-around (Some file) p mode dev h t (inl s) = stands-halted file dev.mode dev s
holds-around (Some file) p mode dev h t (inr s) = stands-halted file mode dev s

pub started-stopped : {K : Type 0} (told : K → DiskTold) (old stored new : Held K) (order : Order) (mode : Mode) (replies : Framed) → started order.command ≡ Some mode →
    IsWhole told old → Rose (told old.disk).faults (told stored.disk).faults → (image_of told stored ≡ None → image_of told old ≡ None) →
    (IsHonest (told stored.disk).torn → StandsAround (image_of told stored) old.device (with_mode (start_mode (is_userspace mode)) old.device)) →
    new ≡ held_in Halted stored → replies ≡ framed (Fail (codes "disk fault") ∷ []) → Ran told old new order (answer replies None true)
unfolding Ran
started-stopped told old stored new order mode replies s w rose still around e r =
    subst (λ h. Ran told old h order (answer replies None true)) (sym e) (inr (
      rose,
      record {
        left = with_mode Halted old.device;
        halts = started-halts old.device order.loaded order.command mode s;
        halted = refl;
        stands = (refl, λ honest. holds-around (image_of told stored) (image_of told old) (start_mode (is_userspace mode)) old.device w.sound.stands still (around honest));
        answered = ap (λ x. answer x None true) r;
      },
    ))
