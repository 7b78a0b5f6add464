-- A command that works on a store: its one reply and the device after it, or a disk that failed in it.
use Rattle.std.specs.Prelude.{◌≡◌, ℕ, not, List, [], ◌∷◌, ◌++◌, take, drop, Option, Result, Ok, Err, Bool, true, false, IsTrue, IsFalse, codes}
use Rattle.fb_frame.specs.declared.slot.Slot.{Slot}
use Rattle.fb_frame.specs.declared.slot.Slot.TheVariants.{A, B}
use Rattle.fb_frame.specs.Causes.{Rose}
use Rattle.fb_message.specs.CommandText.{CommandValue}
use Rattle.fb_message.specs.declared.reply.Reply.{Reply}
use Rattle.fb_message.specs.declared.reply.Reply.TheVariants.{Okay, Fail}
use Rattle.dev_disk.specs.Disks.{DiskTold}
use Rattle.dev_model.specs.declared.device.Dev.{Dev}
use Rattle.dev_model.specs.declared.device.Mode.TheVariants as mode
use Rattle.dev_model.specs.declared.refusal.Refusal.TheVariants.{NoSuchPartition, ImageTooLarge, NotEnoughSpace}
use Rattle.dev_model.specs.declared.refusal.Refusal.TheVariants.{GroupFull, NameTaken, TooManyPartitions}
use Rattle.dev_model.specs.declared.refusal.Refusal.TheVariants.{NoSuchGroup, BadTable}
use Rattle.dev_model.specs.declared.device.SlotFlags.{SlotFlags}
use Rattle.dev_model.specs.Options.{first_passed}
use Rattle.dev_model.specs.Partitions.{is_fastboot, is_userspace}
use Rattle.dev_model.specs.RefusalTexts.{text_of}
use Rattle.dev_model.specs.Steps.{fresh_flags}
use Rattle.wire_model.specs.Says.{Loaded, answers, says}
use Rattle.wire_model.specs.Halts.{Halts}
use Rattle.dev_store.specs.declared.errors.StoreError.{StoreError}
use Rattle.dev_store.specs.declared.errors.StoreError.TheVariants as store
use Rattle.dev_store.specs.declared.state.State.{State}
use Rattle.dev_store.specs.Faults.{IsHonest}
use Rattle.dev_store.specs.Held.{Held, image_of, seen, Holds, IsWhole}
use Rattle.device_engine.specs.Running.{Order}
use Rattle.device_engine.specs.declared.working.NotDone.{NotDone}
use Rattle.device_engine.specs.declared.working.NotDone.TheVariants.{Refused, Disk}

-- a command, and what is loaded when it comes
abbrev pub ordered : Loaded → CommandValue → Order
ordered loaded command = record { loaded = loaded; command = command }

-- why a command isn't done whose call of the store isn't
abbrev pub not_done : StoreError → NotDone
not_done store.NoPartition = Refused NoSuchPartition
not_done store.TooLarge = Refused ImageTooLarge
not_done store.NoSpace = Refused NotEnoughSpace
not_done store.GroupFull = Refused GroupFull
not_done store.NameTaken = Refused NameTaken
not_done store.TooManyPartitions = Refused TooManyPartitions
not_done store.NoGroup = Refused NoSuchGroup
not_done store.BadTable = Refused BadTable
not_done store.Disk = Disk

-- a command that ends as its call of the store does
abbrev pub ended : Result (Unit {0}) StoreError → Result (Unit {0}) NotDone
ended (Ok done) = Ok done
ended (Err error) = Err (not_done error)

-- the disk failed
abbrev pub is_broken : Result (Unit {0}) NotDone → Bool
is_broken (Ok done) = false
is_broken (Err (Refused refusal)) = false
is_broken (Err Disk) = true

-- the reply to a command
abbrev pub reply_to : Result (Unit {0}) NotDone → Reply
reply_to (Ok done) = Okay []
reply_to (Err (Refused refusal)) = Fail (text_of refusal)
reply_to (Err Disk) = Fail (codes "disk fault")

-- The device says this one reply to the command and nothing else, and the store has the device that it says,
-- as far as its disk tells.
pub record IsAnswered {K : Type 0} (told : K → DiskTold) (old new : Held K) (order : Order)
    (reply : Reply) : Type 0 where
  pub after : Dev
  pub said : says old.device order.loaded order.command ≡ answers (reply ∷ []) after order.loaded
  pub left : new.device ≡ seen (image_of told new) after
  pub whole : IsWhole told new
  pub mode : new.device.mode ≡ old.device.mode
  pub max : new.device.max ≡ old.device.max

-- The disk failed in the command: the image stands for a device that such a command leaves.
pub record IsStopped {K : Type 0} (told : K → DiskTold) (old new : Held K) (order : Order) : Type 0 where
  pub left : Dev
  pub halts : Halts old.device order.loaded order.command left
  pub halted : left.mode ≡ mode.Halted
  pub stands : IsHonest (told new.disk).torn → Holds (image_of told new) left
  pub rose : Rose (told old.disk).faults (told new.disk).faults

-- What a command that works on a store made of it.
abbrev pub Worked : {K : Type 0} → (K → DiskTold) → Held K → Held K → Order → Result (Unit {0}) NotDone → Type 0
Worked told old new order (Err Disk) = IsStopped told old new order
Worked told old new order (Err (Refused refusal)) = IsAnswered told old new order (Fail (text_of refusal))
Worked told old new order (Ok done) = IsAnswered told old new order (Okay [])

-- Unless the disk failed, the store is whole, and its device answers fastboot commands.
abbrev pub IsReady : {K : Type 0} → (K → DiskTold) → Held K → Result (Unit {0}) NotDone → Type 0
IsReady told held done =
    IsFalse (is_broken done) → IsWhole told held × IsTrue (is_fastboot held.device.mode)

-- why a device takes no command that changes its table
abbrev pub userspace_bar : Dev → Option (List ℕ)
userspace_bar dev =
    first_passed ((dev.locked, codes "locked") ∷ (not (is_userspace dev.mode), codes "userspace only") ∷ [])

-- the flags of both slots, where one was never booted
abbrev pub with_fresh : Slot → List SlotFlags → List SlotFlags
with_fresh A flags = fresh_flags ∷ drop 1 flags
with_fresh B flags = take 1 flags ++ fresh_flags ∷ []

-- the state with another active slot
abbrev pub activated_state : Slot → State → State
activated_state slot s = record s { active = slot; flags = with_fresh slot s.flags }
