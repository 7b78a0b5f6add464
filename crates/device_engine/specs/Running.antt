-- A device in one of its modes, and what a command makes of it.
use Rattle.std.specs.Prelude.{◌≡◌, ◌⊎◌, ℕ, Bool, true, List, [], ◌∷◌, Option, Some, None, is_some, IsTrue}
use Rattle.std.specs.Prelude.{codes, if◌then◌else◌}
use Rattle.fb_frame.specs.Causes.{Rose}
use Rattle.fb_message.specs.declared.reply.Reply.TheVariants.{Fail}
use Rattle.fb_message.specs.CommandText.{CommandValue}
use Rattle.dev_disk.specs.Disks.{DiskTold}
use Rattle.dev_model.specs.declared.device.Dev.{Dev}
use Rattle.dev_model.specs.declared.device.Mode.{Mode}
use Rattle.dev_model.specs.declared.device.Mode.TheVariants as mode
use Rattle.wire_model.specs.Answers.{due_of}
use Rattle.wire_model.specs.Says.{Loaded, Said, says}
use Rattle.wire_model.specs.Halts.{Halts}
use Rattle.wire_model.specs.Laws.{OnlyModeChanges}
use Rattle.dev_store.specs.Faults.{IsHonest}
use Rattle.dev_store.specs.Held.{Held, image_of, seen, Holds, IsWhole, DiskKept}
use Rattle.device_engine.specs.Replied.{Framed, framed}
use Rattle.device_engine.specs.declared.device.Loaded.{Loaded as LoadedBytes}
use Rattle.device_engine.specs.declared.device.Loaded.TheVariants.{Nothing, Bytes}
use Rattle.device_engine.specs.declared.device.Device.{Device}
use Rattle.device_engine.specs.declared.device.Device.TheVariants.{Bootloader, Userspace, Gone, Halted}

-- what was downloaded last, where anything was
abbrev pub loaded_value : LoadedBytes → Loaded
loaded_value Nothing = None
loaded_value (Bytes bytes) = Some bytes.now

-- what the device holds, whatever its mode
abbrev pub held_of : {K : Type 0} → Device K → Held K
held_of (Bootloader d) = d
held_of (Userspace d) = d
held_of (Gone d) = d
held_of (Halted d) = d

-- the device left fastboot
abbrev pub IsLeftFastboot : Mode → Type 0
IsLeftFastboot m = (m ≡ mode.System) ⊎ (m ≡ mode.Recovery)

-- the mode of the device is the one of its variant
abbrev pub IsTyped : {K : Type 0} → Device K → Type 0
IsTyped (Bootloader d) = d.device.mode ≡ mode.Bootloader
IsTyped (Userspace d) = d.device.mode ≡ mode.Userspace
IsTyped (Gone d) = IsLeftFastboot d.device.mode
IsTyped (Halted d) = d.device.mode ≡ mode.Halted

abbrev pub IsInOrderIn : {K : Type 0} → Mode → (K → DiskTold) → Held K → Type 0
IsInOrderIn mode.Halted told held = Unit {0}
IsInOrderIn m told held = IsWhole told held

-- The image stands for the device, unless it halted.
abbrev pub IsInOrder : {K : Type 0} → (K → DiskTold) → Held K → Type 0
IsInOrder told held = IsInOrderIn held.device.mode told held

abbrev pub HasDeviceIn : {K : Type 0} → Mode → (K → DiskTold) → Held K → Dev → Type 0
HasDeviceIn mode.Halted told held dev =
    (dev.mode ≡ mode.Halted) × (IsHonest (told held.disk).torn → Holds (image_of told held) dev)
HasDeviceIn m told held dev = dev ≡ held.device

-- The device is the one that is held. What is held of one that halted tells its mode alone: it is a device for
-- which the image stands, where what failed writes left reads as before, as written, or not at all.
abbrev pub HasDevice : {K : Type 0} → (K → DiskTold) → Held K → Dev → Type 0
HasDevice told held dev = HasDeviceIn held.device.mode told held dev

-- a command, and what is loaded when it comes
pub record Order : Type 0 where
  pub loaded : Loaded
  pub command : CommandValue

abbrev pub order : LoadedBytes → CommandValue → Order
order loaded command = record { loaded = loaded_value loaded; command = command }

-- What is answered to a command: the replies, how many bytes of a download are due after them, and whether
-- the connection closes.
pub record Answer : Type 0 where
  pub replies : Framed
  pub due : Option ℕ
  pub closes : Bool

abbrev pub answer : Framed → Option ℕ → Bool → Answer
answer replies due closes = record { replies = replies; due = due; closes = closes }

-- what is answered where the disk failed
abbrev pub faulted : Answer
faulted = answer (framed (Fail (codes "disk fault") ∷ [])) None true

-- what is loaded after an answer: nothing while a download is due
abbrev pub loaded_then : Option ℕ → Loaded → Loaded
loaded_then due loaded = if is_some due then None else loaded

-- The command was done: its replies, its device as far as the disk tells, and what follows.
pub record IsDone (file : Option (List ℕ)) (said : Said) (order : Order) (device : Dev)
    (answer : Answer) : Type 0 where
  pub replied : answer.replies ≡ framed said.replies
  pub left : device ≡ seen file said.device
  pub due : answer.due ≡ due_of said.replies
  pub loaded : said.loaded ≡ loaded_then answer.due order.loaded
  pub closing : answer.closes ≡ said.closed

-- The disk failed in the command: one reply, and a device that such a command leaves.
pub record IsBroken {K : Type 0} (told : K → DiskTold) (dev : Dev) (order : Order) (new : Held K)
    (answer : Answer) : Type 0 where
  pub left : Dev
  pub halts : Halts dev order.loaded order.command left
  pub halted : new.device.mode ≡ mode.Halted
  pub stands : HasDevice told new left
  pub answered : answer ≡ faulted

-- What a command made of a device: what the device says to it, or what a failed disk leaves of it, which
-- comes only where the count of faults rose.
unfoldable pub Ran : {K : Type 0} → (K → DiskTold) → Held K → Held K → Order → Answer → Type 0
Ran told old new order answer =
    IsDone (image_of told new) (says old.device order.loaded order.command) order new.device answer
    ⊎ (Rose (told old.disk).faults (told new.disk).faults × IsBroken told old.device order new answer)

abbrev pub HasMaxIn : Mode → ℕ → Dev → Type 0
HasMaxIn mode.Halted max dev = Unit {0}
HasMaxIn m max dev = dev.max ≡ max

-- the longest download that is taken, unless the device halted
abbrev pub HasMax : ℕ → Dev → Type 0
HasMax max dev = HasMaxIn dev.mode max dev

-- A device after a call: it is in the mode of its variant and in order, and its disk holds the same image.
pub record Follows {K L : Type 0} (told : K → DiskTold) (lent : K → L) (old : Held K)
    (next : Device K) : Type 0 where
  pub typed : IsTyped next
  pub in_order : IsInOrder told (held_of next)
  pub max : HasMax old.device.max (held_of next).device
  pub kept : DiskKept told lent old.disk (held_of next).disk

-- A locked device keeps all but its mode: partitions, groups, slot, flags and lock.
abbrev pub StaysLocked : {K : Type 0} → (K → DiskTold) → Held K → Held K → Type 0
StaysLocked told old new =
    IsTrue old.device.locked → (dev : Dev) × HasDevice told new dev × OnlyModeChanges old.device dev
