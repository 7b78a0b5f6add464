-- The kinds of commands: those that only tell, those that start another mode, and those that work on the store.
use Rattle.std.specs.Prelude.{List, map, Option, Some, None}
use Rattle.fb_message.specs.declared.reply.Reply.{Reply}
use Rattle.fb_message.specs.declared.reply.Reply.TheVariants.{Info}
use Rattle.fb_message.specs.CommandText.{CommandValue, GetVar, Download, Flash, Erase, SetActive}
use Rattle.fb_message.specs.CommandText.{Reboot, Continue, Lock, Unlock, UnlockAbility, UpdateSuper}
use Rattle.fb_message.specs.CommandText.{Create, Delete, Resize, Unknown}
use Rattle.dev_model.specs.declared.device.Mode.{Mode}
use Rattle.dev_model.specs.declared.device.Mode.TheVariants.{Bootloader, Userspace, System, Recovery, Halted}
use Rattle.dev_model.specs.Variables.{Row}
use Rattle.wire_model.specs.Says.{mode_of}
use Rattle.dev_store.specs.StoreCalls.{info_text}

-- one INFO for each variable
abbrev pub infos : List Row → List Reply
infos rows = map (λ row. Info (info_text row)) rows

-- The command changes nothing, whatever the device: it asks, announces a download, or is never done.
abbrev pub IsTold : CommandValue → Type 0
IsTold (GetVar name) = Unit {0}
IsTold (Download count) = Unit {0}
IsTold Unlock = Unit {0}
IsTold UnlockAbility = Unit {0}
IsTold Unknown = Unit {0}
IsTold _ = ⊥

-- the mode that a command starts, None where it starts none
abbrev pub started : CommandValue → Option Mode
started (Reboot what) = Some (mode_of what)
started Continue = Some System
started _ = None

-- The command works on the store.
abbrev pub IsWork : CommandValue → Type 0
IsWork (Flash name) = Unit {0}
IsWork (Erase name) = Unit {0}
IsWork (SetActive slot) = Unit {0}
IsWork Lock = Unit {0}
IsWork (UpdateSuper name wipe) = Unit {0}
IsWork (Create name size) = Unit {0}
IsWork (Delete name) = Unit {0}
IsWork (Resize name size) = Unit {0}
IsWork _ = ⊥

-- The device answers commands, or left fastboot.
abbrev pub IsLive : Mode → Type 0
IsLive Halted = ⊥
IsLive Bootloader = Unit {0}
IsLive Userspace = Unit {0}
IsLive System = Unit {0}
IsLive Recovery = Unit {0}
