-- What the steps of an unlocking leave of a store.
use Rattle.std.specs.Prelude.{◌≡◌, ℕ, false, List, length, Option, Some, None, Ok, codes}
use Rattle.dev_model.specs.declared.device.Dev.{Dev}
use Rattle.dev_model.specs.Partitions.{with_bytes}
use Rattle.dev_model.specs.Steps.{wiped}
use Rattle.dev_store.specs.Stand.{stand}
use Rattle.dev_store.specs.StoreCalls.{IsPartly, part_bytes}
use Rattle.device_jobs.specs.Outcomes.{unlocked_device}
use Rattle.device_jobs.specs.Leaves.{IsLeft, StandsUnlocking}

-- the device with each byte of `userdata` 0xFF, and the device unlocked
abbrev pub wiped_device : Dev → Dev
wiped_device dev = with_bytes (codes "userdata") wiped dev

abbrev pub without_lock : Dev → Dev
without_lock dev = record dev { locked = false }

-- the same device but for any bytes in `userdata`, where the bytes are told
abbrev pub IsPartlyWiped : Option (List ℕ) → Dev → Dev → Type 0
IsPartlyWiped None dev t = Unit {0}
IsPartlyWiped (Some file) dev t =
    IsPartly (codes "userdata") 0 (length (part_bytes (codes "userdata") dev)) dev t

-- the wiped device, where the bytes are told
abbrev pub IsWiped : Option (List ℕ) → Dev → Dev → Type 0
IsWiped None dev t = Unit {0}
IsWiped (Some file) dev t = t ≡ wiped_device dev

-- what the told image stands for after an unlocking, whether it was cut off or not
abbrev pub LeavesStore : Option (List ℕ) → Dev → Type 0
LeavesStore None dev = Unit {0}
LeavesStore (Some file) dev = StandsUnlocking (Ok dev) (stand file)

-- the told image is that of the unlocked device
abbrev pub EndsUnlocked : Option (List ℕ) → Dev → Type 0
EndsUnlocked None dev = Unit {0}
EndsUnlocked (Some file) dev = IsLeft (unlocked_device dev) file
