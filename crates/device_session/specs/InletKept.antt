-- What the inlet of a session keeps of its parts.
use Rattle.std.specs.Prelude.{◌≡◌, ℕ, ◌-◌, ◌<◌, ◌≤◌, [], length, drop, false, vec_capacity}
use Rattle.fb_frame.specs.Stages.{Head}
use Rattle.device_session.specs.Framer.{Stands}
use Rattle.device_session.specs.declared.inlet.Awaits.{Awaits}
use Rattle.device_session.specs.declared.inlet.Awaits.TheVariants.{Shake, Command, Data}
use Rattle.device_session.specs.declared.inlet.Inlet.TheInside.{Inside}

-- a download is awaited, of which `count` bytes are due in all
pub record IsLoading (s : Inside) (count : ℕ) : Type 0 where
  pub came : s.got ≤ length s.download.items
  pub due : s.got ≤ count
  pub fits : count ≤ s.room
  pub stands : Stands (count - s.got) s.deframer (drop s.got s.download.items)
  pub unloaded : s.loaded ≡ false

-- how the parts stand, by what is awaited
abbrev pub StandsBy : Awaits → Inside → Type 0
StandsBy Shake s = (length s.command.items < 4) × (s.deframer ≡ Head [])
StandsBy Command s = Stands 4096 s.deframer s.command.items
StandsBy (Data count) s = IsLoading s count

-- The buffers have room for a command and for the longest download.
pub record IsRoomy (s : Inside) : Type 0 where
  pub holds : s.room ≤ vec_capacity s.download
  pub spells : 4096 ≤ vec_capacity s.command
  pub stands : StandsBy s.awaits s
