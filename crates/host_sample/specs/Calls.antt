-- What a call of fbflash comes to, a sample too.
use Rattle.std.specs.Prelude.{◌≡◌, ℕ, Option, Some}
use Rattle.host_driver.specs.Jobs.{Outside}
use Rattle.host_words.specs.Requests.{Request, Sample}
use Rattle.host_top.specs.Ending.{IsSamePort}
use Rattle.host_top.specs.Hosted.{Hosted}
use Rattle.host_sample.specs.Samples.{IsSampled}

-- A sample was drawn by this number: with status 0 it was installed, reported and shown. The port wasn't used.
pub record Draws (number : ℕ) (old new : Outside) (status : ℕ) : Type 0 where
  pub sampled : status ≡ 0 → IsSampled number old.text new.text
  pub port : IsSamePort old.port new.port

-- a sample, or what the top call of host_top comes to
abbrev pub Comes : Option Request → Outside → Outside → ℕ → Type 0
Comes (Some (Sample number)) old new status = Draws number old new status
Comes request old new status = Hosted request old new status
