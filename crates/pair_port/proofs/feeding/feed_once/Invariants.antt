use Rattle.pair_port.proofs.DeviceLemmas.{Picked}
use Rattle.pair_port.proofs.feeding.feed_once.Given as goal

-- a device with which what the session took is told
abbrev pub ghosts-choose : goal.ghosts-choose
ghosts-choose g a = record { fits = λ dev. Picked g.K.Disk.told a.before.now.0.value a.after.now a.before.now.1.now dev }
