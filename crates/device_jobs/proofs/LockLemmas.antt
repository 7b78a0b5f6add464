-- The state of an unlocked device.
use Rattle.std.proofs.Common.{◌≡◌, refl, Bool, true, false, ◌&&◌, ◌||◌}
use Rattle.std.specs.Prelude.{IsTrue, ◌==◌}
use Rattle.std.proofs.lemmas.Bool.{false≢true}
use Rattle.dev_model.specs.declared.device.Dev.{Dev}
use Rattle.dev_model.specs.declared.device.Mode.{Mode}
use Rattle.dev_model.specs.declared.device.Mode.TheVariants.{Bootloader, Userspace, System, Recovery, Halted}
use Rattle.dev_model.specs.Partitions.{is_fastboot, is_userspace}
use Rattle.dev_model.specs.Validity.{IsValid, is_flags, is_first, is_blank}
use Rattle.dev_store.specs.States.{is_state, kept_state, start_mode}

-- a device that answers commands opens in the mode that it is in
pub opens-same : (m : Mode) → IsTrue (is_fastboot m) → start_mode (is_userspace m) ≡ m
opens-same Bootloader f = refl
opens-same Userspace f = refl
opens-same System f = absurd (false≢true f)
opens-same Recovery f = absurd (false≢true f)
opens-same Halted f = absurd (false≢true f)

-- the tests of a device's slots are those of its state
fits-by : (two a b none first x y : Bool) → ((two && a && b) || (none && first && x && y)) ≡ true → ((two && (a && (b && true))) || (none && first && (x && (y && true)))) ≡ true
fits-by true true true none first x y h = refl
fits-by true true false true true true true h = refl
fits-by true true false true true true false h = absurd cc
fits-by true true false true true false y h = absurd cc
fits-by true true false true false x y h = absurd cc
fits-by true true false false first x y h = absurd cc
fits-by true false b true true true true h = refl
fits-by true false b true true true false h = absurd cc
fits-by true false b true true false y h = absurd cc
fits-by true false b true false x y h = absurd cc
fits-by true false b false first x y h = absurd cc
fits-by false a b true true true true h = refl
fits-by false a b true true true false h = absurd cc
fits-by false a b true true false y h = absurd cc
fits-by false a b true false x y h = absurd cc
fits-by false a b false first x y h = absurd cc

pub fits-unlocked : (dev : Dev) → IsValid dev → IsTrue (is_state dev.slots (record (kept_state dev) { locked = false }))
unfolding is_state
fits-unlocked dev v = fits-by (dev.slots == 2) (is_flags dev.flags.a) (is_flags dev.flags.b) (dev.slots == 0) (is_first dev.active) (is_blank dev.flags.a) (is_blank dev.flags.b) v.slots
