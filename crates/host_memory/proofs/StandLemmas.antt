-- A device that an image stands for runs fastboot.
use Rattle.std.proofs.Common.{◌≡◌, ℕ, ◌==◌, Bool, true, false, List, length, Option, Some, None, nat_le, IsTrue, refl, subst}
use Rattle.std.specs.Prelude.{Result, Ok, Err, IfOk}
use Rattle.dev_model.specs.declared.bad_image.BadImage.{BadImage}
use Rattle.dev_model.specs.declared.bad_image.BadImage.TheVariants.{ShortFile, BadLayout, BadLength, BadState}
use Rattle.dev_model.specs.declared.device.Dev.{Dev}
use Rattle.dev_model.specs.Partitions.{is_fastboot}
use Rattle.super_meta.specs.Flaws.{◌then_on◌}
use Rattle.dev_store.specs.Layouts.{layout_in, image_size}
use Rattle.dev_store.specs.Stand.{stand, check, or_bad, super_found}
use Rattle.dev_store.specs.States.{record_in, start_mode}
use Rattle.wire_told.specs.Places.{Stand, Device, Bad, Nothing}
use Rattle.pair_port.specs.Pairs.{stand_in, stand_by}

abbrev Runs : Dev → Type 0
Runs dev = IsTrue (is_fastboot dev.mode)

starts : (userspace : Bool) → IsTrue (is_fastboot (start_mode userspace))
starts true = refl
starts false = refl

-- what holds of every next value holds of the one that comes out
then-ok : {X Y E : Type 0} (P : Y → Type 0) (r : Result X E) (next : X → Result Y E) → ((x : X) → IfOk (next x) P) → IfOk (r then_on next) P
then-ok P (Ok x) next f = f x
then-ok P (Err e) next f = tt

pub stand-runs : (file : List ℕ) → IfOk (stand file) (λ dev. IsTrue (is_fastboot dev.mode))
unfolding stand
stand-runs file =
    then-ok Runs (check ShortFile (nat_le 12288 (length file))) _ (λ _.
    then-ok Runs (or_bad BadLayout (layout_in file)) _ (λ layout.
    then-ok Runs (check BadLength (length file == image_size layout)) _ (λ _.
    then-ok Runs (or_bad BadState (record_in layout.slots file)) _ (λ found.
    then-ok Runs (super_found layout layout.super_part file) _ (λ super.
    starts found.1.userspace)))))

-- of what stands at a place
abbrev RunsAt : Stand → Type 0
RunsAt (Device dev) = Runs dev
RunsAt (Bad kind) = Unit {0}
RunsAt Nothing = Unit {0}

by-result : (r : Result Dev BadImage) → IfOk r Runs → RunsAt (stand_by r)
by-result (Ok dev) h = h
by-result (Err bad) h = tt

runs-in : (file : Option (List ℕ)) → RunsAt (stand_in file)
runs-in None = tt
runs-in (Some file) = by-result (stand file) (stand-runs file)

pub runs-at : (file : Option (List ℕ)) (dev : Dev) → stand_in file ≡ Device dev → IsTrue (is_fastboot dev.mode)
runs-at file dev e = subst RunsAt e (runs-in file)
