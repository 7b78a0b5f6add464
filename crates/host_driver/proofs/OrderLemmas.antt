-- The command of an order takes the step that the order stands for.
use Rattle.std.proofs.Common.{◌≡◌, true, Option, Some, List, refl, sym, ap, subst}
use Rattle.std.specs.Prelude.{unwrap_or, Result, Ok, Err, IfOk, IfErr}
use Rattle.fb_frame.specs.declared.tables.Tables.{Tables}
use Rattle.fb_message.specs.CommandText.{CommandValue, SetActive, Resize, Erase, Reboot, Unknown}
use Rattle.dev_model.specs.declared.cells.Cell.{Cell}
use Rattle.dev_model.specs.declared.device.Dev.{Dev}
use Rattle.wire_model.specs.Says.{Loaded}
use Rattle.wire_told.specs.Peers.{Peer}
use Rattle.wire_told.proofs.Lifted.{of-of}
use Rattle.flash_plan.specs.declared.plan.Order.{Order}
use Rattle.flash_plan.specs.declared.plan.Order.TheVariants as order
use Rattle.flash_plan.specs.Plans.{step_of}
use Rattle.host_driver.specs.Commands.{IsCommandOf, takes_step, command_for}
use Rattle.fb_link.specs.Seen.{Seen}
use Rattle.dev_model.specs.declared.step.Step.{Step}
use Rattle.host_driver.specs.declared.drive.DriveError.{DriveError}
use Rattle.host_driver.specs.Stepping.{IsServing, Serving, IsCommandAt, IsStepped, IsStopped, IsAlone, NoFiles}
use Rattle.host_driver.specs.Wires.{command_wire}

some-command : (x y : CommandValue) → Some x ≡ Some y → x ≡ y
some-command x y e = cc

order-takes : (images : List (List Cell)) (tables : Tables) (o : Order) (c : CommandValue) → command_for o ≡ Some c → (dev : Dev) (loaded : Loaded) → IsCommandOf c (step_of images tables o) dev loaded
order-takes images tables (order.Active slot) c e dev loaded = subst (λ x. IsCommandOf x (step_of images tables (order.Active slot)) dev loaded) (some-command (SetActive slot) c e) refl
order-takes images tables (order.Resize name size) c e dev loaded = subst (λ x. IsCommandOf x (step_of images tables (order.Resize name size)) dev loaded) (some-command (Resize name size) c e) refl
order-takes images tables (order.Put name place) c e dev loaded = absurd cc
order-takes images tables (order.Wipe name) c e dev loaded = subst (λ x. IsCommandOf x (step_of images tables (order.Wipe name)) dev loaded) (some-command (Erase name) c e) refl
order-takes images tables (order.Table name wipe) c e dev loaded = absurd cc
order-takes images tables (order.Boot what) c e dev loaded = subst (λ x. IsCommandOf x (step_of images tables (order.Boot what)) dev loaded) (some-command (Reboot what) c e) refl

pub order-at : (images : List (List Cell)) (tables : Tables) (o : Order) (c : CommandValue) (a : Option Peer) → command_for o ≡ Some c → Serving 4104 a → IsCommandAt c (step_of images tables o) a
order-at images tables o c a e f =
    of-of (IsServing 4104) (λ w. IsCommandOf c (step_of images tables o) w.device w.loaded) (λ w p. order-takes images tables o c e w.device w.loaded) a f

pub order-steps : (o : Order) (c : CommandValue) → command_for o ≡ Some c → takes_step c ≡ true
order-steps (order.Active slot) c e = ap takes_step (sym (some-command (SetActive slot) c e))
order-steps (order.Resize name size) c e = ap takes_step (sym (some-command (Resize name size) c e))
order-steps (order.Put name place) c e = absurd cc
order-steps (order.Wipe name) c e = ap takes_step (sym (some-command (Erase name) c e))
order-steps (order.Table name wipe) c e = absurd cc
order-steps (order.Boot what) c e = ap takes_step (sym (some-command (Reboot what) c e))

pub order-command : (o : Option CommandValue) (c : CommandValue) → o ≡ Some c → unwrap_or o Unknown ≡ c
order-command o c e = ap (λ x. unwrap_or x Unknown) e

-- what holds of each answer, more of it
pub ok-more : {T E : Type 0} (P Q : T → Type 0) → ((x : T) → P x → Q x) → (r : Result T E) → IfOk r P → IfOk r Q
ok-more P Q f (Ok x) p = f x p
ok-more P Q f (Err e) p = p

pub err-more : {T E : Type 0} (P Q : E → Type 0) → ((x : E) → P x → Q x) → (r : Result T E) → IfErr r P → IfErr r Q
err-more P Q f (Ok x) p = p
err-more P Q f (Err e) p = f e p

pub alone-stepped : (o : Order) (c : CommandValue) (a b : Seen) → command_for o ≡ Some c → Serving 4104 a.port.peer →
    ((s : Step) → IsCommandAt c s a.port.peer → IsStepped 4104 (λ bytes. bytes ≡ command_wire c) s a b) →
    (images : List (List Cell)) (tables : Tables) → IsStepped 4104 (IsAlone o) (step_of images tables o) a b
alone-stepped o c a b e f k images tables =
    subst (λ x. IsStepped 4104 (λ bytes. bytes ≡ command_wire x) (step_of images tables o) a b) (sym (order-command (command_for o) c e))
    (k (step_of images tables o) (order-at images tables o c a.port.peer e f))

pub alone-stopped : (o : Order) (c : CommandValue) (a b : Seen) (error : DriveError) → command_for o ≡ Some c → Serving 4104 a.port.peer →
    ((s : Step) → IsCommandAt c s a.port.peer → IsStopped NoFiles s a b error) →
    (images : List (List Cell)) (tables : Tables) → IsStopped NoFiles (step_of images tables o) a b error
alone-stopped o c a b error e f k images tables = k (step_of images tables o) (order-at images tables o c a.port.peer e f)

pub ruleset orders = (order-steps)
