-- A step of any kind, from what its own call comes to.
use Rattle.std.proofs.Common.{◌≡◌, ℕ, ◌+◌, ◌≤◌, Bool, true, false, Option, Some, None, List, refl, ap, ◌∙◌, arith}
use Rattle.std.specs.Prelude.{IsTrue, is_some, not, ◌&&◌, ◌||◌}
use Rattle.fb_frame.specs.Causes.{Rose}
use Rattle.fb_message.specs.declared.command.BootTarget.{BootTarget}
use Rattle.fb_message.specs.declared.command.BootTarget.TheVariants as target
use Rattle.dev_model.specs.declared.device.Dev.{Dev}
use Rattle.dev_model.specs.declared.device.Mode.TheVariants.{Halted}
use Rattle.dev_model.specs.declared.step.Step.{Step}
use Rattle.dev_model.specs.declared.step.Step.TheVariants as step
use Rattle.dev_model.specs.Attempts.{is_halted}
use Rattle.dev_model.specs.Partitions.{is_fastboot}
use Rattle.dev_model.specs.Steps.{apply, is_boot, meets, leaves as step_leaves}
use Rattle.fb_frame.specs.declared.tables.Tables.{Tables}
use Rattle.dev_model.specs.declared.cells.Cell.{Cell}
use Rattle.dev_model.proofs.Valid.{both}
use Rattle.wire_told.specs.Peers.{Peer, OfLink}
use Rattle.wire_told.specs.Ports.{PortTold, Kept}
use Rattle.wire_told.proofs.Lifted.{of-of}
use Rattle.flash_plan.specs.declared.plan.Order.{Order}
use Rattle.flash_plan.specs.declared.plan.Order.TheVariants.{Active, Resize, Put, Wipe, Table, Boot}
use Rattle.flash_plan.specs.Files.{Files}
use Rattle.flash_plan.specs.Moves.{leaves}
use Rattle.flash_plan.specs.Plans.{step_of, images_of, tables_in}
use Rattle.flash_plan.specs.Products.{OfFiles}
use Rattle.fb_link.specs.Seen.{Seen}
use Rattle.host_driver.specs.declared.drive.DriveError.{DriveError}
use Rattle.host_driver.specs.declared.drive.DriveError.TheVariants as stop
use Rattle.host_driver.specs.Commands.{TookStep, command_for}
use Rattle.host_driver.specs.Stepping.{IsServing, Serving, IsStepped, IsStopped, IsBrokenIn, IsFixed, NoFiles, IsAlone, WhyStopped}
use Rattle.host_driver.specs.Taking.{Supply, taking, step_in, is_leaving, is_reboot, order_cost, SendsOrder, IsTaken, IsUntaken}
use Rattle.host_driver.specs.Wires.{LogGrew}
use Rattle.host_driver.proofs.AlongLemmas.{told-more}
use Rattle.host_driver.proofs.DriveFixed.{fixed-took, fixed-broken}
use Rattle.host_driver.proofs.HaltLemmas.{running}
use Rattle.host_driver.proofs.LoadLemmas.{why-files}

-- The step of a reboot, and of an order that leaves.
pub step-boots : (images : List (List Cell)) (tables : Tables) (o : Order) → is_boot (step_of images tables o) ≡ is_reboot o
step-boots images tables (Active slot) = refl
step-boots images tables (Resize name size) = refl
step-boots images tables (Put name place) = refl
step-boots images tables (Wipe name) = refl
step-boots images tables (Table name wipe) = refl
step-boots images tables (Boot what) = refl

boot-leaves : (images : List (List Cell)) (tables : Tables) (what : BootTarget) → step_leaves (step_of images tables (Boot what)) ≡ leaves what
boot-leaves images tables target.System = refl
boot-leaves images tables target.Bootloader = refl
boot-leaves images tables target.Fastboot = refl
boot-leaves images tables target.Recovery = refl

pub step-leaves : (images : List (List Cell)) (tables : Tables) (o : Order) → step_leaves (step_of images tables o) ≡ is_leaving o
step-leaves images tables (Active slot) = refl
step-leaves images tables (Resize name size) = refl
step-leaves images tables (Put name place) = refl
step-leaves images tables (Wipe name) = refl
step-leaves images tables (Table name wipe) = refl
step-leaves images tables (Boot what) = boot-leaves images tables what

-- a device that took a step runs fastboot, unless the step leaves it
runs-after : (s : Step) (d : Dev) → is_fastboot d.mode ≡ true → step_leaves s ≡ false → is_fastboot (apply s d).mode ≡ true
runs-after (step.Active slot) d f l = f
runs-after (step.Resize name size) d f l = f
runs-after (step.Put name cells) d f l = f
runs-after (step.Wipe name) d f l = f
runs-after (step.Table tables wipe) d f l = f
runs-after (step.Boot mode) d f l = by (is_fastboot mode) l
  where
    by : (b : Bool) → not b ≡ false → b ≡ true
    by true e = refl
    by false e = absurd cc

pub runs-took : (s : Step) (d t : Dev) → TookStep s d t → step_leaves s ≡ false → is_fastboot t.mode ≡ true
runs-took s d t k l =
    ap (λ (x : Dev). is_fastboot x.mode) k.taken ∙ runs-after s d (both (is_fastboot d.mode) (is_boot s || not d.locked) (both (is_fastboot d.mode && (is_boot s || not d.locked)) (meets s d) k.can_so).0).0 l

boot-lives : (images : List (List Cell)) (tables : Tables) (what : BootTarget) (x : Dev) → is_halted (apply (step_of images tables (Boot what)) x).mode ≡ false
boot-lives images tables target.System x = refl
boot-lives images tables target.Bootloader x = refl
boot-lives images tables target.Fastboot x = refl
boot-lives images tables target.Recovery x = refl

-- and it didn't halt
pub lives-took : (images : List (List Cell)) (tables : Tables) (o : Order) (x y : Dev) → TookStep (step_of images tables o) x y → is_halted y.mode ≡ false
lives-took images tables (Active slot) x y k = running y.mode (runs-took (step_of images tables (Active slot)) x y k refl)
lives-took images tables (Resize name size) x y k = running y.mode (runs-took (step_of images tables (Resize name size)) x y k refl)
lives-took images tables (Put name place) x y k = running y.mode (runs-took (step_of images tables (Put name place)) x y k refl)
lives-took images tables (Wipe name) x y k = running y.mode (runs-took (step_of images tables (Wipe name)) x y k refl)
lives-took images tables (Table name wipe) x y k = running y.mode (runs-took (step_of images tables (Table name wipe)) x y k refl)
lives-took images tables (Boot what) x y k = ap (λ (d : Dev). is_halted d.mode) k.taken ∙ boot-lives images tables what x

of-files : (o : Option Files) (P : Files → Type 0) → ((files : Files) → P files) → OfFiles o P
of-files None P f = tt
of-files (Some files) P f = f files

pub serving-less : (m n : ℕ) (a : Option Peer) → n ≤ m → Serving m a → Serving n a
serving-less m n a h s = of-of (IsServing m) (IsServing n) (λ w p. record { free = record { running = p.free.running; bounded = (let b = p.free.bounded in omega (arith, b, h)) }; runs = p.runs }) a s

-- what holds without it, over a connection
pub on-serving : (X : Type 0) (n : ℕ) (a : Option Peer) → Serving n a → X → OfLink (λ w. X) a
on-serving X n a s x = of-of (IsServing n) (λ w. X) (λ w p. x) a s

log-wider : (P Q : List ℕ → Type 0) → ((x : List ℕ) → P x → Q x) → (a b : Option (List ℕ)) → LogGrew a b P → LogGrew a b Q
log-wider P Q f None None l = tt
log-wider P Q f None (Some b) l = absurd l
log-wider P Q f (Some a) None l = absurd l
log-wider P Q f (Some a) (Some b) l = (l.0, l.1, f l.0 l.2)

-- at another cost, and by other bytes
pub stepped-wider : (n m : ℕ) (V W : List ℕ → Type 0) (s : Step) (a b : Seen) → n ≤ m → ((x : List ℕ) → V x → W x) → IsStepped n V s a b → IsStepped m W s a b
stepped-wider n m V W s a b h f k = record {
  took = k.took;
  serving = λ boot spare q. k.serving boot spare (serving-less (m + spare) (n + spare) a.port.peer (omega (arith, h)) q);
  quiet = k.quiet;
  grows = k.grows;
  heard = k.heard;
  log = log-wider V W f a.port.log b.port.log k.log;
  kept = k.kept;
}

pub no_files : Files
no_files = λ name. None

pub taken-by : (s : Supply) (o : Order) (n : ℕ) (W : List ℕ → Type 0) (a b : Seen) → n ≤ order_cost o → ((files : Files) (x : List ℕ) → W x → OfLink (λ w. SendsOrder files s.product s.most o x) a.port.peer) →
    ((files : Files) → IsStepped n W (step_in files s.product o) a b) → IsTaken (taking s o) a b
taken-by s o n W a b h f k =
    let one = k no_files in
    let the = step_in no_files s.product o in
    record {
      exact = of-files s.files _ (λ files. stepped-wider n (order_cost o) W (λ x. OfLink (λ w. SendsOrder files s.product s.most o x) a.port.peer) (step_in files s.product o) a b h (f files) (k files));
      serving = λ boot spare q. one.serving (step-boots (images_of no_files s.product.tasks) (tables_in s.product.empty) o ∙ boot) spare (serving-less (order_cost o + spare) (n + spare) a.port.peer (omega (arith, h)) q);
      runs = λ l. told-more (TookStep the) (λ x y. IsTrue (is_fastboot y.mode)) (λ x y t. runs-took the x y t (step-leaves (images_of no_files s.product.tasks) (tables_in s.product.empty) o ∙ l)) a.port.peer b.port.peer one.took;
      lives = told-more (TookStep the) (λ x y. is_halted y.mode ≡ false) (λ x y t. lives-took (images_of no_files s.product.tasks) (tables_in s.product.empty) o x y t) a.port.peer b.port.peer one.took;
      fixed = told-more (TookStep the) IsFixed (λ x y t. fixed-took the x y t) a.port.peer b.port.peer one.took;
      grows = one.grows;
      heard = one.heard;
      kept = one.kept;
    }

pub untaken-by : (F : List ℕ → Type 0) (s : Supply) (o : Order) (a b : Seen) (e : DriveError) → ((files : Files) → IsStopped F (step_in files s.product o) a b e) → IsUntaken F (taking s o) a b e
untaken-by F s o a b e k =
    let one = k no_files in
    let the = step_in no_files s.product o in
    let broke = Rose a.port.faults b.port.faults in
    record {
      exact = of-files s.files _ k;
      why = one.why;
      unshown = one.unshown;
      lives = told-more (IsBrokenIn the broke) (λ x y. y.mode ≡ Halted → broke) (λ x y t. t.halted) a.port.peer b.port.peer one.left;
      fixed = told-more (IsBrokenIn the broke) IsFixed (λ x y t. fixed-broken the broke x y t) a.port.peer b.port.peer one.left;
      grows = one.grows;
      heard = one.heard;
      down = one.down;
      sound = one.sound;
      kept = one.kept;
    }

-- no file is read by a command
pub stopped-files : (F : List ℕ → Type 0) (s : Step) (a b : Seen) (e : DriveError) → IsStopped NoFiles s a b e → IsStopped F s a b e
stopped-files F s a b e k = record {
  why = why-files F a.port b.port e k.why;
  left = k.left;
  stuck = k.stuck;
  unshown = k.unshown;
  quiet = k.quiet;
  grows = k.grows;
  heard = k.heard;
  down = k.down;
  sound = k.sound;
  kept = k.kept;
}

alone-cost : (o : Order) → is_some (command_for o) ≡ true → 4104 ≤ order_cost o
alone-cost (Active slot) e = omega arith
alone-cost (Resize name size) e = omega arith
alone-cost (Put name place) e = absurd cc
alone-cost (Wipe name) e = omega arith
alone-cost (Table name wipe) e = absurd cc
alone-cost (Boot what) e = omega arith

alone-sends : (files : Files) (s : Supply) (o : Order) (x : List ℕ) → is_some (command_for o) ≡ true → IsAlone o x → SendsOrder files s.product s.most o x
alone-sends files s (Active slot) x c e = e
alone-sends files s (Resize name size) x c e = e
alone-sends files s (Put name place) x c e = absurd cc
alone-sends files s (Wipe name) x c e = e
alone-sends files s (Table name wipe) x c e = absurd cc
alone-sends files s (Boot what) x c e = e

pub Alone-taken : (s : Supply) (o : Order) (a b : Seen) → is_some (command_for o) ≡ true → Serving (order_cost o) a.port.peer →
    ((images : List (List Cell)) (tables : Tables) → IsStepped 4104 (IsAlone o) (step_of images tables o) a b) → IsTaken (taking s o) a b
Alone-taken s o a b c f k =
    taken-by s o 4104 (IsAlone o) a b (alone-cost o c) (λ files x e. on-serving (SendsOrder files s.product s.most o x) (order_cost o) a.port.peer f (alone-sends files s o x c e))
    (λ files. k (images_of files s.product.tasks) (tables_in s.product.empty))

pub Alone-untaken : (F : List ℕ → Type 0) (s : Supply) (o : Order) (a b : Seen) (e : DriveError) →
    ((images : List (List Cell)) (tables : Tables) → IsStopped NoFiles (step_of images tables o) a b e) → IsUntaken F (taking s o) a b e
Alone-untaken F s o a b e k =
    untaken-by F s o a b e (λ files. stopped-files F (step_in files s.product o) a b e (k (images_of files s.product.tasks) (tables_in s.product.empty)))

-- why an attempt broke off, from an earlier view
pub why-move : (F G : List ℕ → Type 0) (a b c : PortTold) (e : DriveError) → ((x : List ℕ) → F x → G x) → Kept a b → (b.peer ≡ None → a.peer ≡ None) → WhyStopped F b c e → WhyStopped G a c e
why-move F G a b c stop.Memory f k n w = w
why-move F G a b c (stop.Directory file) f k n w = f file w
why-move F G a b c stop.Output f k n w = w
why-move F G a b c stop.Link f k n w = omega (arith, k.later, w)
why-move F G a b c stop.Ended f k n w = (n w.0, omega (arith, k.no_fewer, w.1))
why-move F G a b c (stop.Refused text) f k n w = w
why-move F G a b c (stop.Peer kept) f k n w = n w
why-move F G a b c stop.TooManyInfos f k n w = n w
why-move F G a b c (stop.Requirement line name value) f k n w = w
why-move F G a b c (stop.Plan line kind) f k n w = w

-- an order that is neither an image nor tables is one command
pub alone-of : (o : Order) → ((name : List ℕ) (place : ℕ) → o ≡ Put name place → ⊥) → ((name : List ℕ) (wipe : Bool) → o ≡ Table name wipe → ⊥) → is_some (command_for o) ≡ true
alone-of (Active slot) p t = refl
alone-of (Resize name size) p t = refl
alone-of (Put name place) p t = absurd (p name place refl)
alone-of (Wipe name) p t = refl
alone-of (Table name wipe) p t = absurd (t name wipe refl)
alone-of (Boot what) p t = refl
