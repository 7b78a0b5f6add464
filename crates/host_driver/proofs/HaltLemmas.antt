-- The command of a step: what a device says to it, and what it leaves where its disk failed in it.
use Rattle.std.proofs.Common.{◌≡◌, ◌⊎◌, inl, inr, ℕ, suc, ◌^◌, ◌<◌, ◌≤◌, Bool, true, false, Option, Some, None, List, [], ◌∷◌, ◌++◌, length, refl, sym, ap, ◌∙◌, subst, arith, length-append}
use Rattle.std.specs.Prelude.{IfSome, ◌&&◌, codes, nat_lt, decimal}
use Rattle.std.proofs.lemmas.Bool.Decides.{nat_tests}
use Rattle.std.proofs.lemmas.Fmt.{length-decimal-le}
use Rattle.fb_frame.specs.declared.slot.Slot.{Slot}
use Rattle.fb_frame.specs.NameText.{is_name}
use Rattle.fb_frame.specs.Slots.{letter}
use Rattle.fb_frame.proofs.Filled.{name_fits}
use Rattle.fb_message.specs.declared.command.BootTarget.{BootTarget}
use Rattle.fb_message.specs.declared.command.BootTarget.TheVariants.{System, Bootloader, Fastboot, Recovery}
use Rattle.fb_message.specs.CommandText.{CommandValue, GetVar, Download, Flash, Erase, SetActive, Reboot, Continue, Lock, Unlock, UnlockAbility, UpdateSuper, Create, Delete, Resize, Unknown, spelling}
use Rattle.fb_message.proofs.Words.{only-inverse, parts}
use Rattle.dev_model.specs.declared.cells.Cell.{Cell}
use Rattle.dev_model.specs.declared.cells.Cell.TheVariants.{Byte, Skip}
use Rattle.dev_model.specs.declared.device.Dev.{Dev}
use Rattle.dev_model.specs.declared.device.Mode.{Mode}
use Rattle.dev_model.specs.declared.device.Mode.TheVariants as mode
use Rattle.dev_model.specs.declared.step.Step.{Step}
use Rattle.dev_model.specs.declared.step.Step.TheVariants as step
use Rattle.dev_model.specs.Attempts.{Left, LeftBehind, IsHaltedAt, is_halted}
use Rattle.dev_model.specs.Partitions.{is_fastboot, bytes_of, with_mode}
use Rattle.dev_model.specs.Refusals.{refusal_of}
use Rattle.dev_model.specs.Steps.{apply, is_boot}
use Rattle.dev_model.proofs.LeavingLemmas.{left_stopped, left_serving}
use Rattle.wire_model.specs.Says.{Loaded, Said, says, decides, mode_of, loaded_image}
use Rattle.wire_model.specs.Halts.{DiffersUnder, IsHaltedAround, Halts}
use Rattle.wire_told.proofs.ExchangeLemmas.{closes}
use Rattle.host_driver.specs.Commands.{IsDecided, TookStep, IsCommandOf}
use Rattle.host_driver.proofs.StepLemmas.{decisions, decided-left}

-- a device that runs fastboot hasn't halted
pub running : (m : Mode) → is_fastboot m ≡ true → is_halted m ≡ false
running mode.Bootloader e = refl
running mode.Userspace e = refl
running mode.System e = refl
running mode.Recovery e = refl
running mode.Halted e = absurd cc

-- What an attempt at one step may leave: the device as it was, with the step done, or halted after either.
pub left-same : (s : Step) (dev t : Dev) → is_fastboot dev.mode ≡ true → t ≡ dev → LeftBehind (s ∷ []) dev 0 t
left-same s dev t f e =
    left_serving (s ∷ []) dev t 0 (record { count = omega arith; before = dev; taken = refl; next = inl e })
    (ap (λ (d : Dev). is_halted d.mode) e ∙ running dev.mode f)

pub left-took : (s : Step) (dev t : Dev) → is_halted (apply s dev).mode ≡ false → TookStep s dev t → LeftBehind (s ∷ []) dev 0 t
left-took s dev t f k =
    left_serving (s ∷ []) dev t 0 (record { count = omega arith; before = dev; taken = refl; next = inr (inl (k.can_so, k.taken)) })
    (ap (λ (d : Dev). is_halted d.mode) k.taken ∙ f)

left-done : (s : Step) (dev done : Dev) → (done ≡ dev) ⊎ TookStep s dev done → Left (s ∷ []) dev 0 done
left-done s dev done (inl e) = record { count = omega arith; before = dev; taken = refl; next = inl e }
left-done s dev done (inr k) = record { count = omega arith; before = dev; taken = refl; next = inr (inl (k.can_so, k.taken)) }

-- what an attempt at one step leaves of a device that halted
abbrev pub HaltsIn : Step → Dev → Dev → Type 0
HaltsIn s dev t = LeftBehind (s ∷ []) dev 0 t × (t.mode ≡ mode.Halted)

left-halted : (s : Step) (dev done t : Dev) → (done ≡ dev) ⊎ TookStep s dev done → t.mode ≡ mode.Halted → IsHaltedAt (Some s) done t → HaltsIn s dev t
left-halted s dev done t k m h = (left_stopped (s ∷ []) dev done t 0 (left-done s dev done k) h, m)

around : (s : Step) (dev done t : Dev) → ((d : Dev) → t ≡ with_mode mode.Halted d → IsHaltedAt (Some s) d t) → (done ≡ dev) ⊎ TookStep s dev done → IsHaltedAround dev done t → HaltsIn s dev t
around s dev done t f k (inl e) = left-halted s dev dev t (inl refl) (ap (λ (d : Dev). d.mode) e) (f dev e)
around s dev done t f k (inr e) = left-halted s dev done t k (ap (λ (d : Dev). d.mode) e) (f done e)

differs-length : (cells : List Cell) (old new : List ℕ) → DiffersUnder cells old new → length new ≡ length old
differs-length [] old new e = ap length e
differs-length (c ∷ cells) [] new e = ap length e
differs-length (c ∷ cells) (o ∷ old) [] e = absurd e
differs-length (Byte b ∷ cells) (o ∷ old) (n ∷ new) e = ap suc (differs-length cells old new e)
differs-length (Skip ∷ cells) (o ∷ old) (n ∷ new) e = ap suc (differs-length cells old new e.1)

pub under-over : (cells : List Cell) (o : Option (List ℕ)) (bytes : List ℕ) → IfSome o (λ old. DiffersUnder cells old bytes) → IfSome o (λ old. length bytes ≡ length old)
under-over cells None bytes h = h
under-over cells (Some old) bytes h = differs-length cells old bytes h

-- What a device does to the command of a step.
pub record DecidedBy (c : CommandValue) (s : Step) (dev : Dev) (loaded : Loaded) : Type 0 where
  pub replies : (says dev loaded c).replies ≡ (decides (refusal_of s dev) (apply s) dev loaded).replies
  pub device : (says dev loaded c).device ≡ (decides (refusal_of s dev) (apply s) dev loaded).device
  pub lives : is_halted (apply s dev).mode ≡ false
  pub halted : (t : Dev) → Halts dev loaded c t → HaltsIn s dev t
  pub still : is_boot s ≡ false → closes c ≡ false
  pub runs : is_boot s ≡ false → is_fastboot (apply s dev).mode ≡ true
  pub short : (p : List ℕ) → spelling c ≡ Some p → length p ≤ 4096

-- How long commands are.
named-short : (word name p : List ℕ) → is_name name ≡ true → word ++ name ≡ p → length word ≤ 100 → length p ≤ 4096
named-short word name p n e h = omega (arith, name_fits name n, h, ap length e, length-append word name)

pub flash-short : (name p : List ℕ) → spelling (Flash name) ≡ Some p → length p ≤ 4096
flash-short name p e =
    let o = only-inverse (is_name name) (codes "flash:" ++ name) p e in
    named-short (codes "flash:") name p o.0 o.1 (omega arith)

erase-short : (name p : List ℕ) → spelling (Erase name) ≡ Some p → length p ≤ 4096
erase-short name p e =
    let o = only-inverse (is_name name) (codes "erase:" ++ name) p e in
    named-short (codes "erase:") name p o.0 o.1 (omega arith)

super-short : (name : List ℕ) (wipe : Bool) (p : List ℕ) → spelling (UpdateSuper name wipe) ≡ Some p → length p ≤ 4096
super-short name false p e =
    let o = only-inverse (is_name name) (codes "update-super:" ++ name) p e in
    named-short (codes "update-super:") name p o.0 o.1 (omega arith)
super-short name true p e =
    let o = only-inverse (is_name name) (codes "update-super:" ++ (name ++ codes ":wipe")) p e in
    omega (arith, name_fits name o.0, ap length o.1, length-append (codes "update-super:") (name ++ codes ":wipe"), length-append name (codes ":wipe"))

sized-short : (word name : List ℕ) (size : ℕ) (p : List ℕ) → (is_name name && nat_lt size (2 ^ 64)) ≡ true → word ++ (name ++ 58 ∷ decimal size) ≡ p → length word ≤ 100 → length p ≤ 4096
sized-short word name size p k e h =
    let both = parts (is_name name) (nat_lt size (2 ^ 64)) k in
    let fits : size < 2 ^ 64 = (let n = both.1 in grind (arith, nat_tests)) in
    let digits : length (decimal size) ≤ 20 = length-decimal-le 20 size (omega arith) (omega (arith, fits)) fits in
    omega (arith, name_fits name both.0, h, digits, ap length e, length-append word (name ++ 58 ∷ decimal size), length-append name (58 ∷ decimal size))

resize-short : (name : List ℕ) (size : ℕ) (p : List ℕ) → spelling (Resize name size) ≡ Some p → length p ≤ 4096
resize-short name size p e =
    let o = only-inverse (is_name name && nat_lt size (2 ^ 64)) (codes "resize-logical-partition:" ++ (name ++ 58 ∷ decimal size)) p e in
    sized-short (codes "resize-logical-partition:") name size p o.0 o.1 (omega arith)

some-is : {X : Type 0} (x y : X) → ◌≡◌ {A = Option X} (Some x) (Some y) → x ≡ y
some-is x y e = cc

active-short : (slot : Slot) (p : List ℕ) → spelling (SetActive slot) ≡ Some p → length p ≤ 4096
active-short slot p e = omega (arith, ap length (some-is (codes "set_active:" ++ letter slot ∷ []) p e))

reboot-short : (what : BootTarget) (p : List ℕ) → spelling (Reboot what) ≡ Some p → length p ≤ 4096
reboot-short System p e = omega (arith, ap length (some-is (codes "reboot") p e))
reboot-short Bootloader p e = omega (arith, ap length (some-is (codes "reboot-bootloader") p e))
reboot-short Fastboot p e = omega (arith, ap length (some-is (codes "reboot-fastboot") p e))
reboot-short Recovery p e = omega (arith, ap length (some-is (codes "reboot-recovery") p e))

boots-live : (what : BootTarget) → is_halted (mode_of what) ≡ false
boots-live System = refl
boots-live Bootloader = refl
boots-live Fastboot = refl
boots-live Recovery = refl

-- The command of each step.
pub command-decides : (c : CommandValue) (s : Step) (dev : Dev) (loaded : Loaded) → IsCommandOf c s dev loaded → is_fastboot dev.mode ≡ true → DecidedBy c s dev loaded
command-decides (SetActive slot) s dev loaded k f = subst (λ x. DecidedBy (SetActive slot) x dev loaded) (sym k) (
    let d = decisions.active slot dev loaded in
    record {
      replies = ap (λ (x : Said). x.replies) d;
      device = ap (λ (x : Said). x.device) d;
      lives = running dev.mode f;
      halted = λ t h. around (step.Active slot) dev (says dev loaded (SetActive slot)).device t (λ x e. e) (decided-left (SetActive slot) (step.Active slot) dev loaded d f) h.change;
      still = λ b. refl;
      runs = λ b. f;
      short = active-short slot;
    })
command-decides (Resize name size) s dev loaded k f = subst (λ x. DecidedBy (Resize name size) x dev loaded) (sym k) (
    let d = decisions.resize name size dev loaded in
    record {
      replies = ap (λ (x : Said). x.replies) d;
      device = ap (λ (x : Said). x.device) d;
      lives = running dev.mode f;
      halted = λ t h. around (step.Resize name size) dev (says dev loaded (Resize name size)).device t (λ x e. e) (decided-left (Resize name size) (step.Resize name size) dev loaded d f) h.change;
      still = λ b. refl;
      runs = λ b. f;
      short = resize-short name size;
    })
command-decides (Erase name) s dev loaded k f = subst (λ x. DecidedBy (Erase name) x dev loaded) (sym k) (
    let d = decisions.wipe name dev loaded in
    record {
      replies = ap (λ (x : Said). x.replies) d;
      device = ap (λ (x : Said). x.device) d;
      lives = running dev.mode f;
      halted = λ t h. left-halted (step.Wipe name) dev dev t (inl refl) (ap (λ (d : Dev). d.mode) h.change.2) h.change;
      still = λ b. refl;
      runs = λ b. f;
      short = erase-short name;
    })
command-decides (Reboot what) s dev loaded k f = subst (λ x. DecidedBy (Reboot what) x dev loaded) (sym k) (
    let d = decisions.boot what dev loaded in
    record {
      replies = ap (λ (x : Said). x.replies) d;
      device = ap (λ (x : Said). x.device) d;
      lives = boots-live what;
      halted = λ t h. left-halted (step.Boot (mode_of what)) dev dev t (inl refl) (ap (λ (d : Dev). d.mode) h.change) h.change;
      still = λ b. absurd cc;
      runs = λ b. absurd cc;
      short = reboot-short what;
    })
command-decides (Flash name) s dev loaded k f = subst (λ x. DecidedBy (Flash name) x dev loaded) (sym k.step_is) (
    let d = subst (λ l. IsDecided (Flash name) (step.Put name k.cells) dev l) (sym k.there) (decisions.put name k.file k.cells dev k.holds) in
    record {
      replies = ap (λ (x : Said). x.replies) d;
      device = ap (λ (x : Said). x.device) d;
      lives = running dev.mode f;
      halted = λ t h. left-halted (step.Put name k.cells) dev dev t (inl refl) (ap (λ (d : Dev). d.mode) h.change.2) (h.change.0, under-over (loaded_image loaded) (bytes_of dev name) h.change.0 h.change.1, h.change.2);
      still = λ b. refl;
      runs = λ b. f;
      short = flash-short name;
    })
command-decides (UpdateSuper name wipe) s dev loaded k f = subst (λ x. DecidedBy (UpdateSuper name wipe) x dev loaded) (sym k.step_is) (
    let d = subst (λ l. IsDecided (UpdateSuper name wipe) (step.Table k.tables wipe) dev l) (sym k.there) (decisions.table name k.file k.tables wipe dev k.holds k.own) in
    record {
      replies = ap (λ (x : Said). x.replies) d;
      device = ap (λ (x : Said). x.device) d;
      lives = running dev.mode f;
      halted = λ t h. around (step.Table k.tables wipe) dev (says dev loaded (UpdateSuper name wipe)).device t (λ x e. e) (decided-left (UpdateSuper name wipe) (step.Table k.tables wipe) dev loaded d f) h.change;
      still = λ b. refl;
      runs = λ b. f;
      short = super-short name wipe;
    })
command-decides (GetVar name) s dev loaded k f = absurd k
command-decides (Download count) s dev loaded k f = absurd k
command-decides Continue s dev loaded k f = absurd k
command-decides Lock s dev loaded k f = absurd k
command-decides Unlock s dev loaded k f = absurd k
command-decides UnlockAbility s dev loaded k f = absurd k
command-decides (Create name size) s dev loaded k f = absurd k
command-decides (Delete name) s dev loaded k f = absurd k
command-decides Unknown s dev loaded k f = absurd k
