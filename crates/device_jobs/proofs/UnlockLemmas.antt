-- What the steps of an unlocking leave of the device of an image.
use Rattle.std.proofs.Common.{◌≡◌, inl, inr, ◌∙◌, refl, ap, sym, subst, ℕ, true, false, List, Option, Some, None, Ok, if◌then◌else◌}
use Rattle.std.specs.Prelude.{IsTrue, is_some}
use Rattle.std.proofs.lemmas.Bool.{false≢true}
use Rattle.dev_disk.specs.Calls.{Agrees, IsFileOf}
use Rattle.dev_disk.specs.Files.{Files, content, KeepsUnopened}
use Rattle.dev_disk.specs.Disks.{DiskTold, open_bytes}
use Rattle.dev_disk.proofs.TwinLemmas.{OpenKept-then}
use Rattle.dev_model.specs.declared.device.Dev.{Dev}
use Rattle.dev_model.specs.declared.device.Mode.{Mode}
use Rattle.dev_model.specs.declared.device.Mode.TheVariants.{Bootloader, Userspace, System, Recovery, Halted}
use Rattle.dev_model.specs.Partitions.{is_fastboot, with_mode}
use Rattle.dev_store.specs.Held.{Holds, IsSettled, DiskKept}
use Rattle.dev_store.specs.Stand.{Stands, Starts, stand}
use Rattle.dev_store.specs.StoreCalls.{StandsAround}
use Rattle.device_jobs.specs.Outcomes.{unlocked_device}
use Rattle.device_jobs.specs.Leaves.{IsUnlocking, StandsUnlocking}
use Rattle.device_jobs.specs.Unlocking.{IsPartlyWiped, IsWiped, wiped_device, without_lock, LeavesStore, EndsUnlocked}

pub kept-then : {K L : Type 0} (told : K → DiskTold) (lent : K → L) (a b c : K) → DiskKept told lent a b → DiskKept told lent b c → DiskKept told lent a c
kept-then told lent a b c h k = record { same = k.same ∙ h.same; kept = OpenKept-then (told a) (told b) (told c) h.kept k.kept }

-- a disk tells the open file both times or neither time
has-file : (x y : Option (List ℕ)) (n : ℕ) → IsFileOf x n → IsFileOf y n → is_some x ≡ is_some y
has-file (Some x) (Some y) n a b = refl
has-file None y n a b = absurd a
has-file (Some x) None n a b = absurd b

tells-alike : (f g : Option Files) (p : Option (List ℕ)) (l : Option ℕ) → KeepsUnopened f g p → Agrees f p l → Agrees g p l → is_some (content f p) ≡ is_some (content g p)
unfolding content
tells-alike None None p l k a b = refl
tells-alike None (Some g) None l k a b = absurd cc
tells-alike None (Some g) (Some q) l k a b = absurd k
tells-alike (Some f) None None l k a b = absurd cc
tells-alike (Some f) None (Some q) l k a b = absurd k
tells-alike (Some f) (Some g) None l k a b = refl
tells-alike (Some f) (Some g) (Some q) None k a b = absurd a
tells-alike (Some f) (Some g) (Some q) (Some n) k a b = has-file (f q) (g q) n a b

pub tells-still : {K L : Type 0} (told : K → DiskTold) (lent : K → L) (old new : K) → DiskKept told lent old new → Agrees (told old).files (told old).open_path (told old).open_length →
    Agrees (told new).files (told new).open_path (told new).open_length → is_some (open_bytes (told old)) ≡ is_some (open_bytes (told new))
tells-still told lent old new k a b =
    let f = (told new).files in
    let c = subst (λ l. Agrees f (told new).open_path l) k.kept.length b in
    let d = subst (λ p. Agrees f p (told old).open_length) k.kept.path c in
    tells-alike (told old).files f (told old).open_path (told old).open_length k.kept.others a d ∙ ap (λ p. is_some (content f p)) (sym k.kept.path)

-- a file that stands for a device in a fastboot mode opens as that device
starts-same : (start mode : Mode) → IsTrue (is_fastboot mode) → Starts start mode → start ≡ mode
starts-same start Bootloader f s = s
starts-same start Userspace f s = s
starts-same start System f s = absurd (false≢true f)
starts-same start Recovery f s = absurd (false≢true f)
starts-same start Halted f s = absurd (false≢true f)

pub stands-as : (file : List ℕ) (t : Dev) → IsTrue (is_fastboot t.mode) → Stands file t → stand file ≡ Ok t
stands-as file t f s =
    let mode = starts-same s.found.mode t.mode f s.starts in
    let same : s.found ≡ t = ap (λ m. with_mode m s.found) mode ∙ sym s.same in
    s.reads ∙ ap Ok same

-- what a locked device is once it is wiped and unlocked
pub unlocked-is : (dev : Dev) → dev.locked ≡ true → without_lock (wiped_device dev) ≡ unlocked_device dev
unlocked-is dev h = sym (ap (λ b. if b then without_lock (wiped_device dev) else dev) h)

pub left-as-it-is : (dev : Dev) → dev.locked ≡ false → unlocked_device dev ≡ dev
left-as-it-is dev h = ap (λ b. if b then without_lock (wiped_device dev) else dev) h

leaves-by : (file : List ℕ) (dev t : Dev) → stand file ≡ Ok t → IsUnlocking dev t → LeavesStore (Some file) dev
leaves-by file dev t e h = subst (StandsUnlocking (Ok dev)) (sym e) h

-- the device as it was
pub leaves-same : (image : Option (List ℕ)) (dev : Dev) → IsTrue (is_fastboot dev.mode) → Holds image dev → LeavesStore image dev
unfolding Holds
leaves-same None dev f h = tt
leaves-same (Some file) dev f h = leaves-by file dev dev (stands-as file dev f h) (inl refl)

-- the fill was cut off
pub leaves-partly : (image : Option (List ℕ)) (dev t : Dev) → IsTrue (is_fastboot dev.mode) → IsTrue dev.locked → IsPartlyWiped image dev t → Holds image t → LeavesStore image dev
unfolding Holds
leaves-partly None dev t f l p h = tt
leaves-partly (Some file) dev t f l p h =
    let mode : t.mode ≡ dev.mode = ap (λ (d : Dev). d.mode) p.same in
    leaves-by file dev t (stands-as file t (subst (λ m. IsTrue (is_fastboot m)) (sym mode) f) h) (inr (l, inl p))

-- the state was cut off
pub leaves-around : (before image : Option (List ℕ)) (dev mid : Dev) → IsTrue (is_fastboot dev.mode) → IsTrue dev.locked → is_some before ≡ is_some image → IsWiped before dev mid → IsPartlyWiped before dev mid →
    StandsAround image mid (without_lock mid) → LeavesStore image dev
leaves-around before None dev mid f l e w p h = tt
leaves-around None (Some file) dev mid f l e w p h = absurd (false≢true e)
leaves-around (Some was) (Some file) dev mid f l e w p (inl s) =
    let mode : mid.mode ≡ dev.mode = ap (λ (d : Dev). d.mode) w in
    leaves-by file dev mid (stands-as file mid (subst (λ m. IsTrue (is_fastboot m)) (sym mode) f) s) (inr (l, inl p))
leaves-around (Some was) (Some file) dev mid f l e w p (inr s) =
    let mode : mid.mode ≡ dev.mode = ap (λ (d : Dev). d.mode) w in
    let is : without_lock mid ≡ unlocked_device dev = ap without_lock w ∙ unlocked-is dev l in
    leaves-by file dev (without_lock mid) (stands-as file (without_lock mid) (subst (λ m. IsTrue (is_fastboot m)) (sym mode) f) s) (inr (l, inr is))

-- all was done
pub ends-by : (image : Option (List ℕ)) (dev t : Dev) → IsTrue (is_fastboot t.mode) → Holds image t → IsSettled image → t ≡ unlocked_device dev → EndsUnlocked image dev
unfolding Holds IsSettled
ends-by None dev t f h s e = tt
ends-by (Some file) dev t f h s e = record { stands = stands-as file t f h ∙ ap Ok e; settled = s }

pub ends-stored : (before image : Option (List ℕ)) (dev mid t : Dev) → IsTrue (is_fastboot dev.mode) → IsTrue dev.locked → is_some before ≡ is_some image → IsWiped before dev mid → t ≡ without_lock mid →
    Holds image t → IsSettled image → EndsUnlocked image dev
ends-stored before None dev mid t f l e w k h s = tt
ends-stored None (Some file) dev mid t f l e w k h s = absurd (false≢true e)
ends-stored (Some was) (Some file) dev mid t f l e w k h s =
    let mode : t.mode ≡ dev.mode = ap (λ (d : Dev). d.mode) k ∙ ap (λ (d : Dev). d.mode) w in
    ends-by (Some file) dev t (subst (λ m. IsTrue (is_fastboot m)) (sym mode) f) h s (k ∙ (ap without_lock w ∙ unlocked-is dev l))

-- what ends unlocked is left so
pub leaves-ended : (image : Option (List ℕ)) (dev : Dev) → IsTrue dev.locked → EndsUnlocked image dev → LeavesStore image dev
leaves-ended None dev l h = tt
leaves-ended (Some file) dev l h = leaves-by file dev (unlocked_device dev) h.stands (inr (l, inr refl))
