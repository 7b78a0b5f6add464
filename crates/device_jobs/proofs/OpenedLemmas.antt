-- What a job leaves of an image that was opened.
use Rattle.std.proofs.Common.{true, ◌≡◌, ◌∙◌, ◌⊎◌, inl, inr, refl, sym, ap, subst, ℕ, List, Option, Some, None, Result, Ok, Err, arith}
use Rattle.std.specs.Prelude.{IfSome, is_some}
use Rattle.std.proofs.lemmas.Bool.{false≢true}
use Rattle.fb_frame.specs.Told.{Both}
use Rattle.dev_disk.specs.Calls.{IsOpen, Agrees, IsFileOf}
use Rattle.dev_disk.specs.Files.{Files, content, KeepsOthers, KeepsUnopened}
use Rattle.dev_disk.specs.Disks.{DiskTold, open_bytes, OpenKept}
use Rattle.dev_model.specs.declared.bad_image.BadImage.{BadImage}
use Rattle.dev_model.specs.declared.bad_image.BadImage.TheVariants.{ShortFile}
use Rattle.dev_store.specs.declared.errors.OpenError.{OpenError}
use Rattle.dev_store.specs.declared.errors.OpenError.TheVariants as opening
use Rattle.dev_model.specs.declared.device.Dev.{Dev}
use Rattle.dev_store.specs.Stand.{stand}
use Rattle.dev_store.specs.Repairs.{IsRepaired}
use Rattle.dev_store.specs.Laws.{RepairedStands, RepairedOwns}
use Rattle.dev_store.specs.Opening.{IsAbsent, IsBadImage, StandsIn, OpensTold, OpensImage, StandsAs, OnFile, OthersKept}
use Rattle.device_jobs.specs.Outcomes.{Outcome, NoFile, BadDevice, Shown, Unlocked, opened, opened_as, told_as, status_of, unlocked_device}
use Rattle.device_jobs.specs.Printed.{text_of}
use Rattle.device_jobs.specs.Leaves.{IsLeft, LeftIn, LeavesDevice, IsDone, LeavesUnlocking, StandsUnlocking}
use Rattle.device_jobs.specs.Unlocking.{LeavesStore, EndsUnlocked}
use Rattle.device_jobs.specs.Working.{IsOutcome, IsStop, IsText, IsEarly, IsShownText, opening_stop}

-- the outcome of an image that opened
pub outcome-opened : (done : Dev → Outcome) (files : Option Files) (path : List ℕ) (dev : Dev) → OpensTold files path dev → IsOutcome (told_as (opened done) files path) (done dev)
outcome-opened done None path dev h = tt
outcome-opened done (Some f) path dev h = by (f path) h where
  by : (o : Option (List ℕ)) → StandsIn o (Ok dev) → opened done o ≡ done dev
  by None k = absurd k
  by (Some file) k = ap (opened_as done) k

pub text-opened : (o : Option Outcome) (outcome : Outcome) (text : List ℕ) → IsOutcome o outcome → status_of outcome ≡ 0 → text_of outcome ≡ text → IsText o text
text-opened None outcome text h z e = tt
text-opened (Some told) outcome text h z e = (ap status_of h ∙ z, ap text_of h ∙ e)

-- no file changed but the open one
others-then : (a b c : Option Files) (p : Option (List ℕ)) (path : List ℕ) → KeepsOthers a b path → IsOpen b p path → KeepsUnopened b c p → KeepsOthers a c path
others-then None None c p path h o k = subst (λ f. KeepsOthers None f path) (sym (subst (KeepsUnopened None c) o k)) tt
others-then None (Some g) c p path h o k = absurd h
others-then (Some f) None c p path h o k = absurd h
others-then (Some f) (Some g) None p path h o k = absurd (subst (KeepsUnopened (Some g) None) o k)
others-then (Some f) (Some g) (Some e) p path h o k =
    let m = subst (KeepsUnopened (Some g) (Some e)) o k in
    λ other ne. m other ne ∙ h other ne

pub others-opened : (old mid new : DiskTold) (path : List ℕ) (dev : Dev) → OpensImage old mid path dev → OpenKept mid new → OthersKept old new path
others-opened old mid new path dev h k =
    let a = h.later in
    let b = k.later in
    record {
      others = others-then old.files mid.files new.files mid.open_path path h.others h.open_now k.others;
      later = omega (arith, a, b);
      torn = λ x y z t. k.torn x y z (h.torn x y z t);
    }

-- a file that stands for no device didn't open
ok-apart : (dev : Dev) (bad : BadImage) → ◌≡◌ {A = Result Dev BadImage} (Ok dev) (Err bad) → ⊥
ok-apart dev bad h = absurd cc

stands-apart : (s : Option (List ℕ)) (dev : Dev) (bad : BadImage) → StandsIn s (Ok dev) → StandsIn s (Err bad) → ⊥
stands-apart None dev bad h k = h
stands-apart (Some file) dev bad h k = ok-apart dev bad (sym h ∙ k)

pub spared-opened : (old new : DiskTold) (path : List ℕ) (dev : Dev) (bad : BadImage) → OpensTold old.files path dev → OthersKept old new path → IsBadImage old.files path bad → new.files ≡ old.files
spared-opened old new path dev bad h o b = by old.files new.files h o.others b
  where
    by : (a c : Option Files) → OpensTold a path dev → KeepsOthers a c path → IsBadImage a path bad → c ≡ a
    by None None h o b = refl
    by None (Some f) h o b = absurd o
    by (Some f) c h o b = absurd (stands-apart (f path) dev bad h b)

-- the file that is open is that of the path
open-after : (b c : Option Files) (p q : Option (List ℕ)) (path : List ℕ) → IsOpen b p path → q ≡ p → KeepsUnopened b c p → IsOpen c q path
open-after None c p q path o e k = by c (subst (KeepsUnopened None c) o k) where
  by : (c : Option Files) → c ≡ None → IsOpen c q path
  by None h = e ∙ o
  by (Some g) h = absurd cc
open-after (Some f) None p q path o e k = absurd (subst (KeepsUnopened (Some f) None) o k)
open-after (Some f) (Some g) p q path o e k = e ∙ o

pub open-opened : (old mid new : DiskTold) (path : List ℕ) (dev : Dev) → OpensImage old mid path dev → OpenKept mid new → IsOpen new.files new.open_path path
open-opened old mid new path dev h k = open-after mid.files new.files mid.open_path new.open_path path h.open_now k.path k.others

-- a fact of the told file of a path
abbrev pub FactIn : (List ℕ → Type 0) → Option (List ℕ) → Type 0
FactIn P None = ⊥
FactIn P (Some file) = P file

abbrev pub FactAt : (List ℕ → Type 0) → Option Files → List ℕ → Type 0
FactAt P None path = Unit {0}
FactAt P (Some files) path = FactIn P (files path)

-- it is one of the open file
pub fact-at : (P : List ℕ → Type 0) (new : DiskTold) (path : List ℕ) → IsOpen new.files new.open_path path → Agrees new.files new.open_path new.open_length → IfSome (open_bytes new) P → FactAt P new.files path
unfolding content
fact-at P new path o a h = by new.files new.open_path new.open_length o a h where
  in-file : (f : Files) (q : List ℕ) (size : Option ℕ) → Agrees (Some f) (Some q) size → IfSome (f q) P → FactIn P (f q)
  in-file f q None a h = absurd a
  in-file f q (Some n) a h = there (f q) n a h where
    there : (o : Option (List ℕ)) (n : ℕ) → IsFileOf o n → IfSome o P → FactIn P o
    there None n a h = absurd a
    there (Some file) n a h = h

  by : (files : Option Files) (p : Option (List ℕ)) (size : Option ℕ) → IsOpen files p path → Agrees files p size → IfSome (content files p) P → FactAt P files path
  by None p size o a h = tt
  by (Some f) None size o a h = absurd cc
  by (Some f) (Some q) size o a h =
      let same : q ≡ path = cc in
      subst (λ r. FactIn P (f r)) same (in-file f q size a h)

-- what a file was and is
pub on-file : (R : List ℕ → List ℕ → Type 0) (old new : Option Files) (path : List ℕ) (dev : Dev) (P : List ℕ → Type 0) → ((file now : List ℕ) → stand file ≡ Ok dev → P now → R file now) →
    KeepsOthers old new path → OpensTold old path dev → FactAt P new path → OnFile R old new path
on-file R None None path dev P f k h p = tt
on-file R None (Some g) path dev P f k h p = absurd k
on-file R (Some e) None path dev P f k h p = absurd k
on-file R (Some e) (Some g) path dev P f k h p = by (e path) (g path) h p where
  by : (a b : Option (List ℕ)) → StandsIn a (Ok dev) → FactIn P b → Both R a b
  by None b h p = absurd h
  by (Some file) None h p = absurd p
  by (Some file) (Some now) h p = f file now h p

-- what an unlocking leaves
pub unlocking-left : (old new : Option Files) (path : List ℕ) (dev : Dev) → KeepsOthers old new path → OpensTold old path dev → FactAt (λ now. StandsUnlocking (Ok dev) (stand now)) new path → OnFile LeavesUnlocking old new path
unlocking-left old new path dev =
    on-file LeavesUnlocking old new path dev (λ now. StandsUnlocking (Ok dev) (stand now))
    (λ file now h p. subst (λ r. StandsUnlocking r (stand now)) (sym h) p)

left-store : (image : Option (List ℕ)) (dev : Dev) → LeavesStore image dev → IfSome image (λ now. StandsUnlocking (Ok dev) (stand now))
left-store None dev h = tt
left-store (Some file) dev h = h

ends-store : (image : Option (List ℕ)) (dev : Dev) → EndsUnlocked image dev → IfSome image (IsLeft (unlocked_device dev))
ends-store None dev h = tt
ends-store (Some file) dev h = h

device-left : (dev : Dev) (files : Option Files) (path : List ℕ) → FactAt (IsLeft dev) files path → LeavesDevice dev files path
device-left dev None path h = tt
device-left dev (Some f) path h = by (f path) h where
  by : (o : Option (List ℕ)) → FactIn (IsLeft dev) o → LeftIn dev o
  by None h = absurd h
  by (Some file) h = h

done-shown : (o : Option Outcome) (dev : Dev) (files : Option Files) (path : List ℕ) → IsOutcome o (Shown dev) → LeavesDevice dev files path → IsDone o files path
done-shown None dev files path h l = tt
done-shown (Some told) dev files path h l = subst (λ t. IsDone (Some t) files path) (sym h) l

done-unlocked : (o : Option Outcome) (dev : Dev) (files : Option Files) (path : List ℕ) → IsOutcome o (Unlocked dev) → LeavesDevice (unlocked_device dev) files path → IsDone o files path
done-unlocked None dev files path h l = tt
done-unlocked (Some told) dev files path h l = subst (λ t. IsDone (Some t) files path) (sym h) l

-- the ends of an unlocking
pub unlock-done : (old mid new : DiskTold) (path : List ℕ) (dev : Dev) → OpensImage old mid path dev → OpenKept mid new → Agrees new.files new.open_path new.open_length → EndsUnlocked (open_bytes new) dev →
    IsDone (told_as (opened Unlocked) old.files path) new.files path
unlock-done old mid new path dev h k a e =
    done-unlocked (told_as (opened Unlocked) old.files path) dev new.files path (outcome-opened Unlocked old.files path dev h.device)
    (device-left (unlocked_device dev) new.files path (fact-at (IsLeft (unlocked_device dev)) new path (open-opened old mid new path dev h k) a (ends-store (open_bytes new) dev e)))

pub unlock-left : (old mid new : DiskTold) (path : List ℕ) (dev : Dev) → OpensImage old mid path dev → OpenKept mid new → Agrees new.files new.open_path new.open_length → LeavesStore (open_bytes new) dev →
    OnFile LeavesUnlocking old.files new.files path
unlock-left old mid new path dev h k a e =
    unlocking-left old.files new.files path dev (others-opened old mid new path dev h k).others h.device
    (fact-at (λ now. StandsUnlocking (Ok dev) (stand now)) new path (open-opened old mid new path dev h k) a (left-store (open_bytes new) dev e))

-- the ends of a showing: the file was repaired
repaired-in : (old new : Option Files) (path : List ℕ) (dev : Dev) → RepairedStands → OnFile IsRepaired old new path → OpensTold old path dev → FactAt (IsLeft dev) new path
repaired-in None None path dev law r h = tt
repaired-in None (Some g) path dev law r h = absurd r
repaired-in (Some f) None path dev law r h = absurd r
repaired-in (Some f) (Some g) path dev law r h = by (f path) (g path) r h where
  by : (a b : Option (List ℕ)) → Both IsRepaired a b → StandsIn a (Ok dev) → FactIn (IsLeft dev) b
  by None b r h = absurd h
  by (Some file) None r h = absurd r
  by (Some file) (Some now) r h = let both = law file now dev h r in record { stands = both.0; settled = both.1 }

repaired-as : (old new : Option Files) (path : List ℕ) (dev : Dev) → RepairedStands → RepairedOwns → OnFile IsRepaired old new path → OpensTold old path dev → OnFile StandsAs old new path
repaired-as None None path dev law owns r h = tt
repaired-as None (Some g) path dev law owns r h = absurd r
repaired-as (Some f) None path dev law owns r h = absurd r
repaired-as (Some f) (Some g) path dev law owns r h = by (f path) (g path) r h where
  by : (a b : Option (List ℕ)) → Both IsRepaired a b → StandsIn a (Ok dev) → Both StandsAs a b
  by None b r h = absurd h
  by (Some file) None r h = absurd r
  by (Some file) (Some now) r h = record { stands = (law file now dev h r).0 ∙ sym h; owns = λ name. owns file now name r }

pub show-done : (old mid new : DiskTold) (path : List ℕ) (dev : Dev) → RepairedStands → OpensImage old mid path dev → new.files ≡ mid.files → IsDone (told_as (opened Shown) old.files path) new.files path
show-done old mid new path dev law h e =
    done-shown (told_as (opened Shown) old.files path) dev new.files path (outcome-opened Shown old.files path dev h.device)
    (device-left dev new.files path (subst (λ f. FactAt (IsLeft dev) f path) (sym e) (repaired-in old.files mid.files path dev law h.repaired h.device)))

pub show-left : (old mid new : DiskTold) (path : List ℕ) (dev : Dev) → RepairedStands → RepairedOwns → OpensImage old mid path dev → new.files ≡ mid.files → OnFile StandsAs old.files new.files path
show-left old mid new path dev law owns h e =
    subst (λ f. OnFile StandsAs old.files f path) (sym e) (repaired-as old.files mid.files path dev law owns h.repaired h.device)

-- why an image wasn't opened
pub stop-unopened : (done : Dev → Outcome) (files : Option Files) (path : List ℕ) (rose : Type 0) (e : OpenError) → (e ≡ opening.Absent → IsAbsent files path) → ((bad : BadImage) → e ≡ opening.Bad bad → IsBadImage files path bad) →
    (e ≡ opening.Disk → rose) → IsStop (told_as (opened done) files path) rose (opening_stop e)
stop-unopened done files path rose opening.Absent a b d = gone files (a refl) where
  gone : (files : Option Files) → IsAbsent files path → told_as (opened done) files path ≡ Some NoFile
  gone None h = absurd h
  gone (Some f) h = ap (λ o. Some (opened done o)) h
stop-unopened done files path rose (opening.Bad bad) a b d = spoilt files (b bad refl) where
  in-file : (o : Option (List ℕ)) → StandsIn o (Err bad) → opened done o ≡ BadDevice bad
  in-file None h = absurd h
  in-file (Some file) h = ap (opened_as done) h

  spoilt : (files : Option Files) → IsBadImage files path bad → IsOutcome (told_as (opened done) files path) (BadDevice bad)
  spoilt None h = tt
  spoilt (Some f) h = in-file (f path) h
stop-unopened done files path rose opening.Disk a b d = d refl
stop-unopened done files path rose opening.Memory a b d = tt

pub early-unopened : (D : Type 0) (e : OpenError) → ((bad : BadImage) → (e ≡ opening.Absent) ⊎ (e ≡ opening.Bad bad) → D) → IsEarly (opening_stop e) → D
early-unopened D opening.Absent f h = f ShortFile (inl refl)
early-unopened D (opening.Bad bad) f h = f bad (inr refl)
early-unopened D opening.Disk f h = absurd h
early-unopened D opening.Memory f h = absurd h

-- the text of an image that was opened, in the words of its job
pub shown-outcome : (files : Option Files) (path : List ℕ) (dev : Dev) (image : Option (List ℕ)) (text : List ℕ) → is_some files ≡ is_some image → OpensTold files path dev → IsShownText image dev text →
    IsText (told_as (opened Shown) files path) text
shown-outcome None path dev image text e h s = tt
shown-outcome (Some f) path dev None text e h s = absurd (false≢true (sym e))
shown-outcome (Some f) path dev (Some file) text e h s = text-opened (told_as (opened Shown) (Some f) path) (Shown dev) text (outcome-opened Shown (Some f) path dev h) refl (sym s)

-- a disk tells the opened file exactly where it tells its files
pub told-open : (old mid : DiskTold) (path : List ℕ) (dev : Dev) → OpensImage old mid path dev → is_some old.files ≡ is_some (open_bytes mid)
unfolding content
told-open old mid path dev h = by old.files mid.files mid.open_path h.others h.open_now h.device h.repaired where
  in-file : (a b : Option (List ℕ)) → StandsIn a (Ok dev) → Both IsRepaired a b → true ≡ is_some b
  in-file None b d r = absurd d
  in-file (Some file) None d r = absurd r
  in-file (Some file) (Some now) d r = refl

  by : (was now : Option Files) (p : Option (List ℕ)) → KeepsOthers was now path → IsOpen now p path → OpensTold was path dev → OnFile IsRepaired was now path → is_some was ≡ is_some (content now p)
  by None None p k o d r = refl
  by None (Some m) p k o d r = absurd k
  by (Some f) None p k o d r = absurd k
  by (Some f) (Some m) None k o d r = absurd cc
  by (Some f) (Some m) (Some q) k o d r =
      let same : q ≡ path = cc in
      subst (λ x. true ≡ is_some (m x)) (sym same) (in-file (f path) (m path) d r)
