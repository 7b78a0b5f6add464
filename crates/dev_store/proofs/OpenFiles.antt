-- What a path's file was and is, by the open file.
use Rattle.std.proofs.Common.{arith, ◌≡◌, ◌∙◌, refl, sym, subst, ℕ, ◌≤◌, List, Option, Some, None, Result, Ok, Err}
use Rattle.std.specs.Prelude.{IsSome, IfSome}
use Rattle.fb_frame.specs.Told.{Both}
use Rattle.dev_model.specs.declared.bad_image.BadImage.{BadImage}
use Rattle.dev_model.specs.declared.device.Dev.{Dev}
use Rattle.dev_disk.specs.Files.{Files, content, KeepsOthers, KeepsUnopened, StaysTorn}
use Rattle.dev_disk.specs.Calls.{IsOpen}
use Rattle.dev_disk.specs.Disks.{DiskTold, open_bytes, OpenKept}
use Rattle.dev_store.specs.Stand.{stand}
use Rattle.dev_store.specs.Opening.{StandsIn, IsBadImage, OpensTold, StandsAs, OnFile, LeavesImage, OthersKept}
use Rattle.dev_store.specs.Reading.{IsThere, IsFileOpen}

-- what the told open file stands for is what the path's file does
stands-in : (f : Files) (path : List ℕ) (found : Result Dev BadImage) → IsSome (f path) → IfSome (f path) (λ file. stand file ≡ found) → StandsIn (f path) found
stands-in f path found there h = by (f path) there h
  where
    by : (o : Option (List ℕ)) → IsSome o → IfSome o (λ file. stand file ≡ found) → StandsIn o found
    by None t k = absurd cc
    by (Some file) t k = k

-- the bytes of the path's file are those of the open one
content-at : (f : Files) (opened : Option (List ℕ)) (path : List ℕ) → opened ≡ Some path → content (Some f) opened ≡ f path
unfolding content
content-at f opened path e = subst (λ o. content (Some f) o ≡ f path) (sym e) refl

pub bad-image : (old mid : DiskTold) (path : List ℕ) (bad : BadImage) → mid.files ≡ old.files → IsFileOpen mid path → IfSome (open_bytes mid) (λ file. stand file ≡ Err bad) → IsBadImage old.files path bad
bad-image old mid path bad same o h = subst (λ files. IsBadImage files path bad) same (by mid.files o.opened o.there h)
  where
    by : (files : Option Files) → IsOpen files mid.open_path path → IsThere files path → IfSome (content files mid.open_path) (λ file. stand file ≡ Err bad) → IsBadImage files path bad
    by None a b k = tt
    by (Some f) a b k = stands-in f path (Err bad) b (subst (λ x. IfSome x (λ file. stand file ≡ Err bad)) (content-at f mid.open_path path a) k)

pub opens-told : (old mid : DiskTold) (path : List ℕ) (dev : Dev) → mid.files ≡ old.files → IsFileOpen mid path → IfSome (open_bytes mid) (λ file. stand file ≡ Ok dev) → OpensTold old.files path dev
opens-told old mid path dev same o h = subst (λ files. OpensTold files path dev) same (by mid.files o.opened o.there h)
  where
    by : (files : Option Files) → IsOpen files mid.open_path path → IsThere files path → IfSome (content files mid.open_path) (λ file. stand file ≡ Ok dev) → OpensTold files path dev
    by None a b k = tt
    by (Some f) a b k = stands-in f path (Ok dev) b (subst (λ x. IfSome x (λ file. stand file ≡ Ok dev)) (content-at f mid.open_path path a) k)

-- the path's file before and after, and all others
pub record ChangesFile (R : List ℕ → List ℕ → Type 0) (old new : DiskTold) (path : List ℕ) : Type 0 where
  pub file : OnFile R old.files new.files path
  pub open_now : IsOpen new.files new.open_path path
  pub others : KeepsOthers old.files new.files path

changes-files : (R : List ℕ → List ℕ → Type 0) (a b : Option Files) (p q : Option (List ℕ)) (path : List ℕ) → IsOpen a p path → q ≡ p → KeepsUnopened a b p → Both R (content a p) (content b q) →
    OnFile R a b path × (IsOpen b q path × KeepsOthers a b path)
changes-files R None None p q path o e k h = (tt, (e ∙ o, tt))
changes-files R None (Some g) p q path o e k h = absurd (no-files g (subst (KeepsUnopened None (Some g)) o k))
  where
    no-files : (g : Files) → KeepsUnopened None (Some g) None → ⊥
    no-files g k = absurd cc
changes-files R (Some f) None p q path o e k h = absurd (subst (KeepsUnopened (Some f) None) o k)
changes-files R (Some f) (Some g) p q path o e k h =
    (subst (λ x. Both R x (g path)) (content-at f p path o) (subst (λ x. Both R (content (Some f) p) x) (content-at g q path (e ∙ o)) h), (e ∙ o, subst (KeepsUnopened (Some f) (Some g)) o k))

pub changes-file : (R : List ℕ → List ℕ → Type 0) (old mid new : DiskTold) (path : List ℕ) → mid.files ≡ old.files → IsFileOpen mid path → OpenKept mid new → Both R (open_bytes mid) (open_bytes new) →
    ChangesFile R old new path
changes-file R old mid new path same o k h =
    let c = changes-files R mid.files new.files mid.open_path new.open_path path o.opened k.path k.others h in
    record {
      file = subst (λ files. OnFile R files new.files path) same c.0;
      open_now = c.1.0;
      others = subst (λ files. KeepsOthers files new.files path) same c.1.1;
    }

-- no other file changed while the open one did
others-of : (a b : Option Files) (p : Option (List ℕ)) (path : List ℕ) → IsOpen a p path → KeepsUnopened a b p → KeepsOthers a b path
others-of None b p path o k = subst (λ f. KeepsOthers None f path) (sym (subst (KeepsUnopened None b) o k)) tt
others-of (Some f) b p path o k = subst (KeepsUnopened (Some f) b) o k

pub others-kept : (old mid new : DiskTold) (path : List ℕ) → mid.files ≡ old.files → old.faults ≤ mid.faults → StaysTorn old.torn mid.torn → IsFileOpen mid path → OpenKept mid new → OthersKept old new path
others-kept old mid new path same later torn o k = record {
  others = subst (λ files. KeepsOthers files new.files path) same (others-of mid.files new.files mid.open_path path o.opened k.others);
  later = omega (arith, later, k.later);
  torn = λ a b left t. k.torn a b left (torn a b left t);
}

-- an opening that failed and wrote nothing
keeps-self : (files : Option Files) (path : List ℕ) → KeepsOthers files files path
keeps-self None path = tt
keeps-self (Some f) path = λ other ne. refl

stays-self : (files : Option Files) (path : List ℕ) → OnFile StandsAs files files path
stays-self None path = tt
stays-self (Some f) path = by (f path)
  where
    by : (o : Option (List ℕ)) → Both StandsAs o o
    by None = tt
    by (Some file) = record { stands = refl; owns = λ name. refl }

pub leaves-same : (old new : DiskTold) (path : List ℕ) → new.files ≡ old.files → LeavesImage old new path
leaves-same old new path same = subst (λ files. OnFile StandsAs old.files files path) (sym same) (stays-self old.files path)

pub others-same : (old new : DiskTold) (path : List ℕ) → new.files ≡ old.files → old.faults ≤ new.faults → StaysTorn old.torn new.torn → OthersKept old new path
others-same old new path same later torn = record {
  others = subst (λ files. KeepsOthers old.files files path) (sym same) (keeps-self old.files path);
  later = later;
  torn = torn;
}

-- an opening that failed, where the path's file stands for no device
stands-apart : (s : Option (List ℕ)) (bad : BadImage) → IfSome s (λ file. stand file ≡ Err bad → ⊥) → StandsIn s (Err bad) → ⊥
stands-apart None bad h k = k
stands-apart (Some file) bad h k = h k

pub spared : (old mid new : DiskTold) (path : List ℕ) (bad : BadImage) → mid.files ≡ old.files → IsFileOpen mid path → OpenKept mid new → IfSome (open_bytes mid) (λ file. stand file ≡ Err bad → ⊥) →
    IsBadImage old.files path bad → new.files ≡ old.files
spared old mid new path bad same o k h b =
    subst (λ files. new.files ≡ files) same (by mid.files o.opened h k.others (subst (λ files. IsBadImage files path bad) (sym same) b))
  where
    by : (files : Option Files) → IsOpen files mid.open_path path → IfSome (content files mid.open_path) (λ file. stand file ≡ Err bad → ⊥) → KeepsUnopened files new.files mid.open_path →
        IsBadImage files path bad → new.files ≡ files
    by None a x u c = subst (KeepsUnopened None new.files) a u
    by (Some f) a x u c = absurd (stands-apart (f path) bad (subst (λ s. IfSome s (λ file. stand file ≡ Err bad → ⊥)) (content-at f mid.open_path path a) x) c)
