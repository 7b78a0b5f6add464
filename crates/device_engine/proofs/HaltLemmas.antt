-- The device that is left by a disk that failed in a command which is done whole or not at all.
use Rattle.std.proofs.Common.{◌≡◌, ◌∙◌, ◌⊎◌, inl, inr, refl, ap, sym, subst, ℕ, false, List, Option, Some, None, Result, Ok, Err}
use Rattle.std.specs.Prelude.{is_some}
use Rattle.dev_disk.specs.Calls.{Agrees, IsFileOf}
use Rattle.dev_disk.specs.Files.{Files, content, KeepsUnopened}
use Rattle.dev_disk.specs.Disks.{DiskTold, open_bytes}
use Rattle.dev_model.specs.declared.bad_image.BadImage.{BadImage}
use Rattle.dev_model.specs.declared.device.Dev.{Dev}
use Rattle.dev_model.specs.declared.device.Mode.TheVariants.{Halted}
use Rattle.dev_model.specs.Partitions.{with_mode}
use Rattle.wire_model.specs.Halts.{IsHaltedAround}
use Rattle.dev_store.specs.Held.{DiskKept, Holds, seen, zeroed}
use Rattle.dev_store.specs.Stand.{Stands, stand}
use Rattle.dev_store.specs.StoreCalls.{StandsAround}
use Rattle.device_engine.proofs.DecideLemmas.{device-is}

-- a disk tells the open file both times or neither time
has-file : (x y : Option (List ℕ)) (n : ℕ) → IsFileOf x n → IsFileOf y n → is_some x ≡ is_some y
has-file (Some x) (Some y) n a b = refl
has-file None y n a b = absurd a
has-file (Some x) None n a b = absurd b

tells-alike : (f g : Option Files) (p : Option (List ℕ)) (l : Option ℕ) → KeepsUnopened f g p → Agrees f p l → Agrees g p l → is_some (content f p) ≡ is_some (content g p)
unfolding content
tells-alike None None p l k a b = refl
tells-alike None (Some g) None l k a b = absurd cc
tells-alike None (Some g) (Some q) l k a b = absurd k
tells-alike (Some f) None None l k a b = absurd cc
tells-alike (Some f) None (Some q) l k a b = absurd k
tells-alike (Some f) (Some g) None l k a b = refl
tells-alike (Some f) (Some g) (Some q) None k a b = absurd a
tells-alike (Some f) (Some g) (Some q) (Some n) k a b = has-file (f q) (g q) n a b

pub tells-still : {K L : Type 0} (told : K → DiskTold) (lent : K → L) (old new : K) → DiskKept told lent old new → Agrees (told old).files (told old).open_path (told old).open_length →
    Agrees (told new).files (told new).open_path (told new).open_length → is_some (open_bytes (told old)) ≡ is_some (open_bytes (told new))
tells-still told lent old new k a b =
    let f = (told new).files in
    let c = subst (λ l. Agrees f (told new).open_path l) k.kept.length b in
    let d = subst (λ p. Agrees f p (told old).open_length) k.kept.path c in
    tells-alike (told old).files f (told old).open_path (told old).open_length k.kept.others a d ∙ ap (λ p. is_some (content f p)) (sym k.kept.path)

-- an image stands for a halted device where it stands for the device
pub holds-halted : (image : Option (List ℕ)) (dev : Dev) → Holds image dev → Holds image (with_mode Halted dev)
unfolding Holds
holds-halted None dev h = ap (with_mode Halted) h
holds-halted (Some file) dev h = record { found = h.found; reads = h.reads; same = ap (with_mode Halted) h.same; starts = tt }

pub holds-zeroed : (image : Option (List ℕ)) (dev : Dev) → is_some image ≡ false → Holds image dev → dev ≡ zeroed dev
unfolding Holds
holds-zeroed None dev e h = h
holds-zeroed (Some file) dev e h = absurd cc

-- what is seen of a device for which the image stands
pub seen-self : (image : Option (List ℕ)) (dev : Dev) → Holds image dev → dev ≡ seen image dev
unfolding Holds seen
seen-self None dev h = h
seen-self (Some file) dev h = refl

-- a device as before or as after, and the image stands for it
pub record Leaves (image : Option (List ℕ)) (H : Type 0) (old done : Dev) : Type 0 where
  pub left : Dev
  pub around : IsHaltedAround old done left
  pub stands : H → Holds image left

-- one file stands for one device
stands-same : (file : List ℕ) (found old : Dev) → stand file ≡ Ok found → Stands file old → found ≡ with_mode found.mode old
stands-same file found old e s =
    let r = s.reads in
    let f : s.found ≡ found = cc in
    sym (ap (with_mode found.mode) s.same ∙ ap (with_mode found.mode) f)

stands-none : (file : List ℕ) (dev : Dev) (bad : BadImage) → stand file ≡ Err bad → Stands file dev → ⊥
stands-none file dev bad e s = let r = s.reads in absurd cc

leaves-found : (file : List ℕ) (H : Type 0) (old done : Dev) (r : Result Dev BadImage) → stand file ≡ r → (H → Stands file old ⊎ Stands file done) → Leaves (Some file) H old done
unfolding Holds
leaves-found file H old done (Err bad) e s = record { left = with_mode Halted old; around = inl refl; stands = λ h. absurd (none (s h)) } where
  none : Stands file old ⊎ Stands file done → ⊥
  none (inl k) = stands-none file old bad e k
  none (inr k) = stands-none file done bad e k
leaves-found file H old done (Ok found) e s = by (device-is found (with_mode found.mode old)) where
  by : (found ≡ with_mode found.mode old) ⊎ (found ≡ with_mode found.mode old → ⊥) → Leaves (Some file) H old done
  by (inl p) = record { left = with_mode Halted old; around = inl refl; stands = λ h. record { found = found; reads = e; same = ap (with_mode Halted) (sym p); starts = tt } }
  by (inr k) = record { left = with_mode Halted done; around = inr refl; stands = λ h. pick (s h) } where
    pick : Stands file old ⊎ Stands file done → Holds (Some file) (with_mode Halted done)
    pick (inl q) = absurd (k (stands-same file found old e q))
    pick (inr q) = holds-halted (Some file) done q

pub leaves-around : (image : Option (List ℕ)) (H : Type 0) (old done : Dev) → (is_some image ≡ false → old ≡ zeroed old) → (H → StandsAround image old done) → Leaves image H old done
unfolding Holds
leaves-around None H old done z s = record { left = with_mode Halted old; around = inl refl; stands = λ h. ap (with_mode Halted) (z refl) }
leaves-around (Some file) H old done z s = leaves-found file H old done (stand file) refl s
