-- Why no product is read of a folder.
use Rattle.std.proofs.Common.{◌≡◌, ℕ, ◌≤◌, Bool, List, Option, refl, sym, ◌∙◌, subst, arith}
use Rattle.std.specs.Prelude.{Result, Ok, Err, IfErr, IsTrue}
use Rattle.std.specs.Result.{IsErrAnd}
use Rattle.fb_frame.specs.Causes.{Rose}
use Rattle.dev_model.specs.Repeats.{is_among}
use Rattle.flash_plan.specs.declared.product.ProductError.{ProductError}
use Rattle.flash_plan.specs.declared.product.ProductError.TheVariants as bad
use Rattle.flash_plan.specs.declared.product.Flaw.{Flaw}
use Rattle.flash_plan.specs.Files.{Files}
use Rattle.flash_plan.specs.Inspecting.{looked_at}
use Rattle.flash_plan.specs.Products.{OfFiles, product_of}
use Rattle.host_driver.specs.Jobs.{Folder}
use Rattle.host_top.specs.Acts.{IsEntered, WhyUnread, unread_product}

-- what is known of an error that is carried is known of what it becomes
pub err-carried : {X E : Type 0} (r : Result X E) (P Q : E → Type 0) → IsErrAnd r P → ((e : E) → P e → Q e) → IfErr r Q
err-carried (Ok x) P Q h f = tt
err-carried (Err e) P Q h f = f e h

entered-still : (dir : List ℕ) (first mid new : Folder) → IsEntered dir first mid → new.entered ≡ mid.entered → IsEntered dir first new
entered-still dir first mid new e s = record { here = e.here; entered = subst IsTrue (sym s) e.entered }

rose-later : (a b c : ℕ) → a ≤ b → Rose b c → Rose a c
rose-later a b c h r = omega (arith, h, r)

-- an inspection of a folder that was entered stopped
pub inspection-stopped : (dir : List ℕ) (wipe : Bool) (first mid new : Folder) (error : ProductError) → IsEntered dir first mid → new.entered ≡ mid.entered → mid.files ≡ first.files → first.faults ≤ mid.faults →
    ((file : List ℕ) → error ≡ bad.Directory file → Rose mid.faults new.faults) →
    ((file : List ℕ) → error ≡ bad.Directory file → OfFiles mid.files (λ files. IsTrue (is_among (looked_at wipe files) file))) →
    ((file : List ℕ) (flaw : Flaw) → error ≡ bad.Bad file flaw → OfFiles mid.files (λ files. product_of files wipe ≡ Err (file, flaw))) →
    WhyUnread dir wipe first new (unread_product error)
inspection-stopped dir wipe first mid new bad.Memory e s f l d k b = tt
inspection-stopped dir wipe first mid new (bad.Directory file) e s f l d k b = record {
  entered = entered-still dir first mid new e s;
  failed = rose-later first.faults mid.faults new.faults l (d file refl);
  looked = subst (λ o. OfFiles o (λ files. IsTrue (is_among (looked_at wipe files) file))) f (k file refl);
}
inspection-stopped dir wipe first mid new (bad.Bad file flaw) e s f l d k b = (
  entered-still dir first mid new e s,
  subst (λ o. OfFiles o (λ files. product_of files wipe ≡ Err (file, flaw))) f (b file flaw refl),
)
