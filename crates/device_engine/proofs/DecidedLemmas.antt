-- Commands that are refused or done as a call of the store is.
use Rattle.std.proofs.Common.{◌≡◌, ◌∙◌, inl, inr, refl, ap, sym, subst, ℕ, List, [], ◌∷◌, Option, Some, None, option_map, Result, Ok, Err}
use Rattle.std.specs.Prelude.{is_some, IsFalse, OnOk}
use Rattle.std.specs.Result.{IsErrOf}
use Rattle.std.specs.List.{list_any}
use Rattle.fb_frame.specs.Causes.{Rose}
use Rattle.fb_message.specs.declared.reply.Reply.TheVariants.{Okay, Fail}
use Rattle.dev_disk.specs.Disks.{DiskTold}
use Rattle.dev_model.specs.declared.device.Dev.{Dev}
use Rattle.dev_model.specs.declared.device.Mode.TheVariants.{Halted}
use Rattle.wire_model.specs.Says.{says, decides, answers}
use Rattle.wire_model.specs.Halts.{HaltsBy, IsHaltedAround, is_fail}
use Rattle.dev_store.specs.declared.errors.StoreError.{StoreError}
use Rattle.dev_store.specs.declared.errors.StoreError.TheVariants as store
use Rattle.dev_store.specs.Changes.{error_text}
use Rattle.dev_store.specs.Faults.{IsHonest}
use Rattle.dev_store.specs.Held.{Held, image_of, seen, IsWhole}
use Rattle.dev_store.specs.StoreCalls.{Decided, StandsAround}
use Rattle.device_engine.specs.Running.{Order}
use Rattle.device_engine.specs.Working.{IsAnswered, IsStopped, Worked, not_done, ended}
use Rattle.device_engine.proofs.HaltLemmas.{leaves-around, holds-zeroed, seen-self}

pub seen-mode : (image : Option (List ℕ)) (dev : Dev) → (seen image dev).mode ≡ dev.mode
unfolding seen
seen-mode None dev = refl
seen-mode (Some file) dev = refl

pub seen-max : (image : Option (List ℕ)) (dev : Dev) → (seen image dev).max ≡ dev.max
unfolding seen
seen-max None dev = refl
seen-max (Some file) dev = refl

around-halts : (old done t : Dev) → IsHaltedAround old done t → t.mode ≡ Halted
around-halts old done t (inl e) = ap (λ d. d.mode) e
around-halts old done t (inr e) = ap (λ d. d.mode) e

module _ {K : Type 0} (told : K → DiskTold) (old new : Held K) (order : Order) (refusal : Option (List ℕ)) (change : Dev → Dev)
    (is : says old.device order.loaded order.command ≡ decides refusal change old.device order.loaded) where
  -- the command is refused
  pub refuses : (text : List ℕ) → refusal ≡ Some text → IsWhole told old → new ≡ old → IsAnswered told old new order (Fail text)
  refuses text e w same = subst (λ n. IsAnswered told old n order (Fail text)) (sym same) (record {
    after = old.device;
    said = is ∙ ap (λ r. decides r change old.device order.loaded) e;
    left = seen-self (image_of told old) old.device w.sound.stands;
    whole = w;
    mode = refl;
    max = refl;
  })

  -- it is taken
  said-done : refusal ≡ None → says old.device order.loaded order.command ≡ answers (Okay [] ∷ []) (change old.device) order.loaded
  said-done e = is ∙ ap (λ r. decides r change old.device order.loaded) e

  pub does : refusal ≡ None → new.device ≡ seen (image_of told new) (change old.device) → IsWhole told new → (change old.device).mode ≡ old.device.mode → (change old.device).max ≡ old.device.max →
      IsAnswered told old new order (Okay [])
  does e left w m x = record {
    after = change old.device;
    said = said-done e;
    left = left;
    whole = w;
    mode = ap (λ d. d.mode) left ∙ (seen-mode (image_of told new) (change old.device) ∙ m);
    max = ap (λ d. d.max) left ∙ (seen-max (image_of told new) (change old.device) ∙ x);
  }

  pub accepts : refusal ≡ None → IsFalse (list_any is_fail (says old.device order.loaded order.command).replies)
  accepts e = ap (λ s. list_any is_fail s.replies) (said-done e)

  -- the disk failed in it
  pub stops-around : refusal ≡ None → ((t : Dev) → IsHaltedAround old.device (change old.device) t → HaltsBy old.device order.loaded order.command t) → IsWhole told old →
      is_some (image_of told old) ≡ is_some (image_of told new) → (IsHonest (told new.disk).torn → StandsAround (image_of told new) old.device (change old.device)) →
      Rose (told old.disk).faults (told new.disk).faults → IsStopped told old new order
  stops-around e by w alike around rose =
      let leaves = leaves-around (image_of told new) (IsHonest (told new.disk).torn) old.device (change old.device)
      (λ f. holds-zeroed (image_of told old) old.device (alike ∙ f) w.sound.stands) around in
      record {
        left = leaves.left;
        halts = record { accepted = accepts e; change = by leaves.left leaves.around };
        halted = around-halts old.device (change old.device) leaves.left leaves.around;
        stands = leaves.stands;
        rose = rose;
      }

  -- the store refused its call
  pub refuses-as : (error : StoreError) → (error ≡ store.Disk → ⊥) → refusal ≡ Some (error_text error) → IsWhole told old → new ≡ old → Worked told old new order (Err (not_done error))
  refuses-as store.NoPartition n e w same = refuses _ e w same
  refuses-as store.TooLarge n e w same = refuses _ e w same
  refuses-as store.NoSpace n e w same = refuses _ e w same
  refuses-as store.GroupFull n e w same = refuses _ e w same
  refuses-as store.NameTaken n e w same = refuses _ e w same
  refuses-as store.TooManyPartitions n e w same = refuses _ e w same
  refuses-as store.NoGroup n e w same = refuses _ e w same
  refuses-as store.BadTable n e w same = refuses _ e w same
  refuses-as store.Disk n e w same = absurd (n refl)

  -- a command that ends as a call of the store does
  pub ends : (flaw : Option StoreError) (done : Result (Unit {0}) StoreError) → refusal ≡ option_map error_text flaw → (flaw ≡ Some store.Disk → ⊥) →
      (says old.device order.loaded order.command ≡ answers (Okay [] ∷ []) (change old.device) order.loaded → (t : Dev) → IsHaltedAround old.device (change old.device) t →
      HaltsBy old.device order.loaded order.command t) → IsWhole told old → is_some (image_of told old) ≡ is_some (image_of told new) → (change old.device).mode ≡ old.device.mode →
      (change old.device).max ≡ old.device.max → Decided told flaw old new done → ((e : StoreError) → IsErrOf done e → (e ≡ store.Disk → ⊥) → new ≡ old) →
      OnOk done (new.device ≡ seen (image_of told new) (change old.device)) → OnOk done (IsWhole told new) →
      (IsErrOf done store.Disk → IsHonest (told new.disk).torn → StandsAround (image_of told new) old.device (change old.device)) → Worked told old new order (ended done)
  ends (Some flaw) (Ok x) e n by w alike m k d same left whole around = absurd cc
  ends None (Ok x) e n by w alike m k d same left whole around = does e left whole m k
  ends (Some flaw) (Err error) e n by w alike m k d same left whole around =
      let f : error ≡ flaw = cc in
      let j : error ≡ store.Disk → ⊥ = λ h. n (ap Some (sym f ∙ h)) in
      refuses-as error j (e ∙ ap (λ x. Some (error_text x)) (sym f)) w (same error refl j)
  ends None (Err error) e n by w alike m k d same left whole around =
      subst (λ x. Worked told old new order (Err (not_done x))) (sym d.0) (stops-around e (by (said-done e)) w alike (around (ap Err d.0)) d.1)
