-- Commands that store another state.
use Rattle.std.proofs.Common.{◌≡◌, ◌∙◌, ◌⊎◌, inl, inr, length, refl, ap, sym, subst, ℕ, Bool, true, false, not, ◌&&◌, ◌||◌, List, [], ◌∷◌, Option, Some, None, Result, Ok, Err}
use Rattle.std.specs.Prelude.{codes, ◌==◌, IsTrue, is_some, OnOk}
use Rattle.std.specs.List.{list_all}
use Rattle.std.specs.Result.{IsErrOf}
use Rattle.std.proofs.Common.{arith}
use Rattle.std.proofs.lemmas.Bool.Decides.{nat_tests}
use Rattle.std.proofs.lemmas.Bool.{false≢true}
use Rattle.fb_frame.specs.declared.slot.Slot.{Slot}
use Rattle.fb_frame.specs.declared.slot.Slot.TheVariants.{A, B}
use Rattle.dev_disk.specs.Disks.{DiskTold}
use Rattle.dev_model.specs.declared.device.Dev.{Dev}
use Rattle.dev_model.specs.declared.device.SlotFlags.{SlotFlags}
use Rattle.dev_model.specs.declared.device.Mode.{Mode}
use Rattle.dev_model.specs.declared.device.Mode.TheVariants.{Bootloader, Userspace, System, Recovery, Halted}
use Rattle.dev_model.specs.Options.{first_passed}
use Rattle.dev_model.specs.Partitions.{is_fastboot, is_userspace, has_slots}
use Rattle.dev_model.specs.Refusals.{active_refusal, lock_refusal}
use Rattle.dev_model.specs.Steps.{activated, relocked, fresh_flags}
use Rattle.dev_model.specs.Validity.{IsValid, is_flags, is_first, is_blank}
use Rattle.dev_store.specs.Held.{Held, image_of, seen, IsWhole}
use Rattle.fb_message.specs.declared.reply.Reply.TheVariants.{Okay}
use Rattle.fb_message.specs.CommandText.{SetActive, Lock}
use Rattle.wire_model.specs.Says.{Loaded, says, decides, answers}
use Rattle.wire_model.specs.Halts.{HaltsBy, IsHaltedAround}
use Rattle.dev_store.specs.declared.errors.StoreError.{StoreError}
use Rattle.dev_store.specs.declared.errors.StoreError.TheVariants.{Disk}
use Rattle.dev_store.specs.declared.state.State.{State}
use Rattle.dev_store.specs.Faults.{IsHonest}
use Rattle.dev_store.specs.StoreCalls.{Decided, StandsAround}
use Rattle.dev_store.specs.States.{is_state, kept_state, with_state, start_mode}
use Rattle.device_engine.specs.Running.{Order}
use Rattle.device_engine.specs.Working.{activated_state, Worked, ended}
use Rattle.device_engine.proofs.DecidedLemmas.{ends}
use Rattle.device_engine.proofs.HaltLemmas.{seen-self}

-- a device that answers commands opens in the mode that it is in
opens-same : (m : Mode) → IsTrue (is_fastboot m) → start_mode (is_userspace m) ≡ m
opens-same Bootloader f = refl
opens-same Userspace f = refl
opens-same System f = absurd (false≢true f)
opens-same Recovery f = absurd (false≢true f)
opens-same Halted f = absurd (false≢true f)

pub activated-as : (slot : Slot) (dev : Dev) → IsTrue (is_fastboot dev.mode) → with_state (activated_state slot (kept_state dev)) dev ≡ activated slot dev
activated-as A dev f = let m = opens-same dev.mode f in λ i. record (activated A dev) { mode = m i }
activated-as B dev f = let m = opens-same dev.mode f in λ i. record (activated B dev) { mode = m i }

pub locked-as : (dev : Dev) → IsTrue (is_fastboot dev.mode) → with_state (record (kept_state dev) { locked = true }) dev ≡ relocked dev
locked-as dev f = let m = opens-same dev.mode f in λ i. record (relocked dev) { mode = m i }

-- what the tests of a device's slots say
slots-by : (two a b none first blank other : Bool) → ((two && a && b) || (none && first && blank && other)) ≡ true → two ≡ true → none ≡ false → (a ≡ true) × (b ≡ true)
slots-by true true true none first blank other h k n = (refl, refl)
slots-by true true false true first blank other h k n = absurd cc
slots-by true true false false first blank other h k n = absurd cc
slots-by true false b true first blank other h k n = absurd cc
slots-by true false b false first blank other h k n = absurd cc
slots-by false a b none first blank other h k n = absurd cc

pub flags-kept : (dev : Dev) → IsValid dev → dev.slots ≡ 2 → (is_flags dev.flags.a ≡ true) × (is_flags dev.flags.b ≡ true)
flags-kept dev v s =
    slots-by (dev.slots == 2) (is_flags dev.flags.a) (is_flags dev.flags.b) (dev.slots == 0) (is_first dev.active) (is_blank dev.flags.a) (is_blank dev.flags.b) v.slots (ap (λ n. n == 2) s) (ap (λ n. n == 0) s)

-- a state that fits a device
fit-tests : (l t f n i b : Bool) → l ≡ true → ((t ≡ true) × (f ≡ true)) ⊎ ((n ≡ true) × (i ≡ true) × (b ≡ true)) → (l && ((t && f) || (n && i && b))) ≡ true
fit-tests false t f n i b h k = absurd cc
fit-tests true true true n i b h k = refl
fit-tests true true false true true true h k = refl
fit-tests true false f true true true h k = refl
fit-tests true true false n i b h (inl k) = let m = k.1 in absurd cc
fit-tests true false f n i b h (inl k) = let m = k.0 in absurd cc
fit-tests true true false false i b h (inr k) = let m = k.0 in absurd cc
fit-tests true true false true false b h (inr k) = let m = k.1 in absurd cc
fit-tests true true false true true false h (inr k) = let m = k.2 in absurd cc
fit-tests true false f false i b h (inr k) = let m = k.0 in absurd cc
fit-tests true false f true false b h (inr k) = let m = k.1 in absurd cc
fit-tests true false f true true false h (inr k) = let m = k.2 in absurd cc

state-fits : (slots : ℕ) (s : State) → (length s.flags == 2) ≡ true →
    (((slots == 2) ≡ true) × (list_all is_flags s.flags ≡ true)) ⊎ (((slots == 0) ≡ true) × (is_first s.active ≡ true) × (list_all is_blank s.flags ≡ true)) → IsTrue (is_state slots s)
unfolding is_state
state-fits slots s l h = fit-tests (length s.flags == 2) (slots == 2) (list_all is_flags s.flags) (slots == 0) (is_first s.active) (list_all is_blank s.flags) l h

two-true : (x y : Bool) → x ≡ true → y ≡ true → list_all (λ b. b) (x ∷ y ∷ []) ≡ true
two-true true true h k = refl
two-true true false h k = absurd cc
two-true false y h k = absurd cc

two-all : (p : SlotFlags → Bool) (a b : SlotFlags) → p a ≡ true → p b ≡ true → list_all p (a ∷ b ∷ []) ≡ true
two-all p a b h k = two-true (p a) (p b) h k

pub fits-active : (slot : Slot) (dev : Dev) → IsValid dev → dev.slots ≡ 2 → IsTrue (is_state dev.slots (activated_state slot (kept_state dev)))
fits-active A dev v s =
    state-fits dev.slots (activated_state A (kept_state dev)) refl (inl ((ap (λ n. n == 2) s, two-all is_flags fresh_flags dev.flags.b refl (flags-kept dev v s).1)))
fits-active B dev v s =
    state-fits dev.slots (activated_state B (kept_state dev)) refl (inl ((ap (λ n. n == 2) s, two-all is_flags dev.flags.a fresh_flags (flags-kept dev v s).0 refl)))

-- what a valid device's slots are
slots-are : (two a b none first x y : Bool) → ((two && a && b) || (none && first && x && y)) ≡ true →
    ((two ≡ true) × (a ≡ true) × (b ≡ true)) ⊎ ((none ≡ true) × (first ≡ true) × (x ≡ true) × (y ≡ true))
slots-are true true true none first x y h = inl ((refl, refl, refl))
slots-are true true false true true true true h = inr ((refl, refl, refl, refl))
slots-are true false b true true true true h = inr ((refl, refl, refl, refl))
slots-are false a b true true true true h = inr ((refl, refl, refl, refl))
slots-are true true false true true true false h = absurd cc
slots-are true true false true true false y h = absurd cc
slots-are true true false true false x y h = absurd cc
slots-are true true false false first x y h = absurd cc
slots-are true false b true true true false h = absurd cc
slots-are true false b true true false y h = absurd cc
slots-are true false b true false x y h = absurd cc
slots-are true false b false first x y h = absurd cc
slots-are false a b true true true false h = absurd cc
slots-are false a b true true false y h = absurd cc
slots-are false a b true false x y h = absurd cc
slots-are false a b false first x y h = absurd cc

pub fits-lock : (dev : Dev) → IsValid dev → IsTrue (is_state dev.slots (record (kept_state dev) { locked = true }))
fits-lock dev v =
    by (slots-are (dev.slots == 2) (is_flags dev.flags.a) (is_flags dev.flags.b) (dev.slots == 0) (is_first dev.active) (is_blank dev.flags.a) (is_blank dev.flags.b) v.slots) where
      s : State
      s = record (kept_state dev) { locked = true }

      by : (((dev.slots == 2) ≡ true) × (is_flags dev.flags.a ≡ true) × (is_flags dev.flags.b ≡ true))
          ⊎ (((dev.slots == 0) ≡ true) × (is_first dev.active ≡ true) × (is_blank dev.flags.a ≡ true) × (is_blank dev.flags.b ≡ true)) → IsTrue (is_state dev.slots s)
      by (inl h) = state-fits dev.slots s refl (inl ((h.0, two-all is_flags dev.flags.a dev.flags.b h.1 h.2)))
      by (inr h) = state-fits dev.slots s refl (inr ((h.0, h.1, two-all is_blank dev.flags.a dev.flags.b h.2 h.3)))

-- why a device doesn't make a slot active
pub active-locked : (dev : Dev) → dev.locked ≡ true → active_refusal dev ≡ Some (codes "locked")
active-locked dev h = by dev.locked h where
  by : (l : Bool) → l ≡ true → first_passed ((l, codes "locked") ∷ (not (has_slots dev), codes "no slots") ∷ []) ≡ Some (codes "locked")
  by true e = refl
  by false e = absurd cc

pub active-slotless : (dev : Dev) → dev.locked ≡ false → has_slots dev ≡ false → active_refusal dev ≡ Some (codes "no slots")
active-slotless dev h k = by dev.locked (has_slots dev) h k where
  by : (l s : Bool) → l ≡ false → s ≡ false → first_passed ((l, codes "locked") ∷ (not s, codes "no slots") ∷ []) ≡ Some (codes "no slots")
  by false false e f = refl
  by true s e f = absurd cc
  by false true e f = absurd cc

pub active-taken : (dev : Dev) → dev.locked ≡ false → has_slots dev ≡ true → active_refusal dev ≡ None
active-taken dev h k = by dev.locked (has_slots dev) h k where
  by : (l s : Bool) → l ≡ false → s ≡ true → first_passed ((l, codes "locked") ∷ (not s, codes "no slots") ∷ []) ≡ None
  by false true e f = refl
  by true s e f = absurd cc
  by false false e f = absurd cc

pub lock-locked : (dev : Dev) → dev.locked ≡ true → lock_refusal dev ≡ Some (codes "already locked")
lock-locked dev h = by dev.locked h where
  by : (l : Bool) → l ≡ true → first_passed ((l, codes "already locked") ∷ []) ≡ Some (codes "already locked")
  by true e = refl
  by false e = absurd cc

pub lock-taken : (dev : Dev) → dev.locked ≡ false → lock_refusal dev ≡ None
lock-taken dev h = by dev.locked h where
  by : (l : Bool) → l ≡ false → first_passed ((l, codes "already locked") ∷ []) ≡ None
  by false e = refl
  by true e = absurd cc

-- a state that was stored makes the device that is seen
pub stored-seen : {K : Type 0} (told : K → DiskTold) (new : Held K) (done changed : Dev) → IsWhole told new → new.device ≡ changed → changed ≡ done → new.device ≡ seen (image_of told new) done
stored-seen told new done changed w e k = seen-self (image_of told new) new.device w.sound.stands ∙ ap (seen (image_of told new)) (e ∙ k)

two-is : (n : ℕ) → (n == 2) ≡ true → n ≡ 2
two-is n h = grind (arith, nat_tests)

pub fits-active-as : (slot : Slot) (dev : Dev) (was now : State) → IsValid dev → has_slots dev ≡ true → was ≡ kept_state dev → now ≡ activated_state slot was → IsTrue (is_state dev.slots now)
fits-active-as slot dev was now v h e k =
    subst (λ s. IsTrue (is_state dev.slots s)) (sym (k ∙ ap (activated_state slot) e)) (fits-active slot dev v (two-is dev.slots h))

pub fits-lock-as : (dev : Dev) (was now : State) → IsValid dev → was ≡ kept_state dev → now ≡ record was { locked = true } → IsTrue (is_state dev.slots now)
fits-lock-as dev was now v e k = subst (λ s. IsTrue (is_state dev.slots s)) (sym (k ∙ ap {A = State} {B = State} (λ s. record s { locked = true }) e)) (fits-lock dev v)

-- a command that stores a state
module _ {K : Type 0} (told : K → DiskTold) (old new : Held K) (order : Order) (refusal : Option (List ℕ)) (change : Dev → Dev)
    (is : says old.device order.loaded order.command ≡ decides refusal change old.device order.loaded) where
  on-seen : (state : State) (done : Result (Unit {0}) StoreError) → with_state state old.device ≡ change old.device → OnOk done (new.device ≡ with_state state old.device) → OnOk done (IsWhole told new) →
      OnOk done (new.device ≡ seen (image_of told new) (change old.device))
  on-seen state (Ok x) same changed whole = stored-seen told new (change old.device) (with_state state old.device) whole changed same
  on-seen state (Err e) same changed whole = tt

  never : (done : Result (Unit {0}) StoreError) → Decided told None old new done → (e : StoreError) → IsErrOf done e → (e ≡ Disk → ⊥) → new ≡ old
  never (Ok x) d e h n = absurd cc
  never (Err error) d e h n = let f : error ≡ e = cc in absurd (n (sym f ∙ d.0))

  pub state-ends : (state : State) (done : Result (Unit {0}) StoreError) → refusal ≡ None → with_state state old.device ≡ change old.device →
      (says old.device order.loaded order.command ≡ answers (Okay [] ∷ []) (change old.device) order.loaded → (t : Dev) → IsHaltedAround old.device (change old.device) t →
      HaltsBy old.device order.loaded order.command t) → IsWhole told old → is_some (image_of told old) ≡ is_some (image_of told new) → (change old.device).mode ≡ old.device.mode →
      (change old.device).max ≡ old.device.max → Decided told None old new done → OnOk done (new.device ≡ with_state state old.device) → OnOk done (IsWhole told new) →
      (IsErrOf done Disk → IsHonest (told new.disk).torn → StandsAround (image_of told new) old.device (with_state state old.device)) → Worked told old new order (ended done)
  state-ends state done e same by w alike m x d changed whole around =
      ends told old new order refusal change is None done e (λ h. absurd cc) by w alike m x d (never done d) (on-seen state done same changed whole) whole
      (λ h k. subst (StandsAround (image_of told new) old.device) same (around h k))

pub halts-active : (dev : Dev) (loaded : Loaded) (slot : Slot) → says dev loaded (SetActive slot) ≡ answers (Okay [] ∷ []) (activated slot dev) loaded → (t : Dev) → IsHaltedAround dev (activated slot dev) t →
    HaltsBy dev loaded (SetActive slot) t
halts-active dev loaded slot e t h = subst (λ d. IsHaltedAround dev d t) (sym (ap (λ s. s.device) e)) h

pub halts-lock : (dev : Dev) (loaded : Loaded) → says dev loaded Lock ≡ answers (Okay [] ∷ []) (relocked dev) loaded → (t : Dev) → IsHaltedAround dev (relocked dev) t → HaltsBy dev loaded Lock t
halts-lock dev loaded e t h = subst (λ d. IsHaltedAround dev d t) (sym (ap (λ s. s.device) e)) h

pub back-true : (b : Bool) → not b ≡ true → b ≡ false
back-true false h = refl
back-true true h = absurd cc

pub back-false : (b : Bool) → not b ≡ false → b ≡ true
back-false true h = refl
back-false false h = absurd cc
