-- What follows of a status, as a table by the status.
use Rattle.std.proofs.Common.{◌≡◌, ◌⊎◌, inl, inr, ℕ, zero, suc, ◌≤◌, false, Option, None, subst, arith}
use Rattle.host_driver.specs.Driving.{moved, FolderFailed, OutputFailed}
use Rattle.host_driver.specs.Jobs.{Outside}
use Rattle.host_words.specs.Requests.{Request, target_of}
use Rattle.host_top.specs.Ending.{IsSamePort}
use Rattle.host_top.specs.Hosted.{Follows, Leaves, Installs, Wires, Refuses, Spends, Strays, IsStill, TurnsTo, Halts, IsAimedAt}
use Rattle.host_top.specs.Subjects.{IsRefused, IsElsewhere, KeepsBeside}

module _ (request : Option Request) (old new : Outside) where
  abbrev Turned : Type 0
  Turned = TurnsTo (target_of request) old new

  abbrev Still : Type 0
  Still = IsStill (target_of request) old new

  -- from status 8 on
  abbrev Says-8 : ℕ → Type 0
  Says-8 zero = (new.port.peer ≡ None) × Turned
  Says-8 (suc zero) = OutputFailed (moved old new)
  Says-8 (suc (suc zero)) = Turned × Still
  Says-8 (suc (suc (suc zero))) = Strays (target_of request) old new
  Says-8 (suc (suc (suc (suc n)))) = ⊥

  -- from status 4 on
  abbrev Says-4 : ℕ → Type 0
  Says-4 zero = IsSamePort old.port new.port
  Says-4 (suc zero) = Turned × Still
  Says-4 (suc (suc zero)) = Spends request old new
  Says-4 (suc (suc (suc zero))) = Refuses request old new × Turned
  Says-4 (suc (suc (suc (suc n)))) = Says-8 n

  -- of every status
  abbrev pub Says : ℕ → Type 0
  Says zero = Installs request old new × Wires request old new × Turned
  Says (suc zero) = IsRefused request × IsSamePort old.port new.port
  Says (suc (suc zero)) = Unit {0}
  Says (suc (suc (suc zero))) =
      (FolderFailed (moved old new) ⊎ IsElsewhere request old.folder.path) × (new.folder.entered ≡ false → IsSamePort old.port new.port)
  Says (suc (suc (suc (suc n)))) = Says-4 n

  low-8 : (n : ℕ) → Says-8 n → n ≤ 3
  low-8 zero s = omega arith
  low-8 (suc zero) s = omega arith
  low-8 (suc (suc zero)) s = omega arith
  low-8 (suc (suc (suc zero))) s = omega arith
  low-8 (suc (suc (suc (suc n)))) s = absurd s

  low-4 : (n : ℕ) → Says-4 n → n ≤ 7
  low-4 zero s = omega arith
  low-4 (suc zero) s = omega arith
  low-4 (suc (suc zero)) s = omega arith
  low-4 (suc (suc (suc zero))) s = omega arith
  low-4 (suc (suc (suc (suc n)))) s = let h = low-8 n s in omega (arith, h)

  low : (n : ℕ) → Says n → n ≤ 11
  low zero s = omega arith
  low (suc zero) s = omega arith
  low (suc (suc zero)) s = omega arith
  low (suc (suc (suc zero))) s = omega arith
  low (suc (suc (suc (suc n)))) s = let h = low-4 n s in omega (arith, h)

  module _ (status : ℕ) (s : Says status) where
    says-at : (k : ℕ) → status ≡ k → Says k
    says-at k e = subst Says e s

    untouched-by : (status ≡ 1) ⊎ (status ≡ 4) ⊎ ((status ≡ 3) × (new.folder.entered ≡ false)) → IsSamePort old.port new.port
    untouched-by (inl e) = (says-at 1 e).1
    untouched-by (inr (inl e)) = says-at 4 e
    untouched-by (inr (inr e)) = (says-at 3 e.0).1 e.1

    turned-by : IsAimedAt status → Turned
    turned-by (inl e) = (says-at 0 e).2
    turned-by (inr (inl e)) = (says-at 5 e).0
    turned-by (inr (inr (inl e))) = (says-at 7 e).1
    turned-by (inr (inr (inr (inl e)))) = (says-at 8 e).1
    turned-by (inr (inr (inr (inr e)))) = (says-at 10 e).0

    unplanned-by : (status ≡ 5) ⊎ (status ≡ 10) → Still
    unplanned-by (inl e) = (says-at 5 e).1
    unplanned-by (inr e) = (says-at 10 e).1

    pub follows-from : Leaves request old new status → KeepsBeside (target_of request) old.port.stands new.port.stands → Halts old new → Follows request old new status
    follows-from left beside halted = record {
      success = λ e. (says-at 0 e).0;
      left = left;
      refuses = λ e. (says-at 7 e).0;
      spent = λ e. says-at 6 e;
      peer = λ e. (says-at 8 e).0;
      directory = λ e. (says-at 3 e).0;
      output = λ e. says-at 9 e;
      usage = λ e. (says-at 1 e).0;
      untouched = untouched-by;
      astray = λ e. says-at 11 e;
      turned = turned-by;
      unplanned = unplanned-by;
      beside = beside;
      wired = λ e. (says-at 0 e).1;
      halted = halted;
      bounded = low status s;
    }
