-- What attempts leave, one after another.
use Rattle.std.proofs.Common.{◌≡◌, ℕ, true, false, List, [], ◌∷◌, ◌++◌, All, refl, sym, subst, arith}
use Rattle.std.proofs.lemmas.List.Elements.{recursion_from_All, All-from_recursion}
use Rattle.std.specs.List.{AllByRecursion}
use Rattle.dev_model.specs.declared.device.Dev.{Dev}
use Rattle.dev_model.specs.declared.step.Step.{Step}
use Rattle.dev_model.specs.Attempts.{LeftBehind, Chain, is_halted}
use Rattle.dev_model.specs.Partitions.{is_fastboot}
use Rattle.dev_model.proofs.LeavingLemmas.{left_taken, left_serving, chain_next, chain_unmet, in-first}
use Rattle.host_driver.specs.Leaving.{LeavesMore, LeavesUnmet, LeavesBefore, LeavesUnplanned}
use Rattle.host_driver.proofs.HaltLemmas.{running}

-- an attempt that took nothing
left-nothing : (plan : List Step) (s : Dev) → is_halted s.mode ≡ false → LeftBehind plan s 0 s
left-nothing plan s h = left_serving plan s s 0 (left_taken plan s s 0 (omega arith) refl) h

pub leaves_more : LeavesMore
leaves_more plan s t u [] a l f b = subst (λ d. LeftBehind plan d a u) l b
leaves_more plan s t u (n ∷ numbers) a l f b = chain_next plan s t u (n ∷ numbers) a l f b

pub leaves_unmet : LeavesUnmet
leaves_unmet plan s t [] l f h = subst (λ d. LeftBehind plan s 0 d) (sym l) (left-nothing plan s h)
leaves_unmet plan s t (n ∷ numbers) l f h = chain_unmet plan s t (n ∷ numbers) l f

zeros-chain : (plan : List Step) (s t : Dev) (n : ℕ) (numbers : List ℕ) → AllByRecursion (λ k. k ≡ 0) (n ∷ numbers) → t ≡ s → is_fastboot s.mode ≡ true → Chain plan s (n ∷ numbers) t
zeros-chain plan s t n [] z e f =
    subst (λ d. LeftBehind plan s n d) (sym e) (subst (λ k. LeftBehind plan s k s) (sym z.0) (left-nothing plan s (running s.mode f)))
zeros-chain plan s t n (m ∷ numbers) z e f = (
  s,
  subst (λ k. LeftBehind plan s k s) (sym z.0) (left-nothing plan s (running s.mode f)),
  in-first (is_fastboot s.mode) (Chain plan s (m ∷ numbers) t) (All (λ k. k ≡ 0) (m ∷ numbers) × (t ≡ s)) f (zeros-chain plan s t m numbers z.1 e f),
)

pub leaves_before : LeavesBefore
leaves_before plan s t [] l f = l
leaves_before plan s t (n ∷ numbers) l f = zeros-chain plan s t n numbers (recursion_from_All (λ k. k ≡ 0) (n ∷ numbers) l.0) l.1 f

zero-more : (numbers : List ℕ) → AllByRecursion (λ k. k ≡ 0) numbers → AllByRecursion (λ k. k ≡ 0) (numbers ++ 0 ∷ [])
zero-more [] z = (refl, tt)
zero-more (n ∷ numbers) z = (z.0, zero-more numbers z.1)

pub leaves_unplanned : LeavesUnplanned
leaves_unplanned s t [] l = (All-from_recursion (λ k. k ≡ 0) (0 ∷ []) (refl, tt), l)
leaves_unplanned s t (n ∷ numbers) l =
    (All-from_recursion (λ k. k ≡ 0) (n ∷ numbers ++ 0 ∷ []) (zero-more (n ∷ numbers) (recursion_from_All (λ k. k ≡ 0) (n ∷ numbers) l.0)), l.1)
