-- What an installation over a told device leaves, and how an attempt stands to the plan.
use Rattle.std.specs.Prelude.{◌≡◌, ◌⊎◌, ℕ, ◌+◌, ◌-◌, ◌^◌, ◌<◌, ◌≤◌, min, Bool, false, ◌||◌}
use Rattle.std.specs.Prelude.{List, [], ◌∷◌, ◌++◌, length, take, All, Option, Some, None, Result, Ok, Err, IsTrue, IsFalse}
use Rattle.std.specs.Prelude.{slice_get}
use Rattle.std.specs.Prelude.{codes, flat_map, if◌then◌else◌}
use Rattle.std.specs.List.{list_any}
use Rattle.fb_frame.specs.Causes.{Rose}
use Rattle.dev_model.specs.declared.device.Dev.{Dev}
use Rattle.dev_model.specs.declared.device.Mode.TheVariants.{Halted}
use Rattle.dev_model.specs.declared.step.Step.{Step}
use Rattle.dev_model.specs.Attempts.{Chain}
use Rattle.dev_model.specs.Partitions.{is_fastboot}
use Rattle.dev_model.specs.Refusals.{refusal_of}
use Rattle.dev_model.specs.Steps.{run, leaves}
use Rattle.dev_model.specs.Variables.{asked}
use Rattle.product_info.specs.declared.requirement.Requirement.{Requirement}
use Rattle.flash_plan.specs.declared.plan.Order.TheVariants.{Put}
use Rattle.flash_plan.specs.declared.plan.PlanKind.{PlanKind}
use Rattle.flash_plan.specs.Facts.{facts_of}
use Rattle.flash_plan.specs.Moves.{PlanFault}
use Rattle.flash_plan.specs.Orders.{orders}
use Rattle.flash_plan.specs.Plans.{plan_of, work_of}
use Rattle.flash_plan.specs.Products.{image_file}
use Rattle.flash_plan.specs.Requiring.{holds_all, first_unmet, variable_of}
use Rattle.flash_plan.specs.declared.plan.Order.{Order as PlanOrder}
use Rattle.host_driver.specs.declared.drive.Done.{Done}
use Rattle.host_driver.specs.Jobs.{Job, last_in}

-- the requirements are met, or aren't asked for
abbrev pub is_met : Job → Bool
is_met j = j.options.force || holds_all j.product.requirements j.device

-- the plan over the device, or the first line of which none is made
abbrev pub planned : Job → Result (List Step) PlanFault
planned j = plan_of j.files j.product j.options j.device

-- a plan, where there is one and the requirements are met
abbrev pub made_of : Bool → Result (List Step) PlanFault → Option (List Step)
made_of met (Err fault) = None
made_of met (Ok plan) = if met then Some plan else None

-- The plan that an installation makes: none where a requirement isn't met.
abbrev pub made : Job → Option (List Step)
made j = made_of (is_met j) (planned j)

-- What attempts leave of which these numbers of steps were acknowledged: the chain of the plan, and the
-- device as it was where no plan is made or nothing was begun.
abbrev pub LeavesBy : Option (List Step) → Dev → List ℕ → Dev → Type 0
LeavesBy plan s [] t = t ≡ s
LeavesBy None s (n ∷ numbers) t = All (λ k. k ≡ 0) (n ∷ numbers) × (t ≡ s)
LeavesBy (Some plan) s (n ∷ numbers) t = Chain plan s (n ∷ numbers) t

-- The plan is made, its run is defined, and the device after is that run; the last attempt acknowledged each
-- step.
pub record Succeeds (j : Job) (numbers : List ℕ) (done : Done) (t : Dev) : Type 0 where
  pub plan : List Step
  pub made_so : made j ≡ Some plan
  pub runs : run plan j.device ≡ Some t
  pub count : done.steps ≡ length plan
  pub last : last_in numbers ≡ Some done.steps

-- what earlier attempts left, with which a later one began
abbrev pub Reached : List Step → Dev → List ℕ → Dev → Type 0
Reached plan s [] u = u ≡ s
Reached plan s (n ∷ earlier) u = Chain plan s (n ∷ earlier) u × IsTrue (is_fastboot u.mode)

-- The last attempt took exactly the steps that were acknowledged in it.
pub record IsAt (plan : List Step) (s : Dev) (numbers : List ℕ) (t : Dev) : Type 0 where
  pub earlier : List ℕ
  pub last : ℕ
  pub split : numbers ≡ earlier ++ last ∷ []
  pub start : Dev
  pub reached : Reached plan s earlier start
  pub taken : run (take last plan) start ≡ Some t

-- And the device refuses the next one with this text.
pub record IsRefused (plan : List Step) (s : Dev) (numbers : List ℕ) (text : List ℕ) (t : Dev) : Type 0 where
  pub place : IsAt plan s numbers t
  pub step : Step
  pub next : slice_get plan place.last ≡ Some step
  pub refusal : refusal_of step t ≡ Some text
  pub serves : IsTrue (is_fastboot t.mode)

-- a told device refuses no question, so that a plan was made
abbrev pub RefusedBy : Option (List Step) → Dev → List ℕ → List ℕ → Dev → Type 0
RefusedBy None s numbers text t = ⊥
RefusedBy (Some plan) s numbers text t = IsRefused plan s numbers text t

-- a disk call failed in this call: the device says so and halted
abbrev pub IsHaltedNow : ℕ → ℕ → List ℕ → Dev → Type 0
IsHaltedNow before now text t = Rose before now × (text ≡ codes "disk fault") × (t.mode ≡ Halted)

-- The device doesn't meet this line, which is the first, and is as it was.
pub record IsUnmet (j : Job) (line : ℕ) (name : List ℕ) (value : Option (List ℕ)) (t : Dev) : Type 0 where
  pub asked_for : j.options.force ≡ false
  pub requirement : Requirement
  pub first : first_unmet j.product.requirements j.device ≡ Some requirement
  pub line_is : line ≡ requirement.line
  pub name_is : name ≡ requirement.name
  pub value_is : value ≡ asked j.device (variable_of requirement)
  pub same : t ≡ j.device

-- No plan is made over the device, which meets the requirements and is as it was.
pub record IsUnplanned (j : Job) (line : ℕ) (kind : PlanKind) (t : Dev) : Type 0 where
  pub unplanned : planned j ≡ Err (line, kind)
  pub met : IsTrue (is_met j)
  pub same : t ≡ j.device

-- The next step of the last attempt puts an image, and this is its file.
pub record PutsNext (j : Job) (numbers : List ℕ) (file : List ℕ) : Type 0 where
  pub plan : List PlanOrder
  pub planned : orders (work_of j.product) j.options (facts_of j.device) ≡ Ok plan
  pub last : ℕ
  pub last_is : last_in numbers ≡ Some last
  pub name : List ℕ
  pub place : ℕ
  pub next : slice_get plan last ≡ Some (Put name place)
  pub file_is : slice_get (flat_map image_file j.product.tasks) place ≡ Some file

-- the count rose by at least so many, or stands at its end
abbrev pub RoseBy : ℕ → ℕ → ℕ → Type 0
RoseBy times before now = min (before + times) (2 ^ 64 - 1) ≤ now

-- No connection can begin any more: the device left fastboot or halted after a fault, or it didn't run
-- fastboot at first.
abbrev pub IsUnmeetable : Type 0 → Dev → Dev → Type 0
IsUnmeetable broke s t = (broke ⊎ IsFalse (is_fastboot s.mode)) × IsFalse (is_fastboot t.mode)

-- so many attempts failed, each by a fault, or no later one could begin
abbrev pub Spent : ℕ → ℕ → ℕ → Dev → Dev → Type 0
Spent before now attempts s t = RoseBy attempts before now ⊎ IsUnmeetable (Rose before now) s t

-- where a step of the plan leaves fastboot, no attempt took them all
abbrev pub IsUndone : Option (List Step) → List ℕ → Type 0
IsUndone None numbers = Unit {0}
IsUndone (Some plan) numbers = IsTrue (list_any leaves plan) → All (λ n. n < length plan) numbers
