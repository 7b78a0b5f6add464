-- The end of a call gives all that a call comes to.
use Rattle.std.proofs.Common.{inl, inr, ℕ, Option, Some, None, List}
use Rattle.wire_told.specs.Places.{Place}
use Rattle.flash_plan.specs.declared.options.Options.{Options}
use Rattle.host_driver.specs.Jobs.{Outside}
use Rattle.host_words.specs.Requests.{Request, FlashAll, GetVar, Sample}
use Rattle.host_top.specs.Ending.{Ends}
use Rattle.host_top.specs.Hosted.{Follows, Lasts, Hosted}
use Rattle.host_top.proofs.CompletingLemmas.{reports-complete}
use Rattle.host_top.proofs.EarlyLemmas.{unused-follows, flash-unaimed, question-unaimed}
use Rattle.host_top.proofs.QuestionLemmas.{question-follows}
use Rattle.host_top.proofs.LeftLemmas.{led-follows}
use Rattle.host_top.proofs.ReportEndLemmas.{ends-report}

flash-ends : (place : Place) (dir : List ℕ) (options : Options) (old new : Outside) (status : ℕ) → Ends (Some (FlashAll place dir options)) old new status → Follows (Some (FlashAll place dir options)) old new status
flash-ends place dir options old new status (inl u) = unused-follows (Some (FlashAll place dir options)) old new status (λ s. inl s) u
flash-ends place dir options old new status (inr (product, opened, inl u)) = flash-unaimed place dir options old new status u
flash-ends place dir options old new status (inr (product, opened, inr l)) = led-follows place dir options product old new status opened l

question-ends : (place : Place) (name : List ℕ) (old new : Outside) (status : ℕ) → Ends (Some (GetVar place name)) old new status → Follows (Some (GetVar place name)) old new status
question-ends place name old new status (inl u) = unused-follows (Some (GetVar place name)) old new status (λ s. inl s) u
question-ends place name old new status (inr (inl u)) = question-unaimed place name old new status u
question-ends place name old new status (inr (inr q)) = question-follows place name old new status q

ends-follow : (request : Option Request) (old new : Outside) (status : ℕ) → Ends request old new status → Follows request old new status
ends-follow None old new status u = unused-follows None old new status (λ s. s) u
ends-follow (Some (FlashAll place dir options)) old new status e = flash-ends place dir options old new status e
ends-follow (Some (GetVar place name)) old new status e = question-ends place name old new status e
ends-follow (Some (Sample n)) old new status u = unused-follows (Some (Sample n)) old new status (λ s. s) u

pub hosted : (request : Option Request) (old new : Outside) (status : ℕ) → Ends request old new status → Lasts old new → Hosted request old new status
hosted request old new status e l = record { ends = e; lasts = l; follows = ends-follow request old new status e; reported = ends-report request old new status e; completed = reports-complete request old new status (ends-report request old new status e) }
