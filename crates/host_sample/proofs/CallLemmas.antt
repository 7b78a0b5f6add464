-- A call by whether the words ask for a sample.
use Rattle.std.proofs.Common.{rules, ◌≡◌, ℕ, List, Option, Some, None, sym, ap, subst, ◌∙◌}
use Rattle.wire_told.specs.Places.{Place}
use Rattle.wire_told.specs.Ports.{PortTold}
use Rattle.flash_plan.specs.declared.options.Options.{Options}
use Rattle.host_driver.specs.Jobs.{Outside, Folder, outside}
use Rattle.host_words.specs.declared.request.HostWords.{HostWords}
use Rattle.host_words.specs.declared.request.HostAction.TheVariants as action
use Rattle.std.specs.Prelude.{option_and_then}
use Rattle.host_words.specs.Targets.{place_of_text}
use Rattle.host_words.specs.Requests.{Request, FlashAll, GetVar, Sample, Asks, request_by}
use Rattle.host_top.specs.Hosted.{Hosted}
use Rattle.host_sample.specs.Samples.{IsSampled}
use Rattle.host_sample.specs.Calls.{Comes}

by-place : (n : ℕ) (place : Option Place) (options : Options) (request : Request) → request_by (action.Sample n) place options ≡ Some request → request ≡ Sample n
by-place n None options request e = cc
by-place n (Some place) options request e = absurd cc

-- words whose action is a sample ask for it
pub sample-asked : (words : HostWords) (n : ℕ) (asked : Option Request) → words.action ≡ action.Sample n → Asks words asked → asked ≡ Some (Sample n)
sample-asked words n asked e a =
    let place = option_and_then place_of_text words.target in
    let read = ap (λ act. request_by act place words.options) (sym e) ∙ a.read in
    a.is ∙ ap Some (by-place n place words.options a.request read)

pub hosted-comes : (request : Option Request) (old new : Outside) (status : ℕ) → Hosted request old new status → Comes request old new status
hosted-comes None old new status h = h
hosted-comes (Some (FlashAll place dir options)) old new status h = h
hosted-comes (Some (GetVar place name)) old new status h = h
hosted-comes (Some (Sample n)) old new status h = record { sampled = λ zero. absurd (h.follows.success zero); port = h.follows.left }

pub drawn-comes : (request : Option Request) (n : ℕ) (port : PortTold) (before after : Folder) (text now : Option (List ℕ)) (unput more status : ℕ) → request ≡ Some (Sample n) → (status ≡ 0 → IsSampled n text now)
    → Comes request (outside port before text unput) (outside port after now more) status
drawn-comes request n port before after text now unput more status e s =
    subst (λ request. Comes request (outside port before text unput) (outside port after now more) status) (sym e)
    (record { sampled = s; port = search rules })
