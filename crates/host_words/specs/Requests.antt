-- What the words of fbflash ask for.
use Rattle.std.specs.Prelude.{◌≡◌, ℕ, List, Option, Some, None, option_map, option_and_then}
use Rattle.flash_plan.specs.declared.options.Options.{Options}
use Rattle.wire_told.specs.Places.{Place}
use Rattle.host_words.specs.declared.request.HostAction.{HostAction}
use Rattle.host_words.specs.declared.request.HostAction.TheVariants as action
use Rattle.host_words.specs.declared.request.HostWords.{HostWords}
use Rattle.host_words.specs.Targets.{place_of_text}

-- an installation of a folder's product, a question, or a sample
pub data Request : Type 0 where
  FlashAll : Place → List ℕ → Options → Request
  GetVar : Place → List ℕ → Request
  Sample : ℕ → Request

-- the target, where there is one
abbrev pub place_in : Request → Option Place
place_in (FlashAll place dir options) = Some place
place_in (GetVar place name) = Some place
place_in (Sample n) = None

abbrev pub target_of : Option Request → Option Place
target_of None = None
target_of (Some request) = place_in request

abbrev pub request_by : HostAction → Option Place → Options → Option Request
request_by (action.FlashAll dir) place options = option_map (λ place. FlashAll place dir options) place
request_by (action.GetVar name) place options = option_map (λ place. GetVar place name) place
request_by (action.Sample n) None options = Some (Sample n)
request_by (action.Sample n) (Some place) options = None

-- what words that were read ask for
abbrev pub request_of : HostWords → Option Request
request_of words = request_by words.action (option_and_then place_of_text words.target) words.options

-- words that were read ask for a request, and for this one
pub record Asks (words : HostWords) (asked : Option Request) : Type 0 where
  pub request : Request
  pub read : request_of words ≡ Some request
  pub is : asked ≡ Some request
