-- What words that were read ask for.
use Rattle.std.proofs.Common.{◌≡◌, ℕ, Option, Some, None, List, refl, sym, ap, ◌∙◌, subst}
use Rattle.std.specs.Prelude.{option_and_then, option_map}
use Rattle.wire_told.specs.Places.{Place}
use Rattle.host_words.specs.declared.request.HostAction.TheVariants as action
use Rattle.host_words.specs.declared.request.HostWords.{HostWords}
use Rattle.host_words.specs.Requests.{Request, FlashAll, GetVar, request_by, request_of}
use Rattle.host_words.specs.Targets.{place_of_text}

pub flash-read : (words : HostWords) (text path : List ℕ) (place : Place) → words.target ≡ Some text → words.action ≡ action.FlashAll path → place_of_text text ≡ Some place →
    request_of words ≡ Some (FlashAll place path words.options)
flash-read words text path place t a p =
    ap (λ x. request_by x (option_and_then place_of_text words.target) words.options) a
    ∙ (ap (λ x. option_map (λ y. FlashAll y path words.options) (option_and_then place_of_text x)) t
    ∙ ap (λ x. option_map (λ y. FlashAll y path words.options) x) p)

pub question-read : (words : HostWords) (text name : List ℕ) (place : Place) → words.target ≡ Some text → words.action ≡ action.GetVar name → place_of_text text ≡ Some place →
    request_of words ≡ Some (GetVar place name)
question-read words text name place t a p =
    ap (λ x. request_by x (option_and_then place_of_text words.target) words.options) a
    ∙ (ap (λ x. option_map (λ y. GetVar y name) (option_and_then place_of_text x)) t
    ∙ ap (λ x. option_map (λ y. GetVar y name) x) p)

some-same : (a b : Request) → Some a ≡ Some b → a ≡ b
some-same a b e = ap (λ x. of x) e where
  of : Option Request → Request
  of None = a
  of (Some x) = x

-- a fact of the request that words ask for, of each request that they do
pub of-read : (words : HostWords) (asked : Request) (P : Request → Type 0) → request_of words ≡ Some asked → P asked → (request : Request) → request_of words ≡ Some request → P request
of-read words asked P r p request e = subst P (some-same asked request (sym r ∙ e)) p
