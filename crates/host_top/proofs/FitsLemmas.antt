-- What words hold to that ask for something.
use Rattle.std.proofs.Common.{◌≡◌, ℕ, ◌≤◌, Bool, true, false, ◌&&◌, Option, Some, None, List, [], ◌∷◌, length, refl, sym, ap, subst, arith, nat_le}
use Rattle.std.specs.Prelude.{option_and_then, option_map, if◌then◌else◌, bytes_eq, codes}
use Rattle.clap.specs.Words.{Row, Kinds, first_of, fault_of, matches_of}
use Rattle.flash_plan.specs.declared.options.Options.{Options}
use Rattle.flash_plan.specs.declared.options.SlotChoice.{SlotChoice}
use Rattle.wire_told.specs.Places.{Place}
use Rattle.word_rules.specs.Rules.{number_or, number_in, unless_faulty, has_flag, lacks}
use Rattle.fb_frame.specs.Numbers.{read_dec}
use Rattle.host_words.specs.Requests.{Request, FlashAll, GetVar, Sample}
use Rattle.host_words.specs.Words.{host_command, host_words, request_among, request_in, action_of, flash_of, question_of, sample_of, options_by, options_of, slot_by, place_among, has_no_options}
use Rattle.host_top.specs.Acts.{Fits}

of-some : {X : Type 0} → X → Option X → X
of-some x None = x
of-some x (Some y) = y

same : {X : Type 0} (a b : X) → Some a ≡ Some b → a ≡ b
unfolding of-some
same a b e = ap (of-some a) e

some-none : {X : Type 0} (a : X) → None ≡ Some a → ⊥
some-none a e = absurd cc

-- a number of at most nine
bounded : (b : Bool) (k n : ℕ) → (b ≡ true → k ≤ 9) → (if b then Some k else None) ≡ Some n → n ≤ 9
bounded true k n f e = subst (λ x. x ≤ 9) (same k n e) (f refl)
bounded false k n f e = absurd (some-none n e)

at-most : (k : ℕ) → (nat_le 0 k && nat_le k 9) ≡ true → k ≤ 9
at-most k e = grind (arith, e)

number-fits : (found : Option ℕ) (n : ℕ) → option_and_then (λ k. if nat_le 0 k && nat_le k 9 then Some k else None) found ≡ Some n → n ≤ 9
number-fits None n e = absurd (some-none n e)
number-fits (Some k) n e = bounded (nat_le 0 k && nat_le k 9) k n (at-most k) e

retries-fit : (text : Option (List ℕ)) (n : ℕ) → number_or 0 0 9 text ≡ Some n → n ≤ 9
retries-fit None n e = subst (λ x. x ≤ 9) (same 0 n e) (omega arith)
retries-fit (Some text) n e = number-fits (read_dec text) n e

options-fit : (rows : List Row) (slot : Option SlotChoice) (retries : Option ℕ) (options : Options) → ((n : ℕ) → retries ≡ Some n → n ≤ 9) → options_by rows slot retries ≡ Some options → options.retries ≤ 9
options-fit rows None retries options f e = absurd (some-none options e)
options-fit rows (Some slot) None options f e = absurd (some-none options e)
options-fit rows (Some slot) (Some retries) options f e =
    subst (λ o. o.retries ≤ 9) (same (record { slot = slot; wipe = has_flag (codes "wipe") rows; skip_reboot = has_flag (codes "skip-reboot") rows; force = has_flag (codes "force") rows; retries = retries }) options e) (f retries refl)

-- each request that is asked for fits
abbrev AllFit : Option Request → Type 0
AllFit asked = (request : Request) → asked ≡ Some request → Fits request

none-fits : AllFit None
none-fits request e = absurd (some-none request e)

some-fits : (asked : Request) → Fits asked → AllFit (Some asked)
some-fits asked f request e = subst Fits (same asked request e) f

if-fits : (b : Bool) (x y : Option Request) → (b ≡ true → AllFit x) → AllFit y → AllFit (if b then x else y)
if-fits true x y f g = f refl
if-fits false x y f g = g

flash-fits : (place : Option Place) (dir : List ℕ) (options : Option Options) → ((o : Options) → options ≡ Some o → o.retries ≤ 9) → AllFit (flash_of place dir options)
flash-fits None dir options f = none-fits
flash-fits (Some place) dir None f = none-fits
flash-fits (Some place) dir (Some options) f = some-fits (FlashAll place dir options) (f options refl)

short : (bare : Bool) (name : List ℕ) → (bare && nat_le (length name) 4089) ≡ true → length name ≤ 4089
short true name e = grind (arith, e)
short false name e = absurd cc

question-fits : (place : Option Place) (name : List ℕ) (bare : Bool) → AllFit (question_of place name bare)
question-fits None name bare = none-fits
question-fits (Some place) name bare =
    if-fits (bare && nat_le (length name) 4089) (Some (GetVar place name)) None (λ e. some-fits (GetVar place name) (short bare name e)) none-fits

sample-fits : (number : Option ℕ) → AllFit (option_map Sample number)
sample-fits None = none-fits
sample-fits (Some n) = some-fits (Sample n) tt

action-fits : (rows : List Row) (action subject : List ℕ) → AllFit (action_of rows action subject)
action-fits rows action subject =
    if-fits (bytes_eq action (codes "flashall")) _ _
    (λ e. flash-fits (place_among rows) subject (options_of rows) (λ o h. options-fit rows (slot_by (first_of (codes "slot") rows)) (number_or 0 0 9 (first_of (codes "retries") rows)) o (retries-fit (first_of (codes "retries") rows)) h))
    (if-fits (bytes_eq action (codes "getvar")) _ _
    (λ e. question-fits (place_among rows) subject (has_no_options rows))
    (if-fits (bytes_eq action (codes "sample")) _ _
    (λ e. if-fits (lacks (codes "target") rows && has_no_options rows) (option_map Sample (number_in 0 4294967295 subject)) None (λ h. sample-fits (number_in 0 4294967295 subject)) none-fits) none-fits))

request-fits : (rows : List Row) (action subject : Option (List ℕ)) → AllFit (request_in rows action subject)
request-fits rows None subject = none-fits
request-fits rows (Some action) None = none-fits
request-fits rows (Some action) (Some subject) = action-fits rows action subject

faultless-fits : (kinds : Kinds) (asked : Option Request) → AllFit asked → AllFit (unless_faulty kinds asked)
faultless-fits [] asked f = f
faultless-fits (kind ∷ kinds) asked f = none-fits

pub words-fit : (words : List (List ℕ)) (request : Request) → host_words words ≡ Some request → Fits request
unfolding host_words
words-fit words =
    let rows = matches_of host_command words in
    faultless-fits (fault_of host_command words) (request_among rows) (request-fits rows (first_of (codes "action") rows) (first_of (codes "subject") rows))
