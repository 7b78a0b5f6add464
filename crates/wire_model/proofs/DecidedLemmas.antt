-- What is answered where a command is refused, and where it is taken.
use Rattle.std.proofs.Common.{◌≡◌, ℕ, List, [], ◌∷◌, Option, Some, None, ap, sym, ◌∙◌}
use Rattle.std.specs.Prelude.{option_map}
use Rattle.fb_message.specs.declared.reply.Reply.TheVariants.{Okay, Fail}
use Rattle.dev_model.specs.declared.device.Dev.{Dev}
use Rattle.dev_model.specs.declared.refusal.Refusal.{Refusal}
use Rattle.dev_model.specs.RefusalTexts.{text_of}
use Rattle.wire_model.specs.declared.answer.Answer.{Answer}
use Rattle.wire_model.specs.Answers.{answer_of}
use Rattle.wire_model.specs.Says.{Loaded, answers, decides}

-- the command is refused
pub refuses : (o : Option (List ℕ)) (r : Option Refusal) (x : Refusal) (change : Dev → Dev) (dev : Dev) (loaded : Loaded) (a : Answer) →
    option_map text_of r ≡ o → r ≡ Some x → a ≡ answer_of (answers (Fail (text_of x) ∷ []) dev loaded) → a ≡ answer_of (decides o change dev loaded)
refuses o r x change dev loaded a e f g =
    g ∙ ap (λ p. answer_of (decides p change dev loaded)) (sym (ap (option_map text_of) f) ∙ e)

-- the command is taken
pub takes : (o : Option (List ℕ)) (r : Option Refusal) (change : Dev → Dev) (dev t : Dev) (loaded : Loaded) (a : Answer) →
    option_map text_of r ≡ o → r ≡ None → t ≡ change dev → a ≡ answer_of (answers (Okay [] ∷ []) t loaded) → a ≡ answer_of (decides o change dev loaded)
takes o r change dev t loaded a e f h g =
    g ∙ ap (λ u. answer_of (answers (Okay [] ∷ []) u loaded)) h ∙ ap (λ p. answer_of (decides p change dev loaded)) (sym (ap (option_map text_of) f) ∙ e)

pub ruleset decided = (refuses, takes)
