-- A command with several replies.
use Rattle.std.proofs.Common.{◌≡◌, List, [], ◌∷◌, refl}
use Rattle.fb_message.specs.declared.reply.Reply.{Reply}
use Rattle.fb_message.specs.declared.reply.Reply.TheVariants.{Okay, Fail, Info, Text, Load}
use Rattle.wire_model.specs.Wire.{Wire, awaited}
use Rattle.wire_told.specs.Told.{StartsPlain}

pub awaited-plain : (replies : List Reply) (w : Wire) → StartsPlain replies → awaited replies w ≡ w
awaited-plain [] w s = refl
awaited-plain (Load count ∷ replies) w s = absurd s
awaited-plain (Okay text ∷ replies) w s = refl
awaited-plain (Fail text ∷ replies) w s = refl
awaited-plain (Info text ∷ replies) w s = refl
awaited-plain (Text text ∷ replies) w s = refl
