-- The last line is put in parts.
use Rattle.std.proofs.Common.{◌≡◌, refl, ℕ, List, [], ◌∷◌, ◌++◌, Option, subst}
use Rattle.fb_frame.specs.Sinks.{Grew, GrewPart}
use Rattle.host_top.specs.LineParts.{lead_of, said_of}
use Rattle.host_top.specs.Verdicts.{Verdict, Usage, NoMemory, NoFolder, Flawed, NoLink, NoDevice, Unmet, NoPlan}
use Rattle.host_top.specs.Verdicts.{Refusing, NoPeer, TooManyLines, Done, Told, last_line}

-- a line is its lead, what it says, and a line feed
pub line-parts : (v : Verdict) → lead_of v ++ said_of v ++ 10 ∷ [] ≡ last_line v
line-parts Usage = refl
line-parts NoMemory = refl
line-parts (NoFolder name) = refl
line-parts (Flawed file flaw) = refl
line-parts NoLink = refl
line-parts (NoDevice kind) = refl
line-parts (Unmet line name value) = refl
line-parts (NoPlan line kind) = refl
line-parts (Refusing text) = refl
line-parts (NoPeer kept) = refl
line-parts TooManyLines = refl
line-parts (Done steps) = refl
line-parts (Told text) = refl

pub Grew-line : (a b : Option (List ℕ)) (v : Verdict) → Grew a b (lead_of v ++ said_of v ++ 10 ∷ []) → Grew a b (last_line v)
Grew-line a b v g = subst (Grew a b) (line-parts v) g

pub GrewPart-line : (a b : Option (List ℕ)) (v : Verdict) → GrewPart a b (lead_of v ++ said_of v ++ 10 ∷ []) → GrewPart a b (last_line v)
GrewPart-line a b v g = subst (GrewPart a b) (line-parts v) g

pub ruleset line_parts = (Grew-line, GrewPart-line)
