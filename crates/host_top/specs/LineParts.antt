-- The last line in parts, and what it tells of the program's values.
use Rattle.std.specs.Prelude.{ℕ, List, [], ◌++◌, take, option_map, codes, decimal}
use Rattle.hex.specs.Hex.{encode_lower}
use Rattle.fb_frame.specs.Shown.{shown}
use Rattle.fb_link.specs.declared.port.AimError.{AimError}
use Rattle.fb_link.specs.declared.port.AimError.TheVariants as astray
use Rattle.word_rules.specs.declared.error.WordsError.{WordsError}
use Rattle.word_rules.specs.declared.error.WordsError.TheVariants as words
use Rattle.host_top.specs.declared.verdict.Verdict.{Verdict as Code}
use Rattle.host_top.specs.declared.verdict.Verdict.TheVariants as code
use Rattle.host_top.specs.Verdicts.{Verdict, Usage, NoMemory, NoFolder, Flawed, NoLink, NoDevice, Unmet}
use Rattle.host_top.specs.Verdicts.{NoPlan}
use Rattle.host_top.specs.Verdicts.{Refusing, NoPeer, TooManyLines, Done, Told}
use Rattle.host_top.specs.Verdicts.{image_text, kind_text, flaw_text, value_text}

-- what a program's value tells
abbrev pub verdict_in : Code → Verdict
verdict_in code.Usage = Usage
verdict_in code.NoMemory = NoMemory
verdict_in (code.NoFolder name) = NoFolder name.now
verdict_in (code.Flawed file flaw) = Flawed file.now flaw
verdict_in code.NoLink = NoLink
verdict_in (code.NoDevice kind) = NoDevice kind
verdict_in (code.Unmet line name value) = Unmet line name.now (option_map (λ text. text.now) value)
verdict_in (code.NoPlan line kind) = NoPlan line kind
verdict_in (code.Refusing text) = Refusing text.now
verdict_in (code.NoPeer kept) = NoPeer kept.now
verdict_in code.TooManyLines = TooManyLines
verdict_in (code.Done steps) = Done steps
verdict_in (code.Told text) = Told text.now

-- the word before what an error's line says; other lines have none
abbrev pub lead_of : Verdict → List ℕ
lead_of (Done steps) = []
lead_of (Told text) = []
lead_of _ = codes "error "

-- what a line says, without that word and the line feed
abbrev pub said_of : Verdict → List ℕ
said_of Usage = codes "usage"
said_of NoMemory = codes "memory"
said_of (NoFolder name) = codes "directory " ++ shown name
said_of (Flawed file flaw) = codes "product " ++ shown file ++ codes " " ++ flaw_text flaw
said_of NoLink = codes "link"
said_of (NoDevice kind) = codes "device " ++ image_text kind
said_of (Unmet line name value) =
    codes "requirement line " ++ decimal line ++ codes " " ++ shown name ++ codes " " ++ value_text value
said_of (NoPlan line kind) = codes "plan line " ++ decimal line ++ codes " " ++ kind_text kind
said_of (Refusing text) = codes "refused " ++ shown text
said_of (NoPeer kept) = codes "peer " ++ encode_lower (take 32 kept)
said_of TooManyLines = codes "peer infos"
said_of (Done steps) = codes "done " ++ decimal steps
said_of (Told text) = shown text

-- what is told where a port isn't aimed
abbrev pub aim_verdict : AimError → Verdict
aim_verdict astray.Memory = NoMemory
aim_verdict (astray.BadDevice kind) = NoDevice kind
aim_verdict astray.Link = NoLink
aim_verdict astray.NoTarget = NoLink

-- what is told where words ask for nothing
abbrev pub words_verdict : WordsError → Verdict
words_verdict words.Usage = Usage
words_verdict words.Memory = NoMemory
