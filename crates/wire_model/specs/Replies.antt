-- What each reply of a device is: how long, and of which kind.
use Rattle.std.specs.Prelude.{ℕ, ◌≤◌, List, length}
use Rattle.fb_message.specs.declared.reply.Reply.{Reply}
use Rattle.fb_message.specs.declared.reply.Reply.TheVariants.{Okay, Fail, Info, Text, Load}

-- a reply has at most 256 bytes
abbrev pub IsShort : List ℕ → Type 0
IsShort reply = length reply ≤ 256

-- a reply that isn't DATA
abbrev pub IsNoLoad : Reply → Type 0
IsNoLoad (Load count) = ⊥
IsNoLoad (Okay text) = Unit {0}
IsNoLoad (Fail text) = Unit {0}
IsNoLoad (Info text) = Unit {0}
IsNoLoad (Text text) = Unit {0}
