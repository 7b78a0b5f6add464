-- The target among the words of fbflash.
use Rattle.std.specs.Prelude.{◌≡◌, ℕ, ◌==◌, Bool, List, [], ◌∷◌, length, drop, Option, Some, None}
use Rattle.std.specs.Prelude.{if◌then◌else◌, nat_eq, nat_lt, codes}
use Rattle.std.specs.List.{starts_with, position_or_len, before_first, after_first}
use Rattle.word_rules.specs.Rules.{number_in}
use Rattle.wire_told.specs.Places.{Place, ImageAt, TcpAt}

abbrev pub is_colon : ℕ → Bool
is_colon b = b == 58

abbrev pub image_of : List ℕ → Option Place
image_of [] = None
image_of (b ∷ file) = Some (ImageAt (b ∷ file))

-- an address by its host, of at least one byte, and its port
abbrev pub host_of : List ℕ → ℕ → Option Place
host_of [] port = None
host_of (b ∷ host) port = Some (TcpAt (b ∷ host) port)

abbrev pub host_at : List ℕ → Option ℕ → Option Place
host_at host None = None
host_at host (Some port) = host_of host port

-- an address: its host, up to the first colon, and the port after it, usually 5554
abbrev pub address_of : List ℕ → Option Place
address_of text =
    if nat_lt (position_or_len is_colon text) (length text)
    then host_at (before_first is_colon text) (number_in 1 65535 (after_first is_colon text))
    else host_of text 5554

-- the target: `image:FILE`, `tcp:HOST` or `tcp:HOST:PORT`
abbrev pub place_of_text : List ℕ → Option Place
place_of_text text =
    if starts_with nat_eq text (codes "image:") then image_of (drop 6 text)
    else (if starts_with nat_eq text (codes "tcp:") then address_of (drop 4 text) else None)

-- the text is a target, and names this place
pub record NamesPlace (text : List ℕ) (named : Option Place) : Type 0 where
  pub place : Place
  pub read : place_of_text text ≡ Some place
  pub is : named ≡ Some place
