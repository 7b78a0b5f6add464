-- What the folder and the target of the words are to what is told of the outside.
use Rattle.std.specs.Prelude.{◌≡◌, ℕ, Bool, false, not, List, Option, Some, None, IsTrue, bytes_eq}
use Rattle.wire_told.specs.Places.{Place, Stands, KeepsOthers}
use Rattle.host_words.specs.Requests.{Request, FlashAll, GetVar, Sample}

-- the words are refused; those of a sample, which isn't built yet, are refused too
abbrev pub IsRefused : Option Request → Type 0
IsRefused None = Unit {0}
IsRefused (Some (FlashAll place dir options)) = ⊥
IsRefused (Some (GetVar place name)) = ⊥
IsRefused (Some (Sample n)) = Unit {0}

-- the told folder is another than that of the words
abbrev pub is_elsewhere : List ℕ → Option (List ℕ) → Bool
is_elsewhere dir None = false
is_elsewhere dir (Some path) = not (bytes_eq path dir)

abbrev pub IsElsewhere : Option Request → Option (List ℕ) → Type 0
IsElsewhere (Some (FlashAll place dir options)) told = IsTrue (is_elsewhere dir told)
IsElsewhere _ told = ⊥

-- no target but that of the words stands for anything else than it did
abbrev pub KeepsBeside : Option Place → Stands → Stands → Type 0
KeepsBeside None stands now = now ≡ stands
KeepsBeside (Some place) stands now = KeepsOthers (Some place) stands now
