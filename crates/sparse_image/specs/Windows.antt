-- A window of bytes that were read of a source.
use Rattle.std.specs.Prelude.{◌≡◌, ℕ, List, take, drop, Option, Some, None}
use Rattle.std.specs.Coded.{Coded-set, coded_list, coded_ℕ, Unit-prop}
use Rattle.sparse_image.specs.Outside.{IsRead}

-- there is one proof at most that bytes were read
pub IsRead-prop : (told : Option (List ℕ)) (at : ℕ) (buf : List ℕ) (n : ℕ) → IsProp (IsRead told at buf n)
IsRead-prop (Some bytes) at buf n = Coded-set (coded_list coded_ℕ) (take n buf) (take n (drop at bytes))
IsRead-prop None at buf n = Unit-prop
