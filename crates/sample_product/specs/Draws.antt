-- Numbers drawn one after another by a linear congruential generator (Knuth's MMIX).
use Rattle.std.specs.Prelude.{ℕ, zero, suc, ◌+◌, ◌*◌, ◌^◌, ◌/◌, ◌%◌, List, [], ◌∷◌}

-- where the draws stand after one more
unfoldable pub next : ℕ → ℕ
next x = (x * 6364136223846793005 + 1442695040888963407) % 2 ^ 64

-- the number of 31 bits that this draw gives
abbrev pub draw : ℕ → ℕ
draw x = next x / 2 ^ 33

-- a number from 1 up to `most`
abbrev pub count : ℕ → ℕ → ℕ
count most x = 1 + draw x % most

-- where the draws stand after n more
unfoldable pub after : ℕ → ℕ → ℕ
after zero x = x
after (suc n) x = after n (next x)

-- n bytes, drawn one after another
unfoldable pub bytes : ℕ → ℕ → List ℕ
bytes zero x = []
bytes (suc n) x = draw x % 256 ∷ bytes n (next x)
