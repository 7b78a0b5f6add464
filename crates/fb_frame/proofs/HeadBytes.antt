-- Eight bytes are the head of the length that they tell.
use Rattle.std.proofs.Common.{◌≡◌, ℕ, ◌<◌, List, length, sym}
use Rattle.std.specs.Prelude.{get_or}
use Rattle.std.specs.Int.{w64, from_be_bytes}
use Rattle.std.proofs.lemmas.Nat.{be_bytes_8}
use Rattle.fb_frame.specs.Framing.{head}

pub head-bytes : (bytes : List ℕ) (n : ℕ) → length bytes ≡ 8 → ((i : ℕ) → get_or bytes i 0 < 256) → n ≡ from_be_bytes w64 bytes → bytes ≡ head n
head-bytes bytes n l small e = sym (be_bytes_8 bytes n l small e)
