-- What the header of a table tells.
use Rattle.std.proofs.Common.{◌≡◌, ℕ, List, None, refl, arith}
use Rattle.std.proofs.lemmas.Bool.Decides.{nat_tests}
use Rattle.super_meta.specs.declared.header.Header.{Header}
use Rattle.super_meta.specs.HeaderText.{header_at, are_described, seal_flaw}
use Rattle.fb_frame.specs.Fields.{u16_at, u32_at}

pub minor-at : (bytes : List ℕ) → (header_at bytes).minor ≡ u16_at 6 bytes
unfolding header_at
minor-at bytes = refl

pub ruleset parts = (minor-at)

-- there is one block device where the tables are described
pub one-device : (bytes : List ℕ) (h : Header) → seal_flaw bytes h ≡ None → u32_at 120 bytes ≡ 1
unfolding are_described
one-device bytes h e = grind (arith, nat_tests)

pub ruleset seals = (one-device)
