-- Bytes written at a place of a buffer.
use Rattle.std.proofs.Common.{◌≡◌, ℕ, ◌-◌, ◌≤◌, List, ◌++◌, length, take, drop, sym, ap, ◌∙◌}
use Rattle.std.proofs.lemmas.List.{take_all, drop-replicate, take-append-drop}
use Rattle.fb_frame.specs.Bytes.{zeros}
use Rattle.std.proofs.lemmas.Slice.{take-put_mid, drop-put_mid}

pub ruleset puts = (take-put_mid, drop-put_mid)

-- a buffer that was written to its end
pub written-all : (n : ℕ) (buf bytes : List ℕ) → length buf ≤ n → take n buf ≡ bytes → buf ≡ bytes
written-all n buf bytes h e = sym (take_all n buf h) ∙ e

pub ruleset wholes = (written-all)

pub drop-zeros : (n k : ℕ) → drop n (zeros k) ≡ zeros (k - n)
unfolding zeros
drop-zeros n k = drop-replicate {X = ℕ} n k 0

-- bytes written at the front of a buffer of zeros
pub written-front : (n k : ℕ) (buf bytes : List ℕ) → take n buf ≡ bytes → drop n buf ≡ drop n (zeros k) → buf ≡ bytes ++ zeros (k - n)
written-front n k buf bytes e f = sym (take-append-drop n buf) ∙ (ap (λ t. t ++ drop n buf) e ∙ ap (λ t. bytes ++ t) (f ∙ drop-zeros n k))

pub ruleset padded = (written-front)
