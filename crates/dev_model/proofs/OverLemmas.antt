-- A loop that puts an image over bytes, one by one.
use Rattle.std.proofs.Common.{◌≡◌, ℕ, ◌+◌, ◌<◌, List, [], ◌∷◌, ◌++◌, length, get_or, drop, refl, sym, ap, ◌∙◌, add-one, append_assoc, append-nil, ◌≤◌}
use Rattle.std.proofs.lemmas.List.{drop_all}
use Rattle.std.proofs.Math.Seq.{drop-cons}
use Rattle.dev_model.specs.declared.cells.Cell.{Cell}
use Rattle.dev_model.specs.Images.{over}

pub over-nil : (cells : List Cell) → over cells [] ≡ []
over-nil [] = refl
over-nil (c ∷ cells) = refl

-- one byte more is done
pub over_turn : (done old : List ℕ) (cells more : List Cell) (i b o : ℕ) → i < length old → o ≡ get_or old i o →
    ((rest : List ℕ) → over cells (o ∷ rest) ≡ b ∷ over more rest) →
    (done ++ b ∷ []) ++ over more (drop (i + 1) old) ≡ done ++ over cells (drop i old)
over_turn done old cells more i b o h e f =
    append_assoc done (b ∷ []) (over more (drop (i + 1) old)) ∙
    ap (λ t. done ++ t) (sym (f (drop (i + 1) old)) ∙ ap (over cells) (rw (add-one, drop-cons old i o h, ← e) refl))

pub over_end : (done old : List ℕ) (cells : List Cell) (n : ℕ) → length old ≤ n → done ++ over cells (drop n old) ≡ done
over_end done old cells n h = rw (drop_all n old h, over-nil cells, append-nil) refl

pub ruleset over_turns = (over_turn, over_end)
