use Rattle.std.proofs.Common.{ℕ, List, refl, sym, subst}
use Rattle.std.proofs.lemmas.List.{take_rest}
use Rattle.dev_model.specs.Images.{sparse_cells}
use Rattle.sparse_image.specs.Runs.{IsImage}
use Rattle.sparse_image.proofs.RunLemmas.{sparse-image, left_by, AreWholeBy}
use Rattle.sparse_image.proofs.runs.Runs.sparse.Goals as goal

pub invariant_of-result : goal.invariant_of-result
invariant_of-result c =
    let file = c.args.file.now in
    let header = c.in_ok-header.header in
    let both = sparse-image file header (sym c.in_ok-header.ensures.header) c.in_ok-header.ensures.fine (sym c.in_ok-check_chunks.ensures) in
    let by = subst (λ (xs : List ℕ). AreWholeBy header.block header.blocks header.chunks xs) (sym (take_rest file 28)) both.0 in
    record { whole = by.whole; small = by.small; fours = by.fours; placed = refl }

pub returns-clause-image : goal.returns-clause-image
returns-clause-image c =
    let file = c.args.file.now in
    let header = c.in_ok-header.header in
    let both = sparse-image file header (sym c.in_ok-header.ensures.header) c.in_ok-header.ensures.fine (sym c.in_ok-check_chunks.ensures) in
    subst (λ (xs : List ℕ). IsImage (sparse_cells file) (left_by 0 header.block header.blocks header.chunks xs)) (sym (take_rest file 28)) both.1
