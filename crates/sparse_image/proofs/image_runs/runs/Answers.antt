use Rattle.std.proofs.Common.{◌<◌, length, sym, ◌∙◌, arith}
use Rattle.std.proofs.lemmas.Bool.Decides.{nat_tests}
use Rattle.std.proofs.lemmas.Result.{err_from_is_err_and}
use Rattle.sparse_image.proofs.WalkLemmas.{sparse-none, raw-none, image-empty, image-sparse, image-raw}
use Rattle.sparse_image.proofs.image_runs.runs.Goals as goal

pub returns-then-is_empty-clause-none : goal.returns-then-is_empty-clause-none
returns-then-is_empty-clause-none c = image-empty c.args.file.now (grind (arith, nat_tests))

pub returns-in_err-runs-clause-none : goal.returns-in_err-runs-clause-none
returns-in_err-runs-clause-none c =
    let p = err_from_is_err_and c.from_residual.result c.from_residual.ensures.1 in
    let some : 0 < length c.args.file.now = grind (arith, nat_tests) in
    rw p.1 (image-sparse c.args.file.now some (sym c.is_sparse.ensures ∙ c.if-is_sparse.true) ∙ sparse-none c.args.file.now c.in_err-runs.field-0.0 c.in_err-runs.ensures.flaw)

pub returns-then-is_sparse-clause-image : goal.returns-then-is_sparse-clause-image
returns-then-is_sparse-clause-image c =
    let some : 0 < length c.args.file.now = grind (arith, nat_tests) in
    rw (image-sparse c.args.file.now some (sym c.is_sparse.ensures ∙ c.if-is_sparse.true)) c.in_ok-runs.ensures.image

pub returns-in_err-runs-2-clause-none : goal.returns-in_err-runs-2-clause-none
returns-in_err-runs-2-clause-none c =
    let p = err_from_is_err_and c.from_residual-in_err-runs-2.result c.from_residual-in_err-runs-2.ensures.1 in
    let some : 0 < length c.args.file.now = grind (arith, nat_tests) in
    rw p.1 (image-raw c.args.file.now some (sym c.is_sparse.ensures ∙ c.if-is_sparse.false) ∙ raw-none c.args.file.now c.in_err-runs-2.field-0.0 c.in_err-runs-2.ensures.flaw)

pub returns-clause-image : goal.returns-clause-image
returns-clause-image c =
    let some : 0 < length c.args.file.now = grind (arith, nat_tests) in
    rw (image-raw c.args.file.now some (sym c.is_sparse.ensures ∙ c.if-is_sparse.false)) c.in_ok-runs-2.ensures.image
