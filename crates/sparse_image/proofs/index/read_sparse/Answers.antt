use Rattle.std.proofs.Common.{◌≡◌, Err}
use Rattle.std.proofs.lemmas.Result.{err_from_is_err_and}
use Rattle.sparse_image.specs.declared.index.CheckError.TheVariants.{Bad}
use Rattle.sparse_image.proofs.CheckLemmas.{sparse-bad_chunks}
use Rattle.sparse_image.proofs.index.read_sparse.Goals as goal

pub returns-in_err-chunks-clause-flaw : goal.returns-in_err-chunks-clause-flaw
returns-in_err-chunks-clause-flaw g c flaw h =
    let p = err_from_is_err_and c.from_residual-in_err-chunks.result c.from_residual-in_err-chunks.ensures.1 in
    let e : c.read_chunks.result ≡ Err (Bad flaw) = cc (p.1, p.2, h, c.in_err-chunks.was) in
    sparse-bad_chunks (g.B.Bytes.content c.args.source.now) c.in_ok-header.header flaw c.in_ok-header.ensures.header
    (rw c.read_header.ensures.content at (c.read_chunks.ensures.flaw flaw e))
