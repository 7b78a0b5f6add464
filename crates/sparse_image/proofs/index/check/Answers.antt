use Rattle.std.proofs.Common.{◌≡◌, ℕ, length, arith, Ok, Err, List, Bool, Option}
use Rattle.std.specs.Prelude.{IfSome}
use Rattle.std.proofs.lemmas.Result.{err_from_is_err_and}
use Rattle.dev_model.specs.Images.{is_sparse}
use Rattle.sparse_image.specs.declared.errors.SparseKind.TheVariants.{Empty}
use Rattle.sparse_image.specs.declared.index.CheckError.TheVariants.{Bad}
use Rattle.sparse_image.specs.Outside.{HasLength}
use Rattle.sparse_image.specs.Walks.{flaw}
use Rattle.sparse_image.proofs.CheckLemmas.{checked-empty, checked-sparse, checked-raw, image-kept, image-bad}
use Rattle.sparse_image.proofs.index.check.Goals as goal

told-at : (o : Option (List ℕ)) (n m : ℕ) → HasLength o n → m ≡ n → IfSome o (λ file. length file ≡ m)
told-at o n m h e = rw e h

sparse-at : (o : Option (List ℕ)) (a b : Bool) → IfSome o (λ file. is_sparse file ≡ a) → a ≡ b → IfSome o (λ file. is_sparse file ≡ b)
sparse-at o a b h e = rw (← e) h

pub returns-then-len-eq0-clause-none : goal.returns-then-len-eq0-clause-none
returns-then-len-eq0-clause-none g c found h =
    let o = g.B.Bytes.content c.args.source.now in
    image-bad o (flaw Empty 0) (checked-empty o c.len-len.result (told-at o _ _ c.len-len.ensures.told c.len-len.ensures.size) c.if-len-eq0.true)

pub returns-in_err-index-clause-flaw : goal.returns-in_err-index-clause-flaw
returns-in_err-index-clause-flaw g c found h =
    let o = g.B.Bytes.content c.args.source.now in
    let p = err_from_is_err_and c.from_residual.result c.from_residual.ensures.1 in
    let e : c.check_sparse.result ≡ Err (Bad found) = cc (p.1, p.2, h, c.in_err-index.was) in
    let k = rw c.begins_sparse.ensures.content at (c.check_sparse.ensures.flaw found e) in
    checked-sparse o c.len-len.result (Err found) (told-at o _ _ c.len-len.ensures.told c.len-len.ensures.size) (omega arith) (sparse-at o _ _ c.in-Ok.ensures.sparse c.if-sparse.true) k

pub returns-in_err-index-clause-none : goal.returns-in_err-index-clause-none
returns-in_err-index-clause-none g c found h =
    let o = g.B.Bytes.content c.args.source.now in
    let p = err_from_is_err_and c.from_residual.result c.from_residual.ensures.1 in
    let e : c.check_sparse.result ≡ Err (Bad found) = cc (p.1, p.2, h, c.in_err-index.was) in
    let k = rw c.begins_sparse.ensures.content at (c.check_sparse.ensures.flaw found e) in
    image-bad o found (checked-sparse o c.len-len.result (Err found) (told-at o _ _ c.len-len.ensures.told c.len-len.ensures.size) (omega arith) (sparse-at o _ _ c.in-Ok.ensures.sparse c.if-sparse.true) k)

pub returns-then-sparse-clause-image : goal.returns-then-sparse-clause-image
returns-then-sparse-clause-image g c =
    let o = g.B.Bytes.content c.args.source.now in
    let k = rw c.begins_sparse.ensures.content at c.in_ok-index.ensures.index in
    image-kept o c.in_ok-index.index (checked-sparse o c.len-len.result (Ok c.in_ok-index.index) (told-at o _ _ c.len-len.ensures.told c.len-len.ensures.size) (omega arith) (sparse-at o _ _ c.in-Ok.ensures.sparse c.if-sparse.true) k)

pub returns-in_err-index-2-clause-flaw : goal.returns-in_err-index-2-clause-flaw
returns-in_err-index-2-clause-flaw g c found h =
    let o = g.B.Bytes.content c.args.source.now in
    let p = err_from_is_err_and c.from_residual-in_err-index-2.result c.from_residual-in_err-index-2.ensures.1 in
    let e : c.check_raw.result ≡ Err (Bad found) = cc (p.1, p.2, h, c.in_err-index-2.was) in
    checked-raw o c.len-len.result (Err found) (told-at o _ _ c.len-len.ensures.told c.len-len.ensures.size) (omega arith) (sparse-at o _ _ c.in-Ok.ensures.sparse c.if-sparse.false) (c.check_raw.ensures.flaw found e)

pub returns-in_err-index-2-clause-none : goal.returns-in_err-index-2-clause-none
returns-in_err-index-2-clause-none g c found h =
    let o = g.B.Bytes.content c.args.source.now in
    let p = err_from_is_err_and c.from_residual-in_err-index-2.result c.from_residual-in_err-index-2.ensures.1 in
    let e : c.check_raw.result ≡ Err (Bad found) = cc (p.1, p.2, h, c.in_err-index-2.was) in
    image-bad o found (checked-raw o c.len-len.result (Err found) (told-at o _ _ c.len-len.ensures.told c.len-len.ensures.size) (omega arith) (sparse-at o _ _ c.in-Ok.ensures.sparse c.if-sparse.false) (c.check_raw.ensures.flaw found e))
