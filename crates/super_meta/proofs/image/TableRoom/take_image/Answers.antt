use Rattle.std.proofs.Common.{sym, ap, ◌∙◌}
use Rattle.std.specs.Result.{result_err}
use Rattle.std.proofs.lemmas.Result.{err_from_is_err_and}
use Rattle.super_meta.specs.Contents.{content}
use Rattle.super_meta.proofs.ImageLemmas.{image-ok, image-long, image-wrong}
use Rattle.super_meta.proofs.image.TableRoom.take_image.Goals as goal

pub returns-in_err-read_from-clause-flaw : goal.returns-in_err-read_from-clause-flaw
returns-in_err-read_from-clause-flaw c =
    let p = err_from_is_err_and c.from_residual-in_err-read_from.result c.from_residual-in_err-read_from.ensures.1 in
    rw (p.1, p.2) (sym (image-wrong c.args.bytes.now c.in_ok-geometry.geometry c.in_err-read_from.field-0.0 c.in_ok-geometry.ensures.geometry c.in_err-read_from.ensures.flaw))

pub returns-then-rest-size-clause-flaw : goal.returns-then-rest-size-clause-flaw
returns-then-rest-size-clause-flaw c =
    sym (ap result_err (image-long c.args.bytes.now c.in_ok-geometry.geometry (content c.read_from.new.self) c.in_ok-geometry.ensures.long c.in_ok-geometry.ensures.geometry c.in_ok-read_from.ensures.table (λ e. c.if-rest-size.true (e ∙ sym c.size.ensures))))

pub returns-clause-table : goal.returns-clause-table
returns-clause-table c =
    image-ok c.args.bytes.now c.in_ok-geometry.geometry (content c.read_from.new.self) c.in_ok-geometry.ensures.long c.in_ok-geometry.ensures.geometry c.in_ok-read_from.ensures.table (c.if-rest-size.false ∙ c.size.ensures)

pub returns-clause-flaw : goal.returns-clause-flaw
returns-clause-flaw c = sym (ap result_err (returns-clause-table c))
