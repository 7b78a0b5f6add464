use Rattle.std.proofs.Common.{Some, None, sym}
use Rattle.std.proofs.lemmas.Result.{err_from_is_err_and}
use Rattle.super_meta.specs.Contents.{content}
use Rattle.super_meta.proofs.FoundLemmas.{behind-header, read-ok}
use Rattle.super_meta.proofs.table.Table.read_from.Goals as goal

pub returns-in_err-take_from-clause-flaw : goal.returns-in_err-take_from-clause-flaw
returns-in_err-take_from-clause-flaw c =
    let p = err_from_is_err_and c.from_residual-in_err-take_from.result c.from_residual-in_err-take_from.ensures.1 in
    rw (p.1, p.2) (sym (behind-header c.args.bytes.now c.in_ok-header.header (Some c.in_err-take_from.field-0.0) c.in_ok-header.ensures.header c.in_err-take_from.ensures.flaw))

pub returns-clause-flaw : goal.returns-clause-flaw
returns-clause-flaw c = sym (behind-header c.args.bytes.now c.in_ok-header.header None c.in_ok-header.ensures.header c.in_ok-take_from.ensures.flaw)

pub returns-clause-table : goal.returns-clause-table
returns-clause-table c = read-ok c.args.bytes.now c.in_ok-header.header (content c.take_from.new.self) c.in_ok-header.ensures.header c.in_ok-take_from.ensures.flaw c.in_ok-take_from.ensures.content
