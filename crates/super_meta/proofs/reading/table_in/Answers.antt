use Rattle.super_meta.specs.Contents.{content}
use Rattle.super_meta.specs.declared.table.Table.{Table}
use Rattle.super_meta.proofs.FoundLemmas.{read-ok, read-err-by}
use Rattle.super_meta.proofs.reading.table_in.Goals as goal

pub returns-in-Ok-take_from-clause-table : goal.returns-in-Ok-take_from-clause-table
returns-in-Ok-take_from-clause-table c =
    read-ok c.args.bytes.now c.in-Ok.header (content c.take_from.new.self) c.in-Ok.ensures.header c.in-Ok-take_from.ensures.flaw c.in-Ok-take_from.ensures.content

pub returns-in-Err-take_from-clause-flaw : goal.returns-in-Err-take_from-clause-flaw
returns-in-Err-take_from-clause-flaw c =
    λ flaw e. read-err-by Table c.args.bytes.now c.in-Ok.header c.in-Err-take_from.flaw c.in-Ok.ensures.header c.in-Err-take_from.ensures.flaw flaw e
