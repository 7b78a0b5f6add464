use Rattle.std.proofs.Common.{sym, ◌∙◌}
use Rattle.super_meta.specs.declared.errors.ReadError.TheVariants.{Bad}
use Rattle.super_meta.specs.declared.geometry.Geometry.{Geometry}
use Rattle.super_meta.specs.declared.table.Table.{Table}
use Rattle.super_meta.specs.Contents.{content}
use Rattle.super_meta.proofs.ImageLemmas.{image-ok, image-long-by, image-table, err-as}
use Rattle.super_meta.proofs.image.image_in.Goals as goal

pub returns-in-Err-read_table-clause-flaw : goal.returns-in-Err-read_table-clause-flaw
returns-in-Err-read_table-clause-flaw c =
    λ flaw e. image-table c.args.bytes.now c.in-Ok.geometry flaw c.in-Ok.ensures.geometry (c.in-Err-read_table.ensures.flaw flaw (err-as (Geometry × Table) Table c.in-Err-read_table.error (Bad flaw) e))

pub returns-then-rest-size-clause-flaw : goal.returns-then-rest-size-clause-flaw
returns-then-rest-size-clause-flaw c =
    image-long-by (Geometry × Table) c.args.bytes.now c.in-Ok.geometry (content c.in-Ok-read_table.table) c.in-Ok.ensures.long c.in-Ok.ensures.geometry c.in-Ok-read_table.ensures.table (λ e. c.if-rest-size.true (e ∙ sym c.size.ensures))

pub returns-clause-image : goal.returns-clause-image
returns-clause-image c =
    image-ok c.args.bytes.now c.in-Ok.geometry (content c.in-Ok-read_table.table) c.in-Ok.ensures.long c.in-Ok.ensures.geometry c.in-Ok-read_table.ensures.table (c.if-rest-size.false ∙ c.size.ensures)
