use Rattle.std.proofs.Common.{Err, ap, arith}
use Rattle.super_meta.specs.Contents.{content}
use Rattle.super_meta.proofs.HeldLemmas.{too-long, groups-there, held-by, told}
use Rattle.super_meta.proofs.held.tables_of_image.Goals as goal

pub returns-then-file-gt-LONGEST : goal.returns-then-file-gt-LONGEST
returns-then-file-gt-LONGEST c = record { held = too-long c.args.file.now c.if-file-gt-LONGEST.true }

pub tables-requires : goal.tables-requires
tables-requires c = record { grouped = groups-there c.args.file.now c.in-Ok.geometry (content c.in-Ok.table) c.in-Ok.ensures.image }

pub returns-in-Ok : goal.returns-in-Ok
returns-in-Ok c = record { held = told _ _ c.tables.result (held-by c.args.file.now _ (omega arith) c.in-Ok.ensures.image) c.tables.ensures }

pub returns-in-Err-Bad : goal.returns-in-Err-Bad
returns-in-Err-Bad c = record { held = held-by c.args.file.now (Err c.in-Err-Bad.field-0-0) (omega arith) (c.in-Err-Bad.ensures.flaw c.in-Err-Bad.field-0-0 (ap Err c.in-Err-Bad.field-0-is)) }
