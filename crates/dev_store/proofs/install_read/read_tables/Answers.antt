use Rattle.std.proofs.Common.{◌∙◌, sym, ap, arith, length}
use Rattle.std.specs.Prelude.{◌==◌}
use Rattle.std.specs.Result.{result_err}
use Rattle.super_meta.specs.Contents.{Content}
use Rattle.dev_store.proofs.InstallTests.{too-long-file, flawed-file, with-extents, without-extents}
use Rattle.dev_store.proofs.install_read.read_tables.Goals as goal

pub returns-then-file-gt-LONGEST-clause-tables : goal.returns-then-file-gt-LONGEST-clause-tables
returns-then-file-gt-LONGEST-clause-tables c = too-long-file c.args.file.now (omega (arith, c.if-file-gt-LONGEST.true))

pub returns-in-Err-clause-tables : goal.returns-in-Err-clause-tables
returns-in-Err-clause-tables c = flawed-file c.args.file.now _ (omega (arith, c.if-file-gt-LONGEST.false)) (sym (ap result_err c.in-Err.is) ∙ c.read.ensures.flaw)

pub returns-then-not-is_empty-clause-tables : goal.returns-then-not-is_empty-clause-tables
returns-then-not-is_empty-clause-tables c =
    with-extents c.args.file.now c.in-Ok.geometry c.read.new.self (omega (arith, c.if-file-gt-LONGEST.false)) c.in-Ok.ensures.table
    (ap (λ (t : Content). length t.extents == 0) (sym c.table.ensures) ∙ (ap (λ n. n == 0) (sym c.table.result.now.extents.ok.0) ∙ (sym c.is_empty.ensures ∙ c.if-not-is_empty.true)))

pub returns-clause-tables : goal.returns-clause-tables
returns-clause-tables c =
    without-extents c.args.file.now c.in-Ok.geometry c.read.new.self (omega (arith, c.if-file-gt-LONGEST.false)) c.in-Ok.ensures.table
    (ap (λ (t : Content). length t.extents == 0) (sym c.table.ensures) ∙ (ap (λ n. n == 0) (sym c.table.result.now.extents.ok.0) ∙ (sym c.is_empty.ensures ∙ c.if-not-is_empty.false)))
