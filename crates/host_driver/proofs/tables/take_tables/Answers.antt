use Rattle.std.specs.Prelude.{Some}
use Rattle.dev_model.specs.declared.step.Step.TheVariants.{Table}
use Rattle.flash_plan.specs.Plans.{tables_in}
use Rattle.host_driver.proofs.DriveTables.{Serving-tables, Tables-at, Tables-stepped, Tables-stopped}
use Rattle.host_driver.proofs.tables.take_tables.Goals as goal

pub take-requires-clause-serving : goal.take-requires-clause-serving
take-requires-clause-serving g c = Serving-tables _ _ _ c.requires.few c.in-Ok.ensures.loaded c.requires.serving

pub returns-in-Ok-take-clause-stepped : goal.returns-in-Ok-take-clause-stepped
returns-in-Ok-take-clause-stepped g c =
    let image = c.args.image.now in
    let step = Table (tables_in (Some image)) c.args.wipe in
    let at = Tables-at c.args.name.now c.args.wipe image _ _ c.requires.tables c.requires.own c.in-Ok.ensures.loaded in
    Tables-stepped c.args.name.now c.args.wipe image step _ _ _ c.requires.few c.in-Ok.ensures.loaded c.in-Ok.ensures.goes (c.in-Ok-take.ensures.stepped step at)

pub returns-in-Err-take-clause-stopped : goal.returns-in-Err-take-clause-stopped
returns-in-Err-take-clause-stopped g c =
    let image = c.args.image.now in
    let step = Table (tables_in (Some image)) c.args.wipe in
    let at = Tables-at c.args.name.now c.args.wipe image _ _ c.requires.tables c.requires.own c.in-Ok.ensures.loaded in
    Tables-stopped image step _ _ _ c.in-Err-take.stop.1 c.in-Ok.ensures.loaded c.in-Ok.ensures.goes (c.in-Err-take.ensures.stopped step at)
