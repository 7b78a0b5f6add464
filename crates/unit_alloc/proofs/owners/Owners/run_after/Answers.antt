use Rattle.unit_alloc.specs.Owning.{units_of}
use Rattle.unit_alloc.proofs.RunLemmas.{run-each}
use Rattle.unit_alloc.proofs.owners.Owners.run_after.Goals as goal

pub returns-clause-each : goal.returns-clause-each
returns-clause-each c k h =
    run-each (units_of c.args.self.now c.args.part) c.args.place c.unit_after-first.result c.run_of.result c.run_of.ensures.run k h
