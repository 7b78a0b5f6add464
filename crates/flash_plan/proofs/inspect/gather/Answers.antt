use Rattle.std.proofs.Common.{◌∙◌, ◌+◌, List, Option, take, drop, subst, arith}
use Rattle.std.proofs.lemmas.Result.{err_from_is_err_and}
use Rattle.flash_plan.specs.Files.{Files}
use Rattle.flash_plan.specs.Inspecting.{Stops, Takes, IsGathered, brought_after}
use Rattle.product_info.specs.declared.task.Task.{Task}
use Rattle.flash_plan.proofs.InspectTasks.{continues-next, continues-stop, drop-item, take-item, named-item}
use Rattle.flash_plan.proofs.InspectFails.{fails-item}
use Rattle.flash_plan.proofs.inspect.gather.Goals as goal

pub take_task-requires-clause-names : goal.take_task-requires-clause-names
take_task-requires-clause-names g c =
    named-item c.args.tasks.now c.loop-task.task-index c.task-item.result (omega arith) c.task-item.is c.requires.names

pub returns-in_err-take_task-clause-stops : goal.returns-in_err-take_task-clause-stops
returns-in_err-take_task-clause-stops g c =
    let p = err_from_is_err_and c.from_residual.result c.from_residual.ensures.1 in
    rw (p.1, p.2)
    (continues-stop (g.D.ProductDir.files c.args.dir.now) c.args.tasks.now (drop c.loop-task.task-index c.args.tasks.now) (drop (c.loop-task.task-index + 1) c.args.tasks.now) c.task-item.result c.loop-task.gathered _ _ _ c.in_err-take_task.field-0.0
    (drop-item c.args.tasks.now c.loop-task.task-index c.task-item.result (omega arith) c.task-item.is) c.loop-task.invariant.told c.loop-task.invariant.later
    (λ later. subst (λ (o : Option Files). Stops o (brought_after c.loop-task.gathered c.task-item.result.action later) (g.D.ProductDir.faults c.loop-task.dir) (g.D.ProductDir.faults c.take_task.new.dir) c.in_err-take_task.field-0.0) c.loop-task.invariant.files
    (c.in_err-take_task.ensures.stops later)))

pub loop-task-preserved : goal.loop-task-preserved
loop-task-preserved g c =
    record {
      entered = c.take_task.ensures.entered ∙ c.loop-task.invariant.entered;
      path = c.take_task.ensures.path ∙ c.loop-task.invariant.path;
      files = c.take_task.ensures.files ∙ c.loop-task.invariant.files;
      same = c.take_task.ensures.same ∙ c.loop-task.invariant.same;
      later = omega arith;
      told = continues-next (g.D.ProductDir.files c.args.dir.now) c.args.tasks.now (drop c.loop-task.task-index c.args.tasks.now) (drop (c.loop-task.task-index + 1) c.args.tasks.now) c.task-item.result c.loop-task.gathered c.take_task.new.self
          (drop-item c.args.tasks.now c.loop-task.task-index c.task-item.result (omega arith) c.task-item.is) c.loop-task.invariant.told
          (subst (λ (o : Option Files). Takes o c.task-item.result.action c.loop-task.gathered c.take_task.new.self) c.loop-task.invariant.files c.in_ok-take_task.ensures.taken);
      gathered = subst (λ (xs : List Task). IsGathered xs c.take_task.new.self) (take-item c.args.tasks.now c.loop-task.task-index c.task-item.result (omega arith) c.task-item.is)
          (c.in_ok-take_task.ensures.gathered (take c.loop-task.task-index c.args.tasks.now) c.loop-task.invariant.gathered);
    }

pub returns-in_err-take_task-clause-fails : goal.returns-in_err-take_task-clause-fails
returns-in_err-take_task-clause-fails g c =
    let p = err_from_is_err_and c.from_residual.result c.from_residual.ensures.1 in
    rw (p.1, p.2)
    (fails-item c.args.tasks.now c.loop-task.task-index c.task-item.result c.in_err-take_task.field-0.0 (omega arith) c.task-item.is c.in_err-take_task.ensures.fails)
