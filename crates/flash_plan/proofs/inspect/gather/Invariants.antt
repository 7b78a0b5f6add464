use Rattle.std.proofs.Common.{◌≡◌, ◌≤◌, take, drop}
use Rattle.flash_plan.specs.Inspecting.{IsGathered}
use Rattle.flash_plan.proofs.InspectTasks.{Continues}
use Rattle.flash_plan.proofs.inspect.gather.Given as goal

abbrev pub invariant-loop-task : goal.invariant-loop-task
invariant-loop-task g l = record {
  entered : g.D.ProductDir.entered l.dir ≡ g.D.ProductDir.entered l.initial.dir;
  path : g.D.ProductDir.told_path l.dir ≡ g.D.ProductDir.told_path l.initial.dir;
  files : g.D.ProductDir.files l.dir ≡ g.D.ProductDir.files l.initial.dir;
  same : g.D.ProductDir.lent l.dir ≡ g.D.ProductDir.lent l.initial.dir;
  later : g.D.ProductDir.faults l.initial.dir ≤ g.D.ProductDir.faults l.dir;
  told : Continues (g.D.ProductDir.files l.initial.dir) l.tasks l.gathered (drop l.task-index l.tasks);
  gathered : IsGathered (take l.task-index l.tasks) l.gathered;
}
