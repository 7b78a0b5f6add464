use Rattle.std.proofs.Common.{◌≡◌, drop}
use Rattle.std.specs.Prelude.{flat_map, slice_get}
use Rattle.flash_plan.specs.Products.{image_file}
use Rattle.host_driver.proofs.steps.file_of.Given as goal

-- what is left of the tasks has the file at the place that is left
abbrev pub invariant-loop-task : goal.invariant-loop-task
invariant-loop-task l = slice_get (flat_map image_file (drop l.task-index l.fn.tasks)) l.left ≡ slice_get (flat_map image_file l.fn.tasks) l.fn.place
