use Rattle.std.proofs.Common.{◌≡◌, ◌-◌, ◌++◌, take, length}
use Rattle.std.specs.List.{flat_map}
use Rattle.device_jobs.specs.Printed.{group_line}
use Rattle.device_jobs.proofs.device_text.add_groups.Given as goal

abbrev pub invariant-loop-group : goal.invariant-loop-group
invariant-loop-group g l = record {
  added : l.text.items ≡ l.initial.text.items ++ flat_map group_line (take l.place l.store.device.groups);
}

abbrev pub decreases-loop-group : goal.decreases-loop-group
decreases-loop-group g l = length l.store.device.groups - l.place
