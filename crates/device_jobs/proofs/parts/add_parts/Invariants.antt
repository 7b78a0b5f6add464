use Rattle.std.proofs.Common.{◌≡◌, ◌-◌, take, length}
use Rattle.std.specs.List.{flat_map}
use Rattle.dev_store.specs.Held.{image_of}
use Rattle.dev_store.specs.StoreCalls.{names_of}
use Rattle.device_jobs.specs.Working.{AddsText, IsReadOn, part_line}
use Rattle.device_jobs.proofs.parts.add_parts.Given as goal

abbrev pub invariant-loop-name : goal.invariant-loop-name
invariant-loop-name g l = record {
  read : IsReadOn g.K.Disk.told g.K.Disk.lent l.initial.store l.store;
  added : AddsText (image_of g.K.Disk.told l.initial.store)
      (flat_map (part_line l.initial.store.device l.logical) (take l.place (names_of l.initial.store.device))) l.initial.text.items l.text.items;
  room : length l.window ≡ length l.initial.window;
}

abbrev pub decreases-loop-name : goal.decreases-loop-name
decreases-loop-name g l = length (names_of l.initial.store.device) - l.place
