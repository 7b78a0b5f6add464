use Rattle.std.proofs.Common.{◌≡◌, ◌≤◌, ◌-◌, length, take, Some}
use Rattle.flash_plan.specs.Files.{IsRead, HasSize}
use Rattle.flash_plan.proofs.read.read_all.Given as goal

abbrev pub invariant-loop-at : goal.invariant-loop-at
invariant-loop-at g l = record {
  within : l.at ≤ length l.buf;
  entered : g.D.ProductDir.entered l.dir ≡ g.D.ProductDir.entered l.initial.dir;
  path : g.D.ProductDir.told_path l.dir ≡ g.D.ProductDir.told_path l.initial.dir;
  files : g.D.ProductDir.files l.dir ≡ g.D.ProductDir.files l.initial.dir;
  same : g.D.ProductDir.lent l.dir ≡ g.D.ProductDir.lent l.initial.dir;
  size : HasSize (g.D.ProductDir.files l.dir) l.name (Some (length l.buf));
  front : IsRead (g.D.ProductDir.files l.dir) l.name 0 (take l.at l.buf);
  later : g.D.ProductDir.faults l.initial.dir ≤ g.D.ProductDir.faults l.dir;
}

abbrev pub decreases-loop-at : goal.decreases-loop-at
decreases-loop-at g l = length l.buf - l.at
