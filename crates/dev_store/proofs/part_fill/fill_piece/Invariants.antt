use Rattle.std.proofs.Common.{◌≡◌, ◌-◌, ◌≤◌, take}
use Rattle.std.specs.Prelude.{◌%◌}
use Rattle.fb_frame.specs.Told.{Both}
use Rattle.dev_disk.specs.Files.{Wrote, DifferWithin}
use Rattle.dev_disk.specs.Disks.{open_bytes, OpenKept}
use Rattle.dev_store.specs.Changes.{repeated}
use Rattle.dev_store.proofs.part_fill.fill_piece.Given as goal

abbrev pub invariant-loop-done : goal.invariant-loop-done
invariant-loop-done g l = record {
  long : l.done ≤ l.count;
  fours : l.done % 4 ≡ 0;
  wrote : Wrote (open_bytes (g.K.Disk.told l.initial.disk)) (open_bytes (g.K.Disk.told l.disk)) l.place (repeated l.done (take 4 l.buffer));
  within : Both (DifferWithin l.place l.count) (open_bytes (g.K.Disk.told l.initial.disk)) (open_bytes (g.K.Disk.told l.disk));
  kept : OpenKept (g.K.Disk.told l.initial.disk) (g.K.Disk.told l.disk);
  same : g.K.Disk.lent l.disk ≡ g.K.Disk.lent l.initial.disk;
}

abbrev pub decreases-loop-done : goal.decreases-loop-done
decreases-loop-done g l = l.count - l.done
