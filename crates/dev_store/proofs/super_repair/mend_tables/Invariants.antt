use Rattle.std.proofs.Common.{◌≡◌}
use Rattle.fb_frame.specs.Told.{Both}
use Rattle.dev_disk.specs.Disks.{open_bytes, OpenKept}
use Rattle.super_meta.specs.Contents.{content}
use Rattle.dev_store.specs.SuperReads.{copy_read}
use Rattle.dev_store.specs.SuperRepairs.{AreMendedTo}
use Rattle.dev_store.proofs.super_repair.mend_tables.Given as goal

abbrev pub invariant-loop-number : goal.invariant-loop-number
invariant-loop-number g l = record {
  kept : OpenKept (g.K.Disk.told l.fn.disk) (g.K.Disk.told l.disk);
  same : g.K.Disk.lent l.disk ≡ g.K.Disk.lent l.fn.disk;
  mended : Both (AreMendedTo l.s l.at (copy_read l.s l.read.backup) (content l.read.table) l.number) (open_bytes (g.K.Disk.told l.fn.disk)) (open_bytes (g.K.Disk.told l.disk));
}
