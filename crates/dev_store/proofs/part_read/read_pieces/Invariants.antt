use Rattle.std.proofs.Common.{◌≡◌, ◌+◌, ◌-◌, ◌<◌, ◌≤◌, length, take}
use Rattle.dev_disk.specs.Disks.{open_bytes, FilesKept}
use Rattle.dev_store.specs.PartPlaces.{IsBefore, Reads}
use Rattle.dev_store.proofs.part_read.read_pieces.Given as goal

abbrev pub invariant-loop-done : goal.invariant-loop-done
invariant-loop-done g l = record {
  long : l.done ≤ length l.buf;
  read : Reads l.part l.at (take l.done l.buf) (open_bytes (g.K.Disk.told l.initial.disk));
  kept : FilesKept (g.K.Disk.told l.initial.disk) (g.K.Disk.told l.disk);
  same : g.K.Disk.lent l.disk ≡ g.K.Disk.lent l.initial.disk;
  before : l.done < length l.buf → IsBefore l.part (l.at + l.done) l.before;
}

abbrev pub decreases-loop-done : goal.decreases-loop-done
decreases-loop-done g l = length l.buf - l.done
