use Rattle.std.proofs.Common.{◌≡◌, ◌+◌, ◌*◌, length}
use Rattle.dev_model.specs.Images.{copies}
use Rattle.dev_disk.specs.Disks.{Writes}
use Rattle.dev_store.proofs.making.write_copies.Given as goal

abbrev pub invariant-loop-copy : goal.invariant-loop-copy
invariant-loop-copy g l = record {
  same : g.K.Disk.lent l.disk ≡ g.K.Disk.lent l.initial.disk;
  placed : l.place ≡ l.at + l._copy * length l.block;
  writes : Writes (g.K.Disk.told l.initial.disk) (g.K.Disk.told l.disk) l.at (copies l._copy l.block);
}
