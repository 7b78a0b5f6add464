use Rattle.std.proofs.Common.{◌≡◌, ◌-◌, ◌≤◌, length}
use Rattle.dev_store.specs.Held.{image_of}
use Rattle.dev_store.specs.StoreCalls.{part_bytes}
use Rattle.device_jobs.specs.Working.{HasHashed, IsReadOn}
use Rattle.device_jobs.proofs.digests.digest_part.Given as goal

abbrev pub invariant-loop-at : goal.invariant-loop-at
invariant-loop-at g l = record {
  within : l.at ≤ l.size;
  hashed : HasHashed (image_of g.K.Disk.told l.initial.store) (part_bytes l.name l.initial.store.device) l.at l.hasher;
  read : IsReadOn g.K.Disk.told g.K.Disk.lent l.initial.store l.store;
  room : length l.window ≡ length l.initial.window;
}

abbrev pub decreases-loop-at : goal.decreases-loop-at
decreases-loop-at g l = l.size - l.at
