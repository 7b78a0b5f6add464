use Rattle.std.proofs.Common.{ap}
use Rattle.dev_disk.specs.MemoryFiles.{file_of}
use Rattle.dev_disk.proofs.memory.MemoryDisk.new.Goals as goal

pub returns-clause-empty : goal.returns-clause-empty
unfolding file_of
returns-clause-empty c path = ap (λ files. file_of files path) c.new.ensures.items
