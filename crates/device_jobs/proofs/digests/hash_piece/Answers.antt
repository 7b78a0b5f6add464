use Rattle.std.proofs.Common.{length}
use Rattle.dev_store.specs.Held.{image_of}
use Rattle.dev_store.specs.StoreCalls.{part_bytes}
use Rattle.device_jobs.proofs.HashLemmas.{hash-next}
use Rattle.device_jobs.proofs.digests.hash_piece.Goals as goal

pub returns-clause-hashed : goal.returns-clause-hashed
returns-clause-hashed g c =
    hash-next (image_of g.K.Disk.told c.args.store.now) (part_bytes c.args.name.now c.args.store.now.device) c.args.at (length c.args.piece.now) c.read_part.new.buf c.args.hasher.now c.update.new.self
    c.read_part.auto.buf c.in-Ok.ensures.read c.update.ensures
