use Rattle.std.proofs.Common.{arith}
use Rattle.dev_disk.specs.Disks.{open_bytes}
use Rattle.dev_store.proofs.StateReads.{copy-read, record-fitting}
use Rattle.dev_store.proofs.states_read.read_copy.Goals as goal

pub returns-clause-read : goal.returns-clause-read
returns-clause-read g c =
    copy-read c.args.slots c.args.second (open_bytes (g.K.Disk.told c.args.disk.now)) c.read.new.block c.read_record.result c.states.result c.states.ensures (omega arith) c.read_record.ensures c.in_ok-read.ensures.read

pub returns-clause-fits : goal.returns-clause-fits
returns-clause-fits g c = record-fitting c.args.slots c.read.new.block c.read_record.result c.read_record.ensures
