use Rattle.std.proofs.Common.{ap, arith, Err}
use Rattle.dev_disk.specs.Disks.{open_bytes}
use Rattle.dev_store.proofs.ImageReads.{layout-read, layout-unread}
use Rattle.dev_store.proofs.LaidLemmas.{laid_valid}
use Rattle.dev_store.proofs.image_read.read_first.Goals as goal

pub returns-in-Ok-clause-read : goal.returns-in-Ok-clause-read
returns-in-Ok-clause-read g c =
    layout-read (open_bytes (g.K.Disk.told c.args.disk.now)) c.read_at.new.buf c.text_in.result.now c.in-Ok.layout c.in_ok-read_at.ensures.read (omega arith) c.text_in.ensures c.in-Ok.ensures.layout

pub returns-in-Ok-clause-laid : goal.returns-in-Ok-clause-laid
returns-in-Ok-clause-laid g c = laid_valid c.text_in.result.now c.in-Ok.layout c.in-Ok.ensures.layout

pub returns-in-Err-Bad-clause-bad : goal.returns-in-Err-Bad-clause-bad
returns-in-Err-Bad-clause-bad g c = λ bad e. (
  cc,
  layout-unread (open_bytes (g.K.Disk.told c.args.disk.now)) c.read_at.new.buf c.text_in.result.now c.in-Err-Bad.field-0-0 c.in_ok-read_at.ensures.read (omega arith) c.text_in.ensures
      (c.in-Err-Bad.ensures.bad c.in-Err-Bad.field-0-0 (ap Err c.in-Err-Bad.field-0-is)),
)
