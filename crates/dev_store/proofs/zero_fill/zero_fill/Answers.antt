use Rattle.std.proofs.Common.{◌-◌, length, arith}
use Rattle.dev_disk.specs.Disks.{open_bytes}
use Rattle.dev_disk.proofs.TwinLemmas.{same-bytes}
use Rattle.dev_store.proofs.ZeroFill.{zeros-put, zeros-some}
use Rattle.dev_store.proofs.zero_fill.zero_fill.Goals as goal

pub returns-in_default-sync-clause-left : goal.returns-in_default-sync-clause-left
returns-in_default-sync-clause-left g c =
    let told = g.K.Disk.told in
    zeros-some c.args.part.now c.args.from (c.args.to - c.args.from) (open_bytes (told c.args.disk.now)) (open_bytes (told c.sync.new.self))
    (zeros-put c.args.part.now c.args.from (c.args.to - c.args.from) (length c.args.buffer.now) c.repeat.new.buffer (open_bytes (told c.args.disk.now)) (open_bytes (told c.fill_pieces.new.disk)) (open_bytes (told c.sync.new.self))
    c.repeat.ensures c.requires.room c.requires.whole (omega (arith, c.requires.first, c.requires.last, c.requires.order)) (same-bytes (told c.fill_pieces.new.disk) (told c.sync.new.self) c.sync.ensures.kept) c.in-Ok.ensures.written)

pub returns-clause-written : goal.returns-clause-written
returns-clause-written g c =
    let told = g.K.Disk.told in
    zeros-put c.args.part.now c.args.from (c.args.to - c.args.from) (length c.args.buffer.now) c.repeat.new.buffer (open_bytes (told c.args.disk.now)) (open_bytes (told c.fill_pieces.new.disk)) (open_bytes (told c.sync.new.self))
    c.repeat.ensures c.requires.room c.requires.whole (omega (arith, c.requires.first, c.requires.last, c.requires.order)) (same-bytes (told c.fill_pieces.new.disk) (told c.sync.new.self) c.sync.ensures.kept) c.in-Ok.ensures.written
