use Rattle.std.proofs.Common.{◌+◌, length, arith}
use Rattle.device_engine.proofs.RangeLemmas.{torn-err, room-range}
use Rattle.device_engine.proofs.put_runs.put_piece.Goals as goal

pub returns-in-Err-clause-torn : goal.returns-in-Err-clause-torn
returns-in-Err-clause-torn g c =
    let told = g.K.Disk.told in
    let at = c.args.at in
    let count = length c.args.bytes.now in
    torn-err told c.args.name.now at count c.args.store.now c.write_part.new.self c.write_part.result c.in-Err.field-0 c.in-Err.is
    (room-range told c.args.name.now at count (at + count) c.args.store.now c.requires.room (omega arith)) c.write_part.ensures.decided c.write_part.ensures.part c.write_part.ensures.sound
