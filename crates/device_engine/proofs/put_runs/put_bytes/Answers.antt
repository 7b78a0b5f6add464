use Rattle.std.proofs.Common.{◌≡◌, ◌+◌, ◌-◌, ◌≤◌, length, take, drop, arith}
use Rattle.std.proofs.lemmas.List.{length-take-le}
use Rattle.device_engine.proofs.RangeLemmas.{disk-then}
use Rattle.device_engine.proofs.PutLemmas.{put-nothing, put-more, room-less, room-far, torn-far, piece-long, piece-more}
use Rattle.device_engine.proofs.put_runs.put_bytes.Goals as goal

pub loop-done-init : goal.loop-done-init
loop-done-init g c = record { long = omega arith; put = put-nothing g.K.Disk.told g.K.Disk.lent c.args.name.now c.args.at c.args.store.now c.requires.room.whole }

pub put_piece-requires : goal.put_piece-requires
put_piece-requires g c =
    let bytes = c.args.bytes.now in
    let done = c.loop-done.done in
    let n = c.piece_len-count.result in
    let inside : done + n ≤ length bytes = omega (arith, c.loop-done.invariant.long, c.piece_len-count.ensures.within) in
    let far : length (take done bytes) ≡ done = length-take-le done bytes c.loop-done.invariant.long in
    let some = piece-long done n bytes inside in
    record {
      room = room-less g.K.Disk.told g.K.Disk.lent c.args.name.now (c.args.at + length bytes) (c.args.at + done + length (take (done + n - done) (drop done bytes))) c.loop-done.store
          (room-far g.K.Disk.told g.K.Disk.lent c.args.name.now (c.args.at + length bytes) c.args.at (take done bytes) c.args.store.now c.loop-done.store c.requires.room
          (omega (arith, far, c.loop-done.invariant.long)) c.loop-done.invariant.put) (omega (arith, some, inside));
    }

pub returns-in_default-clause-torn : goal.returns-in_default-clause-torn
returns-in_default-clause-torn g c =
    let bytes = c.args.bytes.now in
    let done = c.loop-done.done in
    let n = c.piece_len-count.result in
    let inside : done + n ≤ length bytes = omega (arith, c.loop-done.invariant.long, c.piece_len-count.ensures.within) in
    let far : length (take done bytes) ≡ done = length-take-le done bytes c.loop-done.invariant.long in
    let some = piece-long done n bytes inside in
    torn-far g.K.Disk.told g.K.Disk.lent c.args.name.now (c.args.at + length bytes) c.args.at (c.args.at + done) (length (take (done + n - done) (drop done bytes))) (length bytes) (take done bytes)
    c.args.store.now c.loop-done.store c.put_piece.new.store c.requires.room (omega (arith, far)) (omega (arith, far, some, inside)) (omega arith) c.loop-done.invariant.put
    (g.met.K.Disk.agrees c.args.store.now.disk) (g.met.K.Disk.agrees c.loop-done.store.disk) c.in_default.ensures.torn

pub returns-in_default-clause-kept : goal.returns-in_default-clause-kept
returns-in_default-clause-kept g c =
    disk-then g.K.Disk.told g.K.Disk.lent c.args.store.now.disk c.loop-done.store.disk c.put_piece.new.store.disk c.loop-done.invariant.put.kept c.put_piece.ensures.kept

pub loop-done-preserved : goal.loop-done-preserved
loop-done-preserved g c =
    let bytes = c.args.bytes.now in
    let done = c.loop-done.done in
    let n = c.piece_len-count.result in
    let far : length (take done bytes) ≡ done = length-take-le done bytes c.loop-done.invariant.long in
    record {
      long = omega (arith, c.loop-done.invariant.long, c.piece_len-count.ensures.within);
      put = put-more g.K.Disk.told g.K.Disk.lent c.args.name.now c.args.at (c.args.at + done) (take done bytes) (take (done + n - done) (drop done bytes)) (take (done + n) bytes) c.args.store.now
          c.loop-done.store c.put_piece.new.store (omega (arith, far)) (piece-more done n bytes) c.loop-done.invariant.put c.in-Ok.ensures.put c.in-Ok.ensures.whole c.put_piece.ensures.kept
          (g.met.K.Disk.agrees c.loop-done.store.disk) (g.met.K.Disk.agrees c.put_piece.new.store.disk);
    }
