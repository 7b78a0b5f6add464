use Rattle.std.proofs.Common.{◌+◌, arith}
use Rattle.sparse_image.specs.Runs.{GivesRun, run_at, run_len}
use Rattle.device_engine.proofs.RangeLemmas.{disk-then, range-in}
use Rattle.device_engine.proofs.FlashLemmas.{far-nothing, far-more, far-room, far-all, torn-under}
use Rattle.device_engine.proofs.put_runs.put_runs.Goals as goal

pub loop-run-init : goal.loop-run-init
loop-run-init g c = far-nothing g.K.Disk.told g.K.Disk.lent c.args.name.now c.args.runs.now.cells c.args.runs.now c.args.store.now c.requires.image c.requires.room.whole

pub put_run-requires-clause-room : goal.put_run-requires-clause-room
put_run-requires-clause-room g c =
    let gives : GivesRun c.loop-run.runs c.in-Some.run' c.next.new.self = c.in-Some.ensures in
    far-room g.K.Disk.told g.K.Disk.lent c.args.name.now c.args.runs.now.cells c.loop-run.runs c.args.runs.now.len (run_at c.in-Some.run' + run_len c.in-Some.run') c.args.store.now c.loop-run.store c.loop-run.invariant
    c.requires.room (omega (arith, gives.within, c.loop-run.invariant.len, c.requires.image.len))

pub put_run-requires-clause-small : goal.put_run-requires-clause-small
put_run-requires-clause-small g c =
    let gives : GivesRun c.loop-run.runs c.in-Some.run' c.next.new.self = c.in-Some.ensures in
    omega (arith, gives.within, c.loop-run.invariant.len, c.requires.image.len, c.requires.small)

pub loop-run-preserved : goal.loop-run-preserved
loop-run-preserved g c =
    let gives : GivesRun c.loop-run.runs c.in-Some.run' c.next.new.self = c.in-Some.ensures in
    let long = range-in c.args.store.now.device c.args.name.now 0 c.args.runs.now.len c.requires.room.fits in
    far-more g.K.Disk.told g.K.Disk.lent c.args.name.now c.args.runs.now.cells c.loop-run.runs c.next.new.self c.in-Some.run' c.args.store.now c.loop-run.store c.loop-run.invariant gives c.put_run.new.store
    c.requires.room.whole (omega (arith, long.1, c.requires.image.len)) c.in-Ok.ensures.put c.in-Ok.ensures.whole c.put_run.ensures.kept (g.met.K.Disk.agrees c.loop-run.store.disk)
    (g.met.K.Disk.agrees c.put_run.new.store.disk)

pub returns-in_default-put_run-clause-torn : goal.returns-in_default-put_run-clause-torn
returns-in_default-put_run-clause-torn g c =
    let gives : GivesRun c.loop-run.runs c.in-Some.run' c.next.new.self = c.in-Some.ensures in
    torn-under g.K.Disk.told g.K.Disk.lent c.args.name.now c.args.runs.now.cells c.loop-run.runs c.next.new.self c.in-Some.run' c.args.store.now c.loop-run.store c.loop-run.invariant gives c.put_run.new.store
    c.requires.room.whole (g.met.K.Disk.agrees c.args.store.now.disk) (g.met.K.Disk.agrees c.loop-run.store.disk) c.in_default-put_run.ensures.torn

pub returns-in_default-put_run-clause-kept : goal.returns-in_default-put_run-clause-kept
returns-in_default-put_run-clause-kept g c =
    disk-then g.K.Disk.told g.K.Disk.lent c.args.store.now.disk c.loop-run.store.disk c.put_run.new.store.disk c.loop-run.invariant.kept c.put_run.ensures.kept

pub returns-clause-put : goal.returns-clause-put
returns-clause-put g c =
    far-all g.K.Disk.told g.K.Disk.lent c.args.name.now c.args.runs.now.cells c.loop-run.runs c.next.new.self c.args.store.now c.loop-run.store c.loop-run.invariant c.in_default.ensures
