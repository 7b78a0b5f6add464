use Rattle.std.proofs.Common.{arith}
use Rattle.dev_disk.specs.Disks.{open_bytes}
use Rattle.dev_disk.proofs.TwinLemmas.{content-range}
use Rattle.dev_store.proofs.StateRepairs.{ok-more, err-more}
use Rattle.dev_store.proofs.StateWrites.{states-written, states-within, states-left}
use Rattle.dev_store.proofs.state_write.write_states.Goals as goal

pub returns-clause-written : goal.returns-clause-written
returns-clause-written g c =
    ok-more c.write.result (λ w. states-written c.args.slots c.args.state.now c.write_record.new.block c.states.result (open_bytes (g.K.Disk.told c.args.disk.now)) (open_bytes (g.K.Disk.told c.write.new.disk))
    (record { fits = c.requires.fits; whole = c.write_record.ensures; long = omega arith }) c.states.ensures w.both) c.write.ensures.writes

pub returns-clause-left : goal.returns-clause-left
returns-clause-left g c =
    err-more c.write.result (λ f honest. states-left c.args.slots c.args.state.now c.write_record.new.block c.states.result (g.K.Disk.told c.args.disk.now) (g.K.Disk.told c.write.new.disk)
    (record { fits = c.requires.fits; whole = c.write_record.ensures; long = omega arith }) c.states.ensures honest f) c.write.ensures.fails

pub returns-clause-within : goal.returns-clause-within
returns-clause-within g c =
    let range = content-range _ _ _ 0 12288 (g.met.K.Disk.agrees c.args.disk.now) c.requires.inside in
    states-within c.args.slots c.args.state.now c.write_record.new.block c.states.result (g.K.Disk.told c.args.disk.now) (g.K.Disk.told c.write.new.disk) c.write.result
    (record { fits = c.requires.fits; whole = c.write_record.ensures; long = omega arith }) c.states.ensures range c.write.ensures.writes c.write.ensures.fails
