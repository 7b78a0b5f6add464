use Rattle.std.proofs.Common.{arith}
use Rattle.dev_disk.specs.Disks.{open_bytes}
use Rattle.dev_disk.proofs.TwinLemmas.{content-range}
use Rattle.dev_store.specs.Reading.{IsOtherMended, AreStatesMended}
use Rattle.dev_store.proofs.StateRepairs.{told-more, own-alike, own-made, own-left, within-same, ok-more, err-more, state-written, state-left, state-within}
use Rattle.dev_store.proofs.states_read.mend_own.Goals as goal

pub returns-then-read-eq2-clause-mended : goal.returns-then-read-eq2-clause-mended
returns-then-read-eq2-clause-mended g c =
    let slots = c.args.slots in
    let r = c.args.read.now in
    told-more (IsOtherMended slots r) (AreStatesMended slots r.state) (open_bytes (g.K.Disk.told c.args.disk.now)) (λ file h. own-alike slots r file c.if-read-eq2.true h) c.requires.read

pub returns-then-read-eq2-clause-within : goal.returns-then-read-eq2-clause-within
returns-then-read-eq2-clause-within g c = within-same (open_bytes (g.K.Disk.told c.args.disk.now))

pub returns-clause-mended : goal.returns-clause-mended
returns-clause-mended g c =
    let slots = c.args.slots in
    let r = c.args.read.now in
    let old = g.K.Disk.told c.args.disk.now in
    let block = c.write_record.new.block in
    let range = content-range _ _ _ 0 12288 (g.met.K.Disk.agrees c.args.disk.now) c.requires.inside in
    ok-more c.write_copy.result (λ w. state-written (r.second) slots r.state block c.states.result (IsOtherMended slots r) (AreStatesMended slots r.state) old (g.K.Disk.told c.write_copy.new.disk)
    (record { fits = c.requires.fits; whole = c.write_record.ensures; long = omega arith }) c.states.ensures range (own-made slots r) c.requires.read w) c.write_copy.ensures.writes

pub returns-clause-left : goal.returns-clause-left
returns-clause-left g c =
    let slots = c.args.slots in
    let r = c.args.read.now in
    let old = g.K.Disk.told c.args.disk.now in
    let block = c.write_record.new.block in
    err-more c.write_copy.result (λ w. state-left (r.second) slots r.state block c.states.result (IsOtherMended slots r) old (g.K.Disk.told c.write_copy.new.disk)
    (record { fits = c.requires.fits; whole = c.write_record.ensures; long = omega arith }) c.states.ensures (own-left slots r) c.requires.read w) c.write_copy.ensures.fails

pub returns-clause-within : goal.returns-clause-within
returns-clause-within g c =
    let r = c.args.read.now in
    let range = content-range _ _ _ 0 12288 (g.met.K.Disk.agrees c.args.disk.now) c.requires.inside in
    state-within (r.second) c.args.slots r.state c.write_record.new.block c.states.result (g.K.Disk.told c.args.disk.now) (g.K.Disk.told c.write_copy.new.disk) c.write_copy.result
    (record { fits = c.requires.fits; whole = c.write_record.ensures; long = omega arith }) c.states.ensures range c.write_copy.ensures.writes c.write_copy.ensures.fails
