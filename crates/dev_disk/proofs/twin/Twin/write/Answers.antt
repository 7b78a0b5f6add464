use Rattle.dev_disk.proofs.TwinLemmas.{content-range, twice, WritesTwin-both, FailsTwin-first, FailsTwin-second}
use Rattle.dev_disk.proofs.twin.Twin.write.Goals as goal

pub returns-in_default-clause-fails : goal.returns-in_default-clause-fails
returns-in_default-clause-fails g c =
    let law = g.met.K.Disk.agrees c.args.disk.now in
    let first = content-range _ _ _ _ _ law c.requires.twin.first_inside in
    let second = content-range _ _ _ _ _ law c.requires.twin.second_inside in
    let fits = twice c.args.self.now c.args.block.now _ c.requires.size first second c.requires.twin.apart in
    FailsTwin-first _ _ _ _ fits c.in_default.ensures.fails

pub returns-in_default-write_synced-clause-fails : goal.returns-in_default-write_synced-clause-fails
returns-in_default-write_synced-clause-fails g c =
    let law = g.met.K.Disk.agrees c.args.disk.now in
    let first = content-range _ _ _ _ _ law c.requires.twin.first_inside in
    let second = content-range _ _ _ _ _ law c.requires.twin.second_inside in
    let fits = twice c.args.self.now c.args.block.now _ c.requires.size first second c.requires.twin.apart in
    FailsTwin-second _ _ _ _ _ fits c.in-Ok.ensures.writes c.in_default-write_synced.ensures.fails

pub returns-clause-writes : goal.returns-clause-writes
returns-clause-writes g c =
    let law = g.met.K.Disk.agrees c.args.disk.now in
    let first = content-range _ _ _ _ _ law c.requires.twin.first_inside in
    let second = content-range _ _ _ _ _ law c.requires.twin.second_inside in
    let fits = twice c.args.self.now c.args.block.now _ c.requires.size first second c.requires.twin.apart in
    WritesTwin-both _ _ _ _ _ fits c.in-Ok.ensures.writes c.in-Ok-write_synced.ensures.writes
