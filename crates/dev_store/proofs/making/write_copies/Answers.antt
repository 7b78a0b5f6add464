use Rattle.std.proofs.Common.{◌∙◌, refl, arith, length}
use Rattle.dev_store.proofs.MakingLemmas.{copy-inside, Writes-none, Writes-copy}
use Rattle.dev_store.proofs.TableCopies.{Fails-copy}
use Rattle.dev_store.proofs.making.write_copies.Goals as goal

pub loop-copy-init : goal.loop-copy-init
loop-copy-init g c = record { same = refl; placed = omega arith; writes = Writes-none _ _ }

pub write_at-requires : goal.write_at-requires
write_at-requires g c =
    let i = c.loop-copy.invariant in
    record {
      inside = copy-inside _ _ c.args.at c.loop-copy.place c.loop-copy._copy c.args.count (length c.args.block.now) i.writes.kept.length c.requires.inside c.loop-copy-test.true i.placed;
    }

pub loop-copy-preserved : goal.loop-copy-preserved
loop-copy-preserved g c =
    let i = c.loop-copy.invariant in
    record {
      same = c.in-Ok.ensures.same ∙ i.same;
      placed = omega (arith, i.placed);
      writes = Writes-copy _ _ _ c.args.at c.loop-copy.place c.loop-copy._copy c.args.count c.args.block.now (g.met.K.Disk.agrees c.args.disk.now) c.requires.inside c.loop-copy-test.true
          i.placed i.writes c.in-Ok.ensures.writes;
    }

pub returns-in_default-clause-left : goal.returns-in_default-clause-left
returns-in_default-clause-left g c =
    let i = c.loop-copy.invariant in
    Fails-copy _ _ _ c.args.at c.loop-copy.place c.loop-copy._copy c.args.count c.args.block.now c.loop-copy-test.true i.placed i.writes c.in_default.ensures.fails
