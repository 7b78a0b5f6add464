use Rattle.std.proofs.Common.{◌+◌, arith}
use Rattle.super_meta.specs.Contents.{content}
use Rattle.dev_store.specs.Building.{planned_range}
use Rattle.dev_store.proofs.BuildLaws.{range-here, units-here, built-here}
use Rattle.dev_store.proofs.layout.SuperPart.add_range.Goals as goal

pub add_planned-requires-clause-units : goal.add_planned-requires-clause-units
add_planned-requires-clause-units c =
    let t = content c.args.table.now in
    let here = range-here t c.args.parts.now c.loop-place.place c.args.to c.index.result.now c.planned_as-planned.result c.loop-place-test.true c.requires.within c.requires.many c.index.ensures c.planned_as-planned.ensures in
    let units = units-here c.args.owners.now c.planned_as-planned.result (planned_range t c.args.parts.now (c.loop-place.place + 1) c.args.to) _ here in
    omega (arith, units, c.loop-place.invariant.units, c.requires.units)

pub loop-place-preserved : goal.loop-place-preserved
loop-place-preserved c =
    let t = content c.args.table.now in
    let rest = planned_range t c.args.parts.now (c.loop-place.place + 1) c.args.to in
    let here = range-here t c.args.parts.now c.loop-place.place c.args.to c.index.result.now c.planned_as-planned.result c.loop-place-test.true c.requires.within c.requires.many c.index.ensures c.planned_as-planned.ensures in
    let units = units-here c.args.owners.now c.planned_as-planned.result rest _ here in
    let i = c.loop-place.invariant in
    record {
      table = built-here c.args.self.now c.args.owners.now (content c.loop-place.next) (content c.add_planned.new.next) c.planned_as-planned.result rest _ _ here c.add_planned.ensures.table i.table;
      units = omega (arith, units, i.units, c.add_planned.ensures.units);
      few = omega (arith, i.few, c.add_planned.ensures.few, c.loop-place-test.true);
      room = c.add_planned.ensures.room;
    }
