use Rattle.std.proofs.Common.{◌+◌, ◌<◌, ◌∙◌, sym, ap, arith, drop, length}
use Rattle.super_meta.specs.Contents.{content}
use Rattle.dev_store.specs.Building.{built}
use Rattle.dev_store.specs.Installing.{listed_as, planned_by}
use Rattle.dev_store.proofs.BuildLaws.{built-here}
use Rattle.dev_store.proofs.BuildInstall.{listed-here, space-here, space-first, none-listed}
use Rattle.dev_store.proofs.layout.SuperPart.add_listed.Goals as goal

pub add_planned-requires-clause-few : goal.add_planned-requires-clause-few
add_planned-requires-clause-few c =
    let f = listed_as c.args.keeps (content c.args.table.now) in
    let ps = (content c.args.new.now).partitions in
    let n = ap length c.as_slice-place-end.ensures.value in
    let inside : c.loop-place.place < length ps = omega (arith, n, c.loop-place-test.true) in
    let here = listed-here f c.index.result.now c.listed_as-planned.result ps c.args.parts.now c.loop-place.place inside (omega (arith, inside, c.requires.enough)) c.index.ensures c.listed_as-planned.ensures in
    (space-first c.args.self.now c.args.owners.now (content c.loop-place.next) c.listed_as-planned.result
    (planned_by f (drop (c.loop-place.place + 1) ps) (drop (c.loop-place.place + 1) c.args.parts.now)) _ here c.loop-place.invariant.space).0

pub add_planned-requires-clause-units : goal.add_planned-requires-clause-units
add_planned-requires-clause-units c =
    let f = listed_as c.args.keeps (content c.args.table.now) in
    let ps = (content c.args.new.now).partitions in
    let n = ap length c.as_slice-place-end.ensures.value in
    let inside : c.loop-place.place < length ps = omega (arith, n, c.loop-place-test.true) in
    let here = listed-here f c.index.result.now c.listed_as-planned.result ps c.args.parts.now c.loop-place.place inside (omega (arith, inside, c.requires.enough)) c.index.ensures c.listed_as-planned.ensures in
    (space-first c.args.self.now c.args.owners.now (content c.loop-place.next) c.listed_as-planned.result
    (planned_by f (drop (c.loop-place.place + 1) ps) (drop (c.loop-place.place + 1) c.args.parts.now)) _ here c.loop-place.invariant.space).1

pub loop-place-preserved : goal.loop-place-preserved
loop-place-preserved c =
    let f = listed_as c.args.keeps (content c.args.table.now) in
    let ps = (content c.args.new.now).partitions in
    let n = ap length c.as_slice-place-end.ensures.value in
    let inside : c.loop-place.place < length ps = omega (arith, n, c.loop-place-test.true) in
    let here = listed-here f c.index.result.now c.listed_as-planned.result ps c.args.parts.now c.loop-place.place inside (omega (arith, inside, c.requires.enough)) c.index.ensures c.listed_as-planned.ensures in
    let rest = planned_by f (drop (c.loop-place.place + 1) ps) (drop (c.loop-place.place + 1) c.args.parts.now) in
    let i = c.loop-place.invariant in
    record {
      table = built-here c.args.self.now c.args.owners.now (content c.loop-place.next) (content c.add_planned.new.next) c.listed_as-planned.result rest _ _ here c.add_planned.ensures.table i.table;
      space = space-here c.args.self.now c.args.owners.now (content c.loop-place.next) (content c.add_planned.new.next) c.listed_as-planned.result rest _ here c.add_planned.ensures.table i.space;
      room = c.add_planned.ensures.room;
    }

pub returns-clause-table : goal.returns-clause-table
returns-clause-table c =
    let f = listed_as c.args.keeps (content c.args.table.now) in
    let ps = (content c.args.new.now).partitions in
    let n = ap length c.as_slice-place-end.ensures.value in
    let none = none-listed f ps (drop c.loop-place.place c.args.parts.now) c.loop-place.place (omega (arith, n, c.loop-place-test.false)) in
    sym (ap (built c.args.self.now c.args.owners.now (content c.loop-place.next)) none) ∙ c.loop-place.invariant.table
