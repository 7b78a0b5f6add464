use Rattle.std.proofs.Common.{ℕ, ◌+◌, ◌<◌, ◌∙◌, sym, ap, subst, arith, drop, filter, length}
use Rattle.super_meta.specs.declared.table.Table.{Table}
use Rattle.super_meta.specs.Contents.{content}
use Rattle.dev_store.specs.LayoutLines.{unit_count}
use Rattle.dev_store.specs.SuperReads.{HasRoom}
use Rattle.dev_store.specs.Building.{built}
use Rattle.dev_store.specs.Installing.{left_as, is_left, planned_by, HasSpace}
use Rattle.dev_store.proofs.BuildLaws.{built-here}
use Rattle.dev_store.proofs.BuildInstall.{left-yes, left-no, left-many, none-left, space-here}
use Rattle.dev_store.proofs.layout.SuperPart.add_left.Goals as goal
use Rattle.dev_store.proofs.layout.SuperPart.add_left.Goals.{then-is_left, else-is_left}

pub loop-partition-preserved : goal.loop-partition-preserved
loop-partition-preserved c =
    let f = left_as (content c.args.new.now) (content c.args.table.now) in
    let t = is_left c.args.keeps (content c.args.new.now) in
    let ps = (content c.args.table.now).partitions in
    let xs = c.deref-partition-items.result.now in
    let parts = c.args.parts.now in
    let j = c.loop-partition.partition-index in
    let s = c.args.self.now in
    let o = c.args.owners.now in
    let old = c.loop-partition.invariant in
    let rest : ℕ → _ = λ (place : ℕ). planned_by f (filter t (drop (j + 1) ps)) (drop place parts) in
    elim c.if-is_left.branch [
      | then-is_left w ↦
          let many = left-many t xs ps j c.partition-item.result c.is_left.result c.deref-partition-items.ensures.value c.loop-partition-test.true c.partition-item.is c.is_left.ensures w.if-is_left.true in
          let inside : c.loop-partition.place < length parts = omega (arith, many, old.enough) in
          let here = left-yes f t xs ps parts j c.loop-partition.place c.partition-item.result w.left_as-planned.result c.is_left.result c.deref-partition-items.ensures.value c.loop-partition-test.true c.partition-item.is c.is_left.ensures w.if-is_left.true inside w.left_as-planned.ensures in
          let built-now = built-here s o (content c.loop-partition.next) (content w.add_planned.new.next) w.left_as-planned.result (rest (c.loop-partition.place + 1)) _ _ here w.add_planned.ensures.table old.table in
          let space-now = space-here s o (content c.loop-partition.next) (content w.add_planned.new.next) w.left_as-planned.result (rest (c.loop-partition.place + 1)) _ here w.add_planned.ensures.table old.space in
          let k = w.place-is in
          let h = w.next-is in
          record {
            table = (λ i. built s o (content (h i)) (rest (k i))) ∙ built-now;
            space = subst (λ (x : Table). HasSpace s o (content x) (rest c.if-is_left.place)) (sym h) (subst (λ y. HasSpace s o (content w.add_planned.new.next) (rest y)) (sym k) space-now);
            enough = omega (arith, many, old.enough, k);
            room = subst (HasRoom (unit_count s)) (sym h) w.add_planned.ensures.room;
          }
      | else-is_left w ↦
          let same = left-no t xs ps j c.partition-item.result c.is_left.result c.deref-partition-items.ensures.value c.loop-partition-test.true c.partition-item.is c.is_left.ensures w.if-is_left.false in
          let plan = ap (λ l. planned_by f l (drop c.loop-partition.place parts)) same in
          let k = w.place-is in
          let h = w.next-is in
          let fewer = ap length same in
          record {
            table = (λ i. built s o (content (h i)) (rest (k i))) ∙ (sym (ap (built s o (content c.loop-partition.next)) plan) ∙ old.table);
            space = subst (λ (x : Table). HasSpace s o (content x) (rest c.if-is_left.place)) (sym h)
                (subst (λ y. HasSpace s o (content c.loop-partition.next) (rest y)) (sym k) (subst (HasSpace s o (content c.loop-partition.next)) plan old.space));
            enough = omega (arith, fewer, old.enough, k);
            room = subst (HasRoom (unit_count s)) (sym h) old.room;
          }
    ]

pub returns-clause-table : goal.returns-clause-table
returns-clause-table c =
    let f = left_as (content c.args.new.now) (content c.args.table.now) in
    let t = is_left c.args.keeps (content c.args.new.now) in
    let ps = (content c.args.table.now).partitions in
    let n = ap length c.deref-partition-items.ensures.value in
    let none = none-left f t ps (drop c.loop-partition.place c.args.parts.now) c.loop-partition.partition-index (omega (arith, n, c.loop-partition-test.false)) in
    sym (ap (built c.args.self.now c.args.owners.now (content c.loop-partition.next)) none) ∙ c.loop-partition.invariant.table
