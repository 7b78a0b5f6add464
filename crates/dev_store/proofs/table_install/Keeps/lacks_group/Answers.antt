use Rattle.std.proofs.Common.{◌∙◌, sym, false, true}
use Rattle.std.specs.Prelude.{not, ◌&&◌, bytes_eq}
use Rattle.std.specs.List.{list_any}
use Rattle.super_meta.specs.Contents.{content}
use Rattle.super_meta.specs.Held.{group_name}
use Rattle.super_meta.specs.declared.table.Partition.{Partition}
use Rattle.dev_store.specs.Installing.{is_left}
use Rattle.dev_store.proofs.InstallTests.{none-step}
use Rattle.dev_store.proofs.table_install.Keeps.lacks_group.Goals as goal
use Rattle.dev_store.proofs.table_install.Keeps.lacks_group.Goals.{else-is_left-via-then-is_left+else-lacks_own, else-is_left-via-else-is_left}

pub loop-partition-preserved : goal.loop-partition-preserved
loop-partition-preserved c =
    let new = content c.args.new.now in
    let own = content c.args.table.now in
    let f = λ (p : Partition). is_left c.args.self new p && not (list_any (λ g. bytes_eq g.name (group_name own.groups p.group)) new.groups) in
    let p = c.partition-item.result in
    let is = c.is_left.ensures in
    elim c.else-is_left.branch [
      | else-is_left-via-then-is_left+else-lacks_own w ↦
          let lacks = w.lacks_own.ensures in
          none-step f c.deref-partition-items.result.now own.partitions c.loop-partition.partition-index p _ c.deref-partition-items.ensures.value c.loop-partition-test.true c.partition-item.is
          ((λ j. sym is j && sym lacks j) ∙ (λ j. w.if-is_left.true j && w.if-lacks_own.false j)) c.loop-partition.invariant
      | else-is_left-via-else-is_left w ↦
          none-step f c.deref-partition-items.result.now own.partitions c.loop-partition.partition-index p _ c.deref-partition-items.ensures.value c.loop-partition-test.true c.partition-item.is
          (λ j. (sym is ∙ w.if-is_left.false) j && not (list_any (λ g. bytes_eq g.name (group_name own.groups p.group)) new.groups)) c.loop-partition.invariant
    ]
