use Rattle.std.proofs.Common.{ap, map, filter, drop, length, arith, length-append}
use Rattle.std.proofs.lemmas.List.{length-map}
use Rattle.super_meta.specs.declared.table.Partition.{Partition}
use Rattle.super_meta.specs.Contents.{content}
use Rattle.dev_store.specs.Installing.{is_left}
use Rattle.dev_store.specs.InstallParts.{kept_part}
use Rattle.dev_store.proofs.BuildInstall.{left-many}
use Rattle.dev_store.proofs.table_install.Keeps.add_left.Goals as goal

pub push_reserved-requires : goal.push_reserved-requires
push_reserved-requires c =
    let f = λ (p : Partition). kept_part c.args.self (content c.args.table.now) c.args.parts.now p.name in
    let t = is_left c.args.self (content c.args.new.now) in
    let ps = c.args.table.now.partitions.items in
    let i = c.loop-partition.partition-index in
    let e = ap length c.loop-partition.invariant.parts in
    let a = length-append c.loop-partition.chosen.items (map f (filter t (drop i ps))) in
    let b = length-append c.args.chosen.now.items (map f (filter t ps)) in
    let m = length-map (filter t (drop i ps)) f in
    let n = length-map (filter t ps) f in
    let d = left-many t c.deref-partition-items.result.now ps i c.partition-item.result c.is_left.result c.deref-partition-items.ensures.value c.loop-partition-test.true c.partition-item.is c.is_left.ensures c.if-is_left.true in
    omega (arith, e, a, b, m, n, d, c.requires.room, c.loop-partition.invariant.room, c.loop-partition.chosen.ok.0)
