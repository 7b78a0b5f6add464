use Rattle.std.proofs.Common.{◌+◌, ◌∙◌, sym, ap, drop, take, length, arith}
use Rattle.std.specs.Prelude.{if◌then◌else◌}
use Rattle.super_meta.specs.Contents.{content}
use Rattle.dev_store.specs.Supers.{bytes_in, extents_of}
use Rattle.dev_store.specs.Installing.{kept_long}
use Rattle.dev_store.proofs.BuildInstall.{kept-step, kept-end}
use Rattle.dev_store.proofs.table_install.Keeps.kept_long.Goals as goal

pub returns-then-keeps_as : goal.returns-then-keeps_as
returns-then-keeps_as c =
    let t = content c.args.table.now in
    let p = c.partition-item.result in
    let step = kept-step c.args.self t c.args.name.now c.deref-partition-items.result.now t.partitions c.loop-partition.partition-index p c.keeps_as.result c.deref-partition-items.ensures.value c.loop-partition-test.true c.partition-item.is c.keeps_as.ensures in
    c.bytes_in.ensures.bytes
    ∙ (ap bytes_in (c.extents_of.ensures.extents ∙ ap (λ l. take p.count (drop p.first l)) c.deref.ensures.value)
    ∙ (sym (step ∙ ap (λ b. if b then bytes_in (extents_of t p) else kept_long c.args.self t c.args.name.now (drop (c.loop-partition.partition-index + 1) t.partitions)) c.if-keeps_as.true)
    ∙ c.loop-partition.invariant))

pub loop-partition-preserved : goal.loop-partition-preserved
loop-partition-preserved c =
    let t = content c.args.table.now in
    let p = c.partition-item.result in
    let step = kept-step c.args.self t c.args.name.now c.deref-partition-items.result.now t.partitions c.loop-partition.partition-index p c.keeps_as.result c.deref-partition-items.ensures.value c.loop-partition-test.true c.partition-item.is c.keeps_as.ensures in
    sym (step ∙ ap (λ b. if b then bytes_in (extents_of t p) else kept_long c.args.self t c.args.name.now (drop (c.loop-partition.partition-index + 1) t.partitions)) c.if-keeps_as.false)
    ∙ c.loop-partition.invariant

pub returns : goal.returns
returns c =
    let t = content c.args.table.now in
    let n = ap length c.deref-partition-items.ensures.value in
    sym (kept-end c.args.self t c.args.name.now t.partitions c.loop-partition.partition-index (omega (arith, n, c.loop-partition-test.false))) ∙ c.loop-partition.invariant
