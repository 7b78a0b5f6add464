use Rattle.std.proofs.Common.{◌∙◌, ◌++◌, ◌-◌, ◌+◌, ap, arith}
use Rattle.sample_product.specs.Images.{groups}
use Rattle.sample_product.proofs.DrawLemmas.{put-chunks, put-groups}
use Rattle.sample_product.proofs.sparse.put_groups.Goals as goal

pub loop-group-preserved : goal.loop-group-preserved
loop-group-preserved c =
    let n = c.args.count in
    let i = c.loop-group._group in
    let more = c.put_chunks.new.bytes.items in
    ap (λ s. more ++ groups (n - (i + 1)) s) c.in_ok-put_chunks.ensures.after
    ∙ put-chunks n i c.loop-group.draws.state _ c.loop-group.bytes.items c.loop-group-test.true c.loop-group.invariant c.in_ok-put_chunks.ensures.put

pub returns : goal.returns
returns c = record {
  put = put-groups (c.args.count - c.loop-group._group) c.loop-group.draws.state _ c.loop-group.bytes.items (omega (arith, c.loop-group-test.false, c.loop-group.auto._group-end)) c.loop-group.invariant;
}
