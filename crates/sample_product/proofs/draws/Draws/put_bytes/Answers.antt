use Rattle.std.proofs.Common.{◌∙◌, ◌%◌, sym, ap}
use Rattle.sample_product.specs.Draws.{next, draw}
use Rattle.sample_product.proofs.DrawLemmas.{after-more, after-none, put-none, put-more}
use Rattle.sample_product.proofs.draws.Draws.put_bytes.Goals as goal

pub loop-byte-init : goal.loop-byte-init
loop-byte-init c = record { put = put-none c.args.self.now.state c.args.bytes.now.items; after = after-none c.args.self.now.state }

pub loop-byte-preserved : goal.loop-byte-preserved
loop-byte-preserved c =
    let i = c.loop-byte.invariant in
    let n = c.loop-byte._byte in
    let x = c.args.self.now.state in
    record {
      put = put-more n x c.byte.result c.args.bytes.now.items i.put (c.byte.ensures.byte ∙ ap (λ s. draw s % 256) i.after) c.in_ok-push.ensures.items;
      after = c.byte.ensures.after ∙ ap next i.after ∙ sym (after-more n x);
    }
