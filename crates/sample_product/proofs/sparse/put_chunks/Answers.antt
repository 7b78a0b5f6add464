use Rattle.std.proofs.Common.{◌++◌, ◌∙◌, ap}
use Rattle.sample_product.specs.Draws.{after, bytes}
use Rattle.sample_product.proofs.DrawLemmas.{grown}
use Rattle.sparse_image.specs.Pieces.{head_bytes}
use Rattle.sample_product.proofs.sparse.put_chunks.Goals as goal

pub returns-clause-put : goal.returns-clause-put
returns-clause-put c =
    let old = c.args.bytes.now.items in
    let x = c.args.draws.now.state in
    let a = head_bytes 0xCAC1 1 4108 in
    let b = bytes 4096 x in
    let d = head_bytes 0xCAC2 2 16 in
    let e = bytes 4 (after 4096 x) in
    let f = head_bytes 0xCAC3 1 12 in
    let one = c.in_ok-extend_from_slice.ensures.items ∙ ap (λ h. old ++ h) c.head.ensures in
    let two = grown old a b one c.in_ok-put_bytes.ensures.put in
    let three = grown old (a ++ b) d two (c.in_ok-extend_from_slice-2.ensures.items ∙ ap (λ h. c.put_bytes.new.bytes.items ++ h) c.head-2.ensures) in
    let four = grown old (a ++ b ++ d) e three (c.in_ok-put_bytes-2.ensures.put ∙ ap (λ s. c.extend_from_slice-2.new.self.items ++ bytes 4 s) c.in_ok-put_bytes.ensures.after) in
    grown old (a ++ b ++ d ++ e) f four (c.in_ok-extend_from_slice-3.ensures.items ∙ ap (λ h. c.put_bytes-2.new.bytes.items ++ h) c.head-3.ensures)
