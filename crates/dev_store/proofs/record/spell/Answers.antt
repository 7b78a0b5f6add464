use Rattle.std.proofs.Common.{◌∙◌, ap}
use Rattle.fb_frame.specs.Bytes.{zeros}
use Rattle.dev_disk.specs.Files.{written}
use Rattle.dev_store.proofs.WrittenLemmas.{record-written}
use Rattle.dev_store.proofs.record.spell.Goals as goal

pub returns : goal.returns
returns c =
    let head = c.record_head-head in
    c.put-2.ensures.put
    ∙ (ap (λ b. written b 32 c.seal.result) (c.put.ensures.put ∙ ap (λ b. written b 0 head.result) (c.clear.ensures.zeros ∙ ap zeros c.requires))
    ∙ record-written c.args.version c.args.state.now head.result c.seal.result head.ensures.head head.ensures.length c.seal.ensures.digest c.seal.ensures.length)
