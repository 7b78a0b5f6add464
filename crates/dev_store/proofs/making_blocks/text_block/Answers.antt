use Rattle.fb_frame.specs.Bytes.{zeros}
use Rattle.dev_store.proofs.MakingBlocks.{text-short, text-block}
use Rattle.dev_store.proofs.making_blocks.text_block.Goals as goal

pub put-requires : goal.put-requires
put-requires c = text-short c.args.layout.now _ c.text-text.ensures.text c.text-text.ensures.read

pub returns-clause-block : goal.returns-clause-block
unfolding zeros
returns-clause-block c = text-block c.args.layout.now c.text-text.result.now _ c.text-text.ensures.text c.put.ensures.put
