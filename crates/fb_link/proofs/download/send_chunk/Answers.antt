use Rattle.wire_told.proofs.ChunkLemmas.{Wrote-chunk}
use Rattle.fb_link.proofs.download.send_chunk.Goals as goal

pub returns-in-Ok-clause-wrote : goal.returns-in-Ok-clause-wrote
returns-in-Ok-clause-wrote g c =
    Wrote-chunk _ _ _ c.args.bytes.now _ _ c.requires.sending c.requires.some c.requires.within c.requires.small c.in-Ok.ensures.sends.sent
