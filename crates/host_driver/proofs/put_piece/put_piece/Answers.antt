use Rattle.host_driver.proofs.PutPieceLemmas.{Has-put, Fails-loading, Fails-flashing}
use Rattle.host_driver.proofs.put_piece.put_piece.Goals as goal

pub returns-in-Ok-flash_loaded-clause-put : goal.returns-in-Ok-flash_loaded-clause-put
returns-in-Ok-flash_loaded-clause-put g c =
    Has-put _ (g.B.Bytes.content c.args.source.now) c.args.piece.now _ _ _ (λ bytes p. p) c.in-Ok.ensures.loaded c.in-Ok.ensures.goes c.in-Ok-flash_loaded.ensures.flashed

pub returns-in-Err-flash_loaded-clause-fails : goal.returns-in-Err-flash_loaded-clause-fails
returns-in-Err-flash_loaded-clause-fails g c =
    Fails-flashing _ (g.B.Bytes.content c.args.source.now) c.args.piece.now _ _ _ c.in-Err-flash_loaded.stop.1 (λ bytes p. p) c.in-Ok.ensures.loaded c.in-Ok.ensures.goes c.in-Err-flash_loaded.ensures.fails

pub returns-in-Err-clause-fails : goal.returns-in-Err-clause-fails
returns-in-Err-clause-fails g c = Fails-loading _ _ _ c.in-Err.stop.1 c.in-Err.ensures.unloaded
