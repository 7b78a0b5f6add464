use Rattle.host_driver.proofs.PieceLemmas.{Bytes-sent}
use Rattle.host_driver.proofs.tables.send_bytes_since.Goals as goal

pub returns-in-Ok-finish-clause-sent : goal.returns-in-Ok-finish-clause-sent
returns-in-Ok-finish-clause-sent g c =
    Bytes-sent c.args.bytes.now _ (g.P.Port.told c.args.parts.port) _ c.args.parts.left _ c.requires.begun c.requires.unsent
    (let put = c.in-Ok.ensures.all in rw c.new-out.ensures at put) c.in-Ok-finish.ensures.sent
