use Rattle.std.proofs.Common.{subst, arith}
use Rattle.fb_link.specs.Seen.{seen}
use Rattle.host_driver.specs.PutPieces.{HasEnded, IsUnloaded, HeardLoad}
use Rattle.host_driver.specs.Stepping.{NoFiles}
use Rattle.host_driver.proofs.DriveTables.{Bytes-loaded, Bytes-go, Bytes-ended, Bytes-link}
use Rattle.host_driver.proofs.tables.load_bytes.Goals as goal

pub returns-in-Ok-conclude-clause-loaded : goal.returns-in-Ok-conclude-clause-loaded
returns-in-Ok-conclude-clause-loaded g c =
    let told = g.P.Port.told in
    let text = g.S.Sink.text in
    let sent = c.in-Ok-send_bytes in
    let middle = seen (told sent.sending.port) (text c.announce.new.shown) in
    let last = seen (told c.in-Ok-conclude.ready) (text c.conclude.new.shown) in
    let ended = subst (λ k. HasEnded k middle last) sent.ensures.lines c.in-Ok-conclude.ensures.ended in
    Bytes-loaded c.args.bytes.now _ c.in-Ok.sending.lines _ _ (told sent.sending.port) last c.in-Ok.ensures.begun sent.ensures.sent ended (let f = c.requires.few in omega (arith, f))

pub returns-in-Ok-conclude-clause-goes : goal.returns-in-Ok-conclude-clause-goes
returns-in-Ok-conclude-clause-goes g c =
    let told = g.P.Port.told in
    let text = g.S.Sink.text in
    let sent = c.in-Ok-send_bytes in
    let middle = seen (told sent.sending.port) (text c.announce.new.shown) in
    let last = seen (told c.in-Ok-conclude.ready) (text c.conclude.new.shown) in
    let ended = subst (λ k. HasEnded k middle last) sent.ensures.lines c.in-Ok-conclude.ensures.ended in
    Bytes-go c.args.bytes.now _ c.in-Ok.sending.lines _ _ (told sent.sending.port) last c.in-Ok.ensures.begun sent.ensures.sent ended (let f = c.requires.few in omega (arith, f)) c.requires.fits

pub returns-in-Err-conclude-clause-unloaded : goal.returns-in-Err-conclude-clause-unloaded
returns-in-Err-conclude-clause-unloaded g c =
    let told = g.P.Port.told in
    let text = g.S.Sink.text in
    let sent = c.in-Ok-send_bytes in
    let stop = c.in-Err-conclude.stop in
    let port = told sent.sending.port in
    let middle = seen port (text c.announce.new.shown) in
    let last = seen (told stop.0) (text c.conclude.new.shown) in
    let ended = subst (λ k. IsUnloaded NoFiles (HeardLoad k port.heard) middle last stop.1) sent.ensures.lines c.in-Err-conclude.ensures.unloaded in
    Bytes-ended c.args.bytes.now _ c.in-Ok.sending.lines _ _ port last stop.1 c.in-Ok.ensures.begun sent.ensures.sent ended (let f = c.requires.few in omega (arith, f)) c.requires.fits

pub returns-in-Err-send_bytes-clause-unloaded : goal.returns-in-Err-send_bytes-clause-unloaded
returns-in-Err-send_bytes-clause-unloaded g c =
    let e = c.in-Err-send_bytes.ensures in
    Bytes-link c.args.bytes.now _ c.in-Ok.sending.lines _ _ _ c.in-Ok.ensures.begun e.given_up e.link (let f = c.requires.few in omega (arith, f)) c.requires.fits
