use Rattle.std.proofs.Common.{subst, sym, ◌∙◌, ◌≤◌}
use Rattle.wire_told.specs.Peers.{OfLink}
use Rattle.fb_link.specs.Seen.{seen}
use Rattle.host_driver.specs.PutPieces.{ArePart, HasEnded, IsUnloaded, HeardLoad}
use Rattle.host_driver.specs.Stepping.{NoFiles}
use Rattle.host_driver.proofs.LoadLemmas.{Goes-on, Loads-all, Unloaded-read, Unloaded-link, Unloaded-ended}
use Rattle.host_driver.proofs.load_piece.load_piece.Goals as goal

pub returns-in-Ok-conclude-clause-loaded : goal.returns-in-Ok-conclude-clause-loaded
returns-in-Ok-conclude-clause-loaded g c =
    let told = g.P.Port.told in
    let text = g.S.Sink.text in
    let sent = c.in-Ok-send_piece in
    let middle = seen (told sent.sending.port) (text c.announce.new.shown) in
    let last = seen (told c.in-Ok-conclude.ready) (text c.conclude.new.shown) in
    let ended = subst (λ k. HasEnded k middle last) sent.ensures.lines c.in-Ok-conclude.ensures.ended in
    Loads-all (ArePart (g.B.Bytes.content c.args.source.now) c.args.piece.now) c.size.result c.in-Ok.sending.lines _ _ (told sent.sending.port) last (λ bytes p. p.long ∙ sym c.size.ensures) c.in-Ok.ensures.begun sent.ensures.sent ended

pub returns-in-Ok-conclude-clause-goes : goal.returns-in-Ok-conclude-clause-goes
returns-in-Ok-conclude-clause-goes g c =
    let told = g.P.Port.told in
    let text = g.S.Sink.text in
    let sent = c.in-Ok-send_piece in
    let middle = seen (told sent.sending.port) (text c.announce.new.shown) in
    let last = seen (told c.in-Ok-conclude.ready) (text c.conclude.new.shown) in
    let ended = subst (λ k. HasEnded k middle last) sent.ensures.lines c.in-Ok-conclude.ensures.ended in
    let fits = subst (λ m. OfLink (λ w. m ≤ w.device.max) (told c.args.ready).peer) (sym c.size.ensures) c.requires.fits in
    Goes-on (ArePart (g.B.Bytes.content c.args.source.now) c.args.piece.now) c.size.result c.in-Ok.sending.lines _ _ (told sent.sending.port) last fits c.in-Ok.ensures.begun sent.ensures.sent ended

pub returns-in-Err-conclude-clause-unloaded : goal.returns-in-Err-conclude-clause-unloaded
returns-in-Err-conclude-clause-unloaded g c =
    let told = g.P.Port.told in
    let text = g.S.Sink.text in
    let sent = c.in-Ok-send_piece in
    let stop = c.in-Err-conclude.stop in
    let port = told sent.sending.port in
    let middle = seen port (text c.announce.new.shown) in
    let last = seen (told stop.0) (text c.conclude.new.shown) in
    let ended = subst (λ k. IsUnloaded NoFiles (HeardLoad k port.heard) middle last stop.1) sent.ensures.lines c.in-Err-conclude.ensures.unloaded in
    let fits = subst (λ m. OfLink (λ w. m ≤ w.device.max) (told c.args.ready).peer) (sym c.size.ensures) c.requires.fits in
    Unloaded-ended _ (ArePart (g.B.Bytes.content c.args.source.now) c.args.piece.now) c.size.result c.in-Ok.sending.lines _ _ port last stop.1 fits c.in-Ok.ensures.begun sent.ensures.sent ended

pub returns-in-Err-default-Read-clause-unloaded : goal.returns-in-Err-default-Read-clause-unloaded
returns-in-Err-default-Read-clause-unloaded g c =
    let told = g.P.Port.told in
    let fits = subst (λ m. OfLink (λ w. m ≤ w.device.max) (told c.args.ready).peer) (sym c.size.ensures) c.requires.fits in
    let e = c.in-Err-default-Read.ensures in
    Unloaded-read _ _ _ c.size.result c.in-Ok.sending.lines _ _ _ fits c.in-Ok.ensures.begun e.given_up (e.read c.in-Err-default-Read.field-0-1-is)

pub returns-in-Err-default-Out-clause-unloaded : goal.returns-in-Err-default-Out-clause-unloaded
returns-in-Err-default-Out-clause-unloaded g c =
    let told = g.P.Port.told in
    let fits = subst (λ m. OfLink (λ w. m ≤ w.device.max) (told c.args.ready).peer) (sym c.size.ensures) c.requires.fits in
    let e = c.in-Err-default-Out.ensures in
    Unloaded-link _ c.size.result c.in-Ok.sending.lines _ _ _ fits c.in-Ok.ensures.begun e.given_up (e.link c.in-Err-default-Out.field-0-1-is)
