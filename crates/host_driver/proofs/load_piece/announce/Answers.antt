use Rattle.std.proofs.Common.{refl}
use Rattle.host_driver.proofs.LoadLemmas.{Begun-load, Unbegun-fail, Unbegun-broken, Unbegun-unshown}
use Rattle.host_driver.proofs.load_piece.announce.Goals as goal

pub returns-in-Load-clause-begun : goal.returns-in-Load-clause-begun
returns-in-Load-clause-begun g c =
    let e = c.in-Load.ensures in
    Begun-load c.args.size _ _ _ _ (e.lines c.in-Load.sending refl) (e.begun c.in-Load.sending refl) e.kept

pub returns-in-Fail-clause-unloaded : goal.returns-in-Fail-clause-unloaded
returns-in-Fail-clause-unloaded g c =
    let e = c.in-Fail.ensures in
    Unbegun-fail c.args.size _ _ _ _ c.requires.fits e.concluded e.kept c.hang_up.ensures.drops c.hang_up.ensures.sound

pub returns-in-Broken-clause-unloaded : goal.returns-in-Broken-clause-unloaded
returns-in-Broken-clause-unloaded g c =
    let e = c.in-Broken.ensures in
    Unbegun-broken c.args.size _ _ c.in-Broken.error _ c.ranges.size.fits c.stopped.ensures c.requires.fits e.broke e.why e.sent e.cut e.exchange e.kept

pub returns-in-Unshown-clause-unloaded : goal.returns-in-Unshown-clause-unloaded
returns-in-Unshown-clause-unloaded g c =
    let e = c.in-Unshown.ensures in
    Unbegun-unshown c.args.size _ _ c.requires.fits (e.part c.in-Unshown.lost refl) e.cut e.exchange e.kept
