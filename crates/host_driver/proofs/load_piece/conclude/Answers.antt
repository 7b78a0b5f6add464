use Rattle.std.proofs.Common.{refl}
use Rattle.host_driver.proofs.LoadLemmas.{Ended-okay, Ended-fail, Ended-broken, Ended-unshown}
use Rattle.host_driver.proofs.load_piece.conclude.Goals as goal

pub returns-in-Okay-clause-ended : goal.returns-in-Okay-clause-ended
returns-in-Okay-clause-ended g c =
    let e = c.in-Okay.ensures in
    Ended-okay _ _ _ _ e.finished e.log e.kept

pub returns-in-Fail-clause-unloaded : goal.returns-in-Fail-clause-unloaded
returns-in-Fail-clause-unloaded g c =
    let e = c.in-Fail.ensures in
    Ended-fail _ _ _ _ _ c.requires.sending e.finished e.kept c.hang_up.ensures.drops c.hang_up.ensures.sound

pub returns-in-Broken-clause-unloaded : goal.returns-in-Broken-clause-unloaded
returns-in-Broken-clause-unloaded g c =
    let e = c.in-Broken.ensures in
    Ended-broken _ _ _ c.in-Broken.error _ c.stopped.ensures e.broke e.why e.given_up e.kept

pub returns-in-Unshown-clause-unloaded : goal.returns-in-Unshown-clause-unloaded
returns-in-Unshown-clause-unloaded g c =
    let e = c.in-Unshown.ensures in
    Ended-unshown _ _ _ (e.part c.in-Unshown.lost refl) e.given_up e.kept
