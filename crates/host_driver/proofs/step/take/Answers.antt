use Rattle.std.proofs.Common.{refl}
use Rattle.host_driver.proofs.TakeLemmas.{stepped-okay, stopped-fail, stopped-broken, stopped-unshown}
use Rattle.host_driver.proofs.step.take.Goals as goal

pub returns-in-Okay-clause-stepped : goal.returns-in-Okay-clause-stepped
returns-in-Okay-clause-stepped g c = λ step at. stepped-okay _ step _ _ _ at c.requires.serving c.in-Okay.ensures.concluded c.in-Okay.ensures.kept

pub returns-in-Fail-clause-stopped : goal.returns-in-Fail-clause-stopped
returns-in-Fail-clause-stopped g c = λ step at.
    stopped-fail _ step _ _ _ _ at c.requires.serving c.in-Fail.ensures.concluded c.in-Fail.ensures.kept c.hang_up.ensures.drops c.hang_up.ensures.sound

pub returns-in-Broken-clause-stopped : goal.returns-in-Broken-clause-stopped
returns-in-Broken-clause-stopped g c = λ step at.
    let e = c.in-Broken.ensures in
    stopped-broken _ step _ _ _ _ c.know_spelled.ensures.spelled c.stopped.ensures at c.requires.serving e.broke e.why e.sent e.cut e.exchange e.kept

pub returns-in-Unshown-clause-stopped : goal.returns-in-Unshown-clause-stopped
returns-in-Unshown-clause-stopped g c = λ step at.
    let e = c.in-Unshown.ensures in
    stopped-unshown _ step _ _ at c.requires.serving (e.part c.in-Unshown.lost refl) e.cut e.exchange e.kept
