use Rattle.std.proofs.Common.{refl, Ok, Err}
use Rattle.host_driver.proofs.AskLemmas.{asked-answer, unasked-broken, unasked-unshown}
use Rattle.host_driver.proofs.ask.ask.Goals as goal

pub returns-in-Okay-clause-asked : goal.returns-in-Okay-clause-asked
returns-in-Okay-clause-asked g c = asked-answer _ (Ok _) _ _ c.in-Okay.ensures.concluded c.in-Okay.ensures.kept

pub returns-in-Fail-clause-asked : goal.returns-in-Fail-clause-asked
returns-in-Fail-clause-asked g c = asked-answer _ (Err _) _ _ c.in-Fail.ensures.concluded c.in-Fail.ensures.kept

pub returns-in-Broken-clause-unasked : goal.returns-in-Broken-clause-unasked
returns-in-Broken-clause-unasked g c =
    let e = c.in-Broken.ensures in
    unasked-broken _ _ _ _ _ c.requires.short c.stopped.ensures e.broke e.why e.sent e.cut e.exchange e.kept

pub returns-in-Unshown-clause-unasked : goal.returns-in-Unshown-clause-unasked
returns-in-Unshown-clause-unasked g c =
    let e = c.in-Unshown.ensures in
    unasked-unshown _ _ _ (e.part c.in-Unshown.lost refl) e.cut e.exchange e.kept
