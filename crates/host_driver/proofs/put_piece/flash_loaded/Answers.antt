use Rattle.std.proofs.Common.{refl}
use Rattle.host_driver.proofs.FlashLemmas.{Flashed-okay, Flash-fail, Flash-broken, Flash-unshown, flash-some}
use Rattle.host_driver.proofs.put_piece.flash_loaded.Goals as goal

pub returns-in-Okay-clause-flashed : goal.returns-in-Okay-clause-flashed
returns-in-Okay-clause-flashed g c =
    let e = c.in-Okay.ensures in
    Flashed-okay c.args.name.now _ _ _ c.requires.serving e.concluded e.kept

pub returns-in-Fail-clause-fails : goal.returns-in-Fail-clause-fails
returns-in-Fail-clause-fails g c =
    let e = c.in-Fail.ensures in
    Flash-fail c.args.name.now _ _ _ _ c.requires.serving e.concluded e.kept c.hang_up.ensures.drops c.hang_up.ensures.sound

pub returns-in-Broken-clause-fails : goal.returns-in-Broken-clause-fails
returns-in-Broken-clause-fails g c =
    let e = c.in-Broken.ensures in
    Flash-broken c.args.name.now _ _ _ c.in-Broken.error _ (flash-some c.args.name.now c.bytes-bytes.ensures.name) c.stopped.ensures c.requires.serving e.broke e.why e.sent e.cut e.exchange e.kept

pub returns-in-Unshown-clause-fails : goal.returns-in-Unshown-clause-fails
returns-in-Unshown-clause-fails g c =
    let e = c.in-Unshown.ensures in
    Flash-unshown c.args.name.now _ _ c.requires.serving (e.part c.in-Unshown.lost refl) e.cut e.exchange e.kept
