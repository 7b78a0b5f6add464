use Rattle.std.proofs.Common.{◌+◌, sym, subst}
use Rattle.dev_model.specs.Variables.{all_rows}
use Rattle.dev_store.specs.StoreCalls.{started_in}
use Rattle.device_engine.proofs.AllTold.{AreTold, told-next}
use Rattle.device_engine.proofs.getvar.tell_rows.Goals as goal

pub loop-place-preserved : goal.loop-place-preserved
loop-place-preserved g c =
    let rows = all_rows (started_in c.args.userspace c.args.store.now.device) in
    subst (AreTold rows (c.loop-place.place + 1)) (sym c.push.ensures.pushed)
    (told-next rows c.loop-place.place c.loop-place.replies c.in-Some.line c.loop-place.invariant c.in-Some.ensures)
