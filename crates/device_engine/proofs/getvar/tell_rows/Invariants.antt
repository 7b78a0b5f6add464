use Rattle.dev_model.specs.Variables.{all_rows}
use Rattle.dev_store.specs.StoreCalls.{started_in}
use Rattle.device_engine.proofs.AllTold.{AreTold}
use Rattle.device_engine.proofs.getvar.tell_rows.Given as goal

abbrev pub invariant-loop-place : goal.invariant-loop-place
invariant-loop-place g l = AreTold (all_rows (started_in l.userspace l.store.device)) l.place l.replies
