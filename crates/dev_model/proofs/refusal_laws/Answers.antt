use Rattle.dev_model.proofs.Taken.{takes_unless_refused, flash_refuses_as_put}
use Rattle.dev_model.proofs.RefusingLemmas.{put_refused_by_length, update_refused_as_table, run_unrefused, refused_unless_run, refused_after, run_stops}
use Rattle.dev_model.proofs.refusal_laws.Goals as goal

pub returns : goal.returns
returns c = record { takes_unless_refused = takes_unless_refused; flash_refuses_as_put = flash_refuses_as_put; put_refused_by_length = put_refused_by_length; update_refused_as_table = update_refused_as_table; run_unrefused = run_unrefused; refused_unless_run = refused_unless_run; refused_after = refused_after; run_stops = run_stops }
