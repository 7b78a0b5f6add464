use Rattle.dev_model.proofs.KeepingLemmas.{step_keeps, run_keeps, left_keeps, chain_keeps, writes_one, writes_twice, over_front, put_over_front, put_refused_again}
use Rattle.dev_model.proofs.frame_laws.Goals as goal

pub returns : goal.returns
returns c = record { step_keeps = step_keeps; run_keeps = run_keeps; left_keeps = left_keeps; chain_keeps = chain_keeps; writes_one = writes_one; writes_twice = writes_twice; over_front = over_front; put_over_front = put_over_front; put_refused_again = put_refused_again }
