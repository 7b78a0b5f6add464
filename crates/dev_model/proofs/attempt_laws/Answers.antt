use Rattle.dev_model.proofs.Runs.{left_done, left_untouched}
use Rattle.dev_model.proofs.LeavingLemmas.{run_next, left_taken, left_unheard, left_in_part, left_stopped, left_serving, chain_next, chain_unmet}
use Rattle.dev_model.proofs.LeftValid.{left_valid, chain_valid}
use Rattle.dev_model.proofs.attempt_laws.Goals as goal

pub returns : goal.returns
returns c = record { run_next = run_next; left_done = left_done; left_untouched = left_untouched; left_taken = left_taken; left_unheard = left_unheard; left_in_part = left_in_part; left_stopped = left_stopped; left_serving = left_serving; chain_next = chain_next; chain_unmet = chain_unmet; left_valid = left_valid; chain_valid = chain_valid }
