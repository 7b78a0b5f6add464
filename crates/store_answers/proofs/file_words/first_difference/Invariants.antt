use Rattle.std.proofs.Common.{length, ◌-◌}
use Rattle.store_answers.proofs.file_words.first_difference.Given as goal

abbrev pub decreases-loop-place : goal.decreases-loop-place
decreases-loop-place l = length l.ours - l.place
