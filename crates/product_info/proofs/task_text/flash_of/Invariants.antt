use Rattle.std.proofs.Common.{◌≡◌, false, length}
use Rattle.product_info.specs.Blanks.{words}
use Rattle.product_info.specs.TaskText.{flash_of}
use Rattle.product_info.proofs.task_text.flash_of.Given as goal

abbrev pub invariant-loop-word : goal.invariant-loop-word
invariant-loop-word l = flash_of l.vbmeta l.other (words l.rest) ≡ flash_of false false (words l.fn.rest)

abbrev pub decreases-loop-word : goal.decreases-loop-word
decreases-loop-word l = length l.rest
