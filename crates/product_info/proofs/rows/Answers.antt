use Rattle.std.specs.Prelude.{refl}
use Rattle.product_info.specs.Blanks.{parts, trimmed, words}
use Rattle.product_info.specs.RequirementText.{requirement_of, requirements}
use Rattle.product_info.specs.TaskText.{task_of, version_of, tasks}
use Rattle.product_info.proofs.rows.Goals as goal

pub returns : goal.returns
unfolding parts trimmed words requirement_of requirements task_of version_of tasks
returns c = record { values = refl; rejected = refl; one_product = refl; board = refl; partition = refl; no_name = refl; no_list = refl; required = refl; second_bad = refl; not_text = refl; star = refl; no_star = refl; flashed = refl; flagged = refl; twice = refl; wiped = refl; rebooted = refl; restarted = refl; updated = refl; alone = refl; nothing = refl; version = refl; leading_zero = refl; whole = refl }
