use Rattle.std.proofs.Common.{refl, inl, arith}
use Rattle.product_info.specs.Blanks.{parts, trimmed, words}
use Rattle.product_info.specs.RequirementText.{requirement_of, requirements}
use Rattle.product_info.specs.TaskText.{task_of, version_of, tasks}
use Rattle.dev_model.specs.Variables.{value}
use Rattle.flash_plan.specs.Orders.{orders}
use Rattle.flash_plan.specs.Products.{product_of}
use Rattle.flash_plan.specs.Rows.{PlanRows, RetryRows, ProductRows, QuestionRows, falcon_turned}
use Rattle.flash_plan.proofs.rows.Goals as goal

plan_rows : PlanRows
unfolding orders
plan_rows = record { whole = refl; count = refl; wiped = refl; put_in = refl; named_slot = refl; other_slot = refl; no_slot = refl; early_reboot = refl; no_partition = refl; second_update = refl; no_super = refl; last_reboot = refl; asked = refl; asked_twice = refl }

product_rows : ProductRows
unfolding parts trimmed words requirement_of requirements task_of version_of tasks product_of
product_rows = record { version = refl; no_version = refl; bad_line = refl; wanted = refl; absent = refl; skipped = refl; no_super = refl }

question_rows : QuestionRows
unfolding value
question_rows = record { all = refl; forced = refl; unmet = refl; holds = refl; fails = refl }

retry_rows : RetryRows
unfolding orders
retry_rows = record {
  planned = refl;
  left = record { count = omega arith; before = falcon_turned; taken = refl; next = inl refl };
  turned = refl;
  again = refl;
  ends = refl;
  anew = refl;
}

pub returns : goal.returns
returns c = record { plans = plan_rows; retries = retry_rows; products = product_rows; asking = question_rows }
