use Rattle.std.specs.Prelude.{refl}
use Rattle.std.specs.Fmt.{digits}
use Rattle.hex.specs.Hex.{encode_with}
use Rattle.dev_model.specs.Images.{image}
use Rattle.dev_model.specs.Variables.{value, all_rows}
use Rattle.product_info.specs.Blanks.{parts, trimmed, words}
use Rattle.product_info.specs.RequirementText.{requirement_of, requirements}
use Rattle.product_info.specs.TaskText.{task_of, version_of, tasks}
use Rattle.flash_plan.specs.Orders.{orders}
use Rattle.flash_plan.specs.Products.{product_of}
use Rattle.host_top.specs.Rows.{FlashRows, OtherRows}
use Rattle.host_top.proofs.rows.Goals as goal

flash_rows : FlashRows
unfolding parts trimmed words requirement_of requirements task_of version_of tasks product_of orders image value all_rows digits
flash_rows = record { done = refl; done_status = refl; empty = refl; too_large = refl; locked = refl; locked_status = refl; locked_reboot = refl; early = refl; no_partition = refl; unmet = refl; met = refl; other_value = refl; forced = refl; bad_version = refl; bad_line = refl; no_file = refl; no_version = refl; no_slot = refl; elsewhere = refl; absent = refl; bad = refl; bad_status = refl }

other_rows : OtherRows
unfolding value all_rows digits encode_with
other_rows = record { usage = refl; sample = refl; product = refl; size = refl; slot = refl; slot_status = refl; all = refl; peer = refl; long_peer = refl }

pub returns : goal.returns
returns c = record { flashes = flash_rows; others = other_rows }
