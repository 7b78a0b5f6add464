-- Worked examples, which `rows` of this crate names.
use Rattle.std.specs.Prelude.{◌≡◌, [], ◌∷◌, ◌++◌, Some, None, codes, true, false}
use Rattle.fb_message.specs.declared.command.BootTarget.TheVariants.{System, Fastboot}
use Rattle.product_info.specs.declared.info.InfoKind.TheVariants.{NoVersion, BadVersion, BadLine, NotText}
use Rattle.product_info.specs.declared.requirement.ReqKind.TheVariants.{Require, Reject, Exists}
use Rattle.product_info.specs.declared.task.Action.TheVariants.{Flash, Reboot, UpdateSuper, Erase}
use Rattle.product_info.specs.Reading.{Lists, Fails}
use Rattle.product_info.specs.RequirementText.{requirement_of, requirements}
use Rattle.product_info.specs.Meeting.{matches}
use Rattle.product_info.specs.TaskText.{task_of, tasks}

pub record Rows : Type 0 where
  pub values : requirement_of 1 (codes "require version-bootloader=1.2*|2.0")
      ≡ Some (record { line = 1; product = None; kind = Require; name = codes "version-bootloader"; values = codes "1.2*" ∷ codes "2.0" ∷ [] })
  pub rejected : requirement_of 2 (codes "reject a = 1.3")
      ≡ Some (record { line = 2; product = None; kind = Reject; name = codes "a"; values = codes "1.3" ∷ [] })
  pub one_product : requirement_of 3 (codes "require-for-product:eagle a=9")
      ≡ Some (record { line = 3; product = Some (codes "eagle"); kind = Require; name = codes "a"; values = codes "9" ∷ [] })
  pub board : requirement_of 4 (codes "board=falcon")
      ≡ Some (record { line = 4; product = None; kind = Require; name = codes "product"; values = codes "falcon" ∷ [] })
  pub partition : requirement_of 5 (codes "require partition-exists=boot")
      ≡ Some (record { line = 5; product = None; kind = Exists; name = codes "boot"; values = [] })
  pub no_name : requirement_of 6 (codes "require =1") ≡ None
  pub no_list : requirement_of 7 (codes "a=1|") ≡ None
  pub required : requirement_of 8 (codes "require=1")
      ≡ Some (record { line = 8; product = None; kind = Require; name = codes "require"; values = codes "1" ∷ [] })
  pub second_bad : requirements (codes "# c" ++ 10 ∷ codes "a=1" ++ 13 ∷ 10 ∷ codes "b") ≡ Fails 3 BadLine
  pub not_text : requirements (9 ∷ codes "#" ++ 128 ∷ 10 ∷ 128 ∷ []) ≡ Fails 2 NotText
  pub star : matches (codes "1.25") (codes "1.2*") ≡ true
  pub no_star : matches (codes "1.25") (codes "1.2") ≡ false
  pub flashed : task_of 1 (codes "flash boot")
      ≡ Some (record { line = 1; if_wipe = false; action = Flash (codes "boot") (codes "boot.img") false })
  pub flagged : task_of 2 (codes "flash --slot-other --apply-vbmeta system other.img")
      ≡ Some (record { line = 2; if_wipe = false; action = Flash (codes "system") (codes "other.img") true })
  pub twice : task_of 3 (codes "flash --slot-other --slot-other system") ≡ None
  pub wiped : task_of 4 (codes "if-wipe erase userdata")
      ≡ Some (record { line = 4; if_wipe = true; action = Erase (codes "userdata") })
  pub rebooted : task_of 5 (codes "reboot") ≡ Some (record { line = 5; if_wipe = false; action = Reboot System })
  pub restarted : task_of 6 (codes "reboot  fastboot") ≡ Some (record { line = 6; if_wipe = false; action = Reboot Fastboot })
  pub updated : task_of 7 (codes "update-super") ≡ Some (record { line = 7; if_wipe = false; action = UpdateSuper })
  pub alone : task_of 8 (codes "flash") ≡ None
  pub nothing : tasks [] ≡ Fails 1 NoVersion
  pub version : tasks (codes "version 2") ≡ Fails 1 BadVersion
  pub leading_zero : tasks (codes "version 01") ≡ Fails 1 NoVersion
  pub whole : tasks (10 ∷ codes "version  1" ++ 10 ∷ codes "reboot" ++ 13 ∷ 10 ∷ [])
      ≡ Lists (record { line = 3; if_wipe = false; action = Reboot System } ∷ [])
