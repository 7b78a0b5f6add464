-- Worked examples, which `rows` of this crate names.
use Rattle.std.specs.Prelude.{◌≡◌, ℕ, true, false, List, [], ◌∷◌, ◌++◌, length, Some, None, Ok, Err, codes}
use Rattle.std.specs.Prelude.{bytes_eq, if◌then◌else◌, option_map}
use Rattle.fb_frame.specs.declared.slot.Slot.TheVariants.{A, B}
use Rattle.fb_message.specs.declared.command.BootTarget.TheVariants as target
use Rattle.dev_model.specs.declared.device.Dev.{Dev}
use Rattle.dev_model.specs.declared.device.Mode.TheVariants.{System}
use Rattle.dev_model.specs.declared.step.Step.{Step}
use Rattle.dev_model.specs.declared.step.Step.TheVariants as step
use Rattle.dev_model.specs.Attempts.{Left}
use Rattle.dev_model.specs.Examples.{plain}
use Rattle.dev_model.specs.Steps.{apply, run}
use Rattle.product_info.specs.declared.info.InfoKind.TheVariants.{NoVersion, BadVersion, BadLine}
use Rattle.product_info.specs.declared.task.Action.TheVariants.{Reboot, UpdateSuper, Erase}
use Rattle.flash_plan.specs.declared.options.SlotChoice.TheVariants.{Current, Is, Other}
use Rattle.flash_plan.specs.declared.plan.Order.{Order}
use Rattle.flash_plan.specs.declared.plan.Order.TheVariants.{Active, Resize, Put, Wipe, Table, Boot}
use Rattle.flash_plan.specs.declared.plan.PlanKind.TheVariants as why
use Rattle.flash_plan.specs.declared.product.Flaw.TheVariants.{Absent, Info}
use Rattle.flash_plan.specs.Files.{Files}
use Rattle.flash_plan.specs.Facts.{facts_of}
use Rattle.flash_plan.specs.Orders.{orders}
use Rattle.flash_plan.specs.Plans.{plan_of}
use Rattle.flash_plan.specs.Products.{product_of}
use Rattle.flash_plan.specs.Questions.{probes, questions}
use Rattle.flash_plan.specs.Requiring.{holds_all, first_unmet}
use Rattle.flash_plan.specs.Examples.{falcon, falcon_slots, task, flash, first_tasks, super_tasks, erasure}
use Rattle.flash_plan.specs.Examples.{falcon_work, plain_work, with_slot_of, wiping, wanting, untasked}

-- the steps of the falcon product up to the update of super, by whether it wipes
abbrev pub before_super : List Order
before_super =
    Active A ∷ Put (codes "bootloader_a") 0 ∷ Put (codes "radio_a") 1 ∷ Boot target.Bootloader ∷ Put
    (codes "boot_a") 2
    ∷ Put (codes "vbmeta_a") 3 ∷ Boot target.Fastboot ∷ []

-- the steps after it
abbrev pub after_super : List Order
after_super =
    Resize (codes "system_a") 0 ∷ Resize (codes "vendor_a") 0 ∷ Resize (codes "product_a") 0 ∷ Resize
    (codes "system_b") 0
    ∷ Resize (codes "system_a") 200704 ∷ Put (codes "system_a") 4 ∷ Resize (codes "vendor_a") 65536 ∷ Put
    (codes "vendor_a") 5
    ∷ Resize (codes "product_a") 16384 ∷ Put (codes "product_a") 6 ∷ Resize (codes "system_b") 8192 ∷ Put
    (codes "system_b") 7 ∷ []

-- plans of the falcon product, and why there is none
pub record PlanRows : Type 0 where
  pub whole : orders (falcon_work (first_tasks ++ task 8 false (Reboot target.Fastboot) ∷ super_tasks))
      (with_slot_of Current) (facts_of falcon)
      ≡ Ok (before_super ++ Table (codes "super") false ∷ after_super ++ Boot target.System ∷ [])
  pub count : length (before_super ++ Table (codes "super") false ∷ after_super ++ Boot target.System ∷ [])
      ≡ 21
  pub wiped : orders
      (falcon_work
      (first_tasks ++ task 8 false (Reboot target.Fastboot) ∷ super_tasks ++ erasure ∷ [])) wiping
      (facts_of falcon)
      ≡ Ok (before_super ++ Table (codes "super") true ∷ after_super
      ++ Wipe (codes "userdata") ∷ Boot target.System ∷ [])
  pub put_in : orders (falcon_work (first_tasks ++ super_tasks)) (with_slot_of Current) (facts_of falcon)
      ≡ Ok (before_super ++ Table (codes "super") false ∷ after_super ++ Boot target.System ∷ [])
  pub named_slot : orders
      (plain_work
      (flash 2 (codes "bootloader") ∷ task 3 false (Reboot target.Bootloader) ∷ task 4 true
      (Erase (codes "userdata")) ∷ []))
      (record wiping { slot = Is B }) (facts_of falcon_slots)
      ≡ Ok (Active B ∷ Put (codes "bootloader_b") 0 ∷ Boot target.Bootloader ∷ Wipe
      (codes "userdata") ∷ Boot target.System ∷ [])
  pub other_slot : orders (plain_work []) (with_slot_of Other) (facts_of falcon)
      ≡ Ok (Active B ∷ Boot target.System ∷ [])
  pub no_slot : orders (plain_work (flash 2 (codes "boot") ∷ [])) (with_slot_of (Is B)) (facts_of (plain []))
      ≡ Err (0, why.NoSlot)
  pub early_reboot : orders (plain_work (task 2 false (Reboot target.System) ∷ flash 3 (codes "boot") ∷ []))
      (with_slot_of Current) (facts_of (plain []))
      ≡ Err (2, why.Reboot)
  pub no_partition : orders (plain_work (flash 2 (codes "xyz") ∷ [])) (with_slot_of Current)
      (facts_of (plain [])) ≡ Err (2, why.NoPartition)
  pub second_update : orders (falcon_work (first_tasks ++ super_tasks ++ task 15 false UpdateSuper ∷ []))
      (with_slot_of Current) (facts_of falcon)
      ≡ Err (15, why.UpdateSuper)
  pub no_super : orders (falcon_work super_tasks) (with_slot_of Current) (facts_of falcon_slots)
      ≡ Err (9, why.NoSuper)
  pub last_reboot : orders (plain_work (flash 2 (codes "boot") ∷ task 3 false (Reboot target.Recovery) ∷ []))
      (with_slot_of Current) (facts_of (plain []))
      ≡ Ok (Put (codes "boot") 0 ∷ Boot target.Recovery ∷ [])
  pub asked : probes (falcon_work super_tasks) Current (facts_of falcon)
      ≡ codes "system_a" ∷ codes "vendor_a" ∷ codes "product_a" ∷ codes "system_b" ∷ []
  pub asked_twice : probes (plain_work (flash 2 (codes "userdata") ∷ [])) Current (facts_of falcon)
      ≡ codes "userdata_a" ∷ codes "userdata" ∷ []

-- a folder of these two info files, without images
abbrev pub folder : List ℕ → List ℕ → Files
folder wanted tasks name =
    if bytes_eq name (codes "android-info.txt") then Some wanted
    else (if bytes_eq name (codes "fastboot-info.txt") then Some tasks else None)

-- folders that are no product
pub record ProductRows : Type 0 where
  pub version : product_of (folder [] (codes "version 2")) false
      ≡ Err (codes "fastboot-info.txt", Info 1 BadVersion)
  pub no_version : product_of (folder [] []) false ≡ Err (codes "fastboot-info.txt", Info 1 NoVersion)
  pub bad_line : product_of (folder [] (codes "version 1" ++ 10 ∷ codes "flash")) false
      ≡ Err (codes "fastboot-info.txt", Info 2 BadLine)
  pub wanted : product_of (folder (codes "require =1") (codes "version 1")) false
      ≡ Err (codes "android-info.txt", Info 1 BadLine)
  pub absent : product_of (folder [] (codes "version 1" ++ 10 ∷ codes "flash boot")) false
      ≡ Err (codes "boot.img", Absent)
  pub skipped : product_of (folder [] (codes "version 1" ++ 10 ∷ codes "if-wipe flash boot")) false
      ≡ Ok (record { requirements = []; tasks = []; images = []; empty = None })
  pub no_super : product_of (folder [] (codes "version 1" ++ 10 ∷ codes "update-super")) false
      ≡ Err (codes "super_empty.img", Absent)

-- what a device is asked, and whether it meets what a product wants
pub record QuestionRows : Type 0 where
  pub all : questions wanting (with_slot_of Current) falcon
      ≡ codes "slot-count" ∷ codes "current-slot" ∷ codes "max-download-size" ∷ codes "product"
      ∷ codes "version-bootloader"
      ∷ codes "is-logical:userdata_a" ∷ codes "is-logical:userdata" ∷ []
  pub forced : questions wanting (record (with_slot_of Current) { force = true }) (plain [])
      ≡ codes "slot-count" ∷ codes "max-download-size" ∷ codes "is-logical:userdata" ∷ []
  pub unmet : questions wanting (with_slot_of Current) (plain [])
      ≡ codes "slot-count" ∷ codes "max-download-size" ∷ codes "product" ∷ codes "version-bootloader" ∷ []
  pub holds : holds_all wanting.requirements falcon ≡ true
  pub fails : option_map (λ line. line.line) (first_unmet wanting.requirements (plain [])) ≡ Some 2

-- the steps of an installation for the slot that isn't active, and what the falcon is after the first of them
abbrev pub other_steps : List Step
other_steps = step.Active B ∷ step.Boot System ∷ []

abbrev pub falcon_turned : Dev
falcon_turned = apply (step.Active B) falcon

-- A retry after the other slot was made active: the plan that was made for the first device comes to the same
-- slot again. A plan made anew for the device that is met would make the first slot active.
pub record RetryRows : Type 0 where
  pub planned : plan_of (folder [] []) untasked (with_slot_of Other) falcon ≡ Ok other_steps
  pub left : Left other_steps falcon 1 falcon_turned
  pub turned : falcon_turned.active ≡ B
  pub again : run other_steps falcon_turned ≡ run other_steps falcon
  pub ends : option_map (λ dev. dev.active) (run other_steps falcon_turned) ≡ Some B
  pub anew : plan_of (folder [] []) untasked (with_slot_of Other) falcon_turned
      ≡ Ok (step.Active A ∷ step.Boot System ∷ [])

pub record Rows : Type 0 where
  pub plans : PlanRows
  pub retries : RetryRows
  pub products : ProductRows
  pub asking : QuestionRows
