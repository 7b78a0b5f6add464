-- A small phone, its product and its folder, for the worked examples.
use Rattle.std.specs.Prelude.{ℕ, Bool, true, false, List, [], ◌∷◌, ◌++◌, map, Some, None, codes}
use Rattle.fb_message.specs.declared.command.BootTarget.TheVariants as target
use Rattle.dev_model.specs.declared.device.Dev.{Dev}
use Rattle.dev_model.specs.declared.device.Mode.TheVariants.{Bootloader}
use Rattle.dev_model.specs.Examples.{phone, physical, group}
use Rattle.product_info.specs.declared.task.Action.{Action}
use Rattle.product_info.specs.declared.task.Action.TheVariants.{Flash, Reboot, UpdateSuper, Erase}
use Rattle.product_info.specs.declared.task.Task.{Task}
use Rattle.flash_plan.specs.declared.options.Options.{Options}
use Rattle.flash_plan.specs.declared.options.SlotChoice.{SlotChoice}
use Rattle.flash_plan.specs.declared.options.SlotChoice.TheVariants.{Current}
use Rattle.product_info.specs.declared.requirement.ReqKind.TheVariants.{Require}
use Rattle.flash_plan.specs.declared.product.Product.{Product}
use Rattle.flash_plan.specs.Moves.{Work}

-- a phone with both slots' partitions and userdata, and a super without partitions
abbrev pub falcon : Dev
falcon = record (phone (group (codes "default") 0 ∷ []) []) {
  mode = Bootloader;
  physical = map (λ name. physical name [])
      (codes "bootloader_a" ∷ codes "bootloader_b" ∷ codes "radio_a" ∷ codes "radio_b" ∷ codes "boot_a"
      ∷ codes "boot_b"
      ∷ codes "vbmeta_a" ∷ codes "vbmeta_b" ∷ codes "userdata" ∷ []);
}

-- a phone with these partitions, but without super
abbrev pub falcon_slots : Dev
falcon_slots = record falcon { super_name = None; groups = [] }

abbrev pub task : ℕ → Bool → Action → Task
task line if_wipe action = record { line = line; if_wipe = if_wipe; action = action }

abbrev pub flash : ℕ → List ℕ → Task
flash line name = task line false (Flash name (name ++ codes ".img") false)

-- the tasks of the falcon's fastboot-info.txt up to its erasure
abbrev pub first_tasks : List Task
first_tasks =
    flash 3 (codes "bootloader") ∷ flash 4 (codes "radio") ∷ task 5 false (Reboot target.Bootloader) ∷ flash 6
    (codes "boot")
    ∷ flash 7 (codes "vbmeta") ∷ []

abbrev pub super_tasks : List Task
super_tasks =
    task 9 false UpdateSuper ∷ flash 10 (codes "system") ∷ flash 11 (codes "vendor") ∷ flash 12
    (codes "product")
    ∷ task 13 false (Flash (codes "system") (codes "system_other.img") true) ∷ []

abbrev pub erasure : Task
erasure = task 14 true (Erase (codes "userdata"))

abbrev pub falcon_work : List Task → Work
falcon_work tasks = record {
  tasks = tasks;
  sizes = 8192 ∷ 4096 ∷ 163840 ∷ 4096 ∷ 200704 ∷ 65536 ∷ 16384 ∷ 8192 ∷ [];
  listed = codes "system_a" ∷ codes "vendor_a" ∷ codes "product_a" ∷ codes "system_b" ∷ codes "vendor_b"
      ∷ codes "product_b" ∷ [];
}

-- one flash of a partition `boot`, and other tasks around it
abbrev pub plain_work : List Task → Work
plain_work tasks = record { tasks = tasks; sizes = 4096 ∷ 4096 ∷ []; listed = [] }

abbrev pub with_slot_of : SlotChoice → Options
with_slot_of slot = record { slot = slot; wipe = false; skip_reboot = false; force = false; retries = 0 }

abbrev pub wiping : Options
wiping = record (with_slot_of Current) { wipe = true }

-- a product that wants a product and a version, and flashes one partition
abbrev pub wanting : Product
wanting = record {
  requirements = record {
    line = 1;
    product = Some (codes "eagle");
    kind = Require;
    name = codes "color";
    values = codes "red" ∷ [];
  }
      ∷ record {
        line = 2;
        product = None;
        kind = Require;
        name = codes "version-bootloader";
        values = codes "1.2*" ∷ [];
      } ∷ [];
  tasks = flash 2 (codes "userdata") ∷ [];
  images = [];
  empty = None;
}

-- a product without tasks
abbrev pub untasked : Product
untasked = record { requirements = []; tasks = []; images = []; empty = None }
