-- A device that a new port may tell, though it tells none.
use Rattle.std.proofs.Common.{[], None, false}
use Rattle.fb_frame.specs.declared.slot.Slot.TheVariants as slot
use Rattle.dev_model.specs.declared.device.Dev.{Dev}
use Rattle.dev_model.specs.declared.device.Mode.TheVariants as mode
use Rattle.dev_model.specs.declared.device.SlotFlags.{SlotFlags}

no-flags : SlotFlags
no-flags = record { successful = false; unbootable = false; retries = 0 }

pub any-device : Dev
any-device = record {
  product = [];
  serial = [];
  vars = [];
  slots = 0;
  active = slot.A;
  flags = record { a = no-flags; b = no-flags };
  locked = false;
  mode = mode.Halted;
  max = 0;
  physical = [];
  super_name = None;
  geometry = record { max_size = 0; slots = 0 };
  groups = [];
  logical = [];
  unit = 0;
  units = 0;
  super_size = 0;
  table_minor = 0;
  table_flags = 0;
}
