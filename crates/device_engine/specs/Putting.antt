-- The bytes of an image over the bytes of a partition, run by run.
use Rattle.std.specs.Prelude.{◌≡◌, ℕ, Bool, true, false, List, length, Option, Some, None, replicate}
use Rattle.fb_frame.specs.Causes.{Rose}
use Rattle.dev_disk.specs.Disks.{DiskTold}
use Rattle.dev_model.specs.declared.cells.Cell.{Cell}
use Rattle.dev_model.specs.Partitions.{with_bytes}
use Rattle.wire_model.specs.Halts.{DiffersUnder}
use Rattle.sparse_image.specs.declared.runs.Run.{Run}
use Rattle.sparse_image.specs.declared.runs.Run.TheVariants.{Copy, Fill, Zeros}
use Rattle.dev_store.specs.Changes.{range_flaw, repeated}
use Rattle.dev_store.specs.Held.{Held, IsSound, IsWhole}
use Rattle.dev_store.specs.StoreCalls.{part_bytes, IsPartly}

-- the bytes of a run
abbrev pub run_bytes : Run → List ℕ
run_bytes (Copy at bytes) = bytes.now
run_bytes (Fill at length pattern) = repeated length pattern
run_bytes (Zeros at length) = replicate length 0

-- the first so many bytes of the partition of a name can be written
pub record HasRoom {K : Type 0} (told : K → DiskTold) (name : List ℕ) (end : ℕ) (held : Held K) : Type 0 where
  pub whole : IsWhole told held
  pub fits : range_flaw held.device name 0 end ≡ None

-- The disk failed while a range of a partition was written: the range may hold any bytes.
pub record IsTorn {K : Type 0} (told : K → DiskTold) (name : List ℕ) (at count : ℕ)
    (old new : Held K) : Type 0 where
  pub part : IsPartly name at count old.device new.device
  pub sound : IsSound told new
  pub rose : Rose (told old.disk).faults (told new.disk).faults

-- The disk failed while an image was put over a partition: any byte that the image has may be there, and no
-- other one changed.
pub record IsTornUnder {K : Type 0} (told : K → DiskTold) (name : List ℕ) (cells : List Cell)
    (old new : Held K) : Type 0 where
  pub under : DiffersUnder cells (part_bytes name old.device) (part_bytes name new.device)
  pub same : new.device ≡ with_bytes name (λ _. part_bytes name new.device) old.device
  pub sound : IsSound told new
  pub rose : Rose (told old.disk).faults (told new.disk).faults

-- The disk failed while a partition was written whole: it may hold any bytes, as many as before.
pub record IsTornOver {K : Type 0} (told : K → DiskTold) (name : List ℕ) (old new : Held K) : Type 0 where
  pub long : length (part_bytes name new.device) ≡ length (part_bytes name old.device)
  pub same : new.device ≡ with_bytes name (λ _. part_bytes name new.device) old.device
  pub sound : IsSound told new
  pub rose : Rose (told old.disk).faults (told new.disk).faults

-- whether a partition is flashed and erased: a logical one in userspace alone
abbrev pub is_target_by : Option Bool → Bool → Bool
is_target_by None userspace = false
is_target_by (Some false) userspace = true
is_target_by (Some true) userspace = userspace
