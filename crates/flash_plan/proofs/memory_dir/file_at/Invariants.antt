use Rattle.std.proofs.Common.{◌≡◌, drop}
use Rattle.flash_plan.specs.MemoryFiles.{file_of}
use Rattle.flash_plan.proofs.memory_dir.file_at.Given as goal

abbrev pub invariant-loop-file : goal.invariant-loop-file
invariant-loop-file l = file_of (drop l.file-index l.files) l.name ≡ file_of l.files l.name
