use Rattle.std.proofs.Common.{◌≡◌, take}
use Rattle.dev_model.specs.Tables.{kept, listed}
use Rattle.dev_model.proofs.merged.listed.Given as goal

-- the partitions that were passed are listed
abbrev pub invariant-loop-part : goal.invariant-loop-part
invariant-loop-part l = l.entries ≡ listed (record l.tables { partitions = take l.part-index l.tables.partitions }) (kept l.dev l.wipe)
