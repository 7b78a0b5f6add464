use Rattle.std.proofs.Common.{◌≡◌, take}
use Rattle.dev_store.specs.Supers.{bytes_in}
use Rattle.dev_store.proofs.variables_find.size_of.Given as goal

abbrev pub invariant-loop-extent : goal.invariant-loop-extent
invariant-loop-extent l = l.size ≡ bytes_in (take l.extent-index l.extents)
