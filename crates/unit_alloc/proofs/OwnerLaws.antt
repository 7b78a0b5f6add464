-- The laws of owners.
use Rattle.unit_alloc.specs.Laws.{FreeCount, HandedUnits, HandedTimes, HandedTwice}
use Rattle.unit_alloc.specs.Owning.{units_of}
use Rattle.std.proofs.Common.{◌++◌}
use Rattle.unit_alloc.proofs.FreeLemmas.{total, length-free_units}
use Rattle.unit_alloc.proofs.HandedLemmas.{times-handed, handed-handed, units_of-with_units}

pub free-count : FreeCount
unfolding total
free-count m one = length-free_units m one

pub handed-units : HandedUnits
handed-units m p q list h = units_of-with_units p q m (units_of m p ++ list) h

pub handed-times : HandedTimes
handed-times m p unit list h = times-handed unit m p list h

pub handed-twice : HandedTwice
handed-twice m p first second h = handed-handed m p first second h

pub ruleset laws = (free-count, handed-units, handed-times, handed-twice)
