-- Lines that are put in pieces.
use Rattle.std.proofs.Common.{OnErr, Result, Ok, Err}

-- what is so is so of an error too
pub on-err : {T E : Type 0} (r : Result T E) (P : Type 0) → P → OnErr r P
on-err (Ok x) P p = tt
on-err (Err e) P p = p
