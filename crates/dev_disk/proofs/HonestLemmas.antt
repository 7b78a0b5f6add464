-- What failed writes left reads honestly.
use Rattle.std.proofs.Common.{inl, inr, List, ℕ, Option, ap}
use Rattle.dev_disk.specs.Files.{Tears, StaysTorn, unchanged}
use Rattle.dev_disk.specs.Twins.{IsLeft}
use Rattle.dev_disk.specs.Honest.{ReadsAs, ReadsHonestly}

-- a disk whose failed writes change nothing
pub unchanged-reads : {X : Type 0} (read : List ℕ → Option X) → ReadsHonestly read unchanged
unchanged-reads read old written left e = inl (ap read e)

-- the premise after a call gives the one before it
pub reads-before : {X : Type 0} (read : List ℕ → Option X) (before now : Tears) → StaysTorn before now → ReadsHonestly read now → ReadsHonestly read before
reads-before read before now stays h old written left t = h old written left (stays old written left t)

-- a place that holds the block, or what a failed write of it left
pub left-reads : {X : Type 0} (read : List ℕ → Option X) (torn : Tears) (old block now : List ℕ) → ReadsHonestly read torn → IsLeft torn old block now →
    ReadsAs (read old) (read block) (read now)
left-reads read torn old block now h (inl e) = inr (inl (ap read e))
left-reads read torn old block now h (inr t) = h old block now t

pub ruleset honest = (unchanged-reads, reads-before, left-reads)
