-- The premise on failed writes, for what a device image has twice with a digest.
use Rattle.std.specs.Prelude.{ℕ}
use Rattle.std.specs.Result.{result_ok}
use Rattle.std.proofs.Common.{ap, inl}
use Rattle.dev_disk.specs.Files.{Tears, StaysTorn, unchanged}
use Rattle.dev_disk.specs.Honest.{ReadsHonestly}
use Rattle.super_meta.specs.TableText.{table_of}
use Rattle.dev_store.specs.States.{record_of}

-- What failed writes left never carries by chance a right digest over other bytes: a state's block, or a copy
-- of a table, reads as it did, as what was being written, or not at all.
pub record IsHonest (torn : Tears) : Type 0 where
  pub states : (slots : ℕ) → ReadsHonestly (record_of slots) torn
  pub tables : ReadsHonestly (λ block. result_ok (table_of block)) torn

-- failed writes that change nothing keep it
pub unchanged_is_honest : IsHonest unchanged
unchanged_is_honest = record {
  states = λ slots old bytes now h. inl (ap (record_of slots) h);
  tables = λ old bytes now h. inl (ap (λ block. result_ok (table_of block)) h);
}

-- it only gets harder to meet as time goes on
pub honest_before : (before now : Tears) → StaysTorn before now → IsHonest now → IsHonest before
honest_before before now stays h = record {
  states = λ slots old bytes left torn. h.states slots old bytes left (stays old bytes left torn);
  tables = λ old bytes left torn. h.tables old bytes left (stays old bytes left torn);
}
