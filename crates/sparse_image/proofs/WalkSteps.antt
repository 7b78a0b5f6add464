-- The steps of a loop over the chunks of a file.
use Rattle.std.proofs.Common.{◌≡◌, ℕ, suc, ◌+◌, ◌-◌, List, [], length, drop, Option, Some, None, Result, Ok, Err, refl, sym, ap, ◌∙◌}
use Rattle.std.specs.Result.{result_err}
use Rattle.std.proofs.lemmas.List.{drop-drop, take_rest}
use Rattle.sparse_image.specs.declared.errors.SparseError.{SparseError}
use Rattle.sparse_image.specs.declared.chunk.Chunk.{Chunk}
use Rattle.sparse_image.specs.Walks.{front_of, chunk_len, end_flaw, or_flaw, walked, kept, ◌then_on◌}

then-same : (chunk : Chunk) (r : Result (List Chunk) SparseError) → result_err (r then_on λ chunks. Ok (kept chunk chunks)) ≡ result_err r
then-same chunk (Ok chunks) = refl
then-same chunk (Err e) = refl

step-same : (more block blocks place : ℕ) (rest : List ℕ) (chunk : Chunk) → front_of block blocks place (length rest) rest ≡ Ok chunk →
    result_err (walked (suc more) block blocks place rest) ≡ result_err (walked more block (blocks - chunk.blocks) (place + chunk_len block chunk) (drop (chunk_len block chunk) rest))
step-same more block blocks place rest chunk h =
    ap (λ (r : Result Chunk SparseError). result_err (r then_on λ chunk. walked more block (blocks - chunk.blocks) (place + chunk_len block chunk) (drop (chunk_len block chunk) rest) then_on λ chunks. Ok (kept chunk chunks))) h
    ∙ then-same chunk (walked more block (blocks - chunk.blocks) (place + chunk_len block chunk) (drop (chunk_len block chunk) rest))

step-stops : (more block blocks place : ℕ) (rest : List ℕ) (e : SparseError) → front_of block blocks place (length rest) rest ≡ Err e → result_err (walked (suc more) block blocks place rest) ≡ Some e
step-stops more block blocks place rest e h =
    ap (λ (r : Result Chunk SparseError). result_err (r then_on λ chunk. walked more block (blocks - chunk.blocks) (place + chunk_len block chunk) (drop (chunk_len block chunk) rest) then_on λ chunks. Ok (kept chunk chunks))) h

pub walked-next : (n m block blocks place : ℕ) (file : List ℕ) (chunk : Chunk) → n ≡ suc m → front_of block blocks place (length (drop place file)) (drop place file) ≡ Ok chunk →
    result_err (walked m block (blocks - chunk.blocks) (place + chunk_len block chunk) (drop (place + chunk_len block chunk) file)) ≡ result_err (walked n block blocks place (drop place file))
walked-next n m block blocks place file chunk e h =
    rw (e, ← drop-drop (chunk_len block chunk) place file) (sym (step-same m block blocks place (drop place file) chunk h))

pub walked-stops : (n m block blocks place : ℕ) (file : List ℕ) (e : SparseError) → n ≡ suc m → front_of block blocks place (length (drop place file)) (drop place file) ≡ Err e →
    result_err (walked n block blocks place (drop place file)) ≡ Some e
walked-stops n m block blocks place file e k h = rw k (step-stops m block blocks place (drop place file) e h)

ended : (o : Option SparseError) → result_err {T = List Chunk} (or_flaw o (Ok [])) ≡ o
ended None = refl
ended (Some e) = refl

pub walked-ends : (n block blocks place : ℕ) (rest : List ℕ) → n ≡ 0 → result_err (walked n block blocks place rest) ≡ end_flaw blocks place (length rest)
walked-ends n block blocks place rest k = rw k (ended (end_flaw blocks place (length rest)))

pub ruleset walk_steps = (walked-next, walked-stops, walked-ends, take_rest)
