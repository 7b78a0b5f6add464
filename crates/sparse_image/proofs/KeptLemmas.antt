-- What is kept of a file is well.
use Rattle.std.proofs.Common.{◌≡◌, ℕ, zero, suc, ◌+◌, ◌-◌, ◌*◌, ◌<◌, ◌≤◌, Bool, true, false, List, [], length, drop, length-drop, Result, Ok, Err, refl, ◌∙◌, subst, arith, ⊎_elim, zero-add}
use Rattle.std.specs.Prelude.{◌^◌, ◌/◌, ◌%◌, if◌then◌else◌}
use Rattle.std.specs.List.{sum_by, All}
use Rattle.std.proofs.lemmas.List.{drop-drop}
use Rattle.std.proofs.lemmas.List.Sums.{sum_by-cons}
use Rattle.std.proofs.lemmas.List.Elements.{All-nil, All-cons}
use Rattle.std.proofs.lemmas.Bool.Decides.{nat_tests, eqb_tells, leb_tells}
use Rattle.dev_model.specs.Images.{is_sparse, round_up}
use Rattle.sparse_image.specs.declared.errors.SparseError.{SparseError}
use Rattle.sparse_image.specs.declared.chunk.Chunk.{Chunk}
use Rattle.sparse_image.specs.declared.walk.Header.{Header}
use Rattle.sparse_image.specs.Walks.{Kept, checked, sparse_checked, raw_checked, raw_kept, header_of, front_of, walked, kept, chunk_len, source_of, or_flaw, end_flaw, LiesIn, flaw, ◌then_on◌}
use Rattle.sparse_image.specs.declared.errors.SparseKind.TheVariants.{TooLong, Empty}
use Rattle.sparse_image.specs.Pieces.{whole_len}
use Rattle.sparse_image.proofs.WalkLemmas.{front-lies, front-four, front-due, front-within, header-fine, header-long, padded-length}
use Rattle.sparse_image.proofs.CutLemmas.{IsChunk}

-- kept chunks, with the blocks that they have
pub record AreKept (block len blocks more : ℕ) (chunks : List Chunk) : Type 0 where
  pub total : sum_by (λ (c : Chunk). c.blocks) chunks ≡ blocks
  pub few : length chunks ≤ more
  pub each : All (IsChunk block len) chunks

pub no-err : {Y : Type 0} (e : SparseError) (y : Y) → ◌≡◌ {A = Result Y SparseError} (Err e) (Ok y) → ⊥
no-err e y h = cc

pub then-ok : {X Y : Type 0} (r : Result X SparseError) (f : X → Result Y SparseError) (y : Y) → (r then_on f) ≡ Ok y → (x : X) × (r ≡ Ok x) × (f x ≡ Ok y)
then-ok (Ok x) f y h = (x, refl, h)
then-ok (Err e) f y h = absurd (no-err e y h)

ended : (blocks place : ℕ) (bytes : List ℕ) (chunks : List Chunk) → or_flaw (end_flaw blocks place (length bytes)) (Ok []) ≡ Ok chunks → (chunks ≡ []) × (blocks ≡ 0)
ended blocks place bytes chunks h = (grind (arith, nat_tests), grind (arith, nat_tests))

kept-step : (block len blocks more : ℕ) (chunk : Chunk) (chunks : List Chunk) → chunk.blocks ≤ blocks → IsChunk block len chunk → AreKept block len (blocks - chunk.blocks) more chunks →
    AreKept block len blocks (suc more) (kept chunk chunks)
kept-step block len blocks more chunk chunks due own others =
    ⊎_elim
    (λ k. rw k.0 (record { total = omega (arith, others.total, k.1); few = omega (arith, others.few); each = others.each }))
    (λ k. rw k.0 (record {
      total = sum_by-cons (λ (c : Chunk). c.blocks) chunk chunks ∙ omega (arith, others.total);
      few = omega (arith, others.few);
      each = All-cons (IsChunk block len) chunk chunks own others.each;
    }))
    (eqb_tells chunk.blocks 0)

own-chunk : (block blocks place : ℕ) (file : List ℕ) (chunk : Chunk) → place ≤ length file → front_of block blocks place (length (drop place file)) (drop place file) ≡ Ok chunk → IsChunk block (length file) chunk
own-chunk block blocks place file chunk l h =
    let e : place + length (drop place file) ≡ length file = omega (arith, length-drop place file) in
    record {
      lies = subst (λ (x : ℕ). LiesIn x (chunk.blocks * block) chunk.content) e (front-lies block blocks place (length (drop place file)) (drop place file) chunk h);
      four = front-four block blocks place (drop place file) chunk h;
    }

same-chunks : (a b : List Chunk) → ◌≡◌ {A = Result (List Chunk) SparseError} (Ok a) (Ok b) → a ≡ b
same-chunks a b h = cc

walked-join : (more block blocks place : ℕ) (file : List ℕ) (chunk : Chunk) (others chunks : List Chunk) → place ≤ length file → front_of block blocks place (length (drop place file)) (drop place file) ≡ Ok chunk →
    AreKept block (length file) (blocks - chunk.blocks) more others → ◌≡◌ {A = Result (List Chunk) SparseError} (Ok (kept chunk others)) (Ok chunks) → AreKept block (length file) blocks (suc more) chunks
walked-join more block blocks place file chunk others chunks l h w e =
    subst (λ (xs : List Chunk). AreKept block (length file) blocks (suc more) xs) (same-chunks (kept chunk others) chunks e)
    (kept-step block (length file) blocks more chunk others (front-due block blocks place (length (drop place file)) (drop place file) chunk h) (own-chunk block blocks place file chunk l h) w)

walked-rest : (more block blocks place len : ℕ) (file : List ℕ) (chunks : List Chunk) → walked more block blocks (place + len) (drop len (drop place file)) ≡ Ok chunks → walked more block blocks (place + len) (drop (place + len) file) ≡ Ok chunks
walked-rest more block blocks place len file chunks h = rw (← drop-drop len place file) h

pub walked-kept : (more block blocks place : ℕ) (file : List ℕ) (chunks : List Chunk) → place ≤ length file → walked more block blocks place (drop place file) ≡ Ok chunks → AreKept block (length file) blocks more chunks
walked-kept zero block blocks place file chunks l h =
    let e = ended blocks place (drop place file) chunks h in
    rw (e.0, e.1) (record { total = refl; few = omega arith; each = All-nil (IsChunk block (length file)) })
walked-kept (suc more) block blocks place file chunks l h =
    let a = then-ok (front_of block blocks place (length (drop place file)) (drop place file)) (λ chunk. walked more block (blocks - chunk.blocks) (place + chunk_len block chunk) (drop (chunk_len block chunk) (drop place file)) then_on λ cs. Ok (kept chunk cs)) chunks h in
    let b = then-ok (walked more block (blocks - a.0.blocks) (place + chunk_len block a.0) (drop (chunk_len block a.0) (drop place file))) (λ cs. Ok (kept a.0 cs)) chunks a.2 in
    walked-join more block blocks place file a.0 b.0 chunks l a.1
    (walked-kept more block (blocks - a.0.blocks) (place + chunk_len block a.0) file b.0
    (omega (arith, front-within block blocks place (length (drop place file)) (drop place file) a.0 a.1, length-drop place file))
    (walked-rest more block (blocks - a.0.blocks) place (chunk_len block a.0) file b.0 b.1))
    b.2

-- what holds of all that is kept of a file
pub record IsWell (kept : Kept) (source : List ℕ) : Type 0 where
  pub multiple : kept.block % 512 ≡ 0
  pub low : 512 ≤ kept.block
  pub high : kept.block ≤ 65536
  pub some : 0 < kept.blocks
  pub short : kept.blocks * kept.block ≤ 2 ^ 44
  pub chunks : AreKept kept.block (length source) kept.blocks 1000000 kept.chunks
  pub long : length source ≡ whole_len kept

fewer : (block len blocks n m : ℕ) (chunks : List Chunk) → n ≤ m → AreKept block len blocks n chunks → AreKept block len blocks m chunks
fewer block len blocks n m chunks h w = record { total = w.total; few = omega (arith, w.few); each = w.each }

sparse-well : (file : List ℕ) (header : Header) (chunks : List Chunk) → header_of (length file) file ≡ Ok header → walked header.chunks header.block header.blocks 28 (drop 28 file) ≡ Ok chunks →
    IsWell (record { sparse = true; source_len = length file; block = header.block; blocks = header.blocks; chunks = chunks }) file
sparse-well file header chunks h w =
    let f = header-fine (length file) file header h in
    record {
      multiple = f.multiple;
      low = f.low;
      high = f.high;
      some = f.some;
      short = f.short;
      chunks = fewer header.block (length file) header.blocks header.chunks 1000000 chunks f.few (walked-kept header.chunks header.block header.blocks 28 file chunks (header-long (length file) file header h) w);
      long = refl;
    }

raw-well : (file : List ℕ) → 0 < length file → round_up (length file) < 2 ^ 44 → IsWell (raw_kept file) (source_of (raw_kept file) file)
raw-well file some h = record {
  multiple = refl;
  low = omega arith;
  high = omega arith;
  some = omega arith;
  short = omega arith;
  chunks = record {
    total = zero-add (round_up (length file) / 4096);
    few = omega arith;
    each = All-cons (IsChunk 4096 (length (source_of (raw_kept file) file))) _ [] (record { lies = omega (arith, padded-length file); four = tt }) (All-nil (IsChunk 4096 (length (source_of (raw_kept file) file))));
  };
  long = omega (arith, padded-length file);
}

pub same-kept : (a b : Kept) → ◌≡◌ {A = Result Kept SparseError} (Ok a) (Ok b) → a ≡ b
same-kept a b h = cc

well-sparse : (file : List ℕ) (kept : Kept) → sparse_checked file ≡ Ok kept → IsWell kept (source_of kept file)
well-sparse file kept h =
    let a = then-ok (header_of (length file) file) (λ header. walked header.chunks header.block header.blocks 28 (drop 28 file) then_on λ chunks. Ok (record { sparse = true; source_len = length file; block = header.block; blocks = header.blocks; chunks = chunks })) kept h in
    let b = then-ok (walked a.0.chunks a.0.block a.0.blocks 28 (drop 28 file)) (λ chunks. Ok (record { sparse = true; source_len = length file; block = a.0.block; blocks = a.0.blocks; chunks = chunks })) kept a.2 in
    subst (λ (k : Kept). IsWell k (source_of k file)) (same-kept (record { sparse = true; source_len = length file; block = a.0.block; blocks = a.0.blocks; chunks = b.0 }) kept b.2) (sparse-well file a.0 b.0 a.1 b.1)

well-raw : (file : List ℕ) (kept : Kept) → 0 < length file → raw_checked file ≡ Ok kept → IsWell kept (source_of kept file)
well-raw file kept some h =
    ⊎_elim
    (λ k. subst (λ (x : Kept). IsWell x (source_of x file)) (same-kept (raw_kept file) kept (rw k.0 at h)) (raw-well file some (omega (arith, k.1))))
    (λ k. absurd (no-err (flaw TooLong 0) kept (rw k.0 at h)))
    (leb_tells (suc (round_up (length file))) (2 ^ 44))

well-by : (file : List ℕ) (kept : Kept) (b : Bool) → 0 < length file → (if b then sparse_checked else raw_checked) file ≡ Ok kept → IsWell kept (source_of kept file)
well-by file kept true some h = well-sparse file kept h
well-by file kept false some h = well-raw file kept some h

-- what a check keeps is well
pub kept-well : (file : List ℕ) (kept : Kept) → checked file ≡ Ok kept → IsWell kept (source_of kept file)
kept-well file kept h =
    ⊎_elim
    (λ k. absurd (no-err (flaw Empty 0) kept (rw k.0 at h)))
    (λ k. well-by file kept (is_sparse file) (grind (arith, nat_tests)) (rw k.0 at h))
    (eqb_tells (length file) 0)
