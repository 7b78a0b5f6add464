-- The runs of an image.
use Rattle.std.proofs.Common.{◌≡◌, ℕ, zero, suc, ◌+◌, ◌-◌, ◌*◌, ◌<◌, ◌≤◌, List, [], ◌∷◌, ◌++◌, length, drop, map, replicate, Option, Some, None, Result, Ok, Err, refl, sym, ap, ◌∙◌, arith, zero-add, length-append}
use Rattle.std.proofs.lemmas.Bool.{false≢true}
use Rattle.std.proofs.lemmas.List.{length-replicate, append_assoc, replicate-append-replicate, append-nil, nil_from_length}
use Rattle.std.specs.Prelude.{IsSome, unwrap_or, ◌/◌, ◌%◌, ◌^◌}
use Rattle.std.specs.Result.{result_err}
use Rattle.std.proofs.lemmas.Bool.Decides.{nat_tests}
use Rattle.dev_model.specs.Options.{◌>>=◌}
use Rattle.dev_model.specs.Images.{chunks_cells, sparse_cells}
use Rattle.dev_model.specs.declared.cells.Cell.{Cell}
use Rattle.dev_model.specs.declared.cells.Cell.TheVariants.{Byte, Skip}
use Rattle.sparse_image.specs.declared.errors.SparseError.{SparseError}
use Rattle.sparse_image.specs.declared.chunk.Chunk.{Chunk}
use Rattle.sparse_image.specs.declared.runs.Run.{Run}
use Rattle.sparse_image.specs.declared.runs.Run.TheVariants.{Zeros}
use Rattle.sparse_image.specs.declared.walk.Header.{Header}
use Rattle.sparse_image.specs.Walks.{front_of, chunk_len, cells_of, LiesIn, IsFine, header_of, walked}
use Rattle.sparse_image.specs.Runs.{Left, IsImage, GivesRun, Skips, Advances, run_at, run_len, run_cells, HasFours}
use Rattle.sparse_image.proofs.WalkLemmas.{front-step, front-stops, front-lies, front-four, front-due, length-cells, walked-some, header-good}

parts-whole : (found : Option (List Cell)) (own : List Cell) → IsSome (found >>= λ cells. Some (own ++ cells)) → IsSome found
parts-whole (Some cells) own h = h
parts-whole None own h = h

parts-cells : (found : Option (List Cell)) (own : List Cell) → IsSome (found >>= λ cells. Some (own ++ cells)) → unwrap_or (found >>= λ cells. Some (own ++ cells)) [] ≡ own ++ unwrap_or found []
parts-cells (Some cells) own h = refl
parts-cells None own h = cc

-- the first chunk is never refused
pub front-never : (chunks more block blocks : ℕ) (bytes : List ℕ) (e : SparseError) → chunks ≡ suc more → IsSome (chunks_cells chunks block blocks bytes) →
    front_of block blocks 0 (length bytes) bytes ≡ Err e → ⊥
front-never chunks more block blocks bytes e n w h =
    false≢true (rw (n, front-stops more block blocks 0 bytes e h) at w)

pub front-cells : (chunks more block blocks : ℕ) (bytes : List ℕ) (chunk : Chunk) → chunks ≡ suc more → IsSome (chunks_cells chunks block blocks bytes) →
    front_of block blocks 0 (length bytes) bytes ≡ Ok chunk →
    unwrap_or (chunks_cells chunks block blocks bytes) [] ≡ cells_of block bytes chunk ++ unwrap_or (chunks_cells more block (blocks - chunk.blocks) (drop (chunk_len block chunk) bytes)) []
front-cells chunks more block blocks bytes chunk n w h =
    let s = front-step more block blocks 0 bytes chunk h in
    let v = rw (n, s) at w in
    rw (n, s) (parts-cells _ _ v)

pub front-whole : (chunks more block blocks : ℕ) (bytes : List ℕ) (chunk : Chunk) → chunks ≡ suc more → IsSome (chunks_cells chunks block blocks bytes) →
    front_of block blocks 0 (length bytes) bytes ≡ Ok chunk →
    IsSome (chunks_cells more block (blocks - chunk.blocks) (drop (chunk_len block chunk) bytes))
front-whole chunks more block blocks bytes chunk n w h =
    let s = front-step more block blocks 0 bytes chunk h in
    let v = rw (n, s) at w in
    parts-whole _ _ v

pub spent : (n c k b : ℕ) → n ≡ c + k → c * b + k * b ≡ n * b
spent n c k b e = rw e (omega arith)

pub fours : (x block : ℕ) → block % 4 ≡ 0 → x * block % 4 ≡ 0
fours x block h =
    let e : block ≡ 4 * (block / 4) = omega arith in
    let f : x * (4 * (block / 4)) ≡ 4 * (x * (block / 4)) = omega arith in
    let g : x * block ≡ 4 * (x * (block / 4)) = ap (λ (n : ℕ). x * n) e ∙ f in
    omega arith

-- what is left, by the fields of the chunks
abbrev pub left_by : (at block blocks chunks : ℕ) (bytes : List ℕ) → Left
left_by at block blocks chunks bytes = record { len = at + blocks * block; at = at; cells = unwrap_or (chunks_cells chunks block blocks bytes) [] }

module _ (at block blocks chunks more : ℕ) (bytes : List ℕ) (chunk : Chunk) (n : chunks ≡ suc more)
    (whole : IsSome (chunks_cells chunks block blocks bytes)) (four : block % 4 ≡ 0)
    (h : front_of block blocks 0 (length bytes) bytes ≡ Ok chunk) (due : chunk.blocks ≤ blocks) where
  pub chunk-lies : LiesIn (length bytes) (chunk.blocks * block) chunk.content
  chunk-lies = rw zero-add at (front-lies block blocks 0 (length bytes) bytes chunk h)

  pub chunk-long : length (cells_of block bytes chunk) ≡ chunk.blocks * block
  chunk-long = length-cells (chunk.blocks * block) bytes chunk.content chunk-lies (front-four block blocks 0 bytes chunk h) (fours chunk.blocks block four)

  pub blocks-spent : chunk.blocks * block + (blocks - chunk.blocks) * block ≡ blocks * block
  blocks-spent = spent blocks chunk.blocks (blocks - chunk.blocks) block (omega arith)

  pub chunk-advances : (at2 more2 : ℕ) (bytes2 : List ℕ) → at2 ≡ at + chunk.blocks * block → more2 ≡ more → bytes2 ≡ drop (chunk_len block chunk) bytes →
      Advances (left_by at block blocks chunks bytes) (cells_of block bytes chunk) (left_by at2 block (blocks - chunk.blocks) more2 bytes2)
  chunk-advances at2 more2 bytes2 e f g = record {
    len = rw e (omega (arith, blocks-spent));
    at = e ∙ ap (λ (x : ℕ). at + x) (sym chunk-long);
    cells = rw (f, g) (front-cells chunks more block blocks bytes chunk n whole h);
  }

  pub chunk-whole : (more2 : ℕ) (bytes2 : List ℕ) → more2 ≡ more → bytes2 ≡ drop (chunk_len block chunk) bytes → IsSome (chunks_cells more2 block (blocks - chunk.blocks) bytes2)
  chunk-whole more2 bytes2 f g = rw (f, g) (front-whole chunks more block blocks bytes chunk n whole h)

none-left : (n : ℕ) → n - n ≡ 0
none-left n = omega arith

pub GivesRun-from : (before now : Left) (run : Run) (cells : List Cell) → Advances before cells now → run_at run ≡ before.at → run_cells run ≡ cells → 0 < length cells → HasFours run → run_at run + run_len run ≤ before.len → GivesRun before run now
GivesRun-from before now run cells a at e h f l = record {
  len = a.len;
  later = omega arith;
  some = rw e h;
  fours = f;
  within = l;
  at = rw (at, e) a.at;
  cells = rw (at, e, none-left before.at) a.cells;
}

skipped : (before now n : ℕ) (cells : List Cell) → cells ≡ replicate n Skip → now ≡ before + length cells → now - before ≡ n
skipped before now n cells e h = let l = ap length e ∙ length-replicate n Skip in omega arith

pub Skips-from : (before now : Left) (n : ℕ) (cells : List Cell) → Advances before cells now → cells ≡ replicate n Skip → Skips before now
Skips-from before now n cells a e = record {
  len = a.len;
  later = omega (arith, a.at);
  cells = rw (skipped before.at now.at n cells e a.at) (a.cells ∙ ap (λ (front : List Cell). front ++ now.cells) e);
}

pub Skips-none : (left : Left) → Skips left left
Skips-none left = record { len = refl; later = omega arith; cells = rw (none-left left.at) refl }

replicate-join : (a b c : ℕ) (cells : List Cell) → a ≤ b → b ≤ c → replicate (b - a) Skip ++ (replicate (c - b) Skip ++ cells) ≡ replicate (c - a) Skip ++ cells
replicate-join a b c cells h k =
    let n : b - a + (c - b) ≡ c - a = omega arith in
    sym (append_assoc (replicate (b - a) Skip) (replicate (c - b) Skip) cells) ∙ ap (λ (xs : List Cell). xs ++ cells) (replicate-append-replicate (b - a) (c - b) Skip ∙ ap (λ (m : ℕ). replicate m Skip) n)

pub Skips-more : (a b c : Left) → Skips a b → Skips b c → Skips a c
Skips-more a b c p q = record {
  len = q.len ∙ p.len;
  later = omega (arith, p.later, q.later);
  cells = p.cells ∙ ap (λ (xs : List Cell). replicate (b.at - a.at) Skip ++ xs) q.cells ∙ replicate-join a.at b.at c.at c.cells p.later q.later;
}

pub Skips-run : (a b c : Left) (run : Run) → Skips a b → GivesRun b run c → GivesRun a run c
Skips-run a b c run p q = record {
  len = q.len ∙ p.len;
  later = omega (arith, p.later, q.later);
  some = q.some;
  fours = q.fours;
  within = omega (arith, p.len, q.within);
  at = q.at;
  cells = p.cells ∙ ap (λ (xs : List Cell). replicate (b.at - a.at) Skip ++ xs) q.cells ∙ replicate-join a.at b.at (run_at run) (run_cells run ++ c.cells) p.later q.later;
}

pub ruleset skips = (Skips-none, Skips-more, Skips-run)

map-replicate : (n : ℕ) → map Byte (replicate n 0) ≡ replicate n (Byte 0)
map-replicate zero = refl
map-replicate (suc n) = ap (λ (cells : List Cell). Byte 0 ∷ cells) (map-replicate n)

pub zeros-run : (at zeros : ℕ) (bytes : List ℕ) → length bytes ≡ 0 → 0 < zeros →
    GivesRun (record { len = at + (length bytes + zeros); at = at; cells = map Byte (bytes ++ replicate zeros 0) }) (Zeros at zeros)
    (record { len = at + zeros + (length bytes + 0); at = at + zeros; cells = map Byte (bytes ++ replicate 0 0) })
zeros-run at zeros bytes e h =
    let n = nil_from_length bytes e in
    rw n (record {
      len = omega arith;
      later = omega arith;
      some = simp length-replicate h;
      fours = tt;
      within = omega arith;
      at = simp length-replicate refl;
      cells = rw (none-left at) (map-replicate zeros ∙ sym (append-nil (replicate zeros (Byte 0))));
    })

ended-blocks : (block blocks : ℕ) (bytes : List ℕ) → IsSome (chunks_cells 0 block blocks bytes) → blocks ≡ 0
ended-blocks block blocks bytes h = grind (arith, nat_tests)

ended-cells : (block blocks : ℕ) (bytes : List ℕ) → IsSome (chunks_cells 0 block blocks bytes) → unwrap_or (chunks_cells 0 block blocks bytes) [] ≡ []
ended-cells block blocks bytes h = grind (arith, nat_tests)

cells-on : (more block blocks : ℕ) (bytes : List ℕ) → block % 4 ≡ 0 → IsSome (chunks_cells (suc more) block blocks bytes) →
    ((b : ℕ) (xs : List ℕ) → IsSome (chunks_cells more block b xs) → length (unwrap_or (chunks_cells more block b xs) []) ≡ b * block) →
    (r : Result Chunk SparseError) → front_of block blocks 0 (length bytes) bytes ≡ r →
    length (unwrap_or (chunks_cells (suc more) block blocks bytes) []) ≡ blocks * block
cells-on more block blocks bytes four w ih (Err e) h = absurd (front-never (suc more) more block blocks bytes e refl w h)
cells-on more block blocks bytes four w ih (Ok chunk) h =
    let due = front-due block blocks 0 (length bytes) bytes chunk h in
    let rest = ih (blocks - chunk.blocks) (drop (chunk_len block chunk) bytes) (front-whole (suc more) more block blocks bytes chunk refl w h) in
    ap length (front-cells (suc more) more block blocks bytes chunk refl w h)
    ∙ length-append (cells_of block bytes chunk) _
    ∙ omega (arith, rest, chunk-long 0 block blocks (suc more) more bytes chunk refl w four h due, blocks-spent 0 block blocks (suc more) more bytes chunk refl w four h due)

-- an image has as many cells as its blocks have bytes
pub cells-long : (chunks block blocks : ℕ) (bytes : List ℕ) → block % 4 ≡ 0 → IsSome (chunks_cells chunks block blocks bytes) →
    length (unwrap_or (chunks_cells chunks block blocks bytes) []) ≡ blocks * block
cells-long zero block blocks bytes four w = ap length (ended-cells block blocks bytes w) ∙ rw (ended-blocks block blocks bytes w) (omega arith)
cells-long (suc more) block blocks bytes four w =
    cells-on more block blocks bytes four w (λ b xs v. cells-long more block b xs four v) (front_of block blocks 0 (length bytes) bytes) refl

some-of : (found : Option (List Cell)) → IsSome found → found ≡ Some (unwrap_or found [])
some-of (Some cells) w = refl
some-of None w = absurd (false≢true w)

-- the numbers and chunks of what is left, as `AreWhole` has them
pub record AreWholeBy (block blocks chunks : ℕ) (bytes : List ℕ) : Type 0 where
  pub whole : IsSome (chunks_cells chunks block blocks bytes)
  pub small : 0 + blocks * block < 2 ^ 64
  pub fours : block % 4 ≡ 0

pub sparse-image : (file : List ℕ) (header : Header) → header_of (length file) file ≡ Ok header → IsFine header →
    result_err (walked header.chunks header.block header.blocks 28 (drop 28 file)) ≡ None →
    AreWholeBy header.block header.blocks header.chunks (drop 28 file) × IsImage (sparse_cells file) (left_by 0 header.block header.blocks header.chunks (drop 28 file))
sparse-image file header h fine k =
    let w = walked-some header.chunks header.block header.blocks 28 file k in
    let four : header.block % 4 ≡ 0 = omega (arith, fine.multiple) in
    let g = header-good file header h in (
      record { whole = w; small = omega (arith, fine.short); fours = four },
      record { cells = g ∙ some-of _ w; at = refl; len = rw zero-add (sym (cells-long header.chunks header.block header.blocks (drop 28 file) four w)) },
    )
