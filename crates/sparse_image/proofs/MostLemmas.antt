-- How many bytes all pieces of a file have together.
use Rattle.std.proofs.Common.{◌≡◌, ℕ, ◌+◌, ◌-◌, ◌*◌, ◌<◌, ◌≤◌, Bool, true, false, List, [], ◌∷◌, length, sym, ap, ◌∙◌, subst, refl, zero-mul, arith, ⊎_elim}
use Rattle.std.specs.Prelude.{nat_le, ◌==◌, if◌then◌else◌}
use Rattle.std.specs.List.{sum_by, All}
use Rattle.std.proofs.Math.Nat.{mul-le-mul_right}
use Rattle.std.proofs.lemmas.Bool.Decides.{nat_tests, leb_tells, eqb_tells}
use Rattle.std.proofs.lemmas.List.Sums.{sum_by-cons}
use Rattle.std.proofs.lemmas.List.Elements.{All-cons, All-head, All-tail}
use Rattle.sparse_image.specs.declared.chunk.Content.{Content}
use Rattle.sparse_image.specs.declared.chunk.Content.TheVariants.{Raw, Fill, DontCare}
use Rattle.sparse_image.specs.declared.chunk.Chunk.{Chunk}
use Rattle.sparse_image.specs.Walks.{Kept, IsKept, chunk_len, content_len}
use Rattle.sparse_image.specs.Pieces.{first_blocks, behind_blocks, content_behind, whole_len, hole, piece_chunks, sparse_len, EndsAt}
use Rattle.sparse_image.specs.Cuts.{Cutting, Part, EndsBy, GivesPart, AreCut, part_len, chunks_most, whole_most, most_left}
use Rattle.sparse_image.specs.Laws.{PiecesBytes}
use Rattle.sparse_image.proofs.RunLemmas.{spent}
use Rattle.sparse_image.proofs.ReachLemmas.{piece-len, hole-len, behind-twice}
use Rattle.sparse_image.proofs.RestLemmas.{behind-none}

-- data takes no more bytes of a file than of the image
content-most : (n : ℕ) (content : Content) → 4 ≤ n → content_len n content ≤ n
content-most n (Raw place) h = omega arith
content-most n (Fill pattern) h = h
content-most n DontCare h = omega arith

four-blocks : (n block : ℕ) → 4 ≤ block → 0 < n → 4 ≤ n * block
four-blocks n block h s = let m : 1 * block ≤ n * block = mul-le-mul_right block s in omega (arith, m, h)

-- chunks, as they stand in the pieces' files: each cut adds one chunk's header
cut-most : (block : ℕ) (chunks : List Chunk) (n : ℕ) → 4 ≤ block → All (λ (c : Chunk). 0 < c.blocks) chunks →
    sum_by (chunk_len block) (first_blocks n chunks) + chunks_most block (behind_blocks block n chunks) ≤ chunks_most block chunks + 12
cut-most block [] n h w = omega arith
cut-most block (chunk ∷ chunks) n h w =
    let weight = λ (c : Chunk). 12 + c.blocks * block in
    let some = All-head (λ (c : Chunk). 0 < c.blocks) chunk chunks w in
    let whole = sum_by-cons weight chunk chunks in
    ⊎_elim
    (λ k. rw k.0 (omega (
      arith,
      whole,
      sum_by-cons (chunk_len block) chunk (first_blocks (n - chunk.blocks) chunks),
      content-most (chunk.blocks * block) chunk.content (four-blocks chunk.blocks block h some),
      cut-most block chunks (n - chunk.blocks) h (All-tail (λ (c : Chunk). 0 < c.blocks) chunk chunks w),
    )))
    (λ k. rw k.0 (⊎_elim
    (λ j. rw j.0 (omega (arith, whole, sum_by-cons weight (record { blocks = chunk.blocks - n; content = content_behind (n * block) chunk.content }) chunks, spent chunk.blocks n (chunk.blocks - n) block (omega (arith, k.1)))))
    (λ j. rw j.0 (omega (
      arith,
      whole,
      sum_by-cons (chunk_len block) (record { blocks = n; content = chunk.content }) [],
      sum_by-cons weight (record { blocks = chunk.blocks - n; content = content_behind (n * block) chunk.content }) chunks,
      content-most (n * block) chunk.content (four-blocks n block h (omega (arith, j.1))),
      spent chunk.blocks n (chunk.blocks - n) block (omega (arith, k.1)),
    )))
    (eqb_tells n 0)))
    (leb_tells chunk.blocks n)

behind-all : (block n : ℕ) (chunks : List Chunk) → All (λ (c : Chunk). 0 < c.blocks) chunks → All (λ (c : Chunk). 0 < c.blocks) (behind_blocks block n chunks)
behind-all block n [] w = w
behind-all block n (chunk ∷ more) w =
    let others = All-tail (λ (c : Chunk). 0 < c.blocks) chunk more w in
    ⊎_elim
    (λ k. rw k.0 (behind-all block (n - chunk.blocks) more others))
    (λ k. rw k.0 (All-cons (λ (c : Chunk). 0 < c.blocks) (record { blocks = chunk.blocks - n; content = content_behind (n * block) chunk.content }) more (omega (arith, k.1)) others))
    (leb_tells chunk.blocks n)

-- a piece's bytes, and those of the pieces after it
piece-most : (kept : Kept) (first last : ℕ) → IsKept kept → first ≤ last →
    sparse_len kept.block (piece_chunks kept first last) + chunks_most kept.block (behind_blocks kept.block last kept.chunks) ≤ chunks_most kept.block (behind_blocks kept.block first kept.chunks) + 64
piece-most kept first last w h =
    let block = kept.block in
    let rest = behind_blocks block first kept.chunks in
    let n : first + (last - first) ≡ last = omega arith in
    let twice = behind-twice block first (last - first) kept.chunks ∙ ap (λ (x : ℕ). behind_blocks block x kept.chunks) n in
    omega (
      arith,
      piece-len kept first last,
      (hole-len block first).1,
      (hole-len block (kept.blocks - last)).1,
      ap (chunks_most block) twice,
      cut-most block rest (last - first) (omega (arith, w.low)) (behind-all block first kept.chunks w.well.some),
    )

-- with a piece that isn't the whole file the bytes that are left fall by the piece's, except 64
pub cut-step : (kept : Kept) (max first last : ℕ) → IsKept kept → nat_le (whole_len kept) max ≡ false → first ≤ last →
    sparse_len kept.block (piece_chunks kept first last) + most_left (record { kept = kept; max = max; first = last }) ≤ most_left (record { kept = kept; max = max; first = first }) + 64
cut-step kept max first last w f h = rw f (piece-most kept first last w h)

step-by : (kept : Kept) (max : ℕ) (part : Part) (whole : Bool) → IsKept kept → part.kept ≡ kept → part.whole ≡ whole → nat_le (whole_len kept) max ≡ whole → EndsBy whole kept max part.first part.last →
    part_len part + most_left (record { kept = kept; max = max; first = part.last }) ≤ most_left (record { kept = kept; max = max; first = part.first }) + 64
step-by kept max part true w k e f ends =
    let z : (part.last == kept.blocks) ≡ true = grind (arith, nat_tests, ends.1) in
    let o : (part.first == kept.blocks) ≡ false = grind (arith, nat_tests, ends.0, w.some) in
    rw (e, k, f, z, o) (omega arith)
step-by kept max part false w k e f ends =
    rw (e, k, f) (piece-most kept part.first part.last w (omega (arith, ends.fits.more)))

-- with each piece the bytes that are left fall by the piece's, except 64
pub step-most : (before now : Cutting) (part : Part) → IsKept before.kept → GivesPart before part now → part_len part + most_left now ≤ most_left before + 64
step-most before now part w g =
    let s = step-by before.kept before.max part (nat_le (whole_len before.kept) before.max) w g.kept g.whole refl (subst (λ (b : Bool). EndsBy b before.kept before.max part.first part.last) g.whole g.ends) in
    omega (arith, s, ap most_left g.left, ap (λ (x : ℕ). most_left (record { kept = before.kept; max = before.max; first = x })) g.first)

chunks-weight : (block : ℕ) (chunks : List Chunk) → chunks_most block chunks ≡ 12 * length chunks + sum_by (λ (c : Chunk). c.blocks) chunks * block
chunks-weight block [] = omega arith
chunks-weight block (chunk ∷ chunks) =
    let s = sum_by-cons (λ (c : Chunk). c.blocks) chunk chunks in
    omega (
      arith,
      sum_by-cons (λ (c : Chunk). 12 + c.blocks * block) chunk chunks,
      chunks-weight block chunks,
      spent (sum_by (λ (c : Chunk). c.blocks) (chunk ∷ chunks)) chunk.blocks (sum_by (λ (c : Chunk). c.blocks) chunks) block s,
    )

whole-short : (kept : Kept) → IsKept kept → (b : Bool) → (if b then kept.source_len else (kept.blocks * kept.block)) ≤ kept.blocks * kept.block + 16 * 1000000 + 28
whole-short kept w true = w.most
whole-short kept w false = omega arith

begin-by : (kept : Kept) (max : ℕ) (whole : Bool) → IsKept kept → nat_le (whole_len kept) max ≡ whole → most_left (record { kept = kept; max = max; first = 0 }) ≤ kept.blocks * kept.block + 16 * 1000000
begin-by kept max true w f =
    let o : (0 == kept.blocks) ≡ false = grind (arith, nat_tests, w.some) in
    rw (f, o) (omega (arith, whole-short kept w kept.sparse))
begin-by kept max false w f =
    rw f (omega (arith, ap (chunks_most kept.block) (behind-none kept.block kept.chunks w.well.some), chunks-weight kept.block kept.chunks, w.few, ap (λ (n : ℕ). n * kept.block) w.well.total))

-- before the first piece they are as many
pub begin-most : (kept : Kept) (max : ℕ) → IsKept kept → most_left (record { kept = kept; max = max; first = 0 }) ≤ kept.blocks * kept.block + 16 * 1000000
begin-most kept max w = begin-by kept max (nat_le (whole_len kept) max) w refl

all-most : (parts : List Part) (before : Cutting) → IsKept before.kept → AreCut before parts → sum_by part_len parts ≤ most_left before + 64 * length parts
all-most [] before w cut = omega arith
all-most (part ∷ parts) before w (now, (g, more)) =
    let same : now.kept ≡ before.kept = ap (λ (c : Cutting). c.kept) g.left in
    omega (arith, sum_by-cons part_len part parts, step-most before now part w g, all-most parts now (subst IsKept (sym same) w) more)

pub pieces-bytes : PiecesBytes
pieces-bytes kept max parts w cut =
    omega (arith, all-most parts (record { kept = kept; max = max; first = 0 }) w cut, begin-most kept max w)

pub ruleset mosts = (step-most, begin-most)
