-- The pieces of a file are together what the whole file is.
use Rattle.std.proofs.Common.{◌≡◌, ℕ, ◌-◌, ◌*◌, ◌<◌, ◌≤◌, Bool, true, false, List, [], ◌∷◌, ◌++◌, length, take, drop, map, replicate, length-append, Option, Some, Ok, refl, sym, ap, ◌∙◌, subst, arith, zero-mul}
use Rattle.std.specs.Prelude.{◌^◌, nat_le, unwrap_or}
use Rattle.std.specs.List.{flat_map, sum_by, All}
use Rattle.std.proofs.lemmas.Bool.Decides.{nat_tests}
use Rattle.std.proofs.lemmas.List.{append-nil, take_all}
use Rattle.std.proofs.lemmas.List.Sums.{sum_by-cons}
use Rattle.std.proofs.lemmas.List.Elements.{All-nil, All-cons, All-head, All-tail}
use Rattle.dev_model.specs.Images.{image, over}
use Rattle.dev_model.specs.declared.cells.Cell.{Cell}
use Rattle.dev_model.specs.declared.cells.Cell.TheVariants.{Skip}
use Rattle.sparse_image.specs.declared.chunk.Chunk.{Chunk}
use Rattle.sparse_image.specs.Walks.{Kept, checked, kept_cells, source_of, chunk_len}
use Rattle.sparse_image.specs.Pieces.{chunk_bytes, header_bytes, sparse_len, piece_file, piece_cells, piece_chunks, put_pieces, whole_len, Rise, Fits}
use Rattle.sparse_image.specs.Cuts.{Cutting, Part, part_bytes, part_cells, EndsBy, GivesPart, AreCut, put_parts, IsPiece, Follow, AreFull, AreSplit}
use Rattle.sparse_image.proofs.CutLemmas.{IsChunk}
use Rattle.sparse_image.proofs.KeptLemmas.{kept-well}
use Rattle.sparse_image.proofs.SpellLemmas.{data-length}
use Rattle.sparse_image.proofs.PieceLemmas.{piece-image, piece-length, pieces-put, piece-each, kept-long}
use Rattle.sparse_image.proofs.WholeLemmas.{whole-image}

-- the bytes of chunks
pub chunk-long : (block : ℕ) (source : List ℕ) (chunk : Chunk) → IsChunk block (length source) chunk → length (chunk_bytes block source chunk) ≡ chunk_len block chunk
chunk-long block source chunk w = omega (arith, data-length (chunk.blocks * block) source chunk.content w.lies w.four)

pub chunks-long : (block : ℕ) (source : List ℕ) (chunks : List Chunk) → All (IsChunk block (length source)) chunks → length (flat_map (chunk_bytes block source) chunks) ≡ sum_by (chunk_len block) chunks
chunks-long block source [] w = refl
chunks-long block source (chunk ∷ chunks) w =
    omega (
      arith,
      length-append (chunk_bytes block source chunk) (flat_map (chunk_bytes block source) chunks),
      chunk-long block source chunk (All-head (IsChunk block (length source)) chunk chunks w),
      chunks-long block source chunks (All-tail (IsChunk block (length source)) chunk chunks w),
      sum_by-cons (chunk_len block) chunk chunks,
    )

pub piece-long : (kept : Kept) (file : List ℕ) (first last : ℕ) → checked file ≡ Ok kept → length (piece_file kept file first last) ≡ sparse_len kept.block (piece_chunks kept first last)
piece-long kept file first last h =
    let source = source_of kept file in
    let chunks = piece_chunks kept first last in
    omega (
      arith,
      length-append (header_bytes kept.block kept.blocks (length chunks)) (flat_map (chunk_bytes kept.block source) chunks),
      chunks-long kept.block source chunks (piece-each kept (length source) first last (kept-well file kept h).chunks.each),
    )

-- the cells of all blocks
all-cells : (block blocks : ℕ) (cells : List Cell) → length cells ≡ blocks * block →
    replicate (0 * block) Skip ++ (take ((blocks - 0) * block) (drop (0 * block) cells) ++ replicate ((blocks - blocks) * block) Skip) ≡ cells
all-cells block blocks cells l =
    let z : 0 * block ≡ 0 = zero-mul block in
    let a : blocks - 0 ≡ blocks = omega arith in
    let n : (blocks - 0) * block ≡ length cells = ap (λ (x : ℕ). x * block) a ∙ sym l in
    let b : blocks - blocks ≡ 0 = omega arith in
    let r : (blocks - blocks) * block ≡ 0 = ap (λ (x : ℕ). x * block) b ∙ z in
    rw (z, n, r) (append-nil (take (length cells) cells) ∙ take_all (length cells) cells (omega arith))

pub whole-cells : (file : List ℕ) (kept : Kept) (first last : ℕ) → checked file ≡ Ok kept → first ≡ 0 → last ≡ kept.blocks → piece_cells kept file first last ≡ kept_cells kept file
whole-cells file kept first last h e f =
    ap (λ (x : ℕ). piece_cells kept file x last) e ∙ ap (λ (x : ℕ). piece_cells kept file 0 x) f ∙ all-cells kept.block kept.blocks (kept_cells kept file) (kept-long file kept h)

piece-of : (file : List ℕ) (kept : Kept) (max first last : ℕ) (whole : Bool) → checked file ≡ Ok kept → kept.blocks < 2 ^ 32 → max < 2 ^ 32 → whole ≡ nat_le (whole_len kept) max → EndsBy whole kept max first last →
    IsPiece kept file max (record { kept = kept; whole = whole; first = first; last = last })
piece-of file kept max first last true h few low e ends =
    let cells = whole-cells file kept first last h ends.0 ends.1 in
    let l : whole_len kept ≤ max = grind (arith, nat_tests) in
    record { image = whole-image file kept h ∙ ap (λ (xs : List Cell). Some xs) (sym cells); cells = ap length cells; size = omega (arith, l, (kept-well file kept h).long); few = λ e. absurd cc }
piece-of file kept max first last false h few low e ends =
    let fits = ends.fits in
    record {
      image = piece-image file kept max first last h few low fits;
      cells = piece-length file kept first last h (omega (arith, fits.more)) fits.within;
      size = omega (arith, piece-long kept file first last h, fits.size);
      few = λ e. fits.few;
    }

within-of : (kept : Kept) (max first last : ℕ) (whole : Bool) → 0 < kept.blocks → EndsBy whole kept max first last → (first < last) × (last ≤ kept.blocks)
within-of kept max first last true some ends = (omega (arith, ends.0, ends.1), omega (arith, ends.1))
within-of kept max first last false some ends = (ends.fits.more, ends.fits.within)

greatest-of : (kept : Kept) (max first last place : ℕ) (whole : Bool) → EndsBy whole kept max first last → Fits kept max first place → place ≤ last
greatest-of kept max first last place true ends fits = omega (arith, ends.1, fits.within)
greatest-of kept max first last place false ends fits = ends.greatest place fits

-- what the pieces from a block on are together
record IsSplit (kept : Kept) (file : List ℕ) (max first : ℕ) (parts : List Part) : Type 0 where
  each : All (IsPiece kept file max) parts
  follow : Follow first parts kept.blocks
  full : AreFull kept max parts
  rise : Rise first (map (λ (part : Part). part.last) parts) kept.blocks
  put : (old : List ℕ) → put_parts parts file old ≡ put_pieces kept file first (map (λ (part : Part). part.last) parts) old

full-more : (kept : Kept) (max total : ℕ) (part : Part) (parts : List Part) → ((place : ℕ) → Fits kept max part.first place → place ≤ part.last) → Follow part.last parts total → AreFull kept max parts → AreFull kept max (part ∷ parts)
full-more kept max total part [] g f w = tt
full-more kept max total part (next ∷ parts) g f w = (λ fits. omega (arith, g next.last fits, f.0, f.1), w)

put-more : (part : Part) (parts : List Part) (file : List ℕ) (cells : List Cell) (old : List ℕ) → image (part_bytes part file) ≡ Some cells → put_parts (part ∷ parts) file old ≡ put_parts parts file (over cells old)
put-more part parts file cells old h = ap (λ (found : Option (List Cell)). put_parts parts file (over (unwrap_or found []) old)) h

module _ (file : List ℕ) (kept : Kept) (max : ℕ) (h : checked file ≡ Ok kept) (few : kept.blocks < 2 ^ 32) (low : max < 2 ^ 32) where
  split-more : (first : ℕ) (part : Part) (parts : List Part) (now : Cutting) → GivesPart (record { kept = kept; max = max; first = first }) part now → IsSplit kept file max part.last parts → IsSplit kept file max first (part ∷ parts)
  split-more first part parts now g w =
      let same : part ≡ record { kept = kept; whole = part.whole; first = part.first; last = part.last } = ap (λ (k : Kept). record { kept = k; whole = part.whole; first = part.first; last = part.last }) g.kept in
      let own = subst (λ (p : Part). IsPiece kept file max p) (sym same) (piece-of file kept max part.first part.last part.whole h few low g.whole g.ends) in
      let within = within-of kept max part.first part.last part.whole (kept-well file kept h).some g.ends in
      let cells : part_cells part file ≡ piece_cells kept file first part.last = ap (λ (k : Kept). piece_cells k file part.first part.last) g.kept ∙ ap (λ (x : ℕ). piece_cells kept file x part.last) g.first in
      record {
        each = All-cons (IsPiece kept file max) part parts own w.each;
        follow = (g.first, within.0, w.follow);
        full = full-more kept max kept.blocks part parts (λ place. greatest-of kept max part.first part.last place part.whole g.ends) w.follow w.full;
        rise = (omega (arith, within.0, g.first), within.1, w.rise);
        put = λ old. put-more part parts file (part_cells part file) old own.image ∙ ap (λ (xs : List Cell). put_parts parts file (over xs old)) cells ∙ w.put (over (piece_cells kept file first part.last) old);
      }

  split-from : (parts : List Part) (first : ℕ) → AreCut (record { kept = kept; max = max; first = first }) parts → IsSplit kept file max first parts
  split-from [] first (now, cut) = record { each = All-nil (IsPiece kept file max); follow = cut.0; full = tt; rise = cut.0; put = λ old. refl }
  split-from (part ∷ parts) first (now, (g, more)) =
      split-more first part parts now g (split-from parts part.last (subst (λ (c : Cutting). AreCut c parts) g.left more))

  whole-given : (first : ℕ) (part : Part) (now : Cutting) → whole_len kept ≤ max → GivesPart (record { kept = kept; max = max; first = first }) part now → (part.whole ≡ true) × (part.first ≡ 0) × (part.last ≡ kept.blocks)
  whole-given first part now l g =
      let t : nat_le (whole_len kept) max ≡ true = grind (arith, nat_tests) in
      let whole : part.whole ≡ true = g.whole ∙ t in
      let ends = subst (λ (b : Bool). EndsBy b kept max part.first part.last) whole g.ends in
      (whole, ends.0, ends.1)

  none-behind : (next : Part) (now after : Cutting) → whole_len kept ≤ max → GivesPart now next after → now ≡ record { kept = kept; max = max; first = kept.blocks } → ⊥
  none-behind next now after l g e =
      let k = subst (λ (c : Cutting). GivesPart c next after) e g in
      let w = whole-given kept.blocks next after l k in
      omega (arith, w.1, k.first, (kept-well file kept h).some)

  alone : (parts : List Part) → whole_len kept ≤ max → AreCut (record { kept = kept; max = max; first = 0 }) parts → parts ≡ record { kept = kept; whole = true; first = 0; last = kept.blocks } ∷ []
  alone [] l (now, cut) = absurd (omega (arith, cut.0, (kept-well file kept h).some))
  alone (part ∷ []) l (now, (g, more)) =
      let w = whole-given 0 part now l g in
      ap (λ (p : Part). p ∷ [])
      (ap (λ (k : Kept). record { kept = k; whole = part.whole; first = part.first; last = part.last }) g.kept
      ∙ ap (λ (b : Bool). record { kept = kept; whole = b; first = part.first; last = part.last }) w.0
      ∙ ap (λ (x : ℕ). record { kept = kept; whole = true; first = x; last = part.last }) w.1
      ∙ ap (λ (x : ℕ). record { kept = kept; whole = true; first = 0; last = x }) w.2)
  alone (part ∷ (next ∷ parts)) l (now, (g, (after, (k, more)))) =
      let w = whole-given 0 part now l g in
      absurd (none-behind next now after l k (g.left ∙ ap (λ (x : ℕ). record { kept = kept; max = max; first = x }) w.2))

  pub split-whole : (parts : List Part) → AreCut (record { kept = kept; max = max; first = 0 }) parts → AreSplit kept file max parts
  split-whole parts cut =
      let w = split-from parts 0 cut in
      record {
        each = w.each;
        follow = w.follow;
        full = w.full;
        whole = λ l. alone parts l cut;
        put = λ old l. w.put old ∙ pieces-put file kept (map (λ (part : Part). part.last) parts) old h w.rise l;
      }
