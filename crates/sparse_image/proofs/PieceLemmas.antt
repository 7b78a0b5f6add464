-- Each piece is a file with an image, and the pieces put over in order are the whole.
use Rattle.std.proofs.Common.{◌≡◌, ℕ, ◌+◌, ◌-◌, ◌*◌, ◌<◌, ◌≤◌, min, List, [], ◌∷◌, ◌++◌, length, take, drop, replicate, length-append, Some, Ok, refl, sym, ap, ◌∙◌, arith, ⊎_elim, zero-mul}
use Rattle.std.specs.Prelude.{◌^◌, ◌%◌}
use Rattle.std.specs.List.{flat_map, sum_by, All}
use Rattle.std.proofs.Math.Nat.{mul-le-mul_right}
use Rattle.std.proofs.lemmas.Bool.Decides.{leb_tells, eqb_tells}
use Rattle.std.proofs.lemmas.List.{append-nil, drop_all, take_all, take-append-drop, take-take, drop-take, length-take-le}
use Rattle.std.proofs.lemmas.List.Concat.{flat_map-append}
use Rattle.std.proofs.lemmas.List.Sums.{sum_by-cons, sum_by-append}
use Rattle.std.proofs.lemmas.List.Elements.{All-nil, All-cons, All-head, All-tail, All-append}
use Rattle.dev_model.specs.Images.{over}
use Rattle.dev_model.specs.declared.cells.Cell.{Cell}
use Rattle.dev_model.specs.declared.cells.Cell.TheVariants.{Skip}
use Rattle.sparse_image.specs.declared.chunk.Chunk.{Chunk}
use Rattle.sparse_image.specs.declared.chunk.Content.{Content}
use Rattle.sparse_image.specs.declared.chunk.Content.TheVariants.{Raw, Fill, DontCare}
use Rattle.sparse_image.specs.Walks.{Kept, checked, kept_cells, source_of, cells_of, chunk_len, LiesIn, HasFour}
use Rattle.sparse_image.specs.Pieces.{first_blocks, behind_blocks, content_behind, hole, piece_chunks, piece_cells, put_pieces, Rise}
use Rattle.sparse_image.specs.Laws.{PieceImage, PieceLength, PiecesPut, PiecesFront}
use Rattle.sparse_image.proofs.CutLemmas.{IsChunk, first-cells, behind-cells, chunk-cells-long}
use Rattle.sparse_image.proofs.KeptLemmas.{kept-well}
use Rattle.sparse_image.proofs.SpellLemmas.{IsSpelled, spelled-image}
use Rattle.sparse_image.proofs.RunLemmas.{spent}
use Rattle.sparse_image.proofs.PutLemmas.{middle-put}
use Rattle.dev_model.proofs.Runs.{over_length}

-- cells of so many blocks
pub cells-long : (block : ℕ) (source : List ℕ) → block % 4 ≡ 0 → (chunks : List Chunk) → All (IsChunk block (length source)) chunks → length (flat_map (cells_of block source) chunks) ≡ sum_by (λ (c : Chunk). c.blocks) chunks * block
cells-long block source f [] w = sym (zero-mul block)
cells-long block source f (chunk ∷ chunks) w =
    let own = chunk-cells-long block source chunk f (All-head (IsChunk block (length source)) chunk chunks w) in
    let others = cells-long block source f chunks (All-tail (IsChunk block (length source)) chunk chunks w) in
    length-append (cells_of block source chunk) (flat_map (cells_of block source) chunks)
    ∙ omega (arith, own, others, spent (sum_by (λ (c : Chunk). c.blocks) (chunk ∷ chunks)) chunk.blocks (sum_by (λ (c : Chunk). c.blocks) chunks) block (sum_by-cons (λ (c : Chunk). c.blocks) chunk chunks))

-- parts of chunks are chunks
pub part-lies : (len n m block : ℕ) (content : Content) → n ≤ m → LiesIn len (m * block) content → LiesIn len (n * block) content
part-lies len n m block (Raw place) h l = let k = mul-le-mul_right block h in omega arith
part-lies len n m block (Fill pattern) h l = tt
part-lies len n m block DontCare h l = tt

pub behind-lies : (len n m block : ℕ) (content : Content) → n ≤ m → LiesIn len (m * block) content → LiesIn len ((m - n) * block) (content_behind (n * block) content)
behind-lies len n m block (Raw place) h l = omega (arith, spent m n (m - n) block (omega arith))
behind-lies len n m block (Fill pattern) h l = tt
behind-lies len n m block DontCare h l = tt

behind-four : (n : ℕ) (content : Content) → HasFour content → HasFour (content_behind n content)
behind-four n (Raw place) f = tt
behind-four n (Fill pattern) f = f
behind-four n DontCare f = tt

pub first-each : (block len : ℕ) (chunks : List Chunk) (n : ℕ) → All (IsChunk block len) chunks → All (IsChunk block len) (first_blocks n chunks)
first-each block len [] n w = All-nil (IsChunk block len)
first-each block len (chunk ∷ chunks) n w =
    let own = All-head (IsChunk block len) chunk chunks w in
    let others = All-tail (IsChunk block len) chunk chunks w in
    ⊎_elim
    (λ k. rw k.0 (All-cons (IsChunk block len) chunk (first_blocks (n - chunk.blocks) chunks) own (first-each block len chunks (n - chunk.blocks) others)))
    (λ k. rw k.0 (⊎_elim (λ j. rw j.0 (All-nil (IsChunk block len)))
    (λ j. rw j.0 (All-cons (IsChunk block len) (record { blocks = n; content = chunk.content }) [] (record { lies = part-lies len n chunk.blocks block chunk.content (omega (arith, k.1)) own.lies; four = own.four }) (All-nil (IsChunk block len))))
    (eqb_tells n 0)))
    (leb_tells chunk.blocks n)

pub behind-each : (block len : ℕ) (chunks : List Chunk) (n : ℕ) → All (IsChunk block len) chunks → All (IsChunk block len) (behind_blocks block n chunks)
behind-each block len [] n w = All-nil (IsChunk block len)
behind-each block len (chunk ∷ chunks) n w =
    let own = All-head (IsChunk block len) chunk chunks w in
    let others = All-tail (IsChunk block len) chunk chunks w in
    ⊎_elim
    (λ k. rw k.0 (behind-each block len chunks (n - chunk.blocks) others))
    (λ k. rw k.0 (All-cons (IsChunk block len) (record { blocks = chunk.blocks - n; content = content_behind (n * block) chunk.content }) chunks
    (record { lies = behind-lies len n chunk.blocks block chunk.content (omega (arith, k.1)) own.lies; four = behind-four (n * block) chunk.content own.four }) others))
    (leb_tells chunk.blocks n)

-- how many blocks they have
first-total : (chunks : List Chunk) (n : ℕ) → sum_by (λ (c : Chunk). c.blocks) (first_blocks n chunks) ≡ min n (sum_by (λ (c : Chunk). c.blocks) chunks)
first-total [] n = omega arith
first-total (chunk ∷ chunks) n =
    let s = sum_by-cons (λ (c : Chunk). c.blocks) chunk chunks in
    ⊎_elim
    (λ k. rw k.0 (omega (arith, s, k.1, sum_by-cons (λ (c : Chunk). c.blocks) chunk (first_blocks (n - chunk.blocks) chunks), first-total chunks (n - chunk.blocks))))
    (λ k. rw k.0 (⊎_elim (λ j. rw j.0 (omega (arith, j.1))) (λ j. rw j.0 (omega (arith, s, k.1))) (eqb_tells n 0)))
    (leb_tells chunk.blocks n)

pub behind-total : (block : ℕ) (chunks : List Chunk) (n : ℕ) → sum_by (λ (c : Chunk). c.blocks) (behind_blocks block n chunks) ≡ sum_by (λ (c : Chunk). c.blocks) chunks - n
behind-total block [] n = omega arith
behind-total block (chunk ∷ chunks) n =
    let s = sum_by-cons (λ (c : Chunk). c.blocks) chunk chunks in
    ⊎_elim
    (λ k. rw k.0 (omega (arith, s, k.1, behind-total block chunks (n - chunk.blocks))))
    (λ k. rw k.0 (omega (arith, s, k.1, sum_by-cons (λ (c : Chunk). c.blocks) (record { blocks = chunk.blocks - n; content = content_behind (n * block) chunk.content }) chunks)))
    (leb_tells chunk.blocks n)

-- a hole of n blocks
hole-cells : (block n : ℕ) (source : List ℕ) → flat_map (cells_of block source) (hole n) ≡ replicate (n * block) Skip
hole-cells block n source = ⊎_elim (λ k. rw k.0 (rw k.1 (rw zero-mul refl))) (λ k. rw k.0 (append-nil (replicate (n * block) Skip))) (eqb_tells n 0)

hole-each : (block len n : ℕ) → All (IsChunk block len) (hole n)
hole-each block len n = ⊎_elim (λ k. rw k.0 (All-nil (IsChunk block len))) (λ k. rw k.0 (All-cons (IsChunk block len) (record { blocks = n; content = DontCare }) [] (record { lies = tt; four = tt }) (All-nil (IsChunk block len)))) (eqb_tells n 0)

hole-total : (n : ℕ) → sum_by (λ (c : Chunk). c.blocks) (hole n) ≡ n
hole-total n = ⊎_elim (λ k. rw k.0 (sym k.1)) (λ k. rw k.0 (omega arith)) (eqb_tells n 0)

-- what a piece's chunks are
pub piece-each : (kept : Kept) (len first last : ℕ) → All (IsChunk kept.block len) kept.chunks → All (IsChunk kept.block len) (piece_chunks kept first last)
piece-each kept len first last w =
    let rest = behind_blocks kept.block first kept.chunks in
    All-append (IsChunk kept.block len) (hole first) (first_blocks (last - first) rest ++ hole (kept.blocks - last)) (hole-each kept.block len first)
    (All-append (IsChunk kept.block len) (first_blocks (last - first) rest) (hole (kept.blocks - last)) (first-each kept.block len rest (last - first) (behind-each kept.block len kept.chunks first w)) (hole-each kept.block len (kept.blocks - last)))

piece-total : (kept : Kept) (first last : ℕ) → sum_by (λ (c : Chunk). c.blocks) kept.chunks ≡ kept.blocks → first ≤ last → last ≤ kept.blocks → sum_by (λ (c : Chunk). c.blocks) (piece_chunks kept first last) ≡ kept.blocks
piece-total kept first last t h l =
    let rest = behind_blocks kept.block first kept.chunks in
    omega (
      arith,
      t,
      sum_by-append (λ (c : Chunk). c.blocks) (hole first) (first_blocks (last - first) rest ++ hole (kept.blocks - last)),
      sum_by-append (λ (c : Chunk). c.blocks) (first_blocks (last - first) rest) (hole (kept.blocks - last)),
      hole-total first,
      hole-total (kept.blocks - last),
      first-total rest (last - first),
      behind-total kept.block kept.chunks first,
    )

piece-cells : (kept : Kept) (file : List ℕ) (first last : ℕ) → kept.block % 4 ≡ 0 → All (IsChunk kept.block (length (source_of kept file))) kept.chunks →
    flat_map (cells_of kept.block (source_of kept file)) (piece_chunks kept first last) ≡ piece_cells kept file first last
piece-cells kept file first last f w =
    let block = kept.block in
    let source = source_of kept file in
    let rest = behind_blocks block first kept.chunks in
    let each = behind-each block (length source) kept.chunks first w in
    let middle = first-cells block source f rest (last - first) each ∙ ap (λ (xs : List Cell). take ((last - first) * block) xs) (behind-cells block source f kept.chunks first w) in
    flat_map-append (cells_of block source) (hole first) (first_blocks (last - first) rest ++ hole (kept.blocks - last))
    ∙ ap (λ (xs : List Cell). xs ++ flat_map (cells_of block source) (first_blocks (last - first) rest ++ hole (kept.blocks - last))) (hole-cells block first source)
    ∙ ap (λ (xs : List Cell). replicate (first * block) Skip ++ xs)
    (flat_map-append (cells_of block source) (first_blocks (last - first) rest) (hole (kept.blocks - last))
    ∙ ap (λ (xs : List Cell). xs ++ flat_map (cells_of block source) (hole (kept.blocks - last))) middle
    ∙ ap (λ (xs : List Cell). take ((last - first) * block) (drop (first * block) (kept_cells kept file)) ++ xs) (hole-cells block (kept.blocks - last) source))

spelled-all : (block len n m : ℕ) (chunks : List Chunk) → All (IsChunk block len) chunks → sum_by (λ (c : Chunk). c.blocks) chunks ≤ n → n < 2 ^ 32 → sum_by (chunk_len block) chunks ≤ m → m < 2 ^ 32 → All (IsSpelled block len) chunks
spelled-all block len n m [] w a b c d = All-nil (IsSpelled block len)
spelled-all block len n m (chunk ∷ chunks) w a b c d =
    let own = All-head (IsChunk block len) chunk chunks w in
    let others = All-tail (IsChunk block len) chunk chunks w in
    let s = sum_by-cons (λ (c : Chunk). c.blocks) chunk chunks in
    let t = sum_by-cons (chunk_len block) chunk chunks in
    All-cons (IsSpelled block len) chunk chunks (record { blocks = omega (arith, s, a, b); size = omega (arith, t, c, d); lies = own.lies; four = own.four })
    (spelled-all block len n m chunks others (omega (arith, s, a)) b (omega (arith, t, c)) d)

pub piece-image : PieceImage
piece-image file kept max first last h few low fits =
    let w = kept-well file kept h in
    let source = source_of kept file in
    let four : kept.block % 4 ≡ 0 = omega (arith, w.multiple) in
    let total = piece-total kept first last w.chunks.total (omega (arith, fits.more)) fits.within in
    spelled-image kept.block kept.blocks source (piece_chunks kept first last) w.multiple w.low w.high w.some few w.short fits.few
    (spelled-all kept.block (length source) kept.blocks max (piece_chunks kept first last) (piece-each kept (length source) first last w.chunks.each) (omega (arith, total)) few (omega (arith, fits.size)) low) total
    ∙ ap (λ (xs : List Cell). Some xs) (piece-cells kept file first last four w.chunks.each)

pub kept-long : (file : List ℕ) (kept : Kept) → checked file ≡ Ok kept → length (kept_cells kept file) ≡ kept.blocks * kept.block
kept-long file kept h =
    let w = kept-well file kept h in
    cells-long kept.block (source_of kept file) (omega (arith, w.multiple)) kept.chunks w.chunks.each ∙ ap (λ (n : ℕ). n * kept.block) w.chunks.total

pub piece-length : PieceLength
piece-length file kept first last h l m =
    let w = kept-well file kept h in
    let four : kept.block % 4 ≡ 0 = omega (arith, w.multiple) in
    sym (ap length (piece-cells kept file first last four w.chunks.each))
    ∙ cells-long kept.block (source_of kept file) four (piece_chunks kept first last) (piece-each kept (length (source_of kept file)) first last w.chunks.each)
    ∙ ap (λ (n : ℕ). n * kept.block) (piece-total kept first last w.chunks.total l m)
    ∙ sym (kept-long file kept h)

-- a part of a front
middle-of : (a m e : ℕ) (cells : List Cell) → a + m ≤ e → take m (drop a (take e cells)) ≡ take m (drop a cells)
middle-of a m e cells h =
    let n : e ≡ a + (e - a) = omega arith in
    ap (λ (x : ℕ). take m (drop a (take x cells))) n ∙ ap (λ (xs : List Cell). take m xs) (drop-take a (e - a) cells) ∙ take-take m (e - a) (drop a cells) (omega arith)

put-from : (file : List ℕ) (kept : Kept) (end : ℕ) (front : List Cell) (places : List ℕ) (first : ℕ) (old : List ℕ) → front ≡ take (end * kept.block) (kept_cells kept file) → length front ≡ end * kept.block → Rise first places end → first ≤ end → end * kept.block ≤ length old →
    put_pieces kept file first places old ≡ take (first * kept.block) old ++ over (drop (first * kept.block) front) (drop (first * kept.block) old)
put-from file kept end front [] first old q e r f l =
    let n : length front ≤ first * kept.block = rw r (omega (arith, e)) in
    sym (ap (λ (xs : List Cell). take (first * kept.block) old ++ over xs (drop (first * kept.block) old)) (drop_all (first * kept.block) front n) ∙ take-append-drop (first * kept.block) old)
put-from file kept end front (last ∷ places) first old q e r f l =
    let block = kept.block in
    let own = replicate (first * block) Skip ++ (take ((last - first) * block) (drop (first * block) front) ++ replicate ((kept.blocks - last) * block) Skip) in
    let s = spent last first (last - first) block (omega (arith, r.0)) in
    let below = mul-le-mul_right block r.1 in
    let same : piece_cells kept file first last ≡ own =
    sym (ap (λ (xs : List Cell). replicate (first * block) Skip ++ (xs ++ replicate ((kept.blocks - last) * block) Skip))
    (ap (λ (xs : List Cell). take ((last - first) * block) (drop (first * block) xs)) q ∙ middle-of (first * block) ((last - first) * block) (end * block) (kept_cells kept file) (omega (arith, s, below)))) in
    ap (λ (xs : List Cell). put_pieces kept file last places (over xs old)) same
    ∙ put-from file kept end front places last (over own old) q e r.2 r.1 (omega (arith, over_length own old, l))
    ∙ middle-put (first * block) ((last - first) * block) (last * block) ((kept.blocks - last) * block) front old (sym s) (omega (arith, e, below)) (omega (arith, e, l))

pub pieces-front : PiecesFront
pieces-front file kept end places old h r e l =
    let long = kept-long file kept h in
    let below = mul-le-mul_right kept.block e in
    let front = take (end * kept.block) (kept_cells kept file) in
    put-from file kept end front places 0 old refl (length-take-le (end * kept.block) (kept_cells kept file) (omega (arith, long, below))) r (omega arith) (omega (arith, long, below, l))
    ∙ ap (λ (n : ℕ). take n old ++ over (drop n front) (drop n old)) (zero-mul kept.block)

pub pieces-put : PiecesPut
pieces-put file kept places old h r l =
    pieces-front file kept kept.blocks places old h r (omega arith) l
    ∙ ap (λ (xs : List Cell). over xs old) (take_all (kept.blocks * kept.block) (kept_cells kept file) (omega (arith, kept-long file kept h)))
