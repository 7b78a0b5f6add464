-- The cells of the first blocks of chunks, and of those behind them.
use Rattle.std.proofs.Common.{◌≡◌, ℕ, zero, suc, ◌+◌, ◌-◌, ◌*◌, ◌≤◌, List, [], ◌∷◌, ◌++◌, length, take, drop, map, refl, sym, ap, ◌∙◌, arith, ⊎_elim, zero-mul}
use Rattle.std.specs.Prelude.{◌/◌, ◌%◌, ◌==◌, if◌then◌else◌}
use Rattle.std.specs.List.{flat_map, All}
use Rattle.std.proofs.Math.Seq.{take-nil, drop-nil, take-append-add, drop-append-add}
use Rattle.std.proofs.Math.Nat.{mul-le-mul_right}
use Rattle.std.proofs.lemmas.Bool.Decides.{leb_tells, eqb_tells}
use Rattle.std.proofs.lemmas.List.{take-take, drop-drop, take-map, drop-map, drop-take, take-append-le, drop-append-le, take-replicate, drop-replicate, append-nil, length-map}
use Rattle.std.proofs.lemmas.List.Elements.{All-head, All-tail}
use Rattle.dev_model.specs.Images.{copies}
use Rattle.dev_model.specs.declared.cells.Cell.{Cell}
use Rattle.dev_model.specs.declared.cells.Cell.TheVariants.{Byte, Skip}
use Rattle.sparse_image.specs.declared.chunk.Content.{Content}
use Rattle.sparse_image.specs.declared.chunk.Content.TheVariants.{Raw, Fill, DontCare}
use Rattle.sparse_image.specs.declared.chunk.Chunk.{Chunk}
use Rattle.sparse_image.specs.Walks.{cells_of, content_cells, LiesIn, HasFour}
use Rattle.sparse_image.specs.Pieces.{first_blocks, behind_blocks, content_behind}
use Rattle.sparse_image.proofs.WalkLemmas.{length-cells}
use Rattle.sparse_image.proofs.RunLemmas.{fours, spent}

-- a chunk of a source of so many bytes
pub record IsChunk (block len : ℕ) (chunk : Chunk) : Type 0 where
  pub lies : LiesIn len (chunk.blocks * block) chunk.content
  pub four : HasFour chunk.content

pub chunk-cells-long : (block : ℕ) (source : List ℕ) (chunk : Chunk) → block % 4 ≡ 0 → IsChunk block (length source) chunk → length (cells_of block source chunk) ≡ chunk.blocks * block
chunk-cells-long block source chunk f w = length-cells (chunk.blocks * block) source chunk.content w.lies w.four (fours chunk.blocks block f)

take-copies : {X : Type 0} (k m : ℕ) (xs : List X) → k ≤ m → take (k * length xs) (copies m xs) ≡ copies k xs
take-copies zero m xs h = ap (λ (n : ℕ). take n (copies m xs)) (zero-mul (length xs))
take-copies (suc k) zero xs h = absurd (omega arith)
take-copies {X = X} (suc k) (suc m) xs h =
    let e : suc k * length xs ≡ length xs + k * length xs = omega arith in
    ap (λ (n : ℕ). take n (xs ++ copies m xs)) e ∙ take-append-add xs (copies m xs) (k * length xs) ∙ ap (λ (ys : List X). xs ++ ys) (take-copies k m xs (omega arith))

drop-copies : {X : Type 0} (k m : ℕ) (xs : List X) → k ≤ m → drop (k * length xs) (copies m xs) ≡ copies (m - k) xs
drop-copies zero m xs h = ap (λ (n : ℕ). drop n (copies m xs)) (zero-mul (length xs)) ∙ ap (λ (n : ℕ). copies n xs) (omega arith)
drop-copies (suc k) zero xs h = absurd (omega arith)
drop-copies (suc k) (suc m) xs h =
    let e : suc k * length xs ≡ length xs + k * length xs = omega arith in
    let n : m - k ≡ suc m - suc k = omega arith in
    ap (λ (n : ℕ). drop n (xs ++ copies m xs)) e ∙ drop-append-add xs (copies m xs) (k * length xs) ∙ drop-copies k m xs (omega arith) ∙ ap (λ (n : ℕ). copies n xs) n

fill-place : (n : ℕ) (pattern : List ℕ) → length pattern ≡ 4 → n % 4 ≡ 0 → n ≡ n / 4 * length (map Byte pattern)
fill-place n pattern f h = simp length-map (rw f (omega arith))

-- the first bytes of a chunk's content, and those behind them
cut-content : (n m : ℕ) (source : List ℕ) (content : Content) → HasFour content → n % 4 ≡ 0 → n ≤ m → take n (content_cells m source content) ≡ content_cells n source content
cut-content n m source (Raw place) f h l = take-map Byte n (take m (drop place source)) ∙ ap (map Byte) (take-take n m (drop place source) l)
cut-content n m source (Fill pattern) f h l =
    ap (λ (k : ℕ). take k (copies (m / 4) (map Byte pattern))) (fill-place n pattern f h) ∙ take-copies (n / 4) (m / 4) (map Byte pattern) (omega arith)
cut-content n m source DontCare f h l = take-replicate n m Skip l

rest-content : (n m : ℕ) (source : List ℕ) (content : Content) → HasFour content → n % 4 ≡ 0 → m % 4 ≡ 0 → n ≤ m → drop n (content_cells m source content) ≡ content_cells (m - n) source (content_behind n content)
rest-content n m source (Raw place) f h i l =
    let e : m ≡ n + (m - n) = omega arith in
    drop-map Byte n (take m (drop place source))
    ∙ ap (λ (k : ℕ). map Byte (drop n (take k (drop place source)))) e
    ∙ ap (map Byte) (drop-take n (m - n) (drop place source) ∙ ap (take (m - n)) (drop-drop n place source))
rest-content n m source (Fill pattern) f h i l =
    let e : m / 4 - n / 4 ≡ (m - n) / 4 = omega arith in
    ap (λ (k : ℕ). drop k (copies (m / 4) (map Byte pattern))) (fill-place n pattern f h) ∙ drop-copies (n / 4) (m / 4) (map Byte pattern) (omega arith) ∙ ap (λ (k : ℕ). copies k (map Byte pattern)) e
rest-content n m source DontCare f h i l = drop-replicate n m Skip

-- a chunk that is whole among the first n blocks, and the rest
whole-place : (block n : ℕ) (source : List ℕ) (chunk : Chunk) → block % 4 ≡ 0 → IsChunk block (length source) chunk → chunk.blocks ≤ n → n * block ≡ length (cells_of block source chunk) + (n - chunk.blocks) * block
whole-place block n source chunk f w h = omega (arith, chunk-cells-long block source chunk f w, spent n chunk.blocks (n - chunk.blocks) block (omega arith))

part-place : (block n : ℕ) (source : List ℕ) (chunk : Chunk) → block % 4 ≡ 0 → IsChunk block (length source) chunk → n ≤ chunk.blocks → n * block ≤ length (cells_of block source chunk)
part-place block n source chunk f w h = let m = mul-le-mul_right block h in omega (arith, chunk-cells-long block source chunk f w)

part-cells : (block n : ℕ) (source : List ℕ) (content : Content) → flat_map (cells_of block source) (record { blocks = n; content = content } ∷ []) ≡ content_cells (n * block) source content
part-cells block n source content = append-nil (content_cells (n * block) source content)

-- the first blocks of a chunk that has more
cut-chunk : (block n : ℕ) (source : List ℕ) (chunk : Chunk) (more : List Cell) → block % 4 ≡ 0 → IsChunk block (length source) chunk → n ≤ chunk.blocks →
    flat_map (cells_of block source) (if n == 0 then [] else record { blocks = n; content = chunk.content } ∷ []) ≡ take (n * block) (cells_of block source chunk ++ more)
cut-chunk block n source chunk more f w h =
    let p = part-place block n source chunk f w h in
    let front = take-append-le (n * block) (cells_of block source chunk) more p ∙ cut-content (n * block) (chunk.blocks * block) source chunk.content w.four (fours n block f) (mul-le-mul_right block h) in
    ⊎_elim (λ k. rw k.0 (rw k.1 (rw zero-mul refl))) (λ k. rw k.0 (part-cells block n source chunk.content ∙ sym front)) (eqb_tells n 0)

-- what is left of a chunk behind its first blocks
rest-chunk : (block n : ℕ) (source : List ℕ) (chunk : Chunk) (more : List Cell) → block % 4 ≡ 0 → IsChunk block (length source) chunk → n ≤ chunk.blocks →
    content_cells ((chunk.blocks - n) * block) source (content_behind (n * block) chunk.content) ++ more ≡ drop (n * block) (cells_of block source chunk ++ more)
rest-chunk block n source chunk more f w h =
    let p = part-place block n source chunk f w h in
    let s = spent chunk.blocks n (chunk.blocks - n) block (omega arith) in
    let e : chunk.blocks * block - n * block ≡ (chunk.blocks - n) * block = omega arith in
    sym (drop-append-le (n * block) (cells_of block source chunk) more p
    ∙ ap (λ (xs : List Cell). xs ++ more) (rest-content (n * block) (chunk.blocks * block) source chunk.content w.four (fours n block f) (fours chunk.blocks block f) (mul-le-mul_right block h)
    ∙ ap (λ (x : ℕ). content_cells x source (content_behind (n * block) chunk.content)) e))

pub first-cells : (block : ℕ) (source : List ℕ) → block % 4 ≡ 0 → (chunks : List Chunk) (n : ℕ) → All (IsChunk block (length source)) chunks →
    flat_map (cells_of block source) (first_blocks n chunks) ≡ take (n * block) (flat_map (cells_of block source) chunks)
first-cells block source f [] n w = sym (take-nil (n * block))
first-cells block source f (chunk ∷ chunks) n w =
    let own = All-head (IsChunk block (length source)) chunk chunks w in
    let others = All-tail (IsChunk block (length source)) chunk chunks w in
    let rest = flat_map (cells_of block source) chunks in
    ⊎_elim
    (λ k. rw k.0 (ap (λ (xs : List Cell). cells_of block source chunk ++ xs) (first-cells block source f chunks (n - chunk.blocks) others)
    ∙ sym (take-append-add (cells_of block source chunk) rest ((n - chunk.blocks) * block))
    ∙ ap (λ (x : ℕ). take x (cells_of block source chunk ++ rest)) (sym (whole-place block n source chunk f own k.1))))
    (λ k. rw k.0 (cut-chunk block n source chunk rest f own (omega arith)))
    (leb_tells chunk.blocks n)

pub behind-cells : (block : ℕ) (source : List ℕ) → block % 4 ≡ 0 → (chunks : List Chunk) (n : ℕ) → All (IsChunk block (length source)) chunks →
    flat_map (cells_of block source) (behind_blocks block n chunks) ≡ drop (n * block) (flat_map (cells_of block source) chunks)
behind-cells block source f [] n w = sym (drop-nil (n * block))
behind-cells block source f (chunk ∷ chunks) n w =
    let own = All-head (IsChunk block (length source)) chunk chunks w in
    let others = All-tail (IsChunk block (length source)) chunk chunks w in
    let rest = flat_map (cells_of block source) chunks in
    ⊎_elim
    (λ k. rw k.0 (behind-cells block source f chunks (n - chunk.blocks) others
    ∙ sym (drop-append-add (cells_of block source chunk) rest ((n - chunk.blocks) * block))
    ∙ ap (λ (x : ℕ). drop x (cells_of block source chunk ++ rest)) (sym (whole-place block n source chunk f own k.1))))
    (λ k. rw k.0 (rest-chunk block n source chunk rest f own (omega arith)))
    (leb_tells chunk.blocks n)
