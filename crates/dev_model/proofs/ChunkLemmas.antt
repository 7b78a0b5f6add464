-- The chunks of a sparse file, one after the other.
use Rattle.std.proofs.Common.{◌≡◌, ◌≢◌, ℕ, zero, suc, append-nil, ◌+◌, ◌-◌, ◌<◌, ◌≤◌, Bool, true, false, List, [], ◌∷◌, ◌++◌, length, take, drop, Option, Some, None, refl, ap, sym, ◌∙◌, arith, append_assoc, take_all, length-drop, length-take}
use Rattle.std.specs.Prelude.{nat_le, ◌==◌, ◌&&◌, if◌then◌else◌}
use Rattle.std.proofs.lemmas.Bool.Decides.{nat_tests}
use Rattle.dev_model.specs.declared.cells.Cell.{Cell}
use Rattle.dev_model.specs.Options.{◌>>=◌, needs}
use Rattle.dev_model.specs.Images.{chunk_cells, chunks_cells, sparse_cells, header_is_good, data_size, copies}
use Rattle.fb_frame.specs.Fields.{u16_at, u32_at}
use Rattle.dev_model.specs.Chunks.{cells_of}
use Rattle.dev_model.specs.Steps.{wiped}

-- the cells of two chunks are joined in either way
joined : (done new : List Cell) (o : Option (List Cell)) →
    (o >>= λ cells. Some ((done ++ new) ++ cells)) ≡ ((o >>= λ cells. Some (new ++ cells)) >>= λ cells. Some (done ++ cells))
joined done new None = refl
joined done new (Some cells) = ap Some (append_assoc done new cells)

-- one chunk more is done
pub chunk_turn : (n i block left next : ℕ) (rest behind : List ℕ) (done new : List Cell) → i < n →
    ((more : ℕ) → cells_of (suc more) block left rest ≡ (cells_of more block next behind >>= λ cells. Some (new ++ cells))) →
    (cells_of (n - (i + 1)) block next behind >>= λ cells. Some ((done ++ new) ++ cells))
    ≡ (cells_of (n - i) block left rest >>= λ cells. Some (done ++ cells))
chunk_turn n i block left next rest behind done new h f =
    let e : n - i ≡ suc (n - (i + 1)) = omega arith in
    joined done new (cells_of (n - (i + 1)) block next behind)
    ∙ ap (λ o. o >>= λ cells. Some (done ++ cells)) (sym (f (n - (i + 1))) ∙ ap (λ k. cells_of k block left rest) (sym e))

-- no chunk follows
pub chunk_lost : (n i block left : ℕ) (rest : List ℕ) (done : List Cell) → i < n → ((more : ℕ) → cells_of (suc more) block left rest ≡ None) →
    (cells_of (n - i) block left rest >>= λ cells. Some (done ++ cells)) ≡ None
chunk_lost n i block left rest done h f =
    let e : n - i ≡ suc (n - (i + 1)) = omega arith in
    ap (λ o. o >>= λ cells. Some (done ++ cells)) (ap (λ k. cells_of k block left rest) e ∙ f (n - (i + 1)))

pub ruleset chunk_turns = (chunk_turn, chunk_lost)

-- what follows from a value that is absent, or there
then-none : {X Y : Type 0} (o : Option X) (k : X → Option Y) → o ≡ None → (o >>= k) ≡ None
then-none o k e = ap (λ p. p >>= k) e

then-some : {X Y : Type 0} (o : Option X) (k : X → Option Y) (x : X) → o ≡ Some x → (o >>= k) ≡ k x
then-some o k x e = ap (λ p. p >>= k) e

then-lost : {X Y : Type 0} (o : Option X) (k : X → Option Y) → ((x : X) → o ≡ Some x → k x ≡ None) → (o >>= k) ≡ None
then-lost None k f = refl
then-lost (Some x) k f = f x refl

needs-none : {Y : Type 0} (b : Bool) (k : Unit {0} → Option Y) → b ≡ false → (needs b >>= k) ≡ None
needs-none b k e = ap (λ c. needs c >>= k) e

needs-some : {Y : Type 0} (b : Bool) (k : Unit {0} → Option Y) → b ≡ true → (needs b >>= k) ≡ k tt
needs-some b k e = ap (λ c. needs c >>= k) e

-- a chunk whose type isn't known
pub no_size : (more block blocks : ℕ) (bytes : List ℕ) → data_size (u16_at 0 bytes) (u32_at 4 bytes) block ≡ None → cells_of (suc more) block blocks bytes ≡ None
unfolding cells_of
no_size more block blocks bytes e = then-none _ _ e

-- what a chunk of this data's size must have
abbrev pub fits : ℕ → ℕ → List ℕ → Bool
fits size blocks bytes = nat_le 12 (length bytes) && nat_le (u32_at 4 bytes) blocks && u32_at 8 bytes == 12 + size && nat_le (12 + size) (length bytes)

-- bytes that are no chunk
no_chunk : (more block blocks : ℕ) (bytes : List ℕ) →
    ((size : ℕ) → data_size (u16_at 0 bytes) (u32_at 4 bytes) block ≡ Some size → fits size blocks bytes ≡ false) →
    cells_of (suc more) block blocks bytes ≡ None
unfolding cells_of
no_chunk more block blocks bytes f = then-lost _ _ (λ size e. needs-none _ _ (f size e))

pub too_short : (more block blocks : ℕ) (bytes : List ℕ) → length bytes < 12 → cells_of (suc more) block blocks bytes ≡ None
too_short more block blocks bytes h = no_chunk more block blocks bytes (λ size e. grind (arith, nat_tests))

misfit : (more block blocks size : ℕ) (bytes : List ℕ) → data_size (u16_at 0 bytes) (u32_at 4 bytes) block ≡ Some size →
    fits size blocks bytes ≡ false → cells_of (suc more) block blocks bytes ≡ None
misfit more block blocks size bytes e h = no_chunk more block blocks bytes (λ n g. let same : n ≡ size = cc in ap (λ k. fits k blocks bytes) same ∙ h)

pub too_many : (more block blocks size : ℕ) (bytes : List ℕ) → data_size (u16_at 0 bytes) (u32_at 4 bytes) block ≡ Some size →
    blocks < u32_at 4 bytes → cells_of (suc more) block blocks bytes ≡ None
too_many more block blocks size bytes e h = misfit more block blocks size bytes e (over refl) where
  over : fits size blocks bytes ≡ fits size blocks bytes → fits size blocks bytes ≡ false
  over _ = grind (arith, nat_tests)

pub mistold : (more block blocks size : ℕ) (bytes : List ℕ) → data_size (u16_at 0 bytes) (u32_at 4 bytes) block ≡ Some size →
    u32_at 8 bytes ≢ 12 + size → cells_of (suc more) block blocks bytes ≡ None
mistold more block blocks size bytes e h = misfit more block blocks size bytes e (over refl) where
  over : fits size blocks bytes ≡ fits size blocks bytes → fits size blocks bytes ≡ false
  over _ = grind (arith, nat_tests)

pub cut_short : (more block blocks size : ℕ) (bytes : List ℕ) → data_size (u16_at 0 bytes) (u32_at 4 bytes) block ≡ Some size →
    length bytes < 12 + size → cells_of (suc more) block blocks bytes ≡ None
cut_short more block blocks size bytes e h = misfit more block blocks size bytes e (over refl) where
  over : fits size blocks bytes ≡ fits size blocks bytes → fits size blocks bytes ≡ false
  over _ = grind (arith, nat_tests)

-- a chunk, and those that follow
pub a_chunk : (more block blocks size : ℕ) (bytes : List ℕ) → data_size (u16_at 0 bytes) (u32_at 4 bytes) block ≡ Some size →
    u32_at 4 bytes ≤ blocks → u32_at 8 bytes ≡ 12 + size → 12 + size ≤ length bytes →
    cells_of (suc more) block blocks bytes
    ≡ (cells_of more block (blocks - u32_at 4 bytes) (drop (12 + size) bytes)
    >>= λ cells. Some (chunk_cells (u16_at 0 bytes) (u32_at 4 bytes) block (take size (drop 12 bytes)) ++ cells))
unfolding cells_of
a_chunk more block blocks size bytes e f g h = then-some _ _ size e ∙ needs-some _ _ (whole refl) where
  whole : fits size blocks bytes ≡ fits size blocks bytes → fits size blocks bytes ≡ true
  whole _ = grind (arith, nat_tests)

-- all that stands behind the first bytes
pub behind : (n : ℕ) (bytes : List ℕ) → take (length bytes - n) (drop n bytes) ≡ drop n bytes
behind n bytes = take_all (length bytes - n) (drop n bytes) (omega (arith, length-drop n bytes))

-- the same of the numbers and the data as the program has them
pub first_rest : (block blocks size kind own total : ℕ) (bytes : List ℕ) → kind ≡ u16_at 0 bytes → own ≡ u32_at 4 bytes → total ≡ u32_at 8 bytes →
    data_size kind own block ≡ Some size → own ≤ blocks → 12 ≤ total → total - 12 ≡ size → 12 ≤ length bytes →
    size ≤ length (take (length bytes - 12) (drop 12 bytes)) → (more : ℕ) →
    cells_of (suc more) block blocks bytes
    ≡ (cells_of more block (blocks - own) (drop (12 + length (take size (take (length bytes - 12) (drop 12 bytes)))) bytes)
    >>= λ cells. Some (chunk_cells kind own block (take size (take (length bytes - 12) (drop 12 bytes))) ++ cells))
first_rest block blocks size kind own total bytes e f g h few some told long inside more =
    let from = λ (k o n : ℕ) (d : List ℕ). cells_of more block (blocks - o) (drop (12 + n) bytes) >>= λ cells. Some (chunk_cells k o block d ++ cells) in
    let all : take (length bytes - 12) (drop 12 bytes) ≡ drop 12 bytes = behind 12 bytes in
    let same : take size (drop 12 bytes) ≡ take size (take (length bytes - 12) (drop 12 bytes)) = ap (take size) (sym all) in
    let sized : size ≡ length (take size (take (length bytes - 12) (drop 12 bytes))) = omega (arith, length-take size (take (length bytes - 12) (drop 12 bytes))) in
    a_chunk more block blocks size bytes (ap (λ k. data_size k (u32_at 4 bytes) block) (sym e) ∙ ap (λ o. data_size kind o block) (sym f) ∙ h)
    (omega arith) (omega arith) (omega (arith, length-drop 12 bytes, length-take (length bytes - 12) (drop 12 bytes)))
    ∙ ap (λ k. from k (u32_at 4 bytes) size (take size (drop 12 bytes))) (sym e)
    ∙ ap (λ o. from kind o size (take size (drop 12 bytes))) (sym f)
    ∙ ap (λ n. from kind own n (take size (drop 12 bytes))) sized
    ∙ ap (from kind own (length (take size (take (length bytes - 12) (drop 12 bytes))))) same

pub ruleset first_chunks = (no_size, too_short, too_many, mistold, cut_short, a_chunk)

-- no chunk is left, and all bytes and blocks were taken
pub chunk_end : (n i block left : ℕ) (rest : List ℕ) (done : List Cell) → n ≤ i → length rest ≡ 0 → left ≡ 0 →
    (cells_of (n - i) block left rest >>= λ cells. Some (done ++ cells)) ≡ Some done
unfolding cells_of
chunk_end n i block left rest done h e f =
    let none : n - i ≡ 0 = omega arith in
    let all : (length rest == 0 && left == 0) ≡ true = grind (arith, nat_tests) in
    ap (λ k. chunks_cells k block left rest >>= λ cells. Some (done ++ cells)) none
    ∙ ap (λ b. (if b then Some [] else None) >>= λ cells. Some (done ++ cells)) all
    ∙ ap Some (append-nil done)

-- no chunk is left, and some bytes or blocks are
pub chunk_over : (n i block left : ℕ) (rest : List ℕ) (done : List Cell) → n ≤ i → (length rest == 0 && left == 0) ≡ false →
    (cells_of (n - i) block left rest >>= λ cells. Some (done ++ cells)) ≡ None
unfolding cells_of
chunk_over n i block left rest done h e =
    let none : n - i ≡ 0 = omega arith in
    ap (λ k. chunks_cells k block left rest >>= λ cells. Some (done ++ cells)) none
    ∙ ap (λ b. (if b then Some [] else None) >>= λ cells. Some (done ++ cells)) e

-- the cells of a sparse file with a good header are those of its chunks
pub sparse_good : (file : List ℕ) (chunks block blocks : ℕ) (o : Option (List Cell)) → header_is_good file ≡ true →
    chunks ≡ u32_at 20 file → block ≡ u32_at 12 file → blocks ≡ u32_at 16 file → o ≡ cells_of chunks block blocks (drop 28 file) → o ≡ sparse_cells file
unfolding cells_of
sparse_good file chunks block blocks o h e f g k =
    k ∙ ap (λ c. chunks_cells c block blocks (drop 28 file)) e ∙ ap (λ c. chunks_cells (u32_at 20 file) c blocks (drop 28 file)) f
    ∙ ap (λ c. chunks_cells (u32_at 20 file) (u32_at 12 file) c (drop 28 file)) g
    ∙ sym (needs-some (header_is_good file) (λ _. chunks_cells (u32_at 20 file) (u32_at 12 file) (u32_at 16 file) (drop 28 file)) h)

pub ruleset sparse_files = (sparse_good)

-- one copy more
pub copies_turn : {X : Type 0} (n : ℕ) (xs : List X) → copies n xs ++ xs ≡ copies (n + 1) xs
copies_turn zero xs = sym (append-nil xs)
copies_turn (suc n) xs = let e : suc n + 1 ≡ suc (n + 1) = omega arith in rw e (append_assoc xs (copies n xs) xs ∙ ap (λ t. xs ++ t) (copies_turn n xs))

pub ruleset copies_turns = (copies_turn)

-- one byte more is wiped
pub wiped_turn : (old : List ℕ) (i : ℕ) → i < length old → wiped (take i old) ++ 255 ∷ [] ≡ wiped (take (i + 1) old)
wiped_turn [] i h = absurd (omega arith)
wiped_turn (b ∷ old) zero h = refl
wiped_turn (b ∷ old) (suc i) h = let e : suc i + 1 ≡ suc (i + 1) = omega arith in rw e (ap (λ t. 255 ∷ t) (wiped_turn old i (omega arith)))

pub ruleset wiped_turns = (wiped_turn)
