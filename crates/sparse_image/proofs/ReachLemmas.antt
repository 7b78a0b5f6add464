-- How far a piece reaches: a greedy walk over the chunks ends at the greatest place.
use Rattle.std.proofs.Common.{◌≡◌, ℕ, zero, suc, ◌+◌, ◌-◌, ◌*◌, ◌<◌, ◌≤◌, List, [], ◌∷◌, ◌++◌, length, length-append, refl, ap, ◌∙◌, arith, ⊎_elim, ◌⊎◌, inl, inr}
use Rattle.std.specs.Prelude.{true, false, nat_le}
use Rattle.std.specs.List.{sum_by, All}
use Rattle.std.proofs.lemmas.Bool.Decides.{nat_tests, leb_tells, eqb_tells}
use Rattle.std.proofs.lemmas.List.Sums.{sum_by-cons, sum_by-append}
use Rattle.sparse_image.specs.declared.chunk.Chunk.{Chunk}
use Rattle.sparse_image.specs.Walks.{Kept, content_len, chunk_len}
use Rattle.sparse_image.specs.declared.chunk.Content.{Content}
use Rattle.sparse_image.specs.declared.chunk.Content.TheVariants.{Raw, Fill, DontCare}
use Rattle.sparse_image.specs.Pieces.{first_blocks, behind_blocks, content_behind, hole, piece_chunks, sparse_len, Fits}

some-or : (n : ℕ) → (0 < n) ⊎ (n ≡ 0)
some-or zero = inr refl
some-or (suc n) = inl (omega arith)

zero-or : (n : ℕ) → (n ≡ 0) ⊎ (0 < n)
zero-or zero = inl refl
zero-or (suc n) = inr (omega arith)

below-or : (m n : ℕ) → (m ≤ n) ⊎ (n < m)
below-or m n = ⊎_elim (λ k. inl k.1) (λ k. inr (omega (arith, k.1))) (leb_tells m n)

-- chunks of at least one block
abbrev pub AreSome : List Chunk → Type 0
AreSome chunks = All (λ (c : Chunk). 0 < c.blocks) chunks

-- the bytes and the count of a hole
pub hole-len : (block n : ℕ) → (sum_by (chunk_len block) (hole n) ≡ 12 * length (hole n)) × (length (hole n) ≤ 1) × (0 < n → length (hole n) ≡ 1) × (n ≡ 0 → length (hole n) ≡ 0)
hole-len block n =
    ⊎_elim
    (λ k. (rw k.0 (omega arith), rw k.0 (omega arith), λ h. absurd (omega (arith, k.1, h)), λ h. rw k.0 (omega arith)))
    (λ k. (rw k.0 (omega arith), rw k.0 (omega arith), λ h. rw k.0 (omega arith), λ h. absurd (k.1 h)))
    (eqb_tells n 0)

-- a piece's bytes and chunks
pub piece-len : (kept : Kept) (first last : ℕ) → sparse_len kept.block (piece_chunks kept first last) ≡ 28 + 12 * length (hole first) + sum_by (chunk_len kept.block) (first_blocks (last - first) (behind_blocks kept.block first kept.chunks)) + 12 * length (hole (kept.blocks - last))
piece-len kept first last =
    let middle = first_blocks (last - first) (behind_blocks kept.block first kept.chunks) in
    omega (
      arith,
      sum_by-append (chunk_len kept.block) (hole first) (middle ++ hole (kept.blocks - last)),
      sum_by-append (chunk_len kept.block) middle (hole (kept.blocks - last)),
      (hole-len kept.block first).0,
      (hole-len kept.block (kept.blocks - last)).0,
    )

pub piece-count : (kept : Kept) (first last : ℕ) → length (piece_chunks kept first last) ≡ length (hole first) + length (first_blocks (last - first) (behind_blocks kept.block first kept.chunks)) + length (hole (kept.blocks - last))
piece-count kept first last =
    let middle = first_blocks (last - first) (behind_blocks kept.block first kept.chunks) in
    omega (arith, length-append (hole first) (middle ++ hole (kept.blocks - last)), length-append middle (hole (kept.blocks - last)))

-- whole chunks at the front
pub first-append : (done rest : List Chunk) (n : ℕ) → first_blocks (sum_by (λ (c : Chunk). c.blocks) done + n) (done ++ rest) ≡ done ++ first_blocks n rest
first-append [] rest n = ap (λ (x : ℕ). first_blocks x rest) (omega arith)
first-append (chunk ∷ done) rest n =
    let s = sum_by-cons (λ (c : Chunk). c.blocks) chunk done in
    let total = sum_by (λ (c : Chunk). c.blocks) (chunk ∷ done) + n in
    ⊎_elim
    (λ k. rw k.0 (ap (λ (xs : List Chunk). chunk ∷ xs) (ap (λ (x : ℕ). first_blocks x (done ++ rest)) (omega (arith, s)) ∙ first-append done rest n)))
    (λ k. absurd (omega (arith, s, k.1)))
    (leb_tells chunk.blocks total)

pub behind-append : (block : ℕ) (done rest : List Chunk) (n : ℕ) → behind_blocks block (sum_by (λ (c : Chunk). c.blocks) done + n) (done ++ rest) ≡ behind_blocks block n rest
behind-append block [] rest n = ap (λ (x : ℕ). behind_blocks block x rest) (omega arith)
behind-append block (chunk ∷ done) rest n =
    let s = sum_by-cons (λ (c : Chunk). c.blocks) chunk done in
    let total = sum_by (λ (c : Chunk). c.blocks) (chunk ∷ done) + n in
    ⊎_elim
    (λ k. rw k.0 (ap (λ (x : ℕ). behind_blocks block x (done ++ rest)) (omega (arith, s)) ∙ behind-append block done rest n))
    (λ k. absurd (omega (arith, s, k.1)))
    (leb_tells chunk.blocks total)

-- some block of chunks takes a chunk
pub first-some : (block n : ℕ) (chunks : List Chunk) → 0 < n → n ≤ sum_by (λ (c : Chunk). c.blocks) chunks → (1 ≤ length (first_blocks n chunks)) × (12 ≤ sum_by (chunk_len block) (first_blocks n chunks))
first-some block n [] h l = absurd (omega arith)
first-some block n (chunk ∷ chunks) h l =
    ⊎_elim
    (λ k. (rw k.0 (omega arith), rw k.0 (omega (arith, sum_by-cons (chunk_len block) chunk (first_blocks (n - chunk.blocks) chunks)))))
    (λ k. ⊎_elim (λ j. absurd (omega (arith, j.1)))
    (λ j. (rw (k.0, j.0) (omega arith), rw (k.0, j.0) (omega (arith, sum_by-cons (chunk_len block) (record { blocks = n; content = chunk.content }) []))))
    (eqb_tells n 0))
    (leb_tells chunk.blocks n)

len-sum : (block : ℕ) (chunks : List Chunk) → 12 * length chunks ≤ sum_by (chunk_len block) chunks
len-sum block [] = omega arith
len-sum block (chunk ∷ chunks) = omega (arith, sum_by-cons (chunk_len block) chunk chunks, len-sum block chunks)

-- the bytes and chunks of a piece before its last don't-care chunk, where it holds whole chunks
abbrev pub bytes_of : Kept → ℕ → List Chunk → ℕ
bytes_of kept first done = 28 + 12 * length (hole first) + sum_by (chunk_len kept.block) done

abbrev pub count_of : ℕ → List Chunk → ℕ
count_of first done = length (hole first) + length done

-- behind whole chunks a whole one doesn't fit, and of it no more than a part
pub record IsStuck (kept : Kept) (max first : ℕ) (done : List Chunk) (chunk : Chunk) (more : List Chunk) (part : ℕ) : Type 0 where
  pub chunks : behind_blocks kept.block first kept.chunks ≡ done ++ (chunk ∷ more)
  pub total : first + (sum_by (λ (c : Chunk). c.blocks) done + (chunk.blocks + sum_by (λ (c : Chunk). c.blocks) more)) ≡ kept.blocks
  pub whole : (max < bytes_of kept first done + chunk_len kept.block chunk + 12 * length (hole (kept.blocks - (first + sum_by (λ (c : Chunk). c.blocks) done + chunk.blocks))))
      ⊎ (1000000 < count_of first done + 1 + length (hole (kept.blocks - (first + sum_by (λ (c : Chunk). c.blocks) done + chunk.blocks))))
  pub full : (n : ℕ) → part < n → n < chunk.blocks → (max < bytes_of kept first done + (12 + content_len (n * kept.block) chunk.content) + 12) ⊎ (1000000 < count_of first done + 2)

-- what a piece takes that reaches n blocks behind whole chunks
reach-len : (kept : Kept) (max first : ℕ) (done : List Chunk) (chunk : Chunk) (more : List Chunk) (part place n : ℕ) → IsStuck kept max first done chunk more part → place ≡ first + sum_by (λ (c : Chunk). c.blocks) done + n →
    (sparse_len kept.block (piece_chunks kept first place) ≡ bytes_of kept first done + sum_by (chunk_len kept.block) (first_blocks n (chunk ∷ more)) + 12 * length (hole (kept.blocks - place)))
    × (length (piece_chunks kept first place) ≡ count_of first done + length (first_blocks n (chunk ∷ more)) + length (hole (kept.blocks - place)))
reach-len kept max first done chunk more part place n s e =
    let front = first_blocks n (chunk ∷ more) in
    let k : place - first ≡ sum_by (λ (c : Chunk). c.blocks) done + n = omega (arith, e) in
    let f : first_blocks (place - first) (behind_blocks kept.block first kept.chunks) ≡ done ++ front =
    ap (λ (x : ℕ). first_blocks x (behind_blocks kept.block first kept.chunks)) k ∙ ap (λ (xs : List Chunk). first_blocks (sum_by (λ (c : Chunk). c.blocks) done + n) xs) s.chunks ∙ first-append done (chunk ∷ more) n in (
      omega (arith, piece-len kept first place, ap (λ (xs : List Chunk). sum_by (chunk_len kept.block) xs) f, sum_by-append (chunk_len kept.block) done front),
      omega (arith, piece-count kept first place, ap (λ (xs : List Chunk). length xs) f, length-append done front),
    )

pub cut-front : (n : ℕ) (chunk : Chunk) (more : List Chunk) → 0 < n → n < chunk.blocks → first_blocks n (chunk ∷ more) ≡ record { blocks = n; content = chunk.content } ∷ []
cut-front n chunk more h l =
    ⊎_elim (λ k. absurd (omega (arith, k.1))) (λ k. ⊎_elim (λ j. absurd (omega (arith, j.1))) (λ j. rw (k.0, j.0) refl) (eqb_tells n 0)) (leb_tells chunk.blocks n)

pub whole-front : (n : ℕ) (chunk : Chunk) (more : List Chunk) → chunk.blocks ≤ n → first_blocks n (chunk ∷ more) ≡ chunk ∷ first_blocks (n - chunk.blocks) more
whole-front n chunk more h = ⊎_elim (λ k. rw k.0 refl) (λ k. absurd (omega (arith, k.1))) (leb_tells chunk.blocks n)

-- a hole behind a chunk is behind a later place too, or a further chunk is before that place
later-hole : (block total end place n : ℕ) (more : List Chunk) → end ≤ place → place ≤ total → n ≡ place - end → total - end ≡ sum_by (λ (c : Chunk). c.blocks) more →
    length (hole (total - end)) ≤ length (hole (total - place)) + length (first_blocks n more)
later-hole block total end place n more h l e t =
    ⊎_elim
    (λ k. let z = (hole-len block (total - place)).2 k in omega (arith, (hole-len block (total - end)).1, z))
    (λ k. ⊎_elim
    (λ j. let z = (hole-len block (total - end)).3 j in omega (arith, z))
    (λ j. omega (arith, (hole-len block (total - end)).1, (first-some block n more (omega (arith, e, k, j, l, h)) (omega (arith, e, t, l))).0))
    (zero-or (total - end)))
    (some-or (total - place))

whole-reach : (kept : Kept) (max first : ℕ) (done : List Chunk) (chunk : Chunk) (more : List Chunk) (part place n : ℕ) → IsStuck kept max first done chunk more part → place ≡ first + sum_by (λ (c : Chunk). c.blocks) done + n → Fits kept max first place →
    chunk.blocks ≤ n → ⊥
whole-reach kept max first done chunk more part place n s e fits h =
    let end = first + sum_by (λ (c : Chunk). c.blocks) done + chunk.blocks in
    let r = reach-len kept max first done chunk more part place n s e in
    let rest = first_blocks (n - chunk.blocks) more in
    let f = whole-front n chunk more h in
    let bytes = ap (λ (xs : List Chunk). sum_by (chunk_len kept.block) xs) f ∙ sum_by-cons (chunk_len kept.block) chunk rest in
    let count = ap (λ (xs : List Chunk). length xs) f in
    let later = later-hole kept.block kept.blocks end place (n - chunk.blocks) more (omega (arith, e, h)) fits.within (omega (arith, e, h)) (omega (arith, s.total)) in
    let lens = len-sum kept.block rest in
    ⊎_elim (λ k. omega (arith, k, r.0, bytes, later, lens, fits.size)) (λ k. omega (arith, k, r.1, count, later, fits.few)) s.whole

part-reach : (kept : Kept) (max first : ℕ) (done : List Chunk) (chunk : Chunk) (more : List Chunk) (part place n : ℕ) → IsStuck kept max first done chunk more part → place ≡ first + sum_by (λ (c : Chunk). c.blocks) done + n → Fits kept max first place →
    part < n → n < chunk.blocks → ⊥
part-reach kept max first done chunk more part place n s e fits h l =
    let r = reach-len kept max first done chunk more part place n s e in
    let cut : first_blocks n (chunk ∷ more) ≡ record { blocks = n; content = chunk.content } ∷ [] = cut-front n chunk more (omega arith) l in
    let bytes = ap (λ (xs : List Chunk). sum_by (chunk_len kept.block) xs) cut ∙ sum_by-cons (chunk_len kept.block) (record { blocks = n; content = chunk.content }) [] in
    let count = ap (λ (xs : List Chunk). length xs) cut in
    let open_end = (hole-len kept.block (kept.blocks - place)).2 (omega (arith, s.total, e, l)) in
    ⊎_elim (λ k. omega (arith, k, r.0, bytes, open_end, fits.size)) (λ k. omega (arith, k, r.1, count, open_end, fits.few)) (s.full n h l)

-- so the piece ends there
pub stuck-greatest : (kept : Kept) (max first : ℕ) (done : List Chunk) (chunk : Chunk) (more : List Chunk) (part : ℕ) → IsStuck kept max first done chunk more part → (place : ℕ) → Fits kept max first place → place ≤ first + sum_by (λ (c : Chunk). c.blocks) done + part
stuck-greatest kept max first done chunk more part s place fits =
    let here = first + sum_by (λ (c : Chunk). c.blocks) done in
    ⊎_elim
    (λ k. k)
    (λ k. let n = place - here in
    let e : place ≡ here + (place - here) = omega (arith, k) in
    absurd (⊎_elim
    (λ j. whole-reach kept max first done chunk more part place (place - here) s e fits j)
    (λ j. part-reach kept max first done chunk more part place (place - here) s e fits (omega (arith, k)) j)
    (below-or chunk.blocks (place - here))))
    (below-or place (here + part))

content-twice : (a b block : ℕ) (content : Content) → content_behind (b * block) (content_behind (a * block) content) ≡ content_behind ((a + b) * block) content
content-twice a b block (Raw place) = ap Raw (omega arith)
content-twice a b block (Fill pattern) = refl
content-twice a b block DontCare = refl

same-rest : (a b block : ℕ) (chunk : Chunk) (n : ℕ) → n ≡ chunk.blocks - (a + b) →
    ◌≡◌ {A = Chunk} (record { blocks = chunk.blocks - a - b; content = content_behind (b * block) (content_behind (a * block) chunk.content) }) (record { blocks = n; content = content_behind ((a + b) * block) chunk.content })
same-rest a b block chunk n e =
    let k : chunk.blocks - a - b ≡ n = omega (arith, e) in
    ap (λ (x : ℕ). record { blocks = x; content = content_behind (b * block) (content_behind (a * block) chunk.content) }) k
    ∙ ap (λ (x : Content). record { blocks = n; content = x }) (content-twice a b block chunk.content)

-- what is behind more blocks is behind the rest of them, behind the first of them
pub behind-twice : (block a b : ℕ) (chunks : List Chunk) → behind_blocks block b (behind_blocks block a chunks) ≡ behind_blocks block (a + b) chunks
behind-twice block a b [] = refl
behind-twice block a b (chunk ∷ chunks) =
    ⊎_elim
    (λ k. ⊎_elim
    (λ j. rw (k.0, j.0) (behind-twice block (a - chunk.blocks) b chunks ∙ ap (λ (x : ℕ). behind_blocks block x chunks) (omega (arith, k.1))))
    (λ j. absurd (omega (arith, k.1, j.1)))
    (leb_tells chunk.blocks (a + b)))
    (λ k. ⊎_elim
    (λ j. let m : nat_le (chunk.blocks - a) b ≡ true = grind (arith, nat_tests) in
    rw (k.0, j.0, m) (ap (λ (x : ℕ). behind_blocks block x chunks) (omega (arith, k.1, j.1))))
    (λ j. let m : nat_le (chunk.blocks - a) b ≡ false = grind (arith, nat_tests) in
    rw (k.0, j.0, m) (ap (λ (x : Chunk). x ∷ chunks) (same-rest a b block chunk (chunk.blocks - (a + b)) refl)))
    (leb_tells chunk.blocks (a + b)))
    (leb_tells chunk.blocks a)
