-- How a piece grows as far as both bounds are kept.
use Rattle.std.proofs.Common.{◌≡◌, ℕ, ◌+◌, ◌-◌, ◌*◌, ◌<◌, ◌≤◌, min, List, [], ◌∷◌, ◌++◌, length, length-append, Some, None, refl, sym, ap, ◌∙◌, arith, ⊎_elim, ◌⊎◌, inl, inr}
use Rattle.std.specs.List.{sum_by, All}
use Rattle.std.proofs.lemmas.List.{append_assoc}
use Rattle.std.proofs.lemmas.List.Sums.{sum_by-cons, sum_by-append, sum_by_push}
use Rattle.std.proofs.lemmas.List.Elements.{All-nil, All-head, All-tail, All-push}
use Rattle.sparse_image.specs.declared.chunk.Chunk.{Chunk}
use Rattle.sparse_image.specs.declared.reach.Reach.{Reach}
use Rattle.sparse_image.specs.declared.rest.Rest.{Rest}
use Rattle.sparse_image.specs.Walks.{Kept, chunk_len, content_len}
use Rattle.sparse_image.specs.Pieces.{first_blocks, behind_blocks, hole, piece_chunks, sparse_len, Fits}
use Rattle.sparse_image.specs.Cuts.{first_chunk, rest_chunks, IsRest}
use Rattle.sparse_image.specs.Reaches.{holes_behind, Keeps, Breaks, IsReach, IsSame, Grows, GrowsBy, GrowsInPart, Begins, IsGrown}
use Rattle.sparse_image.proofs.PieceLemmas.{behind-total}
use Rattle.sparse_image.proofs.ReachLemmas.{stuck-greatest, IsStuck, bytes_of, count_of, hole-len, piece-len, piece-count, first-append, behind-append, behind-twice}
use Rattle.sparse_image.proofs.RestLemmas.{behind-some, behind-first, first-step}

-- the first chunk stands before the others
pub first-cons : (chunks : List Chunk) (chunk : Chunk) → first_chunk chunks ≡ Some chunk → (more : List Chunk) × (chunks ≡ chunk ∷ more)
first-cons [] chunk h = absurd (cc)
first-cons (c ∷ more) chunk h = let e : c ≡ chunk = cc in (more, ap (λ (x : Chunk). x ∷ more) e)

first-none : (chunks : List Chunk) → first_chunk chunks ≡ None → chunks ≡ []
first-none [] h = refl
first-none (c ∷ more) h = absurd (cc)

-- a chunk that keeps both bounds is taken
pub reach-next : (before now : Reach) (blocks len : ℕ) → IsReach before → Keeps before blocks len → Grows before blocks len now → IsRest now.rest → before.at + blocks ≤ before.blocks → IsReach now
reach-next before now blocks len w k g r h =
    let t = behind-total before.rest.block (rest_chunks before.rest) blocks in
    let s = ap (λ (xs : List Chunk). sum_by (λ (c : Chunk). c.blocks) xs) g.rest in
    let e : now.blocks - (now.at + 0) ≡ before.blocks - (before.at + blocks) = omega (arith, g.at, g.same.blocks) in
    let n : holes_behind now 0 ≡ holes_behind before blocks = ap (λ (x : ℕ). length (hole x)) e in
    record {
      rest = r;
      low = omega (arith, g.same.block, w.low);
      high = omega (arith, g.same.block, w.high);
      total = omega (arith, t, s, w.total, g.at, g.same.blocks, h);
      size = omega (arith, n, g.bytes, g.same.max, k.size);
      few = omega (arith, n, g.chunks, k.few);
      large = omega (arith, g.same.max, w.large);
    }

pub front-within : (chunks : List Chunk) (chunk : Chunk) → first_chunk chunks ≡ Some chunk → chunk.blocks ≤ sum_by (λ (c : Chunk). c.blocks) chunks
front-within chunks chunk h =
    let f = first-cons chunks chunk h in
    omega (arith, ap (λ (xs : List Chunk). sum_by (λ (c : Chunk). c.blocks) xs) f.1, sum_by-cons (λ (c : Chunk). c.blocks) chunk f.0)

-- one more whole chunk
pub grows-none : (reach : Reach) → GrowsBy reach [] reach
grows-none reach = record {
  same = record { max = refl; blocks = refl; block = refl };
  some = All-nil (λ (c : Chunk). 0 < c.blocks);
  at = omega arith;
  bytes = omega arith;
  chunks = omega arith;
  rest = refl;
}

pub grows-next : (before mid now : Reach) (done : List Chunk) (chunk : Chunk) → GrowsBy before done mid → IsRest mid.rest → first_chunk (rest_chunks mid.rest) ≡ Some chunk → Grows mid chunk.blocks (chunk_len mid.rest.block chunk) now →
    GrowsBy before (done ++ (chunk ∷ [])) now
grows-next before mid now done chunk g r h k =
    let f = first-cons (rest_chunks mid.rest) chunk h in
    let w = behind-some mid.rest.block mid.rest.skip mid.rest.chunks.now r.inside r.some in
    let v = rw f.1 at w in
    let more = All-tail (λ (c : Chunk). 0 < c.blocks) chunk f.0 v in
    let rest : rest_chunks now.rest ≡ f.0 = k.rest ∙ ap (λ (xs : List Chunk). behind_blocks mid.rest.block chunk.blocks xs) f.1 ∙ behind-first mid.rest.block chunk f.0 more in
    let len = ap (λ (x : ℕ). chunk_len x chunk) g.same.block in
    record {
      same = record { max = k.same.max ∙ g.same.max; blocks = k.same.blocks ∙ g.same.blocks; block = k.same.block ∙ g.same.block };
      some = All-push (λ (c : Chunk). 0 < c.blocks) done chunk g.some (All-head (λ (c : Chunk). 0 < c.blocks) chunk f.0 v);
      at = omega (arith, k.at, g.at, sum_by_push (λ (c : Chunk). c.blocks) done chunk);
      bytes = omega (arith, k.bytes, g.bytes, len, sum_by_push (chunk_len before.rest.block) done chunk);
      chunks = omega (arith, k.chunks, g.chunks, length-append done (chunk ∷ []));
      rest = g.rest ∙ ap (λ (xs : List Chunk). done ++ xs) (f.1 ∙ ap (λ (xs : List Chunk). chunk ∷ xs) (sym rest)) ∙ sym (append_assoc done (chunk ∷ []) (rest_chunks now.rest));
    }

-- whole chunks with blocks have blocks, or there are none
some-blocks : (done : List Chunk) → All (λ (c : Chunk). 0 < c.blocks) done → (done ≡ []) ⊎ (0 < sum_by (λ (c : Chunk). c.blocks) done)
some-blocks [] w = inl refl
some-blocks (chunk ∷ done) w = let h : 0 < chunk.blocks = All-head (λ (c : Chunk). 0 < c.blocks) chunk done w in inr (omega (arith, sum_by-cons (λ (c : Chunk). c.blocks) chunk done))

-- what a piece takes that reaches n blocks further
module _ (kept : Kept) (before mid : Reach) (done : List Chunk) (b : Begins kept before) (g : GrowsBy before done mid) where
  same-front : (n : ℕ) → first_blocks (mid.at + n - before.at) (behind_blocks kept.block before.at kept.chunks) ≡ done ++ first_blocks n (rest_chunks mid.rest)
  same-front n =
      let k : mid.at + n - before.at ≡ sum_by (λ (c : Chunk). c.blocks) done + n = omega (arith, g.at) in
      ap (λ (x : ℕ). first_blocks x (behind_blocks kept.block before.at kept.chunks)) k
      ∙ ap (λ (xs : List Chunk). first_blocks (sum_by (λ (c : Chunk). c.blocks) done + n) xs) (sym b.rest ∙ g.rest)
      ∙ first-append done (rest_chunks mid.rest) n

  block-is : mid.rest.block ≡ kept.block
  block-is = g.same.block ∙ b.block

  pub grown-len : (n : ℕ) → mid.bytes + sum_by (chunk_len mid.rest.block) (first_blocks n (rest_chunks mid.rest)) + 12 * length (hole (kept.blocks - (mid.at + n))) ≡ sparse_len kept.block (piece_chunks kept before.at (mid.at + n))
  grown-len n =
      let front = first_blocks n (rest_chunks mid.rest) in
      omega (
        arith,
        piece-len kept before.at (mid.at + n),
        ap (λ (xs : List Chunk). sum_by (chunk_len kept.block) xs) (same-front n),
        sum_by-append (chunk_len kept.block) done front,
        ap (λ (x : ℕ). sum_by (chunk_len x) front) block-is,
        ap (λ (x : ℕ). sum_by (chunk_len x) done) b.block,
        g.bytes,
        b.bytes,
      )

  pub grown-count : (n : ℕ) → mid.chunks + length (first_blocks n (rest_chunks mid.rest)) + length (hole (kept.blocks - (mid.at + n))) ≡ length (piece_chunks kept before.at (mid.at + n))
  grown-count n =
      let front = first_blocks n (rest_chunks mid.rest) in
      omega (arith, piece-count kept before.at (mid.at + n), ap (λ (xs : List Chunk). length xs) (same-front n), length-append done front, g.chunks, b.chunks)

  grown-rest : (n : ℕ) → behind_blocks kept.block n (rest_chunks mid.rest) ≡ behind_blocks kept.block (mid.at + n) kept.chunks
  grown-rest n =
      let k : mid.at + n ≡ before.at + (sum_by (λ (c : Chunk). c.blocks) done + n) = omega (arith, g.at) in
      sym (behind-append kept.block done (rest_chunks mid.rest) n)
      ∙ ap (λ (xs : List Chunk). behind_blocks kept.block (sum_by (λ (c : Chunk). c.blocks) done + n) xs) (sym g.rest ∙ b.rest)
      ∙ behind-twice kept.block before.at (sum_by (λ (c : Chunk). c.blocks) done + n) kept.chunks
      ∙ ap (λ (x : ℕ). behind_blocks kept.block x kept.chunks) (sym k)

  -- a piece that reaches n blocks further, and to the greatest place
  grown-at : (now : Reach) (n : ℕ) → IsReach now → IsSame before now → now.at ≡ mid.at + n → now.bytes ≡ mid.bytes + sum_by (chunk_len mid.rest.block) (first_blocks n (rest_chunks mid.rest)) →
      now.chunks ≡ mid.chunks + length (first_blocks n (rest_chunks mid.rest)) → rest_chunks now.rest ≡ behind_blocks kept.block n (rest_chunks mid.rest) → before.at < now.at →
      ((place : ℕ) → Fits kept now.max before.at place → place ≤ now.at) → IsGrown kept before.at now
  grown-at now n w same at bytes chunks rest more greatest =
      let hole_at : length (hole (kept.blocks - (mid.at + n))) ≡ length (hole (kept.blocks - now.at)) = ap (λ (x : ℕ). length (hole (kept.blocks - x))) (sym at) in
      let len_at = ap (λ (x : ℕ). sparse_len kept.block (piece_chunks kept before.at x)) at in
      let count_at = ap (λ (x : ℕ). length (piece_chunks kept before.at x)) at in
      let end : now.blocks - (now.at + 0) ≡ kept.blocks - now.at = omega (arith, same.blocks, b.blocks) in
      let hole_end : holes_behind now 0 ≡ length (hole (kept.blocks - now.at)) = ap (λ (x : ℕ). length (hole x)) end in
      let len : now.bytes + 12 * length (hole (kept.blocks - now.at)) ≡ sparse_len kept.block (piece_chunks kept before.at now.at) = omega (arith, grown-len n, bytes, hole_at, len_at) in
      let count : now.chunks + length (hole (kept.blocks - now.at)) ≡ length (piece_chunks kept before.at now.at) = omega (arith, grown-count n, chunks, hole_at, count_at) in
      record {
        ends = record {
          fits = record {
            more = more;
            within = omega (arith, w.total, same.blocks, b.blocks);
            size = omega (arith, len, hole_end, w.size);
            few = omega (arith, count, hole_end, w.few);
          };
          greatest = greatest;
        };
        bytes = len;
        chunks = count;
        rest = rest ∙ grown-rest n ∙ ap (λ (x : ℕ). behind_blocks kept.block x kept.chunks) (sym at);
      }

  -- where all chunks were taken, the piece reaches the image's end
  pub grown-all : IsReach mid → first_chunk (rest_chunks mid.rest) ≡ None → IsGrown kept before.at mid
  grown-all w h =
      let e : rest_chunks mid.rest ≡ [] = first-none (rest_chunks mid.rest) h in
      let t : mid.at ≡ kept.blocks = omega (arith, w.total, ap (λ (xs : List Chunk). sum_by (λ (c : Chunk). c.blocks) xs) e, g.same.blocks, b.blocks) in
      let len : sum_by (chunk_len mid.rest.block) (first_blocks 0 (rest_chunks mid.rest)) ≡ 0 = ap (λ (xs : List Chunk). sum_by (chunk_len mid.rest.block) (first_blocks 0 xs)) e in
      let count : length (first_blocks 0 (rest_chunks mid.rest)) ≡ 0 = ap (λ (xs : List Chunk). length (first_blocks 0 xs)) e in
      grown-at mid 0 w g.same (omega arith) (omega (arith, len)) (omega (arith, count)) (e ∙ sym (ap (λ (xs : List Chunk). behind_blocks kept.block 0 xs) e)) (omega (arith, t, b.some))
      (λ place fits. omega (arith, t, fits.within))

  module _ (now : Reach) (chunk : Chunk) (more : List Chunk) (part : ℕ) (w : IsReach mid) (e : rest_chunks mid.rest ≡ chunk ∷ more)
      (breaks : Breaks mid chunk.blocks (chunk_len mid.rest.block chunk)) (p : GrowsInPart mid chunk part now) where
    stuck-total : mid.at + (chunk.blocks + sum_by (λ (c : Chunk). c.blocks) more) ≡ kept.blocks
    stuck-total = omega (arith, w.total, ap (λ (xs : List Chunk). sum_by (λ (c : Chunk). c.blocks) xs) e, sum_by-cons (λ (c : Chunk). c.blocks) chunk more, g.same.blocks, b.blocks)

    stuck-whole : (now.max < bytes_of kept before.at done + chunk_len kept.block chunk + 12 * length (hole (kept.blocks - (before.at + sum_by (λ (c : Chunk). c.blocks) done + chunk.blocks))))
        ⊎ (1000000 < count_of before.at done + 1 + length (hole (kept.blocks - (before.at + sum_by (λ (c : Chunk). c.blocks) done + chunk.blocks))))
    stuck-whole =
        let end : mid.blocks - (mid.at + chunk.blocks) ≡ kept.blocks - (before.at + sum_by (λ (c : Chunk). c.blocks) done + chunk.blocks) = omega (arith, g.same.blocks, b.blocks, g.at) in
        let hole_end : holes_behind mid chunk.blocks ≡ length (hole (kept.blocks - (before.at + sum_by (λ (c : Chunk). c.blocks) done + chunk.blocks))) = ap (λ (x : ℕ). length (hole x)) end in
        let len = ap (λ (x : ℕ). chunk_len x chunk) block-is in
        let lens = ap (λ (x : ℕ). sum_by (chunk_len x) done) b.block in
        ⊎_elim
        (λ k. inl (omega (arith, k, hole_end, len, lens, g.bytes, b.bytes, p.same.max)))
        (λ k. inr (omega (arith, k, hole_end, g.chunks, b.chunks)))
        breaks

    stuck-full : (n : ℕ) → part < n → n < chunk.blocks → (now.max < bytes_of kept before.at done + (12 + content_len (n * kept.block) chunk.content) + 12) ⊎ (1000000 < count_of before.at done + 2)
    stuck-full n h l =
        let len = ap (λ (x : ℕ). content_len (n * x) chunk.content) block-is in
        let lens = ap (λ (x : ℕ). sum_by (chunk_len x) done) b.block in
        ⊎_elim
        (λ k. inl (omega (arith, k, len, lens, g.bytes, b.bytes, p.same.max)))
        (λ k. inr (omega (arith, k, g.chunks, b.chunks)))
        (p.full n h l)

    stuck : IsStuck kept now.max before.at done chunk more part
    stuck = record {
      chunks = sym b.rest ∙ g.rest ∙ ap (λ (xs : List Chunk). done ++ xs) e;
      total = omega (arith, stuck-total, g.at);
      whole = stuck-whole;
      full = stuck-full;
    }

    further : before.at < now.at
    further =
        ⊎_elim
        (λ k. let hole_len = hole-len kept.block before.at in
        let bytes : mid.bytes ≤ 40 = omega (arith, g.bytes, b.bytes, ap (λ (xs : List Chunk). sum_by (chunk_len before.rest.block) xs) k, hole_len.1) in
        let chunks : mid.chunks ≤ 1 = omega (arith, g.chunks, b.chunks, ap (λ (xs : List Chunk). length xs) k, hole_len.1) in
        omega (arith, p.some bytes chunks, p.at, g.at))
        (λ k. omega (arith, k, p.at, g.at))
        (some-blocks done g.some)

    -- where the next chunk doesn't fit as it is, the piece ends in it
    pub grown-part : IsReach now → IsGrown kept before.at now
    grown-part v =
        let same : IsSame before now = record { max = p.same.max ∙ g.same.max; blocks = p.same.blocks ∙ g.same.blocks; block = p.same.block ∙ g.same.block } in
        grown-at now part v same p.at p.bytes p.chunks (p.rest ∙ ap (λ (x : ℕ). behind_blocks x part (rest_chunks mid.rest)) block-is) further
        (λ place fits. omega (arith, stuck-greatest kept now.max before.at done chunk more part stuck place fits, p.at, g.at))

-- the first blocks of the chunks from a block on: those of the next chunk, and those behind them
pub rest-step : (rest : Rest) (chunk : Chunk) (left blocks : ℕ) → IsRest rest → first_chunk (rest_chunks rest) ≡ Some chunk → 0 < left → blocks ≡ min chunk.blocks left →
    first_blocks left (rest_chunks rest) ≡ record { blocks = blocks; content = chunk.content } ∷ first_blocks (left - blocks) (behind_blocks rest.block blocks (rest_chunks rest))
rest-step rest chunk left blocks w h l e =
    let f = first-cons (rest_chunks rest) chunk h in
    let some = behind-some rest.block rest.skip rest.chunks.now w.inside w.some in
    let more = All-tail (λ (c : Chunk). 0 < c.blocks) chunk f.0 (rw f.1 at some) in
    ap (λ (xs : List Chunk). first_blocks left xs) f.1
    ∙ first-step rest.block left blocks chunk f.0 more l e
    ∙ ap (λ (xs : List Chunk). record { blocks = blocks; content = chunk.content } ∷ first_blocks (left - blocks) (behind_blocks rest.block blocks xs)) (sym f.1)
