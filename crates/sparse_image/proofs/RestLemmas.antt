-- The chunks of an image from a block on.
use Rattle.std.proofs.Common.{◌≡◌, ℕ, ◌-◌, ◌*◌, ◌<◌, ◌≤◌, min, sym, List, [], ◌∷◌, refl, ap, ◌∙◌, arith, ⊎_elim, zero-mul}
use Rattle.std.specs.List.{All}
use Rattle.std.proofs.lemmas.Bool.Decides.{leb_tells}
use Rattle.std.proofs.lemmas.List.Elements.{All-cons, All-head, All-tail}
use Rattle.sparse_image.specs.declared.chunk.Chunk.{Chunk}
use Rattle.sparse_image.specs.declared.chunk.Content.{Content}
use Rattle.sparse_image.specs.declared.chunk.Content.TheVariants.{Raw, Fill, DontCare}
use Rattle.sparse_image.specs.Pieces.{first_blocks, behind_blocks, content_behind}
use Rattle.sparse_image.specs.Cuts.{IsInside}
use Rattle.sparse_image.proofs.ReachLemmas.{cut-front, whole-front}

-- none is left out of chunks that have blocks
pub inside-none : (chunks : List Chunk) → All (λ (c : Chunk). 0 < c.blocks) chunks → IsInside 0 chunks
inside-none [] w = refl
inside-none (chunk ∷ chunks) w = All-head (λ (c : Chunk). 0 < c.blocks) chunk chunks w

-- what holds of all chunks holds behind the first
pub tail-of : (P : Chunk → Type 0) (chunk : Chunk) (chunks more : List Chunk) → chunks ≡ chunk ∷ more → All P chunks → All P more
tail-of P chunk chunks more e w = All-tail P chunk more (rw e at w)

-- the chunks from a block on have blocks
pub behind-some : (block skip : ℕ) (chunks : List Chunk) → IsInside skip chunks → All (λ (c : Chunk). 0 < c.blocks) chunks → All (λ (c : Chunk). 0 < c.blocks) (behind_blocks block skip chunks)
behind-some block skip [] h w = w
behind-some block skip (chunk ∷ more) h w =
    ⊎_elim
    (λ k. absurd (omega (arith, k.1)))
    (λ k. rw k.0 (All-cons (λ (c : Chunk). 0 < c.blocks) (record { blocks = chunk.blocks - skip; content = content_behind (skip * block) chunk.content }) more (omega arith) (All-tail (λ (c : Chunk). 0 < c.blocks) chunk more w)))
    (leb_tells chunk.blocks skip)

-- all chunks are behind no block
same-content : (n : ℕ) (content : Content) → n ≡ 0 → content_behind n content ≡ content
same-content n (Raw place) e = ap Raw (omega arith)
same-content n (Fill pattern) e = refl
same-content n DontCare e = refl

pub behind-none : (block : ℕ) (chunks : List Chunk) → All (λ (c : Chunk). 0 < c.blocks) chunks → behind_blocks block 0 chunks ≡ chunks
behind-none block [] w = refl
behind-none block (chunk ∷ more) w =
    let h : 0 < chunk.blocks = All-head (λ (c : Chunk). 0 < c.blocks) chunk more w in
    let e : chunk.blocks - 0 ≡ chunk.blocks = omega arith in
    ⊎_elim
    (λ k. absurd (omega (arith, k.1)))
    (λ k. rw k.0 (ap (λ (x : Chunk). x ∷ more)
    (ap (λ (x : ℕ). record { blocks = x; content = content_behind (0 * block) chunk.content }) e
    ∙ ap (λ (x : Content). record { blocks = chunk.blocks; content = x }) (same-content (0 * block) chunk.content (zero-mul block)))))
    (leb_tells chunk.blocks 0)

-- behind the first chunk are the others
pub behind-first : (block : ℕ) (chunk : Chunk) (more : List Chunk) → All (λ (c : Chunk). 0 < c.blocks) more → behind_blocks block chunk.blocks (chunk ∷ more) ≡ more
behind-first block chunk more w =
    let e : chunk.blocks - chunk.blocks ≡ 0 = omega arith in
    ⊎_elim
    (λ k. rw k.0 (ap (λ (x : ℕ). behind_blocks block x more) e ∙ behind-none block more w))
    (λ k. absurd (omega (arith, k.1)))
    (leb_tells chunk.blocks chunk.blocks)

-- the first blocks of chunks: those of the first chunk, and those behind them
first-zero : (chunk : Chunk) (more : List Chunk) → 0 < chunk.blocks → first_blocks 0 (chunk ∷ more) ≡ []
first-zero chunk more h = ⊎_elim (λ k. absurd (omega (arith, k.1))) (λ k. rw k.0 refl) (leb_tells chunk.blocks 0)

behind-part : (block n : ℕ) (chunk : Chunk) (more : List Chunk) → n < chunk.blocks → behind_blocks block n (chunk ∷ more) ≡ record { blocks = chunk.blocks - n; content = content_behind (n * block) chunk.content } ∷ more
behind-part block n chunk more h = ⊎_elim (λ k. absurd (omega (arith, k.1))) (λ k. rw k.0 refl) (leb_tells chunk.blocks n)

step-whole : (block left : ℕ) (chunk : Chunk) (more : List Chunk) → All (λ (c : Chunk). 0 < c.blocks) more → chunk.blocks ≤ left →
    first_blocks left (chunk ∷ more) ≡ chunk ∷ first_blocks (left - chunk.blocks) (behind_blocks block chunk.blocks (chunk ∷ more))
step-whole block left chunk more w h = whole-front left chunk more h ∙ ap (λ (xs : List Chunk). chunk ∷ first_blocks (left - chunk.blocks) xs) (sym (behind-first block chunk more w))

step-part : (block left : ℕ) (chunk : Chunk) (more : List Chunk) → 0 < left → left < chunk.blocks →
    first_blocks left (chunk ∷ more) ≡ record { blocks = left; content = chunk.content } ∷ first_blocks (left - left) (behind_blocks block left (chunk ∷ more))
step-part block left chunk more h l =
    let z : left - left ≡ 0 = omega arith in
    let none = first-zero (record { blocks = chunk.blocks - left; content = content_behind (left * block) chunk.content }) more (omega arith) in
    cut-front left chunk more h l
    ∙ ap (λ (xs : List Chunk). record { blocks = left; content = chunk.content } ∷ xs)
    (sym (ap (λ (x : ℕ). first_blocks x (behind_blocks block left (chunk ∷ more))) z ∙ ap (λ (xs : List Chunk). first_blocks 0 xs) (behind-part block left chunk more l) ∙ none))

pub first-step : (block left blocks : ℕ) (chunk : Chunk) (more : List Chunk) → All (λ (c : Chunk). 0 < c.blocks) more → 0 < left → blocks ≡ min chunk.blocks left →
    first_blocks left (chunk ∷ more) ≡ record { blocks = blocks; content = chunk.content } ∷ first_blocks (left - blocks) (behind_blocks block blocks (chunk ∷ more))
first-step block left blocks chunk more w h e =
    ⊎_elim
    (λ k. step-whole block left chunk more w k.1 ∙ ap (λ (x : ℕ). record { blocks = x; content = chunk.content } ∷ first_blocks (left - x) (behind_blocks block x (chunk ∷ more))) (omega (arith, k.1)))
    (λ k. step-part block left chunk more h k.1 ∙ ap (λ (x : ℕ). record { blocks = x; content = chunk.content } ∷ first_blocks (left - x) (behind_blocks block x (chunk ∷ more))) (omega (arith, k.1)))
    (leb_tells chunk.blocks left)

pub first-none : (chunks : List Chunk) → All (λ (c : Chunk). 0 < c.blocks) chunks → first_blocks 0 chunks ≡ []
first-none [] w = refl
first-none (chunk ∷ more) w = first-zero chunk more (All-head (λ (c : Chunk). 0 < c.blocks) chunk more w)

pub ruleset insides = (inside-none)
