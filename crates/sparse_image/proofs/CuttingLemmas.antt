-- Pieces, one after another.
use Rattle.std.proofs.Common.{◌≡◌, ℕ, ◌+◌, ◌-◌, ◌*◌, ◌<◌, ◌≤◌, Bool, true, false, List, ap, arith}
use Rattle.std.specs.Prelude.{◌^◌, if◌then◌else◌}
use Rattle.std.specs.List.{sum_by}
use Rattle.sparse_image.specs.declared.chunk.Chunk.{Chunk}
use Rattle.sparse_image.specs.declared.chunk.Content.{Content}
use Rattle.sparse_image.specs.declared.chunk.Content.TheVariants.{Raw, Fill, DontCare}
use Rattle.sparse_image.specs.declared.rest.Rest.{Rest}
use Rattle.sparse_image.specs.Walks.{Kept, IsKept, source_room, LiesIn}
use Rattle.sparse_image.specs.Pieces.{behind_blocks}
use Rattle.sparse_image.specs.Cuts.{rest_chunks}
use Rattle.sparse_image.proofs.PieceLemmas.{behind-total}

-- data that lies in some bytes lies in more
pub lies-more : (a b n : ℕ) (content : Content) → a ≤ b → LiesIn a n content → LiesIn b n content
lies-more a b n (Raw place) h l = omega arith
lies-more a b n (Fill pattern) h l = tt
lies-more a b n DontCare h l = tt

room-by : (sparse : Bool) (source len : ℕ) → source < 2 ^ 64 → len ≤ 2 ^ 44 → (if sparse then source else len) ≤ 2 ^ 64 - 1
room-by true source len h l = omega arith
room-by false source len h l = omega arith

pub room-fits : (kept : Kept) → IsKept kept → source_room kept ≤ 2 ^ 64 - 1
room-fits kept w = room-by kept.sparse kept.source_len (kept.blocks * kept.block) w.source w.short

-- the chunks from a block on have all blocks from there on
pub rest-total : (kept : Kept) (first : ℕ) (rest : Rest) → IsKept kept → first ≤ kept.blocks → rest_chunks rest ≡ behind_blocks kept.block first kept.chunks →
    first + sum_by (λ (c : Chunk). c.blocks) (rest_chunks rest) ≡ kept.blocks
rest-total kept first rest w h e =
    omega (arith, ap (λ (chunks : List Chunk). sum_by (λ (c : Chunk). c.blocks) chunks) e, behind-total kept.block kept.chunks first, w.well.total)
