use Rattle.std.proofs.Common.{arith, ◌*◌, ◌-◌, ◌^◌, List, sym, subst}
use Rattle.std.specs.List.{All}
use Rattle.sparse_image.specs.declared.chunk.Chunk.{Chunk}
use Rattle.sparse_image.specs.Walks.{Kept, LiesIn, IsKept, source_room}
use Rattle.sparse_image.proofs.CuttingLemmas.{lies-more, room-fits}
use Rattle.sparse_image.specs.Cuts.{Cutting, AreCut}
use Rattle.sparse_image.proofs.SplitLemmas.{split-whole}
use Rattle.sparse_image.proofs.MostLemmas.{begin-most, pieces-bytes}
use Rattle.sparse_image.proofs.index.Index.pieces.Goals as goal

all-lies : (kept : Kept) → IsKept kept → All (λ (chunk : Chunk). LiesIn (2 ^ 64 - 1) (chunk.blocks * kept.block) chunk.content) kept.chunks
all-lies kept w k d h = lies-more (source_room kept) (2 ^ 64 - 1) _ _ (room-fits kept w) (w.well.lies k d h)

pub new-rest-requires-clause-lies : goal.new-rest-requires-clause-lies
new-rest-requires-clause-lies c =
    let s = c.self.inside in
    subst (λ (chunks : List Chunk). All (λ (chunk : Chunk). LiesIn (2 ^ 64 - 1) (chunk.blocks * s.block) chunk.content) chunks) (sym c.as_slice.ensures.value)
    (all-lies (record { sparse = s.sparse; source_len = s.source_len; block = s.block; blocks = s.blocks; chunks = s.chunks.items }) c.self.invariant)

pub new-requires-clause-index : goal.new-requires-clause-index
new-requires-clause-index c = rw (← c.self.view_is) c.self.invariant

pub returns-clause-split : goal.returns-clause-split
returns-clause-split c file parts h cut =
    let w : IsKept c.args.self.now = rw (← c.self.view_is) c.self.invariant in
    split-whole file c.args.self.now c.args.max h w.count (omega arith) parts (subst (λ (cutting : Cutting). AreCut cutting parts) c.new.ensures cut)

pub returns-clause-most : goal.returns-clause-most
returns-clause-most c =
    let w : IsKept c.args.self.now = rw (← c.self.view_is) c.self.invariant in
    rw c.new.ensures (begin-most c.args.self.now c.args.max w)

pub returns-clause-bytes : goal.returns-clause-bytes
returns-clause-bytes c parts cut =
    let w : IsKept c.args.self.now = rw (← c.self.view_is) c.self.invariant in
    pieces-bytes c.args.self.now c.args.max parts w (subst (λ (cutting : Cutting). AreCut cutting parts) c.new.ensures cut)
