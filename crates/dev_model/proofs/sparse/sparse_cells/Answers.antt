use Rattle.std.proofs.Common.{sym, ap, ◌∙◌}
use Rattle.dev_model.proofs.ChunkLemmas.{sparse_good, behind}
use Rattle.dev_model.specs.Chunks.{cells_of}
use Rattle.dev_model.proofs.sparse.sparse_cells.Goals as goal

pub returns : goal.returns
returns c =
    sparse_good c.args.file.now c.u32_at-chunks.result c.u32_at-block.result c.u32_at-blocks.result c.in_ok-cells.cells
    (sym c.header_is_good.ensures ∙ c.if-not-header_is_good.false)
    c.u32_at-chunks.ensures.number c.u32_at-block.ensures.number c.u32_at-blocks.ensures.number
    (c.in_ok-cells.ensures ∙ ap (cells_of c.u32_at-chunks.result c.u32_at-block.result c.u32_at-blocks.result) (behind 28 c.args.file.now))
