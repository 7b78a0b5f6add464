use Rattle.std.proofs.Common.{◌≡◌, false, length, Some, sym, ap, ◌∙◌, arith}
use Rattle.std.specs.Prelude.{◌==◌, ◌&&◌}
use Rattle.std.proofs.lemmas.Bool.Decides.{nat_tests}
use Rattle.dev_model.proofs.ChunkLemmas.{chunk_lost, chunk_end, chunk_over}
use Rattle.dev_model.proofs.sparse.chunks_cells.Goals as goal

pub returns-in_default : goal.returns-in_default
returns-in_default c =
    sym (chunk_lost c.args.chunks c.loop-i.i c.args.block c.loop-i.left c.loop-i.rest.now c.loop-i.cells.items (omega arith) c.in_default.ensures)
    ∙ c.loop-i.invariant

pub returns-then-left-eq0 : goal.returns-then-left-eq0
returns-then-left-eq0 c =
    let ended : length c.loop-i.rest.now ≡ 0 = grind (arith, nat_tests) in
    ap Some c.from_vec.ensures
    ∙ sym (chunk_end c.args.chunks c.loop-i.i c.args.block c.loop-i.left c.loop-i.rest.now c.loop-i.cells.items (omega arith) ended c.if-left-eq0.true)
    ∙ c.loop-i.invariant

pub returns-else-is_empty : goal.returns-else-is_empty
returns-else-is_empty c =
    let over : (length c.loop-i.rest.now == 0 && c.loop-i.left == 0) ≡ false = grind (arith, nat_tests, c.else-is_empty.either) in
    sym (chunk_over c.args.chunks c.loop-i.i c.args.block c.loop-i.left c.loop-i.rest.now c.loop-i.cells.items (omega arith) over)
    ∙ c.loop-i.invariant
