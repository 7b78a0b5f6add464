use Rattle.std.proofs.Common.{◌++◌, take, false, ap, ◌∙◌, arith}
use Rattle.std.specs.Prelude.{flat_map}
use Rattle.dev_model.specs.Variables.{partition_rows}
use Rattle.dev_model.proofs.RowLemmas.{flat_map_turn}
use Rattle.dev_model.proofs.variables.push_physical.Goals as goal

pub loop-part-preserved : goal.loop-part-preserved
loop-part-preserved c =
    let part = c.part-item.result in
    c.in_ok-push_partition.ensures
    ∙ ap (λ t. t ++ partition_rows false c.bytes.result.now c.as_slice.result.now) c.loop-part.invariant
    ∙ ap (λ t. (c.args.rows.now ++ flat_map (λ p. partition_rows false p.name p.bytes) (take c.loop-part.part-index c.args.parts.now)) ++ partition_rows false t c.as_slice.result.now) c.bytes.ensures.bytes
    ∙ ap (λ t. (c.args.rows.now ++ flat_map (λ p. partition_rows false p.name p.bytes) (take c.loop-part.part-index c.args.parts.now)) ++ partition_rows false part.name t) c.as_slice.ensures
    ∙ flat_map_turn (λ p. partition_rows false p.name p.bytes) c.args.rows.now c.args.parts.now c.loop-part.part-index part (omega arith) c.part-item.is
