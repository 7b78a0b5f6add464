use Rattle.std.proofs.Common.{drop, ap, ◌∙◌, ◌+◌, sym}
use Rattle.std.specs.Prelude.{flat_map}
use Rattle.dev_model.proofs.FirstOnes.{first_begin}
use Rattle.flash_plan.specs.Orders.{logical_target, logical_targets}
use Rattle.flash_plan.proofs.PlanningLemmas.{Found, found-target, from-here}
use Rattle.flash_plan.proofs.blocks.logical_targets.Goals as goal

pub loop-act-init : goal.loop-act-init
loop-act-init c =
    ap (λ names. Found names (flat_map logical_target c.args.moves.now)) c.new-names.ensures ∙ first_begin (logical_targets c.args.moves.now)

pub loop-act-preserved : goal.loop-act-preserved
loop-act-preserved c =
    let moves = c.args.moves.now in
    let left = flat_map logical_target (drop (c.loop-act.act-index + 1) moves) in
    ap (λ names. Found names left) c.in_ok-keep_target.ensures
    ∙ found-target c.loop-act.names c.act-item.result left
    ∙ ap (λ acts. Found c.loop-act.names (flat_map logical_target acts)) (sym (from-here moves c.loop-act.act-index c.act-item.result c.loop-act-test.true c.act-item.is))
    ∙ c.loop-act.invariant
