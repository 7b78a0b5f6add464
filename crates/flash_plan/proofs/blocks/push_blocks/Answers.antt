use Rattle.std.proofs.Common.{◌≡◌, ◌∙◌, ◌+◌, ◌++◌, take, drop, ap, sym, arith, append_assoc}
use Rattle.std.proofs.lemmas.List.{length-take}
use Rattle.flash_plan.specs.Orders.{block, blocks}
use Rattle.flash_plan.specs.Planning.{past_of}
use Rattle.flash_plan.proofs.PlanningLemmas.{past-few, blocks-turn, targets-here, up-to-here}
use Rattle.flash_plan.proofs.blocks.push_blocks.Goals as goal

pub after-past-requires : goal.after-past-requires
after-past-requires c =
    let few = past-few (take c.loop-act.act-index c.args.moves.now) c.loop-act.past c.loop-act.invariant.0 in
    let long = length-take c.loop-act.act-index c.args.moves.now in
    omega (arith, few, long)

pub loop-act-preserved : goal.loop-act-preserved
loop-act-preserved c =
    let wipe = c.args.wipe in
    let moves = c.args.moves.now in
    let i = c.loop-act.act-index in
    let act = c.act-item.result in
    let later = drop (i + 1) moves in
    let rest = blocks wipe (take (i + 1) moves) later in
    let pushed : c.push_block.new.plan ≡ c.loop-act.plan ++ block wipe (take i moves) act later =
    c.in_ok-push_block.ensures (take i moves) later c.loop-act.invariant.0
    (c.as_slice.ensures ∙ c.in_ok-targets.ensures ∙ targets-here moves i act c.loop-act-test.true c.act-item.is) in (
      c.after-past.ensures (take i moves) c.loop-act.invariant.0 ∙ ap past_of (sym (up-to-here moves i act c.loop-act-test.true c.act-item.is)),
      ap (λ plan. plan ++ rest) pushed ∙ append_assoc c.loop-act.plan (block wipe (take i moves) act later) rest
          ∙ ap (λ left. c.loop-act.plan ++ left) (sym (blocks-turn wipe moves i act c.loop-act-test.true c.act-item.is)) ∙ c.loop-act.invariant.1,
    )
