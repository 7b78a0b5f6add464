use Rattle.std.proofs.Common.{◌≡◌, ◌∙◌, ◌+◌, ◌++◌, ◌∷◌, [], length, drop, ap, sym, subst, arith, length-append}
use Rattle.std.specs.Prelude.{List}
use Rattle.std.specs.List.{All}
use Rattle.std.proofs.lemmas.List.Elements.{All-push}
use Rattle.flash_plan.specs.declared.plan_move.Move.{Move}
use Rattle.flash_plan.specs.Facts.{facts_in}
use Rattle.flash_plan.specs.Moves.{moves_from}
use Rattle.flash_plan.specs.Planning.{work_in, past_of, IsShort}
use Rattle.flash_plan.proofs.PlanningLemmas.{past-few, moves-next}
use Rattle.flash_plan.proofs.plan_moves.Setting.moves.Goals as goal

pub after-past-requires : goal.after-past-requires
after-past-requires c =
    let few = past-few c.loop-i.moves c.loop-i.past c.loop-i.invariant.2 in
    let tasks = ap length c.as_slice-tasks.ensures in
    omega (arith, few, tasks)

pub loop-i-preserved : goal.loop-i-preserved
loop-i-preserved c =
    let setting = c.args.self.now in
    let facts = facts_in setting.answers.now in
    let pushed : c.push.new.self ≡ c.loop-i.moves ++ c.in-Ok.act ∷ [] = c.in-Ok-push.ensures.ok in
    let long = ap length pushed ∙ length-append c.loop-i.moves (c.in-Ok.act ∷ []) in
    let P : List Move → Type 0 = λ moves. All IsShort moves in
    let slice = ap (λ tasks. moves_from (work_in setting) facts setting.slot c.push.new.self (drop (c.loop-i.i + 1) tasks)) (sym c.as_slice-tasks.ensures) in
    let before = ap (λ tasks. moves_from (work_in setting) facts setting.slot c.loop-i.moves (drop c.loop-i.i tasks)) c.as_slice-tasks.ensures in
    let next = moves-next (work_in setting) facts setting.slot c.loop-i.moves c.push.new.self c.as_slice-tasks.result.now c.loop-i.i c.index-tasks-i.result c.in-Ok.act
    c.loop-i-test.true c.index-tasks-i.is (sym (c.in-Ok.ensures.task c.loop-i.moves c.loop-i.invariant.2)) pushed in (
      omega (arith, long),
      subst P (sym pushed) (All-push IsShort c.loop-i.moves c.in-Ok.act c.loop-i.invariant.1 c.in-Ok.ensures.short),
      c.after-past.ensures c.loop-i.moves c.loop-i.invariant.2 ∙ ap past_of (sym pushed),
      slice ∙ next ∙ before ∙ c.loop-i.invariant.3,
    )
