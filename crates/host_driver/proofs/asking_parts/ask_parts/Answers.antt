use Rattle.std.proofs.Common.{◌≡◌, ◌∙◌, ◌+◌, ◌*◌, ◌<◌, suc, length, refl, sym, subst, arith}
use Rattle.fb_link.specs.Seen.{seen}
use Rattle.host_driver.proofs.FindLemmas.{TasksLeft, tasks-begun, tasks-next, tasks-broken, tasks-done}
use Rattle.host_driver.proofs.QuestionLemmas.{learned-serving, learned-sound, drop-at, drop-end}
use Rattle.host_driver.proofs.asking_parts.ask_parts.Goals as goal

pub loop-task-init : goal.loop-task-init
loop-task-init g c = record {
  left = tasks-begun c.args.slot c.args.listed.now c.args.tasks.now _ _ c.new-parts.ensures;
  same = refl;
  shown_later = omega arith;
}

pub ask_task-requires-clause-sound : goal.ask_task-requires-clause-sound
ask_task-requires-clause-sound g c = learned-sound _ _ _ _ _ c.loop-task.invariant.left.learned c.requires.sound

pub ask_task-requires-clause-serving : goal.ask_task-requires-clause-serving
ask_task-requires-clause-serving g c =
    let i = c.loop-task.task-index in
    let within : i < length c.args.tasks.now = c.loop-task-test.true in
    learned-serving 8208 (8208 * i) (8208 * length c.args.tasks.now) _ _ _ _ c.loop-task.invariant.left.learned (omega (arith, within)) c.requires.serving

pub returns-in-Err-clause-unlearned : goal.returns-in-Err-clause-unlearned
returns-in-Err-clause-unlearned g c =
    let i = c.loop-task.task-index in
    tasks-broken c.args.slot c.args.listed.now c.args.tasks.now i c.task-item.result c.loop-task.parts _ _ _ c.loop-task.invariant.left (drop-at c.args.tasks.now i c.task-item.result c.loop-task-test.true (sym c.task-item.is)) c.in-Err.stop.1 c.in-Err.ensures.unlearned

pub loop-task-preserved : goal.loop-task-preserved
loop-task-preserved g c =
    let i = c.loop-task.task-index in
    let l = c.loop-task.invariant in
    let e = c.in-Ok.ensures in
    let next : suc i ≡ i + 1 = omega arith in
    record {
      left = subst (λ k. TasksLeft c.args.slot c.args.listed.now c.args.tasks.now k c.ask_task.new.parts (seen (g.P.Port.told c.args.ready) (g.S.Sink.text c.args.shown.now)) (seen (g.P.Port.told c.in-Ok.next) (g.S.Sink.text c.ask_task.new.shown))) next
          (tasks-next c.args.slot c.args.listed.now c.args.tasks.now i c.task-item.result c.loop-task.parts _ _ _ l.left (drop-at c.args.tasks.now i c.task-item.result c.loop-task-test.true (sym c.task-item.is)) c.ask_task.new.parts e.learned);
      same = e.same ∙ l.same;
      shown_later = (let a = l.shown_later in let b = e.shown_later in omega (arith, a, b));
    }

pub returns-clause-learned : goal.returns-clause-learned
returns-clause-learned g c =
    let i = c.loop-task.task-index in
    let beyond = c.loop-task-test.false in
    let within = c.loop-task.auto.task-index-end in
    tasks-done c.args.slot c.args.listed.now c.args.tasks.now i c.loop-task.parts _ _ c.loop-task.invariant.left (drop-end c.args.tasks.now i (omega (arith, beyond))) (omega (arith, within))
