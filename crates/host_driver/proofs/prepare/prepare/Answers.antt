use Rattle.std.proofs.Common.{sym, subst, arith}
use Rattle.std.specs.List.{list_any}
use Rattle.fb_link.specs.Seen.{seen}
use Rattle.flash_plan.specs.Products.{is_update}
use Rattle.host_driver.specs.Jobs.{order}
use Rattle.host_driver.specs.Preparing.{decide_questions, IsDecided, IsPrepared}
use Rattle.host_driver.specs.Questioning.{AreTraits}
use Rattle.host_driver.proofs.PutLemmas.{Serving-less}
use Rattle.host_driver.proofs.QuestionLemmas.{learned-serving, learned-sound, learned-known, device-more}
use Rattle.host_driver.proofs.PrepareLemmas.{prepared-by, unmade, unanswered}
use Rattle.host_driver.proofs.prepare.prepare.Goals as goal

pub decide-requires-clause-serving : goal.decide-requires-clause-serving
decide-requires-clause-serving g c = let few = c.requires.whole.few_requirements in Serving-less _ _ _ (omega (arith, few)) c.requires.serving

pub ask_answers-requires-clause-sound : goal.ask_answers-requires-clause-sound
ask_answers-requires-clause-sound g c =
    let o = order c.args.product.now c.args.options.now in
    learned-sound _ (decide_questions o) (IsDecided o c.in-Ok.answer.1) _ _ c.in-Ok.ensures.decided c.requires.sound

pub ask_answers-requires-clause-serving : goal.ask_answers-requires-clause-serving
ask_answers-requires-clause-serving g c =
    let o = order c.args.product.now c.args.options.now in
    let few = c.requires.whole.few_requirements in
    let tasks = c.requires.whole.few_tasks in
    learned-serving _ _ 4194304 (decide_questions o) (IsDecided o c.in-Ok.answer.1) _ _ c.in-Ok.ensures.decided (omega (arith, few, tasks)) c.requires.serving

pub ask_answers-requires-clause-traits : goal.ask_answers-requires-clause-traits
ask_answers-requires-clause-traits g c =
    let o = order c.args.product.now c.args.options.now in
    device-more (IsDecided o c.in-Ok.answer.1) (AreTraits (list_any is_update c.args.product.now.tasks) c.in-Ok.answer.1) (λ s k. k.has) _
    (learned-known _ (decide_questions o) (IsDecided o c.in-Ok.answer.1) _ _ c.in-Ok.ensures.decided)

pub returns-in-Err-ask_answers-clause-unprepared : goal.returns-in-Err-ask_answers-clause-unprepared
returns-in-Err-ask_answers-clause-unprepared g c =
    unanswered (order c.args.product.now c.args.options.now) c.in-Ok.answer.1 _ _ _ _ c.in-Ok.ensures.decided c.in-Err-ask_answers.ensures.unlearned

pub returns-in-Ok-make-clause-prepared : goal.returns-in-Ok-make-clause-prepared
returns-in-Ok-make-clause-prepared g c =
    let told = g.P.Port.told in
    let text = g.S.Sink.text in
    let o = order c.args.product.now c.args.options.now in
    let m = c.in-Ok-make.ensures in
    let large = c.in-Ok.ensures.large in
    let most = c.in-Ok-ask_answers.ensures.most in
    let same = m.most in
    subst (λ r. IsPrepared o c.in-Ok-make.prepared.plan c.in-Ok-make.prepared.max (seen (told c.args.ready) (text c.args.shown.now)) (seen (told r) (text c.ask_answers.new.shown))) (sym m.ready)
    (prepared-by o c.in-Ok.answer.1 c.in-Ok-ask_answers.answer.1 _ _ _ c.requires.whole c.in-Ok.ensures.decided c.in-Ok-ask_answers.ensures.learned c.in-Ok-make.prepared.plan c.in-Ok-make.prepared.max (omega (arith, large, most, same)) m.most m.made)

pub returns-clause-unprepared : goal.returns-clause-unprepared
returns-clause-unprepared g c =
    let o = order c.args.product.now c.args.options.now in
    let m = c.in-Err-make.ensures in
    unmade o c.in-Ok.answer.1 c.in-Ok-ask_answers.answer.1 _ _ _ c.requires.whole c.in-Ok.ensures.decided c.in-Ok-ask_answers.ensures.learned c.in-Err-make.stop.1 _ m.unmade m.drops m.sound
