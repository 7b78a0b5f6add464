use Rattle.std.proofs.Common.{◌≡◌, ◌∙◌, ◌+◌, ◌*◌, length, ap, sym, subst, arith, false}
use Rattle.std.specs.Prelude.{IfSome}
use Rattle.std.specs.List.{list_any}
use Rattle.fb_link.specs.Seen.{seen}
use Rattle.flash_plan.specs.Products.{is_update}
use Rattle.host_driver.specs.Deciding.{check_questions, IsChecked, IsListed}
use Rattle.host_driver.specs.Jobs.{order}
use Rattle.host_driver.specs.Preparing.{IsUnprepared}
use Rattle.host_driver.specs.Questioning.{trait_questions, AreTraits, IsLearned, IsUnlearned}
use Rattle.host_driver.proofs.PutLemmas.{Serving-less}
use Rattle.host_driver.proofs.QuestionLemmas.{learned-serving}
use Rattle.host_driver.proofs.PrepareLemmas.{decided, traits-unprepared, check-unprepared, requirement-unprepared}
use Rattle.host_driver.proofs.prepare.decide.Goals as goal

pub ask_traits-requires-clause-serving : goal.ask_traits-requires-clause-serving
ask_traits-requires-clause-serving g c = Serving-less _ 16416 _ (omega arith) c.requires.serving

pub check-requires : goal.check-requires
check-requires g c =
    let long = ap length c.as_slice-lines.ensures in
    record {
      serving = learned-serving _ 16416 _ (trait_questions c.updates_super-updates.result) (AreTraits c.updates_super-updates.result c.in-Ok.answer.1) _ _ c.in-Ok.ensures.learned (omega (arith, long)) c.requires.serving;
    }

pub returns-in-Err-clause-unprepared : goal.returns-in-Err-clause-unprepared
returns-in-Err-clause-unprepared g c =
    let told = g.P.Port.told in
    let text = g.S.Sink.text in
    let updates = c.updates_super-updates.ensures ∙ ap (list_any is_update) c.as_slice-tasks.ensures in
    traits-unprepared (order c.args.product.now c.args.options.now) _ _ _
    (subst (λ u. IsUnlearned (trait_questions u) (seen (told c.args.ready) (text c.args.shown.now)) (seen (told c.in-Err.stop.0) (text c.ask_traits.new.shown)) c.in-Err.stop.1) updates c.in-Err.ensures.unlearned)

pub returns-in-Err-check-clause-unprepared : goal.returns-in-Err-check-clause-unprepared
returns-in-Err-check-clause-unprepared g c =
    let told = g.P.Port.told in
    let text = g.S.Sink.text in
    let updates = c.updates_super-updates.ensures ∙ ap (list_any is_update) c.as_slice-tasks.ensures in
    let start = seen (told c.args.ready) (text c.args.shown.now) in
    let middle = seen (told c.in-Ok.answer.0) (text c.ask_traits.new.shown) in
    let traits = subst (λ u. IsLearned 16416 (trait_questions u) (AreTraits u c.in-Ok.answer.1) start middle) updates c.in-Ok.ensures.learned in
    check-unprepared (order c.args.product.now c.args.options.now) c.in-Ok.answer.1 _ _ _ _ traits
    (subst (λ ls. IsUnlearned (check_questions ls c.args.options.now.force) middle (seen (told c.in-Err-check.stop.0) (text c.check.new.shown)) c.in-Err-check.stop.1) c.as_slice-lines.ensures c.in-Err-check.ensures.unlearned)

pub returns-in-None-clause-decided : goal.returns-in-None-clause-decided
returns-in-None-clause-decided g c =
    let told = g.P.Port.told in
    let text = g.S.Sink.text in
    let updates = c.updates_super-updates.ensures ∙ ap (list_any is_update) c.as_slice-tasks.ensures in
    let start = seen (told c.args.ready) (text c.args.shown.now) in
    let middle = seen (told c.in-Ok.answer.0) (text c.ask_traits.new.shown) in
    let last = seen (told c.in-Ok-check.answer.0) (text c.check.new.shown) in
    let force = c.args.options.now.force in
    let traits = subst (λ u. IsLearned 16416 (trait_questions u) (AreTraits u c.in-Ok.answer.1) start middle) updates c.in-Ok.ensures.learned in
    let asked = subst (λ ls. IsLearned (4104 + 4104 * length ls) (check_questions ls force) (IsChecked ls force c.in-Ok-check.answer.1) middle last) c.as_slice-lines.ensures c.in-Ok-check.ensures.learned in
    decided (order c.args.product.now c.args.options.now) c.in-Ok.answer.1 _ _ _ traits
    (subst (λ u. IsLearned (4104 + 4104 * length c.args.product.now.requirements) (check_questions c.args.product.now.requirements force) (IsChecked c.args.product.now.requirements force u) middle last) c.in-None.is asked)

pub returns-in-Some-clause-unprepared : goal.returns-in-Some-clause-unprepared
returns-in-Some-clause-unprepared g c =
    let told = g.P.Port.told in
    let text = g.S.Sink.text in
    let updates = c.updates_super-updates.ensures ∙ ap (list_any is_update) c.as_slice-tasks.ensures in
    let start = seen (told c.args.ready) (text c.args.shown.now) in
    let middle = seen (told c.in-Ok.answer.0) (text c.ask_traits.new.shown) in
    let last = seen (told c.in-Ok-check.answer.0) (text c.check.new.shown) in
    let force = c.args.options.now.force in
    let lines = c.args.product.now.requirements in
    let traits = subst (λ u. IsLearned 16416 (trait_questions u) (AreTraits u c.in-Ok.answer.1) start middle) updates c.in-Ok.ensures.learned in
    let asked = subst (λ ls. IsLearned (4104 + 4104 * length ls) (check_questions ls force) (IsChecked ls force c.in-Ok-check.answer.1) middle last) c.as_slice-lines.ensures c.in-Ok-check.ensures.learned in
    let unmet = subst (λ u. IsLearned (4104 + 4104 * length lines) (check_questions lines force) (IsChecked lines force u) middle last) c.in-Some.is asked in
    let listed = subst (λ u. IfSome u (λ v. (force ≡ false) × IsListed lines v)) c.in-Some.is (subst (λ ls. IfSome c.in-Ok-check.answer.1 (λ v. (force ≡ false) × IsListed ls v)) c.as_slice-lines.ensures c.in-Ok-check.ensures.listed) in
    subst (IsUnprepared (order c.args.product.now c.args.options.now) start (seen (told c.given_up.result.0) (text c.check.new.shown))) (sym c.given_up.ensures.stop)
    (requirement-unprepared (order c.args.product.now c.args.options.now) c.in-Ok.answer.1 c.in-Some.unmet start middle last traits unmet listed (told c.given_up.result.0) c.given_up.ensures.drops c.given_up.ensures.sound)
