use Rattle.std.proofs.Common.{arith}
use Rattle.host_driver.specs.Deciding.{product_question, AreFor}
use Rattle.host_driver.proofs.QuestionLemmas.{learned-serving, learned-known}
use Rattle.host_driver.proofs.RequireLemmas.{check-all, check-unnamed, check-broken, listed-unforced}
use Rattle.host_driver.proofs.requirements.check.Goals as goal

pub check_lines-requires-clause-serving : goal.check_lines-requires-clause-serving
check_lines-requires-clause-serving g c = learned-serving _ 4104 _ (product_question c.args.lines.now) (AreFor c.in-Ok.answer.1 c.args.lines.now) _ _ c.in-Ok.ensures.learned (omega arith) c.requires.serving

pub check_lines-requires-clause-product : goal.check_lines-requires-clause-product
check_lines-requires-clause-product g c = learned-known 4104 (product_question c.args.lines.now) (AreFor c.in-Ok.answer.1 c.args.lines.now) _ _ c.in-Ok.ensures.learned

pub returns-in-Err-clause-unlearned : goal.returns-in-Err-clause-unlearned
returns-in-Err-clause-unlearned g c = check-unnamed c.args.lines.now c.args.force _ _ _ c.if-force.false c.in-Err.ensures.unlearned

pub returns-in-Ok-check_lines-clause-learned : goal.returns-in-Ok-check_lines-clause-learned
returns-in-Ok-check_lines-clause-learned g c =
    check-all c.args.lines.now c.args.force c.in-Ok.answer.1 c.in-Ok-check_lines.unmet _ _ _ c.if-force.false c.in-Ok.ensures.learned c.in-Ok-check_lines.ensures.learned

pub returns-in-Ok-check_lines-clause-listed : goal.returns-in-Ok-check_lines-clause-listed
returns-in-Ok-check_lines-clause-listed g c = listed-unforced c.args.lines.now c.args.force c.in-Ok-check_lines.unmet c.if-force.false c.in-Ok-check_lines.ensures.listed

pub returns-in-Err-check_lines-clause-unlearned : goal.returns-in-Err-check_lines-clause-unlearned
returns-in-Err-check_lines-clause-unlearned g c = check-broken c.args.lines.now c.args.force c.in-Ok.answer.1 _ _ _ _ c.if-force.false c.in-Ok.ensures.learned c.in-Err-check_lines.ensures.unlearned
