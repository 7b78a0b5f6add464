use Rattle.std.proofs.Common.{◌≡◌, ◌∙◌, true, rules}
use Rattle.product_info.specs.Meeting.{is_for}
use Rattle.flash_plan.specs.Requiring.{variable_of}
use Rattle.host_driver.proofs.RequireLemmas.{line-asked, line-unasked, judged-listed}
use Rattle.host_driver.proofs.requirements.check_line.Goals as goal

pub returns-in-Ok-clause-learned : goal.returns-in-Ok-clause-learned
returns-in-Ok-clause-learned g c =
    let yes : is_for c.args.requirement.now.product c.args.product.now ≡ true = search rules in
    let name : c.bytes.result.now ≡ variable_of c.args.requirement.now = c.bytes.ensures.bytes ∙ c.variable-variable.ensures in
    line-asked c.args.requirement.now c.args.product.now c.in-Ok.value c.bytes.result.now c.judge.result _ _ yes name c.judge.ensures c.requires.product c.in-Ok.ensures.learned

pub returns-in-Ok-clause-listed : goal.returns-in-Ok-clause-listed
returns-in-Ok-clause-listed g c = judged-listed c.args.requirement.now c.args.product.now c.in-Ok.value c.judge.result c.judge.ensures

pub returns-in-Err-clause-unlearned : goal.returns-in-Err-clause-unlearned
returns-in-Err-clause-unlearned g c =
    let yes : is_for c.args.requirement.now.product c.args.product.now ≡ true = search rules in
    let name : c.bytes.result.now ≡ variable_of c.args.requirement.now = c.bytes.ensures.bytes ∙ c.variable-variable.ensures in
    line-unasked c.args.requirement.now c.args.product.now c.bytes.result.now _ _ _ yes name c.requires.product c.in-Err.ensures.unlearned
