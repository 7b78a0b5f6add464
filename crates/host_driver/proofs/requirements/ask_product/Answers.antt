use Rattle.std.proofs.Common.{◌∙◌, sym}
use Rattle.host_driver.proofs.RequireLemmas.{product-unneeded, product-asked, product-unasked}
use Rattle.host_driver.proofs.requirements.ask_product.Goals as goal

pub returns-in-Ok-clause-learned : goal.returns-in-Ok-clause-learned
returns-in-Ok-clause-learned g c = product-asked c.args.lines.now c.in-Ok.product _ _ (sym c.names_product.ensures ∙ c.if-names_product.true) c.in-Ok.ensures.learned

pub returns-in-Err-clause-unlearned : goal.returns-in-Err-clause-unlearned
returns-in-Err-clause-unlearned g c = product-unasked c.args.lines.now _ _ _ (sym c.names_product.ensures ∙ c.if-names_product.true) c.in-Err.ensures.unlearned

pub returns-else-names_product-clause-learned : goal.returns-else-names_product-clause-learned
returns-else-names_product-clause-learned g c = product-unneeded c.args.lines.now _ (sym c.names_product.ensures ∙ c.if-names_product.false)
