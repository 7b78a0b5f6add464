use Rattle.std.proofs.Common.{◌≡◌, Err, sym, ap, subst}
use Rattle.host_driver.specs.Jobs.{folder}
use Rattle.host_top.specs.Acts.{WhyUnread, unread_product}
use Rattle.host_top.proofs.OpenLemmas.{err-carried, inspection-stopped}
use Rattle.host_top.proofs.opening.open.Goals as goal

pub returns-in_err-enter-clause-why : goal.returns-in_err-enter-clause-why
returns-in_err-enter-clause-why g c =
    let D = g.D.ProductDir in
    let first = folder (D.told_path c.args.dir.now) (D.files c.args.dir.now) (D.entered c.args.dir.now) (D.faults c.args.dir.now) in
    let now = folder (D.told_path c.enter.new.dir) (D.files c.enter.new.dir) (D.entered c.enter.new.dir) (D.faults c.enter.new.dir) in
    err-carried c.from_residual.result (λ e. e ≡ c.in_err-enter.field-0.0) (WhyUnread c.args.path.now c.args.wipe first now) c.from_residual.ensures.1
    (λ e s. subst (WhyUnread c.args.path.now c.args.wipe first now) (sym s) (c.in_err-enter.ensures.why c.args.wipe))

pub returns-in_err-product-clause-why : goal.returns-in_err-product-clause-why
returns-in_err-product-clause-why g c =
    let D = g.D.ProductDir in
    let first = folder (D.told_path c.args.dir.now) (D.files c.args.dir.now) (D.entered c.args.dir.now) (D.faults c.args.dir.now) in
    let mid = folder (D.told_path c.enter.new.dir) (D.files c.enter.new.dir) (D.entered c.enter.new.dir) (D.faults c.enter.new.dir) in
    let now = folder (D.told_path c.inspect.new.dir) (D.files c.inspect.new.dir) (D.entered c.inspect.new.dir) (D.faults c.inspect.new.dir) in
    let error = c.in_err-product.field-0.0 in
    let e = c.in_err-product.ensures in
    err-carried c.from_residual-in_err-product.result (λ e. e ≡ unread_product error) (WhyUnread c.args.path.now c.args.wipe first now) c.from_residual-in_err-product.ensures.1
    (λ x s. subst (WhyUnread c.args.path.now c.args.wipe first now) (sym s)
    (inspection-stopped c.args.path.now c.args.wipe first mid now error c.in_ok-enter.ensures.entered e.entered c.enter.ensures.files c.enter.ensures.later
    (λ file i. e.directory file (ap Err i)) (λ file i. e.looked file (ap Err i)) (λ file flaw i. e.bad file flaw (ap Err i))))
