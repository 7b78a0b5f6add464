use Rattle.device_jobs.proofs.HeadLemmas.{shows-product}
use Rattle.device_jobs.proofs.device_text.product_of.Goals as goal

pub returns : goal.returns
returns g c = shows-product c.args.store.now.device c.value.result _ c.value.new.line c.value.ensures.text
