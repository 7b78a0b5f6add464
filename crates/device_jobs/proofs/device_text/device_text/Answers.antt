use Rattle.std.proofs.Common.{subst}
use Rattle.dev_store.specs.Held.{image_of}
use Rattle.device_jobs.specs.Printed.{show_text}
use Rattle.device_jobs.specs.Working.{AddsText}
use Rattle.device_jobs.proofs.TextLemmas.{shown-text}
use Rattle.device_jobs.proofs.device_text.device_text.Goals as goal

pub returns-clause-shown : goal.returns-clause-shown
returns-clause-shown g c =
    let image = image_of g.K.Disk.told c.args.store.now in
    let dev = c.args.store.now.device in
    let text = c.add_device.new.text.items in
    shown-text image dev text (subst (λ t. AddsText image (show_text dev) t text) c.new-text.ensures.items c.in_ok-add_device.ensures.added)
