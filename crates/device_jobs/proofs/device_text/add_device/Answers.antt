use Rattle.fb_frame.specs.Causes.{Rose}
use Rattle.dev_disk.proofs.TwinLemmas.{Rose-behind}
use Rattle.dev_store.specs.Held.{image_of}
use Rattle.device_jobs.proofs.ReadLemmas.{reads-then, reads-image}
use Rattle.device_jobs.proofs.TextLemmas.{adds-read, stops-later, on-ok}
use Rattle.device_jobs.proofs.device_text.add_device.Goals as goal

pub returns-clause-added : goal.returns-clause-added
returns-clause-added g c =
    let told = g.K.Disk.told in
    let a = c.args.store.now in
    let b = c.add_parts.new.store in
    let r = c.in_ok-add_parts.ensures.read in
    on-ok c.add_parts-2.result
    (adds-read (image_of told a) (image_of told b) a.device b.device c.table_version-minor.result.0 c.table_version-minor.result.1
    c.args.text.now.items c.add_head.new.text.items c.add_parts.new.text.items c.add_version.new.text.items c.add_groups.new.text.items c.add_parts-2.new.text.items
    (reads-image told g.K.Disk.lent a b r) r.device c.requires.valid c.table_version-minor.ensures.version c.in_ok-add_head.ensures c.in_ok-add_parts.ensures.added c.in_ok-add_version.ensures c.in_ok-add_groups.ensures)
    c.add_parts-2.ensures.added

pub returns-clause-stops : goal.returns-clause-stops
returns-clause-stops g c =
    let told = g.K.Disk.told in
    let a = (told c.args.store.now.disk).faults in
    let b = (told c.add_parts.new.store.disk).faults in
    let d = (told c.add_parts-2.new.store.disk).faults in
    stops-later c.add_parts-2.result (Rose b d) (Rose a d) (Rose-behind a b d c.in_ok-add_parts.ensures.read.files.later) c.add_parts-2.ensures.stops

pub returns-clause-read : goal.returns-clause-read
returns-clause-read g c =
    reads-then g.K.Disk.told g.K.Disk.lent c.args.store.now c.add_parts.new.store c.add_parts-2.new.store c.in_ok-add_parts.ensures.read c.add_parts-2.ensures.read
