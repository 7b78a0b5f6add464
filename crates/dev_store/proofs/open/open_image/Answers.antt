use Rattle.std.proofs.Common.{◌∙◌, ap, sym, length, arith}
use Rattle.dev_disk.specs.Disks.{open_bytes}
use Rattle.dev_store.specs.Layouts.{image_size}
use Rattle.dev_store.specs.Repairs.{IsRepaired}
use Rattle.dev_store.specs.Opening.{StandsAs}
use Rattle.dev_store.specs.Held.{device_held}
use Rattle.dev_store.specs.Reading.{IsMended, table_within}
use Rattle.dev_store.proofs.ImageReads.{told-long}
use Rattle.dev_store.proofs.OpenFiles.{changes-file, opens-told, others-kept, spared}
use Rattle.dev_store.proofs.OpenSuper.{both-two}
use Rattle.dev_store.proofs.OpenWhole.{whole, stored, stood-before, read-good, is-now, image-of, lent-long}
use Rattle.dev_store.proofs.open.open_image.Goals as goal

pub returns-in_default-clause-left : goal.returns-in_default-clause-left
returns-in_default-clause-left g c = λ honest.
    (changes-file StandsAs (g.K.Disk.told c.args.disk.now) (g.K.Disk.told c.read_path.new.disk) (g.K.Disk.told c.repair_image.new.disk) c.args.path.now
    c.read_path.ensures.files c.in-Ok.ensures.open c.repair_image.ensures.kept (c.in_default.ensures.left honest)).file

pub returns-in_default-clause-others : goal.returns-in_default-clause-others
returns-in_default-clause-others g c =
    others-kept (g.K.Disk.told c.args.disk.now) (g.K.Disk.told c.read_path.new.disk) (g.K.Disk.told c.repair_image.new.disk) c.args.path.now
    c.read_path.ensures.files c.read_path.ensures.later c.read_path.ensures.torn c.in-Ok.ensures.open c.repair_image.ensures.kept

pub returns-in_default-clause-spared : goal.returns-in_default-clause-spared
returns-in_default-clause-spared g c = λ bad told.
    let mid = g.K.Disk.told c.read_path.new.disk in
    spared (g.K.Disk.told c.args.disk.now) mid (g.K.Disk.told c.repair_image.new.disk) c.args.path.now bad
    c.read_path.ensures.files c.in-Ok.ensures.open c.repair_image.ensures.kept
    (read-good c.in-Ok.opened.read (open_bytes mid) bad c.in-Ok.ensures.sound c.in-Ok.ensures.read) told

pub returns-clause-opens : goal.returns-clause-opens
returns-clause-opens g c =
    let r = c.in-Ok.opened.read in
    let old = g.K.Disk.told c.args.disk.now in
    let mid = g.K.Disk.told c.read_path.new.disk in
    let new = g.K.Disk.told c.repair_image.new.disk in
    let dev = device_held r.layout r.found.state (table_within r.within) (open_bytes new) in
    let m = changes-file IsRepaired old mid new c.args.path.now c.read_path.ensures.files c.in-Ok.ensures.open c.repair_image.ensures.kept
    (both-two (IsMended r) (IsMended r) IsRepaired (open_bytes mid) (open_bytes new) (λ a b h k. h.repaired) c.in-Ok-repair_image.ensures.mended c.in-Ok-repair_image.ensures.mended) in
    record {
      device = opens-told old mid c.args.path.now dev c.read_path.ensures.files c.in-Ok.ensures.open
          (stood-before r (open_bytes mid) (open_bytes new) c.in-Ok.ensures.sound c.in-Ok.ensures.read c.in-Ok-repair_image.ensures.mended);
      repaired = m.file;
      open_now = m.open_now;
      others = m.others;
      later = omega (arith, c.read_path.ensures.later, c.repair_image.ensures.kept.later);
      torn = λ a b left t. c.repair_image.ensures.kept.torn a b left (c.read_path.ensures.torn a b left t);
    }

pub returns-clause-whole : goal.returns-clause-whole
returns-clause-whole g c =
    let r = c.in-Ok.opened.read in
    let mid = g.K.Disk.told c.read_path.new.disk in
    let new = g.K.Disk.told c.repair_image.new.disk in
    let long = told-long new (image_size r.layout) (g.met.K.Disk.agrees c.repair_image.new.disk) (c.repair_image.ensures.kept.length ∙ c.in-Ok.ensures.long) in
    whole g.K.Disk.told c.repair_image.new.disk r c.in-Ok.ensures.sound
    (is-now r (open_bytes mid) (open_bytes new) c.in-Ok.ensures.sound c.in-Ok.ensures.read c.in-Ok-repair_image.ensures.mended long)

pub returns-clause-stored : goal.returns-clause-stored
returns-clause-stored g c =
    let r = c.in-Ok.opened.read in
    let mid = g.K.Disk.told c.read_path.new.disk in
    let new = g.K.Disk.told c.repair_image.new.disk in
    let length-open = c.repair_image.ensures.kept.length ∙ c.in-Ok.ensures.long in
    let long-buffer = ap length c.deref_mut.ensures.value ∙ c.in-Ok.ensures.room in
    let long = told-long new (image_size r.layout) (g.met.K.Disk.agrees c.repair_image.new.disk) length-open in
    stored g.K.Disk.told c.repair_image.new.disk r _ c.in-Ok.ensures.sound
    (is-now r (open_bytes mid) (open_bytes new) c.in-Ok.ensures.sound c.in-Ok.ensures.read c.in-Ok-repair_image.ensures.mended long)
    (image-of r (open_bytes mid) (open_bytes new) c.in-Ok.ensures.sound c.in-Ok.ensures.read c.in-Ok-repair_image.ensures.mended)
    length-open (lent-long 126976 _ _ _ (c.repair_image.auto.buffer ∙ long-buffer) (sym c.deref_mut.ensures.len ∙ long-buffer))
