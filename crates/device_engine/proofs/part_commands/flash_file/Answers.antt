use Rattle.std.proofs.Common.{◌≡◌, ◌∙◌, refl, ap, sym, codes, false, Some}
use Rattle.dev_model.specs.declared.step.Step.TheVariants as step
use Rattle.dev_model.specs.Images.{over}
use Rattle.dev_model.specs.Partitions.{with_bytes}
use Rattle.dev_model.specs.Refusals.{flash_refusal}
use Rattle.dev_model.specs.Steps.{apply}
use Rattle.fb_message.specs.CommandText.{Flash}
use Rattle.wire_model.specs.Says.{loaded_image}
use Rattle.dev_store.specs.Held.{image_of, seen}
use Rattle.dev_store.specs.StoreCalls.{part_bytes}
use Rattle.device_engine.specs.Working.{ordered}
use Rattle.device_engine.proofs.SaysLemmas.{says-flash}
use Rattle.device_engine.proofs.DecidedLemmas.{refuses, does, accepts}
use Rattle.device_engine.proofs.PartLemmas.{flash-unnamed, flash-bad, flash-long, flash-taken, image-loaded, longer-as, image-room, halts-flash, stops}
use Rattle.device_engine.proofs.part_commands.flash_file.Goals as goal

pub returns-then-not-is_target-clause-worked : goal.returns-then-not-is_target-clause-worked
returns-then-not-is_target-clause-worked g c =
    let told = g.K.Disk.told in
    let old = c.args.store.now in
    let name = c.args.name.now in
    let file = c.args.file.now in
    let order = ordered (Some file) (Flash name) in
    let refusal = flash_refusal old.device (Some file) name in
    let change = apply (step.Put name (loaded_image (Some file))) in
    let is = says-flash old.device (Some file) name in
    let unlocked : old.device.locked ≡ false = c.requires.unlocked in
    let target = sym c.if-not-is_target.ensures.target in
    refuses told old old order refusal change is (codes "no such partition") (flash-unnamed old.device file name unlocked target) c.requires.whole refl

pub returns-in_default-clause-worked : goal.returns-in_default-clause-worked
returns-in_default-clause-worked g c =
    let told = g.K.Disk.told in
    let old = c.args.store.now in
    let name = c.args.name.now in
    let file = c.args.file.now in
    let order = ordered (Some file) (Flash name) in
    let refusal = flash_refusal old.device (Some file) name in
    let change = apply (step.Put name (loaded_image (Some file))) in
    let is = says-flash old.device (Some file) name in
    let unlocked : old.device.locked ≡ false = c.requires.unlocked in
    let target = sym c.if-not-is_target.ensures.target in
    refuses told old old order refusal change is (codes "bad image") (flash-bad old.device file name unlocked target c.in_default.ensures.none) c.requires.whole refl

pub returns-then-is_longer-clause-worked : goal.returns-then-is_longer-clause-worked
returns-then-is_longer-clause-worked g c =
    let told = g.K.Disk.told in
    let old = c.args.store.now in
    let name = c.args.name.now in
    let file = c.args.file.now in
    let order = ordered (Some file) (Flash name) in
    let refusal = flash_refusal old.device (Some file) name in
    let change = apply (step.Put name (loaded_image (Some file))) in
    let is = says-flash old.device (Some file) name in
    let unlocked : old.device.locked ≡ false = c.requires.unlocked in
    let target = sym c.if-not-is_target.ensures.target in
    let cells = c.in-Ok.runs.cells in
    let found = c.in-Ok.ensures.image.cells in
    let sizes = longer-as (part_bytes name old.device) cells c.size_of.result c.len.result c.size_of.ensures.size (c.len.ensures ∙ c.in-Ok.ensures.image.len) in
    refuses told old old order refusal change is (codes "image too large") (flash-long old.device file name cells unlocked target found (sizes ∙ sym c.if-is_longer.ensures.longer)) c.requires.whole refl

pub put_image-requires-clause-image : goal.put_image-requires-clause-image
put_image-requires-clause-image g c = record { cells = refl; at = c.in-Ok.ensures.image.at; len = c.in-Ok.ensures.image.len }

pub put_image-requires-clause-room : goal.put_image-requires-clause-room
put_image-requires-clause-room g c =
    let told = g.K.Disk.told in
    let old = c.args.store.now in
    let name = c.args.name.now in
    let file = c.args.file.now in
    let order = ordered (Some file) (Flash name) in
    let refusal = flash_refusal old.device (Some file) name in
    let change = apply (step.Put name (loaded_image (Some file))) in
    let is = says-flash old.device (Some file) name in
    let unlocked : old.device.locked ≡ false = c.requires.unlocked in
    let target = sym c.if-not-is_target.ensures.target in
    let cells = c.in-Ok.runs.cells in
    let found = c.in-Ok.ensures.image.cells in
    let sizes = longer-as (part_bytes name old.device) cells c.size_of.result c.len.result c.size_of.ensures.size (c.len.ensures ∙ c.in-Ok.ensures.image.len) in
    record { whole = c.requires.whole; fits = image-room old.device name cells c.in-Ok.runs.len target c.in-Ok.ensures.image.len (sizes ∙ sym c.if-is_longer.ensures.longer) }

pub returns-in_default-put_image-clause-worked : goal.returns-in_default-put_image-clause-worked
returns-in_default-put_image-clause-worked g c =
    let told = g.K.Disk.told in
    let old = c.args.store.now in
    let name = c.args.name.now in
    let file = c.args.file.now in
    let order = ordered (Some file) (Flash name) in
    let refusal = flash_refusal old.device (Some file) name in
    let change = apply (step.Put name (loaded_image (Some file))) in
    let is = says-flash old.device (Some file) name in
    let unlocked : old.device.locked ≡ false = c.requires.unlocked in
    let target = sym c.if-not-is_target.ensures.target in
    let cells = c.in-Ok.runs.cells in
    let found = c.in-Ok.ensures.image.cells in
    let sizes = longer-as (part_bytes name old.device) cells c.size_of.result c.len.result c.size_of.ensures.size (c.len.ensures ∙ c.in-Ok.ensures.image.len) in
    let new = c.put_image.new.store in
    let torn = c.in_default-put_image.ensures.torn in
    stops told name old new order
    (record {
      accepted = accepts told old new order refusal change is (flash-taken old.device file name cells unlocked target found (sizes ∙ sym c.if-is_longer.ensures.longer));
      change = halts-flash told name old new (Some file) cells (image-loaded file cells found) torn;
    })
    torn.sound torn.rose

pub returns-clause-worked : goal.returns-clause-worked
returns-clause-worked g c =
    let told = g.K.Disk.told in
    let old = c.args.store.now in
    let name = c.args.name.now in
    let file = c.args.file.now in
    let order = ordered (Some file) (Flash name) in
    let refusal = flash_refusal old.device (Some file) name in
    let change = apply (step.Put name (loaded_image (Some file))) in
    let is = says-flash old.device (Some file) name in
    let unlocked : old.device.locked ≡ false = c.requires.unlocked in
    let target = sym c.if-not-is_target.ensures.target in
    let cells = c.in-Ok.runs.cells in
    let found = c.in-Ok.ensures.image.cells in
    let sizes = longer-as (part_bytes name old.device) cells c.size_of.result c.len.result c.size_of.ensures.size (c.len.ensures ∙ c.in-Ok.ensures.image.len) in
    let new = c.put_image.new.store in
    does told old new order refusal change is (flash-taken old.device file name cells unlocked target found (sizes ∙ sym c.if-is_longer.ensures.longer))
    (c.in-Ok-put_image.ensures.put ∙ ap (λ k. seen (image_of told new) (with_bytes name (over k) old.device)) (sym (image-loaded file cells found))) c.in-Ok-put_image.ensures.whole refl refl
