use Rattle.std.proofs.Common.{◌∙◌, ◌%◌, refl, ap}
use Rattle.dev_model.specs.Partitions.{with_bytes}
use Rattle.dev_model.specs.Steps.{wiped}
use Rattle.dev_disk.proofs.TwinLemmas.{Rose-behind}
use Rattle.dev_store.specs.Held.{image_of, seen}
use Rattle.device_engine.proofs.HaltLemmas.{tells-still, holds-zeroed}
use Rattle.device_engine.proofs.PartLemmas.{disk-after, part-fours, wiped-all, on-ok, on-err, kept-seen, torn-over, wiped-long}
use Rattle.device_engine.proofs.part_commands.wipe.Goals as goal

pub put_fill-requires-clause-fours : goal.put_fill-requires-clause-fours
put_fill-requires-clause-fours g c = ap (λ n. n % 4) c.size_of-size.ensures.size ∙ part-fours c.args.store.now.device c.args.name.now c.requires.whole.sound.valid

pub returns-clause-wiped : goal.returns-clause-wiped
returns-clause-wiped g c =
    let told = g.K.Disk.told in
    let old = c.args.store.now in
    let mid = c.put_fill.new.store in
    let new = c.keep.new.store in
    on-ok c.keep.result
    (kept-seen told c.args.name.now mid new (with_bytes c.args.name.now wiped old.device) c.keep.ensures.files c.keep.ensures.device
    (c.in-Ok.ensures.put ∙ ap (seen (image_of told mid)) (wiped-all c.args.name.now c.size_of-size.result old.device c.requires.whole.sound.valid c.size_of-size.ensures.size)))

pub returns-clause-torn : goal.returns-clause-torn
returns-clause-torn g c =
    let told = g.K.Disk.told in
    let old = c.args.store.now in
    let mid = c.put_fill.new.store in
    let new = c.keep.new.store in
    let left = kept-seen told c.args.name.now mid new (with_bytes c.args.name.now wiped old.device) c.keep.ensures.files c.keep.ensures.device
    (c.in-Ok.ensures.put ∙ ap (seen (image_of told mid)) (wiped-all c.args.name.now c.size_of-size.result old.device c.requires.whole.sound.valid c.size_of-size.ensures.size)) in
    on-err c.keep.result c.keep.ensures.cause
    (λ rose. torn-over told c.args.name.now old new c.requires.whole
    (λ f. holds-zeroed (image_of told old) old.device (tells-still told g.K.Disk.lent old.disk new.disk (disk-after told g.K.Disk.lent old.disk mid.disk new.disk c.put_fill.ensures.kept c.keep.ensures.files c.keep.ensures.same) (g.met.K.Disk.agrees old.disk) (g.met.K.Disk.agrees new.disk) ∙ f) c.requires.whole.sound.stands) c.keep.ensures.sound
    (Rose-behind (told old.disk).faults (told mid.disk).faults (told new.disk).faults c.put_fill.ensures.kept.kept.later rose) wiped refl wiped-long left)
