use Rattle.std.proofs.Common.{◌∙◌}
use Rattle.dev_model.specs.Images.{over}
use Rattle.dev_model.specs.Partitions.{with_bytes}
use Rattle.dev_disk.proofs.TwinLemmas.{Rose-behind}
use Rattle.dev_store.specs.Held.{image_of}
use Rattle.device_engine.proofs.HaltLemmas.{tells-still, holds-zeroed}
use Rattle.device_engine.proofs.PartLemmas.{disk-after, on-err, kept-seen, torn-all}
use Rattle.device_engine.proofs.part_commands.put_image.Goals as goal

pub returns-clause-torn : goal.returns-clause-torn
returns-clause-torn g c =
    let told = g.K.Disk.told in
    let old = c.args.store.now in
    let mid = c.put_runs.new.store in
    let new = c.keep.new.store in
    let cells = c.args.runs.now.cells in
    let left = kept-seen told c.args.name.now mid new (with_bytes c.args.name.now (over cells) old.device) c.keep.ensures.files c.keep.ensures.device c.in-Ok.ensures.put in
    on-err c.keep.result c.keep.ensures.cause
    (λ rose. torn-all told c.args.name.now old new c.requires.room.whole
    (λ f. holds-zeroed (image_of told old) old.device
    (tells-still told g.K.Disk.lent old.disk new.disk (disk-after told g.K.Disk.lent old.disk mid.disk new.disk c.put_runs.ensures.kept c.keep.ensures.files c.keep.ensures.same) (g.met.K.Disk.agrees old.disk)
    (g.met.K.Disk.agrees new.disk) ∙ f) c.requires.room.whole.sound.stands) c.keep.ensures.sound
    (Rose-behind (told old.disk).faults (told mid.disk).faults (told new.disk).faults c.put_runs.ensures.kept.kept.later rose) cells left)
