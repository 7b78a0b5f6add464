use Rattle.super_meta.proofs.ReadLemmas.{all-named, device-unnamed, content-by}
use Rattle.super_meta.proofs.table.Table.fill.Goals as goal

pub returns-in_default-clause-named : goal.returns-in_default-clause-named
returns-in_default-clause-named c =
    device-unnamed c.args.header.now c.args.tables.now c.groups_in-groups.result.now c.device_in.result.now c.groups_in-groups.ensures.groups c.device_in.ensures.device
    c.in_ok-read_partitions.ensures.named c.in_ok-read_groups.ensures.named c.in_default.ensures

pub returns-clause-named : goal.returns-clause-named
returns-clause-named c =
    all-named c.args.header.now c.args.tables.now c.groups_in-groups.result.now c.device_in.result.now c.in-Some.device c.groups_in-groups.ensures.groups c.device_in.ensures.device
    c.in_ok-read_partitions.ensures.named c.in_ok-read_groups.ensures.named c.in-Some.ensures

pub returns-clause-content : goal.returns-clause-content
returns-clause-content c =
    content-by c.args.header.now c.args.tables.now c.extents_in-extents.result.now c.groups_in-groups.result.now c.device_in.result.now c.read_partitions.new.partitions.items c.read_extents.new.extents.items c.read_groups.new.groups.items c.in-Some.device
    c.extents_in-extents.ensures.extents c.groups_in-groups.ensures.groups c.device_in.ensures.device c.in_ok-read_partitions.ensures.items c.read_extents.ensures.items c.in_ok-read_groups.ensures.items c.in-Some.ensures
