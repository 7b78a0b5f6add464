use Rattle.std.proofs.Common.{map}
use Rattle.super_meta.specs.Contents.{content}
use Rattle.dev_store.specs.Supers.{size_in}
use Rattle.dev_store.proofs.GroupLimits.{created-fit}
use Rattle.dev_store.proofs.group_limits.groups_hold_more.Goals as goal

pub returns : goal.returns
returns c =
    let t = content c.args.table.now in
    λ name size e. created-fit t.groups (map (size_in t) t.partitions) c.args.bytes c.each_holds_more.result c.each_holds_more.ensures name size e
