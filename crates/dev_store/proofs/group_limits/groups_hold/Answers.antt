use Rattle.std.proofs.Common.{◌∙◌, map}
use Rattle.dev_model.specs.Sizes.{resized}
use Rattle.super_meta.specs.Contents.{content}
use Rattle.dev_store.specs.Supers.{size_in}
use Rattle.dev_store.proofs.UnitLemmas.{groups_limited}
use Rattle.dev_store.proofs.group_limits.groups_hold.Goals as goal

pub returns : goal.returns
returns c =
    let t = content c.args.table.now in
    c.each_holds.ensures ∙ groups_limited t.groups (resized c.args.name.now c.args.size (map (size_in t) t.partitions))
