use Rattle.std.proofs.Common.{◌∙◌, map}
use Rattle.super_meta.specs.Contents.{content}
use Rattle.dev_store.specs.Supers.{size_in}
use Rattle.dev_store.proofs.UnitLemmas.{groups_limited}
use Rattle.dev_store.proofs.units.groups_fit.Goals as goal

pub returns : goal.returns
returns c =
    c.each_fits.ensures ∙ groups_limited c.args.table.now.groups.items (map (size_in (content c.args.table.now)) c.args.table.now.partitions.items)
