use Rattle.std.proofs.Common.{◌∙◌, ap, arith}
use Rattle.std.specs.Prelude.{length}
use Rattle.dev_store.proofs.MakingLemmas.{geometry-inside, geometry-small, tables-begin, tables-inside, tables-small, super-written}
use Rattle.dev_store.proofs.making.write_super.Goals as goal

pub write_copies-requires-clause-inside : goal.write_copies-requires-clause-inside
write_copies-requires-clause-inside g c = geometry-inside c.args.s.now _ c.args.at _ c.requires.good c.requires.inside c.geometry_block-geometry.ensures.length

pub write_copies-requires-clause-small : goal.write_copies-requires-clause-small
write_copies-requires-clause-small g c = geometry-small c.args.s.now c.args.at _ c.requires.good c.requires.small c.geometry_block-geometry.ensures.length

pub overflow_add-at-2 : goal.overflow_add-at-2
overflow_add-at-2 g c = omega (arith, tables-begin c.args.s.now c.args.at c.requires.good c.requires.small)

pub write_copies-requires-2-clause-inside : goal.write_copies-requires-2-clause-inside
write_copies-requires-2-clause-inside g c =
    tables-inside c.args.s.now _ _ c.args.at _ c.requires.good c.in-Ok-write_copies.ensures.kept.length c.requires.inside (ap length c.as_slice.ensures.value ∙ c.in-Ok.ensures.length)

pub write_copies-requires-2-clause-small : goal.write_copies-requires-2-clause-small
write_copies-requires-2-clause-small g c = tables-small c.args.s.now c.args.at _ c.requires.good c.requires.small (ap length c.as_slice.ensures.value ∙ c.in-Ok.ensures.length)

pub returns-clause-writes : goal.returns-clause-writes
returns-clause-writes g c =
    super-written c.args.s.now c.args.at c.geometry_block-geometry.result c.as_slice.result.now _ _ _ (g.met.K.Disk.agrees c.args.disk.now) c.requires.good c.requires.inside
    c.geometry_block-geometry.ensures.block c.geometry_block-geometry.ensures.length (c.as_slice.ensures.value ∙ c.in-Ok.ensures.block) c.in-Ok-write_copies.ensures.writes c.in-Ok-write_copies-2.ensures.writes
