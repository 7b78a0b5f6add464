use Rattle.dev_store.proofs.MakingBlocks.{geometry-block, geometry-is-good}
use Rattle.dev_store.proofs.making_blocks.geometry_block.Goals as goal

pub write_geometry-requires : goal.write_geometry-requires
write_geometry-requires c = record { good = geometry-is-good c.args.s.now c.requires.good }

pub returns-clause-block : goal.returns-clause-block
returns-clause-block c = geometry-block c.args.s.now _ c.write_geometry.ensures.block
