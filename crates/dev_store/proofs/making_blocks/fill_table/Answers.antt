use Rattle.std.proofs.Common.{◌∙◌, ap}
use Rattle.std.specs.Prelude.{length}
use Rattle.super_meta.specs.Contents.{content}
use Rattle.dev_store.proofs.MadeText.{length-zeros}
use Rattle.dev_store.proofs.MakingBlocks.{sound-table, table-fits-in, table-written, length-table_block}
use Rattle.dev_store.proofs.making_blocks.fill_table.Goals as goal

pub write_table-requires : goal.write_table-requires
write_table-requires c = record { sound = sound-table c.args.s.now (content c.args.table.now) c.requires.table }

pub unreachable-requires : goal.unreachable-requires
unreachable-requires c =
    table-fits-in c.args.s.now (content c.args.table.now) c.args.block.now c.requires.good c.requires.table
    (ap length c.requires.zeros ∙ length-zeros c.args.s.now.max_size) c.in_default.ensures.long

pub returns-clause-block : goal.returns-clause-block
returns-clause-block c =
    table-written c.args.s.now (content c.args.table.now) c.args.block.now c.write_table.new.buf c.requires.good c.requires.table c.requires.zeros c.in-Ok.ensures.bytes c.in-Ok.ensures.rest

pub returns-clause-length : goal.returns-clause-length
returns-clause-length c = ap length (returns-clause-block c) ∙ length-table_block c.args.s.now c.requires.good
