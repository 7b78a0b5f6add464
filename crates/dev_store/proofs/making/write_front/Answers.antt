use Rattle.std.proofs.Common.{◌∙◌, ap}
use Rattle.dev_store.specs.States.{record_block}
use Rattle.dev_store.proofs.MakingLemmas.{front-written}
use Rattle.dev_store.proofs.making.write_front.Goals as goal

pub returns-clause-writes : goal.returns-clause-writes
returns-clause-writes g c =
    front-written c.args.layout.now c.args.unlocked c.text_block-text.result c.write_record.new.block _ _ _ (g.met.K.Disk.agrees c.args.disk.now) c.requires.inside
    c.text_block-text.ensures.block c.text_block-text.ensures.length (c.write_record.ensures ∙ ap (record_block 2) c.new_state.ensures) c.in-Ok.ensures.writes c.in-Ok-write_copies.ensures.writes
