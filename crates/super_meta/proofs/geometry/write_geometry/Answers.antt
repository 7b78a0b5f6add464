use Rattle.super_meta.proofs.GeometryLemmas.{block-written, block-holds}
use Rattle.super_meta.proofs.geometry.write_geometry.Goals as goal

pub returns-clause-block : goal.returns-clause-block
returns-clause-block c =
    block-written c.args.geometry.now c.front.result c.back.result c.args.block.now c.clear.new.buf c.put_sealed.new.buf c.put_sealed.result
    c.front.ensures c.back.ensures.back c.told-block c.put_sealed.ensures.at c.put_sealed.ensures.front c.put_sealed.ensures.rest c.clear.ensures

pub returns-clause-holds : goal.returns-clause-holds
returns-clause-holds c =
    block-holds c.args.geometry.now c.put_sealed.new.buf _ c.requires.good c.back.ensures.max_size c.back.ensures.slots (returns-clause-block c)
