use Rattle.dev_store.proofs.MakingLemmas.{good-part}
use Rattle.dev_store.proofs.making.write_any_super.Goals as goal

pub write_super-requires-clause-good : goal.write_super-requires-clause-good
write_super-requires-clause-good g c = good-part c.args.layout.now c.in-Some.s c.super_part.result c.requires.laid c.super_part.ensures c.in-Some.is
