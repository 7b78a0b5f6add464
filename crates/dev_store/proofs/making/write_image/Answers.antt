use Rattle.dev_store.proofs.MakingLemmas.{Fills-all}
use Rattle.dev_store.proofs.making.write_image.Goals as goal

pub returns-clause-fills : goal.returns-clause-fills
returns-clause-fills g c =
    Fills-all c.args.layout.now c.args.unlocked _ _ _ _ c.write_front.ensures.laid c.in-Ok.ensures.writes c.in_ok-write_any_super.ensures.writes c.sync.ensures.kept
