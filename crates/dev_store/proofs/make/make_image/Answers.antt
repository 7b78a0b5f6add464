use Rattle.dev_store.proofs.MakingLemmas.{makes-where}
use Rattle.dev_store.proofs.make.make_image.Goals as goal

pub returns-clause-made : goal.returns-clause-made
returns-clause-made g c =
    makes-where _ c.args.layout.now c.args.unlocked c.args.path.now c.image_size.result _ _ _ c.image_size.ensures.size c.in_ok-create.ensures.creates c.write_image.ensures.kept c.write_image.ensures.fills
