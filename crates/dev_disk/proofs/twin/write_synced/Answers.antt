use Rattle.dev_disk.proofs.TwinLemmas.{content-range, FailsCopy-kept}
use Rattle.dev_disk.proofs.twin.write_synced.Goals as goal

pub returns-in_default-sync-clause-fails : goal.returns-in_default-sync-clause-fails
returns-in_default-sync-clause-fails g c =
    let range = content-range _ _ _ _ _ (g.met.K.Disk.agrees c.args.disk.now) c.requires.inside in
    FailsCopy-kept _ _ _ _ _ range c.in-Ok.ensures.writes c.sync.ensures.kept c.in_default-sync.ensures.cause
