use Rattle.std.proofs.Common.{◌∙◌, ap}
use Rattle.dev_store.proofs.StoredLemmas.{same-stored}
use Rattle.dev_store.proofs.store.Store.sync.Goals as goal

pub invariant_of-self : goal.invariant_of-self
invariant_of-self g c =
    let s = c.self.inside in
    same-stored g.K.Disk.told s.disk c.sync.new.self s.layout s.state s.within s.buffer.items s.broken c.self.invariant c.sync.ensures.kept

pub returns-clause-whole : goal.returns-clause-whole
returns-clause-whole g c =
    let s = c.self.inside in
    (same-stored g.K.Disk.told s.disk c.sync.new.self s.layout s.state s.within s.buffer.items s.broken c.self.invariant c.sync.ensures.kept).whole (ap (λ h. h.broken) c.self.view_is ∙ c.requires.usable)
