use Rattle.std.proofs.Common.{sym, subst}
use Rattle.device_engine.specs.Running.{held_of, IsInOrder}
use Rattle.device_engine.proofs.ModeLemmas.{gone-in-order}
use Rattle.device_engine.proofs.device.Device.into_disk.Goals as goal

pub returns-in-Gone-clause-in_order : goal.returns-in-Gone-clause-in_order
returns-in-Gone-clause-in_order g c =
    let d = c.device-in-Gone in
    let told = g.K.Disk.told in
    subst (λ x. IsInOrder told (held_of x)) (sym c.in-Gone.is)
    (subst (IsInOrder told) d.view_is (gone-in-order told d.inside.mode d.inside.store d.invariant.0 d.invariant.1 d.invariant.2))
