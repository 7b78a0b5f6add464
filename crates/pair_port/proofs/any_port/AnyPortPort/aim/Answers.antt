use Rattle.std.proofs.Common.{ap}
use Rattle.fb_link.specs.Targets.{place_of}
use Rattle.pair_port.proofs.AimLemmas.{address-astray, image-bad}
use Rattle.pair_port.proofs.any_port.AnyPortPort.aim.Goals as goal

pub returns-in-Tcp-clause-astray : goal.returns-in-Tcp-clause-astray
returns-in-Tcp-clause-astray g c =
    address-astray g.A.Port.told g.I.Port.told _ _ c.aim.result c.aim-in-Tcp.result _ _ (place_of c.args.target.now) _ _ c.self.view_is (ap place_of c.in-Tcp.is)
    c.aim.ensures.aimed c.aim.ensures.astray c.aim-in-Tcp.ensures.astray

pub returns-in-Image-clause-bad : goal.returns-in-Image-clause-bad
returns-in-Image-clause-bad g c = λ bad e. image-bad g.I.Port.told _ _ (place_of c.args.target.now) bad c.self.view_is (c.aim-in-Image.ensures.bad bad e)
