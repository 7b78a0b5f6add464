use Rattle.std.proofs.Common.{subst, sym}
use Rattle.host_driver.specs.LinkOuts.{HasGivenUp}
use Rattle.host_driver.proofs.LinkOutLemmas.{GivenUp-dropped}
use Rattle.host_driver.proofs.link_out.LinkOut.abandon.Goals as goal

pub returns-clause-given_up : goal.returns-clause-given_up
returns-clause-given_up g c =
    let told = g.P.Port.told in
    let first = g.F.Before.before in
    let held = c.self.invariant.0 in
    let out = c.self.inside in
    subst (λ p. HasGivenUp first (told p)) (sym c.new.ensures)
    (GivenUp-dropped out.up first (told out.port) (told c.hang_up.new.self) out.left held.sending held.failed c.hang_up.ensures.drops)
