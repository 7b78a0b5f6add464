use Rattle.std.proofs.Common.{◌≡◌, sym, ap, subst, ◌∙◌}
use Rattle.dev_store.specs.Held.{Held}
use Rattle.dev_store.specs.Opening.{LeavesImage, OthersKept}
use Rattle.pair_port.proofs.PairAimLemmas.{opened-leaves, opened-others}
use Rattle.pair_port.proofs.opening.open_device.Goals as goal

pub returns-in-Err-new-clause-left : goal.returns-in-Err-new-clause-left
returns-in-Err-new-clause-left g c h =
    let told = g.K.Disk.told in
    let store = c.in-Ok.store in
    let path = c.args.path.now in
    let same : c.into_disk.result ≡ store.disk = c.into_disk.ensures.disk ∙ ap (λ (h : Held _). h.disk) c.new-device.ensures.held in
    subst (λ d. LeavesImage (told c.args.disk) (told d) path) (sym same)
    (opened-leaves c.laws.ensures.repaired_stands c.laws.ensures.repaired_owns (told c.args.disk) (told store.disk) path store.device c.in-Ok.ensures.opens)

pub returns-in-Err-new-clause-others : goal.returns-in-Err-new-clause-others
returns-in-Err-new-clause-others g c =
    let told = g.K.Disk.told in
    let store = c.in-Ok.store in
    let path = c.args.path.now in
    let same : c.into_disk.result ≡ store.disk = c.into_disk.ensures.disk ∙ ap (λ (h : Held _). h.disk) c.new-device.ensures.held in
    subst (λ d. OthersKept (told c.args.disk) (told d) path) (sym same)
    (opened-others (told c.args.disk) (told store.disk) path store.device c.in-Ok.ensures.opens)
