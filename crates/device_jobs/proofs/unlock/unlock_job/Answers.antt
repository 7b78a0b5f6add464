use Rattle.std.proofs.Common.{◌≡◌, ◌∙◌, ap, sym, subst, rules}
use Rattle.fb_frame.specs.Causes.{Rose}
use Rattle.dev_store.specs.Faults.{IsHonest}
use Rattle.dev_store.specs.Opening.{OnFile, OthersKept}
use Rattle.device_jobs.specs.Outcomes.{Unlocked, unlock_outcome}
use Rattle.device_jobs.specs.Leaves.{IsDone, LeavesUnlocking}
use Rattle.device_jobs.specs.Working.{IsStop, IsEarly}
use Rattle.device_jobs.proofs.OpenedLemmas.{unlock-done, unlock-left, others-opened, spared-opened, stop-unopened, early-unopened}
use Rattle.device_jobs.proofs.TextLemmas.{on-ok}
use Rattle.device_jobs.proofs.unlock.unlock_job.Goals as goal

pub returns-in-Ok-clause-done : goal.returns-in-Ok-clause-done
returns-in-Ok-clause-done g c =
    let told = g.K.Disk.told in
    let last = c.unlock_store-job.new.store.disk in
    let back : c.into_disk-disk.result.now ≡ c.disk-1.given.0 = search rules in
    let is : last.now ≡ c.disk-1.given.0 = ap (λ d. d.now) (sym c.into_disk-disk.ensures.disk) ∙ back in
    on-ok c.unlock_store-job.result
    (λ ended. subst (λ k. IsDone (unlock_outcome (told c.args.disk.now).files c.args.file.now) (told k).files c.args.file.now) is
    (unlock-done (told c.args.disk.now) (told c.in-Ok.store.disk.now) (told last.now) c.args.file.now c.in-Ok.store.device c.in-Ok.ensures.opens c.unlock_store-job.ensures.kept.kept (g.met.K.Disk.agrees last.now) ended))
    c.unlock_store-job.ensures.done

pub returns-in-Ok-clause-leaves : goal.returns-in-Ok-clause-leaves
returns-in-Ok-clause-leaves g c = λ honest.
    let told = g.K.Disk.told in
    let last = c.unlock_store-job.new.store.disk in
    let back : c.into_disk-disk.result.now ≡ c.disk-1.given.0 = search rules in
    let is : last.now ≡ c.disk-1.given.0 = ap (λ d. d.now) (sym c.into_disk-disk.ensures.disk) ∙ back in
    let left = c.unlock_store-job.ensures.left (subst (λ k. IsHonest (told k).torn) (sym is) honest) in
    subst (λ k. OnFile LeavesUnlocking (told c.args.disk.now).files (told k).files c.args.file.now) is
    (unlock-left (told c.args.disk.now) (told c.in-Ok.store.disk.now) (told last.now) c.args.file.now c.in-Ok.store.device c.in-Ok.ensures.opens c.unlock_store-job.ensures.kept.kept (g.met.K.Disk.agrees last.now) left)

pub returns-in-Ok-clause-others : goal.returns-in-Ok-clause-others
returns-in-Ok-clause-others g c =
    let told = g.K.Disk.told in
    let last = c.unlock_store-job.new.store.disk in
    let back : c.into_disk-disk.result.now ≡ c.disk-1.given.0 = search rules in
    let is : last.now ≡ c.disk-1.given.0 = ap (λ d. d.now) (sym c.into_disk-disk.ensures.disk) ∙ back in
    subst (λ k. OthersKept (told c.args.disk.now) (told k) c.args.file.now) is
    (others-opened (told c.args.disk.now) (told c.in-Ok.store.disk.now) (told last.now) c.args.file.now c.in-Ok.store.device c.in-Ok.ensures.opens c.unlock_store-job.ensures.kept.kept)

pub returns-in-Err-clause-stops : goal.returns-in-Err-clause-stops
returns-in-Err-clause-stops g c =
    let told = g.K.Disk.told in
    let back : c.in-Err.lost.0.now ≡ c.disk-in-Err-1.given.0 = search rules in
    let before = (told c.args.disk.now).faults in
    subst (λ k. IsStop (unlock_outcome (told c.args.disk.now).files c.args.file.now) (Rose before (told k).faults) c.opening_stop.result) back
    (subst (IsStop (unlock_outcome (told c.args.disk.now).files c.args.file.now) (Rose before (told c.in-Err.lost.0.now).faults)) (sym c.opening_stop.ensures)
    (stop-unopened Unlocked (told c.args.disk.now).files c.args.file.now (Rose before (told c.in-Err.lost.0.now).faults) c.in-Err.lost.1 c.in-Err.ensures.absent c.in-Err.ensures.bad c.in-Err.ensures.cause))

pub returns-in-Err-clause-early : goal.returns-in-Err-clause-early
returns-in-Err-clause-early g c = λ early.
    let told = g.K.Disk.told in
    let back : c.in-Err.lost.0.now ≡ c.disk-in-Err-1.given.0 = search rules in
    subst (λ k. (told k).files ≡ (told c.args.disk.now).files) back
    (early-unopened _ c.in-Err.lost.1 c.in-Err.ensures.unwritten (subst IsEarly c.opening_stop.ensures early))

pub returns-in-Ok-clause-spared : goal.returns-in-Ok-clause-spared
returns-in-Ok-clause-spared g c = λ bad stood.
    let told = g.K.Disk.told in
    let last = c.unlock_store-job.new.store.disk in
    let back : c.into_disk-disk.result.now ≡ c.disk-1.given.0 = search rules in
    let is : last.now ≡ c.disk-1.given.0 = ap (λ d. d.now) (sym c.into_disk-disk.ensures.disk) ∙ back in
    subst (λ k. (told k).files ≡ (told c.args.disk.now).files) is
    (spared-opened (told c.args.disk.now) (told last.now) c.args.file.now c.in-Ok.store.device bad c.in-Ok.ensures.opens.device
    (others-opened (told c.args.disk.now) (told c.in-Ok.store.disk.now) (told last.now) c.args.file.now c.in-Ok.store.device c.in-Ok.ensures.opens
    c.unlock_store-job.ensures.kept.kept) stood)

pub returns-in-Err-clause-spared : goal.returns-in-Err-clause-spared
returns-in-Err-clause-spared g c = λ bad stood.
    let told = g.K.Disk.told in
    let back : c.in-Err.lost.0.now ≡ c.disk-in-Err-1.given.0 = search rules in
    subst (λ k. (told k).files ≡ (told c.args.disk.now).files) back (c.in-Err.ensures.spared bad stood)
