use Rattle.std.proofs.Common.{◌≡◌, ◌∙◌, ap, sym, subst, rules}
use Rattle.fb_frame.specs.Causes.{Rose}
use Rattle.dev_disk.specs.Disks.{open_bytes}
use Rattle.dev_disk.proofs.TwinLemmas.{OpenKept-files}
use Rattle.dev_store.specs.Opening.{StandsAs, OnFile, OthersKept}
use Rattle.device_jobs.specs.Outcomes.{Shown, show_outcome}
use Rattle.device_jobs.specs.Leaves.{IsDone}
use Rattle.device_jobs.specs.Working.{IsStop, IsEarly, IsText, IsShownText}
use Rattle.device_jobs.proofs.OpenedLemmas.{show-done, show-left, shown-outcome, told-open, others-opened, spared-opened, stop-unopened, early-unopened}
use Rattle.device_jobs.proofs.TextLemmas.{on-ok-any, if-ok}
use Rattle.device_jobs.proofs.show.show_job.Goals as goal

pub returns-in-Ok-clause-text : goal.returns-in-Ok-clause-text
returns-in-Ok-clause-text g c =
    let told = g.K.Disk.told in
    let old = told c.args.disk.now in
    let mid = told c.in-Ok.store.disk.now in
    if-ok c.device_text-job.result (λ text. IsShownText (open_bytes mid) c.in-Ok.store.device text.items) (λ text. IsText (show_outcome old.files c.args.file.now) text.items)
    (λ text shown. shown-outcome old.files c.args.file.now c.in-Ok.store.device (open_bytes mid) text.items (told-open old mid c.args.file.now c.in-Ok.store.device c.in-Ok.ensures.opens) c.in-Ok.ensures.opens.device shown)
    c.device_text-job.ensures.shown

pub returns-in-Ok-clause-done : goal.returns-in-Ok-clause-done
returns-in-Ok-clause-done g c =
    let told = g.K.Disk.told in
    let last = c.device_text-job.new.store.disk in
    let back : c.into_disk-disk.result.now ≡ c.disk-1.given.0 = search rules in
    let is : last.now ≡ c.disk-1.given.0 = ap (λ d. d.now) (sym c.into_disk-disk.ensures.disk) ∙ back in
    on-ok-any c.device_text-job.result
    (subst (λ k. IsDone (show_outcome (told c.args.disk.now).files c.args.file.now) (told k).files c.args.file.now) is
    (show-done (told c.args.disk.now) (told c.in-Ok.store.disk.now) (told last.now) c.args.file.now c.in-Ok.store.device c.laws.ensures.repaired_stands c.in-Ok.ensures.opens c.device_text-job.ensures.read.files.files))

pub returns-in-Ok-clause-leaves : goal.returns-in-Ok-clause-leaves
returns-in-Ok-clause-leaves g c = λ honest.
    let told = g.K.Disk.told in
    let last = c.device_text-job.new.store.disk in
    let back : c.into_disk-disk.result.now ≡ c.disk-1.given.0 = search rules in
    let is : last.now ≡ c.disk-1.given.0 = ap (λ d. d.now) (sym c.into_disk-disk.ensures.disk) ∙ back in
    subst (λ k. OnFile StandsAs (told c.args.disk.now).files (told k).files c.args.file.now) is
    (show-left (told c.args.disk.now) (told c.in-Ok.store.disk.now) (told last.now) c.args.file.now c.in-Ok.store.device c.laws.ensures.repaired_stands c.laws.ensures.repaired_owns c.in-Ok.ensures.opens
    c.device_text-job.ensures.read.files.files)

pub returns-in-Ok-clause-others : goal.returns-in-Ok-clause-others
returns-in-Ok-clause-others g c =
    let told = g.K.Disk.told in
    let last = c.device_text-job.new.store.disk in
    let back : c.into_disk-disk.result.now ≡ c.disk-1.given.0 = search rules in
    let is : last.now ≡ c.disk-1.given.0 = ap (λ d. d.now) (sym c.into_disk-disk.ensures.disk) ∙ back in
    subst (λ k. OthersKept (told c.args.disk.now) (told k) c.args.file.now) is
    (others-opened (told c.args.disk.now) (told c.in-Ok.store.disk.now) (told last.now) c.args.file.now c.in-Ok.store.device c.in-Ok.ensures.opens
    (OpenKept-files (told c.in-Ok.store.disk.now) (told last.now) c.device_text-job.ensures.read.files))

pub returns-in-Err-clause-stops : goal.returns-in-Err-clause-stops
returns-in-Err-clause-stops g c =
    let told = g.K.Disk.told in
    let back : c.in-Err.lost.0.now ≡ c.disk-in-Err-1.given.0 = search rules in
    let before = (told c.args.disk.now).faults in
    subst (λ k. IsStop (show_outcome (told c.args.disk.now).files c.args.file.now) (Rose before (told k).faults) c.opening_stop.result) back
    (subst (IsStop (show_outcome (told c.args.disk.now).files c.args.file.now) (Rose before (told c.in-Err.lost.0.now).faults)) (sym c.opening_stop.ensures)
    (stop-unopened Shown (told c.args.disk.now).files c.args.file.now (Rose before (told c.in-Err.lost.0.now).faults) c.in-Err.lost.1 c.in-Err.ensures.absent c.in-Err.ensures.bad c.in-Err.ensures.cause))

pub returns-in-Err-clause-early : goal.returns-in-Err-clause-early
returns-in-Err-clause-early g c = λ early.
    let told = g.K.Disk.told in
    let back : c.in-Err.lost.0.now ≡ c.disk-in-Err-1.given.0 = search rules in
    subst (λ k. (told k).files ≡ (told c.args.disk.now).files) back
    (early-unopened _ c.in-Err.lost.1 c.in-Err.ensures.unwritten (subst IsEarly c.opening_stop.ensures early))

pub returns-in-Ok-clause-spared : goal.returns-in-Ok-clause-spared
returns-in-Ok-clause-spared g c = λ bad stood.
    let told = g.K.Disk.told in
    let last = c.device_text-job.new.store.disk in
    let back : c.into_disk-disk.result.now ≡ c.disk-1.given.0 = search rules in
    let is : last.now ≡ c.disk-1.given.0 = ap (λ d. d.now) (sym c.into_disk-disk.ensures.disk) ∙ back in
    subst (λ k. (told k).files ≡ (told c.args.disk.now).files) is
    (spared-opened (told c.args.disk.now) (told last.now) c.args.file.now c.in-Ok.store.device bad c.in-Ok.ensures.opens.device
    (others-opened (told c.args.disk.now) (told c.in-Ok.store.disk.now) (told last.now) c.args.file.now c.in-Ok.store.device c.in-Ok.ensures.opens
    (OpenKept-files (told c.in-Ok.store.disk.now) (told last.now) c.device_text-job.ensures.read.files)) stood)

pub returns-in-Err-clause-spared : goal.returns-in-Err-clause-spared
returns-in-Err-clause-spared g c = λ bad stood.
    let told = g.K.Disk.told in
    let back : c.in-Err.lost.0.now ≡ c.disk-in-Err-1.given.0 = search rules in
    subst (λ k. (told k).files ≡ (told c.args.disk.now).files) back (c.in-Err.ensures.spared bad stood)
