use Rattle.std.proofs.Common.{◌≡◌, length, None, Err, sym, subst, arith}
use Rattle.std.specs.Prelude.{OnOk, IfErr}
use Rattle.fb_frame.specs.Causes.{Rose}
use Rattle.wire_told.specs.Peers.{OfLink}
use Rattle.fb_link.specs.Seen.{seen}
use Rattle.host_driver.specs.declared.drive.DriveError.TheVariants as stop
use Rattle.host_driver.specs.Jobs.{folder, outside, order}
use Rattle.host_driver.specs.Running.{IsOf, IsFor, IsDoneAll, IsBrokenAt, IsUnreadNext, plan_cost, running}
use Rattle.host_driver.specs.Stepping.{Serving}
use Rattle.host_driver.specs.Taking.{supply}
use Rattle.host_driver.specs.Trying.{IsTried, came, trial}
use Rattle.host_driver.proofs.AttemptLemmas.{Tried-unbegun, Tried-unprepared, Tried-ran, met-any}
use Rattle.host_driver.proofs.DriveTaken.{serving-less}
use Rattle.host_driver.proofs.OrderLemmas.{err-more}
use Rattle.host_driver.proofs.attempt.attempt.Goals as goal

pub returns-in-Err-clause-tried : goal.returns-in-Err-clause-tried
returns-in-Err-clause-tried g c =
    let told = g.P.Port.told in
    let text = g.S.Sink.text in
    let faults = g.S.Sink.faults in
    let o = order c.args.product.now c.args.options.now in
    let d = c.args.dir.now in
    let before = folder (g.D.ProductDir.told_path d) (g.D.ProductDir.files d) (g.D.ProductDir.entered d) (g.D.ProductDir.faults d) in
    let old = outside (told c.args.link) before (text c.args.out.now) (faults c.args.out.now) in
    Tried-unbegun o c.args.kept old (told c.in-Err.link) c.in-Err.error c.requires.kept c.in-Err.ensures.unbegun

pub run-ran-requires-clause-plan : goal.run-ran-requires-clause-plan
run-ran-requires-clause-plan g c =
    let told = g.P.Port.told in
    let text = g.S.Sink.text in
    let faults = g.S.Sink.faults in
    let o = order c.args.product.now c.args.options.now in
    let d = c.args.dir.now in
    let before = folder (g.D.ProductDir.told_path d) (g.D.ProductDir.files d) (g.D.ProductDir.entered d) (g.D.ProductDir.faults d) in
    let old = outside (told c.args.link) before (text c.args.out.now) (faults c.args.out.now) in
    let e = c.in-Ok-plan_for.ensures in
    let p = c.in-Ok-plan_for.prepared in
    let met = met-any told o c.args.kept p old c.in-Ok.ready c.in-Ok-plan_for.ready (text c.plan_for.new.out) c.requires.whole c.requires.kept c.in-Ok.ensures.begun e.kept e.quiet e.prepared in
    subst (λ l. IsOf c.args.product.now l) (sym c.as_slice-plan.ensures) met.own

pub run-ran-requires-clause-fit : goal.run-ran-requires-clause-fit
run-ran-requires-clause-fit g c =
    let told = g.P.Port.told in
    let text = g.S.Sink.text in
    let faults = g.S.Sink.faults in
    let o = order c.args.product.now c.args.options.now in
    let d = c.args.dir.now in
    let before = folder (g.D.ProductDir.told_path d) (g.D.ProductDir.files d) (g.D.ProductDir.entered d) (g.D.ProductDir.faults d) in
    let old = outside (told c.args.link) before (text c.args.out.now) (faults c.args.out.now) in
    let e = c.in-Ok-plan_for.ensures in
    let p = c.in-Ok-plan_for.prepared in
    let met = met-any told o c.args.kept p old c.in-Ok.ready c.in-Ok-plan_for.ready (text c.plan_for.new.out) c.requires.whole c.requires.kept c.in-Ok.ensures.begun e.kept e.quiet e.prepared in
    subst (λ l. OfLink (λ w. IsFor l p.max w.device) (told c.in-Ok-plan_for.ready).peer) (sym c.as_slice-plan.ensures) met.fits

pub run-ran-requires-clause-serving : goal.run-ran-requires-clause-serving
run-ran-requires-clause-serving g c =
    let told = g.P.Port.told in
    let text = g.S.Sink.text in
    let faults = g.S.Sink.faults in
    let o = order c.args.product.now c.args.options.now in
    let d = c.args.dir.now in
    let before = folder (g.D.ProductDir.told_path d) (g.D.ProductDir.files d) (g.D.ProductDir.entered d) (g.D.ProductDir.faults d) in
    let old = outside (told c.args.link) before (text c.args.out.now) (faults c.args.out.now) in
    let e = c.in-Ok-plan_for.ensures in
    let p = c.in-Ok-plan_for.prepared in
    let met = met-any told o c.args.kept p old c.in-Ok.ready c.in-Ok-plan_for.ready (text c.plan_for.new.out) c.requires.whole c.requires.kept c.in-Ok.ensures.begun e.kept e.quiet e.prepared in
    let room = met.own.room in
    subst (λ l. Serving (plan_cost l) (told c.in-Ok-plan_for.ready).peer) (sym c.as_slice-plan.ensures) (serving-less _ (plan_cost p.plan) _ (omega (arith, room)) met.serving)

pub returns-in-Ok-plan_for-clause-tried : goal.returns-in-Ok-plan_for-clause-tried
returns-in-Ok-plan_for-clause-tried g c =
    let told = g.P.Port.told in
    let text = g.S.Sink.text in
    let faults = g.S.Sink.faults in
    let o = order c.args.product.now c.args.options.now in
    let d = c.args.dir.now in
    let before = folder (g.D.ProductDir.told_path d) (g.D.ProductDir.files d) (g.D.ProductDir.entered d) (g.D.ProductDir.faults d) in
    let old = outside (told c.args.link) before (text c.args.out.now) (faults c.args.out.now) in
    let e = c.in-Ok-plan_for.ensures in
    let p = c.in-Ok-plan_for.prepared in
    let met = met-any told o c.args.kept p old c.in-Ok.ready c.in-Ok-plan_for.ready (text c.plan_for.new.out) c.requires.whole c.requires.kept c.in-Ok.ensures.begun e.kept e.quiet e.prepared in
    let dir = g.D.ProductDir in
    let d1 = c.run-ran.new.dir in
    let new = outside (told c.run-ran.result.link) (folder (dir.told_path d1) (dir.files d1) (dir.entered d1) (dir.faults d1)) (text c.run-ran.new.shown) (faults c.run-ran.new.shown) in
    let k = c.run-ran.ensures in
    let mid = seen (told c.in-Ok-plan_for.ready) (text c.plan_for.new.out) in
    let after = seen (told c.run-ran.result.link) (text c.run-ran.new.shown) in
    let count = c.run-ran.result.acknowledged in
    let end = c.run-ran.result.end in
    let from = supply (dir.files d) c.args.product.now p.max in
    let same = c.as_slice-plan.ensures in
    let x = e.shown_later in
    let y = k.shown_later in
    Tried-ran o c.args.kept p old new count end mid met (record { path = k.path; files = k.files; entered = k.entered; later = k.read_later }) (omega (arith, x, y))
    (err-more _ (λ error. error ≡ stop.Output → Rose (faults c.args.out.now) (faults c.run-ran.new.shown)) (λ error q h. (let r = q h in omega (arith, r, x))) end k.output)
    (subst (λ l. OnOk end (count ≡ length l)) same k.done)
    (subst (λ l. OnOk end (IsDoneAll (running from l) mid after)) same k.all)
    (subst (λ l. IfErr end (λ error. IsBrokenAt (IsUnreadNext (running from l) count (dir.faults d) (dir.faults d1)) (running from l) count (mid, after) error)) same k.broken)

pub returns-in-Err-plan_for-clause-tried : goal.returns-in-Err-plan_for-clause-tried
returns-in-Err-plan_for-clause-tried g c =
    let told = g.P.Port.told in
    let text = g.S.Sink.text in
    let faults = g.S.Sink.faults in
    let o = order c.args.product.now c.args.options.now in
    let d = c.args.dir.now in
    let before = folder (g.D.ProductDir.told_path d) (g.D.ProductDir.files d) (g.D.ProductDir.entered d) (g.D.ProductDir.faults d) in
    let old = outside (told c.args.link) before (text c.args.out.now) (faults c.args.out.now) in
    let e = c.in-Err-plan_for.ensures in
    let new = outside (told c.in-Err-plan_for.link) before (text c.plan_for.new.out) (faults c.plan_for.new.out) in
    subst (λ k. IsTried o (trial old new (came k None 0 (Err c.in-Err-plan_for.error)))) (sym e.unmade)
    (Tried-unprepared o old (told c.in-Ok.ready) (told c.in-Err-plan_for.link) (text c.plan_for.new.out) (faults c.plan_for.new.out) c.in-Err-plan_for.error c.in-Ok.ensures.begun e.unprepared e.shown_later e.output)
