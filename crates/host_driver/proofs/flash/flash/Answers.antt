use Rattle.std.proofs.Common.{◌≡◌, ◌+◌, true, false, [], ◌∷◌, ◌++◌, length, take, Ok, Err, sym, ◌∙◌, subst, arith, length-append}
use Rattle.std.specs.Prelude.{slice_set}
use Rattle.std.proofs.lemmas.List.{length-take-le, length-set}
use Rattle.fb_frame.specs.Sinks.{Grew, GrewPart}
use Rattle.flash_plan.specs.Products.{OfFiles}
use Rattle.host_driver.specs.declared.drive.DriveError.TheVariants as stop
use Rattle.host_driver.specs.Driving.{Drives}
use Rattle.host_driver.specs.Jobs.{folder, outside, order, course}
use Rattle.host_driver.specs.Printing.{lead, retry_line}
use Rattle.host_driver.specs.Taking.{AreImages}
use Rattle.host_driver.specs.Trying.{may_pass, goes_on, IsTried, came, trial}
use Rattle.host_driver.proofs.DriveImages.{images_are}
use Rattle.host_driver.proofs.DrivesLemmas.{Drives-ended, Drives-unshown, numbers-next, rest-next, goes-on, goes-no-more, lead-next, err-same}
use Rattle.host_driver.proofs.LoopLemmas.{files-more}
use Rattle.host_driver.proofs.TriedLemmas.{HasTried, Tried-usable, Tried-failed, Tried-again}
use Rattle.host_driver.proofs.flash.flash.Goals as goal

pub attempt-lost-requires-clause-images : goal.attempt-lost-requires-clause-images
attempt-lost-requires-clause-images g c =
    let D = g.D.ProductDir in
    subst (λ f. OfFiles f (AreImages c.args.product.now)) (sym c.attempts.invariant.tried.folder.files)
    (files-more (D.files c.args.dir.now) _ _ (λ files e. images_are files c.args.options.now.wipe c.args.product.now e) c.requires.product)

pub attempt-lost-requires-clause-kept : goal.attempt-lost-requires-clause-kept
attempt-lost-requires-clause-kept g c =
    let told = g.P.Port.told in
    let text = g.S.Sink.text in
    let faults = g.S.Sink.faults in
    let D = g.D.ProductDir in
    let o = order c.args.product.now c.args.options.now in
    let first = outside (told c.args.link) (folder (D.told_path c.args.dir.now) (D.files c.args.dir.now) (D.entered c.args.dir.now) (D.faults c.args.dir.now)) (text c.args.out.now) (faults c.args.out.now) in
    let i = c.attempts.invariant in
    let n = c.attempts.attempts in
    let xs = c.attempts.acknowledged in
    let ns = take n xs in
    let now = outside (told c.attempts.link) (folder (D.told_path c.attempts.dir) (D.files c.attempts.dir) (D.entered c.attempts.dir) (D.faults c.attempts.dir)) (text c.attempts.out) (faults c.attempts.out) in
    Tried-usable o first now c.attempts.kept ns (lead (length ns)) c.requires.whole i.tried

pub returns-in_default-clause-drives : goal.returns-in_default-clause-drives
returns-in_default-clause-drives g c =
    let told = g.P.Port.told in
    let text = g.S.Sink.text in
    let faults = g.S.Sink.faults in
    let D = g.D.ProductDir in
    let o = order c.args.product.now c.args.options.now in
    let first = outside (told c.args.link) (folder (D.told_path c.args.dir.now) (D.files c.args.dir.now) (D.entered c.args.dir.now) (D.faults c.args.dir.now)) (text c.args.out.now) (faults c.args.out.now) in
    let i = c.attempts.invariant in
    let n = c.attempts.attempts in
    let xs = c.attempts.acknowledged in
    let ns = take n xs in
    let now = outside (told c.attempts.link) (folder (D.told_path c.attempts.dir) (D.files c.attempts.dir) (D.entered c.attempts.dir) (D.faults c.attempts.dir)) (text c.attempts.out) (faults c.attempts.out) in
    let r = c.attempt-lost.result in
    let count = r.acknowledged in
    let d = c.attempt-lost.new.dir in
    let after = outside (told r.link) (folder (D.told_path d) (D.files d) (D.entered d) (D.faults d)) (text c.attempt-lost.new.out) (faults c.attempt-lost.new.out) in
    let few = c.requires.few in
    let within = i.within in
    let ten = i.ten in
    let long : length ns ≡ n = length-take-le n xs (omega (arith, few, within, ten)) in
    let next : take (n + 1) (slice_set xs n count) ≡ ns ++ count ∷ [] = numbers-next xs n count (omega (arith, few, within, ten)) in
    let tried : IsTried o (trial now after (came c.attempts.kept r.kept count (Ok c.in_default.field-0))) = subst (λ e. IsTried o (trial now after (came c.attempts.kept r.kept count e))) c.in_default.is c.attempt-lost.ensures.tried in
    subst (λ l. Drives o first after (course l (Ok (record { steps = count; attempts = n + 1 })))) (sym next)
    (Drives-ended o first now after c.attempts.kept r.kept ns count (n + 1) (Ok c.in_default.field-0) c.requires.sound i.tried tried (omega (arith, long, within)) (omega (arith, long)) (λ error e p. absurd cc))

pub returns-in_default-clause-unbegun : goal.returns-in_default-clause-unbegun
returns-in_default-clause-unbegun g c = rest-next c.attempts.acknowledged c.attempts.attempts c.attempt-lost.result.acknowledged c.attempts.invariant.rest

pub returns-then-not-goes_on-clause-drives : goal.returns-then-not-goes_on-clause-drives
returns-then-not-goes_on-clause-drives g c =
    let told = g.P.Port.told in
    let text = g.S.Sink.text in
    let faults = g.S.Sink.faults in
    let D = g.D.ProductDir in
    let o = order c.args.product.now c.args.options.now in
    let first = outside (told c.args.link) (folder (D.told_path c.args.dir.now) (D.files c.args.dir.now) (D.entered c.args.dir.now) (D.faults c.args.dir.now)) (text c.args.out.now) (faults c.args.out.now) in
    let i = c.attempts.invariant in
    let n = c.attempts.attempts in
    let xs = c.attempts.acknowledged in
    let ns = take n xs in
    let now = outside (told c.attempts.link) (folder (D.told_path c.attempts.dir) (D.files c.attempts.dir) (D.entered c.attempts.dir) (D.faults c.attempts.dir)) (text c.attempts.out) (faults c.attempts.out) in
    let r = c.attempt-lost.result in
    let count = r.acknowledged in
    let d = c.attempt-lost.new.dir in
    let after = outside (told r.link) (folder (D.told_path d) (D.files d) (D.entered d) (D.faults d)) (text c.attempt-lost.new.out) (faults c.attempt-lost.new.out) in
    let few = c.requires.few in
    let within = i.within in
    let ten = i.ten in
    let long : length ns ≡ n = length-take-le n xs (omega (arith, few, within, ten)) in
    let next : take (n + 1) (slice_set xs n count) ≡ ns ++ count ∷ [] = numbers-next xs n count (omega (arith, few, within, ten)) in
    let error = c.in-Err.error in
    let tried : IsTried o (trial now after (came c.attempts.kept r.kept count (Err error))) = subst (λ e. IsTried o (trial now after (came c.attempts.kept r.kept count e))) c.in-Err.is c.attempt-lost.ensures.tried in
    let off : goes_on error (n + 1) c.args.options.now.retries ≡ false = (let b = c.if-not-goes_on.true in let h = c.goes_on.ensures in sym h ∙ cc) in
    subst (λ l. Drives o first after (course l (Err error))) (sym next)
    (Drives-ended o first now after c.attempts.kept r.kept ns count (n + 1) (Err error) c.requires.sound i.tried tried (omega (arith, long, within)) (omega (arith, long))
    (λ x e p. (let over = goes-no-more error (n + 1) c.args.options.now.retries off (subst (λ z. may_pass z ≡ true) (sym (err-same error x e)) p) in omega (arith, long, within, over))))

pub returns-then-not-goes_on-clause-unbegun : goal.returns-then-not-goes_on-clause-unbegun
returns-then-not-goes_on-clause-unbegun g c = rest-next c.attempts.acknowledged c.attempts.attempts c.attempt-lost.result.acknowledged c.attempts.invariant.rest

pub returns-in_default-put_retry-clause-drives : goal.returns-in_default-put_retry-clause-drives
returns-in_default-put_retry-clause-drives g c =
    let told = g.P.Port.told in
    let text = g.S.Sink.text in
    let faults = g.S.Sink.faults in
    let D = g.D.ProductDir in
    let o = order c.args.product.now c.args.options.now in
    let first = outside (told c.args.link) (folder (D.told_path c.args.dir.now) (D.files c.args.dir.now) (D.entered c.args.dir.now) (D.faults c.args.dir.now)) (text c.args.out.now) (faults c.args.out.now) in
    let i = c.attempts.invariant in
    let n = c.attempts.attempts in
    let xs = c.attempts.acknowledged in
    let ns = take n xs in
    let now = outside (told c.attempts.link) (folder (D.told_path c.attempts.dir) (D.files c.attempts.dir) (D.entered c.attempts.dir) (D.faults c.attempts.dir)) (text c.attempts.out) (faults c.attempts.out) in
    let r = c.attempt-lost.result in
    let count = r.acknowledged in
    let d = c.attempt-lost.new.dir in
    let after = outside (told r.link) (folder (D.told_path d) (D.files d) (D.entered d) (D.faults d)) (text c.attempt-lost.new.out) (faults c.attempt-lost.new.out) in
    let few = c.requires.few in
    let within = i.within in
    let ten = i.ten in
    let long : length ns ≡ n = length-take-le n xs (omega (arith, few, within, ten)) in
    let next : take (n + 1) (slice_set xs n count) ≡ ns ++ count ∷ [] = numbers-next xs n count (omega (arith, few, within, ten)) in
    let error = c.in-Err.error in
    let tried : IsTried o (trial now after (came c.attempts.kept r.kept count (Err error))) = subst (λ e. IsTried o (trial now after (came c.attempts.kept r.kept count e))) c.in-Err.is c.attempt-lost.ensures.tried in
    let on : goes_on error (n + 1) c.args.options.now.retries ≡ true = (let b = c.if-not-goes_on.false in let h = c.goes_on.ensures in sym h ∙ cc) in
    let goes = goes-on error (n + 1) c.args.options.now.retries on in
    let failed = Tried-failed o first now after c.attempts.kept r.kept ns count error c.requires.sound i.tried tried goes.0 in
    let more = length-append ns (count ∷ []) in
    let whole : length (ns ++ count ∷ []) ≡ n + 1 = omega (arith, long, more) in
    let e = c.in_default-put_retry.ensures in
    let shown = c.put_retry.new.out in
    subst (λ l. Drives o first (outside after.port after.folder (text shown) (faults shown)) (course l (Err stop.Output))) (sym next)
    (Drives-unshown o first after r.kept (ns ++ count ∷ []) (text shown) (faults shown) c.requires.sound failed tried.down (omega (arith, whole)) (let x = goes.1 in omega (arith, whole, x))
    (subst (λ k. GrewPart after.text (text shown) (retry_line k)) (sym whole) e.part) e.cause.failed e.cause.later)

pub returns-in_default-put_retry-clause-unbegun : goal.returns-in_default-put_retry-clause-unbegun
returns-in_default-put_retry-clause-unbegun g c = rest-next c.attempts.acknowledged c.attempts.attempts c.attempt-lost.result.acknowledged c.attempts.invariant.rest

pub attempts-preserved : goal.attempts-preserved
attempts-preserved g c =
    let told = g.P.Port.told in
    let text = g.S.Sink.text in
    let faults = g.S.Sink.faults in
    let D = g.D.ProductDir in
    let o = order c.args.product.now c.args.options.now in
    let first = outside (told c.args.link) (folder (D.told_path c.args.dir.now) (D.files c.args.dir.now) (D.entered c.args.dir.now) (D.faults c.args.dir.now)) (text c.args.out.now) (faults c.args.out.now) in
    let i = c.attempts.invariant in
    let n = c.attempts.attempts in
    let xs = c.attempts.acknowledged in
    let ns = take n xs in
    let now = outside (told c.attempts.link) (folder (D.told_path c.attempts.dir) (D.files c.attempts.dir) (D.entered c.attempts.dir) (D.faults c.attempts.dir)) (text c.attempts.out) (faults c.attempts.out) in
    let r = c.attempt-lost.result in
    let count = r.acknowledged in
    let d = c.attempt-lost.new.dir in
    let after = outside (told r.link) (folder (D.told_path d) (D.files d) (D.entered d) (D.faults d)) (text c.attempt-lost.new.out) (faults c.attempt-lost.new.out) in
    let few = c.requires.few in
    let within = i.within in
    let ten = i.ten in
    let long : length ns ≡ n = length-take-le n xs (omega (arith, few, within, ten)) in
    let next : take (n + 1) (slice_set xs n count) ≡ ns ++ count ∷ [] = numbers-next xs n count (omega (arith, few, within, ten)) in
    let error = c.in-Err.error in
    let tried : IsTried o (trial now after (came c.attempts.kept r.kept count (Err error))) = subst (λ e. IsTried o (trial now after (came c.attempts.kept r.kept count e))) c.in-Err.is c.attempt-lost.ensures.tried in
    let on : goes_on error (n + 1) c.args.options.now.retries ≡ true = (let b = c.if-not-goes_on.false in let h = c.goes_on.ensures in sym h ∙ cc) in
    let goes = goes-on error (n + 1) c.args.options.now.retries on in
    let failed = Tried-failed o first now after c.attempts.kept r.kept ns count error c.requires.sound i.tried tried goes.0 in
    let more = length-append ns (count ∷ []) in
    let whole : length (ns ++ count ∷ []) ≡ n + 1 = omega (arith, long, more) in
    let e = c.in-Ok.ensures in
    let shown = c.put_retry.new.out in
    let new = outside after.port after.folder (text shown) (faults shown) in
    let line : lead (length (ns ++ count ∷ [])) ≡ retry_line (n + 1) = lead-next (length (ns ++ count ∷ [])) n whole in
    record {
      tried = subst (λ l. HasTried o first new r.kept l (lead (length l))) (sym next)
          (Tried-again o first after r.kept (ns ++ count ∷ []) (lead (length (ns ++ count ∷ []))) (text shown) (faults shown) failed (omega (arith, whole)) (subst (Grew after.text (text shown)) (sym line) e.put) e.cause.later);
      within = goes.1;
      ten = length-set xs n count ∙ i.ten;
      rest = rest-next xs n count i.rest;
      same = c.attempt-lost.ensures.same ∙ i.same;
      dir_same = c.attempt-lost.ensures.dir_same ∙ i.dir_same;
    }
