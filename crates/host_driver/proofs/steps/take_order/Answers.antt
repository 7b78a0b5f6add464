use Rattle.std.proofs.Common.{◌∙◌, ℕ, Some, List, refl, sym, ap, subst, arith}
use Rattle.std.specs.Prelude.{length}
use Rattle.fb_link.specs.Seen.{seen}
use Rattle.host_driver.specs.Taking.{supply, taking, IsTaken, IsUntaken, IsUnreadAt}
use Rattle.host_driver.proofs.DriveFiles.{told-stepped}
use Rattle.host_driver.proofs.DriveTables.{tables-few, Tables-fit, Tables-taken, Tables-untaken}
use Rattle.host_driver.proofs.DriveTaken.{Alone-taken, Alone-untaken, alone-of}
use Rattle.host_driver.proofs.OrderLemmas.{ok-more, err-more}
use Rattle.host_driver.proofs.steps.take_order.Goals as goal

pub take_tables-requires-clause-few : goal.take_tables-requires-clause-few
take_tables-requires-clause-few g c =
    let f = tables-few c.in-Some.image (told-stepped c.args.product.now.empty c.in-Some.image _ c.in-Some.is c.requires.whole.tables) in
    omega (arith, f, ap (λ (t : List ℕ). length t) c.as_slice.ensures)

pub take_tables-requires-clause-fits : goal.take_tables-requires-clause-fits
take_tables-requires-clause-fits g c =
    let f = tables-few c.in-Some.image (told-stepped c.args.product.now.empty c.in-Some.image _ c.in-Some.is c.requires.whole.tables) in
    Tables-fit c.as_slice.result.now c.args.most _ (omega (arith, f, ap (λ (t : List ℕ). length t) c.as_slice.ensures)) c.requires.large c.requires.fits

pub returns-in-Some-clause-taken : goal.returns-in-Some-clause-taken
returns-in-Some-clause-taken g c =
    let s = supply (g.D.ProductDir.files c.args.dir.now) c.args.product.now c.args.most in
    let a = seen (g.P.Port.told c.args.ready) (g.S.Sink.text c.args.shown.now) in
    ok-more _ _ (λ x k. subst (λ o. IsTaken (taking s o) a (seen (g.P.Port.told x) (g.S.Sink.text c.take_tables.new.shown))) (sym c.in-Table.is)
    (Tables-taken s c.in-Table.name c.in-Table.wipe c.as_slice.result.now a (seen (g.P.Port.told x) (g.S.Sink.text c.take_tables.new.shown)) (c.in-Some.is ∙ ap Some (sym c.as_slice.ensures)) k)) c.take_tables.result c.take_tables.ensures.stepped

pub returns-in-Some-clause-untaken : goal.returns-in-Some-clause-untaken
returns-in-Some-clause-untaken g c =
    let s = supply (g.D.ProductDir.files c.args.dir.now) c.args.product.now c.args.most in
    let a = seen (g.P.Port.told c.args.ready) (g.S.Sink.text c.args.shown.now) in
    let F = IsUnreadAt c.args.product.now c.args.order.now (g.D.ProductDir.faults c.args.dir.now) (g.D.ProductDir.faults c.args.dir.now) in
    err-more _ _ (λ x k. subst (λ o. IsUntaken F (taking s o) a (seen (g.P.Port.told x.0) (g.S.Sink.text c.take_tables.new.shown)) x.1) (sym c.in-Table.is)
    (Tables-untaken F s c.in-Table.name c.in-Table.wipe c.as_slice.result.now a (seen (g.P.Port.told x.0) (g.S.Sink.text c.take_tables.new.shown)) x.1 (c.in-Some.is ∙ ap Some (sym c.as_slice.ensures)) k)) c.take_tables.result c.take_tables.ensures.stopped

pub returns-in_default : goal.returns-in_default
returns-in_default g c =
    let s = supply (g.D.ProductDir.files c.args.dir.now) c.args.product.now c.args.most in
    let alone = alone-of c.args.order.now c.in_default.not-Put c.in_default.not-Table in
    let e = c.take_alone.ensures in
    record {
      taken = ok-more _ _ (λ x k. Alone-taken s c.args.order.now _ _ alone c.requires.serving k) c.take_alone.result e.stepped;
      untaken = err-more _ _ (λ x k. Alone-untaken _ s c.args.order.now _ _ x.1 k) c.take_alone.result e.stopped;
      same = e.same;
      same_lost = e.same_lost;
      shown_later = e.shown_later;
      output = e.output;
      entered = refl;
      path = refl;
      files = refl;
      dir_same = refl;
      read_later = omega arith;
    }
