use Rattle.std.proofs.Common.{◌≡◌, ◌∙◌, refl, sym, ap, subst, true, arith}
use Rattle.fb_link.specs.Seen.{seen}
use Rattle.host_driver.specs.Beginning.{IsBegun, IsUnbegun}
use Rattle.host_driver.specs.Running.{running, IsUnreadNext}
use Rattle.host_driver.specs.Taking.{supply, taking, IsTaken, IsUntaken, IsUnreadAt}
use Rattle.host_driver.proofs.DriveFiles.{place-at}
use Rattle.host_driver.proofs.LoopLemmas.{Run-begun, Run-next, Run-end, Next-named, Next-fits, Next-serving, Next-own, Next-aimed}
use Rattle.host_driver.proofs.LoopBreaks.{Breaks-step, Breaks-line, Breaks-settling, Breaks-counted}
use Rattle.host_driver.proofs.running.run.Goals as goal

pub loop-at-init : goal.loop-at-init
loop-at-init g c = record {
  so_far = Run-begun _ _ c.requires.serving;
  within = omega arith;
  same = refl;
  shown_later = omega arith;
  entered = refl;
  path = refl;
  files = refl;
  dir_same = refl;
  read_later = omega arith;
}

pub take_order-requires-clause-own : goal.take_order-requires-clause-own
take_order-requires-clause-own g c =
    Next-own c.args.product.now c.args.plan.now c.loop-at.at c.index-plan-at.result (place-at c.args.plan.now c.loop-at.at c.index-plan-at.result c.loop-at-test.true c.index-plan-at.is) c.requires.plan

pub take_order-requires-clause-named : goal.take_order-requires-clause-named
take_order-requires-clause-named g c =
    let told = g.P.Port.told in
    let text = g.S.Sink.text in
    let r = running (supply (g.D.ProductDir.files c.args.dir.now) c.args.product.now c.args.most) c.args.plan.now in
    let o = c.index-plan-at.result in
    let n = c.loop-at.at in
    let i = c.loop-at.invariant in
    let at = place-at c.args.plan.now n o c.loop-at-test.true c.index-plan-at.is in
    let a = seen (told c.args.ready) (text c.args.shown.now) in
    let b = seen (told c.loop-at.ready) (text c.loop-at.shown) in
    Next-named r n o a b at c.requires.fit i.so_far

pub take_order-requires-clause-serving : goal.take_order-requires-clause-serving
take_order-requires-clause-serving g c =
    let told = g.P.Port.told in
    let text = g.S.Sink.text in
    let r = running (supply (g.D.ProductDir.files c.args.dir.now) c.args.product.now c.args.most) c.args.plan.now in
    let o = c.index-plan-at.result in
    let n = c.loop-at.at in
    let i = c.loop-at.invariant in
    let at = place-at c.args.plan.now n o c.loop-at-test.true c.index-plan-at.is in
    let a = seen (told c.args.ready) (text c.args.shown.now) in
    let b = seen (told c.loop-at.ready) (text c.loop-at.shown) in
    Next-serving r n o a b at i.so_far

pub take_order-requires-clause-fits : goal.take_order-requires-clause-fits
take_order-requires-clause-fits g c =
    let told = g.P.Port.told in
    let text = g.S.Sink.text in
    let r = running (supply (g.D.ProductDir.files c.args.dir.now) c.args.product.now c.args.most) c.args.plan.now in
    let o = c.index-plan-at.result in
    let n = c.loop-at.at in
    let i = c.loop-at.invariant in
    let at = place-at c.args.plan.now n o c.loop-at-test.true c.index-plan-at.is in
    let a = seen (told c.args.ready) (text c.args.shown.now) in
    let b = seen (told c.loop-at.ready) (text c.loop-at.shown) in
    Next-fits r n o a b at c.requires.fit i.so_far

pub returns-in-Err-clause-broken : goal.returns-in-Err-clause-broken
returns-in-Err-clause-broken g c =
    let told = g.P.Port.told in
    let text = g.S.Sink.text in
    let r = running (supply (g.D.ProductDir.files c.args.dir.now) c.args.product.now c.args.most) c.args.plan.now in
    let o = c.index-plan-at.result in
    let n = c.loop-at.at in
    let i = c.loop-at.invariant in
    let at = place-at c.args.plan.now n o c.loop-at-test.true c.index-plan-at.is in
    let a = seen (told c.args.ready) (text c.args.shown.now) in
    let b = seen (told c.loop-at.ready) (text c.loop-at.shown) in
    let faults = g.D.ProductDir.faults in
    let F = IsUnreadAt c.args.product.now o (faults c.loop-at.dir) (faults c.take_order.new.dir) in
    let G = IsUnreadNext r n (faults c.args.dir.now) (faults c.take_order.new.dir) in
    let e = seen (told c.in-Err.link) (text c.take_order.new.shown) in
    let u = subst (λ f. IsUntaken F (taking (supply f c.args.product.now c.args.most) o) b e c.in-Err.error) i.files c.in-Err.ensures.untaken in
    Breaks-step F G r n o a b e c.in-Err.error at i.so_far (λ x w. (o, at, w.0, (let q = w.1 in let l = i.read_later in omega (arith, q, l)))) u

pub returns-in-Err-show_step-clause-broken : goal.returns-in-Err-show_step-clause-broken
returns-in-Err-show_step-clause-broken g c =
    let told = g.P.Port.told in
    let text = g.S.Sink.text in
    let r = running (supply (g.D.ProductDir.files c.args.dir.now) c.args.product.now c.args.most) c.args.plan.now in
    let o = c.index-plan-at.result in
    let n = c.loop-at.at in
    let i = c.loop-at.invariant in
    let at = place-at c.args.plan.now n o c.loop-at-test.true c.index-plan-at.is in
    let a = seen (told c.args.ready) (text c.args.shown.now) in
    let b = seen (told c.loop-at.ready) (text c.loop-at.shown) in
    let m = seen (told c.in-Ok.next) (text c.take_order.new.shown) in
    let t = subst (λ f. IsTaken (taking (supply f c.args.product.now c.args.most) o) b m) i.files c.in-Ok.ensures.taken in
    let e = c.in-Err-show_step.ensures in
    Breaks-counted _ r n _ _ (Breaks-line _ r n o a b m (text c.show_step.new.shown) (told c.in-Err-show_step.link) at i.so_far t e.part e.drops e.sound)

pub settle-requires : goal.settle-requires
settle-requires g c =
    let told = g.P.Port.told in
    let text = g.S.Sink.text in
    let r = running (supply (g.D.ProductDir.files c.args.dir.now) c.args.product.now c.args.most) c.args.plan.now in
    let o = c.index-plan-at.result in
    let n = c.loop-at.at in
    let i = c.loop-at.invariant in
    let at = place-at c.args.plan.now n o c.loop-at-test.true c.index-plan-at.is in
    let a = seen (told c.args.ready) (text c.args.shown.now) in
    let b = seen (told c.loop-at.ready) (text c.loop-at.shown) in
    let m = seen (told c.in-Ok.next) (text c.take_order.new.shown) in
    let t = subst (λ f. IsTaken (taking (supply f c.args.product.now c.args.most) o) b m) i.files c.in-Ok.ensures.taken in
    record { aimed = subst (λ p. (told p).aimed ≡ true) (sym c.in-Ok-show_step.ensures.same) (Next-aimed r n o a b m i.so_far t c.requires.aimed) }

pub returns-in-Err-settle-clause-broken : goal.returns-in-Err-settle-clause-broken
returns-in-Err-settle-clause-broken g c =
    let told = g.P.Port.told in
    let text = g.S.Sink.text in
    let r = running (supply (g.D.ProductDir.files c.args.dir.now) c.args.product.now c.args.most) c.args.plan.now in
    let o = c.index-plan-at.result in
    let n = c.loop-at.at in
    let i = c.loop-at.invariant in
    let at = place-at c.args.plan.now n o c.loop-at-test.true c.index-plan-at.is in
    let a = seen (told c.args.ready) (text c.args.shown.now) in
    let b = seen (told c.loop-at.ready) (text c.loop-at.shown) in
    let m = seen (told c.in-Ok.next) (text c.take_order.new.shown) in
    let t = subst (λ f. IsTaken (taking (supply f c.args.product.now c.args.most) o) b m) i.files c.in-Ok.ensures.taken in
    let e = c.in-Err-settle.ensures in
    let u = subst (λ p. IsUnbegun (told p) (told c.in-Err-settle.link) c.in-Err-settle.error) c.in-Ok-show_step.ensures.same e.unbegun in
    Breaks-counted _ r n _ _ (Breaks-settling _ r n o a b m (text c.show_step.new.shown) (told c.in-Err-settle.link) c.in-Err-settle.error at e.renews c.requires.fit i.so_far t c.in-Ok-show_step.ensures.shown u)

pub loop-at-preserved : goal.loop-at-preserved
loop-at-preserved g c =
    let told = g.P.Port.told in
    let text = g.S.Sink.text in
    let r = running (supply (g.D.ProductDir.files c.args.dir.now) c.args.product.now c.args.most) c.args.plan.now in
    let o = c.index-plan-at.result in
    let n = c.loop-at.at in
    let i = c.loop-at.invariant in
    let at = place-at c.args.plan.now n o c.loop-at-test.true c.index-plan-at.is in
    let a = seen (told c.args.ready) (text c.args.shown.now) in
    let b = seen (told c.loop-at.ready) (text c.loop-at.shown) in
    let m = seen (told c.in-Ok.next) (text c.take_order.new.shown) in
    let t = subst (λ f. IsTaken (taking (supply f c.args.product.now c.args.most) o) b m) i.files c.in-Ok.ensures.taken in
    let w = c.in-Ok.ensures in
    let s = c.in-Ok-show_step.ensures in
    let e = c.in-Ok-settle.ensures in
    record {
      so_far = Run-next r n o a b m (text c.show_step.new.shown) (told c.in-Ok-settle.next) c.requires.serving c.requires.fit c.requires.plan.room at i.so_far t s.shown
          (λ q. ap told (e.stays q ∙ s.same)) (λ q. subst (λ p. IsBegun (told p) (told c.in-Ok-settle.next)) s.same (e.begun q));
      within = (let h = c.loop-at-test.true in omega (arith, h));
      same = e.same ∙ (ap (λ p. g.P.Port.lent p) s.same ∙ (w.same ∙ i.same));
      shown_later = (let x = i.shown_later in let y = w.shown_later in let z = s.cause.later in omega (arith, x, y, z));
      entered = w.entered ∙ i.entered;
      path = w.path ∙ i.path;
      files = w.files ∙ i.files;
      dir_same = w.dir_same ∙ i.dir_same;
      read_later = (let x = i.read_later in let y = w.read_later in omega (arith, x, y));
    }

pub returns-clause-all : goal.returns-clause-all
returns-clause-all g c =
    let told = g.P.Port.told in
    let text = g.S.Sink.text in
    let r = running (supply (g.D.ProductDir.files c.args.dir.now) c.args.product.now c.args.most) c.args.plan.now in
    let i = c.loop-at.invariant in
    Run-end r c.loop-at.at (seen (told c.args.ready) (text c.args.shown.now)) (seen (told c.loop-at.ready) (text c.loop-at.shown)) _
    (let h = i.within in let k = c.loop-at-test.false in omega (arith, h, k)) i.so_far c.hang_up.ensures.drops c.hang_up.ensures.sound
