use Rattle.std.proofs.Common.{Option, sym, ap, subst, ◌∙◌}
use Rattle.fb_frame.specs.Told.{Both}
use Rattle.dev_store.specs.Held.{Held}
use Rattle.device_engine.specs.Running.{held_of}
use Rattle.device_session.specs.Gates.{Connections}
use Rattle.device_session.specs.Serving.{ServesNext, IsHaltedBy}
use Rattle.device_session.proofs.StillLemmas.{whole-in}
use Rattle.device_session.proofs.ServeLemmas.{one-served}
use Rattle.device_session.proofs.serving.serve_one.Goals as goal

pub returns-clause-serves : goal.returns-clause-serves
returns-clause-serves g c before accepted =
    let told = g.K.Disk.told in
    let held = held_of c.args.device in
    let new = held_of c.finish.result.0 in
    subst (λ (o : Option Connections). Both (ServesNext told held new) before o) (sym c.hang_up.ensures.hangs_up.connections)
    (one-served told c.start-session.result c.talk.new.session held new (g.G.Gate.told c.args.gate.now) (g.G.Gate.told c.talk.new.gate) c.start-session.ensures.held
    (whole-in told held held.device.mode c.requires.fastboot c.requires.in_order) c.requires.fastboot c.start-session.ensures.fresh
    (c.talk.ensures.ends) c.finish.ensures.held before accepted)

pub returns-clause-halts : goal.returns-clause-halts
returns-clause-halts g c f e =
    let told = g.K.Disk.told in
    let live = c.start-session.result in
    let end = c.talk.new.session in
    let held = c.finish.ensures.held in
    subst (λ (k : Held _). IsHaltedBy told k.disk (held_of c.finish.result.0)) c.start-session.ensures.held
    (subst (λ (k : Held _). IsHaltedBy told live.held.disk k) (sym held) (c.talk.ensures.kept.halts (ap (λ (k : Held _). k.device.mode) (sym held) ∙ e)))
