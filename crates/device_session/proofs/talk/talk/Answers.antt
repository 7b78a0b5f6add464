use Rattle.std.proofs.Common.{rules, ◌∙◌, [], refl}
use Rattle.std.specs.Prelude.{IsFalse}
use Rattle.device_session.proofs.TalkLemmas.{up-then}
use Rattle.device_session.proofs.KeptLemmas.{kept-then}
use Rattle.device_session.proofs.ServeLemmas.{calm-then}
use Rattle.device_session.proofs.talk.talk.Goals as goal

pub loop-session-preserved : goal.loop-session-preserved
loop-session-preserved g c =
    let told = g.K.Disk.told in
    let old = c.args.session.now in
    let mid = c.loop-session.session in
    let new = c.exchange.new.session in
    let first = g.G.Gate.told c.args.gate.now in
    let before = g.G.Gate.told c.loop-session.gate in
    let after = g.G.Gate.told c.exchange.new.gate in
    let running : IsFalse mid.closed = search rules in
    let more = c.if-not-exchange.ensures.talks refl in
    record {
      up = c.if-not-exchange.ensures.up refl;
      talks = record {
        rest = more.rest;
        done = more.done;
        talks = up-then told old mid new [] more.rest first before after running c.loop-session.invariant.talks more.talks;
      };
      given = c.if-not-exchange.ensures.given refl;
      kept = kept-then told g.K.Disk.lent old mid new running c.loop-session.invariant.kept c.exchange.ensures.kept;
      calm = calm-then first before after c.loop-session.invariant.calm c.exchange.ensures.calm;
      lent = c.exchange.ensures.lent ∙ c.loop-session.invariant.lent;
    }
