use Rattle.std.proofs.Common.{◌<◌, ◌-◌, arith, ◌∙◌}
use Rattle.std.specs.Prelude.{IsTrue}
use Rattle.dev_model.specs.Partitions.{is_fastboot}
use Rattle.device_engine.specs.Running.{held_of}
use Rattle.device_session.specs.Gates.{Accepts}
use Rattle.device_session.proofs.ServeLemmas.{follows-then, halts-then, told-follows, both-served, both-counted, calm-then}
use Rattle.device_session.proofs.serving.serve.Goals as goal

pub loop-end-preserved : goal.loop-end-preserved
loop-end-preserved g c =
    let told = g.K.Disk.told in
    let lent = g.K.Disk.lent in
    let old = held_of c.args.device in
    let now = held_of c.loop-end.device in
    let next = c.serve_one-next.result.0 in
    let first = g.G.Gate.told c.args.gate.now in
    let before = g.G.Gate.told c.loop-end.gate in
    let accepted = g.G.Gate.told c.accept.new.self in
    let after = g.G.Gate.told c.serve_one-next.new.gate in
    let runs : IsTrue (is_fastboot now.device.mode) = c.stop.ensures.goes c.in_default.is in
    let more : 0 < c.args.connections - c.loop-end.count = c.stop.ensures.more c.in_default.is in
    let accepts : Accepts before accepted = c.in-Ok-true.ensures.accepts c.in-Ok-true.field-0-test in
    let serves = c.serve_one-next.ensures.serves before.connections accepts.connections in
    let has = told-follows told lent g.met.K.Disk.agrees old c.loop-end.device c.loop-end.invariant.follows in
    record {
      within = omega (arith, more, c.loop-end.invariant.within);
      follows = follows-then told lent old c.loop-end.device next runs c.loop-end.invariant.follows c.serve_one-next.ensures.follows;
      halts = halts-then told lent old c.loop-end.device next runs c.loop-end.invariant.follows c.serve_one-next.ensures.halts;
      room = c.serve_one-next.ensures.room ∙ c.loop-end.invariant.room;
      served = both-served told old now (held_of next) first.connections before.connections after.connections has c.loop-end.invariant.served serves;
      counted = both-counted told now (held_of next) c.loop-end.count first.connections before.connections after.connections c.loop-end.invariant.counted serves;
      calm = calm-then first before after c.loop-end.invariant.calm
          (calm-then before accepted after (record { kept = accepts.kept; calm = accepts.calm }) c.serve_one-next.ensures.calm);
      lent = c.serve_one-next.ensures.lent ∙ (c.accept.ensures.same ∙ c.loop-end.invariant.lent);
    }
