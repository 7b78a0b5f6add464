use Rattle.std.proofs.Common.{◌-◌, length, sym, ap, ◌∙◌}
use Rattle.wire_model.specs.Connections.{item_of, served_of}
use Rattle.wire_model.proofs.ServeLemmas.{serve-none, serve-shut, serve-open}
use Rattle.wire_model.proofs.serves.settled.Goals as goal

pub returns-in_default : goal.returns-in_default
returns-in_default c =
    let n = length c.args.bytes.now in
    sym (serve-none (n - c.loop-i.i) n c.loop-i.rest.now c.loop-i.now (sym c.in_default.ensures)) ∙ c.loop-i.invariant

pub returns-then-now : goal.returns-then-now
returns-then-now c =
    let n = length c.args.bytes.now in
    sym (serve-shut n c.loop-i.i n c.loop-i.rest.now (item_of c.in-Some.item, c.in-Some.behind.now) c.loop-i.now c.in_ok-now.now c.loop-i-test.true
    (sym c.in-Some.ensures) c.in_ok-now.ensures c.if-now.true)
    ∙ c.loop-i.invariant

pub loop-i-preserved : goal.loop-i-preserved
loop-i-preserved c =
    let n = length c.args.bytes.now in
    sym (ap served_of (serve-open n c.loop-i.i n c.loop-i.rest.now (item_of c.in-Some.item, c.in-Some.behind.now) c.loop-i.now c.in_ok-now.now c.loop-i-test.true
    (sym c.in-Some.ensures) c.in_ok-now.ensures c.if-now.false))
    ∙ c.loop-i.invariant
