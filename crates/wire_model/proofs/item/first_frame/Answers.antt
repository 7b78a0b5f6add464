use Rattle.std.proofs.Common.{arith}
use Rattle.wire_model.proofs.ItemLemmas.{long-item, part-item, whole-item}
use Rattle.wire_model.proofs.item.first_frame.Goals as goal

pub returns-then-most-announced : goal.returns-then-most-announced
returns-then-most-announced c =
    let cut = c.in_ok-head.ensures.cases in
    long-item c.args.most c.from_be_bytes-announced.result c.args.bytes.now c.in_ok-head.head.now c.in_ok-head.behind.now
    (omega (arith, cut.2)) cut.0 cut.1 c.from_be_bytes-announced.ensures c.if-most-announced.true

pub returns-then-behind-announced : goal.returns-then-behind-announced
returns-then-behind-announced c =
    let cut = c.in_ok-head.ensures.cases in
    part-item c.args.most c.from_be_bytes-announced.result c.args.bytes.now c.in_ok-head.head.now c.in_ok-head.behind.now
    (omega (arith, cut.2)) cut.0 c.from_be_bytes-announced.ensures c.if-most-announced.false c.if-behind-announced.true

pub returns : goal.returns
returns c =
    let cut = c.in_ok-head.ensures.cases in
    whole-item c.args.most c.from_be_bytes-announced.result c.args.bytes.now c.in_ok-head.head.now c.in_ok-head.behind.now c.split_at.result.0.now c.split_at.result.1.now
    (omega (arith, cut.2)) cut.0 cut.1 c.from_be_bytes-announced.ensures c.if-most-announced.false c.if-behind-announced.false c.split_at.ensures.front c.split_at.ensures.back
