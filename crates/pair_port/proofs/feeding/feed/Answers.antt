use Rattle.std.proofs.Common.{◌<◌, arith}
use Rattle.pair_port.proofs.TakesLemmas.{fed-slice}
use Rattle.pair_port.proofs.feeding.feed.Goals as goal

pub loop-at-preserved : goal.loop-at-preserved
loop-at-preserved g c =
    let n = c.feed_once-n.result in
    let new = c.feed_once-n.new in
    let e = c.feed_once-n.ensures in
    let some : 0 < n = omega (arith, c.if-n-eq0.false) in
    fed-slice g.K.Disk.told g.K.Disk.lent c.args.piece.now c.loop-at.at n c.args.session.now c.loop-at.session new.session c.args.left.now.device c.loop-at.left.device new.left.device c.loop-at.invariant some e.within (e.takes some) e.ready e.runs e.same
