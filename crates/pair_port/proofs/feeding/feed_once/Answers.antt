use Rattle.std.proofs.Common.{take, sym, subst}
use Rattle.dev_model.specs.declared.device.Dev.{Dev}
use Rattle.pair_port.proofs.DeviceLemmas.{Picked, picked, takes-picked, ready-picked}
use Rattle.pair_port.proofs.feeding.feed_once.Goals as goal

pub choose-requires : goal.choose-requires
choose-requires g c =
    let told = g.K.Disk.told in
    let bytes = take c.feed-n.result c.args.piece.now in
    subst (λ v. (dev : Dev) × Picked told v c.feed-n.new.self bytes dev) (sym c.of-before.ensures)
    (picked told c.args.session.now c.feed-n.new.self bytes (c.feed-n.ensures.feeds c.if-n-gt0.true))

pub returns-then-n-gt0-clause-takes : goal.returns-then-n-gt0-clause-takes
returns-then-n-gt0-clause-takes g c = λ some.
    let told = g.K.Disk.told in
    let new = c.feed-n.new.self in
    let dev = c.choose.result.device in
    let bytes = take c.feed-n.result c.args.piece.now in
    let has = subst (λ v. Picked told v new bytes dev) c.of-before.ensures c.choose.ensures in
    takes-picked told g.K.Disk.lent g.met.K.Disk.agrees c.args.session.now new c.args.left.now.device dev bytes c.requires.ready c.requires.runs (c.feed-n.ensures.feeds some) c.feed-n.ensures.kept has

pub returns-then-n-gt0-clause-ready : goal.returns-then-n-gt0-clause-ready
returns-then-n-gt0-clause-ready g c =
    let told = g.K.Disk.told in
    let new = c.feed-n.new.self in
    let dev = c.choose.result.device in
    let bytes = take c.feed-n.result c.args.piece.now in
    let has = subst (λ v. Picked told v new bytes dev) c.of-before.ensures c.choose.ensures in
    ready-picked told g.K.Disk.lent g.met.K.Disk.agrees c.args.session.now new c.args.left.now.device dev bytes c.requires.ready c.requires.runs (c.feed-n.ensures.feeds c.if-n-gt0.true) c.feed-n.ensures.kept has
