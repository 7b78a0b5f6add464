use Rattle.std.proofs.Common.{◌<◌, take, drop}
use Rattle.device_session.specs.Living.{wire_of}
use Rattle.device_session.proofs.TalkLemmas.{takes-some, some-of, talks-fed, on-then, out-then}
use Rattle.device_session.proofs.HaltLemmas.{fed-halts}
use Rattle.device_session.proofs.KeptLemmas.{kept-given, kept-fed}
use Rattle.device_session.proofs.talk.feed_on.Goals as goal

pub returns-clause-kept : goal.returns-clause-kept
returns-clause-kept g c =
    let told = g.K.Disk.told in
    let old = c.args.session.now in
    let mid = c.feed-n.new.self in
    let n = c.feed-n.result in
    let some : 0 < n = takes-some n (wire_of old) c.args.piece.now c.requires.running c.requires.given c.requires.some c.feed-n.ensures.full.0 in
    kept-given told g.K.Disk.lent old mid c.give-given.new.session c.give-given.ensures.same
    (kept-fed told g.K.Disk.lent old mid c.feed-n.ensures.kept (fed-halts told old mid (take n c.args.piece.now) c.requires.runs (c.feed-n.ensures.feeds some)))

pub returns-clause-talks : goal.returns-clause-talks
returns-clause-talks g c given =
    let told = g.K.Disk.told in
    let old = c.args.session.now in
    let mid = c.feed-n.new.self in
    let piece = c.args.piece.now in
    let n = c.feed-n.result in
    let before = g.G.Gate.told c.args.gate.now in
    let some : 0 < n = takes-some n (wire_of old) piece c.requires.running c.requires.given c.requires.some c.feed-n.ensures.full.0 in
    let fed = some-of told g.K.Disk.lent old mid (take n piece) (c.feed-n.ensures.feeds some) c.feed-n.ensures.kept (c.feed-n.ensures.locked some) in
    on-then told old mid c.give-given.new.session piece (drop n piece) (drop n piece) before before (g.G.Gate.told c.give-given.new.gate)
    (talks-fed told g.K.Disk.lent g.met.K.Disk.agrees old mid piece n before c.feed-n.ensures.within fed) (c.give-given.ensures.talks given (drop n piece))

pub returns-clause-ends : goal.returns-clause-ends
returns-clause-ends g c given =
    let told = g.K.Disk.told in
    let old = c.args.session.now in
    let mid = c.feed-n.new.self in
    let piece = c.args.piece.now in
    let n = c.feed-n.result in
    let before = g.G.Gate.told c.args.gate.now in
    let some : 0 < n = takes-some n (wire_of old) piece c.requires.running c.requires.given c.requires.some c.feed-n.ensures.full.0 in
    let fed = some-of told g.K.Disk.lent old mid (take n piece) (c.feed-n.ensures.feeds some) c.feed-n.ensures.kept (c.feed-n.ensures.locked some) in
    out-then told old mid c.give-given.new.session piece (drop n piece) before before (g.G.Gate.told c.give-given.new.gate)
    (talks-fed told g.K.Disk.lent g.met.K.Disk.agrees old mid piece n before c.feed-n.ensures.within fed) (c.give-given.ensures.ends given (drop n piece))
