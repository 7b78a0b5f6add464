use Rattle.std.proofs.Common.{ℕ, ◌-◌, take, subst}
use Rattle.device_session.specs.Framer.{PaysOn}
use Rattle.device_session.proofs.FramerLemmas.{bytes-left}
use Rattle.device_session.proofs.framer.take_payload.Goals as goal

pub returns-in-Bytes-clause-pays : goal.returns-in-Bytes-clause-pays
returns-in-Bytes-clause-pays c =
    λ count e.
    let n = c.feed-n.result.0 in
    let left = bytes-left count n c.args.deframer.now c.feed-n.new.self c.feed-n.result.1 c.args.piece.now c.in-Bytes.is e c.feed-n.ensures.feeds in
    subst (λ (m : ℕ). PaysOn m c.args.buffer.now.items (take n c.args.piece.now) c.take_bytes.result c.take_bytes.new.deframer c.take_bytes.new.buffer.items)
    left.1 (c.take_bytes.ensures.pays (count - n) left.0)
