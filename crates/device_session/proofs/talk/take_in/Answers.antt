use Rattle.std.proofs.Common.{drop}
use Rattle.device_session.proofs.TalkLemmas.{said-closed}
use Rattle.device_session.proofs.talk.take_in.Goals as goal

pub returns-else-not-closed-clause-talks : goal.returns-else-not-closed-clause-talks
returns-else-not-closed-clause-talks g c e = record {
  rest = drop c.loop-at.at c.args.piece.now;
  done = λ running. absurd (said-closed c.closed.result c.loop-at.session.closed c.closed.ensures.closed c.if-not-closed.false running);
  talks = c.loop-at.invariant.talks;
}
