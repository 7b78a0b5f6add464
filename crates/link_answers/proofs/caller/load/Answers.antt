use Rattle.std.proofs.Common.{◌+◌, ◌^◌, length}
use Rattle.wire_told.proofs.ExchangeLemmas.{Free-for}
use Rattle.link_answers.proofs.CallerLemmas.{first-free, second-free, last-free}
use Rattle.link_answers.proofs.caller.load.Goals as goal

pub ask-requires-2-clause-free : goal.ask-requires-2-clause-free
ask-requires-2-clause-free g c = Free-for (2 ^ 60 + 200000) _ (first-free _ _ _ c.in-Ok.ensures.opened.state c.in_ok-ready.ensures.free)

pub download-requires-clause-free : goal.download-requires-clause-free
download-requires-clause-free g c =
    Free-for (2 ^ 60 + 100000) _ (second-free _ _ (first-free _ _ _ c.in-Ok.ensures.opened.state c.in_ok-ready.ensures.free) c.in_ok-ready-2.ensures.free)

pub returns-clause-free : goal.returns-clause-free
returns-clause-free g c =
    last-free (length c.args.bytes.now) _ _ c.requires.small
    (second-free _ _ (first-free _ _ _ c.in-Ok.ensures.opened.state c.in_ok-ready.ensures.free) c.in_ok-ready-2.ensures.free) c.in_ok-next.ensures.free
