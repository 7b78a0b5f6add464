use Rattle.std.proofs.Common.{length}
use Rattle.link_answers.proofs.CallerLemmas.{FreeFor-loaded}
use Rattle.link_answers.proofs.caller.download.Goals as goal

pub returns-in-Okay-clause-free : goal.returns-in-Okay-clause-free
returns-in-Okay-clause-free g c = λ spare free.
    FreeFor-loaded (length c.args.bytes.now) _ _ _ c.args.bytes.now _ _ _ spare free c.in-Load.ensures.concluded c.in-Ok.ensures.wrote c.in-Okay.ensures.finished.told
