use Rattle.std.proofs.Common.{arith}
use Rattle.std.proofs.lemmas.Bool.Decides.{nat_tests}
use Rattle.sparse_image.proofs.RunLemmas.{zeros-run}
use Rattle.sparse_image.proofs.runs.Padded.next_run.Goals as goal

pub returns-then-length-gt0-clause-gives : goal.returns-then-length-gt0-clause-gives
returns-then-length-gt0-clause-gives c =
    let s = c.args.self.now in
    zeros-run s.at s.zeros s.bytes.now (grind (arith, nat_tests)) c.if-length-gt0.true
