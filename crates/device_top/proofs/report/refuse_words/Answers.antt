use Rattle.std.proofs.Common.{sym, subst}
use Rattle.device_jobs.specs.Working.{Ends, output}
use Rattle.device_top.specs.Working.{words_status, words_line}
use Rattle.device_top.proofs.report.refuse_words.Goals as goal

pub returns-in-Usage-clause-ends : goal.returns-in-Usage-clause-ends
returns-in-Usage-clause-ends g c =
    subst (λ e. Ends (words_status e) (words_line e) c.end.result (output (g.S.Sink.text c.args.out.now) (g.S.Sink.faults c.args.out.now)) (output (g.S.Sink.text c.end.new.out) (g.S.Sink.faults c.end.new.out)))
    (sym c.in-Usage.is) c.end.ensures.ends

pub returns-in-Memory-clause-ends : goal.returns-in-Memory-clause-ends
returns-in-Memory-clause-ends g c =
    let out = c.end-in-Memory.new.out in
    subst (λ e. Ends (words_status e) (words_line e) c.end-in-Memory.result (output (g.S.Sink.text c.args.out.now) (g.S.Sink.faults c.args.out.now)) (output (g.S.Sink.text out) (g.S.Sink.faults out)))
    (sym c.in-Memory.is) c.end-in-Memory.ensures.ends
