use Rattle.std.proofs.Common.{map, string_bytes, Err, sym, ap, ◌∙◌, subst}
use Rattle.device_jobs.specs.Working.{output}
use Rattle.device_words.specs.Words.{device_words}
use Rattle.device_top.specs.Working.{IsCall, sides}
use Rattle.device_top.proofs.WordsCalls.{words-call}
use Rattle.device_top.proofs.device.run.Goals as goal

pub returns-in-Ok-clause-call : goal.returns-in-Ok-clause-call
returns-in-Ok-clause-call g c =
    let told = g.K.Disk.told in
    let gate = g.G.Gate.told in
    let text = g.S.Sink.text in
    let faults = g.S.Sink.faults in
    let n = c.do_asked.new in
    subst
    (λ asked. IsCall asked c.do_asked.result (sides (told c.args.disk.now) (gate c.args.gate.now) (output (text c.args.out.now) (faults c.args.out.now)))
    (sides (told n.disk) (gate n.gate) (output (text n.out) (faults n.out))))
    (sym c.in-Ok.ensures.asked) c.do_asked.ensures.call

pub returns-in-Err-clause-call : goal.returns-in-Err-clause-call
returns-in-Err-clause-call g c =
    let text = g.S.Sink.text in
    let faults = g.S.Sink.faults in
    let out = c.refuse_words.new.out in
    words-call c.laws.ensures.stands_by_parts (device_words (map string_bytes c.args.words.now)) c.in-Err.error c.refuse_words.result (g.K.Disk.told c.args.disk.now) (g.G.Gate.told c.args.gate.now)
    (output (text c.args.out.now) (faults c.args.out.now)) (output (text out) (faults out)) (λ e. c.device_words.ensures.usage (c.in-Err.is ∙ ap Err e)) c.refuse_words.ensures.ends c.refuse_words.ensures.later
