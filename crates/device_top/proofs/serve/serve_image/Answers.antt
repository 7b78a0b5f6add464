use Rattle.std.proofs.Common.{◌≡◌, Some, rules, sym, ap, ◌∙◌, subst}
use Rattle.device_jobs.specs.Working.{output}
use Rattle.device_words.specs.declared.request.DeviceWords.TheVariants.{Serve}
use Rattle.device_top.specs.Working.{IsCall, sides}
use Rattle.device_top.proofs.ServeCalls.{serve-call}
use Rattle.device_top.proofs.serve.serve_image.Goals as goal

pub returns-clause-call : goal.returns-clause-call
returns-clause-call g c =
    let told = g.K.Disk.told in
    let gate = g.G.Gate.told in
    let p = output (g.S.Sink.text c.args.out.now) (g.S.Sink.faults c.args.out.now) in
    let q = output (g.S.Sink.text c.report_serving.new.out) (g.S.Sink.faults c.report_serving.new.out) in
    let back : c.serve_file-served.result.0.now ≡ c.disk-1.given.0 = search rules in
    subst (λ disk. IsCall (Some (Serve c.args.file.now c.args.port c.args.connections)) c.report_serving.result (sides (told c.args.disk.now) (gate c.args.gate.now) p) (sides (told disk) (gate c.serve_file-served.new.gate) q)) back
    (serve-call c.args.file.now c.args.port c.args.connections c.laws.ensures.stands_by_parts c.report_serving.result (told c.args.disk.now) (told c.serve_file-served.result.0.now) p q c.report_serving.ensures.later
    c.serve_file-served.result.1 (gate c.args.gate.now) (gate c.serve_file-served.new.gate) c.serve_file-served.ensures.served c.report_serving.ensures.ends)

pub returns-clause-same : goal.returns-clause-same
returns-clause-same g c =
    let back : c.serve_file-served.result.0.now ≡ c.disk-1.given.0 = search rules in
    ap g.K.Disk.lent (sym back) ∙ ap (λ l. l.1) c.serve_file-served.ensures.same
