use Rattle.std.proofs.Common.{◌++◌, codes, decimal, sym, ◌∙◌, subst}
use Rattle.fb_frame.specs.Sinks.{GrewPart}
use Rattle.fb_frame.proofs.SinkLemmas.{GrewPart-before, GrewPart-after}
use Rattle.device_top.specs.Endings.{served_line}
use Rattle.device_top.proofs.ReportLemmas.{on-err}
use Rattle.device_top.proofs.report.put_served.Goals as goal

pub returns-in_err-put-clause-part : goal.returns-in_err-put-clause-part
returns-in_err-put-clause-part g c =
    let text = g.S.Sink.text in
    on-err c.from_residual.result (GrewPart (text c.args.out.now) (text c.put.new.self) (served_line c.args.count))
    (GrewPart-before (text c.args.out.now) (text c.put.new.self) (codes "served ") (decimal c.args.count ++ codes "\n") c.in_err-put.ensures.part)

pub returns-in_err-put-2-clause-part : goal.returns-in_err-put-2-clause-part
returns-in_err-put-2-clause-part g c =
    let text = g.S.Sink.text in
    let first = text c.args.out.now in
    let mid = text c.put.new.self in
    let last = text c.put-2.new.self in
    on-err c.from_residual-in_err-put-2.result (GrewPart first last (served_line c.args.count))
    (GrewPart-after first mid last (codes "served ") (decimal c.args.count ++ codes "\n") c.in_ok-put.ensures.ok
    (GrewPart-before mid last (decimal c.args.count) (codes "\n")
    (subst (λ digits. GrewPart mid last digits) (c.as_bytes.ensures.value ∙ c.format.ensures.text) c.in_err-put-2.ensures.part)))
