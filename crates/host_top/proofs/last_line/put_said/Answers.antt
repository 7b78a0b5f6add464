use Rattle.std.proofs.Common.{◌++◌, codes, decimal, OnOk, OnErr, sym, subst}
use Rattle.fb_frame.specs.Sinks.{Grew, GrewPart}
use Rattle.host_top.specs.LineParts.{said_of, verdict_in}
use Rattle.host_top.proofs.last_line.put_said.Goals as goal

pub returns-in-Unmet-clause-put : goal.returns-in-Unmet-clause-put
returns-in-Unmet-clause-put g c =
    subst (λ v. OnOk c.put_unmet.result (Grew (g.S.Sink.text c.args.out.now) (g.S.Sink.text c.put_unmet.new.out) (said_of (verdict_in v))))
    (sym c.in-Unmet.is) c.put_unmet.ensures.put

pub returns-in-Unmet-clause-part : goal.returns-in-Unmet-clause-part
returns-in-Unmet-clause-part g c =
    subst (λ v. OnErr c.put_unmet.result (GrewPart (g.S.Sink.text c.args.out.now) (g.S.Sink.text c.put_unmet.new.out) (said_of (verdict_in v))))
    (sym c.in-Unmet.is) c.put_unmet.ensures.part

pub returns-in-NoPlan-clause-put : goal.returns-in-NoPlan-clause-put
returns-in-NoPlan-clause-put g c =
    subst (λ v. OnOk c.put_line.result (Grew (g.S.Sink.text c.args.out.now) (g.S.Sink.text c.put_line.new.out) (said_of (verdict_in v))))
    (sym c.in-NoPlan.is)
    (subst (λ t. OnOk c.put_line.result (Grew (g.S.Sink.text c.args.out.now) (g.S.Sink.text c.put_line.new.out) (codes "plan line " ++ decimal c.in-NoPlan.line ++ codes " " ++ t)))
    c.kind_text.ensures c.put_line.ensures.put)

pub returns-in-NoPlan-clause-part : goal.returns-in-NoPlan-clause-part
returns-in-NoPlan-clause-part g c =
    subst (λ v. OnErr c.put_line.result (GrewPart (g.S.Sink.text c.args.out.now) (g.S.Sink.text c.put_line.new.out) (said_of (verdict_in v))))
    (sym c.in-NoPlan.is)
    (subst (λ t. OnErr c.put_line.result (GrewPart (g.S.Sink.text c.args.out.now) (g.S.Sink.text c.put_line.new.out) (codes "plan line " ++ decimal c.in-NoPlan.line ++ codes " " ++ t)))
    c.kind_text.ensures c.put_line.ensures.part)
