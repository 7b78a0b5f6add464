use Rattle.std.proofs.Common.{◌≡◌, inl, inr, refl, arith}
use Rattle.fb_link.specs.Targets.{place_of}
use Rattle.host_top.specs.LineParts.{verdict_in}
use Rattle.host_top.proofs.AimLemmas.{aimed-sound}
use Rattle.host_top.proofs.CallLemmas.{questioned, lasts-asked, lasts-astray}
use Rattle.host_top.proofs.asking.get_var.Goals as goal

pub ask_port-requires-clause-sound : goal.ask_port-requires-clause-sound
ask_port-requires-clause-sound g c = aimed-sound (g.P.Port.told c.args.port.now) (g.P.Port.told c.aim.new.self) (place_of c.args.target.now) c.in-Ok.ensures.aimed

pub returns-in-Ok-clause-ends : goal.returns-in-Ok-clause-ends
returns-in-Ok-clause-ends g c f =
    let told = g.P.Port.told in
    let text = g.S.Sink.text in
    let faults = g.S.Sink.faults in
    let out = c.ask_port.new.out in
    inr
    (inr
    (questioned (place_of c.args.target.now) c.args.name.now (told c.args.port.now) (told c.aim.new.self) (told c.ask_port.new.port) f (text c.args.out.now) (text out) (faults c.args.out.now) (faults out) c.ask_port.result
    c.in-Ok.ensures.aimed c.aim.ensures.turns (c.ask_port.ensures.asked f)))

pub returns-in-Ok-clause-lasts : goal.returns-in-Ok-clause-lasts
returns-in-Ok-clause-lasts g c f =
    let told = g.P.Port.told in
    let text = g.S.Sink.text in
    let faults = g.S.Sink.faults in
    let out = c.ask_port.new.out in
    lasts-asked (place_of c.args.target.now) c.args.name.now (told c.args.port.now) (told c.aim.new.self) (told c.ask_port.new.port) f (text c.args.out.now) (text out) (faults c.args.out.now) (faults out) c.ask_port.result
    c.in-Ok.ensures.aimed c.aim.ensures.turns (c.ask_port.ensures.asked f)

pub returns-in-Err-clause-lasts : goal.returns-in-Err-clause-lasts
returns-in-Err-clause-lasts g c f =
    let told = g.P.Port.told in
    let text = g.S.Sink.text in
    let faults = g.S.Sink.faults in
    let out = c.end.new.out in
    lasts-astray (told c.args.port.now) (told c.aim.new.self) f f (text c.args.out.now) (text out) (faults c.args.out.now) (faults out) (verdict_in c.aim_verdict.result) c.end.result refl refl (omega arith)
    c.aim.ensures.turns c.end.ensures.shows c.end.ensures.later
