use Rattle.fb_link.specs.Targets.{place_of}
use Rattle.host_driver.specs.Jobs.{folder, order}
use Rattle.host_top.specs.LineParts.{verdict_in}
use Rattle.host_top.proofs.AimLemmas.{aimed-sound}
use Rattle.host_top.proofs.CallLemmas.{unread-call, unaimed, unaimed-call, led-call, lasts-unused, lasts-astray, lasts-led}
use Rattle.host_top.proofs.installing.flash_all.Goals as goal

pub returns-in-Err-clause-ends : goal.returns-in-Err-clause-ends
returns-in-Err-clause-ends g c =
    let D = g.D.ProductDir in
    let told = g.P.Port.told in
    let text = g.S.Sink.text in
    let faults = g.S.Sink.faults in
    let f = folder (D.told_path c.args.dir.now) (D.files c.args.dir.now) (D.entered c.args.dir.now) (D.faults c.args.dir.now) in
    let h = folder (D.told_path c.open.new.dir) (D.files c.open.new.dir) (D.entered c.open.new.dir) (D.faults c.open.new.dir) in
    unread-call (place_of c.args.target.now) c.args.path.now c.args.options.now (told c.args.port.now) f h (text c.args.out.now) (text c.end.new.out) (faults c.args.out.now) (faults c.end.new.out) c.end.result
    c.in-Err.error (verdict_in c.unread_verdict.result) c.in-Err.ensures.why c.unread_verdict.ensures c.end.ensures.shows c.end.ensures.unput

pub returns-in-Err-clause-lasts : goal.returns-in-Err-clause-lasts
returns-in-Err-clause-lasts g c =
    let D = g.D.ProductDir in
    let told = g.P.Port.told in
    let text = g.S.Sink.text in
    let faults = g.S.Sink.faults in
    let f = folder (D.told_path c.args.dir.now) (D.files c.args.dir.now) (D.entered c.args.dir.now) (D.faults c.args.dir.now) in
    let h = folder (D.told_path c.open.new.dir) (D.files c.open.new.dir) (D.entered c.open.new.dir) (D.faults c.open.new.dir) in
    lasts-unused (told c.args.port.now) f h (text c.args.out.now) (text c.end.new.out) (faults c.args.out.now) (faults c.end.new.out) (verdict_in c.unread_verdict.result) c.end.result
    c.open.ensures.path c.open.ensures.files c.open.ensures.later c.end.ensures.shows c.end.ensures.later

pub install-requires-clause-sound : goal.install-requires-clause-sound
install-requires-clause-sound g c = aimed-sound (g.P.Port.told c.args.port.now) (g.P.Port.told c.aim.new.self) (place_of c.args.target.now) c.in-Ok-aim.ensures.aimed

pub returns-in-Ok-aim-clause-ends : goal.returns-in-Ok-aim-clause-ends
returns-in-Ok-aim-clause-ends g c =
    let D = g.D.ProductDir in
    let told = g.P.Port.told in
    let text = g.S.Sink.text in
    let faults = g.S.Sink.faults in
    let f = folder (D.told_path c.args.dir.now) (D.files c.args.dir.now) (D.entered c.args.dir.now) (D.faults c.args.dir.now) in
    let h = folder (D.told_path c.open.new.dir) (D.files c.open.new.dir) (D.entered c.open.new.dir) (D.faults c.open.new.dir) in
    let k = folder (D.told_path c.install.new.dir) (D.files c.install.new.dir) (D.entered c.install.new.dir) (D.faults c.install.new.dir) in
    led-call (place_of c.args.target.now) c.args.path.now c.in-Ok.product c.args.options.now (told c.args.port.now) (told c.aim.new.self) (told c.install.new.port) f h k
    (text c.args.out.now) (text c.install.new.out) (faults c.args.out.now) (faults c.install.new.out) c.install.result
    c.in-Ok.ensures.entered c.in-Ok.ensures.product c.open.ensures.files c.open.ensures.later c.in-Ok-aim.ensures.aimed c.aim.ensures.turns c.install.ensures.run

pub returns-in-Ok-aim-clause-lasts : goal.returns-in-Ok-aim-clause-lasts
returns-in-Ok-aim-clause-lasts g c =
    let D = g.D.ProductDir in
    let told = g.P.Port.told in
    let text = g.S.Sink.text in
    let faults = g.S.Sink.faults in
    let f = folder (D.told_path c.args.dir.now) (D.files c.args.dir.now) (D.entered c.args.dir.now) (D.faults c.args.dir.now) in
    let h = folder (D.told_path c.open.new.dir) (D.files c.open.new.dir) (D.entered c.open.new.dir) (D.faults c.open.new.dir) in
    let k = folder (D.told_path c.install.new.dir) (D.files c.install.new.dir) (D.entered c.install.new.dir) (D.faults c.install.new.dir) in
    lasts-led (told c.args.port.now) (told c.aim.new.self) (told c.install.new.port) f h k
    (text c.args.out.now) (text c.install.new.out) (faults c.args.out.now) (faults c.install.new.out) c.install.result (order c.in-Ok.product c.args.options.now)
    c.open.ensures.path c.open.ensures.files c.open.ensures.later c.aim.ensures.turns c.install.ensures.run

pub returns-clause-ends : goal.returns-clause-ends
returns-clause-ends g c =
    let D = g.D.ProductDir in
    let told = g.P.Port.told in
    let text = g.S.Sink.text in
    let faults = g.S.Sink.faults in
    let f = folder (D.told_path c.args.dir.now) (D.files c.args.dir.now) (D.entered c.args.dir.now) (D.faults c.args.dir.now) in
    let h = folder (D.told_path c.open.new.dir) (D.files c.open.new.dir) (D.entered c.open.new.dir) (D.faults c.open.new.dir) in
    unaimed-call (place_of c.args.target.now) c.args.path.now c.in-Ok.product c.args.options.now (told c.args.port.now) (told c.aim.new.self) f h
    (text c.args.out.now) (text c.end-in-Err-aim.new.out) (faults c.args.out.now) (faults c.end-in-Err-aim.new.out) c.end-in-Err-aim.result
    c.in-Ok.ensures.entered c.in-Ok.ensures.product
    (unaimed (place_of c.args.target.now) (told c.args.port.now) (told c.aim.new.self) f h
    (text c.args.out.now) (text c.end-in-Err-aim.new.out) (faults c.args.out.now) (faults c.end-in-Err-aim.new.out) c.end-in-Err-aim.result c.aim.result c.in-Err-aim.error (verdict_in c.aim_verdict.result)
    c.in-Err-aim.is c.in-Err-aim.ensures.astray c.aim.ensures.turns c.aim.ensures.nothing c.aim.ensures.bad c.aim.ensures.link
    c.aim_verdict.ensures c.end-in-Err-aim.ensures.shows c.end-in-Err-aim.ensures.unput)

pub returns-clause-lasts : goal.returns-clause-lasts
returns-clause-lasts g c =
    let D = g.D.ProductDir in
    let told = g.P.Port.told in
    let text = g.S.Sink.text in
    let faults = g.S.Sink.faults in
    let f = folder (D.told_path c.args.dir.now) (D.files c.args.dir.now) (D.entered c.args.dir.now) (D.faults c.args.dir.now) in
    let h = folder (D.told_path c.open.new.dir) (D.files c.open.new.dir) (D.entered c.open.new.dir) (D.faults c.open.new.dir) in
    lasts-astray (told c.args.port.now) (told c.aim.new.self) f h (text c.args.out.now) (text c.end-in-Err-aim.new.out) (faults c.args.out.now) (faults c.end-in-Err-aim.new.out) (verdict_in c.aim_verdict.result) c.end-in-Err-aim.result
    c.open.ensures.path c.open.ensures.files c.open.ensures.later c.aim.ensures.turns c.end-in-Err-aim.ensures.shows c.end-in-Err-aim.ensures.later
