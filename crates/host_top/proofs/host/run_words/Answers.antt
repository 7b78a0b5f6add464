use Rattle.std.proofs.Common.{◌≤◌, length, refl, arith, subst, sym, Some}
use Rattle.fb_link.specs.Targets.{place_of}
use Rattle.host_driver.specs.Jobs.{folder, outside}
use Rattle.host_words.specs.Requests.{Request, FlashAll, GetVar}
use Rattle.host_top.specs.Ending.{Ends}
use Rattle.host_top.specs.Verdicts.{Usage}
use Rattle.host_top.proofs.CallLemmas.{lasts-unused}
use Rattle.host_top.proofs.WordsLemmas.{flash-read, question-read, of-read}
use Rattle.host_top.proofs.host.run_words.Goals as goal

pub returns-in_default-clause-lasts : goal.returns-in_default-clause-lasts
returns-in_default-clause-lasts g c =
    let D = g.D.ProductDir in
    let text = g.S.Sink.text in
    let faults = g.S.Sink.faults in
    let f = folder (D.told_path c.args.dir.now) (D.files c.args.dir.now) (D.entered c.args.dir.now) (D.faults c.args.dir.now) in
    lasts-unused (g.P.Port.told c.args.port.now) f f (text c.args.out.now) (text c.end.new.out) (faults c.args.out.now) (faults c.end.new.out) Usage c.end.result refl refl (omega arith) c.end.ensures.shows c.end.ensures.later

pub flash_all-requires : goal.flash_all-requires
flash_all-requires g c = record {
  few = c.requires.fit (FlashAll (place_of c.target-aim.result) c.in-FlashAll.path c.args.words.now.options)
      (flash-read c.args.words.now c.in-Some.target c.in-FlashAll.path (place_of c.target-aim.result) c.in-Some.is c.in-FlashAll.is c.target-aim.ensures);
}

pub get_var-requires : goal.get_var-requires
get_var-requires g c =
    let fit : length c.in-GetVar.name ≤ 4089 = c.requires.fit (GetVar (place_of c.target-aim-in-GetVar.result) c.in-GetVar.name)
    (question-read c.args.words.now c.in-Some.target c.in-GetVar.name (place_of c.target-aim-in-GetVar.result) c.in-Some.is c.in-GetVar.is c.target-aim-in-GetVar.ensures) in
    record { short = subst (λ name. length name ≤ 4089) (sym c.as_bytes.ensures.value) (subst (λ name. length name ≤ 4089) (sym c.as_str-in-GetVar.ensures) fit) }

pub returns-in-GetVar-clause-ends : goal.returns-in-GetVar-clause-ends
returns-in-GetVar-clause-ends g c =
    let D = g.D.ProductDir in
    let told = g.P.Port.told in
    let text = g.S.Sink.text in
    let faults = g.S.Sink.faults in
    let f = folder (D.told_path c.args.dir.now) (D.files c.args.dir.now) (D.entered c.args.dir.now) (D.faults c.args.dir.now) in
    let old = outside (told c.args.port.now) f (text c.args.out.now) (faults c.args.out.now) in
    let new = outside (told c.get_var.new.port) f (text c.get_var.new.out) (faults c.get_var.new.out) in
    let place = place_of c.target-aim-in-GetVar.result in
    of-read c.args.words.now (GetVar place c.in-GetVar.name) (λ request. Ends (Some request) old new c.get_var.result)
    (question-read c.args.words.now c.in-Some.target c.in-GetVar.name place c.in-Some.is c.in-GetVar.is c.target-aim-in-GetVar.ensures)
    (subst (λ name. Ends (Some (GetVar place name)) old new c.get_var.result) c.as_str-in-GetVar.ensures
    (subst (λ name. Ends (Some (GetVar place name)) old new c.get_var.result) c.as_bytes.ensures.value (c.get_var.ensures.ends f)))

pub returns-in-GetVar-clause-lasts : goal.returns-in-GetVar-clause-lasts
returns-in-GetVar-clause-lasts g c =
    let D = g.D.ProductDir in
    c.get_var.ensures.lasts (folder (D.told_path c.args.dir.now) (D.files c.args.dir.now) (D.entered c.args.dir.now) (D.faults c.args.dir.now))

pub returns-in-Sample-clause-lasts : goal.returns-in-Sample-clause-lasts
returns-in-Sample-clause-lasts g c =
    let D = g.D.ProductDir in
    let text = g.S.Sink.text in
    let faults = g.S.Sink.faults in
    let f = folder (D.told_path c.args.dir.now) (D.files c.args.dir.now) (D.entered c.args.dir.now) (D.faults c.args.dir.now) in
    let out = c.end-in-Sample.new.out in
    lasts-unused (g.P.Port.told c.args.port.now) f f (text c.args.out.now) (text out) (faults c.args.out.now) (faults out) Usage c.end-in-Sample.result refl refl (omega arith) c.end-in-Sample.ensures.shows c.end-in-Sample.ensures.later
