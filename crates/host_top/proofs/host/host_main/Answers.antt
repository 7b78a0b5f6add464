use Rattle.std.proofs.Common.{Some, Err, map, string_bytes, refl, arith, sym, ap, ◌∙◌, subst}
use Rattle.host_driver.specs.Jobs.{folder, outside}
use Rattle.host_words.specs.Requests.{Request}
use Rattle.host_words.specs.Words.{host_words}
use Rattle.host_top.specs.Hosted.{Hosted}
use Rattle.host_top.specs.LineParts.{verdict_in}
use Rattle.host_top.proofs.CallLemmas.{lasts-unused, words-end}
use Rattle.host_top.proofs.FitsLemmas.{words-fit}
use Rattle.host_top.proofs.HostLemmas.{hosted}
use Rattle.host_top.proofs.WordsLemmas.{of-read}
use Rattle.host_top.specs.Acts.{Fits}
use Rattle.host_top.proofs.host.host_main.Goals as goal

pub run_words-requires : goal.run_words-requires
run_words-requires g c =
    let a = c.in-Ok.ensures.asked in
    record { fit = of-read c.in-Ok.words a.request Fits a.read (words-fit (map string_bytes c.args.words.now) a.request a.is) }

pub returns-in-Ok-clause-hosted : goal.returns-in-Ok-clause-hosted
returns-in-Ok-clause-hosted g c =
    let D = g.D.ProductDir in
    let told = g.P.Port.told in
    let text = g.S.Sink.text in
    let faults = g.S.Sink.faults in
    let old = outside (told c.args.port.now) (folder (D.told_path c.args.dir.now) (D.files c.args.dir.now) (D.entered c.args.dir.now) (D.faults c.args.dir.now)) (text c.args.out.now) (faults c.args.out.now) in
    let n = c.run_words.new in
    let new = outside (told n.port) (folder (D.told_path n.dir) (D.files n.dir) (D.entered n.dir) (D.faults n.dir)) (text n.out) (faults n.out) in
    let a = c.in-Ok.ensures.asked in
    subst (λ r. Hosted r old new c.run_words.result) (sym a.is)
    (hosted (Some a.request) old new c.run_words.result (c.run_words.ensures.ends a.request a.read) c.run_words.ensures.lasts)

pub returns-in-Err-clause-hosted : goal.returns-in-Err-clause-hosted
returns-in-Err-clause-hosted g c =
    let D = g.D.ProductDir in
    let port = g.P.Port.told c.args.port.now in
    let text = g.S.Sink.text in
    let faults = g.S.Sink.faults in
    let f = folder (D.told_path c.args.dir.now) (D.files c.args.dir.now) (D.entered c.args.dir.now) (D.faults c.args.dir.now) in
    let x = text c.args.out.now in
    let z = text c.end.new.out in
    let m = faults c.args.out.now in
    let k = faults c.end.new.out in
    let verdict = verdict_in c.words_verdict.result in
    let asked = host_words (map string_bytes c.args.words.now) in
    hosted asked (outside port f x m) (outside port f z k) c.end.result
    (words-end asked c.in-Err.error verdict port f x z m k c.end.result (λ e. c.host_words.ensures.usage (c.in-Err.is ∙ ap Err e)) c.words_verdict.ensures c.end.ensures.shows c.end.ensures.unput)
    (lasts-unused port f f x z m k verdict c.end.result refl refl (omega arith) c.end.ensures.shows c.end.ensures.later)
