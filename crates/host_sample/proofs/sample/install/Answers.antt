use Rattle.std.proofs.Common.{◌≡◌, ◌∙◌, ap, subst, refl, Some, map, string_bytes}
use Rattle.clap.proofs.OnLiterals.{clap_on_literals}
use Rattle.dev_disk.specs.Memory.{memory_files}
use Rattle.flash_plan.specs.MemoryFiles.{file_of}
use Rattle.wire_told.specs.Places.{ImageAt}
use Rattle.host_words.specs.Requests.{FlashAll}
use Rattle.host_words.specs.Words.{host_words, usual_options}
use Rattle.host_memory.specs.Rehearsals.{scene, OfFlash, IsInstalled}
use Rattle.host_sample.specs.Samples.{sample_words, image_path, folder_path}
use Rattle.host_sample.proofs.ReportLemmas.{reported}
use Rattle.host_sample.proofs.sample.install.Goals as goal

asked : host_words sample_words ≡ Some (FlashAll (ImageAt image_path) folder_path usual_options)
unfolding clap_on_literals host_words
asked = refl

pub returns : goal.returns
returns g c =
    let dir = c.in_ok-dir.dir in
    let files = file_of dir.files in
    let before = memory_files c.in_ok-disk.disk in
    let after = memory_files c.rehearse-done.result.disk in
    let text = g.S.Sink.text c.args.out.now in
    let now = g.S.Sink.text c.rehearse-done.new.out in
    let words = ap (λ items. host_words (map string_bytes items)) c.as_slice.ensures.value ∙ ap host_words c.in_ok-words.ensures ∙ asked in
    let installed = subst (λ request. OfFlash request (λ path place options. c.rehearse-done.result.status ≡ 0 → IsInstalled path options (scene files before after text now))) words c.rehearse-done.ensures.installed in
    record { reported = λ zero. reported c.args.number files before after text now c.in_ok-dir.ensures.product c.in_ok-disk.ensures (installed zero) }
