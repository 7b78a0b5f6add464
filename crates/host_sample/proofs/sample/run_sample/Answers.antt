use Rattle.std.proofs.Common.{rules, ◌≡◌, subst, Some}
use Rattle.dev_disk.specs.Memory.{memory_files}
use Rattle.device_jobs.specs.Jobs.{IsReported}
use Rattle.device_jobs.specs.Outcomes.{Shown, opened}
use Rattle.host_sample.specs.Samples.{image_path}
use Rattle.host_sample.proofs.ShownLemmas.{sampled}
use Rattle.host_sample.proofs.sample.run_sample.Goals as goal

pub returns-else-done-ne0 : goal.returns-else-done-ne0
returns-else-done-ne0 g c =
    let done = c.in-Ok.done in
    let files = memory_files done.disk in
    let text = g.S.Sink.text c.args.out.now in
    let mid = g.S.Sink.text c.install.new.out in
    let now = g.S.Sink.text c.show_image.new.out in
    let fine : done.status ≡ 0 = search rules in
    record {
      sampled = λ zero. sampled c.args.number files text mid now (c.in-Ok.ensures.reported fine)
          (subst (λ status. IsReported (Some (opened Shown (files image_path))) status mid now) zero c.show_image.ensures.reported);
    }
