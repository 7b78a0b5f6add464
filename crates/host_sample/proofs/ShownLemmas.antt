-- What is shown of the device that an image stands for.
use Rattle.std.proofs.Common.{◌≡◌, ℕ, List, Option, Some, None, refl, sym, ap, subst, ◌∙◌, inl, inr}
use Rattle.std.specs.Prelude.{Result, Ok, Err}
use Rattle.fb_frame.specs.Sinks.{Grew}
use Rattle.dev_model.specs.declared.bad_image.BadImage.{BadImage}
use Rattle.dev_model.specs.declared.device.Dev.{Dev}
use Rattle.dev_model.specs.declared.device.Mode.{Mode}
use Rattle.dev_model.specs.Partitions.{with_mode}
use Rattle.dev_disk.specs.Files.{Files as Images}
use Rattle.dev_store.specs.Stand.{stand}
use Rattle.device_jobs.specs.Outcomes.{Shown, opened, opened_as}
use Rattle.device_jobs.specs.Printed.{show_text}
use Rattle.device_jobs.specs.Jobs.{IsReported}
use Rattle.fb_frame.proofs.SinkLemmas.{Grew-append}
use Rattle.pair_port.specs.Pairs.{stand_in, stand_by}
use Rattle.pair_port.specs.Stood.{IsStand}
use Rattle.wire_told.specs.Places.{Device}
use Rattle.host_sample.specs.Samples.{image_path, IsSampled, IsReported as IsDone}

same-text : (mode : Mode) (dev : Dev) → show_text (with_mode mode dev) ≡ show_text dev
unfolding show_text
same-text mode dev = refl

stood-text : (found final : Dev) → IsStand (Device found) final → show_text found ≡ show_text final
stood-text found final s =
    let e : s.found ≡ found = cc in
    sym (ap show_text s.same ∙ same-text final.mode s.found ∙ ap show_text e)

by-result : (r : Result Dev BadImage) (final : Dev) (mid now : Option (List ℕ)) → IsStand (stand_by r) final → IsReported (Some (opened_as Shown r)) 0 mid now → Grew mid now (show_text final)
by-result (Err bad) final mid now s p = let e = s.is in absurd cc
by-result (Ok dev) final mid now s (inl p) = subst (λ t. Grew mid now t) (stood-text dev final s) p.1
by-result (Ok dev) final mid now s (inr (inl p)) = let e = p.0 in absurd cc
by-result (Ok dev) final mid now s (inr (inr (inl p))) = let e = p.0 in absurd cc
by-result (Ok dev) final mid now s (inr (inr (inr p))) = let e = p.0 in absurd cc

shown-in : (file : Option (List ℕ)) (final : Dev) (mid now : Option (List ℕ)) → IsStand (stand_in file) final → IsReported (Some (opened Shown file)) 0 mid now → Grew mid now (show_text final)
shown-in None final mid now s p = let e = s.is in absurd cc
shown-in (Some file) final mid now s p = by-result (stand file) final mid now s p

-- the text of the device was put after the report
pub sampled : (number : ℕ) (files : Images) (text mid now : Option (List ℕ)) → IsDone number files text mid → IsReported (Some (opened Shown (files image_path))) 0 mid now → IsSampled number text now
sampled number files text mid now d p = record {
  j = d.j;
  final = d.final;
  installed = d.installed;
  printed = Grew-append text mid now _ _ d.printed (shown-in (files image_path) d.final mid now d.stands p);
}
