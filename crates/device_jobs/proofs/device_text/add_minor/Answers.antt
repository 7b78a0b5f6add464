use Rattle.std.proofs.Common.{◌≡◌, ◌++◌, ◌∙◌, codes, decimal, subst}
use Rattle.device_jobs.proofs.ReadLemmas.{adds-three}
use Rattle.device_jobs.proofs.TextLemmas.{on-ok, ok-items}
use Rattle.device_jobs.proofs.device_text.add_minor.Goals as goal

pub returns : goal.returns
returns c =
    on-ok c.extend_from_slice-3.result
    (adds-three c.args.text.now.items (codes "metadata 10.") (decimal c.args.minor) (codes " ") c.extend_from_slice.new.self.items c.extend_from_slice-2.new.self.items c.extend_from_slice-3.new.self.items
    c.in_ok-extend_from_slice.ensures.items
    (subst (λ d. c.extend_from_slice-2.new.self.items ≡ c.extend_from_slice.new.self.items ++ d) (c.as_bytes.ensures.value ∙ c.format.ensures.text) c.in_ok-extend_from_slice-2.ensures.items))
    (ok-items c.extend_from_slice-3.result c.extend_from_slice-3.new.self.items (c.extend_from_slice-2.new.self.items ++ codes " ") c.extend_from_slice-2.new.self.items c.extend_from_slice-3.ensures.items)
