use Rattle.std.proofs.Common.{◌∙◌, ap, sym, Err}
use Rattle.dev_store.specs.Layouts.{layout_of}
use Rattle.host_sample.proofs.ReportLemmas.{never-bad}
use Rattle.host_sample.proofs.sample.sample_layout.Goals as goal

pub unreachable-requires : goal.unreachable-requires
unreachable-requires c =
    never-bad c.in-Err-Bad.field-0-0 (ap layout_of (sym c.layout_text.ensures) ∙ c.in-Err-Bad.ensures.bad c.in-Err-Bad.field-0-0 (ap Err c.in-Err-Bad.field-0-is))
