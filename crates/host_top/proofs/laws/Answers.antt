use Rattle.host_top.proofs.CalmLemmas.{calm_reports}
use Rattle.host_top.proofs.laws.Goals as goal

pub returns : goal.returns
returns c = record { calm_reports = calm_reports }
