use Rattle.std.proofs.Common.{subst}
use Rattle.fb_link.specs.Seen.{seen}
use Rattle.flash_plan.specs.Facts.{kind_of}
use Rattle.flash_plan.specs.Targets.{probed}
use Rattle.host_driver.specs.Finding.{kind_questions, Finds}
use Rattle.host_driver.specs.Questioning.{IsLearned, IsUnlearned}
use Rattle.host_driver.proofs.asking_parts.ask_aim.Goals as goal

pub returns-in-Ok-clause-learned : goal.returns-in-Ok-clause-learned
returns-in-Ok-clause-learned g c =
    subst (λ ns. IsLearned 8208 (λ dev. kind_questions (probed (kind_of dev) c.args.listed.now ns)) (λ dev. Finds (probed (kind_of dev) c.args.listed.now ns) c.args.parts.now c.ask_candidates.new.parts dev) (seen (g.P.Port.told c.args.ready) (g.S.Sink.text c.args.shown.now))
    (seen (g.P.Port.told c.in-Ok.ready) (g.S.Sink.text c.ask_candidates.new.shown))) c.new-names.ensures c.in-Ok.ensures.learned

pub returns-in-Err-clause-unlearned : goal.returns-in-Err-clause-unlearned
returns-in-Err-clause-unlearned g c =
    subst (λ ns. IsUnlearned (λ dev. kind_questions (probed (kind_of dev) c.args.listed.now ns)) (seen (g.P.Port.told c.args.ready) (g.S.Sink.text c.args.shown.now)) (seen (g.P.Port.told c.in-Err.stop.0) (g.S.Sink.text c.ask_candidates.new.shown)) c.in-Err.stop.1) c.new-names.ensures
    c.in-Err.ensures.unlearned
