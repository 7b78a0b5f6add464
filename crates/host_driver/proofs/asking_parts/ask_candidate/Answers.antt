use Rattle.std.proofs.Common.{subst, sym}
use Rattle.std.specs.Prelude.{option_to_list}
use Rattle.fb_link.specs.Seen.{seen}
use Rattle.host_driver.specs.Finding.{kind_questions, Finds, IsSought}
use Rattle.host_driver.specs.Questioning.{IsLearned, IsUnlearned}
use Rattle.host_driver.proofs.asking_parts.ask_candidate.Goals as goal

pub returns-in-Ok-clause-learned : goal.returns-in-Ok-clause-learned
returns-in-Ok-clause-learned g c =
    subst (λ o. IsLearned 4104 (λ dev. kind_questions (option_to_list o)) (λ dev. IsSought c.args.listed.now o c.in-Ok.found dev (λ names dev. Finds names c.args.parts.now c.ask_name.new.parts dev)) (seen (g.P.Port.told c.args.ready) (g.S.Sink.text c.args.shown.now)) (seen (g.P.Port.told c.in-Ok.ready) (g.S.Sink.text c.ask_name.new.shown))) (sym c.in-Some.is)
    c.in-Ok.ensures.learned

pub returns-in-Err-clause-unlearned : goal.returns-in-Err-clause-unlearned
returns-in-Err-clause-unlearned g c =
    subst (λ o. IsUnlearned (λ dev. kind_questions (option_to_list o)) (seen (g.P.Port.told c.args.ready) (g.S.Sink.text c.args.shown.now)) (seen (g.P.Port.told c.in-Err.stop.0) (g.S.Sink.text c.ask_name.new.shown)) c.in-Err.stop.1) (sym c.in-Some.is) c.in-Err.ensures.unlearned
