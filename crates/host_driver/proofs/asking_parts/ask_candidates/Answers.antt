use Rattle.std.proofs.Common.{arith}
use Rattle.std.specs.Prelude.{option_to_list}
use Rattle.host_driver.specs.Finding.{kind_questions, Finds, IsSought}
use Rattle.host_driver.proofs.FindLemmas.{candidates-first, candidates-both, candidates-unasked, candidates-broken}
use Rattle.host_driver.proofs.QuestionLemmas.{learned-serving}
use Rattle.host_driver.proofs.asking_parts.ask_candidates.Goals as goal

pub returns-in-Err-clause-unlearned : goal.returns-in-Err-clause-unlearned
returns-in-Err-clause-unlearned g c = candidates-unasked c.args.listed.now c.args.names.now.first c.args.names.now.second _ _ _ c.in-Err.ensures.unlearned

pub returns-then-found-clause-learned : goal.returns-then-found-clause-learned
returns-then-found-clause-learned g c =
    candidates-first c.args.listed.now c.args.names.now.first c.args.names.now.second c.in-Ok.answer.1 c.args.parts.now c.ask_candidate.new.parts _ _ c.if-found.true c.in-Ok.ensures.learned

pub ask_candidate-requires-2-clause-serving : goal.ask_candidate-requires-2-clause-serving
ask_candidate-requires-2-clause-serving g c =
    learned-serving 4104 4104 8208 (λ dev. kind_questions (option_to_list c.args.names.now.first)) (λ dev. IsSought c.args.listed.now c.args.names.now.first c.in-Ok.answer.1 dev (λ names dev. Finds names c.args.parts.now c.ask_candidate.new.parts dev)) _ _
    c.in-Ok.ensures.learned (omega arith) c.requires.serving

pub returns-in-Ok-ask_candidate-clause-learned : goal.returns-in-Ok-ask_candidate-clause-learned
returns-in-Ok-ask_candidate-clause-learned g c =
    candidates-both c.args.listed.now c.args.names.now.first c.args.names.now.second c.in-Ok.answer.1 _ c.args.parts.now c.ask_candidate.new.parts c.ask_candidate-2.new.parts _ _ _ c.if-found.false c.in-Ok.ensures.learned c.in-Ok-ask_candidate.ensures.learned

pub returns-in-Err-ask_candidate-clause-unlearned : goal.returns-in-Err-ask_candidate-clause-unlearned
returns-in-Err-ask_candidate-clause-unlearned g c =
    candidates-broken c.args.listed.now c.args.names.now.first c.args.names.now.second c.in-Ok.answer.1 c.args.parts.now c.ask_candidate.new.parts _ _ _ _ c.if-found.false c.in-Ok.ensures.learned c.in-Err-ask_candidate.ensures.unlearned
