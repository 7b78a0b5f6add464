use Rattle.dev_model.proofs.ChainLemmas.{resumes_chain, resumes_unrefused, resumes_refused}
use Rattle.dev_model.proofs.ResumeLemmas.{resumes}
use Rattle.dev_model.proofs.resumption_laws.Goals as goal

pub returns : goal.returns
returns c =
    let chain = resumes_chain resumes in
    record { resumes = resumes; resumes_chain = chain; resumes_unrefused = resumes_unrefused chain; resumes_refused = resumes_refused chain }
