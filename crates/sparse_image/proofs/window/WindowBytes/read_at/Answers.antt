use Rattle.sparse_image.proofs.window.WindowBytes.read_at.Goals as goal

pub returns-in_err-reach-clause-end : goal.returns-in_err-reach-clause-end
returns-in_err-reach-clause-end g c h = absurd (c.in_err-reach.ensures.end h)
