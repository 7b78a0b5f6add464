use Rattle.device_session.proofs.LifeLemmas.{one_session, locked_session}
use Rattle.device_session.proofs.session.session_laws.Goals as goal

pub returns-clause-one_session : goal.returns-clause-one_session
returns-clause-one_session g c = one_session g.K.Disk.told g.K.Disk.lent g.met.K.Disk.agrees

pub returns-clause-locked_session : goal.returns-clause-locked_session
returns-clause-locked_session g c = locked_session g.K.Disk.told g.K.Disk.lent
