use Rattle.device_session.proofs.RunLemmas.{ran-due}
use Rattle.device_session.proofs.responder.Responder.run.Goals as goal

pub end_download-requires : goal.end_download-requires
end_download-requires g c =
    record {
      room = λ e. (ran-due g.K.Disk.told _ _ _ _ 0 c.run_command-next.ensures.ran e).0;
    }
