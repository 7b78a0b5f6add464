use Rattle.wire_model.proofs.FrameLemmas.{all_answer}
use Rattle.wire_model.proofs.says.tell_all.Goals as goal

pub returns : goal.returns
returns c =
    all_answer c.in_ok-out.out c.in_ok-device.device c.args.dev.now c.in_ok-loaded.loaded c.args.loaded.now
    c.in_ok-out.ensures c.in_ok-device.ensures c.in_ok-loaded.ensures
