use Rattle.pair_port.proofs.NewLemmas.{any-device}
use Rattle.pair_port.proofs.pair.PairPort.new.Goals as goal

pub choose-requires : goal.choose-requires
choose-requires g c = (any-device, tt)
