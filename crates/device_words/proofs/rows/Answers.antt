use Rattle.std.specs.Prelude.{refl}
use Rattle.clap.proofs.OnLiterals.{clap_on_literals}
use Rattle.device_words.specs.Words.{device_words}
use Rattle.device_words.proofs.rows.Goals as goal

pub returns : goal.returns
unfolding clap_on_literals device_words
returns c = record { none = refl; made = refl; unlocked = refl; shown = refl; freed = refl; served = refl; least = refl; most = refl; no_port = refl; port = refl; no_connections = refl; connections = refl; zeros = refl; no_image = refl; no_name = refl; ported = refl; locked = refl; second = refl; more = refl; twice = refl; action = refl; help = refl }
