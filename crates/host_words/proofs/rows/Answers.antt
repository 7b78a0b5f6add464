use Rattle.std.specs.Prelude.{refl}
use Rattle.clap.proofs.OnLiterals.{clap_on_literals}
use Rattle.host_words.specs.Words.{host_words}
use Rattle.host_words.proofs.rows.Goals as goal

pub returns : goal.returns
unfolding clap_on_literals host_words
returns c = record { none = refl; flash = refl; all = refl; question = refl; drawn = refl; retries = refl; zeros = refl; slot = refl; no_target = refl; no_file = refl; port = refl; wiped = refl; targeted = refl; action = refl; more = refl; twice = refl; help = refl }
