use Rattle.clap.specs.Words.{app_of, is_simple, built}
use Rattle.clap.specs.Faults.{is_free_app}
use Rattle.clap.proofs.WalkLemmas.{both}
use Rattle.word_rules.proofs.command.read.Goals as goal

-- a simple command has the matches of its definition
pub returns-clause-rows : goal.returns-clause-rows
returns-clause-rows c =
    let app = app_of c.args.command in
    (c.in_ok-try_get_matches_from.ensures.matches (both (is_simple app) (is_free_app (built app)) c.requires.simple).0).0
