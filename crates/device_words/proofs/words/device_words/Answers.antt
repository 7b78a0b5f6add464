use Rattle.std.proofs.Common.{◌∙◌, map, string_bytes}
use Rattle.std.proofs.lemmas.Result.{err_from_is_err_and}
use Rattle.clap.specs.Words.{app_of, found_of, rows_of}
use Rattle.word_rules.proofs.AskedLemmas.{asked-by, asked-for, asked-nothing, same-error}
use Rattle.device_words.specs.Words.{device_words, device_command, request_of}
use Rattle.device_words.proofs.words.device_words.Goals as goal

pub returns-clause-asked : goal.returns-clause-asked
unfolding device_words
returns-clause-asked c =
    asked-for device_command (app_of c.in_ok-command.command) request_of (map string_bytes c.args.words.now)
    (rows_of (found_of c.in_ok-found.found)) c.request.result c.in_ok-command.ensures c.in_ok-found.ensures.taken
    c.in_ok-found.ensures.rows c.request.ensures.asked

pub returns-clause-usage : goal.returns-clause-usage
unfolding device_words
returns-clause-usage c refused =
    asked-by device_command (app_of c.in_ok-command.command) request_of (map string_bytes c.args.words.now)
    (rows_of (found_of c.in_ok-found.found)) c.in_ok-command.ensures c.in_ok-found.ensures.taken
    c.in_ok-found.ensures.rows ∙ c.request.ensures.usage refused

pub returns-in_err-found-clause-usage : goal.returns-in_err-found-clause-usage
unfolding device_words
returns-in_err-found-clause-usage c =
    let p = err_from_is_err_and c.from_residual-in_err-found.result c.from_residual-in_err-found.ensures.1 in
    rw (p.1, p.2) (λ refused. asked-nothing device_command (app_of c.in_ok-command.command) request_of (map string_bytes c.args.words.now)
    c.in_ok-command.ensures (c.in_err-found.ensures.usage (same-error _ _ refused)))
