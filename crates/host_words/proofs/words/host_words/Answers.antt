use Rattle.std.proofs.Common.{◌∙◌, IfOk, map, string_bytes, subst, sym}
use Rattle.std.proofs.lemmas.Result.{err_from_is_err_and}
use Rattle.clap.specs.Words.{app_of, found_of, rows_of}
use Rattle.word_rules.proofs.AskedLemmas.{asked-by, asked-nothing, same-error}
use Rattle.host_words.specs.Requests.{Asks}
use Rattle.host_words.specs.Words.{host_words, host_command, request_among}
use Rattle.host_words.proofs.words.host_words.Goals as goal

pub returns-clause-asked : goal.returns-clause-asked
unfolding host_words
returns-clause-asked c =
    subst (λ asked. IfOk c.request.result (λ words. Asks words asked))
    (sym (asked-by host_command (app_of c.in_ok-command.command) request_among (map string_bytes c.args.words.now)
    (rows_of (found_of c.in_ok-found.found)) c.in_ok-command.ensures c.in_ok-found.ensures.taken
    c.in_ok-found.ensures.rows))
    c.request.ensures.asked

pub returns-clause-usage : goal.returns-clause-usage
unfolding host_words
returns-clause-usage c refused =
    asked-by host_command (app_of c.in_ok-command.command) request_among (map string_bytes c.args.words.now)
    (rows_of (found_of c.in_ok-found.found)) c.in_ok-command.ensures c.in_ok-found.ensures.taken
    c.in_ok-found.ensures.rows ∙ c.request.ensures.usage refused

pub returns-in_err-found-clause-usage : goal.returns-in_err-found-clause-usage
unfolding host_words
returns-in_err-found-clause-usage c =
    let p = err_from_is_err_and c.from_residual-in_err-found.result c.from_residual-in_err-found.ensures.1 in
    rw (p.1, p.2) (λ refused. asked-nothing host_command (app_of c.in_ok-command.command) request_among (map string_bytes c.args.words.now)
    c.in_ok-command.ensures (c.in_err-found.ensures.usage (same-error _ _ refused)))
