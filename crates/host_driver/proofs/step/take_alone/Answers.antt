use Rattle.std.proofs.Common.{sym, ap, ◌∙◌}
use Rattle.std.specs.Prelude.{option_map}
use Rattle.fb_message.specs.CommandText.{command_value}
use Rattle.host_driver.proofs.OrderLemmas.{ok-more, err-more, alone-stepped, alone-stopped}
use Rattle.host_driver.proofs.step.take_alone.Goals as goal

pub returns-clause-stepped : goal.returns-clause-stepped
returns-clause-stepped g c =
    let e = sym c.command_for.ensures ∙ ap (option_map command_value) c.in-Some.is in
    ok-more _ _ (λ r k. alone-stepped _ _ _ _ e c.requires.serving k) c.take.result c.take.ensures.stepped

pub returns-clause-stopped : goal.returns-clause-stopped
returns-clause-stopped g c =
    let e = sym c.command_for.ensures ∙ ap (option_map command_value) c.in-Some.is in
    err-more _ _ (λ x k. alone-stopped _ _ _ _ _ e c.requires.serving k) c.take.result c.take.ensures.stopped
