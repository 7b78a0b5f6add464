use Rattle.std.proofs.Common.{◌∙◌, ap, not, rules, filter}
use Rattle.std.specs.Prelude.{◌||◌}
use Rattle.std.proofs.lemmas.Fn.{filter_same}
use Rattle.flash_plan.proofs.inspect.keep_tasks.Goals as goal

pub returns : goal.returns
returns c =
    c.from_vec.ensures
    ∙ (filter_same _ (λ task. c.args.wipe || not task.if_wipe) _ (λ x b f' k. search rules) _ _ c.retain.ensures.filtered
    ∙ ap (λ xs. filter (λ task. c.args.wipe || not task.if_wipe) xs) c.into_vec-list.ensures)
