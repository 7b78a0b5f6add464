use Rattle.std.proofs.Common.{◌∙◌, ap, sym}
use Rattle.std.specs.Prelude.{◌||◌, bytes_eq, option_map, option_to_list}
use Rattle.std.specs.List.{list_any}
use Rattle.dev_model.specs.Partitions.{is_partition, is_logical, is_super}
use Rattle.dev_store.specs.Held.{device_held}
use Rattle.dev_store.proofs.CreateFlaws.{kind-some}
use Rattle.dev_store.proofs.store.Store.is_taken.Goals as goal

pub returns-then-is_some-clause-taken : goal.returns-then-is_some-clause-taken
returns-then-is_some-clause-taken g c =
    let d = c.args.self.now.device in
    let name = c.args.name.now in
    c.if-is_some.true
    ∙ ap (λ b. b || is_super d name) (sym c.if-is_some.true ∙ (c.is_some.ensures ∙ kind-some (is_partition d name) (is_logical d name) c.is_logical.result c.is_logical.ensures.kind))

pub returns-else-is_some-clause-taken : goal.returns-else-is_some-clause-taken
unfolding device_held
returns-else-is_some-clause-taken g c =
    let d = c.args.self.now.device in
    let name = c.args.name.now in
    c.is_super.ensures
    ∙ (ap (λ t. list_any (λ n. bytes_eq n t) (option_to_list (option_map (λ s. s.name) c.self.inside.layout.super_part))) c.bytes-text.ensures.bytes
    ∙ (ap (λ h. is_super h.device name) c.self.view_is
    ∙ ap (λ b. b || is_super d name) (sym c.if-is_some.false ∙ (c.is_some.ensures ∙ kind-some (is_partition d name) (is_logical d name) c.is_logical.result c.is_logical.ensures.kind))))
