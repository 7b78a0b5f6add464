use Rattle.std.proofs.Common.{◌∙◌}
use Rattle.device_engine.specs.Putting.{is_target_by}
use Rattle.device_engine.proofs.RangeLemmas.{target-by-kind}
use Rattle.device_engine.proofs.part_commands.is_target.Goals as goal

pub returns : goal.returns
returns g c = record {
  target = c.by_kind.ensures.target
      ∙ ((λ i. is_target_by (c.is_logical.ensures.kind i) ((c.state.ensures.state i).userspace)) ∙ target-by-kind c.args.store.now.device c.args.name.now c.state.ensures.valid);
}
