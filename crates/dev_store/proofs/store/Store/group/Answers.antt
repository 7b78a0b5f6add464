use Rattle.std.proofs.Common.{◌∙◌, ap}
use Rattle.std.specs.Prelude.{slice_get, option_map}
use Rattle.super_meta.specs.Held.{limited}
use Rattle.dev_store.proofs.ToldStore.{group-within}
use Rattle.dev_store.proofs.store.Store.group.Goals as goal

pub returns-in-Some : goal.returns-in-Some
returns-in-Some g c =
    let s = c.self.inside in
    record {
      group = ap (option_map limited) (c.group_at.ensures ∙ ap (λ l. slice_get l c.args.place) c.deref.ensures.value)
          ∙ (group-within s.layout s.state s.within c.in-Some.within _ c.args.place c.in-Some.is c.self.invariant.kept ∙ ap (λ h. slice_get h.device.groups c.args.place) c.self.view_is);
    }
