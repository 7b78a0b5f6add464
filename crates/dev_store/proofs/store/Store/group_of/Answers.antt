use Rattle.std.proofs.Common.{◌∙◌, ap, find, option_map}
use Rattle.super_meta.specs.Held.{group_name}
use Rattle.dev_store.specs.StoreCalls.{group_of}
use Rattle.dev_store.proofs.OpenOwns.{at-name}
use Rattle.dev_store.proofs.NamedStore.{groups-there, group-within, none-within}
use Rattle.dev_store.proofs.store.Store.group_of.Goals as goal

pub group_of-requires : goal.group_of-requires
group_of-requires g c =
    let s = c.self.inside in
    record { there = groups-there s.layout s.state s.within c.in-Some.within _ c.in-Some.is c.self.invariant.kept }

pub returns-in-None : goal.returns-in-None
returns-in-None g c =
    let s = c.self.inside in
    record { group = none-within s.layout s.state s.within _ c.args.name.now c.in-None.is ∙ ap (λ h. group_of h.device c.args.name.now) c.self.view_is }

pub returns-in-Some : goal.returns-in-Some
returns-in-Some g c =
    let s = c.self.inside in
    record {
      group = c.group_of.ensures
          ∙ (ap (λ n. option_map (λ p. group_name c.in-Some.within.table.groups.items p.group) (find (at-name n) c.in-Some.within.table.partitions.items)) c.bytes.ensures.bytes
          ∙ (group-within s.layout s.state s.within c.in-Some.within _ c.args.name.now c.in-Some.is c.self.invariant.kept
          ∙ ap (λ h. group_of h.device c.args.name.now) c.self.view_is));
    }
