-- The unit goes behind the part's chain.
use Rattle.std.proofs.Common.{◌∙◌, ap}
use Rattle.std.proofs.Common.{set}
use Rattle.unit_alloc.proofs.ChainedLemmas.{AreChained-same, chained-same}
use Rattle.unit_alloc.proofs.AppendLemmas.{appends}
use Rattle.unit_alloc.proofs.owners.Owners.append.Goals as goal

pub give-requires : goal.give-requires
give-requires c =
    let a = c.self.inside in
    (appends a.states a.next.items a.chains.items c.args.self.now c.args.part c.args.unit c.index-chain.result.now c.self.invariant c.self.view_is c.requires.part c.requires.unit c.requires.free c.index-chain.ensures).free

pub link-requires : goal.link-requires
link-requires c =
    let a = c.self.inside in
    (appends a.states a.next.items a.chains.items c.args.self.now c.args.part c.args.unit c.index-chain.result.now c.self.invariant c.self.view_is c.requires.part c.requires.unit c.requires.free c.index-chain.ensures).last

pub longer-requires : goal.longer-requires
longer-requires c =
    let a = c.self.inside in
    (appends a.states a.next.items a.chains.items c.args.self.now c.args.part c.args.unit c.index-chain.result.now c.self.invariant c.self.view_is c.requires.part c.requires.unit c.requires.free c.index-chain.ensures).fits

pub invariant_of-self : goal.invariant_of-self
invariant_of-self c =
    let a = c.self.inside in
    AreChained-same _ _ _ _ _ _ c.give.ensures c.link.ensures (ap (set a.chains.items c.args.part) c.longer.ensures)
    (appends a.states a.next.items a.chains.items c.args.self.now c.args.part c.args.unit c.index-chain.result.now c.self.invariant c.self.view_is c.requires.part c.requires.unit c.requires.free c.index-chain.ensures).still

pub returns-clause-handed : goal.returns-clause-handed
returns-clause-handed c =
    let a = c.self.inside in
    chained-same _ _ _ _ _ _ c.give.ensures c.link.ensures (ap (set a.chains.items c.args.part) c.longer.ensures)
    ∙ (appends a.states a.next.items a.chains.items c.args.self.now c.args.part c.args.unit c.index-chain.result.now c.self.invariant c.self.view_is c.requires.part c.requires.unit c.requires.free c.index-chain.ensures).owning

pub returns-clause-one_owner : goal.returns-clause-one_owner
returns-clause-one_owner c =
    let a = c.self.inside in
    (AreChained-same _ _ _ _ _ _ c.give.ensures c.link.ensures (ap (set a.chains.items c.args.part) c.longer.ensures)
    (appends a.states a.next.items a.chains.items c.args.self.now c.args.part c.args.unit c.index-chain.result.now c.self.invariant c.self.view_is c.requires.part c.requires.unit c.requires.free c.index-chain.ensures).still).one
