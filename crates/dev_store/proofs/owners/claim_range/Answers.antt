use Rattle.std.proofs.Common.{◌+◌, ◌<◌, length, ◌∙◌, sym, ap, refl, arith}
use Rattle.std.specs.List.{range_with_len}
use Rattle.unit_alloc.specs.Owning.{handed}
use Rattle.dev_store.specs.SuperBounds.{are_free}
use Rattle.dev_store.proofs.OwnerLemmas.{claim-owned, claim-free, claim-rest, claim-many, claim-all, claim-end, range-whole}
use Rattle.dev_store.proofs.owners.claim_range.Goals as goal

pub loop-unit-init : goal.loop-unit-init
loop-unit-init c =
    let w = range-whole c.args.first c.args.count in
    record { free = ap (are_free c.args.owners.now) w; rest = ap (handed c.args.owners.now c.args.part) w; many = refl; units = refl }

pub returns-then-not-claim_unit-clause-decided : goal.returns-then-not-claim_unit-clause-decided
returns-then-not-claim_unit-clause-decided c =
    claim-owned c.loop-unit.owners c.loop-unit.unit (c.args.first + c.args.count) c.claim_unit.result _ c.loop-unit-test.true c.claim_unit.ensures.decided c.if-not-claim_unit.true c.loop-unit.invariant.free

pub loop-unit-preserved : goal.loop-unit-preserved
loop-unit-preserved c =
    let o = c.loop-unit.owners in
    let q = c.claim_unit.new.owners in
    let i = c.loop-unit.invariant in
    let p : c.args.part < length o.parts = omega (arith, i.many, c.requires.part) in
    let n = c.claim_unit.ensures.claimed c.if-not-claim_unit.false in
    record {
      free = claim-free o q c.args.part c.loop-unit.unit (c.args.first + c.args.count) c.claim_unit.result _ p c.loop-unit-test.true c.claim_unit.ensures.decided c.if-not-claim_unit.false n i.free;
      rest = claim-rest o q _ c.args.part c.loop-unit.unit (c.args.first + c.args.count) p c.loop-unit-test.true n i.rest;
      many = claim-many o q c.args.part _ n ∙ i.many;
      units = ap (λ r. r.units) n ∙ i.units;
    }

pub returns-clause-decided : goal.returns-clause-decided
returns-clause-decided c = claim-all c.loop-unit.owners (c.args.first + c.args.count) c.loop-unit.unit _ c.loop-unit-test.false c.loop-unit.invariant.free

pub returns-clause-claimed : goal.returns-clause-claimed
returns-clause-claimed c = λ h.
    claim-end c.loop-unit.owners _ c.args.part (c.args.first + c.args.count) c.loop-unit.unit (omega (arith, c.loop-unit.invariant.many, c.requires.part)) c.loop-unit-test.false c.loop-unit.invariant.rest
