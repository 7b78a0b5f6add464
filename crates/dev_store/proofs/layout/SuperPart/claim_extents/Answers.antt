use Rattle.std.proofs.Common.{◌≡◌, ◌+◌, ◌<◌, ◌∙◌, length, drop, sym, ap, arith, ◌++◌}
use Rattle.std.specs.List.{flat_map, range_with_len}
use Rattle.unit_alloc.specs.Owning.{handed}
use Rattle.super_meta.specs.declared.table.Extent.{Extent}
use Rattle.dev_store.specs.Supers.{units_in}
use Rattle.dev_store.specs.SuperBounds.{are_free}
use Rattle.dev_store.proofs.OwnerLemmas.{extents-here, next-taken, next-free, next-rest, claim-many, none-free, none-handed}
use Rattle.dev_store.proofs.layout.SuperPart.claim_extents.Goals as goal

pub returns-then-not-claim_range-clause-decided : goal.returns-then-not-claim_range-clause-decided
returns-then-not-claim_range-clause-decided c =
    let o = c.loop-extent.owners in
    let i = c.loop-extent.invariant in
    let p : c.args.part < length o.parts = omega (arith, i.many, c.requires.part) in
    let d : Extent = record { sectors = 0; target = 0 } in
    let here = extents-here c.args.self.now c.args.extents.now c.loop-extent.extent-index d c.unit_at-first.result c.units_taken-count.result c.loop-extent-test.true c.unit_at-first.ensures.unit c.units_taken-count.ensures.units in
    next-taken o c.args.part (range_with_len c.unit_at-first.result c.units_taken-count.result) _ c.claim_range.result _ p c.claim_range.ensures.decided c.if-not-claim_range.true (ap (are_free o) (sym here) ∙ i.free)

pub loop-extent-preserved : goal.loop-extent-preserved
loop-extent-preserved c =
    let o = c.loop-extent.owners in
    let q = c.claim_range.new.owners in
    let i = c.loop-extent.invariant in
    let p : c.args.part < length o.parts = omega (arith, i.many, c.requires.part) in
    let d : Extent = record { sectors = 0; target = 0 } in
    let here = extents-here c.args.self.now c.args.extents.now c.loop-extent.extent-index d c.unit_at-first.result c.units_taken-count.result c.loop-extent-test.true c.unit_at-first.ensures.unit c.units_taken-count.ensures.units in
    let range = range_with_len c.unit_at-first.result c.units_taken-count.result in
    let n = c.claim_range.ensures.claimed c.if-not-claim_range.false in
    record {
      free = next-free o q c.args.part range _ c.claim_range.result _ p c.claim_range.ensures.decided c.if-not-claim_range.false n (ap (are_free o) (sym here) ∙ i.free);
      rest = next-rest o q _ c.args.part range _ p n (ap (handed o c.args.part) (sym here) ∙ i.rest);
      many = claim-many o q c.args.part range n ∙ i.many;
      units = ap (λ r. r.units) n ∙ i.units;
    }

pub returns-clause-decided : goal.returns-clause-decided
returns-clause-decided c =
    none-free c.loop-extent.owners c.args.extents.now (units_in c.args.self.now) c.loop-extent.extent-index _ c.loop-extent-test.false c.loop-extent.invariant.free

pub returns-clause-claimed : goal.returns-clause-claimed
returns-clause-claimed c = λ h.
    let p : c.args.part < length c.loop-extent.owners.parts = omega (arith, c.loop-extent.invariant.many, c.requires.part) in
    none-handed c.loop-extent.owners _ c.args.part c.args.extents.now (units_in c.args.self.now) c.loop-extent.extent-index p c.loop-extent-test.false c.loop-extent.invariant.rest
