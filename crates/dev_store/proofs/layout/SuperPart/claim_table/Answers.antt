use Rattle.std.proofs.Common.{◌≡◌, ◌+◌, ◌<◌, ◌≤◌, ◌∙◌, length, take, drop, get_or, sym, ap, arith, ◌++◌, subst}
use Rattle.std.specs.List.{flat_map}
use Rattle.super_meta.specs.Contents.{content}
use Rattle.dev_store.specs.Supers.{units_in, units_of}
use Rattle.dev_store.specs.SuperBounds.{are_free, claimed}
use Rattle.dev_store.proofs.OwnerLemmas.{partitions-here, claimed-here, lie-part, next-taken, next-free, claim-many, none-free, none-claimed, same-item}
use Rattle.dev_store.proofs.layout.SuperPart.claim_table.Goals as goal

pub overflow_cast-part : goal.overflow_cast-part
overflow_cast-part c =
    omega (arith, c.requires.few, c.loop-part-test.true, ap length c.deref-partition-items.ensures.value)

pub claim_extents-requires-clause-inside : goal.claim_extents-requires-clause-inside
claim_extents-requires-clause-inside c =
    lie-part c.args.self.now c.extents_of-extents.result.now c.args.table.now.extents.items c.partition-item.result.count c.partition-item.result.first
    (c.extents_of-extents.ensures.extents ∙ ap (λ l. take c.partition-item.result.count (drop c.partition-item.result.first l)) c.deref.ensures.value) c.requires.inside

pub returns-then-not-claim_extents-clause-decided : goal.returns-then-not-claim_extents-clause-decided
returns-then-not-claim_extents-clause-decided c =
    let o = c.loop-part.owners in
    let i = c.loop-part.invariant in
    let ps = c.args.table.now.partitions.items in
    let n = c.loop-part.part in
    let item = c.partition-item.result in
    let xs = c.extents_of-extents.result.now in
    let there : n < length ps = omega (arith, c.loop-part-test.true, ap length c.deref-partition-items.ensures.value) in
    let p : n < length o.parts = omega (arith, i.many, c.requires.parts, c.requires.few) in
    let is = same-item c.deref-partition-items.result.now ps n item c.deref-partition-items.ensures.value c.partition-item.is in
    let own = c.extents_of-extents.ensures.extents ∙ ap (λ l. take item.count (drop item.first l)) c.deref.ensures.value in
    let here = partitions-here c.args.self.now (content c.args.table.now) n item xs there is own in
    next-taken o n (flat_map (units_in c.args.self.now) xs) _ c.claim_extents.result _ p c.claim_extents.ensures.decided c.if-not-claim_extents.true (ap (are_free o) (sym here) ∙ i.free)

pub loop-part-preserved : goal.loop-part-preserved
loop-part-preserved c =
    let s = c.args.self.now in
    let t = content c.args.table.now in
    let o = c.loop-part.owners in
    let q = c.claim_extents.new.owners in
    let i = c.loop-part.invariant in
    let ps = c.args.table.now.partitions.items in
    let n = c.loop-part.part in
    let item = c.partition-item.result in
    let xs = c.extents_of-extents.result.now in
    let there : n < length ps = omega (arith, c.loop-part-test.true, ap length c.deref-partition-items.ensures.value) in
    let p : n < length o.parts = omega (arith, i.many, c.requires.parts, c.requires.few) in
    let is = same-item c.deref-partition-items.result.now ps n item c.deref-partition-items.ensures.value c.partition-item.is in
    let own = c.extents_of-extents.ensures.extents ∙ ap (λ l. take item.count (drop item.first l)) c.deref.ensures.value in
    let here = partitions-here s t n item xs there is own in
    let new = c.claim_extents.ensures.claimed c.if-not-claim_extents.false in
    record {
      free = next-free o q n (flat_map (units_in s) xs) _ c.claim_extents.result _ p c.claim_extents.ensures.decided c.if-not-claim_extents.false new (ap (are_free o) (sym here) ∙ i.free);
      rest = claimed-here s t o q _ n item xs there is own new i.rest;
      many = claim-many o q n (flat_map (units_in s) xs) new ∙ i.many;
      units = ap (λ r. r.units) new ∙ i.units;
    }

pub returns-clause-decided : goal.returns-clause-decided
returns-clause-decided c =
    let done : length c.args.table.now.partitions.items ≤ c.loop-part.part = omega (arith, c.loop-part-test.false, ap length c.deref-partition-items.ensures.value) in
    none-free c.loop-part.owners c.args.table.now.partitions.items (units_of c.args.self.now (content c.args.table.now)) c.loop-part.part _ done c.loop-part.invariant.free

pub returns-clause-claimed : goal.returns-clause-claimed
returns-clause-claimed c = λ h.
    let done : length c.args.table.now.partitions.items ≤ c.loop-part.part = omega (arith, c.loop-part-test.false, ap length c.deref-partition-items.ensures.value) in
    none-claimed c.args.self.now (content c.args.table.now) c.loop-part.owners _ c.loop-part.part done c.loop-part.invariant.rest
