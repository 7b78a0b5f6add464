use Rattle.std.proofs.Common.{◌∙◌, sym, ap, length}
use Rattle.std.specs.List.{flat_map, range_with_len}
use Rattle.super_meta.specs.Contents.{content}
use Rattle.dev_store.specs.Supers.{units_of}
use Rattle.dev_store.specs.SuperBounds.{are_free, claimed}
use Rattle.dev_store.proofs.MapLemmas.{mapped, free-unowned}
use Rattle.dev_store.proofs.layout.SuperPart.own_units.Goals as goal

pub returns-then-not-claim_table-clause-decided : goal.returns-then-not-claim_table-clause-decided
returns-then-not-claim_table-clause-decided c =
    let t = content c.args.table.now in
    let all = flat_map (units_of c.args.self.now t) t.partitions in
    sym (free-unowned c.unit_count.result 128 all)
    ∙ (ap (λ o. are_free o all) (sym c.in_ok-owners.ensures.unowned) ∙ (sym c.claim_table.ensures.decided ∙ c.if-not-claim_table.true))

pub returns-clause-decided : goal.returns-clause-decided
returns-clause-decided c =
    let t = content c.args.table.now in
    let all = flat_map (units_of c.args.self.now t) t.partitions in
    sym (free-unowned c.unit_count.result 128 all)
    ∙ (ap (λ o. are_free o all) (sym c.in_ok-owners.ensures.unowned) ∙ (sym c.claim_table.ensures.decided ∙ c.if-not-claim_table.false))

pub returns-clause-map : goal.returns-clause-map
returns-clause-map c =
    let t = content c.args.table.now in
    mapped c.args.self.now t c.unit_count.result _ _ c.unit_count.ensures.count c.requires.few (c.in_ok-parts.ensures.parts ∙ ap (range_with_len 0) (ap length c.as_slice.ensures.value))
    (c.claim_table.ensures.claimed c.if-not-claim_table.false ∙ ap (λ o. claimed c.args.self.now t o 0 t.partitions) c.in_ok-owners.ensures.unowned)
