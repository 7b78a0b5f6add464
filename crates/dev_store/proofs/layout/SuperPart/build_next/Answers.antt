use Rattle.std.proofs.Common.{◌∙◌, length, ap, arith}
use Rattle.super_meta.specs.Contents.{content}
use Rattle.dev_store.specs.Building.{headed, built, planned_range}
use Rattle.dev_store.proofs.BuildNext.{replaced-many, replaced-built}
use Rattle.dev_store.proofs.layout.SuperPart.build_next.Goals as goal

pub add_range-requires-clause-few : goal.add_range-requires-clause-few
add_range-requires-clause-few c =
    let n = replaced-many (content c.args.table.now) c.args.parts.now c.args.place c.args.planned c.requires.many c.requires.within in
    let z = ap (λ t. length t.partitions) c.begin_as.ensures.table in
    omega (arith, n, z, c.requires.few)

pub add_any-requires-clause-few : goal.add_any-requires-clause-few
add_any-requires-clause-few c =
    let n = replaced-many (content c.args.table.now) c.args.parts.now c.args.place c.args.planned c.requires.many c.requires.within in
    let z = ap (λ t. length t.partitions) c.begin_as.ensures.table in
    omega (arith, n, z, c.requires.few, c.add_range.ensures.few)

pub add_range-requires-2-clause-few : goal.add_range-requires-2-clause-few
add_range-requires-2-clause-few c =
    let n = replaced-many (content c.args.table.now) c.args.parts.now c.args.place c.args.planned c.requires.many c.requires.within in
    let z = ap (λ t. length t.partitions) c.begin_as.ensures.table in
    omega (arith, n, z, c.requires.few, c.add_range.ensures.few, c.add_any.ensures.few)

pub returns-clause-table : goal.returns-clause-table
returns-clause-table c =
    let t = content c.args.table.now in
    replaced-built c.args.self.now c.args.owners.now t (headed c.args.self.now t) (content c.add_range.new.next) (content c.add_any.new.next) _ c.args.parts.now c.args.place c.args.planned c.requires.many
    (c.add_range.ensures.table ∙ ap (λ h. built c.args.self.now c.args.owners.now h (planned_range t c.args.parts.now 0 c.args.place)) c.begin_as.ensures.table)
    c.add_any.ensures.table c.add_range-2.ensures.table
