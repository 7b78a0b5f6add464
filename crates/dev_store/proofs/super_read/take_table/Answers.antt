use Rattle.std.proofs.Common.{◌∙◌, sym, ap}
use Rattle.std.specs.Prelude.{◌&&◌}
use Rattle.std.specs.List.{flat_map}
use Rattle.super_meta.specs.Contents.{content}
use Rattle.dev_store.specs.Supers.{are_different, are_good_units, units_of}
use Rattle.dev_store.specs.SuperBounds.{are_good_parts}
use Rattle.dev_store.proofs.SuperReadLemmas.{good-units, good-inside, none-decided, some-decided, never-good, all-good}
use Rattle.dev_store.proofs.super_read.take_table.Goals as goal

pub returns-then-not-are_good_parts-clause-bad : goal.returns-then-not-are_good_parts-clause-bad
returns-then-not-are_good_parts-clause-bad c = λ e.
    ap (are_good_units c.args.parts.now c.args.s.now) (sym c.take_rooms.ensures.same)
    ∙ (good-units c.args.parts.now c.args.s.now (content c.take_rooms.new.table)
    ∙ ap (λ b. b && are_different (flat_map (units_of c.args.s.now (content c.take_rooms.new.table)) c.take_rooms.new.table.partitions.items)) (sym c.are_good_parts.ensures ∙ c.if-not-are_good_parts.true))

pub own_units-requires-clause-few : goal.own_units-requires-clause-few
own_units-requires-clause-few c =
    (good-inside c.args.parts.now c.args.s.now (content c.take_rooms.new.table) (sym c.are_good_parts.ensures ∙ c.if-not-are_good_parts.false)).0

pub own_units-requires-clause-inside : goal.own_units-requires-clause-inside
own_units-requires-clause-inside c =
    (good-inside c.args.parts.now c.args.s.now (content c.take_rooms.new.table) (sym c.are_good_parts.ensures ∙ c.if-not-are_good_parts.false)).1

pub returns-in_default-clause-bad : goal.returns-in_default-clause-bad
returns-in_default-clause-bad c = λ e.
    ap (are_good_units c.args.parts.now c.args.s.now) (sym c.take_rooms.ensures.same)
    ∙ never-good c.args.parts.now c.args.s.now (content c.take_rooms.new.table) (none-decided (are_different (flat_map (units_of c.args.s.now (content c.take_rooms.new.table)) c.take_rooms.new.table.partitions.items)) c.in-Ok-own_units.map c.in_default.is c.in-Ok-own_units.ensures.decided)

pub returns-clause-good : goal.returns-clause-good
returns-clause-good c =
    all-good c.args.parts.now c.args.s.now (content c.take_rooms.new.table) (sym c.are_good_parts.ensures ∙ c.if-not-are_good_parts.false)
    (some-decided (are_different (flat_map (units_of c.args.s.now (content c.take_rooms.new.table)) c.take_rooms.new.table.partitions.items)) c.in-Ok-own_units.map _ c.in-Some.is c.in-Ok-own_units.ensures.decided)
