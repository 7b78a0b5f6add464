use Rattle.std.proofs.Common.{◌∙◌, sym}
use Rattle.dev_store.proofs.SizeLemmas.{super-sized-not, super-sized}
use Rattle.dev_store.proofs.layout_line.super_line.Goals as goal

pub returns-in_default-super_part : goal.returns-in_default-super_part
returns-in_default-super_part c =
    super-sized-not c.args.name.now c.args.size.now c.args.unit.now c.args.max_size.now c.args.slots.now
    c.in-Some.name c.number-size.result c.number-unit.result c.number-max_size.result c.number-slots.result
    c.in-Some.ensures (sym c.are_numbers.ensures.numbers ∙ c.if-not-are_numbers.false)
    c.number-size.ensures c.number-unit.ensures c.number-max_size.ensures c.number-slots.ensures c.in_default-super_part.ensures

pub returns : goal.returns
returns c =
    super-sized c.args.name.now c.args.size.now c.args.unit.now c.args.max_size.now c.args.slots.now
    c.in-Some.name c.number-size.result c.number-unit.result c.number-max_size.result c.number-slots.result c.in-Some-super_part.part
    c.in-Some.ensures (sym c.are_numbers.ensures.numbers ∙ c.if-not-are_numbers.false)
    c.number-size.ensures c.number-unit.ensures c.number-max_size.ensures c.number-slots.ensures c.in-Some-super_part.ensures
