use Rattle.std.proofs.Common.{◌∙◌, ap, sym, Some, None, Err}
use Rattle.dev_store.proofs.PartFound.{part-bounded}
use Rattle.dev_store.proofs.CreateFlaws.{within-flaw, err-is}
use Rattle.dev_store.proofs.create_plan.find_room.Goals as goal

pub room_for-requires-clause-bounded : goal.room_for-requires-clause-bounded
room_for-requires-clause-bounded c = part-bounded c.args.layout.now c.in-Some.s c.requires.laid (sym c.in-Some.is ∙ c.super_part.ensures)

pub returns-in-Ok-clause-taken : goal.returns-in-Ok-clause-taken
returns-in-Ok-clause-taken c = λ name.
    within-flaw c.args.layout.now.super_part c.args.within.now c.in-Some.s c.in-Some-within.within name c.args.size None (sym c.in-Some.is ∙ c.super_part.ensures) c.in-Some-within.is (c.in-Ok.ensures.taken name)

pub returns-in-Err-clause-refused : goal.returns-in-Err-clause-refused
returns-in-Err-clause-refused c = λ e name h.
    within-flaw c.args.layout.now.super_part c.args.within.now c.in-Some.s c.in-Some-within.within name c.args.size (Some e) (sym c.in-Some.is ∙ c.super_part.ensures) c.in-Some-within.is (c.in-Err.ensures.refused e name (ap Err (err-is c.in-Err.refusal e h)))
