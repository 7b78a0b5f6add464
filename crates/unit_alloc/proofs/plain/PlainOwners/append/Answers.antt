-- The new entry is behind those of the log, which has room for it.
use Rattle.std.proofs.Common.{sym, subst, arith, ap, ◌∙◌}
use Rattle.unit_alloc.specs.Log.{replayed, IsLog}
use Rattle.unit_alloc.proofs.LogLemmas.{log_append}
use Rattle.unit_alloc.proofs.plain.PlainOwners.append.Goals as goal

pub unreachable-requires : goal.unreachable-requires
unreachable-requires c =
    let a = c.self.inside in
    let one = log_append a.units a.parts c.args.part c.args.unit a.entries.items c.args.self.now c.self.view_is c.self.invariant.0 c.requires.part c.requires.unit c.requires.free in
    omega (arith, one.0, c.self.invariant.1, c.in_default.ensures.full)

pub invariant_of-self : goal.invariant_of-self
invariant_of-self c =
    let a = c.self.inside in
    let one = log_append a.units a.parts c.args.part c.args.unit a.entries.items c.args.self.now c.self.view_is c.self.invariant.0 c.requires.part c.requires.unit c.requires.free in
    (rw c.in-Ok.ensures.items one.1, omega (arith, c.self.invariant.1, c.push.ensures.capacity), c.self.invariant.2)

pub returns-clause-handed : goal.returns-clause-handed
returns-clause-handed c =
    let a = c.self.inside in
    let one = log_append a.units a.parts c.args.part c.args.unit a.entries.items c.args.self.now c.self.view_is c.self.invariant.0 c.requires.part c.requires.unit c.requires.free in
    ap (replayed a.units a.parts) c.in-Ok.ensures.items ∙ one.2

pub returns-clause-one_owner : goal.returns-clause-one_owner
returns-clause-one_owner c =
    let a = c.self.inside in
    let one =
    log_append a.units a.parts c.args.part c.args.unit a.entries.items c.args.self.now c.self.view_is c.self.invariant.0 c.requires.part c.requires.unit c.requires.free in
    (subst (IsLog a.units a.parts) (sym c.in-Ok.ensures.items) one.1).one
