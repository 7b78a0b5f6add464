-- The log has no entries.
use Rattle.std.proofs.Common.{◌≡◌, ◌≤◌, [], rules, arith}
use Rattle.std.specs.Vec.{vec_capacity}
use Rattle.unit_alloc.proofs.LogLemmas.{IsLog-empty, replayed_empty}
use Rattle.unit_alloc.proofs.plain.PlainOwners.new.Goals as goal

pub invariant_of-result : goal.invariant_of-result
invariant_of-result c =
    let e : c.in_ok-entries.entries.items ≡ [] = search rules in
    let room : c.args.units ≤ vec_capacity c.in_ok-entries.entries = search rules in
    (IsLog-empty c.args.units c.args.parts c.in_ok-entries.entries.items e, room, omega arith)

pub returns-clause-unowned : goal.returns-clause-unowned
returns-clause-unowned c =
    let e : c.in_ok-entries.entries.items ≡ [] = search rules in
    replayed_empty c.args.units c.args.parts c.in_ok-entries.entries.items e

pub returns-clause-one_owner : goal.returns-clause-one_owner
returns-clause-one_owner c =
    let e : c.in_ok-entries.entries.items ≡ [] = search rules in
    (IsLog-empty c.args.units c.args.parts c.in_ok-entries.entries.items e).one
