use Rattle.std.proofs.Common.{◌≡◌, length}
use Rattle.unit_alloc.proofs.tests.answers_as_the_plain_body.Given as goal

abbrev pub invariant-loop-call : goal.invariant-loop-call
invariant-loop-call g l = (length l.kept.parts ≡ 6) × (l.kept.units ≡ 200) × (length l.plain.parts ≡ 6) × (l.plain.units ≡ 200)
