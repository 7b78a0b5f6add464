use Rattle.std.proofs.Common.{arith}
use Rattle.super_meta.proofs.GeometryLemmas.{found-by, only-by}
use Rattle.super_meta.proofs.geometry.read_geometry.Goals as goal

pub returns-clause-found : goal.returns-clause-found
returns-clause-found c = found-by c.args.bytes.now c.checked.result (λ i. omega (arith, c.type_inv.bytes i)) c.checked.ensures

pub returns-clause-only : goal.returns-clause-only
returns-clause-only c = only-by c.args.bytes.now c.checked.result c.checked.ensures
