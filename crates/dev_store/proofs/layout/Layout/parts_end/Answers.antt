use Rattle.std.proofs.Common.{◌≤◌, List, length, sym, subst}
use Rattle.std.specs.Prelude.{IsTrue}
use Rattle.std.specs.List.{list_all}
use Rattle.dev_store.specs.declared.layout.PhysicalPart.{PhysicalPart}
use Rattle.dev_store.specs.LayoutLines.{is_size}
use Rattle.dev_store.proofs.SizesLaid.{parts-few, parts-sized}
use Rattle.dev_store.proofs.layout.Layout.parts_end.Goals as goal

pub sizes-requires-clause-few : goal.sizes-requires-clause-few
sizes-requires-clause-few c =
    subst (λ (parts : List PhysicalPart). length parts ≤ 64) (sym c.as_slice.ensures) (parts-few _ _ c.self.invariant)

pub sizes-requires-clause-sized : goal.sizes-requires-clause-sized
sizes-requires-clause-sized c =
    subst (λ (parts : List PhysicalPart). IsTrue (list_all (λ p. is_size p.size) parts)) (sym c.as_slice.ensures)
    (parts-sized _ _ c.self.invariant)
