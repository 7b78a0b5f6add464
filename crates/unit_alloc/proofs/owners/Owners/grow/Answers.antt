-- The lowest free unit goes behind those that were handed out so far, and none is free before its word.
use Rattle.std.proofs.Common.{◌<◌, ℕ, sym, subst, arith}
use Rattle.unit_alloc.specs.Owning.{Owning, times}
use Rattle.unit_alloc.proofs.HandedLemmas.{times-handed_one}
use Rattle.unit_alloc.proofs.GrownLemmas.{Grown-more}
use Rattle.unit_alloc.proofs.owners.Owners.grow.Goals as goal

pub loop-count-preserved : goal.loop-count-preserved
loop-count-preserved c =
    let m = c.loop-count.self in
    let u : ℕ = c.lowest_free-unit.result in
    let grown = c.loop-count.invariant.0 in (
      rw c.append.ensures.handed (Grown-more c.args.self.now m c.args.part c.loop-count._count u grown c.requires (omega arith) c.lowest_free-unit.ensures),
      c.append.ensures.one_owner,
      λ k lt. subst (λ (n : Owning). 0 < times k n.parts) (sym c.append.ensures.handed)
          (let e = times-handed_one k m c.args.part u (omega (arith, c.requires, grown.parts)) in
          let b = c.lowest_free-unit.ensures.lowest k (omega arith) in
          omega arith),
    )
