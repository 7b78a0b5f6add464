-- The next unit has the next number, or the run ends with the last one.
use Rattle.std.proofs.Common.{◌≡◌, ◌-◌, ◌+◌, ℕ, refl, ap, sym, ◌∙◌, arith, get_or}
use Rattle.std.proofs.lemmas.Bool.Decides.{nat_tests}
use Rattle.unit_alloc.specs.Owning.{run_from}
use Rattle.unit_alloc.specs.Chains.{linked, stepped}
use Rattle.unit_alloc.proofs.LinkedLemmas.{run_from-linked_yes, run_from-linked_no, run_from-linked_end, stepped-zero, stepped_more}
use Rattle.unit_alloc.proofs.owners.run_length.Goals as goal

pub loop-run-init : goal.loop-run-init
loop-run-init c = (
  omega arith,
  omega arith,
  sym (stepped-zero c.args.next.now c.args.first),
  refl,
  run_from-linked_yes c.args.next.now c.args.first c.args.first c.args.count c.requires.some refl,
)

pub loop-run-preserved : goal.loop-run-preserved
loop-run-preserved c =
    let next = c.args.next.now in
    let first = c.args.first in
    let run = c.loop-run.run in
    let count = c.args.count in
    let inv = c.loop-run.invariant in
    let unit : ℕ = get_or next c.loop-run.last 0 in
    let v : ℕ = get_or next unit 0 in
    let is : unit ≡ c.loop-run.last + 1 = grind (arith, nat_tests) in
    let step = run_from-linked_yes next unit (first + run) (count - run) (omega arith) (omega (arith, inv.3)) in
    let same : run_from (first + run + 1) (linked next v (count - run - 1)) ≡ run_from (first + (run + 1)) (linked next v (count - (run + 1))) =
    ap (λ k. run_from k (linked next v (count - run - 1))) (omega arith) ∙ ap (λ k. run_from (first + (run + 1)) (linked next v k)) (omega arith) in (
      omega arith,
      omega arith,
      ap (λ k. get_or next k 0) inv.2 ∙ sym (stepped_more next first (run - 1)) ∙ ap (stepped next first) (omega (arith, inv.0)),
      omega (arith, inv.3),
      omega (arith, inv.4),
    )

pub returns-after-loop-run : goal.returns-after-loop-run
returns-after-loop-run c =
    let next = c.args.next.now in
    let inv = c.loop-run.invariant in
    let none = run_from-linked_end next (get_or next c.loop-run.last 0) (c.args.first + c.loop-run.run) (c.args.count - c.loop-run.run) (omega arith) in
    omega (arith, inv.4)

pub returns-then-not-is_sum : goal.returns-then-not-is_sum
returns-then-not-is_sum c =
    let next = c.args.next.now in
    let inv = c.loop-run.invariant in
    let unit : ℕ = get_or next c.loop-run.last 0 in
    let isnt : unit ≡ c.args.first + c.loop-run.run → ⊥ = λ e. grind (arith, nat_tests, inv.3) in
    let none = run_from-linked_no next unit (c.args.first + c.loop-run.run) (c.args.count - c.loop-run.run) (omega arith) isnt in
    omega (arith, inv.4)
