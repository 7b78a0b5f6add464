use Rattle.std.proofs.Common.{◌∙◌, sym, ap, length, drop, arith, take_all}
use Rattle.std.specs.Prelude.{bytes_eq}
use Rattle.std.proofs.lemmas.List.{length-drop}
use Rattle.dev_store.proofs.FindLemmas.{joined-same, joined-other, short-other}
use Rattle.dev_store.proofs.variables_find.is_joined.Goals as goal

pub returns-then-name-head : goal.returns-then-name-head
returns-then-name-head c = short-other c.args.head.now c.args.of.now c.args.name.now c.if-name-head.true

pub returns-then-eq : goal.returns-then-eq
returns-then-eq c =
    let h = c.args.head.now in
    let n = c.args.name.now in
    let l = length-drop (length h) n in
    c.eq-then-eq.ensures ∙ (ap (λ t. bytes_eq t c.args.of.now) (take_all _ (drop (length h) n) (omega arith)) ∙ joined-same h c.args.of.now n (sym c.eq.ensures ∙ c.if-eq.true))

pub returns-else-eq : goal.returns-else-eq
returns-else-eq c = c.if-eq.false ∙ joined-other c.args.head.now c.args.of.now c.args.name.now (sym c.eq.ensures ∙ c.if-eq.false)
