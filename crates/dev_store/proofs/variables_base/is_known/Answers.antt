use Rattle.std.proofs.Common.{◌∙◌, sym, ap}
use Rattle.dev_model.specs.Variables.{base_name}
use Rattle.dev_store.specs.StoreCalls.{names_of}
use Rattle.dev_store.specs.ToldRows.{told_device}
use Rattle.dev_store.proofs.BaseLemmas.{base-turns, known-then, unknown-then}
use Rattle.dev_store.proofs.variables_base.is_known.Goals as goal

pub returns-then-eq : goal.returns-then-eq
returns-then-eq c =
    let d = told_device c.args.facts.now in
    let t = base-turns (base_name d) (names_of d) c.loop-earlier.earlier c.in-Some.name.now c.base_name.result.now c.in-Some.ensures (c.base_name.ensures ∙ ap (base_name d) c.bytes.ensures.bytes) in
    known-then (base_name d) (names_of d) c.loop-earlier.earlier c.args.place c.args.base.now c.base_name.result.now t (sym c.eq.ensures ∙ c.if-eq.true) c.loop-earlier-test.true

pub loop-earlier-preserved : goal.loop-earlier-preserved
loop-earlier-preserved c =
    let d = told_device c.args.facts.now in
    let t = base-turns (base_name d) (names_of d) c.loop-earlier.earlier c.in-Some.name.now c.base_name.result.now c.in-Some.ensures (c.base_name.ensures ∙ ap (base_name d) c.bytes.ensures.bytes) in
    unknown-then (base_name d) (names_of d) c.loop-earlier.earlier c.args.base.now c.base_name.result.now t (sym c.eq.ensures ∙ c.if-eq.false) c.loop-earlier.invariant
