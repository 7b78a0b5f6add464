use Rattle.std.proofs.Common.{◌∙◌, sym, ap, true, false}
use Rattle.std.specs.Prelude.{bytes_eq}
use Rattle.std.specs.Map.{lookup}
use Rattle.dev_model.specs.Variables.{plain_rows}
use Rattle.dev_store.specs.ToldRows.{told_device, row_of}
use Rattle.dev_store.proofs.FindLemmas.{found-row, no-row}
use Rattle.dev_store.proofs.variables_find.find_plain.Goals as goal

pub returns-in-Later : goal.returns-in-Later
returns-in-Later c =
    let rows = plain_rows (told_device c.args.facts.now) in
    let name = c.args.name.now in
    sym (ap (lookup (λ n. bytes_eq n name)) (no-row rows c.loop-place.place c.in-Later.field-0 c.in-Later.ensures)) ∙ c.loop-place.invariant

pub returns-then-is_joined : goal.returns-then-is_joined
returns-then-is_joined c =
    let rows = plain_rows (told_device c.args.facts.now) in
    let name = c.args.name.now in
    sym (found-row (λ n. bytes_eq n name) rows c.loop-place.place (row_of c.in-Found.row) true c.in-Found.ensures (sym c.is_joined.ensures ∙ c.if-is_joined.true)) ∙ c.loop-place.invariant

pub loop-place-preserved : goal.loop-place-preserved
loop-place-preserved c =
    let rows = plain_rows (told_device c.args.facts.now) in
    let name = c.args.name.now in
    sym (found-row (λ n. bytes_eq n name) rows c.loop-place.place (row_of c.in-Found.row) false c.in-Found.ensures (sym c.is_joined.ensures ∙ c.if-is_joined.false)) ∙ c.loop-place.invariant
