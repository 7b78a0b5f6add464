use Rattle.std.proofs.Common.{Bool, [], ◌∙◌, ap}
use Rattle.std.specs.Option.{option_map_or}
use Rattle.std.proofs.lemmas.Result.{err_from_is_err_and}
use Rattle.product_info.specs.declared.info.InfoError.TheVariants.{Bad}
use Rattle.product_info.specs.Blanks.{parts}
use Rattle.product_info.proofs.ReadingLemmas.{passed-on}
use Rattle.product_info.proofs.TaskLemmas.{first-bad}
use Rattle.product_info.proofs.tasks.skip_version.Goals as goal

pub returns-in_err-found-clause-bad : goal.returns-in_err-found-clause-bad
returns-in_err-found-clause-bad c = λ line kind e.
    let p = err_from_is_err_and c.from_residual.result c.from_residual.ensures.1 in
    let same = passed-on {U = Bool} c.from_residual.result p.0 c.in_err-found.field-0.0 (Bad line kind) p.1 p.2 e in
    first-bad _ c.loop-rest.number line c.first_part.result.0.now _ _ kind
    c.loop-rest.invariant.read
    (ap (λ rest. option_map_or (λ left. parts 10 left.now) rest []) c.in-Some.is ∙ c.first_part.ensures.parts)
    (c.in_err-found.ensures.line line kind same)
    (c.in_err-found.ensures.bad line kind same)
