use Rattle.std.proofs.Common.{[], ◌∙◌, ap}
use Rattle.std.specs.Option.{option_map_or}
use Rattle.std.proofs.lemmas.Result.{err_from_is_err_and}
use Rattle.product_info.specs.declared.info.InfoKind.TheVariants.{BadLine}
use Rattle.product_info.specs.declared.info.InfoError.TheVariants.{Bad}
use Rattle.product_info.specs.Blanks.{parts}
use Rattle.product_info.specs.RequirementText.{requirement_of}
use Rattle.product_info.proofs.ReadingLemmas.{lines-bad, passed-on}
use Rattle.product_info.proofs.requirements.read_requirements.Goals as goal

pub returns-in_err-read_line-clause-bad : goal.returns-in_err-read_line-clause-bad
returns-in_err-read_line-clause-bad c = λ line kind e.
    let p = err_from_is_err_and c.from_residual.result c.from_residual.ensures.1 in
    let same = passed-on {U = Unit {0}} c.from_residual.result p.0 c.in_err-read_line.field-0.0 (Bad line kind) p.1 p.2 e in
    lines-bad _ BadLine requirement_of c.loop-rest.number line c.first_part.result.0.now _ _ c.loop-rest.list kind
    c.loop-rest.invariant.read
    (ap (λ rest. option_map_or (λ left. parts 10 left.now) rest []) c.in-Some.is ∙ c.first_part.ensures.parts)
    (c.in_err-read_line.ensures.line line kind same)
    (c.in_err-read_line.ensures.bad line kind same)
