use Rattle.std.proofs.Common.{◌∙◌, ap, sym, refl, Some}
use Rattle.dev_store.specs.declared.entries.Entry.TheVariants.{VariableLine}
use Rattle.dev_store.specs.LayoutLines.{variable_of}
use Rattle.dev_store.proofs.SizeLemmas.{variable-no-name, variable-no-value, variable-said}
use Rattle.dev_store.proofs.layout_line.read_variable.Goals as goal

pub returns-in_default-variable_name : goal.returns-in_default-variable_name
returns-in_default-variable_name c =
    ap variable_of (sym c.in-Some.ensures)
    ∙ variable-no-name c.in-Some.name.now c.in-Some.text.now c.in_default-variable_name.ensures

pub returns-then-not-is_value : goal.returns-then-not-is_value
returns-then-not-is_value c =
    ap variable_of (sym c.in-Some.ensures)
    ∙ variable-no-value c.in-Some.name.now c.in-Some.text.now (sym c.is_value.ensures ∙ c.if-not-is_value.true)

pub returns : goal.returns
returns c = (
  ap variable_of (sym c.in-Some.ensures)
      ∙ (variable-said c.in-Some.name.now c.in-Some.text.now c.in-Some-variable_name.name c.in-Some-variable_name.ensures
      (sym c.is_value.ensures ∙ c.if-not-is_value.false)
      ∙ ap (λ t. Some (VariableLine (record { name = c.in-Some-variable_name.name; text = t }))) (sym c.in-Ok.ensures)),
  refl,
)
