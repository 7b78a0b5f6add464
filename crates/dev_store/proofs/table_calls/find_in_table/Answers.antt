use Rattle.std.proofs.Common.{◌∙◌, ap, sym}
use Rattle.std.specs.Prelude.{position, bytes_eq}
use Rattle.dev_store.proofs.CallFound.{not-found}
use Rattle.dev_store.proofs.table_calls.find_in_table.Goals as goal

pub returns-in_default-place_of : goal.returns-in_default-place_of
returns-in_default-place_of c =
    not-found c.args.layout.now.super_part c.args.within.now c.args.name.now c.in-Some.s c.in-Some-within.within (sym c.super_part.ensures ∙ c.in-Some.is) c.in-Some-within.is
    (ap (position (λ p. bytes_eq p.name c.args.name.now)) (sym c.deref.ensures.value) ∙ (sym c.place_of.ensures ∙ c.in_default-place_of.is))
