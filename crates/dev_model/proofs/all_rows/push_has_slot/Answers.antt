use Rattle.std.proofs.Common.{◌≡◌, [], ◌∷◌, ◌++◌, Some, refl, ap, sym, ◌∙◌, codes}
use Rattle.std.specs.Prelude.{option_map, option_to_list}
use Rattle.dev_model.specs.Variables.{has_slot}
use Rattle.dev_model.proofs.RowLemmas.{pair_of}
use Rattle.dev_model.proofs.all_rows.push_has_slot.Goals as goal

pub returns : goal.returns
returns c =
    let base = c.args.base.now in
    let told : Some c.in-Some.text ≡ has_slot c.args.dev.now base = sym c.in-Some.is ∙ c.in_ok-text.ensures in
    c.in_ok-push_row_of.ensures
    ∙ ap (λ t. c.args.rows.now ++ t ∷ []) (pair_of _ _ _ (codes "has-slot:") base c.in-Some.text c.as_slice.ensures refl c.as_slice-2.ensures)
    ∙ ap (λ o. c.args.rows.now ++ option_to_list (option_map (λ text. (codes "has-slot:" ++ base, text)) o)) told
