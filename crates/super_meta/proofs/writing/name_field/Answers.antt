use Rattle.std.proofs.Common.{◌≡◌, ℕ, List, ◌++◌, length, drop, replicate, ap, ◌∙◌}
use Rattle.std.proofs.lemmas.List.{drop-replicate}
use Rattle.super_meta.specs.Entries.{name_field}
use Rattle.super_meta.proofs.writing.name_field.Goals as goal

field-is : (name text new : List ℕ) → new ≡ text → text ≡ name → new ++ drop (length text) (replicate 36 0) ≡ name_field name
field-is name text new e f =
    ap (λ t. t ++ drop (length text) (replicate 36 0)) (e ∙ f)
    ∙ (ap (λ t. name ++ drop (length t) (replicate 36 0)) f ∙ ap (λ t. name ++ t) (drop-replicate {X = ℕ} (length name) 36 0))

pub returns-clause-field : goal.returns-clause-field
returns-clause-field c = field-is c.args.name.now c.bytes-text.result.now c.copy_from_slice.new.self c.copy_from_slice.ensures.after c.bytes-text.ensures.bytes
