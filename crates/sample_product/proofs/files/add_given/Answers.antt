use Rattle.std.proofs.Common.{rules, ◌≡◌, ◌++◌, [], ◌∷◌, ap, ◌∙◌, map, codes}
use Rattle.sample_product.specs.Products.{entry, entry_of, requirements, tasks}
use Rattle.sample_product.specs.Metadata.{super_image}
use Rattle.sample_product.proofs.DrawLemmas.{grown}
use Rattle.sample_product.proofs.files.add_given.Goals as goal

pub returns : goal.returns
returns c =
    let old = map entry_of c.args.files.now.items in
    let a = entry (codes "android-info.txt") requirements ∷ [] in
    let b = entry (codes "fastboot-info.txt") tasks ∷ [] in
    let d = entry (codes "super_empty.img") super_image ∷ [] in
    let text : c.in_ok-to_vec.field-0.items ≡ c.requirements.result.now = search rules in
    let text-2 : c.in_ok-to_vec-2.field-0.items ≡ c.tasks.result.now = search rules in
    let one = c.in_ok-add.ensures ∙ ap (λ t. old ++ entry (codes "android-info.txt") t ∷ []) (text ∙ c.requirements.ensures) in
    let two = grown old a b one (c.in_ok-add-2.ensures ∙ ap (λ t. map entry_of c.add.new.files.items ++ entry (codes "fastboot-info.txt") t ∷ []) (text-2 ∙ c.tasks.ensures)) in
    grown old (a ++ b) d two (c.in_ok-add-3.ensures ∙ ap (λ t. map entry_of c.add-2.new.files.items ++ entry (codes "super_empty.img") t ∷ []) c.in_ok-super_image.ensures)
