use Rattle.std.proofs.Common.{◌++◌, ap, ◌∙◌, map}
use Rattle.sample_product.specs.Products.{entry_of, given_files, drawn_files, found}
use Rattle.sample_product.proofs.FileLemmas.{file-found}
use Rattle.sample_product.proofs.files.sample_files.Goals as goal

pub returns : goal.returns
returns c =
    let given = c.in_ok-add_given.ensures ∙ ap (λ files. map entry_of files ++ given_files) c.new-files.ensures.items in
    let all = c.in_ok-add_drawn.ensures ∙ ap (λ s. map entry_of c.add_given.new.files.items ++ drawn_files s) c.new.ensures ∙ ap (λ l. l ++ drawn_files c.args.number) given in
    λ name. file-found c.add_drawn.new.files.items name ∙ ap (λ entries. found entries name) all
