use Rattle.std.proofs.Common.{arith}
use Rattle.std.specs.Prelude.{bytes_eq}
use Rattle.dev_model.specs.Variables.{plain_rows}
use Rattle.dev_store.specs.ToldRows.{told_device, text_of}
use Rattle.dev_store.proofs.FindLemmas.{found-short, plain-short}
use Rattle.dev_store.proofs.variables_show.show_value.Goals as goal

pub show_text-requires : goal.show_text-requires
show_text-requires c =
    let d = told_device c.args.facts.now in
    let s = found-short (λ n. bytes_eq n c.args.name.now) (plain_rows d) (text_of c.in-Some.row.text) (plain-short d c.requires.short) c.in-Some.ensures in
    omega arith
