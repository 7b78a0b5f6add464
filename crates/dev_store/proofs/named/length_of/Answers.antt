use Rattle.std.proofs.Common.{◌∙◌, sym, ap, find}
use Rattle.std.specs.Prelude.{bytes_eq, option_map}
use Rattle.std.specs.Option.{option_or}
use Rattle.dev_store.specs.Supers.{bytes_in}
use Rattle.dev_store.specs.ToldRows.{part_extents}
use Rattle.dev_store.proofs.NamedLemmas.{length-told}
use Rattle.dev_store.proofs.named.length_of.Goals as goal

pub returns-in-Some : goal.returns-in-Some
returns-in-Some c =
    let f = c.args.facts.now in
    let n = c.args.name.now in
    ap (λ o. option_or o (option_map (λ p. bytes_in (part_extents f.extents.now p)) (find (λ p. bytes_eq p.name n) f.logical.now))) (sym c.in-Some.is ∙ c.physical_length.ensures)
    ∙ sym (length-told f n)

pub returns-in-None : goal.returns-in-None
returns-in-None c =
    let f = c.args.facts.now in
    let n = c.args.name.now in
    c.logical_length.ensures
    ∙ (ap (λ o. option_or o (option_map (λ p. bytes_in (part_extents f.extents.now p)) (find (λ p. bytes_eq p.name n) f.logical.now))) (sym c.in-None.is ∙ c.physical_length.ensures)
    ∙ sym (length-told f n))
