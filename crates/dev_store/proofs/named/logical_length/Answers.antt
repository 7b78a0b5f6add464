use Rattle.std.proofs.Common.{◌<◌, ◌^◌, ◌∙◌, sym, ap, subst}
use Rattle.std.specs.Prelude.{bytes_eq, option_map}
use Rattle.dev_store.specs.Supers.{bytes_in}
use Rattle.dev_store.specs.ToldRows.{part_extents}
use Rattle.dev_store.proofs.NamedLemmas.{find-all}
use Rattle.dev_store.proofs.named.logical_length.Goals as goal

pub size_of-requires : goal.size_of-requires
size_of-requires c =
    subst (λ es. bytes_in es < 2 ^ 64) (sym c.extents_of.ensures.extents)
    (find-all (λ p. bytes_in (part_extents c.args.extents.now p) < 2 ^ 64) (λ p. bytes_eq p.name c.args.name.now) c.args.parts.now c.in-Some.part.now c.requires.summed
    (ap (option_map (λ p. p.now)) (sym c.in-Some.is) ∙ c.find_logical.ensures))
