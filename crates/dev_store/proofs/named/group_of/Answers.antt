use Rattle.std.proofs.Common.{◌<◌, ◌∙◌, sym, ap, length, find, subst, Some}
use Rattle.std.specs.Prelude.{bytes_eq, option_map, nat_lt}
use Rattle.super_meta.specs.Held.{group_name}
use Rattle.dev_store.proofs.NamedLemmas.{find-passes, below}
use Rattle.dev_store.proofs.named.group_of.Goals as goal

pub group_at-requires : goal.group_at-requires
group_at-requires c =
    let gs = c.args.table.now.groups.items in
    let found = ap (option_map (λ p. p.now)) (sym c.in-Some.is) ∙ (c.find_logical.ensures ∙ ap (find (λ p. bytes_eq p.name c.args.name.now)) c.deref.ensures.value) in
    subst (λ l. c.in-Some.partition.now.group < length l) (sym c.deref-in-Some.ensures.value)
    (below c.in-Some.partition.now.group (length gs) (find-passes (λ p. nat_lt p.group (length gs)) (λ p. bytes_eq p.name c.args.name.now) c.args.table.now.partitions.items c.in-Some.partition.now c.requires.there found))

pub returns-in-Some : goal.returns-in-Some
returns-in-Some c =
    let gs = c.args.table.now.groups.items in
    let found = ap (option_map (λ p. p.now)) (sym c.in-Some.is) ∙ (c.find_logical.ensures ∙ ap (find (λ p. bytes_eq p.name c.args.name.now)) c.deref.ensures.value) in
    ap Some (c.group_at.ensures ∙ ap (λ l. group_name l c.in-Some.partition.now.group) c.deref-in-Some.ensures.value)
    ∙ ap (option_map (λ p. group_name gs p.group)) found
