use Rattle.std.proofs.Common.{◌≡◌, ◌∙◌, ap, sym, subst, ◌-◌, ◌≤◌, true, false, length, map, arith}
use Rattle.std.specs.Prelude.{nat_le}
use Rattle.std.proofs.lemmas.Bool.Decides.{nat_tests}
use Rattle.dev_model.specs.Images.{round_up}
use Rattle.dev_model.specs.Sizes.{units_for, resized, groups_fit}
use Rattle.unit_alloc.specs.Owning.{units_of, free_units}
use Rattle.super_meta.specs.Contents.{content}
use Rattle.super_meta.specs.Held.{limited}
use Rattle.dev_store.specs.Supers.{size_in}
use Rattle.dev_store.specs.Growing.{part_at}
use Rattle.dev_store.proofs.CallUnits.{own-part}
use Rattle.dev_store.proofs.RegrowBuilt.{bar-full, bar-none}
use Rattle.dev_store.proofs.super_read.SuperRead.new_size.Goals as goal

pub returns-then-not-groups_hold-clause-decided : goal.returns-then-not-groups_hold-clause-decided
returns-then-not-groups_hold-clause-decided c =
    let r = c.args.self.now in
    let s = c.args.s.now in
    let i = c.args.place in
    let part = own-part s (content r.table) r.owners r.parts.items i _ c.requires.mapped c.requires.there c.index.ensures in
    let own = c.count.ensures.count ∙ ap (λ k. length (units_of r.owners k)) part in
    let units : c.div_ceil-units.result ≡ units_for s.unit (round_up c.args.size) = c.div_ceil-units.ensures ∙ (λ j. units_for (c.from.ensures j) (c.round_up-bytes.ensures j)) in
    let lacking : c.saturating_sub.result ≡ units_for s.unit (round_up c.args.size) - length (units_of r.owners (part_at r i)) = c.saturating_sub.ensures ∙ (λ j. units j - (c.from-own.ensures ∙ own) j) in
    let few : c.saturating_sub.result ≤ length (free_units r.owners) = grind (arith, nat_tests, c.from-2.ensures, c.free.ensures.free, c.if-saturating_sub-from.false) in
    let enough : nat_le (units_for s.unit (round_up c.args.size) - length (units_of r.owners (part_at r i))) (length (free_units r.owners)) ≡ true = grind (arith, nat_tests, few, lacking) in
    let full = subst (λ b. groups_fit (map limited (content r.table).groups) (resized c.args.name.now b (map (size_in (content r.table)) (content r.table).partitions)) ≡ false) c.round_up-bytes.ensures (sym c.groups_hold.ensures ∙ c.if-not-groups_hold.true) in
    bar-full s r i c.args.name.now (round_up c.args.size) enough full

pub returns-clause-decided : goal.returns-clause-decided
returns-clause-decided c =
    let r = c.args.self.now in
    let s = c.args.s.now in
    let i = c.args.place in
    let part = own-part s (content r.table) r.owners r.parts.items i _ c.requires.mapped c.requires.there c.index.ensures in
    let own = c.count.ensures.count ∙ ap (λ k. length (units_of r.owners k)) part in
    let units : c.div_ceil-units.result ≡ units_for s.unit (round_up c.args.size) = c.div_ceil-units.ensures ∙ (λ j. units_for (c.from.ensures j) (c.round_up-bytes.ensures j)) in
    let lacking : c.saturating_sub.result ≡ units_for s.unit (round_up c.args.size) - length (units_of r.owners (part_at r i)) = c.saturating_sub.ensures ∙ (λ j. units j - (c.from-own.ensures ∙ own) j) in
    let few : c.saturating_sub.result ≤ length (free_units r.owners) = grind (arith, nat_tests, c.from-2.ensures, c.free.ensures.free, c.if-saturating_sub-from.false) in
    let enough : nat_le (units_for s.unit (round_up c.args.size) - length (units_of r.owners (part_at r i))) (length (free_units r.owners)) ≡ true = grind (arith, nat_tests, few, lacking) in
    let full = subst (λ b. groups_fit (map limited (content r.table).groups) (resized c.args.name.now b (map (size_in (content r.table)) (content r.table).partitions)) ≡ true) c.round_up-bytes.ensures (sym c.groups_hold.ensures ∙ c.if-not-groups_hold.false) in
    bar-none s r i c.args.name.now (round_up c.args.size) enough full

pub returns-clause-room : goal.returns-clause-room
returns-clause-room c =
    let r = c.args.self.now in
    let s = c.args.s.now in
    let i = c.args.place in
    let part = own-part s (content r.table) r.owners r.parts.items i _ c.requires.mapped c.requires.there c.index.ensures in
    let own = c.count.ensures.count ∙ ap (λ k. length (units_of r.owners k)) part in
    let units : c.div_ceil-units.result ≡ units_for s.unit (round_up c.args.size) = c.div_ceil-units.ensures ∙ (λ j. units_for (c.from.ensures j) (c.round_up-bytes.ensures j)) in
    let lacking : c.saturating_sub.result ≡ units_for s.unit (round_up c.args.size) - length (units_of r.owners (part_at r i)) = c.saturating_sub.ensures ∙ (λ j. units j - (c.from-own.ensures ∙ own) j) in
    let few : c.saturating_sub.result ≤ length (free_units r.owners) = grind (arith, nat_tests, c.from-2.ensures, c.free.ensures.free, c.if-saturating_sub-from.false) in
    omega (arith, units, few, lacking)
