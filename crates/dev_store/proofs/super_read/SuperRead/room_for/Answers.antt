use Rattle.std.proofs.Common.{rules, ◌≡◌, ◌∙◌, ap, sym, true, false, length, map, codes, ◌++◌, [], ◌∷◌, Some}
use Rattle.std.specs.Prelude.{nat_le, bytes_eq}
use Rattle.std.specs.List.{list_any}
use Rattle.dev_model.specs.Images.{round_up}
use Rattle.dev_model.specs.Refusals.{created_size}
use Rattle.dev_model.specs.Sizes.{units_for, groups_fit}
use Rattle.dev_model.specs.Tables.{is_group}
use Rattle.unit_alloc.specs.Owning.{free_units}
use Rattle.super_meta.specs.Contents.{content}
use Rattle.super_meta.specs.Held.{limited}
use Rattle.dev_store.specs.declared.errors.StoreError.TheVariants.{NoSpace, GroupFull, NoGroup}
use Rattle.dev_store.specs.Supers.{size_in}
use Rattle.dev_store.proofs.CreateFlaws.{few-of, full-flaw, group-flaw, space-flaw, no-flaw, are-free, not-free, err-is, any-limited}
use Rattle.dev_store.proofs.super_read.SuperRead.room_for.Goals as goal

pub returns-then-not-groups_hold_more-clause-refused : goal.returns-then-not-groups_hold_more-clause-refused
returns-then-not-groups_hold_more-clause-refused c = λ e name h.
    let t = content c.args.self.now.table in
    let units = units_for c.args.s.now.unit (round_up c.args.size) in
    let free = are-free (nat_le units c.free.result) c.in-Some.bytes c.in-Some.units (round_up c.args.size) units c.whole_units.result c.whole_units.ensures c.in-Some.is in
    let group : is_group (map limited t.groups) (codes "default") ≡ true =
    sym (any-limited (codes "default") t.groups) ∙ (ap (list_any (λ g. bytes_eq g.name (codes "default"))) (sym c.deref.ensures.value)
    ∙ (sym c.has_default.ensures ∙ c.if-not-has_default.false)) in
    full-flaw (nat_le 128 (length t.partitions)) (is_group (map limited t.groups) (codes "default")) (nat_le units (length (free_units c.args.self.now.owners)))
    (groups_fit (map limited t.groups) (map (size_in t) t.partitions ++ created_size name c.args.size ∷ []))
    (few-of c.len.result (length t.partitions) (search rules) c.if-len-ge128.false) group (ap (nat_le units) (sym c.free.ensures.free) ∙ free.fits_is)
    (sym (c.groups_hold_more.ensures name c.args.size free.bytes_is) ∙ c.if-not-groups_hold_more.true)
    ∙ ap Some (err-is GroupFull e h)

pub returns-clause-taken : goal.returns-clause-taken
returns-clause-taken c = λ name.
    let t = content c.args.self.now.table in
    let units = units_for c.args.s.now.unit (round_up c.args.size) in
    let free = are-free (nat_le units c.free.result) c.in-Some.bytes c.in-Some.units (round_up c.args.size) units c.whole_units.result c.whole_units.ensures c.in-Some.is in
    let group : is_group (map limited t.groups) (codes "default") ≡ true =
    sym (any-limited (codes "default") t.groups) ∙ (ap (list_any (λ g. bytes_eq g.name (codes "default"))) (sym c.deref.ensures.value)
    ∙ (sym c.has_default.ensures ∙ c.if-not-has_default.false)) in
    no-flaw (nat_le 128 (length t.partitions)) (is_group (map limited t.groups) (codes "default")) (nat_le units (length (free_units c.args.self.now.owners)))
    (groups_fit (map limited t.groups) (map (size_in t) t.partitions ++ created_size name c.args.size ∷ []))
    (few-of c.len.result (length t.partitions) (search rules) c.if-len-ge128.false) group (ap (nat_le units) (sym c.free.ensures.free) ∙ free.fits_is)
    (sym (c.groups_hold_more.ensures name c.args.size free.bytes_is) ∙ c.if-not-groups_hold_more.false)

pub returns-then-not-has_default-clause-refused : goal.returns-then-not-has_default-clause-refused
returns-then-not-has_default-clause-refused c = λ e name h.
    let t = content c.args.self.now.table in
    let units = units_for c.args.s.now.unit (round_up c.args.size) in
    let group : is_group (map limited t.groups) (codes "default") ≡ false =
    sym (any-limited (codes "default") t.groups) ∙ (ap (list_any (λ g. bytes_eq g.name (codes "default"))) (sym c.deref.ensures.value)
    ∙ (sym c.has_default.ensures ∙ c.if-not-has_default.true)) in
    group-flaw (nat_le 128 (length t.partitions)) (is_group (map limited t.groups) (codes "default")) (nat_le units (length (free_units c.args.self.now.owners)))
    (groups_fit (map limited t.groups) (map (size_in t) t.partitions ++ created_size name c.args.size ∷ []))
    (few-of c.len.result (length t.partitions) (search rules) c.if-len-ge128.false) group
    ∙ ap Some (err-is NoGroup e h)

pub returns-in_default-clause-refused : goal.returns-in_default-clause-refused
returns-in_default-clause-refused c = λ e name h.
    let t = content c.args.self.now.table in
    let units = units_for c.args.s.now.unit (round_up c.args.size) in
    let short = not-free (nat_le units c.free.result) (round_up c.args.size) units c.whole_units.result c.whole_units.ensures c.in_default.is in
    let group : is_group (map limited t.groups) (codes "default") ≡ true =
    sym (any-limited (codes "default") t.groups) ∙ (ap (list_any (λ g. bytes_eq g.name (codes "default"))) (sym c.deref.ensures.value)
    ∙ (sym c.has_default.ensures ∙ c.if-not-has_default.false)) in
    space-flaw (nat_le 128 (length t.partitions)) (is_group (map limited t.groups) (codes "default")) (nat_le units (length (free_units c.args.self.now.owners)))
    (groups_fit (map limited t.groups) (map (size_in t) t.partitions ++ created_size name c.args.size ∷ []))
    (few-of c.len.result (length t.partitions) (search rules) c.if-len-ge128.false) group (ap (nat_le units) (sym c.free.ensures.free) ∙ short)
    ∙ ap Some (err-is NoSpace e h)
