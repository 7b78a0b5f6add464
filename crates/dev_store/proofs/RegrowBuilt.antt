-- What a resize plans of a partition, as it is computed; and its refusals.
use Rattle.std.proofs.Common.{◌≡◌, ◌∙◌, ap, sym, subst, ℕ, ◌-◌, ◌<◌, true, false, List, map, length, length-set, take, ◌++◌, arith, Some, None, option_map}
use Rattle.std.specs.Prelude.{nat_le, nat_lt, slice_get, get_or, if◌then◌else◌, IsTrue}
use Rattle.std.specs.List.{list_all}
use Rattle.std.proofs.lemmas.Option.{slice_get-get_or}
use Rattle.dev_model.specs.Sizes.{units_for, resized, groups_fit}
use Rattle.unit_alloc.specs.Owning.{Owning, free_units, units_of}
use Rattle.super_meta.specs.declared.table.Partition.{Partition}
use Rattle.super_meta.specs.Contents.{content}
use Rattle.super_meta.specs.Held.{limited}
use Rattle.dev_store.specs.declared.layout.SuperPart.{SuperPart}
use Rattle.dev_store.specs.declared.super_read.SuperRead.{SuperRead}
use Rattle.dev_store.specs.declared.table_build.Planned.{Planned}
use Rattle.dev_store.specs.declared.errors.StoreError.TheVariants.{NoSpace, GroupFull}
use Rattle.dev_store.specs.Supers.{size_in}
use Rattle.dev_store.specs.SuperReads.{IsMap}
use Rattle.dev_store.specs.Building.{planned_as, planned_all, longer, replaced}
use Rattle.dev_store.specs.TableCalls.{plans}
use Rattle.dev_store.specs.TableChanges.{regrown}
use Rattle.dev_store.specs.Growing.{part_at, regrown_at, resized_at, resize_bar}
use Rattle.dev_store.proofs.ChangeResize.{part-inside}
use Rattle.dev_store.proofs.CallUnits.{map-many, own-part}

module _ (s : SuperPart) (r : SuperRead) (i part : ℕ) (mapped : IsMap s r) (there : i < length (content r.table).partitions) (own : part ≡ get_or r.parts.items i part) where
  pub part-is : part ≡ part_at r i
  part-is = own-part s (content r.table) r.owners r.parts.items i part mapped there own

  pub part-there : part < length r.owners.parts
  part-there =
      let many = map-many s (content r.table) r.owners r.parts.items mapped in
      part-inside s (content r.table) r.owners r.parts.items i part mapped (slice_get-get_or r.parts.items i part (omega (arith, many, there)) ∙ ap Some (sym own))

  module _ (now : Owning) (units : ℕ) (grown : now ≡ regrown r.owners part units) where
    pub owners-are : now ≡ regrown_at r i units
    owners-are = grown ∙ ap (λ k. regrown r.owners k units) part-is

    pub parts-many : length now.parts ≡ 128
    parts-many = ap (λ (o : Owning). length o.parts) grown ∙ (length-set r.owners.parts part (take units (units_of r.owners part) ++ take (units - length (units_of r.owners part)) (free_units r.owners)) ∙ mapped.many)

    pub parts-there : (ps : List ℕ) → ps ≡ r.parts.items → IsTrue (list_all (λ part. nat_lt part (length now.parts)) ps)
    parts-there ps e =
        subst (λ n. IsTrue (list_all (λ part. nat_lt part n) ps)) (sym parts-many) (subst (λ l. IsTrue (list_all (λ part. nat_lt part 128) l)) (sym e) mapped.there)

  module _ (p : Partition) (entry : p ≡ get_or (content r.table).partitions i p) where
    pub entry-is : slice_get (content r.table).partitions i ≡ Some p
    entry-is = slice_get-get_or (content r.table).partitions i p there ∙ ap Some (sym entry)

    pub plan-is : (bytes : ℕ) (q : Planned) (ps : List ℕ) → q ≡ longer bytes (planned_as (content r.table) p part) → ps ≡ r.parts.items →
        replaced i (Some q) (planned_all (content r.table) (content r.table).partitions ps) ≡ plans r i (resized_at r i bytes)
    plan-is bytes q ps e d =
        let some : Some q ≡ resized_at r i bytes =
        ap Some (e ∙ ap (λ k. longer bytes (planned_as (content r.table) p k)) part-is) ∙ sym (ap (option_map (λ p. longer bytes (planned_as (content r.table) p (part_at r i)))) entry-is) in
        λ j. replaced i (some j) (planned_all (content r.table) (content r.table).partitions (d j))

-- ---- the refusals

module _ (s : SuperPart) (r : SuperRead) (i : ℕ) (name : List ℕ) (bytes : ℕ) (enough : nat_le (units_for s.unit bytes - length (units_of r.owners (part_at r i))) (length (free_units r.owners)) ≡ true) where
  pub bar-full : groups_fit (map limited (content r.table).groups) (resized name bytes (map (size_in (content r.table)) (content r.table).partitions)) ≡ false → Some GroupFull ≡ resize_bar s r i name bytes
  bar-full g = sym (λ j. if enough j then (if g j then None else Some GroupFull) else Some NoSpace)

  pub bar-none : groups_fit (map limited (content r.table).groups) (resized name bytes (map (size_in (content r.table)) (content r.table).partitions)) ≡ true → None ≡ resize_bar s r i name bytes
  bar-none g = sym (λ j. if enough j then (if g j then None else Some GroupFull) else Some NoSpace)
