-- The product, and the groups of a device.
use Rattle.std.proofs.Common.{◌≡◌, ◌∙◌, refl, sym, ap, ℕ, ◌≤◌, Bool, true, false, List, length, map, Option, Some, None, option_map, arith, codes}
use Rattle.std.specs.Prelude.{nat_le, slice_get}
use Rattle.std.specs.List.{list_all}
use Rattle.std.proofs.lemmas.Bool.Decides.{nat_tests}
use Rattle.fb_frame.specs.Distinct.{are_distinct}
use Rattle.fb_frame.specs.NameText.{is_name}
use Rattle.fb_frame.specs.declared.tables.TableGroup.{TableGroup}
use Rattle.dev_model.specs.declared.device.Dev.{Dev}
use Rattle.dev_model.specs.Variables.{value}
use Rattle.dev_model.specs.Validity.{IsValid}
use Rattle.dev_model.proofs.Valid.{both}
use Rattle.dev_store.specs.StoreCalls.{Shows, started_in}
use Rattle.super_meta.specs.declared.table.Group.{Group}
use Rattle.super_meta.specs.Held.{limited}

-- the variable `product` is the product
product-value : (dev : Dev) → value dev (codes "product") ≡ Some dev.product
unfolding value
product-value dev = refl

shows-text : (text : List ℕ) (shown : Bool) (old new : List ℕ) (o : Option (List ℕ)) → o ≡ Some text → Shows o shown old new → new ≡ text
shows-text text shown old new None e h = absurd cc
shows-text text shown old new (Some t) e h = let same : t ≡ text = cc in h.1 ∙ same

pub shows-product : (dev : Dev) (shown : Bool) (old new : List ℕ) → Shows (value (started_in false dev) (codes "product")) shown old new → new ≡ dev.product
shows-product dev shown old new h = shows-text dev.product shown old new (value (started_in false dev) (codes "product")) (product-value (started_in false dev)) h

-- a group in the table's order
pub group-got : (o : Option Group) (g : Group) (d : List TableGroup) (place : ℕ) → o ≡ Some g → option_map limited o ≡ slice_get d place → slice_get d place ≡ Some (limited g)
group-got o g d place e h = sym h ∙ ap (option_map limited) e

pub group-none : (o : Option Group) (d : List TableGroup) (place : ℕ) → o ≡ None → option_map limited o ≡ slice_get d place → slice_get d place ≡ None
group-none o d place e h = sym h ∙ ap (option_map limited) e

pub groups-few : (dev : Dev) → IsValid dev → length dev.groups ≤ 64
groups-few dev v =
    le-64 (length dev.groups)
    (both (nat_le (length dev.groups) 64) (are_distinct (map (λ g. g.name) dev.groups)) (both _ (list_all (λ g. is_name g.name) dev.groups) v.groups).0).0 where
      le-64 : (n : ℕ) → nat_le n 64 ≡ true → n ≤ 64
      le-64 n h = grind (arith, nat_tests)
