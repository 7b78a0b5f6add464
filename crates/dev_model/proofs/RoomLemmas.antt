-- The room that one more partition takes.
use Rattle.std.proofs.Common.{◌≡◌, ℕ, ◌+◌, Bool, true, false, List, [], ◌∷◌, ◌++◌, filter, refl, ap, sym, arith}
use Rattle.std.specs.Prelude.{sum_by, nat_le, ◌==◌, ◌||◌, ◌&&◌, if◌then◌else◌, bytes_eq, cond, codes}
use Rattle.std.specs.List.{list_all}
use Rattle.std.proofs.lemmas.List.Sums.{sum_by-cons, sum_by-append}
use Rattle.fb_frame.specs.declared.tables.TableGroup.{TableGroup}
use Rattle.dev_model.specs.Images.{round_up}
use Rattle.dev_model.specs.Sizes.{Size, units_for, units_of, units_fit, group_bytes, groups_fit}
use Rattle.dev_model.specs.Refusals.{created_size}

-- units
pub added_units : (unit units : ℕ) (sizes : List Size) (name : List ℕ) (size : ℕ) →
    nat_le (units_of unit sizes + units_for unit (round_up size)) units ≡ units_fit unit units (sizes ++ created_size name size ∷ [])
added_units unit units sizes name size =
    let s = created_size name size in
    let more : units_of unit sizes + units_for unit (round_up size) ≡ units_of unit (sizes ++ s ∷ [])
    = omega (arith, sum_by-append (λ t. units_for unit t.bytes) sizes (s ∷ []), sum_by-cons (λ t. units_for unit t.bytes) s []) in
    ap (λ n. nat_le n units) more

-- bytes of a group
added_bytes : (group : List ℕ) (sizes : List Size) (name : List ℕ) (size : ℕ) →
    group_bytes group (sizes ++ created_size name size ∷ []) ≡ group_bytes group sizes + (if bytes_eq (codes "default") group then round_up size else 0)
added_bytes group [] name size = by (bytes_eq (codes "default") group) where
  by : (b : Bool) → sum_by (λ s. s.bytes) (cond b (created_size name size ∷ []) []) ≡ 0 + (if b then round_up size else 0)
  by true = omega arith
  by false = omega arith
added_bytes group (s ∷ sizes) name size = by (added_bytes group sizes name size) (bytes_eq s.group group) where
  by : group_bytes group (sizes ++ created_size name size ∷ []) ≡ group_bytes group sizes + (if bytes_eq (codes "default") group then round_up size else 0) → (b : Bool) →
      sum_by (λ t. t.bytes) (cond b (s ∷ filter (λ t. bytes_eq t.group group) (sizes ++ created_size name size ∷ [])) (filter (λ t. bytes_eq t.group group) (sizes ++ created_size name size ∷ [])))
      ≡ sum_by (λ t. t.bytes) (cond b (s ∷ filter (λ t. bytes_eq t.group group) sizes) (filter (λ t. bytes_eq t.group group) sizes)) + (if bytes_eq (codes "default") group then round_up size else 0)
  by h true = omega (arith, h, sum_by-cons (λ t. t.bytes) s (filter (λ t. bytes_eq t.group group) (sizes ++ created_size name size ∷ [])), sum_by-cons (λ t. t.bytes) s (filter (λ t. bytes_eq t.group group) sizes))
  by h false = h

-- and limits
pub added_groups : (groups : List TableGroup) (sizes : List Size) (name : List ℕ) (size : ℕ) →
    list_all (λ g. g.limit == 0 || nat_le (group_bytes g.name sizes + (if bytes_eq (codes "default") g.name then round_up size else 0)) g.limit) groups
    ≡ groups_fit groups (sizes ++ created_size name size ∷ [])
added_groups [] sizes name size = refl
added_groups (g ∷ groups) sizes name size =
    let one = ap (λ n. g.limit == 0 || nat_le n g.limit) (sym (added_bytes g.name sizes name size)) in
    let rest = added_groups groups sizes name size in
    λ i. one i && rest i

pub ruleset added_rooms = (added_units, added_groups)
