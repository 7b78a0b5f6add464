-- The bytes of a group where a partition has another length, or one is added.
use Rattle.std.proofs.Common.{◌≡◌, ℕ, ◌+◌, ◌<◌, Bool, List, [], ◌∷◌, ◌++◌, length, get_or, drop, map, refl, sym, ap, subst, ◌∙◌, arith}
use Rattle.std.specs.Prelude.{◌&&◌, ◌||◌, ◌==◌, nat_le, codes, bytes_eq, if◌then◌else◌}
use Rattle.std.specs.List.{list_all}
use Rattle.fb_frame.specs.declared.tables.TableGroup.{TableGroup}
use Rattle.dev_model.specs.Images.{round_up}
use Rattle.dev_model.specs.Refusals.{created_size}
use Rattle.dev_model.specs.Sizes.{Size, size_changed, resized, share_of, group_bytes, groups_fit}
use Rattle.super_meta.specs.declared.table.Partition.{Partition}
use Rattle.super_meta.specs.declared.table.Group.{Group}
use Rattle.super_meta.specs.Contents.{Content}
use Rattle.super_meta.specs.Held.{limited}
use Rattle.dev_store.specs.Supers.{size_in}
use Rattle.dev_store.proofs.UnitLemmas.{left-step, group-cons, groups_limited}

pub changed-step : (c : Content) (group name : List ℕ) (size : ℕ) (xs ys : List Partition) (i : ℕ) (x : Partition) → xs ≡ ys → i < length xs → x ≡ get_or xs i x →
    group_bytes group (resized name size (map (size_in c) (drop i ys))) ≡ share_of group (size_changed name size (size_in c x)) + group_bytes group (resized name size (map (size_in c) (drop (i + 1) ys)))
changed-step c group name size xs ys i x s h e =
    subst (λ l. group_bytes group (resized name size (map (size_in c) (drop i l))) ≡ share_of group (size_changed name size (size_in c x)) + group_bytes group (resized name size (map (size_in c) (drop (i + 1) l)))) s
    (ap (λ l. group_bytes group (resized name size (map (size_in c) l))) (left-step xs i x h e)
    ∙ group-cons group (size_changed name size (size_in c x)) (resized name size (map (size_in c) (drop (i + 1) xs))))

pub group-append : (group : List ℕ) (x : Size) (sizes : List Size) → group_bytes group (sizes ++ x ∷ []) ≡ group_bytes group sizes + share_of group x
group-append group x [] = let a = group-cons group x [] in omega arith
group-append group x (y ∷ sizes) =
    let a = group-cons group y (sizes ++ x ∷ []) in
    let b = group-cons group y sizes in
    let more = group-append group x sizes in
    omega arith

-- the name of a new partition counts for nothing
fit-named : (groups : List TableGroup) (sizes : List Size) (x y : Size) → x.group ≡ y.group → x.bytes ≡ y.bytes → groups_fit groups (sizes ++ x ∷ []) ≡ groups_fit groups (sizes ++ y ∷ [])
fit-named [] sizes x y g b = refl
fit-named (group ∷ groups) sizes x y g b =
    let share : share_of group.name x ≡ share_of group.name y = λ i. if bytes_eq (g i) group.name then b i else 0 in
    let bytes : group_bytes group.name (sizes ++ x ∷ []) ≡ group_bytes group.name (sizes ++ y ∷ []) =
    group-append group.name x sizes ∙ (ap (λ n. group_bytes group.name sizes + n) share ∙ sym (group-append group.name y sizes)) in
    let more = fit-named groups sizes x y g b in
    λ i. (group.limit == 0 || nat_le (bytes i) group.limit) && more i

-- a new partition of whole blocks in `default`
pub created-fit : (groups : List Group) (sizes : List Size) (bytes : ℕ) (holds : Bool) →
    holds ≡ list_all (λ g. g.limit == 0 || nat_le (group_bytes g.name (sizes ++ record { name = []; group = codes "default"; bytes = bytes } ∷ [])) g.limit) groups →
    (name : List ℕ) (size : ℕ) → bytes ≡ round_up size → holds ≡ groups_fit (map limited groups) (sizes ++ created_size name size ∷ [])
created-fit groups sizes bytes holds h name size e =
    let z : Size = record { name = []; group = codes "default"; bytes = bytes } in
    h ∙ (groups_limited groups (sizes ++ z ∷ []) ∙ fit-named (map limited groups) sizes z (created_size name size) refl e)
