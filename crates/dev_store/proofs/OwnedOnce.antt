-- No unit is owned twice.
use Rattle.std.proofs.Common.{◌≡◌, ◌≢◌, ◌∙◌, refl, ap, sym, ℕ, ◌+◌, ◌≤◌, Bool, true, false, List, [], ◌∷◌, ◌++◌, find, Option, Some, None, option_map, unwrap_or, arith, if◌then◌else◌}
use Rattle.std.specs.Prelude.{bytes_eq}
use Rattle.std.specs.List.{flat_map}
use Rattle.std.proofs.lemmas.Slice.Eq.{bytes_eq-Decides}
use Rattle.dev_model.specs.declared.device.Dev.{Dev}
use Rattle.unit_alloc.specs.Owning.{times_in}
use Rattle.unit_alloc.proofs.TimesLemmas.{times_in-nil, times_in-append}
use Rattle.super_meta.specs.declared.table.Partition.{Partition}
use Rattle.dev_store.specs.declared.layout.SuperPart.{SuperPart}
use Rattle.dev_store.specs.Layouts.{LayoutValue, layout_in}
use Rattle.dev_store.specs.Supers.{units_of}
use Rattle.dev_store.specs.Stand.{super_found, owned, owned_of, owned_by, owned_in}
use Rattle.dev_store.specs.Laws.{IsRead, OwnsOnce}
use Rattle.dev_store.proofs.StandLemmas.{stands_by_parts}
use Rattle.dev_store.proofs.ValidUnits.{times-once}
use Rattle.dev_store.proofs.ValidSuper.{good-units}
use Rattle.dev_store.proofs.ValidStands.{super-read}

-- the list of the first element of the name
abbrev listed : (Partition → List ℕ) → List ℕ → List Partition → List ℕ
listed f name ps = unwrap_or (option_map f (find (λ p. bytes_eq p.name name) ps)) []

pub found-times : (f : Partition → List ℕ) (name : List ℕ) (u : ℕ) (ps : List Partition) → times_in u (listed f name ps) ≤ times_in u (flat_map f ps)
found-times f name u [] = omega (arith, times_in-nil u)
found-times f name u (p ∷ ps) = by (bytes_eq p.name name) (found-times f name u ps) where
  by : (b : Bool) → times_in u (listed f name ps) ≤ times_in u (flat_map f ps) → times_in u (unwrap_or (option_map f (if b then Some p else find (λ p. bytes_eq p.name name) ps)) []) ≤ times_in u (f p ++ flat_map f ps)
  by true h = let a = times_in-append u (f p) (flat_map f ps) in omega arith
  by false h = let a = times_in-append u (f p) (flat_map f ps) in omega arith

-- two names have different elements
both-times : (f : Partition → List ℕ) (name other : List ℕ) (u : ℕ) → name ≢ other → (ps : List Partition) → times_in u (listed f name ps) + times_in u (listed f other ps) ≤ times_in u (flat_map f ps)
both-times f name other u ne [] = omega (arith, times_in-nil u)
both-times f name other u ne (p ∷ ps) = by (bytes_eq p.name name) (bytes_eq p.name other) refl refl (both-times f name other u ne ps) where
  by : (a b : Bool) → bytes_eq p.name name ≡ a → bytes_eq p.name other ≡ b → times_in u (listed f name ps) + times_in u (listed f other ps) ≤ times_in u (flat_map f ps) →
      times_in u (unwrap_or (option_map f (if a then Some p else find (λ p. bytes_eq p.name name) ps)) []) + times_in u (unwrap_or (option_map f (if b then Some p else find (λ p. bytes_eq p.name other) ps)) [])
      ≤ times_in u (f p ++ flat_map f ps)
  by true true e k h = absurd (ne (sym ((bytes_eq-Decides p.name name).0 e) ∙ (bytes_eq-Decides p.name other).0 k))
  by true false e k h = let a = times_in-append u (f p) (flat_map f ps) in let l = found-times f other u ps in omega arith
  by false true e k h = let a = times_in-append u (f p) (flat_map f ps) in let l = found-times f name u ps in omega arith
  by false false e k h = let a = times_in-append u (f p) (flat_map f ps) in omega arith

-- what a name owns, by what a file holds
owned-in : (file : List ℕ) (layout : LayoutValue) (part : Option SuperPart) (name : List ℕ) → layout_in file ≡ Some layout → layout.super_part ≡ part → owned file name ≡ owned_by layout part file name
unfolding owned
owned-in file layout part name h e = ap (λ l. owned_of l file name) h ∙ ap (λ q. owned_by layout q file name) e

by-part : (file : List ℕ) (dev : Dev) (p : IsRead file dev) (part : Option SuperPart) → p.layout.super_part ≡ part → (name other : List ℕ) (u : ℕ) → name ≢ other → times_in u (owned file name) + times_in u (owned file other) ≤ 1
by-part file dev p None e name other u ne =
    let a = ap (times_in u) (owned-in file p.layout None name p.laid e) in
    let b = ap (times_in u) (owned-in file p.layout None other p.laid e) in
    let z = times_in-nil u in
    omega arith
by-part file dev p (Some s) e name other u ne =
    let f = super-read p.layout s file p.super (ap (λ q. super_found p.layout q file) (sym e) ∙ p.tabled) in
    let g = good-units p.layout.physical s f.content f.units in
    let a = ap (times_in u) (owned-in file p.layout (Some s) name p.laid e ∙ ap (λ c. owned_in s c name) f.read) in
    let b = ap (times_in u) (owned-in file p.layout (Some s) other p.laid e ∙ ap (λ c. owned_in s c other) f.read) in
    let t = both-times (units_of s f.content) name other u ne f.content.partitions in
    let o = times-once u (flat_map (units_of s f.content) f.content.partitions) g.different in
    omega arith

pub owns_once : OwnsOnce
owns_once file dev name other u h ne = let p = stands_by_parts file dev h in by-part file dev p p.layout.super_part refl name other u ne
