-- Each part's units as a chain: the first, the next of each, and the last.
use Rattle.std.specs.Prelude.{◌≡◌, ℕ, zero, suc, ◌+◌, ◌-◌, ◌^◌, ◌<◌, List, [], ◌∷◌, Option, Some, None, IsSome, map, length, ◌==◌, if◌then◌else◌, slice_index, slice_index_or, slice_set}
use Rattle.unit_alloc.specs.declared.owners.Chain.{Chain}
use Rattle.unit_alloc.specs.Owning.{Owning, OneOwner, times, times_in}

-- the unit that a number of steps lead to, each to the next unit
unfoldable pub stepped : List ℕ → ℕ → ℕ → ℕ
stepped next unit zero = unit
stepped next unit (suc steps) = stepped next (slice_index next unit) steps

-- a number of units that follow one another
unfoldable pub linked : List ℕ → ℕ → ℕ → List ℕ
linked next unit zero = []
linked next unit (suc count) = unit ∷ linked next (slice_index next unit) count

-- the units of a chain
abbrev pub chain_units : List ℕ → Chain → List ℕ
chain_units next chain = linked next chain.first chain.count

-- what the chains come to
abbrev pub chained : List (Option ℕ) → List ℕ → List Chain → Owning
chained owners next chains = record { units = length owners; parts = map (chain_units next) chains }

-- the unit is the part's, or no part's
abbrev pub IsOwner : List (List ℕ) → ℕ → Option ℕ → Type 0
IsOwner parts unit None = times unit parts ≡ 0
IsOwner parts unit (Some part) = 0 < times_in unit (slice_index_or parts part [])

-- the chain's last unit stands at its end
abbrev pub IsEnded : List ℕ → Chain → Type 0
IsEnded next chain = 0 < chain.count → chain.last ≡ stepped next chain.first (chain.count - 1)

-- what a look-up of a chain past the end gives
abbrev pub no_chain : Chain
no_chain = record { first = 0; last = 0; count = 0 }

-- the owners of the units are those of the chains
pub record AreChained (owners : List (Option ℕ)) (next : List ℕ) (chains : List Chain) : Type 0 where
  pub one : OneOwner (chained owners next chains)
  pub owned : (unit : ℕ) → unit < length owners → IsOwner (map (chain_units next) chains) unit (slice_index_or owners unit None)
  pub ended : (part : ℕ) → part < length chains → IsEnded next (slice_index_or chains part no_chain)
  pub long : length next ≡ length owners
  pub small : length owners < 2 ^ 32

-- the next units where one more is put behind a chain
abbrev pub linked_next : List ℕ → Chain → ℕ → List ℕ
linked_next next chain unit = if chain.count == 0 then next else slice_set next chain.last unit

-- the chain with one more unit behind it
abbrev pub longer : Chain → ℕ → Chain
longer chain unit = record { first = (if chain.count == 0 then unit else chain.first); last = unit; count = chain.count + 1 }

-- the chain of the first units alone
abbrev pub shorter : Chain → ℕ → ℕ → Chain
shorter chain last keep = record { first = chain.first; last = last; count = keep }

-- the units are given back, one after another
abbrev pub freed : List (Option ℕ) → List ℕ → List (Option ℕ)
freed owners [] = owners
freed owners (unit ∷ units) = freed (slice_set owners unit None) units

-- each of the units has an owner when its turn comes
abbrev pub AreOwned : List (Option ℕ) → List ℕ → Type 0
AreOwned owners [] = Unit {0}
AreOwned owners (unit ∷ units) = (unit < length owners) × IsSome (slice_index_or owners unit None) × AreOwned (slice_set owners unit None) units
