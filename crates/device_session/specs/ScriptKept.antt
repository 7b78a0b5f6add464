-- What a gate in memory keeps of its parts.
use Rattle.std.specs.Prelude.{◌≡◌, ℕ, ◌+◌, ◌<◌, ◌≤◌, List, ◌∷◌, ◌++◌, length, map, All, Some, IsTrue, []}
use Rattle.std.specs.Prelude.{vec_capacity, slice_index_or}
use Rattle.device_session.specs.declared.script_gate.Passage.{Passage}
use Rattle.device_session.specs.declared.script_gate.ScriptGate.TheInside.{Inside}

-- what the connections give
abbrev pub gives_of : Inside → List (List ℕ)
gives_of g = map (λ v. v.items) g.script.items

-- a passage lies within so many written bytes
abbrev pub IsWithin : ℕ → Passage → Type 0
IsWithin count p = p.from + p.size ≤ count

-- the last passage ends where the written bytes end, and no more was read than its connection gives
pub record IsLast (gives : List (List ℕ)) (past : List Passage) (p : Passage) (count : ℕ) : Type 0 where
  pub ends : p.from + p.size ≡ count
  pub read : p.read ≤ length (slice_index_or gives (length past) [])

-- The passages lie within the written bytes, and there is room for all that may be accepted and written.
pub record IsKept (g : Inside) : Type 0 where
  pub fewer : length g.passages.items ≤ length g.script.items
  pub room : length g.script.items ≤ vec_capacity g.passages
  pub within : All (IsWithin (length g.written.items)) g.passages.items
  pub last : (past : List Passage) (p : Passage) → g.passages.items ≡ past ++ p ∷ [] →
      IsLast (gives_of g) past p (length g.written.items)
  pub there : IsTrue g.up → 0 < length g.passages.items
  pub sizes : All (λ n. 1 ≤ n) g.sizes.items
  pub left : ℕ
  pub bounded : g.failures.room ≡ Some left
  pub space : length g.written.items + left ≤ vec_capacity g.written
