-- Extents in the subject's own words: which sectors they have, and whose they are.
use Rattle.std.proofs.Common.{◌≡◌, ℕ, zero, suc, ◌+◌, ◌≤◌, Bool, true, false, cond, List, [], ◌∷◌, ◌++◌, length, take, drop, Some, refl, sym, ap, ◌∙◌, arith, lit≤}
use Rattle.std.specs.Prelude.{◌&&◌, ◌||◌, not, nat_lt, nat_le, ◌==◌, max, min, sum_by, count_by, slice_get, flat_map}
use Rattle.std.specs.List.{list_any}
use Rattle.std.proofs.lemmas.Bool.Decides.{nat_tests}
use Rattle.std.proofs.lemmas.List.{drop_all, drop-drop, take-append-drop}
use Rattle.std.proofs.lemmas.List.Sums.{sum_by-cons}
use Rattle.super_meta.specs.declared.table.Extent.{Extent}
use Rattle.super_meta.specs.declared.table.Partition.{Partition}
use Rattle.super_meta.specs.Contents.{has_sector, shares, are_apart, take_in_turn, are_indexed}
use Rattle.super_meta.specs.Laws.{SectorsOnce, IsInTurn, TakenInTurn, ExtentsJoined}
use Rattle.super_meta.proofs.NameLemmas.{both, bothly}

-- ---- sectors

abbrev sector_count : ℕ → List Extent → ℕ
sector_count s extents = count_by (has_sector s) extents

count-more : (s : ℕ) (e : Extent) (extents : List Extent) → sector_count s (e ∷ extents) ≡ cond (has_sector s e) 1 0 + sector_count s extents
count-more s e extents = sum_by-cons (λ x. cond (has_sector s x) 1 0) e extents

count-in : (s : ℕ) (e : Extent) (extents : List Extent) → has_sector s e ≡ true → sector_count s (e ∷ extents) ≡ 1 + sector_count s extents
count-in s e extents h = count-more s e extents ∙ ap (λ b. cond b 1 0 + sector_count s extents) h

count-out : (s : ℕ) (e : Extent) (extents : List Extent) → has_sector s e ≡ false → sector_count s (e ∷ extents) ≡ 0 + sector_count s extents
count-out s e extents h = count-more s e extents ∙ ap (λ b. cond b 1 0 + sector_count s extents) h

-- by numbers: places and lengths
apart-by : (s a n b m : ℕ) → (nat_le a s && nat_lt s (a + n)) ≡ true → nat_lt (max a b) (min (a + n) (b + m)) ≡ false → (nat_le b s && nat_lt s (b + m)) ≡ false
apart-by s a n b m h k = grind (arith, nat_tests)

shared-by : (a n b m : ℕ) → nat_lt (max a b) (min (a + n) (b + m)) ≡ true → ((nat_le a (max a b) && nat_lt (max a b) (a + n)) ≡ true) × ((nat_le b (max a b) && nat_lt (max a b) (b + m)) ≡ true)
shared-by a n b m h = (grind (arith, nat_tests), grind (arith, nat_tests))

neither : (a b : Bool) → (a || b) ≡ false → (a ≡ false) × (b ≡ false)
neither true b h = absurd cc
neither false b h = (refl, h)

not-true : (b : Bool) → not b ≡ true → b ≡ false
not-true true h = absurd cc
not-true false h = refl

none-other : (s : ℕ) (e : Extent) (extents : List Extent) → has_sector s e ≡ true → list_any (shares e) extents ≡ false → sector_count s extents ≡ 0
none-other s e [] h k = refl
none-other s e (x ∷ extents) h k =
    let p = neither (shares e x) (list_any (shares e) extents) k in
    count-out s x extents (apart-by s e.target e.sectors x.target x.sectors h p.0) ∙ (omega arith ∙ none-other s e extents h p.1)

once-by : (s : ℕ) (e : Extent) (extents : List Extent) (b : Bool) → has_sector s e ≡ b → list_any (shares e) extents ≡ false → sector_count s extents ≤ 1 → sector_count s (e ∷ extents) ≤ 1
once-by s e extents true k h r = omega (arith, count-in s e extents k, none-other s e extents k h)
once-by s e extents false k h r = omega (arith, count-out s e extents k, r)

once : (s : ℕ) (extents : List Extent) → are_apart extents ≡ true → sector_count s extents ≤ 1
once s [] h = lit≤ tt
once s (e ∷ extents) h =
    let p = both (not (list_any (shares e) extents)) (are_apart extents) h in
    once-by s e extents (has_sector s e) refl (not-true (list_any (shares e) extents) p.0) (once s extents p.1)

-- a sector that two extents have
record IsShared (e : Extent) (extents : List Extent) : Type 0 where
  pub sector : ℕ
  pub own : has_sector sector e ≡ true
  pub other : 1 ≤ sector_count sector extents

less-out : (s : ℕ) (e : Extent) (extents : List Extent) → sector_count s extents ≤ sector_count s (e ∷ extents)
less-out s e extents = omega (arith, count-more s e extents)

shared-in : (e x : Extent) (extents : List Extent) (b : Bool) → shares e x ≡ b → (b || list_any (shares e) extents) ≡ true → (list_any (shares e) extents ≡ true → IsShared e extents) → IsShared e (x ∷ extents)
shared-in e x extents true k r later =
    let p = shared-by e.target e.sectors x.target x.sectors k in
    record { sector = max e.target x.target; own = p.0; other = omega (arith, count-in (max e.target x.target) x extents p.1) }
shared-in e x extents false k r later =
    let p = later r in
    record { sector = p.sector; own = p.own; other = omega (arith, p.other, less-out p.sector x extents) }

shared : (e : Extent) (extents : List Extent) → list_any (shares e) extents ≡ true → IsShared e extents
shared e [] h = absurd cc
shared e (x ∷ extents) h = shared-in e x extents (shares e x) refl h (λ r. shared e extents r)

none-shared : (e : Extent) (extents : List Extent) (b : Bool) → ((s : ℕ) → sector_count s (e ∷ extents) ≤ 1) → list_any (shares e) extents ≡ b → not b ≡ true
none-shared e extents true h k = let p = shared e extents k in absurd (omega (arith, h p.sector, count-in p.sector e extents p.own, p.other))
none-shared e extents false h k = refl

apart : (extents : List Extent) → ((s : ℕ) → sector_count s extents ≤ 1) → are_apart extents ≡ true
apart [] h = refl
apart (e ∷ extents) h =
    bothly (not (list_any (shares e) extents)) (are_apart extents)
    (none-shared e extents (list_any (shares e) extents) h refl)
    (apart extents (λ s. omega (arith, h s, less-out s e extents)))

pub sectors-once : SectorsOnce
sectors-once extents = (λ h s. once s extents h, apart extents)

-- ---- partitions

abbrev counted : List Partition → ℕ
counted partitions = sum_by (λ p. p.count) partitions

counted-more : (p : Partition) (partitions : List Partition) → counted (p ∷ partitions) ≡ p.count + counted partitions
counted-more p partitions = sum_by-cons (λ q. q.count) p partitions

same-number : (a b : ℕ) → (a == b) ≡ true → a ≡ b
same-number a b h = grind (arith, nat_tests)

number-same : (a b : ℕ) → a ≡ b → (a == b) ≡ true
number-same a b h = grind (arith, nat_tests)

one : (p q : Partition) → Some p ≡ Some q → p ≡ q
one p q e = cc

-- in turn from a place on
record IsFrom (at extents : ℕ) (partitions : List Partition) : Type 0 where
  pub first : (i : ℕ) (p : Partition) → slice_get partitions i ≡ Some p → p.first ≡ at + counted (take i partitions)
  pub all : at + counted partitions ≡ extents

turn-more : (extents at : ℕ) (p : Partition) (partitions : List Partition) → p.first ≡ at → IsFrom (at + p.count) extents partitions → IsFrom at extents (p ∷ partitions)
turn-more extents at p partitions own rest = record { first = first; all = omega (arith, counted-more p partitions, rest.all) }
  where
    first : (i : ℕ) (q : Partition) → slice_get (p ∷ partitions) i ≡ Some q → q.first ≡ at + counted (take i (p ∷ partitions))
    first zero q e = omega (arith, own, ap (λ (x : Partition). x.first) (one p q e))
    first (suc i) q e = omega (arith, rest.first i q e, counted-more p (take i partitions))

turn-is : (extents at : ℕ) (partitions : List Partition) → take_in_turn extents at partitions ≡ true → IsFrom at extents partitions
turn-is extents at [] h = record { first = λ i p e. absurd cc; all = omega (arith, same-number at extents h) }
turn-is extents at (p ∷ partitions) h =
    let parts = both (p.first == at) (take_in_turn extents (at + p.count) partitions) h in
    turn-more extents at p partitions (same-number p.first at parts.0) (turn-is extents (at + p.count) partitions parts.1)

turn-by : (extents at : ℕ) (partitions : List Partition) → IsFrom at extents partitions → take_in_turn extents at partitions ≡ true
turn-by extents at [] h = number-same at extents (omega (arith, h.all))
turn-by extents at (p ∷ partitions) h =
    bothly (p.first == at) (take_in_turn extents (at + p.count) partitions)
    (number-same p.first at (omega (arith, h.first zero p refl)))
    (turn-by extents (at + p.count) partitions
    (record {
      first = λ i q e. omega (arith, h.first (suc i) q e, counted-more p (take i partitions));
      all = omega (arith, h.all, counted-more p partitions);
    }))

pub taken-in-turn : TakenInTurn
taken-in-turn extents partitions = (forth, back)
  where
    forth : take_in_turn extents 0 partitions ≡ true → IsInTurn extents partitions
    forth h = let f = turn-is extents 0 partitions h in record { first = λ i p e. omega (arith, f.first i p e); all = omega (arith, f.all) }

    back : IsInTurn extents partitions → take_in_turn extents 0 partitions ≡ true
    back h = turn-by extents 0 partitions (record { first = λ i p e. omega (arith, h.first i p e); all = omega (arith, h.all) })

-- the extents from a place on
joined : (extents : List Extent) (at : ℕ) (partitions : List Partition) → take_in_turn (length extents) at partitions ≡ true → flat_map (λ p. take p.count (drop p.first extents)) partitions ≡ drop at extents
joined extents at [] h = sym (drop_all at extents (omega (arith, same-number at (length extents) h)))
joined extents at (p ∷ partitions) h =
    let parts = both (p.first == at) (take_in_turn (length extents) (at + p.count) partitions) h in
    let own : take p.count (drop p.first extents) ≡ take p.count (drop at extents) = ap (λ n. take p.count (drop n extents)) (same-number p.first at parts.0) in
    let rest = joined extents (at + p.count) partitions parts.1 ∙ sym (drop-drop p.count at extents) in
    ap (λ t. t ++ flat_map (λ q. take q.count (drop q.first extents)) partitions) own
    ∙ (ap (λ t. take p.count (drop at extents) ++ t) rest ∙ take-append-drop p.count (drop at extents))

pub extents-joined : ExtentsJoined
unfolding are_indexed
extents-joined c h = joined c.extents 0 c.partitions (both (take_in_turn (length c.extents) 0 c.partitions) _ h).0
