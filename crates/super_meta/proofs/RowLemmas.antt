-- Rows of bytes, one after another.
use Rattle.std.proofs.Common.{◌≡◌, ◌≢◌, ℕ, zero, suc, ◌+◌, ◌*◌, ◌<◌, Bool, true, false, List, [], ◌∷◌, ◌++◌, take, drop, map, Some, None, refl, sym, ap, ◌∙◌, arith, add-one, zero-mul}
use Rattle.std.specs.Prelude.{if◌then◌else◌}
use Rattle.std.specs.List.{list_all}
use Rattle.std.proofs.Math.Bool.{and-false}
use Rattle.std.proofs.lemmas.Bool.Decides.{nat_tests}
use Rattle.std.proofs.lemmas.List.{drop-drop, map-append}
use Rattle.std.proofs.lemmas.List.Folds.{list_all-append}
use Rattle.super_meta.specs.Entries.{rows, row_at, is_named, is_unset}
use Rattle.fb_frame.specs.Fields.{u32_at}

row-behind : (size i : ℕ) (bytes : List ℕ) → row_at size i (drop size bytes) ≡ row_at size (suc i) bytes
row-behind size i bytes = ap (take size) (drop-drop (i * size) size bytes ∙ ap (λ n. drop n bytes) (omega arith))

pub rows-none : (size : ℕ) (bytes : List ℕ) → rows size 0 bytes ≡ []
unfolding rows
rows-none size bytes = refl

more-by : (size i : ℕ) (bytes : List ℕ) → rows size (suc i) bytes ≡ rows size i bytes ++ row_at size i bytes ∷ []
unfolding rows
more-by size zero bytes = ap (λ n. take size (drop n bytes) ∷ []) (sym (zero-mul size))
more-by size (suc i) bytes = ap (λ t. take size bytes ∷ t) (more-by size i (drop size bytes) ∙ ap (λ r. rows size i (drop size bytes) ++ r ∷ []) (row-behind size i bytes))

pub rows-more : (size i : ℕ) (bytes : List ℕ) → rows size (i + 1) bytes ≡ rows size i bytes ++ row_at size i bytes ∷ []
rows-more size i bytes = ap (λ n. rows size n bytes) (add-one i) ∙ more-by size i bytes

-- a row that fails a test
pub row-fails : (size count i : ℕ) (bytes : List ℕ) (test : List ℕ → Bool) → i < count → test (row_at size i bytes) ≡ false → list_all test (rows size count bytes) ≡ false
unfolding rows
row-fails size zero i bytes test h e = absurd (omega arith)
row-fails size (suc more) zero bytes test h e =
    let first : test (take size bytes) ≡ false = ap (λ n. test (take size (drop n bytes))) (sym (zero-mul size)) ∙ e in rw first refl
row-fails size (suc more) (suc i) bytes test h e =
    let rest : list_all test (rows size more (drop size bytes)) ≡ false = row-fails size more i (drop size bytes) test (omega arith) (ap test (row-behind size i bytes) ∙ e) in
    rw rest (and-false (test (take size bytes)))

-- what holds of the first rows and of the next one
pub rows-hold : (size i : ℕ) (bytes : List ℕ) (test : List ℕ → Bool) → list_all test (rows size i bytes) ≡ true → test (row_at size i bytes) ≡ true → list_all test (rows size (i + 1) bytes) ≡ true
rows-hold size i bytes test h e =
    ap (list_all test) (rows-more size i bytes) ∙ (list_all-append test (rows size i bytes) (row_at size i bytes ∷ []) ∙ rw (h, e) refl)

pub map-more : {X : Type 0} (f : List ℕ → X) (size i : ℕ) (bytes : List ℕ) → map f (rows size (i + 1) bytes) ≡ map f (rows size i bytes) ++ f (row_at size i bytes) ∷ []
map-more f size i bytes = ap (map f) (rows-more size i bytes) ∙ map-append f (rows size i bytes) (row_at size i bytes ∷ [])

pub ruleset row_steps = (rows-none, map-more)

-- an entry that was read, by its name
pub some-if : {X : Type 0} (b : Bool) (v p : X) → Some p ≡ (if b then Some v else None) → (b ≡ true) × (p ≡ v)
some-if true v p e = (refl, cc)
some-if false v p e = absurd cc

pub none-if : {X : Type 0} (b : Bool) (v : X) → None ≡ (if b then Some v else None) → b ≡ false
none-if true v e = absurd cc
none-if false v e = refl

-- an entry that has no name
pub unnamed : {X : Type 0} (size count i : ℕ) (bytes row : List ℕ) (value : List ℕ → X) → row ≡ row_at size i bytes → i < count → None ≡ (if is_named row then Some (value row) else None) →
    list_all is_named (rows size count bytes) ≡ false
unnamed size count i bytes row value r h e = row-fails size count i bytes is_named h (ap is_named (sym r) ∙ none-if (is_named row) (value row) e)

-- one entry more
pub one-named : {X : Type 0} (size i : ℕ) (bytes row : List ℕ) (value : List ℕ → X) (p : X) → row ≡ row_at size i bytes → list_all is_named (rows size i bytes) ≡ true → Some p ≡ (if is_named row then Some (value row) else None) →
    list_all is_named (rows size (i + 1) bytes) ≡ true
one-named size i bytes row value p r h e = rows-hold size i bytes is_named h (ap is_named (sym r) ∙ (some-if (is_named row) (value row) p e).0)

pub one-more : {X : Type 0} (size i : ℕ) (bytes row : List ℕ) (value : List ℕ → X) (p : X) (items new : List X) → row ≡ row_at size i bytes → items ≡ map value (rows size i bytes) → new ≡ items ++ p ∷ [] →
    Some p ≡ (if is_named row then Some (value row) else None) → new ≡ map value (rows size (i + 1) bytes)
one-more size i bytes row value p items new r h k e =
    k ∙ (ap (λ t. t ++ p ∷ []) h ∙ (ap (λ x. map value (rows size i bytes) ++ x ∷ []) ((some-if (is_named row) (value row) p e).1 ∙ ap value r) ∙ sym (map-more value size i bytes)))

-- an entry with another number at a place
pub is-set : (size count i place n : ℕ) (bytes row : List ℕ) → row ≡ row_at size i bytes → i < count → n ≡ u32_at place row → n ≢ 0 → false ≡ list_all (is_unset place) (rows size count bytes)
is-set size count i place n bytes row r h e k =
    let other : is_unset place row ≡ false = let m : u32_at place row ≢ 0 = λ z. k (e ∙ z) in grind (arith, nat_tests) in
    sym (row-fails size count i bytes (is_unset place) h (ap (is_unset place) (sym r) ∙ other))

pub one-unset : (size i place n : ℕ) (bytes row : List ℕ) → row ≡ row_at size i bytes → n ≡ u32_at place row → n ≡ 0 → list_all (is_unset place) (rows size i bytes) ≡ true → list_all (is_unset place) (rows size (i + 1) bytes) ≡ true
one-unset size i place n bytes row r e z h =
    let same : is_unset place row ≡ true = let m : u32_at place row ≡ 0 = sym e ∙ z in grind (arith, nat_tests) in
    rows-hold size i bytes (is_unset place) h (ap (is_unset place) (sym r) ∙ same)
