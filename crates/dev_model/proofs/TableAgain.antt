-- A table that is taken again over the partitions that it left, whose bytes were changed since.
use Rattle.std.proofs.Common.{◌≡◌, ℕ, suc, ◌≤◌, Bool, true, false, cond, List, [], ◌∷◌, ◌++◌, length, map, refl, sym, ap, ◌∙◌, subst, arith}
use Rattle.std.specs.Prelude.{bytes_eq, if◌then◌else◌, not, ◌||◌, ◌&&◌, ◌==◌, nat_eq, filter, MatchBool, codes}
use Rattle.std.specs.List.{list_any, list_all, ends_with, AllByRecursion}
use Rattle.std.proofs.lemmas.Slice.Eq.{bytes_eq-Decides}
use Rattle.fb_frame.specs.Slots.{suffix}
use Rattle.fb_frame.specs.declared.slot.Slot.{Slot}
use Rattle.fb_frame.specs.declared.tables.Tables.{Tables}
use Rattle.fb_frame.specs.declared.tables.TablePartition.{TablePartition}
use Rattle.dev_model.specs.declared.device.Logical.{Logical}
use Rattle.dev_model.specs.declared.step.Step.{Step}
use Rattle.dev_model.specs.Sizes.{sizes_of}
use Rattle.dev_model.specs.Tables.{is_listed, kept_bytes, listed, left_over}
use Rattle.fb_frame.specs.Distinct.{are_distinct}
use Rattle.dev_model.proofs.Valid.{both, and-true, or-false}
use Rattle.dev_model.proofs.ValidTable.{all-filter}
use Rattle.dev_model.specs.Repeats.{is_among}
use Rattle.dev_model.proofs.CellLemmas.{wash}
use Rattle.dev_model.proofs.AlignedLemmas.{Log, Bytes, log-names}
use Rattle.dev_model.proofs.RoomAgain.{Less}

filter-append : {X : Type 0} (q : X → Bool) (xs ys : List X) → filter q (xs ++ ys) ≡ filter q xs ++ filter q ys
filter-append q [] ys = refl
filter-append q (x ∷ xs) ys = by (q x) (filter-append q xs ys) where
  by : (b : Bool) → filter q (xs ++ ys) ≡ filter q xs ++ filter q ys → cond b (x ∷ filter q (xs ++ ys)) (filter q (xs ++ ys)) ≡ cond b (x ∷ filter q xs) (filter q xs) ++ filter q ys
  by true e = ap (λ r. x ∷ r) e
  by false e = e

filter-whole : {X : Type 0} (q : X → Bool) (xs : List X) → list_all q xs ≡ true → filter q xs ≡ xs
filter-whole q [] e = refl
filter-whole q (x ∷ xs) e =
    let parts = both (q x) (list_all q xs) e in
    ap (λ b. cond b (x ∷ filter q xs) (filter q xs)) parts.0 ∙ ap (λ r. x ∷ r) (filter-whole q xs parts.1)

filter-none : {X : Type 0} (q : X → Bool) (xs : List X) → list_all q xs ≡ true → filter (λ x. not (q x)) xs ≡ []
filter-none q [] e = refl
filter-none q (x ∷ xs) e =
    let parts = both (q x) (list_all q xs) e in
    ap (λ b. cond (not b) (x ∷ filter (λ y. not (q y)) xs) (filter (λ y. not (q y)) xs)) parts.0 ∙ filter-none q xs parts.1

own-case : {X : Type 0} (q : X → Bool) (x : X) (xs : List X) (b : Bool) → q x ≡ b → list_all q (filter q xs) ≡ true → list_all q (cond b (x ∷ filter q xs) (filter q xs)) ≡ true
own-case q x xs true e f = and-true (q x) (list_all q (filter q xs)) e f
own-case q x xs false e f = f

filter-own : {X : Type 0} (q : X → Bool) (xs : List X) → list_all q (filter q xs) ≡ true
filter-own q [] = refl
filter-own q (x ∷ xs) = own-case q x xs (q x) refl (filter-own q xs)

all-names : (f : List ℕ → Bool) (xs : List Logical) → list_all (λ p. f p.name) xs ≡ list_all f (map (λ p. p.name) xs)
all-names f [] = refl
all-names f (x ∷ xs) = ap (λ b. f x.name && b) (all-names f xs)

same-names : (f : List ℕ → Bool) (xs ys : List Logical) → map (λ p. p.name) xs ≡ map (λ p. p.name) ys → list_all (λ p. f p.name) ys ≡ true → list_all (λ p. f p.name) xs ≡ true
same-names f xs ys e h = all-names f xs ∙ (ap (list_all f) e ∙ (sym (all-names f ys) ∙ h))

-- Lists side by side.
pub log-append : (all done : List (List ℕ)) (q : List Step) (xs ys us vs : List Logical) → Log all done q xs us → Log all done q ys vs → Log all done q (xs ++ ys) (us ++ vs)
log-append all done q [] ys [] vs h g = g
log-append all done q [] ys (u ∷ us) vs h g = absurd h
log-append all done q (x ∷ xs) ys [] vs h g = absurd h
log-append all done q (x ∷ xs) ys (u ∷ us) vs h g = (h.0, h.1, h.2, h.3, log-append all done q xs ys us vs h.4 g)

record Split (all done : List (List ℕ)) (q : List Step) (l us vs : List Logical) : Type 0 where
  front : List Logical
  back : List Logical
  whole : l ≡ front ++ back
  first : Log all done q front us
  second : Log all done q back vs

log-split : (all done : List (List ℕ)) (q : List Step) (l us vs : List Logical) → Log all done q l (us ++ vs) → Split all done q l us vs
log-split all done q l [] vs h = record { front = []; back = l; whole = refl; first = tt; second = h }
log-split all done q [] (u ∷ us) vs h = absurd h
log-split all done q (x ∷ l) (u ∷ us) vs h =
    let r = log-split all done q l us vs h.4 in
    record { front = x ∷ r.front; back = r.back; whole = ap (λ k. x ∷ k) r.whole; first = (h.0, h.1, h.2, h.3, r.first); second = r.second }

same-bytes : (a : Bool) (q : List Step) (name x : List ℕ) → MatchBool a (MatchBool false (x ≡ x) (Unit {0})) ((length x ≡ length x) × (wash q name x ≡ wash q name x))
same-bytes true q name x = tt
same-bytes false q name x = (refl, refl)

pub log-same : (all : List (List ℕ)) (q : List Step) (l : List Logical) → Log all [] q l l
log-same all q [] = tt
log-same all q (x ∷ l) = (refl, refl, refl, same-bytes (is_among all x.name) q x.name x.bytes, log-same all q l)

pub log-length : (all done : List (List ℕ)) (q : List Step) (xs ys : List Logical) → Log all done q xs ys → length xs ≡ length ys
log-length all done q [] [] h = refl
log-length all done q [] (y ∷ ys) h = absurd h
log-length all done q (x ∷ xs) [] h = absurd h
log-length all done q (x ∷ xs) (y ∷ ys) h = ap suc (log-length all done q xs ys h.4)

log-groups : (all done : List (List ℕ)) (q : List Step) (f : List ℕ → Bool) (xs ys : List Logical) → Log all done q xs ys → list_any (λ p. f p.group) xs ≡ list_any (λ p. f p.group) ys
log-groups all done q f [] [] h = refl
log-groups all done q f [] (y ∷ ys) h = absurd h
log-groups all done q f (x ∷ xs) [] h = absurd h
log-groups all done q f (x ∷ xs) (y ∷ ys) h =
    ap (λ g. f g || list_any (λ p. f p.group) xs) h.2 ∙ ap (λ b. f y.group || b) (log-groups all done q f xs ys h.4)

-- what is kept, by name
abbrev pub keeps : ℕ → Slot → Bool → List ℕ → Bool
keeps slots active wipe name = not wipe && not (bytes_eq name (codes "scratch")) && not ((slots == 2) && ends_with nat_eq name (suffix active))

abbrev entry : TablePartition → List ℕ → Logical
entry p bytes = record { name = p.name; attributes = p.attributes; group = p.group; bytes = bytes }

-- no bytes are kept of a name that no partition has
nothing-case : (name : List ℕ) (f : List ℕ → Bool) (x : Logical) (l : List Logical) (b : Bool) → bytes_eq x.name name ≡ b → f x.name ≡ true → f name ≡ false → kept_bytes name l ≡ [] →
    (if b then x.bytes else kept_bytes name l) ≡ []
nothing-case name f x l true e g h k = let i = ap f ((bytes_eq-Decides x.name name).0 e) in absurd cc
nothing-case name f x l false e g h k = k

nothing-kept : (name : List ℕ) (f : List ℕ → Bool) (l : List Logical) → list_all (λ p. f p.name) l ≡ true → f name ≡ false → kept_bytes name l ≡ []
nothing-kept name f [] e h = refl
nothing-kept name f (x ∷ l) e h =
    let parts = both (f x.name) (list_all (λ p. f p.name) l) e in
    nothing-case name f x l (bytes_eq x.name name) refl parts.0 h (nothing-kept name f l parts.1 h)

module _ (k : List ℕ → Bool) (back : List Logical) where
  abbrev looked : List Logical → List ℕ → List ℕ
  looked front name = kept_bytes name (filter (λ p. k p.name) front ++ back)

  look-own : (x : Logical) (front : List Logical) (name : List ℕ) (b : Bool) → k x.name ≡ b → b ≡ true → bytes_eq x.name name ≡ true →
      kept_bytes name (cond b (x ∷ filter (λ p. k p.name) front) (filter (λ p. k p.name) front) ++ back) ≡ x.bytes
  look-own x front name true e f g = ap (λ b. if b then x.bytes else kept_bytes name (filter (λ p. k p.name) front ++ back)) g
  look-own x front name false e f g = absurd cc

  look-other : (x : Logical) (front : List Logical) (name : List ℕ) (b : Bool) → bytes_eq x.name name ≡ false →
      kept_bytes name (cond b (x ∷ filter (λ p. k p.name) front) (filter (λ p. k p.name) front) ++ back) ≡ looked front name
  look-other x front name true g = ap (λ b. if b then x.bytes else kept_bytes name (filter (λ p. k p.name) front ++ back)) g
  look-other x front name false g = refl

  -- what the whole list tells of these names is what its end tells
  abbrev Tells : (List ℕ → List ℕ) → List Logical → List TablePartition → Type 0
  Tells f front ps = AllByRecursion (λ p. f p.name ≡ looked front p.name) ps

  apart : (x y : List ℕ) (b : Bool) → bytes_eq y x ≡ b → b ≡ false → bytes_eq x y ≡ false
  apart x y b e f = back-again (bytes_eq x y) refl where
    back-again : (c : Bool) → bytes_eq x y ≡ c → c ≡ false
    back-again false g = refl
    back-again true g = let h = (bytes_eq-Decides y x).1 (sym ((bytes_eq-Decides x y).0 g)) in absurd cc

  tells-rest : (f : List ℕ → List ℕ) (x : Logical) (front : List Logical) (own : List ℕ) → x.name ≡ own → (ps : List TablePartition) → list_any (λ y. bytes_eq y own) (map (λ p. p.name) ps) ≡ false →
      Tells f (x ∷ front) ps → Tells f front ps
  tells-rest f x front own e [] n h = tt
  tells-rest f x front own e (p ∷ ps) n h =
      let parts = or-false (bytes_eq p.name own) (list_any (λ y. bytes_eq y own) (map (λ p. p.name) ps)) n in
      let other : bytes_eq x.name p.name ≡ false = ap (λ m. bytes_eq m p.name) e ∙ apart own p.name (bytes_eq p.name own) refl parts.0 in
      (h.0 ∙ look-other x front p.name (k x.name) other, tells-rest f x front own e ps parts.1 h.1)

  not-back : (b : Bool) → not b ≡ true → b ≡ false
  not-back true e = absurd cc
  not-back false e = refl

  module _ (all : List (List ℕ)) (q : List Step) (f g : List ℕ → List ℕ) (none : (name : List ℕ) → k name ≡ false → (f name ≡ []) × (g name ≡ [])) where
    entry-bytes : (b : Bool) (x : Logical) (front : List Logical) (p : TablePartition) → k p.name ≡ b → x.name ≡ p.name → f p.name ≡ looked (x ∷ front) p.name → Bytes all [] q x.name x.bytes (g p.name) →
        Bytes all [] q p.name (f p.name) (g p.name) × (length (f p.name) ≤ length x.bytes)
    entry-bytes true x front p e n h t =
        let own : bytes_eq x.name p.name ≡ true = (bytes_eq-Decides x.name p.name).1 n in
        let same : f p.name ≡ x.bytes = h ∙ look-own x front p.name (k x.name) refl (ap k n ∙ e) own in (
          subst (λ b. Bytes all [] q p.name b (g p.name)) (sym same) (subst (λ m. Bytes all [] q m x.bytes (g p.name)) n t),
          omega (arith, ap length same),
        )
    entry-bytes false x front p e n h t =
        let nothing = none p.name e in (
          subst (λ b. Bytes all [] q p.name b (g p.name)) (sym nothing.0) (subst (λ b. Bytes all [] q p.name [] b) (sym nothing.1) (same-bytes (is_among all p.name) q p.name [])),
          omega (arith, ap length nothing.0),
        )

    -- the entries of the table, by what was kept of them again
    pub listed-again : (front : List Logical) (ps : List TablePartition) → are_distinct (map (λ p. p.name) ps) ≡ true → Tells f front ps → Log all [] q front (map (λ p. entry p (g p.name)) ps) →
        Log all [] q (map (λ p. entry p (f p.name)) ps) (map (λ p. entry p (g p.name)) ps) × Less (sizes_of (map (λ p. entry p (f p.name)) ps)) (sizes_of front)
    listed-again [] [] d t h = (tt, tt)
    listed-again (x ∷ front) [] d t h = absurd h
    listed-again [] (p ∷ ps) d t h = absurd h
    listed-again (x ∷ front) (p ∷ ps) d t h =
        let parts = both (not (list_any (λ y. bytes_eq y p.name) (map (λ p. p.name) ps))) (are_distinct (map (λ p. p.name) ps)) d in
        let one = entry-bytes (k p.name) x front p refl h.0 t.0 h.3 in
        let rest = listed-again front ps parts.1 (tells-rest f x front p.name h.0 ps (not-back (list_any (λ y. bytes_eq y p.name) (map (λ p. p.name) ps)) parts.0) t.1) h.4 in
        ((refl, refl, refl, one.0, rest.0), (sym h.2, one.1, rest.1))

tells-all : (k : List ℕ → Bool) (back front : List Logical) (ps : List TablePartition) → AllByRecursion (λ p. kept_bytes p.name (filter (λ x. k x.name) front ++ back) ≡ kept_bytes p.name (filter (λ x. k x.name) front ++ back)) ps
tells-all k back front [] = tt
tells-all k back front (p ∷ ps) = (refl, tells-all k back front ps)

listed-names : (ps : List TablePartition) (g : List ℕ → List ℕ) → map (λ p. p.name) (map (λ p. entry p (g p.name)) ps) ≡ map (λ p. p.name) ps
listed-names [] g = refl
listed-names (p ∷ ps) g = ap (λ r. p.name ∷ r) (listed-names ps g)

listed-among : (ps : List TablePartition) (name : List ℕ) → list_any (λ p. bytes_eq p.name name) ps ≡ list_any (λ n. bytes_eq n name) (map (λ p. p.name) ps)
listed-among [] name = refl
listed-among (p ∷ ps) name = ap (λ b. bytes_eq p.name name || b) (listed-among ps name)

own-listed : (names : List (List ℕ)) (some : List (List ℕ)) → ((n : List ℕ) → list_any (λ m. bytes_eq m n) some ≡ true → list_any (λ m. bytes_eq m n) names ≡ true) → list_all (λ n. list_any (λ m. bytes_eq m n) names) some ≡ true
own-listed names [] h = refl
own-listed names (n ∷ some) h =
    and-true (list_any (λ m. bytes_eq m n) names) (list_all (λ n. list_any (λ m. bytes_eq m n) names) some)
    (h n (ap (λ b. b || list_any (λ m. bytes_eq m n) some) ((bytes_eq-Decides n n).1 refl)))
    (own-listed names some (λ m e. h m (later (bytes_eq n m) (list_any (λ k. bytes_eq k m) some) e)))
  where
    later : (a b : Bool) → b ≡ true → (a || b) ≡ true
    later true b e = refl
    later false b e = e

less-append : (a b c d : List Logical) → Less (sizes_of a) (sizes_of c) → Less (sizes_of b) (sizes_of d) → Less (sizes_of (a ++ b)) (sizes_of (c ++ d))
less-append [] b [] d h g = g
less-append [] b (x ∷ c) d h g = absurd h
less-append (y ∷ a) b [] d h g = absurd h
less-append (y ∷ a) b (x ∷ c) d h g = (h.0, h.1, less-append a b c d h.2 g)

less-same : (a : List Logical) → Less (sizes_of a) (sizes_of a)
less-same [] = tt
less-same (x ∷ a) = (refl, omega arith, less-same a)

-- What the table makes of the partitions that it left: it lists the same, with at most as many bytes.
pub record Again (all : List (List ℕ)) (q : List Step) (tables : Tables) (k : List ℕ → Bool) (l old : List Logical) : Type 0 where
  pub log : Log all [] q (listed tables (filter (λ p. k p.name) l) ++ left_over tables (filter (λ p. k p.name) l)) (listed tables (filter (λ p. k p.name) old) ++ left_over tables (filter (λ p. k p.name) old))
  pub less : Less (sizes_of (listed tables (filter (λ p. k p.name) l) ++ left_over tables (filter (λ p. k p.name) l))) (sizes_of l)
  pub left : Log all [] q (left_over tables (filter (λ p. k p.name) l)) (left_over tables (filter (λ p. k p.name) old))

pub merge-again : (all : List (List ℕ)) (q : List Step) (tables : Tables) (k : List ℕ → Bool) (l old : List Logical) → are_distinct (map (λ p. p.name) tables.partitions) ≡ true →
    Log all [] q l (listed tables (filter (λ p. k p.name) old) ++ left_over tables (filter (λ p. k p.name) old)) → Again all q tables k l old
merge-again all q tables k l old d h =
    let before = filter (λ p. k p.name) old in
    let r = log-split all [] q l (listed tables before) (left_over tables before) h in
    let front = r.front in
    let back = r.back in
    let kept-all : list_all (λ p. k p.name) before ≡ true = filter-own (λ p. k p.name) old in
    let back-names = log-names all [] q back (left_over tables before) r.second in
    let back-kept : list_all (λ p. k p.name) back ≡ true = same-names k back (left_over tables before) back-names (all-filter (λ p. k p.name) (λ p. not (is_listed tables.partitions p.name)) before kept-all) in
    let back-left : list_all (λ p. not (is_listed tables.partitions p.name)) back ≡ true =
    same-names (λ n. not (is_listed tables.partitions n)) back (left_over tables before) back-names (filter-own (λ p. not (is_listed tables.partitions p.name)) before) in
    let front-names : map (λ p. p.name) front ≡ map (λ p. p.name) tables.partitions =
    log-names all [] q front (listed tables before) r.first ∙ listed-names tables.partitions (λ n. kept_bytes n before) in
    let front-listed : list_all (λ p. is_listed tables.partitions p.name) front ≡ true =
    all-names (is_listed tables.partitions) front
    ∙ (ap (list_all (is_listed tables.partitions)) front-names
    ∙ own-listed-here tables.partitions) in
    let again : filter (λ p. k p.name) l ≡ filter (λ p. k p.name) front ++ back =
    ap (filter (λ p. k p.name)) r.whole
    ∙ (filter-append (λ p. k p.name) front back ∙ ap (λ b. filter (λ p. k p.name) front ++ b) (filter-whole (λ p. k p.name) back back-kept)) in
    let left : left_over tables (filter (λ p. k p.name) front ++ back) ≡ back =
    filter-append (λ p. not (is_listed tables.partitions p.name)) (filter (λ p. k p.name) front) back
    ∙ (ap (λ b. b ++ filter (λ p. not (is_listed tables.partitions p.name)) back)
    (filter-none (λ p. is_listed tables.partitions p.name) (filter (λ p. k p.name) front) (all-filter (λ p. is_listed tables.partitions p.name) (λ p. k p.name) front front-listed))
    ∙ filter-whole (λ p. not (is_listed tables.partitions p.name)) back back-left) in
    let joined-kept : list_all (λ p. k p.name) (filter (λ p. k p.name) front ++ back) ≡ true =
    both-kept (filter (λ p. k p.name) front) back (filter-own (λ p. k p.name) front) back-kept in
    let two = listed-again k back all q (λ n. kept_bytes n (filter (λ p. k p.name) front ++ back)) (λ n. kept_bytes n before)
    (λ n e. (nothing-kept n k (filter (λ p. k p.name) front ++ back) joined-kept e, nothing-kept n k before kept-all e))
    front tables.partitions d (tells-all k back front tables.partitions) r.first in
    let P : List Logical → Type 0 = λ z. Log all [] q (listed tables z ++ left_over tables z) (listed tables before ++ left_over tables before) in
    let Q : List Logical → Type 0 = λ z. Less (sizes_of (listed tables z ++ left_over tables z)) (sizes_of l) in
    let R : List Logical → Type 0 = λ z. Log all [] q (left_over tables z) (left_over tables before) in
    let whole : Log all [] q (listed tables (filter (λ p. k p.name) front ++ back) ++ left_over tables (filter (λ p. k p.name) front ++ back)) (listed tables before ++ left_over tables before) =
    subst (λ b. Log all [] q (listed tables (filter (λ p. k p.name) front ++ back) ++ b) (listed tables before ++ left_over tables before)) (sym left)
    (log-append all [] q (listed tables (filter (λ p. k p.name) front ++ back)) back (listed tables before) (left_over tables before) two.0 r.second) in
    let short : Less (sizes_of (listed tables (filter (λ p. k p.name) front ++ back) ++ left_over tables (filter (λ p. k p.name) front ++ back))) (sizes_of l) =
    subst (λ b. Less (sizes_of (listed tables (filter (λ p. k p.name) front ++ back) ++ b)) (sizes_of l)) (sym left)
    (subst (λ b. Less (sizes_of (listed tables (filter (λ p. k p.name) front ++ back) ++ back)) (sizes_of b)) (sym r.whole)
    (less-append (listed tables (filter (λ p. k p.name) front ++ back)) back front back two.1 (less-same back))) in
    record {
      log = subst P (sym again) whole;
      less = subst Q (sym again) short;
      left = subst R (sym again) (subst (λ b. Log all [] q b (left_over tables before)) (sym left) r.second);
    }
  where
    both-kept : (xs ys : List Logical) → list_all (λ p. k p.name) xs ≡ true → list_all (λ p. k p.name) ys ≡ true → list_all (λ p. k p.name) (xs ++ ys) ≡ true
    both-kept [] ys e f = f
    both-kept (x ∷ xs) ys e f = let parts = both (k x.name) (list_all (λ p. k p.name) xs) e in and-true (k x.name) (list_all (λ p. k p.name) (xs ++ ys)) parts.0 (both-kept xs ys parts.1 f)

    own-listed-here : (ps : List TablePartition) → list_all (is_listed ps) (map (λ p. p.name) ps) ≡ true
    own-listed-here ps = same (map (λ p. p.name) ps) (own-listed (map (λ p. p.name) ps) (map (λ p. p.name) ps) (λ n e. e)) where
      same : (ns : List (List ℕ)) → list_all (λ n. list_any (λ m. bytes_eq m n) (map (λ p. p.name) ps)) ns ≡ true → list_all (is_listed ps) ns ≡ true
      same [] e = refl
      same (n ∷ ns) e =
          let parts = both (list_any (λ m. bytes_eq m n) (map (λ p. p.name) ps)) (list_all (λ n. list_any (λ m. bytes_eq m n) (map (λ p. p.name) ps)) ns) e in
          and-true (is_listed ps n) (list_all (is_listed ps) ns) (listed-among ps n ∙ parts.0) (same ns parts.1)
