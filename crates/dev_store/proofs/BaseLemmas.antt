-- Names at places, and base names that stand once.
use Rattle.std.proofs.Common.{◌≡◌, ◌∙◌, refl, ap, sym, ℕ, zero, suc, ◌+◌, ◌-◌, ◌<◌, ◌≤◌, Bool, true, false, not, cond, List, [], ◌∷◌, ◌++◌, map, filter, length, take, drop, get_or, Option, Some, None, option_map, if◌then◌else◌, arith, length-append}
use Rattle.std.specs.Prelude.{◌&&◌, ◌||◌, bytes_eq, slice_get, filter_map}
use Rattle.std.specs.List.{list_any, cons_option}
use Rattle.std.proofs.lemmas.Option.{slice_get-map, slice_get-get_or, slice_get_past}
use Rattle.std.proofs.lemmas.List.{length-map, drop_all}
use Rattle.std.proofs.lemmas.List.Folds.{list_any-append}
use Rattle.dev_model.proofs.FirstOnes.{first_begin}
use Rattle.dev_model.specs.Variables.{Row as NamedText, first_ones}
use Rattle.dev_store.specs.declared.variables_row.Facts.{Facts}
use Rattle.dev_store.specs.StoreCalls.{names_of}
use Rattle.dev_store.specs.ToldRows.{told_device, told_physical, told_logical}

names-told : {X Y : Type 0} (name : X → List ℕ) (own : Y → List ℕ) (told : X → Y) → ((x : X) → own (told x) ≡ name x) → (xs : List X) → map own (map told xs) ≡ map name xs
names-told name own told same [] = refl
names-told name own told same (x ∷ xs) = let one = same x in let more = names-told name own told same xs in λ i. one i ∷ more i

abbrev pub names-listed : Facts → List (List ℕ)
names-listed f = map (λ p. p.name) f.physical.now ++ map (λ p. p.name) f.logical.now

pub names-are : (f : Facts) → names_of (told_device f) ≡ names-listed f
names-are f =
    ap (λ l. l ++ map (λ p. p.name) (map (told_logical f.extents.now) f.logical.now)) (names-told (λ p. p.name) (λ p. p.name) told_physical (λ p. refl) f.physical.now)
    ∙ ap (λ l. map (λ p. p.name) f.physical.now ++ l) (names-told (λ p. p.name) (λ p. p.name) (told_logical f.extents.now) (λ p. refl) f.logical.now)

get-front : {X : Type 0} (xs ys : List X) (i : ℕ) → i < length xs → slice_get (xs ++ ys) i ≡ slice_get xs i
get-front [] ys i h = absurd (omega arith)
get-front (x ∷ xs) ys zero h = refl
get-front (x ∷ xs) ys (suc i) h = get-front xs ys i (omega arith)

get-after : {X : Type 0} (xs ys : List X) (i : ℕ) → length xs ≤ i → slice_get (xs ++ ys) i ≡ slice_get ys (i - length xs)
get-after [] ys i h = ap (slice_get ys) {x = i} {y = i - 0} (omega arith)
get-after (x ∷ xs) ys zero h = absurd (omega arith)
get-after (x ∷ xs) ys (suc i) h = get-after xs ys i (omega arith) ∙ ap (slice_get ys) {x = i - length xs} {y = suc i - suc (length xs)} (omega arith)

named-at : {X : Type 0} (name : X → List ℕ) (xs : List X) (i : ℕ) (d : X) → i < length xs → Some (name (get_or xs i d)) ≡ slice_get (map name xs) i
named-at name xs i d h = sym (slice_get-map name xs i ∙ ap (option_map name) (slice_get-get_or xs i d h))

pub name-front : {X : Type 0} (name : X → List ℕ) (xs : List X) (ys : List (List ℕ)) (i : ℕ) (d : X) → i < length xs → Some (name (get_or xs i d)) ≡ slice_get (map name xs ++ ys) i
name-front name xs ys i d h = let l = length-map xs name in named-at name xs i d h ∙ sym (get-front (map name xs) ys i (omega arith))

pub name-after : {X Y : Type 0} (name : X → List ℕ) (own : Y → List ℕ) (xs : List X) (ys : List Y) (i : ℕ) (d : Y) → length xs ≤ i → i - length xs < length ys →
    Some (own (get_or ys (i - length xs) d)) ≡ slice_get (map name xs ++ map own ys) i
name-after name own xs ys i d h k =
    let l = length-map xs name in
    named-at own ys (i - length xs) d k ∙ (ap (slice_get (map own ys)) {x = i - length xs} {y = i - length (map name xs)} (omega arith) ∙ sym (get-after (map name xs) (map own ys) i (omega arith)))

pub name-past : {X Y : Type 0} (name : X → List ℕ) (own : Y → List ℕ) (xs : List X) (ys : List Y) (i : ℕ) → length xs ≤ i → length ys ≤ i - length xs → None ≡ slice_get (map name xs ++ map own ys) i
name-past name own xs ys i h k =
    let l = length-map xs name in
    let m = length-map ys own in
    sym (get-after (map name xs) (map own ys) i (omega arith) ∙ slice_get_past (map own ys) (i - length (map name xs)) (omega arith))

-- the base name of the name at a place
abbrev pub Turns : (List ℕ → List ℕ) → List (List ℕ) → ℕ → List ℕ → Type 0
Turns b names i y = (take (i + 1) (map b names) ≡ take i (map b names) ++ y ∷ []) × (drop i (map b names) ≡ y ∷ drop (i + 1) (map b names))

pub base-turns : (b : List ℕ → List ℕ) (names : List (List ℕ)) (i : ℕ) (n y : List ℕ) → Some n ≡ slice_get names i → y ≡ b n → Turns b names i y
base-turns b [] i n y h e = absurd cc
base-turns b (m ∷ names) zero n y h e = let s : b m ≡ y = ap b (let k : m ≡ n = cc in k) ∙ sym e in (ap (λ x. x ∷ []) s, ap (λ x. x ∷ map b names) s)
base-turns b (m ∷ names) (suc i) n y h e =
    let r = base-turns b names i n y h e in
    (ap (λ k. take k (map b (m ∷ names))) {x = suc i + 1} {y = suc (i + 1)} (omega arith) ∙ ap (λ l. b m ∷ l) r.0, r.1 ∙ ap (λ k. y ∷ drop k (map b (m ∷ names))) {x = suc (i + 1)} {y = suc i + 1} (omega arith))

any-longer : (t : List ℕ → Bool) (xs : List (List ℕ)) (i j : ℕ) → i ≤ j → list_any t (take i xs) ≡ true → list_any t (take j xs) ≡ true
any-longer t xs zero j h e = absurd cc
any-longer t [] (suc i) j h e = absurd cc
any-longer t (x ∷ xs) (suc i) zero h e = absurd (omega arith)
any-longer t (x ∷ xs) (suc i) (suc j) h e = by (t x) (any-longer t xs i j (omega arith)) e where
  by : (c : Bool) → (list_any t (take i xs) ≡ true → list_any t (take j xs) ≡ true) → (c || list_any t (take i xs)) ≡ true → (c || list_any t (take j xs)) ≡ true
  by true more k = refl
  by false more k = more k

pub known-then : (b : List ℕ → List ℕ) (names : List (List ℕ)) (i place : ℕ) (base y : List ℕ) → Turns b names i y → bytes_eq base y ≡ true → i < place → true ≡ list_any (λ x. bytes_eq base x) (take place (map b names))
known-then b names i place base y t e h =
    sym (any-longer (λ x. bytes_eq base x) (map b names) (i + 1) place (omega arith)
    (ap (list_any (λ x. bytes_eq base x)) t.0 ∙ (list_any-append (λ x. bytes_eq base x) (take i (map b names)) (y ∷ []) ∙ by (list_any (λ x. bytes_eq base x) (take i (map b names))) (bytes_eq base y) e))) where
      by : (a c : Bool) → c ≡ true → (a || (c || false)) ≡ true
      by true c k = refl
      by false c k = ap (λ d. d || false) k

pub unknown-then : (b : List ℕ → List ℕ) (names : List (List ℕ)) (i : ℕ) (base y : List ℕ) → Turns b names i y → bytes_eq base y ≡ false → list_any (λ x. bytes_eq base x) (take i (map b names)) ≡ false →
    list_any (λ x. bytes_eq base x) (take (i + 1) (map b names)) ≡ false
unknown-then b names i base y t e h =
    ap (list_any (λ x. bytes_eq base x)) t.0 ∙ (list_any-append (λ x. bytes_eq base x) (take i (map b names)) (y ∷ []) ∙ (ap (λ a. a || (bytes_eq base y || false)) h ∙ ap (λ c. c || false) e))

-- what is new in a list after the texts that are seen, with the row of each
abbrev pub among : List (List ℕ) → List ℕ → Bool
among seen y = list_any (λ x. bytes_eq y x) seen

abbrev pub new-rows : (List ℕ → Option NamedText) → List (List ℕ) → List (List ℕ) → List NamedText
new-rows row seen ys = filter_map row (filter (λ y. not (among seen y)) (first_ones ys))

two-filters : (p q r : List ℕ → Bool) → ((y : List ℕ) → r y ≡ (q y && p y)) → (ys : List (List ℕ)) → filter p (filter q ys) ≡ filter r ys
two-filters p q r f [] = refl
two-filters p q r f (y ∷ ys) = by (q y) (p y) refl refl (two-filters p q r f ys) where
  by : (a c : Bool) → q y ≡ a → p y ≡ c → filter p (filter q ys) ≡ filter r ys → filter p (cond (q y) (y ∷ filter q ys) (filter q ys)) ≡ cond (r y) (y ∷ filter r ys) (filter r ys)
  by a c e g h =
      ap (λ d. filter p (cond d (y ∷ filter q ys) (filter q ys))) e ∙ (inner a c g h ∙ sym (ap (λ d. cond d (y ∷ filter r ys) (filter r ys)) (f y ∙ (ap (λ d. d && p y) e ∙ ap (λ d. a && d) g)))) where
        inner : (a c : Bool) → p y ≡ c → filter p (filter q ys) ≡ filter r ys → filter p (cond a (y ∷ filter q ys) (filter q ys)) ≡ cond (a && c) (y ∷ filter r ys) (filter r ys)
        inner true true g h = ap (λ d. cond d (y ∷ filter p (filter q ys)) (filter p (filter q ys))) g ∙ ap (λ t. y ∷ t) h
        inner true false g h = ap (λ d. cond d (y ∷ filter p (filter q ys)) (filter p (filter q ys))) g ∙ h
        inner false c g h = h

more-seen : (seen : List (List ℕ)) (x y : List ℕ) → not (among (seen ++ x ∷ []) y) ≡ (not (bytes_eq y x) && not (among seen y))
more-seen seen x y = ap not (list_any-append (λ z. bytes_eq y z) seen (x ∷ [])) ∙ by (among seen y) (bytes_eq y x) where
  by : (a c : Bool) → not (a || (c || false)) ≡ (not c && not a)
  by true true = refl
  by true false = refl
  by false true = refl
  by false false = refl

new-step : (row : List ℕ → Option NamedText) (seen : List (List ℕ)) (y : List ℕ) (ys : List (List ℕ)) →
    new-rows row seen (y ∷ ys) ≡ cons_option (if among seen y then None else row y) (new-rows row (seen ++ y ∷ []) ys)
new-step row seen y ys = by (among seen y) refl where
  left : List (List ℕ)
  left = filter (λ z. not (among seen z)) (filter (λ z. not (bytes_eq z y)) (first_ones ys))

  same : left ≡ filter (λ z. not (among (seen ++ y ∷ []) z)) (first_ones ys)
  same = two-filters (λ z. not (among seen z)) (λ z. not (bytes_eq z y)) (λ z. not (among (seen ++ y ∷ []) z)) (more-seen seen y) (first_ones ys)

  by : (a : Bool) → among seen y ≡ a → filter_map row (cond (not (among seen y)) (y ∷ left) left) ≡ cons_option (if among seen y then None else row y) (new-rows row (seen ++ y ∷ []) ys)
  by true e =
      ap (λ d. filter_map row (cond (not d) (y ∷ left) left)) e ∙ (ap (filter_map row) same ∙ sym (ap (λ d. cons_option (if d then None else row y) (new-rows row (seen ++ y ∷ []) ys)) e))
  by false e =
      ap (λ d. filter_map row (cond (not d) (y ∷ left) left)) e ∙ (ap (λ l. cons_option (row y) (filter_map row l)) same ∙ sym (ap (λ d. cons_option (if d then None else row y) (new-rows row (seen ++ y ∷ []) ys)) e))

-- one name more was looked at
pub new-turn : (row : List ℕ → Option NamedText) (b : List ℕ → List ℕ) (names : List (List ℕ)) (i left : ℕ) (y : List ℕ) (o v : Option NamedText) → Turns b names i y →
    o ≡ (if among (take i (map b names)) y then None else row y) → slice_get (new-rows row (take i (map b names)) (drop i (map b names))) left ≡ v →
    slice_get (cons_option o (new-rows row (take (i + 1) (map b names)) (drop (i + 1) (map b names)))) left ≡ v
new-turn row b names i left y o v t e h =
    ap (λ p. slice_get (cons_option p (new-rows row (take (i + 1) (map b names)) (drop (i + 1) (map b names)))) left) e
    ∙ (ap (λ s. slice_get (cons_option (if among (take i (map b names)) y then None else row y) (new-rows row s (drop (i + 1) (map b names)))) left) t.0
    ∙ (ap (λ l. slice_get l left) (sym (new-step row (take i (map b names)) y (drop (i + 1) (map b names))))
    ∙ (ap (λ l. slice_get (new-rows row (take i (map b names)) l) left) (sym t.1) ∙ h)))

-- a row was new, and isn't the one that is looked for
pub next-left : (r : NamedText) (rows : List NamedText) (left : ℕ) (v : Option NamedText) → (left ≡ 0 → ⊥) → slice_get (r ∷ rows) left ≡ v → slice_get rows (left - 1) ≡ v
next-left r rows zero v ne h = absurd (ne refl)
next-left r rows (suc left) v ne h = ap (slice_get rows) {x = suc left - 1} {y = left} (omega arith) ∙ h

-- nothing is left
pub none-left : (row : List ℕ → Option NamedText) (b : List ℕ → List ℕ) (names : List (List ℕ)) (i left : ℕ) (v : Option NamedText) → length names ≤ i →
    slice_get (new-rows row (take i (map b names)) (drop i (map b names))) left ≡ v → None ≡ v
none-left row b names i left v h e =
    let l = length-map names b in
    ap (λ ys. slice_get (new-rows row (take i (map b names)) ys) left) (sym (drop_all i (map b names) (omega arith))) ∙ e

pub first-rows : (row : List ℕ → Option NamedText) (bs : List (List ℕ)) → new-rows row [] bs ≡ filter_map row (first_ones bs)
first-rows row bs = ap (filter_map row) (first_begin (first_ones bs))

pub past-names : (names : List (List ℕ)) (i : ℕ) → None ≡ slice_get names i → length names ≤ i
past-names [] i h = omega arith
past-names (n ∷ names) zero h = absurd cc
past-names (n ∷ names) (suc i) h = let r = past-names names i h in omega arith

pub names-long : (f : Facts) → length (names_of (told_device f)) ≡ length f.physical.now + length f.logical.now
names-long f =
    let a = length-append (map (λ p. p.name) f.physical.now) (map (λ p. p.name) f.logical.now) in
    ap length (names-are f) ∙ (a ∙ (ap (λ n. n + length (map (λ p. p.name) f.logical.now)) (length-map f.physical.now (λ p. p.name)) ∙ ap (λ n. length f.physical.now + n) (length-map f.logical.now (λ p. p.name))))
