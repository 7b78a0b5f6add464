-- Names in two parts, and rows that are looked for.
use Rattle.std.proofs.Common.{◌≡◌, ◌∙◌, refl, ap, sym, ℕ, zero, suc, ◌+◌, ◌≤◌, Bool, true, false, List, [], ◌∷◌, ◌++◌, map, length, take, drop, Some, None, append-nil, if◌then◌else◌, arith, ◌<◌, length-append}
use Rattle.std.specs.Prelude.{◌||◌, bytes_eq, slice_get, filter_map}
use Rattle.std.specs.List.{list_any}
use Rattle.std.specs.Map.{lookup}
use Rattle.std.proofs.lemmas.List.{drop_at, take_at, take-append-drop}
use Rattle.std.proofs.lemmas.Slice.Eq.{bytes_eq-Decides}
use Rattle.dev_model.specs.declared.device.Dev.{Dev}
use Rattle.dev_model.specs.Texts.{AreShortRows}
use Rattle.dev_store.specs.StoreCalls.{info_text}
use Rattle.dev_model.specs.Variables.{Row as NamedText, plain_rows, all_rows, has_slot_row, base_names}

same-truth : (a b : Bool) → (a ≡ true → b ≡ true) → (b ≡ true → a ≡ true) → a ≡ b
same-truth true b f g = sym (f refl)
same-truth false true f g = g refl
same-truth false false f g = refl

-- the order of two texts doesn't matter
pub eq-turned : (x y : List ℕ) → bytes_eq x y ≡ bytes_eq y x
eq-turned x y = same-truth (bytes_eq x y) (bytes_eq y x) (λ e. (bytes_eq-Decides y x).1 (sym ((bytes_eq-Decides x y).0 e))) (λ e. (bytes_eq-Decides x y).1 (sym ((bytes_eq-Decides y x).0 e)))

pub joined-same : (h o n : List ℕ) → bytes_eq (take (length h) n) h ≡ true → bytes_eq (drop (length h) n) o ≡ bytes_eq (h ++ o) n
joined-same h o n e =
    let whole : h ++ drop (length h) n ≡ n = ap (λ t. t ++ drop (length h) n) (sym ((bytes_eq-Decides (take (length h) n) h).0 e)) ∙ take-append-drop (length h) n in
    same-truth (bytes_eq (drop (length h) n) o) (bytes_eq (h ++ o) n)
    (λ k. (bytes_eq-Decides (h ++ o) n).1 (ap (λ t. h ++ t) (sym ((bytes_eq-Decides (drop (length h) n) o).0 k)) ∙ whole))
    (λ k. (bytes_eq-Decides (drop (length h) n) o).1 (ap (drop (length h)) (sym ((bytes_eq-Decides (h ++ o) n).0 k)) ∙ drop_at h o (length h) refl))

pub joined-other : (h o n : List ℕ) → bytes_eq (take (length h) n) h ≡ false → false ≡ bytes_eq (h ++ o) n
joined-other h o n e =
    same-truth false (bytes_eq (h ++ o) n) (λ k. absurd cc)
    (λ k. sym e ∙ (bytes_eq-Decides (take (length h) n) h).1 (ap (take (length h)) (sym ((bytes_eq-Decides (h ++ o) n).0 k)) ∙ take_at h o (length h) refl))

-- names that are told are the names that there are
pub any-told : {X Y : Type 0} (n : List ℕ) (name : X → List ℕ) (own : Y → List ℕ) (told : X → Y) → ((x : X) → own (told x) ≡ name x) → (xs : List X) →
    list_any (λ x. bytes_eq n (name x)) xs ≡ list_any (λ y. bytes_eq (own y) n) (map told xs)
any-told n name own told same [] = refl
any-told n name own told same (x ∷ xs) =
    ap (λ b. b || list_any (λ x. bytes_eq n (name x)) xs) (eq-turned n (name x) ∙ ap (λ m. bytes_eq m n) (sym (same x)))
    ∙ ap (λ b. bytes_eq (own (told x)) n || b) (any-told n name own told same xs)

-- what is left from a place on
drop-some : {X : Type 0} (rows : List X) (i : ℕ) (row : X) → slice_get rows i ≡ Some row → drop i rows ≡ row ∷ drop (i + 1) rows
drop-some [] i row h = absurd cc
drop-some (r ∷ rows) zero row h = ap (λ x. x ∷ rows) cc
drop-some (r ∷ rows) (suc i) row h = drop-some rows i row h ∙ ap (λ k. row ∷ drop k (r ∷ rows)) {x = suc (i + 1)} {y = suc i + 1} (omega arith)

drop-none : {X : Type 0} (rows : List X) (i : ℕ) → slice_get rows i ≡ None → drop i rows ≡ []
drop-none [] zero h = refl
drop-none [] (suc i) h = refl
drop-none (r ∷ rows) zero h = absurd cc
drop-none (r ∷ rows) (suc i) h = drop-none rows i h

pub at-row : (rows : List NamedText) (i : ℕ) (row : NamedText) → ((more : List NamedText) → slice_get (rows ++ more) i ≡ Some row) → drop i rows ≡ row ∷ drop (i + 1) rows
at-row rows i row h = drop-some rows i row (ap (λ l. slice_get l i) (sym (append-nil rows)) ∙ h [])

pub no-row : (rows : List NamedText) (i k : ℕ) → ((more : List NamedText) → slice_get (rows ++ more) i ≡ slice_get more k) → drop i rows ≡ []
no-row rows i k h = drop-none rows i (ap (λ l. slice_get l i) (sym (append-nil rows)) ∙ h [])

pub found-row : (test : List ℕ → Bool) (rows : List NamedText) (i : ℕ) (row : NamedText) (b : Bool) → ((more : List NamedText) → slice_get (rows ++ more) i ≡ Some row) → test row.0 ≡ b →
    lookup test (drop i rows) ≡ (if b then Some row.1 else lookup test (drop (i + 1) rows))
found-row test rows i row b h e = ap (lookup test) (at-row rows i row h) ∙ ap (λ t. if t then Some row.1 else lookup test (drop (i + 1) rows)) e

pub short-other : (h o n : List ℕ) → length n < length h → false ≡ bytes_eq (h ++ o) n
short-other h o n l =
    same-truth false (bytes_eq (h ++ o) n) (λ k. absurd cc)
    (λ k. let e = ap (length {A = ℕ}) ((bytes_eq-Decides (h ++ o) n).0 k) in let a = length-append h o in absurd (omega arith))

-- short rows stand before others
pub short-front : (xs ys : List NamedText) → AreShortRows (xs ++ ys) → AreShortRows xs
short-front [] ys h = tt
short-front (x ∷ xs) ys h = (h.0, short-front xs ys h.1)

pub plain-short : (dev : Dev) → AreShortRows (all_rows dev) → AreShortRows (plain_rows dev)
unfolding all_rows
plain-short dev h = short-front (plain_rows dev) (filter_map (has_slot_row dev) (base_names dev)) h

-- a text that is found among short rows is short
pub found-short : (test : List ℕ → Bool) (rows : List NamedText) (text : List ℕ) → AreShortRows rows → Some text ≡ lookup test rows → length text ≤ 251
found-short test [] text h e = absurd cc
found-short test (r ∷ rows) text h e = by (test r.0) (found-short test rows text h.1) e where
  by : (b : Bool) → (Some text ≡ lookup test rows → length text ≤ 251) → Some text ≡ (if b then Some r.1 else lookup test rows) → length text ≤ 251
  by true more k = let s : text ≡ r.1 = cc in let l = h.0 in let e = ap (length {A = ℕ}) s in omega arith
  by false more k = more k

-- a row of short rows is short
pub row-short : (rows : List NamedText) (i : ℕ) (r : NamedText) → AreShortRows rows → Some r ≡ slice_get rows i → length (info_text r) ≤ 252
row-short [] i r h e = absurd cc
row-short (x ∷ rows) zero r h e =
    let s : r ≡ x = cc in
    let l = h.0 in
    let m = length-append r.0 (58 ∷ r.1) in
    let n = ap (λ (y : NamedText). length y.0) s in
    let k = ap (λ (y : NamedText). length y.1) s in
    omega arith
row-short (x ∷ rows) (suc i) r h e = row-short rows i r h.1 e
