-- The field of a name holds it, and zeros after it.
use Rattle.std.proofs.Common.{◌≡◌, ℕ, zero, suc, ◌+◌, ◌-◌, ◌≤◌, Bool, true, false, cond, List, [], ◌∷◌, ◌++◌, length, take, drop, replicate, Some, None, refl, sym, ap, ◌∙◌, arith, length-append}
use Rattle.std.specs.Prelude.{◌&&◌, not, nat_lt, nat_le, ◌==◌, unwrap_or, min}
use Rattle.std.specs.List.{list_all, prefix_len}
use Rattle.std.proofs.lemmas.Bool.Decides.{nat_tests}
use Rattle.std.proofs.lemmas.List.{take-append-drop, length-take, length-drop, length-replicate, take_min, take_at, drop_at}
use Rattle.std.proofs.lemmas.List.Sums.{prefix_len-le-length}
use Rattle.fb_frame.specs.NameText.{is_name, is_name_byte}
use Rattle.super_meta.specs.Entries.{is_zero, name_in, is_name_field, name_field}

-- both tests of a pair
pub both : (a b : Bool) → (a && b) ≡ true → (a ≡ true) × (b ≡ true)
both true b h = (refl, h)
both false b h = absurd cc

pub bothly : (a b : Bool) → a ≡ true → b ≡ true → (a && b) ≡ true
bothly a b h k = rw (h, k) refl

abbrev front_len : List ℕ → ℕ
front_len field = prefix_len (λ b. not (is_zero b)) field

at-front : (m n : ℕ) → m ≤ n → unwrap_or (cond (nat_lt m n) (Some m) None) n ≡ m
at-front m n h = grind (arith, nat_tests)

name-at : (field : List ℕ) → name_in field ≡ take (front_len field) field
unfolding name_in
name-at field = ap (λ n. take n field) (at-front (front_len field) (length field) (prefix_len-le-length (λ b. not (is_zero b)) field))

pub zeros-are : (xs : List ℕ) → list_all is_zero xs ≡ true → xs ≡ replicate (length xs) 0
zeros-are [] h = refl
zeros-are (x ∷ xs) h =
    let p = both (is_zero x) (list_all is_zero xs) h in
    let z : x ≡ 0 = let q : (x == 0) ≡ true = p.0 in grind (arith, nat_tests) in
    ap (λ y. y ∷ xs) z ∙ ap (λ t. 0 ∷ t) (zeros-are xs p.1)

pub name-is : (field : List ℕ) → is_name_field field ≡ true → is_name (name_in field) ≡ true
unfolding is_name_field
name-is field h = (both (is_name (name_in field)) (list_all is_zero (drop (length (name_in field)) field)) h).0

pub name-back : (field : List ℕ) → length field ≡ 36 → is_name_field field ≡ true → field ≡ name_field (name_in field)
unfolding is_name_field
name-back field l h =
    let name = name_in field in
    let rest = (both (is_name name) (list_all is_zero (drop (length name) field)) h).1 in
    let n = front_len field in
    let len : length name ≡ min n (length field) = ap length (name-at field) ∙ length-take n field in
    let front : take (length name) field ≡ name = ap (λ k. take k field) len ∙ (take_min n field ∙ sym (name-at field)) in
    let behind : drop (length name) field ≡ replicate (36 - length name) 0 =
    zeros-are (drop (length name) field) rest ∙ ap (λ k. replicate k 0) (length-drop (length name) field ∙ ap (λ k. k - length name) l) in
    sym (take-append-drop (length name) field) ∙ (ap (λ t. t ++ drop (length name) field) front ∙ ap (λ t. name ++ t) behind)

name-parts : (name : List ℕ) → is_name name ≡ true → (1 ≤ length name) × (length name ≤ 35) × (list_all is_name_byte name ≡ true)
name-parts name h =
    let p = both (nat_le 1 (length name) && nat_le (length name) 35) (list_all is_name_byte name) h in
    let q = both (nat_le 1 (length name)) (nat_le (length name) 35) p.0 in
    (low (length name) q.0, high (length name) q.1, p.1)
  where
    low : (n : ℕ) → nat_le 1 n ≡ true → 1 ≤ n
    low n e = grind (arith, nat_tests)

    high : (n : ℕ) → nat_le n 35 ≡ true → n ≤ 35
    high n e = grind (arith, nat_tests)

not-zero : (b : ℕ) → is_name_byte b ≡ true → not (is_zero b) ≡ true
not-zero b h = grind (arith, nat_tests)

all-front : (name rest : List ℕ) → list_all is_name_byte name ≡ true → front_len (name ++ (0 ∷ rest)) ≡ length name
all-front [] rest h = refl
all-front (b ∷ name) rest h =
    let p = both (is_name_byte b) (list_all is_name_byte name) h in
    let q = not-zero b p.0 in
    rw q (ap (λ n. 1 + n) (all-front name rest p.1) ∙ omega arith)

pub zeros-pass : (n : ℕ) → list_all is_zero (replicate n 0) ≡ true
zeros-pass zero = refl
zeros-pass (suc n) = zeros-pass n

pub length-name_field : (name : List ℕ) → is_name name ≡ true → length (name_field name) ≡ 36
length-name_field name h = let p = name-parts name h in omega (arith, length-append name (replicate (36 - length name) 0), length-replicate {A = ℕ} (36 - length name) 0, p.1)

pub name-again : (name : List ℕ) → is_name name ≡ true → name_in (name_field name) ≡ name
name-again name h =
    let p = name-parts name h in
    let k : 36 - length name ≡ suc (35 - length name) = omega (arith, p.1) in
    let field : name_field name ≡ name ++ (0 ∷ replicate (35 - length name) 0) = ap (λ n. name ++ replicate n 0) k in
    let len : front_len (name_field name) ≡ length name = ap front_len field ∙ all-front name (replicate (35 - length name) 0) p.2 in
    name-at (name_field name) ∙ (ap (λ n. take n (name_field name)) len ∙ take_at name (replicate (36 - length name) 0) (length name) refl)

pub field-again : (name : List ℕ) → is_name name ≡ true → is_name_field (name_field name) ≡ true
unfolding is_name_field
field-again name h =
    let own = name-again name h in
    let rest : list_all is_zero (drop (length (name_in (name_field name))) (name_field name)) ≡ true =
    ap (λ n. list_all is_zero (drop (length n) (name_field name))) own ∙ (ap (list_all is_zero) (drop_at name (replicate (36 - length name) 0) (length name) refl) ∙ zeros-pass (36 - length name)) in
    bothly (is_name (name_in (name_field name))) (list_all is_zero (drop (length (name_in (name_field name))) (name_field name))) (ap is_name own ∙ h) rest
