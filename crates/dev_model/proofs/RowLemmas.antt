-- Rows that are told one after the other.
use Rattle.std.proofs.Common.{◌≡◌, ℕ, zero, suc, ◌+◌, ◌<◌, true, List, [], ◌∷◌, ◌++◌, length, get_or, take, ap, sym, ◌∙◌, arith, append_assoc, append-nil, Option, Some, None, refl}
use Rattle.std.specs.Prelude.{flat_map, filter_map, option_to_list, if◌then◌else◌}
use Rattle.std.specs.List.{cons_option}
use Rattle.std.proofs.lemmas.List.{take_more}
use Rattle.std.proofs.lemmas.List.Elements.{filter_map-append}
use Rattle.dev_model.specs.declared.device.Dev.{Dev}
use Rattle.dev_model.specs.Partitions.{has_slots}
use Rattle.dev_model.specs.Variables.{Row, with_slots_only}

-- one row, as it is told and as it is meant
pub one_row : {X : Type 0} (o p : List X) (x a : X) → p ≡ o ++ x ∷ [] → x ≡ a → p ≡ o ++ a ∷ []
one_row o p x a e f = e ∙ ap (λ t. o ++ t ∷ []) f

-- three rows
pub three_rows : {X : Type 0} (o p q r : List X) (x y z a b c : X) → p ≡ o ++ x ∷ [] → q ≡ p ++ y ∷ [] → r ≡ q ++ z ∷ [] → x ≡ a → y ≡ b → z ≡ c →
    r ≡ o ++ a ∷ b ∷ c ∷ []
three_rows o p q r x y z a b c e f g h i j =
    one_row q r z c g j
    ∙ ap (λ t. t ++ c ∷ []) (one_row p q y b f i ∙ ap (λ t. t ++ b ∷ []) (one_row o p x a e h) ∙ append_assoc o (a ∷ []) (b ∷ []))
    ∙ append_assoc o (a ∷ b ∷ []) (c ∷ [])

-- a row as it is told, and as it is meant
pub pair : (a b x y : List ℕ) → a ≡ x → b ≡ y → ◌≡◌ {A = List ℕ × List ℕ} (a, b) (x, y)
pair a b x y e f = λ i. (e i, f i)

pub pair_of : (h o b x y z : List ℕ) → h ≡ x → o ≡ y → b ≡ z → ◌≡◌ {A = List ℕ × List ℕ} (h ++ o, b) (x ++ y, z)
pair_of h o b x y z e f g = λ i. (e i ++ f i, g i)

-- rows that only a device with slots tells
pub when_slots : (dev : Dev) (o p rows : List Row) → has_slots dev ≡ true → p ≡ o ++ rows → p ≡ o ++ with_slots_only dev rows
when_slots dev o p rows h e = e ∙ ap (λ b. o ++ (if b then rows else [])) (sym h)

-- what one more element gives
pub flat_map_turn : {X Y : Type 0} (f : X → List Y) (o : List Y) (xs : List X) (i : ℕ) (x : X) → i < length xs → x ≡ get_or xs i x →
    (o ++ flat_map f (take i xs)) ++ f x ≡ o ++ flat_map f (take (i + 1) xs)
flat_map_turn {X = X} f o xs i x h e = append_assoc o (flat_map f (take i xs)) (f x) ∙ ap (λ t. o ++ t) (turned xs i h e) where
  turned : (ys : List X) (k : ℕ) → k < length ys → x ≡ get_or ys k x → flat_map f (take k ys) ++ f x ≡ flat_map f (take (k + 1) ys)
  turned [] k l g = absurd (omega arith)
  turned (y ∷ ys) zero l g = ap f g ∙ sym (append-nil (f y))
  turned (y ∷ ys) (suc k) l g =
      let next : suc k + 1 ≡ suc (k + 1) = omega arith in
      rw next (append_assoc (f y) (flat_map f (take k ys)) (f x) ∙ ap (λ t. f y ++ t) (turned ys k (omega arith) g))

-- what one more element gives, if anything
pub filter_map_turn : {X Y : Type 0} (f : X → Option Y) (o : List Y) (xs : List X) (i : ℕ) (x : X) → i < length xs → x ≡ get_or xs i x →
    (o ++ filter_map f (take i xs)) ++ option_to_list (f x) ≡ o ++ filter_map f (take (i + 1) xs)
filter_map_turn {Y = Y} f o xs i x h e =
    append_assoc o (filter_map f (take i xs)) (option_to_list (f x))
    ∙ ap (λ t. o ++ t) (ap (λ t. filter_map f (take i xs) ++ t) (alone (f x)) ∙ sym (filter_map-append f (take i xs) (x ∷ [])) ∙ ap (filter_map f) more) where
      more : take i xs ++ x ∷ [] ≡ take (i + 1) xs
      more = ap (λ y. take i xs ++ y ∷ []) e ∙ sym (take_more xs i x h)

      alone : (p : Option Y) → option_to_list p ≡ cons_option p []
      alone None = refl
      alone (Some y) = refl

pub ruleset row_turns = (flat_map_turn, filter_map_turn)
