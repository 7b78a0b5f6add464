-- An entry that is read is the entry that was written, and what was written is read again.
use Rattle.std.proofs.Common.{◌≡◌, ℕ, zero, suc, ◌+◌, ◌*◌, ◌≤◌, Bool, true, List, [], ◌∷◌, ◌++◌, length, take, drop, map, refl, sym, ap, ◌∙◌, arith}
use Rattle.std.specs.Prelude.{◌&&◌, ◌==◌}
use Rattle.std.specs.List.{list_all, flat_map}
use Rattle.std.specs.Int.{w16, w32, w64, to_le_bytes}
use Rattle.std.proofs.Math.Seq.{take-add}
use Rattle.std.proofs.lemmas.Bool.Decides.{nat_tests}
use Rattle.std.proofs.lemmas.List.{take_all, length-drop, length-take-le}
use Rattle.fb_frame.specs.Bytes.{AreBytes}
use Rattle.fb_frame.specs.Fields.{u16_at, u32_at, u64_at}
use Rattle.super_meta.specs.Entries.{rows, name_in, is_name_field, name_field, is_named, is_unset, partition_of, partition_bytes, extent_of, extent_bytes, group_of, group_bytes, device_of, device_bytes}
use Rattle.fb_frame.proofs.FieldLemmas.{bytes-drop, bytes-take, field16, field32, field64}
use Rattle.super_meta.proofs.SealLemmas.{part}
use Rattle.super_meta.proofs.NameLemmas.{both, name-back}

-- one number more, at a place of a structure that begins at another place
pub step16 : (m k j p : ℕ) (bytes front : List ℕ) → AreBytes bytes → k + 2 ≡ j → m + k ≡ p → m + j ≤ length bytes → take k (drop m bytes) ≡ front → take j (drop m bytes) ≡ front ++ to_le_bytes w16 (u16_at p bytes)
step16 m k j p bytes front b e f l h =
    part k 2 j m p bytes e f ∙ (ap (λ t. t ++ take 2 (drop p bytes)) h ∙ ap (λ t. front ++ t) (field16 p bytes b (omega arith)))

pub step32 : (m k j p : ℕ) (bytes front : List ℕ) → AreBytes bytes → k + 4 ≡ j → m + k ≡ p → m + j ≤ length bytes → take k (drop m bytes) ≡ front → take j (drop m bytes) ≡ front ++ to_le_bytes w32 (u32_at p bytes)
step32 m k j p bytes front b e f l h =
    part k 4 j m p bytes e f ∙ (ap (λ t. t ++ take 4 (drop p bytes)) h ∙ ap (λ t. front ++ t) (field32 p bytes b (omega arith)))

pub step64 : (m k j p : ℕ) (bytes front : List ℕ) → AreBytes bytes → k + 8 ≡ j → m + k ≡ p → m + j ≤ length bytes → take k (drop m bytes) ≡ front → take j (drop m bytes) ≡ front ++ to_le_bytes w64 (u64_at p bytes)
step64 m k j p bytes front b e f l h =
    part k 8 j m p bytes e f ∙ (ap (λ t. t ++ take 8 (drop p bytes)) h ∙ ap (λ t. front ++ t) (field64 p bytes b (omega arith)))

-- a number that is 0
pub unset : (place : ℕ) (row : List ℕ) → is_unset place row ≡ true → u32_at place row ≡ 0
unset place row h = let e : (u32_at place row == 0) ≡ true = h in grind (arith, nat_tests)

pub partition-back : (row : List ℕ) → AreBytes row → length row ≡ 52 → is_named row ≡ true → partition_bytes (partition_of row) ≡ row
unfolding partition_of partition_bytes
partition-back row b l h =
    let name : take 36 row ≡ name_field (name_in (take 36 row)) = name-back (take 36 row) (length-take-le 36 row (omega arith)) h in
    let s1 = step32 0 36 40 36 row (name_field (name_in (take 36 row))) b refl refl (omega arith) name in
    let s2 = step32 0 40 44 40 row _ b refl refl (omega arith) s1 in
    let s3 = step32 0 44 48 44 row _ b refl refl (omega arith) s2 in
    let s4 = step32 0 48 52 48 row _ b refl refl (omega arith) s3 in
    sym s4 ∙ take_all 52 row (omega arith)

pub extent-back : (row : List ℕ) → AreBytes row → length row ≡ 24 → is_unset 8 row ≡ true → is_unset 20 row ≡ true → extent_bytes (extent_of row) ≡ row
unfolding extent_of extent_bytes
extent-back row b l h k =
    let s1 = step64 0 0 8 0 row [] b refl refl (omega arith) refl in
    let s2 = step32 0 8 12 8 row _ b refl refl (omega arith) s1 ∙ ap (λ n. to_le_bytes w64 (u64_at 0 row) ++ to_le_bytes w32 n) (unset 8 row h) in
    let s3 = step64 0 12 20 12 row _ b refl refl (omega arith) s2 in
    let s4 = step32 0 20 24 20 row _ b refl refl (omega arith) s3 in
    sym (s4 ∙ ap (λ n. to_le_bytes w64 (u64_at 0 row) ++ to_le_bytes w32 0 ++ to_le_bytes w64 (u64_at 12 row) ++ to_le_bytes w32 n) (unset 20 row k)) ∙ take_all 24 row (omega arith)

pub group-back : (row : List ℕ) → AreBytes row → length row ≡ 48 → is_named row ≡ true → is_unset 36 row ≡ true → group_bytes (group_of row) ≡ row
unfolding group_of group_bytes
group-back row b l h k =
    let name : take 36 row ≡ name_field (name_in (take 36 row)) = name-back (take 36 row) (length-take-le 36 row (omega arith)) h in
    let s1 = step32 0 36 40 36 row (name_field (name_in (take 36 row))) b refl refl (omega arith) name ∙ ap (λ n. name_field (name_in (take 36 row)) ++ to_le_bytes w32 n) (unset 36 row k) in
    let s2 = step64 0 40 48 40 row _ b refl refl (omega arith) s1 in
    sym s2 ∙ take_all 48 row (omega arith)

pub device-back : (row : List ℕ) → AreBytes row → length row ≡ 64 → is_name_field (take 36 (drop 24 row)) ≡ true → is_unset 60 row ≡ true → device_bytes (device_of row) ≡ row
unfolding device_of device_bytes
device-back row b l h k =
    let name : take 36 (drop 24 row) ≡ name_field (name_in (take 36 (drop 24 row))) = name-back (take 36 (drop 24 row)) (length-take-le 36 (drop 24 row) (omega (arith, length-drop 24 row))) h in
    let s1 = step64 0 0 8 0 row [] b refl refl (omega arith) refl in
    let s2 = step32 0 8 12 8 row _ b refl refl (omega arith) s1 in
    let s3 = step32 0 12 16 12 row _ b refl refl (omega arith) s2 in
    let s4 = step64 0 16 24 16 row _ b refl refl (omega arith) s3 in
    let s5 = part 24 36 60 0 24 row refl refl ∙ (ap (λ t. t ++ take 36 (drop 24 row)) s4 ∙ ap (λ t. (to_le_bytes w64 (u64_at 0 row) ++ to_le_bytes w32 (u32_at 8 row) ++ to_le_bytes w32 (u32_at 12 row) ++ to_le_bytes w64 (u64_at 16 row)) ++ t) name) in
    let s6 = step32 0 60 64 60 row _ b refl refl (omega arith) s5 in
    sym (s6 ∙ ap (λ n. (to_le_bytes w64 (u64_at 0 row) ++ to_le_bytes w32 (u32_at 8 row) ++ to_le_bytes w32 (u32_at 12 row) ++ to_le_bytes w64 (u64_at 16 row) ++ name_field (name_in (take 36 (drop 24 row)))) ++ to_le_bytes w32 n) (unset 60 row k)) ∙ take_all 64 row (omega arith)

-- rows that are each spelled back are spelled back together
pub rows-back : {X : Type 0} (size : ℕ) (value : List ℕ → X) (spell : X → List ℕ) (test : List ℕ → Bool) →
    ((row : List ℕ) → AreBytes row → length row ≡ size → test row ≡ true → spell (value row) ≡ row) →
    (n : ℕ) (bytes : List ℕ) → AreBytes bytes → n * size ≤ length bytes → list_all test (rows size n bytes) ≡ true → flat_map spell (map value (rows size n bytes)) ≡ take (n * size) bytes
unfolding rows
rows-back size value spell test each zero bytes b l h = let z : 0 ≡ zero * size = omega arith in ap (λ n. take n bytes) z
rows-back size value spell test each (suc n) bytes b l h =
    let p = both (test (take size bytes)) (list_all test (rows size n (drop size bytes))) h in
    let long : size + n * size ≤ length bytes = omega arith in
    let whole : size + n * size ≡ suc n * size = omega arith in
    let first = each (take size bytes) (bytes-take size bytes b) (length-take-le size bytes (omega arith)) p.0 in
    let rest = rows-back size value spell test each n (drop size bytes) (bytes-drop size bytes b) (omega (arith, length-drop size bytes)) p.1 in
    ap (λ t. t ++ flat_map spell (map value (rows size n (drop size bytes)))) first
    ∙ (ap (λ t. take size bytes ++ t) rest ∙ (sym (take-add size (n * size) bytes) ∙ ap (λ k. take k bytes) whole))

-- both tests of every row
pub both-all : (xs : List (List ℕ)) (f g : List ℕ → Bool) → list_all f xs ≡ true → list_all g xs ≡ true → list_all (λ x. f x && g x) xs ≡ true
both-all [] f g h k = refl
both-all (x ∷ xs) f g h k =
    let p = both (f x) (list_all f xs) h in
    let q = both (g x) (list_all g xs) k in
    rw (p.0, q.0) (both-all xs f g p.1 q.1)
