-- The parts of lists that are joined of parts, and lists that are copies of one.
use Rattle.std.proofs.Common.{◌≡◌, ◌∙◌, refl, ap, sym, ℕ, zero, suc, ◌+◌, ◌*◌, ◌-◌, ◌<◌, ◌≤◌, List, [], ◌∷◌, ◌++◌, length, take, drop, arith, append_assoc, length-append}
use Rattle.std.proofs.lemmas.List.{take_at, drop_at, drop-drop, replicate-append-replicate, append-nil}
use Rattle.std.specs.Prelude.{map, sum_by}
use Rattle.std.proofs.lemmas.List.Sums.{sum_by-cons}
use Rattle.fb_frame.specs.Bytes.{zeros}
use Rattle.dev_model.specs.Images.{copies}
use Rattle.dev_store.specs.declared.layout.PhysicalPart.{PhysicalPart}
use Rattle.dev_store.specs.NewDevice.{filled_up, new_part}
use Rattle.dev_store.specs.Stand.{physical_at}
use Rattle.dev_store.proofs.MadeText.{length-zeros}

pub length-filled : (size : ℕ) (bytes : List ℕ) → length bytes ≤ size → length (filled_up size bytes) ≡ size
length-filled size bytes h = omega (arith, h, length-append bytes (zeros (size - length bytes)), length-zeros (size - length bytes))

pub zeros-join : (a b : ℕ) → zeros a ++ zeros b ≡ zeros (a + b)
unfolding zeros
zeros-join a b = replicate-append-replicate a b 0

-- two copies before a rest
pub twice : (block rest : List ℕ) → copies 2 block ++ rest ≡ block ++ (block ++ rest)
twice block rest = append_assoc block (block ++ []) rest ∙ ap (λ t. block ++ t) (ap (λ t. t ++ rest) (append-nil block))

pub length-copies : (n : ℕ) (block : List ℕ) → length (copies n block) ≡ n * length block
length-copies zero block = omega arith
length-copies (suc n) block = omega (arith, length-append block (copies n block), length-copies n block)

-- a part behind others
pub behind : (at n place : ℕ) (file part rest : List ℕ) → drop at file ≡ part ++ rest → length part ≡ n → at + n ≡ place → drop place file ≡ rest
behind at n place file part rest h l e =
    ap (λ k. drop k file) (sym e) ∙ (sym (drop-drop n at file) ∙ (ap (drop n) h ∙ drop_at part rest n l))

pub part-at : (at n : ℕ) (file part rest : List ℕ) → drop at file ≡ part ++ rest → length part ≡ n → take n (drop at file) ≡ part
part-at at n file part rest h l = ap (take n) h ∙ take_at part rest n l

-- a copy among copies
pub copy-at : (k n m : ℕ) (block rest : List ℕ) → k < n → length block ≡ m → take m (drop (k * m) (copies n block ++ rest)) ≡ block
copy-at k zero m block rest h l = absurd (omega (arith, h))
copy-at zero (suc n) m block rest h l =
    ap (λ t. take m (drop t (copies (suc n) block ++ rest))) zero-times
    ∙ (ap (take m) (append_assoc block (copies n block) rest) ∙ take_at block (copies n block ++ rest) m l)
  where
    zero-times : 0 * m ≡ 0
    zero-times = omega arith
copy-at (suc k) (suc n) m block rest h l =
    let more : suc k * m ≡ m + k * m = omega arith in
    let behind-one : drop m (copies (suc n) block ++ rest) ≡ copies n block ++ rest = ap (drop m) (append_assoc block (copies n block) rest) ∙ drop_at block (copies n block ++ rest) m l in
    ap (λ t. take m (drop t (copies (suc n) block ++ rest))) more
    ∙ (ap (take m) (sym (drop-drop (k * m) m (copies (suc n) block ++ rest)) ∙ ap (drop (k * m)) behind-one)
    ∙ copy-at k n m block rest (omega (arith, h)) l)

-- partitions of zeros, one after another
pub zeros-at : (place : ℕ) (parts : List PhysicalPart) (file rest : List ℕ) → drop place file ≡ zeros (sum_by (λ p. p.size) parts) ++ rest → physical_at place parts file ≡ map new_part parts
zeros-at place [] file rest h = refl
zeros-at place (p ∷ parts) file rest h =
    let sum = sum_by (λ (q : PhysicalPart). q.size) parts in
    let grouped : drop place file ≡ zeros p.size ++ (zeros sum ++ rest) =
    h ∙ (ap (λ t. t ++ rest) (ap zeros (sum_by-cons (λ (q : PhysicalPart). q.size) p parts) ∙ sym (zeros-join p.size sum)) ∙ append_assoc (zeros p.size) (zeros sum) rest) in
    let first : take p.size (drop place file) ≡ zeros p.size = part-at place p.size file (zeros p.size) (zeros sum ++ rest) grouped (length-zeros p.size) in
    let next : drop (place + p.size) file ≡ zeros sum ++ rest = behind place p.size (place + p.size) file (zeros p.size) (zeros sum ++ rest) grouped (length-zeros p.size) refl in
    ap (λ bytes. record { name = p.name; bytes = bytes } ∷ physical_at (place + p.size) parts file) first
    ∙ ap (λ more. new_part p ∷ more) (zeros-at (place + p.size) parts file rest next)
