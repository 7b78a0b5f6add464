-- Lists of bytes that were written over, and ranges of them.
use Rattle.std.proofs.Common.{◌≡◌, ◌∙◌, refl, ap, sym, ℕ, ◌+◌, ◌-◌, ◌≤◌, ◌⊎◌, inl, inr, List, [], ◌++◌, length, take, drop, arith, append_assoc, append-nil, length-append, length-drop}
use Rattle.std.specs.Prelude.{min}
use Rattle.std.proofs.Math.Seq.{take-append-add, drop-append-add}
use Rattle.std.proofs.lemmas.List.{take_all, drop_all, drop-drop, drop-take, take-take, take-append-drop, take-append-le, drop-append-le, length-take, length-take-le}
use Rattle.dev_disk.specs.Files.{written, DifferWithin, copy}
use Rattle.dev_store.proofs.WrittenLemmas.{written-more}

-- a change of a range is a write of what the range has then
pub change-written : (old new : List ℕ) (at count : ℕ) → DifferWithin at count old new → at + count ≤ length old → (length (copy new at count) ≡ count) × (new ≡ written old at (copy new at count))
unfolding written
change-written old new at count d h =
    let e = d.same_length in
    let n = length-drop at new in
    let long : length (copy new at count) ≡ count = length-take-le count (drop at new) (omega arith) in
    let rest : drop count (drop at new) ≡ drop (at + length (copy new at count)) old = drop-drop count at new ∙ (d.rest ∙ ap (λ k. drop (at + k) old) (sym long)) in (
      long,
      sym (take-append-drop at new)
          ∙ (ap (λ t. t ++ drop at new) d.front
          ∙ ap (λ t. take at old ++ t) (sym (take-append-drop count (drop at new)) ∙ ap (λ t. copy new at count ++ t) rest)),
    )

-- what is behind a place, after a write behind it
drop-of-written : (file : List ℕ) (place at : ℕ) (bytes : List ℕ) → place + at ≤ length file → drop place (written file (place + at) bytes) ≡ written (drop place file) at bytes
unfolding written
drop-of-written file place at bytes h =
    let long = length-take-le (place + at) file h in
    let far : place + at + length bytes ≡ place + (at + length bytes) = omega arith in
    drop-append-le place (take (place + at) file) (bytes ++ drop (place + at + length bytes) file) (omega arith)
    ∙ (ap (λ t. t ++ (bytes ++ drop (place + at + length bytes) file)) (drop-take place at file)
    ∙ ap (λ t. take at (drop place file) ++ (bytes ++ t)) (ap (λ k. drop k file) far ∙ sym (drop-drop (at + length bytes) place file)))

-- what is before a place, after a write before it
pub take-of-written : (file : List ℕ) (size at : ℕ) (bytes : List ℕ) → at + length bytes ≤ size → size ≤ length file → take size (written file at bytes) ≡ written (take size file) at bytes
unfolding written
take-of-written file size at bytes h l =
    let n = length bytes in
    let left = size - (at + n) in
    let whole : at + n + left ≡ size = omega arith in
    let front = length-take-le at file (omega arith) in
    let first : size ≡ length (take at file) + (n + left) = omega arith in
    let rest : drop (at + n) (take size file) ≡ take left (drop (at + n) file) = ap (λ k. drop (at + n) (take k file)) (sym whole) ∙ drop-take (at + n) left file in
    ap (λ k. take k (take at file ++ (bytes ++ drop (at + n) file))) first
    ∙ (take-append-add (take at file) (bytes ++ drop (at + n) file) (n + left)
    ∙ (ap (λ t. take at file ++ t) (take-append-add bytes (drop (at + n) file) left)
    ∙ (ap (λ t. t ++ (bytes ++ take left (drop (at + n) file))) (sym (take-take at size file (omega arith)))
    ∙ ap (λ t. take at (take size file) ++ (bytes ++ t)) (sym rest))))

-- a range of a file, after a write in it
pub range-written : (file : List ℕ) (place size at : ℕ) (bytes : List ℕ) → at + length bytes ≤ size → place + size ≤ length file →
    take size (drop place (written file (place + at) bytes)) ≡ written (take size (drop place file)) at bytes
range-written file place size at bytes h l =
    let n = length-drop place file in
    ap (take size) (drop-of-written file place at bytes (omega arith)) ∙ take-of-written (drop place file) size at bytes h (omega arith)

-- a write in the middle of three lists
pub middle-written : (front mid rest bytes : List ℕ) (off : ℕ) → off + length bytes ≤ length mid → written (front ++ (mid ++ rest)) (length front + off) bytes ≡ front ++ (written mid off bytes ++ rest)
unfolding written
middle-written front mid rest bytes off h =
    let n = length bytes in
    let first : take (length front + off) (front ++ (mid ++ rest)) ≡ front ++ take off mid =
    take-append-add front (mid ++ rest) off ∙ ap (λ t. front ++ t) (take-append-le off mid rest (omega arith)) in
    let far : length front + off + n ≡ length front + (off + n) = omega arith in
    let last : drop (length front + off + n) (front ++ (mid ++ rest)) ≡ drop (off + n) mid ++ rest =
    ap (λ k. drop k (front ++ (mid ++ rest))) far ∙ (drop-append-add front (mid ++ rest) (off + n) ∙ drop-append-le (off + n) mid rest h) in
    ap (λ t. t ++ (bytes ++ drop (length front + off + n) (front ++ (mid ++ rest)))) first
    ∙ (ap (λ t. (front ++ take off mid) ++ (bytes ++ t)) last
    ∙ (append_assoc front (take off mid) (bytes ++ (drop (off + n) mid ++ rest))
    ∙ ap (λ t. front ++ t) (ap (λ t. take off mid ++ t) (sym (append_assoc bytes (drop (off + n) mid) rest)) ∙ sym (append_assoc (take off mid) (bytes ++ drop (off + n) mid) rest))))

-- two writes, one after another, wherever they are
pub twice-written : (old : List ℕ) (at : ℕ) (x y : List ℕ) → written (written old at x) (at + length x) y ≡ written old at (x ++ y)
unfolding written
twice-written old at x y = by (either (at + length x) (length old))
  where
    either : (a b : ℕ) → (a ≤ b) ⊎ (b ≤ a)
    either a b = grind arith

    by : (at + length x ≤ length old) ⊎ (length old ≤ at + length x) → written (written old at x) (at + length x) y ≡ written old at (x ++ y)
    by (inl h) = written-more old at (at + length x) x y refl h
    by (inr h) =
        let front = take at old ++ x in
        let l = length-append (take at old) x in
        let m = length-take at old in
        let small : length front ≤ at + length x = omega arith in
        let none = drop_all (at + length x) old h in
        let mid : take at old ++ (x ++ drop (at + length x) old) ≡ front = ap (λ t. take at old ++ (x ++ t)) none ∙ ap (λ t. take at old ++ t) (append-nil x) in
        let own : take (at + length x) front ≡ front = take_all (at + length x) front small in
        let after : drop (at + length x + length y) front ≡ [] = drop_all (at + length x + length y) front (omega arith) in
        let a = length-append x y in
        let past : drop (at + length (x ++ y)) old ≡ [] = drop_all (at + length (x ++ y)) old (omega arith) in
        ap (λ t. take (at + length x) t ++ (y ++ drop (at + length x + length y) t)) mid
        ∙ (ap (λ t. t ++ (y ++ drop (at + length x + length y) front)) own
        ∙ (ap (λ t. front ++ (y ++ t)) after
        ∙ (append_assoc (take at old) x (y ++ [])
        ∙ (ap (λ t. take at old ++ t) (sym (append_assoc x y []))
        ∙ ap (λ t. take at old ++ ((x ++ y) ++ t)) (sym past)))))

-- how long a list is after a write is a matter of its length alone
pub long-written : (a b : List ℕ) (at : ℕ) (bytes : List ℕ) → length a ≡ length b → length (written a at bytes) ≡ length (written b at bytes)
unfolding written
long-written a b at bytes e =
    let long = λ (l : List ℕ). length-append (take at l) (bytes ++ drop (at + length bytes) l)
    ∙ (ap (λ n. n + length (bytes ++ drop (at + length bytes) l)) (length-take at l)
    ∙ ap (λ n. min at (length l) + n) (length-append bytes (drop (at + length bytes) l) ∙ ap (λ n. length bytes + n) (length-drop (at + length bytes) l))) in
    long a ∙ (ap (λ n. min at n + (length bytes + (n - (at + length bytes)))) e ∙ sym (long b))
