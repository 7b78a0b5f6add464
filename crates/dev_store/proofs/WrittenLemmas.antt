-- Bytes written over others: one after another, and over zeros.
use Rattle.std.proofs.Common.{◌≡◌, ◌∙◌, refl, ap, sym, ℕ, ◌+◌, ◌-◌, ◌≤◌, List, [], ◌++◌, length, take, drop, arith, append_assoc, length-append}
use Rattle.std.proofs.Math.Seq.{take-add}
use Rattle.std.proofs.lemmas.List.{take_at, drop_at, drop-drop, take-append-drop, length-take-le, take-replicate, drop-replicate}
use Rattle.sha2.specs.Sha256.{sha256}
use Rattle.fb_frame.specs.Bytes.{zeros}
use Rattle.dev_disk.specs.Files.{written}
use Rattle.dev_store.specs.declared.state.State.{State}
use Rattle.dev_store.specs.States.{record_head, record_block}
use Rattle.dev_store.proofs.MadeText.{length-zeros}

-- nothing written
pub written-none : (old : List ℕ) (at : ℕ) → written old at [] ≡ old
unfolding written
written-none old at = ap (λ n. take at old ++ drop n old) at-is ∙ take-append-drop at old
  where
    at-is : at + 0 ≡ at
    at-is = omega arith

-- bytes written after those that were written
pub written-more : (old : List ℕ) (at n : ℕ) (x y : List ℕ) → at + length x ≡ n → n ≤ length old → written (written old at x) n y ≡ written old at (x ++ y)
unfolding written
written-more old at n x y e h =
    let front = take at old ++ x in
    let mid = take at old ++ (x ++ drop (at + length x) old) in
    let grouped : mid ≡ front ++ drop n old = sym (append_assoc (take at old) x (drop (at + length x) old)) ∙ ap (λ k. front ++ drop k old) e in
    let long : length front ≡ n = omega (arith, length-append (take at old) x, length-take-le at old (omega (arith, e, h)), e) in
    let fronts : take n mid ≡ front = ap (take n) grouped ∙ take_at front (drop n old) n long in
    let rests : drop n mid ≡ drop n old = ap (drop n) grouped ∙ drop_at front (drop n old) n long in
    let far : drop (n + length y) mid ≡ drop (n + length y) old = sym (drop-drop (length y) n mid) ∙ (ap (drop (length y)) rests ∙ drop-drop (length y) n old) in
    let all : n + length y ≡ at + length (x ++ y) = omega (arith, length-append x y, e) in
    ap (λ t. t ++ (y ++ drop (n + length y) mid)) fronts
    ∙ (ap (λ t. front ++ (y ++ t)) (far ∙ ap (λ k. drop k old) all)
    ∙ (append_assoc (take at old) x (y ++ drop (at + length (x ++ y)) old)
    ∙ ap (λ t. take at old ++ t) (sym (append_assoc x y (drop (at + length (x ++ y)) old)))))

take-zeros : (n k : ℕ) → n ≤ k → take n (zeros k) ≡ zeros n
unfolding zeros
take-zeros n k h = take-replicate n k 0 h

pub drop-zeros : (n k : ℕ) → drop n (zeros k) ≡ zeros (k - n)
unfolding zeros
drop-zeros n k = drop-replicate {X = ℕ} n k 0

-- bytes at the front of zeros
pub written-front : (size : ℕ) (front : List ℕ) → written (zeros size) 0 front ≡ front ++ zeros (size - length front)
unfolding written
written-front size front = ap (λ n. front ++ drop n (zeros size)) none ∙ ap (λ t. front ++ t) (drop-zeros (length front) size)
  where
    none : 0 + length front ≡ length front
    none = omega arith

-- and bytes after them, past zeros
pub written-behind : (gap left place : ℕ) (front bytes : List ℕ) → length front + gap ≡ place → gap + length bytes ≤ left →
    written (front ++ zeros left) place bytes ≡ front ++ (zeros gap ++ (bytes ++ zeros (left - (gap + length bytes))))
unfolding written
written-behind gap left place front bytes e h =
    let file = front ++ zeros left in
    let own : take (length front) file ≡ front = take_at front (zeros left) (length front) refl in
    let rest : drop (length front) file ≡ zeros left = drop_at front (zeros left) (length front) refl in
    let fronts : take place file ≡ front ++ zeros gap =
    ap (λ n. take n file) (sym e) ∙ (take-add (length front) gap file ∙ (ap (λ t. t ++ take gap (drop (length front) file)) own ∙ ap (λ t. front ++ t) (ap (take gap) rest ∙ take-zeros gap left (omega (arith, h))))) in
    let far : place + length bytes ≡ length front + (gap + length bytes) = omega (arith, e) in
    let rests : drop (place + length bytes) file ≡ zeros (left - (gap + length bytes)) =
    ap (λ n. drop n file) far ∙ (sym (drop-drop (gap + length bytes) (length front) file) ∙ (ap (drop (gap + length bytes)) rest ∙ drop-zeros (gap + length bytes) left)) in
    ap (λ t. t ++ (bytes ++ drop (place + length bytes) file)) fronts
    ∙ (ap (λ t. (front ++ zeros gap) ++ (bytes ++ t)) rests ∙ append_assoc front (zeros gap) (bytes ++ zeros (left - (gap + length bytes))))

-- a record, written over zeros in two parts
pub record-written : (version : ℕ) (s : State) (head digest : List ℕ) → head ≡ record_head version s → length head ≡ 32 → digest ≡ sha256 head → length digest ≡ 32 →
    written (written (zeros 4096) 0 head) 32 digest ≡ record_block version s
unfolding record_block
record-written version s head digest h l d m =
    let long : length (zeros 4096) ≡ 4096 = length-zeros 4096 in
    let left : 4096 - length (head ++ digest) ≡ 4032 = omega (arith, length-append head digest, l, m) in
    written-more (zeros 4096) 0 32 head digest (omega (arith, l)) (omega (arith, long))
    ∙ (written-front 4096 (head ++ digest)
    ∙ (ap (λ n. (head ++ digest) ++ zeros n) left
    ∙ (append_assoc head digest (zeros 4032)
    ∙ (ap (λ t. head ++ (t ++ zeros 4032)) d ∙ ap (λ t. t ++ (sha256 t ++ zeros 4032)) h))))
