-- Lists of bytes that were written over: their length, and what is read from them.
use Rattle.std.proofs.Common.{arith, ◌≡◌, ◌⊎◌, inl, inr, ℕ, ◌+◌, ◌-◌, ◌≤◌, List, ◌++◌, length, take, drop, ap, sym, ◌∙◌, subst, length-append, length-drop}
use Rattle.std.proofs.lemmas.List.{length-take-le, drop-drop, drop-take, take-take}
use Rattle.std.proofs.Math.Seq.{take-append_seam, drop-append_seam}
use Rattle.dev_disk.specs.Files.{written, DifferWithin}

pub length-written : (old : List ℕ) (at : ℕ) (bytes : List ℕ) → at + length bytes ≤ length old → length (written old at bytes) ≡ length old
unfolding written
length-written old at bytes h =
    let a : at ≤ length old = omega arith in
    let front = length-take-le at old a in
    let rest = length-drop (at + length bytes) old in
    omega (arith, front, rest, length-append (take at old) (bytes ++ drop (at + length bytes) old), length-append bytes (drop (at + length bytes) old))

take-written : (old : List ℕ) (at : ℕ) (bytes : List ℕ) → at + length bytes ≤ length old → take at (written old at bytes) ≡ take at old
unfolding written
take-written old at bytes h =
    let inside : at ≤ length old = omega arith in
    let l : length (take at old) ≡ at = length-take-le at old inside in
    subst (λ n. take n (take at old ++ (bytes ++ drop (at + length bytes) old)) ≡ take at old) l (take-append_seam (take at old) (bytes ++ drop (at + length bytes) old))

drop-written : (old : List ℕ) (at : ℕ) (bytes : List ℕ) → at + length bytes ≤ length old → drop at (written old at bytes) ≡ bytes ++ drop (at + length bytes) old
unfolding written
drop-written old at bytes h =
    let inside : at ≤ length old = omega arith in
    let l : length (take at old) ≡ at = length-take-le at old inside in
    subst (λ n. drop n (take at old ++ (bytes ++ drop (at + length bytes) old)) ≡ bytes ++ drop (at + length bytes) old) l (drop-append_seam (take at old) (bytes ++ drop (at + length bytes) old))

-- what was written is read again
pub read-written : (old : List ℕ) (at : ℕ) (bytes : List ℕ) → at + length bytes ≤ length old → take (length bytes) (drop at (written old at bytes)) ≡ bytes
read-written old at bytes h =
    ap (take (length bytes)) (drop-written old at bytes h) ∙ take-append_seam bytes (drop (at + length bytes) old)

behind-written : (old : List ℕ) (at : ℕ) (bytes : List ℕ) → at + length bytes ≤ length old → drop (at + length bytes) (written old at bytes) ≡ drop (at + length bytes) old
behind-written old at bytes h =
    sym (drop-drop (length bytes) at (written old at bytes))
    ∙ (ap (drop (length bytes)) (drop-written old at bytes h) ∙ drop-append_seam bytes (drop (at + length bytes) old))

-- a write changes its own range alone
pub differ-written : (old : List ℕ) (at : ℕ) (bytes : List ℕ) → at + length bytes ≤ length old → DifferWithin at (length bytes) old (written old at bytes)
differ-written old at bytes h = record {
  same_length = length-written old at bytes h;
  front = take-written old at bytes h;
  rest = behind-written old at bytes h;
}

-- a place outside the range that changed
pub kept-outside : (old new : List ℕ) (at count place size : ℕ) → DifferWithin at count old new → (place + size ≤ at) ⊎ (at + count ≤ place) →
    take size (drop place new) ≡ take size (drop place old)
kept-outside old new at count place size h (inl before) =
    let front : take (place + size) new ≡ take (place + size) old =
    sym (take-take (place + size) at new before) ∙ (ap (take (place + size)) h.front ∙ take-take (place + size) at old before) in
    sym (drop-take place size new) ∙ (ap (drop place) front ∙ drop-take place size old)
kept-outside old new at count place size h (inr behind) =
    let far : at + count + (place - (at + count)) ≡ place = omega arith in
    let rest : drop place new ≡ drop place old =
    subst (λ n. drop n new ≡ drop n old) far
    (sym (drop-drop (place - (at + count)) (at + count) new)
    ∙ (ap (drop (place - (at + count))) h.rest ∙ drop-drop (place - (at + count)) (at + count) old)) in
    ap (take size) rest
