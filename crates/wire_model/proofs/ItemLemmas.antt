-- What stands at the front of a list, as the program finds it.
use Rattle.std.proofs.Common.{◌≡◌, ℕ, ◌+◌, ◌<◌, ◌≤◌, List, length, take, drop, Some, None, sym, ap, ◌∙◌, arith}
use Rattle.std.proofs.lemmas.List.{drop-drop}
use Rattle.std.specs.Int.{w64, from_be_bytes}
use Rattle.std.proofs.lemmas.Bool.Decides.{nat_tests}
use Rattle.fb_frame.specs.Framing.{announced, first_payload, behind_frame}
use Rattle.wire_model.specs.Wire.{TooLong, Payload, first_frame}
use Rattle.wire_model.proofs.InParts.{long-front, whole-front}

told-length : (bytes front : List ℕ) (n : ℕ) → front ≡ take 8 bytes → n ≡ from_be_bytes w64 front → n ≡ announced bytes
unfolding announced
told-length bytes front n e f = f ∙ ap (from_be_bytes w64) e

-- a head that gives too much
pub long-item : (most n : ℕ) (bytes front behind : List ℕ) → 8 ≤ length bytes → front ≡ take 8 bytes → behind ≡ drop 8 bytes → n ≡ from_be_bytes w64 front →
    most < n → Some (TooLong, behind) ≡ first_frame most bytes
long-item most n bytes front behind h e f g over =
    ap (λ b. Some (TooLong, b)) f ∙ sym (long-front most bytes h (omega (arith, told-length bytes front n e g, over)))

part-front : (most : ℕ) (bytes : List ℕ) → announced bytes ≤ most → length bytes < 8 + announced bytes → first_frame most bytes ≡ None
part-front most bytes h g = grind (arith, nat_tests)

-- a payload that isn't whole
pub part-item : (most n : ℕ) (bytes front behind : List ℕ) → 8 + length behind ≡ length bytes → front ≡ take 8 bytes → n ≡ from_be_bytes w64 front →
    n ≤ most → length behind < n → None ≡ first_frame most bytes
part-item most n bytes front behind h e g within short =
    let t = told-length bytes front n e g in
    sym (part-front most bytes (omega (arith, t, within)) (omega (arith, t, h, short)))

-- a payload that is whole
pub whole-item : (most n : ℕ) (bytes front behind payload rest : List ℕ) → 8 + length behind ≡ length bytes → front ≡ take 8 bytes → behind ≡ drop 8 bytes →
    n ≡ from_be_bytes w64 front → n ≤ most → n ≤ length behind → payload ≡ take n behind → rest ≡ drop n behind → Some (Payload payload, rest) ≡ first_frame most bytes
whole-item most n bytes front behind payload rest h e f g within whole p r =
    let t = told-length bytes front n e g in
    let first : payload ≡ first_payload bytes = p ∙ ap (λ b. take n b) f ∙ ap (λ k. take k (drop 8 bytes)) t in
    let more : rest ≡ behind_frame bytes = r ∙ ap (λ b. drop n b) f ∙ drop-drop n 8 bytes ∙ ap (λ k. drop (8 + k) bytes) t in
    ap (λ b. Some (Payload b, rest)) first ∙ ap (λ b. Some (Payload (first_payload bytes), b)) more
    ∙ sym (whole-front most bytes (omega (arith, t, within)) (omega (arith, t, h, whole)))
