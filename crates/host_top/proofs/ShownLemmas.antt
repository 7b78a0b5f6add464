-- A text that is put as it is printed, piece by piece.
use Rattle.std.proofs.Common.{◌≡◌, ℕ, ◌+◌, List, ◌++◌, take, drop, map, Option, sym, ap, ◌∙◌, subst}
use Rattle.std.proofs.Math.Seq.{take-add}
use Rattle.std.proofs.lemmas.List.{take-append-drop, map-append}
use Rattle.fb_frame.specs.Shown.{shown, shown_byte}
use Rattle.fb_frame.specs.Sinks.{Grew, GrewPart}
use Rattle.fb_frame.proofs.SinkLemmas.{Grew-append, GrewPart-after, GrewPart-before}

-- the next piece, up to a place, is put after the front
pub shown-next : (a b c : Option (List ℕ)) (at n end : ℕ) (text : List ℕ) → at + n ≡ end →
    Grew a b (shown (take at text)) → Grew b c (shown (take n (drop at text))) → Grew a c (shown (take end text))
shown-next a b c at n end text there front piece =
    subst (λ k. Grew a c (shown (take k text))) there
    (subst (Grew a c)
    (sym (map-append shown_byte (take at text) (take n (drop at text))) ∙ ap shown (sym (take-add at n text)))
    (Grew-append a b c (shown (take at text)) (shown (take n (drop at text))) front piece))

-- a part of the next piece is put after the front
pub shown-part : (a b c : Option (List ℕ)) (at n : ℕ) (text : List ℕ) →
    Grew a b (shown (take at text)) → GrewPart b c (shown (take n (drop at text))) → GrewPart a c (shown text)
shown-part a b c at n text front piece =
    let first = take at text in
    let next = take n (drop at text) in
    let rest = drop n (drop at text) in
    let whole : shown first ++ (shown next ++ shown rest) ≡ shown text =
    ap (λ l. shown first ++ l) (sym (map-append shown_byte next rest) ∙ ap shown (take-append-drop n (drop at text)))
    ∙ (sym (map-append shown_byte first (drop at text)) ∙ ap shown (take-append-drop at text)) in
    subst (GrewPart a c) whole
    (GrewPart-after a b c (shown first) (shown next ++ shown rest) front (GrewPart-before b c (shown next) (shown rest) piece))
