use Rattle.std.proofs.Common.{◌≡◌, ◌^◌, ℕ, min, length, take, sym, ap, ◌∙◌, arith}
use Rattle.std.specs.Prelude.{◌==◌, ◌||◌}
use Rattle.std.proofs.lemmas.List.{take_min}
use Rattle.wire_model.proofs.ServeLemmas.{serves-all}
use Rattle.wire_model.proofs.serves.serves.Goals as goal
use Rattle.wire_model.proofs.serves.serves.Goals.{then-last, else-last}

pub returns : goal.returns
returns c =
    let last = c.in_ok-last.last in
    let bytes = c.args.bytes.now in
    let n : ℕ = length (take c.min.result bytes) in
    let swapped : min (length bytes) (2 ^ 62) ≡ min (2 ^ 62) (length bytes) = omega arith in
    let some : take c.min.result bytes ≡ take (2 ^ 62) bytes = ap (λ k. take k bytes) (c.min.ensures ∙ swapped) ∙ take_min (2 ^ 62) bytes in
    let closed : c.if-last.result ≡ (last.closed || n == 2 ^ 62) = elim c.if-last.branch [
      | then-last w ↦ w.result-is ∙ w.if-last.true ∙ sym (ap (λ b. b || n == 2 ^ 62) w.if-last.true)
      | else-last w ↦ w.result-is ∙ sym (ap (λ b. b || n == 2 ^ 62) w.if-last.false)
    ] in
    ap (λ b. record { out = last.out; after = last.device; closed = b }) closed
    ∙ sym (serves-all c.args.dev.now bytes (take c.min.result bytes) c.in_ok-first.first last some c.in_ok-first.ensures c.in_ok-last.ensures)
