use Rattle.std.proofs.Common.{◌≡◌, ◌-◌, ◌++◌, ◌≤◌, ℕ, length, length-append, length-drop, length-take, replicate, drop, arith, refl, ap, sym, subst, ◌∙◌}
use Rattle.sparse_image.specs.Puts.{padded_part}
use Rattle.sparse_image.specs.Outside.{IsRead, HasLength}
use Rattle.sparse_image.proofs.PaddedLemmas.{told-same, padded-read, filled}
use Rattle.sparse_image.proofs.reads.read_padded.Goals as goal

pub returns-clause-read : goal.returns-clause-read
returns-clause-read g c =
    let o = g.B.Bytes.content c.args.source.now in
    let front = c.read_exact.new.buf in
    let have = c.min-have.result in
    let n = length c.args.buf.now in
    let place = c.min-place.ensures in
    let part = c.min-have.ensures in
    let small : have ≤ n = omega arith in
    let long : length front ≡ have = omega (arith, length-take {A = ℕ}) in
    let all : length (front ++ drop have c.args.buf.now) ≡ n = omega (arith, length-append front (drop have c.args.buf.now), length-drop have c.args.buf.now, long, small) in
    told-same o (λ file. padded_part c.args.at n file) _ (front ++ replicate (n - have) 0)
    (filled have n (length (front ++ drop have c.args.buf.now) - have) front c.args.buf.now c.clear.new.buf long refl small (ap (λ (k : ℕ). k - have) all)
    (c.clear.ensures ∙ ap (λ (k : ℕ). replicate k 0) (omega (arith, length-take {A = ℕ}, length-drop {A = ℕ}, all))))
    (padded-read o c.len-len.result c.args.at c.min-place.result have n front (subst (λ (k : ℕ). HasLength o k) (sym c.len-len.ensures.size) c.len-len.ensures.told) (omega arith) (omega arith) long
    (subst (λ (k : ℕ). IsRead o c.min-place.result front k) long c.in_ok-read_exact.ensures.read))
