use Rattle.std.proofs.Common.{◌≡◌, ◌+◌, ◌≤◌, ◌<◌, ℕ, length, take, length-append, arith, refl, subst, ◌∙◌}
use Rattle.std.proofs.lemmas.List.{length-take-le}
use Rattle.sparse_image.specs.Outside.{Fell}
use Rattle.sparse_image.proofs.WriteLemmas.{on-err, copy-none, fell-none, fell-then, copy-more, copy-part, copy-puts, copy-front}
use Rattle.sparse_image.proofs.puts.copy.Goals as goal

pub loop-done-init : goal.loop-done-init
loop-done-init g c = record {
  within = omega arith;
  window = c.requires.some;
  put = copy-none (g.B.Bytes.content c.args.source.now) c.args.at (g.O.Out.put_so_far c.args.out.now);
  room = fell-none (g.O.Out.room c.args.out.now);
  content = refl;
  same = refl;
  size = refl;
  read_later = omega arith;
  out_same = refl;
  out_whole = refl;
  out_later = omega arith;
}

pub returns-in_err-copy_window-clause-part : goal.returns-in_err-copy_window-clause-part
returns-in_err-copy_window-clause-part g c =
    let o = g.B.Bytes.content c.args.source.now in
    let before = g.O.Out.put_so_far c.args.out.now in
    let mid = g.O.Out.put_so_far c.loop-done.out in
    let now = g.O.Out.put_so_far c.copy_window.new.out in
    let size = c.min-size.result in
    let m = c.min-size.ensures in
    let long : length (take size c.loop-done.window) ≡ size = length-take-le size c.loop-done.window (omega arith) in
    let within : c.loop-done.done + size ≤ c.args.n = omega arith in
    on-err c.from_residual.result
    (copy-part o c.args.at c.loop-done.done size before mid now c.args.n within c.loop-done.invariant.put
    (copy-front (g.B.Bytes.content c.loop-done.source) o (c.args.at + c.loop-done.done) (length (take size c.loop-done.window)) size mid now c.loop-done.invariant.content long c.in_err-copy_window.ensures.part))

pub loop-done-preserved : goal.loop-done-preserved
loop-done-preserved g c =
    let o = g.B.Bytes.content c.args.source.now in
    let before = g.O.Out.put_so_far c.args.out.now in
    let mid = g.O.Out.put_so_far c.loop-done.out in
    let now = g.O.Out.put_so_far c.copy_window.new.out in
    let size = c.min-size.result in
    let m = c.min-size.ensures in
    let long : length (take size c.loop-done.window) ≡ size = length-take-le size c.loop-done.window (omega arith) in
    let some : 0 < size = omega (arith, c.loop-done.invariant.window) in
    record {
      within = omega arith;
      window = omega (arith, length-append {A = ℕ}, long);
      put = copy-more o c.args.at c.loop-done.done size before mid now c.loop-done.invariant.put
          (copy-puts (g.B.Bytes.content c.loop-done.source) o (c.args.at + c.loop-done.done) (length (take size c.loop-done.window)) size mid now c.loop-done.invariant.content long c.in_ok-copy_window.ensures.put);
      room = fell-then (g.O.Out.room c.args.out.now) (g.O.Out.room c.loop-done.out) (g.O.Out.room c.copy_window.new.out) c.loop-done.done size c.loop-done.invariant.room
          (subst (λ (k : ℕ). Fell (g.O.Out.room c.loop-done.out) (g.O.Out.room c.copy_window.new.out) k) long c.in_ok-copy_window.ensures.room);
      content = c.copy_window.ensures.content ∙ c.loop-done.invariant.content;
      same = c.copy_window.ensures.same ∙ c.loop-done.invariant.same;
      out_same = c.copy_window.ensures.out_same ∙ c.loop-done.invariant.out_same;
      out_whole = c.in_ok-copy_window.ensures.out_whole ∙ c.loop-done.invariant.out_whole;
      size = c.copy_window.ensures.size ∙ c.loop-done.invariant.size;
      read_later = omega (arith, c.copy_window.ensures.read_later, c.loop-done.invariant.read_later);
      out_later = omega (arith, c.copy_window.ensures.out_later, c.loop-done.invariant.out_later);
    }
