use Rattle.std.proofs.Common.{◌≡◌, ◌+◌, ◌-◌, ◌≤◌, ◌++◌, length, take, drop, arith, sym, ap, ◌∙◌, subst, length-take, length-drop}
use Rattle.std.proofs.Math.Seq.{take-add}
use Rattle.std.proofs.lemmas.List.{take-take}
use Rattle.std.proofs.KnownBytes.{Appends-trans}
use Rattle.std.specs.Io.KnownBytes.{Appends}
use Rattle.fb_frame.proofs.write_sink.write_whole.Goals as goal

pub loop-at-preserved : goal.loop-at-preserved
loop-at-preserved g c =
    let bytes = c.args.bytes.now in
    let at = c.loop-at.at in
    let n = c.in-Ok.count in
    let some = length bytes - at in
    let bound = c.in-Ok.ensures.bound in
    let within : at + n ≤ length bytes = omega (arith, bound, c.loop-at-test.true, length-take some (drop at bytes), length-drop at bytes) in
    let piece : take n (take some (drop at bytes)) ≡ take n (drop at bytes) = take-take n some (drop at bytes) (omega (arith, within)) in
    record {
      within = within;
      written = subst (Appends _ _) (ap (λ t. take at bytes ++ t) piece ∙ sym (take-add at n bytes))
          (Appends-trans _ _ _ _ _ c.loop-at.invariant.written c.in-Ok.ensures.bytes);
    }
