use Rattle.std.proofs.Common.{◌≡◌, ◌∙◌, ◌+◌, ◌-◌, ◌≤◌, ap, sym, take, length, arith}
use borrow.Rule.Slice.PartMut.{put_mid}
use Rattle.dev_store.proofs.PartPieces.{buffer-long, slice-long}
use Rattle.dev_store.proofs.PartFilling.{repeat-more}
use Rattle.dev_store.proofs.part_fill.repeat.Goals as goal

pub loop-done-preserved : goal.loop-done-preserved
loop-done-preserved c =
    let i = c.loop-done.invariant in
    let done = c.loop-done.done in
    let buffer = c.loop-done.buffer in
    let new = c.copy_from_slice.new.self in
    let room : done + 4 ≤ length buffer = omega (arith, i.fours, c.requires.whole, c.loop-done.auto.buffer) in
    let four : length new ≡ 4 = c.copy_from_slice.auto.self ∙ slice-long done 4 buffer room in
    let same = c.copy_from_slice.ensures.after in
    record {
      fours = omega (arith, i.fours);
      long = omega (arith, room, buffer-long done (done + 4 - done) buffer new c.copy_from_slice.auto.self);
      filled = ap (λ xs. take (done + 4) (put_mid done (done + 4 - done) buffer xs)) same ∙ repeat-more done buffer c.args.pattern i.fours i.long (sym (ap length same) ∙ four) i.filled;
    }
