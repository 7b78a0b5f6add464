use Rattle.std.proofs.Common.{◌∙◌}
use Rattle.fb_frame.proofs.DigitRows.{stops}
use Rattle.fb_frame.proofs.number.digits_worth.Goals as goal

pub returns-in_err-n : goal.returns-in_err-n
returns-in_err-n c =
    let over = stops c.args.bytes.now c.loop-b.b-index c.loop-b.n c.loop-b-test.true c.loop-b.invariant.worth c.in_err-n.ensures in
    c.from_residual.ensures ∙ over
