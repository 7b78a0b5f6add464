use Rattle.std.proofs.Common.{◌+◌, ◌-◌, arith}
use Rattle.sparse_image.proofs.WriteLemmas.{on-err}
use Rattle.host_top.proofs.ShownLemmas.{shown-next, shown-part}
use Rattle.host_top.proofs.shown.put_shown.Goals as goal

pub returns-in_err-put_window-clause-part : goal.returns-in_err-put_window-clause-part
returns-in_err-put_window-clause-part g c =
    on-err _
    (shown-part _ _ _ c.loop-at.at (c.loop-at.at + c.min.result - c.loop-at.at) c.args.text.now c.loop-at.invariant.put c.in_err-put_window.ensures.part)

pub loop-at-preserved : goal.loop-at-preserved
loop-at-preserved g c =
    let least = c.min.ensures in
    let within = c.loop-at.invariant.within in
    let later = c.loop-at.invariant.later in
    let more = c.put_window.ensures.cause.later in
    record {
      within = omega (arith, within, least);
      put = shown-next _ _ _ c.loop-at.at (c.loop-at.at + c.min.result - c.loop-at.at) (c.loop-at.at + c.min.result) c.args.text.now (omega arith) c.loop-at.invariant.put c.in_ok-put_window.ensures.put;
      later = omega (arith, later, more);
    }
