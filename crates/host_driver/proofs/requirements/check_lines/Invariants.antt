use Rattle.std.proofs.Common.{◌≡◌, ◌≤◌}
use Rattle.fb_link.specs.Seen.{seen}
use Rattle.host_driver.proofs.RequireLemmas.{LinesLeft}
use Rattle.host_driver.proofs.requirements.check_lines.Given as goal

-- the lines so far are met
abbrev pub invariant-loop-line : goal.invariant-loop-line
invariant-loop-line g l =
    let told = g.P.Port.told in
    let text = g.S.Sink.text in
    record {
      left : LinesLeft l.fn.lines l.fn.product l.line-index (seen (told l.fn.ready) (text l.fn.shown)) (seen (told l.ready) (text l.shown));
      same : g.P.Port.lent l.ready ≡ g.P.Port.lent l.fn.ready;
      shown_later : g.S.Sink.faults l.fn.shown ≤ g.S.Sink.faults l.shown;
    }
