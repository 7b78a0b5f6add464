use Rattle.std.proofs.Common.{◌≡◌, ◌-◌, ◌≤◌}
use Rattle.fb_link.specs.Seen.{seen}
use Rattle.host_driver.specs.Puts.{IsPutSoFar}
use Rattle.host_driver.proofs.put.put.Given as goal

-- some pieces were put, and the others are left
abbrev pub invariant-loop-piece : goal.invariant-loop-piece
invariant-loop-piece g l =
    let told = g.P.Port.told in
    let text = g.S.Sink.text in
    let content = g.B.Bytes.content in
    record {
      put : IsPutSoFar (record { name = l.fn.name; kept = l.fn.index; most = l.fn.most; told = content l.fn.source }) l.pieces
          (seen (told l.fn.ready) (text l.fn.shown)) (seen (told l.ready) (text l.shown));
      same : g.P.Port.lent l.ready ≡ g.P.Port.lent l.fn.ready;
      shown_later : g.S.Sink.faults l.fn.shown ≤ g.S.Sink.faults l.shown;
      content : content l.source ≡ content l.fn.source;
      size : g.B.Bytes.size l.source ≡ g.B.Bytes.size l.fn.source;
      source_same : g.B.Bytes.lent l.source ≡ g.B.Bytes.lent l.fn.source;
      read_later : g.B.Bytes.faults l.fn.source ≤ g.B.Bytes.faults l.source;
    }

abbrev pub decreases-loop-piece : goal.decreases-loop-piece
decreases-loop-piece g l = l.pieces.kept.blocks - l.pieces.first
