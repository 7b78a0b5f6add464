use Rattle.std.proofs.Common.{◌≡◌, ◌≤◌}
use Rattle.fb_link.specs.Seen.{seen}
use Rattle.host_driver.proofs.FindLemmas.{TasksLeft}
use Rattle.host_driver.proofs.asking_parts.ask_parts.Given as goal

-- the partitions were asked for that the tasks so far may be for
abbrev pub invariant-loop-task : goal.invariant-loop-task
invariant-loop-task g l =
    let told = g.P.Port.told in
    let text = g.S.Sink.text in
    record {
      left : TasksLeft l.fn.slot l.fn.listed l.fn.tasks l.task-index l.parts (seen (told l.fn.ready) (text l.fn.shown)) (seen (told l.ready) (text l.shown));
      same : g.P.Port.lent l.ready ≡ g.P.Port.lent l.fn.ready;
      shown_later : g.S.Sink.faults l.fn.shown ≤ g.S.Sink.faults l.shown;
    }
