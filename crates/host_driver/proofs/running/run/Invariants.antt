use Rattle.std.proofs.Common.{◌≡◌, ◌-◌, ◌≤◌, length}
use Rattle.fb_link.specs.Seen.{seen}
use Rattle.host_driver.specs.Running.{IsRunSoFar, running}
use Rattle.host_driver.specs.Taking.{supply}
use Rattle.host_driver.proofs.running.run.Given as goal

-- so many steps were taken and printed
abbrev pub invariant-loop-at : goal.invariant-loop-at
invariant-loop-at g l =
    let told = g.P.Port.told in
    let text = g.S.Sink.text in
    record {
      so_far : IsRunSoFar (running (supply (g.D.ProductDir.files l.fn.dir) l.fn.product l.fn.most) l.fn.plan) l.at
          (seen (told l.fn.ready) (text l.fn.shown)) (seen (told l.ready) (text l.shown));
      within : l.at ≤ length l.fn.plan;
      same : g.P.Port.lent l.ready ≡ g.P.Port.lent l.fn.ready;
      shown_later : g.S.Sink.faults l.fn.shown ≤ g.S.Sink.faults l.shown;
      entered : g.D.ProductDir.entered l.dir ≡ g.D.ProductDir.entered l.fn.dir;
      path : g.D.ProductDir.told_path l.dir ≡ g.D.ProductDir.told_path l.fn.dir;
      files : g.D.ProductDir.files l.dir ≡ g.D.ProductDir.files l.fn.dir;
      dir_same : g.D.ProductDir.lent l.dir ≡ g.D.ProductDir.lent l.fn.dir;
      read_later : g.D.ProductDir.faults l.fn.dir ≤ g.D.ProductDir.faults l.dir;
    }

abbrev pub decreases-loop-at : goal.decreases-loop-at
decreases-loop-at g l = length l.fn.plan - l.at
