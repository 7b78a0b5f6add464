use Rattle.std.proofs.Common.{◌≡◌, ◌-◌, ◌+◌, ◌≤◌, All, drop, take, length}
use Rattle.host_driver.specs.Jobs.{folder, outside, order}
use Rattle.host_driver.specs.Printing.{lead}
use Rattle.host_driver.proofs.TriedLemmas.{HasTried}
use Rattle.host_driver.proofs.flash.flash.Given as goal

-- so many attempts were made, and each failed by the link or met its end
abbrev pub invariant-attempts : goal.invariant-attempts
invariant-attempts g l =
    let told = g.P.Port.told in
    let text = g.S.Sink.text in
    let faults = g.S.Sink.faults in
    let D = g.D.ProductDir in
    let first = outside (told l.fn.link) (folder (D.told_path l.fn.dir) (D.files l.fn.dir) (D.entered l.fn.dir) (D.faults l.fn.dir)) (text l.fn.out) (faults l.fn.out) in
    let now = outside (told l.link) (folder (D.told_path l.dir) (D.files l.dir) (D.entered l.dir) (D.faults l.dir)) (text l.out) (faults l.out) in
    record {
      tried : HasTried (order l.fn.product l.fn.options) first now l.kept (take l.attempts l.acknowledged) (lead (length (take l.attempts l.acknowledged)));
      within : l.attempts ≤ l.fn.options.retries;
      ten : length l.acknowledged ≡ 10;
      rest : All (λ n. n ≡ 0) (drop l.attempts l.acknowledged);
      same : g.P.Port.lent l.link ≡ g.P.Port.lent l.fn.link;
      dir_same : D.lent l.dir ≡ D.lent l.fn.dir;
    }

abbrev pub decreases-attempts : goal.decreases-attempts
decreases-attempts g l = l.fn.options.retries + 1 - l.attempts
