use Rattle.std.proofs.Common.{◌≡◌, refl, sym, ap, ◌∙◌, subst}
use Rattle.std.specs.Prelude.{IsTrue}
use Rattle.dev_model.specs.Partitions.{is_fastboot}
use Rattle.device_engine.specs.Running.{held_of}
use Rattle.pair_port.specs.Pairs.{End}
use Rattle.pair_port.specs.Ready.{end_of, IsReadyEnd}
use Rattle.pair_port.proofs.ReadyLemmas.{ready-whole}
use Rattle.pair_port.proofs.other.Other.up.Goals as goal

pub start-requires-clause-whole : goal.start-requires-clause-whole
start-requires-clause-whole g c =
    let told = g.K.Disk.told in
    let left = c.requires.ready.0 in
    let held = held_of c.in-Down.device in
    let runs : IsTrue (is_fastboot held.device.mode) = sym c.runs_fastboot.ensures.runs ∙ c.if-runs_fastboot.true in
    ready-whole told held c.in-Down.room left (subst (λ (e : End _). IsReadyEnd told e left) (ap end_of c.in-Down.is) c.requires.ready.1) runs

pub returns-then-runs_fastboot-clause-begins : goal.returns-then-runs_fastboot-clause-begins
returns-then-runs_fastboot-clause-begins g c = λ _.
    record {
      held = held_of c.in-Down.device;
      room = c.in-Down.room;
      live = c.start.result;
      there = ap end_of c.in-Down.is;
      end_now = refl;
      same = c.start.ensures.held;
      same_room = c.start.ensures.room;
      state = c.start.ensures.fresh;
      runs = sym c.runs_fastboot.ensures.runs ∙ c.if-runs_fastboot.true;
    }
