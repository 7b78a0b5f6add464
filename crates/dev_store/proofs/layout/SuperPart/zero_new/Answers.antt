use Rattle.std.proofs.Common.{refl, ap, ◌+◌, ◌<◌, arith}
use Rattle.std.proofs.lemmas.Bool.Decides.{nat_tests}
use Rattle.dev_store.specs.LayoutLines.{first_unit}
use Rattle.dev_store.proofs.StateRepairs.{ok-more, err-more}
use Rattle.dev_store.proofs.RegrowZeros.{OpenKept-same}
use Rattle.dev_store.proofs.layout.SuperPart.zero_new.Goals as goal

pub returns-then-new-clause-zeroed : goal.returns-then-new-clause-zeroed
returns-then-new-clause-zeroed g c = record {
  units = record { owners = c.args.owners; part = c.args.new.part; start = c.args.at + first_unit c.args.self.now; unit = c.args.self.now.unit; size = c.args.new.to };
  place = record { units = refl; start = refl; unit = refl; size = refl };
  put = λ some. absurd (grind (arith, nat_tests, some, c.if-new.true));
  none = λ _. refl;
  kept = OpenKept-same (g.K.Disk.told c.args.disk.now);
}

pub returns-clause-zeroed : goal.returns-clause-zeroed
returns-clause-zeroed g c =
    let below : c.args.new.from < c.args.new.to = grind (arith, nat_tests, c.if-new.false) in
    ok-more c.zero_fill.result (λ puts. record {
      units = record { owners = c.args.owners; part = c.args.new.part; start = c.args.at + c.first_unit.result; unit = c.args.self.now.unit; size = c.from.result };
      place = record { units = refl; start = ap (λ k. c.args.at + k) c.first_unit.ensures.first; unit = refl; size = c.from.ensures };
      put = λ _. puts;
      none = λ none. absurd (omega (arith, none, below));
      kept = c.zero_fill.ensures.kept;
    }) c.zero_fill.ensures.written

pub returns-clause-left : goal.returns-clause-left
returns-clause-left g c =
    let below : c.args.new.from < c.args.new.to = grind (arith, nat_tests, c.if-new.false) in
    err-more c.zero_fill.result (λ puts. record {
      units = record { owners = c.args.owners; part = c.args.new.part; start = c.args.at + c.first_unit.result; unit = c.args.self.now.unit; size = c.from.result };
      place = record { units = refl; start = ap (λ k. c.args.at + k) c.first_unit.ensures.first; unit = refl; size = c.from.ensures };
      some = below;
      left = puts;
      kept = c.zero_fill.ensures.kept;
    }) c.zero_fill.ensures.left
