use Rattle.std.proofs.Common.{◌≡◌, [], length, arith, ap, rules}
use Rattle.std.proofs.lemmas.List.{length_push}
use Rattle.device_session.proofs.script_gate.ScriptGate.new.Goals as goal

pub invariant_of-result : goal.invariant_of-result
invariant_of-result c =
    let none : c.in_ok-passages.passages.items ≡ [] = search rules in
    record {
      fewer = omega (arith, ap length none);
      room = search rules;
      within = search rules;
      last = λ past p e. absurd (omega (arith, ap length none, ap length e, length_push past p));
      there = λ up. search rules;
      sizes = c.requires.sizes;
      left = c.args.room;
      bounded = search rules;
      space = search rules;
    }
