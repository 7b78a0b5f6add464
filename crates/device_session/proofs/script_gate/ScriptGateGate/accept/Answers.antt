use Rattle.std.proofs.Common.{◌<◌, List, length, arith, refl, sym, subst, ◌∙◌}
use Rattle.std.proofs.lemmas.List.{length-map}
use Rattle.device_session.specs.declared.script_gate.Passage.{Passage}
use Rattle.device_session.specs.Gates.{IsAccepted}
use Rattle.device_session.specs.Scripts.{split_at}
use Rattle.device_session.specs.ScriptKept.{gives_of}
use Rattle.device_session.proofs.ScriptLemmas.{accepted-new, kept-more, room-less}
use Rattle.device_session.proofs.script_gate.ScriptGateGate.accept.Goals as goal

pub invariant_of-self-2 : goal.invariant_of-self-2
invariant_of-self-2 c =
    let g = c.self.inside in
    let k = c.self.invariant in
    let less : length g.passages.items < length g.script.items = omega (arith, k.fewer, c.if-len.false) in
    kept-more g _ _ _ k refl refl refl c.in-Ok.ensures.items less (omega arith) refl (omega arith) refl refl
    (room-less g.failures c.pass.new.self 0 k.left c.pass.ensures.counts (sym c.pass.ensures.fails ∙ sym c.if-is_err.ensures.value) k.bounded)
    (omega (arith, k.space))

pub returns-clause-accepts : goal.returns-clause-accepts
returns-clause-accepts c =
    let g = c.self.inside in
    let less : length g.passages.items < length (gives_of g) =
    omega (arith, c.self.invariant.fewer, c.if-len.false, length-map g.script.items (λ v. v.items)) in
    λ more. rw (← c.self.view_is) (record {
      up = refl;
      connections = subst (λ (l : List Passage). IsAccepted (split_at (gives_of g) g.passages.items g.written.items) (split_at (gives_of g) l g.written.items))
          (sym c.in-Ok.ensures.items) (accepted-new (gives_of g) g.passages.items g.written.items _ less);
      kept = record { listening = refl; port = refl; later = c.pass.ensures.cause.later; no_fewer = omega arith };
      calm = refl;
    })
