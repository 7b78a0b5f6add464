use Rattle.std.proofs.Common.{rules, ◌≡◌, ◌+◌, ◌-◌, ◌≤◌, length, take, drop, get_or, [], arith, refl, sym, ap, subst, ◌∙◌}
use Rattle.std.specs.Prelude.{IsTrue}
use Rattle.std.proofs.lemmas.List.{length-map, length-take-le}
use Rattle.device_session.specs.Gates.{IsReadOn, IsReadFailed}
use Rattle.device_session.specs.Scripts.{Scripted}
use Rattle.device_session.specs.ScriptKept.{gives_of}
use Rattle.device_session.proofs.ScriptLemmas.{kept-put, put-changed, last-there, read-on, room-kept, room-less}
use Rattle.device_session.proofs.script_gate.ScriptGateGate.read.Goals as goal

pub invariant_of-self : goal.invariant_of-self
invariant_of-self c =
    let g = c.self.inside in
    let k = c.self.invariant in
    let front = take (length g.passages.items - 1) g.passages.items in
    let last = k.last front c.last_of-passage.result c.last_of-passage.ensures in
    kept-put g _ front c.last_of-passage.result _ k.left k refl refl refl c.last_of-passage.ensures c.put_last.ensures.put
    (omega (arith, c.put_last.ensures.capacity)) (omega arith) (record { ends = last.ends; read = last.read })
    (room-kept g.failures c.pass.new.self 0 k.left c.pass.ensures.counts (sym c.pass.ensures.fails ∙ sym c.if-is_err.ensures.value) k.bounded)
    k.space

pub returns-then-is_err-clause-fails : goal.returns-then-is_err-clause-fails
returns-then-is_err-clause-fails c =
    let g = c.self.inside in
    let front = take (length g.passages.items - 1) g.passages.items in
    let fewer : length g.passages.items ≤ length (gives_of g) =
    omega (arith, c.self.invariant.fewer, length-map g.script.items (λ v. v.items)) in
    rw (← c.self.view_is) (record {
      down = refl;
      connections = put-changed IsReadFailed (gives_of g) g.passages.items front _ c.last_of-passage.result _ g.written.items g.written.items
          c.last_of-passage.ensures c.put_last.ensures.put fewer refl refl;
      kept = record { listening = refl; port = refl; later = c.pass.ensures.cause.later; no_fewer = omega arith };
      calm = refl;
      rose = search rules;
    })

pub invariant_of-self-2 : goal.invariant_of-self-2
invariant_of-self-2 c =
    let g = c.self.inside in
    let k = c.self.invariant in
    let p = c.last_of-passage.result in
    let front = take (length g.passages.items - 1) g.passages.items in
    let last = k.last front p c.last_of-passage.ensures in
    let at : length front ≡ length g.passages.items - 1 = length-take-le (length g.passages.items - 1) g.passages.items (omega arith) in
    let gives : c.given-gives.result.now ≡ get_or (gives_of g) (length front) [] =
    c.given-gives.ensures ∙ ap (λ n. get_or (gives_of g) n []) (omega (arith, at)) in
    kept-put g _ front p _ (k.left - 0) k refl refl refl c.last_of-passage.ensures c.put_last-2.ensures.put
    (omega (arith, c.put_last-2.ensures.capacity)) (omega arith)
    (record { ends = last.ends; read = omega (arith, last.read, ap length gives) })
    (room-less g.failures c.pass.new.self 0 k.left c.pass.ensures.counts (sym c.pass.ensures.fails ∙ sym c.if-is_err.ensures.value) k.bounded)
    (omega (arith, k.space))

pub returns-clause-reads : goal.returns-clause-reads
returns-clause-reads c =
    let g = c.self.inside in
    let k = c.self.invariant in
    let p = c.last_of-passage.result in
    let front = take (length g.passages.items - 1) g.passages.items in
    let last = k.last front p c.last_of-passage.ensures in
    let at : length front ≡ length g.passages.items - 1 = length-take-le (length g.passages.items - 1) g.passages.items (omega arith) in
    let gives : c.given-gives.result.now ≡ get_or (gives_of g) (length front) [] =
    c.given-gives.ensures ∙ ap (λ n. get_or (gives_of g) n []) (omega (arith, at)) in
    let fewer : length g.passages.items ≤ length (gives_of g) = omega (arith, k.fewer, length-map g.script.items (λ v. v.items)) in
    let n = c.min-n.result in
    let there : p.read + n ≤ length (get_or (gives_of g) (length front) []) = omega (arith, last.read, ap length gives) in
    let up : IsTrue g.up = subst (λ (v : Scripted). IsTrue v.up) (sym c.self.view_is) c.requires.up in
    rw (← c.self.view_is) (record {
      up = up;
      connections = put-changed (IsReadOn (take n c.give.new.buf)) (gives_of g) g.passages.items front _ p _ g.written.items g.written.items
          c.last_of-passage.ensures c.put_last-2.ensures.put fewer refl
          (read-on (get_or (gives_of g) (length front) []) g.written.items c.give.new.buf p n there (omega arith)
          (c.give.ensures ∙ ap (λ l. take n (drop p.read l)) gives));
      kept = record { listening = refl; port = refl; later = c.pass.ensures.cause.later; no_fewer = omega arith };
      calm = refl;
    })

pub returns-clause-end : goal.returns-clause-end
returns-clause-end c =
    let g = c.self.inside in
    let k = c.self.invariant in
    let p = c.last_of-passage.result in
    let front = take (length g.passages.items - 1) g.passages.items in
    let last = k.last front p c.last_of-passage.ensures in
    let at : length front ≡ length g.passages.items - 1 = length-take-le (length g.passages.items - 1) g.passages.items (omega arith) in
    let gives : c.given-gives.result.now ≡ get_or (gives_of g) (length front) [] =
    c.given-gives.ensures ∙ ap (λ n. get_or (gives_of g) n []) (omega (arith, at)) in
    let fewer : length g.passages.items ≤ length (gives_of g) = omega (arith, k.fewer, length-map g.script.items (λ v. v.items)) in
    λ none some. rw (← c.self.view_is)
    (last-there (gives_of g) g.passages.items front p g.written.items c.last_of-passage.ensures fewer
    (omega (arith, none, some, last.read, ap length gives)))
