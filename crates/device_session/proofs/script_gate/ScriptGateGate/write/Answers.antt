use Rattle.std.proofs.Common.{rules, ◌≡◌, ◌+◌, ◌-◌, ◌≤◌, List, ℕ, ◌++◌, length, take, get_or, [], arith, refl, sym, ap, subst, ◌∙◌, length-append}
use Rattle.std.specs.Prelude.{IsTrue, true}
use Rattle.std.proofs.lemmas.List.{length-map, append-nil}
use Rattle.device_session.specs.Gates.{Connection, IsWrittenOn, IsWriteFailed}
use Rattle.device_session.specs.Scripts.{Scripted, written_in, connections_of}
use Rattle.device_session.specs.ScriptKept.{gives_of}
use Rattle.device_session.proofs.ScriptLemmas.{kept-put, put-changed, front-within, connections-same, written-on, room-kept, room-less, left-enough}
use Rattle.device_session.proofs.script_gate.ScriptGateGate.write.Goals as goal

pub invariant_of-self : goal.invariant_of-self
invariant_of-self c =
    let g = c.self.inside in
    let k = c.self.invariant in
    let front = take (length g.passages.items - 1) g.passages.items in
    let last = k.last front c.last_of-passage.result c.last_of-passage.ensures in
    kept-put g _ front c.last_of-passage.result _ k.left k refl refl refl c.last_of-passage.ensures c.put_last.ensures.put
    (omega (arith, c.put_last.ensures.capacity)) (omega arith) (record { ends = last.ends; read = last.read })
    (room-kept g.failures c.pass.new.self (length c.args.bytes.now) k.left c.pass.ensures.counts (sym c.pass.ensures.fails ∙ sym c.if-is_err.ensures.value) k.bounded)
    k.space

pub returns-then-is_err-clause-fails : goal.returns-then-is_err-clause-fails
returns-then-is_err-clause-fails c =
    let g = c.self.inside in
    let p = c.last_of-passage.result in
    let front = take (length g.passages.items - 1) g.passages.items in
    let fewer : length g.passages.items ≤ length (gives_of g) =
    omega (arith, c.self.invariant.fewer, length-map g.script.items (λ v. v.items)) in
    let given = get_or (gives_of g) (length front) [] in
    rw (← c.self.view_is) (record {
      down = refl;
      connections = put-changed (IsWriteFailed c.args.bytes.now) (gives_of g) g.passages.items front _ p _ g.written.items g.written.items
          c.last_of-passage.ensures c.put_last.ensures.put fewer refl
          (record {
            count = 0;
            within = omega arith;
            changed = ap (λ (t : List ℕ). let d : Connection = record { gives = given; read = p.read; written = t; failed = true } in d)
                (sym (append-nil (written_in p g.written.items)));
          });
      kept = record { listening = refl; port = refl; later = c.pass.ensures.cause.later; no_fewer = omega arith };
      calm = refl;
      rose = search rules;
    })

pub unreachable-requires : goal.unreachable-requires
unreachable-requires c =
    let g = c.self.inside in
    let k = c.self.invariant in
    let enough : length c.args.bytes.now ≤ k.left =
    left-enough g.failures (length c.args.bytes.now) k.left (sym c.pass.ensures.fails ∙ sym c.if-is_err.ensures.value) k.bounded in
    omega (arith, enough, k.space, c.in-Err.ensures.full)

pub invariant_of-self-2 : goal.invariant_of-self-2
invariant_of-self-2 c =
    let g = c.self.inside in
    let k = c.self.invariant in
    let p = c.last_of-passage.result in
    let front = take (length g.passages.items - 1) g.passages.items in
    let last = k.last front p c.last_of-passage.ensures in
    let n = length c.args.bytes.now in
    let long : length c.extend_from_slice.new.self.items ≡ length g.written.items + n =
    ap length c.in-Ok.ensures.items ∙ length-append g.written.items c.args.bytes.now in
    let enough : n ≤ k.left =
    left-enough g.failures n k.left (sym c.pass.ensures.fails ∙ sym c.if-is_err.ensures.value) k.bounded in
    kept-put g _ front p _ (k.left - n) k refl refl refl c.last_of-passage.ensures c.put_last-2.ensures.put
    (omega (arith, c.put_last-2.ensures.capacity)) (omega (arith, long))
    (record { ends = omega (arith, long, last.ends); read = last.read })
    (room-less g.failures c.pass.new.self n k.left c.pass.ensures.counts (sym c.pass.ensures.fails ∙ sym c.if-is_err.ensures.value) k.bounded)
    (omega (arith, long, enough, k.space, c.extend_from_slice.ensures.capacity))

pub returns-clause-writes : goal.returns-clause-writes
returns-clause-writes c =
    let g = c.self.inside in
    let k = c.self.invariant in
    let p = c.last_of-passage.result in
    let front = take (length g.passages.items - 1) g.passages.items in
    let last = k.last front p c.last_of-passage.ensures in
    let fewer : length g.passages.items ≤ length (gives_of g) = omega (arith, k.fewer, length-map g.script.items (λ v. v.items)) in
    let bytes = c.args.bytes.now in
    let up : IsTrue g.up = subst (λ (v : Scripted). IsTrue v.up) (sym c.self.view_is) c.requires.up in
    let same : connections_of (gives_of g) front (g.written.items ++ bytes) ≡ connections_of (gives_of g) front g.written.items =
    connections-same (gives_of g) front g.written.items bytes
    (front-within g.passages.items front p (length g.written.items) c.last_of-passage.ensures k.within) in
    rw (← c.self.view_is, c.in-Ok.ensures.items) (record {
      up = up;
      connections = put-changed (IsWrittenOn (take (length bytes) bytes)) (gives_of g) g.passages.items front _ p _ g.written.items (g.written.items ++ bytes)
          c.last_of-passage.ensures c.put_last-2.ensures.put fewer same
          (written-on (get_or (gives_of g) (length front) []) g.written.items bytes p last.ends);
      kept = record { listening = refl; port = refl; later = c.pass.ensures.cause.later; no_fewer = omega arith };
      calm = refl;
    })
