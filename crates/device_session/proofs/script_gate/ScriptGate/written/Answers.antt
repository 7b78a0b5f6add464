use Rattle.std.proofs.Common.{◌≡◌, ◌+◌, ◌-◌, ◌≤◌, ◌<◌, length, take, drop, arith, sym, ap, ◌∙◌}
use Rattle.std.proofs.lemmas.List.{length-map}
use Rattle.device_session.specs.ScriptKept.{gives_of}
use Rattle.device_session.specs.Scripts.{Scripted, written_at, written_in}
use Rattle.device_session.proofs.ScriptLemmas.{written-there, written-nowhere}
use Rattle.device_session.proofs.script_gate.ScriptGate.written.Goals as goal

pub returns-then-k-len : goal.returns-then-k-len
returns-then-k-len c =
    let past : length c.self.inside.passages.items ≤ c.args.connection = omega arith in
    sym (written-nowhere (gives_of c.self.inside) c.self.inside.passages.items c.self.inside.written.items c.args.connection past)
    ∙ ap (λ (g : Scripted). written_at g c.args.connection) c.self.view_is

pub returns : goal.returns
returns c =
    let p = c.index-passage.result.now in
    let there : c.args.connection < length c.self.inside.passages.items = omega arith in
    let fewer : length c.self.inside.passages.items ≤ length (gives_of c.self.inside) =
    omega (arith, c.self.invariant.fewer, length-map c.self.inside.script.items (λ v. v.items)) in
    let size : p.from + p.size - p.from ≡ p.size = omega arith in
    ap (λ n. take n (drop p.from c.deref.result.now)) size
    ∙ (ap (λ l. take p.size (drop p.from l)) c.deref.ensures.value
    ∙ (ap (λ q. written_in q c.self.inside.written.items) c.index-passage.ensures
    ∙ (sym (written-there (gives_of c.self.inside) c.self.inside.passages.items c.self.inside.written.items c.args.connection p there fewer)
    ∙ ap (λ (g : Scripted). written_at g c.args.connection) c.self.view_is)))
