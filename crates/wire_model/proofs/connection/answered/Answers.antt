use Rattle.std.proofs.Common.{◌≡◌, ◌++◌, [], ap, ◌∙◌}
use Rattle.std.proofs.lemmas.Result.{IfOk-weaker}
use Rattle.fb_message.specs.CommandText.{command_of}
use Rattle.wire_model.specs.declared.connection.Connection.{Connection}
use Rattle.wire_model.specs.Answers.{answer_of}
use Rattle.wire_model.specs.Says.{says}
use Rattle.wire_model.specs.Wire.{received, answered}
use Rattle.wire_model.specs.Connections.{wire_of}
use Rattle.wire_model.proofs.ConnectionLemmas.{answered_plainly, answered_due}
use Rattle.wire_model.proofs.connection.answered.Goals as goal

pub returns-in-None : goal.returns-in-None
returns-in-None c =
    let connection = c.args.connection in
    let answer = c.in_ok-answer.answer in
    let said = says connection.device connection.loaded (command_of c.args.payload.now) in
    let is_said : answer ≡ answer_of said = c.in_ok-answer.ensures ∙ ap (λ x. answer_of (says connection.device connection.loaded x)) c.read_command-command.ensures.value in
    ap (λ (n : Connection). wire_of (record n { device = answer.device; loaded = answer.loaded; closed = answer.closed })) c.in_ok-next.ensures
    ∙ answered_plainly said answer (connection.out ++ c.as_slice.result.now) (wire_of connection) is_said (ap (λ r. connection.out ++ r) c.as_slice.ensures) c.in-None.is

pub returns : goal.returns
returns c =
    let connection = c.args.connection in
    let answer = c.in_ok-answer.answer in
    let count = c.in-Some.count in
    let said = says connection.device connection.loaded (command_of c.args.payload.now) in
    let is_said : answer ≡ answer_of said = c.in_ok-answer.ensures ∙ ap (λ x. answer_of (says connection.device connection.loaded x)) c.read_command-command.ensures.value in
    let next : Connection = record c.in_ok-next.next { device = answer.device; loaded = answer.loaded; closed = answer.closed } in
    let state : received count c.new.result (wire_of next) ≡ answered said (wire_of connection) =
    ap (λ got. received count got (wire_of next)) c.new.ensures
    ∙ ap (λ (n : Connection). received count [] (wire_of (record n { device = answer.device; loaded = answer.loaded; closed = answer.closed }))) c.in_ok-next.ensures
    ∙ answered_due said answer (connection.out ++ c.as_slice.result.now) count (wire_of connection) is_said (ap (λ r. connection.out ++ r) c.as_slice.ensures) c.in-Some.is in
    IfOk-weaker c.received.result (λ last. wire_of last ≡ received count c.new.result (wire_of next)) (λ last. wire_of last ≡ answered said (wire_of connection))
    (λ last h. h ∙ state) c.received.ensures
