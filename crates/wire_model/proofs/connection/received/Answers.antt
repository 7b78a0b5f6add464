use Rattle.std.proofs.Common.{◌≡◌, ◌++◌, [], ◌∷◌, length, Some, refl, ap, ◌∙◌, arith}
use Rattle.fb_message.specs.declared.reply.Reply.TheVariants.{Okay}
use Rattle.wire_model.specs.declared.connection.Connection.{Connection}
use Rattle.wire_model.specs.declared.connection.Phase.TheVariants.{Command}
use Rattle.wire_model.specs.Answers.{frames_of}
use Rattle.wire_model.specs.Connections.{wire_of}
use Rattle.wire_model.proofs.ConnectionLemmas.{all_received}
use Rattle.wire_model.proofs.connection.received.Goals as goal

pub returns : goal.returns
returns c =
    let connection = c.args.connection in
    let reply = c.as_slice-2.result.now in
    let all : length c.args.got ≡ c.args.count = omega arith in
    ap (λ (n : Connection). wire_of (record n { loaded = Some c.args.got; phase = Command })) c.in_ok-next.ensures
    ∙ all_received c.args.count c.args.got reply (connection.out ++ reply) (wire_of connection) all
    (c.as_slice-2.ensures ∙ c.in_ok-reply.ensures ∙ ap (λ t. frames_of (Okay t ∷ [])) c.as_slice.ensures) refl
