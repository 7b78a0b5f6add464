use Rattle.std.proofs.Common.{◌++◌, true, refl, ap, ◌∙◌}
use Rattle.wire_model.specs.declared.connection.Connection.{Connection}
use Rattle.wire_model.specs.Connections.{wire_of}
use Rattle.wire_model.proofs.ConnectionLemmas.{fail_written}
use Rattle.wire_model.proofs.connection.failed.Goals as goal

pub returns : goal.returns
returns c =
    let connection = c.args.connection in
    let reply = c.as_slice.result.now in
    ap (λ (n : Connection). wire_of (record n { closed = true })) c.in_ok-next.ensures
    ∙ fail_written c.args.text.now reply (connection.out ++ reply) (wire_of connection) (c.as_slice.ensures ∙ c.in_ok-reply.ensures) refl
