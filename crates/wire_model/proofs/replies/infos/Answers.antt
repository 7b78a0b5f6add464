use Rattle.std.proofs.Common.{◌++◌, ◌∷◌, [], ap, sym, ◌∙◌, arith}
use Rattle.fb_message.specs.declared.reply.Reply.TheVariants.{Info}
use Rattle.wire_model.specs.Answers.{frames_of}
use Rattle.wire_model.proofs.FrameLemmas.{info_turn, info_begin}
use Rattle.wire_model.proofs.replies.infos.Goals as goal

pub loop-row-init : goal.loop-row-init
loop-row-init c = c.new-bytes.ensures.items ∙ sym info_begin

pub loop-row-preserved : goal.loop-row-preserved
loop-row-preserved c =
    let row = c.row-item.result in
    c.in_ok-push_info.ensures
    ∙ ap (λ t. t ++ frames_of (Info (row.0 ++ 58 ∷ row.1) ∷ [])) c.loop-row.invariant
    ∙ info_turn c.args.rows.now c.loop-row.row-index row (omega arith) c.row-item.is
