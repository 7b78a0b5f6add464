use Rattle.std.proofs.Common.{◌++◌, ◌∷◌, [], ap, ◌∙◌}
use Rattle.fb_message.specs.declared.reply.Reply.TheVariants.{Okay}
use Rattle.wire_model.specs.Answers.{frames_of}
use Rattle.wire_model.proofs.FrameLemmas.{all_frames_are}
use Rattle.wire_model.proofs.replies.all_told.Goals as goal

pub returns : goal.returns
returns c =
    c.from_vec.ensures ∙ c.in_ok-both.ensures
    ∙ ap (λ t. c.as_slice-3.result.now ++ t) (c.as_slice-4.ensures ∙ c.in_ok-last.ensures ∙ ap (λ t. frames_of (Okay t ∷ [])) c.as_slice-2.ensures)
    ∙ ap (λ t. t ++ frames_of (Okay [] ∷ [])) (c.as_slice-3.ensures.value ∙ c.in_ok-told.ensures)
    ∙ all_frames_are c.args.dev.now c.as_slice.result.now (c.as_slice.ensures ∙ c.in_ok-rows.ensures)
