use Rattle.std.proofs.Common.{◌≡◌, ◌++◌, ◌∷◌, map, take}
use Rattle.fb_message.specs.declared.reply.Reply.TheVariants.{Info}
use Rattle.wire_model.specs.Answers.{frames_of}
use Rattle.wire_model.proofs.replies.infos.Given as goal

-- the rows that were passed are told
abbrev pub invariant-loop-row : goal.invariant-loop-row
invariant-loop-row l = l.bytes.items ≡ frames_of (map (λ row. Info (row.0 ++ 58 ∷ row.1)) (take l.row-index l.rows))
