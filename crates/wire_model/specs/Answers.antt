-- What the program makes of an answer: the frames of its replies, and what follows.
use Rattle.std.specs.Prelude.{ℕ, List, ◌∷◌, flat_map, Option, Some, None}
use Rattle.fb_frame.specs.Framing.{frame}
use Rattle.fb_message.specs.declared.reply.Reply.{Reply}
use Rattle.fb_message.specs.declared.reply.Reply.TheVariants.{Load}
use Rattle.fb_message.specs.ReplyText.{reply_bytes}
use Rattle.wire_model.specs.declared.answer.Answer.{Answer}
use Rattle.wire_model.specs.Says.{Said}

-- the frames of these replies
unfoldable pub frames_of : List Reply → List ℕ
frames_of replies = flat_map (λ reply. frame (reply_bytes reply)) replies

-- how many bytes are due behind DATA
abbrev pub due_of : List Reply → Option ℕ
due_of (Load count ∷ replies) = Some count
due_of _ = None

-- the answer as the program has it
abbrev pub answer_of : Said → Answer
answer_of said = record { out = frames_of said.replies; device = said.device; loaded = said.loaded; due = due_of said.replies; closed = said.closed }
