-- The frames of several replies.
use Rattle.std.proofs.Common.{◌≡◌, ℕ, ◌+◌, ◌<◌, List, [], ◌∷◌, ◌++◌, length, get_or, take, map, None, false, refl, ap, sym, ◌∙◌}
use Rattle.std.proofs.lemmas.List.{take_more, map-append}
use Rattle.std.proofs.lemmas.Grind.{flat_map-append}
use Rattle.fb_frame.specs.Framing.{frame}
use Rattle.fb_message.specs.declared.reply.Reply.{Reply}
use Rattle.fb_message.specs.declared.reply.Reply.TheVariants.{Okay, Info}
use Rattle.fb_message.specs.ReplyText.{reply_bytes}
use Rattle.dev_model.specs.declared.device.Dev.{Dev}
use Rattle.dev_model.specs.Variables.{Row, all_rows}
use Rattle.wire_model.specs.declared.answer.Answer.{Answer}
use Rattle.wire_model.specs.Answers.{frames_of, due_of, answer_of}
use Rattle.wire_model.specs.Says.{Loaded, answers, tells_all}

pub frames-append : (xs ys : List Reply) → frames_of (xs ++ ys) ≡ frames_of xs ++ frames_of ys
unfolding frames_of
frames-append xs ys = flat_map-append (λ reply. frame (reply_bytes reply)) xs ys

abbrev told : Row → Reply
told row = Info (row.0 ++ 58 ∷ row.1)

-- one row more is told
pub info_turn : (rows : List Row) (i : ℕ) (row : Row) → i < length rows → row ≡ get_or rows i row →
    frames_of (map (λ r. Info (r.0 ++ 58 ∷ r.1)) (take i rows)) ++ frames_of (Info (row.0 ++ 58 ∷ row.1) ∷ [])
    ≡ frames_of (map (λ r. Info (r.0 ++ 58 ∷ r.1)) (take (i + 1) rows))
info_turn rows i row h e =
    sym (frames-append (map told (take i rows)) (told row ∷ [])) ∙ ap frames_of (sym (map-append told (take i rows) (row ∷ []))
    ∙ ap (map told) (ap (λ r. take i rows ++ r ∷ []) e ∙ sym (take_more rows i row h)))

pub info_begin : frames_of [] ≡ []
unfolding frames_of
info_begin = refl

pub ruleset info_turns = (info_turn, info_begin)

-- all rows, and OKAY
pub all_frames_are : (dev : Dev) (rows : List Row) → rows ≡ all_rows dev →
    frames_of (map (λ r. Info (r.0 ++ 58 ∷ r.1)) rows) ++ frames_of (Okay [] ∷ []) ≡ frames_of (tells_all dev)
all_frames_are dev rows e = sym (frames-append (map told rows) (Okay [] ∷ [])) ∙ ap (λ r. frames_of (map told r ++ Okay [] ∷ [])) e

pub ruleset all_frames = (all_frames_are)

-- no data is due behind the variables
told_due : (rows : List Row) → due_of (map (λ r. Info (r.0 ++ 58 ∷ r.1)) rows ++ Okay [] ∷ []) ≡ None
told_due [] = refl
told_due (row ∷ rows) = refl

pub all_answer : (out : List ℕ) (device dev : Dev) (kept loaded : Loaded) → out ≡ frames_of (tells_all dev) → device ≡ dev → kept ≡ loaded →
    ◌≡◌ {A = Answer} (record { out = out; device = device; loaded = kept; due = None; closed = false }) (answer_of (answers (tells_all dev) dev loaded))
all_answer out device dev kept loaded e f g = λ i. record { out = e i; device = f i; loaded = g i; due = sym (told_due (all_rows dev)) i; closed = false }
