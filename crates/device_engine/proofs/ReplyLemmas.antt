-- Replies as frames, one after another.
use Rattle.std.proofs.Common.{◌≡◌, ◌∙◌, ap, sym, ℕ, List, [], ◌∷◌, ◌++◌, append_assoc, append-nil, length-append}
use Rattle.std.specs.List.{flat_map}
use Rattle.fb_message.specs.declared.reply.Reply.{Reply}
use Rattle.device_engine.specs.Replied.{Framed, none_framed, with_reply, reply_frame, framed}

module _ {X : Type 0} (f : X → List ℕ) where
  flat-more : (xs : List X) (x : X) → flat_map f (xs ++ x ∷ []) ≡ flat_map f xs ++ f x
  flat-more [] x = append-nil (f x)
  flat-more (y ∷ xs) x = ap (λ more. f y ++ more) (flat-more xs x) ∙ sym (append_assoc (f y) (flat_map f xs) (f x))

pub framed-more : (replies : List Reply) (reply : Reply) → with_reply (framed replies) reply ≡ framed (replies ++ reply ∷ [])
framed-more replies reply =
    let frames = sym (flat-more reply_frame replies reply) in
    let count = sym (length-append replies (reply ∷ [])) in
    λ i. record { frames = frames i; count = count i }

pub framed-once : (replies : Framed) (reply : Reply) → replies ≡ none_framed → with_reply replies reply ≡ framed (reply ∷ [])
framed-once replies reply e = ap (λ r. with_reply r reply) e ∙ framed-more [] reply

-- one more, where these stand already
pub framed-next : (replies : Framed) (told : List Reply) (reply : Reply) → replies ≡ framed told → with_reply replies reply ≡ framed (told ++ reply ∷ [])
framed-next replies told reply e = ap (λ r. with_reply r reply) e ∙ framed-more told reply

pub ruleset framing = (framed-more, framed-once, framed-next)
