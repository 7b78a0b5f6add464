use Rattle.std.proofs.Common.{◌≡◌, ℕ, ◌+◌, List, [], ◌++◌, length, take, drop, arith, ap, subst, ◌∙◌, length-append}
use Rattle.std.proofs.lemmas.List.{drop_all, take_all, take_rest, length-take-le}
use Rattle.fb_frame.specs.Stages.{Feeds}
use Rattle.fb_frame.specs.declared.deframer.Event.{Event}
use Rattle.fb_frame.specs.declared.deframer.Event.TheVariants.{More, Length, Bytes}
use Rattle.device_session.specs.Framer.{PaysOn}
use Rattle.device_session.proofs.FramerLemmas.{frames-more, frames-long, frames-headed, frames-paid, pays-behind, pays-kept, length-left, bytes-next, front-kept}
use Rattle.device_session.proofs.framer.take_frame.Goals as goal

pub returns-then-len-most-clause-frames : goal.returns-then-len-most-clause-frames
returns-then-len-most-clause-frames c =
    let n = c.feed-n.result.0 in
    let old = c.args.deframer.now in
    let fed : Feeds old c.args.piece.now n (Length c.in-Length.len) c.feed-n.new.self =
    subst (λ (e : Event). Feeds old c.args.piece.now n e c.feed-n.new.self) c.in-Length.is c.feed-n.ensures.feeds in
    let long = frames-long c.args.most n c.in-Length.len old c.feed-n.new.self (drop c.args.base c.args.buffer.now.items) [] c.args.piece.now (omega arith) fed in
    (long.0, c.new.ensures)

pub returns-in-More-clause-frames : goal.returns-in-More-clause-frames
returns-in-More-clause-frames c =
    let n = c.feed-n.result.0 in
    let old = c.args.deframer.now in
    let fed : Feeds old c.args.piece.now n More c.feed-n.new.self =
    subst (λ (e : Event). Feeds old c.args.piece.now n e c.feed-n.new.self) c.in-More.is c.feed-n.ensures.feeds in
    frames-more c.args.most n old c.feed-n.new.self (drop c.args.base c.args.buffer.now.items) c.args.piece.now (omega arith) c.requires.stands fed

pub returns-else-len-most-clause-frames : goal.returns-else-len-most-clause-frames
returns-else-len-most-clause-frames c =
    let n = c.feed-n.result.0 in
    let m = c.take_payload-m.result.0 in
    let len = c.in-Length.len in
    let base = c.args.base in
    let old = c.args.deframer.now in
    let cut = c.truncate.new.self.items in
    let last = c.take_payload-m.new.deframer in
    let new = c.take_payload-m.new.buffer.items in
    let bytes : List ℕ = take m (drop n c.args.piece.now) in
    let fed : Feeds old c.args.piece.now n (Length len) c.feed-n.new.self =
    subst (λ (e : Event). Feeds old c.args.piece.now n e c.feed-n.new.self) c.in-Length.is c.feed-n.ensures.feeds in
    let size : length cut ≡ base = ap length c.truncate.ensures.items ∙ length-take-le base c.args.buffer.now.items c.requires.base in
    let pays : PaysOn len cut bytes c.take_payload-m.result.1 last new =
    subst (λ (l : List ℕ). PaysOn len cut (take m l) c.take_payload-m.result.1 last new) (take_rest c.args.piece.now n)
    (c.take_payload-m.ensures.pays len (length-left n len old c.feed-n.new.self c.args.piece.now fed)) in
    let behind : PaysOn len (drop base cut) bytes c.take_payload-m.result.1 last (drop base new) =
    pays-behind base len cut bytes c.take_payload-m.result.1 last new (omega (arith, size)) pays in
    let none : drop base cut ≡ [] = drop_all base cut (omega (arith, size)) in
    frames-headed c.args.most n m len old c.feed-n.new.self last (drop base c.args.buffer.now.items) (drop base new) c.args.piece.now c.take_payload-m.result.1
    (omega arith) (omega arith) fed
    (subst (λ (l : List ℕ). PaysOn len l bytes c.take_payload-m.result.1 last (drop base new)) none behind)

pub returns-else-len-most-clause-kept : goal.returns-else-len-most-clause-kept
returns-else-len-most-clause-kept c =
    let n = c.feed-n.result.0 in
    let len = c.in-Length.len in
    let base = c.args.base in
    let old = c.args.deframer.now in
    let cut = c.truncate.new.self.items in
    let new = c.take_payload-m.new.buffer.items in
    let bytes : List ℕ = take c.take_payload-m.result.0 (drop n c.args.piece.now) in
    let fed : Feeds old c.args.piece.now n (Length len) c.feed-n.new.self =
    subst (λ (e : Event). Feeds old c.args.piece.now n e c.feed-n.new.self) c.in-Length.is c.feed-n.ensures.feeds in
    let size : length cut ≡ base = ap length c.truncate.ensures.items ∙ length-take-le base c.args.buffer.now.items c.requires.base in
    let joined : new ≡ cut ++ bytes =
    pays-kept base len cut bytes c.take_payload-m.result.1 c.take_payload-m.new.deframer new
    (subst (λ (l : List ℕ). PaysOn len cut (take c.take_payload-m.result.0 l) c.take_payload-m.result.1 c.take_payload-m.new.deframer new)
    (take_rest c.args.piece.now n)
    (c.take_payload-m.ensures.pays len (length-left n len old c.feed-n.new.self c.args.piece.now fed))) in
    front-kept base cut bytes new (omega (arith, size)) joined ∙ (take_all base cut (omega (arith, size)) ∙ c.truncate.ensures.items)

pub returns-else-len-most-clause-long : goal.returns-else-len-most-clause-long
returns-else-len-most-clause-long c =
    let n = c.feed-n.result.0 in
    let len = c.in-Length.len in
    let base = c.args.base in
    let old = c.args.deframer.now in
    let cut = c.truncate.new.self.items in
    let new = c.take_payload-m.new.buffer.items in
    let bytes : List ℕ = take c.take_payload-m.result.0 (drop n c.args.piece.now) in
    let fed : Feeds old c.args.piece.now n (Length len) c.feed-n.new.self =
    subst (λ (e : Event). Feeds old c.args.piece.now n e c.feed-n.new.self) c.in-Length.is c.feed-n.ensures.feeds in
    let size : length cut ≡ base = ap length c.truncate.ensures.items ∙ length-take-le base c.args.buffer.now.items c.requires.base in
    let joined : new ≡ cut ++ bytes =
    pays-kept base len cut bytes c.take_payload-m.result.1 c.take_payload-m.new.deframer new
    (subst (λ (l : List ℕ). PaysOn len cut (take c.take_payload-m.result.0 l) c.take_payload-m.result.1 c.take_payload-m.new.deframer new)
    (take_rest c.args.piece.now n)
    (c.take_payload-m.ensures.pays len (length-left n len old c.feed-n.new.self c.args.piece.now fed))) in
    omega (arith, size, ap length joined, length-append cut bytes)

pub returns-in-Bytes-clause-frames : goal.returns-in-Bytes-clause-frames
returns-in-Bytes-clause-frames c =
    let n = c.feed-n.result.0 in
    let base = c.args.base in
    let old = c.args.deframer.now in
    let buffer = c.args.buffer.now.items in
    let bytes : List ℕ = take n c.args.piece.now in
    let last = c.take_bytes.new.deframer in
    let new = c.take_bytes.new.buffer.items in
    let fed : Feeds old c.args.piece.now n Bytes c.feed-n.new.self =
    subst (λ (e : Event). Feeds old c.args.piece.now n e c.feed-n.new.self) c.in-Bytes.is c.feed-n.ensures.feeds in
    frames-paid c.args.most n old c.feed-n.new.self last (drop base buffer) (drop base new) c.args.piece.now c.take_bytes.result (omega arith) c.requires.stands fed
    (λ left e. pays-behind base (left + length bytes) buffer bytes c.take_bytes.result last new c.requires.base (c.take_bytes.ensures.pays left e))

pub returns-in-Bytes-clause-kept : goal.returns-in-Bytes-clause-kept
returns-in-Bytes-clause-kept c =
    let n = c.feed-n.result.0 in
    let old = c.args.deframer.now in
    let buffer = c.args.buffer.now.items in
    let bytes : List ℕ = take n c.args.piece.now in
    let new = c.take_bytes.new.buffer.items in
    let fed : Feeds old c.args.piece.now n Bytes c.feed-n.new.self =
    subst (λ (e : Event). Feeds old c.args.piece.now n e c.feed-n.new.self) c.in-Bytes.is c.feed-n.ensures.feeds in
    let next = bytes-next n old c.feed-n.new.self c.args.piece.now fed in
    front-kept c.args.base buffer bytes new c.requires.base
    (pays-kept c.args.base (next.0 + length bytes) buffer bytes c.take_bytes.result c.take_bytes.new.deframer new (c.take_bytes.ensures.pays next.0 next.1))

pub returns-in-Bytes-clause-long : goal.returns-in-Bytes-clause-long
returns-in-Bytes-clause-long c =
    let n = c.feed-n.result.0 in
    let old = c.args.deframer.now in
    let buffer = c.args.buffer.now.items in
    let bytes : List ℕ = take n c.args.piece.now in
    let new = c.take_bytes.new.buffer.items in
    let fed : Feeds old c.args.piece.now n Bytes c.feed-n.new.self =
    subst (λ (e : Event). Feeds old c.args.piece.now n e c.feed-n.new.self) c.in-Bytes.is c.feed-n.ensures.feeds in
    let next = bytes-next n old c.feed-n.new.self c.args.piece.now fed in
    let joined : new ≡ buffer ++ bytes =
    pays-kept c.args.base (next.0 + length bytes) buffer bytes c.take_bytes.result c.take_bytes.new.deframer new (c.take_bytes.ensures.pays next.0 next.1) in
    omega (arith, c.requires.base, ap length joined, length-append buffer bytes)
