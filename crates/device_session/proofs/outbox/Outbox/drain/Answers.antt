use Rattle.std.proofs.Common.{◌≤◌, ◌++◌, List, ℕ, length, drop, arith, sym, ap, subst, length-append}
use Rattle.std.proofs.lemmas.List.{length-drop}
use Rattle.fb_frame.specs.Greeting.{handshake}
use Rattle.device_session.proofs.outbox.Outbox.drain.Goals as goal

pub further-self-inside-requires : goal.further-self-inside-requires
further-self-inside-requires c =
    let o = c.self.inside in
    let there : c.args.count ≤ length (drop o.greeted (handshake 1) ++ drop o.given o.replies.frames) =
    subst (λ (l : List ℕ). c.args.count ≤ length l) (sym c.self.view_is) c.requires.there in
    omega (
      arith,
      there,
      ap length c.bytes-all.ensures.frames,
      length-append (drop o.greeted (handshake 1)) (drop o.given o.replies.frames),
      length-drop o.greeted (handshake 1),
      length-drop o.given o.replies.frames,
    )
