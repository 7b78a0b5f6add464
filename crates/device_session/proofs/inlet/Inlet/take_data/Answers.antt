use Rattle.std.proofs.Common.{◌≡◌, ◌+◌, ◌-◌, Bool, true, false, nat_eq, length, take, drop, Some, arith, refl, sym, ap, subst, ◌∙◌}
use Rattle.std.specs.Prelude.{if◌then◌else◌}
use Rattle.std.proofs.lemmas.Bool.Decides.{nat_tests}
use Rattle.std.proofs.lemmas.List.{take_all, length-take-le}
use Rattle.fb_frame.specs.Gathered.{half}
use Rattle.wire_model.specs.Wire as wire
use Rattle.device_session.specs.declared.framer.Heard.{Heard}
use Rattle.device_session.specs.declared.framer.Heard.TheVariants.{Whole}
use Rattle.device_session.specs.declared.inlet.Awaits.{Awaits}
use Rattle.device_session.specs.Framer.{FramesOn, framing}
use Rattle.device_session.specs.Inlets.{phase_of, loaded_of, rest_of}
use Rattle.device_session.specs.InletKept.{StandsBy, IsLoading}
use Rattle.device_session.proofs.InletLemmas.{filled-frame}
use Rattle.device_session.proofs.inlet.Inlet.take_data.Goals as goal

pub returns-then-whole-clause-comes : goal.returns-then-whole-clause-comes
returns-then-whole-clause-comes c =
    let s = c.self.inside in
    let n = c.take_frame-n.result.0 in
    let count = c.in-Data.count in
    let now = c.take_frame-n.new.buffer.items in
    let next = c.take_frame-n.new.deframer in
    let whole : nat_eq c.len-self-inside.result count ≡ true = grind (arith, nat_tests) in
    let size : c.len-self-inside.result ≡ length now = omega arith in
    let loading : IsLoading s count = subst (λ (a : Awaits). StandsBy a s) c.in-Data.is c.self.invariant.stands in
    let frames : FramesOn (count - s.got) (framing s.deframer s.got s.download.items) (take n c.args.piece.now) Whole (framing next s.got now) =
    subst (λ (h : Heard). FramesOn (count - s.got) (framing s.deframer s.got s.download.items) (take n c.args.piece.now) h (framing next s.got now))
    c.in-Whole.is c.take_frame-n.ensures.frames in
    let taken : length (take n c.args.piece.now) ≡ n = length-take-le n c.args.piece.now c.take_frame-n.ensures.within in
    rw (← c.self.view_is) (record {
      by = filled-frame _ _ (take n c.args.piece.now) s.download.items now count s.got s.deframer next _ loading.came
          (ap (λ (a : Awaits). phase_of a (take s.got s.download.items)) c.in-Data.is)
          (ap (λ (a : Awaits). rest_of a s.deframer s.command.items (drop s.got s.download.items)) c.in-Data.is)
          frames c.take_frame-n.ensures.kept
          (record {
            all = ap (λ k. nat_eq k count) size;
            rest = ap (λ f. half f s.command.items) frames.1;
            phase = subst (λ (b : Bool). wire.Command ≡ (if b then wire.Command else wire.Data count now)) (sym whole) refl;
            loaded = subst (λ (b : Bool). Some now ≡ (if b then Some now else loaded_of s.loaded s.download.items)) (sym whole) refl;
          });
      taken = ap (λ k. s.taken + k) (sym taken);
      room = refl;
    })

pub returns-else-whole-clause-comes : goal.returns-else-whole-clause-comes
returns-else-whole-clause-comes c =
    let s = c.self.inside in
    let n = c.take_frame-n.result.0 in
    let count = c.in-Data.count in
    let now = c.take_frame-n.new.buffer.items in
    let next = c.take_frame-n.new.deframer in
    let len = c.len-self-inside.result in
    let whole : nat_eq len count ≡ false = grind (arith, nat_tests) in
    let size : len ≡ length now = omega arith in
    let all : take len now ≡ now = take_all len now (omega (arith, size)) in
    let loading : IsLoading s count = subst (λ (a : Awaits). StandsBy a s) c.in-Data.is c.self.invariant.stands in
    let frames : FramesOn (count - s.got) (framing s.deframer s.got s.download.items) (take n c.args.piece.now) Whole (framing next s.got now) =
    subst (λ (h : Heard). FramesOn (count - s.got) (framing s.deframer s.got s.download.items) (take n c.args.piece.now) h (framing next s.got now))
    c.in-Whole.is c.take_frame-n.ensures.frames in
    let taken : length (take n c.args.piece.now) ≡ n = length-take-le n c.args.piece.now c.take_frame-n.ensures.within in
    let none : loaded_of s.loaded now ≡ loaded_of s.loaded s.download.items =
    ap (λ b. loaded_of b now) loading.unloaded ∙ sym (ap (λ b. loaded_of b s.download.items) loading.unloaded) in
    rw (← c.self.view_is) (record {
      by = filled-frame _ _ (take n c.args.piece.now) s.download.items now count s.got s.deframer next _ loading.came
          (ap (λ (a : Awaits). phase_of a (take s.got s.download.items)) c.in-Data.is)
          (ap (λ (a : Awaits). rest_of a s.deframer s.command.items (drop s.got s.download.items)) c.in-Data.is)
          frames c.take_frame-n.ensures.kept
          (record {
            all = ap (λ k. nat_eq k count) size;
            rest = ap (λ (a : Awaits). rest_of a next s.command.items (drop len now)) c.in-Data.is ∙ ap (λ f. half f (drop len now)) frames.1;
            phase = ap (λ (a : Awaits). phase_of a (take len now)) c.in-Data.is ∙ (ap (λ l. wire.Data count l) all
                ∙ subst (λ (b : Bool). wire.Data count now ≡ (if b then wire.Command else wire.Data count now)) (sym whole) refl);
            loaded = none ∙ subst (λ (b : Bool). loaded_of s.loaded s.download.items ≡ (if b then Some now else loaded_of s.loaded s.download.items)) (sym whole) refl;
          });
      taken = ap (λ k. s.taken + k) (sym taken);
      room = refl;
    })
