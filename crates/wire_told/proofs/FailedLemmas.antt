-- A command in which a disk call failed, and its reply.
use Rattle.std.proofs.Common.{◌≡◌, ℕ, ◌+◌, ◌≤◌, true, List, [], ◌++◌, length, sym, ap, ◌∙◌, subst, arith}
use Rattle.fb_frame.specs.Framing.{frame}
use Rattle.fb_message.specs.CommandText.{command_of}
use Rattle.dev_model.specs.declared.device.Dev.{Dev}
use Rattle.wire_model.specs.Wire.{Wire}
use Rattle.wire_model.specs.Halts.{Halts, faulted}
use Rattle.wire_told.specs.Told.{IsIdle, disk_fault}
use Rattle.wire_told.specs.Told.{IsFailed}
use Rattle.wire_told.proofs.OneFrames.{IsBroken}
use Rattle.wire_told.proofs.AnswerLemmas.{broken-out, frame-front}

pub failed-now : (spare : ℕ) (p answer : List ℕ) (w v u : Wire) → IsIdle spare w → length answer ≤ 256 → IsBroken p (length (frame p)) w v → v ≡ record u { out = frame answer ++ u.out } → IsFailed p answer w u
failed-now spare p answer w v u i h b f =
    let o : frame answer ++ u.out ≡ frame disk_fault ++ [] = sym (ap (λ (x : Wire). x.out) f) ∙ broken-out p (length (frame p)) w v i.quiet b in
    let s = frame-front answer disk_fault u.out [] (omega (arith, h)) (omega arith) o in
    let e : record u { out = frame answer ++ u.out } ≡ record (faulted b.device w) { taken = w.taken + length (frame p) } = sym f ∙ b.state in
    let d : b.device ≡ u.device = sym (ap (λ (x : Wire). x.device) e) in
    let l : u.loaded ≡ w.loaded = ap (λ (x : Wire). x.loaded) e in
    let ph : u.phase ≡ w.phase = ap (λ (x : Wire). x.phase) e in
    let r : u.rest ≡ [] = ap (λ (x : Wire). x.rest) e in
    let t : u.taken ≡ w.taken + length (frame p) = ap (λ (x : Wire). x.taken) e in
    let c : u.closed ≡ true = ap (λ (x : Wire). x.closed) e in
    let q : u.out ≡ w.out = s.1 ∙ sym i.quiet in
    record {
      told = s.0;
      halts = subst (λ (x : Dev). Halts w.device w.loaded (command_of p) x) d b.halts;
      state = λ j. record { device = u.device; loaded = l j; phase = ph j; rest = r j; taken = t j; out = q j; closed = c j };
    }
