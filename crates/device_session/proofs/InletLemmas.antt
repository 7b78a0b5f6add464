-- What a frame of data makes of a connection.
use Rattle.std.proofs.Common.{◌≡◌, ℕ, ◌-◌, ◌≤◌, Bool, List, ◌++◌, length, take, drop, sym, ap, subst, ◌∙◌}
use Rattle.std.proofs.lemmas.List.{take-append-drop, length-take-le}
use Rattle.fb_frame.specs.Stages.{Stage}
use Rattle.fb_frame.specs.Gathered.{half}
use Rattle.wire_model.specs.Wire as wire
use Rattle.wire_model.specs.Wire.{first_frame, front}
use Rattle.device_session.specs.declared.framer.Heard.TheVariants.{Whole}
use Rattle.device_session.specs.Framer.{FramesOn, framing}
use Rattle.device_session.specs.Inlets.{Inflow, IsReceived, IsFilled}

-- A frame of data came whole.
pub filled-frame : (old new : Inflow) (bytes download now : List ℕ) (count got : ℕ) (stage next : Stage) (whole : Bool) → got ≤ length download →
    old.phase ≡ wire.Data count (take got download) → old.rest ≡ half stage (drop got download) →
    FramesOn (count - got) (framing stage got download) bytes Whole (framing next got now) → take got now ≡ take got download →
    IsReceived count now old new whole → IsFilled old new bytes whole
filled-frame old new bytes download now count got stage next whole h phase rest frames kept received =
    let part : List ℕ = drop got download in
    let joined : now ≡ take got download ++ drop got now =
    sym (take-append-drop got now) ∙ ap (λ l. l ++ drop got now) kept in
    record {
      count = count;
      got = take got download;
      payload = drop got now;
      awaited = phase;
      item = ap (λ ph. front ph (old.rest ++ bytes)) phase
          ∙ (ap (λ r. first_frame (count - length (take got download)) (r ++ bytes)) rest
          ∙ (ap (λ n. first_frame (count - n) (half stage part ++ bytes)) (length-take-le got download h) ∙ frames.0));
      received = subst (λ (l : List ℕ). IsReceived count l old new whole) joined received;
    }
