-- Calls on a session, however its bytes are cut and its outbox is drained.
use Rattle.std.proofs.Common.{◌≡◌, ◌≢◌, inl, inr, ℕ, ◌≤◌, true, List, [], ◌∷◌, ◌++◌, Option, Some, None, is_some, refl, sym, ap, subst, ◌∙◌, append_assoc, append-nil, arith}
use Rattle.std.specs.Prelude.{IsFalse, IsTrue}
use Rattle.fb_frame.specs.Causes.{Rose}
use Rattle.dev_disk.specs.Calls.{Agrees, IsFileOf}
use Rattle.dev_disk.specs.Disks.{DiskTold, open_bytes, OpenKept}
use Rattle.dev_disk.specs.Files.{Files, content, KeepsUnopened}
use Rattle.dev_model.specs.declared.device.Dev.{Dev}
use Rattle.dev_model.specs.declared.device.Mode.{Mode}
use Rattle.dev_model.specs.declared.device.Mode.TheVariants as mode
use Rattle.dev_model.specs.Partitions.{is_fastboot}
use Rattle.dev_store.specs.Held.{Held, image_of, seen}
use Rattle.device_engine.specs.Running.{HasDevice, HasDeviceIn, StaysLocked}
use Rattle.wire_model.specs.Wire.{Wire, fresh}
use Rattle.wire_model.specs.Laws.{OnlyModeChanges}
use Rattle.wire_model.proofs.Locked.{twice, still-locked}
use Rattle.wire_told.specs.Told.{GoesBy}
use Rattle.wire_told.proofs.Going.{goes-append, goes-nothing, goes-weaker}
use Rattle.device_session.specs.Calls.{Call, Feed, Drain, fed, drained}
use Rattle.device_session.specs.Living.{Live, wire_of, IsAt}
use Rattle.device_session.specs.Lives.{TakesSome, Drains, Lives, IsBegun, IsTold, IsAlong, OneSession, LockedSession}
use Rattle.device_session.proofs.CallLemmas.{ahead, goes-ahead, fresh-settled}
use Rattle.device_session.proofs.StillLemmas as still
use Rattle.device_session.proofs.StillLemmas.{running, has-in, seen-held}

rose-later : (before now later : ℕ) → now ≤ later → Rose before now → Rose before later
rose-later before now later h r = omega (arith, h, r)

rose-earlier : (first before now : ℕ) → first ≤ before → Rose before now → Rose first now
rose-earlier first before now h r = grind (arith, h, r)

-- the device that is held of one that didn't halt
has-back : {K : Type 0} (told : K → DiskTold) (held : Held K) (m : Mode) (dev : Dev) → m ≢ mode.Halted → HasDeviceIn m told held dev → dev ≡ held.device
has-back told held mode.Bootloader dev n h = h
has-back told held mode.Userspace dev n h = h
has-back told held mode.System dev n h = h
has-back told held mode.Recovery dev n h = h
has-back told held mode.Halted dev n h = absurd (n refl)

seen-told : (file : Option (List ℕ)) (dev : Dev) → IsTrue (is_some file) → seen file dev ≡ dev
unfolding seen
seen-told None dev e = absurd cc
seen-told (Some file) dev e = refl

-- what a disk tells of its open file agrees with its files
abbrev pub IsAgreed : {K : Type 0} → (K → DiskTold) → Type 0
IsAgreed told = (k : _) → Agrees (told k).files (told k).open_path (told k).open_length

file-there : (file : Option (List ℕ)) (size : ℕ) → IsFileOf file size → is_some file ≡ true
file-there None size h = absurd h
file-there (Some bytes) size h = refl

told-on : (f g : Option Files) (p q : Option (List ℕ)) (m n : Option ℕ) → Agrees f p m → Agrees g q n → q ≡ p → n ≡ m → KeepsUnopened f g p → is_some (content f p) ≡ true →
    is_some (content g q) ≡ true
unfolding content
told-on None g p q m n a b e h k s = absurd cc
told-on (Some x) g None q m n a b e h k s = absurd cc
told-on (Some x) g (Some path) q None n a b e h k s = absurd a
told-on (Some x) None (Some path) q (Some size) n a b e h k s = absurd k
told-on (Some x) (Some y) (Some path) q (Some size) n a b e h k s =
    let c : Agrees (Some y) (Some path) (Some size) = subst (λ (o : Option (List ℕ)). Agrees (Some y) o (Some size)) e (subst (λ (o : Option ℕ). Agrees (Some y) q o) h b) in
    ap (λ (o : Option (List ℕ)). is_some (content (Some y) o)) e ∙ file-there (y path) size c

-- A disk that tells the bytes of its open file tells them after a call too.
pub told-kept : {K : Type 0} (told : K → DiskTold) → IsAgreed told → (old new : K) → OpenKept (told old) (told new) → IsTrue (is_some (open_bytes (told old))) →
    IsTrue (is_some (open_bytes (told new)))
told-kept told agrees old new k s =
    told-on (told old).files (told new).files (told old).open_path (told new).open_path (told old).open_length (told new).open_length
    (agrees old) (agrees new) k.path k.length k.others s

-- an open session is where its wire state is
same-state : {K : Type 0} (told : K → DiskTold) (live : Live K) (w : Wire) → IsTold told live → IsTrue (is_fastboot live.held.device.mode) → IsAt told live w → w ≡ wire_of live
same-state told live w t f at =
    let device : w.device ≡ live.held.device =
    sym (seen-told (image_of told live.held) w.device t) ∙ has-back told live.held live.held.device.mode (seen (image_of told live.held) w.device) (running live.held.device.mode f) at.device in
    ap (λ (d : Dev). record w { device = d }) device ∙ sym at.same

-- the end of the calls
pub record Ends {K : Type 0} (told : K → DiskTold) (from : ℕ) (begin : Wire) (live : Live K) (bytes out : List ℕ) : Type 0 where
  pub state : Wire
  pub at : IsAt told live state
  pub goes : GoesBy (Rose from (told live.held.disk).faults) begin bytes (ahead out state)

pub fed-along : {K L : Type 0} (told : K → DiskTold) (lent : K → L) (agrees : IsAgreed told) (from : ℕ) (begin w : Wire) (old new : Live K) (x out bytes : List ℕ) →
    IsAlong told from begin old w x out → (t : TakesSome told lent old bytes new) → IsAlong told from begin new t.feeds.state (x ++ bytes) out
fed-along told lent agrees from begin w old new x out bytes a t =
    let before = (told old.held.disk).faults in
    let now = (told new.held.disk).faults in
    let later : before ≤ now = t.kept.kept.kept.later in
    let here : w ≡ wire_of old = same-state told old w a.has (a.runs t.feeds.running) a.at in
    let led : GoesBy (Rose before now) w bytes t.feeds.state = subst (λ (u : Wire). GoesBy (Rose before now) u bytes t.feeds.state) (sym here) t.feeds.goes in
    record {
      has = told-kept told agrees old.held.disk new.held.disk t.kept.kept.kept a.has;
      at = t.feeds.comes;
      runs = t.kept.alive.runs;
      later = omega (arith, a.later, later);
      goes = goes-append (Rose from now) begin (ahead out w) (ahead out t.feeds.state) x bytes
          (goes-weaker (Rose from before) (Rose from now) (rose-later from before now later) begin (ahead out w) x a.goes)
          (goes-ahead (Rose from now) out w t.feeds.state bytes
          (goes-weaker (Rose before now) (Rose from now) (rose-earlier from before now a.later) w t.feeds.state bytes led));
    }

pub drained-along : {K : Type 0} (told : K → DiskTold) (from : ℕ) (begin w : Wire) (old new : Live K) (x out bytes : List ℕ) → Drains old bytes new →
    IsAlong told from begin old w x out → IsAlong told from begin new (record w { out = new.out }) x (out ++ bytes)
drained-along told from begin w old new x out bytes d a =
    let held : new.held ≡ old.held = ap (λ (l : Live _). l.held) (sym d) in
    let there : w.out ≡ bytes ++ new.out = ap (λ (u : Wire). u.out) (sym a.at.same) ∙ ap (λ (l : Live _). l.out) d in
    let joined : ahead out w ≡ ahead (out ++ bytes) (record w { out = new.out }) =
    ap (λ (l : List ℕ). record w { out = out ++ l }) there ∙ ap (λ (l : List ℕ). record w { out = l }) (sym (append_assoc out bytes new.out)) in
    record {
      has = subst (λ (h : Held _). IsTrue (is_some (image_of told h))) (sym held) a.has;
      at = record {
        same = ap (λ (l : Live _). record (wire_of l) { out = new.out }) (sym d)
            ∙ (ap (λ (u : Wire). record u { out = new.out }) a.at.same ∙ ap (λ (h : Held _). record w { device = h.device; out = new.out }) (sym held));
        device = subst (λ h. HasDevice told h (seen (image_of told h) w.device)) (sym held) a.at.device;
      };
      runs = λ e. ap (λ (h : Held _). is_fastboot h.device.mode) held ∙ a.runs (ap (λ (l : Live _). l.closed) d ∙ e);
      later = subst (λ h. from ≤ (told h.disk).faults) (sym held) a.later;
      goes = subst (λ h. GoesBy (Rose from (told h.disk).faults) begin x (ahead (out ++ bytes) (record w { out = new.out }))) (sym held)
          (subst (λ (u : Wire). GoesBy (Rose from (told old.held.disk).faults) begin x u) joined a.goes);
    }

lives-along : {K L : Type 0} (told : K → DiskTold) (lent : K → L) (agrees : IsAgreed told) (from : ℕ) (begin w : Wire) (old new : Live K) (x out : List ℕ) (calls : List Call) →
    IsAlong told from begin old w x out → Lives told lent old calls new → Ends told from begin new (x ++ fed calls) (out ++ drained calls)
lives-along told lent agrees from begin w old new x out [] a e =
    subst (λ (l : Live _). Ends told from begin l (x ++ []) (out ++ [])) (sym e)
    (subst (λ (b : List ℕ). Ends told from begin old b (out ++ [])) (sym (append-nil x))
    (subst (λ (b : List ℕ). Ends told from begin old x b) (sym (append-nil out)) (record { state = w; at = a.at; goes = a.goes })))
lives-along told lent agrees from begin w old new x out (Drain bytes ∷ calls) a (mid, d, more) =
    subst (λ (b : List ℕ). Ends told from begin new (x ++ fed calls) b) (append_assoc out bytes (drained calls))
    (lives-along told lent agrees from begin (record w { out = mid.out }) mid new x (out ++ bytes) calls (drained-along told from begin w old mid x out bytes d a) more)
lives-along told lent agrees from begin w old new x out (Feed bytes ∷ calls) a (mid, inl (none, same), more) =
    subst (λ (b : List ℕ). Ends told from begin new (x ++ (b ++ fed calls)) (out ++ drained calls)) (sym none)
    (lives-along told lent agrees from begin w mid new x out calls (subst (λ (l : Live _). IsAlong told from begin l w x out) (sym same) a) more)
lives-along told lent agrees from begin w old new x out (Feed bytes ∷ calls) a (mid, inr t, more) =
    subst (λ (b : List ℕ). Ends told from begin new b (out ++ drained calls)) (append_assoc x bytes (fed calls))
    (lives-along told lent agrees from begin t.feeds.state mid new (x ++ bytes) out calls (fed-along told lent agrees from begin w old mid x out bytes a t) more)

pub begun-along : {K : Type 0} (told : K → DiskTold) (live : Live K) (dev : Dev) → IsBegun told live dev → IsTold told live → IsAlong told (told live.held.disk).faults (fresh dev) live (fresh dev) [] []
begun-along told live dev b has =
    let from = (told live.held.disk).faults in
    let device : live.held.device ≡ dev = ap (λ (u : Wire). u.device) b.state in
    let runs : IsTrue (is_fastboot live.held.device.mode) = ap (λ (d : Dev). is_fastboot d.mode) device ∙ b.runs in
    record {
      has = has;
      at = record {
        same = b.state ∙ ap fresh (sym device);
        device = subst (λ (d : Dev). HasDevice told live.held (seen (image_of told live.held) d)) device
            (has-in told live.held live.held.device.mode _ (running live.held.device.mode runs) (seen-held (image_of told live.held) live.held.device b.whole.sound.stands));
      };
      runs = λ e. runs;
      later = omega arith;
      goes = goes-nothing (Rose from from) (fresh dev) (fresh-settled dev);
    }

pub one_session : {K L : Type 0} (told : K → DiskTold) (lent : K → L) → IsAgreed told → OneSession told lent
one_session told lent agrees dev calls old new b has l =
    let e = lives-along told lent agrees (told old.held.disk).faults (fresh dev) (fresh dev) old new [] [] calls (begun-along told old dev b has) l in
    (e.state, e.at, e.goes)

-- how far a locked device came
pub record IsLockedAlong {K : Type 0} (told : K → DiskTold) (begin : Held K) (live : Live K) : Type 0 where
  pub stays : StaysLocked told begin live.held
  pub runs : IsFalse live.closed → IsTrue (is_fastboot live.held.device.mode)

locked-on : {K L : Type 0} (told : K → DiskTold) (lent : K → L) (begin : Held K) (old new : Live K) (bytes : List ℕ) → IsLockedAlong told begin old → TakesSome told lent old bytes new →
    IsLockedAlong told begin new
locked-on told lent begin old new bytes a t = record {
  stays = λ locked.
      let s = a.stays locked in
      let same : s.0 ≡ old.held.device = has-back told old.held old.held.device.mode s.0 (running old.held.device.mode (a.runs t.feeds.running)) s.1 in
      let first : OnlyModeChanges begin.device old.held.device = subst (λ (d : Dev). OnlyModeChanges begin.device d) same s.2 in
      let next = t.locked (still-locked begin.device old.held.device locked first) in
      (next.0, next.1, twice begin.device old.held.device next.0 first next.2);
  runs = t.kept.alive.runs;
}

locked-drained : {K : Type 0} (told : K → DiskTold) (begin : Held K) (old new : Live K) (bytes : List ℕ) → Drains old bytes new → IsLockedAlong told begin old → IsLockedAlong told begin new
locked-drained told begin old new bytes d a =
    let held : old.held ≡ new.held = ap (λ (l : Live _). l.held) d in
    record {
      stays = subst (λ h. StaysLocked told begin h) held a.stays;
      runs = λ e. ap (λ (h : Held _). is_fastboot h.device.mode) (sym held) ∙ a.runs (ap (λ (l : Live _). l.closed) d ∙ e);
    }

locked-along : {K L : Type 0} (told : K → DiskTold) (lent : K → L) (begin : Held K) (old new : Live K) (calls : List Call) → IsLockedAlong told begin old →
    Lives told lent old calls new → StaysLocked told begin new.held
locked-along told lent begin old new [] a e = subst (λ (l : Live _). StaysLocked told begin l.held) (sym e) a.stays
locked-along told lent begin old new (Drain bytes ∷ calls) a (mid, d, more) = locked-along told lent begin mid new calls (locked-drained told begin old mid bytes d a) more
locked-along told lent begin old new (Feed bytes ∷ calls) a (mid, inl (none, same), more) = locked-along told lent begin mid new calls (subst (λ (l : Live _). IsLockedAlong told begin l) (sym same) a) more
locked-along told lent begin old new (Feed bytes ∷ calls) a (mid, inr t, more) = locked-along told lent begin mid new calls (locked-on told lent begin old mid bytes a t) more

pub locked_session : {K L : Type 0} (told : K → DiskTold) (lent : K → L) → LockedSession told lent
locked_session told lent dev calls old new b l =
    let device : old.held.device ≡ dev = ap (λ (u : Wire). u.device) b.state in
    let runs : IsTrue (is_fastboot old.held.device.mode) = ap (λ (d : Dev). is_fastboot d.mode) device ∙ b.runs in
    locked-along told lent old.held old new calls (record { stays = still.still-locked told old.held runs; runs = λ e. runs }) l
