-- What serving an opened device did to gate and disk.
use Rattle.std.proofs.Common.{◌≡◌, ◌≢◌, ◌⊎◌, inl, inr, ℕ, ◌+◌, ◌-◌, ◌<◌, ◌≤◌, Bool, true, false, List, [], ◌∷◌, ◌++◌, length, map, Option, Some, None, is_some, Result, Ok, Err, refl, sym, ap, subst, ◌∙◌, append-nil, length-append, arith}
use Rattle.std.specs.Prelude.{IsTrue, IfErr, IfSome}
use Rattle.fb_frame.specs.Causes.{Rose}
use Rattle.fb_frame.specs.Told.{Both}
use Rattle.dev_disk.specs.Calls.{Agrees, IsFileOf}
use Rattle.dev_disk.specs.Files.{Files, content, KeepsUnopened}
use Rattle.dev_disk.specs.Disks.{DiskTold, open_bytes}
use Rattle.dev_model.specs.declared.device.Dev.{Dev}
use Rattle.dev_model.specs.declared.device.Mode.{Mode}
use Rattle.dev_model.specs.declared.device.Mode.TheVariants as mode
use Rattle.dev_model.specs.Partitions.{is_fastboot}
use Rattle.dev_store.specs.Faults.{IsHonest}
use Rattle.dev_store.specs.Held.{Held, Holds, IsWhole, image_of, DiskKept}
use Rattle.dev_store.specs.Stand.{Stands}
use Rattle.device_engine.specs.declared.device.Device.{Device}
use Rattle.device_engine.specs.Running.{held_of, IsLeftFastboot, IsInOrder, IsInOrderIn, HasDevice, HasDeviceIn, Follows}
use Rattle.device_session.specs.Gates.{Connection, Connections, GateTold, GateKept, IsUsedUp, IsPort, Listens, FailsListen}
use Rattle.device_session.specs.Serving.{Serves, ServesNew, ServesGate, IsMore, AcceptsCount, EndsBy, HaltsByDisk}
use Rattle.device_session.specs.declared.serving.ServeEnd.{ServeEnd}
use Rattle.device_session.specs.declared.serving.ServeEnd.TheVariants as ends
use Rattle.device_session.proofs.LifeLemmas.{IsAgreed}
use Rattle.device_session.proofs.StillLemmas.{running, has-in}
use Rattle.device_top.specs.declared.report.ServeStop.{ServeStop}
use Rattle.device_top.specs.declared.report.ServeStop.TheVariants as stop
use Rattle.device_top.specs.Calls.{Listening}
use Rattle.device_top.specs.Serving.{Leads, IsServed}
use Rattle.device_top.specs.Working.{service, ended_of, run_status, Counts, IsServeStop, HasRun}
use Rattle.device_top.proofs.ChainLemmas.{has-mode, chain}

-- the image stands for a device that is held
holds-in : {K : Type 0} (told : K → DiskTold) (held : Held K) (m : Mode) (dev : Dev) → IsInOrderIn m told held → HasDeviceIn m told held dev → IsHonest (told held.disk).torn →
    Holds (image_of told held) dev
holds-in told held mode.Bootloader dev o h t = subst (Holds (image_of told held)) (sym h) o.sound.stands
holds-in told held mode.Userspace dev o h t = subst (Holds (image_of told held)) (sym h) o.sound.stands
holds-in told held mode.System dev o h t = subst (Holds (image_of told held)) (sym h) o.sound.stands
holds-in told held mode.Recovery dev o h t = subst (Holds (image_of told held)) (sym h) o.sound.stands
holds-in told held mode.Halted dev o h t = h.1 t

pub holds-some : (image : Option (List ℕ)) (dev : Dev) → Holds image dev → IfSome image (λ file. Stands file dev)
unfolding Holds
holds-some None dev h = tt
holds-some (Some file) dev h = h

has-stands : {K : Type 0} (told : K → DiskTold) (held : Held K) (dev : Dev) → IsInOrder told held → HasDevice told held dev → IsHonest (told held.disk).torn →
    IfSome (image_of told held) (λ file. Stands file dev)
has-stands told held dev o h t = holds-some (image_of told held) dev (holds-in told held held.device.mode dev o h t)

some-stands : (image : Option (List ℕ)) (dev : Dev) → IfSome image (λ file. Stands file dev) → IfSome image (λ file. (left : Dev) × Stands file left)
some-stands None dev h = tt
some-stands (Some file) dev h = (dev, h)

-- some device that is held
held-in : {K : Type 0} (told : K → DiskTold) (old held : Held K) (m : Mode) → held.device.mode ≡ m → IsTrue (is_fastboot old.device.mode) → HaltsByDisk told old held → (dev : Dev) × HasDevice told held dev
held-in told old held mode.Bootloader e f h = (held.device, has-in told held held.device.mode held.device (λ k. absurd (cc)) refl)
held-in told old held mode.Userspace e f h = (held.device, has-in told held held.device.mode held.device (λ k. absurd (cc)) refl)
held-in told old held mode.System e f h = (held.device, has-in told held held.device.mode held.device (λ k. absurd (cc)) refl)
held-in told old held mode.Recovery e f h = (held.device, has-in told held held.device.mode held.device (λ k. absurd (cc)) refl)
held-in told old held mode.Halted e f h = let by = h f e in (by.left, by.has)

-- a disk that tells the open file told it before
file-there : (file : Option (List ℕ)) (size : ℕ) → IsFileOf file size → is_some file ≡ true
file-there None size h = absurd h
file-there (Some bytes) size h = refl

told-back : (f g : Option Files) (p q : Option (List ℕ)) (m : Option ℕ) → Agrees f p m → q ≡ p → KeepsUnopened f g p → is_some (content g q) ≡ true → is_some (content f p) ≡ true
unfolding content
told-back None None p q m a e k s = absurd cc
told-back None (Some y) None q m a e k s = absurd cc
told-back None (Some y) (Some path) q m a e k s = absurd k
told-back (Some x) None None q m a e k s = absurd cc
told-back (Some x) (Some y) None None m a e k s = absurd cc
told-back (Some x) (Some y) None (Some path) m a e k s = absurd cc
told-back (Some x) g (Some path) q None a e k s = absurd a
told-back (Some x) g (Some path) q (Some size) a e k s = file-there (x path) size a

-- the device that connections left, and what led to it
record Picked {K : Type 0} (told : K → DiskTold) (old new : Held K) (served : List Connection) : Type 0 where
  left : Dev
  leads : IsTrue (is_some (image_of told new)) → Leads (Rose (told old.disk).faults (told new.disk).faults) old.device served left
  has : HasDevice told new left

picked : {K L : Type 0} (told : K → DiskTold) (lent : K → L) → IsAgreed told → (old new : Held K) (served : List Connection) → IsTrue (is_fastboot old.device.mode) →
    DiskKept told lent old.disk new.disk → HaltsByDisk told old new → (b : Bool) → is_some (image_of told old) ≡ b → (IsTrue b → Serves told old served new) → Picked told old new served
picked told lent agrees old new served f k h true e s =
    let c = chain told (told old.disk).faults old served new (omega arith) f (s refl) in
    record { left = c.left; leads = λ t. c.leads; has = c.has }
picked told lent agrees old new served f k h false e s =
    let some = held-in told old new new.device.mode refl f h in
    record {
      left = some.0;
      leads = λ t.
          let was = told-back (told old.disk).files (told new.disk).files (told old.disk).open_path (told new.disk).open_path (told old.disk).open_length (agrees old.disk) k.kept.path k.kept.others t in
          absurd cc;
      has = some.1;
    }

-- why serving ended
abbrev Over : Mode → ℕ → Option Connections → Type 0
Over m left now = IsLeftFastboot m ⊎ (left ≡ 0) ⊎ IsUsedUp now

over-by : (end : ServeEnd) (m : Mode) (left count : ℕ) (a b : GateTold) → EndsBy end m left a b → run_status (ended_of end count) ≡ 0 → Over m left b.connections
over-by end mode.Halted left count a b h z = let status : run_status (ended_of end count) ≡ 3 = ap (λ e. run_status (ended_of e count)) h in absurd cc
over-by end mode.System left count a b h z = inl (inl refl)
over-by end mode.Recovery left count a b h z = inl (inr refl)
over-by ends.Left mode.Bootloader left count a b h z = absurd h
over-by ends.Left mode.Userspace left count a b h z = absurd h
over-by ends.Limit mode.Bootloader left count a b h z = inr (inl h)
over-by ends.Limit mode.Userspace left count a b h z = inr (inl h)
over-by ends.NoMore mode.Bootloader left count a b h z = inr (inr h.1)
over-by ends.NoMore mode.Userspace left count a b h z = inr (inr h.1)
over-by ends.Gate mode.Bootloader left count a b h z = absurd cc
over-by ends.Gate mode.Userspace left count a b h z = absurd cc
over-by ends.Halted mode.Bootloader left count a b h z = absurd h
over-by ends.Halted mode.Userspace left count a b h z = absurd h

halted-status : (end : ServeEnd) (m : Mode) (left count : ℕ) (a b : GateTold) → EndsBy end m left a b → m ≡ mode.Halted → run_status (ended_of end count) ≡ 3
halted-status end mode.Halted left count a b h e = ap (λ x. run_status (ended_of x count)) h
halted-status end mode.System left count a b h e = absurd cc
halted-status end mode.Recovery left count a b h e = absurd cc
halted-status end mode.Bootloader left count a b h e = absurd cc
halted-status end mode.Userspace left count a b h e = absurd cc

halted-mode : (m : Mode) (left : ℕ) (a b : GateTold) → EndsBy ends.Halted m left a b → m ≡ mode.Halted
halted-mode mode.Halted left a b h = refl
halted-mode mode.System left a b h = absurd cc
halted-mode mode.Recovery left a b h = absurd cc
halted-mode mode.Bootloader left a b h = absurd h
halted-mode mode.Userspace left a b h = absurd h

status-mode : (end : ServeEnd) (m : Mode) (left count : ℕ) (a b : GateTold) → EndsBy end m left a b → run_status (ended_of end count) ≡ 3 → m ≡ mode.Halted
status-mode ends.Left m left count a b h e = absurd cc
status-mode ends.Limit m left count a b h e = absurd cc
status-mode ends.NoMore m left count a b h e = absurd cc
status-mode ends.Gate m left count a b h e = absurd cc
status-mode ends.Halted m left count a b h e = halted-mode m left a b h

gate-rose : (m : Mode) (left : ℕ) (a b : GateTold) → EndsBy ends.Gate m left a b → Rose a.unaccepted b.unaccepted
gate-rose mode.Halted left a b h = absurd cc
gate-rose mode.System left a b h = absurd cc
gate-rose mode.Recovery left a b h = absurd cc
gate-rose mode.Bootloader left a b h = h.1
gate-rose mode.Userspace left a b h = h.1

stops-by : (end : ServeEnd) (m : Mode) (left count : ℕ) (a b : GateTold) (disk : Type 0) → EndsBy end m left a b → (m ≡ mode.Halted → disk) →
    IfErr (ended_of end count) (IsServeStop (Rose a.unaccepted b.unaccepted) disk)
stops-by ends.Left m left count a b disk h d = tt
stops-by ends.Limit m left count a b disk h d = tt
stops-by ends.NoMore m left count a b disk h d = tt
stops-by ends.Gate m left count a b disk h d = gate-rose m left a b h
stops-by ends.Halted m left count a b disk h d = d (halted-mode m left a b h)

counts-by : (end : ServeEnd) (count : ℕ) (a b : GateTold) → AcceptsCount count a b → Counts (ended_of end count) a b
counts-by ends.Left count a b h = h
counts-by ends.Limit count a b h = h
counts-by ends.NoMore count a b h = h
counts-by ends.Gate count a b h = (count, h)
counts-by ends.Halted count a b h = (count, h)

-- how many connections were served
count-is : (a b : Connections) (served : List Connection) (count : ℕ) → b.accepted ≡ a.accepted ++ served → IsMore count a b → length served ≡ count
count-is a b served count e m = omega (arith, m, ap length e, length-append a.accepted served)

over-told : (m n : Mode) (count most len : ℕ) (b : Connections) → n ≡ m → count ≤ most → len ≡ count → Over m (most - count) (Some b) →
    IsLeftFastboot n ⊎ (len ≡ most) ⊎ (b.coming ≡ [])
over-told m n count most len b e c l (inl o) = inl (subst IsLeftFastboot (sym e) o)
over-told m n count most len b e c l (inr (inl o)) = inr (inl (omega (arith, c, l, o)))
over-told m n count most len b e c l (inr (inr o)) = inr (inr o)

module _ {K L : Type 0} (told : K → DiskTold) (lent : K → L) (agrees : IsAgreed told) (old : Held K) (next : Device K) (most count : ℕ) (end : ServeEnd) (m b : GateTold)
    (fastboot : IsTrue (is_fastboot old.device.mode)) (few : count ≤ most) (ends : EndsBy end (held_of next).device.mode (most - count) m b)
    (follows : Follows told lent old next) (halts : HaltsByDisk told old (held_of next)) where
  abbrev new : Held K
  new = held_of next

  abbrev Goal : Connections → Connections → Type 0
  Goal x y = IsServed (record { dev = old.device; most = most; status = run_status (ended_of end count); image = image_of told new })
      (Rose (told old.disk).faults (told new.disk).faults) (IsHonest (told new.disk).torn) x y

  served-told : (x y : Connections) → (run_status (ended_of end count) ≡ 0 → Over new.device.mode (most - count) (Some y)) → ServesNew told old new x y → IsMore count x y → Goal x y
  served-told x y over s n =
      let p = picked told lent agrees old new s.served fastboot follows.kept halts (is_some (image_of told old)) refl s.serves in
      let is = has-mode told new p.left p.has in
      let long = count-is x y s.served count s.accepted n in
      record {
        served = s.served;
        left = p.left;
        accepted_now = s.accepted;
        coming = s.coming;
        few = omega (arith, long, few);
        leads = p.leads;
        stands = has-stands told new p.left follows.in_order p.has;
        done = λ z. over-told new.device.mode p.left.mode count most (length s.served) y is few long (over z);
        halted = λ h. inl (halted-status end new.device.mode (most - count) count m b ends (sym is ∙ h));
        faulted = λ z. inl (is ∙ status-mode end new.device.mode (most - count) count m b ends z);
      }

  served-both : (x y : Option Connections) → (run_status (ended_of end count) ≡ 0 → Over new.device.mode (most - count) y) → Both (ServesNew told old new) x y → Both (IsMore count) x y → Both Goal x y
  served-both (Some x) (Some y) over s n = served-told x y over s n
  served-both (Some x) None over s n = absurd s
  served-both None (Some y) over s n = absurd s
  served-both None None over s n = tt

  -- a serving of a device at a gate that listens
  pub has-run : (path : List ℕ) (port : ℕ) (a : GateTold) → Listens a m port → ServesGate told old new m b → AcceptsCount count m b → GateKept m b →
      HasRun old.device (service path port most (ended_of end count)) (told old.disk) (told new.disk) (a, b)
  has-run path port a l s n k =
      let first : a.connections ≡ m.connections = sym l.connections in
      let all = served-both m.connections b.connections (over-by end new.device.mode (most - count) count m b ends) s n in
      let some = held-in told old new new.device.mode refl fastboot halts in
      record {
        serves = subst (λ x. Both Goal x b.connections) (sym first) all;
        stands = λ t. some-stands (image_of told new) some.0 (has-stands told new some.0 follows.in_order some.1 t);
        counted = counts-by end count a b (subst (λ x. Both (IsMore count) x b.connections) (sym first) n);
        kept = record {
          later = omega (arith, l.later, k.later);
          no_fewer = omega (arith, l.calm, k.no_fewer);
          at_port = inl (k.listening ∙ l.listening, subst (λ p. IsPort p port) (sym k.port) l.at_port);
        };
        stops = subst (λ n. IfErr (ended_of end count) (IsServeStop (Rose n b.unaccepted) (Rose (told old.disk).faults (told new.disk).faults))) l.calm
            (stops-by end new.device.mode (most - count) count m b (Rose (told old.disk).faults (told new.disk).faults) ends (λ h. (halts fastboot h).rose));
      }

none-served : (dev : Dev) (most : ℕ) (image : Option (List ℕ)) (broke honest : Type 0) (x y : Option Connections) → y ≡ x → IsTrue (is_fastboot dev.mode) → IfSome image (λ file. Stands file dev) →
    Both (IsServed (record { dev = dev; most = most; status = 6; image = image }) broke honest) x y
none-served dev most image broke honest None None e f h = tt
none-served dev most image broke honest None (Some y) e f h = absurd cc
none-served dev most image broke honest (Some x) None e f h = absurd cc
none-served dev most image broke honest (Some x) (Some y) e f h =
    let same : y ≡ x = cc in
    record {
      served = [];
      left = dev;
      accepted_now = ap (λ (c : Connections). c.accepted) same ∙ sym (append-nil x.accepted);
      coming = ap (λ (c : Connections). c.coming) (sym same);
      few = omega arith;
      leads = λ t. refl;
      stands = λ t. h;
      done = λ z. absurd cc;
      halted = λ z. absurd (running dev.mode f z);
      faulted = λ z. absurd cc;
    }

none-more : (x y : Option Connections) → y ≡ x → Both (IsMore 0) x y
none-more None None e = tt
none-more None (Some y) e = absurd cc
none-more (Some x) None e = absurd cc
none-more (Some x) (Some y) e = let same : y ≡ x = cc in omega (arith, ap (λ (c : Connections). length c.accepted) same)

-- a gate that doesn't listen
pub deaf-run : {K : Type 0} (told : K → DiskTold) (held : Held K) (path : List ℕ) (port most : ℕ) (a b : GateTold) → IsWhole told held → IsTrue (is_fastboot held.device.mode) → FailsListen a b port →
    HasRun held.device (service path port most (Err stop.Gate)) (told held.disk) (told held.disk) (a, b)
deaf-run told held path port most a b w f l =
    let stands = holds-some (image_of told held) held.device w.sound.stands in
    record {
      serves = none-served held.device most (image_of told held) _ _ a.connections b.connections l.connections f stands;
      stands = λ t. some-stands (image_of told held) held.device stands;
      counted = (0, none-more a.connections b.connections l.connections);
      kept = record {
        later = l.later;
        no_fewer = l.no_fewer;
        at_port = inr ((λ z. absurd cc), l.connections);
      };
      stops = l.more;
    }
