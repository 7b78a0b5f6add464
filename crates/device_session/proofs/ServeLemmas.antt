-- Connections that are served one after another.
use Rattle.std.proofs.Common.{◌≡◌, ℕ, ◌+◌, ◌≤◌, ◌<◌, List, [], ◌∷◌, ◌++◌, length, map, Option, Some, None, is_some, refl, sym, ap, subst, ◌∙◌, append_assoc, append-nil, length-append, arith}
use Rattle.std.specs.Prelude.{IsTrue}
use Rattle.fb_frame.specs.Told.{Both}
use Rattle.fb_frame.specs.Causes.{Rose}
use Rattle.dev_disk.specs.Disks.{DiskTold}
use Rattle.dev_model.specs.Partitions.{is_fastboot}
use Rattle.dev_store.specs.Held.{Held, image_of, IsWhole}
use Rattle.wire_model.specs.Wire.{fresh}
use Rattle.device_session.specs.Gates.{Connection, Connections, GateTold, GateKept, IsAccepted, IsUsedUp, new_connection}
use Rattle.device_session.specs.Living.{Live, wire_of}
use Rattle.device_session.specs.Lives.{IsBegun, IsTold}
use Rattle.device_session.specs.Serving.{ServesOne, ServesNext, Serves, ServesNew, IsMore, EndsBy, HaltsByDisk}
use Rattle.device_session.specs.Talking.{IsTalking, OnTold, TalksOut, GateCalm}
use Rattle.dev_model.specs.declared.device.Mode.{Mode}
use Rattle.dev_model.specs.declared.device.Mode.TheVariants as mode
use Rattle.device_engine.specs.declared.device.Device.{Device}
use Rattle.device_engine.specs.Running.{held_of, IsTyped, IsInOrder, HasMax, Follows}
use Rattle.device_session.specs.declared.serving.ServeEnd.TheVariants as ends
use Rattle.device_session.proofs.StillLemmas.{running, max-in, max-back}
use Rattle.device_session.proofs.KeptLemmas.{disk-same, disk-then, halted-behind}
use Rattle.device_session.proofs.LifeLemmas.{IsAgreed, told-kept, begun-along}
use Rattle.device_session.proofs.TalkLemmas.{same-last}

-- a connection in which nothing was read or written, and a session that begins
begun-talking : {K : Type 0} (told : K → DiskTold) (live : Live K) (begin : Held K) (gives : List ℕ) → begin ≡ live.held → IsBegun told live live.held.device →
    IsTold told live → IsTalking told begin live [] (new_connection gives)
begun-talking told live begin gives e b has =
    subst (λ (h : Held _). IsTalking told h live [] (new_connection gives)) (sym e) (record {
      begins = b.runs;
      state = fresh live.held.device;
      taken = 0;
      along = begun-along told live live.held.device b has;
      next = refl;
      read = refl;
      within = omega arith;
      calm = refl;
    })

begin-talks : {K : Type 0} (told : K → DiskTold) (live : Live K) (before g : Option Connections) → IsBegun told live live.held.device → Both IsAccepted before g →
    OnTold told live.held (IsTalking told live.held live []) g g
begin-talks told live (Some a) (Some b) begun h = record {
  past = a.accepted;
  last = new_connection h.gives;
  begun = h.last;
  now = h.last;
  coming = refl;
  here = λ has. begun-talking told live live.held h.gives refl begun has;
}
begin-talks told live (Some a) None begun h = absurd h
begin-talks told live None (Some b) begun h = absurd h
begin-talks told live None None begun h = tt

served-next : {K : Type 0} (told : K → DiskTold) (old new : Held K) (before g h : Option Connections) → Both IsAccepted before g → OnTold told old (ServesOne told old new) g h →
    Both (ServesNext told old new) before h
served-next told old new (Some a) (Some b) (Some d) acc l =
    let s = same-last l.past a.accepted (new_connection l.last.gives) (new_connection acc.gives) (sym l.begun ∙ acc.last) in
    record {
      last = l.last;
      accepted = l.now ∙ ap (λ (p : List Connection). p ++ l.last ∷ []) s.0;
      coming = acc.next ∙ (ap (λ (x : List ℕ). x ∷ b.coming) (ap (λ (c : Connection). c.gives) (sym s.1)) ∙ ap (λ (x : List (List ℕ)). l.last.gives ∷ x) (sym l.coming));
      serves = l.here;
    }
served-next told old new (Some a) (Some b) None acc l = absurd l
served-next told old new (Some a) None h acc l = absurd acc
served-next told old new None (Some b) h acc l = absurd acc
served-next told old new None None (Some d) acc l = absurd l
served-next told old new None None None acc l = tt

-- one connection, from a session that begins to the device that it leaves
pub one-served : {K : Type 0} (told : K → DiskTold) (live end : Live K) (held new : Held K) (g h : GateTold) → live.held ≡ held → IsWhole told held →
    IsTrue (is_fastboot held.device.mode) → wire_of live ≡ fresh held.device → TalksOut told live [] g end h → new ≡ end.held →
    (before : Option Connections) → Both IsAccepted before g.connections → Both (ServesNext told held new) before h.connections
one-served told live end held new g h e whole runs state out n before acc =
    let begun : IsBegun told live live.held.device = record {
      whole = subst (λ k. IsWhole told k) (sym e) whole;
      runs = subst (λ (k : Held _). IsTrue (is_fastboot k.device.mode)) (sym e) runs;
      state = state ∙ ap (λ (k : Held _). fresh k.device) (sym e);
    } in
    let ends : OnTold told live.held (ServesOne told live.held end.held) g.connections h.connections = out live.held g.connections (begin-talks told live before g.connections begun acc) in
    subst (λ k. Both (ServesNext told held k) before h.connections) (sym n)
    (subst (λ k. Both (ServesNext told k end.held) before h.connections) e (served-next told live.held end.held before g.connections h.connections acc ends))

-- connections after another one
serves-snoc : {K : Type 0} (told : K → DiskTold) (old mid new : Held K) (served : List Connection) (c : Connection) → Serves told old served mid → ServesOne told mid new c →
    Serves told old (served ++ c ∷ []) new
serves-snoc told old mid new [] c s o = (new, subst (λ k. ServesOne told k new c) s o, refl)
serves-snoc told old mid new (x ∷ served) c (k, first, rest) o = (k, first, serves-snoc told k mid new served c rest o)

map-snoc : (served : List Connection) (c : Connection) → map (λ x. x.gives) (served ++ c ∷ []) ≡ map (λ x. x.gives) served ++ c.gives ∷ []
map-snoc [] c = refl
map-snoc (x ∷ served) c = ap (λ (l : List (List ℕ)). x.gives ∷ l) (map-snoc served c)

more-served : {K : Type 0} (told : K → DiskTold) (old mid new : Held K) (a b d : Connections) → (IsTrue (is_some (image_of told old)) → IsTrue (is_some (image_of told mid))) →
    ServesNew told old mid a b → ServesNext told mid new b d → ServesNew told old new a d
more-served told old mid new a b d has s n = record {
  served = s.served ++ n.last ∷ [];
  accepted = n.accepted ∙ (ap (λ (l : List Connection). l ++ n.last ∷ []) s.accepted ∙ append_assoc a.accepted s.served (n.last ∷ []));
  coming = s.coming ∙ (ap (λ (l : List (List ℕ)). map (λ x. x.gives) s.served ++ l) n.coming
      ∙ (sym (append_assoc (map (λ x. x.gives) s.served) (n.last.gives ∷ []) d.coming) ∙ ap (λ (l : List (List ℕ)). l ++ d.coming) (sym (map-snoc s.served n.last))));
  serves = λ t. serves-snoc told old mid new s.served n.last (s.serves t) (n.serves (has t));
}

pub both-served : {K : Type 0} (told : K → DiskTold) (old mid new : Held K) (a b d : Option Connections) → (IsTrue (is_some (image_of told old)) → IsTrue (is_some (image_of told mid))) →
    Both (ServesNew told old mid) a b → Both (ServesNext told mid new) b d → Both (ServesNew told old new) a d
both-served told old mid new (Some a) (Some b) (Some d) has s n = more-served told old mid new a b d has s n
both-served told old mid new (Some a) (Some b) None has s n = absurd n
both-served told old mid new (Some a) None d has s n = absurd s
both-served told old mid new None (Some b) d has s n = absurd s
both-served told old mid new None None (Some d) has s n = absurd n
both-served told old mid new None None None has s n = tt

counted-more : {K : Type 0} (told : K → DiskTold) (old new : Held K) (n : ℕ) (a b d : Connections) → IsMore n a b → ServesNext told old new b d → IsMore (n + 1) a d
counted-more told old new n a b d m s = omega (arith, m, ap length s.accepted, length-append b.accepted (s.last ∷ []))

pub both-counted : {K : Type 0} (told : K → DiskTold) (old new : Held K) (n : ℕ) (a b d : Option Connections) → Both (IsMore n) a b → Both (ServesNext told old new) b d →
    Both (IsMore (n + 1)) a d
both-counted told old new n (Some a) (Some b) (Some d) m s = counted-more told old new n a b d m s
both-counted told old new n (Some a) (Some b) None m s = absurd s
both-counted told old new n (Some a) None d m s = absurd m
both-counted told old new n None (Some b) d m s = absurd m
both-counted told old new n None None (Some d) m s = absurd s
both-counted told old new n None None None m s = tt

-- no connection was served yet
pub none-served : {K : Type 0} (told : K → DiskTold) (held : Held K) (a : Option Connections) → Both (ServesNew told held held) a a
none-served told held None = tt
none-served told held (Some a) = record { served = []; accepted = sym (append-nil a.accepted); coming = refl; serves = λ t. refl }

pub none-counted : (a : Option Connections) → Both (IsMore 0) a a
none-counted None = tt
none-counted (Some a) = omega arith

-- a device that runs fastboot, and one that follows it
pub follows-same : {K L : Type 0} (told : K → DiskTold) (lent : K → L) (device : Device K) → IsTyped device → IsInOrder told (held_of device) → Follows told lent (held_of device) device
follows-same told lent device t o = record {
  typed = t;
  in_order = o;
  max = max-in (held_of device).device.mode (held_of device).device;
  kept = disk-same told lent (held_of device).disk;
}

pub follows-then : {K L : Type 0} (told : K → DiskTold) (lent : K → L) (old : Held K) (mid new : Device K) → IsTrue (is_fastboot (held_of mid).device.mode) → Follows told lent old mid →
    Follows told lent (held_of mid) new → Follows told lent old new
follows-then told lent old mid new f a b =
    let max = max-back (held_of mid).device.mode old.device.max (held_of mid).device f a.max in
    record {
      typed = b.typed;
      in_order = b.in_order;
      max = subst (λ (n : ℕ). HasMax n (held_of new).device) max b.max;
      kept = disk-then told lent old.disk (held_of mid).disk (held_of new).disk a.kept b.kept;
    }

pub halts-same : {K : Type 0} (told : K → DiskTold) (held : Held K) → HaltsByDisk told held held
halts-same told held f e = absurd (running held.device.mode f e)

pub halts-then : {K L : Type 0} (told : K → DiskTold) (lent : K → L) (old : Held K) (mid new : Device K) → IsTrue (is_fastboot (held_of mid).device.mode) → Follows told lent old mid →
    HaltsByDisk told (held_of mid) (held_of new) → HaltsByDisk told old (held_of new)
halts-then told lent old mid new f a h g e =
    halted-behind told old.disk (held_of mid).disk (held_of new) a.kept (h f e)

pub fits-still : {K L : Type 0} (told : K → DiskTold) (lent : K → L) (old : Held K) (device : Device K) (room : ℕ) → IsTrue (is_fastboot (held_of device).device.mode) →
    Follows told lent old device → old.device.max ≤ room → (held_of device).device.max ≤ room
fits-still told lent old device room f a h =
    let max = max-back (held_of device).device.mode old.device.max (held_of device).device f a.max in omega (arith, max, h)

pub told-follows : {K L : Type 0} (told : K → DiskTold) (lent : K → L) → IsAgreed told → (old : Held K) (device : Device K) → Follows told lent old device →
    IsTrue (is_some (image_of told old)) → IsTrue (is_some (image_of told (held_of device)))
told-follows told lent agrees old device a = told-kept told agrees old.disk (held_of device).disk a.kept.kept

-- serving ended at a gate
pub ends-none : (m : Mode) (left : ℕ) (before after : GateTold) → IsTrue (is_fastboot m) → 0 < left → IsUsedUp after.connections → EndsBy ends.NoMore m left before after
ends-none mode.Bootloader left before after f l u = (l, u)
ends-none mode.Userspace left before after f l u = (l, u)
ends-none mode.System left before after f l u = absurd cc
ends-none mode.Recovery left before after f l u = absurd cc
ends-none mode.Halted left before after f l u = absurd cc

pub ends-gate : (m : Mode) (left : ℕ) (before after : GateTold) → IsTrue (is_fastboot m) → 0 < left → Rose before.unaccepted after.unaccepted → EndsBy ends.Gate m left before after
ends-gate mode.Bootloader left before after f l u = (l, u)
ends-gate mode.Userspace left before after f l u = (l, u)
ends-gate mode.System left before after f l u = absurd cc
ends-gate mode.Recovery left before after f l u = absurd cc
ends-gate mode.Halted left before after f l u = absurd cc

pub gate-then : (a b c : GateTold) → GateKept a b → GateKept b c → GateKept a c
gate-then a b c x y = record {
  listening = y.listening ∙ x.listening;
  port = y.port ∙ x.port;
  later = omega (arith, x.later, y.later);
  no_fewer = omega (arith, x.no_fewer, y.no_fewer);
}

pub calm-then : (a b c : GateTold) → GateCalm a b → GateCalm b c → GateCalm a c
calm-then a b c x y = record { kept = gate-then a b c x.kept y.kept; calm = y.calm ∙ x.calm }
