-- Calls on a gate, and what they make of a connection that is served.
use Rattle.std.proofs.Common.{◌≡◌, ◌⊎◌, inl, inr, ℕ, zero, suc, ◌+◌, ◌-◌, ◌≤◌, ◌<◌, Bool, true, false, not, ◌&&◌, ◌||◌, nat_eq, List, [], ◌∷◌, ◌++◌, length, take, drop, Option, Some, None, refl, sym, ap, subst, ◌∙◌, append_assoc, append-nil, length-append, arith}
use Rattle.std.specs.Prelude.{IsFalse, IsTrue}
use Rattle.std.proofs.lemmas.List.{take-append-drop, length-drop, take-take, drop-take, drop-drop}
use Rattle.std.proofs.Math.Seq.{take-add}
use Rattle.std.proofs.lemmas.Bool.Decides.{nat_tests}
use Rattle.fb_frame.specs.Told.{Both}
use Rattle.fb_frame.specs.Causes.{Rose}
use Rattle.dev_disk.specs.Disks.{DiskTold}
use Rattle.dev_store.specs.Held.{Held}
use Rattle.wire_model.specs.Wire.{Wire, fresh}
use Rattle.wire_told.specs.Told.{GoesBy}
use Rattle.device_session.specs.Gates.{Connection, Connections, GateTold, LastChanged, OnLast, IsReadOn, IsReadFailed, IsWrittenOn, IsWriteFailed, IsAllRead, new_connection}
use Rattle.device_session.specs.Inlets.{is_shaking}
use Rattle.device_session.specs.Living.{Live, is_full, IsAt, Feeds, SessionKept}
use Rattle.device_engine.specs.Running.{StaysLocked}
use Rattle.device_session.specs.Lives.{IsAlong, Drains, TakesSome}
use Rattle.device_session.specs.Serving.{ServesOne, IsFront}
use Rattle.device_session.specs.Talking.{IsTalking, LastIs, Talks, TalksOn, TalksUp, TalksOut}
use Rattle.device_session.proofs.LifeLemmas.{IsAgreed, drained-along, fed-along}

pub same-last : (past front : List Connection) (c d : Connection) → past ++ c ∷ [] ≡ front ++ d ∷ [] → (past ≡ front) × (c ≡ d)
same-last [] [] c d e = (refl, cc)
same-last [] (x ∷ front) c d e =
    let h : length (c ∷ []) ≡ length (x ∷ (front ++ d ∷ [])) = ap length e in absurd (omega (arith, h, length-append front (d ∷ [])))
same-last (y ∷ past) [] c d e =
    let h : length (y ∷ (past ++ c ∷ [])) ≡ length (d ∷ []) = ap length e in absurd (omega (arith, h, length-append past (c ∷ [])))
same-last (y ∷ past) (x ∷ front) c d e =
    let rest : past ++ c ∷ [] ≡ front ++ d ∷ [] = cc in
    let head : y ≡ x = cc in
    let s = same-last past front c d rest in
    (ap (λ (k : Connection). k ∷ past) head ∙ ap (λ (l : List Connection). x ∷ l) s.0, s.1)

-- what a change makes of the connection that was accepted last
last-moves : (P Q : Connection → Type 0) (Change : Connection → Connection → Type 0) (a b d : Connections) →
    ((x y : Connection) → Change x y → P x → (y.gives ≡ x.gives) × Q y) → LastIs P a b → LastChanged Change b d → LastIs Q a d
last-moves P Q Change a b d step l c =
    let s = same-last l.past c.past l.last c.before (sym l.now ∙ c.last) in
    let made = step c.before c.now c.change (subst P s.1 l.here) in
    record {
      past = l.past;
      last = c.now;
      begun = l.begun ∙ ap (λ (g : List ℕ). l.past ++ new_connection g ∷ []) (ap (λ (x : Connection). x.gives) s.1 ∙ sym made.0);
      now = ap (λ (x : Connections). x.accepted) c.changed ∙ ap (λ (p : List Connection). p ++ c.now ∷ []) (sym s.0);
      coming = ap (λ (x : Connections). x.coming) c.changed ∙ l.coming;
      here = made.1;
    }

pub both-moves : (P Q : Connection → Type 0) (Change : Connection → Connection → Type 0) (a b d : Option Connections) →
    ((x y : Connection) → Change x y → P x → (y.gives ≡ x.gives) × Q y) → Both (LastIs P) a b → OnLast Change b d → Both (LastIs Q) a d
both-moves P Q Change (Some a) (Some b) (Some d) step l c = last-moves P Q Change a b d step l c
both-moves P Q Change (Some a) (Some b) None step l c = absurd c
both-moves P Q Change (Some a) None d step l c = absurd l
both-moves P Q Change None (Some b) d step l c = absurd l
both-moves P Q Change None None (Some d) step l c = absurd c
both-moves P Q Change None None None step l c = tt

-- bytes of the outbox were written
written : {K : Type 0} (told : K → DiskTold) (begin : Held K) (old new : Live K) (left bytes : List ℕ) (c : Connection) → Drains old bytes new → IsTalking told begin old left c →
    IsTalking told begin new left (record c { written = c.written ++ bytes })
written told begin old new left bytes c d t = record {
  begins = t.begins;
  state = record t.state { out = new.out };
  taken = t.taken;
  along = drained-along told (told begin.disk).faults (fresh begin.device) t.state old new (take t.taken c.gives) c.written bytes d t.along;
  next = t.next;
  read = t.read;
  within = t.within;
  calm = t.calm;
}

front-drained : {K : Type 0} (old new : Live K) (n : ℕ) → new ≡ record old { out = drop n old.out } → Drains old (take n old.out) new
front-drained old new n e =
    let whole : old.out ≡ take n old.out ++ new.out = sym (take-append-drop n old.out) ∙ ap (λ (l : List ℕ). take n old.out ++ l) (sym (ap (λ (k : Live _). k.out) e)) in
    ap (λ (l : List ℕ). record old { out = l }) whole ∙ ap (λ (k : Live _). record k { out = take n old.out ++ new.out }) (sym e)

pub talks-written : {K : Type 0} (told : K → DiskTold) (old new : Live K) (n : ℕ) (bytes : List ℕ) (g h : GateTold) → bytes ≡ take n old.out →
    new ≡ record old { out = drop n old.out } → OnLast (IsWrittenOn bytes) g.connections h.connections → (left : List ℕ) → TalksOn told old left g new left h
talks-written told old new n bytes g h same e c left begin a t =
    both-moves _ _ (IsWrittenOn bytes) a g.connections h.connections
    (λ x y w p. (
      ap (λ (k : Connection). k.gives) w,
      λ has. subst (λ (k : Connection). IsTalking told begin new left k) (sym w)
          (written told begin old new left bytes x (subst (λ (l : List ℕ). Drains old l new) (sym same) (front-drained old new n e)) (p has)),
    ))
    t c

out-of : {K : Type 0} (told : K → DiskTold) (live : Live K) (w : Wire) → IsAt told live w → w.out ≡ live.out
out-of told live w at = ap (λ (u : Wire). u.out) (sym at.same)

true-false : (b : Bool) → b ≡ true → b ≡ false → ⊥
true-false b e f = absurd cc

-- a connection whose call failed
failed : {K : Type 0} (told : K → DiskTold) (begin : Held K) (live : Live K) (left : List ℕ) (c d : Connection) → d.gives ≡ c.gives → d.read ≡ c.read → d.failed ≡ true →
    IsFront d.written (c.written ++ live.out) → IsTalking told begin live left c → ServesOne told begin live.held d
failed told begin live left c d g r f front t =
    let out = out-of told live t.state t.along.at in
    record {
      begins = t.begins;
      state = record t.state { out = c.written ++ t.state.out };
      taken = t.taken;
      within = omega (arith, t.read, r);
      goes = subst (λ (l : List ℕ). GoesBy (Rose (told begin.disk).faults (told live.held.disk).faults) (fresh begin.device) (take t.taken l) (record t.state { out = c.written ++ t.state.out })) (sym g) t.along.goes;
      tells = t.along.has;
      later = t.along.later;
      left = t.along.at.device;
      written = (front.0, ap (λ (l : List ℕ). c.written ++ l) out ∙ front.1);
      whole = λ e. absurd (true-false d.failed f e);
      ended = λ e. absurd (true-false d.failed f e);
    }

failed-write : {K : Type 0} (told : K → DiskTold) (begin : Held K) (live : Live K) (left bytes : List ℕ) (c d : Connection) → bytes ≡ live.out → IsWriteFailed bytes c d →
    IsTalking told begin live left c → ServesOne told begin live.held d
failed-write told begin live left bytes c d same w t =
    let gone : d.written ≡ c.written ++ take w.count live.out = ap (λ (x : Connection). x.written) w.changed ∙ ap (λ (l : List ℕ). c.written ++ take w.count l) same in
    let whole : c.written ++ live.out ≡ d.written ++ drop w.count live.out =
    ap (λ (l : List ℕ). c.written ++ l) (sym (take-append-drop w.count live.out))
    ∙ (sym (append_assoc c.written (take w.count live.out) (drop w.count live.out)) ∙ ap (λ (l : List ℕ). l ++ drop w.count live.out) (sym gone)) in
    failed told begin live left c d (ap (λ (x : Connection). x.gives) w.changed) (ap (λ (x : Connection). x.read) w.changed) (ap (λ (x : Connection). x.failed) w.changed)
    (drop w.count live.out, whole) t

pub out-write : {K : Type 0} (told : K → DiskTold) (old : Live K) (bytes : List ℕ) (g h : GateTold) → bytes ≡ old.out → OnLast (IsWriteFailed bytes) g.connections h.connections →
    (left : List ℕ) → TalksOut told old left g old h
out-write told old bytes g h same c left begin a t =
    both-moves _ _ (IsWriteFailed bytes) a g.connections h.connections
    (λ x y w p. (ap (λ (k : Connection). k.gives) w.changed, λ has. failed-write told begin old left bytes x y same w (p has))) t c

-- a connection in which no call failed, whose session closed or took all that it gives
calm-end : {K : Type 0} (told : K → DiskTold) (begin : Held K) (live : Live K) (left : List ℕ) (c : Connection) → live.out ≡ [] →
    (IsTrue live.closed ⊎ ((left ≡ []) × (c.read ≡ length c.gives))) → IsTalking told begin live left c → ServesOne told begin live.held c
calm-end told begin live left c empty over t =
    let out : c.written ++ t.state.out ≡ c.written =
    ap (λ (l : List ℕ). c.written ++ l) (out-of told live t.state t.along.at ∙ empty) ∙ append-nil c.written in
    record {
      begins = t.begins;
      state = record t.state { out = c.written ++ t.state.out };
      taken = t.taken;
      within = omega (arith, t.read);
      goes = t.along.goes;
      tells = t.along.has;
      later = t.along.later;
      left = t.along.at.device;
      written = ([], out ∙ sym (append-nil c.written));
      whole = λ e. sym out;
      ended = λ e. elim over as (λ _. IsTrue t.state.closed ⊎ (t.taken ≡ length c.gives)) [
        | inl k ↦ inl (ap (λ (u : Wire). u.closed) (sym t.along.at.same) ∙ k)
        | inr k ↦ inr (let none : length left ≡ 0 = ap length k.0 in omega (arith, none, t.read, k.1))
      ];
    }

both-same : (P Q : Connection → Type 0) (a b : Option Connections) → ((x : Connection) → P x → Q x) → Both (LastIs P) a b → Both (LastIs Q) a b
both-same P Q (Some a) (Some b) f l = record { past = l.past; last = l.last; begun = l.begun; now = l.now; coming = l.coming; here = f l.last l.here }
both-same P Q (Some a) None f l = l
both-same P Q None (Some b) f l = l
both-same P Q None None f l = l

-- the session closed
pub out-closed : {K : Type 0} (told : K → DiskTold) (live : Live K) (g : GateTold) → live.out ≡ [] → IsTrue live.closed → (left : List ℕ) → TalksOut told live left g live g
out-closed told live g empty closed left begin a t =
    both-same _ _ a g.connections (λ x p has. calm-end told begin live left x empty (inl closed) (p has)) t

parts : (n len : ℕ) → n ≤ len → len ≡ n + (len - n)
parts n len h = omega (arith, h)

-- bytes that were taken of what was read
fed-talking : {K L : Type 0} (told : K → DiskTold) (lent : K → L) → IsAgreed told → (begin : Held K) (old new : Live K) (piece : List ℕ) (n : ℕ) (c : Connection) → n ≤ length piece →
    TakesSome told lent old (take n piece) new → IsTalking told begin old piece c → IsTalking told begin new (drop n piece) c
fed-talking told lent agrees begin old new piece n c h f t =
    let len : ℕ = length piece in
    let bytes : take n piece ≡ take n (drop t.taken c.gives) = ap (take n) t.next ∙ take-take n len (drop t.taken c.gives) h in
    let joined : take t.taken c.gives ++ take n piece ≡ take (t.taken + n) c.gives = ap (λ (l : List ℕ). take t.taken c.gives ++ l) bytes ∙ sym (take-add t.taken n c.gives) in
    let size : length (drop n piece) ≡ len - n = length-drop n piece in
    let rest : drop n piece ≡ take (len - n) (drop (t.taken + n) c.gives) =
    ap (drop n) t.next ∙ (ap (λ k. drop n (take k (drop t.taken c.gives))) (parts n len h)
    ∙ (drop-take n (len - n) (drop t.taken c.gives) ∙ ap (take (len - n)) (drop-drop n t.taken c.gives))) in
    record {
      begins = t.begins;
      state = f.feeds.state;
      taken = t.taken + n;
      along = subst (λ (l : List ℕ). IsAlong told (told begin.disk).faults (fresh begin.device) new f.feeds.state l c.written) joined
          (fed-along told lent agrees (told begin.disk).faults (fresh begin.device) t.state old new (take t.taken c.gives) c.written (take n piece) t.along f);
      next = rest ∙ ap (λ k. take k (drop (t.taken + n) c.gives)) (sym size);
      read = omega (arith, size, t.read, h);
      within = t.within;
      calm = t.calm;
    }

pub talks-fed : {K L : Type 0} (told : K → DiskTold) (lent : K → L) → IsAgreed told → (old new : Live K) (piece : List ℕ) (n : ℕ) (g : GateTold) → n ≤ length piece →
    TakesSome told lent old (take n piece) new → TalksOn told old piece g new (drop n piece) g
talks-fed told lent agrees old new piece n g h f begin a t =
    both-same _ _ a g.connections (λ x p has. fed-talking told lent agrees begin old new piece n x h f (p has)) t

-- bytes that were read
read-talking : {K : Type 0} (told : K → DiskTold) (begin : Held K) (live : Live K) (bytes : List ℕ) (c d : Connection) → IsReadOn bytes c d → IsTalking told begin live [] c →
    IsTalking told begin live bytes d
read-talking told begin live bytes c d r t =
    let here : t.taken ≡ c.read = omega (arith, t.read) in
    subst (λ (k : Connection). IsTalking told begin live bytes k) (sym r.changed) (record {
      begins = t.begins;
      state = t.state;
      taken = t.taken;
      along = t.along;
      next = r.next ∙ ap (λ k. take (length bytes) (drop k c.gives)) (sym here);
      read = ap (λ k. k + length bytes) here;
      within = r.within;
      calm = t.calm;
    })

pub talks-read : {K : Type 0} (told : K → DiskTold) (live : Live K) (bytes : List ℕ) (g h : GateTold) → OnLast (IsReadOn bytes) g.connections h.connections →
    TalksOn told live [] g live bytes h
talks-read told live bytes g h c begin a t =
    both-moves _ _ (IsReadOn bytes) a g.connections h.connections
    (λ x y r p. (ap (λ (k : Connection). k.gives) r.changed, λ has. read-talking told begin live bytes x y r (p has))) t c

-- a read failed
pub out-read : {K : Type 0} (told : K → DiskTold) (live : Live K) (g h : GateTold) → OnLast IsReadFailed g.connections h.connections → (left : List ℕ) →
    TalksOut told live left g live h
out-read told live g h c left begin a t =
    both-moves _ _ IsReadFailed a g.connections h.connections
    (λ x y r p. (
      ap (λ (k : Connection). k.gives) r,
      λ has.
          failed told begin live left x y (ap (λ (k : Connection). k.gives) r) (ap (λ (k : Connection). k.read) r) (ap (λ (k : Connection). k.failed) r)
          (live.out, ap (λ (k : Connection). k.written ++ live.out) (sym r)) (p has),
    )) t c

all-read : (P : Connection → Type 0) (a b : Option Connections) → IsAllRead b → Both (LastIs P) a b → Both (LastIs (λ c. P c × (c.read ≡ length c.gives))) a b
all-read P (Some a) (Some b) r l =
    let s = same-last l.past r.past l.last r.last (sym l.now ∙ r.there) in
    record {
      past = l.past;
      last = l.last;
      begun = l.begun;
      now = l.now;
      coming = l.coming;
      here = (l.here, subst (λ (c : Connection). c.read ≡ length c.gives) (sym s.1) r.read_up);
    }
all-read P (Some a) None r l = absurd l
all-read P None (Some b) r l = absurd l
all-read P None None r l = tt

-- all that the connection gives was taken
pub out-all : {K : Type 0} (told : K → DiskTold) (live : Live K) (bytes : List ℕ) (g h : GateTold) → bytes ≡ [] → live.out ≡ [] → IsAllRead g.connections →
    OnLast (IsReadOn bytes) g.connections h.connections → TalksOut told live [] g live h
out-all told live bytes g h none empty read c begin a t =
    both-moves _ _ (IsReadOn bytes) a g.connections h.connections
    (λ x y r p. (
      ap (λ (k : Connection). k.gives) r.changed,
      λ has.
          let talk = read-talking told begin live bytes x y r (p.0 has) in
          let size : length bytes ≡ 0 = ap length none in
          let moved : y.read ≡ x.read + length bytes = ap (λ (k : Connection). k.read) r.changed in
          let gives : length y.gives ≡ length x.gives = ap (λ (k : Connection). length k.gives) r.changed in
          calm-end told begin live bytes y empty (inr (none, omega (arith, moved, size, p.1, gives))) talk,
    ))
    (all-read _ a g.connections read t) c

-- one after another
pub on-then : {K : Type 0} (told : K → DiskTold) (old mid new : Live K) (x y z : List ℕ) (f g h : GateTold) → TalksOn told old x f mid y g → TalksOn told mid y g new z h →
    TalksOn told old x f new z h
on-then told old mid new x y z f g h p q begin a t = q begin a (p begin a t)

pub out-then : {K : Type 0} (told : K → DiskTold) (old mid new : Live K) (x y : List ℕ) (f g h : GateTold) → TalksOn told old x f mid y g → TalksOut told mid y g new h →
    TalksOut told old x f new h
out-then told old mid new x y f g h p q begin a t = q begin a (p begin a t)

and-false : (b c : Bool) → c ≡ false → (b && c) ≡ false
and-false true c e = e
and-false false c e = refl

not-full : (w : Wire) (piece : List ℕ) → w.closed ≡ false → w.out ≡ [] → 0 < length piece → is_full w piece ≡ false
not-full w piece c o s =
    let none : nat_eq (length piece) 0 ≡ false = grind (arith, nat_tests) in
    let empty : not (nat_eq (length w.out) 0) ≡ false = ap (λ (l : List ℕ). not (nat_eq (length l) 0)) o in
    ap (λ b. b || (nat_eq (length piece) 0 || (not (is_shaking w.phase) && not (nat_eq (length w.out) 0)))) c
    ∙ (ap (λ b. b || (not (is_shaking w.phase) && not (nat_eq (length w.out) 0))) none ∙ and-false (not (is_shaking w.phase)) _ empty)

-- an open session with an empty outbox takes something
pub takes-some : (n : ℕ) (w : Wire) (piece : List ℕ) → w.closed ≡ false → w.out ≡ [] → 0 < length piece → (n ≡ 0 → IsTrue (is_full w piece)) → 0 < n
takes-some zero w piece c o s f = absurd (true-false (is_full w piece) (f refl) (not-full w piece c o s))
takes-some (suc n) w piece c o s f = omega arith

-- a call that took something
pub some-of : {K L : Type 0} (told : K → DiskTold) (lent : K → L) (old new : Live K) (bytes : List ℕ) → Feeds told old new bytes → SessionKept told lent old new →
    StaysLocked told old.held new.held → TakesSome told lent old bytes new
some-of told lent old new bytes f k s = record { feeds = f; kept = k; locked = s }

-- a test that said closed
pub said-closed : (said closed : Bool) → said ≡ closed → said ≡ true → closed ≡ false → ⊥
said-closed said closed e t f = absurd cc

-- a session that isn't closed has nothing left over
pub up-then : {K : Type 0} (told : K → DiskTold) (old mid new : Live K) (x z : List ℕ) (f g h : GateTold) → IsFalse mid.closed → TalksUp told old x f mid g → TalksOn told mid [] g new z h →
    TalksOn told old x f new z h
up-then told old mid new x z f g h c u q begin a t = q begin a (subst (λ (l : List ℕ). Talks told begin a mid l g) (u.done c) (u.talks begin a t))

pub up-out : {K : Type 0} (told : K → DiskTold) (old mid new : Live K) (x : List ℕ) (f g h : GateTold) → IsFalse mid.closed → TalksUp told old x f mid g → TalksOut told mid [] g new h →
    TalksOut told old x f new h
up-out told old mid new x f g h c u q begin a t = q begin a (subst (λ (l : List ℕ). Talks told begin a mid l g) (u.done c) (u.talks begin a t))

pub up-closed : {K : Type 0} (told : K → DiskTold) (old mid : Live K) (x : List ℕ) (f g : GateTold) → mid.out ≡ [] → IsTrue mid.closed → TalksUp told old x f mid g →
    TalksOut told old x f mid g
up-closed told old mid x f g empty closed u begin a t = out-closed told mid g empty closed u.rest begin a (u.talks begin a t)
