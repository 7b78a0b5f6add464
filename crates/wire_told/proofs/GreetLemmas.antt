-- The handshakes, and what is idle after them and after a command.
use Rattle.std.proofs.Common.{◌≡◌, ◌≢◌, ◌⊎◌, inl, inr, ℕ, ◌+◌, ◌^◌, ◌<◌, ◌≤◌, true, false, List, [], ◌++◌, length, take, drop, Option, Some, None, refl, sym, ap, ◌∙◌, subst, arith, length-drop, take-append-drop, take_all}
use Rattle.std.specs.Prelude.{nat_lt}
use Rattle.std.proofs.lemmas.Bool.Decides.{nat_tests}
use Rattle.fb_frame.specs.Greeting.{handshake}
use Rattle.dev_model.specs.declared.device.Dev.{Dev}
use Rattle.fb_frame.specs.Causes.{Rose}
use Rattle.wire_told.specs.Peers.{Peer, Apart, Joined, OfLink, OnLink, OffLink}
use Rattle.wire_model.specs.Wire.{Wire, Command, fresh}
use Rattle.wire_told.specs.Told.{GoesBy, Sent, IsLeft, LeftBy, Heard, HungUp, Lost, Connected, OneShake, IsIdle, Begun, Greeted, Opened, Gives}
use Rattle.wire_told.specs.Answered.{Stays}
use Rattle.wire_told.proofs.Lifted.{of-on, with-on, on-then, on-hung}
use Rattle.wire_model.proofs.InParts.{told}
use Rattle.wire_told.proofs.OneShakes.{shake-whole, shake-same, shaken, fresh-shake}
use Rattle.wire_told.proofs.ToldLemmas.{MaySend-greeting, front-same}

abbrev IsFresh : Wire → Type 0
IsFresh w = w ≡ fresh w.device

shake-here : (w : Wire) → IsFresh w → OneShake (handshake 1) w
shake-here w f = subst (OneShake (handshake 1)) (sym f) (fresh-shake w.device)

-- after the handshake
behind : (broke : Type 0) (bytes : List ℕ) → bytes ≡ handshake 1 → (w v : Wire) → IsFresh w → GoesBy broke w bytes v → v ≡ shaken 4 w
behind broke bytes e w v f g = shake-whole broke (handshake 1) w v (shake-here w f) (subst (λ t. GoesBy broke w t v) e g)

pub Begun-from : (a b : Option Peer) → Connected a b → Begun b
Begun-from None None c = tt
Begun-from None (Some q) c = absurd c
Begun-from (Some p) None c = absurd c
Begun-from (Some p) (Some (Apart dev)) c = absurd c
Begun-from (Some p) (Some (Joined w)) c = c.1 ∙ ap (λ (u : Wire). fresh u.device) (sym c.1)

out-here : (broke : Type 0) (bytes : List ℕ) → bytes ≡ handshake 1 → (w v : Wire) → IsFresh w → GoesBy broke w bytes v → v.out ≡ handshake 1
out-here broke bytes e w v f g = ap (λ (u : Wire). u.out) (behind broke bytes e w v f g) ∙ ap (λ (u : Wire). u.out) f

pub Gives-greeting : (k l : ℕ) (a b : Option Peer) (bytes : List ℕ) → Begun a → bytes ≡ handshake 1 → Sent k l a b bytes → Gives b 4
Gives-greeting k l a b bytes i e g =
    of-on IsFresh (λ w v. GoesBy (Rose k l) w bytes v) (λ w. 4 ≤ length w.out) (λ w v f q. omega (arith, ap length (out-here (Rose k l) bytes e w v f q))) a b i g

abbrev Both : ℕ → ℕ → List ℕ → Wire → Wire → Type 0
Both k l bytes w v = (v ≡ shaken 4 w) × (v.out ≡ handshake 1)

both : (k l : ℕ) (a b : Option Peer) (bytes : List ℕ) → Begun a → bytes ≡ handshake 1 → Sent k l a b bytes → OnLink (Both k l bytes) a b
both k l a b bytes i e g =
    with-on IsFresh (λ w v. GoesBy (Rose k l) w bytes v) (Both k l bytes) (λ w v f q. (behind (Rose k l) bytes e w v f q, out-here (Rose k l) bytes e w v f q)) a b i g

greeted-so : (four : List ℕ) → length four ≡ 4 → (w v u : Wire) → (v ≡ shaken 4 w) × (v.out ≡ handshake 1) → v ≡ record u { out = four ++ u.out } → u ≡ record w { phase = Command; rest = []; taken = w.taken + 4; out = [] }
greeted-so four n w v u p h =
    let o : four ++ u.out ≡ handshake 1 ++ [] = sym (ap (λ (x : Wire). x.out) h) ∙ p.1 in
    let s = front-same four u.out (handshake 1) [] n o in
    let t : record v { out = [] } ≡ record u { out = [] } = ap (λ (x : Wire). record x { out = [] }) h in
    let r : record u { out = u.out } ≡ record u { out = [] } = ap (λ o. record u { out = o }) s.1 in
    r ∙ (sym t ∙ ap (λ (x : Wire). record x { out = [] }) p.0)

pub Greeted-from : (k l : ℕ) (a b c : Option Peer) (bytes four : List ℕ) → Begun a → bytes ≡ handshake 1 → Sent k l a b bytes → Heard b c four → length four ≡ 4 → Greeted a c
Greeted-from k l a b c bytes four i e g h n =
    on-then (Both k l bytes) (λ w v. w ≡ record v { out = four ++ v.out }) (λ w v. v ≡ record w { phase = Command; rest = []; taken = w.taken + 4; out = [] })
    (greeted-so four n) a b c (both k l a b bytes i e g) h

four-so : (four : List ℕ) → length four ≡ 4 → (w v u : Wire) → (v ≡ shaken 4 w) × (v.out ≡ handshake 1) → v ≡ record u { out = four ++ u.out } → four ≡ handshake 1
four-so four n w v u p h = (front-same four u.out (handshake 1) [] n (sym (ap (λ (x : Wire). x.out) h) ∙ p.1)).0

on-none : (R : Wire → Wire → Type 0) → ((w v : Wire) → R w v → ⊥) → (a b : Option Peer) → OnLink R a b → a ≡ None
on-none R f None b r = refl
on-none R f (Some (Apart dev)) b r = absurd r
on-none R f (Some (Joined w)) None r = absurd r
on-none R f (Some (Joined w)) (Some (Apart dev)) r = absurd r
on-none R f (Some (Joined w)) (Some (Joined v)) r = absurd (f w v r)

-- no told connection gives another handshake
pub untold-greeting : (k l : ℕ) (a b c : Option Peer) (bytes four : List ℕ) → Begun a → bytes ≡ handshake 1 → Sent k l a b bytes → Heard b c four → length four ≡ 4 → four ≢ handshake 1 → a ≡ None
untold-greeting k l a b c bytes four i e g h n ne =
    on-none (λ w v. four ≡ handshake 1) (λ w v q. ne q) a c
    (on-then (Both k l bytes) (λ w v. w ≡ record v { out = four ++ v.out }) (λ w v. four ≡ handshake 1) (four-so four n) a b c (both k l a b bytes i e g) h)

none-on : (R : Wire → Wire → Type 0) → ((w v : Wire) → R w v → ⊥) → (a b : Option Peer) → OnLink R a b → b ≡ None
none-on R f None None r = refl
none-on R f None (Some q) r = absurd r
none-on R f (Some (Apart dev)) b r = absurd r
none-on R f (Some (Joined w)) None r = absurd r
none-on R f (Some (Joined w)) (Some (Apart dev)) r = absurd r
none-on R f (Some (Joined w)) (Some (Joined v)) r = absurd (f w v r)

-- and none is told after it
pub gone-greeting : (k l : ℕ) (a b c : Option Peer) (bytes four : List ℕ) → Begun a → bytes ≡ handshake 1 → Sent k l a b bytes → Heard b c four → length four ≡ 4 → four ≢ handshake 1 → c ≡ None
gone-greeting k l a b c bytes four i e g h n ne =
    none-on (λ w v. four ≡ handshake 1) (λ w v q. ne q) a c
    (on-then (Both k l bytes) (λ w v. w ≡ record v { out = four ++ v.out }) (λ w v. four ≡ handshake 1) (four-so four n) a b c (both k l a b bytes i e g) h)

less-or-not : (m n : ℕ) → (nat_lt m n ≡ true) ⊎ (nat_lt m n ≡ false) → (m < n) ⊎ (n ≤ m)
less-or-not m n (inl e) = inl (let h : m < n = grind (arith, nat_tests) in h)
less-or-not m n (inr e) = inr (let h : n ≤ m = grind (arith, nat_tests) in h)

-- the handshake, whole or not, leaves the device as it was
front-kept : (broke : Type 0) (n : ℕ) (w v : Wire) → IsFresh w → (n < length (handshake 1)) ⊎ (length (handshake 1) ≤ n) → GoesBy broke w (take n (handshake 1)) v → v.device ≡ w.device
front-kept broke n w v f (inl less) g =
    shake-same broke (take n (handshake 1)) (drop n (handshake 1)) w v (subst (λ t. OneShake t w) (sym (take-append-drop n (handshake 1))) (shake-here w f)) (omega (arith, less, length-drop n (handshake 1))) g
front-kept broke n w v f (inr all) g =
    ap (λ (x : Wire). x.device) (shake-whole broke (handshake 1) w v (shake-here w f) (subst (λ t. GoesBy broke w t v) (take_all n (handshake 1) all) g))

off-kept : (P : Wire → Type 0) (S T : Wire → Dev → Type 0) → ((w : Wire) (dev : Dev) → P w → S w dev → T w dev) → (a b : Option Peer) → OfLink P a → OffLink S a b → OffLink T a b
off-kept P S T f None None p r = tt
off-kept P S T f None (Some q) p r = absurd r
off-kept P S T f (Some (Apart dev)) b p r = absurd p
off-kept P S T f (Some (Joined w)) None p r = absurd r
off-kept P S T f (Some (Joined w)) (Some (Joined v)) p r = absurd r
off-kept P S T f (Some (Joined w)) (Some (Apart dev)) p r = f w dev p r

lost : (broke : Type 0) (bytes : List ℕ) → bytes ≡ handshake 1 → (w : Wire) (dev : Dev) → IsFresh w → IsLeft broke bytes w dev → dev ≡ w.device
lost broke bytes e w dev f r =
    r.device ∙ front-kept broke r.count w r.state f (less-or-not r.count 4 (told (nat_lt r.count 4))) (subst (λ t. GoesBy broke w (take r.count t) r.state) e r.goes)

pub Lost-greeting : (k l : ℕ) (a b : Option Peer) (bytes : List ℕ) → Begun a → bytes ≡ handshake 1 → LeftBy k l a b bytes → Lost a b
Lost-greeting k l a b bytes i e r = off-kept IsFresh (IsLeft (Rose k l) bytes) (λ w dev. dev ≡ w.device) (lost (Rose k l) bytes e) a b i r

pub Lost-greeted : (k l : ℕ) (a b c : Option Peer) (bytes : List ℕ) → Begun a → bytes ≡ handshake 1 → Sent k l a b bytes → HungUp b c → Lost a c
Lost-greeted k l a b c bytes i e g h =
    on-hung (Both k l bytes) (λ w dev. dev ≡ w.device) (λ w u p. ap (λ (x : Wire). x.device) p.0) a b c (both k l a b bytes i e g) h

on-stays : (R : Wire → Wire → Type 0) → ((w v : Wire) → R w v → v.device ≡ w.device) → (a b : Option Peer) → OnLink R a b → Stays a b
on-stays R f None None r = tt
on-stays R f None (Some q) r = absurd r
on-stays R f (Some (Apart dev)) b r = absurd r
on-stays R f (Some (Joined w)) None r = absurd r
on-stays R f (Some (Joined w)) (Some (Apart dev)) r = absurd r
on-stays R f (Some (Joined w)) (Some (Joined v)) r = f w v r

-- our handshake leaves the device as it was
pub Stays-greeting : (k l : ℕ) (a b : Option Peer) (bytes : List ℕ) → Begun a → bytes ≡ handshake 1 → Sent k l a b bytes → Stays a b
Stays-greeting k l a b bytes i e g = on-stays (Both k l bytes) (λ w v p. ap (λ (x : Wire). x.device) p.0) a b (both k l a b bytes i e g)

-- and so does the beginning of a connection
pub Stays-connected : (a b : Option Peer) → Connected a b → Stays a b
Stays-connected None None c = tt
Stays-connected None (Some q) c = absurd c
Stays-connected (Some p) None c = absurd c
Stays-connected (Some p) (Some (Apart dev)) c = absurd c
Stays-connected (Some p) (Some (Joined w)) c = ap (λ (u : Wire). u.device) c.1

pub ruleset greets = (MaySend-greeting, Gives-greeting, Greeted-from, untold-greeting, gone-greeting, Lost-greeting, Lost-greeted)

-- after the handshakes a connection is idle
idle-greeted : (spare : ℕ) → spare + 4 < 2 ^ 62 → (w v : Wire) → IsFresh w → v ≡ record w { phase = Command; rest = []; taken = w.taken + 4; out = [] } → IsIdle spare v
idle-greeted spare h w v f e = record {
  running = ap (λ (x : Wire). x.closed) e ∙ ap (λ (x : Wire). x.closed) f;
  quiet = ap (λ (x : Wire). x.out) e;
  commanding = ap (λ (x : Wire). x.phase) e;
  rest = ap (λ (x : Wire). x.rest) e;
  bounded = omega (arith, h, ap (λ (x : Wire). x.taken) e, ap (λ (x : Wire). x.taken) f);
}

pub Opened-from : (spare : ℕ) (a b c : Option Peer) → spare + 4 < 2 ^ 62 → Connected a b → Greeted b c → Opened spare a c
Opened-from spare None None None h c g = tt
Opened-from spare None None (Some q) h c g = g
Opened-from spare None (Some q) r h c g = absurd c
Opened-from spare (Some p) None r h c g = absurd c
Opened-from spare (Some p) (Some (Apart dev)) r h c g = absurd c
Opened-from spare (Some p) (Some (Joined w)) None h c g = absurd g
Opened-from spare (Some p) (Some (Joined w)) (Some (Apart dev)) h c g = absurd g
Opened-from spare (Some p) (Some (Joined w)) (Some (Joined v)) h c g =
    (ap (λ (u : Wire). u.device) g ∙ ap (λ (u : Wire). u.device) c.1, idle-greeted spare h w v (c.1 ∙ ap (λ (u : Wire). fresh u.device) (sym c.1)) g)

-- what ended a connection that had just begun left the device as it was
pub HungUp-lost : (a b c : Option Peer) → Connected a b → Lost b c → HungUp a c
HungUp-lost None None None c l = tt
HungUp-lost None None (Some q) c l = absurd l
HungUp-lost None (Some q) r c l = absurd c
HungUp-lost (Some p) None r c l = absurd c
HungUp-lost (Some p) (Some (Apart dev)) r c l = absurd c
HungUp-lost (Some p) (Some (Joined w)) None c l = absurd l
HungUp-lost (Some p) (Some (Joined w)) (Some (Joined v)) c l = absurd l
HungUp-lost (Some p) (Some (Joined w)) (Some (Apart dev)) c l = l ∙ ap (λ (u : Wire). u.device) c.1

untold-connected : (a b : Option Peer) → Connected a b → b ≡ None → a ≡ None
untold-connected None b c e = refl
untold-connected (Some p) None c e = absurd c
untold-connected (Some p) (Some q) c e = absurd (some-none q e)
  where
    some-none : (q : Peer) → Some q ≡ None → ⊥
    some-none q e = cc

pub untold-opened : (a b : Option Peer) → Connected a b → b ≡ None → a ≡ None
untold-opened a b c e = untold-connected a b c e

pub ruleset opens = (Begun-from, Opened-from, HungUp-lost, untold-opened)
