-- What a question and a download leave, as a host above the typed states knows it.
use Rattle.std.proofs.Common.{◌≡◌, inl, inr, ℕ, ◌+◌, ◌-◌, ◌^◌, ◌≤◌, List, ◌++◌, length, Option, Some, None, refl, ap, ◌∙◌, arith, length-append}
use Rattle.std.specs.Prelude.{codes, nat_le, nat_lt}
use Rattle.std.proofs.lemmas.Bool.Decides.{nat_tests}
use Rattle.fb_frame.specs.Causes.{Rose}
use Rattle.fb_message.specs.CommandText.{CommandValue, GetVar, Download}
use Rattle.fb_message.specs.declared.reply.Reply.{Reply}
use Rattle.fb_message.specs.declared.reply.Reply.TheVariants.{Okay, Fail, Load}
use Rattle.fb_frame.specs.Numbers.{hex8}
use Rattle.fb_message.proofs.Words.{only-inverse}
use Rattle.dev_model.specs.declared.device.Dev.{Dev}
use Rattle.dev_model.specs.Refusals.{download_refusal}
use Rattle.wire_model.specs.Halts.{Halts}
use Rattle.wire_model.specs.Says.{Loaded, says, awaits}
use Rattle.wire_model.specs.Wire.{Wire}
use Rattle.wire_told.specs.Answered.{Stays, IsWritten, Wrote}
use Rattle.wire_told.specs.Exchanges.{said_to, IsExchanged, Exchanged, FreeFor}
use Rattle.wire_told.specs.Peers.{Peer, Apart, Joined, OnLink}
use Rattle.wire_told.specs.Ports.{PortTold, OpensAt}
use Rattle.wire_told.specs.Told.{Heard}
use Rattle.wire_told.proofs.ExchangeLemmas.{FreeFor-next, FreeFor-wrote, FreeFor-heard, FreeFor-less, FreeFor-opened, Loads-wrote, said-open}
use Rattle.wire_told.proofs.NextLemmas.{Stays-heard, Stays-trans}
use Rattle.wire_told.proofs.PortLemmas.{Kept-trans}
use Rattle.wire_told.proofs.StateLemmas.{suits-load, announces-download}
use Rattle.fb_link.specs.Concluded.{Concluded}
use Rattle.fb_link.specs.Seen.{Seen}
use Rattle.fb_link.proofs.TypedLemmas.{Exchanged-concluded}

-- What a command leaves that changes no device.
abbrev IsQuiet : CommandValue → Type 0
IsQuiet c = ((w : Wire) → (said_to c w).device ≡ w.device) × ((w : Wire) (t : Dev) → Halts w.device w.loaded c t → ⊥)

quiet-told : (broke : Type 0) (c : CommandValue) (end : Reply) → IsQuiet c → (w u : Wire) → IsExchanged broke c end w u → u.device ≡ w.device
quiet-told broke c end q w u (inl x) = x.device ∙ q.0 w
quiet-told broke c end q w u (inr x) = absurd (q.1 w u.device x.1.halts)

stays-on : (R : Wire → Wire → Type 0) → ((w u : Wire) → R w u → u.device ≡ w.device) → (a b : Option Peer) → OnLink R a b → Stays a b
stays-on R f None None r = tt
stays-on R f None (Some q) r = absurd r
stays-on R f (Some (Apart dev)) b r = absurd r
stays-on R f (Some (Joined w)) None r = absurd r
stays-on R f (Some (Joined w)) (Some (Apart dev)) r = absurd r
stays-on R f (Some (Joined w)) (Some (Joined v)) r = f w v r

awaits-device : (refusal : Option (List ℕ)) (count : ℕ) (dev : Dev) (loaded : Loaded) → (awaits refusal count dev loaded).device ≡ dev
awaits-device (Some text) count dev loaded = refl
awaits-device None count dev loaded = refl

load-device : (n : ℕ) (w : Wire) → (said_to (Download n) w).device ≡ w.device
unfolding says
load-device n w = awaits-device (download_refusal w.device n) n w.device w.loaded

asked-device : (name : List ℕ) (w : Wire) → (said_to (GetVar name) w).device ≡ w.device
unfolding says
asked-device name w = refl

pub Stays-asked : (name : List ℕ) (a b : PortTold) (end : Reply) → Exchanged (GetVar name) a b (Some end) → Stays a.peer b.peer
Stays-asked name a b end e =
    stays-on (IsExchanged (Rose a.faults b.faults) (GetVar name) end) (quiet-told (Rose a.faults b.faults) (GetVar name) end (asked-device name, λ w t h. h.change)) a.peer b.peer e

pub Stays-begun : (n : ℕ) (a b : PortTold) (end : Reply) → Exchanged (Download n) a b (Some end) → Stays a.peer b.peer
Stays-begun n a b end e =
    stays-on (IsExchanged (Rose a.faults b.faults) (Download n) end) (quiet-told (Rose a.faults b.faults) (Download n) end (load-device n, λ w t h. h.change)) a.peer b.peer e

pub Stays-wrote : (p : List ℕ) (a b : Option Peer) → Wrote a b p → Stays a b
Stays-wrote p a b g = stays-on (IsWritten p) (λ w v r. r.device) a b g

pub Stays-opened : (a b : Option Peer) → OpensAt a b → Stays a b
Stays-opened None None o = tt
Stays-opened None (Some q) o = absurd o
Stays-opened (Some p) None o = absurd o
Stays-opened (Some p) (Some (Apart dev)) o = absurd o
Stays-opened (Some p) (Some (Joined w)) o = ap (λ (x : Wire). x.device) o

-- How many bytes may come after it.
okay-told : (line : List ℕ) → Okay line ≡ Fail (codes "disk fault") → ⊥
okay-told line e = cc

load-told : (n : ℕ) → Load n ≡ Fail (codes "disk fault") → ⊥
load-told n e = cc

pub FreeFor-asked : (name : List ℕ) (a b : Seen) (line : List ℕ) (spare : ℕ) → FreeFor (4104 + spare) a.port.peer → Concluded (GetVar name) a b (Okay line) → FreeFor spare b.port.peer
FreeFor-asked name a b line spare f k =
    let o = only-inverse (nat_le (length name) 4089) (codes "getvar:" ++ name) k.payload k.spelled in
    let short : length name ≤ 4089 = (let e = o.0 in grind (arith, nat_tests)) in
    FreeFor-next (GetVar name) a.port b.port k.payload (Okay line) spare k.spelled (omega (arith, short, ap length o.1, length-append (codes "getvar:") name)) (said-open (GetVar name) refl) (okay-told line) f (Exchanged-concluded (GetVar name) a b (Okay line) k)

-- a download has the count that was asked for
pub counted : (n m : ℕ) (a b : Seen) → Concluded (Download n) a b (Load m) → m ≡ n
counted n m a b k = same-count (announces-download (Download n) m (suits-load (Download n) m k.suitable))
  where
    same-count : Download n ≡ Download m → m ≡ n
    same-count e = cc

pub FreeFor-begun : (n m : ℕ) (a b : Seen) (spare : ℕ) → FreeFor (4104 + spare) a.port.peer → Concluded (Download n) a b (Load m) → FreeFor spare b.port.peer
FreeFor-begun n m a b spare f k =
    let o = only-inverse (nat_lt n (2 ^ 32)) (codes "download:" ++ hex8 n) k.payload k.spelled in
    FreeFor-next (Download n) a.port b.port k.payload (Load m) spare k.spelled (omega (arith, ap length o.1, length-append (codes "download:") (hex8 n))) (said-open (Download n) refl) (load-told m) f (Exchanged-concluded (Download n) a b (Load m) k)

-- after a download in one frame
pub FreeFor-loaded : (n m : ℕ) (a b : Seen) (p x : List ℕ) (c d : Option Peer) (spare : ℕ) → FreeFor (4104 + (8 + length p + spare)) a.port.peer → Concluded (Download n) a b (Load m) → Wrote b.port.peer c p → Heard c d x → FreeFor spare d
FreeFor-loaded n m a b p x c d spare f k w h =
    FreeFor-heard spare x c d (FreeFor-wrote spare p b.port.peer c (FreeFor-begun n m a b (8 + length p + spare) f k) w) h

-- Two questions and a download, one after the other, of a connection that began.
pub first-free : (a b c : Option Peer) → OpensAt a b → ((spare : ℕ) → FreeFor (4104 + spare) b → FreeFor spare c) → FreeFor (2 ^ 60 + 200000) c
first-free a b c o f = f (2 ^ 60 + 200000) (FreeFor-less (2 ^ 61 - 4) (4104 + (2 ^ 60 + 200000)) b (omega arith) (FreeFor-opened a b o))

pub second-free : (b c : Option Peer) → FreeFor (2 ^ 60 + 200000) b → ((spare : ℕ) → FreeFor (4104 + spare) b → FreeFor spare c) → FreeFor (2 ^ 60 + 100000) c
second-free b c q f = f (2 ^ 60 + 100000) (FreeFor-less (2 ^ 60 + 200000) (4104 + (2 ^ 60 + 100000)) b (omega arith) q)

pub last-free : (n : ℕ) (b c : Option Peer) → n ≤ 65536 → FreeFor (2 ^ 60 + 100000) b → ((spare : ℕ) → FreeFor (4104 + (8 + n + spare)) b → FreeFor spare c) → FreeFor (2 ^ 60) c
last-free n b c h q f = f (2 ^ 60) (FreeFor-less (2 ^ 60 + 100000) (4104 + (8 + n + 2 ^ 60)) b (omega (arith, h)) q)

pub ruleset asks = (Stays-asked)

pub ruleset downloads = (counted, Stays-begun, Stays-wrote, Stays-heard, Stays-trans, Kept-trans, Loads-wrote)

pub ruleset calls = (Stays-opened, Stays-trans, Kept-trans)
