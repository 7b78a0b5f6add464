-- What one call of a session leaves.
use Rattle.std.proofs.Common.{◌≡◌, ◌⊎◌, inl, inr, ℕ, ◌+◌, ◌^◌, ◌<◌, ◌≤◌, Bool, true, false, not, ◌||◌, ◌&&◌, nat_le, nat_eq, nat_lt, List, [], ◌∷◌, ◌++◌, length, take, drop, Option, Some, None, refl, sym, ap, ◌∙◌, arith, append_assoc, length-append}
use Rattle.std.specs.Prelude.{IsTrue, if◌then◌else◌}
use Rattle.std.proofs.lemmas.Bool.Decides.{nat_tests}
use Rattle.std.proofs.lemmas.List.{take-append-drop, length-drop, length-take-le}
use Rattle.dev_disk.specs.Disks.{DiskTold}
use Rattle.dev_model.specs.declared.device.Dev.{Dev}
use Rattle.dev_model.specs.Partitions.{is_fastboot}
use Rattle.dev_store.specs.Held.{Held, image_of}
use Rattle.wire_model.specs.Says.{Said, says}
use Rattle.wire_model.specs.Wire as wire
use Rattle.wire_model.specs.Wire.{Wire, Phase, Item, front}
use Rattle.wire_model.proofs.InParts.{front-grows, front-case}
use Rattle.device_engine.specs.Running.{held_of, IsInOrder, Follows, Order, Ran, IsDone, Answer}
use Rattle.device_session.specs.declared.responder.Responder.{Responder}
use Rattle.device_session.specs.declared.inlet.Came.{Came}
use Rattle.device_session.specs.declared.inlet.Came.TheVariants as came
use Rattle.device_session.specs.Inlets.{Inflow, ComesTo, is_shaking}
use Rattle.device_session.specs.Answering.{side, Side, HearsBy, IsReady}
use Rattle.device_session.specs.Living.{live_of, wire_of, is_over, is_full, Feeds, IsAlive, SessionKept, StopsAtItem}
use Rattle.device_session.proofs.RunLemmas.{says-mode, Starts}
use Rattle.device_session.proofs.StillLemmas.{seen-mode, max-back}
use Rattle.device_session.proofs.FeedLemmas.{first, feeds-more, feeds-greeting, feeds-long, feeds-data}
use Rattle.device_session.proofs.OrderLemmas.{awaits-fresh, feeds-order}

-- what came in, and what is made of it
pub record Turn {K : Type 0} (told : K → DiskTold) (r s : Responder K) (i k j : Inflow) (bytes : List ℕ) (c : Came) (closes : Bool) : Type 0 where
  pub comes : ComesTo i bytes c k
  pub hears : HearsBy told c (side r k) (side s j) closes
  pub ready : IsReady c k r.outbox
  pub runs : IsTrue (is_fastboot (held_of r.device).device.mode)
  pub in_order : IsInOrder told (held_of r.device)
  pub some : 0 < length bytes
  pub limit : i.taken + length bytes ≤ 2 ^ 62

pub feeds-by : {K : Type 0} (told : K → DiskTold) (r s : Responder K) (i k j : Inflow) (bytes : List ℕ) (c : Came) (closes : Bool) → Turn told r s i k j bytes c closes →
    Feeds told (live_of r i false) (live_of s j (is_over closes j.taken)) bytes
feeds-by told r s i k j bytes came.More closes t =
    feeds-more told r s i k j bytes closes t.runs t.in_order t.limit t.comes.by t.comes.taken t.hears.0 t.hears.1
feeds-by told r s i k j bytes (came.Greeting good) closes t =
    feeds-greeting told r s i k j bytes good closes t.runs t.in_order t.limit t.comes.by t.comes.taken t.hears.0 t.hears.1
feeds-by told r s i k j bytes came.TooLong closes t =
    feeds-long told r s i k j bytes closes t.runs t.in_order t.limit t.comes.by t.comes.taken t.hears.0 t.hears.1
feeds-by told r s i k j bytes came.Command closes t =
    feeds-order told r s i k j bytes closes t.runs t.some t.limit t.ready.0 t.comes.by t.comes.taken t.hears
feeds-by told r s i k j bytes (came.Data whole) closes t =
    feeds-data told r s i k j bytes whole closes t.runs t.in_order t.limit t.comes.by t.comes.taken t.hears.0 t.hears.1

-- no more is taken than came, and the room stays
pub record IsCounted (k j : Inflow) : Type 0 where
  pub taken : j.taken ≡ k.taken
  pub room : j.room ≡ k.room

counted-as : {K : Type 0} (x y : Side K) (r s : Responder K) (k j : Inflow) → y ≡ x → x.inflow ≡ k → y ≡ side s j → IsCounted k j
counted-as x y r s k j e f g =
    let same : j ≡ k = ap (λ (z : Side _). z.inflow) (sym g ∙ e) ∙ f in
    record { taken = ap (λ (z : Inflow). z.taken) same; room = ap (λ (z : Inflow). z.room) same }

pub counted : {K : Type 0} (told : K → DiskTold) (r s : Responder K) (i k j : Inflow) (bytes : List ℕ) (c : Came) (closes : Bool) → Turn told r s i k j bytes c closes → IsCounted k j
counted told r s i k j bytes came.More closes t = counted-as _ _ r s k j t.hears.0 refl refl
counted told r s i k j bytes (came.Greeting good) closes t = counted-as _ _ r s k j t.hears.0 refl refl
counted told r s i k j bytes came.TooLong closes t = counted-as _ _ r s k j t.hears.0 refl refl
counted told r s i k j bytes came.Command closes t =
    let fresh = awaits-fresh t.hears.due k j t.comes.by.rest t.hears.awaits in record { taken = fresh.taken; room = fresh.room }
counted told r s i k j bytes (came.Data whole) closes t = counted-as _ _ r s k j t.hears.0 refl refl

-- a device that said it goes on runs fastboot still
goes-on : {K : Type 0} (told : K → DiskTold) (old new : Held K) (order : Order) (a : Answer) → IsTrue (is_fastboot old.device.mode) → a.closes ≡ false →
    IsDone (image_of told new) (says old.device order.loaded order.command) order new.device a →
    ((says old.device order.loaded order.command).device.mode ≡ old.device.mode) ⊎ Starts old.device (says old.device order.loaded order.command) →
    IsTrue (is_fastboot new.device.mode)
goes-on told old new order a f c d (inl e) =
    let said : Said = says old.device order.loaded order.command in
    let mode : new.device.mode ≡ old.device.mode = ap (λ (x : Dev). x.mode) d.left ∙ (seen-mode (image_of told new) said.device ∙ e) in
    ap is_fastboot mode ∙ f
goes-on told old new order a f c d (inr s) =
    let closed : a.closes ≡ true = d.closing ∙ s.closes in absurd cc

runs-on : {K : Type 0} (told : K → DiskTold) (old new : Held K) (order : Order) (a : Answer) → IsTrue (is_fastboot old.device.mode) → a.closes ≡ false →
    Ran told old new order a → IsTrue (is_fastboot new.device.mode)
unfolding Ran
runs-on told old new order a f c (inl d) = goes-on told old new order a f c d (says-mode old.device order.loaded order.command)
runs-on told old new order a f c (inr b) = let closed : a.closes ≡ true = ap (λ (x : Answer). x.closes) b.1.answered in absurd cc

runs-as : {K : Type 0} (x y : Side K) (r s : Responder K) (j : Inflow) → y ≡ x → held_of x.responder.device ≡ held_of r.device → y ≡ side s j →
    IsTrue (is_fastboot (held_of r.device).device.mode) → IsTrue (is_fastboot (held_of s.device).device.mode)
runs-as x y r s j e f g h =
    ap (λ (k : Held _). is_fastboot k.device.mode) (ap (λ (z : Side _). held_of z.responder.device) (sym g ∙ e) ∙ f) ∙ h

pub still-runs : {K : Type 0} (told : K → DiskTold) (r s : Responder K) (i k j : Inflow) (bytes : List ℕ) (c : Came) (closes : Bool) → Turn told r s i k j bytes c closes →
    closes ≡ false → IsTrue (is_fastboot (held_of s.device).device.mode)
still-runs told r s i k j bytes came.More closes t e = runs-as _ _ r s j t.hears.0 refl refl t.runs
still-runs told r s i k j bytes (came.Greeting good) closes t e = runs-as _ _ r s j t.hears.0 refl refl t.runs
still-runs told r s i k j bytes came.TooLong closes t e = runs-as _ _ r s j t.hears.0 refl refl t.runs
still-runs told r s i k j bytes came.Command closes t e = runs-on told (held_of r.device) (held_of s.device) _ _ t.runs e t.hears.ran.ran
still-runs told r s i k j bytes (came.Data whole) closes t e = runs-as _ _ r s j t.hears.0 refl refl t.runs

either-false : (a b : Bool) → (a || b) ≡ false → (a ≡ false) × (b ≡ false)
either-false true b e = absurd cc
either-false false b e = (refl, e)

below-limit : (n : ℕ) → nat_le (2 ^ 62) n ≡ false → n < 2 ^ 62
below-limit n e = grind (arith, nat_tests)

-- what a call keeps
pub kept : {K L : Type 0} (told : K → DiskTold) (lent : K → L) (r s : Responder K) (i k j : Inflow) (bytes : List ℕ) (c : Came) (closes : Bool) →
    Turn told r s i k j bytes c closes → (held_of r.device).device.max ≤ i.room → Follows told lent (held_of r.device) s.device →
    SessionKept told lent (live_of r i false) (live_of s j (is_over closes j.taken))
kept told lent r s i k j bytes c closes t fits follows =
    let count = counted told r s i k j bytes c closes t in
    record {
      alive = record {
        in_order = follows.in_order;
        runs = λ e. still-runs told r s i k j bytes c closes t (either-false closes (nat_le (2 ^ 62) j.taken) e).0;
        fits = λ e.
            let runs = still-runs told r s i k j bytes c closes t (either-false closes (nat_le (2 ^ 62) j.taken) e).0 in
            let max = max-back (held_of s.device).device.mode (held_of r.device).device.max (held_of s.device).device runs follows.max in
            omega (arith, max, count.room, t.comes.room, fits);
        limit = λ e. below-limit j.taken (either-false closes (nat_le (2 ^ 62) j.taken) e).1;
      };
      max = follows.max;
      kept = follows.kept;
      room = count.room ∙ t.comes.room;
    }

-- at most one item is complete, and it ends with the bytes
item-told : (i k : Inflow) (bytes : List ℕ) (c : Came) → ComesTo i bytes c k →
    (front i.phase (i.rest ++ bytes) ≡ None) ⊎ ((item : Item) × (front i.phase (i.rest ++ bytes) ≡ Some (item, [])))
item-told i k bytes came.More t = inl t.by.none
item-told i k bytes (came.Greeting good) t = inr (wire.Greeting t.by.four, t.by.item)
item-told i k bytes came.TooLong t = inr (wire.TooLong, t.by.item)
item-told i k bytes came.Command t = inr (wire.Payload k.command, t.by.item)
item-told i k bytes (came.Data whole) t = inr (wire.Payload t.by.payload, t.by.item)

no-item : (x : Item × List ℕ) → Some x ≡ None → ⊥
no-item x e = absurd cc

behind-item : (p q : Item × List ℕ) → Some p ≡ Some q → p.1 ≡ q.1
behind-item p q e = let same : p ≡ q = cc in ap (λ (f : Item × List ℕ). f.1) same

pub stops : (w : Wire) (i k : Inflow) (bytes : List ℕ) (c : Came) → w.phase ≡ i.phase → w.rest ≡ i.rest → ComesTo i bytes c k → StopsAtItem w bytes
stops w i k bytes c p r t n short =
    let whole : (w.rest ++ take n bytes) ++ drop n bytes ≡ i.rest ++ bytes =
    append_assoc w.rest (take n bytes) (drop n bytes) ∙ (ap (λ (l : List ℕ). w.rest ++ l) (take-append-drop n bytes) ∙ ap (λ (l : List ℕ). l ++ bytes) r) in
    elim (front-case (front w.phase (w.rest ++ take n bytes))) as (λ _. front w.phase (w.rest ++ take n bytes) ≡ None) [
      | inl none ↦ none
      | inr found ↦
          let g : front i.phase (i.rest ++ bytes) ≡ Some (found.0.0, found.0.1 ++ drop n bytes) =
          ap (λ (ph : Phase). front ph (i.rest ++ bytes)) (sym p) ∙ (ap (front w.phase) (sym whole) ∙ front-grows w.phase (w.rest ++ take n bytes) (drop n bytes) found.0 found.1) in
          absurd (elim (item-told i k bytes c t) as (λ _. ⊥) [
            | inl none ↦ no-item (found.0.0, found.0.1 ++ drop n bytes) (sym g ∙ none)
            | inr one ↦
                let e : found.0.1 ++ drop n bytes ≡ [] = behind-item (found.0.0, found.0.1 ++ drop n bytes) (one.0, []) (sym g ∙ one.1) in
                let size : length (found.0.1 ++ drop n bytes) ≡ 0 = ap length e in
                omega (arith, size, length-append found.0.1 (drop n bytes), length-drop n bytes, short)
          ])
    ]

-- nothing is left to give on where more is taken after the handshake
quiet : (p sh : Bool) (out : List ℕ) → (p || (not sh && not (nat_eq (length out) 0))) ≡ false → sh ≡ false → out ≡ []
quiet true sh out e f = absurd cc
quiet false true out e f = absurd cc
quiet false false [] e f = refl
quiet false false (x ∷ xs) e f =
    let no : nat_eq (length (x ∷ xs)) 0 ≡ false = grind (arith, nat_tests) in
    let yes : not (nat_eq (length (x ∷ xs)) 0) ≡ true = ap not no in absurd cc

item-of : (p q : Item × List ℕ) → Some p ≡ Some q → p.0 ≡ q.0
item-of p q e = let same : p ≡ q = cc in ap (λ (f : Item × List ℕ). f.0) same

other-item : (four : List ℕ) → wire.Greeting four ≡ wire.TooLong → ⊥
other-item four e = absurd cc

abbrev shaken-front : Bool → Item × List ℕ → Option (Item × List ℕ)
shaken-front b p = if b then None else Some p

not-greeting : (b : Bool) (four rest : List ℕ) → shaken-front b (wire.Greeting four, rest) ≡ Some (wire.TooLong, []) → ⊥
not-greeting true four rest e = no-item (wire.TooLong, []) (sym e)
not-greeting false four rest e = other-item four (item-of (wire.Greeting four, rest) (wire.TooLong, []) e)

long-phase : (ph : Phase) (bytes : List ℕ) → front ph bytes ≡ Some (wire.TooLong, []) → is_shaking ph ≡ false
long-phase wire.Shake bytes e = absurd (not-greeting (nat_lt (length bytes) 4) (take 4 bytes) (drop 4 bytes) e)
long-phase wire.Command bytes e = refl
long-phase (wire.Data count got) bytes e = refl

-- what is answered has room
pub readied : {K : Type 0} (r : Responder K) (i k : Inflow) (bytes piece : List ℕ) (c : Came) → ComesTo i bytes c k → is_full (first r i) piece ≡ false → IsReady c k r.outbox
readied r i k bytes piece came.More t e = tt
readied r i k bytes piece (came.Greeting good) t e = tt
readied r i k bytes piece came.TooLong t e =
    quiet (nat_eq (length piece) 0) (is_shaking i.phase) r.outbox e (long-phase i.phase (i.rest ++ bytes) t.by.item)
readied r i k bytes piece came.Command t e =
    (quiet (nat_eq (length piece) 0) (is_shaking i.phase) r.outbox e (ap is_shaking t.by.awaited), t.by.phase ∙ t.by.awaited, t.by.rest)
readied r i k bytes piece (came.Data whole) t e =
    quiet (nat_eq (length piece) 0) (is_shaking i.phase) r.outbox e (ap is_shaking t.by.awaited)

-- a session that isn't full: it is open, and there is something to take
pub record IsOpenFor {K : Type 0} (r : Responder K) (i : Inflow) (b : Bool) (piece : List ℕ) : Type 0 where
  pub running : b ≡ false
  pub room : is_full (first r i) piece ≡ false
  pub some : 0 < length piece

no-piece : (a c : Bool) (piece : List ℕ) → (nat_eq (length piece) 0 || c) ≡ false → 0 < length piece
no-piece a c piece e = let no = (either-false (nat_eq (length piece) 0) c e).0 in grind (arith, nat_tests)

pub open-for : {K : Type 0} (r : Responder K) (i : Inflow) (b : Bool) (piece : List ℕ) → is_full (wire_of (live_of r i b)) piece ≡ false → IsOpenFor r i b piece
open-for r i true piece e = absurd cc
open-for r i false piece e = record { running = refl; room = e; some = no-piece false _ piece e }

-- a call that takes a front of the piece
pub turn-of : {K : Type 0} (told : K → DiskTold) (r s : Responder K) (i k j : Inflow) (b : Bool) (piece : List ℕ) (n : ℕ) (c : Came) (closes : Bool) →
    IsOpenFor r i b piece → IsAlive told (live_of r i b) → n ≤ length piece → (0 < length piece → 0 < n) → k.taken ≤ 2 ^ 62 →
    ComesTo i (take n piece) c k → HearsBy told c (side r k) (side s j) closes → Turn told r s i k j (take n piece) c closes
turn-of told r s i k j b piece n c closes o alive within some limit comes hears =
    let long = length-take-le n piece within in
    record {
      comes = comes;
      hears = hears;
      ready = readied r i k (take n piece) piece c comes o.room;
      runs = alive.runs o.running;
      in_order = alive.in_order;
      some = omega (arith, long, some o.some);
      limit = omega (arith, comes.taken, limit);
    }
