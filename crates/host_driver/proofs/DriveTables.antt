-- Tables that are downloaded, and super that is updated by them.
use Rattle.std.proofs.Common.{◌≡◌, ◌⊎◌, inl, inr, ℕ, ◌+◌, ◌*◌, ◌^◌, ◌<◌, ◌≤◌, Bool, true, false, List, [], ◌++◌, length, Option, Some, None, refl, sym, ap, ◌∙◌, subst, arith, append_assoc}
use Rattle.std.specs.Prelude.{is_some, unwrap_or, nat_le}
use Rattle.std.proofs.lemmas.Bool.Decides.{nat_tests}
use Rattle.super_meta.proofs.HeldLemmas.{too-long}
use Rattle.fb_frame.specs.Causes.{Rose}
use Rattle.fb_frame.specs.Sinks.{Grew}
use Rattle.fb_frame.proofs.SinkLemmas.{Grew-append}
use Rattle.fb_frame.specs.declared.tables.Tables.{Tables}
use Rattle.fb_message.specs.CommandText.{UpdateSuper}
use Rattle.dev_model.specs.declared.device.Dev.{Dev}
use Rattle.dev_model.specs.declared.step.Step.{Step}
use Rattle.dev_model.specs.declared.step.Step.TheVariants.{Table}
use Rattle.dev_model.specs.Partitions.{is_fastboot}
use Rattle.wire_model.specs.TableFile.{tables_of}
use Rattle.wire_model.specs.Wire.{Wire}
use Rattle.wire_told.specs.Answered.{Free}
use Rattle.wire_told.specs.Peers.{Peer, Apart, Joined, OfLink, OnLink}
use Rattle.wire_told.specs.Ports.{PortTold, Kept}
use Rattle.wire_told.specs.Told.{HungUp}
use Rattle.wire_told.proofs.Lifted.{of-of, of-both}
use Rattle.wire_told.proofs.PortLemmas.{Kept-trans}
use Rattle.fb_link.specs.Seen.{Seen, seen}
use Rattle.flash_plan.specs.Plans.{tables_in, no_tables}
use Rattle.flash_plan.specs.Products.{holds_tables}
use Rattle.host_driver.specs.declared.drive.DriveError.{DriveError}
use Rattle.host_driver.specs.declared.drive.DriveError.TheVariants as stop
use Rattle.host_driver.specs.Commands.{TookStep, BringsLoaded, RefusedStep}
use Rattle.host_driver.specs.Driven.{IsHaltedNow}
use Rattle.host_driver.specs.HeardLast.{HeardThen}
use Rattle.host_driver.specs.Jobs.{OfTold}
use Rattle.host_driver.specs.LinkOuts.{HasGivenUp}
use Rattle.host_driver.specs.PutPieces.{IsLoadedBy, AreSent, AreLoaded, GoesOn, HasBegun, HasEnded, HeardLoad, IsUnloaded, Unrefused}
use Rattle.host_driver.specs.Stepping.{IsServing, Serving, IsCommandAt, IsStepped, IsBrokenIn, IsStuck, IsStopped, NoFiles}
use Rattle.flash_plan.specs.declared.plan.Order.TheVariants as order
use Rattle.host_driver.specs.Taking.{Supply, taking, tables_cost, IsTablesWire, IsTaken, IsUntaken}
use Rattle.host_driver.specs.Wires.{command_wire, download_wire, LogGrew}
use Rattle.host_driver.proofs.AlongLemmas.{told-then}
use Rattle.host_driver.proofs.DriveTaken.{serving-less, taken-by, untaken-by, stopped-files}
use Rattle.host_driver.proofs.LoadLemmas.{on-none, why-later, Loads-all, Goes-on, Unloaded-ended, Unloaded-link}
use Rattle.host_driver.proofs.PutPieceLemmas.{download-long}
use Rattle.host_driver.proofs.FlashLemmas.{Free-serving}
use Rattle.host_driver.proofs.TakeLemmas.{same-lives, unshown-later}

-- A download changes no device.
same-on : (bytes : List ℕ) (a b : Option Peer) → OnLink (IsLoadedBy bytes) a b → OfTold a b (λ s t. t ≡ s)
same-on bytes None None l = tt
same-on bytes None (Some b) l = absurd l
same-on bytes (Some (Apart dev)) b l = absurd l
same-on bytes (Some (Joined w)) None l = absurd l
same-on bytes (Some (Joined w)) (Some (Apart dev)) l = absurd l
same-on bytes (Some (Joined w)) (Some (Joined v)) l = l.device

after-same : (R : Dev → Dev → Type 0) (a b c : Option Peer) → OfTold a b (λ s t. t ≡ s) → OfTold b c R → OfTold a c R
after-same R a b c e r = told-then (λ s t. t ≡ s) R R (λ s t u p q. subst (λ (d : Dev). R d u) p q) a b c e r

quiet-first : (Q : Type 0) (R : Dev → Dev → Type 0) (a b : Option Peer) → OfLink (λ w. Q) a → OfTold a b R → OfTold a b (λ s t. Q)
quiet-first Q R None None q r = tt
quiet-first Q R None (Some b) q r = absurd r
quiet-first Q R (Some (Apart dev)) b q r = absurd q
quiet-first Q R (Some (Joined w)) None q r = absurd r
quiet-first Q R (Some (Joined w)) (Some b) q r = q

-- what may still come after it
load-serving : (image : List ℕ) (spare : ℕ) (w v : Wire) → length image ≤ 131072 → IsServing (4104 + 9 * 131072 + spare) w → IsLoadedBy image w v → IsServing spare v
load-serving image spare w v few s l = record {
  free = record { running = l.running; bounded = (let b = s.free.bounded in let t = l.taken in let d = download-long image in omega (arith, b, t, d, few)) };
  runs = ap (λ (x : Dev). is_fastboot x.mode) l.device ∙ s.runs;
}

serving-loads : (image bytes : List ℕ) (spare : ℕ) (a b : Option Peer) → length image ≤ 131072 → OfLink (λ w. bytes ≡ image) a → OnLink (IsLoadedBy bytes) a b → Serving (4104 + 9 * 131072 + spare) a → Serving spare b
serving-loads image bytes spare None None few e l s = tt
serving-loads image bytes spare None (Some b) few e l s = absurd l
serving-loads image bytes spare (Some (Apart dev)) b few e l s = absurd l
serving-loads image bytes spare (Some (Joined w)) None few e l s = absurd l
serving-loads image bytes spare (Some (Joined w)) (Some (Apart dev)) few e l s = absurd l
serving-loads image bytes spare (Some (Joined w)) (Some (Joined v)) few e l s = load-serving image spare w v few s (subst (λ x. IsLoadedBy x w v) e l)

pub Serving-tables : (image : List ℕ) (a b : PortTold) → length image ≤ 131072 → AreLoaded (λ x. x ≡ image) a b → Serving tables_cost a.peer → Serving 4104 b.peer
unfolding AreLoaded
Serving-tables image a b few l s = serving-loads image l.bytes 4104 a.peer b.peer few l.wanted l.took (subst (λ n. Serving n a.peer) (omega arith) s)

pub Free-tables : (a : Option Peer) → Serving tables_cost a → Free a
Free-tables a s = Free-serving tables_cost a s

-- the tables that an image holds
some-tables : (o : Option Tables) → is_some o ≡ true → o ≡ Some (unwrap_or o no_tables)
some-tables None e = absurd cc
some-tables (Some t) e = refl

brings : (name : List ℕ) (wipe : Bool) (image : List ℕ) (w v : Wire) → holds_tables image ≡ true → w.device.super_name ≡ Some name → IsLoadedBy image w v → BringsLoaded name wipe (Table (tables_in (Some image)) wipe) v.device v.loaded
brings name wipe image w v holds own l = record {
  file = image;
  tables = tables_in (Some image);
  there = l.loaded;
  holds = some-tables (tables_of image) holds;
  own = ap (λ (d : Dev). d.super_name) l.device ∙ own;
  step_is = refl;
}

brings-on : (name : List ℕ) (wipe : Bool) (image bytes : List ℕ) (a b : Option Peer) → holds_tables image ≡ true → OfLink (λ w. w.device.super_name ≡ Some name) a → OfLink (λ w. bytes ≡ image) a → OnLink (IsLoadedBy bytes) a b →
    IsCommandAt (UpdateSuper name wipe) (Table (tables_in (Some image)) wipe) b
brings-on name wipe image bytes None None holds own e l = tt
brings-on name wipe image bytes None (Some b) holds own e l = absurd l
brings-on name wipe image bytes (Some (Apart dev)) b holds own e l = absurd l
brings-on name wipe image bytes (Some (Joined w)) None holds own e l = absurd l
brings-on name wipe image bytes (Some (Joined w)) (Some (Apart dev)) holds own e l = absurd l
brings-on name wipe image bytes (Some (Joined w)) (Some (Joined v)) holds own e l = brings name wipe image w v holds own (subst (λ x. IsLoadedBy x w v) e l)

pub Tables-at : (name : List ℕ) (wipe : Bool) (image : List ℕ) (a b : PortTold) → holds_tables image ≡ true → OfLink (λ w. w.device.super_name ≡ Some name) a.peer → AreLoaded (λ x. x ≡ image) a b →
    IsCommandAt (UpdateSuper name wipe) (Table (tables_in (Some image)) wipe) b.peer
unfolding AreLoaded
Tables-at name wipe image a b holds own l = brings-on name wipe image l.bytes a.peer b.peer holds own l.wanted l.took

log-then : (P Q R : List ℕ → Type 0) → ((x y : List ℕ) → P x → Q y → R (x ++ y)) → (a b c : Option (List ℕ)) → LogGrew a b P → LogGrew b c Q → LogGrew a c R
log-then P Q R f None None None l m = tt
log-then P Q R f None None (Some c) l m = absurd m
log-then P Q R f None (Some b) c l m = absurd l
log-then P Q R f (Some a) None c l m = absurd l
log-then P Q R f (Some a) (Some b) None l m = absurd m
log-then P Q R f (Some a) (Some b) (Some c) l m = (l.0 ++ m.0, m.1 ∙ (ap (λ t. t ++ m.0) l.1 ∙ append_assoc a l.0 m.0), f l.0 m.0 l.2 m.2)

pub Tables-stepped : (name : List ℕ) (wipe : Bool) (image : List ℕ) (s : Step) (a b c : Seen) → length image ≤ 131072 → AreLoaded (λ x. x ≡ image) a.port b.port → GoesOn a b →
    IsStepped 4104 (λ bytes. bytes ≡ command_wire (UpdateSuper name wipe)) s b c → IsStepped tables_cost (IsTablesWire name wipe image a.port.peer) s a c
unfolding AreLoaded
Tables-stepped name wipe image s a b c few l g k =
    let same = same-on l.bytes a.port.peer b.port.peer l.took in
    record {
      took = after-same (TookStep s) a.port.peer b.port.peer c.port.peer same k.took;
      serving = λ boot spare q. k.serving boot spare (serving-loads image l.bytes (4104 + spare) a.port.peer b.port.peer few l.wanted l.took (subst (λ n. Serving n a.port.peer) (omega arith) q));
      quiet = told-then (λ x y. Grew a.text b.text []) (λ x y. Grew b.text c.text []) (λ x y. Grew a.text c.text []) (λ x y z p q. Grew-append a.text b.text c.text [] [] p q) a.port.peer b.port.peer c.port.peer
          (quiet-first (Grew a.text b.text []) (λ x y. y ≡ x) a.port.peer b.port.peer g.quiet same) k.quiet;
      grows = record { more = g.grows.more ++ k.grows.more; grew = Grew-append a.text b.text c.text g.grows.more k.grows.more g.grows.grew k.grows.grew };
      heard = λ h. k.heard (g.heard h);
      log = log-then (λ wire. OfLink (λ w. wire ≡ download_wire l.bytes) a.port.peer) (λ bytes. bytes ≡ command_wire (UpdateSuper name wipe)) (IsTablesWire name wipe image a.port.peer)
          (λ x y p q. of-both (λ w. x ≡ download_wire l.bytes) (λ w. l.bytes ≡ image) (λ w. x ++ y ≡ download_wire image ++ command_wire (UpdateSuper name wipe))
          (λ w u v. ap (λ t. t ++ y) (u ∙ ap download_wire v) ∙ ap (λ t. download_wire image ++ t) q) a.port.peer p l.wanted) a.port.log b.port.log c.port.log l.log k.log;
      kept = Kept-trans a.port b.port c.port g.kept k.kept;
    }

-- It broke off in the download: the device is as it was.
broken-same : (s : Step) (broke : Type 0) (n : ℕ) (a b : Option Peer) → Serving n a → HungUp a b → OfTold a b (IsBrokenIn s broke)
broken-same s broke n None None f h = tt
broken-same s broke n None (Some b) f h = absurd h
broken-same s broke n (Some (Apart dev)) b f h = absurd f
broken-same s broke n (Some (Joined w)) None f h = absurd h
broken-same s broke n (Some (Joined w)) (Some (Joined v)) f h = absurd h
broken-same s broke n (Some (Joined w)) (Some (Apart dev)) f h = same-lives s broke w.device dev f.runs h

hung-told : (Q : Type 0) (a b : Option Peer) → OfLink (λ w. Q) a → HungUp a b → OfTold a b (λ s t. Q)
hung-told Q None None q h = tt
hung-told Q None (Some b) q h = absurd h
hung-told Q (Some (Apart dev)) b q h = absurd q
hung-told Q (Some (Joined w)) None q h = absurd h
hung-told Q (Some (Joined w)) (Some (Joined v)) q h = absurd h
hung-told Q (Some (Joined w)) (Some (Apart dev)) q h = q

untold-of : (R : Dev → Dev → Type 0) (a b : Option Peer) → a ≡ None → HungUp a b → OfTold a b R
untold-of R None None e h = tt
untold-of R None (Some b) e h = absurd h
untold-of R (Some a) b e h = absurd cc

unloaded-stuck : (s : Step) (a b : PortTold) (e : DriveError) → Unrefused e a.peer → HungUp a.peer b.peer → IsStuck s a b e
unloaded-stuck s a b stop.Memory u h = tt
unloaded-stuck s a b (stop.Directory file) u h = tt
unloaded-stuck s a b stop.Output u h = tt
unloaded-stuck s a b stop.Link u h = tt
unloaded-stuck s a b stop.Ended u h = tt
unloaded-stuck s a b (stop.Refused text) u h = untold-of (λ x y. RefusedStep s text x y ⊎ IsHaltedNow a.faults b.faults text y) a.peer b.peer u h
unloaded-stuck s a b (stop.Peer kept) u h = tt
unloaded-stuck s a b stop.TooManyInfos u h = tt
unloaded-stuck s a b (stop.Requirement line name value) u h = tt
unloaded-stuck s a b (stop.Plan line kind) u h = tt

pub Tables-unloaded : (s : Step) (a b : Seen) (e : DriveError) → Serving tables_cost a.port.peer → IsUnloaded NoFiles (HeardThen a.port.heard []) a b e → IsStopped NoFiles s a b e
Tables-unloaded s a b e f u = record {
  why = u.why;
  left = broken-same s (Rose a.port.faults b.port.faults) tables_cost a.port.peer b.port.peer f u.given_up.left;
  stuck = unloaded-stuck s a.port b.port e u.unrefused u.given_up.left;
  unshown = u.unshown;
  quiet = hung-told (Grew a.text b.text []) a.port.peer b.port.peer u.quiet u.given_up.left;
  grows = u.grows;
  heard = u.heard;
  down = u.given_up.down;
  sound = u.given_up.sound;
  kept = u.kept;
}

-- Or in the update.
broken-later : (s : Step) (broke more : Type 0) → (broke → more) → (x y : Dev) → IsBrokenIn s broke x y → IsBrokenIn s more x y
broken-later s broke more f x y b = record { left = b.left; halted = λ h. f (b.halted h) }

stuck-later : (s : Step) (a b c : PortTold) (e : DriveError) → Kept a b → OfTold a.peer b.peer (λ x y. y ≡ x) → IsStuck s b c e → IsStuck s a c e
stuck-later s a b c stop.Memory k m u = tt
stuck-later s a b c (stop.Directory file) k m u = tt
stuck-later s a b c stop.Output k m u = tt
stuck-later s a b c stop.Link k m u = tt
stuck-later s a b c stop.Ended k m u = tt
stuck-later s a b c (stop.Refused text) k m u =
    told-then (λ x y. y ≡ x) (λ x y. RefusedStep s text x y ⊎ IsHaltedNow b.faults c.faults text y) (λ x y. RefusedStep s text x y ⊎ IsHaltedNow a.faults c.faults text y)
    (λ x y z p q. one z (subst (λ (d : Dev). RefusedStep s text d z ⊎ IsHaltedNow b.faults c.faults text z) p q)) a.peer b.peer c.peer m u
  where
    one : {x : Dev} (z : Dev) → RefusedStep s text x z ⊎ IsHaltedNow b.faults c.faults text z → RefusedStep s text x z ⊎ IsHaltedNow a.faults c.faults text z
    one z (inl r) = inl r
    one z (inr h) = inr ((let r = h.0 in let l = k.later in omega (arith, r, l)), h.1, h.2)
stuck-later s a b c (stop.Peer kept) k m u = tt
stuck-later s a b c stop.TooManyInfos k m u = tt
stuck-later s a b c (stop.Requirement line name value) k m u = tt
stuck-later s a b c (stop.Plan line kind) k m u = tt

pub Tables-stopped : (image : List ℕ) (s : Step) (a b c : Seen) (e : DriveError) → AreLoaded (λ x. x ≡ image) a.port b.port → GoesOn a b → IsStopped NoFiles s b c e → IsStopped NoFiles s a c e
unfolding AreLoaded
Tables-stopped image s a b c e l g k =
    let same = same-on l.bytes a.port.peer b.port.peer l.took in
    let none = on-none (IsLoadedBy l.bytes) a.port.peer b.port.peer l.took in
    let later : Rose b.port.faults c.port.faults → Rose a.port.faults c.port.faults = λ r. (let h = g.kept.later in omega (arith, r, h)) in
    record {
      why = why-later NoFiles a.port b.port c.port e g.kept none k.why;
      left = after-same (IsBrokenIn s (Rose a.port.faults c.port.faults)) a.port.peer b.port.peer c.port.peer same
          (told-then (λ x y. y ≡ x) (IsBrokenIn s (Rose b.port.faults c.port.faults)) (IsBrokenIn s (Rose a.port.faults c.port.faults))
          (λ x y z p q. broken-later s (Rose b.port.faults c.port.faults) (Rose a.port.faults c.port.faults) later x z (subst (λ (d : Dev). IsBrokenIn s (Rose b.port.faults c.port.faults) d z) p q))
          b.port.peer b.port.peer c.port.peer (self b.port.peer) k.left);
      stuck = stuck-later s a.port b.port c.port e g.kept same k.stuck;
      unshown = unshown-later e a.port.peer b.port.peer none k.unshown;
      quiet = told-then (λ x y. Grew a.text b.text []) (λ x y. Grew b.text c.text []) (λ x y. Grew a.text c.text []) (λ x y z p q. Grew-append a.text b.text c.text [] [] p q) a.port.peer b.port.peer c.port.peer
          (quiet-first (Grew a.text b.text []) (λ x y. y ≡ x) a.port.peer b.port.peer g.quiet same) k.quiet;
      grows = record { more = g.grows.more ++ k.grows.more; grew = Grew-append a.text b.text c.text g.grows.more k.grows.more g.grows.grew k.grows.grew };
      heard = λ h. k.heard (g.heard h);
      down = k.down;
      sound = k.sound;
      kept = Kept-trans a.port b.port c.port g.kept k.kept;
    }
  where
    self : (p : Option Peer) → OfTold p p (λ x y. y ≡ x)
    self None = tt
    self (Some p) = refl

-- A download of these bytes.
long-bytes : (image : List ℕ) (n : ℕ) → n ≡ length image → (bytes : List ℕ) → bytes ≡ image → length bytes ≡ n
long-bytes image n e bytes q = ap length q ∙ sym e

fits-bytes : (image : List ℕ) (n : ℕ) (a : Option Peer) → n ≡ length image → OfLink (λ w. length image ≤ w.device.max) a → OfLink (λ w. n ≤ w.device.max) a
fits-bytes image n a e f = subst (λ m. OfLink (λ w. m ≤ w.device.max) a) (sym e) f

pub Bytes-loaded : (image : List ℕ) (n lines : ℕ) (a b : Seen) (c : PortTold) (d : Seen) → HasBegun n a b lines → AreSent (λ x. x ≡ image) b.port c → HasEnded lines (seen c b.text) d → n ≡ length image → AreLoaded (λ x. x ≡ image) a.port d.port
Bytes-loaded image n lines a b c d h s e l = Loads-all (λ x. x ≡ image) n lines a b c d (long-bytes image n l) h s e

pub Bytes-go : (image : List ℕ) (n lines : ℕ) (a b : Seen) (c : PortTold) (d : Seen) → HasBegun n a b lines → AreSent (λ x. x ≡ image) b.port c → HasEnded lines (seen c b.text) d → n ≡ length image →
    OfLink (λ w. length image ≤ w.device.max) a.port.peer → GoesOn a d
Bytes-go image n lines a b c d h s e l f = Goes-on (λ x. x ≡ image) n lines a b c d (fits-bytes image n a.port.peer l f) h s e

pub Bytes-ended : (image : List ℕ) (n lines : ℕ) (a b : Seen) (c : PortTold) (d : Seen) (error : DriveError) → HasBegun n a b lines → AreSent (λ x. x ≡ image) b.port c → IsUnloaded NoFiles (HeardLoad lines c.heard) (seen c b.text) d error →
    n ≡ length image → OfLink (λ w. length image ≤ w.device.max) a.port.peer → IsUnloaded NoFiles (HeardThen a.port.heard []) a d error
Bytes-ended image n lines a b c d error h s u l f = Unloaded-ended NoFiles (λ x. x ≡ image) n lines a b c d error (fits-bytes image n a.port.peer l f) h s u

pub Bytes-link : (image : List ℕ) (n lines : ℕ) (a b : Seen) (c : PortTold) → HasBegun n a b lines → HasGivenUp b.port c → Rose b.port.faults c.faults → n ≡ length image → OfLink (λ w. length image ≤ w.device.max) a.port.peer →
    IsUnloaded NoFiles (HeardThen a.port.heard []) a (seen c b.text) stop.Link
Bytes-link image n lines a b c h g r l f = Unloaded-link NoFiles n lines a b c (fits-bytes image n a.port.peer l f) h g r

never-some : (o : Option Tables) → o ≡ None → is_some o ≡ true → ⊥
never-some None e h = cc
never-some (Some t) e h = cc

-- an image of an empty super is at most 131,072 bytes long
pub tables-few : (image : List ℕ) → holds_tables image ≡ true → length image ≤ 131072
tables-few image h = by (nat_le (length image) 131072) refl
  where
    by : (b : Bool) → nat_le (length image) 131072 ≡ b → length image ≤ 131072
    by true e = grind (arith, nat_tests)
    by false e =
        let long : 131072 < length image = grind (arith, nat_tests) in
        let none = too-long image long in
        absurd (never-some (tables_of image) (sym none) h)

pub Tables-fit : (image : List ℕ) (most : ℕ) (a : Option Peer) → length image ≤ 131072 → 131072 ≤ most → OfLink (λ w. most ≤ w.device.max) a → OfLink (λ w. length image ≤ w.device.max) a
Tables-fit image most a h k f = of-of (λ w. most ≤ w.device.max) (λ w. length image ≤ w.device.max) (λ w q. omega (arith, h, k, q)) a f

pub Tables-room : (a : Option Peer) → Serving (2 ^ 30) a → Serving tables_cost a
Tables-room a s = serving-less (2 ^ 30) tables_cost a (omega arith) s

-- As a step of a plan.
pub Tables-taken : (s : Supply) (name : List ℕ) (wipe : Bool) (image : List ℕ) (a b : Seen) → s.product.empty ≡ Some image → IsStepped tables_cost (IsTablesWire name wipe image a.port.peer) (Table (tables_in (Some image)) wipe) a b →
    IsTaken (taking s (order.Table name wipe)) a b
Tables-taken s name wipe image a b e k =
    taken-by s (order.Table name wipe) tables_cost (IsTablesWire name wipe image a.port.peer) a b (omega arith)
    (λ files x w. subst (λ o. OfLink (λ v. x ≡ download_wire (unwrap_or o []) ++ command_wire (UpdateSuper name wipe)) a.port.peer) (sym e) w)
    (λ files. subst (λ o. IsStepped tables_cost (IsTablesWire name wipe image a.port.peer) (Table (tables_in o) wipe) a b) (sym e) k)

pub Tables-untaken : (F : List ℕ → Type 0) (s : Supply) (name : List ℕ) (wipe : Bool) (image : List ℕ) (a b : Seen) (error : DriveError) → s.product.empty ≡ Some image → IsStopped NoFiles (Table (tables_in (Some image)) wipe) a b error →
    IsUntaken F (taking s (order.Table name wipe)) a b error
Tables-untaken F s name wipe image a b error e k =
    untaken-by F s (order.Table name wipe) a b error
    (λ files. stopped-files F (Table (tables_in s.product.empty) wipe) a b error (subst (λ o. IsStopped NoFiles (Table (tables_in o) wipe) a b error) (sym e) k))

pub ruleset updates = (Serving-tables, Free-tables, Tables-unloaded)
