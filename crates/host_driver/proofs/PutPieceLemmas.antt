-- A piece of an image, downloaded and flashed.
use Rattle.std.proofs.Common.{◌≡◌, ◌⊎◌, inl, inr, ℕ, zero, suc, ◌+◌, ◌*◌, ◌/◌, ◌^◌, ◌≤◌, Bool, true, false, List, [], ◌∷◌, ◌++◌, length, length-append, length-drop, length-take, take, drop, Option, Some, None, ap, ◌∙◌, subst, arith}
use Rattle.std.proofs.lemmas.List.{append_assoc}
use Rattle.std.specs.Prelude.{unwrap_or, option_and_then, codes, nat_lt}
use Rattle.fb_frame.specs.Causes.{Rose}
use Rattle.fb_frame.specs.Framing.{frame}
use Rattle.fb_frame.specs.Numbers.{hex8}
use Rattle.fb_frame.specs.Sinks.{Grew}
use Rattle.fb_frame.proofs.SinkLemmas.{Grew-append}
use Rattle.fb_message.specs.CommandText.{Download, Flash, spelling}
use Rattle.fb_message.specs.Prefixes.{only_if}
use Rattle.dev_model.specs.declared.cells.Cell.{Cell}
use Rattle.dev_model.specs.declared.device.Dev.{Dev}
use Rattle.dev_model.specs.declared.step.Step.TheVariants.{Put}
use Rattle.dev_model.specs.Images.{image}
use Rattle.dev_model.specs.Partitions.{is_fastboot}
use Rattle.wire_model.specs.Says.{Loaded, loaded_image}
use Rattle.wire_model.specs.Wire.{Wire}
use Rattle.wire_told.specs.Peers.{Peer, Apart, Joined, OfLink, OnLink, OffLink}
use Rattle.wire_told.specs.Places.{Appended}
use Rattle.wire_told.specs.Ports.{PortTold, Kept}
use Rattle.wire_told.specs.Told.{HungUp}
use Rattle.wire_told.proofs.Lifted.{of-of, of-both, of-on}
use Rattle.wire_told.proofs.OneFrames.{length-frame}
use Rattle.wire_told.proofs.PortLemmas.{Kept-trans}
use Rattle.fb_link.specs.Seen.{Seen}
use Rattle.sparse_image.specs.Cuts.{Part, part_len}
use Rattle.host_driver.specs.declared.drive.DriveError.{DriveError}
use Rattle.host_driver.specs.declared.drive.DriveError.TheVariants as stop
use Rattle.host_driver.specs.Commands.{TookStep, RefusedStep}
use Rattle.host_driver.specs.Driven.{IsHaltedNow}
use Rattle.host_driver.specs.HeardLast.{HeardThen}
use Rattle.host_driver.specs.Jobs.{OfTold}
use Rattle.host_driver.specs.PutPieces.{ArePart, IsLoadedBy, AreLoaded, GoesOn, IsUnloaded, Unrefused}
use Rattle.host_driver.specs.Puts.{Putting, put_cost, piece_wire, HasFlashed, FlashFails, IsFlashLeft, IsFlashStuck, HasPut, IsPieceLeft, IsPieceStuck, PutFails}
use Rattle.host_driver.specs.Stepping.{IsServing, Serving}
use Rattle.host_driver.proofs.LoadLemmas.{on-none, why-later}
use Rattle.host_driver.proofs.TakeLemmas.{unshown-later}
use Rattle.host_driver.specs.Wires.{full_frames, last_frame, command_wire, data_wire, download_wire, LogGrew}

-- How many bytes a download is.
full-long : (k : ℕ) (x : List ℕ) → length (full_frames k x) ≤ 65544 * k
full-long zero x = omega arith
full-long (suc k) x =
    let one = length-frame (take 65536 x) in
    let rest = full-long k (drop 65536 x) in
    omega (arith, one, rest, length-take 65536 x, length-append (frame (take 65536 x)) (full_frames k (drop 65536 x)))

last-long : (x : List ℕ) → length (last_frame x) ≤ 9 * length x
last-long [] = omega arith
last-long (b ∷ x) = omega (arith, length-frame (b ∷ x))

data-long : (x : List ℕ) → length (data_wire x) ≤ 9 * length x
data-long x =
    let q = length x / 65536 in
    let a = full-long q x in
    let b = last-long (drop (65536 * q) x) in
    let c : 65536 * q ≤ length x = omega arith in
    omega (arith, a, b, c, length-drop (65536 * q) x, length-append (full_frames q x) (last_frame (drop (65536 * q) x)))

spelled-long : (b : Bool) (n : ℕ) → length (unwrap_or (only_if b (codes "download:" ++ hex8 n)) []) ≤ 17
spelled-long true n = omega (arith, length-append (codes "download:") (hex8 n))
spelled-long false n = omega arith

pub download-long : (x : List ℕ) → length (download_wire x) ≤ 4104 + 9 * length x
download-long x =
    let payload = unwrap_or (spelling (Download (length x))) [] in
    omega (arith, data-long x, length-frame payload, spelled-long (nat_lt (length x) (2 ^ 32)) (length x), length-append (frame payload) (data_wire x))

-- What may still come after it.
serving-loaded : (n spare : ℕ) (bytes : List ℕ) → length bytes ≡ n → (w v : Wire) → IsServing (4104 + 9 * n + spare) w → IsLoadedBy bytes w v → IsServing spare v
serving-loaded n spare bytes e w v s l = record {
  free = record { running = l.running; bounded = (let b = s.free.bounded in let t = l.taken in let d = download-long bytes in omega (arith, b, t, d, e)) };
  runs = ap (λ (x : Dev). is_fastboot x.mode) l.device ∙ s.runs;
}

part-serving : (told : Option (List ℕ)) (part : Part) (spare : ℕ) (bytes : List ℕ) (a b : Option Peer) → OfLink (λ w. ArePart told part bytes) a → OnLink (IsLoadedBy bytes) a b → Serving (4104 + 9 * part_len part + spare) a → Serving spare b
part-serving told part spare bytes a b p l s =
    of-on (λ w. ArePart told part bytes × IsServing (4104 + 9 * part_len part + spare) w) (IsLoadedBy bytes) (IsServing spare)
    (λ w v q y. serving-loaded (part_len part) spare bytes q.0.long w v q.1 y) a b
    (of-both (λ w. ArePart told part bytes) (IsServing (4104 + 9 * part_len part + spare)) (λ w. ArePart told part bytes × IsServing (4104 + 9 * part_len part + spare) w) (λ w x y. (x, y)) a p s) l

pub Serving-loaded : (told : Option (List ℕ)) (part : Part) (a b : PortTold) → AreLoaded (ArePart told part) a b → Serving (put_cost (part_len part)) a.peer → Serving 4104 b.peer
unfolding AreLoaded
Serving-loaded told part a b l s =
    part-serving told part 4104 l.bytes a.peer b.peer l.wanted l.took
    (subst (λ n. Serving n a.peer) (omega arith) s)

-- Both together.
pub goes-both : (a b c : Seen) → (OfLink (λ w. Grew b.text c.text []) b.port.peer → OfLink (λ w. Grew b.text c.text []) a.port.peer) → GoesOn a b → GoesOn b c → GoesOn a c
goes-both a b c back f g = record {
  quiet = of-both (λ w. Grew a.text b.text []) (λ w. Grew b.text c.text []) (λ w. Grew a.text c.text []) (λ w x y. Grew-append a.text b.text c.text [] [] x y) a.port.peer f.quiet (back g.quiet);
  grows = record { more = f.grows.more ++ g.grows.more; grew = Grew-append a.text b.text c.text f.grows.more g.grows.more f.grows.grew g.grows.grew };
  heard = λ h. g.heard (f.heard h);
  kept = Kept-trans a.port b.port c.port f.kept g.kept;
}

pub back-on : (R : Wire → Wire → Type 0) (Q : Type 0) (a b : Option Peer) → OnLink R a b → OfLink (λ w. Q) b → OfLink (λ w. Q) a
back-on R Q None b r q = tt
back-on R Q (Some (Apart dev)) b r q = absurd r
back-on R Q (Some (Joined w)) None r q = absurd r
back-on R Q (Some (Joined w)) (Some (Apart dev)) r q = absurd r
back-on R Q (Some (Joined w)) (Some (Joined v)) r q = q

took-both : (name bytes : List ℕ) (a b c : Option Peer) → OnLink (IsLoadedBy bytes) a b → OnLink (λ w u. TookStep (Put name (loaded_image w.loaded)) w.device u.device) b c → OfTold a c (TookStep (Put name (loaded_image (Some bytes))))
took-both name bytes None None None l t = tt
took-both name bytes None None (Some c) l t = absurd t
took-both name bytes None (Some b) c l t = absurd l
took-both name bytes (Some (Apart dev)) b c l t = absurd l
took-both name bytes (Some (Joined w)) None c l t = absurd l
took-both name bytes (Some (Joined w)) (Some (Apart dev)) c l t = absurd l
took-both name bytes (Some (Joined w)) (Some (Joined v)) None l t = absurd t
took-both name bytes (Some (Joined w)) (Some (Joined v)) (Some (Apart dev)) l t = absurd t
took-both name bytes (Some (Joined w)) (Some (Joined v)) (Some (Joined u)) l t =
    subst (λ (d : Dev). TookStep (Put name (loaded_image (Some bytes))) d u.device) l.device
    (subst (λ (o : Loaded). TookStep (Put name (loaded_image o)) v.device u.device) l.loaded t)

log-both : (P Q : List ℕ → Type 0) (x : List ℕ) → ((y : List ℕ) → P y → Q (y ++ x)) → (a b c : Option (List ℕ)) → LogGrew a b P → Appended b c x → LogGrew a c Q
log-both P Q x f None None None l p = tt
log-both P Q x f None None (Some c) l p = absurd p
log-both P Q x f None (Some b) c l p = absurd l
log-both P Q x f (Some a) None c l p = absurd l
log-both P Q x f (Some a) (Some b) None l p = absurd p
log-both P Q x f (Some a) (Some b) (Some c) l p = (l.0 ++ x, p ∙ (ap (λ t. t ++ x) l.1 ∙ append_assoc a l.0 x), f l.0 l.2)

pub Has-put : (p : Putting) (told : Option (List ℕ)) (part : Part) (a b c : Seen) → ((bytes : List ℕ) → ArePart told part bytes → p.Wanted bytes) → AreLoaded (ArePart told part) a.port b.port → GoesOn a b → HasFlashed p.name b c → HasPut p (put_cost (part_len part)) a c
unfolding AreLoaded
Has-put p told part a b c wanted l g f = record {
  bytes = l.bytes;
  part_is = of-of (λ w. ArePart told part l.bytes) (λ w. p.Wanted l.bytes) (λ w x. wanted l.bytes x) a.port.peer l.wanted;
  took = took-both p.name l.bytes a.port.peer b.port.peer c.port.peer l.took f.took;
  serving = λ spare s. f.serving spare (part-serving told part (4104 + spare) l.bytes a.port.peer b.port.peer l.wanted l.took (subst (λ n. Serving n a.port.peer) (omega arith) s));
  log = log-both (λ wire. OfLink (λ w. wire ≡ download_wire l.bytes) a.port.peer) (λ wire. OfLink (λ w. wire ≡ piece_wire p.name l.bytes) a.port.peer) (command_wire (Flash p.name))
      (λ y q. of-of (λ w. y ≡ download_wire l.bytes) (λ w. y ++ command_wire (Flash p.name) ≡ piece_wire p.name l.bytes) (λ w e. ap (λ t. t ++ command_wire (Flash p.name)) e) a.port.peer q)
      a.port.log b.port.log c.port.log l.log f.log;
  goes = goes-both a b c (back-on (IsLoadedBy l.bytes) (Grew b.text c.text []) a.port.peer b.port.peer l.took) g f.goes;
}

-- It broke off in the download: the device is as it was.
unloaded-left : (p : Putting) (broke : Type 0) (a b : Option Peer) → HungUp a b → OfTold a b (IsPieceLeft p broke)
unloaded-left p broke None None h = tt
unloaded-left p broke None (Some b) h = absurd h
unloaded-left p broke (Some a) None h = absurd h
unloaded-left p broke (Some a) (Some (Joined w)) h = absurd h
unloaded-left p broke (Some a) (Some (Apart dev)) h = inl h

untold-of : (R : Dev → Dev → Type 0) (a b : Option Peer) → a ≡ None → HungUp a b → OfTold a b R
untold-of R None None e h = tt
untold-of R None (Some b) e h = absurd h
untold-of R (Some a) b e h = absurd cc

unloaded-stuck : (p : Putting) (a b : PortTold) (e : DriveError) → Unrefused e a.peer → HungUp a.peer b.peer → IsPieceStuck e p a b
unloaded-stuck p a b stop.Memory u h = tt
unloaded-stuck p a b (stop.Directory file) u h = tt
unloaded-stuck p a b stop.Output u h = tt
unloaded-stuck p a b stop.Link u h = tt
unloaded-stuck p a b stop.Ended u h = tt
unloaded-stuck p a b (stop.Refused text) u h = untold-of _ a.peer b.peer u h
unloaded-stuck p a b (stop.Peer kept) u h = tt
unloaded-stuck p a b stop.TooManyInfos u h = tt
unloaded-stuck p a b (stop.Requirement line name value) u h = tt
unloaded-stuck p a b (stop.Plan line kind) u h = tt

pub Fails-loading : (p : Putting) (a b : Seen) (e : DriveError) → IsUnloaded p.Files (HeardThen a.port.heard []) a b e → PutFails p a b e
Fails-loading p a b e u = record {
  why = u.why;
  left = unloaded-left p (Rose a.port.faults b.port.faults) a.port.peer b.port.peer u.given_up.left;
  stuck = unloaded-stuck p a.port b.port e u.unrefused u.given_up.left;
  unshown = u.unshown;
  quiet = u.quiet;
  grows = u.grows;
  heard = u.heard;
  down = u.given_up.down;
  sound = u.given_up.sound;
  kept = u.kept;
}

-- Or in the flash.
flash-left : (p : Putting) (broke more : Type 0) (bytes : List ℕ) → (broke → more) → (a b c : Option Peer) → OfLink (λ w. p.Wanted bytes) a → OnLink (IsLoadedBy bytes) a b → OffLink (λ w t. IsFlashLeft broke p.name (loaded_image w.loaded) w.device t) b c → OfTold a c (IsPieceLeft p more)
flash-left p broke more bytes later None None None q l f = tt
flash-left p broke more bytes later None None (Some c) q l f = absurd f
flash-left p broke more bytes later None (Some b) c q l f = absurd l
flash-left p broke more bytes later (Some (Apart dev)) b c q l f = absurd l
flash-left p broke more bytes later (Some (Joined w)) None c q l f = absurd l
flash-left p broke more bytes later (Some (Joined w)) (Some (Apart dev)) c q l f = absurd l
flash-left p broke more bytes later (Some (Joined w)) (Some (Joined v)) None q l f = absurd f
flash-left p broke more bytes later (Some (Joined w)) (Some (Joined v)) (Some (Joined u)) q l f = absurd f
flash-left p broke more bytes later (Some (Joined w)) (Some (Joined v)) (Some (Apart t)) q l f =
    subst (λ (d : Dev). IsPieceLeft p more d t) l.device (by (subst (λ (o : Loaded). IsFlashLeft broke p.name (loaded_image o) v.device t) l.loaded f))
  where
    by : IsFlashLeft broke p.name (loaded_image (Some bytes)) v.device t → IsPieceLeft p more v.device t
    by (inl e) = inl e
    by (inr (inl k)) = inr (inl (bytes, q, k))
    by (inr (inr h)) = inr (inr (later h.0, h.1))

stuck-later : (name text : List ℕ) (j k l : ℕ) → j ≤ k → (cells : List Cell) (s t : Dev) → RefusedStep (Put name cells) text s t ⊎ IsHaltedNow k l text t → RefusedStep (Put name cells) text s t ⊎ IsHaltedNow j l text t
stuck-later name text j k l n cells s t (inl x) = inl x
stuck-later name text j k l n cells s t (inr x) = inr ((let r = x.0 in omega (arith, r, n)), x.1, x.2)

stuck-each : (p : Putting) (text bytes : List ℕ) (j k l : ℕ) → j ≤ k → (a b c : Option Peer) → OfLink (λ w. p.Wanted bytes) a → OnLink (IsLoadedBy bytes) a b
    → OffLink (λ w t. (cells : List Cell) → option_and_then image w.loaded ≡ Some cells → RefusedStep (Put p.name cells) text w.device t ⊎ IsHaltedNow k l text t) b c
    → OfTold a c (λ s t. (bytes : List ℕ) × p.Wanted bytes × ((cells : List Cell) → image bytes ≡ Some cells → RefusedStep (Put p.name cells) text s t ⊎ IsHaltedNow j l text t))
stuck-each p text bytes j k l n None None None q x f = tt
stuck-each p text bytes j k l n None None (Some c) q x f = absurd f
stuck-each p text bytes j k l n None (Some b) c q x f = absurd x
stuck-each p text bytes j k l n (Some (Apart dev)) b c q x f = absurd x
stuck-each p text bytes j k l n (Some (Joined w)) None c q x f = absurd x
stuck-each p text bytes j k l n (Some (Joined w)) (Some (Apart dev)) c q x f = absurd x
stuck-each p text bytes j k l n (Some (Joined w)) (Some (Joined v)) None q x f = absurd f
stuck-each p text bytes j k l n (Some (Joined w)) (Some (Joined v)) (Some (Joined u)) q x f = absurd f
stuck-each p text bytes j k l n (Some (Joined w)) (Some (Joined v)) (Some (Apart t)) q x f = (
  bytes,
  q,
  λ cells e. stuck-later p.name text j k l n cells w.device t
      (subst (λ (d : Dev). RefusedStep (Put p.name cells) text d t ⊎ IsHaltedNow k l text t) x.device (f cells (ap (option_and_then image) x.loaded ∙ e))),
)

flash-stuck : (p : Putting) (bytes : List ℕ) (a b c : PortTold) (e : DriveError) → Kept a b → OfLink (λ w. p.Wanted bytes) a.peer → OnLink (IsLoadedBy bytes) a.peer b.peer → IsFlashStuck e p.name b c → IsPieceStuck e p a c
flash-stuck p bytes a b c stop.Memory k q l f = tt
flash-stuck p bytes a b c (stop.Directory file) k q l f = tt
flash-stuck p bytes a b c stop.Output k q l f = tt
flash-stuck p bytes a b c stop.Link k q l f = tt
flash-stuck p bytes a b c stop.Ended k q l f = tt
flash-stuck p bytes a b c (stop.Refused text) k q l f = stuck-each p text bytes a.faults b.faults c.faults k.later a.peer b.peer c.peer q l f
flash-stuck p bytes a b c (stop.Peer kept) k q l f = tt
flash-stuck p bytes a b c stop.TooManyInfos k q l f = tt
flash-stuck p bytes a b c (stop.Requirement line name value) k q l f = tt
flash-stuck p bytes a b c (stop.Plan line kind) k q l f = tt

pub Fails-flashing : (p : Putting) (told : Option (List ℕ)) (part : Part) (a b c : Seen) (e : DriveError) → ((bytes : List ℕ) → ArePart told part bytes → p.Wanted bytes) → AreLoaded (ArePart told part) a.port b.port → GoesOn a b → FlashFails p.name b c e → PutFails p a c e
unfolding AreLoaded
Fails-flashing p told part a b c e wanted l g f =
    let is = of-of (λ w. ArePart told part l.bytes) (λ w. p.Wanted l.bytes) (λ w x. wanted l.bytes x) a.port.peer l.wanted in
    record {
      why = why-later p.Files a.port b.port c.port e g.kept (on-none (IsLoadedBy l.bytes) a.port.peer b.port.peer l.took) f.why;
      left = flash-left p (Rose b.port.faults c.port.faults) (Rose a.port.faults c.port.faults) l.bytes (λ r. (let n = g.kept.later in omega (arith, r, n))) a.port.peer b.port.peer c.port.peer is l.took f.left;
      stuck = flash-stuck p l.bytes a.port b.port c.port e g.kept is l.took f.stuck;
      unshown = unshown-later e a.port.peer b.port.peer (on-none (IsLoadedBy l.bytes) a.port.peer b.port.peer l.took) f.unshown;
      quiet = of-both (λ w. Grew a.text b.text []) (λ w. Grew b.text c.text []) (λ w. Grew a.text c.text []) (λ w x y. Grew-append a.text b.text c.text [] [] x y) a.port.peer g.quiet
          (back-on (IsLoadedBy l.bytes) (Grew b.text c.text []) a.port.peer b.port.peer l.took f.quiet);
      grows = record { more = g.grows.more ++ f.grows.more; grew = Grew-append a.text b.text c.text g.grows.more f.grows.more g.grows.grew f.grows.grew };
      heard = λ h. f.heard (g.heard h);
      down = f.down;
      sound = f.sound;
      kept = Kept-trans a.port b.port c.port g.kept f.kept;
    }

pub ruleset puts = (Serving-loaded)
