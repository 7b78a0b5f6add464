-- An image that is put in pieces.
use Rattle.std.proofs.Common.{◌≡◌, ◌⊎◌, inl, inr, ℕ, ◌+◌, ◌*◌, ◌<◌, ◌≤◌, true, List, [], ◌∷◌, ◌++◌, length, Option, Some, None, refl, sym, ap, ◌∙◌, subst, arith}
use Rattle.std.proofs.Math.Nat.{zero-mul, mul-le-mul_right}
use Rattle.std.proofs.lemmas.List.{append-nil, append_assoc}
use Rattle.std.proofs.lemmas.Grind.{flat_map-append}
use Rattle.std.specs.Prelude.{Ok, is_none, unwrap_or, flat_map, IfSome}
use Rattle.fb_frame.specs.Causes.{Rose}
use Rattle.fb_frame.specs.Sinks.{Grew}
use Rattle.fb_frame.proofs.SinkLemmas.{Grew-append, Grew-nothing}
use Rattle.dev_model.specs.declared.cells.Cell.{Cell}
use Rattle.dev_model.specs.declared.device.Dev.{Dev}
use Rattle.dev_model.specs.declared.device.Mode.TheVariants.{Halted}
use Rattle.dev_model.specs.declared.step.Step.TheVariants.{Put}
use Rattle.dev_model.specs.Attempts.{IsHaltedOver, Left}
use Rattle.dev_model.specs.Images.{image}
use Rattle.dev_model.specs.Partitions.{is_fastboot}
use Rattle.dev_model.specs.Refusals.{refusal_of}
use Rattle.dev_model.specs.Steps.{apply, can}
use Rattle.dev_model.proofs.LeavingLemmas.{left_stopped, left_serving}
use Rattle.dev_model.proofs.RefusingLemmas.{takes-none}
use Rattle.dev_model.proofs.Taken.{takes_unless_refused}
use Rattle.sparse_image.specs.Cuts.{Part, Cutting, AreCut, Cuts, part_len, part_bytes, part_cells, most_left}
use Rattle.sparse_image.specs.Pieces.{piece_cells}
use Rattle.sparse_image.specs.Walks.{Kept as KeptImage, kept_cells, checked, IsChecked}
use Rattle.sparse_image.proofs.PieceLemmas.{kept-long, piece-length}
use Rattle.wire_model.specs.Says.{loaded_image}
use Rattle.wire_told.specs.Peers.{Peer, Apart, Joined, device_of, OfLink, OnLink}
use Rattle.wire_told.specs.Ports.{Kept}
use Rattle.wire_told.proofs.Lifted.{of-of, of-both}
use Rattle.wire_told.proofs.PortLemmas.{Kept-same, Kept-trans}
use Rattle.fb_link.specs.Seen.{Seen}
use Rattle.host_driver.specs.declared.drive.DriveError.{DriveError}
use Rattle.host_driver.specs.declared.drive.DriveError.TheVariants as stop
use Rattle.host_driver.specs.Commands.{TookStep, RefusedStep}
use Rattle.host_driver.specs.Driven.{IsHaltedNow}
use Rattle.host_driver.specs.Driving.{Grows}
use Rattle.host_driver.specs.Jobs.{OfTold}
use Rattle.host_driver.specs.PutPieces.{ArePart, GoesOn}
use Rattle.host_driver.specs.Puts.{Whole, Putting, HasPut, PutFails, IsPieceLeft, IsPieceStuck, put_cost, piece_wire, image_cost, left_cost, IsFrontPut, ArePieces, IsPutSoFar, HasPutAll, PutBreaks}
use Rattle.host_driver.specs.Stepping.{IsServing, Serving, IsBrokenIn, IsStuck, IsFixed}
use Rattle.host_driver.specs.Wires.{part_wire, IsPut, LogGrew}
use Rattle.host_driver.proofs.DriveFixed.{fixed-same, fixed-is, fixed-then, fixed-took, fixed-over}
use Rattle.host_driver.proofs.TakeLemmas.{unshown-later}
use Rattle.host_driver.proofs.DriveTaken.{why-move}
use Rattle.host_driver.proofs.FrontLemmas.{front_put, front-none, front-all, front-next, refused-front}
use Rattle.host_driver.proofs.HaltLemmas.{running}
use Rattle.host_driver.proofs.PutPieceLemmas.{goes-both, back-on}

-- Relations of told devices.
told-map : (R S : Dev → Dev → Type 0) (a b : Option Peer) → ((s t : Dev) → R s t → S s t) → OfTold a b R → OfTold a b S
told-map R S None None f r = tt
told-map R S None (Some b) f r = absurd r
told-map R S (Some a) None f r = absurd r
told-map R S (Some a) (Some b) f r = f (device_of a) (device_of b) r

told-then : (R S T : Dev → Dev → Type 0) (a b c : Option Peer) → ((s t u : Dev) → R s t → S t u → T s u) → OfTold a b R → OfTold b c S → OfTold a c T
told-then R S T None None None f r s = tt
told-then R S T None None (Some c) f r s = absurd s
told-then R S T None (Some b) c f r s = absurd r
told-then R S T (Some a) None c f r s = absurd r
told-then R S T (Some a) (Some b) None f r s = absurd s
told-then R S T (Some a) (Some b) (Some c) f r s = f (device_of a) (device_of b) (device_of c) r s

told-self : (R : Dev → Dev → Type 0) (a : Option Peer) → ((s : Dev) → R s s) → OfTold a a R
told-self R None f = tt
told-self R (Some a) f = f (device_of a)

-- a fact of the link before and a relation of devices after
told-serving : (P : Dev → Type 0) (R S : Dev → Dev → Type 0) (spare : ℕ) (a b : Option Peer) → ((s t : Dev) → is_fastboot s.mode ≡ true → R s t → S s t) → Serving spare a → OfTold a b R → OfTold a b S
told-serving P R S spare None None f g r = tt
told-serving P R S spare None (Some b) f g r = absurd r
told-serving P R S spare (Some (Apart dev)) b f g r = absurd g
told-serving P R S spare (Some (Joined w)) None f g r = absurd r
told-serving P R S spare (Some (Joined w)) (Some b) f g r = f w.device (device_of b) g.runs r

-- a told option
some-map : {X : Type 0} (o : Option X) (P Q : X → Type 0) → ((x : X) → P x → Q x) → IfSome o P → IfSome o Q
some-map None P Q f p = tt
some-map (Some x) P Q f p = f x p

some-both : {X : Type 0} (o : Option X) (P Q R : X → Type 0) → ((x : X) → P x → Q x → R x) → IfSome o P → IfSome o Q → IfSome o R
some-both None P Q R f p q = tt
some-both (Some x) P Q R f p q = f x p q

some-all : {X : Type 0} (o : Option X) (P : X → Type 0) → ((x : X) → P x) → IfSome o P
some-all None P f = tt
some-all (Some x) P f = f x

-- A told device with a front put over its partition, and one piece more.
part-image : (part : Part) (file bytes : List ℕ) → bytes ≡ part_bytes part file → image (part_bytes part file) ≡ Some (part_cells part file) → image bytes ≡ Some (part_cells part file)
part-image part file bytes e i = ap image e ∙ i

loaded-part : (part : Part) (file bytes : List ℕ) → image bytes ≡ Some (part_cells part file) → loaded_image (Some bytes) ≡ part_cells part file
loaded-part part file bytes i = ap (λ o. unwrap_or o []) i

can-front : (name : List ℕ) (part cells : List Cell) (n : ℕ) (s t : Dev) → length part ≡ length cells → t ≡ front_put name cells n s → is_fastboot s.mode ≡ true → can (Put name part) t ≡ true → can (Put name cells) s ≡ true
can-front name part cells n s t long e f c =
    let r = takes-none (Put name part) t c in
    let q : refusal_of (Put name cells) s ≡ None = sym (refused-front name part cells n s long) ∙ (ap (λ (d : Dev). refusal_of (Put name part) d) (sym e) ∙ r) in
    takes_unless_refused (Put name cells) s f ∙ ap is_none q

module _ (file name : List ℕ) (kept : KeptImage) (is : checked file ≡ Ok kept) (first last : ℕ) (h : first ≤ last) (g : last ≤ kept.blocks) where
  abbrev whole : List Cell
  whole = kept_cells kept file

  abbrev piece : List Cell
  piece = piece_cells kept file first last

  long : length piece ≡ length whole
  long = piece-length file kept first last is h g

  next-front : (s t u : Dev) → is_fastboot s.mode ≡ true → IsFrontPut name whole (first * kept.block) s t → TookStep (Put name piece) t u → IsFrontPut name whole (last * kept.block) s u
  next-front s t u f p k = (
    k.taken ∙ (ap (λ (d : Dev). apply (Put name piece) d) p.0 ∙ front-next file name kept first last s is h g),
    inr (can-front name piece whole (first * kept.block) s t long p.0 f k.can_so),
  )

told-at : {X : Type 0} (o : Option X) (x : X) → o ≡ Some x → (P : X → Type 0) → IfSome o P → P x
told-at None x e P p = absurd cc
told-at (Some y) x e P p = let h : y ≡ x = cc in subst P h p

some-with : {X : Type 0} (o : Option X) (P : X → Type 0) → ((x : X) → o ≡ Some x → P x) → IfSome o P
some-with None P f = tt
some-with (Some x) P f = f x refl

-- What may still come.
pub Serving-less : (m n : ℕ) (a : Option Peer) → n ≤ m → Serving m a → Serving n a
Serving-less m n a h s = of-of (IsServing m) (IsServing n) (λ w p. record { free = record { running = p.free.running; bounded = (let b = p.free.bounded in omega (arith, b, h)) }; runs = p.runs }) a s

linked-next : (R : Dev → Dev → Type 0) (m n : ℕ) (a b : Option Peer) → Serving m a → OfTold a b R → Serving n b → OnLink (λ w v. Unit {0}) a b
linked-next R m n None None s r t = tt
linked-next R m n None (Some b) s r t = absurd r
linked-next R m n (Some (Apart dev)) b s r t = absurd s
linked-next R m n (Some (Joined w)) None s r t = absurd r
linked-next R m n (Some (Joined w)) (Some (Apart dev)) s r t = absurd t
linked-next R m n (Some (Joined w)) (Some (Joined v)) s r t = tt

linked-then : (a b c : Option Peer) → OnLink (λ w v. Unit {0}) a b → OnLink (λ w v. Unit {0}) b c → OnLink (λ w v. Unit {0}) a c
linked-then None None c r s = s
linked-then None (Some b) c r s = absurd r
linked-then (Some (Apart dev)) b c r s = absurd r
linked-then (Some (Joined w)) None c r s = absurd r
linked-then (Some (Joined w)) (Some (Apart dev)) c r s = absurd r
linked-then (Some (Joined w)) (Some (Joined v)) None r s = absurd s
linked-then (Some (Joined w)) (Some (Joined v)) (Some (Apart dev)) r s = absurd s
linked-then (Some (Joined w)) (Some (Joined v)) (Some (Joined u)) r s = tt

fits-next : (most n : ℕ) (name : List ℕ) (cells : List Cell) (a b : Option Peer) → OfLink (λ w. most ≤ w.device.max) a → OfTold a b (TookStep (Put name cells)) → Serving n b → OfLink (λ w. most ≤ w.device.max) b
fits-next most n name cells None None f r t = tt
fits-next most n name cells None (Some b) f r t = absurd r
fits-next most n name cells (Some (Apart dev)) b f r t = absurd f
fits-next most n name cells (Some (Joined w)) None f r t = absurd r
fits-next most n name cells (Some (Joined w)) (Some (Apart dev)) f r t = absurd t
fits-next most n name cells (Some (Joined w)) (Some (Joined v)) f r t =
    let e : v.device.max ≡ w.device.max = ap (λ (d : Dev). d.max) r.taken in subst (λ m. most ≤ m) (sym e) f

pub log-then : (P Q R : List ℕ → Type 0) → ((x y : List ℕ) → P x → Q y → R (x ++ y)) → (a b c : Option (List ℕ)) → LogGrew a b P → LogGrew b c Q → LogGrew a c R
log-then P Q R f None None c l m = none c m
  where
    none : (c : Option (List ℕ)) → LogGrew None c Q → LogGrew None c R
    none None m = tt
    none (Some c) m = absurd m
log-then P Q R f None (Some b) c l m = absurd l
log-then P Q R f (Some a) None c l m = absurd l
log-then P Q R f (Some a) (Some b) None l m = absurd m
log-then P Q R f (Some a) (Some b) (Some c) l m = (l.0 ++ m.0, m.1 ∙ (ap (λ t. t ++ m.0) l.1 ∙ append_assoc a l.0 m.0), f l.0 m.0 l.2 m.2)

pub log-map : (P Q : List ℕ → Type 0) → ((x : List ℕ) → P x → Q x) → (a b : Option (List ℕ)) → LogGrew a b P → LogGrew a b Q
log-map P Q f None None l = tt
log-map P Q f None (Some b) l = absurd l
log-map P Q f (Some a) None l = absurd l
log-map P Q f (Some a) (Some b) l = (l.0, l.1, f l.0 l.2)

pub log-self : (P : List ℕ → Type 0) → P [] → (a : Option (List ℕ)) → LogGrew a a P
log-self P p None = tt
log-self P p (Some a) = ([], sym (append-nil a), p)

-- The first piece.
goes-self : (a : Seen) (n : ℕ) → Serving n a.port.peer → GoesOn a a
goes-self a n s = record {
  quiet = of-of (IsServing n) (λ w. Grew a.text a.text []) (λ w p. Grew-nothing a.text) a.port.peer s;
  grows = record { more = []; grew = Grew-nothing a.text };
  heard = λ h. h;
  kept = Kept-same a.port;
}

linked-self : (n : ℕ) (a : Option Peer) → Serving n a → OnLink (λ w v. Unit {0}) a a
linked-self n None s = tt
linked-self n (Some (Apart dev)) s = absurd s
linked-self n (Some (Joined w)) s = tt

pub Put-begun : (p : Whole) (c : Cutting) (a : Seen) (n : ℕ) → c ≡ record { kept = p.kept; max = p.most; first = 0 } → most_left c ≤ p.kept.blocks * p.kept.block + 16 * 1000000 → Serving n a.port.peer → OfLink (λ w. p.most ≤ w.device.max) a.port.peer → IsPutSoFar p c a a
unfolding IsPutSoFar
Put-begun p c a n e most s f = record {
  kept_is = ap (λ (x : Cutting). x.kept) e;
  most_is = ap (λ (x : Cutting). x.max) e;
  within = (let z : c.first ≡ 0 = ap (λ (x : Cutting). x.first) e in omega (arith, z));
  linked = linked-self n a.port.peer s;
  parts = [];
  cut = λ rest h. subst (λ x. AreCut x rest) e h;
  front = some-all p.told _ (λ file. told-self _ a.port.peer (λ s. (
    sym (ap (λ k. front_put p.name (kept_cells p.kept file) k s) (zero-first e) ∙ front-none p.name (kept_cells p.kept file) s),
    inl (zero-first e),
  )));
  log = log-self (λ wire. OfLink (λ w. ArePieces p [] wire) a.port.peer) (of-of (IsServing n) (λ w. ArePieces p [] []) (λ w q. some-all p.told _ (λ file. refl)) a.port.peer s) a.port.log;
  serving = λ spare q. Serving-less (image_cost p.kept + spare) (left_cost c + spare) a.port.peer
      (let z : c.first ≡ 0 = ap (λ (x : Cutting). x.first) e in let k : c.kept.blocks ≡ p.kept.blocks = ap (λ (x : Cutting). x.kept.blocks) e in omega (arith, most, z, k)) q;
  fits = f;
  fixed = told-self IsFixed a.port.peer fixed-same;
  goes = goes-self a n s;
}
  where
    zero-first : c ≡ record { kept = p.kept; max = p.most; first = 0 } → c.first * p.kept.block ≡ 0
    zero-first e = ap (λ (x : Cutting). x.first * p.kept.block) e ∙ zero-mul p.kept.block

-- What the next piece needs.
pub Piece-serving : (p : Whole) (c d : Cutting) (part : Part) (a b : Seen) → IsPutSoFar p c a b → Cuts c (Some part) d → part.first < part.last → part.last ≤ part.kept.blocks → part_len part + most_left d ≤ most_left c + 64 → Serving (image_cost p.kept) a.port.peer → Serving (put_cost (part_len part)) b.port.peer
unfolding IsPutSoFar
Piece-serving p c d part a b s g more within most f =
    let all = s.serving 0 (Serving-less (image_cost p.kept) (image_cost p.kept + 0) a.port.peer (omega arith) f) in
    let x : part.first ≡ c.first = g.first in
    let k : part.kept.blocks ≡ c.kept.blocks = ap (λ (y : KeptImage). y.blocks) g.kept in
    Serving-less (left_cost c + 0) (put_cost (part_len part)) b.port.peer (omega (arith, x, k, more, within, most)) all

pub Piece-fits : (p : Whole) (c : Cutting) (part : Part) (a b : Seen) → IsPutSoFar p c a b → part_len part ≤ c.max → OfLink (λ w. part_len part ≤ w.device.max) b.port.peer
unfolding IsPutSoFar
Piece-fits p c part a b s h =
    of-of (λ w. p.most ≤ w.device.max) (λ w. part_len part ≤ w.device.max) (λ w q. (let m = s.most_is in omega (arith, m, q, h))) b.port.peer s.fits

pub Piece-kept : (p : Whole) (c d : Cutting) (part : Part) (a b : Seen) → IsPutSoFar p c a b → Cuts c (Some part) d → part.kept ≡ p.kept
unfolding IsPutSoFar
Piece-kept p c d part a b s g = g.kept ∙ s.kept_is

-- one piece more was put
took-cells : (name file bytes : List ℕ) (part : Part) (a b : Option Peer) → OfLink (λ w. ArePart (Some file) part bytes) a → OfTold a b (TookStep (Put name (loaded_image (Some bytes)))) → OfTold a b (TookStep (Put name (part_cells part file)))
took-cells name file bytes part None None p t = tt
took-cells name file bytes part None (Some b) p t = absurd t
took-cells name file bytes part (Some (Apart dev)) b p t = absurd p
took-cells name file bytes part (Some (Joined w)) None p t = absurd t
took-cells name file bytes part (Some (Joined w)) (Some b) p t =
    subst (λ c. TookStep (Put name c) w.device (device_of b)) (loaded-part part file bytes (part-image part file bytes p.wanted p.holds)) t

pieces-more : (p : Whole) (parts : List Part) (part : Part) (bytes x y : List ℕ) → ArePieces p parts x → ArePart p.told part bytes → y ≡ piece_wire p.name bytes → ArePieces p (parts ++ part ∷ []) (x ++ y)
pieces-more p parts part bytes x y s a e = more p.told s a.wanted
  where
    more : (o : Option (List ℕ)) → IfSome o (λ file. x ≡ flat_map (part_wire p.name file) parts) → IfSome o (λ file. bytes ≡ part_bytes part file) → IfSome o (λ file. x ++ y ≡ flat_map (part_wire p.name file) (parts ++ part ∷ []))
    more None s w = tt
    more (Some file) s w =
        ap (λ t. t ++ y) s
        ∙ (ap (λ t. flat_map (part_wire p.name file) parts ++ t) (e ∙ (ap (λ b. piece_wire p.name b) w ∙ sym (append-nil (part_wire p.name file part))))
        ∙ sym (flat_map-append (part_wire p.name file) parts (part ∷ [])))

front-more : (p : Whole) (c d : Cutting) (part : Part) (file : List ℕ) (s t u : Dev) → checked file ≡ Ok p.kept → part.kept ≡ p.kept → part.first ≡ c.first → d.first ≡ part.last → part.first < part.last → part.last ≤ p.kept.blocks → is_fastboot s.mode ≡ true
    → IsFrontPut p.name (kept_cells p.kept file) (c.first * p.kept.block) s t → TookStep (Put p.name (part_cells part file)) t u → IsFrontPut p.name (kept_cells p.kept file) (d.first * p.kept.block) s u
front-more p c d part file s t u is k x y more within f q r =
    subst (λ n. IsFrontPut p.name (kept_cells p.kept file) (n * p.kept.block) s u) (sym y)
    (next-front file p.name p.kept is part.first part.last (omega (arith, more)) within s t u f
    (subst (λ n. IsFrontPut p.name (kept_cells p.kept file) (n * p.kept.block) s t) (sym x) q)
    (subst (λ z. TookStep (Put p.name (piece_cells z file part.first part.last)) t u) k r))

pub Put-more : (p : Whole) (c d : Cutting) (part : Part) (w : Putting) (a b e : Seen) → IsChecked p.told (Ok p.kept) → Serving (image_cost p.kept) a.port.peer → IsPutSoFar p c a b → Cuts c (Some part) d → part.first < part.last → part.last ≤ part.kept.blocks → part_len part + most_left d ≤ most_left c + 64
    → w.name ≡ p.name → ((bytes : List ℕ) → w.Wanted bytes → ArePart p.told part bytes) → HasPut w (put_cost (part_len part)) b e → IsPutSoFar p d a e
unfolding IsPutSoFar
Put-more p c d part w a b e is f s g more within most name wanted h =
    let kept : part.kept ≡ p.kept = g.kept ∙ s.kept_is in
    let first : d.first ≡ part.last = ap (λ (x : Cutting). x.first) g.left in
    let dkept : d.kept ≡ c.kept = ap (λ (x : Cutting). x.kept) g.left in
    let blocks : part.kept.blocks ≡ p.kept.blocks = ap (λ (y : KeptImage). y.blocks) kept in
    let cblocks : c.kept.blocks ≡ p.kept.blocks = ap (λ (y : KeptImage). y.blocks) s.kept_is in
    let dblocks : d.kept.blocks ≡ p.kept.blocks = ap (λ (y : KeptImage). y.blocks) (dkept ∙ s.kept_is) in
    let end : part.last ≤ p.kept.blocks = omega (arith, within, blocks) in
    let start = g.first in
    let part_is = of-of (λ x. w.Wanted h.bytes) (λ x. ArePart p.told part h.bytes) (λ x q. wanted h.bytes q) b.port.peer h.part_is in
    let took : OfTold b.port.peer e.port.peer (TookStep (Put p.name (loaded_image (Some h.bytes)))) = subst (λ n. OfTold b.port.peer e.port.peer (TookStep (Put n (loaded_image (Some h.bytes))))) name h.took in
    let now = Piece-serving p c d part a b s g more within most f in
    let next = h.serving 0 (Serving-less (put_cost (part_len part)) (put_cost (part_len part) + 0) b.port.peer (omega arith) now) in
    let link = linked-next (TookStep (Put p.name (loaded_image (Some h.bytes)))) (put_cost (part_len part)) 0 b.port.peer e.port.peer now took next in
    record {
      kept_is = dkept ∙ s.kept_is;
      most_is = ap (λ (x : Cutting). x.max) g.left ∙ s.most_is;
      within = omega (arith, first, end);
      linked = linked-then a.port.peer b.port.peer e.port.peer s.linked link;
      parts = s.parts ++ part ∷ [];
      cut = λ rest q. subst (AreCut (record { kept = p.kept; max = p.most; first = 0 })) (sym (append_assoc s.parts (part ∷ []) rest)) (s.cut (part ∷ rest) (d, (g, q)));
      front = some-with p.told _ (λ file o.
          told-serving (λ x. Unit {0}) (λ x z. is_fastboot x.mode ≡ true → IsFrontPut p.name (kept_cells p.kept file) (d.first * p.kept.block) x z) (IsFrontPut p.name (kept_cells p.kept file) (d.first * p.kept.block)) (image_cost p.kept) a.port.peer e.port.peer (λ x z m r. r m) f
          (told-then (IsFrontPut p.name (kept_cells p.kept file) (c.first * p.kept.block)) (TookStep (Put p.name (part_cells part file))) (λ x z. is_fastboot x.mode ≡ true → IsFrontPut p.name (kept_cells p.kept file) (d.first * p.kept.block) x z) a.port.peer b.port.peer e.port.peer
          (λ x y z q r m. front-more p c d part file x y z (told-at p.told file o _ is) kept start first more end m q r)
          (told-at p.told file o _ s.front)
          (took-cells p.name file h.bytes part b.port.peer e.port.peer (subst (λ t. OfLink (λ x. ArePart t part h.bytes) b.port.peer) o part_is) took)));
      log = log-then (λ wire. OfLink (λ x. ArePieces p s.parts wire) a.port.peer) (λ wire. OfLink (λ x. wire ≡ piece_wire w.name h.bytes) b.port.peer) (λ wire. OfLink (λ x. ArePieces p (s.parts ++ part ∷ []) wire) a.port.peer)
          (λ x y q r. of-both (λ z. ArePieces p s.parts x) (λ z. ArePart p.told part h.bytes × (y ≡ piece_wire p.name h.bytes)) (λ z. ArePieces p (s.parts ++ part ∷ []) (x ++ y)) (λ z m n. pieces-more p s.parts part h.bytes x y m n.0 n.1) a.port.peer q
          (back-on (λ w v. Unit {0}) (ArePart p.told part h.bytes × (y ≡ piece_wire p.name h.bytes)) a.port.peer b.port.peer s.linked
          (of-both (λ z. ArePart p.told part h.bytes) (λ z. y ≡ piece_wire w.name h.bytes) (λ z. ArePart p.told part h.bytes × (y ≡ piece_wire p.name h.bytes)) (λ z m n. (m, n ∙ ap (λ t. piece_wire t h.bytes) name)) b.port.peer part_is r)))
          a.port.log b.port.log e.port.log s.log h.log;
      serving = λ spare q. h.serving (left_cost d + spare) (Serving-less (left_cost c + spare) (put_cost (part_len part) + (left_cost d + spare)) b.port.peer
          (omega (arith, first, more, end, start, most, cblocks, dblocks)) (s.serving spare q));
      fixed = told-then IsFixed (TookStep (Put p.name (loaded_image (Some h.bytes)))) IsFixed a.port.peer b.port.peer e.port.peer
          (λ x y z q r. fixed-then x y z q (fixed-took (Put p.name (loaded_image (Some h.bytes))) y z r)) s.fixed took;
      fits = fits-next p.most 0 p.name (loaded_image (Some h.bytes)) b.port.peer e.port.peer s.fits took next;
      goes = goes-both a b e (back-on (λ w v. Unit {0}) (Grew b.text e.text []) a.port.peer b.port.peer s.linked) s.goes h.goes;
    }

-- All pieces were put.
quiet-told : (Q : Type 0) (R : Dev → Dev → Type 0) (a b : Option Peer) → OfLink (λ w. Q) a → OnLink (λ w v. Unit {0}) a b → OfTold a b (λ s t. Q)
quiet-told Q R None None q r = tt
quiet-told Q R None (Some b) q r = absurd r
quiet-told Q R (Some (Apart dev)) b q r = absurd q
quiet-told Q R (Some (Joined w)) None q r = absurd r
quiet-told Q R (Some (Joined w)) (Some (Apart dev)) q r = absurd r
quiet-told Q R (Some (Joined w)) (Some (Joined v)) q r = q

all-took : (name file : List ℕ) (kept : KeptImage) (n : ℕ) (s t : Dev) → checked file ≡ Ok kept → n ≡ kept.blocks * kept.block → 0 < kept.blocks * kept.block → IsFrontPut name (kept_cells kept file) n s t → TookStep (Put name (kept_cells kept file)) s t
all-took name file kept n s t is e some q = record {
  can_so = pick q.1;
  taken = q.0 ∙ front-all name (kept_cells kept file) n s (omega (arith, e, kept-long file kept is));
}
  where
    pick : (n ≡ 0) ⊎ (can (Put name (kept_cells kept file)) s ≡ true) → can (Put name (kept_cells kept file)) s ≡ true
    pick (inl z) = absurd (omega (arith, z, e, some))
    pick (inr c) = c

pub Put-all : (p : Whole) (c d : Cutting) (a b : Seen) → IsChecked p.told (Ok p.kept) → 0 < p.kept.blocks * p.kept.block → Serving (image_cost p.kept) a.port.peer → IsPutSoFar p c a b → Cuts c None d → HasPutAll p a b
unfolding IsPutSoFar
Put-all p c d a b is some f s g =
    let serving = λ (spare : ℕ) (q : Serving (image_cost p.kept + spare) a.port.peer). Serving-less (left_cost c + spare) spare b.port.peer (omega arith) (s.serving spare q) in
    let end : c.first ≡ p.kept.blocks = g.0 ∙ ap (λ (y : KeptImage). y.blocks) s.kept_is in
    record {
      stepped = some-with p.told _ (λ file o. record {
        took = told-serving (λ x. Unit {0}) (IsFrontPut p.name (kept_cells p.kept file) (c.first * p.kept.block)) (TookStep (Put p.name (kept_cells p.kept file))) (image_cost p.kept) a.port.peer b.port.peer
            (λ x z m q. all-took p.name file p.kept (c.first * p.kept.block) x z (told-at p.told file o _ is) (ap (λ n. n * p.kept.block) end) some q) f (told-at p.told file o _ s.front);
        serving = λ boot spare q. serving spare q;
        quiet = quiet-told (Grew a.text b.text []) (λ x z. Unit {0}) a.port.peer b.port.peer s.goes.quiet s.linked;
        grows = s.goes.grows;
        heard = s.goes.heard;
        log = log-map (λ wire. OfLink (λ x. ArePieces p s.parts wire) a.port.peer) (λ wire. OfLink (λ x. IsPut p.name file p.kept p.most wire) a.port.peer)
            (λ wire q. of-of (λ x. ArePieces p s.parts wire) (λ x. IsPut p.name file p.kept p.most wire) (λ x r. record {
              parts = s.parts;
              cut = subst (AreCut (record { kept = p.kept; max = p.most; first = 0 })) (append-nil s.parts) (s.cut [] (d, g));
              wire = told-at p.told file o _ r;
            }) a.port.peer q) a.port.log b.port.log s.log;
        kept = s.goes.kept;
      });
      serving = serving;
      fixed = s.fixed;
      goes = s.goes;
    }

-- It broke off in a piece.
not-halted : (d : Dev) → is_fastboot d.mode ≡ true → d.mode ≡ Halted → ⊥
not-halted d f h = let n : is_fastboot Halted ≡ true = sym (ap is_fastboot h) ∙ f in cc

left-front : (name : List ℕ) (cells : List Cell) (n : ℕ) (s t : Dev) → n ≤ length cells → IsFrontPut name cells n s t → Left (Put name cells ∷ []) s 0 t
left-front name cells n s t h (e, inl z) = record {
  count = omega arith;
  before = s;
  taken = refl;
  next = inl (e ∙ (ap (λ k. front_put name cells k s) z ∙ front-none name cells s));
}
left-front name cells n s t h (e, inr c) = record {
  count = omega arith;
  before = s;
  taken = refl;
  next = inr (inr (c, n, h, e));
}

front-mode : (name : List ℕ) (cells : List Cell) (n : ℕ) (s t : Dev) → IsFrontPut name cells n s t → is_fastboot s.mode ≡ true → is_fastboot t.mode ≡ true
front-mode name cells n s t q f = ap (λ (d : Dev). is_fastboot d.mode) q.0 ∙ f

broken-at : (name : List ℕ) (cells : List Cell) (n : ℕ) (broke : Type 0) (s t : Dev) → is_fastboot s.mode ≡ true → n ≤ length cells → IsFrontPut name cells n s t → IsBrokenIn (Put name cells) broke s t
broken-at name cells n broke s t f h q =
    let g = front-mode name cells n s t q f in
    record {
      left = left_serving (Put name cells ∷ []) s t 0 (left-front name cells n s t h q) (running t.mode g);
      halted = λ m. absurd (not-halted t g m);
    }

broken-front : (p : Whole) (c d : Cutting) (part : Part) (file : List ℕ) (broke : Type 0) (s t u : Dev) → checked file ≡ Ok p.kept → part.kept ≡ p.kept → part.first ≡ c.first → d.first ≡ part.last → part.first < part.last → part.last ≤ p.kept.blocks → c.first * p.kept.block ≤ length (kept_cells p.kept file) → d.first * p.kept.block ≤ length (kept_cells p.kept file) → is_fastboot s.mode ≡ true
    → IsFrontPut p.name (kept_cells p.kept file) (c.first * p.kept.block) s t → (u ≡ t) ⊎ TookStep (Put p.name (part_cells part file)) t u ⊎ (broke × IsHaltedOver p.name t u) → IsBrokenIn (Put p.name (kept_cells p.kept file)) broke s u
broken-front p c d part file broke s t u is k x y more within h1 h2 f q (inl e) =
    broken-at p.name (kept_cells p.kept file) (c.first * p.kept.block) broke s u f h1 (e ∙ q.0, q.1)
broken-front p c d part file broke s t u is k x y more within h1 h2 f q (inr (inl r)) =
    broken-at p.name (kept_cells p.kept file) (d.first * p.kept.block) broke s u f h2 (front-more p c d part file s t u is k x y more within f q r)
broken-front p c d part file broke s t u is k x y more within h1 h2 f q (inr (inr r)) = record {
  left = left_stopped (Put p.name (kept_cells p.kept file) ∷ []) s t u 0 (left-front p.name (kept_cells p.kept file) (c.first * p.kept.block) s t h1 q) r.1;
  halted = λ m. r.0;
}

piece-left : (file : List ℕ) (part : Part) (w : Putting) (name : List ℕ) (broke more : Type 0) (t u : Dev) → w.name ≡ name → ((bytes : List ℕ) → w.Wanted bytes → ArePart (Some file) part bytes) → (broke → more) → IsPieceLeft w broke t u → (u ≡ t) ⊎ TookStep (Put name (part_cells part file)) t u ⊎ (more × IsHaltedOver name t u)
piece-left file part w name broke more t u e wanted later (inl x) = inl x
piece-left file part w name broke more t u e wanted later (inr (inl x)) =
    let a = wanted x.0 x.1 in
    inr (inl (subst (λ n. TookStep (Put n (part_cells part file)) t u) e (subst (λ c. TookStep (Put w.name c) t u) (loaded-part part file x.0 (part-image part file x.0 a.wanted a.holds)) x.2)))
piece-left file part w name broke more t u e wanted later (inr (inr x)) = inr (inr (later x.0, subst (λ n. IsHaltedOver n t u) e x.1))

piece-lives : (w : Putting) (broke : Type 0) (t u : Dev) → is_fastboot t.mode ≡ true → IsPieceLeft w broke t u → u.mode ≡ Halted → broke
piece-lives w broke t u f (inl e) h = absurd (not-halted u (ap (λ (d : Dev). is_fastboot d.mode) e ∙ f) h)
piece-lives w broke t u f (inr (inl x)) h = absurd (not-halted u (ap (λ (d : Dev). is_fastboot d.mode) x.2.taken ∙ f) h)
piece-lives w broke t u f (inr (inr x)) h = x.0

piece-fixed : (w : Putting) (broke : Type 0) (t u : Dev) → IsPieceLeft w broke t u → IsFixed t u
piece-fixed w broke t u (inl e) = fixed-is t u e
piece-fixed w broke t u (inr (inl x)) = fixed-took (Put w.name (loaded_image (Some x.0))) t u x.2
piece-fixed w broke t u (inr (inr x)) = fixed-over w.name t u x.1

stuck-front : (name : List ℕ) (part cells : List Cell) (n : ℕ) (text : List ℕ) (s t u : Dev) → length part ≡ length cells → IsFrontPut name cells n s t → RefusedStep (Put name part) text t u → RefusedStep (Put name cells) text s u
stuck-front name part cells n text s t u long q r =
    let refusal : refusal_of (Put name cells) s ≡ Some text = sym (refused-front name part cells n s long) ∙ (ap (λ (d : Dev). refusal_of (Put name part) d) (sym q.0) ∙ r.refusal) in
    record { refusal = refusal; same = pick q.1 refusal }
  where
    pick : (n ≡ 0) ⊎ (can (Put name cells) s ≡ true) → refusal_of (Put name cells) s ≡ Some text → u ≡ s
    pick (inl z) e = r.same ∙ (q.0 ∙ (ap (λ k. front_put name cells k s) z ∙ front-none name cells s))
    pick (inr c) e = let n = sym (takes-none (Put name cells) s c) ∙ e in absurd cc

linked-told : (a b : Option Peer) → OnLink (λ w v. Unit {0}) a b → OfTold a b (λ s t. Unit {0})
linked-told None None r = tt
linked-told None (Some b) r = absurd r
linked-told (Some (Apart dev)) b r = absurd r
linked-told (Some (Joined w)) None r = absurd r
linked-told (Some (Joined w)) (Some (Apart dev)) r = absurd r
linked-told (Some (Joined w)) (Some (Joined v)) r = tt

quiet-lost : (Q : Type 0) (R : Dev → Dev → Type 0) (a b : Option Peer) → OfLink (λ w. Q) a → OfTold a b R → OfTold a b (λ s t. Q)
quiet-lost Q R None None q r = tt
quiet-lost Q R None (Some b) q r = absurd r
quiet-lost Q R (Some (Apart dev)) b q r = absurd q
quiet-lost Q R (Some (Joined w)) None q r = absurd r
quiet-lost Q R (Some (Joined w)) (Some b) q r = q

linked-none : (a b : Option Peer) → OnLink (λ w v. Unit {0}) a b → b ≡ None → a ≡ None
linked-none None b r e = refl
linked-none (Some (Apart dev)) b r e = absurd r
linked-none (Some (Joined w)) None r e = absurd r
linked-none (Some (Joined w)) (Some b) r e = absurd cc

-- what is refused of the image
stuck-all : (p : Whole) (c : Cutting) (part : Part) (w : Putting) (file : List ℕ) (a b e : Seen) (error : DriveError) → checked file ≡ Ok p.kept → part.kept ≡ p.kept → part.first ≤ part.last → part.last ≤ p.kept.blocks → w.name ≡ p.name → ((bytes : List ℕ) → w.Wanted bytes → ArePart (Some file) part bytes) → Kept a.port b.port
    → OfTold a.port.peer b.port.peer (IsFrontPut p.name (kept_cells p.kept file) (c.first * p.kept.block)) → IsPieceStuck error w b.port e.port → IsStuck (Put p.name (kept_cells p.kept file)) a.port e.port error
stuck-all p c part w file a b e stop.Memory is k more within name wanted kept q r = tt
stuck-all p c part w file a b e (stop.Directory x) is k more within name wanted kept q r = tt
stuck-all p c part w file a b e stop.Output is k more within name wanted kept q r = tt
stuck-all p c part w file a b e stop.Link is k more within name wanted kept q r = tt
stuck-all p c part w file a b e stop.Ended is k more within name wanted kept q r = tt
stuck-all p c part w file a b e (stop.Peer x) is k more within name wanted kept q r = tt
stuck-all p c part w file a b e stop.TooManyInfos is k more within name wanted kept q r = tt
stuck-all p c part w file a b e (stop.Requirement line x value) is k more within name wanted kept q r = tt
stuck-all p c part w file a b e (stop.Plan line kind) is k more within name wanted kept q r = tt
stuck-all p c part w file a b e (stop.Refused text) is k more within name wanted kept q r =
    told-then (IsFrontPut p.name (kept_cells p.kept file) (c.first * p.kept.block)) _ _ a.port.peer b.port.peer e.port.peer one q r
  where
    part-long : length (part_cells part file) ≡ length (kept_cells p.kept file)
    part-long = subst (λ z. length (piece_cells z file part.first part.last) ≡ length (kept_cells p.kept file)) (sym k) (piece-length file p.kept part.first part.last is more within)

    by : (s t u : Dev) → IsFrontPut p.name (kept_cells p.kept file) (c.first * p.kept.block) s t → RefusedStep (Put p.name (part_cells part file)) text t u ⊎ IsHaltedNow b.port.faults e.port.faults text u → RefusedStep (Put p.name (kept_cells p.kept file)) text s u ⊎ IsHaltedNow a.port.faults e.port.faults text u
    by s t u m (inl x) = inl (stuck-front p.name (part_cells part file) (kept_cells p.kept file) (c.first * p.kept.block) text s t u part-long m x)
    by s t u m (inr x) = inr ((let n = x.0 in let l = kept.later in omega (arith, n, l)), x.1, x.2)

    one : (s t u : Dev) → IsFrontPut p.name (kept_cells p.kept file) (c.first * p.kept.block) s t → ((bytes : List ℕ) × w.Wanted bytes × ((cells : List Cell) → image bytes ≡ Some cells → RefusedStep (Put w.name cells) text t u ⊎ IsHaltedNow b.port.faults e.port.faults text u)) → RefusedStep (Put p.name (kept_cells p.kept file)) text s u ⊎ IsHaltedNow a.port.faults e.port.faults text u
    one s t u m x =
        let z = wanted x.0 x.1 in
        by s t u m (subst (λ n. RefusedStep (Put n (part_cells part file)) text t u ⊎ IsHaltedNow b.port.faults e.port.faults text u) name (x.2 (part_cells part file) (part-image part file x.0 z.wanted z.holds)))

pub Put-breaks : (Files : List ℕ → Type 0) (p : Whole) (c d : Cutting) (part : Part) (w : Putting) (a b e : Seen) (error : DriveError) → IsChecked p.told (Ok p.kept) → Serving (image_cost p.kept) a.port.peer → IsPutSoFar p c a b → Cuts c (Some part) d → part.first < part.last → part.last ≤ part.kept.blocks → part_len part + most_left d ≤ most_left c + 64
    → w.name ≡ p.name → ((bytes : List ℕ) → w.Wanted bytes → ArePart p.told part bytes) → ((x : List ℕ) → w.Files x → Files x) → PutFails w b e error → PutBreaks Files p a e error
unfolding IsPutSoFar
Put-breaks F p c d part w a b e error is f s g more within most name wanted files h =
    let kept : part.kept ≡ p.kept = g.kept ∙ s.kept_is in
    let first : d.first ≡ part.last = ap (λ (x : Cutting). x.first) g.left in
    let blocks : part.kept.blocks ≡ p.kept.blocks = ap (λ (y : KeptImage). y.blocks) kept in
    let end : part.last ≤ p.kept.blocks = omega (arith, within, blocks) in
    let now = Piece-serving p c d part a b s g more within most f in
    let later : Rose b.port.faults e.port.faults → Rose a.port.faults e.port.faults = λ r. (let l = s.goes.kept.later in omega (arith, r, l)) in
    let quiet = of-both (λ x. Grew a.text b.text []) (λ x. Grew b.text e.text []) (λ x. Grew a.text e.text []) (λ x y z. Grew-append a.text b.text e.text [] [] y z) a.port.peer s.goes.quiet (back-on (λ x v. Unit {0}) (Grew b.text e.text []) a.port.peer b.port.peer s.linked h.quiet) in
    let grows : Grows a.text e.text = record { more = s.goes.grows.more ++ h.grows.more; grew = Grew-append a.text b.text e.text s.goes.grows.more h.grows.more s.goes.grows.grew h.grows.grew } in
    let lives = told-then (λ x y. Unit {0}) (λ y z. z.mode ≡ Halted → Rose a.port.faults e.port.faults) (λ x z. z.mode ≡ Halted → Rose a.port.faults e.port.faults) a.port.peer b.port.peer e.port.peer (λ x y z m n. n) (linked-told a.port.peer b.port.peer s.linked)
    (told-serving (λ x. Unit {0}) (IsPieceLeft w (Rose b.port.faults e.port.faults)) (λ y z. z.mode ≡ Halted → Rose a.port.faults e.port.faults) (put_cost (part_len part)) b.port.peer e.port.peer (λ y z m n o. later (piece-lives w (Rose b.port.faults e.port.faults) y z m n o)) now h.left) in
    let unshown = unshown-later error a.port.peer b.port.peer (linked-none a.port.peer b.port.peer s.linked) h.unshown in
    let why = why-move w.Files F a.port b.port e.port error files s.goes.kept (linked-none a.port.peer b.port.peer s.linked) h.why in
    let all = Kept-trans a.port b.port e.port s.goes.kept h.kept in
    record {
      stopped = some-with p.told _ (λ file o.
          let checks = told-at p.told file o _ is in
          let want = λ (bytes : List ℕ) (q : w.Wanted bytes). subst (λ t. ArePart t part bytes) o (wanted bytes q) in
          let front = told-at p.told file o _ s.front in
          let size = kept-long file p.kept checks in
          record {
            why = why;
            left = told-serving (λ x. Unit {0}) (λ x z. is_fastboot x.mode ≡ true → IsBrokenIn (Put p.name (kept_cells p.kept file)) (Rose a.port.faults e.port.faults) x z) (IsBrokenIn (Put p.name (kept_cells p.kept file)) (Rose a.port.faults e.port.faults)) (image_cost p.kept) a.port.peer e.port.peer (λ x z m r. r m) f
                (told-then (IsFrontPut p.name (kept_cells p.kept file) (c.first * p.kept.block)) (IsPieceLeft w (Rose b.port.faults e.port.faults)) (λ x z. is_fastboot x.mode ≡ true → IsBrokenIn (Put p.name (kept_cells p.kept file)) (Rose a.port.faults e.port.faults) x z) a.port.peer b.port.peer e.port.peer
                (λ x y z q r m. broken-front p c d part file (Rose a.port.faults e.port.faults) x y z checks kept g.first first more end (front-within c.first p.kept (kept_cells p.kept file) size s.within) (front-within d.first p.kept (kept_cells p.kept file) size (omega (arith, first, end))) m q
                (piece-left file part w p.name (Rose b.port.faults e.port.faults) (Rose a.port.faults e.port.faults) y z name want later r))
                front h.left);
            stuck = stuck-all p c part w file a b e error checks kept (omega (arith, more)) end name want s.goes.kept front h.stuck;
            unshown = unshown;
            quiet = quiet-lost (Grew a.text e.text []) _ a.port.peer e.port.peer quiet lives;
            grows = grows;
            heard = λ x. h.heard (s.goes.heard x);
            down = h.down;
            sound = h.sound;
            kept = all;
          });
      lives = lives;
      fixed = told-then IsFixed (IsPieceLeft w (Rose b.port.faults e.port.faults)) IsFixed a.port.peer b.port.peer e.port.peer
          (λ x y z q r. fixed-then x y z q (piece-fixed w (Rose b.port.faults e.port.faults) y z r)) s.fixed h.left;
      unshown = unshown;
      why = why;
      quiet = quiet;
      grows = grows;
      heard = λ x. h.heard (s.goes.heard x);
      down = h.down;
      sound = h.sound;
      kept = all;
    }
  where
    front-within : (n : ℕ) (kept : KeptImage) (cells : List Cell) → length cells ≡ kept.blocks * kept.block → n ≤ kept.blocks → n * kept.block ≤ length cells
    front-within n kept cells e h = subst (λ l. n * kept.block ≤ l) (sym e) (mul-le-mul_right kept.block h)

pub ruleset puts = (Put-begun, Piece-serving, Piece-fits, Piece-kept)
