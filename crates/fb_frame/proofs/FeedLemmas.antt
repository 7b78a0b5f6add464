-- What a deframer tells of pieces is what the stream is cut into.
use Rattle.std.proofs.Common.{◌≡◌, ◌≢◌, ℕ, zero, suc, true, ◌+◌, ◌-◌, ◌*◌, ◌^◌, ◌<◌, ◌≤◌, List, [], ◌∷◌, ◌++◌, length, take, drop, map, Option, Some, None, refl, sym, ap, ◌∙◌, subst, arith, length-append, append_assoc, append-nil, length-take, length-drop}
use Rattle.std.specs.Prelude.{flat_map}
use Rattle.std.specs.Int.{w64, from_be_bytes}
use Rattle.std.proofs.lemmas.Nat.{from_be_bytes-to_be_bytes_8}
use Rattle.std.proofs.lemmas.Bool.Decides.{nat_tests}
use Rattle.std.proofs.lemmas.List.{take_all, take-take, map-append}
use Rattle.std.proofs.lemmas.List.Elements.{All-append, All-cons, All-nil}
use Rattle.std.proofs.lemmas.Grind.{flat_map-append}
use Rattle.std.proofs.Math.Seq.{take-add, take-append_seam}
use Rattle.fb_frame.specs.declared.deframer.Event.{Event}
use Rattle.fb_frame.specs.declared.deframer.Event.TheVariants.{More, Length, Bytes, End}
use Rattle.fb_frame.specs.Bytes.{AreBytes}
use Rattle.fb_frame.specs.Framing.{head, frame, announced, lacks_frame, HasFrame, Cut}
use Rattle.fb_frame.specs.Stages.{Stage, Head, Left, Feeds}
use Rattle.fb_frame.proofs.FieldLemmas.{bytes-append, bytes-take, bytes-drop}
use Rattle.fb_frame.specs.Gathered.{Gathered, nothing, noted, Notes, half, IsStage, Reads, ReadsTold, CutsTold}

-- a head goes on
reads-more : (bytes front piece : List ℕ) (told : Gathered) → AreBytes piece → Reads bytes told (Head front) → length front + length piece < 8 →
    Reads (bytes ++ piece) told (Head (front ++ piece))
reads-more bytes front piece told small r l = record {
  frames = ap (λ t. t ++ piece) r.frames ∙ append_assoc (flat_map frame told.whole) front piece;
  lengths = r.lengths;
  fits = r.fits;
  stands = (omega (arith, length-append front piece), r.stands.1, bytes-append front piece r.stands.2 small);
}

-- a head is complete
reads-head : (bytes front x : List ℕ) (len : ℕ) (told : Gathered) → Reads bytes told (Head front) →
    front ++ x ≡ head len → len < 2 ^ 64 → Reads (bytes ++ x) (noted (Length len) x told) (Left len)
reads-head bytes front x len told r v s =
    let e : head len ≡ front ++ x = sym v in
    let none : told.part ≡ [] = r.stands.1 in
    let k : len ≡ length told.part + len = omega (arith, ap length none) in
    record {
      frames = ap (λ t. t ++ x) r.frames ∙ (append_assoc (flat_map frame told.whole) front x
          ∙ ap (λ t. flat_map frame told.whole ++ t) (sym e ∙ (ap head k ∙ (sym (append-nil (head (length told.part + len)))
          ∙ ap (λ t. head (length told.part + len) ++ t) (sym none)))));
      lengths = ap (λ t. t ++ len ∷ []) (r.lengths ∙ append-nil (map length told.whole)) ∙ ap (λ n. map length told.whole ++ n ∷ []) k;
      fits = r.fits;
      stands = omega (arith, s, ap length none);
    }

-- bytes of a payload come
reads-bytes : (bytes x : List ℕ) (count : ℕ) (told : Gathered) → Reads bytes told (Left count) → length x ≤ count →
    Reads (bytes ++ x) (noted Bytes x told) (Left (count - length x))
reads-bytes bytes x count told r l =
    let p = told.part in
    let k : length p + count ≡ length (p ++ x) + (count - length x) = omega (arith, length-append p x) in
    record {
      frames = ap (λ t. t ++ x) r.frames ∙ (append_assoc (flat_map frame told.whole) (head (length p + count) ++ p) x
          ∙ ap (λ t. flat_map frame told.whole ++ t) (append_assoc (head (length p + count)) p x ∙ ap (λ m. head m ++ (p ++ x)) k));
      lengths = r.lengths ∙ ap (λ m. map length told.whole ++ m ∷ []) k;
      fits = r.fits;
      stands = omega (arith, r.stands, length-append p x);
    }

-- a payload ends
reads-end : (bytes x : List ℕ) (told : Gathered) → Reads bytes told (Left 0) → Reads bytes (noted End x told) (Head [])
reads-end bytes x told r =
    let p = told.part in
    let k : length p + 0 ≡ length p = omega arith in
    let more : flat_map frame (told.whole ++ p ∷ []) ≡ flat_map frame told.whole ++ frame p =
    flat_map-append frame told.whole (p ∷ []) ∙ ap (λ t. flat_map frame told.whole ++ t) (append-nil (frame p)) in
    record {
      frames = r.frames ∙ (ap (λ m. flat_map frame told.whole ++ (head m ++ p)) k ∙ (sym more ∙ sym (append-nil (flat_map frame (told.whole ++ p ∷ [])))));
      lengths = r.lengths ∙ (ap (λ m. map length told.whole ++ m ∷ []) k ∙ (sym (map-append length told.whole (p ∷ [])) ∙ sym (append-nil (map length (told.whole ++ p ∷ [])))));
      fits = All-append HasFrame told.whole (p ∷ []) r.fits (All-cons HasFrame p [] (omega (arith, r.stands)) (All-nil HasFrame));
      stands = (omega arith, refl, λ i. omega arith);
    }

-- one feed
pub fed : (bytes piece : List ℕ) (n : ℕ) (event : Event) (stage next : Stage) (told : Gathered) → AreBytes piece → Reads bytes told stage →
    Feeds stage piece n event next → Reads (bytes ++ take n piece) (noted event (take n piece) told) next
fed bytes piece n More (Head front) next told small r f =
    let e : take n piece ≡ piece = take_all n piece (omega (arith, f.0)) in
    rw (e, f.2) (reads-more bytes front piece told small r (omega (arith, f.0, f.1)))
fed bytes piece n (Length len) (Head front) next told small r f =
    rw f.5 (reads-head bytes front (take n piece) len told r f.2 f.3)
fed bytes piece n Bytes (Head front) next told small r f = absurd f
fed bytes piece n End (Head front) next told small r f = absurd f
fed bytes piece n More (Left count) next told small r f = rw (f.1, f.3, append-nil) r
fed bytes piece n (Length len) (Left count) next told small r f = absurd f
fed bytes piece n Bytes (Left count) next told small r f =
    let l : length (take n piece) ≡ n = omega (arith, f.1, length-take n piece) in
    let g = reads-bytes bytes (take n piece) count told r (omega (arith, l, f.1)) in
    rw f.2 (subst (λ t. Reads (bytes ++ take n piece) (noted Bytes (take n piece) told) (Left (count - t))) l g)
fed bytes piece n End (Left count) next told small r f =
    rw (f.1, f.2, append-nil) (reads-end bytes [] told (subst (λ t. Reads bytes told (Left t)) f.0 r))

-- one feed, by what a listener tells
told-fed : (bytes piece : List ℕ) (n : ℕ) (event : Event) (stage next : Stage) (a b : Option Gathered) → AreBytes piece → ReadsTold bytes a stage →
    Feeds stage piece n event next → Notes event (take n piece) a b → ReadsTold (bytes ++ take n piece) b next
told-fed bytes piece n event stage next (Some told) (Some now) small r f k = rw k (fed bytes piece n event stage next told small r f)
told-fed bytes piece n event stage next None (Some now) small r f k = absurd k
told-fed bytes piece n event stage next (Some told) None small r f k = tt
told-fed bytes piece n event stage next None None small r f k = tt

-- one turn of the loop over a piece
pub turn : (bytes piece : List ℕ) (at n m : ℕ) (event : Event) (stage next : Stage) (a b : Option Gathered) → AreBytes piece → at + n ≤ length piece → m ≡ n →
    ReadsTold (bytes ++ take at piece) a stage → Feeds stage (take (length piece - at) (drop at piece)) n event next → Notes event (take m (drop at piece)) a b →
    ReadsTold (bytes ++ take (at + n) piece) b next
turn bytes piece at n m event stage next a b small h e r f k =
    let x = take (length piece - at) (drop at piece) in
    let t : take n x ≡ take n (drop at piece) = take-take n (length piece - at) (drop at piece) (omega (arith, h)) in
    let w : (bytes ++ take at piece) ++ take n x ≡ bytes ++ take (at + n) piece =
    append_assoc bytes (take at piece) (take n x) ∙ ap (λ y. bytes ++ y) (ap (λ y. take at piece ++ y) t ∙ sym (take-add at n piece)) in
    let g : Notes event (take n x) a b = subst (λ y. Notes event y a b) (ap (λ c. take c (drop at piece)) e ∙ sym t) k in
    subst (λ y. ReadsTold y b next) w
    (told-fed (bytes ++ take at piece) x n event stage next a b (bytes-take (length piece - at) (drop at piece) (bytes-drop at piece small)) r f g)

more-all : (piece : List ℕ) (at n : ℕ) (stage next : Stage) → at ≤ length piece → Feeds stage (take (length piece - at) (drop at piece)) n More next → length piece ≤ at + n
more-all piece at n (Head front) next l f = omega (arith, f.0, length-take (length piece - at) (drop at piece), length-drop at piece)
more-all piece at n (Left count) next l f = omega (arith, ap length f.0, length-take (length piece - at) (drop at piece), length-drop at piece)

-- the turn that ends the loop
pub last : (bytes piece : List ℕ) (at n m : ℕ) (event : Event) (stage next : Stage) (a b : Option Gathered) → AreBytes piece → at + n ≤ length piece → event ≡ More → m ≡ n →
    ReadsTold (bytes ++ take at piece) a stage → Feeds stage (take (length piece - at) (drop at piece)) n event next → Notes event (take m (drop at piece)) a b →
    ReadsTold (bytes ++ piece) b next
last bytes piece at n m event stage next a b small h x e r f k =
    let g = subst (λ v. Feeds stage (take (length piece - at) (drop at piece)) n v next) x f in
    subst (λ y. ReadsTold (bytes ++ y) b next) (take_all (at + n) piece (more-all piece at n stage next (omega (arith, h)) g))
    (turn bytes piece at n m event stage next a b small h e r f k)

abbrev left-of : Stage → ℕ
left-of (Head front) = 1
left-of (Left count) = count

pub not-due : (piece : List ℕ) (n : ℕ) (event : Event) (stage next : Stage) → event ≡ More → Feeds stage piece n event next → next ≢ Left 0
not-due piece n event stage next x f = more piece n stage next (subst (λ v. Feeds stage piece n v next) x f)
  where
    more : (piece : List ℕ) (n : ℕ) (stage next : Stage) → Feeds stage piece n More next → next ≢ Left 0
    more piece n (Head front) next f e = let g : 1 ≡ 0 = ap left-of (sym f.2 ∙ e) in omega (arith, g)
    more piece n (Left count) next f e = let g : count ≡ 0 = ap left-of (sym f.3 ∙ e) in omega (arith, g, f.2)

-- a stage before a payload weighs one
abbrev pub weight : Stage → ℕ
weight (Head front) = 0
weight (Left count) = 1

-- a feed that told no More goes on
pub falls : (piece : List ℕ) (n len : ℕ) (event : Event) (stage next : Stage) → Feeds stage piece n event next → event ≢ More → length piece ≡ len →
    2 * (len - n) + weight next < 2 * len + weight stage
falls piece n len More stage next f ne e = absurd (ne refl)
falls piece n len (Length l) (Head front) next f ne e = subst (λ s. 2 * (len - n) + weight s < 2 * len + 0) (sym f.5) (omega (arith, f.0, f.4))
falls piece n len (Length l) (Left count) next f ne e = absurd f
falls piece n len Bytes (Head front) next f ne e = absurd f
falls piece n len Bytes (Left count) next f ne e = subst (λ s. 2 * (len - n) + weight s < 2 * len + 1) (sym f.2) (omega (arith, f.0, f.1))
falls piece n len End (Head front) next f ne e = absurd f
falls piece n len End (Left count) next f ne e = subst (λ s. 2 * (len - n) + weight s < 2 * len + 1) (sym f.2) (omega (arith, f.1))

-- before the first frame
pub reads-nothing : Reads [] nothing (Head [])
reads-nothing = record { frames = refl; lengths = refl; fits = All-nil HasFrame; stands = (omega arith, refl, λ i. omega arith) }

announced-head : (n : ℕ) (part : List ℕ) → n < 2 ^ 64 → announced (head n ++ part) ≡ n
unfolding announced
announced-head n part h = ap (from_be_bytes w64) (take-append_seam (head n) part) ∙ from_be_bytes-to_be_bytes_8 n h

lacks-front : (front : List ℕ) → length front < 8 → lacks_frame front ≡ true
lacks-front front h = grind (arith, nat_tests)

lacks-part : (n : ℕ) (part : List ℕ) → n < 2 ^ 64 → length part < n → lacks_frame (head n ++ part) ≡ true
lacks-part n part h l =
    let told = announced-head n part h in
    let long : length (head n ++ part) ≡ 8 + length part = length-append (head n) part in
    grind (arith, nat_tests)

-- what stands half read is no whole frame, where no payload's end is due
lacks-half : (stage : Stage) (part : List ℕ) → stage ≢ Left 0 → IsStage stage part → lacks_frame (half stage part) ≡ true
lacks-half (Head front) part h s = lacks-front front s.0
lacks-half (Left zero) part h s = absurd (h refl)
lacks-half (Left (suc count)) part h s = lacks-part (length part + suc count) part s (omega arith)

cut-told : (bytes : List ℕ) (told : Gathered) (stage : Stage) → stage ≢ Left 0 → Reads bytes told stage → Cut bytes told.whole (half stage told.part)
cut-told bytes told stage h r = record { whole = r.frames; each = r.fits; partial = lacks-half stage told.part h r.stands }

pub cuts : (bytes : List ℕ) (a : Option Gathered) (stage : Stage) → stage ≢ Left 0 → ReadsTold bytes a stage → CutsTold bytes a stage
cuts bytes None stage h r = tt
cuts bytes (Some told) stage h r = (cut-told bytes told stage h r, r.lengths)

head-not-left : (stage : Stage) → stage ≡ Head [] → stage ≢ Left 0
head-not-left stage e f = let g : 1 ≡ 0 = ap left-of (sym e ∙ f) in omega (arith, g)

-- from the start of a stream
pub cuts-from-start : (bytes : List ℕ) (a b : Option Gathered) (stage next : Stage) → stage ≡ Head [] → a ≡ Some nothing →
    (stage ≢ Left 0 → next ≢ Left 0) → ((front : List ℕ) → ReadsTold front a stage → ReadsTold (front ++ bytes) b next) → CutsTold bytes b next
cuts-from-start bytes a b stage next e f h r = cuts bytes b next (h (head-not-left stage e)) (r [] (rw (e, f) reads-nothing))
