-- Frames that come in pieces, as the message machine has them.
use Rattle.std.proofs.Common.{◌≡◌, ℕ, ◌+◌, ◌-◌, ◌^◌, ◌<◌, ◌≤◌, List, [], ◌++◌, length, take, drop, Some, None, refl, sym, ap, subst, ◌∙◌, arith, length-append, append_assoc}
use Rattle.std.specs.Int.{w64, from_be_bytes}
use Rattle.std.proofs.lemmas.List.{append-nil, take_all, drop_all, take-append-le, drop-append-le, length-take}
use Rattle.std.proofs.lemmas.Nat.{from_be_bytes-to_be_bytes_8}
use Rattle.std.proofs.lemmas.Bool.Decides.{nat_tests}
use Rattle.std.proofs.Math.Seq.{take-append_seam, take-add}
use Rattle.fb_frame.specs.Framing.{head, announced, frame}
use Rattle.fb_frame.specs.Stages.{Stage, Head, Left, Feeds}
use Rattle.fb_frame.specs.declared.deframer.Event.{Event}
use Rattle.fb_frame.specs.declared.deframer.Event.TheVariants.{More as Goes, Length, Bytes}
use Rattle.wire_model.specs.Wire as item
use Rattle.wire_model.specs.Wire.{first_frame}
use Rattle.wire_model.proofs.InParts.{long-front}
use Rattle.wire_model.proofs.Items.{front_frame}
use Rattle.device_session.specs.declared.framer.Heard.{Heard}
use Rattle.device_session.specs.declared.framer.Heard.TheVariants.{More, TooLong, Whole}
use Rattle.device_session.specs.Framer.{Stands, PaysOn, Framing, rest_of, FramesOn}

-- a head tells its length, whatever follows it
announced-head : (len : ℕ) (q : List ℕ) → len < 2 ^ 64 → announced (head len ++ q) ≡ len
unfolding announced
announced-head len q h = ap (from_be_bytes w64) (take-append_seam (head len) q) ∙ from_be_bytes-to_be_bytes_8 len h

head-long : (len : ℕ) (q : List ℕ) → length (head len ++ q) ≡ 8 + length q
head-long len q = length-append (head len) q

-- fewer bytes than a head
short-none : (most : ℕ) (bytes : List ℕ) → length bytes < 8 → first_frame most bytes ≡ None
short-none most bytes h = grind (arith, nat_tests)

part-none : (most : ℕ) (bytes : List ℕ) → announced bytes ≤ most → length bytes < 8 + announced bytes → first_frame most bytes ≡ None
part-none most bytes h g = grind (arith, nat_tests)

-- a payload that isn't whole
headed-none : (most len : ℕ) (q : List ℕ) → len ≤ most → len < 2 ^ 64 → length q < len → first_frame most (head len ++ q) ≡ None
headed-none most len q h small short =
    let told = announced-head len q small in
    let long = head-long len q in
    part-none most (head len ++ q) (omega (arith, told, h)) (omega (arith, told, long, short))

-- a head that gives too much
headed-long : (most len : ℕ) → most < len → len < 2 ^ 64 → first_frame most (head len ++ []) ≡ Some (item.TooLong, [])
headed-long most len h small =
    let told = announced-head len [] small in
    let long = head-long len [] in
    long-front most (head len ++ []) (omega (arith, long)) (omega (arith, told, h))
    ∙ ap (λ b. Some (item.TooLong, b)) (drop_all 8 (head len ++ []) (omega (arith, long)))

-- only the bytes that came count, and not how they were taken
pub frames-shift : (most : ℕ) (a b new : Framing) (bytes more : List ℕ) (heard : Heard) → rest_of a ++ bytes ≡ rest_of b ++ more →
    FramesOn most a bytes heard new → FramesOn most b more heard new
frames-shift most a b new bytes more More e f = (subst (λ r. first_frame most r ≡ None) e f.0, f.1 ∙ e, f.2)
frames-shift most a b new bytes more TooLong e f = (subst (λ r. first_frame most r ≡ Some (item.TooLong, [])) e f.0, f.1)
frames-shift most a b new bytes more Whole e f =
    (subst (λ r. first_frame most r ≡ Some (item.Payload new.part, [])) e f.0, f.1, f.2)

abbrev at : Stage → List ℕ → Framing
at stage part = record { stage = stage; part = part }

-- Bytes of a payload are taken on.
pays-more : (most count : ℕ) (p bytes : List ℕ) → length p + count ≤ most → most < 2 ^ 64 → length bytes < count →
    FramesOn most (at (Left count) p) bytes More (at (Left (count - length bytes)) (p ++ bytes))
pays-more most count p bytes h small short =
    let long = length-append p bytes in
    let due : length (p ++ bytes) + (count - length bytes) ≡ length p + count = omega (arith, long, short) in
    let whole : (head (length p + count) ++ p) ++ bytes ≡ head (length p + count) ++ (p ++ bytes) =
    append_assoc (head (length p + count)) p bytes in
    let none = headed-none most (length p + count) (p ++ bytes) h (omega (arith, h, small)) (omega (arith, long, short)) in
    let same : head (length (p ++ bytes) + (count - length bytes)) ++ (p ++ bytes) ≡ head (length p + count) ++ (p ++ bytes) =
    ap (λ n. head n ++ (p ++ bytes)) due in
    (subst (λ r. first_frame most r ≡ None) (sym whole) none, same ∙ sym whole, (omega (arith, short), omega (arith, due, h)))

pays-whole : (most : ℕ) (p bytes : List ℕ) → length p + length bytes ≤ most → most < 2 ^ 64 →
    FramesOn most (at (Left (length bytes)) p) bytes Whole (at (Head []) (p ++ bytes))
pays-whole most p bytes h small =
    let long : length (p ++ bytes) ≡ length p + length bytes = length-append p bytes in
    let whole : (head (length p + length bytes) ++ p) ++ bytes ≡ frame (p ++ bytes) =
    append_assoc (head (length p + length bytes)) p bytes ∙ ap (λ n. head n ++ (p ++ bytes)) (sym long) in
    let found = front_frame most (p ++ bytes) (omega (arith, long, h)) (omega (arith, long, h, small)) in
    (subst (λ r. first_frame most r ≡ Some (item.Payload (p ++ bytes), [])) (sym whole) found, refl, omega (arith, long, h))

pub pays-on : (most count : ℕ) (p bytes : List ℕ) (heard : Heard) (next : Stage) (q : List ℕ) → length p + count ≤ most → most < 2 ^ 64 →
    PaysOn count p bytes heard next q → FramesOn most (at (Left count) p) bytes heard (at next q)
pays-on most count p bytes More next q h small f =
    subst (λ s. FramesOn most (at (Left count) p) bytes More (at s q)) (sym f.1)
    (subst (λ l. FramesOn most (at (Left count) p) bytes More (at (Left (count - length bytes)) l)) (sym f.2) (pays-more most count p bytes h small f.0))
pays-on most count p bytes Whole next q h small f =
    subst (λ s. FramesOn most (at (Left count) p) bytes Whole (at s q)) (sym f.1)
    (subst (λ l. FramesOn most (at (Left count) p) bytes Whole (at (Head []) l)) (sym f.2)
    (subst (λ n. FramesOn most (at (Left n) p) bytes Whole (at (Head []) (p ++ bytes))) f.0 (pays-whole most p bytes (omega (arith, f.0, h)) small)))
pays-on most count p bytes TooLong next q h small f = absurd f

-- the same behind the first bytes of a buffer
pub pays-behind : (base count : ℕ) (old bytes : List ℕ) (heard : Heard) (next : Stage) (new : List ℕ) → base ≤ length old →
    PaysOn count old bytes heard next new → PaysOn count (drop base old) bytes heard next (drop base new)
pays-behind base count old bytes More next new h f = (f.0, f.1, ap (drop base) f.2 ∙ drop-append-le base old bytes h)
pays-behind base count old bytes Whole next new h f = (f.0, f.1, ap (drop base) f.2 ∙ drop-append-le base old bytes h)
pays-behind base count old bytes TooLong next new h f = absurd f

-- what a payload leaves of a buffer's first bytes
pub pays-kept : (base count : ℕ) (old bytes : List ℕ) (heard : Heard) (next : Stage) (new : List ℕ) →
    PaysOn count old bytes heard next new → new ≡ old ++ bytes
pays-kept base count old bytes More next new f = f.2
pays-kept base count old bytes Whole next new f = f.2
pays-kept base count old bytes TooLong next new f = absurd f

-- A piece that ends in a head, or is empty, leaves more to come.
pub frames-more : (most n : ℕ) (old next : Stage) (part piece : List ℕ) → most < 2 ^ 64 → Stands most old part → Feeds old piece n Goes next →
    FramesOn most (at old part) (take n piece) More (at next part)
frames-more most n (Head front) next part piece small stands f =
    let all : take n piece ≡ piece = take_all n piece (omega (arith, f.0)) in
    let short : length (front ++ piece) < 8 = omega (arith, length-append front piece, f.0, f.1) in
    subst (λ s. FramesOn most (at (Head front) part) (take n piece) More (at s part)) (sym f.2)
    (subst (λ l. FramesOn most (at (Head front) part) l More (at (Head (front ++ piece)) part)) (sym all)
    (short-none most (front ++ piece) short, refl, short))
frames-more most n (Left count) next part piece small stands f =
    let none : take n piece ≡ [] = ap (take n) f.0 ∙ take_all n [] (omega arith) in
    let same : rest_of (at (Left count) part) ≡ rest_of (at (Left count) part) ++ take n piece =
    sym (append-nil _) ∙ ap (λ l. rest_of (at (Left count) part) ++ l) (sym none) in
    let nothing = headed-none most (length part + count) part stands.1 (omega (arith, stands.1, small)) (omega (arith, stands.0)) in
    subst (λ s. FramesOn most (at (Left count) part) (take n piece) More (at s part)) (sym f.3)
    (subst (λ r. first_frame most r ≡ None) same nothing, same, stands)

-- A head that gives too much.
pub frames-long : (most n len : ℕ) (old next : Stage) (part new piece : List ℕ) → most < len → Feeds old piece n (Length len) next →
    FramesOn most (at old part) (take n piece) TooLong (at (Head []) new)
frames-long most n len (Head front) next part new piece h f =
    let whole : head len ++ [] ≡ front ++ take n piece = append-nil (head len) ∙ sym f.2 in
    (subst (λ r. first_frame most r ≡ Some (item.TooLong, [])) whole (headed-long most len h f.3), refl)
frames-long most n len (Left count) next part new piece h f = absurd f

-- A head, and bytes of its payload.
pub frames-headed : (most n m len : ℕ) (old next last : Stage) (part new piece : List ℕ) (heard : Heard) → len ≤ most → most < 2 ^ 64 →
    Feeds old piece n (Length len) next → PaysOn len [] (take m (drop n piece)) heard last new →
    FramesOn most (at old part) (take (n + m) piece) heard (at last new)
frames-headed most n m len (Head front) next last part new piece heard h small f pays =
    let bytes : List ℕ = take m (drop n piece) in
    let none : 0 + len ≡ len = omega arith in
    let joined : (head (0 + len) ++ []) ++ bytes ≡ front ++ take (n + m) piece =
    ap (λ l. l ++ bytes) (append-nil (head (0 + len)) ∙ (ap head none ∙ sym f.2))
    ∙ (append_assoc front (take n piece) bytes ∙ ap (λ l. front ++ l) (sym (take-add n m piece))) in
    frames-shift most (at (Left len) []) (at (Head front) part) (at last new) bytes (take (n + m) piece) heard joined
    (pays-on most len [] bytes heard last new (omega (arith, h)) small pays)
frames-headed most n m len (Left count) next last part new piece heard h small f pays = absurd f

-- Bytes of a payload that goes on.
pub frames-paid : (most n : ℕ) (old next last : Stage) (part new piece : List ℕ) (heard : Heard) → most < 2 ^ 64 → Stands most old part →
    Feeds old piece n Bytes next → ((left : ℕ) → next ≡ Left left → PaysOn (left + length (take n piece)) part (take n piece) heard last new) →
    FramesOn most (at old part) (take n piece) heard (at last new)
frames-paid most n (Head front) next last part new piece heard small stands f pays = absurd f
frames-paid most n (Left count) next last part new piece heard small stands f pays =
    let long : length (take n piece) ≡ n = omega (arith, length-take n piece, f.1) in
    let all : (count - n) + length (take n piece) ≡ count = omega (arith, long, f.1) in
    pays-on most count part (take n piece) heard last new stands.1 small
    (subst (λ c. PaysOn c part (take n piece) heard last new) all (pays (count - n) f.2))

-- What is due of a payload of which some bytes were taken.
pub bytes-left : (count n : ℕ) (stage next : Stage) (event : Event) (piece : List ℕ) → event ≡ Bytes → stage ≡ Left count → Feeds stage piece n event next →
    (next ≡ Left (count - n)) × (count - n + length (take n piece) ≡ count)
bytes-left count n stage next event piece e s f =
    let paid : Feeds (Left count) piece n Bytes next =
    subst (λ (v : Event). Feeds (Left count) piece n v next) e (subst (λ (t : Stage). Feeds t piece n event next) s f) in
    (paid.2, omega (arith, length-take n piece, paid.1))

-- after a head all of its payload is due
pub length-left : (n len : ℕ) (stage next : Stage) (piece : List ℕ) → Feeds stage piece n (Length len) next → next ≡ Left len
length-left n len (Head front) next piece f = f.5
length-left n len (Left count) next piece f = absurd f

-- after bytes of a payload something may be due
pub bytes-next : (n : ℕ) (stage next : Stage) (piece : List ℕ) → Feeds stage piece n Bytes next → (left : ℕ) × (next ≡ Left left)
bytes-next n (Head front) next piece f = absurd f
bytes-next n (Left count) next piece f = (count - n, f.2)

-- What is added behind the first bytes of a buffer leaves them.
pub front-kept : (base : ℕ) (old bytes new : List ℕ) → base ≤ length old → new ≡ old ++ bytes → take base new ≡ take base old
front-kept base old bytes new h e = ap (take base) e ∙ take-append-le base old bytes h
