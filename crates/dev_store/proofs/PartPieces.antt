-- What reading or writing a piece of a partition makes of the bytes of the partition.
use Rattle.std.proofs.Common.{◌≡◌, ◌∙◌, refl, ap, sym, subst, ℕ, ◌+◌, ◌*◌, ◌<◌, ◌≤◌, List, [], ◌++◌, length, take, drop, Option, Some, None, ◌-◌, length-append, length-drop, arith}
use Rattle.std.proofs.Math.Seq.{take-add}
use Rattle.std.proofs.lemmas.List.{length-take-le, take_all}
use Rattle.std.specs.Prelude.{slice_index}
use Rattle.std.proofs.lemmas.Slice.{take-put_mid}
use borrow.Rule.Slice.PartMut.{put_mid, same_len_mid}
use Rattle.fb_frame.specs.Told.{Both}
use Rattle.dev_disk.specs.Files.{DifferWithin, Wrote, IsRead, Tears, IsTornAt}
use Rattle.super_meta.specs.Contents.{Content}
use Rattle.dev_store.specs.declared.layout.SuperPart.{SuperPart}
use Rattle.dev_store.specs.declared.state.State.{State}
use Rattle.dev_store.specs.declared.part_place.Units.{Units}
use Rattle.dev_store.specs.declared.part_place.Part.{Part}
use Rattle.dev_store.specs.declared.part_place.Part.TheVariants.{Whole, InUnits}
use Rattle.dev_store.specs.declared.part_place.Piece.{Piece}
use Rattle.dev_store.specs.Changes.{put_at}
use Rattle.dev_store.specs.LayoutLines.{first_unit}
use Rattle.dev_store.specs.Layouts.{LayoutValue, parts_end}
use Rattle.dev_store.specs.Supers.{units_of}
use Rattle.dev_store.specs.Held.{device_held, IsKept}
use Rattle.dev_store.specs.StoreCalls.{part_bytes, IsRangeRead}
use Rattle.dev_store.specs.PartWrites.{IsPartWritten, IsLeftIn}
use Rattle.dev_store.specs.PartPlaces.{AreUnitsOf, AreUnitsIn, IsInRun, IsPiece, IsBefore, size_of, Puts, PutsSome, Reads}
use Rattle.dev_store.proofs.SuperRepairLemmas.{torn-within}
use Rattle.dev_store.proofs.PartFills.{reads_then}
use Rattle.dev_store.proofs.PartWritten.{physical_put, physical_left, physical_read, logical_put, logical_left, logical_read, puts_then, puts_none, put_kept}

-- A piece of a partition, in the units that the table gives it.
record IsRunOf (begin : ℕ) (s : SuperPart) (units : List ℕ) (at count place : ℕ) : Type 0 where
  from : ℕ
  first : ℕ
  many : ℕ
  within : ℕ
  some : 0 < many
  long : from + many ≤ length units
  each : (k : ℕ) → k < many → slice_index units (from + k) ≡ first + k
  begins : at ≡ from * s.unit + within
  fits : within + count ≤ many * s.unit
  is : place ≡ begin + (first_unit s + (first * s.unit + within))

run-of : (begin : ℕ) (s : SuperPart) (c : Content) (name : List ℕ) (u : Units) (at : ℕ) (piece : Piece) (a : AreUnitsOf begin s c name u) → IsInRun u at piece →
    IsRunOf begin s (units_of s c a.entry) at piece.count piece.place
run-of begin s c name u at piece a r = record {
  from = r.from;
  first = r.first;
  many = r.count;
  within = r.within;
  some = r.some;
  long = subst (λ us. r.from + r.count ≤ length us) a.units r.long;
  each = subst (λ us. (k : ℕ) → k < r.count → slice_index us (r.from + k) ≡ r.first + k) a.units r.each;
  begins = subst (λ n. at ≡ r.from * n + r.within) a.unit r.begins;
  fits = subst (λ n. r.within + piece.count ≤ r.count * n) a.unit r.fits;
  is = let p = subst (λ n. piece.place ≡ u.start + (r.first * n + r.within)) a.unit r.place in let e = a.start in omega arith;
}

-- in the units of a table
units-put : (layout : LayoutValue) (state : State) (part : Option SuperPart) (table : Option Content) (name : List ℕ) (u : Units) (at : ℕ) (piece : Piece) (bytes : List ℕ) (old new : Option (List ℕ)) →
    layout.super_part ≡ part → AreUnitsIn (parts_end layout.physical) part table name u → IsInRun u at piece → at + length bytes ≤ u.size → length bytes ≡ piece.count → Wrote old new piece.place bytes →
    IsKept layout state table old → IsPartWritten layout (device_held layout state table) (put_at name at bytes) old new
units-put layout state None table name u at piece bytes old new e a r h l w k = absurd a
units-put layout state (Some s) None name u at piece bytes old new e a r h l w k = absurd a
units-put layout state (Some s) (Some c) name u at piece bytes old new e a r h l w k =
    let q = run-of (parts_end layout.physical) s c name u at piece a r in
    let z = a.size in
    let f = q.fits in
    logical_put layout state s c name a.entry q.from q.many q.first q.within at piece.place bytes old new k e a.found q.some q.long q.each q.begins (omega arith) (omega arith) q.is w

units-left : (layout : LayoutValue) (state : State) (part : Option SuperPart) (table : Option Content) (name : List ℕ) (u : Units) (at : ℕ) (piece : Piece) (old new : Option (List ℕ)) →
    layout.super_part ≡ part → AreUnitsIn (parts_end layout.physical) part table name u → IsInRun u at piece → at + piece.count ≤ u.size → Both (DifferWithin piece.place piece.count) old new →
    IsKept layout state table old → IsLeftIn layout (device_held layout state table) (put_at name at) piece.count old new
units-left layout state None table name u at piece old new e a r h w k = absurd a
units-left layout state (Some s) None name u at piece old new e a r h w k = absurd a
units-left layout state (Some s) (Some c) name u at piece old new e a r h w k =
    let q = run-of (parts_end layout.physical) s c name u at piece a r in
    let z = a.size in
    let f = q.fits in
    logical_left layout state s c name a.entry q.from q.many q.first q.within at piece.count piece.place old new k e a.found q.some q.long q.each q.begins f (omega arith) q.is w

units-read : (layout : LayoutValue) (state : State) (part : Option SuperPart) (table : Option Content) (name : List ℕ) (u : Units) (at : ℕ) (piece : Piece) (bytes : List ℕ) (image : Option (List ℕ)) →
    layout.super_part ≡ part → AreUnitsIn (parts_end layout.physical) part table name u → IsInRun u at piece → at + length bytes ≤ u.size → length bytes ≡ piece.count → IsRead image piece.place bytes →
    IsKept layout state table image → IsRangeRead image (part_bytes name (device_held layout state table image)) at bytes
units-read layout state None table name u at piece bytes image e a r h l w k = absurd a
units-read layout state (Some s) None name u at piece bytes image e a r h l w k = absurd a
units-read layout state (Some s) (Some c) name u at piece bytes image e a r h l w k =
    let q = run-of (parts_end layout.physical) s c name u at piece a r in
    let z = a.size in
    let f = q.fits in
    logical_read layout state s c name a.entry q.from q.many q.first q.within at piece.place bytes image k e a.found q.some q.long q.each q.begins (omega arith) (omega arith) q.is w

-- a piece is written
pub piece-puts : (part : Part) (at : ℕ) (piece : Piece) (bytes : List ℕ) (old new : Option (List ℕ)) → IsPiece part at piece → at + length bytes ≤ size_of part → length bytes ≡ piece.count →
    Wrote old new piece.place bytes → Puts part at bytes old new
piece-puts (Whole span) at piece bytes old new p h l w = λ layout state table name is kept. physical_put layout state table name span.start span.size at piece.place bytes old new kept is p h w
piece-puts (InUnits u) at piece bytes old new p h l w = λ layout state table name is kept. units-put layout state layout.super_part table name u at piece bytes old new refl is p h l w kept

-- a write of a piece fails
pub piece-left : (part : Part) (at : ℕ) (piece : Piece) (old new : Option (List ℕ)) → IsPiece part at piece → at + piece.count ≤ size_of part → Both (DifferWithin piece.place piece.count) old new →
    PutsSome part at piece.count old new
piece-left (Whole span) at piece old new p h w = λ layout state table name is kept.
    (piece.count, omega arith, physical_left layout state table name span.start span.size at piece.count piece.place old new kept is p h w)
piece-left (InUnits u) at piece old new p h w = λ layout state table name is kept.
    (piece.count, omega arith, units-left layout state layout.super_part table name u at piece old new refl is p h w kept)

-- a piece is read
pub piece-reads : (part : Part) (at : ℕ) (piece : Piece) (bytes : List ℕ) (image : Option (List ℕ)) → IsPiece part at piece → at + length bytes ≤ size_of part → length bytes ≡ piece.count →
    IsRead image piece.place bytes → Reads part at bytes image
piece-reads (Whole span) at piece bytes image p h l w = λ layout state table name is kept. physical_read layout state table name span.start span.size at piece.place bytes image kept is p h w
piece-reads (InUnits u) at piece bytes image p h l w = λ layout state table name is kept. units-read layout state layout.super_part table name u at piece bytes image refl is p h l w kept

-- one piece after another
pub puts-more : (part : Part) (at n : ℕ) (xs ys : List ℕ) (a b c : Option (List ℕ)) → Puts part at xs a b → n ≡ at + length xs → Puts part n ys b c → Puts part at (xs ++ ys) a c
puts-more part at n xs ys a b c f e g = λ layout state table name is kept.
    let p = f layout state table name is kept in
    puts_then layout (device_held layout state table) name at xs ys a b c p
    (subst (λ m. IsPartWritten layout (device_held layout state table) (put_at name m ys) b c) e (g layout state table name is (put_kept layout state table (device_held layout state table) (put_at name at xs) a b kept p)))

pub left-more : (part : Part) (at n count all : ℕ) (xs : List ℕ) (a b c : Option (List ℕ)) → Puts part at xs a b → n ≡ at + length xs → PutsSome part n count b c → length xs + count ≤ all → PutsSome part at all a c
left-more part at n count all xs a b c f e g h = λ layout state table name is kept.
    let p = f layout state table name is kept in
    let q = g layout state table name is (put_kept layout state table (device_held layout state table) (put_at name at xs) a b kept p) in
    let some = q.2 in (
      length xs + q.0,
      (let k = q.1 in omega arith),
      (
        xs ++ some.0,
        length-append xs some.0 ∙ ap (λ m. length xs + m) some.1,
        puts_then layout (device_held layout state table) name at xs some.0 a b c p (subst (λ m. IsPartWritten layout (device_held layout state table) (put_at name m some.0) b c) e some.2),
      ),
    )

pub puts-nothing : (part : Part) (at : ℕ) (image : Option (List ℕ)) → Puts part at [] image image
puts-nothing part at image = λ layout state table name is kept. puts_none layout state table name at image

-- pieces of a list of bytes
pub slice-long : (done count : ℕ) (bytes : List ℕ) → done + count ≤ length bytes → length (take (done + count - done) (drop done bytes)) ≡ count
slice-long done count bytes h =
    let d = length-drop done bytes in
    let e : done + count - done ≡ count = omega arith in
    length-take-le (done + count - done) (drop done bytes) (omega arith) ∙ e

front-more : (done count : ℕ) (bytes : List ℕ) → take done bytes ++ take (done + count - done) (drop done bytes) ≡ take (done + count) bytes
front-more done count bytes =
    let e : done + count - done ≡ count = omega arith in
    ap (λ n. take done bytes ++ take n (drop done bytes)) e ∙ sym (take-add done count bytes)

front-long : (done : ℕ) (bytes : List ℕ) → done ≤ length bytes → length (take done bytes) ≡ done
front-long done bytes h = length-take-le done bytes h

-- the next piece of a list of bytes is written
pub write-more : (part : Part) (at done : ℕ) (piece : Piece) (bytes : List ℕ) (a b c : Option (List ℕ)) → Puts part at (take done bytes) a b → IsPiece part (at + done) piece → done + piece.count ≤ length bytes →
    at + length bytes ≤ size_of part → Wrote b c piece.place (take (done + piece.count - done) (drop done bytes)) → Puts part at (take (done + piece.count) bytes) a c
write-more part at done piece bytes a b c f p h l w =
    let n = slice-long done piece.count bytes h in
    subst (λ xs. Puts part at xs a c) (front-more done piece.count bytes)
    (puts-more part at (at + done) (take done bytes) (take (done + piece.count - done) (drop done bytes)) a b c f (ap (λ k. at + k) (sym (front-long done bytes (omega arith))))
    (piece-puts part (at + done) piece (take (done + piece.count - done) (drop done bytes)) b c p (omega arith) n w))

-- its write fails
pub write-left : (part : Part) (at done : ℕ) (piece : Piece) (bytes : List ℕ) (torn : Tears) (a b c : Option (List ℕ)) → Puts part at (take done bytes) a b → IsPiece part (at + done) piece →
    done + piece.count ≤ length bytes → at + length bytes ≤ size_of part → Both (IsTornAt torn piece.place (take (done + piece.count - done) (drop done bytes))) b c → PutsSome part at (length bytes) a c
write-left part at done piece bytes torn a b c f p h l w =
    let n = slice-long done piece.count bytes h in
    let k = front-long done bytes (omega arith) in
    left-more part at (at + done) piece.count (length bytes) (take done bytes) a b c f (ap (λ m. at + m) (sym k))
    (piece-left part (at + done) piece b c p (omega arith) (torn-within torn b c piece.place piece.count (take (done + piece.count - done) (drop done bytes)) n w)) (omega arith)

-- all is written
pub write-all : (part : Part) (at done : ℕ) (bytes : List ℕ) (a b : Option (List ℕ)) → Puts part at (take done bytes) a b → length bytes ≤ done → Puts part at bytes a b
write-all part at done bytes a b f h = subst (λ xs. Puts part at xs a b) (take_all done bytes h) f

-- the unit before a piece: none is told at first, and then the last one of the piece before
pub none-before : (part : Part) (at : ℕ) → IsBefore part at None
none-before (Whole span) at = tt
none-before (InUnits u) at = tt

pub last-before : (part : Part) (at done all : ℕ) (piece : Piece) → (piece.count < all - done → IsBefore part (at + done + piece.count) (Some piece.last)) → done + piece.count < all →
    IsBefore part (at + (done + piece.count)) (Some piece.last)
last-before part at done all piece f h = let e : at + done + piece.count ≡ at + (done + piece.count) = omega arith in subst (λ m. IsBefore part m (Some piece.last)) e (f (omega arith))

-- two pieces of a partition's bytes are read, one after another
pub reads-more : (part : Part) (at n : ℕ) (xs ys : List ℕ) (image : Option (List ℕ)) → Reads part at xs image → n ≡ at + length xs → Reads part n ys image → Reads part at (xs ++ ys) image
reads-more part at n xs ys image f e g = λ layout state table name is kept.
    let part = part_bytes name (device_held layout state table image) in
    reads_then image part at xs ys (f layout state table name is kept) (subst (λ m. IsRangeRead image part m ys) e (g layout state table name is kept))

range-nothing : (image : Option (List ℕ)) (part : List ℕ) (at : ℕ) → IsRangeRead image part at []
range-nothing None part at = tt
range-nothing (Some file) part at = refl

pub reads-nothing : (part : Part) (at : ℕ) (image : Option (List ℕ)) → Reads part at [] image
reads-nothing part at image = λ layout state table name is kept. range-nothing image (part_bytes name (device_held layout state table image)) at

pub reads-all : (part : Part) (at done : ℕ) (bytes : List ℕ) (image : Option (List ℕ)) → Reads part at (take done bytes) image → length bytes ≤ done → Reads part at bytes image
reads-all part at done bytes image f h = subst (λ xs. Reads part at xs image) (take_all done bytes h) f

-- the next piece is read into a buffer
pub buffer-long : (done k : ℕ) (buf new : List ℕ) → length new ≡ length (take k (drop done buf)) → length (put_mid done k buf new) ≡ length buf
buffer-long done k buf new e = same_len_mid done k buf new e

pub read-more : (part : Part) (at done : ℕ) (piece : Piece) (buf new : List ℕ) (image was : Option (List ℕ)) → was ≡ image → Reads part at (take done buf) image → IsPiece part (at + done) piece →
    done + piece.count ≤ length buf → at + length buf ≤ size_of part → length new ≡ length (take (done + piece.count - done) (drop done buf)) → IsRead was piece.place new →
    Reads part at (take (done + piece.count) (put_mid done (done + piece.count - done) buf new)) image
read-more part at done piece buf new image was same f p h l long r =
    let n : length new ≡ piece.count = long ∙ slice-long done piece.count buf h in
    subst (λ xs. Reads part at xs image) (sym (take-put_mid done (done + piece.count - done) buf new (done + piece.count) (ap (λ k. done + k) (sym n)) (omega arith)))
    (reads-more part at (at + done) (take done buf) new image f (ap (λ k. at + k) (sym (front-long done buf (omega arith))))
    (piece-reads part (at + done) piece new image p (omega arith) n (subst (λ o. IsRead o piece.place new) same r)))
