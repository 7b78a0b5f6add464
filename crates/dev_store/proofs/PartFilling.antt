-- Filling a partition with four bytes, over and over.
use Rattle.std.proofs.Common.{◌≡◌, ◌∙◌, refl, ap, sym, subst, ℕ, ◌+◌, ◌-◌, ◌<◌, ◌≤◌, List, [], ◌++◌, length, take, drop, Option, Some, None, append-nil, ◌⊎◌, inl, inr, arith}
use Rattle.std.specs.Prelude.{◌%◌}
use Rattle.std.proofs.Math.Nat.{mod-mod_of_dvd}
use Rattle.std.proofs.lemmas.Nat.Gcd.{dvd_of_mod-eq-zero}
use Rattle.std.proofs.lemmas.Bool.{cases_lt}
use Rattle.std.proofs.lemmas.List.{length-take-le, take_all, drop_all}
use Rattle.std.proofs.lemmas.Slice.{take-put_mid}
use borrow.Rule.Slice.PartMut.{put_mid}
use Rattle.fb_frame.specs.Told.{Both}
use Rattle.dev_disk.specs.Files.{DifferWithin, Wrote, written}
use Rattle.dev_disk.proofs.Writes.{differ-written}
use Rattle.dev_disk.proofs.TwinLemmas.{HasRange}
use Rattle.dev_store.specs.declared.part_place.Part.{Part}
use Rattle.dev_store.specs.declared.part_place.Part.TheVariants.{Whole, InUnits}
use Rattle.dev_store.specs.declared.part_place.Piece.{Piece}
use Rattle.dev_store.specs.Changes.{repeated}
use Rattle.dev_store.specs.PartPlaces.{IsPiece, size_of, Puts, PutsSome, HasRoom, EndsUnit}
use Rattle.dev_store.proofs.WrittenLemmas.{written-none}
use Rattle.dev_store.proofs.SuperRepairLemmas.{widen, differ-then, differ-self, both-kept, both-then}
use Rattle.dev_store.proofs.PartLists.{twice-written}
use Rattle.dev_store.proofs.PartFills.{repeated_more, repeated_long, repeated_front}
use Rattle.dev_store.proofs.PartPieces.{piece-puts, piece-left, puts-more, left-more}

-- the buffer is filled by four bytes more
pub repeat-more : (done : ℕ) (buffer pattern : List ℕ) → done % 4 ≡ 0 → done ≤ length buffer → length pattern ≡ 4 → take done buffer ≡ repeated done pattern →
    take (done + 4) (put_mid done (done + 4 - done) buffer pattern) ≡ repeated (done + 4) pattern
repeat-more done buffer pattern h l n f =
    take-put_mid done (done + 4 - done) buffer pattern (done + 4) (ap (λ k. done + k) (sym n)) l
    ∙ (ap (λ xs. xs ++ pattern) f ∙ (ap (λ xs. repeated done pattern ++ xs) (sym (once pattern)) ∙ sym (repeated_more done 4 pattern h))) where
      once : (pattern : List ℕ) → repeated 4 pattern ≡ pattern
      once pattern = append-nil pattern

-- nothing is written yet
pub wrote-nothing : (o : Option (List ℕ)) (at : ℕ) → Wrote o o at []
wrote-nothing None at = tt
wrote-nothing (Some file) at = sym (written-none file at)

-- the buffer's front
pub front-repeated : (size : ℕ) (buffer : List ℕ) → size % 4 ≡ 0 → size ≤ length buffer → 0 < length buffer → length buffer % 4 ≡ 0 → buffer ≡ repeated (length buffer) (take 4 buffer) → take size buffer ≡ repeated size (take 4 buffer)
front-repeated size buffer h l some fours e =
    ap (take size) e ∙ repeated_front size (length buffer) (take 4 buffer) h l (length-take-le 4 buffer (omega arith))

-- four bytes were repeated once more in the file
pub wrote-more : (place done size : ℕ) (ys pattern : List ℕ) (a b c : Option (List ℕ)) → done % 4 ≡ 0 → length pattern ≡ 4 → ys ≡ repeated size pattern →
    Wrote a b place (repeated done pattern) → Wrote b c (place + done) ys → Wrote a c place (repeated (done + size) pattern)
wrote-more place done size ys pattern None None None h l e f g = tt
wrote-more place done size ys pattern None None (Some z) h l e f g = g
wrote-more place done size ys pattern None (Some y) c h l e f g = absurd f
wrote-more place done size ys pattern (Some x) None c h l e f g = absurd f
wrote-more place done size ys pattern (Some x) (Some y) None h l e f g = g
wrote-more place done size ys pattern (Some x) (Some y) (Some z) h l e f g =
    let n : place + done ≡ place + length (repeated done pattern) = ap (λ k. place + k) (sym (repeated_long done pattern h l)) in
    g ∙ (ap (λ k. written y k ys) n ∙ (ap (λ f'. written f' (place + length (repeated done pattern)) ys) f
    ∙ (twice-written x place (repeated done pattern) ys ∙ ap (written x place) (ap (λ t. repeated done pattern ++ t) e ∙ sym (repeated_more done size pattern h)))))

-- and nothing outside the range changes
pub wrote-within : (at : ℕ) (bytes : List ℕ) (b c : Option (List ℕ)) → HasRange b at (length bytes) → Wrote b c at bytes → Both (DifferWithin at (length bytes)) b c
wrote-within at bytes None None r w = tt
wrote-within at bytes None (Some z) r w = w
wrote-within at bytes (Some y) None r w = w
wrote-within at bytes (Some y) (Some z) r w = subst (DifferWithin at (length bytes) y) (sym w) (differ-written y at bytes r)

pub within-more : (place count done size : ℕ) (a b c : Option (List ℕ)) → done + size ≤ count → Both (DifferWithin place count) a b → Both (DifferWithin (place + done) size) b c → Both (DifferWithin place count) a c
within-more place count done size a b c h f g = both-then a b c f g (λ x y z d e. differ-then place count x y z d (widen (place + done) size place count y z e (omega arith) (omega arith)))

pub within-nothing : (place count : ℕ) (o : Option (List ℕ)) → Both (DifferWithin place count) o o
within-nothing place count o = both-kept (DifferWithin place count) o o refl (λ file. differ-self place count file)

-- a piece of fours of bytes, as it is all that is asked or ends with a unit
pub piece-fours : (part : Part) (at rest count : ℕ) → HasRoom part → (count < rest → EndsUnit part (at + count)) → at % 4 ≡ 0 → rest % 4 ≡ 0 → count ≤ rest → count % 4 ≡ 0
piece-fours part at rest count b e h k l = by part b e (cases_lt count rest) where
  by : (part : Part) → HasRoom part → (count < rest → EndsUnit part (at + count)) → (count < rest) ⊎ (rest ≤ count) → count % 4 ≡ 0
  by part b e (inr m) = let same : count ≡ rest = omega arith in ap (λ n. n % 4) same ∙ k
  by (Whole span) b e (inl m) = absurd (e m)
  by (InUnits u) b e (inl m) =
      let blocks = b.blocks in
      let fours : u.unit % 4 ≡ 0 = omega arith in
      let end : (at + count) % 4 ≡ 0 = sym (mod-mod_of_dvd 4 (at + count) (dvd_of_mod-eq-zero 4 fours)) ∙ ap (λ n. n % 4) (e m) in
      omega arith

-- the next piece is filled
pub fill-more : (part : Part) (at done : ℕ) (piece : Piece) (pattern : List ℕ) (a b c : Option (List ℕ)) → Puts part at (repeated done pattern) a b → IsPiece part (at + done) piece → done % 4 ≡ 0 → piece.count % 4 ≡ 0 →
    length pattern ≡ 4 → at + done + piece.count ≤ size_of part → Wrote b c piece.place (repeated piece.count pattern) → Puts part at (repeated (done + piece.count) pattern) a c
fill-more part at done piece pattern a b c f p h k l s w =
    let n = repeated_long piece.count pattern k l in
    subst (λ xs. Puts part at xs a c) (sym (repeated_more done piece.count pattern h))
    (puts-more part at (at + done) (repeated done pattern) (repeated piece.count pattern) a b c f (ap (λ m. at + m) (sym (repeated_long done pattern h l)))
    (piece-puts part (at + done) piece (repeated piece.count pattern) b c p (omega arith) n w))

-- its writes fail
pub fill-left : (part : Part) (at done all : ℕ) (piece : Piece) (pattern : List ℕ) (a b c : Option (List ℕ)) → Puts part at (repeated done pattern) a b → IsPiece part (at + done) piece → done % 4 ≡ 0 →
    length pattern ≡ 4 → done + piece.count ≤ all → at + all ≤ size_of part → Both (DifferWithin piece.place piece.count) b c → PutsSome part at all a c
fill-left part at done all piece pattern a b c f p h l r s w =
    let n = repeated_long done pattern h l in
    left-more part at (at + done) piece.count all (repeated done pattern) a b c f (ap (λ m. at + m) (sym n)) (piece-left part (at + done) piece b c p (omega arith) w) (omega arith)

-- all is filled
pub fill-all : (part : Part) (at done all : ℕ) (pattern : List ℕ) (a b : Option (List ℕ)) → Puts part at (repeated done pattern) a b → done ≤ all → all ≤ done → Puts part at (repeated all pattern) a b
fill-all part at done all pattern a b f h k = let e : done ≡ all = omega arith in subst (λ n. Puts part at (repeated n pattern) a b) e f

-- The store's buffer after it was filled: it is as long as it was, and holds the four bytes over and over.
pub record IsFilled (pattern before after : List ℕ) : Type 0 where
  pub long : length after ≡ length before
  pub repeats : after ≡ repeated (length after) (take 4 after)
  pub front : take 4 after ≡ pattern

pub buffer-filled : (len n : ℕ) (items new pattern : List ℕ) → len ≡ length items → n ≡ length items → length items ≡ 126976 → length pattern ≡ 4 → new ≡ repeated n pattern → length new ≡ n →
    IsFilled pattern items (take len (new ++ drop (length new) items))
buffer-filled len n items new pattern l e room four h k =
    let rest : drop (length new) items ≡ [] = drop_all (length new) items (omega arith) in
    let all : take len (new ++ drop (length new) items) ≡ new = ap (λ xs. take len (new ++ xs)) rest ∙ (ap (take len) (append-nil new) ∙ take_all len new (omega arith)) in
    let front : take 4 new ≡ pattern = ap (take 4) h ∙ (repeated_front 4 n pattern refl (omega arith) four ∙ append-nil pattern) in
    subst (IsFilled pattern items) (sym all)
    (record {
      long = k ∙ e;
      repeats = h ∙ (ap (λ m. repeated m pattern) (sym k) ∙ ap (repeated (length new)) (sym front));
      front = front;
    })
