-- Copies of a block that are written in a row, and what the disk leaves of them where it failed.
use Rattle.std.proofs.Common.{◌≡◌, ◌∙◌, refl, ap, sym, subst, inl, inr, ℕ, zero, suc, Bool, true, false, ◌+◌, ◌*◌, ◌-◌, ◌<◌, ◌≤◌, List, [], length, take, drop, Option, Some, None, arith, append-nil}
use Rattle.std.specs.Prelude.{IfSome, nat_lt}
use Rattle.std.proofs.lemmas.Bool.Decides.{nat_tests}
use Rattle.std.proofs.Math.Nat.{mul-le-mul_right}
use Rattle.fb_frame.specs.Told.{Both}
use Rattle.dev_model.specs.Images.{copies}
use Rattle.dev_disk.specs.Files.{Tears, DifferWithin, IsTornAt, Wrote, IsInside, written, copy}
use Rattle.dev_disk.specs.Twins.{IsLeft}
use Rattle.dev_disk.specs.Calls.{Agrees}
use Rattle.dev_disk.specs.Disks.{DiskTold, open_bytes, FilesKept, Writes, FailsWrite}
use Rattle.dev_disk.proofs.Writes.{read-written, differ-written, kept-outside}
use Rattle.dev_disk.proofs.TwinLemmas.{HasRange, content-range, same-bytes}
use Rattle.dev_store.specs.declared.layout.SuperPart.{SuperPart}
use Rattle.dev_store.specs.Supers.{copy_place}
use Rattle.dev_store.specs.SuperBounds.{IsBounded}
use Rattle.dev_store.specs.TableWrites.{AreSomeWritten, AreLeft, copy_in, AreCopiesWritten, AreCopiesLeft}
use Rattle.dev_store.proofs.MadeParts.{length-copies, copy-at}
use Rattle.dev_store.proofs.WrittenLemmas.{written-none}
use Rattle.dev_store.proofs.PlaceLemmas.{copy-inside, tables-inside}
use Rattle.dev_store.proofs.SuperRepairLemmas.{widen, differ-then, both-map, both-start-then}

-- a write of the next block failed
some-left : (torn : Tears) (o p q : Option (List ℕ)) (at place k count : ℕ) (block : List ℕ) → k < count → place ≡ at + k * length block → Wrote o p at (copies k block) →
    Both (IsTornAt torn place block) p q → Both (AreSomeWritten torn at count block) o q
some-left torn None None None at place k count block less e w t = tt
some-left torn None None (Some z) at place k count block less e w t = t
some-left torn None (Some y) q at place k count block less e w t = absurd w
some-left torn (Some x) None q at place k count block less e w t = absurd w
some-left torn (Some x) (Some y) None at place k count block less e w t = t
some-left torn (Some x) (Some y) (Some z) at place k count block less e w t =
    record { done = k; more = less; next = subst (λ n. IsTornAt torn n block (written x at (copies k block)) z) e (subst (λ f. IsTornAt torn place block f z) w t) }

pub Fails-copy : (a b c : DiskTold) (at place k count : ℕ) (block : List ℕ) → k < count → place ≡ at + k * length block → Writes a b at (copies k block) → FailsWrite b c place block →
    Both (AreSomeWritten c.torn at count block) (open_bytes a) (open_bytes c)
Fails-copy a b c at place k count block less e w f = some-left c.torn (open_bytes a) (open_bytes b) (open_bytes c) at place k count block less e w.wrote f.part

-- blocks in a row
pub record AreInRow (at count : ℕ) (block old new : List ℕ) : Type 0 where
  pub differs : DifferWithin at (count * length block) old new
  pub each : (k : ℕ) → k < count → copy new (at + k * length block) (length block) ≡ block

fits : (k count n : ℕ) → k ≤ count → k * n ≤ count * n
fits k count n h = mul-le-mul_right n h

in-row : (at count : ℕ) (block old : List ℕ) → at + count * length block ≤ length old → AreInRow at count block old (written old at (copies count block))
in-row at count block old range =
    let many = copies count block in
    let n = length block in
    let new = written old at many in
    let long = length-copies count block in
    let inside : at + length many ≤ length old = omega (arith, long, range) in
    let whole : copy new at (count * n) ≡ many = subst (λ z. take z (drop at new) ≡ many) long (read-written old at many inside) in
    record {
      differs = subst (λ z. DifferWithin at z old new) long (differ-written old at many inside);
      each = λ k less.
          let most : (k + 1) * n ≤ count * n = fits (k + 1) count n (omega (arith, less)) in
          sym (copy-inside new at (count * n) (k * n) n (omega (arith, most)))
          ∙ (ap (λ bytes. take n (drop (k * n) bytes)) (whole ∙ sym (append-nil many)) ∙ copy-at k count n block [] less refl);
    }

-- the first of them, where others are written or were being written
first-block : (at n : ℕ) (block file : List ℕ) → copy file (at + 0 * n) (length block) ≡ block → copy file at (length block) ≡ block
first-block at n block file h = let none : at + 0 * n ≡ at = omega arith in subst (λ place. copy file place (length block) ≡ block) none h

pub row-left : (torn : Tears) (at count : ℕ) (block old new : List ℕ) → 0 < count → at + count * length block ≤ length old → AreSomeWritten torn at count block old new → AreLeft torn at count block old new
row-left torn at count block old new some range h = by h.done h.more h.next
  where
    n : ℕ
    n = length block

    by : (k : ℕ) → k < count → IsTornAt torn (at + k * length block) block (written old at (copies k block)) new → AreLeft torn at count block old new
    by zero less t =
        let none : at + 0 * length block ≡ at = omega arith in
        let here : IsTornAt torn at block old new = subst (λ place. IsTornAt torn place block old new) none (subst (λ f. IsTornAt torn (at + 0 * length block) block f new) (written-none old at) t) in
        let most : 1 * length block ≤ count * length block = fits 1 count (length block) (omega (arith, less)) in
        record { differs = widen at (length block) at (count * length block) old new here.differs (omega arith) (omega (arith, most)); first = inr here.left }
    by (suc k) less t =
        let mid = written old at (copies (suc k) block) in
        let before : suc k * length block ≤ count * length block = fits (suc k) count (length block) (omega (arith, less)) in
        let after : (suc k + 1) * length block ≤ count * length block = fits (suc k + 1) count (length block) (omega (arith, less)) in
        let row = in-row at (suc k) block old (omega (arith, range, before)) in
        let apart : at + length block ≤ at + suc k * length block = omega (arith, fits 1 (suc k) (length block) (omega arith)) in
        record {
          differs = differ-then at (count * length block) old mid new (widen at (suc k * length block) at (count * length block) old mid row.differs (omega arith) (omega (arith, before)))
              (widen (at + suc k * length block) (length block) at (count * length block) mid new t.differs (omega arith) (omega (arith, after)));
          first = inl (kept-outside mid new (at + suc k * length block) (length block) at (length block) t.differs (inl apart) ∙ first-block at (length block) block mid (row.each 0 (omega arith)));
        }

pub row-unsynced : (torn : Tears) (at count : ℕ) (block old new : List ℕ) → 0 < count → at + count * length block ≤ length old → new ≡ written old at (copies count block) → AreLeft torn at count block old new
row-unsynced torn at count block old new some range e =
    let row = subst (AreInRow at count block old) (sym e) (in-row at count block old range) in
    record { differs = row.differs; first = inl (first-block at (length block) block new (row.each 0 some)) }

-- the same of a disk
row-range : (a : DiskTold) (at count : ℕ) (block : List ℕ) → Agrees a.files a.open_path a.open_length → IsInside a.open_length at (count * length block) → HasRange (open_bytes a) at (count * length block)
row-range a at count block law inside = content-range a.files a.open_path a.open_length at (count * length block) law inside

pub Fails-row : (a c : DiskTold) (at count : ℕ) (block : List ℕ) → Agrees a.files a.open_path a.open_length → IsInside a.open_length at (count * length block) → 0 < count →
    Both (AreSomeWritten c.torn at count block) (open_bytes a) (open_bytes c) → Both (AreLeft c.torn at count block) (open_bytes a) (open_bytes c)
Fails-row a c at count block law inside some f = by (open_bytes a) (open_bytes c) (row-range a at count block law inside) f
  where
    by : (o p : Option (List ℕ)) → HasRange o at (count * length block) → Both (AreSomeWritten c.torn at count block) o p → Both (AreLeft c.torn at count block) o p
    by None None r h = tt
    by None (Some y) r h = absurd h
    by (Some x) None r h = absurd h
    by (Some x) (Some y) r h = row-left c.torn at count block x y some r h

pub Unsynced-row : (a b c : DiskTold) (at count : ℕ) (block : List ℕ) → Agrees a.files a.open_path a.open_length → IsInside a.open_length at (count * length block) → 0 < count →
    Writes a b at (copies count block) → FilesKept b c → Both (AreLeft c.torn at count block) (open_bytes a) (open_bytes c)
Unsynced-row a b c at count block law inside some w k =
    subst (λ p. Both (AreLeft c.torn at count block) (open_bytes a) p) (sym (same-bytes b c k)) (by (open_bytes a) (open_bytes b) (row-range a at count block law inside) w.wrote)
  where
    by : (o p : Option (List ℕ)) → HasRange o at (count * length block) → Wrote o p at (copies count block) → Both (AreLeft c.torn at count block) o p
    by None None r h = tt
    by None (Some y) r h = absurd h
    by (Some x) None r h = absurd h
    by (Some x) (Some y) r h = row-unsynced c.torn at count block x y some r h

parts : (a b k m : ℕ) → a + b ≡ k → a * m + b * m ≡ k * m
parts a b k m e = let all : (a + b) * m ≡ k * m = ap (λ j. j * m) e in omega (arith, all)

-- both rows of a table's copies
pub rows-written : (s : SuperPart) (at : ℕ) (bytes x z : List ℕ) → IsBounded s → at + s.size ≤ length x → length bytes ≡ s.max_size →
    z ≡ written (written x (at + copy_place s 0) (copies s.slots bytes)) (at + copy_place s s.slots) (copies s.slots bytes) → AreCopiesWritten s at bytes x z
rows-written s at bytes x z b range long e =
    let n = s.slots in
    let m = s.max_size in
    let y = written x (at + copy_place s 0) (copies n bytes) in
    let inside = tables-inside s b in
    let two : 2 * n * m ≡ n * m + n * m = omega arith in
    let first = in-row (at + copy_place s 0) n bytes x (subst (λ l. at + copy_place s 0 + n * l ≤ length x) (sym long) (omega (arith, range, inside, two))) in
    let second : AreInRow (at + copy_place s n) n bytes y z =
    subst (AreInRow (at + copy_place s n) n bytes y) (sym e) (in-row (at + copy_place s n) n bytes y
    (subst (λ l. at + copy_place s n + n * l ≤ length y) (sym long) (omega (arith, range, inside, two, first.differs.same_length)))) in
    let over : DifferWithin (at + copy_place s 0) (n * m) x y = subst (λ l. DifferWithin (at + copy_place s 0) (n * l) x y) long first.differs in
    let behind : DifferWithin (at + copy_place s n) (n * m) y z = subst (λ l. DifferWithin (at + copy_place s n) (n * l) y z) long second.differs in
    record {
      differs = differ-then (at + 12288) (2 * n * m) x y z (widen (at + copy_place s 0) (n * m) (at + 12288) (2 * n * m) x y over (omega arith) (omega (arith, two)))
          (widen (at + copy_place s n) (n * m) (at + 12288) (2 * n * m) y z behind (omega arith) (omega (arith, two)));
      each = λ k less. by k less (nat_lt k n) refl over behind (λ j h. subst (λ l. copy y (at + copy_place s 0 + j * l) l ≡ bytes) long (first.each j h))
          (λ j h. subst (λ l. copy z (at + copy_place s n + j * l) l ≡ bytes) long (second.each j h));
    }
  where
    by : (k : ℕ) → k < 2 * s.slots → (t : Bool) → nat_lt k s.slots ≡ t → {y : List ℕ} → DifferWithin (at + copy_place s 0) (s.slots * s.max_size) x y → DifferWithin (at + copy_place s s.slots) (s.slots * s.max_size) y z →
        ((j : ℕ) → j < s.slots → copy y (at + copy_place s 0 + j * s.max_size) s.max_size ≡ bytes) → ((j : ℕ) → j < s.slots → copy z (at + copy_place s s.slots + j * s.max_size) s.max_size ≡ bytes) →
        copy_in s at k z ≡ bytes
    by k less true t {y} over behind first second =
        let h : k < s.slots = grind (arith, nat_tests) in
        let most : (k + 1) * s.max_size ≤ s.slots * s.max_size = fits (k + 1) s.slots s.max_size (omega (arith, h)) in
        let place : at + copy_place s 0 + k * s.max_size ≡ at + copy_place s k = omega arith in
        kept-outside y z (at + copy_place s s.slots) (s.slots * s.max_size) (at + copy_place s k) s.max_size behind (inl (omega (arith, most)))
        ∙ subst (λ p. copy y p s.max_size ≡ bytes) place (first k h)
    by k less false t {y} over behind first second =
        let h : s.slots ≤ k = grind (arith, nat_tests) in
        let back : s.slots + (k - s.slots) ≡ k = omega (arith, h) in
        let times : s.slots * s.max_size + (k - s.slots) * s.max_size ≡ k * s.max_size = parts s.slots (k - s.slots) k s.max_size back in
        let place : at + copy_place s s.slots + (k - s.slots) * s.max_size ≡ at + copy_place s k = omega (arith, times) in
        subst (λ p. copy z p s.max_size ≡ bytes) place (second (k - s.slots) (omega (arith, less, h)))

first-in : (torn : Tears) (s : SuperPart) (at : ℕ) (bytes x z : List ℕ) → length bytes ≡ s.max_size → AreLeft torn (at + copy_place s 0) s.slots bytes x z → IsLeft torn (copy_in s at 0 x) bytes (copy_in s at 0 z)
first-in torn s at bytes x z long h = subst (λ l. IsLeft torn (copy x (at + copy_place s 0) l) bytes (copy z (at + copy_place s 0) l)) long h.first

-- the first row was being written
pub first-left : (torn : Tears) (s : SuperPart) (at : ℕ) (bytes x z : List ℕ) → IsBounded s → length bytes ≡ s.max_size → AreLeft torn (at + copy_place s 0) s.slots bytes x z → AreCopiesLeft torn s at bytes x z
first-left torn s at bytes x z b long h =
    let n = s.slots in
    let m = s.max_size in
    let two : 2 * n * m ≡ n * m + n * m = omega arith in
    let over : DifferWithin (at + copy_place s 0) (n * m) x z = subst (λ l. DifferWithin (at + copy_place s 0) (n * l) x z) long h.differs in
    record {
      differs = widen (at + copy_place s 0) (n * m) (at + 12288) (2 * n * m) x z over (omega arith) (omega (arith, two));
      left = inl (first-in torn s at bytes x z long h, kept-outside x z (at + copy_place s 0) (n * m) (at + copy_place s n) m over (inr (omega arith)));
    }

-- the second row was being written
pub second-left : (torn : Tears) (s : SuperPart) (at : ℕ) (bytes x y z : List ℕ) → IsBounded s → at + s.size ≤ length x → length bytes ≡ s.max_size →
    y ≡ written x (at + copy_place s 0) (copies s.slots bytes) → AreLeft torn (at + copy_place s s.slots) s.slots bytes y z → AreCopiesLeft torn s at bytes x z
second-left torn s at bytes x y z b range long e h =
    let n = s.slots in
    let m = s.max_size in
    let inside = tables-inside s b in
    let some = b.slots in
    let two : 2 * n * m ≡ n * m + n * m = omega arith in
    let one : 1 * m ≤ n * m = fits 1 n m (omega (arith, some)) in
    let row : AreInRow (at + copy_place s 0) n bytes x y = subst (AreInRow (at + copy_place s 0) n bytes x) (sym e)
    (in-row (at + copy_place s 0) n bytes x (subst (λ l. at + copy_place s 0 + n * l ≤ length x) (sym long) (omega (arith, range, inside, two)))) in
    let over : DifferWithin (at + copy_place s 0) (n * m) x y = subst (λ l. DifferWithin (at + copy_place s 0) (n * l) x y) long row.differs in
    let behind : DifferWithin (at + copy_place s n) (n * m) y z = subst (λ l. DifferWithin (at + copy_place s n) (n * l) y z) long h.differs in
    let here : copy_in s at 0 y ≡ bytes =
    subst (λ l. copy y (at + copy_place s 0) l ≡ bytes) long (first-block (at + copy_place s 0) (length bytes) bytes y (row.each 0 (omega (arith, some)))) in
    record {
      differs = differ-then (at + 12288) (2 * n * m) x y z (widen (at + copy_place s 0) (n * m) (at + 12288) (2 * n * m) x y over (omega arith) (omega (arith, two)))
          (widen (at + copy_place s n) (n * m) (at + 12288) (2 * n * m) y z behind (omega arith) (omega (arith, two)));
      left = inr (kept-outside y z (at + copy_place s n) (n * m) (at + copy_place s 0) m behind (inl (omega (arith, one))) ∙ here);
    }

-- the same of a disk
abbrev IsLong : ℕ → List ℕ → Type 0
IsLong n file = n ≤ length file

in-file : (a : DiskTold) (at size : ℕ) → Agrees a.files a.open_path a.open_length → IsInside a.open_length at size → IfSome (open_bytes a) (IsLong (at + size))
in-file a at size law inside = by (open_bytes a) (content-range a.files a.open_path a.open_length at size law inside)
  where
    by : (o : Option (List ℕ)) → HasRange o at size → IfSome o (IsLong (at + size))
    by None h = tt
    by (Some x) h = h

pub Writes-tables : (s : SuperPart) (at : ℕ) (bytes : List ℕ) (a b c : DiskTold) → Agrees a.files a.open_path a.open_length → IsBounded s → IsInside a.open_length at s.size → length bytes ≡ s.max_size →
    Writes a b (at + copy_place s 0) (copies s.slots bytes) → Writes b c (at + copy_place s s.slots) (copies s.slots bytes) → Both (AreCopiesWritten s at bytes) (open_bytes a) (open_bytes c)
Writes-tables s at bytes a b c law bounds inside long w v =
    both-start-then (open_bytes a) (open_bytes b) (open_bytes c) (in-file a at s.size law inside) w.wrote v.wrote
    (λ x y z range e f. rows-written s at bytes x z bounds range long (f ∙ ap (λ file. written file (at + copy_place s s.slots) (copies s.slots bytes)) e))

pub Fails-first : (torn : Tears) (s : SuperPart) (at : ℕ) (bytes : List ℕ) (a b : DiskTold) → IsBounded s → length bytes ≡ s.max_size →
    Both (AreLeft torn (at + copy_place s 0) s.slots bytes) (open_bytes a) (open_bytes b) → Both (AreCopiesLeft torn s at bytes) (open_bytes a) (open_bytes b)
Fails-first torn s at bytes a b bounds long h = both-map (open_bytes a) (open_bytes b) h (λ x z l. first-left torn s at bytes x z bounds long l)

pub Fails-second : (torn : Tears) (s : SuperPart) (at : ℕ) (bytes : List ℕ) (a b c : DiskTold) → Agrees a.files a.open_path a.open_length → IsBounded s → IsInside a.open_length at s.size → length bytes ≡ s.max_size →
    Writes a b (at + copy_place s 0) (copies s.slots bytes) → Both (AreLeft torn (at + copy_place s s.slots) s.slots bytes) (open_bytes b) (open_bytes c) → Both (AreCopiesLeft torn s at bytes) (open_bytes a) (open_bytes c)
Fails-second torn s at bytes a b c law bounds inside long w h =
    both-start-then (open_bytes a) (open_bytes b) (open_bytes c) (in-file a at s.size law inside) w.wrote h
    (λ x y z range e l. second-left torn s at bytes x y z bounds range long e l)
