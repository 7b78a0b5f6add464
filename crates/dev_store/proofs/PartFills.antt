-- Pieces of a write, of a fill and of a read.
use Rattle.std.proofs.Common.{◌≡◌, ◌∙◌, ap, sym, ℕ, zero, suc, ◌+◌, ◌*◌, ◌-◌, ◌≤◌, List, ◌++◌, length, take, drop, Option, Some, None, arith, append_assoc, length-append}
use Rattle.std.specs.Prelude.{◌/◌, ◌%◌}
use Rattle.std.proofs.Math.Seq.{take-add}
use Rattle.std.proofs.lemmas.List.{take_at, drop-drop}
use Rattle.fb_frame.specs.Told.{Both}
use Rattle.dev_disk.specs.Files.{Tears, DifferWithin, IsTornAt}
use Rattle.dev_model.specs.declared.device.Dev.{Dev}
use Rattle.dev_model.specs.Images.{copies}
use Rattle.super_meta.specs.Contents.{Content}
use Rattle.dev_store.specs.declared.state.State.{State}
use Rattle.dev_store.specs.Changes.{repeated, put_at}
use Rattle.dev_store.specs.Layouts.{LayoutValue}
use Rattle.dev_store.specs.Held.{device_held, IsKept}
use Rattle.dev_store.specs.StoreCalls.{part_bytes, IsPartly, IsRangeRead}
use Rattle.dev_store.specs.PartWrites.{IsPartWritten, IsLeftIn}
use Rattle.dev_store.proofs.MadeParts.{length-copies}
use Rattle.dev_store.proofs.SuperRepairLemmas.{widen}
use Rattle.dev_store.proofs.PartWritten.{puts_then, put_partly}

copies-join : (m n : ℕ) (xs : List ℕ) → copies (m + n) xs ≡ copies m xs ++ copies n xs
copies-join zero n xs = ap (λ k. copies k xs) {x = zero + n} {y = n} (omega arith)
copies-join (suc m) n xs =
    ap (λ k. copies k xs) {x = suc m + n} {y = suc (m + n)} (omega arith)
    ∙ (ap (λ t. xs ++ t) (copies-join m n xs) ∙ sym (append_assoc xs (copies m xs) (copies n xs)))

-- a fill in two pieces
pub repeated_more : (a b : ℕ) (pattern : List ℕ) → a % 4 ≡ 0 → repeated (a + b) pattern ≡ repeated a pattern ++ repeated b pattern
repeated_more a b pattern h = ap (λ n. copies n pattern) {x = (a + b) / 4} {y = a / 4 + b / 4} (omega arith) ∙ copies-join (a / 4) (b / 4) pattern

-- and how long it is
pub repeated_long : (count : ℕ) (pattern : List ℕ) → count % 4 ≡ 0 → length pattern ≡ 4 → length (repeated count pattern) ≡ count
repeated_long count pattern h l = length-copies (count / 4) pattern ∙ (ap (λ n. count / 4 * n) l ∙ omega arith)

-- the front of a fill is a fill
pub repeated_front : (n count : ℕ) (pattern : List ℕ) → n % 4 ≡ 0 → n ≤ count → length pattern ≡ 4 → take n (repeated count pattern) ≡ repeated n pattern
repeated_front n count pattern h fits l =
    ap (λ m. take n (repeated m pattern)) {x = count} {y = n + (count - n)} (omega arith)
    ∙ (ap (take n) (repeated_more n (count - n) pattern h) ∙ take_at (repeated n pattern) (repeated (count - n) pattern) n (repeated_long n pattern h l))

-- two ranges that were read, one behind the other
pub reads_then : (image : Option (List ℕ)) (part : List ℕ) (at : ℕ) (xs ys : List ℕ) → IsRangeRead image part at xs → IsRangeRead image part (at + length xs) ys → IsRangeRead image part at (xs ++ ys)
reads_then None part at xs ys h k = tt
reads_then (Some file) part at xs ys h k =
    sym (ap (λ n. take n (drop at part)) (length-append xs ys)
    ∙ (take-add (length xs) (length ys) (drop at part)
    ∙ (ap (λ l. take (length xs) (drop at part) ++ take (length ys) l) (drop-drop (length xs) at part)
    ∙ (ap (λ l. l ++ take (length ys) (drop (at + length xs) part)) (sym h) ∙ ap (λ l. xs ++ l) (sym k)))))

-- a failed write changes its range alone
pub torn_differs : (torn : Tears) (place : ℕ) (bytes : List ℕ) (old new : Option (List ℕ)) → Both (IsTornAt torn place bytes) old new → Both (DifferWithin place (length bytes)) old new
torn_differs torn place bytes None None h = tt
torn_differs torn place bytes None (Some new) h = absurd h
torn_differs torn place bytes (Some old) None h = absurd h
torn_differs torn place bytes (Some old) (Some new) h = h.differs

-- a range lies in a wider one
pub partly_wider : (name : List ℕ) (at count low wide : ℕ) (dev t : Dev) → low ≤ at → at + count ≤ low + wide → IsPartly name at count dev t → IsPartly name low wide dev t
partly_wider name at count low wide dev t l h k = record {
  differs = widen at count low wide (part_bytes name dev) (part_bytes name t) k.differs l h;
  same = k.same;
}

-- Pieces were written, and then one failed: the device is as it was, but for the range of all pieces.
pub left_partly : (layout : LayoutValue) (state : State) (table : Option Content) (name : List ℕ) (at count wide : ℕ) (xs : List ℕ) (a b c : Option (List ℕ)) → IsKept layout state table a →
    length xs + count ≤ wide → at + wide ≤ length (part_bytes name (device_held layout state table a)) → IsPartWritten layout (device_held layout state table) (put_at name at xs) a b →
    IsLeftIn layout (device_held layout state table) (put_at name (at + length xs)) count b c →
    IsPartly name at wide (device_held layout state table a) (device_held layout state table c)
left_partly layout state table name at count wide xs a b c k fits inside w (left, long, torn) =
    let e = length-append xs left in
    let n : length (xs ++ left) ≤ wide = omega arith in
    partly_wider name at (length (xs ++ left)) at wide (device_held layout state table a) (device_held layout state table c) (omega arith) (omega arith)
    (put_partly layout state table name at (xs ++ left) a c k (omega arith) (puts_then layout (device_held layout state table) name at xs left a b c w torn))
