-- Copies in super that were written anew, and what a failed write leaves of them.
use Rattle.std.proofs.Common.{◌≡◌, ◌≢◌, ◌⊎◌, inl, inr, ℕ, zero, suc, ◌+◌, ◌*◌, ◌-◌, ◌%◌, ◌<◌, ◌≤◌, Bool, true, false, List, length, take, drop, Option, Some, None, Result, Ok, Err, refl, sym, ap, subst, ◌∙◌, arith, mul-le-mul_left}
use Rattle.std.specs.Prelude.{IfSome, IsTrue, ◌↔◌, if◌then◌else◌, ◌&&◌, ◌==◌, nat_lt, not}
use Rattle.std.specs.Option.{option_or}
use Rattle.std.specs.Result.{result_ok}
use Rattle.std.proofs.lemmas.List.{drop-drop, drop-take, take-take}
use Rattle.std.proofs.lemmas.Bool.{cases_eq}
use Rattle.std.proofs.lemmas.Bool.Decides.{nat_tests}
use Rattle.fb_frame.specs.Told.{Both}
use Rattle.fb_frame.specs.Bytes.{AreBytes}
use Rattle.dev_disk.specs.Files.{Tears, DifferWithin, IsTornAt, Wrote, IsRead, IsInside, written, copy}
use Rattle.dev_disk.specs.Calls.{Agrees}
use Rattle.dev_disk.specs.Disks.{DiskTold, open_bytes, FilesKept, OpenKept}
use Rattle.dev_disk.proofs.Writes.{read-written, differ-written, kept-outside}
use Rattle.dev_disk.proofs.TwinLemmas.{HasRange, content-range, OpenKept-files}
use Rattle.super_meta.specs.declared.geometry.Geometry.{Geometry}
use Rattle.super_meta.specs.GeometryText.{geometry_of, is_geometry, GeometryBytes}
use Rattle.super_meta.specs.Contents.{Content, content}
use Rattle.super_meta.specs.TableText.{table_of, table_size}
use Rattle.super_meta.specs.TableBytes.{TableBytes}
use Rattle.super_meta.specs.Laws.{GeometryRead, TableRead, TableSpelled}
use Rattle.super_meta.specs.declared.errors.MetaError.{MetaError}
use Rattle.dev_store.specs.declared.layout.SuperPart.{SuperPart}
use Rattle.dev_store.specs.declared.super_read.SuperRead.{SuperRead}
use Rattle.dev_store.specs.Faults.{IsHonest}
use Rattle.dev_store.specs.LayoutLines.{first_unit, unit_count}
use Rattle.dev_store.specs.Supers.{geometry_copy, holds_geometry, is_own_geometry, copy_place, copy_reads, table_read}
use Rattle.dev_store.specs.SuperBounds.{IsBounded, geometry_place}
use Rattle.dev_store.specs.SuperReads.{IsReadOf, IsSuperRead, IsSpelled, copy_read}
use Rattle.dev_store.specs.SuperRepairs.{HoldsGeometry, SaysTable, IsRangeMended, IsRangeLeft, IsCopyMended, IsCopyLeft, AreMendedTo, AreTablesMended, AreTablesLeft, IsSuperMended, IsSuperLeft}
use Rattle.dev_store.proofs.PlaceLemmas.{geometry-at, reads-at, place-before, block-before, tables-inside, range-inside}
use Rattle.dev_store.proofs.SuperReadLemmas.{reads-of}

ok-from : (r : Result Content MetaError) (c : Content) → result_ok r ≡ Some c → r ≡ Ok c
ok-from (Ok d) c h = ap Ok cc
ok-from (Err e) c h = absurd cc

-- bytes that begin as a table's spelling say the table, and only these
pub same-tables : TableRead → TableSpelled → (c : Content) (bytes copied : List ℕ) (size : ℕ) (same : Bool) → AreBytes bytes → TableBytes c copied → size ≡ table_size c →
    (IsTrue same ↔ (take size bytes ≡ take size copied)) → (IsTrue same ↔ SaysTable c bytes)
same-tables read spelled c bytes copied size same are t e h = (
  λ r. ap result_ok (read bytes c (record { sound = t.sound; fitting = t.fitting; spelled = subst (λ n. take n bytes ≡ take n copied) e (h.0 r) ∙ t.spelled })),
  λ s. h.1 (subst (λ n. take n bytes ≡ take n copied) (sym e) ((spelled bytes c are (ok-from (table_of bytes) c s)).spelled ∙ sym t.spelled)),
)

same-numbers : (m n : ℕ) → ((m == m) && (n == n)) ≡ true
same-numbers m n = grind (arith, nat_tests)

abbrev pub own : SuperPart → Geometry
own s = record { max_size = s.max_size; slots = s.slots; block_size = 4096 }

-- a block of the layout's geometry
pub own-geometry : GeometryRead → (s : SuperPart) (block : List ℕ) → GeometryBytes (own s) block → HoldsGeometry s block
unfolding holds_geometry
own-geometry read s block h = ap (is_own_geometry s) (read block (own s) h) ∙ same-numbers s.max_size s.slots

four : (a b c d : Bool) → a ≡ true → b ≡ true → c ≡ true → d ≡ true → (((a && b) && c) && d) ≡ true
four a b c d h i j k = (λ n. ((h n && i n) && j n) && k n)

pub good-geometry : (s : SuperPart) → IsBounded s → IsTrue (is_geometry (own s))
good-geometry s b =
    four (nat_lt 0 s.max_size) (s.max_size % 512 == 0) (nat_lt 0 s.slots) (4096 == 4096)
    (let t = b.tables in grind (arith, nat_tests)) (let w = b.whole in grind (arith, nat_tests)) (let l = b.slots in grind (arith, nat_tests)) refl

-- a change lies in a wider range too, and two of them are one
pub widen : (p n q m : ℕ) (old new : List ℕ) → DifferWithin p n old new → q ≤ p → p + n ≤ q + m → DifferWithin q m old new
widen p n q m old new d low high =
    let e : p + n + (q + m - (p + n)) ≡ q + m = omega arith in
    record {
      same_length = d.same_length;
      front = sym (take-take q p new low) ∙ (ap (take q) d.front ∙ take-take q p old low);
      rest = subst (λ k. drop k new ≡ drop k old) e
          (sym (drop-drop (q + m - (p + n)) (p + n) new) ∙ (ap (drop (q + m - (p + n))) d.rest ∙ drop-drop (q + m - (p + n)) (p + n) old));
    }

pub differ-then : (q m : ℕ) (a b c : List ℕ) → DifferWithin q m a b → DifferWithin q m b c → DifferWithin q m a c
differ-then q m a b c d e = record { same_length = e.same_length ∙ d.same_length; front = e.front ∙ d.front; rest = e.rest ∙ d.rest }

pub differ-self : (q m : ℕ) (a : List ℕ) → DifferWithin q m a a
differ-self q m a = record { same_length = refl; front = refl; rest = refl }

-- copies share no byte
pub apart : (s : SuperPart) (j k : ℕ) → j ≢ k → (copy_place s j + s.max_size ≤ copy_place s k) ⊎ (copy_place s k + s.max_size ≤ copy_place s j)
apart s j k ne = elim (order j k ne) [
  | inl l ↦ inl (let m : s.max_size * (j + 1) ≤ s.max_size * k = mul-le-mul_left s.max_size (omega arith) in omega arith)
  | inr l ↦ inr (let m : s.max_size * (k + 1) ≤ s.max_size * j = mul-le-mul_left s.max_size (omega arith) in omega arith)
]
  where
    order : (j k : ℕ) → j ≢ k → (j < k) ⊎ (k < j)
    order j k ne = by (nat_lt j k) refl where
      by : (b : Bool) → nat_lt j k ≡ b → (j < k) ⊎ (k < j)
      by true e = inl (grind (arith, nat_tests))
      by false e = inr (let h : k ≤ j = grind (arith, nat_tests) in omega arith)

pub shift : (at x n y : ℕ) → (x + n ≤ y) ⊎ (y + n ≤ x) → (at + x + n ≤ at + y) ⊎ (at + y + n ≤ at + x)
shift at x n y (inl h) = inl (omega arith)
shift at x n y (inr h) = inr (omega arith)

-- another copy reads as before
pub reads-kept : (s : SuperPart) (at j k : ℕ) (a b : List ℕ) → IsBounded s → j < 2 * s.slots → j ≢ k → DifferWithin (at + copy_place s k) s.max_size a b →
    copy_reads s j (copy b at s.size) ≡ copy_reads s j (copy a at s.size)
reads-kept s at j k a b bound l ne d =
    reads-at s b at j bound l
    ∙ (ap (λ bytes. result_ok (table_of bytes)) (kept-outside a b (at + copy_place s k) s.max_size (at + copy_place s j) s.max_size d (shift at (copy_place s j) s.max_size (copy_place s k) (apart s j k ne)))
    ∙ sym (reads-at s a at j bound l))

-- no copy of the table lies where a block of the geometry does
reads-kept-block : (s : SuperPart) (at j : ℕ) (second : Bool) (a b : List ℕ) → IsBounded s → j < 2 * s.slots → DifferWithin (at + geometry_place second) 4096 a b →
    copy_reads s j (copy b at s.size) ≡ copy_reads s j (copy a at s.size)
reads-kept-block s at j second a b bound l d =
    let before = block-before second in
    let behind : at + geometry_place second + 4096 ≤ at + copy_place s j = omega arith in
    reads-at s b at j bound l
    ∙ (ap (λ bytes. result_ok (table_of bytes)) (kept-outside a b (at + geometry_place second) 4096 (at + copy_place s j) s.max_size d (inr behind))
    ∙ sym (reads-at s a at j bound l))

-- copies before this one
pub start-mended : (s : SuperPart) (at : ℕ) (backup : Bool) (c : Content) (old : List ℕ) → IsReadOf s (copy old at s.size) backup c → AreMendedTo s at (copy_read s backup) c 0 old old
start-mended s at backup c old r = record { differs = differ-self _ _ old; own_reads = r.copy; done = λ k l. absurd (omega arith); first = inr refl }

tables-differ : (s : SuperPart) (at k : ℕ) (a b : List ℕ) → IsBounded s → k < 2 * s.slots → DifferWithin (at + copy_place s k) s.max_size a b → DifferWithin (at + 12288) (2 * s.slots * s.max_size) a b
tables-differ s at k a b bound l d =
    let p = place-before s k bound l in widen (at + copy_place s k) s.max_size (at + 12288) (2 * s.slots * s.max_size) a b d (omega arith) (omega arith)

says-there : (s : SuperPart) (at own : ℕ) (c : Content) (k : ℕ) (mid new : List ℕ) → IsBounded s → k < 2 * s.slots → copy_reads s own (copy mid at s.size) ≡ Some c → IsCopyMended s at own c k mid new →
    copy_reads s k (copy new at s.size) ≡ Some c
says-there s at own c k mid new b l o m = elim (cases_eq k own) [
  | inl e ↦ ap (λ file. copy_reads s k (copy file at s.size)) (m.kept e) ∙ (ap (λ j. copy_reads s j (copy mid at s.size)) e ∙ o)
  | inr ne ↦ reads-at s new at k b l ∙ m.says ne
]

still : (s : SuperPart) (at j k : ℕ) (c : Content) (mid new : List ℕ) → IsBounded s → j < 2 * s.slots → copy_reads s j (copy mid at s.size) ≡ Some c → copy_reads s k (copy new at s.size) ≡ Some c →
    DifferWithin (at + copy_place s k) s.max_size mid new → copy_reads s j (copy new at s.size) ≡ Some c
still s at j k c mid new b l o here d = elim (cases_eq j k) [
  | inl e ↦ ap (λ i. copy_reads s i (copy new at s.size)) e ∙ here
  | inr ne ↦ reads-kept s at j k mid new b l ne d ∙ o
]

pub next-mended : (s : SuperPart) (at own : ℕ) (c : Content) (k : ℕ) (old mid new : List ℕ) → IsBounded s → own < 2 * s.slots → k < 2 * s.slots →
    AreMendedTo s at own c k old mid → IsCopyMended s at own c k mid new → AreMendedTo s at own c (k + 1) old new
next-mended s at own c k old mid new b o l m n =
    let here = says-there s at own c k mid new b l m.own_reads n in
    record {
      differs = differ-then _ _ old mid new m.differs (tables-differ s at k mid new b l n.differs);
      own_reads = still s at own k c mid new b o m.own_reads here n.differs;
      done = λ j h. elim (cases_eq j k) [
        | inl e ↦ ap (λ i. copy_reads s i (copy new at s.size)) e ∙ here
        | inr ne ↦ let less : j < k = omega arith in reads-kept s at j k mid new b (omega arith) ne n.differs ∙ m.done j less
      ];
      first = inl (omega arith);
    }

pub all-mended : (s : SuperPart) (at own : ℕ) (c : Content) (k : ℕ) (old new : List ℕ) → 2 * s.slots ≤ k → AreMendedTo s at own c k old new → AreTablesMended s at c old new
all-mended s at own c k old new l m = record { differs = m.differs; copies = λ j h. m.done j (omega arith) }

or-first : (a b : Option Content) (c : Content) → a ≡ Some c → option_or a b ≡ Some c
or-first a b c h = ap (λ o. option_or o b) h

or-second : (a b : Option Content) (c : Content) → (a ≡ Some c) ⊎ (a ≡ None) → b ≡ Some c → option_or a b ≡ Some c
or-second a b c (inl h) k = ap (λ o. option_or o b) h
or-second a b c (inr h) k = ap (λ o. option_or o b) h ∙ k

-- a write of a copy failed: the table is read still
pub tables-left : (torn : Tears) (s : SuperPart) (at : ℕ) (r : SuperRead) (k : ℕ) (old mid new : List ℕ) → IsBounded s → k < 2 * s.slots → IsReadOf s (copy old at s.size) r.backup (content r.table) →
    SaysTable (content r.table) r.copy.items → AreMendedTo s at (copy_read s r.backup) (content r.table) k old mid → IsCopyLeft torn s at r k mid new → AreTablesLeft torn s at (content r.table) old new
tables-left torn s at r k old mid new b l read says m n = record {
  differs = differ-then _ _ old mid new m.differs (tables-differ s at k mid new b l n.left.differs);
  reads = λ honest. by r.backup read m n.other honest;
}
  where
    first-is : (0 < k) ⊎ (copy_reads s 0 (copy mid at s.size) ≡ copy_reads s 0 (copy old at s.size)) → (0 < k → copy_reads s 0 (copy mid at s.size) ≡ Some (content r.table)) →
        copy_reads s 0 (copy old at s.size) ≡ None → (copy_reads s 0 (copy mid at s.size) ≡ Some (content r.table)) ⊎ (copy_reads s 0 (copy mid at s.size) ≡ None)
    first-is (inl p) done none = inl (done p)
    first-is (inr e) done none = inr (e ∙ none)

    either : (copy new (at + copy_place s k) s.max_size ≡ copy mid (at + copy_place s k) s.max_size) ⊎ torn (copy mid (at + copy_place s k) s.max_size) r.copy.items (copy new (at + copy_place s k) s.max_size) → IsHonest torn →
        (result_ok (table_of (copy new (at + copy_place s k) s.max_size)) ≡ result_ok (table_of (copy mid (at + copy_place s k) s.max_size)))
        ⊎ (result_ok (table_of (copy new (at + copy_place s k) s.max_size)) ≡ result_ok (table_of r.copy.items)) ⊎ (result_ok (table_of (copy new (at + copy_place s k) s.max_size)) ≡ None)
    either (inl e) honest = inl (ap (λ bytes. result_ok (table_of bytes)) e)
    either (inr t) honest = honest.tables (copy mid (at + copy_place s k) s.max_size) r.copy.items (copy new (at + copy_place s k) s.max_size) t

    zero-is : (o p q w : Option Content) → (p ≡ Some (content r.table)) ⊎ (p ≡ None) → w ≡ Some (content r.table) → (q ≡ p) ⊎ (q ≡ w) ⊎ (q ≡ None) → o ≡ q → (o ≡ Some (content r.table)) ⊎ (o ≡ None)
    zero-is o p q w (inl h) says (inl e) i = inl (i ∙ (e ∙ h))
    zero-is o p q w (inr h) says (inl e) i = inr (i ∙ (e ∙ h))
    zero-is o p q w h says (inr (inl e)) i = inl (i ∙ (e ∙ says))
    zero-is o p q w h says (inr (inr e)) i = inr (i ∙ e)

    zero-by : (copy new (at + copy_place s k) s.max_size ≡ copy mid (at + copy_place s k) s.max_size) ⊎ torn (copy mid (at + copy_place s k) s.max_size) r.copy.items (copy new (at + copy_place s k) s.max_size) → IsHonest torn →
        copy_reads s k (copy new at s.size) ≡ result_ok (table_of (copy new (at + copy_place s k) s.max_size)) → copy_reads s k (copy mid at s.size) ≡ result_ok (table_of (copy mid (at + copy_place s k) s.max_size)) →
        (copy_reads s k (copy mid at s.size) ≡ Some (content r.table)) ⊎ (copy_reads s k (copy mid at s.size) ≡ None) → k ≡ 0 →
        (copy_reads s 0 (copy new at s.size) ≡ Some (content r.table)) ⊎ (copy_reads s 0 (copy new at s.size) ≡ None)
    zero-by left honest here there before e =
        subst (λ j. (copy_reads s j (copy new at s.size) ≡ Some (content r.table)) ⊎ (copy_reads s j (copy new at s.size) ≡ None)) e
        (zero-is (copy_reads s k (copy new at s.size)) (result_ok (table_of (copy mid (at + copy_place s k) s.max_size))) (result_ok (table_of (copy new (at + copy_place s k) s.max_size))) (result_ok (table_of r.copy.items))
        (subst (λ o. (o ≡ Some (content r.table)) ⊎ (o ≡ None)) there before) says
        (either left honest) here)

    zero-left : k ≡ 0 → (copy_reads s 0 (copy mid at s.size) ≡ Some (content r.table)) ⊎ (copy_reads s 0 (copy mid at s.size) ≡ None) → IsHonest torn →
        (copy_reads s 0 (copy new at s.size) ≡ Some (content r.table)) ⊎ (copy_reads s 0 (copy new at s.size) ≡ None)
    zero-left e before honest =
        let here : copy_reads s k (copy new at s.size) ≡ result_ok (table_of (copy new (at + copy_place s k) s.max_size)) = reads-at s new at k b l in
        let there : copy_reads s k (copy mid at s.size) ≡ result_ok (table_of (copy mid (at + copy_place s k) s.max_size)) = reads-at s mid at k b l in
        zero-by n.left.left honest here there (subst (λ j. (copy_reads s j (copy mid at s.size) ≡ Some (content r.table)) ⊎ (copy_reads s j (copy mid at s.size) ≡ None)) (sym e) before) e

    by : (backup : Bool) → IsReadOf s (copy old at s.size) backup (content r.table) → AreMendedTo s at (copy_read s backup) (content r.table) k old mid → k ≢ copy_read s backup → IsHonest torn →
        table_read s (copy new at s.size) ≡ Some (content r.table)
    by false read m other honest =
        let none : 0 ≢ k = λ e. other (sym e) in
        or-first _ _ (content r.table) (reads-kept s at 0 k mid new b (omega (arith, b.slots)) none n.left.differs ∙ m.own_reads)
    by true read m other honest =
        let none : s.slots ≢ k = λ e. other (sym e) in
        let second = reads-kept s at s.slots k mid new b (omega (arith, b.slots)) none n.left.differs ∙ m.own_reads in
        let before = first-is m.first (m.done 0) (read.first refl) in
        or-second _ _ (content r.table) (elim (cases_eq k 0) [
          | inl e ↦ zero-left e before honest
          | inr ne ↦ let other-zero : 0 ≢ k = λ e. ne (sym e) in
              subst (λ o. (o ≡ Some (content r.table)) ⊎ (o ≡ None)) (sym (reads-kept s at 0 k mid new b (omega (arith, b.slots)) other-zero n.left.differs)) before
        ]) second

-- told bytes before and after
pub both-kept : (R : List ℕ → List ℕ → Type 0) (o p : Option (List ℕ)) → p ≡ o → ((file : List ℕ) → R file file) → Both R o p
both-kept R o p e r = subst (Both R o) (sym e) (self o) where
  self : (o : Option (List ℕ)) → Both R o o
  self None = tt
  self (Some file) = r file

pub both-kept-if : (P : List ℕ → Type 0) (R : List ℕ → List ℕ → Type 0) (o p : Option (List ℕ)) → p ≡ o → IfSome o P → ((file : List ℕ) → P file → R file file) → Both R o p
both-kept-if P R o p e h r = subst (Both R o) (sym e) (self o h) where
  self : (o : Option (List ℕ)) → IfSome o P → Both R o o
  self None h = tt
  self (Some file) h = r file h

pub both-from : (R : List ℕ → List ℕ → Type 0) (o q p : Option (List ℕ)) → q ≡ o → Both R q p → Both R o p
both-from R o q p e h = subst (λ x. Both R x p) e h

pub both-to : (R : List ℕ → List ℕ → Type 0) (o q p : Option (List ℕ)) → p ≡ q → Both R o q → Both R o p
both-to R o q p e h = subst (Both R o) (sym e) h

pub both-map : {R S : List ℕ → List ℕ → Type 0} (o p : Option (List ℕ)) → Both R o p → ((a b : List ℕ) → R a b → S a b) → Both S o p
both-map None None h f = tt
both-map None (Some b) h f = h
both-map (Some a) None h f = h
both-map (Some a) (Some b) h f = f a b h

pub both-then : {R S T : List ℕ → List ℕ → Type 0} (o q p : Option (List ℕ)) → Both R o q → Both S q p → ((a b c : List ℕ) → R a b → S b c → T a c) → Both T o p
both-then None None None h k f = tt
both-then None None (Some c) h k f = k
both-then None (Some b) p h k f = absurd h
both-then (Some a) None p h k f = absurd h
both-then (Some a) (Some b) None h k f = k
both-then (Some a) (Some b) (Some c) h k f = f a b c h k

pub both-start : {P : List ℕ → Type 0} {R S : List ℕ → List ℕ → Type 0} (o p : Option (List ℕ)) → IfSome o P → Both R o p → ((a b : List ℕ) → P a → R a b → S a b) → Both S o p
both-start None None i h f = tt
both-start None (Some b) i h f = h
both-start (Some a) None i h f = h
both-start (Some a) (Some b) i h f = f a b i h

pub both-start-then : {P : List ℕ → Type 0} {R S T : List ℕ → List ℕ → Type 0} (o q p : Option (List ℕ)) → IfSome o P → Both R o q → Both S q p → ((a b c : List ℕ) → P a → R a b → S b c → T a c) → Both T o p
both-start-then None None None i h k f = tt
both-start-then None None (Some c) i h k f = k
both-start-then None (Some b) p i h k f = absurd h
both-start-then (Some a) None p i h k f = absurd h
both-start-then (Some a) (Some b) None i h k f = k
both-start-then (Some a) (Some b) (Some c) i h k f = f a b c i h k

pub if-after : {P Q : List ℕ → Type 0} {R : List ℕ → List ℕ → Type 0} (o p : Option (List ℕ)) → IfSome o P → Both R o p → ((a b : List ℕ) → P a → R a b → Q b) → IfSome p Q
if-after None None i h f = tt
if-after None (Some b) i h f = absurd h
if-after (Some a) None i h f = tt
if-after (Some a) (Some b) i h f = f a b i h

pub read-some : (o : Option (List ℕ)) (at : ℕ) (bytes : List ℕ) → IsRead o at bytes → IfSome o (λ file. bytes ≡ take (length bytes) (drop at file))
read-some None at bytes h = tt
read-some (Some file) at bytes h = h

-- bytes that were written hold what they say
pub written-mended : (o p : Option (List ℕ)) (at n : ℕ) (bytes : List ℕ) (Holds : List ℕ → Type 0) → HasRange o at n → length bytes ≡ n → Wrote o p at bytes → Holds bytes → Both (IsRangeMended at n Holds) o p
written-mended None None at n bytes Holds r l w h = tt
written-mended None (Some b) at n bytes Holds r l w h = w
written-mended (Some a) None at n bytes Holds r l w h = w
written-mended (Some a) (Some b) at n bytes Holds r l w h =
    let range : at + length bytes ≤ length a = omega arith in
    record {
      differs = subst (λ k. DifferWithin at k a b) l (subst (DifferWithin at (length bytes) a) (sym w) (differ-written a at bytes range));
      holds = subst Holds (sym (subst (λ k. copy b at k ≡ bytes) l (subst (λ file. copy file at (length bytes) ≡ bytes) (sym w) (read-written a at bytes range)))) h;
    }

pub torn-within : (torn : Tears) (o p : Option (List ℕ)) (at n : ℕ) (bytes : List ℕ) → length bytes ≡ n → Both (IsTornAt torn at bytes) o p → Both (DifferWithin at n) o p
torn-within torn o p at n bytes l h = both-map o p h (λ a b t. subst (λ k. DifferWithin at k a b) l t.differs)

pub torn-left : (torn : Tears) (o p : Option (List ℕ)) (at n : ℕ) (bytes : List ℕ) → length bytes ≡ n → Both (IsTornAt torn at bytes) o p → Both (IsRangeLeft torn at n bytes) o p
torn-left torn o p at n bytes l h = both-map o p h (λ a b t. subst (λ k. IsRangeLeft torn at k bytes a b) l (record { differs = t.differs; left = inr t.left }))

pub range-told : (t : DiskTold) (at size k n : ℕ) → Agrees t.files t.open_path t.open_length → IsInside t.open_length at size → k + n ≤ size → HasRange (open_bytes t) (at + k) n
range-told t at size k n agrees h l = content-range t.files t.open_path t.open_length (at + k) n agrees (range-inside t.open_length at size k n h l)

pub inside-kept : (a b : DiskTold) (at n : ℕ) → FilesKept a b → IsInside a.open_length at n → IsInside b.open_length at n
inside-kept a b at n k h = subst (λ l. IsInside l at n) (sym k.length) h

pub inside-open : (a b : DiskTold) (at n : ℕ) → OpenKept a b → IsInside a.open_length at n → IsInside b.open_length at n
inside-open a b at n k h = subst (λ l. IsInside l at n) (sym k.length) h

pub block-mended : (s : SuperPart) (at : ℕ) (second holds : Bool) (file : List ℕ) → IsBounded s → holds ≡ true → holds ≡ holds_geometry s (geometry_copy second (copy file at s.size)) →
    IsRangeMended (at + geometry_place second) 4096 (HoldsGeometry s) file file
block-mended s at second holds file b t h = record {
  differs = differ-self _ _ file;
  holds = ap (holds_geometry s) (sym (geometry-at s file at second b)) ∙ (sym h ∙ t);
}

pub copy-mended : (c : Content) (at n : ℕ) (bytes file : List ℕ) → length bytes ≡ n → SaysTable c bytes → bytes ≡ take (length bytes) (drop at file) → IsRangeMended at n (SaysTable c) file file
copy-mended c at n bytes file l says h = record {
  differs = differ-self _ _ file;
  holds = subst (SaysTable c) (h ∙ ap (λ k. take k (drop at file)) l) says;
}

pub range-still : (torn : Tears) (at n : ℕ) (bytes file : List ℕ) → IsRangeLeft torn at n bytes file file
range-still torn at n bytes file = record { differs = differ-self at n file; left = inl refl }

-- the copy that was read is left alone
pub own-mended : (s : SuperPart) (at own : ℕ) (c : Content) (k : ℕ) (file : List ℕ) → k ≡ own → IsCopyMended s at own c k file file
own-mended s at own c k file e = record { differs = differ-self _ _ file; says = λ ne. absurd (ne e); kept = λ _. refl }

pub other-mended : (s : SuperPart) (at own : ℕ) (c : Content) (k : ℕ) (a b : List ℕ) → k ≢ own → IsRangeMended (at + copy_place s k) s.max_size (SaysTable c) a b → IsCopyMended s at own c k a b
other-mended s at own c k a b ne m = record { differs = m.differs; says = λ _. m.holds; kept = λ e. absurd (ne e) }

-- SUPER: both stages
geometry-same : (s : SuperPart) (at : ℕ) (second : Bool) (p n : ℕ) (a b : List ℕ) → IsBounded s → DifferWithin (at + p) n a b → (geometry_place second + 4096 ≤ p) ⊎ (p + n ≤ geometry_place second) →
    holds_geometry s (geometry_copy second (copy b at s.size)) ≡ holds_geometry s (geometry_copy second (copy a at s.size))
geometry-same s at second p n a b bound d h =
    ap (holds_geometry s) (geometry-at s b at second bound ∙ (kept-outside a b (at + p) n (at + geometry_place second) 4096 d (shifted h) ∙ sym (geometry-at s a at second bound)))
  where
    shifted : (geometry_place second + 4096 ≤ p) ⊎ (p + n ≤ geometry_place second) → (at + geometry_place second + 4096 ≤ at + p) ⊎ (at + p + n ≤ at + geometry_place second)
    shifted (inl l) = inl (omega arith)
    shifted (inr l) = inr (omega arith)

blocks-apart : (x : Bool) → (geometry_place x + 4096 ≤ geometry_place (not x)) ⊎ (geometry_place (not x) + 4096 ≤ geometry_place x)
blocks-apart true = inr (omega arith)
blocks-apart false = inl (omega arith)

-- the block that was read holds the geometry after a change of the other one
own-block : (s : SuperPart) (at : ℕ) (x : Bool) (a b : List ℕ) → IsBounded s → DifferWithin (at + geometry_place (not x)) 4096 a b → IsTrue (holds_geometry s (geometry_copy x (copy a at s.size))) →
    IsTrue (holds_geometry s (geometry_copy x (copy b at s.size)))
own-block s at x a b bound d h = geometry-same s at x (geometry_place (not x)) 4096 a b bound d (blocks-apart x) ∙ h

-- and any block does after a change of copies of the table
any-block : (s : SuperPart) (at : ℕ) (x : Bool) (a b : List ℕ) → IsBounded s → DifferWithin (at + 12288) (2 * s.slots * s.max_size) a b → IsTrue (holds_geometry s (geometry_copy x (copy a at s.size))) →
    IsTrue (holds_geometry s (geometry_copy x (copy b at s.size)))
any-block s at x a b bound d h = geometry-same s at x 12288 (2 * s.slots * s.max_size) a b bound d (inl (block-before x)) ∙ h

one-block : (holds : Bool → Bool) (x : Bool) → holds x ≡ true → IsTrue (if holds false then true else holds true)
one-block holds true h = by (holds false) where
  by : (b : Bool) → (if b then true else holds true) ≡ true
  by true = refl
  by false = h
one-block holds false h = ap (λ b. if b then true else holds true) h

pub own-there : (s : SuperPart) (backup : Bool) → IsBounded s → copy_read s backup < 2 * s.slots
own-there s true b = omega (arith, b.slots)
own-there s false b = omega (arith, b.slots)

-- the table reads as it did after a change of a block of the geometry
pub read-block : (s : SuperPart) (at : ℕ) (x backup : Bool) (c : Content) (a b : List ℕ) → IsBounded s → DifferWithin (at + geometry_place x) 4096 a b → IsReadOf s (copy a at s.size) backup c → IsReadOf s (copy b at s.size) backup c
read-block s at x backup c a b bound d r = record {
  copy = reads-kept-block s at (copy_read s backup) x a b bound (own-there s backup bound) d ∙ r.copy;
  first = λ e. reads-kept-block s at 0 x a b bound (omega (arith, bound.slots)) d ∙ r.first e;
}

pub geometry-left : (s : SuperPart) (at : ℕ) (r : SuperRead) (a b : List ℕ) → IsBounded s → IsSuperRead s (copy a at s.size) r → DifferWithin (at + geometry_place (not r.second)) 4096 a b → IsSuperLeft s at a b
geometry-left s at r a b bound read d = record {
  geometry = one-block (λ x. holds_geometry s (geometry_copy x (copy b at s.size))) r.second (own-block s at r.second a b bound d read.geometry);
  table = reads-of s (copy b at s.size) r.backup (content r.table) (read-block s at (not r.second) r.backup (content r.table) a b bound d read.table) ∙ sym read.read;
}

pub table-left : (torn : Tears) (s : SuperPart) (at : ℕ) (r : SuperRead) (a b d : List ℕ) → IsBounded s → IsHonest torn → IsSuperRead s (copy a at s.size) r →
    IsRangeMended (at + geometry_place (not r.second)) 4096 (HoldsGeometry s) a b → AreTablesLeft torn s at (content r.table) b d → IsSuperLeft s at a d
table-left torn s at r a b d bound honest read m t = record {
  geometry = one-block (λ x. holds_geometry s (geometry_copy x (copy d at s.size))) r.second (any-block s at r.second b d bound t.differs (own-block s at r.second a b bound m.differs read.geometry));
  table = t.reads honest ∙ sym read.read;
}

other-holds : (s : SuperPart) (at : ℕ) (x : Bool) (a b : List ℕ) → IsBounded s → IsRangeMended (at + geometry_place (not x)) 4096 (HoldsGeometry s) a b → IsTrue (holds_geometry s (geometry_copy (not x) (copy b at s.size)))
other-holds s at x a b bound m = ap (holds_geometry s) (geometry-at s b at (not x) bound) ∙ m.holds

both-blocks : (holds : Bool → Bool) (x : Bool) → holds x ≡ true → holds (not x) ≡ true → (holds false ≡ true) × (holds true ≡ true)
both-blocks holds true h k = (k, h)
both-blocks holds false h k = (h, k)

pub rest-same : (at size first : ℕ) (a b : List ℕ) → 4096 ≤ first → first ≤ size → DifferWithin (at + 4096) (first - 4096) a b → drop first (copy b at size) ≡ drop first (copy a at size)
rest-same at size first a b low high d =
    let e : first + (size - first) ≡ size = omega arith in
    let n : at + 4096 + (first - 4096) ≡ at + first = omega arith in
    let rest : drop (at + first) b ≡ drop (at + first) a = subst (λ k. drop k b ≡ drop k a) n d.rest in
    let cut = λ (file : List ℕ). ap (λ z. drop first (take z (drop at file))) (sym e) ∙ (drop-take first (size - first) (drop at file) ∙ ap (take (size - first)) (drop-drop first at file)) in
    cut b ∙ (ap (take (size - first)) rest ∙ sym (cut a))

block-low : (x : Bool) → 4096 ≤ geometry_place x
block-low true = omega arith
block-low false = omega arith

pub block-within : (s : SuperPart) (at : ℕ) (x : Bool) (a b : List ℕ) → IsBounded s → DifferWithin (at + geometry_place x) 4096 a b → DifferWithin (at + 4096) (first_unit s - 4096) a b
block-within s at x a b bound g =
    let c = bound.copies in
    let low = block-low x in
    let high = block-before x in
    widen (at + geometry_place x) 4096 (at + 4096) (first_unit s - 4096) a b g (omega arith) (omega arith)

pub all-within : (s : SuperPart) (at : ℕ) (x : Bool) (a b d : List ℕ) → IsBounded s → DifferWithin (at + geometry_place x) 4096 a b → DifferWithin (at + 12288) (2 * s.slots * s.max_size) b d →
    DifferWithin (at + 4096) (first_unit s - 4096) a d
all-within s at x a b d bound g t =
    let c = bound.copies in
    differ-then _ _ a b d (block-within s at x a b bound g) (widen (at + 12288) (2 * s.slots * s.max_size) (at + 4096) (first_unit s - 4096) b d t (omega arith) (omega arith))

pub super-mended : (s : SuperPart) (at : ℕ) (r : SuperRead) (a b d : List ℕ) → IsBounded s → IsSuperRead s (copy a at s.size) r →
    IsRangeMended (at + geometry_place (not r.second)) 4096 (HoldsGeometry s) a b → AreTablesMended s at (content r.table) b d → IsSuperMended s at a d
super-mended s at r a b d bound read m t =
    let c = bound.copies in
    let i = bound.inside in
    let mine = any-block s at r.second b d bound t.differs (own-block s at r.second a b bound m.differs read.geometry) in
    let other = any-block s at (not r.second) b d bound t.differs (other-holds s at r.second a b bound m) in
    let blocks = both-blocks (λ x. holds_geometry s (geometry_copy x (copy d at s.size))) r.second mine other in
    record {
      first = blocks.0;
      second = blocks.1;
      table = content r.table;
      tabled = read.read;
      some = omega (arith, bound.slots);
      copies = t.copies;
      rest = rest-same at s.size (first_unit s) a d (omega arith) (omega arith) (all-within s at (not r.second) a b d bound m.differs t.differs);
    }

-- a disk that wasn't called
pub self-kept : (t : DiskTold) → OpenKept t t
self-kept t = OpenKept-files t t (record { files = refl; path = refl; length = refl; later = omega arith; torn = λ old written left h. h })

-- what was repaired reads as it did
pub mended-left : (s : SuperPart) (at : ℕ) (r : SuperRead) (a b d : List ℕ) → IsBounded s → IsSuperRead s (copy a at s.size) r →
    IsRangeMended (at + geometry_place (not r.second)) 4096 (HoldsGeometry s) a b → AreTablesMended s at (content r.table) b d → IsSuperLeft s at a d
mended-left s at r a b d bound read m t = record {
  geometry = one-block (λ x. holds_geometry s (geometry_copy x (copy d at s.size))) r.second (any-block s at r.second b d bound t.differs (own-block s at r.second a b bound m.differs read.geometry));
  table = or-first (copy_reads s 0 (copy d at s.size)) (copy_reads s s.slots (copy d at s.size)) (content r.table) (t.copies 0 (omega (arith, bound.slots))) ∙ sym read.read;
}
