-- What lies in the super of a made image.
use Rattle.std.proofs.Common.{◌≡◌, ◌∙◌, refl, ap, sym, subst, ℕ, ◌+◌, ◌*◌, ◌-◌, ◌/◌, ◌%◌, ◌^◌, ◌<◌, ◌≤◌, true, ◌&&◌, List, [], ◌++◌, length, take, drop, Option, Some, Ok, nat_le, nat_lt, ◌==◌, if◌then◌else◌, arith, length-append}
use Rattle.std.specs.Prelude.{IsTrue, bytes_eq}
use Rattle.std.specs.Result.{result_ok}
use Rattle.std.specs.Int.{w32, w64, to_le_bytes}
use Rattle.std.proofs.Math.Nat.{div-le_self}
use Rattle.std.proofs.lemmas.List.{take_at, drop-drop}
use Rattle.std.specs.Option.{option_or}
use Rattle.std.proofs.lemmas.Slice.Eq.{bytes_eq-Decides}
use Rattle.std.proofs.lemmas.Bool.Decides.{nat_tests}
use Rattle.sha2.specs.Sha256.{sha256}
use Rattle.sha2.proofs.Facts256.{length-sha256}
use Rattle.fb_frame.specs.Bytes.{zeros}
use Rattle.fb_frame.specs.NameText.{is_name}
use Rattle.dev_model.specs.Images.{copies}
use Rattle.dev_model.proofs.Valid.{both, and-true}
use Rattle.super_meta.specs.declared.geometry.Geometry.{Geometry}
use Rattle.super_meta.specs.GeometryText.{geometry_front, geometry_back, geometry_bytes, is_geometry}
use Rattle.super_meta.specs.Contents.{are_named_apart, are_indexed, are_laid, are_known, is_sound}
use Rattle.super_meta.specs.TableText.{table_of}
use Rattle.super_meta.specs.TableBytes.{table_bytes, tables_bytes, header_front, header_back, header_core, flags_bytes, lists_fit}
use Rattle.super_meta.specs.Entries.{group_bytes, device_bytes, name_field}
use Rattle.super_meta.specs.Sealed.{sealed}
use Rattle.super_meta.proofs.GeometryLemmas.{geometry-read, length-front, length-back}
use Rattle.super_meta.proofs.SealLemmas.{length-sealed}
use Rattle.super_meta.proofs.NameLemmas.{length-name_field}
use Rattle.super_meta.proofs.WriteLemmas.{length-header_front, length-header_core}
use Rattle.super_meta.proofs.GivenLemmas.{gives}
use Rattle.dev_store.specs.declared.layout.PhysicalPart.{PhysicalPart}
use Rattle.dev_store.specs.declared.layout.SuperPart.{SuperPart}
use Rattle.dev_store.specs.declared.entries.Entry.TheVariants.{SuperLine}
use Rattle.dev_store.specs.LayoutLines.{first_unit, unit_count, is_size, is_sized, has_room}
use Rattle.dev_store.specs.Laid.{is_good_super}
use Rattle.dev_store.specs.Supers.{holds_geometry, is_own_geometry, table_copy, copy_reads, table_read, own_device, is_own_device, are_good_units}
use Rattle.dev_store.specs.Stand.{table_in, IsAlike}
use Rattle.dev_store.specs.NewDevice.{filled_up, new_table, own_geometry, super_image}
use Rattle.dev_store.proofs.MadeText.{length-zeros}
use Rattle.dev_store.proofs.MadeParts.{length-filled, twice, length-copies, behind, part-at, copy-at}
use Rattle.dev_store.proofs.RepairLemmas.{table-from}

-- the numbers of a super, as a layout takes them
pub record HasNumbers (s : SuperPart) : Type 0 where
  pub named : is_name s.name ≡ true
  pub unit_small : s.unit < 2 ^ 32
  pub room_some : 0 < s.max_size
  pub room_small : s.max_size < 2 ^ 32
  pub room_whole : s.max_size % 512 ≡ 0
  pub slots_some : 0 < s.slots
  pub slots_small : s.slots < 2 ^ 32
  pub size_small : s.size < 2 ^ 64
  pub long : 12288 + 2 * s.slots * s.max_size ≤ s.size
  pub first_small : first_unit s ≤ s.size
  pub roomy : 10072 ≤ s.max_size

at-most : (n k : ℕ) → nat_le n k ≡ true → n ≤ k
at-most n k h = grind (arith, nat_tests)

below : (n k : ℕ) → nat_lt n k ≡ true → n < k
below n k h = grind (arith, nat_tests)

same-number : (n k : ℕ) → (n == k) ≡ true → n ≡ k
same-number n k h = grind (arith, nat_tests)

number-same : (n : ℕ) → (n == n) ≡ true
number-same n = let e : n ≡ n = refl in grind (arith, nat_tests)

at-most-if : (n k : ℕ) → n ≤ k → nat_le n k ≡ true
at-most-if n k h = grind (arith, nat_tests)

below-if : (n k : ℕ) → n < k → nat_lt n k ≡ true
below-if n k h = grind (arith, nat_tests)

-- a quotient above 0 is of a number above 0
some-left : (n k : ℕ) → 0 < n / k → 0 < n
some-left n k h = omega (arith, h, div-le_self n k)

pub has-numbers : (s : SuperPart) → IsTrue (is_good_super (Some s)) → HasNumbers s
has-numbers s h =
    let a = both (is_name s.name && is_sized (SuperLine s)) (has_room (SuperLine s)) h in
    let b = both (is_name s.name) (is_sized (SuperLine s)) a.0 in
    let sizes = is_size s.size in
    let units = s.unit % 4096 == 0 in
    let slots = both (sizes && units && (nat_le 4096 s.unit && nat_le s.unit (2 ^ 30)) && (s.max_size % 512 == 0) && nat_le s.max_size 126976) (nat_le 1 s.slots && nat_le s.slots 4) b.1 in
    let rooms = both (sizes && units && (nat_le 4096 s.unit && nat_le s.unit (2 ^ 30)) && (s.max_size % 512 == 0)) (nat_le s.max_size 126976) slots.0 in
    let whole = both (sizes && units && (nat_le 4096 s.unit && nat_le s.unit (2 ^ 30))) (s.max_size % 512 == 0) rooms.0 in
    let unit = both (sizes && units) (nat_le 4096 s.unit && nat_le s.unit (2 ^ 30)) whole.0 in
    let size = both sizes units unit.0 in
    let room = both (nat_lt 0 (unit_count s)) (nat_le (10048 + 24 * unit_count s) s.max_size) a.1 in
    let size_most = both (s.size % 4096 == 0) (nat_le s.size (2 ^ 44)) (both ((s.size % 4096 == 0) && nat_le s.size (2 ^ 44)) (nat_lt 0 s.size) size.0).0 in
    let unit_most = at-most s.unit (2 ^ 30) (both (nat_le 4096 s.unit) (nat_le s.unit (2 ^ 30)) unit.1).1 in
    let slots_most = at-most s.slots 4 (both (nat_le 1 s.slots) (nat_le s.slots 4) slots.1).1 in
    let slots_least = at-most 1 s.slots (both (nat_le 1 s.slots) (nat_le s.slots 4) slots.1).0 in
    let room_most = at-most s.max_size 126976 rooms.1 in
    let count = below 0 (unit_count s) room.0 in
    let table_room = at-most (10048 + 24 * unit_count s) s.max_size room.1 in
    let left = some-left (s.size - first_unit s) s.unit count in
    record {
      named = b.0;
      unit_small = omega (arith, unit_most);
      room_some = omega (arith, table_room);
      room_small = omega (arith, room_most);
      room_whole = same-number (s.max_size % 512) 0 whole.1;
      slots_some = omega (arith, slots_least);
      slots_small = omega (arith, slots_most);
      size_small = omega (arith, at-most s.size (2 ^ 44) size_most.1);
      long = omega (arith, left);
      first_small = omega (arith, left);
      roomy = omega (arith, table_room, count);
    }

pub length-geometry : (g : Geometry) → length (geometry_bytes g) ≡ 52
length-geometry g = length-sealed geometry_front (geometry_back g) ∙ (ap (λ n. n + 32 + length (geometry_back g)) length-front ∙ ap (λ n. 8 + 32 + n) (length-back g))

-- the geometry's block
pub geometry-good : (s : SuperPart) → HasNumbers s → IsTrue (is_geometry (own_geometry s))
geometry-good s n =
    and-true (nat_lt 0 s.max_size && (s.max_size % 512 == 0) && nat_lt 0 s.slots) (4096 == 4096)
    (and-true (nat_lt 0 s.max_size && (s.max_size % 512 == 0)) (nat_lt 0 s.slots)
    (and-true (nat_lt 0 s.max_size) (s.max_size % 512 == 0) (below-if 0 s.max_size n.room_some) (ap (λ k. k == 0) n.room_whole))
    (below-if 0 s.slots n.slots_some)) refl

pub geometry-held : (s : SuperPart) → HasNumbers s → IsTrue (holds_geometry s (filled_up 4096 (geometry_bytes (own_geometry s))))
unfolding holds_geometry
geometry-held s n =
    let g = own_geometry s in
    let read = geometry-read (filled_up 4096 (geometry_bytes g)) g (record {
      good = geometry-good s n;
      max_size = n.room_small;
      slots = n.slots_small;
      spelled = take_at (geometry_bytes g) (zeros (4096 - length (geometry_bytes g))) 52 (length-geometry g);
    }) in
    ap (is_own_geometry s) read ∙ and-true (s.max_size == s.max_size) (s.slots == s.slots) (number-same s.max_size) (number-same s.slots)

pub length-geometry_block : (s : SuperPart) → length (filled_up 4096 (geometry_bytes (own_geometry s))) ≡ 4096
length-geometry_block s = length-filled 4096 (geometry_bytes (own_geometry s)) (omega (arith, length-geometry (own_geometry s)))

-- the table of a new super
pub table-sound : (s : SuperPart) → IsTrue (is_sound (new_table s))
unfolding are_named_apart are_indexed are_laid are_known
table-sound s = refl

pub table-fits : (s : SuperPart) → HasNumbers s → IsTrue (lists_fit (new_table s))
unfolding lists_fit
table-fits s n =
    let first : first_unit s / 512 < 2 ^ 64 = omega (arith, n.first_small, n.size_small, div-le_self (first_unit s) 512) in
    and-true (is_name s.name && nat_lt (first_unit s / 512) (2 ^ 64) && nat_lt s.unit (2 ^ 32) && nat_lt 0 (2 ^ 32)) (nat_lt s.size (2 ^ 64))
    (and-true (is_name s.name && nat_lt (first_unit s / 512) (2 ^ 64) && nat_lt s.unit (2 ^ 32)) (nat_lt 0 (2 ^ 32))
    (and-true (is_name s.name && nat_lt (first_unit s / 512) (2 ^ 64)) (nat_lt s.unit (2 ^ 32))
    (and-true (is_name s.name) (nat_lt (first_unit s / 512) (2 ^ 64)) n.named (below-if (first_unit s / 512) (2 ^ 64) first))
    (below-if s.unit (2 ^ 32) n.unit_small)) refl) (below-if s.size (2 ^ 64) n.size_small)

length-device : (s : SuperPart) → HasNumbers s → length (device_bytes (own_device s)) ≡ 64
unfolding device_bytes
length-device s n =
    let front = to_le_bytes w64 (first_unit s / 512) ++ to_le_bytes w32 s.unit ++ to_le_bytes w32 0 ++ to_le_bytes w64 s.size in
    let long : length front ≡ 24 = refl in
    omega (arith, length-append (front ++ name_field s.name) (to_le_bytes w32 0), length-append front (name_field s.name), length-name_field s.name n.named, long)

length-lists : (s : SuperPart) → HasNumbers s → length (tables_bytes (new_table s)) ≡ 112
unfolding tables_bytes group_bytes
length-lists s n = omega (arith, length-device s n)

length-head : (s : SuperPart) → length (header_back (new_table s)) ≡ 84
unfolding header_back flags_bytes
length-head s = omega (arith, length-append (header_core (new_table s) (sha256 (tables_bytes (new_table s)))) [], length-header_core (new_table s) (sha256 (tables_bytes (new_table s))) (length-sha256 _))

pub length-table : (s : SuperPart) → HasNumbers s → length (table_bytes (new_table s)) ≡ 240
length-table s n =
    let c = new_table s in
    omega (arith, length-append (sealed (header_front c.minor) (header_back c)) (tables_bytes c), length-sealed (header_front c.minor) (header_back c), length-header_front c.minor, length-head s, length-lists s n)

-- a copy of the table's room
abbrev room_of : SuperPart → List ℕ
room_of s = filled_up s.max_size (table_bytes (new_table s))

abbrev geometry_of_super : SuperPart → List ℕ
geometry_of_super s = filled_up 4096 (geometry_bytes (own_geometry s))

pub length-room : (s : SuperPart) → HasNumbers s → length (room_of s) ≡ s.max_size
length-room s n = length-filled s.max_size (table_bytes (new_table s)) (omega (arith, length-table s n, n.roomy))

pub table-again : (s : SuperPart) → HasNumbers s → result_ok (table_of (room_of s)) ≡ Some (new_table s)
table-again s n =
    let c = new_table s in
    ap result_ok (gives (room_of s) c (record {
      sound = table-sound s;
      fitting = and-true (lists_fit c) (nat_lt 0 (2 ^ 32)) (table-fits s n) refl;
      spelled = take_at (table_bytes c) (zeros (s.max_size - length (table_bytes c))) 240 (length-table s n);
    }))

-- what lies in super, part by part
abbrev copies_in : SuperPart → List ℕ
copies_in s = copies (2 * s.slots) (room_of s)

abbrev rest_in : SuperPart → List ℕ
rest_in s = zeros (s.size - (12288 + 2 * s.slots * s.max_size))

record HasParts (s : SuperPart) (super : List ℕ) : Type 0 where
  pub first : drop 4096 super ≡ geometry_of_super s ++ (geometry_of_super s ++ (copies_in s ++ rest_in s))
  pub second : drop 8192 super ≡ geometry_of_super s ++ (copies_in s ++ rest_in s)
  pub tables : drop 12288 super ≡ copies_in s ++ rest_in s

has-parts : (s : SuperPart) → HasParts s (super_image (Some s))
has-parts s =
    let super = super_image (Some s) in
    let g = geometry_of_super s in
    let rest = copies_in s ++ rest_in s in
    let first : drop 4096 super ≡ g ++ (g ++ rest) = behind 0 4096 4096 super (zeros 4096) (copies 2 g ++ rest) refl (length-zeros 4096) refl ∙ twice g rest in
    let second : drop 8192 super ≡ g ++ rest = behind 4096 4096 8192 super g (g ++ rest) first (length-geometry_block s) refl in
    record { first = first; second = second; tables = behind 8192 4096 12288 super g rest second (length-geometry_block s) refl }

pub length-super : (s : SuperPart) → HasNumbers s → length (super_image (Some s)) ≡ s.size
length-super s n =
    let g = geometry_of_super s in
    let rest = copies_in s ++ rest_in s in
    let tables : length (copies_in s) ≡ 2 * s.slots * s.max_size = length-copies (2 * s.slots) (room_of s) ∙ ap (λ k. 2 * s.slots * k) (length-room s n) in
    let two : length (copies 2 g ++ rest) ≡ 4096 + (4096 + length rest) =
    ap length (twice g rest) ∙ omega (arith, length-append g (g ++ rest), length-append g rest, length-geometry_block s) in
    omega (arith, length-append (zeros 4096) (copies 2 g ++ rest), length-zeros 4096, two, length-append (copies_in s) (rest_in s), tables, length-zeros (s.size - (12288 + 2 * s.slots * s.max_size)), n.long)

copy-reads : (s : SuperPart) (k : ℕ) → HasNumbers s → k < 2 * s.slots → copy_reads s k (super_image (Some s)) ≡ Some (new_table s)
unfolding copy_reads
copy-reads s k n h =
    let super = super_image (Some s) in
    let at : drop (12288 + k * s.max_size) super ≡ drop (k * s.max_size) (copies_in s ++ rest_in s) = sym (drop-drop (k * s.max_size) 12288 super) ∙ ap (drop (k * s.max_size)) (has-parts s).tables in
    let copy : table_copy s k super ≡ room_of s = ap (take s.max_size) at ∙ copy-at k (2 * s.slots) s.max_size (room_of s) (rest_in s) h (length-room s n) in
    ap (λ bytes. result_ok (table_of bytes)) copy ∙ table-again s n

pub is-alike : (s : SuperPart) → HasNumbers s → IsAlike s (super_image (Some s))
is-alike s n =
    let super = super_image (Some s) in
    let g = geometry_of_super s in
    let rest = copies_in s ++ rest_in s in
    let p = has-parts s in
    record {
      first = ap (holds_geometry s) (part-at 4096 4096 super g (g ++ rest) p.first (length-geometry_block s)) ∙ geometry-held s n;
      second = ap (holds_geometry s) (part-at 8192 4096 super g rest p.second (length-geometry_block s)) ∙ geometry-held s n;
      table = new_table s;
      copies = λ k h. copy-reads s k n h;
    }

pub own-is : (s : SuperPart) → is_own_device s (own_device s) ≡ true
own-is s =
    let same_name : bytes_eq s.name s.name ≡ true = (bytes_eq-Decides s.name s.name).1 refl in
    and-true _ (bytes_eq s.name s.name)
    (and-true _ (s.size == s.size)
    (and-true _ (0 == 0)
    (and-true (first_unit s / 512 == first_unit s / 512) (s.unit == s.unit) (number-same (first_unit s / 512)) (number-same s.unit)) refl) (number-same s.size)) same_name

good-units : (parts : List PhysicalPart) (s : SuperPart) → IsTrue (are_good_units parts s (new_table s))
unfolding are_good_units
good-units parts s = ap (λ b. b && true && true && true && true && true && true && true) (own-is s)

pub table-there : (parts : List PhysicalPart) (s : SuperPart) → HasNumbers s → table_in parts s (super_image (Some s)) ≡ Ok (new_table s)
table-there parts s n =
    let super = super_image (Some s) in
    let alike = is-alike s n in
    let read : table_read s super ≡ Some (new_table s) = first-of (copy_reads s 0 super) (copy_reads s s.slots super) (new_table s) (copy-reads s 0 n (omega (arith, n.slots_some))) in
    table-from parts s super (new_table s) alike.first (record { read = read; good = good-units parts s })
  where
    first-of : {X : Type 0} (a b : Option X) (x : X) → a ≡ Some x → option_or a b ≡ Some x
    first-of a b x h = subst (λ o. option_or o b ≡ Some x) (sym h) refl
