-- The map of units that was read is that of the device.
use Rattle.std.proofs.Common.{arith, ◌≡◌, ◌∙◌, refl, ap, sym, ℕ, ◌+◌, ◌≤◌, Bool, true, false, cond, List, [], ◌∷◌, map, find, length, Option, Some, None, option_map, unwrap_or}
use Rattle.std.specs.Prelude.{bytes_eq, slice_get, position, is_some, nat_lt, not, IsFalse, ◌==◌}
use Rattle.std.specs.List.{list_any, position_or_len}
use Rattle.std.proofs.lemmas.List.{length-map}
use Rattle.std.proofs.lemmas.Bool.{ltb-false}
use Rattle.std.proofs.lemmas.List.Folds.{find_at}
use Rattle.std.proofs.lemmas.Option.{slice_get-map, slice_get_past}
use Rattle.dev_model.specs.declared.device.Logical.{Logical}
use Rattle.super_meta.specs.declared.table.Partition.{Partition}
use Rattle.super_meta.specs.Contents.{Content, content}
use Rattle.unit_alloc.specs.Owning.{Owning}
use Rattle.unit_alloc.specs.Owning as owning
use Rattle.dev_disk.specs.Disks.{DiskTold, open_bytes}
use Rattle.dev_store.specs.declared.layout.SuperPart.{SuperPart}
use Rattle.dev_store.specs.declared.super_read.SuperRead.{SuperRead}
use Rattle.dev_store.specs.declared.image_read.ImageRead.{ImageRead}
use Rattle.dev_store.specs.LayoutLines.{unit_count}
use Rattle.dev_store.specs.Layouts.{LayoutValue}
use Rattle.dev_store.specs.Supers.{units_of, logical_at}
use Rattle.dev_store.specs.Stand.{number_in, super_bytes}
use Rattle.dev_store.specs.Held.{device_held, file_or_zeros, super_by, units_by, units_in_all, units_held, IsMapped}
use Rattle.dev_store.specs.Reading.{IsWithinSound, IsReadSound, held_of, table_within, owned_within, parts_within}

-- the first place of a name is the same among partitions and among what they are
abbrev pub at-name : List ℕ → Partition → Bool
at-name name p = bytes_eq p.name name

abbrev pub at-logical : List ℕ → Logical → Bool
at-logical name p = bytes_eq p.name name

pub place-alike : (s : SuperPart) (c : Content) (super name : List ℕ) (ps : List Partition) →
    position_or_len (at-logical name) (map (logical_at s c super) ps) ≡ position_or_len (at-name name) ps
place-alike s c super name [] = refl
place-alike s c super name (p ∷ ps) = ap (λ n. cond (not (bytes_eq p.name name)) (1 + n) 0) (place-alike s c super name ps)

-- past the end there is nothing, and so it is where nothing was found
pub place-same : (parts : List ℕ) (n q : ℕ) → length parts ≡ n → slice_get parts (unwrap_or (cond (nat_lt q n) (Some q) None) (length parts)) ≡ slice_get parts q
place-same parts n q long = by (nat_lt q n) refl
  where
    by : (b : Bool) → nat_lt q n ≡ b → slice_get parts (unwrap_or (cond b (Some q) None) (length parts)) ≡ slice_get parts q
    by true e = refl
    by false e =
        let past : n ≤ q = ltb-false q n e in
        slice_get_past parts (length parts) (omega arith) ∙ sym (slice_get_past parts q (omega arith))

pub units-or : (o : Owning) (part : Option ℕ) → units_by (Some o) part ≡ unwrap_or (option_map (owning.units_of o) part) []
units-or o None = refl
units-or o (Some part) = refl

-- the units of the partition of a name, by its place
units-at : (o : Owning) (s : SuperPart) (c : Content) (super name : List ℕ) (ps : List Partition) (parts : List ℕ) → map (owning.units_of o) parts ≡ map (units_of s c) ps →
    units_by (Some o) (slice_get parts (unwrap_or (position (at-logical name) (map (logical_at s c super) ps)) (length parts))) ≡ unwrap_or (option_map (units_of s c) (find (at-name name) ps)) []
units-at o s c super name ps parts e =
    let ls = map (logical_at s c super) ps in
    let q = position_or_len (at-logical name) ls in
    let long : length parts ≡ length ls = sym (length-map parts (owning.units_of o)) ∙ (ap length e ∙ (length-map ps (units_of s c) ∙ sym (length-map ps (logical_at s c super)))) in
    ap (units_by (Some o)) (place-same parts (length ls) q long)
    ∙ (units-or o (slice_get parts q)
    ∙ ap (λ u. unwrap_or u []) (sym (slice_get-map (owning.units_of o) parts q)
    ∙ (ap (λ xs. slice_get xs q) e
    ∙ (slice_get-map (units_of s c) ps q
    ∙ ap (option_map (units_of s c)) (ap (slice_get ps) (place-alike s c super name ps) ∙ sym (find_at (at-name name) ps))))))

named-units : (layout : LayoutValue) (part : Option SuperPart) (within : Option SuperRead) (file name : List ℕ) → IsWithinSound layout part within →
    units_by (option_map (λ w. w.owners) within) (slice_get (parts_within within) (unwrap_or (position (at-logical name) (super_by layout part (table_within within) file).logical) (length (parts_within within))))
    ≡ owned_within part within name
named-units layout None None file name sound = refl
named-units layout None (Some w) file name sound = absurd sound
named-units layout (Some s) None file name sound = absurd sound
named-units layout (Some s) (Some w) file name sound =
    units-at w.owners s (content w.table) (super_bytes layout s file) name (content w.table).partitions w.parts.items sound.mapped.lists

pub units-within : {K : Type 0} (told : K → DiskTold) (disk : K) (r : ImageRead) (name : List ℕ) → IsReadSound r → units_held (held_of told disk r) name ≡ owned_within r.layout.super_part r.within name
unfolding device_held
units-within told disk r name sound = named-units r.layout r.layout.super_part r.within (file_or_zeros r.layout (open_bytes (told disk))) name sound.super

-- the map is there where super is, with its units, and a part for each partition
map-there : (layout : LayoutValue) (part : Option SuperPart) (within : Option SuperRead) → IsWithinSound layout part within → is_some (option_map (λ w. w.owners) within) ≡ is_some (option_map (λ s. s.name) part)
map-there layout None None sound = refl
map-there layout None (Some w) sound = absurd sound
map-there layout (Some s) None sound = absurd sound
map-there layout (Some s) (Some w) sound = refl

map-units : (layout : LayoutValue) (part : Option SuperPart) (within : Option SuperRead) → IsWithinSound layout part within → units_in_all (option_map (λ w. w.owners) within) ≡ number_in unit_count part
map-units layout None None sound = refl
map-units layout None (Some w) sound = absurd sound
map-units layout (Some s) None sound = absurd sound
map-units layout (Some s) (Some w) sound = sound.mapped.units

map-many : (layout : LayoutValue) (part : Option SuperPart) (within : Option SuperRead) (file : List ℕ) → IsWithinSound layout part within →
    length (parts_within within) ≡ length (super_by layout part (table_within within) file).logical
map-many layout None None file sound = refl
map-many layout None (Some w) file sound = absurd sound
map-many layout (Some s) None file sound = absurd sound
map-many layout (Some s) (Some w) file sound =
    let ps = (content w.table).partitions in
    sym (length-map w.parts.items (owning.units_of w.owners))
    ∙ (ap length sound.mapped.lists ∙ (length-map ps (units_of s (content w.table)) ∙ sym (length-map ps (logical_at s (content w.table) (super_bytes layout s file)))))

map-apart : (layout : LayoutValue) (part : Option SuperPart) (within : Option SuperRead) → IsWithinSound layout part within →
    (i j k : ℕ) → slice_get (parts_within within) i ≡ Some k → slice_get (parts_within within) j ≡ Some k → i ≡ j
map-apart layout None None sound i j k h l = let past = slice_get_past {X = ℕ} [] i (omega arith) in absurd cc
map-apart layout None (Some w) sound i j k h l = absurd sound
map-apart layout (Some s) None sound i j k h l = absurd sound
map-apart layout (Some s) (Some w) sound i j k h l = sound.mapped.apart i j k h l

map-empty : (layout : LayoutValue) (part : Option SuperPart) (within : Option SuperRead) → IsWithinSound layout part within →
    (k : ℕ) → IsFalse (list_any (λ p. p == k) (parts_within within)) → units_by (option_map (λ w. w.owners) within) (Some k) ≡ []
map-empty layout None None sound k h = refl
map-empty layout None (Some w) sound k h = absurd sound
map-empty layout (Some s) None sound k h = absurd sound
map-empty layout (Some s) (Some w) sound k h = sound.mapped.empty k h

pub maps : {K : Type 0} (told : K → DiskTold) (disk : K) (r : ImageRead) → IsReadSound r → IsMapped (held_of told disk r)
unfolding device_held
maps told disk r sound =
    let part = r.layout.super_part in
    record {
      there = map-there r.layout part r.within sound.super;
      units = map-units r.layout part r.within sound.super;
      many = map-many r.layout part r.within (file_or_zeros r.layout (open_bytes (told disk))) sound.super;
      apart = map-apart r.layout part r.within sound.super;
      empty = map-empty r.layout part r.within sound.super;
    }
