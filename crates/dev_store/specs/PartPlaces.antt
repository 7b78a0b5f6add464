-- Where a partition lies in the image, and the bytes of it that lie there one after another.
use Rattle.std.specs.Prelude.{◌≡◌, ℕ, ◌+◌, ◌-◌, ◌*◌, ◌/◌, ◌%◌, ◌^◌, ◌<◌, ◌≤◌, List, length, nat_lt, find}
use Rattle.std.specs.Prelude.{Option, Some, None, option_map, slice_index, bytes_eq, if◌then◌else◌}
use Rattle.std.specs.Option.{option_or}
use Rattle.unit_alloc.specs.Owning.{units_of as units_owned}
use Rattle.super_meta.specs.declared.table.Partition.{Partition}
use Rattle.super_meta.specs.Contents.{Content}
use Rattle.dev_store.specs.declared.layout.SuperPart.{SuperPart}
use Rattle.dev_store.specs.declared.state.State.{State}
use Rattle.dev_store.specs.declared.part_place.Span.{Span}
use Rattle.dev_store.specs.declared.part_place.Units.{Units}
use Rattle.dev_store.specs.declared.part_place.Part.{Part}
use Rattle.dev_store.specs.declared.part_place.Part.TheVariants.{Whole, InUnits}
use Rattle.dev_store.specs.declared.part_place.Piece.{Piece}
use Rattle.dev_store.specs.declared.errors.StoreError.{StoreError}
use Rattle.dev_store.specs.declared.errors.StoreError.TheVariants.{NoPartition, TooLarge}
use Rattle.dev_store.specs.LayoutLines.{first_unit}
use Rattle.dev_store.specs.Layouts.{LayoutValue, parts_end}
use Rattle.dev_store.specs.Supers.{extents_of, bytes_in, units_of}
use Rattle.dev_store.specs.Held.{IsKept, device_held}
use Rattle.dev_store.specs.StoreCalls.{IsRangeRead, part_bytes}
use Rattle.dev_store.specs.Changes.{put_at}
use Rattle.dev_store.specs.PartWrites.{physical_place, IsPartWritten, IsLeftIn}

-- how many bytes the logical partition of a name has, by the table
abbrev pub logical_size : Option Content → List ℕ → Option ℕ
logical_size None name = None
logical_size (Some c) name =
    option_map (λ p. bytes_in (extents_of c p)) (find (λ p. bytes_eq p.name name) c.partitions)

-- how many bytes the partition of a name has
abbrev pub part_size : LayoutValue → Option Content → List ℕ → Option ℕ
part_size layout table name =
    option_or (option_map (λ p. p.1) (physical_place 12288 layout.physical name)) (logical_size table name)

-- why a range up to this end is refused of a partition of this size
abbrev pub size_flaw : Option ℕ → ℕ → Option StoreError
size_flaw None end = Some NoPartition
size_flaw (Some size) end = if nat_lt size end then Some TooLarge else None

-- the place and the size of a span
abbrev pub pair_of : Span → ℕ × ℕ
pair_of span = (span.start, span.size)

-- These are the units of the logical partition of a name, by a table of a super that begins at this place.
pub record AreUnitsOf (begin : ℕ) (s : SuperPart) (c : Content) (name : List ℕ) (u : Units) : Type 0 where
  pub entry : Partition
  pub found : find (λ p. bytes_eq p.name name) c.partitions ≡ Some entry
  pub units : units_owned u.owners.now u.part ≡ units_of s c entry
  pub start : u.start ≡ begin + first_unit s
  pub unit : u.unit ≡ s.unit
  pub size : u.size ≡ bytes_in (extents_of c entry)

abbrev pub AreUnitsIn : ℕ → Option SuperPart → Option Content → List ℕ → Units → Type 0
AreUnitsIn begin (Some s) (Some c) name u = AreUnitsOf begin s c name u
AreUnitsIn begin s c name u = ⊥

-- the part is the partition of a name
abbrev pub IsPartOf : LayoutValue → Option Content → List ℕ → Part → Type 0
IsPartOf layout table name (Whole span) =
    physical_place 12288 layout.physical name ≡ Some (pair_of span)
IsPartOf layout table name (InUnits u) =
    AreUnitsIn (parts_end layout.physical) layout.super_part table name u

-- the units are whole blocks, have room for so many bytes, and can be counted in 32 bits
pub record HaveRoom (size : ℕ) (u : Units) : Type 0 where
  pub some : 0 < u.unit
  pub blocks : u.unit % 4096 ≡ 0
  pub few : length (units_owned u.owners.now u.part) < 2 ^ 32
  pub small : size < 2 ^ 64
  pub long : size ≤ length (units_owned u.owners.now u.part) * u.unit

abbrev pub HasRoom : Part → Type 0
HasRoom (Whole span) = Unit {0}
HasRoom (InUnits u) = HaveRoom u.size u

-- how many bytes a part has
abbrev pub size_of : Part → ℕ
size_of (Whole span) = span.size
size_of (InUnits u) = u.size

-- where in the image all units end
abbrev pub units_end : Units → ℕ
units_end u = u.start + u.owners.now.units * u.unit

-- where in the image a part's room ends
abbrev pub room_end : Part → ℕ
room_end (Whole span) = span.start + span.size
room_end (InUnits u) = units_end u

-- A part's numbers fit each other.
pub record IsSafe (part : Part) : Type 0 where
  pub room : HasRoom part
  pub end : room_end part < 2 ^ 64

-- A piece of the units' bytes lies in a run of them: so many units from one of the list on, with consecutive
-- ascending numbers.
pub record IsInRun (u : Units) (at : ℕ) (piece : Piece) : Type 0 where
  pub from : ℕ
  pub first : ℕ
  pub count : ℕ
  pub within : ℕ
  pub some : 0 < count
  pub long : from + count ≤ length (units_owned u.owners.now u.part)
  pub each : (k : ℕ) → k < count → slice_index (units_owned u.owners.now u.part) (from + k) ≡ first + k
  pub begins : at ≡ from * u.unit + within
  pub fits : within + piece.count ≤ count * u.unit
  pub place : piece.place ≡ u.start + (first * u.unit + within)

-- the bytes of a partition from a place on lie one after another in the piece of the image
abbrev pub IsPiece : Part → ℕ → Piece → Type 0
IsPiece (Whole span) at piece = piece.place ≡ span.start + at
IsPiece (InUnits u) at piece = IsInRun u at piece

-- the unit before this place of a list, where it is told
abbrev pub IsUnitBefore : List ℕ → ℕ → Option ℕ → Type 0
IsUnitBefore units place None = Unit {0}
IsUnitBefore units place (Some last) = (0 < place) × (last ≡ slice_index units (place - 1))

-- the unit before a place of a partition in bytes, where it has units and one is told
abbrev pub IsBefore : Part → ℕ → Option ℕ → Type 0
IsBefore (Whole span) at before = Unit {0}
IsBefore (InUnits u) at before = IsUnitBefore (units_owned u.owners.now u.part) (at / u.unit) before

-- a unit of a part ends at this place of its bytes
abbrev pub EndsUnit : Part → ℕ → Type 0
EndsUnit (Whole span) at = ⊥
EndsUnit (InUnits u) at = at % u.unit ≡ 0

-- The device of any image that has the partition gets the bytes, and nothing else changes.
abbrev pub Puts : Part → ℕ → List ℕ → Option (List ℕ) → Option (List ℕ) → Type 0
Puts part at bytes old new = (layout : LayoutValue) (state : State) (table : Option Content) (name : List ℕ) →
    IsPartOf layout table name part → IsKept layout state table old →
    IsPartWritten layout (device_held layout state table) (put_at name at bytes) old new

-- The device of any image that has the partition gets at most so many bytes of any kind.
abbrev pub PutsSome : Part → ℕ → ℕ → Option (List ℕ) → Option (List ℕ) → Type 0
PutsSome part at count old new = (layout : LayoutValue) (state : State) (table : Option Content)
    (name : List ℕ) → IsPartOf layout table name part → IsKept layout state table old →
    (n : ℕ) × (n ≤ count) × IsLeftIn layout (device_held layout state table) (put_at name at) n old new

-- The bytes are those of the device of any image that has the partition.
abbrev pub Reads : Part → ℕ → List ℕ → Option (List ℕ) → Type 0
Reads part at bytes image = (layout : LayoutValue) (state : State) (table : Option Content) (name : List ℕ) →
    IsPartOf layout table name part → IsKept layout state table image →
    IsRangeRead image (part_bytes name (device_held layout state table image)) at bytes
