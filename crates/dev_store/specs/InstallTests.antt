-- Why the table of an image isn't installed, by what was read of it and by super's own table.
use Rattle.std.specs.Prelude.{ℕ, ◌+◌, ◌%◌, Bool, not, ◌&&◌, ◌||◌}
use Rattle.std.specs.Prelude.{List, [], ◌∷◌, length, filter, sum_by, nat_le, nat_lt}
use Rattle.std.specs.Prelude.{◌==◌, bytes_eq, Option, if◌then◌else◌}
use Rattle.std.specs.List.{list_all, list_any}
use Rattle.dev_model.specs.Options.{first_passed}
use Rattle.dev_model.specs.Sizes.{share_of}
use Rattle.super_meta.specs.declared.geometry.Geometry.{Geometry}
use Rattle.super_meta.specs.declared.table.Partition.{Partition}
use Rattle.super_meta.specs.declared.table.BlockDevice.{BlockDevice}
use Rattle.super_meta.specs.Contents.{Content}
use Rattle.super_meta.specs.Held.{group_name}
use Rattle.dev_store.specs.declared.layout.PhysicalPart.{PhysicalPart}
use Rattle.dev_store.specs.declared.layout.SuperPart.{SuperPart}
use Rattle.dev_store.specs.declared.table_install.Keeps.{Keeps}
use Rattle.dev_store.specs.declared.errors.StoreError.{StoreError}
use Rattle.dev_store.specs.declared.errors.StoreError.TheVariants.{GroupFull, TooManyPartitions}
use Rattle.dev_store.specs.declared.errors.StoreError.TheVariants.{NoGroup, BadTable}
use Rattle.dev_store.specs.Supers.{is_barred, size_in}
use Rattle.dev_store.specs.Installing.{kept_long, is_left}

-- the block device isn't this super
abbrev pub is_misfit : SuperPart → BlockDevice → Bool
is_misfit s d =
    not (bytes_eq s.name d.name) || not (d.size == s.size) || d.alignment == 0
    || not (s.unit % d.alignment == 0) || not (d.offset == 0)

-- the table is made for another super
abbrev pub is_other_super : List PhysicalPart → SuperPart → Geometry → Content → Bool
is_other_super parts s g new =
    not (g.max_size == s.max_size && g.slots == s.slots) || nat_lt 64 (length new.groups)
    || list_any (is_barred parts s) new.partitions || is_misfit s new.device

-- how many entries there are together
abbrev pub merged_count : Keeps → Content → Content → ℕ
merged_count k new c = length new.partitions + length (filter (is_left k new) c.partitions)

-- an old partition is left over whose group the new table lacks
abbrev pub lacks_group : Keeps → Content → Content → Bool
lacks_group k new c =
    list_any (λ p. is_left k new p
    && not (list_any (λ g. bytes_eq g.name (group_name c.groups p.group)) new.groups)) c.partitions

-- how many bytes of a group a listed partition takes
abbrev pub listed_share : Keeps → Content → Content → List ℕ → Partition → ℕ
listed_share k new c group p =
    if bytes_eq (group_name new.groups p.group) group then kept_long k c p.name c.partitions else 0

-- how many an old one takes that is left over
abbrev pub left_share : Keeps → Content → Content → List ℕ → Partition → ℕ
left_share k new c group p = if is_left k new p then share_of group (size_in c p) else 0

-- how many bytes the entries of a group hold together
abbrev pub merged_bytes : Keeps → Content → Content → List ℕ → ℕ
merged_bytes k new c group =
    sum_by (listed_share k new c group) new.partitions + sum_by (left_share k new c group) c.partitions

-- each group with a limit above 0 holds at most its limit
abbrev pub limits_hold : Keeps → Content → Content → Bool
limits_hold k new c =
    list_all (λ g. g.limit == 0 || nat_le (merged_bytes k new c g.name) g.limit) new.groups

-- the tests in turn, where it is said whether the table is made for another super
abbrev pub install_tests : Keeps → Bool → Content → Content → Option StoreError
install_tests k other new c =
    first_passed
    ((other, BadTable)
    ∷ (nat_lt 128 (merged_count k new c), TooManyPartitions)
    ∷ (lacks_group k new c, NoGroup)
    ∷ (not (limits_hold k new c), GroupFull)
    ∷ [])
