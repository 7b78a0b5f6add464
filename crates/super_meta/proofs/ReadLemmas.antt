-- What the entries of a table say, by what was read of each list.
use Rattle.std.proofs.Common.{◌≡◌, ℕ, ◌+◌, ◌*◌, Bool, true, false, List, take, drop, map, Some, None, refl, sym, ap, ◌∙◌}
use Rattle.std.specs.Prelude.{if◌then◌else◌}
use Rattle.std.specs.List.{list_all}
use Rattle.super_meta.specs.declared.errors.MetaError.TheVariants.{BadName}
use Rattle.super_meta.specs.declared.header.Header.{Header}
use Rattle.super_meta.specs.declared.table.BlockDevice.{BlockDevice}
use Rattle.super_meta.specs.declared.table.Partition.{Partition}
use Rattle.super_meta.specs.declared.table.Extent.{Extent}
use Rattle.super_meta.specs.declared.table.Group.{Group}
use Rattle.super_meta.specs.Entries.{rows, is_named, is_name_field, partition_of, extent_of, group_of, device_of}
use Rattle.super_meta.specs.Contents.{Content}
use Rattle.super_meta.specs.TableText.{partition_rows, extent_rows, group_rows, device_row, content_in, names_hold}
use Rattle.super_meta.proofs.RowLemmas.{some-if, none-if}

-- no name was missed
named-if : (b : Bool) → None ≡ (if b then None else Some BadName) → b ≡ true
named-if true e = refl
named-if false e = absurd cc

-- each list has its names
names-by : (h : Header) (tables groups : List ℕ) (own : Bool) → groups ≡ drop (52 * h.partitions + 24 * h.extents) tables →
    None ≡ (if list_all is_named (rows 52 h.partitions tables) then None else Some BadName) →
    None ≡ (if list_all is_named (rows 48 h.groups groups) then None else Some BadName) →
    is_name_field (take 36 (drop 24 (device_row h tables))) ≡ own → names_hold h tables ≡ own
unfolding names_hold
names-by h tables groups own e p g d =
    let ps = named-if (list_all is_named (partition_rows h tables)) p in
    let gs : list_all is_named (group_rows h tables) ≡ true = ap (λ t. list_all is_named (rows 48 h.groups t)) (sym e) ∙ named-if (list_all is_named (rows 48 h.groups groups)) g in
    rw (ps, gs) d

pub all-named : (h : Header) (tables groups row : List ℕ) (device : BlockDevice) → groups ≡ drop (52 * h.partitions + 24 * h.extents) tables → row ≡ device_row h tables →
    None ≡ (if list_all is_named (rows 52 h.partitions tables) then None else Some BadName) →
    None ≡ (if list_all is_named (rows 48 h.groups groups) then None else Some BadName) →
    Some device ≡ (if is_name_field (take 36 (drop 24 row)) then Some (device_of row) else None) →
    None ≡ (if names_hold h tables then None else Some BadName)
all-named h tables groups row device e r p g o =
    let own = ap (λ t. is_name_field (take 36 (drop 24 t))) (sym r) ∙ (some-if (is_name_field (take 36 (drop 24 row))) (device_of row) device o).0 in
    rw (names-by h tables groups true e p g own) refl

pub device-unnamed : (h : Header) (tables groups row : List ℕ) → groups ≡ drop (52 * h.partitions + 24 * h.extents) tables → row ≡ device_row h tables →
    None ≡ (if list_all is_named (rows 52 h.partitions tables) then None else Some BadName) →
    None ≡ (if list_all is_named (rows 48 h.groups groups) then None else Some BadName) →
    None ≡ (if is_name_field (take 36 (drop 24 row)) then Some (device_of row) else None) →
    Some BadName ≡ (if names_hold h tables then None else Some BadName)
device-unnamed h tables groups row e r p g o =
    let own = ap (λ t. is_name_field (take 36 (drop 24 t))) (sym r) ∙ none-if (is_name_field (take 36 (drop 24 row))) (device_of row) o in
    rw (names-by h tables groups false e p g own) refl

-- what was read of each list is what the table says
pub content-by : (h : Header) (tables below behind row : List ℕ) (partitions : List Partition) (extents : List Extent) (groups : List Group) (device : BlockDevice) →
    below ≡ drop (52 * h.partitions) tables → behind ≡ drop (52 * h.partitions + 24 * h.extents) tables → row ≡ device_row h tables →
    partitions ≡ map partition_of (rows 52 h.partitions tables) → extents ≡ map extent_of (rows 24 h.extents below) → groups ≡ map group_of (rows 48 h.groups behind) →
    Some device ≡ (if is_name_field (take 36 (drop 24 row)) then Some (device_of row) else None) →
    let c : Content = record { minor = h.minor; flags = h.flags; partitions = partitions; extents = extents; groups = groups; device = device } in c ≡ content_in h tables
unfolding content_in
content-by h tables below behind row partitions extents groups device b e r p x g o =
    let own = (some-if (is_name_field (take 36 (drop 24 row))) (device_of row) device o).1 ∙ ap device_of r in
    let xs : extents ≡ map extent_of (extent_rows h tables) = x ∙ ap (λ t. map extent_of (rows 24 h.extents t)) b in
    let gs : groups ≡ map group_of (group_rows h tables) = g ∙ ap (λ t. map group_of (rows 48 h.groups t)) e in
    λ i. record { minor = h.minor; flags = h.flags; partitions = p i; extents = xs i; groups = gs i; device = own i }
