-- The tables of a file are those of its geometry and table, of which nothing is wrong.
use Rattle.std.proofs.Common.{◌≡◌, ℕ, zero, suc, ◌+◌, ◌*◌, ◌<◌, ◌≤◌, Bool, true, false, List, length, take, drop, map, Option, Some, None, Result, Ok, Err, refl, sym, ap, ◌∙◌, subst, arith}
use Rattle.std.specs.Prelude.{◌&&◌, nat_lt, nat_le, ◌==◌, if◌then◌else◌, IfOk, IsSome, ◌↔◌}
use Rattle.std.specs.List.{list_all}
use Rattle.std.proofs.lemmas.Bool.Decides.{nat_tests}
use Rattle.fb_frame.specs.NameText.{is_name}
use Rattle.fb_frame.specs.declared.memory.Memory.{Memory}
use Rattle.fb_frame.specs.declared.tables.Tables.{Tables}
use Rattle.super_meta.specs.declared.errors.MetaError.{MetaError}
use Rattle.super_meta.specs.declared.errors.MetaError.TheVariants.{BadSize, Unsupported}
use Rattle.super_meta.specs.declared.geometry.Geometry.{Geometry}
use Rattle.super_meta.specs.declared.header.Header.{Header}
use Rattle.super_meta.specs.Flaws.{◌then_on◌}
use Rattle.fb_frame.specs.Fields.{u16_at, u32_at}
use Rattle.super_meta.specs.Entries.{rows, name_in, is_named, is_name_field, partition_of, group_of}
use Rattle.super_meta.specs.HeaderText.{header_at, lists_size, header_flaw, size_flaw, seal_flaw}
use Rattle.fb_frame.specs.Versions.{is_version}
use Rattle.super_meta.specs.Contents.{Content, take_in_turn, are_named_apart, are_indexed, are_laid, are_known}
use Rattle.super_meta.specs.TableText.{partition_rows, group_rows, device_row, content_in, names_hold, sources_hold, kinds_hold, entries_flaw, behind, table_flaw, table_of, table_size}
use Rattle.super_meta.specs.ImageText.{block_geometry, image_of}
use Rattle.super_meta.specs.Held.{tables_in, tables_read, tables_of_image, flaw_read, tables_flaw}
use Rattle.super_meta.specs.Laws.{TablesFlaw}
use Rattle.super_meta.proofs.NameLemmas.{both, bothly, name-is}
use Rattle.super_meta.proofs.FoundLemmas.{no-flaw}
use Rattle.super_meta.proofs.ImageLemmas.{tabled}
use Rattle.super_meta.proofs.HeadLemmas.{none-both, sized}
use Rattle.super_meta.proofs.TakenLemmas.{right, version-by, flags-are}

-- each row has a name, so each entry that is read of one has it
rows-named : {X : Type 0} (value : List ℕ → X) (name : X → List ℕ) → ((row : List ℕ) → name (value row) ≡ name_in (take 36 row)) →
    (size n : ℕ) (bytes : List ℕ) → list_all is_named (rows size n bytes) ≡ true → list_all (λ x. is_name (name x)) (map value (rows size n bytes)) ≡ true
unfolding rows
rows-named value name same size zero bytes h = refl
rows-named value name same size (suc n) bytes h =
    let row = take size bytes in
    let p = both (is_named row) (list_all is_named (rows size n (drop size bytes))) h in
    bothly (is_name (name (value row))) _ (ap is_name (same row) ∙ name-is (take 36 row) p.0) (rows-named value name same size n (drop size bytes) p.1)

partition-name : (row : List ℕ) → (partition_of row).name ≡ name_in (take 36 row)
unfolding partition_of
partition-name row = refl

group-name : (row : List ℕ) → (group_of row).name ≡ name_in (take 36 row)
unfolding group_of
group-name row = refl

-- what is right with a table that is read
pub record IsRead (c : Content) : Type 0 where
  pub partitions-named : list_all (λ p. is_name p.name) c.partitions ≡ true
  pub groups-named : list_all (λ g. is_name g.name) c.groups ≡ true
  pub apart : are_named_apart c ≡ true
  pub indexed : are_indexed c ≡ true
  pub known : are_known c ≡ true
  pub version : is_version c.minor c.flags ≡ true

names-in : (h : Header) (tables : List ℕ) → names_hold h tables ≡ true →
    (list_all (λ p. is_name p.name) (content_in h tables).partitions ≡ true) × (list_all (λ g. is_name g.name) (content_in h tables).groups ≡ true)
unfolding names_hold content_in
names-in h tables k =
    let a = both (list_all is_named (partition_rows h tables) && list_all is_named (group_rows h tables)) (is_name_field (take 36 (drop 24 (device_row h tables)))) k in
    let b = both (list_all is_named (partition_rows h tables)) (list_all is_named (group_rows h tables)) a.0 in
    (rows-named partition_of (λ p. p.name) partition-name 52 h.partitions tables b.0, rows-named group_of (λ g. g.name) group-name 48 h.groups (drop (52 * h.partitions + 24 * h.extents) tables) b.1)

-- a table that is read has no flaw
pub table-read : (bytes : List ℕ) (c : Content) → table_of bytes ≡ Ok c → IsRead c
table-read bytes c e =
    let h = header_at bytes in
    let tables = behind bytes h in
    let n = no-flaw (table_flaw bytes) (content_in h tables) c e in
    let a = none-both (header_flaw bytes) (entries_flaw bytes h tables) n.0 in
    let k = none-both (size_flaw bytes h) (seal_flaw bytes h) a.0 in
    let s = sized (length bytes) (u32_at 0 bytes) (u16_at 4 bytes) h.minor (u32_at 8 bytes) (u32_at 44 bytes) (lists_size h) (u32_at 120 bytes) k.0 in
    let r = right (names_hold h tables) (are_named_apart (content_in h tables)) (are_indexed (content_in h tables)) (sources_hold h tables) (are_laid (content_in h tables)) (are_known (content_in h tables)) (kinds_hold bytes h tables) a.1 in
    let names = names-in h tables r.named-is in
    subst IsRead n.1
    (record {
      partitions-named = names.0;
      groups-named = names.1;
      apart = r.apart-is;
      indexed = r.indexed-is;
      known = r.known-is;
      version = version-by h tables bytes s.minor-is (flags-are bytes);
    })

-- the table of an image that is read
pub image-read : (bytes : List ℕ) (g : Geometry) (c : Content) → image_of bytes ≡ Ok (g, c) → IsRead c
image-read bytes g c e = by-block (block_geometry bytes) e
  where
    same : (fits : Bool) (x : Geometry × Content) → (if fits then Ok x else Err BadSize) ≡ Ok (g, c) → x.1 ≡ c
    same true x h = cc
    same false x h = absurd cc

    by-table : (x : Geometry) (r : Result Content MetaError) → table_of (drop 4096 bytes) ≡ r → tabled bytes x r ≡ Ok (g, c) → IsRead c
    by-table x (Ok d) t h = table-read (drop 4096 bytes) c (t ∙ ap Ok (same (length bytes == 4096 + table_size d) (x, d) h))
    by-table x (Err f) t h = absurd cc

    by-block : (r : Result Geometry MetaError) → (r then_on λ x. tabled bytes x (table_of (drop 4096 bytes))) ≡ Ok (g, c) → IsRead c
    by-block (Ok x) h = by-table x (table_of (drop 4096 bytes)) refl h
    by-block (Err f) h = absurd cc

-- the group of each partition is there
pub all-there : (c : Content) → are_indexed c ≡ true → list_all (λ p. nat_lt p.group (length c.groups)) c.partitions ≡ true
unfolding are_indexed
all-there c h = (both (take_in_turn (length c.extents) 0 c.partitions) (list_all (λ p. nat_lt p.group (length c.groups)) c.partitions) h).1

pub groups-there : (bytes : List ℕ) (g : Geometry) (c : Content) → image_of bytes ≡ Ok (g, c) → list_all (λ p. nat_lt p.group (length c.groups)) c.partitions ≡ true
groups-there bytes g c e = all-there c (image-read bytes g c e).indexed

-- a file that is too long
pub too-long : (file : List ℕ) → 131072 < length file → None ≡ tables_of_image file
unfolding tables_of_image
too-long file h = let n : nat_le (length file) 131072 ≡ false = grind (arith, nat_tests) in rw n refl

-- a file that isn't
pub held-by : (file : List ℕ) (r : Result (Geometry × Content) MetaError) → length file ≤ 131072 → image_of file ≡ r → tables_read r ≡ tables_of_image file
unfolding tables_of_image
held-by file r h e = let n : nat_le (length file) 131072 ≡ true = grind (arith, nat_tests) in rw n (ap tables_read (sym e))

-- the answer of a call by what it says
pub told : (o p : Option Tables) (result : Result (Option Tables) Memory) → o ≡ p → IfOk result (λ tables. tables ≡ o) → IfOk result (λ tables. tables ≡ p)
told o p (Ok tables) e h = h ∙ e
told o p (Err Memory) e h = tt

-- what the tables of a file were read of
pub record AreHeld (tables : Tables) : Type 0 where
  pub geometry : Geometry
  pub content : Content
  pub read : IsRead content
  pub same : tables_in geometry content ≡ tables

-- the tables of a file are those of a geometry and of a table that was read
pub held-read : (file : List ℕ) (tables : Tables) → tables_of_image file ≡ Some tables → AreHeld tables
unfolding tables_of_image
held-read file tables e = by-length (nat_le (length file) 131072) e
  where
    by-extents : (none : Bool) (x : Tables) → (if none then Some x else None) ≡ Some tables → x ≡ tables
    by-extents true x h = cc
    by-extents false x h = absurd cc

    by-image : (r : Result (Geometry × Content) MetaError) → image_of file ≡ r → tables_read r ≡ Some tables → AreHeld tables
    by-image (Ok (g, c)) t h = record {
      geometry = g;
      content = c;
      read = image-read file g c t;
      same = by-extents (length c.extents == 0) (tables_in g c) h;
    }
    by-image (Err f) t h = absurd cc

    by-length : (short : Bool) → (if short then tables_read (image_of file) else None) ≡ Some tables → AreHeld tables
    by-length true h = by-image (image_of file) refl h
    by-length false h = absurd cc

flaw-if : (none : Bool) (tables : Tables) → ((if none then None else Some Unsupported) ≡ None) ↔ IsSome (if none then Some tables else None)
flaw-if true tables = (λ h. refl, λ h. refl)
flaw-if false tables = (λ h. absurd cc, λ h. absurd cc)

flaw-by : (r : Result (Geometry × Content) MetaError) → (flaw_read r ≡ None) ↔ IsSome (tables_read r)
flaw-by (Ok (g, c)) = flaw-if (length c.extents == 0) (tables_in g c)
flaw-by (Err flaw) = (λ h. absurd cc, λ h. absurd cc)

-- a file that isn't too long holds tables exactly where it has no flaw
pub tables-flaw : TablesFlaw
unfolding tables_of_image tables_flaw
tables-flaw file h = let n : nat_le (length file) 131072 ≡ true = grind (arith, nat_tests) in rw n (flaw-by (image_of file))
