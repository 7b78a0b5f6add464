-- A table that is read of bytes is the one that they spell.
use Rattle.std.proofs.Common.{◌≡◌, ℕ, zero, suc, ◌+◌, ◌-◌, ◌*◌, ◌^◌, ◌<◌, ◌≤◌, Bool, true, false, List, [], ◌∷◌, ◌++◌, length, take, drop, map, replicate, Option, Some, None, Ok, refl, sym, ap, ◌∙◌, subst, arith, ⊎_elim}
use Rattle.std.specs.Prelude.{◌&&◌, ◌||◌, not, nat_lt, ◌==◌, if◌then◌else◌}
use Rattle.std.specs.List.{list_all, flat_map}
use Rattle.std.specs.Int.{w32, to_le_bytes}
use Rattle.std.proofs.lemmas.Bool.Decides.{nat_tests, eqb_tells}
use Rattle.std.proofs.lemmas.List.{length-take-le, length-drop}
use Rattle.std.proofs.lemmas.Slice.Eq.{bytes_eq-Decides}
use Rattle.sha2.specs.Sha256.{sha256}
use Rattle.super_meta.specs.declared.errors.MetaError.{MetaError}
use Rattle.super_meta.specs.declared.errors.MetaError.TheVariants.{BadName, BadIndex, Overlap, Unsupported}
use Rattle.super_meta.specs.declared.header.Header.{Header}
use Rattle.super_meta.specs.Flaws.{first_flaw}
use Rattle.fb_frame.specs.Bytes.{AreBytes, zeros}
use Rattle.fb_frame.specs.Fields.{u16_at, u32_at}
use Rattle.super_meta.specs.Sealed.{digest_around, sealed}
use Rattle.super_meta.specs.Entries.{rows, is_zero, is_named, is_unset, is_name_field, partition_of, partition_bytes, extent_of, extent_bytes, group_of, group_bytes, device_of}
use Rattle.super_meta.specs.HeaderText.{header_size, header_at, flags_at, lists_size, are_described, header_holds, tables_hold, header_flaw, size_flaw, seal_flaw}
use Rattle.fb_frame.specs.Versions.{is_version}
use Rattle.super_meta.specs.Contents.{Content, are_named_apart, are_indexed, are_laid, are_known, tables_size, is_sound}
use Rattle.super_meta.specs.TableText.{partition_rows, extent_rows, group_rows, device_row, content_in, names_hold, sources_hold, reserved_hold, kinds_hold, entries_flaw, behind, table_flaw, table_of, table_size}
use Rattle.super_meta.specs.TableBytes.{header_front, descriptor, descriptors, flags_bytes, tables_bytes, header_core, header_back, table_bytes, TableBytes, partition_fits, extent_fits, group_fits, device_fits, lists_fit, fits}
use Rattle.super_meta.proofs.SealLemmas.{part, seals}
use Rattle.fb_frame.proofs.FieldLemmas.{bytes-drop, bytes-take, field32, below32, below64}
use Rattle.super_meta.proofs.NameLemmas.{both, bothly, name-is, zeros-are}
use Rattle.super_meta.proofs.EntryLemmas.{step32, partition-back, extent-back, group-back, device-back, rows-back, both-all}
use Rattle.super_meta.proofs.FoundLemmas.{no-flaw, count, size-in}
use Rattle.super_meta.proofs.HeadLemmas.{none-both, sized, seals-hold, front-back, descriptor-back, AreDescribed, described}

-- what is right with entries in which there is no flaw
pub record AreRight (named apart indexed sources laid known kinds : Bool) : Type 0 where
  pub named-is : named ≡ true
  pub apart-is : apart ≡ true
  pub indexed-is : indexed ≡ true
  pub sources-is : sources ≡ true
  pub laid-is : laid ≡ true
  pub known-is : known ≡ true
  pub kinds-is : kinds ≡ true

abbrev pub entries_by : (named apart indexed sources laid known kinds : Bool) → Option MetaError
entries_by named apart indexed sources laid known kinds =
    first_flaw
    ((not named || not apart, BadName)
    ∷ (not indexed || not sources, BadIndex)
    ∷ (not laid, Overlap)
    ∷ (not known || not kinds, Unsupported)
    ∷ [])

some-none : (e : MetaError) → Some e ≡ None → ⊥
some-none e h = cc

pub right : (named apart indexed sources laid known kinds : Bool) → entries_by named apart indexed sources laid known kinds ≡ None → AreRight named apart indexed sources laid known kinds
right false apart indexed sources laid known kinds h = absurd (some-none BadName h)
right true false indexed sources laid known kinds h = absurd (some-none BadName h)
right true true false sources laid known kinds h = absurd (some-none BadIndex h)
right true true true false laid known kinds h = absurd (some-none BadIndex h)
right true true true true false known kinds h = absurd (some-none Overlap h)
right true true true true true false kinds h = absurd (some-none Unsupported h)
right true true true true true true false h = absurd (some-none Unsupported h)
right true true true true true true true h = record { named-is = refl; apart-is = refl; indexed-is = refl; sources-is = refl; laid-is = refl; known-is = refl; kinds-is = refl }

same-descriptor : (a b d x y z : ℕ) → a ≡ x → b ≡ y → d ≡ z → descriptor a b d ≡ descriptor x y z
same-descriptor a b d x y z e f g = ap (λ n. descriptor n b d) e ∙ (ap (λ n. descriptor x n d) f ∙ ap (descriptor x y) g)

-- the descriptors of lists of these lengths
abbrev pub descriptors_by : (p e g : ℕ) → List ℕ
descriptors_by p e g = descriptor 0 p 52 ++ descriptor (52 * p) e 24 ++ descriptor (52 * p + 24 * e) g 48 ++ descriptor (52 * p + 24 * e + 48 * g) 1 64

pub descriptors-are : (c : Content) (p e g : ℕ) → length c.partitions ≡ p → length c.extents ≡ e → length c.groups ≡ g → descriptors c ≡ descriptors_by p e g
unfolding descriptors
descriptors-are c p e g a b d = rw (a, b, d) refl

descriptors-back : (bytes : List ℕ) (p e g : ℕ) → AreBytes bytes → 128 ≤ length bytes → u32_at 84 bytes ≡ p → u32_at 96 bytes ≡ e → u32_at 108 bytes ≡ g → AreDescribed bytes p e g → take 48 (drop 80 bytes) ≡ descriptors_by p e g
descriptors-back bytes p e g b l x y z d =
    let d1 = descriptor-back 80 bytes b (omega arith) ∙ same-descriptor _ _ _ _ _ _ d.partitions-at x d.partition-size in
    let d2 = descriptor-back 92 bytes b (omega arith) ∙ same-descriptor _ _ _ _ _ _ d.extents-at y d.extent-size in
    let d3 = descriptor-back 104 bytes b (omega arith) ∙ same-descriptor _ _ _ _ _ _ d.groups-at z d.group-size in
    let d4 = descriptor-back 116 bytes b (omega arith) ∙ same-descriptor _ _ _ _ _ _ d.devices-at d.devices d.device-size in
    let two = part 12 12 24 80 92 bytes refl refl ∙ (ap (λ t. t ++ take 12 (drop 92 bytes)) d1 ∙ ap (λ t. descriptor 0 p 52 ++ t) d2) in
    let three = part 24 12 36 80 104 bytes refl refl ∙ (ap (λ t. t ++ take 12 (drop 104 bytes)) two ∙ ap (λ t. (descriptor 0 p 52 ++ descriptor (52 * p) e 24) ++ t) d3) in
    part 36 12 48 80 116 bytes refl refl ∙ (ap (λ t. t ++ take 12 (drop 116 bytes)) three ∙ ap (λ t. (descriptor 0 p 52 ++ descriptor (52 * p) e 24 ++ descriptor (52 * p + 24 * e) g 48) ++ t) d4)

-- what follows the digest, up to the end of every version
core-back : (bytes digest : List ℕ) (c : Content) (p e g : ℕ) → AreBytes bytes → 128 ≤ length bytes → u32_at 44 bytes ≡ tables_size c → take 32 (drop 48 bytes) ≡ digest → take 48 (drop 80 bytes) ≡ descriptors c → take 84 (drop 44 bytes) ≡ header_core c digest
unfolding header_core
core-back bytes digest c p e g b l s d t =
    let s1 = step32 44 0 4 44 bytes [] b refl refl (omega arith) refl ∙ ap (to_le_bytes w32) s in
    let s2 = part 4 32 36 44 48 bytes refl refl ∙ (ap (λ x. x ++ take 32 (drop 48 bytes)) s1 ∙ ap (λ x. to_le_bytes w32 (tables_size c) ++ x) d) in
    part 36 48 84 44 80 bytes refl refl ∙ (ap (λ x. x ++ take 48 (drop 80 bytes)) s2 ∙ ap (λ x. (to_le_bytes w32 (tables_size c) ++ digest) ++ x) t)

-- the flags and what is reserved
flags-long : (bytes : List ℕ) (flags : ℕ) → AreBytes bytes → 256 ≤ length bytes → u32_at 128 bytes ≡ flags → list_all is_zero (take 124 (drop 132 bytes)) ≡ true → take 128 (drop 128 bytes) ≡ to_le_bytes w32 flags ++ zeros 124
unfolding zeros
flags-long bytes flags b l f z =
    let rest : take 124 (drop 132 bytes) ≡ replicate 124 0 = zeros-are (take 124 (drop 132 bytes)) z ∙ ap (λ n. replicate n 0) (length-take-le 124 (drop 132 bytes) (omega (arith, length-drop 132 bytes))) in
    part 4 124 128 128 132 bytes refl refl ∙ (ap (λ t. t ++ take 124 (drop 132 bytes)) (field32 128 bytes b (omega arith) ∙ ap (to_le_bytes w32) f) ∙ ap (λ t. to_le_bytes w32 flags ++ t) rest)

-- the end of a header of any version
flags-back : (bytes : List ℕ) (c : Content) → AreBytes bytes → header_size c.minor ≤ length bytes → c.flags ≡ (if c.minor == 2 then u32_at 128 bytes else 0) →
    (if c.minor == 2 then list_all is_zero (take 124 (drop 132 bytes)) else true) ≡ true → take (header_size c.minor - 128) (drop 128 bytes) ≡ flags_bytes c
unfolding flags_bytes
flags-back bytes c b l f z =
    ⊎_elim
    (λ h. let long : 256 ≤ length bytes = rw h.0 at l in
    let flags : u32_at 128 bytes ≡ c.flags = sym (rw h.0 at f) in
    let rest : list_all is_zero (take 124 (drop 132 bytes)) ≡ true = rw h.0 at z in
    rw h.0 (flags-long bytes c.flags b long flags rest))
    (λ h. rw h.0 refl)
    (eqb_tells c.minor 2)

-- the lists, by their entries
lists-back : (h : Header) (tables : List ℕ) → AreBytes tables → lists_size h + 64 ≤ length tables → names_hold h tables ≡ true → sources_hold h tables ≡ true →
    list_all (is_unset 8) (extent_rows h tables) ≡ true → list_all (is_unset 36) (group_rows h tables) ≡ true → is_unset 60 (device_row h tables) ≡ true →
    take (lists_size h + 64) tables ≡ tables_bytes (content_in h tables)
unfolding names_hold sources_hold content_in tables_bytes
lists-back h tables b l names sources kinds flags own =
    let p = h.partitions in
    let e = h.extents in
    let g = h.groups in
    let n1 = both (list_all is_named (partition_rows h tables) && list_all is_named (group_rows h tables)) (is_name_field (take 36 (drop 24 (device_row h tables)))) names in
    let n2 = both (list_all is_named (partition_rows h tables)) (list_all is_named (group_rows h tables)) n1.0 in
    let xs = drop (52 * p) tables in
    let gs = drop (52 * p + 24 * e) tables in
    let ps = rows-back 52 partition_of partition_bytes is_named partition-back p tables b (omega arith) n2.0 in
    let es = rows-back 24 extent_of extent_bytes (λ r. is_unset 8 r && is_unset 20 r) (λ r c m t. let q = both (is_unset 8 r) (is_unset 20 r) t in extent-back r c m q.0 q.1) e xs (bytes-drop (52 * p) tables b) (omega (arith, length-drop (52 * p) tables))
    (both-all (extent_rows h tables) (is_unset 8) (is_unset 20) kinds sources) in
    let grs = rows-back 48 group_of group_bytes (λ r. is_named r && is_unset 36 r) (λ r c m t. let q = both (is_named r) (is_unset 36 r) t in group-back r c m q.0 q.1) g gs (bytes-drop (52 * p + 24 * e) tables b) (omega (arith, length-drop (52 * p + 24 * e) tables))
    (both-all (group_rows h tables) is_named (is_unset 36) n2.1 flags) in
    let dev = device-back (device_row h tables) (bytes-take 64 (drop (lists_size h) tables) (bytes-drop (lists_size h) tables b)) (length-take-le 64 (drop (lists_size h) tables) (omega (arith, length-drop (lists_size h) tables))) n1.1 own in
    let a1 : take (52 * p) tables ≡ flat_map partition_bytes (map partition_of (partition_rows h tables)) = ap (λ n. take n tables) (omega arith) ∙ sym ps in
    let a2 : take (24 * e) xs ≡ flat_map extent_bytes (map extent_of (extent_rows h tables)) = ap (λ n. take n xs) (omega arith) ∙ sym es in
    let a3 : take (48 * g) gs ≡ flat_map group_bytes (map group_of (group_rows h tables)) = ap (λ n. take n gs) (omega arith) ∙ sym grs in
    let s2 = part (52 * p) (24 * e) (52 * p + 24 * e) 0 (52 * p) tables refl (omega arith) ∙ (ap (λ t. t ++ take (24 * e) xs) a1 ∙ ap (λ t. flat_map partition_bytes (map partition_of (partition_rows h tables)) ++ t) a2) in
    let s3 = part (52 * p + 24 * e) (48 * g) (lists_size h) 0 (52 * p + 24 * e) tables refl (omega arith) ∙ (ap (λ t. t ++ take (48 * g) gs) s2 ∙ ap (λ t. (flat_map partition_bytes (map partition_of (partition_rows h tables)) ++ flat_map extent_bytes (map extent_of (extent_rows h tables))) ++ t) a3) in
    part (lists_size h) 64 (lists_size h + 64) 0 (lists_size h) tables refl (omega arith)
    ∙ (ap (λ t. t ++ device_row h tables) s3 ∙ ap (λ t. (flat_map partition_bytes (map partition_of (partition_rows h tables)) ++ flat_map extent_bytes (map extent_of (extent_rows h tables)) ++ flat_map group_bytes (map group_of (group_rows h tables))) ++ t) (sym dev))

below : (n k : ℕ) → n < k → nat_lt n k ≡ true
below n k h = grind (arith, nat_tests)

header_size-low : (minor : ℕ) → 128 ≤ header_size minor
header_size-low minor = grind (arith, nat_tests)

version-is : (minor flags : ℕ) → minor ≤ 2 → is_version minor (if minor == 2 then flags else 0) ≡ true
version-is minor flags h = grind (arith, nat_tests)

-- entries whose parts fit, all together
rows-fit : {X : Type 0} (size : ℕ) (value : List ℕ → X) (check : X → Bool) (test : List ℕ → Bool) → ((row : List ℕ) → AreBytes row → test row ≡ true → check (value row) ≡ true) →
    (n : ℕ) (bytes : List ℕ) → AreBytes bytes → list_all test (rows size n bytes) ≡ true → list_all check (map value (rows size n bytes)) ≡ true
unfolding rows
rows-fit size value check test each zero bytes b h = refl
rows-fit size value check test each (suc n) bytes b h =
    let p = both (test (take size bytes)) (list_all test (rows size n (drop size bytes))) h in
    bothly (check (value (take size bytes))) (list_all check (map value (rows size n (drop size bytes)))) (each (take size bytes) (bytes-take size bytes b) p.0)
    (rows-fit size value check test each n (drop size bytes) (bytes-drop size bytes b) p.1)

partition-fit : (row : List ℕ) → AreBytes row → is_named row ≡ true → partition_fits (partition_of row) ≡ true
unfolding partition_of
partition-fit row b h =
    bothly _ _ (bothly _ _ (bothly _ _ (bothly _ _ (name-is (take 36 row) h) (below _ _ (below32 36 row b))) (below _ _ (below32 40 row b))) (below _ _ (below32 44 row b))) (below _ _ (below32 48 row b))

extent-fit : (row : List ℕ) → AreBytes row → is_unset 20 row ≡ true → extent_fits (extent_of row) ≡ true
unfolding extent_of
extent-fit row b h = bothly _ _ (below _ _ (below64 0 row b)) (below _ _ (below64 12 row b))

group-fit : (row : List ℕ) → AreBytes row → is_named row ≡ true → group_fits (group_of row) ≡ true
unfolding group_of
group-fit row b h = bothly _ _ (name-is (take 36 row) h) (below _ _ (below64 40 row b))

device-fit : (row : List ℕ) → AreBytes row → is_name_field (take 36 (drop 24 row)) ≡ true → device_fits (device_of row) ≡ true
unfolding device_of
device-fit row b h =
    bothly _ _ (bothly _ _ (bothly _ _ (bothly _ _ (name-is (take 36 (drop 24 row)) h) (below _ _ (below64 0 row b))) (below _ _ (below32 8 row b))) (below _ _ (below32 12 row b))) (below _ _ (below64 16 row b))

flags-fit : (bytes : List ℕ) (minor : ℕ) → AreBytes bytes → (if minor == 2 then u32_at 128 bytes else 0) < 2 ^ 32
flags-fit bytes minor b = let h = below32 128 bytes b in ⊎_elim (λ k. rw k.0 h) (λ k. rw k.0 (omega arith)) (eqb_tells minor 2)

fits-in : (h : Header) (tables : List ℕ) → AreBytes tables → names_hold h tables ≡ true → sources_hold h tables ≡ true → h.flags < 2 ^ 32 → fits (content_in h tables) ≡ true
unfolding names_hold sources_hold content_in lists_fit
fits-in h tables b names sources flags =
    let n1 = both (list_all is_named (partition_rows h tables) && list_all is_named (group_rows h tables)) (is_name_field (take 36 (drop 24 (device_row h tables)))) names in
    let n2 = both (list_all is_named (partition_rows h tables)) (list_all is_named (group_rows h tables)) n1.0 in
    bothly _ _
    (bothly _ _
    (bothly _ _
    (bothly _ _ (rows-fit 52 partition_of partition_fits is_named partition-fit h.partitions tables b n2.0)
    (rows-fit 24 extent_of extent_fits (is_unset 20) extent-fit h.extents (drop (52 * h.partitions) tables) (bytes-drop (52 * h.partitions) tables b) sources))
    (rows-fit 48 group_of group_fits is_named group-fit h.groups (drop (52 * h.partitions + 24 * h.extents) tables) (bytes-drop (52 * h.partitions + 24 * h.extents) tables b) n2.1))
    (device-fit (device_row h tables) (bytes-take 64 (drop (lists_size h) tables) (bytes-drop (lists_size h) tables b)) n1.1))
    (below _ _ flags)

tables-size : (h : Header) (tables : List ℕ) → tables_size (content_in h tables) ≡ lists_size h + 64
unfolding content_in
tables-size h tables =
    let a = count partition_of 52 h.partitions tables in
    let b = count extent_of 24 h.extents (drop (52 * h.partitions) tables) in
    let d = count group_of 48 h.groups (drop (52 * h.partitions + 24 * h.extents) tables) in
    rw (a, b, d) refl

-- what follows the digest
back-is : (bytes tables : List ℕ) (h : Header) → h ≡ header_at bytes → AreBytes bytes → header_size h.minor + (lists_size h + 64) ≤ length bytes →
    u32_at 44 bytes ≡ lists_size h + 64 → AreDescribed bytes h.partitions h.extents h.groups → tables_hold bytes (header_size h.minor) (u32_at 44 bytes) ≡ true →
    reserved_hold bytes h ≡ true → tables ≡ behind bytes h → take (lists_size h + 64) tables ≡ tables_bytes (content_in h tables) →
    take (header_size h.minor - 44) (drop 44 bytes) ≡ header_back (content_in h tables)
unfolding header_back content_in header_at flags_at tables_hold
back-is bytes tables h e b l more d sum reserved t lists =
    let c = content_in h tables in
    let hs = header_size h.minor in
    let low = header_size-low h.minor in
    let size = more ∙ sym (tables-size h tables) in
    let digest : take 32 (drop 48 bytes) ≡ sha256 (tables_bytes c) =
    (bytes_eq-Decides (take 32 (drop 48 bytes)) (sha256 (take (u32_at 44 bytes) (drop hs bytes)))).0 sum
    ∙ ap sha256 (ap (λ n. take n (drop hs bytes)) more ∙ (ap (take (lists_size h + 64)) (sym t) ∙ lists)) in
    let partitions : u32_at 84 bytes ≡ h.partitions = ap (λ (x : Header). x.partitions) (sym e) in
    let extents : u32_at 96 bytes ≡ h.extents = ap (λ (x : Header). x.extents) (sym e) in
    let groups : u32_at 108 bytes ≡ h.groups = ap (λ (x : Header). x.groups) (sym e) in
    let minor : h.minor ≡ u16_at 6 bytes = ap (λ (x : Header). x.minor) e in
    let flags : h.flags ≡ (if h.minor == 2 then u32_at 128 bytes else 0) = ap (λ (x : Header). x.flags) e ∙ ap (λ n. if n == 2 then u32_at 128 bytes else 0) (sym minor) in
    let descs = descriptors-back bytes h.partitions h.extents h.groups b (omega arith) partitions extents groups d
    ∙ sym (descriptors-are c h.partitions h.extents h.groups (count partition_of 52 h.partitions tables) (count extent_of 24 h.extents (drop (52 * h.partitions) tables)) (count group_of 48 h.groups (drop (52 * h.partitions + 24 * h.extents) tables))) in
    let core = core-back bytes (sha256 (tables_bytes c)) c h.partitions h.extents h.groups b (omega arith) size digest descs in
    let rest = flags-back bytes c b (omega arith) flags reserved in
    part 84 (hs - 128) (hs - 44) 44 128 bytes (omega arith) refl
    ∙ (ap (λ x. x ++ take (hs - 128) (drop 128 bytes)) core ∙ ap (λ x. header_core c (sha256 (tables_bytes c)) ++ x) rest)

pub version-by : (h : Header) (tables bytes : List ℕ) → h.minor ≤ 2 → h.flags ≡ (if h.minor == 2 then u32_at 128 bytes else 0) → is_version (content_in h tables).minor (content_in h tables).flags ≡ true
unfolding content_in
version-by h tables bytes m f = ap (is_version h.minor) f ∙ version-is h.minor (u32_at 128 bytes) m

-- a sound table
sound-is : (h : Header) (tables bytes : List ℕ) → AreBytes bytes → h.minor ≤ 2 → h.flags ≡ (if h.minor == 2 then u32_at 128 bytes else 0) → u32_at 44 bytes ≡ lists_size h + 64 →
    are_named_apart (content_in h tables) ≡ true → are_indexed (content_in h tables) ≡ true → are_laid (content_in h tables) ≡ true → are_known (content_in h tables) ≡ true → is_sound (content_in h tables) ≡ true
sound-is h tables bytes b m f more apart indexed laid known =
    let small : tables_size (content_in h tables) < 2 ^ 32 = let s = below32 44 bytes b in omega (arith, tables-size h tables, more, s) in
    bothly _ _ (bothly _ _ (bothly _ _ (bothly _ _ (bothly _ _ apart indexed) laid) known) (version-by h tables bytes m f)) (below _ _ small)

pub flags-are : (bytes : List ℕ) → (header_at bytes).flags ≡ (if (header_at bytes).minor == 2 then u32_at 128 bytes else 0)
unfolding header_at flags_at
flags-are bytes = refl

fields-are : (bytes : List ℕ) → ((header_at bytes).minor ≡ u16_at 6 bytes) × ((header_at bytes).partitions ≡ u32_at 84 bytes) × ((header_at bytes).extents ≡ u32_at 96 bytes) × ((header_at bytes).groups ≡ u32_at 108 bytes)
unfolding header_at
fields-are bytes = (refl, refl, refl, refl)

digest-is : (bytes front back : List ℕ) (hs : ℕ) → header_holds bytes hs ≡ true → take 12 bytes ≡ front → take (hs - 44) (drop 44 bytes) ≡ back → take 32 (drop 12 bytes) ≡ digest_around front back
unfolding header_holds
digest-is bytes front back hs h f k =
    (bytes_eq-Decides (take 32 (drop 12 bytes)) (digest_around (take 12 bytes) (take (hs - 44) (drop 44 bytes)))).0 h
    ∙ (ap (λ t. digest_around t (take (hs - 44) (drop 44 bytes))) f ∙ ap (digest_around front) k)

kinds-are : (bytes : List ℕ) (h : Header) (tables : List ℕ) → kinds_hold bytes h tables ≡ true →
    (list_all (is_unset 8) (extent_rows h tables) ≡ true) × (list_all (is_unset 36) (group_rows h tables) ≡ true) × (is_unset 60 (device_row h tables) ≡ true) × (reserved_hold bytes h ≡ true)
unfolding kinds_hold
kinds-are bytes h tables k =
    let a = both (list_all (is_unset 8) (extent_rows h tables) && list_all (is_unset 36) (group_rows h tables) && is_unset 60 (device_row h tables)) (reserved_hold bytes h) k in
    let b = both (list_all (is_unset 8) (extent_rows h tables) && list_all (is_unset 36) (group_rows h tables)) (is_unset 60 (device_row h tables)) a.0 in
    let d = both (list_all (is_unset 8) (extent_rows h tables)) (list_all (is_unset 36) (group_rows h tables)) b.0 in
    (d.0, d.1, b.1, a.1)

minor-in : (h : Header) (tables : List ℕ) → (content_in h tables).minor ≡ h.minor
unfolding content_in
minor-in h tables = refl

pub takes : (bytes : List ℕ) (c : Content) → AreBytes bytes → table_of bytes ≡ Ok c → TableBytes c bytes
takes bytes c b e =
    let h = header_at bytes in
    let tables = behind bytes h in
    let hs = header_size h.minor in
    let n = no-flaw (table_flaw bytes) (content_in h tables) c e in
    let a = none-both (header_flaw bytes) (entries_flaw bytes h tables) n.0 in
    let k = none-both (size_flaw bytes h) (seal_flaw bytes h) a.0 in
    let s = sized (length bytes) (u32_at 0 bytes) (u16_at 4 bytes) h.minor (u32_at 8 bytes) (u32_at 44 bytes) (lists_size h) (u32_at 120 bytes) k.0 in
    let l = seals-hold (header_holds bytes hs) (tables_hold bytes hs (u32_at 44 bytes)) (are_described bytes h) k.1 in
    let d = described bytes h l.2 in
    let r = right (names_hold h tables) (are_named_apart (content_in h tables)) (are_indexed (content_in h tables)) (sources_hold h tables) (are_laid (content_in h tables)) (are_known (content_in h tables)) (kinds_hold bytes h tables) a.1 in
    let kinds = kinds-are bytes h tables r.kinds-is in
    let f = fields-are bytes in
    let more : u32_at 44 bytes ≡ lists_size h + 64 = omega (arith, s.more-is, d.devices) in
    let long : hs + (lists_size h + 64) ≤ length bytes = omega (arith, s.long-is, more) in
    let low = header_size-low h.minor in
    let tb = bytes-drop hs bytes b in
    let lists = lists-back h tables tb (omega (arith, length-drop hs bytes, long)) r.named-is r.sources-is kinds.0 kinds.1 kinds.2 in
    let front : take 12 bytes ≡ header_front h.minor = front-back bytes b (omega (arith, s.len-is)) s.magic-is s.major-is (s.size-is ∙ ap header_size f.0) ∙ ap header_front (sym f.0) in
    let back = back-is bytes tables h refl b long more d l.1 kinds.3 refl lists in
    let digest = digest-is bytes (header_front h.minor) (header_back (content_in h tables)) hs l.0 front back in
    let head : take hs bytes ≡ sealed (header_front h.minor) (header_back (content_in h tables)) = seals 12 (hs - 44) 44 hs bytes (header_front h.minor) (header_back (content_in h tables)) refl (omega arith) front back digest in
    let size : table_size (content_in h tables) ≡ hs + (lists_size h + 64) = size-in h tables (content_in h tables) refl in
    let spelled : take (table_size (content_in h tables)) bytes ≡ table_bytes (content_in h tables) =
    ap (λ m. take m bytes) size
    ∙ (part hs (lists_size h + 64) (hs + (lists_size h + 64)) 0 hs bytes refl (omega arith)
    ∙ (ap (λ t. t ++ take (lists_size h + 64) (drop hs bytes)) head
    ∙ (ap (λ t. sealed (header_front h.minor) (header_back (content_in h tables)) ++ t) lists
    ∙ ap (λ m. sealed (header_front m) (header_back (content_in h tables)) ++ tables_bytes (content_in h tables)) (sym (minor-in h tables))))) in
    subst (λ (x : Content). TableBytes x bytes) n.1
    (record {
      sound = sound-is h tables bytes b s.minor-is (flags-are bytes) more r.apart-is r.indexed-is r.laid-is r.known-is;
      fitting = fits-in h tables tb r.named-is r.sources-is (let q = flags-fit bytes h.minor b in subst (λ (m : ℕ). m < 2 ^ 32) (sym (flags-are bytes)) q);
      spelled = spelled;
    })
