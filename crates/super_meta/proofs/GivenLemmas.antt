-- A table is read of bytes that spell it.
use Rattle.std.proofs.Common.{◌≡◌, ◌≢◌, ℕ, ◌+◌, ◌-◌, ◌*◌, ◌^◌, ◌<◌, ◌≤◌, true, List, ◌++◌, length, take, drop, map, None, Result, Ok, refl, sym, ap, ◌∙◌, subst, arith, lit<, ⊎_elim, append_assoc, length-append}
use Rattle.std.specs.Prelude.{◌==◌, if◌then◌else◌}
use Rattle.std.specs.List.{list_all, flat_map}
use Rattle.std.specs.Int.{w32, to_le_bytes}
use Rattle.std.proofs.lemmas.Bool.Decides.{nat_tests, eqb_tells}
use Rattle.std.proofs.lemmas.List.{length-take, drop-drop, take_at, drop_at, take-append-drop}
use Rattle.std.proofs.lemmas.Slice.Eq.{bytes_eq-Decides}
use Rattle.sha2.specs.Sha256.{sha256}
use Rattle.sha2.proofs.Facts256.{length-sha256}
use Rattle.super_meta.specs.declared.errors.MetaError.{MetaError}
use Rattle.super_meta.specs.declared.header.Header.{Header}
use Rattle.super_meta.specs.Flaws.{or_flaw, ◌or_else◌}
use Rattle.fb_frame.specs.Fields.{u16_at, u32_at}
use Rattle.fb_frame.specs.Bytes.{zeros}
use Rattle.super_meta.specs.Sealed.{digest_around, sealed}
use Rattle.super_meta.specs.Entries.{rows, is_zero, is_named, is_unset, is_name_field, partition_of, partition_bytes, extent_of, extent_bytes, group_of, group_bytes, device_of, device_bytes}
use Rattle.super_meta.specs.HeaderText.{header_size, header_at, flags_at, lists_size, are_described, header_holds, tables_hold, size_flaw, seal_flaw}
use Rattle.fb_frame.specs.Versions.{is_version}
use Rattle.super_meta.specs.Contents.{Content, are_named_apart, are_indexed, are_laid, are_known, tables_size, is_sound}
use Rattle.super_meta.specs.TableText.{partition_rows, extent_rows, group_rows, device_row, content_in, names_hold, sources_hold, reserved_hold, kinds_hold, entries_flaw, behind, table_of, table_size}
use Rattle.super_meta.specs.TableBytes.{header_front, descriptor, descriptors, flags_bytes, tables_bytes, header_core, header_back, TableBytes, partition_fits, extent_fits, group_fits, device_fits, lists_fit, fits}
use Rattle.super_meta.proofs.SealLemmas.{seal-front, seal-digest, seal-behind, seal-back, length-sealed}
use Rattle.fb_frame.proofs.FieldLemmas.{again16, again32}
use Rattle.super_meta.proofs.NameLemmas.{both, bothly, zeros-pass}
use Rattle.super_meta.proofs.HeadLemmas.{sizedly}
use Rattle.super_meta.proofs.WriteLemmas.{length-header_front, length-header_core, length-descriptors, length-zeros}
use Rattle.super_meta.proofs.AgainLemmas.{fits-lt, later32, partition-again, extent-again, group-again, device-again, is_plain, is_group, is_device, rows-again, values-again, tests-again, length-again, first-all}

-- the header of a content
abbrev pub header_of_content : Content → Header
header_of_content c = record { minor = c.minor; flags = c.flags; partitions = length c.partitions; extents = length c.extents; groups = length c.groups }

-- the parts of what fits
pub record AreFit (c : Content) : Type 0 where
  pub partitions : list_all partition_fits c.partitions ≡ true
  pub extents : list_all extent_fits c.extents ≡ true
  pub groups : list_all group_fits c.groups ≡ true
  pub device : device_fits c.device ≡ true
  pub flags : c.flags < 2 ^ 32

fit-parts : (c : Content) → fits c ≡ true → AreFit c
unfolding lists_fit
fit-parts c h =
    let a = both _ _ h in
    let b = both _ _ a.0 in
    let d = both _ _ b.0 in
    let e = both _ _ d.0 in
    record { partitions = e.0; extents = e.1; groups = d.1; device = b.1; flags = fits-lt _ _ a.1 }

-- the lists after a header, and where each begins
pub record AreListed (c : Content) (rest tables : List ℕ) : Type 0 where
  pub partitions : tables ≡ flat_map partition_bytes c.partitions ++ (flat_map extent_bytes c.extents ++ (flat_map group_bytes c.groups ++ (device_bytes c.device ++ rest)))
  pub extents : drop (52 * length c.partitions) tables ≡ flat_map extent_bytes c.extents ++ (flat_map group_bytes c.groups ++ (device_bytes c.device ++ rest))
  pub groups : drop (52 * length c.partitions + 24 * length c.extents) tables ≡ flat_map group_bytes c.groups ++ (device_bytes c.device ++ rest)
  pub device : take 64 (drop (lists_size (header_of_content c)) tables) ≡ device_bytes c.device

apart-four : (p e g d rest : List ℕ) → (((p ++ e) ++ g) ++ d) ++ rest ≡ p ++ (e ++ (g ++ (d ++ rest)))
apart-four p e g d rest = simp append_assoc refl

listed : (c : Content) (rest : List ℕ) → AreFit c → AreListed c rest (tables_bytes c ++ rest)
unfolding tables_bytes
listed c rest f =
    let p = flat_map partition_bytes c.partitions in
    let e = flat_map extent_bytes c.extents in
    let g = flat_map group_bytes c.groups in
    let d = device_bytes c.device in
    let n = length c.partitions in
    let m = length c.extents in
    let k = length c.groups in
    let lp : length p ≡ 52 * n = length-again 52 partition_of partition_bytes is_named partition_fits partition-again c.partitions f.partitions ∙ omega arith in
    let le : length e ≡ 24 * m = length-again 24 extent_of extent_bytes is_plain extent_fits extent-again c.extents f.extents ∙ omega arith in
    let lg : length g ≡ 48 * k = length-again 48 group_of group_bytes is_group group_fits group-again c.groups f.groups ∙ omega arith in
    let ld : length d ≡ 64 = (device-again c.device f.device).len in
    let tables = (((p ++ e) ++ g) ++ d) ++ rest in
    let s0 = apart-four p e g d rest in
    let s1 : drop (52 * n) tables ≡ e ++ (g ++ (d ++ rest)) = ap (drop (52 * n)) s0 ∙ drop_at p (e ++ (g ++ (d ++ rest))) (52 * n) lp in
    let s2 : drop (52 * n + 24 * m) tables ≡ g ++ (d ++ rest) = sym (drop-drop (24 * m) (52 * n) tables) ∙ (ap (drop (24 * m)) s1 ∙ drop_at e (g ++ (d ++ rest)) (24 * m) le) in
    let s3 : drop (52 * n + 24 * m + 48 * k) tables ≡ d ++ rest = sym (drop-drop (48 * k) (52 * n + 24 * m) tables) ∙ (ap (drop (48 * k)) s2 ∙ drop_at g (d ++ rest) (48 * k) lg) in
    record {
      partitions = s0;
      extents = s1;
      groups = s2;
      device = ap (take 64) s3 ∙ take_at d rest 64 ld;
    }

-- the length of the lists
length-tables : (c : Content) → AreFit c → length (tables_bytes c) ≡ tables_size c
unfolding tables_bytes
length-tables c f =
    let p = flat_map partition_bytes c.partitions in
    let e = flat_map extent_bytes c.extents in
    let g = flat_map group_bytes c.groups in
    let d = device_bytes c.device in
    omega (
      arith,
      length-append ((p ++ e) ++ g) d,
      length-append (p ++ e) g,
      length-append p e,
      length-again 52 partition_of partition_bytes is_named partition_fits partition-again c.partitions f.partitions,
      length-again 24 extent_of extent_bytes is_plain extent_fits extent-again c.extents f.extents,
      length-again 48 group_of group_bytes is_group group_fits group-again c.groups f.groups,
      (device-again c.device f.device).len,
    )

-- what the entries say is the content
content-again : (c : Content) (rest tables : List ℕ) → AreFit c → AreListed c rest tables → content_in (header_of_content c) tables ≡ c
unfolding content_in
content-again c rest tables f l =
    let n = length c.partitions in
    let ps = ap (map partition_of) (ap (rows 52 n) l.partitions ∙ rows-again 52 partition_of partition_bytes is_named partition_fits partition-again c.partitions _ f.partitions) ∙ values-again 52 partition_of partition_bytes is_named partition_fits partition-again c.partitions f.partitions in
    let es = ap (map extent_of) (ap (rows 24 (length c.extents)) l.extents ∙ rows-again 24 extent_of extent_bytes is_plain extent_fits extent-again c.extents _ f.extents) ∙ values-again 24 extent_of extent_bytes is_plain extent_fits extent-again c.extents f.extents in
    let gs = ap (map group_of) (ap (rows 48 (length c.groups)) l.groups ∙ rows-again 48 group_of group_bytes is_group group_fits group-again c.groups _ f.groups) ∙ values-again 48 group_of group_bytes is_group group_fits group-again c.groups f.groups in
    let ds = ap device_of l.device ∙ (device-again c.device f.device).same in
    λ i. record { minor = c.minor; flags = c.flags; partitions = ps i; extents = es i; groups = gs i; device = ds i }

-- and nothing else stands in them
record AreEntries (bytes : List ℕ) (h : Header) (tables : List ℕ) : Type 0 where
  pub named : names_hold h tables ≡ true
  pub sources : sources_hold h tables ≡ true
  pub kinds : kinds_hold bytes h tables ≡ true

entries-again : (bytes : List ℕ) (c : Content) (rest tables : List ℕ) → AreFit c → AreListed c rest tables → reserved_hold bytes (header_of_content c) ≡ true → AreEntries bytes (header_of_content c) tables
unfolding names_hold sources_hold kinds_hold
entries-again bytes c rest tables f l r =
    let h = header_of_content c in
    let ps : list_all is_named (partition_rows h tables) ≡ true =
    ap (list_all is_named) (ap (rows 52 (length c.partitions)) l.partitions ∙ rows-again 52 partition_of partition_bytes is_named partition_fits partition-again c.partitions _ f.partitions)
    ∙ tests-again 52 partition_of partition_bytes is_named partition_fits partition-again c.partitions f.partitions in
    let es : list_all is_plain (extent_rows h tables) ≡ true =
    ap (list_all is_plain) (ap (rows 24 (length c.extents)) l.extents ∙ rows-again 24 extent_of extent_bytes is_plain extent_fits extent-again c.extents _ f.extents)
    ∙ tests-again 24 extent_of extent_bytes is_plain extent_fits extent-again c.extents f.extents in
    let gs : list_all is_group (group_rows h tables) ≡ true =
    ap (list_all is_group) (ap (rows 48 (length c.groups)) l.groups ∙ rows-again 48 group_of group_bytes is_group group_fits group-again c.groups _ f.groups)
    ∙ tests-again 48 group_of group_bytes is_group group_fits group-again c.groups f.groups in
    let ds : is_device (device_row h tables) ≡ true = ap is_device l.device ∙ (device-again c.device f.device).passes in
    let e2 = first-all (extent_rows h tables) (is_unset 8) (is_unset 20) es in
    let g2 = first-all (group_rows h tables) is_named (is_unset 36) gs in
    let d2 = both (is_name_field (take 36 (drop 24 (device_row h tables)))) (is_unset 60 (device_row h tables)) ds in
    record {
      named = bothly _ _ (bothly _ _ ps g2.0) d2.0;
      sources = e2.1;
      kinds = bothly _ _ (bothly _ _ (bothly _ _ e2.0 g2.1) d2.1) r;
    }

-- ---- the header

same-if : (a b : ℕ) → a ≡ b → (a == b) ≡ true
same-if a b h = grind (arith, nat_tests)

front-again : (bytes back rest : List ℕ) (minor : ℕ) → minor < 2 ^ 16 → header_size minor < 2 ^ 32 → bytes ≡ sealed (header_front minor) back ++ rest →
    (u32_at 0 bytes ≡ 0x414C5030) × (u16_at 4 bytes ≡ 10) × (u16_at 6 bytes ≡ minor) × (u32_at 8 bytes ≡ header_size minor)
unfolding header_front
front-again bytes back rest minor m s e =
    (again32 0 0x414C5030 bytes _ (lit< tt) e, again16 4 10 bytes _ (lit< tt) (ap (drop 4) e), again16 6 minor bytes _ m (ap (drop 6) e), again32 8 (header_size minor) bytes _ s (ap (drop 8) e))

-- the numbers of the descriptors
record AreNumbers (bytes : List ℕ) (p e g : ℕ) : Type 0 where
  pub n80 : u32_at 80 bytes ≡ 0
  pub n84 : u32_at 84 bytes ≡ p
  pub n88 : u32_at 88 bytes ≡ 52
  pub n92 : u32_at 92 bytes ≡ 52 * p
  pub n96 : u32_at 96 bytes ≡ e
  pub n100 : u32_at 100 bytes ≡ 24
  pub n104 : u32_at 104 bytes ≡ 52 * p + 24 * e
  pub n108 : u32_at 108 bytes ≡ g
  pub n112 : u32_at 112 bytes ≡ 48
  pub n116 : u32_at 116 bytes ≡ 52 * p + 24 * e + 48 * g
  pub n120 : u32_at 120 bytes ≡ 1
  pub n124 : u32_at 124 bytes ≡ 64

numbers-again : (bytes rest : List ℕ) (c : Content) → tables_size c < 2 ^ 32 → drop 80 bytes ≡ descriptors c ++ rest → AreNumbers bytes (length c.partitions) (length c.extents) (length c.groups)
unfolding descriptors descriptor
numbers-again bytes rest c small e =
    let p = length c.partitions in
    let x = length c.extents in
    let g = length c.groups in
    record {
      n80 = later32 0 80 80 0 bytes (descriptors c ++ rest) _ (lit< tt) refl e refl;
      n84 = later32 4 84 80 p bytes (descriptors c ++ rest) _ (omega (arith, small)) refl e refl;
      n88 = later32 8 88 80 52 bytes (descriptors c ++ rest) _ (lit< tt) refl e refl;
      n92 = later32 12 92 80 (52 * p) bytes (descriptors c ++ rest) _ (omega (arith, small)) refl e refl;
      n96 = later32 16 96 80 x bytes (descriptors c ++ rest) _ (omega (arith, small)) refl e refl;
      n100 = later32 20 100 80 24 bytes (descriptors c ++ rest) _ (lit< tt) refl e refl;
      n104 = later32 24 104 80 (52 * p + 24 * x) bytes (descriptors c ++ rest) _ (omega (arith, small)) refl e refl;
      n108 = later32 28 108 80 g bytes (descriptors c ++ rest) _ (omega (arith, small)) refl e refl;
      n112 = later32 32 112 80 48 bytes (descriptors c ++ rest) _ (lit< tt) refl e refl;
      n116 = later32 36 116 80 (52 * p + 24 * x + 48 * g) bytes (descriptors c ++ rest) _ (omega (arith, small)) refl e refl;
      n120 = later32 40 120 80 1 bytes (descriptors c ++ rest) _ (lit< tt) refl e refl;
      n124 = later32 44 124 80 64 bytes (descriptors c ++ rest) _ (lit< tt) refl e refl;
    }

-- what follows the digest
record AreBehind (bytes rest : List ℕ) (c : Content) : Type 0 where
  pub size : u32_at 44 bytes ≡ tables_size c
  pub digest : take 32 (drop 48 bytes) ≡ sha256 (tables_bytes c)
  pub numbers : AreNumbers bytes (length c.partitions) (length c.extents) (length c.groups)
  pub flags : drop 128 bytes ≡ flags_bytes c ++ rest

behind-again : (bytes rest : List ℕ) (c : Content) → tables_size c < 2 ^ 32 → drop 44 bytes ≡ header_back c ++ rest → AreBehind bytes rest c
unfolding header_back header_core
behind-again bytes rest c small e =
    let s = sha256 (tables_bytes c) in
    let d = descriptors c in
    let f = flags_bytes c in
    let s44 : drop 44 bytes ≡ to_le_bytes w32 (tables_size c) ++ (s ++ (d ++ (f ++ rest))) = e ∙ apart-four (to_le_bytes w32 (tables_size c)) s d f rest in
    let s48 : drop 48 bytes ≡ s ++ (d ++ (f ++ rest)) = sym (drop-drop 4 44 bytes) ∙ ap (drop 4) s44 in
    let l = length-sha256 (tables_bytes c) in
    let s80 : drop 80 bytes ≡ d ++ (f ++ rest) = sym (drop-drop 32 48 bytes) ∙ (ap (drop 32) s48 ∙ drop_at s (d ++ (f ++ rest)) 32 l) in
    record {
      size = again32 44 (tables_size c) bytes _ small s44;
      digest = ap (take 32) s48 ∙ take_at s (d ++ (f ++ rest)) 32 l;
      numbers = numbers-again bytes (f ++ rest) c small s80;
      flags = sym (drop-drop 48 80 bytes) ∙ (ap (drop 48) s80 ∙ drop_at d (f ++ rest) 48 (length-descriptors c));
    }

-- the flags, what is reserved, and what follows the header
record AreFlags (bytes rest : List ℕ) (minor flags : ℕ) : Type 0 where
  pub flag : (if minor == 2 then u32_at 128 bytes else 0) ≡ flags
  pub reserved : (if minor == 2 then list_all is_zero (take 124 (drop 132 bytes)) else true) ≡ true
  pub after : drop (header_size minor) bytes ≡ rest

no-flags : (minor flags : ℕ) → minor ≢ 2 → is_version minor flags ≡ true → 0 ≡ flags
no-flags minor flags k h = grind (arith, nat_tests)

all-zeros : (n : ℕ) → list_all is_zero (zeros n) ≡ true
unfolding zeros
all-zeros n = zeros-pass n

long-again : (bytes rest : List ℕ) (flags : ℕ) → flags < 2 ^ 32 → drop 128 bytes ≡ (to_le_bytes w32 flags ++ zeros 124) ++ rest → (u32_at 128 bytes ≡ flags) × (list_all is_zero (take 124 (drop 132 bytes)) ≡ true) × (drop 256 bytes ≡ rest)
long-again bytes rest flags f e =
    let s132 : drop 132 bytes ≡ zeros 124 ++ rest = sym (drop-drop 4 128 bytes) ∙ ap (drop 4) e in
    let l = length-zeros 124 in (
      again32 128 flags bytes _ f e,
      ap (list_all is_zero) (ap (take 124) s132 ∙ take_at (zeros 124) rest 124 l) ∙ all-zeros 124,
      sym (drop-drop 124 132 bytes) ∙ (ap (drop 124) s132 ∙ drop_at (zeros 124) rest 124 l),
    )

flags-again : (bytes rest : List ℕ) (c : Content) → c.flags < 2 ^ 32 → is_version c.minor c.flags ≡ true → drop 128 bytes ≡ flags_bytes c ++ rest → AreFlags bytes rest c.minor c.flags
unfolding flags_bytes
flags-again bytes rest c f v e =
    ⊎_elim
    (λ k. let a = long-again bytes rest c.flags f (rw k.0 at e) in
    record { flag = rw k.0 a.0; reserved = rw k.0 a.1; after = rw k.0 a.2 })
    (λ k. record { flag = rw k.0 (no-flags c.minor c.flags k.1 v); reserved = rw k.0 refl; after = rw k.0 (rw k.0 at e) })
    (eqb_tells c.minor 2)

length-flags : (c : Content) → length (flags_bytes c) ≡ header_size c.minor - 128
unfolding flags_bytes
length-flags c =
    ⊎_elim
    (λ k. rw k.0 (length-append (to_le_bytes w32 c.flags) (zeros 124) ∙ ap (λ n. 4 + n) (length-zeros 124)))
    (λ k. rw k.0 refl)
    (eqb_tells c.minor 2)

length-back : (c : Content) → length (header_back c) ≡ header_size c.minor - 44
unfolding header_back
length-back c =
    let low : 128 ≤ header_size c.minor = low-size c.minor in
    omega (arith, length-append (header_core c (sha256 (tables_bytes c))) (flags_bytes c), length-header_core c (sha256 (tables_bytes c)) (length-sha256 (tables_bytes c)), length-flags c, low)
  where
    low-size : (minor : ℕ) → 128 ≤ header_size minor
    low-size minor = grind (arith, nat_tests)

-- ---- the whole

-- the header is that of the content
header-again : (bytes rest : List ℕ) (c : Content) → u16_at 6 bytes ≡ c.minor → AreNumbers bytes (length c.partitions) (length c.extents) (length c.groups) → AreFlags bytes rest c.minor c.flags → header_at bytes ≡ header_of_content c
unfolding header_at flags_at
header-again bytes rest c m n f =
    let flags : (if u16_at 6 bytes == 2 then u32_at 128 bytes else 0) ≡ c.flags = ap (λ k. if k == 2 then u32_at 128 bytes else 0) m ∙ f.flag in
    let a = n.n84 in
    let b = n.n96 in
    let d = n.n108 in
    λ i. record { minor = m i; flags = flags i; partitions = a i; extents = b i; groups = d i }

described-again : (bytes : List ℕ) (c : Content) → AreNumbers bytes (length c.partitions) (length c.extents) (length c.groups) → are_described bytes (header_of_content c) ≡ true
unfolding are_described
described-again bytes c n =
    bothly _ _
    (bothly _ _
    (bothly _ _
    (bothly _ _ (bothly _ _ (same-if _ _ n.n80) (same-if _ _ n.n88)) (bothly _ _ (same-if _ _ n.n92) (same-if _ _ n.n100)))
    (bothly _ _ (same-if _ _ n.n104) (same-if _ _ n.n112)))
    (bothly _ _ (same-if _ _ n.n116) (same-if _ _ n.n124)))
    (same-if _ _ n.n120)

holds-again : (bytes rest : List ℕ) (c : Content) → bytes ≡ sealed (header_front c.minor) (header_back c) ++ rest → header_holds bytes (header_size c.minor) ≡ true
unfolding header_holds
holds-again bytes rest c e =
    let front = header_front c.minor in
    let back = header_back c in
    let l = length-header_front c.minor in
    let f = seal-front 12 bytes front back rest l e in
    let k = seal-back 12 44 (header_size c.minor - 44) bytes front back rest l refl (length-back c) e in
    let d = seal-digest 12 bytes front back rest l e in
    (bytes_eq-Decides _ _).1 (d ∙ (ap (λ t. digest_around t back) (sym f) ∙ ap (digest_around (take 12 bytes)) (sym k)))

sums-again : (bytes lists rest : List ℕ) (size more : ℕ) → take 32 (drop 48 bytes) ≡ sha256 lists → drop size bytes ≡ lists ++ rest → length lists ≡ more → tables_hold bytes size more ≡ true
unfolding tables_hold
sums-again bytes lists rest size more d t l = (bytes_eq-Decides _ _).1 (d ∙ ap sha256 (sym (ap (take more) t ∙ take_at lists rest more l)))

-- what is read where the header is this one
abbrev table_by : List ℕ → Header → Result Content MetaError
table_by bytes h = or_flaw (size_flaw bytes h or_else seal_flaw bytes h or_else entries_flaw bytes h (behind bytes h)) (content_in h (behind bytes h))

record SoundParts (c : Content) : Type 0 where
  pub apart : are_named_apart c ≡ true
  pub indexed : are_indexed c ≡ true
  pub laid : are_laid c ≡ true
  pub known : are_known c ≡ true
  pub version : is_version c.minor c.flags ≡ true
  pub small : tables_size c < 2 ^ 32

sound-parts : (c : Content) → is_sound c ≡ true → SoundParts c
sound-parts c h =
    let a = both _ _ h in
    let b = both _ _ a.0 in
    let d = both _ _ b.0 in
    let e = both _ _ d.0 in
    let f = both _ _ e.0 in
    record { apart = f.0; indexed = f.1; laid = e.1; known = d.1; version = b.1; small = fits-lt _ _ a.1 }

two : (minor flags : ℕ) → is_version minor flags ≡ true → minor ≤ 2
two minor flags h = grind (arith, nat_tests)

size-small : (minor : ℕ) → header_size minor < 2 ^ 32
size-small minor = grind (arith, nat_tests)

abbrev ok : {X : Type 0} → X → Result X MetaError
ok x = Ok x

ok-same : {X : Type 0} (x y : X) → ok x ≡ ok y → x ≡ y
ok-same x y e = cc

low-head : (minor : ℕ) → 128 ≤ header_size minor
low-head minor = grind (arith, nat_tests)

pub gives : (bytes : List ℕ) (c : Content) → TableBytes c bytes → table_of bytes ≡ Ok c
gives bytes c h =
    let f = fit-parts c h.fitting in
    let p = sound-parts c h.sound in
    let front = header_front c.minor in
    let back = header_back c in
    let lists = tables_bytes c in
    let rest = drop (table_size c) bytes in
    let hc = header_of_content c in
    let hs = header_size c.minor in
    let tables = behind bytes hc in
    let e : bytes ≡ sealed front back ++ (lists ++ rest) = sym (take-append-drop (table_size c) bytes) ∙ (ap (λ t. t ++ rest) h.spelled ∙ append_assoc (sealed front back) lists rest) in
    let lf = length-header_front c.minor in
    let lt = length-tables c f in
    let low = low-head c.minor in
    let m = two c.minor c.flags p.version in
    let long : table_size c ≤ length bytes = omega (arith, length-take (table_size c) bytes, ap length h.spelled, length-append (sealed front back) lists, length-sealed front back, lf, length-back c, lt, low) in
    let fr = front-again bytes back (lists ++ rest) c.minor (omega (arith, m)) (size-small c.minor) e in
    let bh = behind-again bytes (lists ++ rest) c p.small (seal-behind 12 44 bytes front back (lists ++ rest) lf refl e) in
    let fl = flags-again bytes (lists ++ rest) c f.flags p.version bh.flags in
    let hd = header-again bytes (lists ++ rest) c fr.2 bh.numbers fl in
    let ld : AreListed c rest tables = subst (λ (t : List ℕ). AreListed c rest t) (sym fl.after) (listed c rest f) in
    let own : content_in hc tables ≡ c = content-again c rest tables f ld in
    let en = entries-again bytes c rest tables f ld fl.reserved in
    let sizes : size_flaw bytes hc ≡ None = sizedly (length bytes) (u32_at 0 bytes) (u16_at 4 bytes) c.minor (u32_at 8 bytes) (u32_at 44 bytes) (lists_size hc) (u32_at 120 bytes)
    (record {
      len-is = omega (arith, long, low);
      magic-is = fr.0;
      major-is = fr.1;
      minor-is = m;
      size-is = fr.3;
      long-is = omega (arith, long, bh.size);
      more-is = omega (arith, bh.size, bh.numbers.n120);
    }) in
    let a : header_holds bytes hs ≡ true = holds-again bytes (lists ++ rest) c e in
    let b : tables_hold bytes hs (u32_at 44 bytes) ≡ true = sums-again bytes lists rest hs (u32_at 44 bytes) bh.digest fl.after (lt ∙ sym bh.size) in
    let d : are_described bytes hc ≡ true = described-again bytes c bh.numbers in
    let seals : seal_flaw bytes hc ≡ None = rw (a, b, d) refl in
    let n1 = en.named in
    let n2 : are_named_apart (content_in hc tables) ≡ true = ap are_named_apart own ∙ p.apart in
    let n3 : are_indexed (content_in hc tables) ≡ true = ap are_indexed own ∙ p.indexed in
    let n4 = en.sources in
    let n5 : are_laid (content_in hc tables) ≡ true = ap are_laid own ∙ p.laid in
    let n6 : are_known (content_in hc tables) ≡ true = ap are_known own ∙ p.known in
    let n7 = en.kinds in
    let entries : entries_flaw bytes hc tables ≡ None = rw (n1, n2, n3, n4, n5, n6, n7) refl in
    let whole : (size_flaw bytes hc or_else seal_flaw bytes hc or_else entries_flaw bytes hc tables) ≡ None =
    ap (λ o. o or_else seal_flaw bytes hc or_else entries_flaw bytes hc tables) sizes ∙ (ap (λ o. o or_else entries_flaw bytes hc tables) seals ∙ entries) in
    ap (table_by bytes) hd ∙ (ap (λ o. or_flaw o (content_in hc tables)) whole ∙ ap Ok own)

pub one-table : (bytes : List ℕ) (c d : Content) → TableBytes c bytes → TableBytes d bytes → c ≡ d
one-table bytes c d h k = ok-same c d (sym (gives bytes c h) ∙ gives bytes d k)
