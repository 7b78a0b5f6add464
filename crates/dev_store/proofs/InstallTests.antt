-- Why the table of a file isn't installed: what the store tests is what its device refuses.
use Rattle.std.proofs.Common.{◌≡◌, ◌∙◌, refl, ap, sym, subst, ℕ, suc, ◌+◌, ◌<◌, ◌≤◌, Bool, true, false, cond, not, List, [], ◌∷◌, ◌++◌, map, filter, length, drop, get_or, sum_by, arith, length-append, Some, None, Result, Ok, Err}
use Rattle.std.specs.Prelude.{◌&&◌, ◌||◌, ◌==◌, ◌%◌, nat_le, nat_lt, bytes_eq, if◌then◌else◌, option_to_list}
use Rattle.std.specs.List.{list_all, list_any}
use Rattle.std.specs.Result.{result_err}
use Rattle.std.proofs.lemmas.List.{length-map}
use Rattle.std.proofs.lemmas.List.Sums.{sum_by-cons}
use Rattle.dev_model.specs.declared.device.Dev.{Dev}
use Rattle.dev_model.specs.declared.device.Logical.{Logical}
use Rattle.dev_model.specs.declared.device.Physical.{Physical}
use Rattle.dev_model.specs.Options.{first_passed}
use Rattle.dev_model.specs.Partitions.{is_physical, is_super}
use Rattle.dev_model.specs.Sizes.{Size, size_of, sizes_of, share_of, group_bytes, groups_fit}
use Rattle.dev_model.specs.Tables.{is_group, is_listed, is_kept, kept, kept_bytes, listed, left_over, merged, is_bad_table}
use Rattle.dev_model.proofs.ValidTable.{any-map, map-append}
use Rattle.super_meta.specs.declared.errors.MetaError.{MetaError}
use Rattle.super_meta.specs.declared.geometry.Geometry.{Geometry}
use Rattle.super_meta.specs.declared.table.Partition.{Partition}
use Rattle.super_meta.specs.declared.table.Group.{Group}
use Rattle.super_meta.specs.Contents.{Content}
use Rattle.super_meta.specs.ImageText.{image_of}
use Rattle.super_meta.specs.Held.{group_name, limited, tables_in, tables_of_image}
use Rattle.super_meta.specs.Held.{listed as listed_in}
use Rattle.super_meta.proofs.HeldLemmas.{too-long, held-by}
use Rattle.dev_store.specs.declared.layout.PhysicalPart.{PhysicalPart}
use Rattle.dev_store.specs.declared.layout.SuperPart.{SuperPart}
use Rattle.dev_store.specs.declared.table_install.Keeps.{Keeps}
use Rattle.dev_store.specs.declared.errors.StoreError.TheVariants.{GroupFull, TooManyPartitions, NoGroup, BadTable}
use Rattle.dev_store.specs.Changes.{tables_flaw}
use Rattle.dev_store.specs.Supers.{is_barred, size_in}
use Rattle.dev_store.specs.Installing.{keeps, kept_long, is_left}
use Rattle.dev_store.specs.InstallTests.{is_other_super, merged_count, lacks_group, listed_share, merged_bytes, limits_hold, install_tests}
use Rattle.dev_store.specs.TableChanges.{AreEntriesOf}
use Rattle.dev_store.proofs.UnitLemmas.{left-step, group-cons, groups_limited}
use Rattle.dev_store.proofs.BuildInstalled.{keeps_of, kept-is, listed-same}

-- ---- the file

pub too-long-file : (file : List ℕ) → 131072 < length file → tables_of_image file ≡ None
too-long-file file h = sym (too-long file h)

pub flawed-file : (file : List ℕ) (flaw : MetaError) → length file ≤ 131072 → Some flaw ≡ result_err (image_of file) → tables_of_image file ≡ None
flawed-file file flaw h e = by (image_of file) refl e
  where
    by : (r : Result (Geometry × Content) MetaError) → image_of file ≡ r → Some flaw ≡ result_err r → tables_of_image file ≡ None
    by (Ok x) i k = absurd cc
    by (Err f) i k = sym (held-by file (Err f) h i)

pub with-extents : (file : List ℕ) (g : Geometry) (c : Content) → length file ≤ 131072 → image_of file ≡ Ok (g, c) → (length c.extents == 0) ≡ false → tables_of_image file ≡ None
with-extents file g c h e n = sym (held-by file (Ok (g, c)) h e) ∙ ap (λ b. if b then Some (tables_in g c) else None) n

pub without-extents : (file : List ℕ) (g : Geometry) (c : Content) → length file ≤ 131072 → image_of file ≡ Ok (g, c) → (length c.extents == 0) ≡ true → tables_of_image file ≡ Some (tables_in g c)
without-extents file g c h e n = sym (held-by file (Ok (g, c)) h e) ∙ ap (λ b. if b then Some (tables_in g c) else None) n

-- ---- sums

pub sum-step : (f : Partition → ℕ) (xs ys : List Partition) (i : ℕ) (x : Partition) → xs ≡ ys → i < length xs → x ≡ get_or xs i x →
    sum_by f (drop i ys) ≡ f x + sum_by f (drop (i + 1) ys)
sum-step f xs ys i x s h e =
    subst (λ l. sum_by f (drop i l) ≡ f x + sum_by f (drop (i + 1) l)) s
    (ap (sum_by f) (left-step xs i x h e) ∙ sum_by-cons f x (drop (i + 1) xs))

pub rest-many : (xs ys : List Partition) (i : ℕ) (x : Partition) → xs ≡ ys → i < length xs → x ≡ get_or xs i x → length (drop i ys) ≡ suc (length (drop (i + 1) ys))
rest-many xs ys i x s h e = subst (λ l. length (drop i l) ≡ suc (length (drop (i + 1) l))) s (ap length (left-step xs i x h e))

pub any-step : (f : Partition → Bool) (xs ys : List Partition) (i : ℕ) (x : Partition) → xs ≡ ys → i < length xs → x ≡ get_or xs i x →
    list_any f (drop i ys) ≡ (f x || list_any f (drop (i + 1) ys))
any-step f xs ys i x s h e =
    subst (λ l. list_any f (drop i l) ≡ (f x || list_any f (drop (i + 1) l))) s (ap (list_any f) (left-step xs i x h e))

pub none-step : (f : Partition → Bool) (xs ys : List Partition) (i : ℕ) (x : Partition) (all : Bool) → xs ≡ ys → i < length xs → x ≡ get_or xs i x → f x ≡ false → list_any f (drop i ys) ≡ all →
    list_any f (drop (i + 1) ys) ≡ all
none-step f xs ys i x all s h e n so = sym (any-step f xs ys i x s h e ∙ ap (λ b. b || list_any f (drop (i + 1) ys)) n) ∙ so

-- ---- the super

or-none : (a : Bool) → (a || false) ≡ a
or-none true = refl
or-none false = refl

or-last : (a d e f g h : Bool) → (a || d || e || f || g || h) ≡ (a || (d || e || f || g || h))
or-last true d e f g h = refl
or-last false d e f g h = refl

barred-same : (parts : List PhysicalPart) (s : SuperPart) (dev : Dev) (groups : List Group) → dev.super_name ≡ Some s.name → map (λ p. p.name) dev.physical ≡ map (λ p. p.name) parts → (ps : List Partition) →
    list_any (λ p. is_physical dev p.name || is_super dev p.name) (map (listed_in groups) ps) ≡ list_any (is_barred parts s) ps
barred-same parts s dev groups named physical [] = refl
barred-same parts s dev groups named physical (p ∷ ps) =
    let first : is_physical dev p.name ≡ list_any (λ q. bytes_eq q.name p.name) parts =
    any-map (λ (q : Physical). q.name) p.name dev.physical ∙ (ap (list_any (λ n. bytes_eq n p.name)) physical ∙ sym (any-map (λ (q : PhysicalPart). q.name) p.name parts)) in
    let second : is_super dev p.name ≡ bytes_eq s.name p.name = ap (λ o. list_any (λ n. bytes_eq n p.name) (option_to_list o)) named ∙ or-none (bytes_eq s.name p.name) in
    let more = barred-same parts s dev groups named physical ps in
    λ i. (first i || second i) || more i

-- What a device has of its super.
pub record IsSuperOf (parts : List PhysicalPart) (s : SuperPart) (dev : Dev) : Type 0 where
  pub named : dev.super_name ≡ Some s.name
  pub physical : map (λ p. p.name) dev.physical ≡ map (λ p. p.name) parts
  pub room : dev.geometry.max_size ≡ s.max_size
  pub slots : dev.geometry.slots ≡ s.slots
  pub size : dev.super_size ≡ s.size
  pub unit : dev.unit ≡ s.unit

pub other-same : (parts : List PhysicalPart) (s : SuperPart) (dev : Dev) (g : Geometry) (new : Content) → IsSuperOf parts s dev → is_bad_table (tables_in g new) dev ≡ is_other_super parts s g new
other-same parts s dev g new h =
    let d = new.device in
    let named : is_super dev d.name ≡ bytes_eq s.name d.name = ap (λ o. list_any (λ n. bytes_eq n d.name) (option_to_list o)) h.named ∙ or-none (bytes_eq s.name d.name) in
    let barred = barred-same parts s dev new.groups h.named h.physical new.partitions in
    let many = length-map new.groups limited in
    let room = h.room in
    let slots = h.slots in
    let size = h.size in
    let unit = h.unit in
    (λ i. not (g.max_size == room i && g.slots == slots i) || nat_lt 64 (many i) || barred i
    || not (named i) || not (d.size == size i) || d.alignment == 0 || not (unit i % d.alignment == 0) || not (d.offset == 0))
    ∙ or-last (not (g.max_size == s.max_size && g.slots == s.slots) || nat_lt 64 (length new.groups) || list_any (is_barred parts s) new.partitions)
    (not (bytes_eq s.name d.name)) (not (d.size == s.size)) (d.alignment == 0) (not (s.unit % d.alignment == 0)) (not (d.offset == 0))

-- ---- those that are left over

-- the partitions that are left over, and their entries
pub left-entries : (s : SuperPart) (wipe : Bool) (dev : Dev) (new c : Content) (ps : List Partition) (logical : List Logical) (lists : List (List ℕ)) → AreEntriesOf s c ps logical lists →
    (some : List (List ℕ)) × AreEntriesOf s c (filter (is_left (keeps_of wipe dev) new) ps)
    (filter (λ q. not (is_listed (map (listed_in new.groups) new.partitions) q.name)) (filter (is_kept dev wipe) logical)) some
left-entries s wipe dev new c [] [] [] h = ([], tt)
left-entries s wipe dev new c [] [] (units ∷ lists) h = absurd h
left-entries s wipe dev new c [] (q ∷ logical) lists h = absurd h
left-entries s wipe dev new c (p ∷ ps) [] lists h = absurd h
left-entries s wipe dev new c (p ∷ ps) (q ∷ logical) [] h = absurd h
left-entries s wipe dev new c (p ∷ ps) (q ∷ logical) (units ∷ lists) h =
    let e = h.0 in
    let test : is_left (keeps_of wipe dev) new p ≡ (is_kept dev wipe q && is-new q) =
    (λ i. keeps (keeps_of wipe dev) (e.name i) && not (list_any (λ x. bytes_eq x.name (e.name i)) new.partitions))
    ∙ ap (λ b. is_kept dev wipe q && not b) (sym (listed-same new.groups q.name new.partitions)) in
    subst (λ b. (some : List (List ℕ)) × AreEntriesOf s c (cond b (p ∷ rest) rest) (filter is-new (cond (is_kept dev wipe q) (q ∷ filter (is_kept dev wipe) logical) (filter (is_kept dev wipe) logical))) some) (sym test)
    (by (is_kept dev wipe q) (is-new q) refl (left-entries s wipe dev new c ps logical lists h.1))
  where
    rest : List Partition
    rest = filter (is_left (keeps_of wipe dev) new) ps

    is-new : Logical → Bool
    is-new x = not (is_listed (map (listed_in new.groups) new.partitions) x.name)

    others : List Logical
    others = filter is-new (filter (is_kept dev wipe) logical)

    by : (a b : Bool) → is-new q ≡ b → ((some : List (List ℕ)) × AreEntriesOf s c rest others some) →
        (some : List (List ℕ)) × AreEntriesOf s c (cond (a && b) (p ∷ rest) rest) (filter is-new (cond a (q ∷ filter (is_kept dev wipe) logical) (filter (is_kept dev wipe) logical))) some
    by true true e more = subst (λ b. (some : List (List ℕ)) × AreEntriesOf s c (p ∷ rest) (cond b (q ∷ others) others) some) (sym e) (units ∷ more.0, (h.0, more.1))
    by true false e more = subst (λ b. (some : List (List ℕ)) × AreEntriesOf s c rest (cond b (q ∷ others) others) some) (sym e) more
    by false b e more = more

entries-many : (s : SuperPart) (c : Content) (ps : List Partition) (logical : List Logical) (lists : List (List ℕ)) → AreEntriesOf s c ps logical lists → length logical ≡ length ps
entries-many s c [] [] [] h = refl
entries-many s c [] [] (units ∷ lists) h = absurd h
entries-many s c [] (q ∷ logical) lists h = absurd h
entries-many s c (p ∷ ps) [] lists h = absurd h
entries-many s c (p ∷ ps) (q ∷ logical) [] h = absurd h
entries-many s c (p ∷ ps) (q ∷ logical) (units ∷ lists) h = ap suc (entries-many s c ps logical lists h.1)

-- a group of the name
group-same : (groups : List Group) (name : List ℕ) → is_group (map limited groups) name ≡ list_any (λ g. bytes_eq g.name name) groups
group-same [] name = refl
group-same (g ∷ groups) name = ap (λ b. bytes_eq g.name name || b) (group-same groups name)

lacks-same : (s : SuperPart) (c : Content) (groups : List Group) (ps : List Partition) (logical : List Logical) (lists : List (List ℕ)) → AreEntriesOf s c ps logical lists →
    list_any (λ q. not (is_group (map limited groups) q.group)) logical ≡ list_any (λ p. not (list_any (λ g. bytes_eq g.name (group_name c.groups p.group)) groups)) ps
lacks-same s c groups [] [] [] h = refl
lacks-same s c groups [] [] (units ∷ lists) h = absurd h
lacks-same s c groups [] (q ∷ logical) lists h = absurd h
lacks-same s c groups (p ∷ ps) [] lists h = absurd h
lacks-same s c groups (p ∷ ps) (q ∷ logical) [] h = absurd h
lacks-same s c groups (p ∷ ps) (q ∷ logical) (units ∷ lists) h =
    let e = h.0 in
    let one = ap (is_group (map limited groups)) (sym e.group) ∙ group-same groups (group_name c.groups p.group) in
    let more = lacks-same s c groups ps logical lists h.1 in
    λ i. not (one i) || more i

any-filter : (f t : Partition → Bool) (ps : List Partition) → list_any f (filter t ps) ≡ list_any (λ p. t p && f p) ps
any-filter f t [] = refl
any-filter f t (p ∷ ps) = by (t p) (any-filter f t ps)
  where
    by : (b : Bool) → list_any f (filter t ps) ≡ list_any (λ p. t p && f p) ps → list_any f (cond b (p ∷ filter t ps) (filter t ps)) ≡ ((b && f p) || list_any (λ p. t p && f p) ps)
    by true more = ap (λ b. f p || b) more
    by false more = more

-- ---- the bytes of groups

bytes-joined : (group : List ℕ) (xs ys : List Size) → group_bytes group (xs ++ ys) ≡ group_bytes group xs + group_bytes group ys
bytes-joined group [] ys = omega arith
bytes-joined group (x ∷ xs) ys =
    let a = group-cons group x (xs ++ ys) in
    let b = group-cons group x xs in
    let more = bytes-joined group xs ys in
    omega arith

-- those of a table's list
listed-bytes : (k : Keeps) (new c : Content) (old : List Logical) (group : List ℕ) → ((name : List ℕ) → kept_long k c name c.partitions ≡ length (kept_bytes name old)) → (ps : List Partition) →
    group_bytes group (sizes_of (map (λ p. record { name = p.name; attributes = p.attributes; group = p.group; bytes = kept_bytes p.name old }) (map (listed_in new.groups) ps))) ≡ sum_by (listed_share k new c group) ps
listed-bytes k new c old group long [] = refl
listed-bytes k new c old group long (p ∷ ps) =
    let q : Size = record { name = p.name; group = group_name new.groups p.group; bytes = length (kept_bytes p.name old) } in
    let a = group-cons group q (sizes_of (map (λ p. record { name = p.name; attributes = p.attributes; group = p.group; bytes = kept_bytes p.name old }) (map (listed_in new.groups) ps))) in
    let b = sum_by-cons (listed_share k new c group) p ps in
    let one : share_of group q ≡ listed_share k new c group p = ap (λ n. if bytes_eq (group_name new.groups p.group) group then n else 0) (sym (long p.name)) in
    a ∙ ((λ i. one i + listed-bytes k new c old group long ps i) ∙ sym b)

-- and of those that are left over
entries-bytes : (s : SuperPart) (c : Content) (group : List ℕ) (ps : List Partition) (logical : List Logical) (lists : List (List ℕ)) → AreEntriesOf s c ps logical lists →
    group_bytes group (sizes_of logical) ≡ sum_by (λ p. share_of group (size_in c p)) ps
entries-bytes s c group [] [] [] h = refl
entries-bytes s c group [] [] (units ∷ lists) h = absurd h
entries-bytes s c group [] (q ∷ logical) lists h = absurd h
entries-bytes s c group (p ∷ ps) [] lists h = absurd h
entries-bytes s c group (p ∷ ps) (q ∷ logical) [] h = absurd h
entries-bytes s c group (p ∷ ps) (q ∷ logical) (units ∷ lists) h =
    let e = h.0 in
    let a = group-cons group (size_of q) (sizes_of logical) in
    let b = sum_by-cons (λ p. share_of group (size_in c p)) p ps in
    let names = e.group in
    let long = e.long in
    let one : share_of group (size_of q) ≡ share_of group (size_in c p) = sym (λ i. if bytes_eq (names i) group then long i else 0) in
    a ∙ ((λ i. one i + entries-bytes s c group ps logical lists h.1 i) ∙ sym b)

sum-filter : (f : Partition → ℕ) (t : Partition → Bool) (ps : List Partition) → sum_by f (filter t ps) ≡ sum_by (λ p. if t p then f p else 0) ps
sum-filter f t [] = refl
sum-filter f t (p ∷ ps) = by (t p) (sum-filter f t ps) ∙ sym (sum_by-cons (λ p. if t p then f p else 0) p ps)
  where
    by : (b : Bool) → sum_by f (filter t ps) ≡ sum_by (λ p. if t p then f p else 0) ps → sum_by f (cond b (p ∷ filter t ps) (filter t ps)) ≡ (if b then f p else 0) + sum_by (λ p. if t p then f p else 0) ps
    by true more = sum_by-cons f p (filter t ps) ∙ ap (λ n. f p + n) more
    by false more = omega (arith, more)

limits-same : (f g : List ℕ → ℕ) → ((name : List ℕ) → f name ≡ g name) → (groups : List Group) →
    list_all (λ x. x.limit == 0 || nat_le (f x.name) x.limit) groups ≡ list_all (λ x. x.limit == 0 || nat_le (g x.name) x.limit) groups
limits-same f g same [] = refl
limits-same f g same (x ∷ groups) =
    let one = same x.name in
    let more = limits-same f g same groups in
    λ i. (x.limit == 0 || nat_le (one i) x.limit) && more i

-- ---- the whole

-- What the store tests is what the device refuses.
pub same-flaw : (parts : List PhysicalPart) (s : SuperPart) (wipe : Bool) (dev : Dev) (g : Geometry) (new c : Content) (lists : List (List ℕ)) → IsSuperOf parts s dev → AreEntriesOf s c c.partitions dev.logical lists →
    tables_flaw (tables_in g new) wipe dev ≡ install_tests (keeps_of wipe dev) (is_other_super parts s g new) new c
same-flaw parts s wipe dev g new c lists h entries =
    let tables = tables_in g new in
    let k = keeps_of wipe dev in
    let old = kept dev wipe in
    let left = left-entries s wipe dev new c c.partitions dev.logical lists entries in
    let many : length (listed tables old) ≡ length new.partitions =
    length-map tables.partitions (λ p. record { name = p.name; attributes = p.attributes; group = p.group; bytes = kept_bytes p.name old }) ∙ length-map new.partitions (listed_in new.groups) in
    let count : length (merged tables wipe dev) ≡ merged_count k new c =
    length-append (listed tables old) (left_over tables old) ∙ (λ i. many i + entries-many s c (filter (is_left k new) c.partitions) (left_over tables old) left.0 left.1 i) in
    let lacks : list_any (λ p. not (is_group tables.groups p.group)) (left_over tables old) ≡ lacks_group k new c =
    lacks-same s c new.groups (filter (is_left k new) c.partitions) (left_over tables old) left.0 left.1
    ∙ any-filter (λ p. not (list_any (λ g. bytes_eq g.name (group_name c.groups p.group)) new.groups)) (is_left k new) c.partitions in
    let bytes : (group : List ℕ) → group_bytes group (sizes_of (merged tables wipe dev)) ≡ merged_bytes k new c group =
    λ group. ap (group_bytes group) (map-append size_of (listed tables old) (left_over tables old))
    ∙ (bytes-joined group (sizes_of (listed tables old)) (sizes_of (left_over tables old))
    ∙ (λ i. listed-bytes k new c old group (λ name. kept-is s wipe dev c name c.partitions dev.logical lists entries) new.partitions i
    + (entries-bytes s c group (filter (is_left k new) c.partitions) (left_over tables old) left.0 left.1 ∙ sum-filter (λ p. share_of group (size_in c p)) (is_left k new) c.partitions) i)) in
    let limits : groups_fit tables.groups (sizes_of (merged tables wipe dev)) ≡ limits_hold k new c =
    sym (groups_limited new.groups (sizes_of (merged tables wipe dev))) ∙ limits-same (λ name. group_bytes name (sizes_of (merged tables wipe dev))) (merged_bytes k new c) bytes new.groups in
    let other = other-same parts s dev g new h in
    λ i. first_passed ((other i, BadTable) ∷ (nat_lt 128 (count i), TooManyPartitions) ∷ (lacks i, NoGroup) ∷ (not (limits i), GroupFull) ∷ [])
