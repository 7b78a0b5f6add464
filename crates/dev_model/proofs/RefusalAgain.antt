-- Whether a table is refused, on devices that stand side by side.
use Rattle.std.proofs.Common.{◌≡◌, ℕ, Bool, true, false, Option, None, List, [], ◌∷◌, ◌++◌, length, map, refl, sym, ap, ◌∙◌, subst}
use Rattle.std.specs.Prelude.{bytes_eq, not, ◌||◌, ◌&&◌, ◌==◌, ◌%◌, nat_lt, filter, option_to_list, codes}
use Rattle.std.specs.List.{list_any}
use Rattle.fb_frame.specs.declared.tables.Tables.{Tables}
use Rattle.fb_frame.specs.declared.tables.TableGeometry.{TableGeometry}
use Rattle.fb_frame.specs.declared.tables.TablePartition.{TablePartition}
use Rattle.dev_model.specs.declared.device.Dev.{Dev}
use Rattle.dev_model.specs.declared.device.Logical.{Logical}
use Rattle.dev_model.specs.declared.step.Step.{Step}
use Rattle.dev_model.specs.Options.{first_passed}
use Rattle.dev_model.specs.Partitions.{is_physical, is_super}
use Rattle.dev_model.specs.Sizes.{sizes_of, groups_fit}
use Rattle.dev_model.specs.Tables.{is_group, kept, listed, left_over, merged, is_bad_table, table_refusal}
use Rattle.fb_frame.specs.Distinct.{are_distinct}
use Rattle.dev_model.specs.Validity.{IsValid}
use Rattle.dev_model.specs.Repeats.{is_among}
use Rattle.dev_model.specs.Resuming.{fixed_names}
use Rattle.dev_model.proofs.AlignedLemmas.{Log, physical-among}
use Rattle.dev_model.proofs.RoomAgain.{groups-less}
use Rattle.dev_model.proofs.SimLemmas.{Base}
use Rattle.dev_model.proofs.TableAgain.{keeps, merge-again, log-length}

any-same : (f g : TablePartition → Bool) → ((p : TablePartition) → f p ≡ g p) → (ps : List TablePartition) → list_any f ps ≡ list_any g ps
any-same f g e [] = refl
any-same f g e (p ∷ ps) = ap (λ b. b || list_any f ps) (e p) ∙ ap (λ b. g p || b) (any-same f g e ps)

-- the test of a table by what it looks at
abbrev bad_by : Tables → TableGeometry → Option (List ℕ) → ℕ → ℕ → List (List ℕ) → Bool
bad_by tables geometry super size unit fixed =
    not (tables.geometry.max_size == geometry.max_size && tables.geometry.slots == geometry.slots)
    || nat_lt 64 (length tables.groups)
    || list_any (λ p. is_among fixed p.name || list_any (λ n. bytes_eq n p.name) (option_to_list super)) tables.partitions
    || not (list_any (λ n. bytes_eq n tables.device.name) (option_to_list super)) || not (tables.device.size == size)
    || tables.device.alignment == 0 || not (unit % tables.device.alignment == 0)
    || not (tables.device.offset == 0)

bad-is : (tables : Tables) (dev : Dev) → is_bad_table tables dev ≡ bad_by tables dev.geometry dev.super_name dev.super_size dev.unit (fixed_names dev)
bad-is tables dev =
    ap
    (λ b. not (tables.geometry.max_size == dev.geometry.max_size && tables.geometry.slots == dev.geometry.slots)
    || nat_lt 64 (length tables.groups)
    || b
    || not (is_super dev tables.device.name) || not (tables.device.size == dev.super_size)
    || tables.device.alignment == 0 || not (dev.unit % tables.device.alignment == 0)
    || not (tables.device.offset == 0))
    (any-same (λ p. is_physical dev p.name || is_super dev p.name) (λ p. is_among (fixed_names dev) p.name || is_super dev p.name)
    (λ p. ap (λ b. b || is_super dev p.name) (physical-among dev.physical p.name)) tables.partitions)

pub bad-same : (tables : Tables) (x y : Dev) → Base x y → fixed_names x ≡ fixed_names y → is_bad_table tables x ≡ is_bad_table tables y
bad-same tables x y b n =
    bad-is tables x
    ∙ (ap (λ (d : Dev). bad_by tables d.geometry d.super_name d.super_size d.unit (fixed_names x)) b
    ∙ (ap (λ ns. bad_by tables y.geometry y.super_name y.super_size y.unit ns) n ∙ sym (bad-is tables y)))

abbrev pub refusal_by : Bool → Tables → List Logical → List Logical → Option (List ℕ)
refusal_by bad tables all left =
    first_passed
    ((bad, codes "bad table") ∷ (nat_lt 128 (length all), codes "too many partitions") ∷ (list_any (λ p. not (is_group tables.groups p.group)) left, codes "no such group")
    ∷ (not (groups_fit tables.groups (sizes_of all)), codes "group full") ∷ [])

pub kept-same : (wipe : Bool) (x y : Dev) → Base x y → kept x wipe ≡ filter (λ p. keeps y.slots y.active wipe p.name) x.logical
kept-same wipe x y b = ap (λ (d : Dev). filter (λ p. keeps d.slots d.active wipe p.name) x.logical) b

pub kept-both : (wipe : Bool) (x y : Dev) → Base x y → x.logical ≡ y.logical → kept x wipe ≡ kept y wipe
kept-both wipe x y b l = kept-same wipe x y b ∙ ap (filter (λ p. keeps y.slots y.active wipe p.name)) l

pub merged-same : (tables : Tables) (wipe : Bool) (x y : Dev) → Base x y → x.logical ≡ y.logical → merged tables wipe x ≡ merged tables wipe y
merged-same tables wipe x y b l = ap (λ k. listed tables k ++ left_over tables k) (kept-both wipe x y b l)

pub refusal-same : (tables : Tables) (wipe : Bool) (x y : Dev) → Base x y → fixed_names x ≡ fixed_names y → x.logical ≡ y.logical → table_refusal tables wipe x ≡ table_refusal tables wipe y
refusal-same tables wipe x y b n l =
    ap (λ t. refusal_by t tables (merged tables wipe x) (left_over tables (kept x wipe))) (bad-same tables x y b n)
    ∙ ap (λ k. refusal_by (is_bad_table tables y) tables (listed tables k ++ left_over tables k) (left_over tables k)) (kept-both wipe x y b l)

four-false : (a b c d : Bool) (x y v w : List ℕ) → first_passed ((a, x) ∷ (b, y) ∷ (c, v) ∷ (d, w) ∷ []) ≡ None → (a ≡ false) × (b ≡ false) × (c ≡ false) × (d ≡ false)
four-false true b c d x y v w e = absurd cc
four-false false true c d x y v w e = absurd cc
four-false false false true d x y v w e = absurd cc
four-false false false false true x y v w e = absurd cc
four-false false false false false x y v w e = (refl, refl, refl, refl)

four-none : (a b c d : Bool) (x y v w : List ℕ) → a ≡ false → b ≡ false → c ≡ false → d ≡ false → first_passed ((a, x) ∷ (b, y) ∷ (c, v) ∷ (d, w) ∷ []) ≡ None
four-none false false false false x y v w e f g h = refl
four-none true b c d x y v w e f g h = absurd cc
four-none false true c d x y v w e f g h = absurd cc
four-none false false true d x y v w e f g h = absurd cc
four-none false false false true x y v w e f g h = absurd cc

log-any : (all done : List (List ℕ)) (q : List Step) (f : List ℕ → Bool) (xs ys : List Logical) → Log all done q xs ys → list_any (λ p. f p.group) xs ≡ list_any (λ p. f p.group) ys
log-any all done q f [] [] h = refl
log-any all done q f [] (y ∷ ys) h = absurd h
log-any all done q f (x ∷ xs) [] h = absurd h
log-any all done q f (x ∷ xs) (y ∷ ys) h = ap (λ g. f g || list_any (λ p. f p.group) xs) h.2 ∙ ap (λ b. f y.group || b) (log-any all done q f xs ys h.4)

-- A table that was taken is taken again over what it left.
pub refusal-again : (all : List (List ℕ)) (q : List Step) (tables : Tables) (wipe : Bool) (t s : Dev) → are_distinct (map (λ p. p.name) tables.partitions) ≡ true → Base t s → fixed_names t ≡ fixed_names s →
    IsValid t → t.groups ≡ tables.groups → table_refusal tables wipe s ≡ None → Log all [] q t.logical (merged tables wipe s) →
    (table_refusal tables wipe t ≡ None) × Log all [] q (merged tables wipe t) (merged tables wipe s)
refusal-again all q tables wipe t s d b n v g r h =
    let k = keeps s.slots s.active wipe in
    let a = merge-again all q tables k t.logical s.logical d h in
    let same = kept-same wipe t s b in
    let four = four-false (is_bad_table tables s) (nat_lt 128 (length (merged tables wipe s))) (list_any (λ p. not (is_group tables.groups p.group)) (left_over tables (kept s wipe)))
    (not (groups_fit tables.groups (sizes_of (merged tables wipe s)))) (codes "bad table") (codes "too many partitions") (codes "no such group") (codes "group full") r in
    let z = filter (λ p. k p.name) t.logical in
    let fits : groups_fit tables.groups (sizes_of (listed tables z ++ left_over tables z)) ≡ true =
    groups-less tables.groups (sizes_of (listed tables z ++ left_over tables z)) (sizes_of t.logical) a.less (subst (λ x. groups_fit x (sizes_of t.logical) ≡ true) g v.groups_fit) in
    let none : refusal_by (is_bad_table tables t) tables (listed tables z ++ left_over tables z) (left_over tables z) ≡ None =
    four-none (is_bad_table tables t) (nat_lt 128 (length (listed tables z ++ left_over tables z))) (list_any (λ p. not (is_group tables.groups p.group)) (left_over tables z))
    (not (groups_fit tables.groups (sizes_of (listed tables z ++ left_over tables z)))) (codes "bad table") (codes "too many partitions") (codes "no such group") (codes "group full")
    (bad-same tables t s b n ∙ four.0)
    (ap (nat_lt 128) (log-length all [] q (listed tables z ++ left_over tables z) (merged tables wipe s) a.log) ∙ four.1)
    (log-any all [] q (λ x. not (is_group tables.groups x)) (left_over tables z) (left_over tables (kept s wipe)) a.left ∙ four.2)
    (ap not fits) in (
      ap (λ x. refusal_by (is_bad_table tables t) tables (listed tables x ++ left_over tables x) (left_over tables x)) same ∙ none,
      subst (λ x. Log all [] q (listed tables x ++ left_over tables x) (merged tables wipe s)) (sym same) a.log,
    )
