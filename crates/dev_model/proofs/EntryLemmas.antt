-- What an attempt left differs from the device that it began with by what the plan writes again.
use Rattle.std.proofs.Common.{◌≡◌, ◌⊎◌, inl, inr, ℕ, zero, suc, Bool, true, false, Option, Some, None, List, [], ◌∷◌, ◌++◌, length, map, take, refl, sym, ap, ◌∙◌, subst, slice_get}
use Rattle.std.specs.Prelude.{bytes_eq, if◌then◌else◌, not, ◌||◌, ◌&&◌, max, MatchBool, is_none, is_some}
use Rattle.std.specs.List.{list_any, AllByRecursion}
use Rattle.std.proofs.lemmas.Slice.Eq.{bytes_eq-Decides}
use Rattle.fb_frame.specs.declared.tables.Tables.{Tables}
use Rattle.dev_model.specs.declared.cells.Cell.{Cell}
use Rattle.dev_model.specs.declared.cells.Cell.TheVariants.{Byte, Skip}
use Rattle.dev_model.specs.declared.device.Dev.{Dev}
use Rattle.dev_model.specs.declared.device.Logical.{Logical}
use Rattle.dev_model.specs.declared.device.Physical.{Physical}
use Rattle.dev_model.specs.declared.device.Mode.{Mode}
use Rattle.dev_model.specs.declared.step.Step.{Step}
use Rattle.dev_model.specs.declared.step.Step.TheVariants.{Active, Resize, Put, Wipe, Table, Boot}
use Rattle.dev_model.specs.Attempts.{IsNextAtMost}
use Rattle.dev_model.specs.Options.{◌>>=◌, needs}
use Rattle.dev_model.specs.Images.{over, round_up}
use Rattle.dev_model.specs.Partitions.{is_fastboot, is_userspace, with_bytes, logical_changed, physical_changed}
use Rattle.dev_model.specs.Steps.{run, can, apply, wiped, cut_or_padded, is_boot}
use Rattle.dev_model.specs.Tables.{merged, table_refusal}
use Rattle.dev_model.specs.Validity.{IsValid, IsStep}
use Rattle.dev_model.proofs.Runs.{over_length}
use Rattle.dev_model.proofs.ValidBytes.{bytes-valid}
use Rattle.dev_model.proofs.Keeps.{keeps_valid}
use Rattle.dev_model.specs.Repeats.{is_among, is_active, is_table, resized_name, is_logical_step}
use Rattle.dev_model.specs.Resuming.{fixed_names}
use Rattle.dev_model.proofs.CellLemmas.{Covered, touch, wash, cells, written, touch-over, wash-absorbed, covered-front, IsWritten}
use Rattle.dev_model.proofs.AlignedLemmas.{Phys, Log}
use Rattle.dev_model.proofs.SimLemmas.{Base}
use Rattle.dev_model.proofs.SimTable.{Before, Behind, fixed-absent}
use Rattle.dev_model.proofs.TableAgain.{log-same}
use Rattle.dev_model.proofs.RefusalAgain.{refusal-same, merged-same}
use Rattle.dev_model.proofs.Valid.{names-kept}

pub covered-trans : (a b c : List Cell) → Covered a b → Covered b c → Covered a c
covered-trans [] b c h g = tt
covered-trans (Skip ∷ a) [] [] h g = h
covered-trans (Skip ∷ a) [] (z ∷ c) h g = covered-trans a [] c h tt
covered-trans (Skip ∷ a) (Skip ∷ b) [] h g = covered-trans a b [] h g
covered-trans (Skip ∷ a) (Skip ∷ b) (z ∷ c) h g = covered-trans a b c h g
covered-trans (Skip ∷ a) (Byte y ∷ b) [] h g = absurd g
covered-trans (Skip ∷ a) (Byte y ∷ b) (Byte z ∷ c) h g = covered-trans a b c h g
covered-trans (Skip ∷ a) (Byte y ∷ b) (Skip ∷ c) h g = absurd g
covered-trans (Byte x ∷ a) [] c h g = absurd h
covered-trans (Byte x ∷ a) (Skip ∷ b) c h g = absurd h
covered-trans (Byte x ∷ a) (Byte y ∷ b) [] h g = absurd g
covered-trans (Byte x ∷ a) (Byte y ∷ b) (Byte z ∷ c) h g = covered-trans a b c h g
covered-trans (Byte x ∷ a) (Byte y ∷ b) (Skip ∷ c) h g = absurd g

-- a change of the bytes of a name writes no more than the steps do
abbrev pub Backs : List Step → List ℕ → (List ℕ → List ℕ) → Type 0
Backs q name change = (own x : List ℕ) → (c : List Cell) × ((if bytes_eq own name then change else λ b. b) x ≡ over c x) × Covered c (written q own (length x))

pub backs-step : (q : List Step) (step : Step) (name : List ℕ) (change : List ℕ → List ℕ) → ((own x : List ℕ) → (if bytes_eq own name then change else λ b. b) x ≡ touch step own x) → IsWritten q step → Backs q name change
backs-step q step name change f w own x = (cells step own (length x), f own x ∙ touch-over step own x, w own (length x))

part-case : (b : Bool) (n : ℕ) (image w : List Cell) (x : List ℕ) → Covered (if b then image else []) w → (c : List Cell) × ((if b then over (take n image) else λ y. y) x ≡ over c x) × Covered c w
part-case true n image w x h = (take n image, refl, covered-trans (take n image) image w (covered-front n image) h)
part-case false n image w x h = ([], refl, tt)

pub backs-part : (q : List Step) (name : List ℕ) (image : List Cell) (n : ℕ) → IsWritten q (Put name image) → Backs q name (over (take n image))
backs-part q name image n w own x = part-case (bytes_eq own name) n image (written q own (length x)) x (w own (length x))

-- physical partitions
phys-back : (q : List Step) (name : List ℕ) (change : List ℕ → List ℕ) → Backs q name change → (xs ys : List Physical) → Phys q xs ys → Phys q (map (physical_changed name change) xs) ys
phys-back q name change b [] [] h = tt
phys-back q name change b [] (y ∷ ys) h = absurd h
phys-back q name change b (x ∷ xs) [] h = absurd h
phys-back q name change b (x ∷ xs) (y ∷ ys) h =
    let c = b x.name x.bytes in (
      h.0,
      ap length c.1 ∙ (over_length c.0 x.bytes ∙ h.1),
      ap (wash q x.name) c.1 ∙ (wash-absorbed q c.0 x.name x.bytes c.2 ∙ h.2),
      phys-back q name change b xs ys h.3,
    )

back-bytes : (a : Bool) (q : List Step) (own x y new : List ℕ) (c : List Cell) → new ≡ over c x → Covered c (written q own (length x)) →
    MatchBool a (MatchBool false (x ≡ y) (Unit {0})) ((length x ≡ length y) × (wash q own x ≡ wash q own y)) →
    MatchBool a (MatchBool false (new ≡ y) (Unit {0})) ((length new ≡ length y) × (wash q own new ≡ wash q own y))
back-bytes true q own x y new c e w h = tt
back-bytes false q own x y new c e w h = (ap length e ∙ (over_length c x ∙ h.0), ap (wash q own) e ∙ (wash-absorbed q c own x w ∙ h.1))

-- logical partitions
log-back : (all : List (List ℕ)) (q : List Step) (name : List ℕ) (change : List ℕ → List ℕ) → Backs q name change → (xs ys : List Logical) → Log all [] q xs ys → Log all [] q (map (logical_changed name change) xs) ys
log-back all q name change b [] [] h = tt
log-back all q name change b [] (y ∷ ys) h = absurd h
log-back all q name change b (x ∷ xs) [] h = absurd h
log-back all q name change b (x ∷ xs) (y ∷ ys) h =
    let c = b x.name x.bytes in (
      h.0,
      h.1,
      h.2,
      back-bytes (is_among all x.name) q x.name x.bytes y.bytes ((if bytes_eq x.name name then change else λ z. z) x.bytes) c.0 c.1 c.2 h.3,
      log-back all q name change b xs ys h.4,
    )

size-bytes : (a same : Bool) (n : ℕ) (q : List Step) (own x y : List ℕ) → (same ≡ true → a ≡ true) →
    MatchBool a (MatchBool false (x ≡ y) (Unit {0})) ((length x ≡ length y) × (wash q own x ≡ wash q own y)) →
    MatchBool a (MatchBool false ((if same then cut_or_padded n else λ b. b) x ≡ y) (Unit {0}))
    ((length ((if same then cut_or_padded n else λ b. b) x) ≡ length y) × (wash q own ((if same then cut_or_padded n else λ b. b) x) ≡ wash q own y))
size-bytes true same n q own x y f h = tt
size-bytes false true n q own x y f h = let e = f refl in absurd cc
size-bytes false false n q own x y f h = h

log-sized : (all : List (List ℕ)) (q : List Step) (name : List ℕ) (n : ℕ) → is_among all name ≡ true → (xs ys : List Logical) → Log all [] q xs ys → Log all [] q (map (logical_changed name (cut_or_padded n)) xs) ys
log-sized all q name n m [] [] h = tt
log-sized all q name n m [] (y ∷ ys) h = absurd h
log-sized all q name n m (x ∷ xs) [] h = absurd h
log-sized all q name n m (x ∷ xs) (y ∷ ys) h = (
  h.0,
  h.1,
  h.2,
  size-bytes (is_among all x.name) (bytes_eq x.name name) n q x.name x.bytes y.bytes (λ e. ap (is_among all) ((bytes_eq-Decides x.name name).0 e) ∙ m) h.3,
  log-sized all q name n m xs ys h.4,
)

pub phys-same : (q : List Step) (xs : List Physical) → Phys q xs xs
phys-same q [] = tt
phys-same q (x ∷ xs) = (refl, refl, refl, phys-same q xs)

-- A device on the way from s through a plan.
pub record OnWay (fixed : List (List ℕ)) (whole : List Step) (s d : Dev) : Type 0 where
  pub base : Base d s
  pub phys : Phys whole d.physical s.physical
  pub names : fixed_names d ≡ fixed
  pub modes : list_any is_boot whole ≡ false → d.mode ≡ s.mode
  pub valid : IsValid d

-- the step is one of the plan's
pub record IsIn (whole : List Step) (step : Step) : Type 0 where
  pub writes : IsWritten whole step
  pub boots : is_boot step ≡ true → list_any is_boot whole ≡ true
  pub allowed : IsStep step

module _ (fixed : List (List ℕ)) (whole : List Step) (s : Dev) where
  pub way-bytes : (name : List ℕ) (change : List ℕ → List ℕ) → Backs whole name change → (d : Dev) → IsValid (with_bytes name change d) → OnWay fixed whole s d → OnWay fixed whole s (with_bytes name change d)
  way-bytes name change b d v h = record {
    base = ap (λ (x : Dev). record x { physical = (with_bytes name change d).physical; logical = (with_bytes name change d).logical }) h.base;
    phys = phys-back whole name change b d.physical s.physical h.phys;
    names = names-kept name change d.physical ∙ h.names;
    modes = h.modes;
    valid = v;
  }

  pub way-size : (name : List ℕ) (size : ℕ) (d : Dev) → IsValid (apply (Resize name size) d) → OnWay fixed whole s d → OnWay fixed whole s (apply (Resize name size) d)
  way-size name size d v h = record {
    base = ap (λ (x : Dev). record x { logical = (apply (Resize name size) d).logical }) h.base;
    phys = h.phys;
    names = h.names;
    modes = h.modes;
    valid = v;
  }

  pub way-boot : (mode : Mode) → (list_any is_boot whole ≡ true) → (d : Dev) → IsValid (apply (Boot mode) d) → OnWay fixed whole s d → OnWay fixed whole s (apply (Boot mode) d)
  way-boot mode e d v h = record {
    base = ap (λ (x : Dev). record x { mode = mode }) h.base;
    phys = h.phys;
    names = h.names;
    modes = λ f. absurd (true-false (list_any is_boot whole) e f);
    valid = v;
  }
    where
      true-false : (b : Bool) → b ≡ true → b ≡ false → ⊥
      true-false b e f = cc

  pub way-table : (tables : Tables) (wipe : Bool) (d : Dev) → IsValid (apply (Table tables wipe) d) → OnWay fixed whole s d → OnWay fixed whole s (apply (Table tables wipe) d)
  way-table tables wipe d v h = record {
    base = ap (λ (x : Dev). record x { groups = tables.groups; logical = merged tables wipe d; table_minor = max d.table_minor tables.minor; table_flags = tables.flags }) h.base;
    phys = h.phys;
    names = h.names;
    modes = h.modes;
    valid = v;
  }

  -- a fact of devices on the way, and of their logical partitions, that a step keeps, also where an image was put in part
  abbrev pub Keeps : (Dev → Type 0) → Step → Type 0
  Keeps I step = (d t : Dev) → I d → IsNextAtMost (Some step) d t → I t

  left-suc : (I : Dev → Type 0) (step : Step) (rest : List Step) (d before t : Dev) (a : ℕ) (b : Bool) → can step d ≡ b → (needs b >>= λ _. run (take a rest) (apply step d)) ≡ Some before →
      (can step d ≡ true → run (take a rest) (apply step d) ≡ Some before → I t) → I t
  left-suc I step rest d before t a true c e f = f c e
  left-suc I step rest d before t a false c e f = absurd cc

  -- what an attempt leaves of steps that keep a fact has it
  pub left-keeps : (I : Dev → Type 0) (rest : List Step) → AllByRecursion (Keeps I) rest → (d t before : Dev) (a : ℕ) → I d → run (take a rest) d ≡ Some before → IsNextAtMost (slice_get rest a) before t → I t
  left-keeps I [] k d t before zero i e n = let same : d ≡ before = cc in subst I (same ∙ sym n) i
  left-keeps I [] k d t before (suc a) i e n = let same : d ≡ before = cc in subst I (same ∙ sym n) i
  left-keeps I (step ∷ rest) k d t before zero i e n =
      let same : d ≡ before = cc in
      let P : Dev → Type 0 = λ x. IsNextAtMost (Some step) x t in
      k.0 d t i (subst P (sym same) n)
  left-keeps I (step ∷ rest) k d t before (suc a) i e n =
      left-suc I step rest d before t a (can step d) refl e
      (λ c f. left-keeps I rest k.1 (apply step d) t before a (k.0 d (apply step d) i (inr (inl (c, refl)))) f n)

  -- Before a table, and in a plan without one.
  pub record Plainly (all : List (List ℕ)) (d : Dev) : Type 0 where
    pub way : OnWay fixed whole s d
    pub groups : d.groups ≡ s.groups
    pub minor : d.table_minor ≡ s.table_minor
    pub flags : d.table_flags ≡ s.table_flags
    pub log : Log all [] whole d.logical s.logical

  back-to : (I : Dev → Type 0) (d t : Dev) → t ≡ d → I d → I t
  back-to I d t e i = subst I (sym e) i

  module _ (all : List (List ℕ)) where
    plainly-bytes : (name : List ℕ) (change : List ℕ → List ℕ) → Backs whole name change → (d : Dev) → IsValid (with_bytes name change d) → Plainly all d → Plainly all (with_bytes name change d)
    plainly-bytes name change b d v h = record {
      way = way-bytes name change b d v h.way;
      groups = h.groups;
      minor = h.minor;
      flags = h.flags;
      log = log-back all whole name change b d.logical s.logical h.log;
    }

    pub keeps-plainly : (step : Step) → IsIn whole step → is_active step ≡ false → is_table step ≡ false → ((own : List ℕ) → is_among (resized_name step) own ≡ true → is_among all own ≡ true) → Keeps (Plainly all) step
    keeps-plainly step w n m r d t h (inl e) = back-to (Plainly all) d t e h
    keeps-plainly (Put name image) w n m r d t h (inr (inl g)) =
        back-to (Plainly all) (with_bytes name (over image) d) t g.1
        (plainly-bytes name (over image) (backs-step whole (Put name image) name (over image) (λ own x. refl) w.writes) d (keeps_valid (Put name image) d tt h.way.valid g.0) h)
    keeps-plainly (Put name image) w n m r d t h (inr (inr g)) =
        back-to (Plainly all) (with_bytes name (over (take g.1 image)) d) t g.3
        (plainly-bytes name (over (take g.1 image)) (backs-part whole name image g.1 w.writes) d (bytes-valid name (over (take g.1 image)) d (over_length (take g.1 image)) h.way.valid) h)
    keeps-plainly (Wipe name) w n m r d t h (inr (inl g)) =
        back-to (Plainly all) (with_bytes name wiped d) t g.1
        (plainly-bytes name wiped (backs-step whole (Wipe name) name wiped (λ own x. refl) w.writes) d (keeps_valid (Wipe name) d tt h.way.valid g.0) h)
    keeps-plainly (Resize name size) w n m r d t h (inr (inl g)) =
        back-to (Plainly all) (apply (Resize name size) d) t g.1
        (record {
          way = way-size name size d (keeps_valid (Resize name size) d tt h.way.valid g.0) h.way;
          groups = h.groups;
          minor = h.minor;
          flags = h.flags;
          log = log-sized all whole name (round_up size) (r name (own-there (bytes_eq name name) ((bytes_eq-Decides name name).1 refl))) d.logical s.logical h.log;
        })
      where
        own-there : (b : Bool) → b ≡ true → (b || false) ≡ true
        own-there b e = ap (λ c. c || false) e
    keeps-plainly (Boot mode) w n m r d t h (inr (inl g)) =
        back-to (Plainly all) (apply (Boot mode) d) t g.1
        (record { way = way-boot mode (w.boots refl) d (keeps_valid (Boot mode) d tt h.way.valid g.0) h.way; groups = h.groups; minor = h.minor; flags = h.flags; log = h.log })
    keeps-plainly (Active slot) w n m r d t h (inr (inl g)) = absurd cc
    keeps-plainly (Table tables wipe) w n m r d t h (inr (inl g)) = absurd cc
    keeps-plainly (Wipe name) w n m r d t h (inr (inr g)) = absurd g
    keeps-plainly (Resize name size) w n m r d t h (inr (inr g)) = absurd g
    keeps-plainly (Boot mode) w n m r d t h (inr (inr g)) = absurd g
    keeps-plainly (Active slot) w n m r d t h (inr (inr g)) = absurd g
    keeps-plainly (Table tables wipe) w n m r d t h (inr (inr g)) = absurd g

  -- In a plan with a table.
  pub record Tabled (all : List (List ℕ)) (tables : Tables) (wipe : Bool) (post : List Step) (d : Dev) : Type 0 where
    pub way : OnWay fixed whole s d
    pub stage : Before d s ⊎ Behind all tables wipe post d s

  pub record Early (d : Dev) : Type 0 where
    pub way : OnWay fixed whole s d
    pub before : Before d s

  pub record Late (all : List (List ℕ)) (tables : Tables) (wipe : Bool) (post : List Step) (d : Dev) : Type 0 where
    pub way : OnWay fixed whole s d
    pub behind : Behind all tables wipe post d s

  early-bytes : (name : List ℕ) (change : List ℕ → List ℕ) → Backs whole name change → is_among fixed name ≡ true → (d : Dev) → IsValid (with_bytes name change d) → Early d → Early (with_bytes name change d)
  early-bytes name change b m d v h = record {
    way = way-bytes name change b d v h.way;
    before = record {
      groups = h.before.groups;
      minor = h.before.minor;
      flags = h.before.flags;
      logical = fixed-absent name change d h.way.valid (ap (λ ns. is_among ns name) h.way.names ∙ m) ∙ h.before.logical;
    };
  }

  not-false : (b : Bool) → not b ≡ false → b ≡ true
  not-false true e = refl
  not-false false e = absurd cc

  pub keeps-early : (step : Step) → IsIn whole step → (is_logical_step fixed step ≡ false) × (is_active step ≡ false) → Keeps Early step
  keeps-early step w p d t h (inl e) = back-to Early d t e h
  keeps-early (Put name image) w p d t h (inr (inl g)) =
      back-to Early (with_bytes name (over image) d) t g.1
      (early-bytes name (over image) (backs-step whole (Put name image) name (over image) (λ own x. refl) w.writes) (not-false (is_among fixed name) p.0) d (keeps_valid (Put name image) d tt h.way.valid g.0) h)
  keeps-early (Put name image) w p d t h (inr (inr g)) =
      back-to Early (with_bytes name (over (take g.1 image)) d) t g.3
      (early-bytes name (over (take g.1 image)) (backs-part whole name image g.1 w.writes) (not-false (is_among fixed name) p.0) d (bytes-valid name (over (take g.1 image)) d (over_length (take g.1 image)) h.way.valid) h)
  keeps-early (Wipe name) w p d t h (inr (inl g)) =
      back-to Early (with_bytes name wiped d) t g.1
      (early-bytes name wiped (backs-step whole (Wipe name) name wiped (λ own x. refl) w.writes) (not-false (is_among fixed name) p.0) d (keeps_valid (Wipe name) d tt h.way.valid g.0) h)
  keeps-early (Boot mode) w p d t h (inr (inl g)) =
      back-to Early (apply (Boot mode) d) t g.1
      (record { way = way-boot mode (w.boots refl) d (keeps_valid (Boot mode) d tt h.way.valid g.0) h.way; before = record { groups = h.before.groups; minor = h.before.minor; flags = h.before.flags; logical = h.before.logical } })
  keeps-early (Active slot) w p d t h (inr (inl g)) = let e = p.1 in absurd cc
  keeps-early (Resize name size) w p d t h (inr (inl g)) = let e = p.0 in absurd cc
  keeps-early (Table tables wipe) w p d t h (inr (inl g)) = let e = p.0 in absurd cc
  keeps-early (Wipe name) w p d t h (inr (inr g)) = absurd g
  keeps-early (Resize name size) w p d t h (inr (inr g)) = absurd g
  keeps-early (Boot mode) w p d t h (inr (inr g)) = absurd g
  keeps-early (Active slot) w p d t h (inr (inr g)) = absurd g
  keeps-early (Table tables wipe) w p d t h (inr (inr g)) = absurd g

  module _ (all : List (List ℕ)) (tables : Tables) (wipe : Bool) (post : List Step) where
    late-bytes : (name : List ℕ) (change : List ℕ → List ℕ) → Backs whole name change → Backs post name change → (d : Dev) → IsValid (with_bytes name change d) → Late all tables wipe post d → Late all tables wipe post (with_bytes name change d)
    late-bytes name change b c d v h = record {
      way = way-bytes name change b d v h.way;
      behind = record {
        groups = h.behind.groups;
        minor = h.behind.minor;
        flags = h.behind.flags;
        refusal = h.behind.refusal;
        log = log-back all post name change c d.logical (merged tables wipe s) h.behind.log;
      };
    }

    pub keeps-late : (step : Step) → IsIn whole step → IsWritten post step → is_active step ≡ false → is_table step ≡ false → ((own : List ℕ) → is_among (resized_name step) own ≡ true → is_among all own ≡ true) → Keeps (Late all tables wipe post) step
    keeps-late step w p n m r d t h (inl e) = back-to (Late all tables wipe post) d t e h
    keeps-late (Put name image) w p n m r d t h (inr (inl g)) =
        back-to (Late all tables wipe post) (with_bytes name (over image) d) t g.1
        (late-bytes name (over image) (backs-step whole (Put name image) name (over image) (λ own x. refl) w.writes) (backs-step post (Put name image) name (over image) (λ own x. refl) p) d (keeps_valid (Put name image) d tt h.way.valid g.0) h)
    keeps-late (Put name image) w p n m r d t h (inr (inr g)) =
        back-to (Late all tables wipe post) (with_bytes name (over (take g.1 image)) d) t g.3
        (late-bytes name (over (take g.1 image)) (backs-part whole name image g.1 w.writes) (backs-part post name image g.1 p) d (bytes-valid name (over (take g.1 image)) d (over_length (take g.1 image)) h.way.valid) h)
    keeps-late (Wipe name) w p n m r d t h (inr (inl g)) =
        back-to (Late all tables wipe post) (with_bytes name wiped d) t g.1
        (late-bytes name wiped (backs-step whole (Wipe name) name wiped (λ own x. refl) w.writes) (backs-step post (Wipe name) name wiped (λ own x. refl) p) d (keeps_valid (Wipe name) d tt h.way.valid g.0) h)
    keeps-late (Resize name size) w p n m r d t h (inr (inl g)) =
        back-to (Late all tables wipe post) (apply (Resize name size) d) t g.1
        (record {
          way = way-size name size d (keeps_valid (Resize name size) d tt h.way.valid g.0) h.way;
          behind = record {
            groups = h.behind.groups;
            minor = h.behind.minor;
            flags = h.behind.flags;
            refusal = h.behind.refusal;
            log = log-sized all post name (round_up size) (r name (own-there (bytes_eq name name) ((bytes_eq-Decides name name).1 refl))) d.logical (merged tables wipe s) h.behind.log;
          };
        })
      where
        own-there : (b : Bool) → b ≡ true → (b || false) ≡ true
        own-there b e = ap (λ c. c || false) e
    keeps-late (Boot mode) w p n m r d t h (inr (inl g)) =
        back-to (Late all tables wipe post) (apply (Boot mode) d) t g.1
        (record {
          way = way-boot mode (w.boots refl) d (keeps_valid (Boot mode) d tt h.way.valid g.0) h.way;
          behind = record { groups = h.behind.groups; minor = h.behind.minor; flags = h.behind.flags; refusal = h.behind.refusal; log = h.behind.log };
        })
    keeps-late (Active slot) w p n m r d t h (inr (inl g)) = absurd cc
    keeps-late (Table other way) w p n m r d t h (inr (inl g)) = absurd cc
    keeps-late (Wipe name) w p n m r d t h (inr (inr g)) = absurd g
    keeps-late (Resize name size) w p n m r d t h (inr (inr g)) = absurd g
    keeps-late (Boot mode) w p n m r d t h (inr (inr g)) = absurd g
    keeps-late (Active slot) w p n m r d t h (inr (inr g)) = absurd g
    keeps-late (Table other way) w p n m r d t h (inr (inr g)) = absurd g

    none-of : (o : Option (List ℕ)) → is_none o ≡ true → o ≡ None
    none-of None e = refl
    none-of (Some x) e = absurd cc

    last-of : (a b c d e f : Bool) → (a && b && (c && d && e)) ≡ true → e ≡ true
    last-of true true true true true f h = refl
    last-of true true true true false f h = absurd cc
    last-of true true true false e f h = absurd cc
    last-of true true false d e f h = absurd cc
    last-of true false c d e f h = absurd cc
    last-of false b c d e f h = absurd cc

    -- the table is taken
    takes-late : IsStep (Table tables wipe) → (d : Dev) → can (Table tables wipe) d ≡ true → fixed_names s ≡ fixed → Early d → Late all tables wipe post (apply (Table tables wipe) d)
    takes-late i d c n h =
        let names : fixed_names d ≡ fixed_names s = h.way.names ∙ sym n in
        let refusal : table_refusal tables wipe d ≡ None =
        none-of (table_refusal tables wipe d) (last-of (is_fastboot d.mode) (false || not d.locked) (is_userspace d.mode) (is_some d.super_name) (is_none (table_refusal tables wipe d)) true c) in
        record {
          way = way-table tables wipe d (keeps_valid (Table tables wipe) d i h.way.valid c) h.way;
          behind = record {
            groups = refl;
            minor = ap (λ m. max m tables.minor) h.before.minor;
            flags = refl;
            refusal = sym (refusal-same tables wipe d s h.way.base names h.before.logical) ∙ refusal;
            log = subst (λ x. Log all [] post x (merged tables wipe s)) (sym (merged-same tables wipe d s h.way.base h.before.logical)) (log-same all post (merged tables wipe s));
          };
        }

    pub early-tabled : (d : Dev) → Early d → Tabled all tables wipe post d
    early-tabled d h = record { way = h.way; stage = inl h.before }

    pub late-tabled : (d : Dev) → Late all tables wipe post d → Tabled all tables wipe post d
    late-tabled d h = record { way = h.way; stage = inr h.behind }

    table-next : IsStep (Table tables wipe) → fixed_names s ≡ fixed → (d t : Dev) → Early d → IsNextAtMost (Some (Table tables wipe)) d t → Tabled all tables wipe post t
    table-next i n d t h (inl e) = early-tabled t (back-to Early d t e h)
    table-next i n d t h (inr (inl g)) = late-tabled t (back-to (Late all tables wipe post) (apply (Table tables wipe) d) t g.1 (takes-late i d g.0 n h))
    table-next i n d t h (inr (inr g)) = absurd g

    -- what an attempt leaves of a plan with a table
    pub left-tabled : IsStep (Table tables wipe) → fixed_names s ≡ fixed → (pre : List Step) → AllByRecursion (Keeps Early) pre → AllByRecursion (Keeps (Late all tables wipe post)) post → (d t before : Dev) (a : ℕ) → Early d →
        run (take a (pre ++ Table tables wipe ∷ post)) d ≡ Some before → IsNextAtMost (slice_get (pre ++ Table tables wipe ∷ post) a) before t → Tabled all tables wipe post t
    left-tabled i n [] p k d t before zero h e x =
        let same : d ≡ before = cc in
        let P : Dev → Type 0 = λ y. IsNextAtMost (Some (Table tables wipe)) y t in
        table-next i n d t h (subst P (sym same) x)
    left-tabled i n [] p k d t before (suc a) h e x =
        left-suc (Tabled all tables wipe post) (Table tables wipe) post d before t a (can (Table tables wipe) d) refl e
        (λ c f. late-tabled t (left-keeps (Late all tables wipe post) post k (apply (Table tables wipe) d) t before a (takes-late i d c n h) f x))
    left-tabled i n (step ∷ pre) p k d t before zero h e x =
        let same : d ≡ before = cc in
        let P : Dev → Type 0 = λ y. IsNextAtMost (Some step) y t in
        early-tabled t (p.0 d t h (subst P (sym same) x))
    left-tabled i n (step ∷ pre) p k d t before (suc a) h e x =
        left-suc (Tabled all tables wipe post) step (pre ++ Table tables wipe ∷ post) d before t a (can step d) refl e
        (λ c f. left-tabled i n pre p.1 k (apply step d) t before a (p.0 d (apply step d) h (inr (inl (c, refl)))) f x)
