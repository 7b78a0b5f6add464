-- Two devices that a plan without a table makes equal.
use Rattle.std.proofs.Common.{◌≡◌, ◌⊎◌, inl, inr, ℕ, Bool, true, false, Some, List, [], ◌∷◌, length, refl, sym, ap, ◌∙◌, subst, arith}
use Rattle.std.specs.Prelude.{bytes_eq, if◌then◌else◌, not, ◌||◌, ◌&&◌, ◌==◌, nat_lt, find, option_map}
use Rattle.std.specs.List.{list_any, AllByRecursion}
use Rattle.std.proofs.lemmas.Bool.Decides.{nat_tests}
use Rattle.std.proofs.lemmas.Slice.Eq.{bytes_eq-Decides}
use Rattle.dev_model.specs.declared.cells.Cell.{Cell}
use Rattle.dev_model.specs.declared.device.Dev.{Dev}
use Rattle.dev_model.specs.declared.device.Mode.{Mode}
use Rattle.dev_model.specs.declared.step.Step.{Step}
use Rattle.dev_model.specs.declared.step.Step.TheVariants.{Active, Resize, Put, Wipe, Table, Boot}
use Rattle.dev_model.specs.Options.{◌>>=◌, needs}
use Rattle.dev_model.specs.Images.{over, round_up}
use Rattle.dev_model.specs.Partitions.{is_fastboot, is_userspace, is_physical, is_logical, is_target, with_bytes, with_logical_bytes}
use Rattle.dev_model.specs.Refusals.{is_too_large}
use Rattle.dev_model.specs.Sizes.{sizes_of, resized, units_fit, groups_fit}
use Rattle.dev_model.specs.Steps.{run, can, apply, meets, is_boot, wiped, cut_or_padded}
use Rattle.dev_model.specs.Validity.{IsValid, IsStep}
use Rattle.dev_model.proofs.Valid.{both, names-kept, or-false, or-left, or-right}
use Rattle.dev_model.proofs.Keeps.{keeps_valid}
use Rattle.dev_model.specs.Repeats.{is_among, are_among, is_active, is_table, is_logical_step, boots_first, resized_names, empties_first}
use Rattle.dev_model.specs.Resuming.{fixed_names}
use Rattle.dev_model.proofs.CellLemmas.{touch}
use Rattle.dev_model.proofs.AlignedLemmas.{Phys, Log, phys-names, log-names, physical-among, logical-among, phys-step, phys-still, log-step, log-still, log-empty, log-resize, log-sizes, phys-end, log-end, phys-long, log-long, long-or}
use Rattle.dev_model.proofs.RoomAgain.{empty-fits}

-- all is the same but the mode, the partitions, and what a table brings
abbrev pub Base : Dev → Dev → Type 0
Base t s =
    t ≡ record s { mode = t.mode; physical = t.physical; groups = t.groups; logical = t.logical; table_minor = t.table_minor; table_flags = t.table_flags }

-- The modes are the same; or both devices run fastboot, and a reboot stands before all that depends on the mode.
abbrev pub Modes : List (List ℕ) → List Step → Dev → Dev → Type 0
Modes fixed q t s =
    (t.mode ≡ s.mode)
    ⊎ ((is_fastboot t.mode ≡ true) × (is_fastboot s.mode ≡ true) × (boots_first fixed q ≡ true) × (list_any is_boot q ≡ true))

pub record Sim (fixed all done : List (List ℕ)) (q : List Step) (t s : Dev) : Type 0 where
  pub base : Base t s
  pub groups : t.groups ≡ s.groups
  pub minor : t.table_minor ≡ s.table_minor
  pub flags : t.table_flags ≡ s.table_flags
  pub modes : Modes fixed q t s
  pub phys : Phys q t.physical s.physical
  pub log : Log all done q t.logical s.logical
  pub names : fixed_names s ≡ fixed
  pub valid_t : IsValid t
  pub valid_s : IsValid s

-- each partition that is resized was emptied, or is resized by these steps
abbrev pub Due : List (List ℕ) → List (List ℕ) → List Step → Type 0
Due all done q = (own : List ℕ) → is_among all own ≡ true → (is_among done own ≡ true) ⊎ (is_among (resized_names q) own ≡ true)

pub record Fine (all done : List (List ℕ)) (q : List Step) : Type 0 where
  pub steps : AllByRecursion IsStep q
  pub active : list_any is_active q ≡ false
  pub table : list_any is_table q ≡ false
  pub empties : empties_first all done q ≡ true
  pub due : Due all done q
  pub inside : (own : List ℕ) → is_among (resized_names q) own ≡ true → is_among all own ≡ true

not-not : (b : Bool) → not (not b) ≡ true → b ≡ true
not-not true e = refl
not-not false e = absurd cc

same-zero : (n : ℕ) → (n == 0) ≡ true → n ≡ 0
same-zero n e = grind (arith, nat_tests)

-- The modes behind a step.
pub modes-next : (fixed : List (List ℕ)) (step : Step) (q : List Step) (t s t' s' : Dev) → is_boot step ≡ false → t'.mode ≡ t.mode → s'.mode ≡ s.mode →
    Modes fixed (step ∷ q) t s → Modes fixed q t' s'
modes-next fixed step q t s t' s' n e f (inl g) = inl (e ∙ (g ∙ sym f))
modes-next fixed step q t s t' s' n e f (inr g) =
    let later : (is_boot step || (not (is_logical_step fixed step) && boots_first fixed q)) ≡ true = g.2 in
    let boots : (not (is_logical_step fixed step) && boots_first fixed q) ≡ true = sym (ap (λ b. b || (not (is_logical_step fixed step) && boots_first fixed q)) n) ∙ later in
    let some : list_any is_boot q ≡ true = sym (ap (λ b. b || list_any is_boot q) n) ∙ g.3 in
    inr (ap is_fastboot e ∙ g.0, ap is_fastboot f ∙ g.1, (both (not (is_logical_step fixed step)) (boots_first fixed q) boots).1, some)

pub modes-serve : (fixed : List (List ℕ)) (q : List Step) (t s : Dev) → Modes fixed q t s → is_fastboot t.mode ≡ is_fastboot s.mode
modes-serve fixed q t s (inl e) = ap is_fastboot e
modes-serve fixed q t s (inr g) = g.0 ∙ sym g.1

-- a logical step meets one mode
pub modes-logical : (fixed : List (List ℕ)) (step : Step) (q : List Step) (t s : Dev) → is_boot step ≡ false → is_logical_step fixed step ≡ true → Modes fixed (step ∷ q) t s → t.mode ≡ s.mode
modes-logical fixed step q t s n l (inl e) = e
modes-logical fixed step q t s n l (inr g) =
    let later : (is_boot step || (not (is_logical_step fixed step) && boots_first fixed q)) ≡ true = g.2 in
    let boots : (not (is_logical_step fixed step) && boots_first fixed q) ≡ true = sym (ap (λ b. b || (not (is_logical_step fixed step) && boots_first fixed q)) n) ∙ later in
    let no : not (is_logical_step fixed step) ≡ true = (both (not (is_logical_step fixed step)) (boots_first fixed q) boots).0 in
    let yes = ap not l in
    absurd cc

pub can-same : (step : Step) (t s : Dev) → is_fastboot t.mode ≡ is_fastboot s.mode → t.locked ≡ s.locked → meets step t ≡ meets step s → can step t ≡ can step s
can-same step t s f l m =
    ap (λ b. b && (is_boot step || not t.locked) && meets step t) f
    ∙ (ap (λ b. is_fastboot s.mode && (is_boot step || not b) && meets step t) l ∙ ap (λ b. is_fastboot s.mode && (is_boot step || not s.locked) && b) m)

-- A partition is a target of both devices or of neither.
target-by : (p : Bool) (u v : Bool) (l : Bool) → (p ≡ true) ⊎ (u ≡ v) → (p || (u && l)) ≡ (p || (v && l))
target-by true u v l h = refl
target-by false u v l (inl e) = absurd cc
target-by false u v l (inr e) = ap (λ b. b && l) e

pub target-same : (fixed : List (List ℕ)) (step : Step) (q : List Step) (name : List ℕ) (t s : Dev) → is_boot step ≡ false → is_logical_step fixed step ≡ not (is_among fixed name) →
    is_physical t name ≡ is_physical s name → is_logical t name ≡ is_logical s name → is_physical s name ≡ is_among fixed name → Modes fixed (step ∷ q) t s → is_target t name ≡ is_target s name
target-same fixed step q name t s n k p l f m =
    ap (λ b. b || (is_userspace t.mode && is_logical t name)) p
    ∙ (ap (λ b. is_physical s name || (is_userspace t.mode && b)) l
    ∙ target-by (is_physical s name) (is_userspace t.mode) (is_userspace s.mode) (is_logical s name) (which m))
  where
    which : Modes fixed (step ∷ q) t s → (is_physical s name ≡ true) ⊎ (is_userspace t.mode ≡ is_userspace s.mode)
    which (inl e) = inr (ap is_userspace e)
    which (inr g) =
        let later : (is_boot step || (not (is_logical_step fixed step) && boots_first fixed q)) ≡ true = g.2 in
        let boots : (not (is_logical_step fixed step) && boots_first fixed q) ≡ true = sym (ap (λ b. b || (not (is_logical_step fixed step) && boots_first fixed q)) n) ∙ later in
        let no : not (is_logical_step fixed step) ≡ true = (both (not (is_logical_step fixed step)) (boots_first fixed q) boots).0 in
        inl (f ∙ not-not (is_among fixed name) (sym (ap not k) ∙ no))

pub phys-same : (q : List Step) (t s : Dev) (name : List ℕ) → Phys q t.physical s.physical → is_physical t name ≡ is_physical s name
phys-same q t s name h = physical-among t.physical name ∙ (ap (λ ns. is_among ns name) (phys-names q t.physical s.physical h) ∙ sym (physical-among s.physical name))

log-same : (all done : List (List ℕ)) (q : List Step) (t s : Dev) (name : List ℕ) → Log all done q t.logical s.logical → is_logical t name ≡ is_logical s name
log-same all done q t s name h = logical-among t.logical name ∙ (ap (λ ns. is_among ns name) (log-names all done q t.logical s.logical h) ∙ sym (logical-among s.logical name))

among-case : (done all : List (List ℕ)) (x own : List ℕ) (b : Bool) → bytes_eq x own ≡ b → (b || is_among all own) ≡ true → is_among done x ≡ true →
    (is_among all own ≡ true → is_among done own ≡ true) → is_among done own ≡ true
among-case done all x own true f g h ih = ap (is_among done) (sym ((bytes_eq-Decides x own).0 f)) ∙ h
among-case done all x own false f g h ih = ih g

-- a partition is among all that were emptied
pub all-among : (done all : List (List ℕ)) (own : List ℕ) → are_among done all ≡ true → is_among all own ≡ true → is_among done own ≡ true
all-among done [] own e h = absurd cc
all-among done (x ∷ all) own e h =
    let parts = both (is_among done x) (are_among done all) e in
    among-case done all x own (bytes_eq x own) refl h parts.0 (all-among done all own parts.1)

-- What can be done is the same, and leaves devices that the rest makes the same.
pub record Next (fixed all done : List (List ℕ)) (step : Step) (q : List Step) (t s : Dev) : Type 0 where
  pub can_so : can step t ≡ can step s
  pub onward : can step s ≡ true → Sim fixed all done q (apply step t) (apply step s)

abbrev touched : List ℕ → (List ℕ → List ℕ) → Step → Type 0
touched name change step = (own x : List ℕ) → (if bytes_eq own name then change else λ b. b) x ≡ touch step own x

module _ (fixed all done : List (List ℕ)) (q : List Step) (t s : Dev) where
  locked-same : Base t s → t.locked ≡ s.locked
  locked-same b = ap (λ (d : Dev). d.locked) b

  -- two devices whose partitions of a name are changed alike
  changed-sim : (step : Step) (name : List ℕ) (change : List ℕ → List ℕ) → touched name change step → is_boot step ≡ false → Sim fixed all done (step ∷ q) t s →
      IsValid (with_bytes name change t) → IsValid (with_bytes name change s) → Sim fixed all done q (with_bytes name change t) (with_bytes name change s)
  changed-sim step name change f n h vt vs = record {
    base = ap (λ (d : Dev). record d { physical = (with_bytes name change t).physical; logical = (with_bytes name change t).logical }) h.base;
    groups = h.groups;
    minor = h.minor;
    flags = h.flags;
    modes = modes-next fixed step q t s (with_bytes name change t) (with_bytes name change s) n refl refl h.modes;
    phys = phys-step step q name change f t.physical s.physical h.phys;
    log = log-step all done step q name change f t.logical s.logical h.log;
    names = names-kept name change s.physical ∙ h.names;
    valid_t = vt;
    valid_s = vs;
  }

  targets : (step : Step) (name : List ℕ) → is_boot step ≡ false → is_logical_step fixed step ≡ not (is_among fixed name) → Sim fixed all done (step ∷ q) t s → is_target t name ≡ is_target s name
  targets step name n k h =
      target-same fixed step q name t s n k (phys-same (step ∷ q) t s name h.phys) (log-same all done (step ∷ q) t s name h.log)
      (physical-among s.physical name ∙ ap (λ ns. is_among ns name) h.names) h.modes

  wipe-next : (name : List ℕ) → Sim fixed all done (Wipe name ∷ q) t s → Next fixed all done (Wipe name) q t s
  wipe-next name h =
      let c = can-same (Wipe name) t s (modes-serve fixed (Wipe name ∷ q) t s h.modes) (locked-same h.base) (targets (Wipe name) name refl refl h) in
      record {
        can_so = c;
        onward = λ e. changed-sim (Wipe name) name wiped (λ own x. refl) refl h (keeps_valid (Wipe name) t tt h.valid_t (c ∙ e)) (keeps_valid (Wipe name) s tt h.valid_s e);
      }

  too-large : (name : List ℕ) (image : List Cell) → (is_among all name ≡ true → is_among done name ≡ true) → Sim fixed all done (Put name image ∷ q) t s → is_too_large image t name ≡ is_too_large image s name
  too-large name image d h =
      ap (λ n. nat_lt n (length image))
      (long-or (option_map (λ p. p.bytes) (find (λ p. bytes_eq p.name name) t.physical)) (option_map (λ p. p.bytes) (find (λ p. bytes_eq p.name name) s.physical))
      (option_map (λ p. p.bytes) (find (λ p. bytes_eq p.name name) t.logical)) (option_map (λ p. p.bytes) (find (λ p. bytes_eq p.name name) s.logical))
      (phys-long (Put name image ∷ q) name t.physical s.physical h.phys) (log-long all done (Put name image ∷ q) name d t.logical s.logical h.log))

  put-next : (name : List ℕ) (image : List Cell) → (is_among all name ≡ true → is_among done name ≡ true) → Sim fixed all done (Put name image ∷ q) t s → Next fixed all done (Put name image) q t s
  put-next name image d h =
      let m = ap (λ b. b && not (is_too_large image t name)) (targets (Put name image) name refl refl h) ∙ ap (λ b. is_target s name && not b) (too-large name image d h) in
      let c = can-same (Put name image) t s (modes-serve fixed (Put name image ∷ q) t s h.modes) (locked-same h.base) m in
      record {
        can_so = c;
        onward = λ e. changed-sim (Put name image) name (over image) (λ own x. refl) refl h (keeps_valid (Put name image) t tt h.valid_t (c ∙ e)) (keeps_valid (Put name image) s tt h.valid_s e);
      }

  boot-next : (mode : Mode) → Sim fixed all done (Boot mode ∷ q) t s → Next fixed all done (Boot mode) q t s
  boot-next mode h =
      let c = can-same (Boot mode) t s (modes-serve fixed (Boot mode ∷ q) t s h.modes) (locked-same h.base) refl in
      record {
        can_so = c;
        onward = λ e. record {
          base = ap (λ (d : Dev). record d { mode = mode }) h.base;
          groups = h.groups;
          minor = h.minor;
          flags = h.flags;
          modes = inl refl;
          phys = phys-still (Boot mode) q (λ own x. refl) t.physical s.physical h.phys;
          log = log-still all done (Boot mode) q (λ own x. refl) t.logical s.logical h.log;
          names = h.names;
          valid_t = keeps_valid (Boot mode) t tt h.valid_t (c ∙ e);
          valid_s = keeps_valid (Boot mode) s tt h.valid_s e;
        };
      }

  -- a resize, where the partition is among those that are resized
  resized-sim : (name : List ℕ) (size : ℕ) (done' : List (List ℕ)) → Sim fixed all done (Resize name size ∷ q) t s →
      Log all done' q (with_logical_bytes name (cut_or_padded (round_up size)) t).logical (with_logical_bytes name (cut_or_padded (round_up size)) s).logical →
      IsValid (apply (Resize name size) t) → IsValid (apply (Resize name size) s) → Sim fixed all done' q (apply (Resize name size) t) (apply (Resize name size) s)
  resized-sim name size done' h l vt vs = record {
    base = ap (λ (d : Dev). record d { logical = (apply (Resize name size) t).logical }) h.base;
    groups = h.groups;
    minor = h.minor;
    flags = h.flags;
    modes = modes-next fixed (Resize name size) q t s (apply (Resize name size) t) (apply (Resize name size) s) refl refl refl h.modes;
    phys = phys-still (Resize name size) q (λ own x. refl) t.physical s.physical h.phys;
    log = l;
    names = h.names;
    valid_t = vt;
    valid_s = vs;
  }

  resize-mode : (name : List ℕ) (size : ℕ) → Sim fixed all done (Resize name size ∷ q) t s → t.mode ≡ s.mode
  resize-mode name size h = modes-logical fixed (Resize name size) q t s refl refl h.modes

  logical-here : (name : List ℕ) (size : ℕ) → Sim fixed all done (Resize name size ∷ q) t s → is_logical t name ≡ is_logical s name
  logical-here name size h = log-same all done (Resize name size ∷ q) t s name h.log

  resize-parts : (name : List ℕ) (size : ℕ) → Sim fixed all done (Resize name size ∷ q) t s →
      (is_logical s name ≡ true → (units_fit t.unit t.units (resized name (round_up size) (sizes_of t.logical)) ≡ units_fit s.unit s.units (resized name (round_up size) (sizes_of s.logical)))
      × (groups_fit t.groups (resized name (round_up size) (sizes_of t.logical)) ≡ groups_fit s.groups (resized name (round_up size) (sizes_of s.logical)))) →
      meets (Resize name size) t ≡ meets (Resize name size) s
  resize-parts name size h g = four (is_userspace t.mode) (is_userspace s.mode) (is_logical t name) (is_logical s name) _ _ _ _ (ap is_userspace (resize-mode name size h)) (logical-here name size h) g where
    four : (a b c d u v w x : Bool) → a ≡ b → c ≡ d → (d ≡ true → (u ≡ v) × (w ≡ x)) → (a && c && u && w) ≡ (b && d && v && x)
    four a true c true u v w x e f k = let p = k refl in rw (e, f, p.0, p.1) refl
    four a true c false u v w x e f k = rw (e, f) refl
    four a false c d u v w x e f k = rw e refl

  empty-next : (name : List ℕ) (size : ℕ) → round_up size ≡ 0 → is_among all name ≡ true → Sim fixed all done (Resize name size ∷ q) t s →
      (can (Resize name size) t ≡ can (Resize name size) s) × (can (Resize name size) s ≡ true → Sim fixed all (name ∷ done) q (apply (Resize name size) t) (apply (Resize name size) s))
  empty-next name size z m h =
      let c = can-same (Resize name size) t s (modes-serve fixed (Resize name size ∷ q) t s h.modes) (locked-same h.base)
      (resize-parts name size h (λ e.
      let x = empty-fits t name (round_up size) h.valid_t (logical-here name size h ∙ e) z in
      let y = empty-fits s name (round_up size) h.valid_s e z in
      (x.0 ∙ sym y.0, x.1 ∙ sym y.1))) in (
        c,
        λ e. resized-sim name size (name ∷ done) h (log-empty all done name size q m z t.logical s.logical h.log)
            (keeps_valid (Resize name size) t tt h.valid_t (c ∙ e)) (keeps_valid (Resize name size) s tt h.valid_s e),
      )

  longer-next : (name : List ℕ) (size : ℕ) → ((own : List ℕ) → is_among all own ≡ true → is_among done own ≡ true) → is_among all name ≡ true → Sim fixed all done (Resize name size ∷ q) t s →
      Next fixed all done (Resize name size) q t s
  longer-next name size d m h =
      let same = log-sizes all done (Resize name size ∷ q) d t.logical s.logical h.log in
      let c = can-same (Resize name size) t s (modes-serve fixed (Resize name size ∷ q) t s h.modes) (locked-same h.base)
      (resize-parts name size h (λ e. (
        ap (λ u. units_fit u t.units (resized name (round_up size) (sizes_of t.logical))) (ap (λ (x : Dev). x.unit) h.base)
            ∙ (ap (λ u. units_fit s.unit u (resized name (round_up size) (sizes_of t.logical))) (ap (λ (x : Dev). x.units) h.base)
            ∙ ap (λ k. units_fit s.unit s.units (resized name (round_up size) k)) same),
        ap (λ g. groups_fit g (resized name (round_up size) (sizes_of t.logical))) h.groups ∙ ap (λ k. groups_fit s.groups (resized name (round_up size) k)) same,
      ))) in
      record {
        can_so = c;
        onward = λ e. resized-sim name size done h (log-resize all done name size q m d t.logical s.logical h.log)
            (keeps_valid (Resize name size) t tt h.valid_t (c ∙ e)) (keeps_valid (Resize name size) s tt h.valid_s e);
      }

pub run-by : (step : Step) (q : List Step) (t s : Dev) (b : Bool) → can step s ≡ b → can step t ≡ can step s → (can step s ≡ true → run q (apply step t) ≡ run q (apply step s)) → run (step ∷ q) t ≡ run (step ∷ q) s
run-by step q t s true e c f =
    ap (λ b. needs b >>= λ _. run q (apply step t)) (c ∙ e) ∙ (f e ∙ sym (ap (λ b. needs b >>= λ _. run q (apply step s)) e))
run-by step q t s false e c f = ap (λ b. needs b >>= λ _. run q (apply step t)) (c ∙ e) ∙ sym (ap (λ b. needs b >>= λ _. run q (apply step s)) e)

-- when no step is to come the devices are the same
end-same : (fixed all done : List (List ℕ)) (t s : Dev) → Sim fixed all done [] t s → Fine all done [] → t ≡ s
end-same fixed all done t s h f =
    let p = phys-end t.physical s.physical h.phys in
    let l = log-end all done (λ own m. pick own (f.due own m)) t.logical s.logical h.log in
    let m = mode-end h.modes in
    h.base
    ∙ (ap (λ x. record s { mode = x; physical = t.physical; groups = t.groups; logical = t.logical; table_minor = t.table_minor; table_flags = t.table_flags }) m
    ∙ (ap (λ x. record s { physical = x; groups = t.groups; logical = t.logical; table_minor = t.table_minor; table_flags = t.table_flags }) p
    ∙ (ap (λ x. record s { groups = x; logical = t.logical; table_minor = t.table_minor; table_flags = t.table_flags }) h.groups
    ∙ (ap (λ x. record s { logical = x; table_minor = t.table_minor; table_flags = t.table_flags }) l
    ∙ (ap (λ x. record s { table_minor = x; table_flags = t.table_flags }) h.minor
    ∙ ap (λ x. record s { table_flags = x }) h.flags)))))
  where
    pick : (own : List ℕ) → (is_among done own ≡ true) ⊎ (is_among [] own ≡ true) → is_among done own ≡ true
    pick own (inl e) = e
    pick own (inr e) = absurd cc

    mode-end : Modes fixed [] t s → t.mode ≡ s.mode
    mode-end (inl e) = e
    mode-end (inr g) = let x = g.3 in absurd cc

-- The conditions on the rest of a plan.
rest-due : (all done : List (List ℕ)) (step : Step) (q : List Step) → resized_names (step ∷ q) ≡ resized_names q → Due all done (step ∷ q) → Due all done q
rest-due all done step q e d own m = subst (λ ns. (is_among done own ≡ true) ⊎ (is_among ns own ≡ true)) e (d own m)

rest-inside : (all : List (List ℕ)) (step : Step) (q : List Step) → resized_names (step ∷ q) ≡ resized_names q → ((own : List ℕ) → is_among (resized_names (step ∷ q)) own ≡ true → is_among all own ≡ true) →
    (own : List ℕ) → is_among (resized_names q) own ≡ true → is_among all own ≡ true
rest-inside all step q e f own m = f own (ap (λ ns. is_among ns own) e ∙ m)

fine-rest : (all done : List (List ℕ)) (step : Step) (q : List Step) → resized_names (step ∷ q) ≡ resized_names q → empties_first all done q ≡ true → Fine all done (step ∷ q) → Fine all done q
fine-rest all done step q e g f = record {
  steps = f.steps.1;
  active = (or-false (is_active step) (list_any is_active q) f.active).1;
  table = (or-false (is_table step) (list_any is_table q) f.table).1;
  empties = g;
  due = rest-due all done step q e f.due;
  inside = rest-inside all step q e f.inside;
}

own-among : (all : List (List ℕ)) (name : List ℕ) (size : ℕ) (q : List Step) → ((own : List ℕ) → is_among (resized_names (Resize name size ∷ q)) own ≡ true → is_among all own ≡ true) → is_among all name ≡ true
own-among all name size q f = f name (or-left (bytes_eq name name) (is_among (resized_names q) name) ((bytes_eq-Decides name name).1 refl))

due-case : (all done : List (List ℕ)) (name own : List ℕ) (q : List Step) (b : Bool) → bytes_eq name own ≡ b → (b ≡ true → is_among done own ≡ true) →
    (is_among done own ≡ true) ⊎ ((b || is_among (resized_names q) own) ≡ true) → (is_among done own ≡ true) ⊎ (is_among (resized_names q) own ≡ true)
due-case all done name own q b e f (inl m) = inl m
due-case all done name own q true e f (inr m) = inl (f refl)
due-case all done name own q false e f (inr m) = inr m

later-inside : (all : List (List ℕ)) (name : List ℕ) (size : ℕ) (q : List Step) → ((own : List ℕ) → is_among (resized_names (Resize name size ∷ q)) own ≡ true → is_among all own ≡ true) →
    (own : List ℕ) → is_among (resized_names q) own ≡ true → is_among all own ≡ true
later-inside all name size q f own m = f own (or-right (bytes_eq name own) (is_among (resized_names q) own) m)

-- a partition that is emptied is among those that were
fine-empty : (all done : List (List ℕ)) (name : List ℕ) (size : ℕ) (q : List Step) → empties_first all (name ∷ done) q ≡ true → Fine all done (Resize name size ∷ q) → Fine all (name ∷ done) q
fine-empty all done name size q g f = record {
  steps = f.steps.1;
  active = f.active;
  table = f.table;
  empties = g;
  due = λ own m. due-case all (name ∷ done) name own q (bytes_eq name own) refl (λ e. or-left (bytes_eq name own) (is_among done own) e) (more own (f.due own m));
  inside = later-inside all name size q f.inside;
}
  where
    more : (own : List ℕ) → (is_among done own ≡ true) ⊎ (is_among (resized_names (Resize name size ∷ q)) own ≡ true) → (is_among (name ∷ done) own ≡ true) ⊎ (is_among (resized_names (Resize name size ∷ q)) own ≡ true)
    more own (inl e) = inl (or-right (bytes_eq name own) (is_among done own) e)
    more own (inr e) = inr e

fine-longer : (all done : List (List ℕ)) (name : List ℕ) (size : ℕ) (q : List Step) → ((own : List ℕ) → is_among all own ≡ true → is_among done own ≡ true) → empties_first all done q ≡ true →
    Fine all done (Resize name size ∷ q) → Fine all done q
fine-longer all done name size q d g f = record {
  steps = f.steps.1;
  active = f.active;
  table = f.table;
  empties = g;
  due = λ own m. inl (d own m);
  inside = later-inside all name size q f.inside;
}

round-zero : (n : ℕ) → n ≡ 0 → round_up n ≡ 0
round-zero n e = ap round_up e

put-done : (all done : List (List ℕ)) (name : List ℕ) (b : Bool) → is_among all name ≡ b → (not b || are_among done all) ≡ true → is_among all name ≡ true → is_among done name ≡ true
put-done all done name true e f m = all-among done all name f m
put-done all done name false e f m = absurd cc

resize-run : (fixed all done : List (List ℕ)) (name : List ℕ) (size : ℕ) (q : List Step) (t s : Dev) (b : Bool) → (size == 0) ≡ b →
    ((b || are_among done all) && empties_first all (if b then name ∷ done else done) q) ≡ true → Sim fixed all done (Resize name size ∷ q) t s → Fine all done (Resize name size ∷ q) →
    ((done' : List (List ℕ)) (x y : Dev) → Sim fixed all done' q x y → Fine all done' q → run q x ≡ run q y) → run (Resize name size ∷ q) t ≡ run (Resize name size ∷ q) s
resize-run fixed all done name size q t s true e g h f ih =
    let z = round-zero size (same-zero size e) in
    let m = own-among all name size q f.inside in
    let n = empty-next fixed all done q t s name size z m h in
    run-by (Resize name size) q t s (can (Resize name size) s) refl n.0
    (λ c. ih (name ∷ done) (apply (Resize name size) t) (apply (Resize name size) s) (n.1 c) (fine-empty all done name size q g f))
resize-run fixed all done name size q t s false e g h f ih =
    let parts = both (are_among done all) (empties_first all done q) g in
    let d : (own : List ℕ) → is_among all own ≡ true → is_among done own ≡ true = λ own m. all-among done all own parts.0 m in
    let n = longer-next fixed all done q t s name size d (own-among all name size q f.inside) h in
    run-by (Resize name size) q t s (can (Resize name size) s) refl n.can_so
    (λ c. ih done (apply (Resize name size) t) (apply (Resize name size) s) (n.onward c) (fine-longer all done name size q d parts.1 f))

-- Two devices that the steps make equal are led by them to the same device.
pub sim-run : (fixed all done : List (List ℕ)) (q : List Step) (t s : Dev) → Sim fixed all done q t s → Fine all done q → run q t ≡ run q s
sim-run fixed all done [] t s h f = ap Some (end-same fixed all done t s h f)
sim-run fixed all done (Put name image ∷ q) t s h f =
    let parts = both (not (is_among all name) || are_among done all) (empties_first all done q) f.empties in
    let n = put-next fixed all done q t s name image (put-done all done name (is_among all name) refl parts.0) h in
    run-by (Put name image) q t s (can (Put name image) s) refl n.can_so
    (λ c. sim-run fixed all done q (apply (Put name image) t) (apply (Put name image) s) (n.onward c) (fine-rest all done (Put name image) q refl parts.1 f))
sim-run fixed all done (Wipe name ∷ q) t s h f =
    let n = wipe-next fixed all done q t s name h in
    run-by (Wipe name) q t s (can (Wipe name) s) refl n.can_so
    (λ c. sim-run fixed all done q (apply (Wipe name) t) (apply (Wipe name) s) (n.onward c) (fine-rest all done (Wipe name) q refl f.empties f))
sim-run fixed all done (Boot mode ∷ q) t s h f =
    let n = boot-next fixed all done q t s mode h in
    run-by (Boot mode) q t s (can (Boot mode) s) refl n.can_so
    (λ c. sim-run fixed all done q (apply (Boot mode) t) (apply (Boot mode) s) (n.onward c) (fine-rest all done (Boot mode) q refl f.empties f))
sim-run fixed all done (Resize name size ∷ q) t s h f =
    resize-run fixed all done name size q t s (size == 0) refl f.empties h f (λ done' x y g k. sim-run fixed all done' q x y g k)
sim-run fixed all done (Active slot ∷ q) t s h f = let e = f.active in absurd cc
sim-run fixed all done (Table tables wipe ∷ q) t s h f = let e = f.table in absurd cc
