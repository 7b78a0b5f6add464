-- Two devices that a plan with a table makes equal.
use Rattle.std.proofs.Common.{◌≡◌, ◌⊎◌, inl, inr, ℕ, Bool, true, false, Option, Some, None, List, [], ◌∷◌, ◌++◌, length, map, refl, sym, ap, ◌∙◌, subst, arith}
use Rattle.std.specs.Prelude.{bytes_eq, if◌then◌else◌, not, ◌||◌, ◌&&◌, nat_lt, max, find, option_map, unwrap_or, option_to_list, is_some, is_none}
use Rattle.std.specs.Option.{option_or}
use Rattle.std.specs.List.{list_any, list_all, AllByRecursion}
use Rattle.std.proofs.lemmas.Slice.Eq.{bytes_eq-Decides}
use Rattle.fb_frame.specs.NameText.{is_name}
use Rattle.fb_frame.specs.declared.tables.Tables.{Tables}
use Rattle.dev_model.specs.declared.device.Dev.{Dev}
use Rattle.dev_model.specs.declared.device.Logical.{Logical}
use Rattle.dev_model.specs.declared.device.Physical.{Physical}
use Rattle.dev_model.specs.declared.step.Step.{Step}
use Rattle.dev_model.specs.declared.step.Step.TheVariants.{Active, Resize, Put, Wipe, Table, Boot}
use Rattle.dev_model.specs.Images.{over}
use Rattle.dev_model.specs.Partitions.{is_userspace, is_physical, is_target, with_bytes, logical_changed}
use Rattle.dev_model.specs.Refusals.{is_too_large}
use Rattle.dev_model.specs.Steps.{run, can, apply, wiped, is_boot}
use Rattle.dev_model.specs.Tables.{merged, with_tables, table_refusal}
use Rattle.fb_frame.specs.Distinct.{are_distinct}
use Rattle.dev_model.specs.Validity.{IsValid, IsStep, all_names}
use Rattle.dev_model.proofs.Names.{Mem, any-mem, distinct-left, distinct-apart}
use Rattle.dev_model.proofs.Valid.{both, names-kept}
use Rattle.dev_model.proofs.Keeps.{keeps_valid}
use Rattle.dev_model.specs.Repeats.{is_among, is_active, is_logical_step}
use Rattle.dev_model.specs.Resuming.{fixed_names}
use Rattle.dev_model.proofs.CellLemmas.{touch}
use Rattle.dev_model.proofs.AlignedLemmas.{Phys, Log, AsLong, phys-names, physical-among, phys-step, phys-still, phys-long}
use Rattle.dev_model.proofs.SimLemmas.{Base, Modes, Fine, sim-run, can-same, modes-next, modes-serve, modes-logical, phys-same, run-by}
use Rattle.dev_model.proofs.TableAgain.{log-same}
use Rattle.dev_model.proofs.RefusalAgain.{refusal-same, refusal-again, merged-same}

-- the table wasn't taken yet
pub record Before (t s : Dev) : Type 0 where
  pub groups : t.groups ≡ s.groups
  pub minor : t.table_minor ≡ s.table_minor
  pub flags : t.table_flags ≡ s.table_flags
  pub logical : t.logical ≡ s.logical

-- it was, and only what later steps write was changed since
pub record Behind (all : List (List ℕ)) (tables : Tables) (wipe : Bool) (post : List Step) (t s : Dev) : Type 0 where
  pub groups : t.groups ≡ tables.groups
  pub minor : t.table_minor ≡ max s.table_minor tables.minor
  pub flags : t.table_flags ≡ tables.flags
  pub refusal : table_refusal tables wipe s ≡ None
  pub log : Log all [] post t.logical (merged tables wipe s)

pub record SimTable (fixed all : List (List ℕ)) (tables : Tables) (wipe : Bool) (post q : List Step) (t s : Dev) : Type 0 where
  pub base : Base t s
  pub modes : Modes fixed q t s
  pub phys : Phys q t.physical s.physical
  pub names : fixed_names s ≡ fixed
  pub valid_t : IsValid t
  pub valid_s : IsValid s
  pub stage : Before t s ⊎ Behind all tables wipe post t s

-- a partition that isn't there isn't changed
absent-case : (name : List ℕ) (change : List ℕ → List ℕ) (x : Logical) (xs ys : List Logical) (b : Bool) → bytes_eq x.name name ≡ b → (b ≡ true → ⊥) → xs ≡ ys →
    record x { bytes = (if b then change else λ c. c) x.bytes } ∷ xs ≡ x ∷ ys
absent-case name change x xs ys true e n h = absurd (n refl)
absent-case name change x xs ys false e n h = ap (λ r. x ∷ r) h

pub absent : (name : List ℕ) (change : List ℕ → List ℕ) (l : List Logical) → (Mem name (map (λ p. p.name) l) → ⊥) → map (logical_changed name change) l ≡ l
absent name change [] n = refl
absent name change (x ∷ l) n =
    absent-case name change x (map (logical_changed name change) l) l (bytes_eq x.name name) refl (λ e. n (inl ((bytes_eq-Decides x.name name).0 e))) (absent name change l (λ m. n (inr m)))

-- a physical partition is no logical one
pub fixed-absent : (name : List ℕ) (change : List ℕ → List ℕ) (dev : Dev) → IsValid dev → is_among (fixed_names dev) name ≡ true → map (logical_changed name change) dev.logical ≡ dev.logical
fixed-absent name change dev v e =
    let distinct = (both (list_all is_name (all_names dev)) (are_distinct (all_names dev)) v.names).1 in
    let apart = distinct-apart (fixed_names dev) (map (λ p. p.name) dev.logical) (distinct-left (fixed_names dev ++ map (λ p. p.name) dev.logical) (option_to_list dev.super_name) distinct) in
    absent name change dev.logical (λ m. apart name (any-mem name (fixed_names dev) e) m)

found-long : (o p c d : Option (List ℕ)) → AsLong o p → (o ≡ None → ⊥) → length (unwrap_or (option_or o c) []) ≡ length (unwrap_or (option_or p d) [])
found-long None None c d h n = absurd (n refl)
found-long None (Some y) c d h n = absurd h
found-long (Some x) None c d h n = absurd h
found-long (Some x) (Some y) c d h n = h

find-case : (name : List ℕ) (x : Physical) (xs : List Physical) (b : Bool) → (b || list_any (λ p. bytes_eq p.name name) xs) ≡ true → (list_any (λ p. bytes_eq p.name name) xs ≡ true → option_map (λ p. p.bytes) (find (λ p. bytes_eq p.name name) xs) ≡ None → ⊥) →
    option_map (λ p. p.bytes) (if b then Some x else find (λ p. bytes_eq p.name name) xs) ≡ None → ⊥
find-case name x xs true e ih n = absurd cc
find-case name x xs false e ih n = ih e n

find-some : (name : List ℕ) (xs : List Physical) → list_any (λ p. bytes_eq p.name name) xs ≡ true → option_map (λ p. p.bytes) (find (λ p. bytes_eq p.name name) xs) ≡ None → ⊥
find-some name [] e n = absurd cc
find-some name (x ∷ xs) e n = find-case name x xs (bytes_eq x.name name) e (find-some name xs) n

module _ (fixed all : List (List ℕ)) (tables : Tables) (wipe : Bool) (post : List Step) (distinct : are_distinct (map (λ p. p.name) tables.partitions) ≡ true) (step_table : IsStep (Table tables wipe)) where
  module _ (q : List Step) (t s : Dev) where
    names-both : (step : Step) → SimTable fixed all tables wipe post (step ∷ q) t s → fixed_names t ≡ fixed_names s
    names-both step h = phys-names (step ∷ q) t.physical s.physical h.phys

    physical-here : (step : Step) (name : List ℕ) → is_among fixed name ≡ true → SimTable fixed all tables wipe post (step ∷ q) t s → (is_physical t name ≡ true) × (is_physical s name ≡ true)
    physical-here step name e h =
        let there : is_physical s name ≡ true = physical-among s.physical name ∙ (ap (λ ns. is_among ns name) h.names ∙ e) in
        (phys-same (step ∷ q) t s name h.phys ∙ there, there)

    target-here : (name : List ℕ) (dev : Dev) → is_physical dev name ≡ true → is_target dev name ≡ true
    target-here name dev e = ap (λ b. b || (is_userspace dev.mode && list_any (λ p. bytes_eq p.name name) dev.logical)) e

    -- a step on a physical partition
    fixed-sim : (step : Step) (name : List ℕ) (change : List ℕ → List ℕ) → ((own x : List ℕ) → (if bytes_eq own name then change else λ b. b) x ≡ touch step own x) → is_boot step ≡ false → is_among fixed name ≡ true →
        SimTable fixed all tables wipe post (step ∷ q) t s → IsValid (with_bytes name change t) → IsValid (with_bytes name change s) → SimTable fixed all tables wipe post q (with_bytes name change t) (with_bytes name change s)
    fixed-sim step name change f n m h vt vs =
        let lt = fixed-absent name change t h.valid_t (ap (λ ns. is_among ns name) (names-both step h ∙ h.names) ∙ m) in
        let ls = fixed-absent name change s h.valid_s (ap (λ ns. is_among ns name) h.names ∙ m) in
        record {
          base = ap (λ (d : Dev). record d { physical = (with_bytes name change t).physical; logical = (with_bytes name change t).logical }) h.base;
          modes = modes-next fixed step q t s (with_bytes name change t) (with_bytes name change s) n refl refl h.modes;
          phys = phys-step step q name change f t.physical s.physical h.phys;
          names = names-kept name change s.physical ∙ h.names;
          valid_t = vt;
          valid_s = vs;
          stage = moved lt ls h.stage;
        }
      where
        moved : map (logical_changed name change) t.logical ≡ t.logical → map (logical_changed name change) s.logical ≡ s.logical → Before t s ⊎ Behind all tables wipe post t s →
            Before (with_bytes name change t) (with_bytes name change s) ⊎ Behind all tables wipe post (with_bytes name change t) (with_bytes name change s)
        moved lt ls (inl b) = inl (record { groups = b.groups; minor = b.minor; flags = b.flags; logical = lt ∙ (b.logical ∙ sym ls) })
        moved lt ls (inr b) =
            let new = with_bytes name change s in
            let base : Base new s = refl in
            inr (record {
              groups = b.groups;
              minor = b.minor;
              flags = b.flags;
              refusal = refusal-same tables wipe new s base (names-kept name change s.physical) ls ∙ b.refusal;
              log = subst (λ x. Log all [] post x (merged tables wipe new)) (sym lt) (subst (λ x. Log all [] post t.logical x) (sym (merged-same tables wipe new s base ls)) b.log);
            })

    locked-both : SimTable fixed all tables wipe post q t s → t.locked ≡ s.locked
    locked-both h = ap (λ (d : Dev). d.locked) h.base

    -- whether the table is refused
    refusals : SimTable fixed all tables wipe post (Table tables wipe ∷ q) t s → table_refusal tables wipe t ≡ table_refusal tables wipe s
    refusals h = by h.stage where
      by : Before t s ⊎ Behind all tables wipe post t s → table_refusal tables wipe t ≡ table_refusal tables wipe s
      by (inl b) = refusal-same tables wipe t s h.base (names-both (Table tables wipe) h) b.logical
      by (inr b) = (refusal-again all post tables wipe t s distinct h.base (names-both (Table tables wipe) h) h.valid_t b.groups b.refusal b.log).0 ∙ sym b.refusal

    merges : SimTable fixed all tables wipe post (Table tables wipe ∷ q) t s → Log all [] post (merged tables wipe t) (merged tables wipe s)
    merges h = by h.stage where
      by : Before t s ⊎ Behind all tables wipe post t s → Log all [] post (merged tables wipe t) (merged tables wipe s)
      by (inl b) = subst (λ x. Log all [] post x (merged tables wipe s)) (sym (merged-same tables wipe t s h.base b.logical)) (log-same all post (merged tables wipe s))
      by (inr b) = (refusal-again all post tables wipe t s distinct h.base (names-both (Table tables wipe) h) h.valid_t b.groups b.refusal b.log).1

    minors : SimTable fixed all tables wipe post (Table tables wipe ∷ q) t s → max t.table_minor tables.minor ≡ max s.table_minor tables.minor
    minors h = by h.stage where
      by : Before t s ⊎ Behind all tables wipe post t s → max t.table_minor tables.minor ≡ max s.table_minor tables.minor
      by (inl b) = ap (λ n. max n tables.minor) b.minor
      by (inr b) = ap (λ n. max n tables.minor) b.minor ∙ (let e : max (max s.table_minor tables.minor) tables.minor ≡ max s.table_minor tables.minor = omega arith in e)

  -- Two such devices are led to the same device.
  table-run : (t s : Dev) → Fine all [] post → SimTable fixed all tables wipe post (Table tables wipe ∷ post) t s → run (Table tables wipe ∷ post) t ≡ run (Table tables wipe ∷ post) s
  table-run t s f h =
      let mode = modes-logical fixed (Table tables wipe) post t s refl refl h.modes in
      let m = ap (λ x. is_userspace x && is_some t.super_name && is_none (table_refusal tables wipe t)) mode
      ∙ (ap (λ (d : Dev). is_userspace s.mode && is_some d.super_name && is_none (table_refusal tables wipe t)) h.base
      ∙ ap (λ r. is_userspace s.mode && is_some s.super_name && is_none r) (refusals post t s h)) in
      let c = can-same (Table tables wipe) t s (modes-serve fixed (Table tables wipe ∷ post) t s h.modes) (ap (λ (d : Dev). d.locked) h.base) m in
      run-by (Table tables wipe) post t s (can (Table tables wipe) s) refl c
      (λ e. sim-run fixed all [] post (with_tables tables wipe t) (with_tables tables wipe s)
      (record {
        base = ap (λ (d : Dev). record d { groups = tables.groups; logical = merged tables wipe t; table_minor = max t.table_minor tables.minor; table_flags = tables.flags }) h.base;
        groups = refl;
        minor = minors post t s h;
        flags = refl;
        modes = inl mode;
        phys = phys-still (Table tables wipe) post (λ own x. refl) t.physical s.physical h.phys;
        log = merges post t s h;
        names = h.names;
        valid_t = keeps_valid (Table tables wipe) t step_table h.valid_t (c ∙ e);
        valid_s = keeps_valid (Table tables wipe) s step_table h.valid_s e;
      }) f)

  -- no step of these is logical, and none makes a slot active
  abbrev Plain : List Step → Type 0
  Plain steps = AllByRecursion (λ step. (is_logical_step fixed step ≡ false) × (is_active step ≡ false)) steps

  not-false : (b : Bool) → not b ≡ false → b ≡ true
  not-false true e = refl
  not-false false e = absurd cc

  pub simtable-run : (pre : List Step) (t s : Dev) → Plain pre → Fine all [] post → SimTable fixed all tables wipe post (pre ++ Table tables wipe ∷ post) t s →
      run (pre ++ Table tables wipe ∷ post) t ≡ run (pre ++ Table tables wipe ∷ post) s
  simtable-run [] t s p f h = table-run t s f h
  simtable-run (Put name image ∷ pre) t s p f h =
      let q = pre ++ Table tables wipe ∷ post in
      let m = not-false (is_among fixed name) p.0.0 in
      let here = physical-here q t s (Put name image) name m h in
      let long : is_too_large image t name ≡ is_too_large image s name =
      ap (λ n. nat_lt n (length image))
      (found-long (option_map (λ p. p.bytes) (find (λ p. bytes_eq p.name name) t.physical)) (option_map (λ p. p.bytes) (find (λ p. bytes_eq p.name name) s.physical))
      (option_map (λ p. p.bytes) (find (λ p. bytes_eq p.name name) t.logical)) (option_map (λ p. p.bytes) (find (λ p. bytes_eq p.name name) s.logical))
      (phys-long (Put name image ∷ q) name t.physical s.physical h.phys) (find-some name t.physical here.0)) in
      let c = can-same (Put name image) t s (modes-serve fixed (Put name image ∷ q) t s h.modes) (ap (λ (d : Dev). d.locked) h.base)
      (ap (λ b. b && not (is_too_large image t name)) (target-here q t s name t here.0 ∙ sym (target-here q t s name s here.1)) ∙ ap (λ b. is_target s name && not b) long) in
      run-by (Put name image) q t s (can (Put name image) s) refl c
      (λ e. simtable-run pre (with_bytes name (over image) t) (with_bytes name (over image) s) p.1 f
      (fixed-sim q t s (Put name image) name (over image) (λ own x. refl) refl m h (keeps_valid (Put name image) t tt h.valid_t (c ∙ e)) (keeps_valid (Put name image) s tt h.valid_s e)))
  simtable-run (Wipe name ∷ pre) t s p f h =
      let q = pre ++ Table tables wipe ∷ post in
      let m = not-false (is_among fixed name) p.0.0 in
      let here = physical-here q t s (Wipe name) name m h in
      let c = can-same (Wipe name) t s (modes-serve fixed (Wipe name ∷ q) t s h.modes) (ap (λ (d : Dev). d.locked) h.base) (target-here q t s name t here.0 ∙ sym (target-here q t s name s here.1)) in
      run-by (Wipe name) q t s (can (Wipe name) s) refl c
      (λ e. simtable-run pre (with_bytes name wiped t) (with_bytes name wiped s) p.1 f
      (fixed-sim q t s (Wipe name) name wiped (λ own x. refl) refl m h (keeps_valid (Wipe name) t tt h.valid_t (c ∙ e)) (keeps_valid (Wipe name) s tt h.valid_s e)))
  simtable-run (Boot mode ∷ pre) t s p f h =
      let q = pre ++ Table tables wipe ∷ post in
      let c = can-same (Boot mode) t s (modes-serve fixed (Boot mode ∷ q) t s h.modes) (ap (λ (d : Dev). d.locked) h.base) refl in
      run-by (Boot mode) q t s (can (Boot mode) s) refl c
      (λ e. simtable-run pre (apply (Boot mode) t) (apply (Boot mode) s) p.1 f (record {
        base = ap (λ (d : Dev). record d { mode = mode }) h.base;
        modes = inl refl;
        phys = phys-still (Boot mode) q (λ own x. refl) t.physical s.physical h.phys;
        names = h.names;
        valid_t = keeps_valid (Boot mode) t tt h.valid_t (c ∙ e);
        valid_s = keeps_valid (Boot mode) s tt h.valid_s e;
        stage = rebooted h.stage;
      }))
    where
      rebooted : Before t s ⊎ Behind all tables wipe post t s → Before (apply (Boot mode) t) (apply (Boot mode) s) ⊎ Behind all tables wipe post (apply (Boot mode) t) (apply (Boot mode) s)
      rebooted (inl b) = inl (record { groups = b.groups; minor = b.minor; flags = b.flags; logical = b.logical })
      rebooted (inr b) = inr (record { groups = b.groups; minor = b.minor; flags = b.flags; refusal = b.refusal; log = b.log })
  simtable-run (Active slot ∷ pre) t s p f h = let e = p.0.1 in absurd cc
  simtable-run (Resize name size ∷ pre) t s p f h = let e = p.0.0 in absurd cc
  simtable-run (Table other way ∷ pre) t s p f h = let e = p.0.0 in absurd cc
