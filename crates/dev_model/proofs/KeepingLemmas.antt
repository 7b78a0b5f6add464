-- What steps, runs and attempts keep of a device.
use Rattle.std.proofs.Common.{◌≡◌, inl, inr, ℕ, suc, Bool, true, false, Option, Some, None, List, [], ◌∷◌, length, map, take, refl, sym, ap, ◌∙◌, subst, slice_get}
use Rattle.std.specs.Prelude.{MatchBool, IfSome, if◌then◌else◌, cond, bytes_eq, find, option_map, not, nat_lt, unwrap_or, ◌&&◌, ◌||◌, codes}
use Rattle.std.specs.List.{AllByRecursion, list_any}
use Rattle.std.specs.Option.{option_or}
use Rattle.std.proofs.lemmas.Slice.Eq.{bytes_eq-Decides}
use Rattle.dev_model.specs.declared.cells.Cell.{Cell}
use Rattle.dev_model.specs.declared.device.Dev.{Dev}
use Rattle.dev_model.specs.declared.device.Logical.{Logical}
use Rattle.dev_model.specs.declared.device.Physical.{Physical}
use Rattle.dev_model.specs.declared.device.Mode.TheVariants.{Halted}
use Rattle.dev_model.specs.declared.step.Step.{Step}
use Rattle.dev_model.specs.declared.step.Step.TheVariants.{Active, Resize, Put, Wipe, Table, Boot}
use Rattle.dev_model.specs.Attempts.{Left, LeftHalted, Chain, IsNextAtMost, IsHaltedAt, is_halted}
use Rattle.dev_model.specs.Images.{over}
use Rattle.dev_model.specs.Keeping.{IsSameDevice, StepKeeps, RunKeeps, LeftKeeps, ChainKeeps, WritesOne, WritesTwice, OverFront, PutOverFront, PutRefusedAgain}
use Rattle.dev_model.specs.Options.{◌>>=◌, needs, first_passed}
use Rattle.dev_model.specs.Partitions.{bytes_of, is_fastboot, is_userspace, is_physical, is_logical, physical_changed, logical_changed, with_bytes, with_mode}
use Rattle.dev_model.specs.Steps.{run, can, apply, wiped}
use Rattle.dev_model.specs.Validity.{IsValid, IsStep}
use Rattle.dev_model.proofs.CellLemmas.{absorbed, covered-front}
use Rattle.dev_model.proofs.ChainLemmas.{unhalted}
use Rattle.dev_model.proofs.FixedValid.{fit, fit-keeps, fixed-fit}
use Rattle.dev_model.proofs.LeftValid.{left_valid}
use Rattle.dev_model.proofs.Runs.{over_length}
use Rattle.dev_model.proofs.ValidBytes.{KeepsLength}
use Rattle.dev_model.proofs.Valid.{names-kept}

same-self : (dev : Dev) → IsSameDevice dev dev
same-self dev = record { all = refl; names = refl; lengths = refl }

same-equal : (dev t : Dev) → t ≡ dev → IsSameDevice dev t
same-equal dev t e = let P : Dev → Type 0 = λ d. IsSameDevice dev d in subst P (sym e) (same-self dev)

-- the device with what may differ taken from another
abbrev with_open : Dev → Dev → Dev
with_open new old = record old {
  mode = new.mode;
  active = new.active;
  flags = new.flags;
  physical = new.physical;
  groups = new.groups;
  logical = new.logical;
  table_minor = new.table_minor;
  table_flags = new.table_flags;
}

pub same-then : (a b c : Dev) → IsSameDevice a b → IsSameDevice b c → IsSameDevice a c
same-then a b c h g = record {
  all = g.all ∙ ap (with_open c) h.all;
  names = g.names ∙ h.names;
  lengths = g.lengths ∙ h.lengths;
}

one-length : (b : Bool) (change : List ℕ → List ℕ) (x : List ℕ) → KeepsLength change → length ((if b then change else λ bytes. bytes) x) ≡ length x
one-length true change x k = k x
one-length false change x k = refl

lengths-kept : (name : List ℕ) (change : List ℕ → List ℕ) (ps : List Physical) → KeepsLength change →
    map (λ p. length p.bytes) (map (physical_changed name change) ps) ≡ map (λ p. length p.bytes) ps
lengths-kept name change [] k = refl
lengths-kept name change (p ∷ ps) k =
    let first = one-length (bytes_eq p.name name) change p.bytes k in
    let rest = lengths-kept name change ps k in
    λ i. first i ∷ rest i

pub same-bytes : (name : List ℕ) (change : List ℕ → List ℕ) (dev : Dev) → KeepsLength change → IsSameDevice dev (with_bytes name change dev)
same-bytes name change dev k = record {
  all = refl;
  names = names-kept name change dev.physical;
  lengths = lengths-kept name change dev.physical k;
}

wiped-length : (x : List ℕ) → length (wiped x) ≡ length x
wiped-length [] = refl
wiped-length (o ∷ x) = ap suc (wiped-length x)

pub step_keeps : StepKeeps
step_keeps (Active slot) dev = record { all = refl; names = refl; lengths = refl }
step_keeps (Resize name size) dev = record { all = refl; names = refl; lengths = refl }
step_keeps (Put name cells) dev = same-bytes name (over cells) dev (over_length cells)
step_keeps (Wipe name) dev = same-bytes name wiped dev wiped-length
step_keeps (Table tables wipe) dev = record { all = refl; names = refl; lengths = refl }
step_keeps (Boot mode) dev = record { all = refl; names = refl; lengths = refl }

run-case : (step : Step) (steps : List Step) (dev t : Dev) (b : Bool) → (run steps (apply step dev) ≡ Some t → IsSameDevice dev t) →
    (needs b >>= λ _. run steps (apply step dev)) ≡ Some t → IsSameDevice dev t
run-case step steps dev t true ih e = ih e
run-case step steps dev t false ih e = absurd cc

pub run_keeps : RunKeeps
run_keeps [] dev t e = let same : dev ≡ t = cc in same-equal dev t (sym same)
run_keeps (step ∷ steps) dev t e =
    run-case step steps dev t (can step dev) (λ f. same-then dev (apply step dev) t (step_keeps step dev) (run_keeps steps (apply step dev) t f)) e

next-keeps : (o : Option Step) (dev t : Dev) → IsNextAtMost o dev t → IsSameDevice dev t
next-keeps None dev t e = same-equal dev t e
next-keeps (Some step) dev t (inl e) = same-equal dev t e
next-keeps (Some step) dev t (inr (inl h)) = same-then dev (apply step dev) t (step_keeps step dev) (same-equal (apply step dev) t h.1)
next-keeps (Some (Put name cells)) dev t (inr (inr h)) =
    same-then dev _ t (same-bytes name (over (take h.1 cells)) dev (over_length (take h.1 cells))) (same-equal _ t h.3)
next-keeps (Some (Active slot)) dev t (inr (inr h)) = absurd h
next-keeps (Some (Wipe name)) dev t (inr (inr h)) = absurd h
next-keeps (Some (Resize name size)) dev t (inr (inr h)) = absurd h
next-keeps (Some (Table tables wipe)) dev t (inr (inr h)) = absurd h
next-keeps (Some (Boot mode)) dev t (inr (inr h)) = absurd h

same-left : (plan : List Step) (s : Dev) (a : ℕ) (t : Dev) → Left plan s a t → IsSameDevice s t
same-left plan s a t l =
    same-then s l.before t (run_keeps (take a plan) s l.before l.taken) (next-keeps (slice_get plan a) l.before t l.next)

same-mode : (dev t : Dev) → t ≡ with_mode Halted dev → IsSameDevice dev t
same-mode dev t e =
    let P : Dev → Type 0 = λ d. IsSameDevice dev d in subst P (sym e) (record { all = refl; names = refl; lengths = refl })

same-over : (name : List ℕ) (dev t : Dev) (bytes : List ℕ) → IsValid dev → IfSome (bytes_of dev name) (λ old. length bytes ≡ length old) →
    t ≡ with_mode Halted (with_bytes name (λ _. bytes) dev) → IsSameDevice dev t
same-over name dev t bytes v h e =
    let fits : with_bytes name (fit bytes) dev ≡ with_bytes name (λ _. bytes) dev = fixed-fit name bytes dev h v in
    same-then dev (with_bytes name (fit bytes) dev) t (same-bytes name (fit bytes) dev (fit-keeps bytes))
    (same-mode (with_bytes name (fit bytes) dev) t (e ∙ ap (with_mode Halted) (sym fits)))

halted-keeps : (o : Option Step) (dev t : Dev) → IsValid dev → IsHaltedAt o dev t → IsSameDevice dev t
halted-keeps None dev t v h = same-mode dev t h
halted-keeps (Some (Put name cells)) dev t v h = same-over name dev t h.0 v h.1 h.2
halted-keeps (Some (Wipe name)) dev t v h = same-over name dev t h.0 v h.1 h.2
halted-keeps (Some (Active slot)) dev t v h = same-mode dev t h
halted-keeps (Some (Resize name size)) dev t v h = same-mode dev t h
halted-keeps (Some (Table tables wipe)) dev t v h = same-mode dev t h
halted-keeps (Some (Boot mode)) dev t v h = same-mode dev t h

halted-left : (plan : List Step) (s : Dev) (a : ℕ) (t : Dev) → AllByRecursion IsStep plan → IsValid s → LeftHalted plan s a t → IsSameDevice s t
halted-left plan s a t p v l =
    same-then s l.before t (same-left plan s a l.before l.left)
    (halted-keeps (slice_get plan a) l.before t (left_valid plan s a l.before p v l.left) l.halted)

either-part : (b : Bool) (P Q C : Type 0) → (P → C) → (Q → C) → MatchBool b P Q → C
either-part true P Q C f g h = f h
either-part false P Q C f g h = g h

pub left_keeps : LeftKeeps
left_keeps plan s a t p v l =
    either-part (is_halted t.mode) (LeftHalted plan s a t) (Left plan s a t) (IsSameDevice s t) (halted-left plan s a t p v) (same-left plan s a t) l

later-keeps : (b : Bool) (u t : Dev) (Q R : Type 0) → is_fastboot u.mode ≡ b → (is_fastboot u.mode ≡ true → Q → IsSameDevice u t) →
    MatchBool b Q (R × (t ≡ u)) → IsSameDevice u t
later-keeps true u t Q R e g m = g e m
later-keeps false u t Q R e g m = same-equal u t m.1

pub chain_keeps : ChainKeeps
chain_keeps plan s [] t p v c = absurd c
chain_keeps plan s (a ∷ []) t p v c = left_keeps plan s a t p v c
chain_keeps plan s (a ∷ b ∷ rest) t p v c =
    let u = c.0 in
    same-then s u t (left_keeps plan s a u p v c.1)
    (later-keeps (is_fastboot u.mode) u t (Chain plan u (b ∷ rest) t) _ refl
    (λ e k. chain_keeps plan u (b ∷ rest) t p (left_valid plan s a u p v (unhalted plan s a u e c.1)) k) c.2)

-- The bytes of the partition of a name, among partitions of which one has its bytes changed.
module _ {X : Type 0} (nm by : X → List ℕ) (set : X → List ℕ → X) (same-name : (x : X) (b : List ℕ) → nm (set x b) ≡ nm x) (same-by : (x : X) (b : List ℕ) → by (set x b) ≡ b) (name other : List ℕ) (change : List ℕ → List ℕ) where
  abbrev changed : X → X
  changed x = set x ((if bytes_eq (nm x) name then change else λ bytes. bytes) (by x))

  abbrev as_changed : Option (List ℕ) → Option (List ℕ)
  as_changed o = option_map (if bytes_eq other name then change else λ bytes. bytes) o

  hit : (b : Bool) (x : X) (rest rest' : Option X) → bytes_eq (nm x) other ≡ b → (option_map by rest' ≡ as_changed (option_map by rest)) →
      option_map by (cond b (Some (changed x)) rest') ≡ as_changed (option_map by (cond b (Some x) rest))
  hit true x rest rest' e ih =
      let same : nm x ≡ other = (bytes_eq-Decides (nm x) other).0 e in
      ap Some (same-by x _ ∙ ap (λ n. (if bytes_eq n name then change else λ bytes. bytes) (by x)) same)
  hit false x rest rest' e ih = ih

  pub found-changed : (xs : List X) →
      option_map by (find (λ p. bytes_eq (nm p) other) (map changed xs)) ≡ as_changed (option_map by (find (λ p. bytes_eq (nm p) other) xs))
  found-changed [] = refl
  found-changed (x ∷ xs) =
      let named : bytes_eq (nm (changed x)) other ≡ bytes_eq (nm x) other = ap (λ n. bytes_eq n other) (same-name x _) in
      ap (λ b. option_map by (cond b (Some (changed x)) (find (λ p. bytes_eq (nm p) other) (map changed xs)))) named
      ∙ hit (bytes_eq (nm x) other) x (find (λ p. bytes_eq (nm p) other) xs) (find (λ p. bytes_eq (nm p) other) (map changed xs)) refl (found-changed xs)

or-changed : (f : List ℕ → List ℕ) (a b : Option (List ℕ)) → option_or (option_map f a) (option_map f b) ≡ option_map f (option_or a b)
or-changed f None b = refl
or-changed f (Some x) b = refl

pub writes_one : WritesOne
writes_one name other change dev =
    let physical = found-changed {X = Physical} (λ p. p.name) (λ p. p.bytes) (λ p b. record p { bytes = b }) (λ p b. refl) (λ p b. refl) name other change dev.physical in
    let logical = found-changed {X = Logical} (λ p. p.name) (λ p. p.bytes) (λ p b. record p { bytes = b }) (λ p b. refl) (λ p b. refl) name other change dev.logical in
    ap (λ o. option_or o (option_map (λ p. p.bytes) (find (λ p. bytes_eq p.name other) (map (logical_changed name change) dev.logical)))) physical
    ∙ (ap (λ o. option_or (option_map (if bytes_eq other name then change else λ bytes. bytes) (option_map (λ p. p.bytes) (find (λ p. bytes_eq p.name other) dev.physical))) o) logical
    ∙ or-changed (if bytes_eq other name then change else λ bytes. bytes) _ _)

-- one change after another
abbrev in_turn : (List ℕ → List ℕ) → (List ℕ → List ℕ) → List ℕ → List ℕ
in_turn first later bytes = later (first bytes)

twice : (b : Bool) (first later : List ℕ → List ℕ) (x : List ℕ) →
    (if b then later else λ bytes. bytes) ((if b then first else λ bytes. bytes) x) ≡ (if b then in_turn first later else λ bytes. bytes) x
twice true first later x = refl
twice false first later x = refl

twice-physical : (name : List ℕ) (first later : List ℕ → List ℕ) (ps : List Physical) →
    map (physical_changed name later) (map (physical_changed name first) ps) ≡ map (physical_changed name (in_turn first later)) ps
twice-physical name first later [] = refl
twice-physical name first later (p ∷ ps) =
    let one = twice (bytes_eq p.name name) first later p.bytes in
    let rest = twice-physical name first later ps in
    λ i. record p { bytes = one i } ∷ rest i

twice-logical : (name : List ℕ) (first later : List ℕ → List ℕ) (ps : List Logical) →
    map (logical_changed name later) (map (logical_changed name first) ps) ≡ map (logical_changed name (in_turn first later)) ps
twice-logical name first later [] = refl
twice-logical name first later (p ∷ ps) =
    let one = twice (bytes_eq p.name name) first later p.bytes in
    let rest = twice-logical name first later ps in
    λ i. record p { bytes = one i } ∷ rest i

pub writes_twice : WritesTwice
writes_twice name first later dev =
    let a = twice-physical name first later dev.physical in
    let b = twice-logical name first later dev.logical in
    λ i. record dev { physical = a i; logical = b i }

alike : (b : Bool) (f g : List ℕ → List ℕ) (x : List ℕ) → f x ≡ g x → (if b then f else λ bytes. bytes) x ≡ (if b then g else λ bytes. bytes) x
alike true f g x e = e
alike false f g x e = refl

alike-physical : (name : List ℕ) (f g : List ℕ → List ℕ) (ps : List Physical) → ((x : List ℕ) → f x ≡ g x) →
    map (physical_changed name f) ps ≡ map (physical_changed name g) ps
alike-physical name f g [] e = refl
alike-physical name f g (p ∷ ps) e =
    let one = alike (bytes_eq p.name name) f g p.bytes (e p.bytes) in
    let rest = alike-physical name f g ps e in
    λ i. record p { bytes = one i } ∷ rest i

alike-logical : (name : List ℕ) (f g : List ℕ → List ℕ) (ps : List Logical) → ((x : List ℕ) → f x ≡ g x) →
    map (logical_changed name f) ps ≡ map (logical_changed name g) ps
alike-logical name f g [] e = refl
alike-logical name f g (p ∷ ps) e =
    let one = alike (bytes_eq p.name name) f g p.bytes (e p.bytes) in
    let rest = alike-logical name f g ps e in
    λ i. record p { bytes = one i } ∷ rest i

-- changes that give the same bytes give the same device
pub writes-alike : (name : List ℕ) (f g : List ℕ → List ℕ) (dev : Dev) → ((x : List ℕ) → f x ≡ g x) → with_bytes name f dev ≡ with_bytes name g dev
writes-alike name f g dev e =
    let a = alike-physical name f g dev.physical e in
    let b = alike-logical name f g dev.logical e in
    λ i. record dev { physical = a i; logical = b i }

pub over_front : OverFront
over_front n cells old = absorbed (take n cells) cells old (covered-front n cells)

pub put_over_front : PutOverFront
put_over_front name n cells dev =
    writes_twice name (over (take n cells)) (over cells) dev
    ∙ writes-alike name (λ x. over cells (over (take n cells) x)) (over cells) dev (over_front n cells)

any-physical : (name other : List ℕ) (change : List ℕ → List ℕ) (ps : List Physical) →
    list_any (λ p. bytes_eq p.name other) (map (physical_changed name change) ps) ≡ list_any (λ p. bytes_eq p.name other) ps
any-physical name other change [] = refl
any-physical name other change (p ∷ ps) = ap (λ b. bytes_eq p.name other || b) (any-physical name other change ps)

any-logical : (name other : List ℕ) (change : List ℕ → List ℕ) (ps : List Logical) →
    list_any (λ p. bytes_eq p.name other) (map (logical_changed name change) ps) ≡ list_any (λ p. bytes_eq p.name other) ps
any-logical name other change [] = refl
any-logical name other change (p ∷ ps) = ap (λ b. bytes_eq p.name other || b) (any-logical name other change ps)

size-changed : (b : Bool) (first : List Cell) (o : Option (List ℕ)) →
    length (unwrap_or (option_map (if b then over first else λ bytes. bytes) o) []) ≡ length (unwrap_or o [])
size-changed b first None = refl
size-changed true first (Some x) = over_length first x
size-changed false first (Some x) = refl

-- whether an image is refused, by what that depends on
abbrev refused_by : Dev → ℕ → Bool → Bool → ℕ → Option (List ℕ)
refused_by dev wanted physical logical size =
    option_or
    (first_passed
    ((dev.locked, codes "locked") ∷ (not (physical || (is_userspace dev.mode && logical)), codes "no such partition") ∷ []))
    (first_passed ((nat_lt size wanted, codes "image too large") ∷ []))

pub put_refused_again : PutRefusedAgain
put_refused_again name first cells dev =
    let put = with_bytes name (over first) dev in
    let size = length (unwrap_or (bytes_of put name) []) in
    let a : is_physical put name ≡ is_physical dev name = any-physical name name (over first) dev.physical in
    let b : is_logical put name ≡ is_logical dev name = any-logical name name (over first) dev.logical in
    let n : size ≡ length (unwrap_or (bytes_of dev name) []) =
    ap (λ o. length (unwrap_or o [])) (writes_one name name (over first) dev) ∙ size-changed (bytes_eq name name) first (bytes_of dev name) in
    ap (λ x. refused_by dev (length cells) x (is_logical put name) size) a
    ∙ (ap (λ x. refused_by dev (length cells) (is_physical dev name) x size) b
    ∙ ap (λ x. refused_by dev (length cells) (is_physical dev name) (is_logical dev name) x) n)
