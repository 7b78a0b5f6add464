-- A partition that is taken away: the device, the map of units and the units of each name.
use Rattle.std.proofs.Common.{◌≡◌, ◌≢◌, ◌∙◌, refl, ap, sym, subst, ℕ, zero, suc, ◌+◌, ◌<◌, Bool, true, false, cond, List, [], ◌∷◌, ◌++◌, map, filter, length, take, drop, arith, Some, drop_of_length-le, length-set, inl, inr}
use Rattle.std.specs.Prelude.{◌⊎◌, not, ◌||◌, ◌==◌, nat_lt, slice_get, bytes_eq, if◌then◌else◌, IsFalse}
use Rattle.std.specs.List.{list_all, list_any, position_or_len, AllByRecursion}
use Rattle.std.proofs.lemmas.Bool.{cases_eq}
use Rattle.std.proofs.lemmas.Bool.Decides.{nat_tests}
use Rattle.std.proofs.lemmas.List.{get_or-set_same, get_or-set_other}
use Rattle.std.proofs.lemmas.List.Folds.{list_all-append}
use Rattle.std.proofs.lemmas.Slice.Eq.{bytes_eq-Decides}
use Rattle.fb_frame.specs.Distinct.{are_distinct}
use Rattle.dev_model.specs.declared.device.Logical.{Logical}
use Rattle.dev_model.specs.Steps.{deleted}
use Rattle.dev_model.specs.Tables.{is_group}
use Rattle.dev_model.proofs.Names.{among, distinct-filter}
use Rattle.dev_model.proofs.Valid.{both, and-true, or-false}
use Rattle.dev_model.proofs.ValidTable.{all-filter}
use Rattle.unit_alloc.specs.Owning.{Owning, with_units, units_of}
use Rattle.super_meta.specs.Contents.{Content}
use Rattle.dev_store.specs.declared.layout.SuperPart.{SuperPart}
use Rattle.dev_store.specs.declared.state.State.{State}
use Rattle.dev_store.specs.Layouts.{LayoutValue}
use Rattle.dev_store.specs.Stand.{super_bytes}
use Rattle.dev_store.proofs.ChangeNamed.{by_name, at-name, by-cons, by-names, not-or}
use Rattle.dev_store.proofs.ChangeUnits.{AreOnce, named-other}
use Rattle.dev_store.proofs.ChangeMaps.{once-rest, once-other}
use Rattle.dev_store.proofs.ChangeStore.{HasUnits, device_in, store-device, store-many}
use Rattle.dev_store.proofs.ChangeAfter.{table-of-lists, device-after}
use Rattle.dev_store.proofs.ChangeResize.{IsWrittenFor, of-logical, part-inside}
use Rattle.dev_store.proofs.ValidUnits.{all-take, all-drop}
use Rattle.dev_store.specs.TableChanges.{IsFitted, LiesIn, IsStoreSuper}

-- a list without the element at a place
abbrev pub without : {X : Type 0} → ℕ → List X → List X
without i xs = take i xs ++ drop (i + 1) xs

pub without-first : {X : Type 0} (x : X) (xs : List X) → without 0 (x ∷ xs) ≡ xs
without-first x xs = let e : 0 + 1 ≡ suc 0 = omega arith in ap (λ n. drop n (x ∷ xs)) e

pub without-later : {X : Type 0} (i : ℕ) (x : X) (xs : List X) → without (1 + i) (x ∷ xs) ≡ x ∷ without i xs
without-later i x xs =
    let e : 1 + i ≡ suc i = omega arith in
    let n : suc i + 1 ≡ suc (i + 1) = omega arith in
    ap (λ k. take k (x ∷ xs) ++ drop (k + 1) (x ∷ xs)) e ∙ ap (λ k. x ∷ (take i xs ++ drop k (x ∷ xs))) n

without-none : {X : Type 0} (i : ℕ) → without {X = X} (suc i) [] ≡ []
without-none i = drop_of_length-le [] (omega arith)

-- the partitions of other names
abbrev pub others-than : List ℕ → List Logical → List Logical
others-than name ps = filter (λ p. not (bytes_eq p.name name)) ps

-- where the name isn't there, all are left
pub none-filtered : (name : List ℕ) (ps : List Logical) → not (among name (map (λ p. p.name) ps)) ≡ true → others-than name ps ≡ ps
none-filtered name [] h = refl
none-filtered name (p ∷ ps) h =
    let n = not-or (bytes_eq p.name name) (among name (map (λ q. q.name) ps)) h in
    ap (λ b. cond (not b) (p ∷ others-than name ps) (others-than name ps)) n.0 ∙ ap (λ l. p ∷ l) (none-filtered name ps n.1)

-- What is so of the rest of two lists side by side.
pub record IsTaken (o : Owning) (parts : List ℕ) (ps : List Logical) (name : List ℕ) (rest : List ℕ) (left : List Logical) : Type 0 where
  pub many : length rest ≡ length left
  pub units : (other : List ℕ) → other ≢ name → by_name o rest left other ≡ by_name o parts ps other

differ : (a b : List ℕ) → a ≢ b → bytes_eq a b ≡ false
differ a b ne = by (bytes_eq a b) refl where
  by : (x : Bool) → bytes_eq a b ≡ x → x ≡ false
  by true e = absurd (ne ((bytes_eq-Decides a b).0 e))
  by false e = refl

pub taken-away : (o : Owning) (parts : List ℕ) (ps : List Logical) (name : List ℕ) → length parts ≡ length ps → are_distinct (map (λ p. p.name) ps) ≡ true →
    list_any (at-name name) ps ≡ true → IsTaken o parts ps name (without (position_or_len (at-name name) ps) parts) (others-than name ps)
taken-away o [] [] name many d there = absurd cc
taken-away o [] (p ∷ ps) name many d there = absurd cc
taken-away o (part ∷ parts) [] name many d there = absurd cc
taken-away o (part ∷ parts) (p ∷ ps) name many d there =
    by (bytes_eq p.name name) refl there (λ t. taken-away o parts ps name (suc-of (length parts) (length ps) many) (both (not (among p.name (map (λ q. q.name) ps))) _ d).1 t)
  where
    suc-of : (a b : ℕ) → suc a ≡ suc b → a ≡ b
    suc-of a b e = omega arith

    by : (b : Bool) → bytes_eq p.name name ≡ b → (b || list_any (at-name name) ps) ≡ true →
        (list_any (at-name name) ps ≡ true → IsTaken o parts ps name (without (position_or_len (at-name name) ps) parts) (others-than name ps)) →
        IsTaken o (part ∷ parts) (p ∷ ps) name (without (cond (not b) (1 + position_or_len (at-name name) ps) 0) (part ∷ parts)) (cond (not b) (p ∷ others-than name ps) (others-than name ps))
    by true e t more =
        let is = (bytes_eq-Decides p.name name).0 e in
        let none = none-filtered name ps (subst (λ x. not (among x (map (λ q. q.name) ps)) ≡ true) is (both (not (among p.name (map (λ q. q.name) ps))) _ d).0) in
        let m = suc-of (length parts) (length ps) many in
        subst (λ l. IsTaken o (part ∷ parts) (p ∷ ps) name l (others-than name ps)) (sym (without-first part parts))
        (subst (IsTaken o (part ∷ parts) (p ∷ ps) name parts) (sym none)
        (record {
          many = m;
          units = λ other ne.
              sym (by-cons o part parts p ps other m ∙ ap (λ b. if b then units_of o part else by_name o parts ps other) (differ p.name other (λ q. ne (sym q ∙ is))));
        }))
    by false e t more =
        let r = more t in
        let m = suc-of (length parts) (length ps) many in
        subst (λ l. IsTaken o (part ∷ parts) (p ∷ ps) name l (p ∷ others-than name ps)) (sym (without-later (position_or_len (at-name name) ps) part parts))
        (record {
          many = ap suc r.many;
          units = λ other ne.
              by-cons o part (without (position_or_len (at-name name) ps) parts) p (others-than name ps) other r.many
              ∙ (ap (λ l. if bytes_eq p.name other then units_of o part else l) (r.units other ne) ∙ sym (by-cons o part parts p ps other m));
        })

-- what is left of a list was there
left-there : {X : Type 0} (i : ℕ) (xs : List X) (j : ℕ) (x : X) → slice_get (without i xs) j ≡ Some x → (k : ℕ) × (slice_get xs k ≡ Some x)
left-there zero [] j x h = (j, h)
left-there zero (y ∷ ys) j x h = (suc j, sym (ap (λ l. slice_get l j) (without-first y ys)) ∙ h)
left-there (suc i) [] j x h = (j, sym (ap (λ l. slice_get l j) (without-none i)) ∙ h)
left-there (suc i) (y ∷ ys) zero x h = (zero, h)
left-there (suc i) (y ∷ ys) (suc j) x h =
    let e : suc i ≡ 1 + i = omega arith in
    let r = left-there i ys j x (sym (ap (λ l. slice_get l (suc j)) (ap (λ k. without k (y ∷ ys)) e ∙ without-later i y ys)) ∙ h) in
    (suc r.0, r.1)

pub once-cons : (p : ℕ) (xs : List ℕ) → ((j k : ℕ) → slice_get xs j ≡ Some k → k ≢ p) → AreOnce xs → AreOnce (p ∷ xs)
once-cons p xs ne once zero zero k e f = refl
once-cons p xs ne once zero (suc j) k e f = let w : k ≡ p = cc in absurd (ne j k f w)
once-cons p xs ne once (suc i) zero k e f = let w : k ≡ p = cc in absurd (ne i k e w)
once-cons p xs ne once (suc i) (suc j) k e f = ap suc (once i j k e f)

once-without : (i : ℕ) (xs : List ℕ) → AreOnce xs → AreOnce (without i xs)
once-without zero [] once = once
once-without zero (x ∷ xs) once = subst AreOnce (sym (without-first x xs)) (once-rest x xs once)
once-without (suc i) [] once = subst AreOnce (sym (without-none i)) once
once-without (suc i) (x ∷ xs) once =
    let e : suc i ≡ 1 + i = omega arith in
    subst AreOnce (sym (ap (λ k. without k (x ∷ xs)) e ∙ without-later i x xs))
    (once-cons x (without i xs) (λ j k h. let r = left-there i xs j k h in once-other x xs once r.0 k r.1) (once-without i xs (once-rest x xs once)))

unlike : (x k : ℕ) → x ≢ k → (x == k) ≡ false
unlike x k ne = grind (arith, nat_tests)

-- what isn't left and isn't the one that was taken wasn't there
pub any-without : (i : ℕ) (xs : List ℕ) (part k : ℕ) → slice_get xs i ≡ Some part → k ≢ part → list_any (λ p. p == k) (without i xs) ≡ false → list_any (λ p. p == k) xs ≡ false
any-without zero [] part k at ne h = refl
any-without zero (x ∷ xs) part k at ne h =
    let w : x ≡ part = cc in
    let f : (x == k) ≡ false = unlike x k (λ q. ne (sym q ∙ w)) in
    ap (λ b. b || list_any (λ p. p == k) xs) f ∙ (sym (ap (list_any (λ p. p == k)) (without-first x xs)) ∙ h)
any-without (suc i) [] part k at ne h = refl
any-without (suc i) (x ∷ xs) part k at ne h =
    let e : suc i ≡ 1 + i = omega arith in
    let n = or-false (x == k) (list_any (λ p. p == k) (without i xs)) (sym (ap (list_any (λ p. p == k)) (ap (λ j. without j (x ∷ xs)) e ∙ without-later i x xs)) ∙ h) in
    ap (λ b. b || list_any (λ p. p == k) xs) n.0 ∙ any-without i xs part k at ne n.1

all-without : (test : ℕ → Bool) (i : ℕ) (xs : List ℕ) → list_all test xs ≡ true → list_all test (without i xs) ≡ true
all-without test i xs h = list_all-append test (take i xs) (drop (i + 1) xs) ∙ and-true _ _ (all-take test i xs h) (all-drop test (i + 1) xs h)

-- what is so of the partitions of other names
each-other : (P Q : Logical → Type 0) (name : List ℕ) (ps : List Logical) → ((p : Logical) → p.name ≢ name → P p → Q p) → AllByRecursion P ps → AllByRecursion Q (others-than name ps)
each-other P Q name [] step h = tt
each-other P Q name (p ∷ ps) step h = by (bytes_eq p.name name) refl (each-other P Q name ps step h.1)
  where
    never : (b : Bool) → b ≡ true → b ≡ false → ⊥
    never b h k = cc

    by : (b : Bool) → bytes_eq p.name name ≡ b → AllByRecursion Q (others-than name ps) → AllByRecursion Q (cond (not b) (p ∷ others-than name ps) (others-than name ps))
    by true e more = more
    by false e more = (step p (λ q. never (bytes_eq p.name name) ((bytes_eq-Decides p.name name).1 q) e) h.0, more)

-- a partition that is taken away; its bytes stay in the file
pub delete-after : (layout : LayoutValue) (s : SuperPart) (state : State) (c : Content) (o now : Owning) (parts file name : List ℕ) (part : ℕ) → IsStoreSuper layout s state c o parts file →
    list_any (at-name name) (device_in layout state c file).logical ≡ true → slice_get parts (position_or_len (at-name name) (device_in layout state c file).logical) ≡ Some part →
    now ≡ with_units o part [] →
    IsWrittenFor layout s state now (without (position_or_len (at-name name) (device_in layout state c file).logical) parts) file (deleted name (device_in layout state c file))
delete-after layout s state c o now parts file name part h there at e =
    let dev = device_in layout state c file in
    let d = store-device layout s state c o parts file h in
    let i = position_or_len (at-name name) dev.logical in
    let rest = without i parts in
    let next = deleted name dev in
    let many = store-many layout s state c o parts file h in
    let inside = part-inside s c o parts i part h.mapped at in
    let t = taken-away now parts dev.logical name many d.units.names there in
    let f = by_name o parts dev.logical in
    let g = by_name now rest next.logical in
    let others : (other : List ℕ) → other ≢ name → f other ≡ g other =
    λ other ne. sym (t.units other ne ∙ (ap (λ q. by_name q parts dev.logical other) e ∙ named-other o parts dev.logical name other [] part many h.mapped.apart ne at)) in
    let units : HasUnits layout s file g next = record {
      names = distinct-filter (λ p. p.name) (λ p. not (bytes_eq p.name name)) dev.logical d.units.names;
      lies = each-other (λ p. LiesIn s (super_bytes layout s file) p (f p.name)) (λ p. LiesIn s (super_bytes layout s file) p (g p.name)) name dev.logical
          (λ p ne x. subst (LiesIn s (super_bytes layout s file) p) (others p.name ne) x) d.units.lies;
      fits = each-other (λ p. IsFitted s.unit p (f p.name)) (λ p. IsFitted s.unit p (g p.name)) name dev.logical (λ p ne x. subst (IsFitted s.unit p) (others p.name ne) x) d.units.fits;
      groups = all-filter (λ p. is_group dev.groups p.group) (λ p. not (bytes_eq p.name name)) dev.logical d.units.groups;
    } in
    let lists : map (λ p. g p.name) next.logical ≡ map (units_of now) rest = by-names now rest next.logical t.many units.names in
    let table = table-of-lists s g next (map (units_of now) rest) d.bounded units.fits units.groups lists in
    record {
      device = device-after layout s state file g next (map (units_of now) rest) h.part d.bounded (of-logical layout state file file dev next.logical d.same refl) units lists;
      mapped = record {
        units = ap (λ (q : Owning). q.units) e ∙ h.mapped.units;
        many = ap (λ (q : Owning). length q.parts) e ∙ (length-set o.parts part [] ∙ h.mapped.many);
        there = all-without (λ part. nat_lt part 128) i parts h.mapped.there;
        lists = table.units;
        apart = once-without i parts h.mapped.apart;
        empty = λ k f. ap (λ q. units_of q k) e ∙ by k f (cases_eq k part) inside;
      };
      fitted = table.fitted;
    }
  where
    by : (k : ℕ) → IsFalse (list_any (λ p. p == k) (without (position_or_len (at-name name) (device_in layout state c file).logical) parts)) → (k ≡ part) ⊎ (k ≢ part) → part < length o.parts →
        units_of (with_units o part []) k ≡ []
    by k f (inl q) inside = ap (units_of (with_units o part [])) q ∙ get_or-set_same o.parts part [] [] inside
    by k f (inr ne) inside = get_or-set_other o.parts part k [] [] ne ∙ h.mapped.empty k (any-without (position_or_len (at-name name) (device_in layout state c file).logical) parts part k at ne f)
