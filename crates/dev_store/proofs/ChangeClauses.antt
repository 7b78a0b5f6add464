-- What a change of the map of units makes of the units of each name, as the calls say it.
use Rattle.std.proofs.Common.{◌≡◌, ◌∙◌, refl, ap, sym, subst, ℕ, zero, suc, ◌*◌, ◌-◌, ◌%◌, ◌<◌, Bool, true, false, cond, List, [], ◌∷◌, ◌++◌, map, length, take, arith, Option, Some, None}
use Rattle.std.proofs.lemmas.List.{length-map, get_or-set_same}
use Rattle.std.specs.Prelude.{not, ◌||◌, ◌==◌, position, unwrap_or, option_map, slice_get, bytes_eq, if◌then◌else◌, IsFalse}
use Rattle.std.specs.List.{list_any, position_or_len, AllByRecursion}
use Rattle.std.proofs.lemmas.Grind.{div_ceil_times}
use Rattle.std.proofs.lemmas.Option.{slice_get-map}
use Rattle.fb_frame.specs.Distinct.{are_distinct}
use Rattle.dev_model.specs.declared.device.Dev.{Dev}
use Rattle.dev_model.specs.declared.device.Logical.{Logical}
use Rattle.dev_model.specs.Sizes.{units_for}
use Rattle.dev_model.proofs.Names.{among}
use Rattle.dev_model.proofs.ValidTable.{map-append}
use Rattle.unit_alloc.specs.Owning.{Owning, free_units, with_units, handed, units_of}
use Rattle.dev_store.specs.Held.{Held, IsMapped, seen, zeroed_logical, units_by, units_held, units_in_all}
use Rattle.dev_store.specs.StoreCalls.{IsRegrown, IsAdded, IsReleased, KeepsUsedUnits, free_in, lists_of}
use Rattle.dev_store.proofs.ChangeNamed.{by_name, at-name, by-cons, by-place, by-names, fit-each, not-or}
use Rattle.dev_store.proofs.ChangeTable.{ceil-is}
use Rattle.dev_store.proofs.ChangeInstall.{kept_units}
use Rattle.dev_store.proofs.ToldLemmas.{zeros-long}
use Rattle.dev_store.proofs.ChangeUnits.{by-alike, named-own, named-other}
use Rattle.dev_store.proofs.ChangeMaps.{free-parts}
use Rattle.dev_store.proofs.ChangeDelete.{without, others-than, taken-away}
use Rattle.dev_store.proofs.ChangeCreate.{added-own, added-other, named-apart, many-more}
use Rattle.dev_store.specs.TableChanges.{IsFitted, AreFitted, regrown}

-- a store's partition of a name has the units that the map gives it
held-units : {K : Type 0} (held : Held K) (o : Owning) (name : List ℕ) → held.owning ≡ Some o → units_held held name ≡ by_name o held.parts held.device.logical name
held-units held o name e = ap (λ q. units_by q (slice_get held.parts (unwrap_or (position (at-name name) held.device.logical) (length held.parts)))) e

-- a device over untold bytes has the same names
zeroed-names : (ps : List Logical) → map (λ p. p.name) (map zeroed_logical ps) ≡ map (λ p. p.name) ps
zeroed-names [] = refl
zeroed-names (p ∷ ps) = ap (λ l. p.name ∷ l) (zeroed-names ps)

pub seen-names : (image : Option (List ℕ)) (dev : Dev) → map (λ p. p.name) (seen image dev).logical ≡ map (λ p. p.name) dev.logical
unfolding seen
seen-names None dev = zeroed-names dev.logical
seen-names (Some file) dev = refl

names-many : (ps qs : List Logical) → map (λ p. p.name) ps ≡ map (λ p. p.name) qs → length ps ≡ length qs
names-many ps qs h = sym (length-map ps (λ p. p.name)) ∙ (ap length h ∙ length-map qs (λ p. p.name))

-- a name that no partition has has no units
by-absent : (o : Owning) (parts : List ℕ) (ps : List Logical) (name : List ℕ) → length parts ≡ length ps → not (among name (map (λ p. p.name) ps)) ≡ true → by_name o parts ps name ≡ []
by-absent o [] [] name many n = refl
by-absent o [] (p ∷ ps) name many n = absurd cc
by-absent o (k ∷ parts) [] name many n = absurd cc
by-absent o (k ∷ parts) (p ∷ ps) name many n =
    let m : length parts ≡ length ps = suc-of (length parts) (length ps) many in
    let z = not-or (bytes_eq p.name name) (among name (map (λ q. q.name) ps)) n in
    by-cons o k parts p ps name m ∙ (ap (λ b. if b then units_of o k else by_name o parts ps name) z.0 ∙ by-absent o parts ps name m z.1)
  where
    suc-of : (a b : ℕ) → suc a ≡ suc b → a ≡ b
    suc-of a b e = omega arith

others-absent : (name : List ℕ) (ps : List Logical) → not (among name (map (λ p. p.name) (others-than name ps))) ≡ true
others-absent name [] = refl
others-absent name (p ∷ ps) = by (bytes_eq p.name name) refl (others-absent name ps) where
  by : (b : Bool) → bytes_eq p.name name ≡ b → not (among name (map (λ p. p.name) (others-than name ps))) ≡ true →
      not (among name (map (λ p. p.name) (cond (not b) (p ∷ others-than name ps) (others-than name ps)))) ≡ true
  by true e more = more
  by false e more = ap (λ b. not (b || among name (map (λ p. p.name) (others-than name ps)))) e ∙ more

-- What is known of the two stores: the maps, and that the first is as it must be.
pub record AreMaps {K : Type 0} (old new : Held K) (o now : Owning) : Type 0 where
  pub before : old.owning ≡ Some o
  pub after : new.owning ≡ Some now
  pub mapped : IsMapped old

-- the partition of the name was taken away
pub held-released : {K : Type 0} (old new : Held K) (o now : Owning) (name : List ℕ) (part : ℕ) → AreMaps old new o now → are_distinct (map (λ p. p.name) old.device.logical) ≡ true →
    list_any (at-name name) old.device.logical ≡ true → slice_get old.parts (position_or_len (at-name name) old.device.logical) ≡ Some part →
    now ≡ with_units o part [] → new.parts ≡ without (position_or_len (at-name name) old.device.logical) old.parts →
    map (λ p. p.name) new.device.logical ≡ map (λ p. p.name) (others-than name old.device.logical) → IsReleased name old new
held-released old new o now name part h distinct there at e parts names =
    let many = h.mapped.many in
    let t = taken-away now old.parts old.device.logical name many distinct there in
    let left = others-than name old.device.logical in
    let rest = without (position_or_len (at-name name) old.device.logical) old.parts in
    let here : (other : List ℕ) → units_held new other ≡ by_name now rest left other =
    λ other. held-units new now other h.after
    ∙ (ap (λ l. by_name now l new.device.logical other) parts ∙ by-alike now rest new.device.logical left other (t.many ∙ sym (names-many new.device.logical left names)) t.many names) in
    record {
      released = here name ∙ by-absent now rest left name t.many (others-absent name old.device.logical);
      others = λ other ne.
          here other ∙ (t.units other ne ∙ (ap (λ q. by_name q old.parts old.device.logical other) e
          ∙ (named-other o old.parts old.device.logical name other [] part many h.mapped.apart ne at ∙ sym (held-units old o other h.before))));
    }

-- the free units of a store are those of its map
held-free : {K : Type 0} (held : Held K) (o : Owning) → held.owning ≡ Some o → IsMapped held → free_in held ≡ free_units o
held-free held o e m =
    let units : held.device.units ≡ o.units = sym m.units ∙ ap units_in_all e in
    let empty : (k : ℕ) → IsFalse (list_any (λ p. p == k) held.parts) → units_of o k ≡ [] = λ k f. sym (ap (λ q. units_by q (Some k)) e) ∙ m.empty k f in
    ap (λ (r : Owning). free_units r) (λ i. record { units = units i; parts = lists_of (e i) held.parts }) ∙ free-parts o held.parts m.apart empty

-- the partition of the name has another length
pub held-regrown : {K : Type 0} (old new : Held K) (o now : Owning) (name : List ℕ) (part bytes : ℕ) → AreMaps old new o now →
    slice_get old.parts (position_or_len (at-name name) old.device.logical) ≡ Some part → part < length o.parts → now ≡ regrown o part (units_for old.device.unit bytes) →
    new.parts ≡ old.parts → map (λ p. p.name) new.device.logical ≡ map (λ p. p.name) old.device.logical → IsRegrown name bytes old new
held-regrown old new o now name part bytes h at inside e parts names =
    let many = h.mapped.many in
    let count = units_for old.device.unit bytes in
    let own = units_of o part in
    let list = take count own ++ take (count - length own) (free_units o) in
    let before : units_held old name ≡ own = held-units old o name h.before ∙ (by-place o old.parts old.device.logical name many ∙ ap (units_by (Some o)) at) in
    let here : (other : List ℕ) → units_held new other ≡ by_name now old.parts old.device.logical other =
    λ other. held-units new now other h.after
    ∙ (ap (λ l. by_name now l new.device.logical other) parts
    ∙ by-alike now old.parts new.device.logical old.device.logical other (many ∙ sym (names-many new.device.logical old.device.logical names)) many names) in
    record {
      grown = here name
          ∙ (ap (λ q. by_name q old.parts old.device.logical name) e
          ∙ (named-own o old.parts old.device.logical name list part many inside at
          ∙ sym (λ i. take count (before i) ++ take (count - length (before i)) (held-free old o h.before h.mapped i))));
      others = λ other ne.
          here other ∙ (ap (λ q. by_name q old.parts old.device.logical other) e
          ∙ (named-other o old.parts old.device.logical name other list part many h.mapped.apart ne at ∙ sym (held-units old o other h.before)));
    }

-- a new last partition has the name
pub held-added : {K : Type 0} (old new : Held K) (o now : Owning) (name : List ℕ) (part bytes : ℕ) → AreMaps old new o now →
    list_any (λ p. p == part) old.parts ≡ false → part < length o.parts → now ≡ handed o part (take (units_for old.device.unit bytes) (free_units o)) →
    not (among name (map (λ p. p.name) old.device.logical)) ≡ true → new.parts ≡ old.parts ++ part ∷ [] →
    map (λ p. p.name) new.device.logical ≡ map (λ p. p.name) old.device.logical ++ name ∷ [] → IsAdded name bytes old new
held-added old new o now name part bytes h free inside e fresh parts names =
    let many = h.mapped.many in
    let count = units_for old.device.unit bytes in
    let list = take count (free_units o) in
    let q : Logical = record { name = name; attributes = 0; group = []; bytes = [] } in
    let none : units_of o part ≡ [] = sym (ap (λ w. units_by w (Some part)) h.before) ∙ h.mapped.empty part free in
    let is : now ≡ with_units o part list = e ∙ ap (λ l. with_units o part (l ++ list)) none in
    let both-names : map (λ p. p.name) new.device.logical ≡ map (λ p. p.name) (old.device.logical ++ q ∷ []) = names ∙ sym (map-append (λ p. p.name) old.device.logical (q ∷ [])) in
    let all = many-more old.parts old.device.logical part q many in
    let here : (other : List ℕ) → units_held new other ≡ by_name now (old.parts ++ part ∷ []) (old.device.logical ++ q ∷ []) other =
    λ other. held-units new now other h.after
    ∙ (ap (λ l. by_name now l new.device.logical other) parts
    ∙ by-alike now (old.parts ++ part ∷ []) new.device.logical (old.device.logical ++ q ∷ []) other (all ∙ sym (names-many new.device.logical (old.device.logical ++ q ∷ []) both-names)) all both-names) in
    let z : count - 0 ≡ count = omega arith in
    record {
      added = here name
          ∙ (added-own now old.parts old.device.logical part q many fresh
          ∙ (ap (λ w. units_of w part) is ∙ (get_or-set_same o.parts part list [] inside ∙ sym (λ i. take (z i) (held-free old o h.before h.mapped i)))));
      others = λ other ne.
          here other ∙ (added-other now old.parts old.device.logical part q other many ne
          ∙ (ap (λ w. by_name w old.parts old.device.logical other) is
          ∙ (named-apart o old.parts old.device.logical part list other many free ∙ sym (held-units old o other h.before))));
    }

-- lengths are the same over untold bytes
zeroed-fitted : (unit : ℕ) (ps : List Logical) (lists : List (List ℕ)) → AreFitted unit ps lists → AreFitted unit (map zeroed_logical ps) lists
zeroed-fitted unit [] [] h = h
zeroed-fitted unit [] (units ∷ lists) h = h
zeroed-fitted unit (p ∷ ps) [] h = h
zeroed-fitted unit (p ∷ ps) (units ∷ lists) h =
    let n = zeros-long (length p.bytes) in
    (record { many = h.0.many ∙ ap (units_for unit) (sym n); whole = ap (λ k. k % 4096) n ∙ h.0.whole }, zeroed-fitted unit ps lists h.1)

pub seen-fitted : (unit : ℕ) (image : Option (List ℕ)) (dev : Dev) (lists : List (List ℕ)) → AreFitted unit dev.logical lists → AreFitted unit (seen image dev).logical lists
unfolding seen
seen-fitted unit None dev lists h = zeroed-fitted unit dev.logical lists h
seen-fitted unit (Some file) dev lists h = h

-- what is so of all is so at a place
all-at : (P : Logical → Type 0) (ps : List Logical) (i : ℕ) (p : Logical) → AllByRecursion P ps → slice_get ps i ≡ Some p → P p
all-at P [] i p h at = absurd cc
all-at P (q ∷ ps) zero p h at = let e : q ≡ p = cc in subst P e h.0
all-at P (q ∷ ps) (suc i) p h at = all-at P ps i p h.1 at

-- lists by names are those of the names
map-names : {Y : Type 0} (g : List ℕ → Y) (ps qs : List Logical) → map (λ p. p.name) ps ≡ map (λ p. p.name) qs → map (λ p. g p.name) ps ≡ map (λ p. g p.name) qs
map-names g ps qs h = sym (of g ps) ∙ (ap (map g) h ∙ of g qs)
  where
    of : {Y : Type 0} (g : List ℕ → Y) (ps : List Logical) → map g (map (λ p. p.name) ps) ≡ map (λ p. g p.name) ps
    of g [] = refl
    of g (p ∷ ps) = ap (λ l. g p.name ∷ l) (of g ps)

some-is : (x y : List ℕ) → Some x ≡ Some y → x ≡ y
some-is x y h = cc

-- A table was installed: partitions with bytes have the units that they had, and the others none.
pub held-used : {K : Type 0} (old new : Held K) (o now : Owning) (unit : ℕ) (kept next : List Logical) → AreMaps old new o now → 0 < unit → are_distinct (map (λ p. p.name) new.device.logical) ≡ true →
    length new.parts ≡ length new.device.logical → AreFitted unit new.device.logical (map (units_of now) new.parts) → map (λ p. p.name) new.device.logical ≡ map (λ p. p.name) next →
    map (units_of now) new.parts ≡ map (λ p. kept_units (by_name o old.parts old.device.logical) kept p.name) next → KeepsUsedUnits old new
held-used old new o now unit kept next h pos distinct many fits names lists = record {
  used = λ place p at some. here place p at ∙ (chosen (list_any (at-name p.name) kept) p (fit place p at) some ∙ sym (held-units old o p.name h.before));
  unused = λ place p at none. here place p at ∙ empty p (kept_units f kept p.name) (fit place p at) none;
}
  where
    f : List ℕ → List ℕ
    f = by_name o old.parts old.device.logical

    ps : List Logical
    ps = new.device.logical

    as-kept : map (units_of now) new.parts ≡ map (λ p. kept_units f kept p.name) ps
    as-kept = lists ∙ sym (map-names (kept_units f kept) ps next names)

    by-list : map (λ p. by_name now new.parts ps p.name) ps ≡ map (λ p. kept_units f kept p.name) ps
    by-list = by-names now new.parts ps many distinct ∙ as-kept

    here : (place : ℕ) (p : Logical) → slice_get ps place ≡ Some p → units_held new p.name ≡ kept_units f kept p.name
    here place p at =
        held-units new now p.name h.after
        ∙ some-is (by_name now new.parts ps p.name) (kept_units f kept p.name)
        (sym (slice_get-map (λ p. by_name now new.parts ps p.name) ps place ∙ ap (option_map (λ p. by_name now new.parts ps p.name)) at)
        ∙ (ap (λ l. slice_get l place) by-list ∙ (slice_get-map (λ p. kept_units f kept p.name) ps place ∙ ap (option_map (λ p. kept_units f kept p.name)) at)))

    fit : (place : ℕ) (p : Logical) → slice_get ps place ≡ Some p → IsFitted unit p (kept_units f kept p.name)
    fit place p at = all-at (λ p. IsFitted unit p (kept_units f kept p.name)) ps place p (fit-each unit (kept_units f kept) ps (subst (AreFitted unit ps) as-kept fits)) at

    chosen : (b : Bool) (p : Logical) → IsFitted unit p (if b then f p.name else []) → 0 < length p.bytes → (if b then f p.name else []) ≡ f p.name
    chosen true p x some = refl
    chosen false p x some = let d = div_ceil_times (length p.bytes) unit pos in let m = ap (λ n. n * unit) x.many in absurd (omega arith)

    empty : (p : Logical) (units : List ℕ) → IsFitted unit p units → p.bytes ≡ [] → units ≡ []
    empty p units x e =
        nothing units (x.many ∙ (ap (λ (l : List ℕ). units_for unit (length l)) e ∙ ceil-is 0 0 unit pos (omega arith) (omega arith)))
      where
        nothing : (units : List ℕ) → length units ≡ 0 → units ≡ []
        nothing [] n = refl
        nothing (u ∷ units) n = absurd cc
