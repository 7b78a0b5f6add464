-- What the entries of a log come to.
use Rattle.std.proofs.Common.{◌≡◌, ℕ, ◌+◌, ◌<◌, ◌≤◌, true, false, cond, eqb, ltb, List, [], ◌∷◌, ◌++◌, length, get_or, take, drop, count_by, fold, All, refl, sym, ap, subst, ◌∙◌, inl, inr, arith, append_assoc, length-set}
use Rattle.std.specs.List.{list_any, AllByRecursion}
use Rattle.std.proofs.lemmas.List.{length-append, length-replicate, append-nil, get_or-replicate, take_more, drop_more, drop_all}
use Rattle.std.proofs.lemmas.List.Elements.{recursion_from_All, All-push, All-nil}
use Rattle.std.proofs.lemmas.List.Sums.{sum_by-cons, fold_push}
use Rattle.std.proofs.lemmas.Bool.{cases_eq}
use Rattle.std.proofs.lemmas.Bool.Decides.{nat_tests}
use Rattle.unit_alloc.specs.declared.plain.Entry.{Entry}
use Rattle.unit_alloc.specs.Owning.{Owning, times, OneOwner, units_of, handed, unowned}
use Rattle.unit_alloc.specs.Log.{entered, replayed, given, IsLog}
use Rattle.unit_alloc.proofs.TimesLemmas.{times-replicate}
use Rattle.unit_alloc.proofs.FreeLemmas.{total, length-free_units}
use Rattle.unit_alloc.proofs.HandedLemmas.{times-handed_one, OneOwner-handed, units_of-with_units, total-set, total-replicate, OneOwner-unowned}

-- what a look-up past the end gives
abbrev pub no_entry : Entry
no_entry = record { part = 0; unit = 0 }

-- one more entry
pub replayed_push : (units parts : ℕ) (es : List Entry) (e : Entry) → replayed units parts (es ++ e ∷ []) ≡ entered (replayed units parts es) e
unfolding replayed
replayed_push units parts es e = fold_push entered (unowned units parts) es e

length-entered : (m : Owning) (es : List Entry) → length (fold entered m es).parts ≡ length m.parts
length-entered m [] = refl
length-entered m (e ∷ es) = length-entered (entered m e) es ∙ length-set m.parts e.part (units_of m e.part ++ e.unit ∷ [])

pub length-replayed : (units parts : ℕ) (es : List Entry) → length (replayed units parts es).parts ≡ parts
unfolding replayed
length-replayed units parts es = length-entered (unowned units parts) es ∙ length-replicate parts []

units-entered : (m : Owning) (es : List Entry) → (fold entered m es).units ≡ m.units
units-entered m [] = refl
units-entered m (e ∷ es) = units-entered (entered m e) es

pub units-replayed : (units parts : ℕ) (es : List Entry) → (replayed units parts es).units ≡ units
unfolding replayed
units-replayed units parts es = units-entered (unowned units parts) es

-- how often a unit stands in what a part's entries give
times-entered : (u n : ℕ) (m : Owning) (es : List Entry) → length m.parts ≡ n → AllByRecursion (λ e. e.part < n) es →
    times u (fold entered m es).parts ≡ times u m.parts + count_by (λ e. eqb e.unit u) es
times-entered u n m [] k h = omega arith
times-entered u n m (e ∷ es) k h =
    let w = length-set m.parts e.part (units_of m e.part ++ e.unit ∷ []) in
    let i = times-entered u n (entered m e) es (w ∙ k) h.1 in
    let one = times-handed_one u m e.part e.unit (omega (arith, h.0)) in
    let c = sum_by-cons (λ (e : Entry). cond (eqb e.unit u) 1 0) e es in
    omega arith

pub times-replayed : (u units parts : ℕ) (es : List Entry) → All (λ e. e.part < parts) es → times u (replayed units parts es).parts ≡ count_by (λ e. eqb e.unit u) es
unfolding replayed
times-replayed u units parts es h =
    let n = length-replicate {A = List ℕ} parts [] in
    let i = times-entered u parts (unowned units parts) es n (recursion_from_All (λ e. e.part < parts) es h) in
    let z = times-replicate u parts in
    omega arith

-- a test passes somewhere where it is counted
any-count_by : (u : ℕ) (es : List Entry) → list_any (λ e. eqb e.unit u) es ≡ ltb 0 (count_by (λ e. eqb e.unit u) es)
any-count_by u [] = refl
any-count_by u (e ∷ es) =
    let c = sum_by-cons (λ (e : Entry). cond (eqb e.unit u) 1 0) e es in
    let i = any-count_by u es in
    grind (arith, nat_tests)

-- a unit is owned where an entry has it
pub is_owned-replayed : (u units parts : ℕ) (es : List Entry) → All (λ e. e.part < parts) es → list_any (λ e. eqb e.unit u) es ≡ ltb 0 (times u (replayed units parts es).parts)
is_owned-replayed u units parts es h = any-count_by u es ∙ ap (ltb 0) (sym (times-replayed u units parts es h))

units_of-entered : (p n : ℕ) (m : Owning) (es : List Entry) → length m.parts ≡ n → p < n → units_of (fold entered m es) p ≡ units_of m p ++ given p es
units_of-entered p n m [] k h = sym (append-nil (units_of m p))
units_of-entered p n m (e ∷ es) k h =
    let w = length-set m.parts e.part (units_of m e.part ++ e.unit ∷ []) in
    units_of-entered p n (entered m e) es (w ∙ k) h
    ∙ ap (λ l. l ++ given p es) (units_of-with_units e.part p m (units_of m e.part ++ e.unit ∷ []) (omega arith) ∙ at_part e)
    ∙ elim (eqb e.part p) as (λ b. cond b (units_of m p ++ e.unit ∷ []) (units_of m p) ++ given p es ≡ units_of m p ++ cond b (e.unit ∷ given p es) (given p es)) [
      | true ↦ append_assoc (units_of m p) (e.unit ∷ []) (given p es)
      | false ↦ refl
    ]
  where
    at_part : (e : Entry) → cond (eqb e.part p) (units_of m e.part ++ e.unit ∷ []) (units_of m p) ≡ cond (eqb e.part p) (units_of m p ++ e.unit ∷ []) (units_of m p)
    at_part e = elim (cases_eq e.part p) [
      | inl q ↦ ap (λ r. cond (eqb e.part p) (units_of m r ++ e.unit ∷ []) (units_of m p)) q
      | inr ne ↦ let t : eqb e.part p ≡ false = grind (arith, nat_tests) in rw t refl
    ]

-- a part's units are those that the entries give to it
pub units_of-replayed : (p units parts : ℕ) (es : List Entry) → p < parts → units_of (replayed units parts es) p ≡ given p es
unfolding replayed
units_of-replayed p units parts es h =
    let n = length-replicate {A = List ℕ} parts [] in
    units_of-entered p parts (unowned units parts) es n h ∙ ap (λ l. l ++ given p es) (get_or-replicate parts p [] [] h)

total-entered : (n : ℕ) (m : Owning) (es : List Entry) → length m.parts ≡ n → AllByRecursion (λ e. e.part < n) es → total (fold entered m es).parts ≡ total m.parts + length es
total-entered n m [] k h = omega arith
total-entered n m (e ∷ es) k h =
    let w = length-set m.parts e.part (units_of m e.part ++ e.unit ∷ []) in
    let i = total-entered n (entered m e) es (w ∙ k) h.1 in
    let s = total-set m.parts e.part (units_of m e.part ++ e.unit ∷ []) (omega (arith, h.0)) in
    let l = length-append (units_of m e.part) (e.unit ∷ []) in
    omega arith

-- there are as many entries as units with an owner
pub total-replayed : (units parts : ℕ) (es : List Entry) → All (λ e. e.part < parts) es → total (replayed units parts es).parts ≡ length es
unfolding replayed
total-replayed units parts es h =
    let n = length-replicate {A = List ℕ} parts [] in
    let i = total-entered parts (unowned units parts) es n (recursion_from_All (λ e. e.part < parts) es h) in
    let z = total-replicate parts in
    omega arith

-- a free unit leaves room for its entry
pub log_room : (units parts p x : ℕ) (es : List Entry) → IsLog units parts es → p < parts → x < units → times x (replayed units parts es).parts ≡ 0 → length es < units
log_room units parts p x es log hp hx free =
    let m = replayed units parts es in
    let lp = length-replayed units parts es in
    let lu = units-replayed units parts es in
    let f = length-free_units (handed m p (x ∷ [])) (OneOwner-handed m p x (omega arith) log.one (omega arith) free) in
    let t = total-set m.parts p (units_of m p ++ x ∷ []) (omega arith) in
    let a = length-append (units_of m p) (x ∷ []) in
    let n = total-replayed units parts es log.parted in
    omega arith

-- there are no more entries than units
pub log_fits : (units parts : ℕ) (es : List Entry) → IsLog units parts es → length es ≤ units
log_fits units parts es log =
    let f = length-free_units (replayed units parts es) log.one in
    let u = units-replayed units parts es in
    let t = total-replayed units parts es log.parted in
    omega arith

pub IsLog-push : (units parts p x : ℕ) (es : List Entry) → IsLog units parts es → p < parts → x < units → times x (replayed units parts es).parts ≡ 0 →
    IsLog units parts (es ++ record { part = p; unit = x } ∷ [])
IsLog-push units parts p x es log hp hx free =
    let e : Entry = record { part = p; unit = x } in
    let lp = length-replayed units parts es in
    let lu = units-replayed units parts es in
    record {
      parted = All-push (λ (e : Entry). e.part < parts) es e log.parted hp;
      one = subst OneOwner (sym (replayed_push units parts es e)) (OneOwner-handed (replayed units parts es) p x (omega arith) log.one (omega arith) free);
    }

pub IsLog-none : (units parts : ℕ) → IsLog units parts []
unfolding replayed
IsLog-none units parts = record { parted = All-nil (λ (e : Entry). e.part < parts); one = OneOwner-unowned units parts }

-- what one more entry leaves of a log, and that there is room for it
pub log_append : (units parts p x : ℕ) (es : List Entry) (m : Owning) → replayed units parts es ≡ m → IsLog units parts es → p < length m.parts → x < m.units → times x m.parts ≡ 0 →
    (length es < units) × IsLog units parts (es ++ record { part = p; unit = x } ∷ []) × (replayed units parts (es ++ record { part = p; unit = x } ∷ []) ≡ handed m p (x ∷ []))
log_append units parts p x es m e log hp hx free =
    let k : length (replayed units parts es).parts ≡ length m.parts = ap (λ (n : Owning). length n.parts) e in
    let ku : (replayed units parts es).units ≡ m.units = ap (λ (n : Owning). n.units) e in
    let kt : times x (replayed units parts es).parts ≡ times x m.parts = ap (λ (n : Owning). times x n.parts) e in
    let lp = length-replayed units parts es in
    let lu = units-replayed units parts es in (
      log_room units parts p x es log (omega arith) (omega arith) (omega arith),
      IsLog-push units parts p x es log (omega arith) (omega arith) (omega arith),
      replayed_push units parts es (record { part = p; unit = x }) ∙ ap (λ (n : Owning). handed n p (x ∷ [])) e,
    )

-- the log of no entries
pub IsLog-empty : (units parts : ℕ) (es : List Entry) → es ≡ [] → IsLog units parts es
IsLog-empty units parts es e = subst (IsLog units parts) (sym e) (IsLog-none units parts)

pub replayed_empty : (units parts : ℕ) (es : List Entry) → es ≡ [] → replayed units parts es ≡ unowned units parts
unfolding replayed
replayed_empty units parts es e = ap (fold entered (unowned units parts)) e

-- one more entry, for a part
pub given_push : (p : ℕ) (es : List Entry) (e : Entry) → given p (es ++ e ∷ []) ≡ given p es ++ cond (eqb e.part p) (e.unit ∷ []) []
given_push p [] e = refl
given_push p (x ∷ es) e = elim (eqb x.part p) as (λ b. cond b (x.unit ∷ given p (es ++ e ∷ [])) (given p (es ++ e ∷ [])) ≡ cond b (x.unit ∷ given p es) (given p es) ++ cond (eqb e.part p) (e.unit ∷ []) []) [
  | true ↦ ap (λ l. x.unit ∷ l) (given_push p es e)
  | false ↦ given_push p es e
]

-- the first of what is left, for a part
pub given_rest : (p : ℕ) (es : List Entry) (i : ℕ) → i < length es →
    given p (drop i es) ≡ cond (eqb (get_or es i no_entry).part p) ((get_or es i no_entry).unit ∷ given p (drop (i + 1) es)) (given p (drop (i + 1) es))
given_rest p es i h = ap (given p) (drop_more es i no_entry h)

-- nothing is left
pub given_end : (p : ℕ) (es : List Entry) (i : ℕ) → length es ≤ i → given p (drop i es) ≡ []
given_end p es i h = ap (given p) (drop_all i es h)

pub length-given_push : (p : ℕ) (es : List Entry) (e : Entry) → length (given p (es ++ e ∷ [])) ≡ length (given p es) + cond (eqb e.part p) 1 0
length-given_push p es e =
    let l = ap (length {A = ℕ}) (given_push p es e) in
    let a = length-append (given p es) (cond (eqb e.part p) (e.unit ∷ []) []) in
    let c : length (cond (eqb e.part p) (e.unit ∷ []) []) ≡ cond (eqb e.part p) 1 0 =
    elim (eqb e.part p) as (λ b. length (cond b (e.unit ∷ []) []) ≡ cond b 1 0) [ true ↦ refl | false ↦ refl ] in
    omega arith

pub length-given_more : (p : ℕ) (es : List Entry) (i : ℕ) → i < length es →
    length (given p (take (i + 1) es)) ≡ length (given p (take i es)) + cond (eqb (get_or es i no_entry).part p) 1 0
length-given_more p es i h =
    ap (λ (l : List Entry). length (given p l)) (take_more es i no_entry h) ∙ length-given_push p (take i es) (get_or es i no_entry)

pub ruleset given_steps = (length-given_more, given_rest, given_end, nat_tests)

-- a part's units, where the log is seen as owners
pub units_of-view : (p units parts : ℕ) (es : List Entry) (m : Owning) → replayed units parts es ≡ m → p < length m.parts → units_of m p ≡ given p es
units_of-view p units parts es m e h =
    let k : length (replayed units parts es).parts ≡ length m.parts = ap (λ (n : Owning). length n.parts) e in
    let n = length-replayed units parts es in
    ap (λ (n : Owning). units_of n p) (sym e) ∙ units_of-replayed p units parts es (omega arith)

pub units-view : (units parts : ℕ) (es : List Entry) (m : Owning) → replayed units parts es ≡ m → m.units ≡ units
units-view units parts es m e = ap (λ (n : Owning). n.units) (sym e) ∙ units-replayed units parts es
