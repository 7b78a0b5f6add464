-- What a failed repair leaves of super.
use Rattle.std.proofs.Common.{arith, ◌≡◌, ◌∙◌, refl, ap, sym, subst, ℕ, ◌+◌, ◌-◌, ◌≤◌, Bool, true, false, List, take, drop, Option, Some, None, Result, Ok, Err, if◌then◌else◌}
use Rattle.std.specs.Prelude.{IsTrue, IfSome, nat_le, nat_lt, ◌*◌, ◌/◌, ◌^◌, ◌<◌}
use Rattle.std.proofs.Math.Nat.{div-le_self}
use Rattle.std.proofs.lemmas.Bool.Decides.{nat_tests}
use Rattle.std.specs.Int.{next_multiple_of}
use Rattle.super_meta.proofs.NameLemmas.{both}
use Rattle.dev_store.specs.declared.entries.Entry.TheVariants.{SuperLine}
use Rattle.dev_store.specs.LayoutLines.{is_sized, has_room, unit_count}
use Rattle.std.proofs.lemmas.List.{drop-take, drop-drop}
use Rattle.fb_frame.specs.Told.{Both}
use Rattle.dev_disk.specs.Files.{DifferWithin, copy}
use Rattle.super_meta.specs.Contents.{Content}
use Rattle.super_meta.specs.Flaws.{◌then_on◌}
use Rattle.dev_model.specs.declared.bad_image.BadImage.{BadImage}
use Rattle.dev_model.specs.declared.bad_image.BadImage.TheVariants.{NoGeometry, NoTable, BadUnits}
use Rattle.dev_store.specs.declared.layout.SuperPart.{SuperPart}
use Rattle.dev_store.specs.declared.layout.PhysicalPart.{PhysicalPart}
use Rattle.dev_store.specs.declared.super_read.SuperRead.{SuperRead}
use Rattle.dev_store.specs.LayoutLines.{first_unit}
use Rattle.dev_store.specs.Laid.{is_good_super}
use Rattle.dev_store.specs.Layouts.{LayoutValue, parts_end}
use Rattle.dev_store.specs.Supers.{geometry_copy, holds_geometry, table_read, are_good_units}
use Rattle.dev_store.specs.Stand.{check, or_bad, table_in, super_found, super_bytes, super_value, owned_by, owned_in}
use Rattle.dev_store.specs.Repairs.{SuperRepaired, IsSuperRepaired}
use Rattle.dev_store.specs.SuperReads.{IsSuperRead}
use Rattle.dev_store.specs.SuperRepairs.{IsSuperMended, IsSuperLeft}
use Rattle.dev_store.specs.Reading.{IsSuperMade, IsSuperKept, IsWithinRead}
use Rattle.dev_store.proofs.OpenLemmas.{take-of, geometry-either}
use Rattle.dev_store.proofs.RepairLemmas.{logicals-same}

-- what was read of super, where the layout has one
pub within-super : (layout : LayoutValue) (part : Option SuperPart) (within : Option SuperRead) (s : SuperPart) (w : SuperRead) (at : ℕ) (o : Option (List ℕ)) → part ≡ Some s → within ≡ Some w →
    at ≡ parts_end layout.physical → IfSome o (IsWithinRead layout part within) → IfSome o (λ file. IsSuperRead s (copy file at s.size) w)
within-super layout part within s w at None e f place h = tt
within-super layout part within s w at (Some file) e f place h =
    subst (λ n. IsSuperRead s (copy file n s.size) w) (sym place)
    (subst (λ x. IsWithinRead layout (Some s) x file) f (subst (λ x. IsWithinRead layout x within file) e h))

part-repaired : (layout : LayoutValue) (part : Option SuperPart) (s : SuperPart) (old new : List ℕ) → part ≡ Some s → IsSuperRepaired s (super_bytes layout s old) (super_bytes layout s new) →
    SuperRepaired layout part old new
part-repaired layout part s old new e h = subst (λ x. SuperRepaired layout x old new) (sym e) h

pub super-made : (layout : LayoutValue) (s : SuperPart) (at count : ℕ) (old new : List ℕ) → layout.super_part ≡ Some s → at ≡ parts_end layout.physical →
    IsSuperMended s at old new → DifferWithin (at + 4096) count old new → IsSuperMade layout old new
super-made layout s at count old new e place m d = record {
  same_length = d.same_length;
  front = subst (λ n. take n new ≡ take n old) place (take-of at (at + 4096) new old (omega arith) d.front);
  repaired = part-repaired layout layout.super_part s old new e (subst (λ n. IsSuperRepaired s (copy old n s.size) (copy new n s.size)) place m);
}

abbrev test : SuperPart → List ℕ → Bool
test s super = if holds_geometry s (geometry_copy false super) then true else holds_geometry s (geometry_copy true super)

-- the geometry stands, the table is the same one, and so are all units
record IsAsGood (s : SuperPart) (old new : List ℕ) : Type 0 where
  stood : IsTrue (test s old)
  stands : IsTrue (test s new)
  table : table_read s new ≡ table_read s old
  rest : drop (first_unit s) new ≡ drop (first_unit s) old

abbrev on-units : Content → Unit {0} → Result Content BadImage
on-units c u = Ok c

abbrev on-table : List PhysicalPart → SuperPart → Option Content → Result Content BadImage
on-table parts s o = or_bad NoTable o then_on λ c. (check BadUnits (are_good_units parts s c) then_on on-units c)

tables-same : (parts : List PhysicalPart) (s : SuperPart) (old new : List ℕ) → IsAsGood s old new → table_in parts s new ≡ table_in parts s old
unfolding table_in
tables-same parts s old new g =
    ap (λ b. check NoGeometry b then_on λ _. on-table parts s (table_read s new)) (g.stands ∙ sym g.stood)
    ∙ ap (λ o. check NoGeometry (test s old) then_on λ _. on-table parts s o) g.table

values-same : (s : SuperPart) (c : Content) (old new : List ℕ) → drop (first_unit s) new ≡ drop (first_unit s) old → super_value s c new ≡ super_value s c old
values-same s c old new e = ap (λ logical. record (super_value s c new) { logical = logical }) (logicals-same s c old new c.partitions e)

then-same : {X Y E : Type 0} (r : Result X E) (f g : X → Result Y E) → ((x : X) → f x ≡ g x) → (r then_on f) ≡ (r then_on g)
then-same (Ok x) f g h = h x
then-same (Err e) f g h = refl

founds-same : (layout : LayoutValue) (s : SuperPart) (old new : List ℕ) → IsAsGood s (super_bytes layout s old) (super_bytes layout s new) →
    super_found layout (Some s) new ≡ super_found layout (Some s) old
unfolding super_found
founds-same layout s old new g =
    let a = super_bytes layout s old in
    let b = super_bytes layout s new in
    ap (λ r. r then_on λ c. Ok (super_value s c b)) (tables-same layout.physical s a b g)
    ∙ then-same (table_in layout.physical s a) (λ c. Ok (super_value s c b)) (λ c. Ok (super_value s c a)) (λ c. ap Ok (values-same s c a b g.rest))

-- units lie behind the copies, and inside super
pub record IsRoomy (s : SuperPart) : Type 0 where
  pub after : 4096 ≤ first_unit s
  pub inside : first_unit s ≤ s.size
  pub room : s.max_size ≤ 126976
  pub size : s.size ≤ 2 ^ 44

le-of : (a b : ℕ) → nat_le a b ≡ true → a ≤ b
le-of a b h = grind (arith, nat_tests)

lt-of : (a b : ℕ) → nat_lt a b ≡ true → a < b
lt-of a b h = grind (arith, nat_tests)

at-least : (n unit : ℕ) → n ≤ next_multiple_of n unit
at-least n unit = omega arith

units-before : (size first unit : ℕ) → 0 < (size - first) / unit → first ≤ size
units-before size first unit some = let less = div-le_self (size - first) unit in omega arith

units-after : (s : SuperPart) → 4096 ≤ first_unit s
units-after s = let least = at-least (12288 + 2 * s.slots * s.max_size) s.unit in omega (arith, least)

pub roomy : (s : SuperPart) → IsTrue (is_good_super (Some s)) → IsRoomy s
roomy s h =
    let whole = both _ (has_room (SuperLine s)) h in
    let a = both _ _ (both _ (is_sized (SuperLine s)) whole.0).1 in
    let b = both _ _ a.0 in
    let c = both _ _ b.0 in
    let d = both _ _ c.0 in
    let e = both _ _ d.0 in
    let size = both _ _ (both _ _ e.0).0 in
    let some : 0 < unit_count s = lt-of 0 (unit_count s) (both _ _ whole.1).0 in
    record {
      after = units-after s;
      inside = units-before s.size (first_unit s) s.unit some;
      room = le-of s.max_size 126976 b.1;
      size = le-of s.size (2 ^ 44) size.1;
    }

-- super from its units on
cut-same : (first size at : ℕ) (old new : List ℕ) → first ≤ size → drop (at + first) new ≡ drop (at + first) old → drop first (take size (drop at new)) ≡ drop first (take size (drop at old))
cut-same first size at old new h e =
    let whole : first + (size - first) ≡ size = omega arith in
    subst (λ n. drop first (take n (drop at new)) ≡ drop first (take n (drop at old))) whole
    (drop-take first (size - first) (drop at new)
    ∙ (ap (take (size - first)) (drop-drop first at new ∙ (e ∙ sym (drop-drop first at old)))
    ∙ sym (drop-take first (size - first) (drop at old))))

rest-same : (s : SuperPart) (at : ℕ) (old new : List ℕ) → IsRoomy s → DifferWithin (at + 4096) (first_unit s - 4096) old new →
    drop (first_unit s) (copy new at s.size) ≡ drop (first_unit s) (copy old at s.size)
rest-same s at old new r d =
    let far : at + 4096 + (first_unit s - 4096) ≡ at + first_unit s = omega (arith, r.after) in
    let rest : drop (at + first_unit s) new ≡ drop (at + first_unit s) old = subst (λ n. drop n new ≡ drop n old) far d.rest in
    cut-same (first_unit s) s.size at old new r.inside rest

pub super-kept : (layout : LayoutValue) (s : SuperPart) (at : ℕ) (w : SuperRead) (old new : List ℕ) → layout.super_part ≡ Some s → at ≡ parts_end layout.physical → IsRoomy s →
    IsSuperRead s (copy old at s.size) w → IsSuperLeft s at old new → DifferWithin (at + 4096) (first_unit s - 4096) old new → IsSuperKept layout old new
super-kept layout s at w old new e place r h left d =
    let good : IsAsGood s (copy old at s.size) (copy new at s.size) = record {
      stood = geometry-either s (copy old at s.size) w.second h.geometry;
      stands = left.geometry;
      table = left.table;
      rest = rest-same s at old new r d;
    } in
    let here : IsAsGood s (super_bytes layout s old) (super_bytes layout s new) = subst (λ n. IsAsGood s (copy old n s.size) (copy new n s.size)) place good in
    record {
      same_length = d.same_length;
      front = subst (λ n. take n new ≡ take n old) place (take-of at (at + 4096) new old (omega arith) d.front);
      found = subst (λ p. super_found layout p new ≡ super_found layout p old) (sym e) (founds-same layout s old new here);
      owns = λ name. subst (λ p. owned_by layout p new name ≡ owned_by layout p old name) (sym e) (ap (λ o. owned_in s o name) here.table);
    }

-- relations of what is told
pub both-two : (R S T : List ℕ → List ℕ → Type 0) (a b : Option (List ℕ)) → ((old new : List ℕ) → R old new → S old new → T old new) → Both R a b → Both S a b → Both T a b
both-two R S T None None f h k = tt
both-two R S T None (Some new) f h k = absurd h
both-two R S T (Some old) None f h k = absurd h
both-two R S T (Some old) (Some new) f h k = f old new h k

pub both-three : (P : List ℕ → Type 0) (R S T : List ℕ → List ℕ → Type 0) (a b : Option (List ℕ)) → ((old new : List ℕ) → P old → R old new → S old new → T old new) →
    IfSome a P → Both R a b → Both S a b → Both T a b
both-three P R S T None None f p h k = tt
both-three P R S T None (Some new) f p h k = absurd h
both-three P R S T (Some old) None f p h k = absurd h
both-three P R S T (Some old) (Some new) f p h k = f old new p h k

pub both-then : (R S T : List ℕ → List ℕ → Type 0) (a b c : Option (List ℕ)) → ((x y z : List ℕ) → R x y → S y z → T x z) → Both R a b → Both S b c → Both T a c
both-then R S T None None c f h k = no-first c k
  where
    no-first : (c : Option (List ℕ)) → Both S None c → Both T None c
    no-first None k = tt
    no-first (Some z) k = absurd k
both-then R S T None (Some y) c f h k = absurd h
both-then R S T (Some x) None c f h k = absurd h
both-then R S T (Some x) (Some y) None f h k = absurd k
both-then R S T (Some x) (Some y) (Some z) f h k = f x y z h k

pub both-ends : (P Q : List ℕ → Type 0) (R S : List ℕ → List ℕ → Type 0) (a b : Option (List ℕ)) → ((old new : List ℕ) → P old → R old new → Q new → S old new) →
    IfSome a P → Both R a b → IfSome b Q → Both S a b
both-ends P Q R S None None f p h q = tt
both-ends P Q R S None (Some new) f p h q = absurd h
both-ends P Q R S (Some old) None f p h q = absurd h
both-ends P Q R S (Some old) (Some new) f p h q = f old new p h q
