-- New bytes of a part, as zeros are put in them.
use Rattle.std.proofs.Common.{◌≡◌, ◌∙◌, refl, sym, ap, subst, ℕ, ◌+◌, ◌-◌, ◌*◌, ◌≤◌, List, ◌++◌, take, drop, length, length-append, Some, Option, None, Result, Ok, Err, arith, mul-le-mul_right}
use Rattle.std.proofs.lemmas.List.{length-take-le, length-drop}
use Rattle.std.specs.Prelude.{◌^◌, ◌%◌, OnErr}
use Rattle.unit_alloc.specs.Owning.{Owning, units_of}
use Rattle.dev_disk.specs.Files.{IsInside}
use Rattle.dev_disk.specs.Disks.{DiskTold, OpenKept}
use Rattle.dev_disk.proofs.TwinLemmas.{OpenKept-files}
use Rattle.dev_store.specs.declared.layout.SuperPart.{SuperPart}
use Rattle.dev_store.specs.declared.part_place.Units.{Units}
use Rattle.dev_store.specs.declared.part_zero.NewBytes.{NewBytes}
use Rattle.dev_store.specs.LayoutLines.{first_unit}
use Rattle.dev_store.specs.SuperBounds.{IsBounded}
use Rattle.dev_store.specs.PartPlaces.{HaveRoom, units_end}
use Rattle.dev_store.specs.Growing.{AreUnitsAt, AreHeld}
use Rattle.dev_store.proofs.PartFound.{unit-blocks}

pub grown-room : (begin : ℕ) (s : SuperPart) (owning : Owning) (n : NewBytes) (u : Units) → IsBounded s → AreHeld s owning n → AreUnitsAt begin s owning n.part n.to u → HaveRoom u.size u
grown-room begin s owning n u b h a =
    let four = b.unit in
    let big = b.unit_end in
    let many = ap length a.units in
    let few : length (units_of owning n.part) ≤ 2 ^ 32 = let f = h.few in omega arith in
    let most = mul-le-mul_right s.unit few in
    let long = h.long in
    record {
      some = omega (arith, four, a.unit);
      blocks = ap (λ k. k % 4096) a.unit ∙ unit-blocks s b;
      few = omega (arith, many, h.few);
      small = omega (arith, a.size, long, most, big);
      long = subst (λ k. u.size ≤ length (units_of u.owners.now u.part) * k) (sym a.unit) (subst (λ k. u.size ≤ k * s.unit) (sym many) (omega (arith, a.size, long)));
    }

-- all units lie in super
pub units-inside : (begin : ℕ) (s : SuperPart) (owning : Owning) (n : NewBytes) (u : Units) → IsBounded s → AreHeld s owning n → AreUnitsAt begin s owning n.part n.to u → u.owners.now ≡ owning → units_end u ≤ begin + s.size
units-inside begin s owning n u b h a same =
    let i = b.inside in
    let e : units_end u ≡ begin + first_unit s + owning.units * s.unit = λ j. a.start j + (same j).units * a.unit j in
    let k = ap (λ m. m * s.unit) h.all in
    omega (arith, i, e, k)

-- and so in the open file
pub inside-of : (length : Option ℕ) (at size end : ℕ) → IsInside length at size → end ≤ at + size → IsInside length 0 end
inside-of None at size end h k = h
inside-of (Some n) at size end h k = omega (arith, h, k)

-- a buffer that was lent is as long as it was
pub lent-long : (n : ℕ) (old new : List ℕ) → n ≡ length old → length new ≡ length old → length (take n (new ++ drop (length new) old)) ≡ length old
lent-long n old new h k =
    let a = length-append new (drop (length new) old) in
    let b = length-drop (length new) old in
    let c = length-take-le n (new ++ drop (length new) old) (omega arith) in
    omega arith

-- what says the same of one failed call
pub both-err : {T E A B C : Type 0} (r : Result T E) → OnErr r A → OnErr r B → (A → B → C) → OnErr r C
both-err (Ok x) a b f = tt
both-err (Err e) a b f = f a b

-- a disk that no call was made on
pub OpenKept-same : (t : DiskTold) → OpenKept t t
OpenKept-same t = OpenKept-files t t (record { files = refl; path = refl; length = refl; later = omega arith; torn = λ old written left h. h })
