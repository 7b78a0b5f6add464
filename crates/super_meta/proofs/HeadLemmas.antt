-- The fields of a table's header are those that its content is written with.
use Rattle.std.proofs.Common.{◌≡◌, ℕ, ◌+◌, ◌*◌, ◌≤◌, Bool, true, false, List, [], ◌∷◌, ◌++◌, length, take, drop, Option, Some, None, refl, ap, ◌∙◌, arith}
use Rattle.std.specs.Prelude.{◌||◌, not, nat_lt, ◌==◌}
use Rattle.std.specs.Int.{w16, w32, to_le_bytes}
use Rattle.std.proofs.lemmas.Bool.Decides.{nat_tests}
use Rattle.super_meta.specs.declared.errors.MetaError.{MetaError}
use Rattle.super_meta.specs.declared.errors.MetaError.TheVariants.{ShortInput, BadMagic, BadVersion, BadSize, BadChecksum, BadDescriptor}
use Rattle.super_meta.specs.declared.header.Header.{Header}
use Rattle.super_meta.specs.Flaws.{first_flaw, ◌or_else◌}
use Rattle.fb_frame.specs.Bytes.{AreBytes}
use Rattle.fb_frame.specs.Fields.{u16_at, u32_at}
use Rattle.super_meta.specs.HeaderText.{header_size, are_described}
use Rattle.super_meta.specs.TableBytes.{header_front, descriptor}
use Rattle.super_meta.proofs.NameLemmas.{both}
use Rattle.super_meta.proofs.EntryLemmas.{step16, step32}

-- two errors of which neither stands
pub none-both : (a b : Option MetaError) → (a or_else b) ≡ None → (a ≡ None) × (b ≡ None)
none-both None b h = (refl, h)
none-both (Some e) b h = absurd cc

-- the first tests by the values of the fields
abbrev pub size_by : (len magic major minor size more lists devices : ℕ) → Option MetaError
size_by len magic major minor size more lists devices =
    first_flaw
    ((nat_lt len 128, ShortInput)
    ∷ (not (magic == 0x414C5030), BadMagic)
    ∷ (not (major == 10) || nat_lt 2 minor, BadVersion)
    ∷ (not (size == header_size minor), BadSize)
    ∷ (nat_lt len (header_size minor + more), ShortInput)
    ∷ (not (more == lists + 64 * devices), BadSize)
    ∷ [])

pub record AreSized (len magic major minor size more lists devices : ℕ) : Type 0 where
  pub len-is : 128 ≤ len
  pub magic-is : magic ≡ 0x414C5030
  pub major-is : major ≡ 10
  pub minor-is : minor ≤ 2
  pub size-is : size ≡ header_size minor
  pub long-is : header_size minor + more ≤ len
  pub more-is : more ≡ lists + 64 * devices

pub sized : (len magic major minor size more lists devices : ℕ) → size_by len magic major minor size more lists devices ≡ None → AreSized len magic major minor size more lists devices
sized len magic major minor size more lists devices h = record {
  len-is = grind (arith, nat_tests);
  magic-is = grind (arith, nat_tests);
  major-is = grind (arith, nat_tests);
  minor-is = grind (arith, nat_tests);
  size-is = grind (arith, nat_tests);
  long-is = grind (arith, nat_tests);
  more-is = grind (arith, nat_tests);
}

pub sizedly : (len magic major minor size more lists devices : ℕ) → AreSized len magic major minor size more lists devices → size_by len magic major minor size more lists devices ≡ None
sizedly len magic major minor size more lists devices a =
    grind (arith, nat_tests, a.len-is, a.magic-is, a.major-is, a.minor-is, a.size-is, a.long-is, a.more-is)

-- the second tests
abbrev pub seal_by : (a b d : Bool) → Option MetaError
seal_by a b d = first_flaw ((not a || not b, BadChecksum) ∷ (not d, BadDescriptor) ∷ [])

pub seals-hold : (a b d : Bool) → seal_by a b d ≡ None → (a ≡ true) × (b ≡ true) × (d ≡ true)
seals-hold true true true h = (refl, refl, refl)
seals-hold true true false h = absurd cc
seals-hold true false d h = absurd cc
seals-hold false b d h = absurd cc

eq : (a b : ℕ) → (a == b) ≡ true → a ≡ b
eq a b h = grind (arith, nat_tests)

pub front-back : (bytes : List ℕ) → AreBytes bytes → 12 ≤ length bytes → u32_at 0 bytes ≡ 0x414C5030 → u16_at 4 bytes ≡ 10 → u32_at 8 bytes ≡ header_size (u16_at 6 bytes) → take 12 bytes ≡ header_front (u16_at 6 bytes)
unfolding header_front
front-back bytes b l m j s =
    let s1 = step32 0 0 4 0 bytes [] b refl refl (omega arith) refl ∙ ap (to_le_bytes w32) m in
    let s2 = step16 0 4 6 4 bytes _ b refl refl (omega arith) s1 ∙ ap (λ n. to_le_bytes w32 0x414C5030 ++ to_le_bytes w16 n) j in
    let s3 = step16 0 6 8 6 bytes _ b refl refl (omega arith) s2 in
    let s4 = step32 0 8 12 8 bytes _ b refl refl l s3 in
    s4 ∙ ap (λ n. to_le_bytes w32 0x414C5030 ++ to_le_bytes w16 10 ++ to_le_bytes w16 (u16_at 6 bytes) ++ to_le_bytes w32 n) s

pub descriptor-back : (m : ℕ) (bytes : List ℕ) → AreBytes bytes → m + 12 ≤ length bytes → take 12 (drop m bytes) ≡ descriptor (u32_at m bytes) (u32_at (m + 4) bytes) (u32_at (m + 8) bytes)
unfolding descriptor
descriptor-back m bytes b l =
    let s1 = step32 m 0 4 m bytes [] b refl (omega arith) (omega arith) refl in
    let s2 = step32 m 4 8 (m + 4) bytes _ b refl refl (omega arith) s1 in
    step32 m 8 12 (m + 8) bytes _ b refl refl l s2

pub record AreDescribed (bytes : List ℕ) (p e g : ℕ) : Type 0 where
  pub partitions-at : u32_at 80 bytes ≡ 0
  pub partition-size : u32_at 88 bytes ≡ 52
  pub extents-at : u32_at 92 bytes ≡ 52 * p
  pub extent-size : u32_at 100 bytes ≡ 24
  pub groups-at : u32_at 104 bytes ≡ 52 * p + 24 * e
  pub group-size : u32_at 112 bytes ≡ 48
  pub devices-at : u32_at 116 bytes ≡ 52 * p + 24 * e + 48 * g
  pub device-size : u32_at 124 bytes ≡ 64
  pub devices : u32_at 120 bytes ≡ 1

pub described : (bytes : List ℕ) (h : Header) → are_described bytes h ≡ true → AreDescribed bytes h.partitions h.extents h.groups
unfolding are_described
described bytes h t =
    let a = both _ _ t in
    let b = both _ _ a.0 in
    let c = both _ _ b.0 in
    let d = both _ _ c.0 in
    let d0 = both _ _ d.0 in
    let d1 = both _ _ d.1 in
    let d2 = both _ _ c.1 in
    let d3 = both _ _ b.1 in
    record {
      partitions-at = eq _ _ d0.0;
      partition-size = eq _ _ d0.1;
      extents-at = eq _ _ d1.0;
      extent-size = eq _ _ d1.1;
      groups-at = eq _ _ d2.0;
      group-size = eq _ _ d2.1;
      devices-at = eq _ _ d3.0;
      device-size = eq _ _ d3.1;
      devices = eq _ _ a.1;
    }
