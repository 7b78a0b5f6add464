-- The line of a partition is added.
use Rattle.std.proofs.Common.{◌≡◌, sym, ℕ, ◌+◌, ◌<◌, ◌≤◌, ◌^◌, true, List, length, map, Some, arith, length-append}
use Rattle.std.specs.Prelude.{nat_le, slice_get}
use Rattle.std.specs.List.{list_all}
use Rattle.std.proofs.lemmas.Bool.Decides.{nat_tests}
use Rattle.std.proofs.lemmas.List.{length-map}
use Rattle.dev_model.specs.declared.device.Dev.{Dev}
use Rattle.dev_model.specs.Validity.{IsValid, is_sized, is_entry}
use Rattle.dev_model.proofs.Valid.{both}
use Rattle.dev_store.specs.StoreCalls.{names_of}
use Rattle.device_jobs.proofs.ReadLemmas.{get-below}

-- a device has few partitions
pub names-few : (dev : Dev) → IsValid dev → length (names_of dev) ≤ 192
names-few dev v =
    let p = le-64 (length dev.physical) (both (nat_le (length dev.physical) 64) (list_all (λ p. is_sized p.bytes) dev.physical) v.physical).0 in
    let l = le-128 (length dev.logical) (both (nat_le (length dev.logical) 128) (list_all (is_entry dev.table_minor dev.groups) dev.logical) v.logical).0 in
    let a = length-append (map (λ p. p.name) dev.physical) (map (λ p. p.name) dev.logical) in
    let m = length-map dev.physical (λ p. p.name) in
    let n = length-map dev.logical (λ p. p.name) in
    omega (arith, p, l, a, m, n) where
      le-64 : (n : ℕ) → nat_le n 64 ≡ true → n ≤ 64
      le-64 n h = grind (arith, nat_tests)

      le-128 : (n : ℕ) → nat_le n 128 ≡ true → n ≤ 128
      le-128 n h = grind (arith, nat_tests)

pub place-small : (dev : Dev) (place : ℕ) (name : List ℕ) → IsValid dev → Some name ≡ slice_get (names_of dev) place → place + 1 < 2 ^ 32
place-small dev place name v e =
    let i = get-below (names_of dev) place name (sym e) in
    let n = names-few dev v in
    omega (arith, i, n)
