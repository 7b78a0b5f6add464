-- A device with zeros in its partitions is refused what the device is.
use Rattle.std.proofs.Common.{◌≡◌, ◌∙◌, refl, ap, sym, ℕ, suc, Bool, true, false, not, ◌||◌, List, [], ◌∷◌, ◌++◌, map, find, length, Option, Some, None, option_map, unwrap_or, if◌then◌else◌}
use Rattle.std.specs.Prelude.{bytes_eq, nat_lt, nat_le, codes, ◌+◌}
use Rattle.std.specs.Option.{option_or}
use Rattle.std.specs.List.{list_any}
use Rattle.std.proofs.lemmas.List.{length-replicate}
use Rattle.dev_model.specs.declared.device.Dev.{Dev}
use Rattle.dev_model.specs.declared.device.Physical.{Physical}
use Rattle.dev_model.specs.declared.device.Logical.{Logical}
use Rattle.dev_model.specs.Options.{first_passed}
use Rattle.dev_model.specs.Images.{round_up}
use Rattle.dev_model.specs.Partitions.{is_physical, is_logical, is_partition, is_super, bytes_of}
use Rattle.dev_model.specs.Sizes.{Size, size_of, sizes_of, resized}
use Rattle.dev_model.specs.Tables.{is_group}
use Rattle.dev_model.specs.Refusals.{created_size}
use Rattle.fb_frame.specs.Bytes.{zeros}
use Rattle.dev_store.specs.declared.errors.StoreError.{StoreError}
use Rattle.dev_store.specs.declared.errors.StoreError.TheVariants.{NoPartition, TooLarge, NameTaken, TooManyPartitions, NoGroup}
use Rattle.dev_store.specs.Changes.{range_flaw, delete_flaw, resize_flaw, create_flaw, room_flaw}
use Rattle.dev_store.specs.Held.{zeroed, zeroed_physical, zeroed_logical}
use Rattle.dev_store.specs.Laws.{ZeroedRefuses}

zeros-long : (n : ℕ) → length (zeros n) ≡ n
unfolding zeros
zeros-long n = length-replicate n 0

sizes-same : (ps : List Logical) → sizes_of (map zeroed_logical ps) ≡ sizes_of ps
sizes-same [] = refl
sizes-same (p ∷ ps) =
    ap (λ n. record (size_of p) { bytes = n } ∷ sizes_of (map zeroed_logical ps)) (zeros-long (length p.bytes)) ∙ ap (λ rest. size_of p ∷ rest) (sizes-same ps)

any-physical : (name : List ℕ) (ps : List Physical) → list_any (λ p. bytes_eq p.name name) (map zeroed_physical ps) ≡ list_any (λ p. bytes_eq p.name name) ps
any-physical name [] = refl
any-physical name (p ∷ ps) = ap (λ b. bytes_eq p.name name || b) (any-physical name ps)

any-logical : (name : List ℕ) (ps : List Logical) → list_any (λ p. bytes_eq p.name name) (map zeroed_logical ps) ≡ list_any (λ p. bytes_eq p.name name) ps
any-logical name [] = refl
any-logical name (p ∷ ps) = ap (λ b. bytes_eq p.name name || b) (any-logical name ps)

partition-same : (dev : Dev) (name : List ℕ) → is_partition (zeroed dev) name ≡ is_partition dev name
partition-same dev name =
    ap (λ b. b || is_logical (zeroed dev) name) (any-physical name dev.physical) ∙ ap (λ b. is_physical dev name || b) (any-logical name dev.logical)

-- how long what was found is
abbrev found-length : Option (List ℕ) → Option ℕ
found-length bytes = option_map length bytes

physical-long : (name : List ℕ) (ps : List Physical) →
    found-length (option_map (λ p. p.bytes) (find (λ p. bytes_eq p.name name) (map zeroed_physical ps))) ≡ found-length (option_map (λ p. p.bytes) (find (λ p. bytes_eq p.name name) ps))
physical-long name [] = refl
physical-long name (p ∷ ps) = by (bytes_eq p.name name) (physical-long name ps) where
  by : (b : Bool) →
      found-length (option_map (λ p. p.bytes) (find (λ p. bytes_eq p.name name) (map zeroed_physical ps))) ≡ found-length (option_map (λ p. p.bytes) (find (λ p. bytes_eq p.name name) ps)) →
      found-length (option_map (λ p. p.bytes) (if b then Some (zeroed_physical p) else find (λ p. bytes_eq p.name name) (map zeroed_physical ps)))
      ≡ found-length (option_map (λ p. p.bytes) (if b then Some p else find (λ p. bytes_eq p.name name) ps))
  by true h = ap Some (zeros-long (length p.bytes))
  by false h = h

logical-long : (name : List ℕ) (ps : List Logical) →
    found-length (option_map (λ p. p.bytes) (find (λ p. bytes_eq p.name name) (map zeroed_logical ps))) ≡ found-length (option_map (λ p. p.bytes) (find (λ p. bytes_eq p.name name) ps))
logical-long name [] = refl
logical-long name (p ∷ ps) = by (bytes_eq p.name name) (logical-long name ps) where
  by : (b : Bool) →
      found-length (option_map (λ p. p.bytes) (find (λ p. bytes_eq p.name name) (map zeroed_logical ps))) ≡ found-length (option_map (λ p. p.bytes) (find (λ p. bytes_eq p.name name) ps)) →
      found-length (option_map (λ p. p.bytes) (if b then Some (zeroed_logical p) else find (λ p. bytes_eq p.name name) (map zeroed_logical ps)))
      ≡ found-length (option_map (λ p. p.bytes) (if b then Some p else find (λ p. bytes_eq p.name name) ps))
  by true h = ap Some (zeros-long (length p.bytes))
  by false h = h

long-of : (o : Option (List ℕ)) → length (unwrap_or o []) ≡ unwrap_or (found-length o) 0
long-of None = refl
long-of (Some bytes) = refl

or-long : (a b c d : Option (List ℕ)) → found-length a ≡ found-length c → found-length b ≡ found-length d → found-length (option_or a b) ≡ found-length (option_or c d)
or-long None b None d h k = k
or-long None b (Some c) d h k = absurd cc
or-long (Some a) b None d h k = absurd cc
or-long (Some a) b (Some c) d h k = h

bytes-long : (dev : Dev) (name : List ℕ) → length (unwrap_or (bytes_of (zeroed dev) name) []) ≡ length (unwrap_or (bytes_of dev name) [])
bytes-long dev name =
    long-of (bytes_of (zeroed dev) name)
    ∙ (ap (λ o. unwrap_or o 0) (or-long _ _ _ _ (physical-long name dev.physical) (logical-long name dev.logical)) ∙ sym (long-of (bytes_of dev name)))

range-same : (dev : Dev) (name : List ℕ) (at count : ℕ) → range_flaw (zeroed dev) name at count ≡ range_flaw dev name at count
range-same dev name at count =
    ap (λ b. first_passed ((not b, NoPartition) ∷ (nat_lt (length (unwrap_or (bytes_of (zeroed dev) name) [])) (at + count), TooLarge) ∷ [])) (partition-same dev name)
    ∙ ap (λ n. first_passed ((not (is_partition dev name), NoPartition) ∷ (nat_lt n (at + count), TooLarge) ∷ [])) (bytes-long dev name)

delete-same : (dev : Dev) (name : List ℕ) → delete_flaw (zeroed dev) name ≡ delete_flaw dev name
delete-same dev name = ap (λ b. first_passed ((not b, NoPartition) ∷ [])) (any-logical name dev.logical)

resize-same : (dev : Dev) (name : List ℕ) (size : ℕ) → resize_flaw (zeroed dev) name size ≡ resize_flaw dev name size
resize-same dev name size =
    ap (λ o. option_or o (room_flaw dev (resized name (round_up size) (sizes_of (map zeroed_logical dev.logical))))) (delete-same dev name)
    ∙ ap (λ sizes. option_or (delete_flaw dev name) (room_flaw dev (resized name (round_up size) sizes))) (sizes-same dev.logical)

abbrev create-by : Dev → List ℕ → ℕ → Bool → ℕ → List Size → Option StoreError
create-by dev name size taken many sizes =
    option_or
    (first_passed ((taken || is_super dev name, NameTaken) ∷ (nat_le 128 many, TooManyPartitions) ∷ (not (is_group dev.groups (codes "default")), NoGroup) ∷ []))
    (room_flaw dev (sizes ++ created_size name size ∷ []))

map-long : (ps : List Logical) → length (map zeroed_logical ps) ≡ length ps
map-long [] = refl
map-long (p ∷ ps) = ap (λ n. suc n) (map-long ps)

create-same : (dev : Dev) (name : List ℕ) (size : ℕ) → create_flaw (zeroed dev) name size ≡ create_flaw dev name size
create-same dev name size =
    ap (λ b. create-by dev name size b (length (map zeroed_logical dev.logical)) (sizes_of (map zeroed_logical dev.logical))) (partition-same dev name)
    ∙ (ap (λ n. create-by dev name size (is_partition dev name) n (sizes_of (map zeroed_logical dev.logical))) (map-long dev.logical)
    ∙ ap (λ sizes. create-by dev name size (is_partition dev name) (length dev.logical) sizes) (sizes-same dev.logical))

pub zeroed_refuses : ZeroedRefuses
zeroed_refuses = record { range = range-same; delete = delete-same; resize = resize-same; create = create-same }
