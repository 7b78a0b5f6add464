-- What a device's variables tell is the same for all devices of the same names and lengths.
use Rattle.std.proofs.Common.{◌≡◌, ◌∙◌, refl, ap, sym, ℕ, Bool, true, false, List, [], ◌∷◌, ◌++◌, map, find, length, cond, Option}
use Rattle.std.specs.Prelude.{◌||◌, ◌&&◌, bytes_eq, flat_map, filter_map, codes, option_map, option_and_then, Some, None, if◌then◌else◌}
use Rattle.std.specs.Option.{option_or}
use Rattle.std.specs.Map.{lookup}
use Rattle.std.specs.List.{list_any}
use Rattle.std.proofs.lemmas.List.{length-replicate}
use Rattle.fb_frame.specs.Bytes.{zeros}
use Rattle.dev_model.specs.declared.device.Dev.{Dev}
use Rattle.dev_model.specs.declared.device.Physical.{Physical}
use Rattle.dev_model.specs.declared.device.Logical.{Logical}
use Rattle.dev_model.specs.Partitions.{is_partition, is_physical, is_logical, has_slots, bytes_of}
use Rattle.fb_frame.specs.Slots.{suffix}
use Rattle.fb_frame.specs.declared.slot.Slot.TheVariants.{A, B}
use Rattle.dev_model.specs.Variables.{Row as NamedText, partition_rows, device_rows, slot_rows, with_slots_only, plain_rows, all_rows, has_slot, has_slot_row, base_name, base_names, first_ones, slotted_name, value}
use Rattle.dev_store.specs.Held.{zeroed, zeroed_physical, zeroed_logical}
use Rattle.dev_store.specs.StoreCalls.{names_of, kind_of}
use Rattle.dev_store.specs.Laws.{ZeroedTells}
use Rattle.dev_store.proofs.ToldLemmas.{sized-rows}

-- a partition's name and length
abbrev pub Outline : Type 0
Outline = List ℕ × ℕ

abbrev pub physical-outline : Physical → Outline
physical-outline p = (p.name, length p.bytes)

abbrev pub logical-outline : Logical → Outline
logical-outline p = (p.name, length p.bytes)

abbrev physical-of : Outline → Physical
physical-of o = record { name = o.0; bytes = zeros o.1 }

abbrev logical-of : Outline → Logical
logical-of o = record { name = o.0; attributes = 0; group = []; bytes = zeros o.1 }

-- a device with the same names and lengths, and with nothing that no variable tells
abbrev pub plain-of : Dev → List Outline → List Outline → Dev
plain-of d ps ls = record d {
  physical = map physical-of ps;
  logical = map logical-of ls;
  geometry = record { max_size = 0; slots = 0 };
  groups = [];
  unit = 0;
  units = 0;
  super_size = 0;
  table_minor = 0;
  table_flags = 0;
}

abbrev pub bare : Dev → Dev
bare d = plain-of d (map physical-outline d.physical) (map logical-outline d.logical)

zeros-long : (n : ℕ) → length (zeros n) ≡ n
unfolding zeros
zeros-long n = length-replicate n 0

rows-same : (logical : Bool) (name : List ℕ) (bytes : List ℕ) → partition_rows logical name (zeros (length bytes)) ≡ partition_rows logical name bytes
rows-same logical name bytes = ap (sized-rows logical name) (zeros-long (length bytes))

physical-rows : (ps : List Physical) → flat_map (λ p. partition_rows false p.name p.bytes) (map physical-of (map physical-outline ps)) ≡ flat_map (λ p. partition_rows false p.name p.bytes) ps
physical-rows [] = refl
physical-rows (p ∷ ps) = let one = rows-same false p.name p.bytes in let more = physical-rows ps in λ i. one i ++ more i

logical-rows : (ps : List Logical) → flat_map (λ p. partition_rows true p.name p.bytes) (map logical-of (map logical-outline ps)) ≡ flat_map (λ p. partition_rows true p.name p.bytes) ps
logical-rows [] = refl
logical-rows (p ∷ ps) = let one = rows-same true p.name p.bytes in let more = logical-rows ps in λ i. one i ++ more i

physical-names : (ps : List Physical) → map (λ p. p.name) (map physical-of (map physical-outline ps)) ≡ map (λ p. p.name) ps
physical-names [] = refl
physical-names (p ∷ ps) = ap (λ rest. p.name ∷ rest) (physical-names ps)

logical-names : (ps : List Logical) → map (λ p. p.name) (map logical-of (map logical-outline ps)) ≡ map (λ p. p.name) ps
logical-names [] = refl
logical-names (p ∷ ps) = ap (λ rest. p.name ∷ rest) (logical-names ps)

physical-any : (n : List ℕ) (ps : List Physical) → list_any (λ p. bytes_eq p.name n) (map physical-of (map physical-outline ps)) ≡ list_any (λ p. bytes_eq p.name n) ps
physical-any n [] = refl
physical-any n (p ∷ ps) = ap (λ b. bytes_eq p.name n || b) (physical-any n ps)

logical-any : (n : List ℕ) (ps : List Logical) → list_any (λ p. bytes_eq p.name n) (map logical-of (map logical-outline ps)) ≡ list_any (λ p. bytes_eq p.name n) ps
logical-any n [] = refl
logical-any n (p ∷ ps) = ap (λ b. bytes_eq p.name n || b) (logical-any n ps)

partition-bare : (d : Dev) (n : List ℕ) → is_partition (bare d) n ≡ is_partition d n
partition-bare d n = ap (λ b. b || is_logical (bare d) n) (physical-any n d.physical) ∙ ap (λ b. is_physical d n || b) (logical-any n d.logical)

kind-bare : (d : Dev) (n : List ℕ) → kind_of (bare d) n ≡ kind_of d n
kind-bare d n = ap (λ b. if b then Some (is_logical (bare d) n) else None) (partition-bare d n) ∙ ap (λ b. if is_partition d n then Some b else None) (logical-any n d.logical)

-- the length of the first of a name
physical-length : (n : List ℕ) (ps : List Physical) → option_map length (option_map (λ p. p.bytes) (find (λ p. bytes_eq p.name n) (map physical-of (map physical-outline ps)))) ≡ option_map length (option_map (λ p. p.bytes) (find (λ p. bytes_eq p.name n) ps))
physical-length n [] = refl
physical-length n (p ∷ ps) = by (bytes_eq p.name n) (physical-length n ps)
  where
    by : (b : Bool) → option_map length (option_map (λ p. p.bytes) (find (λ p. bytes_eq p.name n) (map physical-of (map physical-outline ps)))) ≡ option_map length (option_map (λ p. p.bytes) (find (λ p. bytes_eq p.name n) ps)) →
        option_map length (option_map (λ p. p.bytes) (cond b (Some (physical-of (physical-outline p))) (find (λ p. bytes_eq p.name n) (map physical-of (map physical-outline ps)))))
        ≡ option_map length (option_map (λ p. p.bytes) (cond b (Some p) (find (λ p. bytes_eq p.name n) ps)))
    by true h = ap Some (zeros-long (length p.bytes))
    by false h = h

logical-length : (n : List ℕ) (ps : List Logical) → option_map length (option_map (λ p. p.bytes) (find (λ p. bytes_eq p.name n) (map logical-of (map logical-outline ps)))) ≡ option_map length (option_map (λ p. p.bytes) (find (λ p. bytes_eq p.name n) ps))
logical-length n [] = refl
logical-length n (p ∷ ps) = by (bytes_eq p.name n) (logical-length n ps)
  where
    by : (b : Bool) → option_map length (option_map (λ p. p.bytes) (find (λ p. bytes_eq p.name n) (map logical-of (map logical-outline ps)))) ≡ option_map length (option_map (λ p. p.bytes) (find (λ p. bytes_eq p.name n) ps)) →
        option_map length (option_map (λ p. p.bytes) (cond b (Some (logical-of (logical-outline p))) (find (λ p. bytes_eq p.name n) (map logical-of (map logical-outline ps)))))
        ≡ option_map length (option_map (λ p. p.bytes) (cond b (Some p) (find (λ p. bytes_eq p.name n) ps)))
    by true h = ap Some (zeros-long (length p.bytes))
    by false h = h

pub or-length : (a b : Option (List ℕ)) → option_map length (option_or a b) ≡ option_or (option_map length a) (option_map length b)
or-length None b = refl
or-length (Some bytes) b = refl

abbrev named-bytes : Dev → List ℕ → Option (List ℕ)
named-bytes d n = option_map (λ p. p.bytes) (find (λ p. bytes_eq p.name n) d.physical)

abbrev logical-bytes : Dev → List ℕ → Option (List ℕ)
logical-bytes d n = option_map (λ p. p.bytes) (find (λ p. bytes_eq p.name n) d.logical)

length-bare : (d : Dev) (n : List ℕ) → option_map length (bytes_of (bare d) n) ≡ option_map length (bytes_of d n)
length-bare d n =
    or-length (named-bytes (bare d) n) (logical-bytes (bare d) n)
    ∙ (ap (λ o. option_or o (option_map length (logical-bytes (bare d) n))) (physical-length n d.physical)
    ∙ (ap (option_or (option_map length (named-bytes d n))) (logical-length n d.logical)
    ∙ sym (or-length (named-bytes d n) (logical-bytes d n))))

partitions-bare : (d : Dev) → is_partition (bare d) ≡ is_partition d
partitions-bare d = let e = partition-bare d in λ i. λ n. e n i

pub names-bare : (d : Dev) → names_of (bare d) ≡ names_of d
names-bare d = ap (λ l. l ++ map (λ p. p.name) (bare d).logical) (physical-names d.physical) ∙ ap (λ l. map (λ p. p.name) d.physical ++ l) (logical-names d.logical)

abbrev front-rows : Dev → List NamedText
front-rows d = device_rows d ++ map (λ v. (v.name, v.text)) d.vars ++ with_slots_only d (slot_rows A d.flags.a ++ slot_rows B d.flags.b)

plain-bare : (d : Dev) → plain_rows (bare d) ≡ plain_rows d
plain-bare d =
    ap (λ l. (front-rows d ++ l) ++ flat_map (λ p. partition_rows true p.name p.bytes) (bare d).logical) (physical-rows d.physical)
    ∙ ap (λ l. (front-rows d ++ flat_map (λ p. partition_rows false p.name p.bytes) d.physical) ++ l) (logical-rows d.logical)

abbrev slot-by : Dev → (List ℕ → Bool) → List ℕ → Option (List ℕ)
slot-by d is name = if has_slots d && (is (name ++ suffix A) || is (name ++ suffix B)) then Some (codes "yes") else (if is name then Some (codes "no") else None)

has-bare : (d : Dev) → has_slot (bare d) ≡ has_slot d
has-bare d = ap (slot-by d) (partitions-bare d)

base-bare : (d : Dev) → base_names (bare d) ≡ base_names d
base-bare d = ap (λ l. first_ones (map (base_name d) l)) (names-bare d)

pub value-bare : (d : Dev) (name : List ℕ) → value (bare d) name ≡ value d name
unfolding value
value-bare d name =
    ap (λ rows. option_or (lookup (λ n. bytes_eq n name) rows) (option_and_then (has_slot (bare d)) (slotted_name name))) (plain-bare d)
    ∙ ap (λ f. option_or (lookup (λ n. bytes_eq n name) (plain_rows d)) (option_and_then f (slotted_name name))) (has-bare d)

pub all-bare : (d : Dev) → all_rows (bare d) ≡ all_rows d
unfolding all_rows
all-bare d =
    ap (λ rows. rows ++ filter_map (has_slot_row (bare d)) (base_names (bare d))) (plain-bare d)
    ∙ (ap (λ bs. plain_rows d ++ filter_map (has_slot_row (bare d)) bs) (base-bare d)
    ∙ ap (λ (f : List ℕ → Option (List ℕ)). plain_rows d ++ filter_map (λ base. option_map (λ text. (codes "has-slot:" ++ base, text)) (f base)) (base_names d)) (has-bare d))

-- Devices of the same names and lengths, and alike in all else that variables tell, tell the same. Each partition
-- is of the same kind in both.
pub record TellAlike (d e : Dev) : Type 0 where
  pub value : (name : List ℕ) → value d name ≡ value e name
  pub all : all_rows d ≡ all_rows e
  pub plain : plain_rows d ≡ plain_rows e
  pub names : names_of d ≡ names_of e
  pub kind : (name : List ℕ) → kind_of d name ≡ kind_of e name
  pub length : (name : List ℕ) → option_map length (bytes_of d name) ≡ option_map length (bytes_of e name)

pub tell-alike : (d e : Dev) → bare d ≡ bare e → TellAlike d e
tell-alike d e h = record {
  value = λ name. sym (value-bare d name) ∙ (ap (λ x. value x name) h ∙ value-bare e name);
  all = sym (all-bare d) ∙ (ap all_rows h ∙ all-bare e);
  plain = sym (plain-bare d) ∙ (ap plain_rows h ∙ plain-bare e);
  names = sym (names-bare d) ∙ (ap names_of h ∙ names-bare e);
  kind = λ name. sym (kind-bare d name) ∙ (ap (λ x. kind_of x name) h ∙ kind-bare e name);
  length = λ name. sym (length-bare d name) ∙ (ap (λ x. option_map length (bytes_of x name)) h ∙ length-bare e name);
}

physical-zeroed : (ps : List Physical) → map physical-outline (map zeroed_physical ps) ≡ map physical-outline ps
physical-zeroed [] = refl
physical-zeroed (p ∷ ps) = let n = zeros-long (length p.bytes) in let more = physical-zeroed ps in λ i. (p.name, n i) ∷ more i

logical-zeroed : (ps : List Logical) → map logical-outline (map zeroed_logical ps) ≡ map logical-outline ps
logical-zeroed [] = refl
logical-zeroed (p ∷ ps) = let n = zeros-long (length p.bytes) in let more = logical-zeroed ps in λ i. (p.name, n i) ∷ more i

bare-zeroed : (d : Dev) → bare (zeroed d) ≡ bare d
bare-zeroed d = ap (λ ps. plain-of d ps (map logical-outline (map zeroed_logical d.logical))) (physical-zeroed d.physical) ∙ ap (plain-of d (map physical-outline d.physical)) (logical-zeroed d.logical)

pub zeroed_tells : ZeroedTells
zeroed_tells dev = let t = tell-alike (zeroed dev) dev (bare-zeroed dev) in record { value = t.value; all = t.all; names = t.names }
