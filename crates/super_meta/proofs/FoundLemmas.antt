-- A table by its header and what follows it.
use Rattle.std.proofs.Common.{◌≡◌, ℕ, zero, suc, ◌+◌, ◌*◌, List, length, map, drop, Option, Some, None, Result, Ok, Err, refl, sym, ap, ◌∙◌}
use Rattle.std.specs.Result.{IsErrOf, result_err}
use Rattle.super_meta.specs.declared.errors.MetaError.{MetaError}
use Rattle.super_meta.specs.declared.errors.ReadError.{ReadError}
use Rattle.super_meta.specs.declared.errors.ReadError.TheVariants.{Bad}
use Rattle.super_meta.specs.declared.header.Header.{Header}
use Rattle.super_meta.specs.Flaws.{or_flaw, ◌or_else◌}
use Rattle.super_meta.specs.HeaderText.{header_size, lists_size, header_at, header_flaw, header_of}
use Rattle.super_meta.specs.Contents.{Content}
use Rattle.super_meta.specs.TableText.{content_in, entries_flaw, behind, table_flaw, table_of, table_size}
use Rattle.super_meta.specs.Entries.{rows, partition_of, extent_of, group_of}
use Rattle.std.proofs.lemmas.List.{length-map}

-- no flaw where a value was read, and the value is the one that stands there
pub no-flaw : {X : Type 0} (o : Option MetaError) (x y : X) → or_flaw o x ≡ Ok y → (o ≡ None) × (x ≡ y)
no-flaw None x y h = (refl, cc)
no-flaw (Some e) x y h = absurd cc

abbrev pub bad : (T : Type 0) → MetaError → Result T ReadError
bad T e = Err (Bad e)

pub bad-same : (T : Type 0) (e d : MetaError) → IsErrOf (bad T e) (Bad d) → e ≡ d
bad-same T e d h = cc

-- what is read where nothing is wrong after the header
pub read-ok : (bytes : List ℕ) (h : Header) (c : Content) → Ok h ≡ header_of bytes → None ≡ entries_flaw bytes h (behind bytes h) → c ≡ content_in h (behind bytes h) → table_of bytes ≡ Ok c
read-ok bytes h c a f e =
    let n = no-flaw (header_flaw bytes) (header_at bytes) h (sym a) in
    let entries : entries_flaw bytes (header_at bytes) (behind bytes (header_at bytes)) ≡ None = ap (λ x. entries_flaw bytes x (behind bytes x)) n.1 ∙ sym f in
    let whole : table_flaw bytes ≡ None = ap (λ o. o or_else entries_flaw bytes (header_at bytes) (behind bytes (header_at bytes))) n.0 ∙ entries in
    ap (λ o. or_flaw o (content_in (header_at bytes) (behind bytes (header_at bytes)))) whole
    ∙ (ap (λ x. Ok (content_in x (behind bytes x))) n.1 ∙ ap Ok (sym e))

-- and what is wrong where something is
pub read-err : (bytes : List ℕ) (h : Header) (d : MetaError) → Ok h ≡ header_of bytes → Some d ≡ entries_flaw bytes h (behind bytes h) → table_of bytes ≡ Err d
read-err bytes h d a f =
    let n = no-flaw (header_flaw bytes) (header_at bytes) h (sym a) in
    let entries : entries_flaw bytes (header_at bytes) (behind bytes (header_at bytes)) ≡ Some d = ap (λ x. entries_flaw bytes x (behind bytes x)) n.1 ∙ sym f in
    let whole : table_flaw bytes ≡ Some d = ap (λ o. o or_else entries_flaw bytes (header_at bytes) (behind bytes (header_at bytes))) n.0 ∙ entries in
    ap (λ o. or_flaw o (content_in (header_at bytes) (behind bytes (header_at bytes)))) whole

pub read-err-by : (T : Type 0) (bytes : List ℕ) (h : Header) (e : MetaError) → Ok h ≡ header_of bytes → Some e ≡ entries_flaw bytes h (behind bytes h) → (d : MetaError) → IsErrOf (bad T e) (Bad d) → table_of bytes ≡ Err d
read-err-by T bytes h e a f d k = read-err bytes h e a f ∙ ap Err (bad-same T e d k)

length-rows : (size n : ℕ) (bytes : List ℕ) → length (rows size n bytes) ≡ n
unfolding rows
length-rows size zero bytes = refl
length-rows size (suc more) bytes = ap suc (length-rows size more (drop size bytes))

pub count : {X : Type 0} (f : List ℕ → X) (size n : ℕ) (bytes : List ℕ) → length (map f (rows size n bytes)) ≡ n
count f size n bytes = length-map (rows size n bytes) f ∙ length-rows size n bytes

-- the size of what follows a header
pub size-in : (h : Header) (tables : List ℕ) (c : Content) → c ≡ content_in h tables → table_size c ≡ header_size h.minor + (lists_size h + 64)
unfolding content_in
size-in h tables c e =
    let a = count partition_of 52 h.partitions tables in
    let b = count extent_of 24 h.extents (drop (52 * h.partitions) tables) in
    let d = count group_of 48 h.groups (drop (52 * h.partitions + 24 * h.extents) tables) in
    ap table_size e ∙ rw (a, b, d) refl

pub ruleset sizes = (size-in)

-- what is wrong, by what is wrong after the header
pub behind-header : (bytes : List ℕ) (h : Header) (o : Option MetaError) → Ok h ≡ header_of bytes → o ≡ entries_flaw bytes h (behind bytes h) → result_err (table_of bytes) ≡ o
behind-header bytes h None a f = ap result_err (read-ok bytes h (content_in h (behind bytes h)) a f refl)
behind-header bytes h (Some d) a f = ap result_err (read-err bytes h d a f)
