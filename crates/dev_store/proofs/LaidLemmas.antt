-- Layouts that are read keep the conditions of their lines.
use Rattle.std.proofs.Common.{◌≡◌, ◌∙◌, refl, ap, sym, subst, ℕ, ◌+◌, Bool, true, false, not, ◌&&◌, ◌||◌, List, [], ◌∷◌, ◌++◌, map, length, Option, Some, None, Result, Ok, Err, inl, inr, option_map, option_to_list, unwrap_or, ◌==◌, if◌then◌else◌, arith}
use Rattle.std.specs.Prelude.{◌⊎◌, bytes_eq, nat_le, nat_lt, nat_eq, codes, filter_map, option_and_then, flat_map, drop}
use Rattle.std.specs.Option.{option_or}
use Rattle.std.specs.List.{list_all, list_any, starts_with, slice_split}
use Rattle.std.proofs.lemmas.Slice.Eq.{bytes_eq-Decides}
use Rattle.std.proofs.lemmas.List.Elements.{filter_map-append}
use Rattle.std.proofs.lemmas.Grind.{flat_map-append}
use Rattle.std.proofs.lemmas.Bool.Decides.{nat_tests}
use Rattle.fb_frame.specs.NameText.{is_name}
use Rattle.fb_frame.specs.Numbers.{digits_worth}
use Rattle.dev_model.specs.declared.device.Variable.{Variable}
use Rattle.dev_model.specs.Options.{first_passed}
use Rattle.fb_frame.specs.Distinct.{are_distinct}
use Rattle.dev_model.specs.Validity.{is_between, is_label, is_variable}
use Rattle.dev_model.proofs.Valid.{both, and-true}
use Rattle.dev_model.proofs.Names.{Mem, among, any-mem, mem-any, mem-append, Apart, distinct-join, distinct-right, distinct-apart}
use Rattle.dev_store.specs.declared.layout.LayoutKind.{LayoutKind}
use Rattle.dev_store.specs.declared.layout.LayoutKind.TheVariants.{BadFirst, Duplicate, BadSize, TooMany, NoRoom, TooLong}
use Rattle.dev_store.specs.declared.layout.LayoutError.{LayoutError}
use Rattle.dev_store.specs.declared.layout.PhysicalPart.{PhysicalPart}
use Rattle.dev_store.specs.declared.layout.SuperPart.{SuperPart}
use Rattle.dev_store.specs.declared.entries.Entry.{Entry}
use Rattle.dev_store.specs.declared.entries.Entry.TheVariants.{ProductLine, SerialLine, SlotsLine, DownloadLine, VariableLine, PartitionLine, SuperLine}
use Rattle.dev_store.specs.LayoutLines.{entry_of, behind, is_number, variable_of, partition_of, super_of, at_space, is_space, is_size, is_sized, has_room, keys, is_taken, is_repeated, is_too_many, entry_flaw, variable_in, partition_in, super_in, lines}
use Rattle.dev_store.specs.Laid.{IsLaid, is_good_super}
use Rattle.dev_store.specs.Laws.{LaidValid}
use Rattle.dev_store.specs.Layouts.{LayoutValue, layout_of, layout_with, first_of, product_in, serial_in, slots_in, download_in, read_lines, added, unless_flawed, at_line, is_complete, entries_of, with_text, is_first_line}

-- the text of a line is of its form
abbrev pub formed : Entry → Bool
formed (ProductLine text) = is_label text
formed (SerialLine text) = is_label text
formed (VariableLine v) = is_variable v
formed (PartitionLine p) = is_name p.name
formed (SuperLine s) = is_name s.name
formed _ = true

abbrev Good : Option Entry → Type 0
Good None = Unit {0}
Good (Some e) = formed e ≡ true

good-or : (a b : Option Entry) → Good a → Good b → Good (option_or a b)
good-or None b g h = h
good-or (Some e) b g h = g

good-if : (b : Bool) (o : Option Entry) → Good o → Good (if b then o else None)
good-if true o g = g
good-if false o g = tt

good-behind : (word : List ℕ) (read : List ℕ → Option Entry) (line : List ℕ) → ((rest : List ℕ) → Good (read rest)) → Good (behind word read line)
good-behind word read line h = good-if (starts_with nat_eq line word) (read (drop (length word) line)) (h (drop (length word) line))

good-test : (b : Bool) (e : Entry) → (b ≡ true → formed e ≡ true) → Good (if b then Some e else None)
good-test true e h = h refl
good-test false e h = tt

label-cases : (make : List ℕ → Entry) (rest : List ℕ) (b : Bool) → (b ≡ true → formed (make rest) ≡ true) → Good (option_map make (if b then Some rest else None))
label-cases make rest true h = h refl
label-cases make rest false h = tt

number-cases : (make : ℕ → Entry) (n : ℕ) (b : Bool) → formed (make n) ≡ true → Good (option_map make (if b then Some n else None))
number-cases make n true h = h
number-cases make n false h = tt

good-variable : (o : Option (List ℕ × List ℕ)) → Good (variable_of o)
good-variable None = tt
good-variable (Some (name, text)) =
    let v : Variable = record { name = name; text = text } in good-test (is_variable v) (VariableLine v) (λ e. e)

good-partition : (words : List (List ℕ)) → Good (partition_of words)
good-partition [] = tt
good-partition (name ∷ []) = tt
good-partition (name ∷ size ∷ []) = good-test (is_name name && is_number size) _ (λ e. (both (is_name name) (is_number size) e).0)
good-partition (name ∷ size ∷ more ∷ rest) = tt

good-super : (words : List (List ℕ)) → Good (super_of words)
good-super [] = tt
good-super (a ∷ []) = tt
good-super (a ∷ b ∷ []) = tt
good-super (a ∷ b ∷ c ∷ []) = tt
good-super (a ∷ b ∷ c ∷ d ∷ []) = tt
good-super (a ∷ b ∷ c ∷ d ∷ e ∷ []) =
    good-test (is_name a && is_number b && is_number c && is_number d && is_number e) _ (λ h.
    let k = (both (is_name a && is_number b && is_number c && is_number d) (is_number e) h).0 in
    let l = (both (is_name a && is_number b && is_number c) (is_number d) k).0 in
    let m = (both (is_name a && is_number b) (is_number c) l).0 in
    (both (is_name a) (is_number b) m).0)
good-super (a ∷ b ∷ c ∷ d ∷ e ∷ f ∷ rest) = tt

good-entry : (line : List ℕ) → Good (entry_of line)
unfolding entry_of
good-entry line =
    good-or _ _ (good-behind (codes "product ") _ line (λ rest. label-cases ProductLine rest (is_label rest) (λ e. e)))
    (good-or _ _ (good-behind (codes "serialno ") _ line (λ rest. label-cases SerialLine rest (is_label rest) (λ e. e)))
    (good-or _ _ (good-behind (codes "slots ") _ line (λ rest. number-cases SlotsLine (digits_worth rest) (is_number rest) refl))
    (good-or _ _ (good-behind (codes "max-download ") _ line (λ rest. number-cases DownloadLine (digits_worth rest) (is_number rest) refl))
    (good-or _ _ (good-behind (codes "var ") _ line (λ rest. good-variable (at_space rest)))
    (good-or _ _ (good-behind (codes "partition ") _ line (λ rest. good-partition (slice_split is_space rest)))
    (good-behind (codes "super ") _ line (λ rest. good-super (slice_split is_space rest))))))))

-- what the lines before keep
pub record Fine (before : List Entry) : Type 0 where
  pub formed_all : list_all formed before ≡ true
  pub sized : list_all is_sized before ≡ true
  pub roomy : list_all has_room before ≡ true
  pub apart : are_distinct (flat_map keys before) ≡ true
  pub variables : nat_le (length (filter_map variable_in before)) 64 ≡ true
  pub parts : nat_le (length (filter_map partition_in before)) 64 ≡ true

all-push : (p : Entry → Bool) (xs : List Entry) (e : Entry) → list_all p xs ≡ true → p e ≡ true → list_all p (xs ++ e ∷ []) ≡ true
all-push p [] e h k = and-true (p e) true k refl
all-push p (x ∷ xs) e h k =
    let parts = both (p x) (list_all p xs) h in and-true (p x) (list_all p (xs ++ e ∷ [])) parts.0 (all-push p xs e parts.1 k)

pub record NoFlaw (a b c d : Bool) : Type 0 where
  pub sized : a ≡ true
  pub once : b ≡ false
  pub few : c ≡ false
  pub roomy : d ≡ true

flaw-none : (a b c d : Bool) → first_passed ((not a, BadSize) ∷ (b, Duplicate) ∷ (c, TooMany) ∷ (not d, NoRoom) ∷ []) ≡ None → NoFlaw a b c d
flaw-none false b c d h = absurd cc
flaw-none true true c d h = absurd cc
flaw-none true false true d h = absurd cc
flaw-none true false false false h = absurd cc
flaw-none true false false true h = record { sized = refl; once = refl; few = refl; roomy = refl }

false-true : (b : Bool) → b ≡ false → b ≡ true → ⊥
false-true true h k = cc
false-true false h k = cc

none-of : (p : List ℕ → Bool) (xs : List (List ℕ)) (x : List ℕ) → list_any p xs ≡ false → Mem x xs → p x ≡ false
none-of p [] x h m = absurd m
none-of p (y ∷ ys) x h (inl e) = subst (λ z. p z ≡ false) e (first-false (p y) (list_any p ys) h) where
  first-false : (a b : Bool) → (a || b) ≡ false → a ≡ false
  first-false true b k = absurd cc
  first-false false b k = refl
none-of p (y ∷ ys) x h (inr m) = none-of p ys x (rest-false (p y) (list_any p ys) h) m where
  rest-false : (a b : Bool) → (a || b) ≡ false → b ≡ false
  rest-false true b k = absurd cc
  rest-false false b k = k

own-keys : (e : Entry) → are_distinct (keys e ++ []) ≡ true
own-keys (ProductLine text) = refl
own-keys (SerialLine text) = refl
own-keys (SlotsLine n) = refl
own-keys (DownloadLine n) = refl
own-keys (VariableLine v) = refl
own-keys (PartitionLine p) = refl
own-keys (SuperLine s) = refl

keys-apart : (before : List Entry) (e : Entry) → is_repeated before e ≡ false → Apart (flat_map keys before) (keys e ++ [])
keys-apart before e h x m n = in-keys (mem-append x (keys e) [] n) where
  in-keys : Mem x (keys e) ⊎ ⊥ → ⊥
  in-keys (inl k) = false-true (is_taken before x) (none-of (is_taken before) (keys e) x h k) (mem-any x (flat_map keys before) m)
  in-keys (inr k) = absurd k

many : {X : Type 0} (sel : Entry → Option X) (before : List Entry) (e : Entry) →
    length (filter_map sel (before ++ e ∷ [])) ≡ length (filter_map sel before ++ filter_map sel (e ∷ []))
many sel before e = ap length (filter_map-append sel before (e ∷ []))

more-many : {X : Type 0} (xs : List X) (x : X) → length (xs ++ x ∷ []) ≡ length xs + 1
more-many [] x = refl
more-many (y ∷ xs) x = let i = more-many xs x in omega arith

same-many : {X : Type 0} (xs : List X) → length (xs ++ []) ≡ length xs
same-many [] = refl
same-many (y ∷ xs) = let i = same-many xs in omega arith

below : (n : ℕ) → nat_le 64 n ≡ false → nat_le (n + 1) 64 ≡ true
below n h = grind (arith, nat_tests)

count-variables : (before : List Entry) (e : Entry) → nat_le (length (filter_map variable_in before)) 64 ≡ true → is_too_many before e ≡ false →
    nat_le (length (filter_map variable_in before ++ filter_map variable_in (e ∷ []))) 64 ≡ true
count-variables before (VariableLine v) h k = ap (λ n. nat_le n 64) (more-many (filter_map variable_in before) v) ∙ below (length (filter_map variable_in before)) k
count-variables before (ProductLine text) h k = ap (λ n. nat_le n 64) (same-many (filter_map variable_in before)) ∙ h
count-variables before (SerialLine text) h k = ap (λ n. nat_le n 64) (same-many (filter_map variable_in before)) ∙ h
count-variables before (SlotsLine n) h k = ap (λ n. nat_le n 64) (same-many (filter_map variable_in before)) ∙ h
count-variables before (DownloadLine n) h k = ap (λ n. nat_le n 64) (same-many (filter_map variable_in before)) ∙ h
count-variables before (PartitionLine p) h k = ap (λ n. nat_le n 64) (same-many (filter_map variable_in before)) ∙ h
count-variables before (SuperLine s) h k = ap (λ n. nat_le n 64) (same-many (filter_map variable_in before)) ∙ h

count-parts : (before : List Entry) (e : Entry) → nat_le (length (filter_map partition_in before)) 64 ≡ true → is_too_many before e ≡ false →
    nat_le (length (filter_map partition_in before ++ filter_map partition_in (e ∷ []))) 64 ≡ true
count-parts before (PartitionLine p) h k = ap (λ n. nat_le n 64) (more-many (filter_map partition_in before) p) ∙ below (length (filter_map partition_in before)) k
count-parts before (ProductLine text) h k = ap (λ n. nat_le n 64) (same-many (filter_map partition_in before)) ∙ h
count-parts before (SerialLine text) h k = ap (λ n. nat_le n 64) (same-many (filter_map partition_in before)) ∙ h
count-parts before (SlotsLine n) h k = ap (λ n. nat_le n 64) (same-many (filter_map partition_in before)) ∙ h
count-parts before (DownloadLine n) h k = ap (λ n. nat_le n 64) (same-many (filter_map partition_in before)) ∙ h
count-parts before (VariableLine v) h k = ap (λ n. nat_le n 64) (same-many (filter_map partition_in before)) ∙ h
count-parts before (SuperLine s) h k = ap (λ n. nat_le n 64) (same-many (filter_map partition_in before)) ∙ h

push : (before : List Entry) (e : Entry) → Fine before → formed e ≡ true → entry_flaw before e ≡ None → Fine (before ++ e ∷ [])
push before e f g h =
    let no = flaw-none (is_sized e) (is_repeated before e) (is_too_many before e) (has_room e) h in
    record {
      formed_all = all-push formed before e f.formed_all g;
      sized = all-push is_sized before e f.sized no.sized;
      roomy = all-push has_room before e f.roomy no.roomy;
      apart = subst (λ ks. are_distinct ks ≡ true) (sym (flat_map-append keys before (e ∷ [])))
          (distinct-join (flat_map keys before) (keys e ++ []) f.apart (own-keys e) (keys-apart before e no.once));
      variables = ap (λ n. nat_le n 64) (many variable_in before e) ∙ count-variables before e f.variables no.few;
      parts = ap (λ n. nat_le n 64) (many partition_in before e) ∙ count-parts before e f.parts no.few;
    }

-- all lines that were read
pub record Read (entries : List Entry) : Type 0 where
  pub fine : Fine entries
  pub complete : is_complete entries ≡ true

same-ok : (x y : List Entry) (r : Result (List Entry) LayoutError) → r ≡ Ok x → r ≡ Ok y → x ≡ y
same-ok x y (Ok z) h k = cc
same-ok x y (Err e) h k = absurd cc

ends : (before entries : List Entry) (bad : LayoutError) (b : Bool) → is_complete before ≡ b → (if b then Ok before else Err bad) ≡ Ok entries → Fine before → Read entries
ends before entries bad true e h f =
    let same : before ≡ entries = same-ok before entries (Ok before) refl h in
    record { fine = subst Fine same f; complete = subst (λ x. is_complete x ≡ true) same e }
ends before entries bad false e h f = absurd cc

-- a line that is added
goes : (number : ℕ) (before entries : List Entry) (o : Option Entry) (more : List Entry → Result (List Entry) LayoutError) → Good o → Fine before →
    ((next : List Entry) → Fine next → more next ≡ Ok entries → Read entries) → added number before o more ≡ Ok entries → Read entries
goes number before entries None more g f k h = absurd cc
goes number before entries (Some e) more g f k h = flawed (entry_flaw before e) refl h where
  flawed : (flaw : Option LayoutKind) → entry_flaw before e ≡ flaw → unless_flawed number flaw (more (before ++ e ∷ [])) ≡ Ok entries → Read entries
  flawed None q r = k (before ++ e ∷ []) (push before e f g q) r
  flawed (Some kind) q r = absurd cc

good-line : (line : Option (List ℕ)) → Good (option_and_then entry_of line)
good-line None = tt
good-line (Some line) = good-entry line

reads : (number : ℕ) (before entries : List Entry) (lines : List (Option (List ℕ))) → Fine before → read_lines number before lines ≡ Ok entries → Read entries
reads number before entries [] f h = ends before entries _ (is_complete before) refl h f
reads number before entries (line ∷ rest) f h =
    goes number before entries (option_and_then entry_of line) (λ next. read_lines (number + 1) next rest) (good-line line) f
    (λ next g r. reads (number + 1) next entries rest g r) h

fine-nil : Fine []
fine-nil = record { formed_all = refl; sized = refl; roomy = refl; apart = refl; variables = refl; parts = refl }

all-variables : (entries : List Entry) → list_all formed entries ≡ true → list_all is_variable (filter_map variable_in entries) ≡ true
all-variables [] a = refl
all-variables (ProductLine text ∷ rest) a = all-variables rest (both (formed (ProductLine text)) (list_all formed rest) a).1
all-variables (SerialLine text ∷ rest) a = all-variables rest (both (formed (SerialLine text)) (list_all formed rest) a).1
all-variables (SlotsLine n ∷ rest) a = all-variables rest (both (formed (SlotsLine n)) (list_all formed rest) a).1
all-variables (DownloadLine n ∷ rest) a = all-variables rest (both (formed (DownloadLine n)) (list_all formed rest) a).1
all-variables (VariableLine v ∷ rest) a = let h = both (formed (VariableLine v)) (list_all formed rest) a in and-true _ (list_all is_variable (filter_map variable_in rest)) (h.0) (all-variables rest h.1)
all-variables (PartitionLine p ∷ rest) a = all-variables rest (both (formed (PartitionLine p)) (list_all formed rest) a).1
all-variables (SuperLine s ∷ rest) a = all-variables rest (both (formed (SuperLine s)) (list_all formed rest) a).1

abbrev part-named : PhysicalPart → Bool
part-named p = is_name p.name

abbrev part-sized : PhysicalPart → Bool
part-sized p = is_size p.size

abbrev super-named : SuperPart → Bool
super-named s = is_name s.name

abbrev super-sized : SuperPart → Bool
super-sized s = is_sized (SuperLine s)

abbrev super-roomy : SuperPart → Bool
super-roomy s = has_room (SuperLine s)

abbrev slots-good : ℕ → Bool
slots-good n = n == 0 || n == 2

abbrev download-good : ℕ → Bool
download-good n = is_between 131072 268435456 n

all-named : (entries : List Entry) → list_all formed entries ≡ true → list_all part-named (filter_map partition_in entries) ≡ true
all-named [] a = refl
all-named (ProductLine text ∷ rest) a = all-named rest (both (formed (ProductLine text)) (list_all formed rest) a).1
all-named (SerialLine text ∷ rest) a = all-named rest (both (formed (SerialLine text)) (list_all formed rest) a).1
all-named (SlotsLine n ∷ rest) a = all-named rest (both (formed (SlotsLine n)) (list_all formed rest) a).1
all-named (DownloadLine n ∷ rest) a = all-named rest (both (formed (DownloadLine n)) (list_all formed rest) a).1
all-named (VariableLine v ∷ rest) a = all-named rest (both (formed (VariableLine v)) (list_all formed rest) a).1
all-named (PartitionLine p ∷ rest) a = let h = both (formed (PartitionLine p)) (list_all formed rest) a in and-true _ (list_all part-named (filter_map partition_in rest)) (h.0) (all-named rest h.1)
all-named (SuperLine s ∷ rest) a = all-named rest (both (formed (SuperLine s)) (list_all formed rest) a).1

all-sized : (entries : List Entry) → list_all is_sized entries ≡ true → list_all part-sized (filter_map partition_in entries) ≡ true
all-sized [] a = refl
all-sized (ProductLine text ∷ rest) a = all-sized rest (both (is_sized (ProductLine text)) (list_all is_sized rest) a).1
all-sized (SerialLine text ∷ rest) a = all-sized rest (both (is_sized (SerialLine text)) (list_all is_sized rest) a).1
all-sized (SlotsLine n ∷ rest) a = all-sized rest (both (is_sized (SlotsLine n)) (list_all is_sized rest) a).1
all-sized (DownloadLine n ∷ rest) a = all-sized rest (both (is_sized (DownloadLine n)) (list_all is_sized rest) a).1
all-sized (VariableLine v ∷ rest) a = all-sized rest (both (is_sized (VariableLine v)) (list_all is_sized rest) a).1
all-sized (PartitionLine p ∷ rest) a = let h = both (is_sized (PartitionLine p)) (list_all is_sized rest) a in and-true _ (list_all part-sized (filter_map partition_in rest)) (h.0) (all-sized rest h.1)
all-sized (SuperLine s ∷ rest) a = all-sized rest (both (is_sized (SuperLine s)) (list_all is_sized rest) a).1

super-names : (entries : List Entry) → list_all formed entries ≡ true → list_all super-named (filter_map super_in entries) ≡ true
super-names [] a = refl
super-names (ProductLine text ∷ rest) a = super-names rest (both (formed (ProductLine text)) (list_all formed rest) a).1
super-names (SerialLine text ∷ rest) a = super-names rest (both (formed (SerialLine text)) (list_all formed rest) a).1
super-names (SlotsLine n ∷ rest) a = super-names rest (both (formed (SlotsLine n)) (list_all formed rest) a).1
super-names (DownloadLine n ∷ rest) a = super-names rest (both (formed (DownloadLine n)) (list_all formed rest) a).1
super-names (VariableLine v ∷ rest) a = super-names rest (both (formed (VariableLine v)) (list_all formed rest) a).1
super-names (PartitionLine p ∷ rest) a = super-names rest (both (formed (PartitionLine p)) (list_all formed rest) a).1
super-names (SuperLine s ∷ rest) a = let h = both (formed (SuperLine s)) (list_all formed rest) a in and-true _ (list_all super-named (filter_map super_in rest)) (h.0) (super-names rest h.1)

super-sizes : (entries : List Entry) → list_all is_sized entries ≡ true → list_all super-sized (filter_map super_in entries) ≡ true
super-sizes [] a = refl
super-sizes (ProductLine text ∷ rest) a = super-sizes rest (both (is_sized (ProductLine text)) (list_all is_sized rest) a).1
super-sizes (SerialLine text ∷ rest) a = super-sizes rest (both (is_sized (SerialLine text)) (list_all is_sized rest) a).1
super-sizes (SlotsLine n ∷ rest) a = super-sizes rest (both (is_sized (SlotsLine n)) (list_all is_sized rest) a).1
super-sizes (DownloadLine n ∷ rest) a = super-sizes rest (both (is_sized (DownloadLine n)) (list_all is_sized rest) a).1
super-sizes (VariableLine v ∷ rest) a = super-sizes rest (both (is_sized (VariableLine v)) (list_all is_sized rest) a).1
super-sizes (PartitionLine p ∷ rest) a = super-sizes rest (both (is_sized (PartitionLine p)) (list_all is_sized rest) a).1
super-sizes (SuperLine s ∷ rest) a = let h = both (is_sized (SuperLine s)) (list_all is_sized rest) a in and-true _ (list_all super-sized (filter_map super_in rest)) (h.0) (super-sizes rest h.1)

super-rooms : (entries : List Entry) → list_all has_room entries ≡ true → list_all super-roomy (filter_map super_in entries) ≡ true
super-rooms [] a = refl
super-rooms (ProductLine text ∷ rest) a = super-rooms rest (both (has_room (ProductLine text)) (list_all has_room rest) a).1
super-rooms (SerialLine text ∷ rest) a = super-rooms rest (both (has_room (SerialLine text)) (list_all has_room rest) a).1
super-rooms (SlotsLine n ∷ rest) a = super-rooms rest (both (has_room (SlotsLine n)) (list_all has_room rest) a).1
super-rooms (DownloadLine n ∷ rest) a = super-rooms rest (both (has_room (DownloadLine n)) (list_all has_room rest) a).1
super-rooms (VariableLine v ∷ rest) a = super-rooms rest (both (has_room (VariableLine v)) (list_all has_room rest) a).1
super-rooms (PartitionLine p ∷ rest) a = super-rooms rest (both (has_room (PartitionLine p)) (list_all has_room rest) a).1
super-rooms (SuperLine s ∷ rest) a = let h = both (has_room (SuperLine s)) (list_all has_room rest) a in and-true _ (list_all super-roomy (filter_map super_in rest)) (h.0) (super-rooms rest h.1)

all-products : (entries : List Entry) → list_all formed entries ≡ true → list_all is_label (filter_map product_in entries) ≡ true
all-products [] a = refl
all-products (ProductLine text ∷ rest) a = let h = both (formed (ProductLine text)) (list_all formed rest) a in and-true _ (list_all is_label (filter_map product_in rest)) (h.0) (all-products rest h.1)
all-products (SerialLine text ∷ rest) a = all-products rest (both (formed (SerialLine text)) (list_all formed rest) a).1
all-products (SlotsLine n ∷ rest) a = all-products rest (both (formed (SlotsLine n)) (list_all formed rest) a).1
all-products (DownloadLine n ∷ rest) a = all-products rest (both (formed (DownloadLine n)) (list_all formed rest) a).1
all-products (VariableLine v ∷ rest) a = all-products rest (both (formed (VariableLine v)) (list_all formed rest) a).1
all-products (PartitionLine p ∷ rest) a = all-products rest (both (formed (PartitionLine p)) (list_all formed rest) a).1
all-products (SuperLine s ∷ rest) a = all-products rest (both (formed (SuperLine s)) (list_all formed rest) a).1

all-serials : (entries : List Entry) → list_all formed entries ≡ true → list_all is_label (filter_map serial_in entries) ≡ true
all-serials [] a = refl
all-serials (ProductLine text ∷ rest) a = all-serials rest (both (formed (ProductLine text)) (list_all formed rest) a).1
all-serials (SerialLine text ∷ rest) a = let h = both (formed (SerialLine text)) (list_all formed rest) a in and-true _ (list_all is_label (filter_map serial_in rest)) (h.0) (all-serials rest h.1)
all-serials (SlotsLine n ∷ rest) a = all-serials rest (both (formed (SlotsLine n)) (list_all formed rest) a).1
all-serials (DownloadLine n ∷ rest) a = all-serials rest (both (formed (DownloadLine n)) (list_all formed rest) a).1
all-serials (VariableLine v ∷ rest) a = all-serials rest (both (formed (VariableLine v)) (list_all formed rest) a).1
all-serials (PartitionLine p ∷ rest) a = all-serials rest (both (formed (PartitionLine p)) (list_all formed rest) a).1
all-serials (SuperLine s ∷ rest) a = all-serials rest (both (formed (SuperLine s)) (list_all formed rest) a).1

all-slots : (entries : List Entry) → list_all is_sized entries ≡ true → list_all slots-good (filter_map slots_in entries) ≡ true
all-slots [] a = refl
all-slots (ProductLine text ∷ rest) a = all-slots rest (both (is_sized (ProductLine text)) (list_all is_sized rest) a).1
all-slots (SerialLine text ∷ rest) a = all-slots rest (both (is_sized (SerialLine text)) (list_all is_sized rest) a).1
all-slots (SlotsLine n ∷ rest) a = let h = both (is_sized (SlotsLine n)) (list_all is_sized rest) a in and-true _ (list_all slots-good (filter_map slots_in rest)) (h.0) (all-slots rest h.1)
all-slots (DownloadLine n ∷ rest) a = all-slots rest (both (is_sized (DownloadLine n)) (list_all is_sized rest) a).1
all-slots (VariableLine v ∷ rest) a = all-slots rest (both (is_sized (VariableLine v)) (list_all is_sized rest) a).1
all-slots (PartitionLine p ∷ rest) a = all-slots rest (both (is_sized (PartitionLine p)) (list_all is_sized rest) a).1
all-slots (SuperLine s ∷ rest) a = all-slots rest (both (is_sized (SuperLine s)) (list_all is_sized rest) a).1

all-downloads : (entries : List Entry) → list_all is_sized entries ≡ true → list_all download-good (filter_map download_in entries) ≡ true
all-downloads [] a = refl
all-downloads (ProductLine text ∷ rest) a = all-downloads rest (both (is_sized (ProductLine text)) (list_all is_sized rest) a).1
all-downloads (SerialLine text ∷ rest) a = all-downloads rest (both (is_sized (SerialLine text)) (list_all is_sized rest) a).1
all-downloads (SlotsLine n ∷ rest) a = all-downloads rest (both (is_sized (SlotsLine n)) (list_all is_sized rest) a).1
all-downloads (DownloadLine n ∷ rest) a = let h = both (is_sized (DownloadLine n)) (list_all is_sized rest) a in and-true _ (list_all download-good (filter_map download_in rest)) (h.0) (all-downloads rest h.1)
all-downloads (VariableLine v ∷ rest) a = all-downloads rest (both (is_sized (VariableLine v)) (list_all is_sized rest) a).1
all-downloads (PartitionLine p ∷ rest) a = all-downloads rest (both (is_sized (PartitionLine p)) (list_all is_sized rest) a).1
all-downloads (SuperLine s ∷ rest) a = all-downloads rest (both (is_sized (SuperLine s)) (list_all is_sized rest) a).1

differs : (a b : List ℕ) → bytes_eq a b ≡ false → a ≡ b → ⊥
differs a b h e = false-true (bytes_eq a b) h ((bytes_eq-Decides a b).1 e)

-- a line of the word stands there, so its own condition holds of the first
product-there : (entries : List Entry) (d : List ℕ) → Mem (codes "product") (flat_map keys entries) → list_all is_label (filter_map product_in entries) ≡ true → is_label (unwrap_or (first_of (filter_map product_in entries)) d) ≡ true
product-there [] d m a = absurd m
product-there (ProductLine text ∷ rest) d m a = (both (is_label text) (list_all is_label (filter_map product_in rest)) a).0
product-there (SerialLine text ∷ rest) d (inl e) a = absurd (differs _ _ refl e)
product-there (SerialLine text ∷ rest) d (inr m) a = product-there rest d m a
product-there (SlotsLine n ∷ rest) d (inl e) a = absurd (differs _ _ refl e)
product-there (SlotsLine n ∷ rest) d (inr m) a = product-there rest d m a
product-there (DownloadLine n ∷ rest) d (inl e) a = absurd (differs _ _ refl e)
product-there (DownloadLine n ∷ rest) d (inr m) a = product-there rest d m a
product-there (VariableLine v ∷ rest) d (inl e) a = absurd (differs _ _ refl e)
product-there (VariableLine v ∷ rest) d (inr m) a = product-there rest d m a
product-there (PartitionLine p ∷ rest) d (inl e) a = absurd (differs _ _ refl e)
product-there (PartitionLine p ∷ rest) d (inr m) a = product-there rest d m a
product-there (SuperLine s ∷ rest) d (inl e) a = absurd (differs _ _ refl e)
product-there (SuperLine s ∷ rest) d (inr (inl e)) a = absurd (differs _ _ refl e)
product-there (SuperLine s ∷ rest) d (inr (inr m)) a = product-there rest d m a

-- a line of the word stands there, so its own condition holds of the first
serial-there : (entries : List Entry) (d : List ℕ) → Mem (codes "serialno") (flat_map keys entries) → list_all is_label (filter_map serial_in entries) ≡ true → is_label (unwrap_or (first_of (filter_map serial_in entries)) d) ≡ true
serial-there [] d m a = absurd m
serial-there (ProductLine text ∷ rest) d (inl e) a = absurd (differs _ _ refl e)
serial-there (ProductLine text ∷ rest) d (inr m) a = serial-there rest d m a
serial-there (SerialLine text ∷ rest) d m a = (both (is_label text) (list_all is_label (filter_map serial_in rest)) a).0
serial-there (SlotsLine n ∷ rest) d (inl e) a = absurd (differs _ _ refl e)
serial-there (SlotsLine n ∷ rest) d (inr m) a = serial-there rest d m a
serial-there (DownloadLine n ∷ rest) d (inl e) a = absurd (differs _ _ refl e)
serial-there (DownloadLine n ∷ rest) d (inr m) a = serial-there rest d m a
serial-there (VariableLine v ∷ rest) d (inl e) a = absurd (differs _ _ refl e)
serial-there (VariableLine v ∷ rest) d (inr m) a = serial-there rest d m a
serial-there (PartitionLine p ∷ rest) d (inl e) a = absurd (differs _ _ refl e)
serial-there (PartitionLine p ∷ rest) d (inr m) a = serial-there rest d m a
serial-there (SuperLine s ∷ rest) d (inl e) a = absurd (differs _ _ refl e)
serial-there (SuperLine s ∷ rest) d (inr (inl e)) a = absurd (differs _ _ refl e)
serial-there (SuperLine s ∷ rest) d (inr (inr m)) a = serial-there rest d m a

-- a line of the word stands there, so its own condition holds of the first
slots-there : (entries : List Entry) (d : ℕ) → Mem (codes "slots") (flat_map keys entries) → list_all slots-good (filter_map slots_in entries) ≡ true → slots-good (unwrap_or (first_of (filter_map slots_in entries)) d) ≡ true
slots-there [] d m a = absurd m
slots-there (ProductLine text ∷ rest) d (inl e) a = absurd (differs _ _ refl e)
slots-there (ProductLine text ∷ rest) d (inr m) a = slots-there rest d m a
slots-there (SerialLine text ∷ rest) d (inl e) a = absurd (differs _ _ refl e)
slots-there (SerialLine text ∷ rest) d (inr m) a = slots-there rest d m a
slots-there (SlotsLine n ∷ rest) d m a = (both (slots-good n) (list_all slots-good (filter_map slots_in rest)) a).0
slots-there (DownloadLine n ∷ rest) d (inl e) a = absurd (differs _ _ refl e)
slots-there (DownloadLine n ∷ rest) d (inr m) a = slots-there rest d m a
slots-there (VariableLine v ∷ rest) d (inl e) a = absurd (differs _ _ refl e)
slots-there (VariableLine v ∷ rest) d (inr m) a = slots-there rest d m a
slots-there (PartitionLine p ∷ rest) d (inl e) a = absurd (differs _ _ refl e)
slots-there (PartitionLine p ∷ rest) d (inr m) a = slots-there rest d m a
slots-there (SuperLine s ∷ rest) d (inl e) a = absurd (differs _ _ refl e)
slots-there (SuperLine s ∷ rest) d (inr (inl e)) a = absurd (differs _ _ refl e)
slots-there (SuperLine s ∷ rest) d (inr (inr m)) a = slots-there rest d m a

-- a line of the word stands there, so its own condition holds of the first
download-there : (entries : List Entry) (d : ℕ) → Mem (codes "max-download") (flat_map keys entries) → list_all download-good (filter_map download_in entries) ≡ true → download-good (unwrap_or (first_of (filter_map download_in entries)) d) ≡ true
download-there [] d m a = absurd m
download-there (ProductLine text ∷ rest) d (inl e) a = absurd (differs _ _ refl e)
download-there (ProductLine text ∷ rest) d (inr m) a = download-there rest d m a
download-there (SerialLine text ∷ rest) d (inl e) a = absurd (differs _ _ refl e)
download-there (SerialLine text ∷ rest) d (inr m) a = download-there rest d m a
download-there (SlotsLine n ∷ rest) d (inl e) a = absurd (differs _ _ refl e)
download-there (SlotsLine n ∷ rest) d (inr m) a = download-there rest d m a
download-there (DownloadLine n ∷ rest) d m a = (both (download-good n) (list_all download-good (filter_map download_in rest)) a).0
download-there (VariableLine v ∷ rest) d (inl e) a = absurd (differs _ _ refl e)
download-there (VariableLine v ∷ rest) d (inr m) a = download-there rest d m a
download-there (PartitionLine p ∷ rest) d (inl e) a = absurd (differs _ _ refl e)
download-there (PartitionLine p ∷ rest) d (inr m) a = download-there rest d m a
download-there (SuperLine s ∷ rest) d (inl e) a = absurd (differs _ _ refl e)
download-there (SuperLine s ∷ rest) d (inr (inl e)) a = absurd (differs _ _ refl e)
download-there (SuperLine s ∷ rest) d (inr (inr m)) a = download-there rest d m a

fresh : (x : List ℕ) (xs : List (List ℕ)) → (Mem x xs → ⊥) → not (among x xs) ≡ true
fresh x xs h = by (among x xs) refl where
  by : (b : Bool) → among x xs ≡ b → not b ≡ true
  by true e = absurd (h (any-mem x xs e))
  by false e = refl

abbrev variable-names : List Entry → List (List ℕ)
variable-names entries = map (λ v. v.name) (filter_map variable_in entries)

abbrev part-names : List Entry → List (List ℕ)
part-names entries = map (λ p. p.name) (filter_map partition_in entries)

variable-key : (entries : List Entry) (x : List ℕ) → Mem x (variable-names entries) → Mem (codes "var " ++ x) (flat_map keys entries)
variable-key [] x m = absurd m
variable-key (ProductLine text ∷ rest) x m = inr (variable-key rest x m)
variable-key (SerialLine text ∷ rest) x m = inr (variable-key rest x m)
variable-key (SlotsLine n ∷ rest) x m = inr (variable-key rest x m)
variable-key (DownloadLine n ∷ rest) x m = inr (variable-key rest x m)
variable-key (VariableLine v ∷ rest) x (inl e) = inl (ap (λ n. codes "var " ++ n) e)
variable-key (VariableLine v ∷ rest) x (inr m) = inr (variable-key rest x m)
variable-key (PartitionLine p ∷ rest) x m = inr (variable-key rest x m)
variable-key (SuperLine s ∷ rest) x m = inr (inr (variable-key rest x m))

part-key : (entries : List Entry) (x : List ℕ) → Mem x (part-names entries) → Mem (codes "partition " ++ x) (flat_map keys entries)
part-key [] x m = absurd m
part-key (ProductLine text ∷ rest) x m = inr (part-key rest x m)
part-key (SerialLine text ∷ rest) x m = inr (part-key rest x m)
part-key (SlotsLine n ∷ rest) x m = inr (part-key rest x m)
part-key (DownloadLine n ∷ rest) x m = inr (part-key rest x m)
part-key (VariableLine v ∷ rest) x m = inr (part-key rest x m)
part-key (PartitionLine p ∷ rest) x (inl e) = inl (ap (λ n. codes "partition " ++ n) e)
part-key (PartitionLine p ∷ rest) x (inr m) = inr (part-key rest x m)
part-key (SuperLine s ∷ rest) x m = inr (inr (part-key rest x m))

variables-apart : (entries : List Entry) → are_distinct (flat_map keys entries) ≡ true → are_distinct (variable-names entries) ≡ true
variables-apart [] h = refl
variables-apart (ProductLine text ∷ rest) h = variables-apart rest (distinct-right (keys (ProductLine text)) (flat_map keys rest) h)
variables-apart (SerialLine text ∷ rest) h = variables-apart rest (distinct-right (keys (SerialLine text)) (flat_map keys rest) h)
variables-apart (SlotsLine n ∷ rest) h = variables-apart rest (distinct-right (keys (SlotsLine n)) (flat_map keys rest) h)
variables-apart (DownloadLine n ∷ rest) h = variables-apart rest (distinct-right (keys (DownloadLine n)) (flat_map keys rest) h)
variables-apart (VariableLine v ∷ rest) h =
    and-true (not (among v.name (variable-names rest))) (are_distinct (variable-names rest))
    (fresh v.name (variable-names rest) (λ m. distinct-apart (keys (VariableLine v)) (flat_map keys rest) h (codes "var " ++ v.name) (inl refl) (variable-key rest v.name m)))
    (variables-apart rest (distinct-right (keys (VariableLine v)) (flat_map keys rest) h))
variables-apart (PartitionLine p ∷ rest) h = variables-apart rest (distinct-right (keys (PartitionLine p)) (flat_map keys rest) h)
variables-apart (SuperLine s ∷ rest) h = variables-apart rest (distinct-right (keys (SuperLine s)) (flat_map keys rest) h)

parts-apart : (entries : List Entry) → are_distinct (flat_map keys entries) ≡ true → are_distinct (part-names entries) ≡ true
parts-apart [] h = refl
parts-apart (ProductLine text ∷ rest) h = parts-apart rest (distinct-right (keys (ProductLine text)) (flat_map keys rest) h)
parts-apart (SerialLine text ∷ rest) h = parts-apart rest (distinct-right (keys (SerialLine text)) (flat_map keys rest) h)
parts-apart (SlotsLine n ∷ rest) h = parts-apart rest (distinct-right (keys (SlotsLine n)) (flat_map keys rest) h)
parts-apart (DownloadLine n ∷ rest) h = parts-apart rest (distinct-right (keys (DownloadLine n)) (flat_map keys rest) h)
parts-apart (VariableLine v ∷ rest) h = parts-apart rest (distinct-right (keys (VariableLine v)) (flat_map keys rest) h)
parts-apart (PartitionLine p ∷ rest) h =
    and-true (not (among p.name (part-names rest))) (are_distinct (part-names rest))
    (fresh p.name (part-names rest) (λ m. distinct-apart (keys (PartitionLine p)) (flat_map keys rest) h (codes "partition " ++ p.name) (inl refl) (part-key rest p.name m)))
    (parts-apart rest (distinct-right (keys (PartitionLine p)) (flat_map keys rest) h))
parts-apart (SuperLine s ∷ rest) h = parts-apart rest (distinct-right (keys (SuperLine s)) (flat_map keys rest) h)

abbrev super-names-of : List Entry → List (List ℕ)
super-names-of entries = map (λ s. s.name) (filter_map super_in entries)

super-key : (entries : List Entry) (x : List ℕ) → Mem x (super-names-of entries) → Mem (codes "partition " ++ x) (flat_map keys entries)
super-key [] x m = absurd m
super-key (ProductLine text ∷ rest) x m = inr (super-key rest x m)
super-key (SerialLine text ∷ rest) x m = inr (super-key rest x m)
super-key (SlotsLine n ∷ rest) x m = inr (super-key rest x m)
super-key (DownloadLine n ∷ rest) x m = inr (super-key rest x m)
super-key (VariableLine v ∷ rest) x m = inr (super-key rest x m)
super-key (PartitionLine p ∷ rest) x m = inr (super-key rest x m)
super-key (SuperLine s ∷ rest) x (inl e) = inr (inl (ap (λ n. codes "partition " ++ n) e))
super-key (SuperLine s ∷ rest) x (inr m) = inr (inr (super-key rest x m))

clash : (entries : List Entry) → are_distinct (flat_map keys entries) ≡ true → (x : List ℕ) → Mem x (part-names entries) → Mem x (super-names-of entries) → ⊥
clash [] h x m n = m
clash (ProductLine text ∷ rest) h x m n = clash rest (distinct-right (keys (ProductLine text)) (flat_map keys rest) h) x m n
clash (SerialLine text ∷ rest) h x m n = clash rest (distinct-right (keys (SerialLine text)) (flat_map keys rest) h) x m n
clash (SlotsLine n ∷ rest) h x m w = clash rest (distinct-right (keys (SlotsLine n)) (flat_map keys rest) h) x m w
clash (DownloadLine n ∷ rest) h x m w = clash rest (distinct-right (keys (DownloadLine n)) (flat_map keys rest) h) x m w
clash (VariableLine v ∷ rest) h x m n = clash rest (distinct-right (keys (VariableLine v)) (flat_map keys rest) h) x m n
clash (PartitionLine p ∷ rest) h x (inl e) n = distinct-apart (keys (PartitionLine p)) (flat_map keys rest) h (codes "partition " ++ x) (inl (ap (λ n. codes "partition " ++ n) e)) (super-key rest x n)
clash (PartitionLine p ∷ rest) h x (inr m) n = clash rest (distinct-right (keys (PartitionLine p)) (flat_map keys rest) h) x m n
clash (SuperLine s ∷ rest) h x m (inl e) = distinct-apart (keys (SuperLine s)) (flat_map keys rest) h (codes "partition " ++ x) (inr (inl (ap (λ n. codes "partition " ++ n) e))) (part-key rest x m)
clash (SuperLine s ∷ rest) h x m (inr n) = clash rest (distinct-right (keys (SuperLine s)) (flat_map keys rest) h) x m n

first-mem : (supers : List SuperPart) (x : List ℕ) → Mem x (option_to_list (option_map (λ s. s.name) (first_of supers))) → Mem x (map (λ s. s.name) supers)
first-mem [] x m = absurd m
first-mem (s ∷ rest) x (inl e) = inl e
first-mem (s ∷ rest) x (inr m) = absurd m

one-distinct : (o : Option (List ℕ)) → are_distinct (option_to_list o) ≡ true
one-distinct None = refl
one-distinct (Some x) = refl

first-super : (supers : List SuperPart) → list_all super-named supers ≡ true → list_all super-sized supers ≡ true → list_all super-roomy supers ≡ true → is_good_super (first_of supers) ≡ true
first-super [] a b c = refl
first-super (s ∷ rest) a b c =
    and-true (super-named s && super-sized s) (super-roomy s)
    (and-true (super-named s) (super-sized s) (both (super-named s) (list_all super-named rest) a).0 (both (super-sized s) (list_all super-sized rest) b).0)
    (both (super-roomy s) (list_all super-roomy rest) c).0

pub record Complete (entries : List Entry) : Type 0 where
  pub product : Mem (codes "product") (flat_map keys entries)
  pub serial : Mem (codes "serialno") (flat_map keys entries)
  pub slots : Mem (codes "slots") (flat_map keys entries)
  pub download : Mem (codes "max-download") (flat_map keys entries)

complete-parts : (entries : List Entry) → is_complete entries ≡ true → Complete entries
complete-parts entries h =
    let ks = flat_map keys entries in
    let a = both (is_taken entries (codes "product")) _ h in
    let b = both (is_taken entries (codes "serialno")) _ a.1 in
    let c = both (is_taken entries (codes "slots")) _ b.1 in
    let d = both (is_taken entries (codes "max-download")) _ c.1 in
    record {
      product = any-mem (codes "product") ks a.0;
      serial = any-mem (codes "serialno") ks b.0;
      slots = any-mem (codes "slots") ks c.0;
      download = any-mem (codes "max-download") ks d.0;
    }

laid-by : (text : List ℕ) (entries : List Entry) → Read entries → IsLaid (layout_with text entries)
laid-by text entries r =
    let f = r.fine in
    let c = complete-parts entries r.complete in
    let supers = filter_map super_in entries in
    record {
      variables = and-true _ _ f.variables (all-variables entries f.formed_all);
      variable_names = variables-apart entries f.apart;
      physical = and-true _ _ f.parts (all-sized entries f.sized);
      physical_names = all-named entries f.formed_all;
      names = distinct-join (part-names entries) (option_to_list (option_map (λ s. s.name) (first_of supers))) (parts-apart entries f.apart)
          (one-distinct (option_map (λ s. s.name) (first_of supers))) (λ x m n. clash entries f.apart x m (first-mem supers x n));
      super = first-super supers (super-names entries f.formed_all) (super-sizes entries f.sized) (super-rooms entries f.roomy);
      labels = and-true _ _ (product-there entries [] c.product (all-products entries f.formed_all)) (serial-there entries [] c.serial (all-serials entries f.formed_all));
      slots = slots-there entries 0 c.slots (all-slots entries f.sized);
      download = download-there entries 0 c.download (all-downloads entries f.sized);
    }

same-layout : (a b : LayoutValue) (r : Result LayoutValue LayoutError) → r ≡ Ok a → r ≡ Ok b → a ≡ b
same-layout a b (Ok c) h k = cc
same-layout a b (Err bad) h k = absurd cc

by-entries : (text : List ℕ) (layout : LayoutValue) (r : Result (List Entry) LayoutError) → ((entries : List Entry) → r ≡ Ok entries → Read entries) →
    with_text text r ≡ Ok layout → IsLaid layout
by-entries text layout (Ok entries) k h =
    subst IsLaid (same-layout (layout_with text entries) layout (with_text text (Ok entries)) refl h) (laid-by text entries (k entries refl))
by-entries text layout (Err bad) k h = absurd cc

lines-read : (lines : List (Option (List ℕ))) (entries : List Entry) → entries_of lines ≡ Ok entries → Read entries
lines-read [] entries h = absurd cc
lines-read (line ∷ rest) entries h = by (is_first_line line) h where
  by : (b : Bool) → (if b then read_lines 2 [] rest else Err (at_line 1 BadFirst)) ≡ Ok entries → Read entries
  by true k = reads 2 [] entries rest fine-nil k
  by false k = absurd cc

pub laid_valid : LaidValid
unfolding layout_of
laid_valid text layout h = by (nat_lt 4096 (length text)) h where
  by : (b : Bool) → (if b then Err (at_line 0 TooLong) else with_text text (entries_of (lines text))) ≡ Ok layout → IsLaid layout
  by true k = absurd cc
  by false k = by-entries text layout (entries_of (lines text)) (lines-read (lines text)) k
