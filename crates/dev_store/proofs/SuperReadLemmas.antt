-- What was read of super, and which flaw comes first.
use Rattle.std.proofs.Common.{◌≡◌, ℕ, ◌<◌, ◌≤◌, Bool, true, false, List, Option, Some, None, Result, Ok, Err, refl, sym, ap, subst, ◌∙◌, ◌⊎◌, inl, inr}
use Rattle.std.specs.Prelude.{IfSome, IfOk, OnErr, MatchOption, IsTrue, if◌then◌else◌, ◌&&◌, nat_le, not, length, map}
use Rattle.std.specs.List.{list_all, list_any, flat_map}
use Rattle.std.specs.Option.{option_or}
use Rattle.std.specs.Result.{IsErrOf}
use Rattle.dev_model.specs.declared.bad_image.BadImage.{BadImage}
use Rattle.dev_model.specs.declared.bad_image.BadImage.TheVariants.{NoGeometry, NoTable, BadUnits}
use Rattle.dev_model.specs.Sizes.{groups_fit}
use Rattle.dev_disk.specs.Files.{copy}
use Rattle.super_meta.specs.Flaws.{◌then_on◌}
use Rattle.super_meta.specs.Held.{limited}
use Rattle.super_meta.specs.Contents.{Content, content}
use Rattle.super_meta.proofs.NameLemmas.{both}
use Rattle.dev_store.proofs.UnitLemmas.{le-of}
use Rattle.dev_store.specs.declared.errors.OpenError.{OpenError}
use Rattle.dev_store.specs.declared.errors.OpenError.TheVariants.{Bad, Memory}
use Rattle.dev_store.specs.declared.layout.PhysicalPart.{PhysicalPart}
use Rattle.dev_store.specs.declared.layout.SuperPart.{SuperPart}
use Rattle.dev_store.specs.declared.super_read.SuperRead.{SuperRead}
use Rattle.dev_store.specs.declared.super_table.FoundTable.{FoundTable}
use Rattle.dev_store.specs.Supers.{geometry_copy, holds_geometry, copy_reads, table_read, are_good_units, are_different, units_of}
use Rattle.dev_store.specs.Supers.{is_own_device, is_at_unit, lies_in_units, is_placed, is_barred, size_in}
use Rattle.dev_store.specs.Stand.{check, or_bad, table_in}
use Rattle.dev_store.specs.SuperBounds.{geometry_found, are_good_lists, are_good_parts}
use Rattle.dev_store.specs.SuperReads.{IsReadOf, IsTableFound, IsSuperRead, copy_read}

-- of told bytes
pub both-told : {P Q R : List ℕ → Type 0} (o p : Option (List ℕ)) → p ≡ o → IfSome o P → IfSome p Q → ((file : List ℕ) → P file → Q file → R file) → IfSome o R
both-told None p e h k f = tt
both-told {Q = Q} (Some file) p e h k f = f file h (subst (λ x. IfSome x Q) e k)

pub one-told : {P R : List ℕ → Type 0} (o : Option (List ℕ)) → IfSome o P → ((file : List ℕ) → P file → R file) → IfSome o R
one-told None h f = tt
one-told (Some file) h f = f file h

abbrev on-table : List PhysicalPart → SuperPart → Content → Result Content BadImage
on-table parts s c = check BadUnits (are_good_units parts s c) then_on λ _. Ok c

abbrev on-geometry : List PhysicalPart → SuperPart → Option Content → Result Content BadImage
on-geometry parts s o = or_bad NoTable o then_on on-table parts s

no-block : (a b : Bool) (rest : Unit {0} → Result Content BadImage) → None ≡ (if a then Some false else (if b then Some true else None)) → (check NoGeometry (if a then true else b) then_on rest) ≡ Err NoGeometry
no-block true b rest h = absurd cc
no-block false true rest h = absurd cc
no-block false false rest h = refl

-- neither block holds the geometry
pub no-geometry : (parts : List PhysicalPart) (s : SuperPart) (super : List ℕ) → None ≡ geometry_found s super → table_in parts s super ≡ Err NoGeometry
unfolding table_in
no-geometry parts s super h =
    no-block (holds_geometry s (geometry_copy false super)) (holds_geometry s (geometry_copy true super)) (λ _. on-geometry parts s (table_read s super)) h

some-block : (a b x : Bool) (rest : Unit {0} → Result Content BadImage) → Some x ≡ (if a then Some false else (if b then Some true else None)) → (check NoGeometry (if a then true else b) then_on rest) ≡ rest tt
some-block true b x rest h = refl
some-block false true x rest h = refl
some-block false false x rest h = absurd cc

block-holds : (first second : Bool) (holds : Bool → Bool) (x : Bool) → holds false ≡ first → holds true ≡ second → Some x ≡ (if first then Some false else (if second then Some true else None)) → holds x ≡ true
block-holds true second holds x f g h = let e : x ≡ false = cc in ap holds e ∙ f
block-holds false true holds x f g h = let e : x ≡ true = cc in ap holds e ∙ g
block-holds false false holds x f g h = absurd cc

-- the block that was found holds it
pub geometry-holds : (s : SuperPart) (super : List ℕ) (x : Bool) → Some x ≡ geometry_found s super → IsTrue (holds_geometry s (geometry_copy x super))
geometry-holds s super x h =
    block-holds (holds_geometry s (geometry_copy false super)) (holds_geometry s (geometry_copy true super)) (λ y. holds_geometry s (geometry_copy y super)) x refl refl h

-- and the table says the rest
pub after-geometry : (parts : List PhysicalPart) (s : SuperPart) (super : List ℕ) (x : Bool) → Some x ≡ geometry_found s super → table_in parts s super ≡ on-geometry parts s (table_read s super)
unfolding table_in
after-geometry parts s super x h =
    some-block (holds_geometry s (geometry_copy false super)) (holds_geometry s (geometry_copy true super)) x (λ _. on-geometry parts s (table_read s super)) h

pub no-table : (parts : List PhysicalPart) (s : SuperPart) (super : List ℕ) (x : Bool) → Some x ≡ geometry_found s super → table_read s super ≡ None → table_in parts s super ≡ Err NoTable
no-table parts s super x h n = after-geometry parts s super x h ∙ ap (on-geometry parts s) n

pub reads-of : (s : SuperPart) (super : List ℕ) (backup : Bool) (c : Content) → IsReadOf s super backup c → table_read s super ≡ Some c
reads-of s super false c h = ap (λ o. option_or o (copy_reads s s.slots super)) h.copy
reads-of s super true c h = ap (λ o. option_or o (copy_reads s s.slots super)) (h.first refl) ∙ h.copy

pub bad-units : (parts : List PhysicalPart) (s : SuperPart) (super : List ℕ) (x backup : Bool) (c : Content) → Some x ≡ geometry_found s super → IsReadOf s super backup c →
    are_good_units parts s c ≡ false → table_in parts s super ≡ Err BadUnits
bad-units parts s super x backup c h t bad =
    after-geometry parts s super x h ∙ (ap (on-geometry parts s) (reads-of s super backup c t) ∙ ap (λ b. check BadUnits b then_on λ _. Ok c) bad)

pub super-read : (s : SuperPart) (super : List ℕ) (f : FoundTable) (second : Bool) (r : SuperRead) → Some second ≡ geometry_found s super → IsReadOf s super f.backup (content f.table) →
    content r.table ≡ content f.table → r.backup ≡ f.backup → r.second ≡ second → IsSuperRead s super r
super-read s super f second r g t c b e =
    let read = subst (λ x. IsReadOf s super x (content r.table)) (sym b) (subst (λ x. IsReadOf s super f.backup x) (sym c) t) in
    record {
      geometry = subst (λ x. IsTrue (holds_geometry s (geometry_copy x super))) (sym e) (geometry-holds s super second g);
      table = read;
      read = reads-of s super r.backup (content r.table) read;
    }

-- the table was found, in the primary of slot 0, in its backup, or in neither
pub found-first : (s : SuperPart) (o : Option (List ℕ)) (at : ℕ) (c : Content) → IfSome o (λ file. Some c ≡ copy_reads s 0 (copy file at s.size)) →
    IfSome o (λ file. IsReadOf s (copy file at s.size) false c)
found-first s o at c h = one-told o h (λ file e. record { copy = sym e; first = λ b. absurd cc })

pub found-second : (s : SuperPart) (o p : Option (List ℕ)) (at : ℕ) (c : Content) → p ≡ o → IfSome o (λ file. None ≡ copy_reads s 0 (copy file at s.size)) →
    IfSome p (λ file. Some c ≡ copy_reads s s.slots (copy file at s.size)) → IfSome o (λ file. IsReadOf s (copy file at s.size) true c)
found-second s o p at c e h k = both-told o p e h k (λ file n m. record { copy = sym m; first = λ b. sym n })

pub found-none : (s : SuperPart) (o p : Option (List ℕ)) (at : ℕ) → p ≡ o → IfSome o (λ file. None ≡ copy_reads s 0 (copy file at s.size)) →
    IfSome p (λ file. None ≡ copy_reads s s.slots (copy file at s.size)) → IfSome o (λ file. table_read s (copy file at s.size) ≡ None)
found-none s o p at e h k = both-told o p e h k (λ file n m. ap (λ x. option_or x (copy_reads s s.slots (copy file at s.size))) (sym n) ∙ sym m)

always : (a : Bool) → (a && true) ≡ a
always true = refl
always false = refl

never : (a : Bool) → (a && false) ≡ false
never true = refl
never false = refl

group : (a b c : Bool) → ((a && b) && c) ≡ (a && (b && c))
group true b c = refl
group false b c = refl

-- with the first three as one, and the last two
order : (p d e q r : Bool) → ((((p && d) && e) && q) && r) ≡ ((((e && q) && (p && r))) && d)
order true true true q r = sym (always (q && r))
order true true false q r = refl
order true false e q r = sym (never ((e && q) && r))
order false d true q r = sym (ap (λ b. b && d) (never q))
order false d false q r = refl

-- the test in the order of the code
pub good-units : (parts : List PhysicalPart) (s : SuperPart) (c : Content) → are_good_units parts s c ≡ (are_good_parts parts s c && are_different (flat_map (units_of s c) c.partitions))
unfolding are_good_units are_good_parts
good-units parts s c =
    let p = is_own_device s c.device && list_all (λ e. is_at_unit s e && lies_in_units s e) c.extents && list_all (is_placed s c) c.partitions in
    let d = are_different (flat_map (units_of s c) c.partitions) in
    let e = nat_le (length c.partitions) 128 in
    let q = nat_le (length c.groups) 64 in
    let g = not (list_any (is_barred parts s) c.partitions) in
    let h = groups_fit (map limited c.groups) (map (size_in c) c.partitions) in
    group (((p && d) && e) && q) g h ∙ (order p d e q (g && h) ∙ ap (λ b. ((e && q) && b) && d) (sym (group p g h)))

-- what is known of the good parts
pub good-inside : (parts : List PhysicalPart) (s : SuperPart) (c : Content) → are_good_parts parts s c ≡ true →
    (length c.partitions ≤ 128) × (list_all (λ e. is_at_unit s e && lies_in_units s e) c.extents ≡ true)
unfolding are_good_parts
good-inside parts s c h =
    let a = both _ (are_good_lists parts s c) h in
    let l = both _ _ a.1 in
    let m = both _ _ l.0 in
    let n = both _ _ m.0 in
    let k = both _ _ n.0 in
    (le-of (length c.partitions) 128 (both _ _ a.0).0, k.1)

pub none-decided : {X : Type 0} (b : Bool) (o : Option X) → o ≡ None → MatchOption o (b ≡ false) (λ _. b ≡ true) → b ≡ false
none-decided b None e h = h
none-decided b (Some x) e h = absurd cc

pub some-decided : {X : Type 0} (b : Bool) (o : Option X) (x : X) → o ≡ Some x → MatchOption o (b ≡ false) (λ _. b ≡ true) → b ≡ true
some-decided b None x e h = absurd cc
some-decided b (Some y) x e h = h

-- the answers of reading
pub bad-geometry : (parts : List PhysicalPart) (s : SuperPart) (o : Option (List ℕ)) (at : ℕ) (found : Option Bool) (bad : BadImage) → NoGeometry ≡ bad → found ≡ None →
    IfSome o (λ file. found ≡ geometry_found s (copy file at s.size)) → IfSome o (λ file. table_in parts s (copy file at s.size) ≡ Err bad)
bad-geometry parts s o at found bad b n h = one-told o h (λ file q. no-geometry parts s (copy file at s.size) (sym n ∙ q) ∙ ap Err b)

pub bad-table : (parts : List PhysicalPart) (s : SuperPart) (o p : Option (List ℕ)) (at : ℕ) (found : Option Bool) (x : Bool) (table : Option FoundTable) (bad : BadImage) → NoTable ≡ bad →
    found ≡ Some x → table ≡ None → p ≡ o → IfSome o (λ file. found ≡ geometry_found s (copy file at s.size)) → IfSome p (λ file. IsTableFound s (copy file at s.size) table) →
    IfSome o (λ file. table_in parts s (copy file at s.size) ≡ Err bad)
bad-table parts s o p at found x table bad b f n e h k =
    both-told o p e h k (λ file g t. no-table parts s (copy file at s.size) x (sym f ∙ g) (subst (IsTableFound s (copy file at s.size)) n t) ∙ ap Err b)

pub only-units : {X : Type 0} (G : Type 0) (result : Result X OpenError) (bad : BadImage) → OnErr result (IsErrOf result (Bad BadUnits) ⊎ IsErrOf result Memory) →
    (IsErrOf result (Bad BadUnits) → G) → IsErrOf result (Bad bad) → (BadUnits ≡ bad) × G
only-units G (Ok x) bad o f e = absurd cc
only-units G (Err error) bad (inl u) f e = (cc, f u)
only-units G (Err error) bad (inr m) f e = absurd cc

pub bad-units-told : (parts : List PhysicalPart) (s : SuperPart) (o p : Option (List ℕ)) (at : ℕ) (found : Option Bool) (x : Bool) (table : Option FoundTable) (f : FoundTable) (bad : BadImage) →
    (BadUnits ≡ bad) × (are_good_units parts s (content f.table) ≡ false) → found ≡ Some x → table ≡ Some f → p ≡ o →
    IfSome o (λ file. found ≡ geometry_found s (copy file at s.size)) → IfSome p (λ file. IsTableFound s (copy file at s.size) table) →
    IfSome o (λ file. table_in parts s (copy file at s.size) ≡ Err bad)
bad-units-told parts s o p at found x table f bad b i n e h k =
    both-told o p e h k (λ file g t. bad-units parts s (copy file at s.size) x f.backup (content f.table) (sym i ∙ g) (subst (IsTableFound s (copy file at s.size)) n t) b.1 ∙ ap Err b.0)

pub read-told : (s : SuperPart) (o p : Option (List ℕ)) (at : ℕ) (found : Option Bool) (x : Bool) (table : Option FoundTable) (f : FoundTable) (result : Result SuperRead OpenError) → found ≡ Some x → table ≡ Some f → p ≡ o →
    IfOk result (λ r. content r.table ≡ content f.table) → IfOk result (λ r. r.backup ≡ f.backup) → IfOk result (λ r. r.second ≡ x) →
    IfSome o (λ file. found ≡ geometry_found s (copy file at s.size)) → IfSome p (λ file. IsTableFound s (copy file at s.size) table) →
    IfOk result (λ r. IfSome o (λ file. IsSuperRead s (copy file at s.size) r))
read-told s o p at found x table f (Ok r) i n e c b d h k =
    both-told o p e h k (λ file g t. super-read s (copy file at s.size) f x r (sym i ∙ g) (subst (IsTableFound s (copy file at s.size)) n t) c b d)
read-told s o p at found x table f (Err error) i n e c b d h k = tt

pub never-good : (parts : List PhysicalPart) (s : SuperPart) (c : Content) → are_different (flat_map (units_of s c) c.partitions) ≡ false → are_good_units parts s c ≡ false
never-good parts s c d = good-units parts s c ∙ (ap (λ b. are_good_parts parts s c && b) d ∙ never (are_good_parts parts s c))

pub all-good : (parts : List PhysicalPart) (s : SuperPart) (c : Content) → are_good_parts parts s c ≡ true → are_different (flat_map (units_of s c) c.partitions) ≡ true → are_good_units parts s c ≡ true
all-good parts s c a d = good-units parts s c ∙ (λ i. a i && d i)
