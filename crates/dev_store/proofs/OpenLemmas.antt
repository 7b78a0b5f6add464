-- What opening reads of a file, and what its repairs make of it, as the definitions say.
use Rattle.std.proofs.Common.{arith, ◌≡◌, ◌∙◌, refl, ap, sym, subst, ℕ, ◌+◌, ◌-◌, ◌≤◌, Bool, true, false, List, [], ◌∷◌, take, drop, sum_by, length, Option, Some, None, Result, Ok, Err, nat_le, ◌==◌, if◌then◌else◌}
use Rattle.std.specs.Prelude.{IsTrue}
use Rattle.std.specs.Option.{option_or}
use Rattle.std.specs.Result.{result_ok}
use Rattle.std.proofs.lemmas.List.{drop-drop, drop-take, take-take}
use Rattle.std.proofs.lemmas.List.Sums.{sum_by-cons}
use Rattle.dev_model.specs.declared.bad_image.BadImage.{BadImage}
use Rattle.dev_model.specs.declared.bad_image.BadImage.TheVariants.{ShortFile, BadLayout, BadLength, BadState, NoGeometry, NoTable, BadUnits}
use Rattle.dev_model.specs.declared.device.Dev.{Dev}
use Rattle.dev_model.specs.declared.device.Physical.{Physical}
use Rattle.super_meta.specs.Contents.{Content, content}
use Rattle.super_meta.specs.Flaws.{◌then_on◌}
use Rattle.dev_disk.specs.Files.{DifferWithin}
use Rattle.dev_store.specs.declared.layout.PhysicalPart.{PhysicalPart}
use Rattle.dev_store.specs.declared.layout.SuperPart.{SuperPart}
use Rattle.dev_store.specs.declared.state.State.{State}
use Rattle.dev_store.specs.declared.states_read.StateRead.{StateRead}
use Rattle.dev_store.specs.declared.super_read.SuperRead.{SuperRead}
use Rattle.dev_store.specs.declared.image_read.ImageRead.{ImageRead}
use Rattle.dev_store.specs.Layouts.{LayoutValue, layout_in, layout_of, text_in, image_size, parts_end}
use Rattle.dev_store.specs.States.{record_in, record_of, state_copy}
use Rattle.dev_store.specs.Supers.{geometry_copy, holds_geometry, table_read, are_good_units}
use Rattle.dev_store.specs.Stand.{SuperValue, stand, check, or_bad, table_in, super_found, super_bytes, super_value, physical_at, device_with, owned, owned_by, owned_in, owned_of, Settled}
use Rattle.dev_store.specs.Held.{device_held, super_by}
use Rattle.dev_store.specs.Opening.{StandsAs}
use Rattle.dev_store.specs.Repairs.{SuperRepaired, IsSuperRepaired}
use Rattle.dev_store.specs.SuperReads.{IsSuperRead}
use Rattle.dev_store.specs.Reading.{IsStateRead, IsStateLeft, AreStatesMended, IsFront, IsWithinSound, IsWithinRead, IsSuperMade, IsSuperKept, IsReadSound, IsImageRead, IsMended, table_within, owned_within}
use Rattle.dev_store.proofs.RepairLemmas.{goes-on, found, passes, logicals-same, repaired_stands, repaired_owns}

-- lists that agree at the front or at the rest
pub take-of : (n m : ℕ) (a b : List ℕ) → n ≤ m → take m a ≡ take m b → take n a ≡ take n b
take-of n m a b h e = sym (take-take n m a h) ∙ (ap (take n) e ∙ take-take n m b h)

pub copy-front : (m place size : ℕ) (a b : List ℕ) → place + size ≤ m → take m a ≡ take m b → take size (drop place a) ≡ take size (drop place b)
copy-front m place size a b h e =
    sym (drop-take place size a) ∙ (ap (drop place) (take-of (place + size) m a b h e) ∙ drop-take place size b)

pub drop-of : (n m : ℕ) (a b : List ℕ) → n ≤ m → drop n a ≡ drop n b → drop m a ≡ drop m b
drop-of n m a b h e =
    let far : n + (m - n) ≡ m = omega arith in
    subst (λ k. drop k a ≡ drop k b) far (sym (drop-drop (m - n) n a) ∙ (ap (drop (m - n)) e ∙ drop-drop (m - n) n b))

-- the ranges of the physical partitions
abbrev as-part : PhysicalPart → List ℕ → Physical
as-part p bytes = record { name = p.name; bytes = bytes }

pub physical-front : (place : ℕ) (parts : List PhysicalPart) (a b : List ℕ) →
    take (place + sum_by (λ p. p.size) parts) a ≡ take (place + sum_by (λ p. p.size) parts) b → physical_at place parts a ≡ physical_at place parts b
physical-front place [] a b e = refl
physical-front place (p ∷ parts) a b e =
    let total : sum_by (λ p. p.size) (p ∷ parts) ≡ p.size + sum_by (λ p. p.size) parts = sum_by-cons (λ p. p.size) p parts in
    let here : take p.size (drop place a) ≡ take p.size (drop place b) =
    copy-front (place + sum_by (λ p. p.size) (p ∷ parts)) place p.size a b (omega (arith, total)) e in
    let same : place + sum_by (λ p. p.size) (p ∷ parts) ≡ place + p.size + sum_by (λ p. p.size) parts = omega (arith, total) in
    let rest = physical-front (place + p.size) parts a b (subst (λ n. take n a ≡ take n b) same e) in
    ap (λ bytes. as-part p bytes ∷ physical_at (place + p.size) parts a) here ∙ ap (λ more. as-part p (take p.size (drop place b)) ∷ more) rest

pub physical-rest : (place : ℕ) (parts : List PhysicalPart) (a b : List ℕ) → drop place a ≡ drop place b → physical_at place parts a ≡ physical_at place parts b
physical-rest place [] a b e = refl
physical-rest place (p ∷ parts) a b e =
    let rest = physical-rest (place + p.size) parts a b (drop-of place (place + p.size) a b (omega arith) e) in
    ap (λ bytes. as-part p bytes ∷ physical_at (place + p.size) parts a) (ap (take p.size) e) ∙ ap (λ more. as-part p (take p.size (drop place b)) ∷ more) rest

-- results of two steps
pub stops : {X Y E : Type 0} (r : Result X E) (next : X → Result Y E) (e : E) → r ≡ Err e → (r then_on next) ≡ Err e
stops r next e h = subst (λ q. (q then_on next) ≡ Err e) (sym h) refl

then-same : {X Y E : Type 0} (r : Result X E) (f g : X → Result Y E) → ((x : X) → r ≡ Ok x → f x ≡ g x) → (r then_on f) ≡ (r then_on g)
then-same (Ok x) f g h = h x refl
then-same (Err e) f g h = refl

missing : {X : Type 0} (bad : BadImage) (o : Option X) → o ≡ None → or_bad bad o ≡ Err bad
missing bad o h = ap (or_bad bad) h

fails : (bad : BadImage) (b : Bool) → b ≡ false → check bad b ≡ Err bad
fails bad b h = ap (check bad) h

-- what `stand` goes on with, from its end on
abbrev on-super : List ℕ → LayoutValue → ℕ × State → SuperValue → Result Dev BadImage
on-super file layout found super = Ok (device_with layout found.1 (physical_at 12288 layout.physical file) super)

abbrev on-state : List ℕ → LayoutValue → ℕ × State → Result Dev BadImage
on-state file layout found = super_found layout layout.super_part file then_on on-super file layout found

abbrev on-length : List ℕ → LayoutValue → Unit {0} → Result Dev BadImage
on-length file layout u = or_bad BadState (record_in layout.slots file) then_on on-state file layout

abbrev on-layout : List ℕ → LayoutValue → Result Dev BadImage
on-layout file layout = check BadLength (length file == image_size layout) then_on on-length file layout

abbrev on-short : List ℕ → Unit {0} → Result Dev BadImage
on-short file u = or_bad BadLayout (layout_in file) then_on on-layout file

-- the first things that may be wrong, in order
pub stands-short : (file : List ℕ) → nat_le 12288 (length file) ≡ false → stand file ≡ Err ShortFile
unfolding stand
stands-short file h = stops (check ShortFile (nat_le 12288 (length file))) (on-short file) ShortFile (fails ShortFile _ h)

pub stands-unlaid : (file : List ℕ) → nat_le 12288 (length file) ≡ true → layout_in file ≡ None → stand file ≡ Err BadLayout
unfolding stand
stands-unlaid file enough h =
    goes-on (check ShortFile (nat_le 12288 (length file))) (on-short file) tt (passes ShortFile _ enough)
    ∙ stops (or_bad BadLayout (layout_in file)) (on-layout file) BadLayout (missing BadLayout _ h)

stand-laid : (file : List ℕ) (layout : LayoutValue) → nat_le 12288 (length file) ≡ true → layout_in file ≡ Some layout → stand file ≡ on-layout file layout
unfolding stand
stand-laid file layout enough h =
    goes-on (check ShortFile (nat_le 12288 (length file))) (on-short file) tt (passes ShortFile _ enough)
    ∙ goes-on (or_bad BadLayout (layout_in file)) (on-layout file) layout (found BadLayout _ layout h)

pub stands-unlike : (file : List ℕ) (layout : LayoutValue) → nat_le 12288 (length file) ≡ true → layout_in file ≡ Some layout → (length file == image_size layout) ≡ false →
    stand file ≡ Err BadLength
stands-unlike file layout enough h long =
    stand-laid file layout enough h
    ∙ stops (check BadLength (length file == image_size layout)) (on-length file layout) BadLength (fails BadLength _ long)

stand-front : (file : List ℕ) (layout : LayoutValue) → IsFront layout file → stand file ≡ on-length file layout tt
stand-front file layout f =
    stand-laid file layout f.enough f.laid
    ∙ goes-on (check BadLength (length file == image_size layout)) (on-length file layout) tt (passes BadLength _ f.long)

pub stands-stateless : (file : List ℕ) (layout : LayoutValue) → IsFront layout file → record_in layout.slots file ≡ None → stand file ≡ Err BadState
stands-stateless file layout f h =
    stand-front file layout f ∙ stops (or_bad BadState (record_in layout.slots file)) (on-state file layout) BadState (missing BadState _ h)

stand-stated : (file : List ℕ) (layout : LayoutValue) (x : ℕ × State) → IsFront layout file → record_in layout.slots file ≡ Some x → stand file ≡ on-state file layout x
stand-stated file layout x f h =
    stand-front file layout f ∙ goes-on (or_bad BadState (record_in layout.slots file)) (on-state file layout) x (found BadState _ x h)

pub stands-bad : (file : List ℕ) (layout : LayoutValue) (x : ℕ × State) (bad : BadImage) → IsFront layout file → record_in layout.slots file ≡ Some x →
    super_found layout layout.super_part file ≡ Err bad → stand file ≡ Err bad
stands-bad file layout x bad f h e =
    stand-stated file layout x f h ∙ stops (super_found layout layout.super_part file) (on-super file layout x) bad e

pub stands-whole : (file : List ℕ) (layout : LayoutValue) (x : ℕ × State) (super : SuperValue) → IsFront layout file → record_in layout.slots file ≡ Some x →
    super_found layout layout.super_part file ≡ Ok super → stand file ≡ Ok (device_with layout x.1 (physical_at 12288 layout.physical file) super)
stands-whole file layout x super f h e =
    stand-stated file layout x f h ∙ goes-on (super_found layout layout.super_part file) (on-super file layout x) super e

-- files that agree in all that `stand` looks at
pub stands-alike : (file now : List ℕ) (layout : LayoutValue) (v w : ℕ) (state : State) → IsFront layout file → IsFront layout now →
    record_in layout.slots file ≡ Some (v, state) → record_in layout.slots now ≡ Some (w, state) →
    physical_at 12288 layout.physical now ≡ physical_at 12288 layout.physical file →
    super_found layout layout.super_part now ≡ super_found layout layout.super_part file → stand now ≡ stand file
stands-alike file now layout v w state f g h k parts super =
    stand-stated now layout (w, state) g k
    ∙ (ap (λ r. r then_on on-super now layout (w, state)) super
    ∙ (ap (λ ps. super_found layout layout.super_part file then_on (λ s. Ok (device_with layout state ps s))) parts
    ∙ sym (stand-stated file layout (v, state) f h)))

-- the record that is read
chosen : (f s : Option (ℕ × State)) (second : Bool) (x : ℕ × State) → (if second then s else f) ≡ Some x → (second ≡ true → f ≡ None) → option_or f s ≡ Some x
chosen f s false x h k = subst (λ o. option_or o s ≡ Some x) (sym h) refl
chosen f s true x h k = subst (λ o. option_or o s ≡ Some x) (sym (k refl)) h

pub state-recorded : (slots : ℕ) (r : StateRead) (file : List ℕ) → IsStateRead slots r file → record_in slots file ≡ Some (r.version, r.state)
state-recorded slots r file h = chosen (record_of slots (state_copy false file)) (record_of slots (state_copy true file)) r.second (r.version, r.state) h.found h.before

-- super holds the same bytes
super-alike : (layout : LayoutValue) (part : Option SuperPart) (file now : List ℕ) → drop (parts_end layout.physical) now ≡ drop (parts_end layout.physical) file →
    super_found layout part now ≡ super_found layout part file
unfolding super_found
super-alike layout None file now e = refl
super-alike layout (Some s) file now e =
    ap (λ rest. table_in layout.physical s (take s.size rest) then_on λ c. Ok (super_value s c (take s.size rest))) e

owns-alike : (layout : LayoutValue) (part : Option SuperPart) (file now name : List ℕ) → drop (parts_end layout.physical) now ≡ drop (parts_end layout.physical) file →
    owned_by layout part now name ≡ owned_by layout part file name
owns-alike layout None file now name e = refl
owns-alike layout (Some s) file now name e = ap (λ rest. owned_in s (table_read s (take s.size rest)) name) e

pub within-alike : (layout : LayoutValue) (part : Option SuperPart) (within : Option SuperRead) (file now : List ℕ) →
    drop (parts_end layout.physical) now ≡ drop (parts_end layout.physical) file → IsWithinRead layout part within file → IsWithinRead layout part within now
within-alike layout None within file now e h = tt
within-alike layout (Some s) None file now e h = tt
within-alike layout (Some s) (Some w) file now e h = subst (λ rest. IsSuperRead s (take s.size rest) w) (sym e) h

made-from : (layout : LayoutValue) (part : Option SuperPart) (file mid now : List ℕ) → drop (parts_end layout.physical) mid ≡ drop (parts_end layout.physical) file →
    SuperRepaired layout part mid now → SuperRepaired layout part file now
made-from layout None file mid now e h = tt
made-from layout (Some s) file mid now e h = subst (λ rest. IsSuperRepaired s (take s.size rest) (super_bytes layout s now)) e h

-- the front of the file is as it was
front-alike : (layout : LayoutValue) (file now : List ℕ) → length now ≡ length file → take 4096 now ≡ take 4096 file → IsFront layout file → IsFront layout now
unfolding layout_in
front-alike layout file now long front f = record {
  enough = ap (nat_le 12288) long ∙ f.enough;
  laid = ap (λ block. result_ok (layout_of (text_in block))) front ∙ f.laid;
  long = ap (λ n. n == image_size layout) long ∙ f.long;
}

pub owned-laid : (layout : LayoutValue) (file name : List ℕ) → layout_in file ≡ Some layout → owned file name ≡ owned_by layout layout.super_part file name
unfolding owned
owned-laid layout file name h = ap (λ l. owned_of l file name) h

pub rest-alike : (layout : LayoutValue) (file now : List ℕ) → DifferWithin 4096 8192 file now → drop (parts_end layout.physical) now ≡ drop (parts_end layout.physical) file
rest-alike layout file now d = drop-of 12288 (parts_end layout.physical) now file (omega arith) d.rest

-- what repairs of the state records leave, or make
pub states-left : (r : ImageRead) (file now : List ℕ) → IsImageRead r file → DifferWithin 4096 8192 file now → IsStateLeft r.layout.slots r.found.state now → StandsAs file now
states-left r file now h d left =
    let layout = r.layout in
    let front = front-alike layout file now d.same_length d.front h.front in
    let rest = rest-alike layout file now d in
    record {
      stands = stands-alike file now layout r.found.version left.version r.found.state h.front front (state-recorded layout.slots r.found file h.state) left.reads
          (physical-rest 12288 layout.physical now file d.rest) (super-alike layout layout.super_part file now rest);
      owns = λ name. owned-laid layout now name front.laid ∙ (owns-alike layout layout.super_part file now name rest ∙ sym (owned-laid layout file name h.front.laid));
    }

pub mended-left : (slots : ℕ) (state : State) (file : List ℕ) → AreStatesMended slots state file → IsStateLeft slots state file
mended-left slots state file m = record {
  version = 2;
  reads = chosen (record_of slots (state_copy false file)) (record_of slots (state_copy true file)) false (2, state) m.first (λ e. absurd cc);
}

-- a file after the repair of its records, and then of super
pub record IsHalfway (r : ImageRead) (file mid : List ℕ) : Type 0 where
  pub read : IsImageRead r file
  pub differs : DifferWithin 4096 8192 file mid
  pub mended : AreStatesMended r.layout.slots r.found.state mid

copies-alike : (layout : LayoutValue) (mid now : List ℕ) (second : Bool) → take (parts_end layout.physical) now ≡ take (parts_end layout.physical) mid → state_copy second now ≡ state_copy second mid
copies-alike layout mid now false e = copy-front (parts_end layout.physical) 4096 4096 now mid (omega arith) e
copies-alike layout mid now true e = copy-front (parts_end layout.physical) 8192 4096 now mid (omega arith) e

still-mended : (layout : LayoutValue) (slots : ℕ) (state : State) (mid now : List ℕ) → take (parts_end layout.physical) now ≡ take (parts_end layout.physical) mid →
    AreStatesMended slots state mid → AreStatesMended slots state now
still-mended layout slots state mid now e m = record {
  first = ap (record_of slots) (copies-alike layout mid now false e) ∙ m.first;
  second = ap (record_of slots) (copies-alike layout mid now true e) ∙ m.second;
}

super-left : (layout : LayoutValue) (state : State) (mid now : List ℕ) → IsFront layout mid → AreStatesMended layout.slots state mid → IsSuperKept layout mid now → StandsAs mid now
super-left layout state mid now f m k =
    let front = front-alike layout mid now k.same_length (take-of 4096 (parts_end layout.physical) now mid (omega arith) k.front) f in
    let a = mended-left layout.slots state mid m in
    let b = mended-left layout.slots state now (still-mended layout layout.slots state mid now k.front m) in
    record {
      stands = stands-alike mid now layout a.version b.version state f front a.reads b.reads (physical-front 12288 layout.physical now mid k.front) k.found;
      owns = λ name. owned-laid layout now name front.laid ∙ (k.owns name ∙ sym (owned-laid layout mid name f.laid));
    }

pub halfway-left : (r : ImageRead) (file mid now : List ℕ) → IsHalfway r file mid → IsSuperKept r.layout mid now → StandsAs file now
halfway-left r file mid now h k =
    let a = states-left r file mid h.read h.differs (mended-left r.layout.slots r.found.state mid h.mended) in
    let f = front-alike r.layout file mid h.differs.same_length h.differs.front h.read.front in
    let b = super-left r.layout r.found.state mid now f h.mended k in
    record { stands = b.stands ∙ a.stands; owns = λ name. b.owns name ∙ a.owns name }

pub halfway-made : (r : ImageRead) (file mid now : List ℕ) → IsHalfway r file mid → IsSuperMade r.layout mid now → IsMended r file now
halfway-made r file mid now h k =
    let layout = r.layout in
    let f = front-alike layout file mid h.differs.same_length h.differs.front h.read.front in
    let front = front-alike layout mid now k.same_length (take-of 4096 (parts_end layout.physical) now mid (omega arith) k.front) f in
    let mended = still-mended layout layout.slots r.found.state mid now k.front h.mended in
    let parts = physical-front 12288 layout.physical now mid k.front ∙ physical-rest 12288 layout.physical mid file h.differs.rest in
    let super = made-from layout layout.super_part file mid now (rest-alike layout file mid h.differs) k.repaired in
    record {
      repaired = record {
        layout = layout;
        laid = h.read.front.laid;
        same_layout = front.laid;
        same_length = k.same_length ∙ h.differs.same_length;
        version = r.found.version;
        state = r.found.state;
        recorded = state-recorded layout.slots r.found file h.read.state;
        first = mended.first;
        second = mended.second;
        same_parts = parts;
        super = super;
      };
      parts = parts;
      super = super;
    }

-- what a device has in super, by the table that was read
or-true : (a b : Bool) → b ≡ true → (if a then true else b) ≡ true
or-true true b h = refl
or-true false b h = h

pub geometry-either : (s : SuperPart) (super : List ℕ) (which : Bool) → IsTrue (holds_geometry s (geometry_copy which super)) →
    IsTrue (if holds_geometry s (geometry_copy false super) then true else holds_geometry s (geometry_copy true super))
geometry-either s super false h = subst (λ b. IsTrue (if b then true else holds_geometry s (geometry_copy true super))) (sym h) refl
geometry-either s super true h = or-true (holds_geometry s (geometry_copy false super)) (holds_geometry s (geometry_copy true super)) h

abbrev on-units : Content → Unit {0} → Result Content BadImage
on-units c u = Ok c

abbrev on-table : List PhysicalPart → SuperPart → Content → Result Content BadImage
on-table parts s c = check BadUnits (are_good_units parts s c) then_on on-units c

abbrev on-geometry : List PhysicalPart → SuperPart → List ℕ → Unit {0} → Result Content BadImage
on-geometry parts s super u = or_bad NoTable (table_read s super) then_on on-table parts s

table-is : (parts : List PhysicalPart) (s : SuperPart) (super : List ℕ) (w : SuperRead) → IsSuperRead s super w → IsTrue (are_good_units parts s (content w.table)) →
    table_in parts s super ≡ Ok (content w.table)
unfolding table_in
table-is parts s super w h good =
    let c = content w.table in
    let test = geometry-either s super w.second h.geometry in
    goes-on (check NoGeometry (if holds_geometry s (geometry_copy false super) then true else holds_geometry s (geometry_copy true super))) (on-geometry parts s super) tt (passes NoGeometry _ test)
    ∙ (goes-on (or_bad NoTable (table_read s super)) (on-table parts s) c (found NoTable _ c h.read)
    ∙ goes-on (check BadUnits (are_good_units parts s c)) (on-units c) tt (passes BadUnits _ good))

super-read : (layout : LayoutValue) (part : Option SuperPart) (within : Option SuperRead) (file : List ℕ) → IsWithinSound layout part within → IsWithinRead layout part within file →
    super_found layout part file ≡ Ok (super_by layout part (table_within within) file)
unfolding super_found
super-read layout None None file sound h = refl
super-read layout None (Some w) file sound h = absurd sound
super-read layout (Some s) None file sound h = absurd sound
super-read layout (Some s) (Some w) file sound h =
    goes-on (table_in layout.physical s (super_bytes layout s file)) (λ c. Ok (super_value s c (super_bytes layout s file))) (content w.table)
    (table-is layout.physical s (super_bytes layout s file) w h sound.good)

super-by-same : (layout : LayoutValue) (part : Option SuperPart) (table : Option Content) (file now : List ℕ) → SuperRepaired layout part file now →
    super_by layout part table now ≡ super_by layout part table file
super-by-same layout None table file now r = refl
super-by-same layout (Some s) None file now r = refl
super-by-same layout (Some s) (Some c) file now r =
    ap (λ logical. record (super_value s c (super_bytes layout s now)) { logical = logical }) (logicals-same s c (super_bytes layout s file) (super_bytes layout s now) c.partitions r.rest)

owns-read : (layout : LayoutValue) (part : Option SuperPart) (within : Option SuperRead) (file name : List ℕ) → IsWithinSound layout part within → IsWithinRead layout part within file →
    owned_by layout part file name ≡ owned_within part within name
owns-read layout None within file name sound h = refl
owns-read layout (Some s) None file name sound h = absurd sound
owns-read layout (Some s) (Some w) file name sound h = ap (λ o. owned_in s o name) h.read

-- a file of which an image was read stands for a device
pub read-stands : (r : ImageRead) (file : List ℕ) → IsReadSound r → IsImageRead r file →
    stand file ≡ Ok (device_with r.layout r.found.state (physical_at 12288 r.layout.physical file) (super_by r.layout r.layout.super_part (table_within r.within) file))
read-stands r file sound h =
    stands-whole file r.layout (r.found.version, r.found.state) (super_by r.layout r.layout.super_part (table_within r.within) file) h.front (state-recorded r.layout.slots r.found file h.state)
    (super-read r.layout r.layout.super_part r.within file sound.super h.super)

-- The file stood for the device that is held, and so does the repaired one.
pub record IsOpened (r : ImageRead) (file now : List ℕ) : Type 0 where
  pub stood : stand file ≡ Ok (device_held r.layout r.found.state (table_within r.within) (Some now))
  pub stands : stand now ≡ Ok (device_held r.layout r.found.state (table_within r.within) (Some now))
  pub settled : Settled now
  pub owns : (name : List ℕ) → owned now name ≡ owned_within r.layout.super_part r.within name

pub opened : (r : ImageRead) (file now : List ℕ) → IsReadSound r → IsImageRead r file → IsMended r file now → IsOpened r file now
unfolding device_held
opened r file now sound h m =
    let layout = r.layout in
    let table = table_within r.within in
    let part = layout.super_part in
    let stood : stand file ≡ Ok (device_with layout r.found.state (physical_at 12288 layout.physical now) (super_by layout part table now)) =
    read-stands r file sound h
    ∙ (ap (λ ps. Ok (device_with layout r.found.state ps (super_by layout part table file))) (sym m.parts)
    ∙ ap (λ super. Ok (device_with layout r.found.state (physical_at 12288 layout.physical now) super)) (sym (super-by-same layout part table file now m.super))) in
    let both = repaired_stands file now (device_with layout r.found.state (physical_at 12288 layout.physical now) (super_by layout part table now)) stood m.repaired in
    record {
      stood = stood;
      stands = both.0;
      settled = both.1;
      owns = λ name. repaired_owns file now name m.repaired ∙ (owned-laid layout file name h.front.laid ∙ owns-read layout part r.within file name sound.super h.super);
    }
