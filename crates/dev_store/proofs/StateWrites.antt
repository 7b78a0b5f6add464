-- A state that is written over both records, and what the image stands for then or where the disk failed.
use Rattle.std.proofs.Common.{arith, ◌≡◌, ◌∙◌, refl, ap, sym, subst, inl, inr, ℕ, ◌≤◌, Bool, true, false, List, length, take, drop, Option, Some, None}
use Rattle.std.specs.Prelude.{◌⊎◌, IsTrue, IfSome, Result, OnOk, OnErr}
use Rattle.std.specs.Option.{option_or}
use Rattle.fb_frame.specs.Told.{Both}
use Rattle.super_meta.specs.Contents.{Content}
use Rattle.dev_disk.specs.Files.{DifferWithin, written, copy, Tears}
use Rattle.dev_disk.specs.Honest.{ReadsAs}
use Rattle.dev_disk.specs.declared.twin.Twin.{Twin}
use Rattle.dev_disk.specs.Disks.{DiskTold, open_bytes}
use Rattle.dev_disk.specs.Twins.{IsLeft, IsLeftAt, IsFirstLeft, IsSecondLeft, WroteBoth, WroteOne, WritesTwin, FailsTwin}
use Rattle.dev_disk.proofs.TwinLemmas.{HasRange}
use Rattle.dev_store.specs.declared.state.State.{State}
use Rattle.dev_store.specs.Faults.{IsHonest}
use Rattle.std.specs.Result.{result_ok}
use Rattle.dev_store.specs.declared.layout.SuperPart.{SuperPart}
use Rattle.dev_store.specs.Layouts.{LayoutValue, layout_in, layout_of, text_in, parts_end, image_size}
use Rattle.dev_store.specs.States.{record_of, record_in, state_copy, is_state, with_state}
use Rattle.dev_store.specs.Stand.{Stands, Settled, IsAlike, SuperIsAlike, super_value, physical_at, device_with}
use Rattle.dev_store.specs.Held.{IsKept, device_held, super_by}
use Rattle.dev_store.specs.PartWrites.{IsImageOf, IsTableOf, HasTableIn}
use Rattle.dev_store.specs.StoreCalls.{StandsAround}
use Rattle.dev_store.specs.Reading.{state_places, AreStatesMended, IsStateAround}
use Rattle.dev_store.proofs.OpenLemmas.{physical-rest, rest-alike, mended-left}
use Rattle.dev_store.proofs.PartBody.{same-laid}
use Rattle.dev_store.specs.declared.super_read.SuperRead.{SuperRead}
use Rattle.dev_store.specs.Held.{IsWhole}
use Rattle.dev_store.specs.Reading.{IsStored, held_by, table_within}
use Rattle.dev_store.proofs.StoredLemmas.{IsHeld, stands-for, held-in, whole-now, stored-now, stored-broken}
use Rattle.dev_store.proofs.RecordLemmas.{one_state_reads}
use Rattle.dev_store.proofs.StateRepairs.{IsBlock, reads-block, one-written, one-left, widened, within-then, both-told, either-call}

-- both records were written
pub both-mended : (slots : ℕ) (state : State) (block old new : List ℕ) → IsBlock slots state block → WroteBoth state_places block old new → AreStatesMended slots state new
both-mended slots state block old new b w = record {
  first = ap (record_of slots) w.first ∙ reads-block slots state block b;
  second = ap (record_of slots) w.second ∙ reads-block slots state block b;
}

pub both-within : (slots : ℕ) (state : State) (block old new : List ℕ) → IsBlock slots state block → 12288 ≤ length old → WroteBoth state_places block old new → DifferWithin 4096 8192 old new
both-within slots state block old new b long w =
    let mid = written old 4096 block in
    let first = (one-written false slots state block old mid b long refl).differs in
    let more : 12288 ≤ length mid = omega (arith, first.same_length, long) in
    within-then old mid new first (one-written true slots state block mid new b more w.whole).differs

-- the first one was being written
first-at : (torn : Tears) (block old new : List ℕ) → length block ≡ 4096 → IsFirstLeft torn state_places block old new → IsLeftAt torn 4096 block old new
first-at torn block old new long h = record {
  differs = subst (λ n. DifferWithin 4096 n old new) (sym long) h.differs;
  left = subst (λ n. IsLeft torn (copy old 4096 n) block (copy new 4096 n)) (sym long) h.first;
}

first-around : (torn : Tears) (slots : ℕ) (state : State) (block old new : List ℕ) → IsBlock slots state block → IsHonest torn → IsFirstLeft torn state_places block old new → IsStateAround slots state old new
first-around torn slots state block old new b honest h was first second =
    let one = one-left torn false slots state block old new b honest (first-at torn block old new b.long h) in
    let reads : ReadsAs (Some was) (Some (2, state)) (record_of slots (state_copy false new)) =
    subst (λ o. ReadsAs o (Some (2, state)) (record_of slots (state_copy false new))) first one.here in
    one_state_reads slots (state_copy false new) (state_copy true new) was (2, state) (ap (record_of slots) one.there ∙ second) reads

-- the first one holds the state, and the second one was being written
second-around : (torn : Tears) (slots : ℕ) (state : State) (block old new : List ℕ) → IsBlock slots state block → IsSecondLeft torn state_places block old new → IsStateAround slots state old new
second-around torn slots state block old new b h was first second =
    inr (ap (λ o. option_or o (record_of slots (state_copy true new))) (ap (record_of slots) h.first ∙ reads-block slots state block b))

pub one-within : (torn : Tears) (slots : ℕ) (state : State) (block old new : List ℕ) → IsBlock slots state block → 12288 ≤ length old → WroteOne torn state_places block old new → DifferWithin 4096 8192 old new
one-within torn slots state block old new b long (inl h) = widened false old new h.differs
one-within torn slots state block old new b long (inr h) =
    let mid = written old 4096 block in
    within-then old mid new (one-written false slots state block old mid b long refl).differs (widened true mid new h.differs)

pub one-around : (torn : Tears) (slots : ℕ) (state : State) (block old new : List ℕ) → IsBlock slots state block → IsHonest torn → WroteOne torn state_places block old new → IsStateAround slots state old new
one-around torn slots state block old new b honest (inl h) = first-around torn slots state block old new b honest h
one-around torn slots state block old new b honest (inr h) = second-around torn slots state block old new b h

-- the same of a disk
pub states-written : (slots : ℕ) (state : State) (block : List ℕ) (twin : Twin) (o p : Option (List ℕ)) → IsBlock slots state block → twin ≡ state_places → Both (WroteBoth twin block) o p →
    IfSome p (AreStatesMended slots state)
states-written slots state block twin None None b same w = tt
states-written slots state block twin None (Some new) b same w = absurd w
states-written slots state block twin (Some old) None b same w = absurd w
states-written slots state block twin (Some old) (Some new) b same w = both-mended slots state block old new b (subst (λ t. WroteBoth t block old new) same w)

abbrev IsLong : List ℕ → Type 0
IsLong file = 12288 ≤ length file

is-long : (o : Option (List ℕ)) → HasRange o 0 12288 → IfSome o IsLong
is-long None h = tt
is-long (Some file) h = h

pub states-within : {T E : Type 0} (slots : ℕ) (state : State) (block : List ℕ) (twin : Twin) (old new : DiskTold) (r : Result T E) → IsBlock slots state block → twin ≡ state_places →
    HasRange (open_bytes old) 0 12288 → OnOk r (WritesTwin twin block old new) → OnErr r (FailsTwin twin block old new) → Both (DifferWithin 4096 8192) (open_bytes old) (open_bytes new)
states-within slots state block twin old new r b same range w f =
    either-call r
    (λ w. both-told IsLong (WroteBoth twin block) (DifferWithin 4096 8192) (open_bytes old) (open_bytes new)
    (λ x y h e. both-within slots state block x y b h (subst (λ t. WroteBoth t block x y) same e)) (is-long (open_bytes old) range) w.both)
    (λ f. both-told IsLong (WroteOne new.torn twin block) (DifferWithin 4096 8192) (open_bytes old) (open_bytes new)
    (λ x y h e. one-within new.torn slots state block x y b h (subst (λ t. WroteOne new.torn t block x y) same e)) (is-long (open_bytes old) range) f.one)
    w f

pub states-left : (slots : ℕ) (state : State) (block : List ℕ) (twin : Twin) (old new : DiskTold) → IsBlock slots state block → twin ≡ state_places → IsHonest new.torn →
    FailsTwin twin block old new → Both (IsStateAround slots state) (open_bytes old) (open_bytes new)
states-left slots state block twin old new b same honest f = by (open_bytes old) (open_bytes new) f.one
  where
    by : (o p : Option (List ℕ)) → Both (WroteOne new.torn twin block) o p → Both (IsStateAround slots state) o p
    by None None w = tt
    by None (Some y) w = absurd w
    by (Some x) None w = absurd w
    by (Some x) (Some y) w = one-around new.torn slots state block x y b honest (subst (λ t. WroteOne new.torn t block x y) same w)

-- what lies behind the records is as it was, and so is the layout
super-still : (layout : LayoutValue) (part : Option SuperPart) (table : Option Content) (old new : List ℕ) → drop (parts_end layout.physical) new ≡ drop (parts_end layout.physical) old →
    super_by layout part table new ≡ super_by layout part table old
super-still layout None table old new e = refl
super-still layout (Some s) None old new e = refl
super-still layout (Some s) (Some c) old new e = ap (λ rest. super_value s c (take s.size rest)) e

tabled-still : (layout : LayoutValue) (part : Option SuperPart) (table : Option Content) (old new : List ℕ) → drop (parts_end layout.physical) new ≡ drop (parts_end layout.physical) old →
    IsTableOf layout part table old → IsTableOf layout part table new
tabled-still layout None None old new e h = tt
tabled-still layout None (Some c) old new e h = absurd h
tabled-still layout (Some s) None old new e h = absurd h
tabled-still layout (Some s) (Some c) old new e h = subst (λ rest. HasTableIn s (take s.size rest) c) (sym e) h

alike-still : (layout : LayoutValue) (part : Option SuperPart) (old new : List ℕ) → drop (parts_end layout.physical) new ≡ drop (parts_end layout.physical) old →
    SuperIsAlike layout part old → SuperIsAlike layout part new
alike-still layout None old new e h = tt
alike-still layout (Some s) old new e h = subst (λ rest. IsAlike s (take s.size rest)) (sym e) h

laid-still : (old new : List ℕ) → DifferWithin 4096 8192 old new → layout_in new ≡ layout_in old
unfolding layout_in
laid-still old new d = ap (λ block. result_ok (layout_of (text_in block))) d.front

-- the device has the state, and all else of it is as it was
pub device-set : (layout : LayoutValue) (was state : State) (table : Option Content) (o p : Option (List ℕ)) → Both (DifferWithin 4096 8192) o p →
    device_held layout state table p ≡ with_state state (device_held layout was table o)
unfolding device_held
device-set layout was state table None None d = refl
device-set layout was state table None (Some new) d = absurd d
device-set layout was state table (Some old) None d = absurd d
device-set layout was state table (Some old) (Some new) d =
    ap (λ parts. device_with layout state parts (super_by layout layout.super_part table new)) (physical-rest 12288 layout.physical new old d.rest)
    ∙ ap (λ super. device_with layout state (physical_at 12288 layout.physical old) super) (super-still layout layout.super_part table old new (rest-alike layout old new d))

-- with the state that it had it is the same
pub device-still : (layout : LayoutValue) (state : State) (table : Option Content) (o p : Option (List ℕ)) → Both (DifferWithin 4096 8192) o p → device_held layout state table p ≡ device_held layout state table o
unfolding device_held
device-still layout state table o p d = device-set layout state state table o p d ∙ sym (device-set layout state state table o o (same-self o))
  where
    same-self : (o : Option (List ℕ)) → Both (DifferWithin 4096 8192) o o
    same-self None = tt
    same-self (Some file) = record { same_length = refl; front = refl; rest = refl }

pub kept-set : (layout : LayoutValue) (was state : State) (table : Option Content) (o p : Option (List ℕ)) → IsKept layout was table o → IsTrue (is_state layout.slots state) → Both (DifferWithin 4096 8192) o p →
    IsKept layout state table p
kept-set layout was state table o p k fits d = record { laid = k.laid; stated = fits; tabled = k.tabled; long = long-still o p k.long d }
  where
    long-still : (o p : Option (List ℕ)) → IfSome o (λ file. length file ≡ image_size layout) → Both (DifferWithin 4096 8192) o p → IfSome p (λ file. length file ≡ image_size layout)
    long-still None None h d = tt
    long-still None (Some new) h d = absurd d
    long-still (Some old) None h d = absurd d
    long-still (Some old) (Some new) h d = d.same_length ∙ h

image-set : (layout : LayoutValue) (was state : State) (table : Option Content) (old new : List ℕ) (version : ℕ) → IsImageOf layout was table old → DifferWithin 4096 8192 old new →
    record_in layout.slots new ≡ Some (version, state) → IsImageOf layout state table new
image-set layout was state table old new version h d reads = record {
  laid = laid-still old new d ∙ h.laid;
  version = version;
  recorded = reads;
  tabled = tabled-still layout layout.super_part table old new (rest-alike layout old new d) h.tabled;
}

settled-set : (layout : LayoutValue) (state : State) (old new : List ℕ) → layout_in old ≡ Some layout → Settled old → DifferWithin 4096 8192 old new → AreStatesMended layout.slots state new → Settled new
settled-set layout state old new laid s d m =
    let same = same-laid layout s.layout (layout_in old) laid s.laid in
    record {
      layout = layout;
      laid = laid-still old new d ∙ laid;
      state = state;
      first = m.first;
      second = m.second;
      super = alike-still layout layout.super_part old new (rest-alike layout old new d) (subst (λ l. SuperIsAlike l l.super_part old) (sym same) s.super);
    }

-- both records were written
pub held-set : (layout : LayoutValue) (was state : State) (table : Option Content) (o p : Option (List ℕ)) → IfSome o (IsHeld layout was table) → Both (DifferWithin 4096 8192) o p →
    IfSome p (AreStatesMended layout.slots state) → IfSome p (IsHeld layout state table)
held-set layout was state table None None h d m = tt
held-set layout was state table None (Some new) h d m = absurd d
held-set layout was state table (Some old) None h d m = absurd d
held-set layout was state table (Some old) (Some new) h d m = record {
  image = image-set layout was state table old new (mended-left layout.slots state new m).version h.image d (mended-left layout.slots state new m).reads;
  settled = settled-set layout state old new h.image.laid h.settled d m;
}

-- the disk failed
settled-records : (layout : LayoutValue) (was state : State) (table : Option Content) (old new : List ℕ) → IsHeld layout was table old → IsStateAround layout.slots state old new →
    (record_in layout.slots new ≡ Some (2, was)) ⊎ (record_in layout.slots new ≡ Some (2, state))
settled-records layout was state table old new h around =
    let s = h.settled in
    let same = same-laid layout s.layout (layout_in old) h.image.laid s.laid in
    let first : record_of layout.slots (state_copy false old) ≡ Some (2, s.state) = subst (λ l. record_of l.slots (state_copy false old) ≡ Some (2, s.state)) (sym same) s.first in
    let second : record_of layout.slots (state_copy true old) ≡ Some (2, s.state) = subst (λ l. record_of l.slots (state_copy true old) ≡ Some (2, s.state)) (sym same) s.second in
    let read : s.state ≡ was = second-is (2, s.state) (h.image.version, was) (record_in layout.slots old) (ap (λ o. option_or o (record_of layout.slots (state_copy true old))) first) h.image.recorded in
    subst (λ x. (record_in layout.slots new ≡ Some (2, x)) ⊎ (record_in layout.slots new ≡ Some (2, state))) read (around (2, s.state) first second)
  where
    second-is : (a b : ℕ × State) (o : Option (ℕ × State)) → o ≡ Some a → o ≡ Some b → a.1 ≡ b.1
    second-is a b None h k = absurd cc
    second-is a b (Some x) h k = cc

pub stands-around : (layout : LayoutValue) (was state : State) (table : Option Content) (o p : Option (List ℕ)) → IsKept layout was table o → IsTrue (is_state layout.slots state) →
    IfSome o (IsHeld layout was table) → Both (DifferWithin 4096 8192) o p → Both (IsStateAround layout.slots state) o p →
    StandsAround p (device_held layout was table o) (with_state state (device_held layout was table o))
stands-around layout was state table None None k fits h d a = tt
stands-around layout was state table None (Some new) k fits h d a = absurd d
stands-around layout was state table (Some old) None k fits h d a = absurd d
stands-around layout was state table (Some old) (Some new) k fits h d a = by (settled-records layout was state table old new h a)
  where
    by : (record_in layout.slots new ≡ Some (2, was)) ⊎ (record_in layout.slots new ≡ Some (2, state)) →
        Stands new (device_held layout was table (Some old)) ⊎ Stands new (with_state state (device_held layout was table (Some old)))
    by (inl e) = inl (subst (λ dev. Stands new dev) (device-still layout was table (Some old) (Some new) d)
        (stands-for layout was table new (kept-set layout was was table (Some old) (Some new) k k.stated d) (image-set layout was was table old new 2 h.image d e)))
    by (inr e) = inr (subst (λ dev. Stands new dev) (device-set layout was state table (Some old) (Some new) d)
        (stands-for layout state table new (kept-set layout was state table (Some old) (Some new) k fits d) (image-set layout was state table old new 2 h.image d e)))

-- the store with the state
pub record IsSet {K : Type 0} (told : K → DiskTold) (old new : K) (layout : LayoutValue) (state : State) : Type 0 where
  pub fits : IsTrue (is_state layout.slots state)
  pub within : Both (DifferWithin 4096 8192) (open_bytes (told old)) (open_bytes (told new))
  pub mended : IfSome (open_bytes (told new)) (AreStatesMended layout.slots state)
  pub length : (told new).open_length ≡ (told old).open_length

pub set-whole : {K : Type 0} (told : K → DiskTold) (old new : K) (layout : LayoutValue) (was state : State) (within : Option SuperRead) (buffer : List ℕ) (broken : Bool) → broken ≡ false →
    IsStored told (held_by told old layout was within broken) layout was within buffer → IsSet told old new layout state → IsWhole told (held_by told new layout state within broken)
set-whole told old new layout was state within buffer true e h w = absurd cc
set-whole told old new layout was state within buffer false e h w =
    whole-now told new layout state within (kept-set layout was state (table_within within) (open_bytes (told old)) (open_bytes (told new)) h.kept w.fits w.within) (h.super refl)
    (held-set layout was state (table_within within) (open_bytes (told old)) (open_bytes (told new)) (held-in told old layout was within buffer h) w.within w.mended)

pub set-stored : {K : Type 0} (told : K → DiskTold) (old new : K) (layout : LayoutValue) (was state : State) (within : Option SuperRead) (buffer : List ℕ) (broken : Bool) → broken ≡ false →
    IsStored told (held_by told old layout was within broken) layout was within buffer → IsSet told old new layout state → IsStored told (held_by told new layout state within broken) layout state within buffer
set-stored told old new layout was state within buffer true e h w = absurd cc
set-stored told old new layout was state within buffer false e h w =
    stored-now told new layout state within buffer (kept-set layout was state (table_within within) (open_bytes (told old)) (open_bytes (told new)) h.kept w.fits w.within) (h.super refl)
    (held-set layout was state (table_within within) (open_bytes (told old)) (open_bytes (told new)) (held-in told old layout was within buffer h) w.within w.mended)
    (w.length ∙ h.opened) h.room

pub set-broken : {K : Type 0} (told : K → DiskTold) (old new : K) (layout : LayoutValue) (state : State) (within : Option SuperRead) (buffer : List ℕ) (broken : Bool) →
    IsStored told (held_by told old layout state within broken) layout state within buffer → Both (DifferWithin 4096 8192) (open_bytes (told old)) (open_bytes (told new)) →
    (told new).open_length ≡ (told old).open_length → IsStored told (held_by told new layout state within true) layout state within buffer
set-broken told old new layout state within buffer broken h d e =
    stored-broken told new layout state within buffer (kept-set layout state state (table_within within) (open_bytes (told old)) (open_bytes (told new)) h.kept h.kept.stated d) (e ∙ h.opened) h.room

pub set-around : {K : Type 0} (told : K → DiskTold) (old new : K) (layout : LayoutValue) (was state : State) (within : Option SuperRead) (buffer : List ℕ) (broken : Bool) → broken ≡ false →
    IsStored told (held_by told old layout was within broken) layout was within buffer → IsTrue (is_state layout.slots state) → Both (DifferWithin 4096 8192) (open_bytes (told old)) (open_bytes (told new)) →
    Both (IsStateAround layout.slots state) (open_bytes (told old)) (open_bytes (told new)) →
    StandsAround (open_bytes (told new)) (device_held layout was (table_within within) (open_bytes (told old))) (with_state state (device_held layout was (table_within within) (open_bytes (told old))))
set-around told old new layout was state within buffer true e h fits d a = absurd cc
set-around told old new layout was state within buffer false e h fits d a =
    stands-around layout was state (table_within within) (open_bytes (told old)) (open_bytes (told new)) h.kept fits (held-in told old layout was within buffer h) d a
