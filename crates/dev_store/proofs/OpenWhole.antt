-- A store over an image that was read and repaired is whole.
use Rattle.std.proofs.Common.{arith, ◌≡◌, ◌∙◌, refl, ap, sym, subst, ℕ, Bool, true, false, List, ◌++◌, take, length, Option, Some, None, Result, Ok, Err}
use Rattle.std.proofs.lemmas.List.{length-replicate}
use Rattle.std.proofs.Math.Seq.{take-append_seam}
use Rattle.std.specs.Prelude.{IsTrue, IfSome}
use Rattle.fb_frame.specs.Bytes.{zeros}
use Rattle.dev_model.specs.declared.bad_image.BadImage.{BadImage}
use Rattle.dev_model.specs.declared.device.Dev.{Dev}
use Rattle.dev_model.specs.Validity.{IsValid}
use Rattle.dev_model.specs.Partitions.{is_fastboot}
use Rattle.std.specs.Result.{result_ok}
use Rattle.fb_frame.specs.Told.{Both}
use Rattle.super_meta.specs.Contents.{Content, content}
use Rattle.super_meta.proofs.GivenLemmas.{gives}
use Rattle.dev_disk.specs.Disks.{DiskTold, open_bytes}
use Rattle.dev_store.specs.declared.layout.SuperPart.{SuperPart}
use Rattle.dev_store.specs.declared.state.State.{State}
use Rattle.dev_store.specs.declared.super_read.SuperRead.{SuperRead}
use Rattle.dev_store.specs.declared.image_read.ImageRead.{ImageRead}
use Rattle.dev_store.specs.Layouts.{LayoutValue, image_size}
use Rattle.dev_store.specs.Laid.{IsLaid}
use Rattle.std.specs.Option.{option_or}
use Rattle.dev_store.specs.Layouts.{layout_in}
use Rattle.dev_store.specs.States.{is_state, start_mode, record_in, record_of, state_copy}
use Rattle.dev_store.specs.Supers.{table_read, copy_reads}
use Rattle.dev_store.specs.Repairs.{SuperRepaired}
use Rattle.dev_store.specs.PartWrites.{IsImageOf, IsTableOf}
use Rattle.dev_store.specs.Stand.{stand, Starts, Settled, owned, physical_at, device_with, super_bytes}
use Rattle.dev_store.specs.Held.{device_held, file_or_zeros, super_by, Holds, IsSettled, OwnsAsTold, IsWhole, IsKept, IsTabled}
use Rattle.dev_store.specs.Reading.{IsImageRead, IsMended, IsReadSound, IsWithinSound, IsWithinRead, held_of, table_within, owned_within, IsStored}
use Rattle.dev_store.proofs.ValidStands.{super_makes_valid, plain_makes_valid}
use Rattle.dev_store.proofs.OpenLemmas.{opened, read-stands, geometry-either, state-recorded}
use Rattle.dev_store.proofs.OpenZeros.{held-zeroed}
use Rattle.dev_store.proofs.OpenOwns.{units-within, maps}

-- what is so of the told file of a store
pub record IsNow (r : ImageRead) (now : List ℕ) : Type 0 where
  pub stands : stand now ≡ Ok (device_held r.layout r.found.state (table_within r.within) (Some now))
  pub settled : Settled now
  pub owns : (name : List ℕ) → owned now name ≡ owned_within r.layout.super_part r.within name
  pub long : length now ≡ image_size r.layout

within-tabled : (layout : LayoutValue) (part : Option SuperPart) (within : Option SuperRead) → IsWithinSound layout part within → IsTabled layout part (table_within within)
within-tabled layout None None h = tt
within-tabled layout None (Some w) h = absurd h
within-tabled layout (Some s) None h = absurd h
within-tabled layout (Some s) (Some w) h = (h.good, (w.copy.items, ap result_ok (gives w.copy.items (content w.table) h.spelled.copy)))

now-long : (r : ImageRead) (o : Option (List ℕ)) → IfSome o (IsNow r) → IfSome o (λ file. length file ≡ image_size r.layout)
now-long r None h = tt
now-long r (Some now) h = h.long

pub image-kept : (r : ImageRead) (o : Option (List ℕ)) → IsReadSound r → IfSome o (IsNow r) → IsKept r.layout r.found.state (table_within r.within) o
image-kept r o sound h = record {
  laid = sound.laid;
  stated = sound.fits;
  tabled = within-tabled r.layout r.layout.super_part r.within sound.super;
  long = now-long r o h;
}

tabled-valid : (layout : LayoutValue) (state : State) (part : Option SuperPart) (table : Option Content) (file : List ℕ) → layout.super_part ≡ part → IsLaid layout →
    IsTrue (is_state layout.slots state) → IsTabled layout part table → length file ≡ image_size layout →
    IsValid (device_with layout state (physical_at 12288 layout.physical file) (super_by layout part table file))
tabled-valid layout state None None file e laid fits t long = plain_makes_valid layout state file laid e long fits
tabled-valid layout state None (Some c) file e laid fits t long = absurd t
tabled-valid layout state (Some s) None file e laid fits t long = absurd t
tabled-valid layout state (Some s) (Some c) file e laid fits t long = super_makes_valid layout s state c file t.1.0 laid e long t.1.1 t.0 fits

pub file-long : (layout : LayoutValue) (o : Option (List ℕ)) → IfSome o (λ file. length file ≡ image_size layout) → length (file_or_zeros layout o) ≡ image_size layout
unfolding zeros
file-long layout None h = length-replicate (image_size layout) 0
file-long layout (Some file) h = h

pub kept-valid : (layout : LayoutValue) (state : State) (table : Option Content) (o : Option (List ℕ)) → IsKept layout state table o → IsValid (device_held layout state table o)
unfolding device_held
kept-valid layout state table o k = tabled-valid layout state layout.super_part table (file_or_zeros layout o) refl k.laid k.stated k.tabled (file-long layout o k.long)

pub starts-self : (userspace : Bool) → Starts (start_mode userspace) (start_mode userspace)
starts-self true = refl
starts-self false = refl

pub starts-fastboot : (userspace : Bool) → IsTrue (is_fastboot (start_mode userspace))
starts-fastboot true = refl
starts-fastboot false = refl

now-holds : (r : ImageRead) (o : Option (List ℕ)) → IfSome o (IsNow r) → Holds o (device_held r.layout r.found.state (table_within r.within) o)
unfolding Holds device_held
now-holds r None h = held-zeroed r.layout r.found.state (table_within r.within)
now-holds r (Some now) h = record { found = device_held r.layout r.found.state (table_within r.within) (Some now); reads = h.stands; same = refl; starts = starts-self r.found.state.userspace }

now-settled : (r : ImageRead) (o : Option (List ℕ)) → IfSome o (IsNow r) → IsSettled o
unfolding IsSettled
now-settled r None h = tt
now-settled r (Some now) h = h.settled

now-owns : {K : Type 0} (told : K → DiskTold) (disk : K) (r : ImageRead) (o : Option (List ℕ)) → IsReadSound r → IfSome o (IsNow r) → OwnsAsTold o (held_of told disk r)
unfolding OwnsAsTold
now-owns told disk r None sound h = tt
now-owns told disk r (Some now) sound h = λ name. units-within told disk r name sound ∙ sym (h.owns name)

pub whole : {K : Type 0} (told : K → DiskTold) (disk : K) (r : ImageRead) → IsReadSound r → IfSome (open_bytes (told disk)) (IsNow r) → IsWhole told (held_of told disk r)
whole told disk r sound h =
    let o = open_bytes (told disk) in
    record {
      sound = record {
        valid = kept-valid r.layout r.found.state (table_within r.within) o (image-kept r o sound h);
        stands = now-holds r o h;
      };
      usable = refl;
      settled = now-settled r o h;
      owns = now-owns told disk r o sound h;
      mapped = maps told disk r sound;
    }

-- the file that was read, and the repaired one
pub stood-before : (r : ImageRead) (o p : Option (List ℕ)) → IsReadSound r → IfSome o (IsImageRead r) → Both (IsMended r) o p →
    IfSome o (λ file. stand file ≡ Ok (device_held r.layout r.found.state (table_within r.within) p))
stood-before r None p sound h m = tt
stood-before r (Some file) None sound h m = absurd m
stood-before r (Some file) (Some now) sound h m = (opened r file now sound h m).stood

-- a file that stands for no device isn't read as an image
ok-apart : (dev : Dev) (bad : BadImage) → ◌≡◌ {A = Result Dev BadImage} (Ok dev) (Err bad) → ⊥
ok-apart dev bad h = absurd cc

pub read-good : (r : ImageRead) (o : Option (List ℕ)) (bad : BadImage) → IsReadSound r → IfSome o (IsImageRead r) → IfSome o (λ file. stand file ≡ Err bad → ⊥)
read-good r None bad sound h = tt
read-good r (Some file) bad sound h = λ e. ok-apart _ bad (sym (read-stands r file sound h) ∙ e)

pub is-now : (r : ImageRead) (o p : Option (List ℕ)) → IsReadSound r → IfSome o (IsImageRead r) → Both (IsMended r) o p → IfSome p (λ now. length now ≡ image_size r.layout) → IfSome p (IsNow r)
is-now r o None sound h m long = tt
is-now r None (Some now) sound h m long = absurd m
is-now r (Some file) (Some now) sound h m long =
    let o = opened r file now sound h m in
    record { stands = o.stands; settled = o.settled; owns = o.owns; long = long }

-- the table is read of a repaired super
some-is : {X : Type 0} (x y : X) (o : Option X) → o ≡ Some x → o ≡ Some y → x ≡ y
some-is x y None h k = absurd cc
some-is x y (Some z) h k = cc

first-is : {X : Type 0} (a b : Option X) (x : X) → a ≡ Some x → option_or a b ≡ Some x
first-is a b x h = subst (λ o. option_or o b ≡ Some x) (sym h) refl

has-table : (layout : LayoutValue) (part : Option SuperPart) (within : Option SuperRead) (file now : List ℕ) → IsWithinSound layout part within → IsWithinRead layout part within file →
    SuperRepaired layout part file now → IsTableOf layout part (table_within within) now
has-table layout None None file now sound h m = tt
has-table layout None (Some w) file now sound h m = absurd sound
has-table layout (Some s) None file now sound h m = absurd sound
has-table layout (Some s) (Some w) file now sound h m =
    let super = super_bytes layout s now in
    let same : m.table ≡ content w.table = some-is m.table (content w.table) (table_read s (super_bytes layout s file)) m.tabled h.read in
    record {
      geometry = geometry-either s super false m.first;
      read = first-is (copy_reads s 0 super) (copy_reads s s.slots super) (content w.table) (m.copies 0 (omega (arith, m.some)) ∙ ap Some same);
    }

-- the repaired image has what was read
image-of-file : (r : ImageRead) (file now : List ℕ) → IsReadSound r → IsImageRead r file → IsMended r file now → IsImageOf r.layout r.found.state (table_within r.within) now
image-of-file r file now sound h m =
    let layout = r.layout in
    let p = m.repaired in
    let same : p.layout ≡ layout = some-is p.layout layout (layout_in file) p.laid h.front.laid in
    let read : p.state ≡ r.found.state =
    ap (λ x. x.1) (some-is {X = ℕ × State} (p.version, p.state) (r.found.version, r.found.state) (record_in layout.slots file) (subst (λ l. record_in l.slots file ≡ Some (p.version, p.state)) same p.recorded)
    (state-recorded layout.slots r.found file h.state)) in
    record {
      laid = p.same_layout ∙ ap Some same;
      version = 2;
      recorded = subst (λ l. record_in l.slots now ≡ Some (2, r.found.state)) same
          (first-is (record_of p.layout.slots (state_copy false now)) (record_of p.layout.slots (state_copy true now)) (2, r.found.state) (p.first ∙ ap (λ s. Some (2, s)) read));
      tabled = has-table layout layout.super_part r.within file now sound.super h.super m.super;
    }

pub image-of : (r : ImageRead) (o p : Option (List ℕ)) → IsReadSound r → IfSome o (IsImageRead r) → Both (IsMended r) o p → IfSome p (IsImageOf r.layout r.found.state (table_within r.within))
image-of r o None sound h m = tt
image-of r None (Some now) sound h m = absurd m
image-of r (Some file) (Some now) sound h m = image-of-file r file now sound h m

-- a vector that was lent as a slice has its bytes, and is as long as it was
pub lent-is : (n count : ℕ) (now rest : List ℕ) → length now ≡ n → count ≡ n → take count (now ++ rest) ≡ now
lent-is n count now rest h e = subst (λ k. take k (now ++ rest) ≡ now) (h ∙ sym e) (take-append_seam now rest)

pub lent-long : (n count : ℕ) (now rest : List ℕ) → length now ≡ n → count ≡ n → length (take count (now ++ rest)) ≡ n
lent-long n count now rest h e = ap length (lent-is n count now rest h e) ∙ h

pub stored : {K : Type 0} (told : K → DiskTold) (disk : K) (r : ImageRead) (buffer : List ℕ) → IsReadSound r → IfSome (open_bytes (told disk)) (IsNow r) →
    IfSome (open_bytes (told disk)) (IsImageOf r.layout r.found.state (table_within r.within)) → (told disk).open_length ≡ Some (image_size r.layout) → length buffer ≡ 126976 →
    IsStored told (held_of told disk r) r.layout r.found.state r.within buffer
stored told disk r buffer sound h image length-open room =
    let w = whole told disk r sound h in
    record {
      valid = w.sound.valid;
      opened = length-open;
      kept = image-kept r (open_bytes (told disk)) sound h;
      whole = λ _. w;
      super = λ _. sound.super;
      read = λ _. image;
      room = room;
    }
