-- What two writes of a block, one after the other, leave of told bytes.
use Rattle.std.proofs.Common.{arith, ◌≡◌, ◌⊎◌, inl, inr, ℕ, ◌+◌, ◌≤◌, List, length, take, drop, Option, Some, None, refl, ap, sym, ◌∙◌, subst}
use Rattle.dev_disk.specs.declared.twin.Twin.{Twin}
use Rattle.fb_frame.specs.Causes.{Rose}
use Rattle.fb_frame.specs.Told.{Both}
use Rattle.dev_disk.specs.Files.{Files, content, written, DifferWithin, IsInside, Wrote, KeepsUnopened}
use Rattle.dev_disk.specs.Files.{Tears, unchanged, IsTornAt, copy}
use Rattle.dev_disk.specs.Disks.{DiskTold, open_bytes, FilesKept, OpenKept, Writes, FailsWrite}
use Rattle.dev_disk.specs.Calls.{Agrees, IsFileOf}
use Rattle.dev_disk.specs.Twins.{WroteBoth, WroteOne, IsLeft, IsLeftAt, IsFirstLeft, IsSecondLeft, WritesTwin, FailsTwin, FailsCopy}
use Rattle.dev_disk.proofs.Writes.{length-written, read-written, differ-written, kept-outside}

-- the told bytes reach past this range
abbrev pub HasRange : Option (List ℕ) → ℕ → ℕ → Type 0
HasRange None at count = Unit {0}
HasRange (Some file) at count = at + count ≤ length file

file-range : (o : Option (List ℕ)) (size at count : ℕ) → IsFileOf o size → at + count ≤ size → HasRange o at count
file-range None size at count h k = tt
file-range (Some file) size at count h k = omega arith

-- a range inside the open file is one of the told bytes
pub content-range : (files : Option Files) (path : Option (List ℕ)) (size : Option ℕ) (at count : ℕ) → Agrees files path size → IsInside size at count → HasRange (content files path) at count
unfolding content
content-range None path size at count h k = tt
content-range (Some f) None size at count h k = tt
content-range (Some f) (Some p) None at count h k = absurd h
content-range (Some f) (Some p) (Some size) at count h k = file-range (f p) size at count h k

pub keeps-more : (a b c : Option Files) (path : Option (List ℕ)) → KeepsUnopened a b path → KeepsUnopened b c path → KeepsUnopened a c path
keeps-more a b c None h k = k ∙ h
keeps-more None None c (Some path) h k = k
keeps-more None (Some g) c (Some path) h k = absurd h
keeps-more (Some f) None c (Some path) h k = absurd h
keeps-more (Some f) (Some g) None (Some path) h k = k
keeps-more (Some f) (Some g) (Some e) (Some path) h k = λ other ne. k other ne ∙ h other ne

-- a block for both copies, which reach past no end
pub record Fits (twin : Twin) (block old : List ℕ) : Type 0 where
  pub block_size : length block ≡ twin.size
  pub first_inside : twin.first + twin.size ≤ length old
  pub second_inside : twin.second + twin.size ≤ length old
  pub apart : (twin.first + twin.size ≤ twin.second) ⊎ (twin.second + twin.size ≤ twin.first)

-- the same of told bytes
abbrev pub Twice : Twin → List ℕ → Option (List ℕ) → Type 0
Twice twin block None = Unit {0}
Twice twin block (Some old) = Fits twin block old

pub twice : (twin : Twin) (block : List ℕ) (o : Option (List ℕ)) → length block ≡ twin.size → HasRange o twin.first twin.size → HasRange o twin.second twin.size →
    (twin.first + twin.size ≤ twin.second) ⊎ (twin.second + twin.size ≤ twin.first) → Twice twin block o
twice twin block None e f s apart = tt
twice twin block (Some old) e f s apart = record { block_size = e; first_inside = f; second_inside = s; apart = apart }

other-way : {A B : Type 0} → A ⊎ B → B ⊎ A
other-way (inl a) = inr a
other-way (inr b) = inl b

both-written : (twin : Twin) (block old : List ℕ) → Fits twin block old → WroteBoth twin block old (written (written old twin.first block) twin.second block)
both-written twin block old h =
    let mid = written old twin.first block in
    let first_fits : twin.first + length block ≤ length old = omega arith in
    let mid_length : length mid ≡ length old = length-written old twin.first block first_fits in
    let second_fits : twin.second + length block ≤ length mid = omega arith in
    let differ : DifferWithin twin.second twin.size mid (written mid twin.second block) = subst (λ n. DifferWithin twin.second n mid (written mid twin.second block)) h.block_size (differ-written mid twin.second block second_fits) in
    record {
      whole = refl;
      first = kept-outside mid (written mid twin.second block) twin.second twin.size twin.first twin.size differ h.apart
          ∙ subst (λ n. take n (drop twin.first mid) ≡ block) h.block_size (read-written old twin.first block first_fits);
      second = subst (λ n. take n (drop twin.second (written mid twin.second block)) ≡ block) h.block_size (read-written mid twin.second block second_fits);
      same_length = length-written mid twin.second block second_fits ∙ mid_length;
    }

first-left : (torn : Tears) (twin : Twin) (block old new : List ℕ) → Fits twin block old → IsLeftAt torn twin.first block old new →
    IsFirstLeft torn twin block old new
first-left torn twin block old new h d =
    let differs : DifferWithin twin.first twin.size old new = subst (λ n. DifferWithin twin.first n old new) h.block_size d.differs in
    record {
      differs = differs;
      first = subst (λ n. IsLeft torn (copy old twin.first n) block (copy new twin.first n)) h.block_size d.left;
      second = kept-outside old new twin.first twin.size twin.second twin.size differs (other-way h.apart);
    }

second-left : (torn : Tears) (twin : Twin) (block old new : List ℕ) → Fits twin block old →
    IsLeftAt torn twin.second block (written old twin.first block) new → IsSecondLeft torn twin block old new
second-left torn twin block old new h d =
    let mid = written old twin.first block in
    let first_fits : twin.first + length block ≤ length old = omega arith in
    let differs : DifferWithin twin.second twin.size mid new = subst (λ n. DifferWithin twin.second n mid new) h.block_size d.differs in
    let changed : DifferWithin twin.first twin.size old mid = subst (λ n. DifferWithin twin.first n old mid) h.block_size (differ-written old twin.first block first_fits) in
    let same : copy mid twin.second twin.size ≡ copy old twin.second twin.size = kept-outside old mid twin.first twin.size twin.second twin.size changed (other-way h.apart) in
    let left : IsLeft torn (copy mid twin.second twin.size) block (copy new twin.second twin.size) =
    subst (λ n. IsLeft torn (copy mid twin.second n) block (copy new twin.second n)) h.block_size d.left in
    record {
      differs = differs;
      first = kept-outside mid new twin.second twin.size twin.first twin.size differs h.apart
          ∙ subst (λ n. take n (drop twin.first mid) ≡ block) h.block_size (read-written old twin.first block first_fits);
      second = subst (λ l. IsLeft torn l block (copy new twin.second twin.size)) same left;
    }

-- the same of told bytes
told-both : (twin : Twin) (block : List ℕ) (a b c : Option (List ℕ)) → Twice twin block a → Wrote a b twin.first block → Wrote b c twin.second block → Both (WroteBoth twin block) a c
told-both twin block None None None t w v = tt
told-both twin block None None (Some new) t w v = v
told-both twin block None (Some mid) c t w v = absurd w
told-both twin block (Some old) None c t w v = absurd w
told-both twin block (Some old) (Some mid) None t w v = v
told-both twin block (Some old) (Some mid) (Some new) t w v =
    subst (WroteBoth twin block old) (sym (v ∙ ap (λ l. written l twin.second block) w)) (both-written twin block old t)

told-first : (torn : Tears) (twin : Twin) (block : List ℕ) (a b : Option (List ℕ)) → Twice twin block a →
    Both (IsLeftAt torn twin.first block) a b → Both (WroteOne torn twin block) a b
told-first torn twin block None None t w = tt
told-first torn twin block None (Some new) t w = w
told-first torn twin block (Some old) None t w = w
told-first torn twin block (Some old) (Some new) t w = inl (first-left torn twin block old new t w)

told-second : (torn : Tears) (twin : Twin) (block : List ℕ) (a b c : Option (List ℕ)) → Twice twin block a → Wrote a b twin.first block →
    Both (IsLeftAt torn twin.second block) b c → Both (WroteOne torn twin block) a c
told-second torn twin block None None None t w v = tt
told-second torn twin block None None (Some new) t w v = v
told-second torn twin block None (Some mid) c t w v = absurd w
told-second torn twin block (Some old) None c t w v = absurd w
told-second torn twin block (Some old) (Some mid) None t w v = v
told-second torn twin block (Some old) (Some mid) (Some new) t w v =
    inr (second-left torn twin block old new t (subst (λ l. IsLeftAt torn twin.second block l new) w v))

told-torn : (torn : Tears) (at : ℕ) (block : List ℕ) (a b : Option (List ℕ)) → Both (IsTornAt torn at block) a b → Both (IsLeftAt torn at block) a b
told-torn torn at block None None t = tt
told-torn torn at block None (Some new) t = t
told-torn torn at block (Some old) None t = t
told-torn torn at block (Some old) (Some new) t = record { differs = t.differs; left = inr t.left }

told-written : (torn : Tears) (at : ℕ) (block : List ℕ) (a b : Option (List ℕ)) → HasRange a at (length block) → Wrote a b at block → Both (IsLeftAt torn at block) a b
told-written torn at block None None r w = tt
told-written torn at block None (Some new) r w = w
told-written torn at block (Some old) None r w = w
told-written torn at block (Some old) (Some new) r w = record {
  differs = subst (DifferWithin at (length block) old) (sym w) (differ-written old at block r);
  left = inl (subst (λ l. copy l at (length block) ≡ block) (sym w) (read-written old at block r));
}

-- a disk's bytes stay with its files
pub same-bytes : (a b : DiskTold) → FilesKept a b → open_bytes b ≡ open_bytes a
same-bytes a b k = ap (λ files. content files b.open_path) k.files ∙ ap (content a.files) k.path

-- two calls in a row
pub FilesKept-then : (a b c : DiskTold) → FilesKept a b → FilesKept b c → FilesKept a c
FilesKept-then a b c h k = record {
  files = k.files ∙ h.files;
  path = k.path ∙ h.path;
  length = k.length ∙ h.length;
  later = omega (arith, h.later, k.later);
  torn = λ old written left t. k.torn old written left (h.torn old written left t);
}

pub OpenKept-then : (a b c : DiskTold) → OpenKept a b → OpenKept b c → OpenKept a c
OpenKept-then a b c h k = record {
  path = k.path ∙ h.path;
  length = k.length ∙ h.length;
  others = keeps-more a.files b.files c.files a.open_path h.others (subst (KeepsUnopened b.files c.files) h.path k.others);
  later = omega (arith, h.later, k.later);
  torn = λ old written left t. k.torn old written left (h.torn old written left t);
}

kept-unopened : (a b : Option Files) (path : Option (List ℕ)) → b ≡ a → KeepsUnopened a b path
kept-unopened a b None e = e
kept-unopened a b (Some path) e = subst (λ files. KeepsUnopened a files (Some path)) (sym e) (kept-self a path)
  where
    kept-self : (files : Option Files) (path : List ℕ) → KeepsUnopened files files (Some path)
    kept-self None path = tt
    kept-self (Some f) path = λ other ne. refl

pub OpenKept-files : (a b : DiskTold) → FilesKept a b → OpenKept a b
OpenKept-files a b k = record { path = k.path; length = k.length; others = kept-unopened a.files b.files a.open_path k.files; later = k.later; torn = k.torn }

pub ruleset disk_kept = (FilesKept-then, OpenKept-then, OpenKept-files)

-- a count that rose in the second of two calls rose in both, and one that rose in the first did so too
pub Rose-behind : (a b c : ℕ) → a ≤ b → Rose b c → Rose a c
Rose-behind a b c h r = omega (arith, h, r)

pub Rose-before : (a b c : ℕ) → Rose a b → b ≤ c → Rose a c
Rose-before a b c r h = omega (arith, h, r)

-- a write that was kept, and one that wasn't
pub Writes-kept : (a b c : DiskTold) (at : ℕ) (block : List ℕ) → Writes a b at block → FilesKept b c → Writes a c at block
Writes-kept a b c at block w k = record {
  wrote = subst (λ o. Wrote (open_bytes a) o at block) (sym (same-bytes b c k)) w.wrote;
  kept = OpenKept-then a b c w.kept (OpenKept-files b c k);
}

pub FailsCopy-torn : (a b : DiskTold) (at : ℕ) (block : List ℕ) → FailsWrite a b at block → FailsCopy a b at block
FailsCopy-torn a b at block w = record {
  left = told-torn b.torn at block (open_bytes a) (open_bytes b) w.part;
  kept = w.kept;
  rose = w.rose;
}

pub FailsCopy-kept : (a b c : DiskTold) (at : ℕ) (block : List ℕ) → HasRange (open_bytes a) at (length block) →
    Writes a b at block → FilesKept b c → Rose b.faults c.faults → FailsCopy a c at block
FailsCopy-kept a b c at block range w k rose =
    let all : Writes a c at block = Writes-kept a b c at block w k in
    record {
      left = told-written c.torn at block (open_bytes a) (open_bytes c) range all.wrote;
      kept = all.kept;
      rose = Rose-behind a.faults b.faults c.faults w.kept.later rose;
    }

pub WritesTwin-both : (twin : Twin) (block : List ℕ) (a b c : DiskTold) → Twice twin block (open_bytes a) →
    Writes a b twin.first block → Writes b c twin.second block → WritesTwin twin block a c
WritesTwin-both twin block a b c t w v = record {
  both = told-both twin block (open_bytes a) (open_bytes b) (open_bytes c) t w.wrote v.wrote;
  kept = OpenKept-then a b c w.kept v.kept;
}

pub FailsTwin-first : (twin : Twin) (block : List ℕ) (a b : DiskTold) → Twice twin block (open_bytes a) →
    FailsCopy a b twin.first block → FailsTwin twin block a b
FailsTwin-first twin block a b t w = record {
  one = told-first b.torn twin block (open_bytes a) (open_bytes b) t w.left;
  kept = w.kept;
  rose = w.rose;
}

pub FailsTwin-second : (twin : Twin) (block : List ℕ) (a b c : DiskTold) → Twice twin block (open_bytes a) →
    Writes a b twin.first block → FailsCopy b c twin.second block → FailsTwin twin block a c
FailsTwin-second twin block a b c t w v = record {
  one = told-second c.torn twin block (open_bytes a) (open_bytes b) (open_bytes c) t w.wrote v.left;
  kept = OpenKept-then a b c w.kept v.kept;
  rose = Rose-behind a.faults b.faults c.faults w.kept.later v.rose;
}

-- a call that failed and changed nothing tore nothing
pub torn-still : (at : ℕ) (bytes : List ℕ) (a b : Option (List ℕ)) → b ≡ a → Both (IsTornAt unchanged at bytes) a b
torn-still at bytes a b e = subst (Both (IsTornAt unchanged at bytes) a) (sym e) (still a)
  where
    still : (o : Option (List ℕ)) → Both (IsTornAt unchanged at bytes) o o
    still None = tt
    still (Some file) = record { differs = record { same_length = refl; front = refl; rest = refl }; left = refl }
