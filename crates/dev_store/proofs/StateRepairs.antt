-- What repairs of the two state records make of a file, and what they leave where the disk failed.
use Rattle.std.proofs.Common.{arith, ◌≡◌, ◌∙◌, refl, ap, sym, subst, inl, inr, ℕ, ◌+◌, ◌≤◌, Bool, true, false, not, List, length, take, drop, Option, Some, None, Result, Ok, Err, if◌then◌else◌}
use Rattle.std.specs.Prelude.{◌⊎◌, IsTrue, IfSome, OnOk, OnErr}
use Rattle.std.specs.Option.{option_or}
use Rattle.fb_frame.specs.Told.{Both}
use Rattle.std.proofs.lemmas.List.{drop-drop, take-take}
use Rattle.dev_disk.specs.Files.{DifferWithin, IsWritten, written, copy, Tears}
use Rattle.dev_disk.specs.Honest.{ReadsAs}
use Rattle.dev_disk.specs.declared.twin.Twin.{Twin}
use Rattle.dev_disk.specs.Disks.{DiskTold, open_bytes, Writes}
use Rattle.dev_disk.specs.Twins.{IsLeftAt, FailsCopy, copy_place}
use Rattle.dev_disk.proofs.Writes.{read-written, differ-written, kept-outside}
use Rattle.dev_disk.proofs.HonestLemmas.{left-reads}
use Rattle.dev_disk.proofs.TwinLemmas.{HasRange}
use Rattle.dev_store.specs.declared.state.State.{State}
use Rattle.dev_store.specs.declared.states_read.StateRead.{StateRead}
use Rattle.dev_store.specs.Faults.{IsHonest}
use Rattle.dev_store.specs.States.{record_of, record_block, state_copy, is_state}
use Rattle.dev_store.specs.Reading.{state_places, IsStateRead, IsOtherMended, IsStateLeft, AreStatesMended}
use Rattle.dev_store.proofs.RecordLemmas.{record_again}

-- results and what is told
pub ok-more : {T E A B : Type 0} (r : Result T E) → (A → B) → OnOk r A → OnOk r B
ok-more (Ok x) f h = f h
ok-more (Err e) f h = tt

pub err-more : {T E A B : Type 0} (r : Result T E) → (A → B) → OnErr r A → OnErr r B
err-more (Ok x) f h = tt
err-more (Err e) f h = f h

pub on-told : (P Q : List ℕ → Type 0) (R : List ℕ → List ℕ → Type 0) (a b : Option (List ℕ)) → ((old new : List ℕ) → P old → R old new → Q new) → IfSome a P → Both R a b → IfSome b Q
on-told P Q R None None f h r = tt
on-told P Q R None (Some new) f h r = absurd r
on-told P Q R (Some old) None f h r = absurd r
on-told P Q R (Some old) (Some new) f h r = f old new h r

pub both-told : (P : List ℕ → Type 0) (R S : List ℕ → List ℕ → Type 0) (a b : Option (List ℕ)) → ((old new : List ℕ) → P old → R old new → S old new) → IfSome a P → Both R a b → Both S a b
both-told P R S None None f h r = tt
both-told P R S None (Some new) f h r = absurd r
both-told P R S (Some old) None f h r = absurd r
both-told P R S (Some old) (Some new) f h r = f old new h r

pub told-more : (P Q : List ℕ → Type 0) (a : Option (List ℕ)) → ((file : List ℕ) → P file → Q file) → IfSome a P → IfSome a Q
told-more P Q None f h = tt
told-more P Q (Some file) f h = f file h

pub told-self : (R : List ℕ → List ℕ → Type 0) (a : Option (List ℕ)) → ((file : List ℕ) → R file file) → Both R a a
told-self R None f = tt
told-self R (Some file) f = f file

-- the told file is as long as its front, and this is so of it
pub record IsLongAnd (P : List ℕ → Type 0) (file : List ℕ) : Type 0 where
  pub long : 12288 ≤ length file
  pub and : P file

pub long-and : (P : List ℕ → Type 0) (o : Option (List ℕ)) → HasRange o 0 12288 → IfSome o P → IfSome o (IsLongAnd P)
long-and P None h p = tt
long-and P (Some file) h p = record { long = h; and = p }

-- the block of a state
pub record IsBlock (slots : ℕ) (state : State) (block : List ℕ) : Type 0 where
  pub fits : IsTrue (is_state slots state)
  pub whole : block ≡ record_block 2 state
  pub long : length block ≡ 4096

pub reads-block : (slots : ℕ) (state : State) (block : List ℕ) → IsBlock slots state block → record_of slots block ≡ Some (2, state)
reads-block slots state block b = ap (record_of slots) b.whole ∙ record_again slots state b.fits

differ-same : (at count : ℕ) (file : List ℕ) → DifferWithin at count file file
differ-same at count file = record { same_length = refl; front = refl; rest = refl }

-- one record was written
pub record IsOneWritten (which : Bool) (slots : ℕ) (state : State) (old new : List ℕ) : Type 0 where
  pub differs : DifferWithin 4096 8192 old new
  pub here : record_of slots (state_copy which new) ≡ Some (2, state)
  pub there : state_copy (not which) new ≡ state_copy (not which) old

-- one record was being written
pub record IsOneLeft (which : Bool) (slots : ℕ) (state : State) (old new : List ℕ) : Type 0 where
  pub differs : DifferWithin 4096 8192 old new
  pub here : ReadsAs (record_of slots (state_copy which old)) (Some (2, state)) (record_of slots (state_copy which new))
  pub there : state_copy (not which) new ≡ state_copy (not which) old

-- what changed in one record lies in both
pub widened : (which : Bool) (old new : List ℕ) → DifferWithin (copy_place state_places which) 4096 old new → DifferWithin 4096 8192 old new
widened false old new d = record {
  same_length = d.same_length;
  front = d.front;
  rest = copies-rest old new d.rest;
}
  where
    copies-rest : (old new : List ℕ) → drop 8192 new ≡ drop 8192 old → drop 12288 new ≡ drop 12288 old
    copies-rest old new e = sym (drop-drop 4096 8192 new) ∙ (ap (drop 4096) e ∙ drop-drop 4096 8192 old)
widened true old new d = record {
  same_length = d.same_length;
  front = sym (take-take 4096 8192 new (omega arith)) ∙ (ap (take 4096) d.front ∙ take-take 4096 8192 old (omega arith));
  rest = d.rest;
}

other-kept : (which : Bool) (old new : List ℕ) → DifferWithin (copy_place state_places which) 4096 old new → state_copy (not which) new ≡ state_copy (not which) old
other-kept false old new d = kept-outside old new 4096 4096 8192 4096 d (inr (omega arith))
other-kept true old new d = kept-outside old new 8192 4096 4096 4096 d (inl (omega arith))

place-inside : (which : Bool) (n : ℕ) → 12288 ≤ n → copy_place state_places which + 4096 ≤ n
place-inside false n h = omega arith
place-inside true n h = omega arith

copy-is : (which : Bool) (file : List ℕ) → state_copy which file ≡ copy file (copy_place state_places which) 4096
copy-is false file = refl
copy-is true file = refl

pub one-written : (which : Bool) (slots : ℕ) (state : State) (block old new : List ℕ) → IsBlock slots state block → 12288 ≤ length old →
    IsWritten (copy_place state_places which) block old new → IsOneWritten which slots state old new
one-written which slots state block old new b long e =
    let at = copy_place state_places which in
    let inside : at + length block ≤ length old = subst (λ n. at + n ≤ length old) (sym b.long) (place-inside which (length old) long) in
    let d : DifferWithin at 4096 old new = subst (λ n. DifferWithin at 4096 old n) (sym e) (subst (λ n. DifferWithin at n old (written old at block)) b.long (differ-written old at block inside)) in
    let here : copy new at 4096 ≡ block = ap (λ file. copy file at 4096) e ∙ subst (λ n. take n (drop at (written old at block)) ≡ block) b.long (read-written old at block inside) in
    record {
      differs = widened which old new d;
      here = ap (record_of slots) (copy-is which new ∙ here) ∙ reads-block slots state block b;
      there = other-kept which old new d;
    }

pub one-left : (torn : Tears) (which : Bool) (slots : ℕ) (state : State) (block old new : List ℕ) → IsBlock slots state block → IsHonest torn →
    IsLeftAt torn (copy_place state_places which) block old new → IsOneLeft which slots state old new
one-left torn which slots state block old new b honest h =
    let at = copy_place state_places which in
    let d : DifferWithin at 4096 old new = subst (λ n. DifferWithin at n old new) b.long h.differs in
    let reads = left-reads (record_of slots) torn (copy old at (length block)) block (copy new at (length block)) (honest.states slots) h.left in
    let here : ReadsAs (record_of slots (copy old at 4096)) (record_of slots block) (record_of slots (copy new at 4096)) =
    subst (λ n. ReadsAs (record_of slots (copy old at n)) (record_of slots block) (record_of slots (copy new at n))) b.long reads in
    record {
      differs = widened which old new d;
      here = subst (λ o. ReadsAs (record_of slots (state_copy which old)) o (record_of slots (state_copy which new))) (reads-block slots state block b)
          (subst (λ f. ReadsAs (record_of slots f) (record_of slots block) (record_of slots (state_copy which new))) (sym (copy-is which old))
          (subst (λ f. ReadsAs (record_of slots (copy old at 4096)) (record_of slots block) (record_of slots f)) (sym (copy-is which new)) here));
      there = other-kept which old new d;
    }

pub left-within : (torn : Tears) (which : Bool) (block old new : List ℕ) → length block ≡ 4096 → IsLeftAt torn (copy_place state_places which) block old new → DifferWithin 4096 8192 old new
left-within torn which block old new long h = widened which old new (subst (λ n. DifferWithin (copy_place state_places which) n old new) long h.differs)

pub within-same : (o : Option (List ℕ)) → Both (DifferWithin 4096 8192) o o
within-same o = told-self (DifferWithin 4096 8192) o (differ-same 4096 8192)

-- the record of a copy, chosen by which it is
choice : {X : Type 0} (f : Bool → X) (b : Bool) → (if b then f true else f false) ≡ f b
choice f false = refl
choice f true = refl

choice-not : {X : Type 0} (f : Bool → X) (b : Bool) → (if b then f false else f true) ≡ f (not b)
choice-not f false = refl
choice-not f true = refl

not-not : (b : Bool) → not (not b) ≡ b
not-not false = refl
not-not true = refl

own-read : (slots : ℕ) (r : StateRead) (file : List ℕ) → IsStateRead slots r file → record_of slots (state_copy r.second file) ≡ Some (r.version, r.state)
own-read slots r file h = sym (choice (λ b. record_of slots (state_copy b file)) r.second) ∙ h.found

-- the other record is as it is to be
pub other-alike : (slots : ℕ) (r : StateRead) (file : List ℕ) → r.alike ≡ true → IsStateRead slots r file → IsOtherMended slots r file
other-alike slots r file alike h = record {
  own = own-read slots r file h;
  other = sym (choice-not (λ b. record_of slots (state_copy b file)) r.second) ∙ h.alike alike;
}

-- it was written
pub other-made : (slots : ℕ) (r : StateRead) (old new : List ℕ) → IsStateRead slots r old → IsOneWritten (not r.second) slots r.state old new → IsOtherMended slots r new
other-made slots r old new h w = record {
  own = ap (record_of slots) (subst (λ b. state_copy b new ≡ state_copy b old) (not-not r.second) w.there) ∙ own-read slots r old h;
  other = w.here;
}

-- one of two records is read
reads-first : (f s : Option (ℕ × State)) (x : ℕ × State) → f ≡ Some x → option_or f s ≡ Some x
reads-first f s x h = subst (λ o. option_or o s ≡ Some x) (sym h) refl

reads-second : (f s : Option (ℕ × State)) (x : ℕ × State) → f ≡ None → s ≡ Some x → option_or f s ≡ Some x
reads-second f s x h k = subst (λ o. option_or o s ≡ Some x) (sym h) k

-- a state that is read as the first or the second of the records
pub record IsReadOf (f s : Option (ℕ × State)) (state : State) : Type 0 where
  pub version : ℕ
  pub reads : option_or f s ≡ Some (version, state)

first-of : (f s : Option (ℕ × State)) (v : ℕ) (state : State) → f ≡ Some (v, state) → IsReadOf f s state
first-of f s v state h = record { version = v; reads = reads-first f s (v, state) h }

second-of : (f s : Option (ℕ × State)) (v : ℕ) (state : State) → f ≡ None → s ≡ Some (v, state) → IsReadOf f s state
second-of f s v state h k = record { version = v; reads = reads-second f s (v, state) h k }

-- the first record was being written, which couldn't be read, or which holds the state
torn-first : (before f s : Option (ℕ × State)) (v : ℕ) (state : State) → (before ≡ None) ⊎ ((w : ℕ) × (before ≡ Some (w, state))) → s ≡ Some (v, state) → ReadsAs before (Some (2, state)) f → IsReadOf f s state
torn-first before f s v state (inl none) k (inl e) = second-of f s v state (e ∙ none) k
torn-first before f s v state (inr (w, some)) k (inl e) = first-of f s w state (e ∙ some)
torn-first before f s v state b k (inr (inl e)) = first-of f s 2 state e
torn-first before f s v state b k (inr (inr e)) = second-of f s v state e k

as-left : (slots : ℕ) (state : State) (file : List ℕ) → IsReadOf (record_of slots (state_copy false file)) (record_of slots (state_copy true file)) state → IsStateLeft slots state file
as-left slots state file r = record { version = r.version; reads = r.reads }

-- the other record was being written
pub other-left : (slots : ℕ) (r : StateRead) (old new : List ℕ) → IsStateRead slots r old → IsOneLeft (not r.second) slots r.state old new → IsStateLeft slots r.state new
other-left slots r old new h w = as-left slots r.state new (by r.second h.before (own-read slots r old h) w.here w.there)
  where
    by : (second : Bool) → (second ≡ true → record_of slots (state_copy false old) ≡ None) → record_of slots (state_copy second old) ≡ Some (r.version, r.state) →
        ReadsAs (record_of slots (state_copy (not second) old)) (Some (2, r.state)) (record_of slots (state_copy (not second) new)) →
        state_copy (not (not second)) new ≡ state_copy (not (not second)) old → IsReadOf (record_of slots (state_copy false new)) (record_of slots (state_copy true new)) r.state
    by false before own here there = first-of (record_of slots (state_copy false new)) (record_of slots (state_copy true new)) r.version r.state (ap (record_of slots) there ∙ own)
    by true before own here there = torn-first (record_of slots (state_copy false old)) (record_of slots (state_copy false new)) (record_of slots (state_copy true new)) r.version r.state (inl (before refl)) (ap (record_of slots) there ∙ own) here

both-mended : (slots : ℕ) (second : Bool) (state : State) (file : List ℕ) → record_of slots (state_copy second file) ≡ Some (2, state) → record_of slots (state_copy (not second) file) ≡ Some (2, state) →
    AreStatesMended slots state file
both-mended slots false state file h k = record { first = h; second = k }
both-mended slots true state file h k = record { first = k; second = h }

-- the record that was read is as it is to be, or was written
pub own-alike : (slots : ℕ) (r : StateRead) (file : List ℕ) → r.version ≡ 2 → IsOtherMended slots r file → AreStatesMended slots r.state file
own-alike slots r file two h = both-mended slots r.second r.state file (h.own ∙ ap (λ v. Some (v, r.state)) two) h.other

pub own-made : (slots : ℕ) (r : StateRead) (old new : List ℕ) → IsOtherMended slots r old → IsOneWritten r.second slots r.state old new → AreStatesMended slots r.state new
own-made slots r old new h w = both-mended slots r.second r.state new w.here (ap (record_of slots) w.there ∙ h.other)

pub own-left : (slots : ℕ) (r : StateRead) (old new : List ℕ) → IsOtherMended slots r old → IsOneLeft r.second slots r.state old new → IsStateLeft slots r.state new
own-left slots r old new h w = as-left slots r.state new (by r.second h.own h.other w.here w.there)
  where
    by : (second : Bool) → record_of slots (state_copy second old) ≡ Some (r.version, r.state) → record_of slots (state_copy (not second) old) ≡ Some (2, r.state) →
        ReadsAs (record_of slots (state_copy second old)) (Some (2, r.state)) (record_of slots (state_copy second new)) →
        state_copy (not second) new ≡ state_copy (not second) old → IsReadOf (record_of slots (state_copy false new)) (record_of slots (state_copy true new)) r.state
    by false own other here there = torn-first (record_of slots (state_copy false old)) (record_of slots (state_copy false new)) (record_of slots (state_copy true new)) 2 r.state (inr (r.version, own)) (ap (record_of slots) there ∙ other) here
    by true own other here there = first-of (record_of slots (state_copy false new)) (record_of slots (state_copy true new)) 2 r.state (ap (record_of slots) there ∙ other)

-- the same of a disk: one record was written, or was being written
pub state-written : (which : Bool) (slots : ℕ) (state : State) (block : List ℕ) (twin : Twin) (P Q : List ℕ → Type 0) (old new : DiskTold) → IsBlock slots state block → twin ≡ state_places →
    HasRange (open_bytes old) 0 12288 → ((a b : List ℕ) → P a → IsOneWritten which slots state a b → Q b) → IfSome (open_bytes old) P →
    Writes old new (copy_place twin which) block → IfSome (open_bytes new) Q
state-written which slots state block twin P Q old new b same range f p w =
    on-told (IsLongAnd P) Q (IsWritten (copy_place twin which) block) (open_bytes old) (open_bytes new)
    (λ x y h e. f x y h.and (one-written which slots state block x y b h.long (subst (λ t. IsWritten (copy_place t which) block x y) same e)))
    (long-and P (open_bytes old) range p) w.wrote

pub state-left : (which : Bool) (slots : ℕ) (state : State) (block : List ℕ) (twin : Twin) (P : List ℕ → Type 0) (old new : DiskTold) → IsBlock slots state block → twin ≡ state_places →
    ((a b : List ℕ) → P a → IsOneLeft which slots state a b → IsStateLeft slots state b) → IfSome (open_bytes old) P →
    FailsCopy old new (copy_place twin which) block → IsHonest new.torn → IfSome (open_bytes new) (IsStateLeft slots state)
state-left which slots state block twin P old new b same f p w honest =
    on-told P (IsStateLeft slots state) (IsLeftAt new.torn (copy_place twin which) block) (open_bytes old) (open_bytes new)
    (λ x y h e. f x y h (one-left new.torn which slots state block x y b honest (subst (λ t. IsLeftAt new.torn (copy_place t which) block x y) same e)))
    p w.left

pub either-call : {T E A B P : Type 0} (r : Result T E) → (A → P) → (B → P) → OnOk r A → OnErr r B → P
either-call (Ok x) f g a b = f a
either-call (Err e) f g a b = g b

is-any : (o : Option (List ℕ)) → IfSome o (λ file. Unit {0})
is-any None = tt
is-any (Some file) = tt

pub state-within : {T E : Type 0} (which : Bool) (slots : ℕ) (state : State) (block : List ℕ) (twin : Twin) (old new : DiskTold) (r : Result T E) → IsBlock slots state block → twin ≡ state_places →
    HasRange (open_bytes old) 0 12288 → OnOk r (Writes old new (copy_place twin which) block) → OnErr r (FailsCopy old new (copy_place twin which) block) →
    Both (DifferWithin 4096 8192) (open_bytes old) (open_bytes new)
state-within which slots state block twin old new r b same range w v =
    either-call r
    (λ w. both-told (IsLongAnd (λ file. Unit {0})) (IsWritten (copy_place twin which) block) (DifferWithin 4096 8192) (open_bytes old) (open_bytes new)
    (λ x y h e. (one-written which slots state block x y b h.long (subst (λ t. IsWritten (copy_place t which) block x y) same e)).differs)
    (long-and (λ file. Unit {0}) (open_bytes old) range (is-any (open_bytes old))) w.wrote)
    (λ w. both-told (λ file. Unit {0}) (IsLeftAt new.torn (copy_place twin which) block) (DifferWithin 4096 8192) (open_bytes old) (open_bytes new)
    (λ x y h e. left-within new.torn which block x y b.long (subst (λ t. IsLeftAt new.torn (copy_place t which) block x y) same e))
    (is-any (open_bytes old)) w.left)
    w v

-- two changes of the records
pub within-then : (a b c : List ℕ) → DifferWithin 4096 8192 a b → DifferWithin 4096 8192 b c → DifferWithin 4096 8192 a c
within-then a b c h k = record { same_length = k.same_length ∙ h.same_length; front = k.front ∙ h.front; rest = k.rest ∙ h.rest }

pub withins : (a b c : Option (List ℕ)) → Both (DifferWithin 4096 8192) a b → Both (DifferWithin 4096 8192) b c → Both (DifferWithin 4096 8192) a c
withins None None c h k = k
withins None (Some b) c h k = absurd h
withins (Some a) None c h k = absurd h
withins (Some a) (Some b) None h k = absurd k
withins (Some a) (Some b) (Some c) h k = within-then a b c h k
