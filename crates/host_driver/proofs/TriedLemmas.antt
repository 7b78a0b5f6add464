-- Attempts at an installation, one after another, and what they come to.
use Rattle.std.proofs.Common.{◌≡◌, ◌⊎◌, inl, inr, ℕ, ◌+◌, ◌<◌, ◌≤◌, true, false, Option, Some, None, List, [], ◌∷◌, ◌++◌, map, length, refl, sym, ap, ◌∙◌, subst, arith, append-nil, length-append}
use Rattle.std.specs.Prelude.{IfSome, OnOk, Result, Ok, Err}
use Rattle.fb_frame.specs.Causes.{Rose}
use Rattle.fb_frame.specs.Sinks.{Grew}
use Rattle.fb_frame.proofs.SinkLemmas.{Grew-append, Grew-nothing}
use Rattle.dev_model.specs.declared.device.Dev.{Dev}
use Rattle.dev_model.specs.declared.device.Mode.TheVariants.{Halted}
use Rattle.dev_model.specs.Partitions.{is_fastboot}
use Rattle.dev_model.specs.Validity.{IsValid}
use Rattle.wire_told.specs.Answered.{Sound}
use Rattle.wire_told.specs.Peers.{Peer, device_of}
use Rattle.wire_told.specs.Ports.{Kept}
use Rattle.wire_told.specs.Told.{IsBarred}
use Rattle.wire_told.proofs.PortLemmas.{Kept-same, Kept-trans}
use Rattle.flash_plan.specs.Files.{Files}
use Rattle.flash_plan.specs.Products.{OfFiles, IsWhole}
use Rattle.host_driver.specs.declared.drive.DriveError.{DriveError}
use Rattle.host_driver.specs.declared.drive.DriveError.TheVariants as stop
use Rattle.host_driver.specs.declared.prepare.Prepared.{Prepared}
use Rattle.host_driver.specs.Driven.{RoseBy, IsUnmeetable, Spent}
use Rattle.host_driver.specs.Driving.{TriedUntold, StillFolder, Grows}
use Rattle.host_driver.specs.Jobs.{Order, Outside, outside, Folder, OfTold, job}
use Rattle.host_driver.specs.Preparing.{MakesPlan}
use Rattle.host_driver.specs.Printing.{lines_of, Attempt, steps_in, text_of, lead}
use Rattle.host_driver.specs.Questioning.{OfDevice}
use Rattle.host_driver.specs.Running.{IsOf, IsFor}
use Rattle.host_driver.specs.Stepping.{IsFixed}
use Rattle.host_driver.specs.Trying.{may_pass, IsUsable, came, Trial, trial, StaysKept, PlansFor, WhyTried, CameTo, IsNotMet, IsTriedOver, IsTried}
use Rattle.host_driver.specs.Wires.{LogGrew, IsWire}
use Rattle.host_driver.proofs.AfterLemmas.{PlannedFor, SoFar, WhyOver, AfterJob, after-any}
use Rattle.host_driver.proofs.AlongLemmas.{told-then, told-more, told-same, grows-then}
use Rattle.host_driver.proofs.CourseText.{steps-next}
use Rattle.host_driver.proofs.DriveFixed.{fixed-same, fixed-then}
use Rattle.host_driver.proofs.DrivePlans.{plan-for}
use Rattle.host_driver.proofs.LoopLemmas.{files-more, files-both, files-all}

-- What is known of a told device after attempts of which each failed by the link.
pub record TriedTo (order : Order) (a b : Outside) (kept : Option Prepared) (numbers line : List ℕ) (s t : Dev) : Type 0 where
  pub spent : Spent a.port.faults b.port.faults (length numbers) s t
  pub fallen : is_fastboot t.mode ≡ false → Rose a.port.faults b.port.faults ⊎ (is_fastboot s.mode ≡ false)
  pub halted : t.mode ≡ Halted → (s.mode ≡ Halted) ⊎ Rose a.port.faults b.port.faults
  pub fixed : IsFixed s t
  pub planned : PlannedFor order kept s t
  pub so_far : OfFiles a.folder.files (λ files. SoFar order files kept numbers line a.text b.text s t)

-- What is known after attempts of which each failed by the link or met its end.
pub record HasTried (order : Order) (a b : Outside) (kept : Option Prepared) (numbers line : List ℕ) : Type 0 where
  pub own : IfSome kept (λ p. (131072 ≤ p.max) × IsOf order.product p.plan)
  pub over : OfTold a.port.peer b.port.peer (TriedTo order a b kept numbers line)
  pub untold : a.port.peer ≡ None → TriedUntold (length numbers) a b
  pub first : numbers ≡ [] → (b.port.log ≡ a.port.log) × (kept ≡ None)
  pub grows : Grows a.text b.text
  pub held : Kept a.port b.port
  pub sound : Sound b.port.peer
  pub folder : StillFolder a.folder b.folder
  pub shown_later : a.unput ≤ b.unput

-- No attempt was made.
pub Tried-none : (order : Order) (a : Outside) → Sound a.port.peer → HasTried order a a None [] []
Tried-none order a sound = record {
  own = tt;
  over = told-same (TriedTo order a a None [] []) (λ s. record {
    spent = inl (omega arith);
    fallen = λ f. inr f;
    halted = λ h. inl h;
    fixed = fixed-same s;
    planned = refl;
    so_far = files-all a.folder.files _ (λ files. record { attempts = []; ordered = refl; answered = refl; counted = refl; text = Grew-nothing a.text; left = refl; undone = tt });
  }) a.port.peer;
  untold = λ e. record { faults = 0; ends = 0; all = refl; failed = omega arith; ended = omega arith };
  first = λ e. (refl, refl);
  grows = record { more = []; grew = Grew-nothing a.text };
  held = Kept-same a.port;
  sound = sound;
  folder = record { path = refl; files = refl; entered = refl; later = omega arith };
  shown_later = omega arith;
}

-- What an attempt needs of those before it.
device-at : (P : Dev → Type 0) (a b : Option Peer) → OfTold a b (λ s t. P t) → OfDevice P b
device-at P None None r = tt
device-at P None (Some y) r = absurd r
device-at P (Some x) None r = absurd r
device-at P (Some x) (Some y) r = r

pub Tried-usable : (order : Order) (a b : Outside) (kept : Option Prepared) (numbers line : List ℕ) → IsWhole order.product → HasTried order a b kept numbers line → IfSome kept (IsUsable order.product b.port.peer)
Tried-usable order a b None numbers line whole h = tt
Tried-usable order a b (Some p) numbers line whole h = record {
  large = h.own.0;
  own = h.own.1;
  fits = device-at (IsFor p.plan p.max) a.port.peer b.port.peer (told-more (TriedTo order a b (Some p) numbers line) (λ s t. IsFor p.plan p.max t)
      (λ s t k. plan-for order.product order.options p.max s t p.plan whole k.planned.0.planned k.planned.0.most_is k.fixed) a.port.peer b.port.peer h.over);
}

-- Why an attempt ended so over a told device.
pub untold-not : (X : Type 0) (p : Peer) (a : Option Peer) → a ≡ Some p → a ≡ None → X
untold-not X p a e n = absurd cc

why-one : (order : Order) (x : Trial) (p : Peer) (end : Result (Unit {0}) DriveError) → x.old.port.peer ≡ Some p → WhyTried order x end → WhyOver order x (device_of p) end
why-one order x p (Ok done) e w = w
why-one order x p (Err stop.Memory) e w = tt
why-one order x p (Err (stop.Directory file)) e w = w
why-one order x p (Err stop.Output) e w = w
why-one order x p (Err stop.Link) e (inl r) = inl r
why-one order x p (Err stop.Link) e (inr b) = inr (subst IsBarred e b)
why-one order x p (Err stop.Ended) e w = untold-not _ p x.old.port.peer e w.0
why-one order x p (Err (stop.Refused text)) e w = λ n. untold-not _ p x.old.port.peer e (w n)
why-one order x p (Err (stop.Peer kept)) e w = untold-not _ p x.old.port.peer e w
why-one order x p (Err stop.TooManyInfos) e w = untold-not _ p x.old.port.peer e w
why-one order x p (Err (stop.Requirement line name value)) e w = w
why-one order x p (Err (stop.Plan line kind)) e w = w

why-told : (order : Order) (x : Trial) (end : Result (Unit {0}) DriveError) (a b : Option Peer) (R : Dev → Dev → Type 0) → x.old.port.peer ≡ a → WhyTried order x end → OfTold a b R → OfTold a b (λ u t. R u t × WhyOver order x u end)
why-told order x end None None R e w r = tt
why-told order x end None (Some q) R e w r = absurd r
why-told order x end (Some p) None R e w r = absurd r
why-told order x end (Some p) (Some q) R e w r = (r, why-one order x p end e w)

valid-told : (a b : Option Peer) (R : Dev → Dev → Type 0) → Sound a → OfTold a b R → OfTold a b (λ s t. IsValid s × R s t)
valid-told None None R v r = tt
valid-told None (Some y) R v r = absurd r
valid-told (Some x) None R v r = absurd r
valid-told (Some x) (Some y) R v r = (v, r)

-- an end that a told device may bring
abbrev pub EndsTold : Result (Unit {0}) DriveError → Type 0
EndsTold (Err stop.Ended) = ⊥
EndsTold (Err (stop.Peer kept)) = ⊥
EndsTold (Err stop.TooManyInfos) = ⊥
EndsTold _ = Unit {0}

ends-told : (order : Order) (x : Trial) (u : Dev) (end : Result (Unit {0}) DriveError) → WhyOver order x u end → EndsTold end
ends-told order x u (Ok done) w = tt
ends-told order x u (Err stop.Memory) w = tt
ends-told order x u (Err (stop.Directory file)) w = tt
ends-told order x u (Err stop.Output) w = tt
ends-told order x u (Err stop.Link) w = tt
ends-told order x u (Err stop.Ended) w = w
ends-told order x u (Err (stop.Refused text)) w = tt
ends-told order x u (Err (stop.Peer kept)) w = w
ends-told order x u (Err stop.TooManyInfos) w = w
ends-told order x u (Err (stop.Requirement line name value)) w = tt
ends-told order x u (Err (stop.Plan line kind)) w = tt

-- What is known of a told device after one attempt more.
pub record After (order : Order) (a c : Outside) (keeps : Option Prepared) (numbers : List ℕ) (count : ℕ) (end : Result (Unit {0}) DriveError) (s t : Dev) : Type 0 where
  pub tried : RoseBy (length numbers) a.port.faults c.port.faults ⊎ ((end ≡ Err stop.Link) × IsUnmeetable (Rose a.port.faults c.port.faults) s t)
  pub spent : end ≡ Err stop.Link → Spent a.port.faults c.port.faults (length (numbers ++ count ∷ [])) s t
  pub fallen : end ≡ Err stop.Link → is_fastboot t.mode ≡ false → Rose a.port.faults c.port.faults ⊎ (is_fastboot s.mode ≡ false)
  pub halted : t.mode ≡ Halted → (s.mode ≡ Halted) ⊎ Rose a.port.faults c.port.faults
  pub fixed : IsFixed s t
  pub planned : PlannedFor order keeps s t
  pub valid : IsValid s
  pub ends : EndsTold end
  pub after : OfFiles a.folder.files (λ files. AfterJob order files a c keeps numbers count end s t)
  pub wired : OfFiles a.folder.files (λ files. numbers ≡ [] → OnOk end (LogGrew a.port.log c.port.log (IsWire (job order files s))))

planned-next : (order : Order) (kept keeps : Option Prepared) (s u t : Dev) → StaysKept kept keeps → PlannedFor order kept s u → PlansFor order kept keeps u t → PlannedFor order keeps s t
planned-next order None None s u t stays p q = q ∙ p
planned-next order (Some k) None s u t stays p q = absurd cc
planned-next order None (Some p) s u t stays e q = (subst (MakesPlan order p.plan p.max) e q.0, ap (λ (d : Dev). is_fastboot d.mode) (sym e) ∙ q.1)
planned-next order (Some k) (Some p) s u t stays m q = subst (λ o. PlannedFor order o s t) (sym stays) m

module _ (order : Order) (a b c : Outside) (kept keeps : Option Prepared) (numbers : List ℕ) (count : ℕ) (end : Result (Unit {0}) DriveError) (s u t : Dev) where
  met-tried : a.port.faults ≤ b.port.faults → b.port.faults ≤ c.port.faults → Spent a.port.faults b.port.faults (length numbers) s u → (is_fastboot u.mode ≡ false → IsNotMet (came kept keeps count end) u t) →
      RoseBy (length numbers) a.port.faults c.port.faults ⊎ ((end ≡ Err stop.Link) × IsUnmeetable (Rose a.port.faults c.port.faults) s t)
  met-tried l m (inl r) barred = inl (omega (arith, r, m))
  met-tried l m (inr x) barred =
      let n = barred x.1 in
      inr (n.end, (met-broke x.0, ap (λ (d : Dev). is_fastboot d.mode) n.same ∙ x.1))
    where
      met-broke : Rose a.port.faults b.port.faults ⊎ (is_fastboot s.mode ≡ false) → Rose a.port.faults c.port.faults ⊎ (is_fastboot s.mode ≡ false)
      met-broke (inl r) = inl (omega (arith, r, m))
      met-broke (inr f) = inr f

  more-broke : b.port.faults ≤ c.port.faults → Rose a.port.faults b.port.faults ⊎ (is_fastboot s.mode ≡ false) → Rose a.port.faults c.port.faults ⊎ (is_fastboot s.mode ≡ false)
  more-broke m (inl r) = inl (omega (arith, r, m))
  more-broke m (inr f) = inr f

  met-spent : a.port.faults ≤ b.port.faults → b.port.faults ≤ c.port.faults → Spent a.port.faults b.port.faults (length numbers) s u → (is_fastboot u.mode ≡ false → Rose a.port.faults b.port.faults ⊎ (is_fastboot s.mode ≡ false)) →
      (is_fastboot u.mode ≡ false → IsNotMet (came kept keeps count end) u t) → Rose b.port.faults c.port.faults ⊎ (is_fastboot u.mode ≡ false) → Spent a.port.faults c.port.faults (length (numbers ++ count ∷ [])) s t
  met-spent l m (inl r) fallen barred (inl q) = inl (let e = length-append numbers (count ∷ []) in omega (arith, r, q, e))
  met-spent l m (inr x) fallen barred (inl q) = let n = barred x.1 in inr (more-broke m x.0, ap (λ (d : Dev). is_fastboot d.mode) n.same ∙ x.1)
  met-spent l m k fallen barred (inr f) = let n = barred f in inr (more-broke m (fallen f), ap (λ (d : Dev). is_fastboot d.mode) n.same ∙ f)

  met-fallen : a.port.faults ≤ b.port.faults → b.port.faults ≤ c.port.faults → (is_fastboot u.mode ≡ false → Rose a.port.faults b.port.faults ⊎ (is_fastboot s.mode ≡ false)) → Rose b.port.faults c.port.faults ⊎ (is_fastboot u.mode ≡ false) →
      Rose a.port.faults c.port.faults ⊎ (is_fastboot s.mode ≡ false)
  met-fallen l m fallen (inl q) = inl (omega (arith, q, l))
  met-fallen l m fallen (inr f) = more-broke m (fallen f)

  met-halted : a.port.faults ≤ b.port.faults → b.port.faults ≤ c.port.faults → (u.mode ≡ Halted → (s.mode ≡ Halted) ⊎ Rose a.port.faults b.port.faults) → (u.mode ≡ Halted) ⊎ Rose b.port.faults c.port.faults → (s.mode ≡ Halted) ⊎ Rose a.port.faults c.port.faults
  met-halted l m h (inl q) = by (h q)
    where
      by : (s.mode ≡ Halted) ⊎ Rose a.port.faults b.port.faults → (s.mode ≡ Halted) ⊎ Rose a.port.faults c.port.faults
      by (inl e) = inl e
      by (inr r) = inr (omega (arith, r, m))
  met-halted l m h (inr r) = inr (omega (arith, r, l))

  pub after-one : a.port.faults ≤ b.port.faults → b.port.faults ≤ c.port.faults → b.folder.files ≡ a.folder.files → (numbers ≡ [] → (b.port.log ≡ a.port.log) × (kept ≡ None)) → StaysKept kept keeps → IsValid s → TriedTo order a b kept numbers (lead (length numbers)) s u →
      WhyOver order (trial b c (came kept keeps count end)) u end → IsTriedOver order (trial b c (came kept keeps count end)) u t → After order a c keeps numbers count end s t
  after-one l m same first stays v k why o =
      let came_to = subst (λ f. OfFiles f (λ files. CameTo order files (trial b c (came kept keeps count end)) (u, t) keeps)) same o.came_to in
      record {
        tried = met-tried l m k.spent o.barred;
        spent = λ e. met-spent l m k.spent k.fallen o.barred (subst (λ z. WhyOver order (trial b c (came kept keeps count end)) u z) e why);
        fallen = λ e f. met-fallen l m k.fallen (subst (λ z. WhyOver order (trial b c (came kept keeps count end)) u z) e why);
        halted = λ h. met-halted l m k.halted (o.halted h);
        fixed = fixed-then s u t k.fixed o.fixed;
        planned = planned-next order kept keeps s u t stays k.planned o.plans;
        valid = v;
        ends = ends-told order (trial b c (came kept keeps count end)) u end why;
        after = files-both a.folder.files _ _ _ (λ files so w. after-any order files a b c kept keeps numbers count end s u t l v stays so k.planned o.plans o.barred why w) k.so_far came_to;
        wired = files-more a.folder.files _ _ (λ files w none.
            let f = first none in
            let back : u ≡ s = subst (λ o. PlannedFor order o s u) f.1 k.planned in
            subst (λ x. OnOk end (LogGrew x c.port.log (IsWire (job order files s)))) f.0
            (subst (λ d. OnOk end (LogGrew b.port.log c.port.log (IsWire (job order files d)))) back (w f.1))) (subst (λ f. OfFiles f (λ files. kept ≡ None → OnOk end (LogGrew b.port.log c.port.log (IsWire (job order files u))))) same o.wired);
      }

pub after-told : (order : Order) (a b c : Outside) (kept keeps : Option Prepared) (numbers : List ℕ) (count : ℕ) (end : Result (Unit {0}) DriveError) → Sound a.port.peer → HasTried order a b kept numbers (lead (length numbers)) → IsTried order (trial b c (came kept keeps count end)) →
    OfTold a.port.peer c.port.peer (After order a c keeps numbers count end)
after-told order a b c kept keeps numbers count end v h k =
    let x = trial b c (came kept keeps count end) in
    told-then (λ s u. IsValid s × TriedTo order a b kept numbers (lead (length numbers)) s u) (λ u t. IsTriedOver order x u t × WhyOver order x u end) (After order a c keeps numbers count end)
    (λ s u t p q. after-one order a b c kept keeps numbers count end s u t h.held.later k.kept.later h.folder.files h.first k.stays p.0 p.1 q.1 q.0) a.port.peer b.port.peer c.port.peer
    (valid-told a.port.peer b.port.peer (TriedTo order a b kept numbers (lead (length numbers))) v h.over) (why-told order x end b.port.peer c.port.peer (IsTriedOver order x) refl k.why k.over)

-- An attempt failed, after which another may be made.
link-of : (error : DriveError) → may_pass error ≡ true → EndsTold (Err error) → error ≡ stop.Link
link-of stop.Memory e w = absurd cc
link-of (stop.Directory file) e w = absurd cc
link-of stop.Output e w = absurd cc
link-of stop.Link e w = refl
link-of stop.Ended e w = absurd w
link-of (stop.Refused text) e w = absurd cc
link-of (stop.Peer kept) e w = absurd cc
link-of stop.TooManyInfos e w = absurd cc
link-of (stop.Requirement line name value) e w = absurd cc
link-of (stop.Plan line kind) e w = absurd cc

pub not-empty : (numbers : List ℕ) (n : ℕ) (X : Type 0) → numbers ++ n ∷ [] ≡ [] → X
not-empty [] n X e = absurd cc
not-empty (m ∷ numbers) n X e = absurd cc

pub counted-next : (numbers : List ℕ) (count : ℕ) (past : List Attempt) (this : Attempt) → numbers ≡ map steps_in past → count ≡ steps_in this → numbers ++ count ∷ [] ≡ map steps_in (past ++ this ∷ [])
counted-next numbers count past this e f = ap (λ l. l ++ count ∷ []) e ∙ (ap (λ n. map steps_in past ++ n ∷ []) f ∙ sym (steps-next past this))

failed-job : (order : Order) (files : Files) (a c : Outside) (keeps : Option Prepared) (numbers : List ℕ) (count : ℕ) (s t : Dev) → AfterJob order files a c keeps numbers count (Err stop.Link) s t → SoFar order files keeps (numbers ++ count ∷ []) [] a.text c.text s t
failed-job order files a c keeps numbers count s t k = record {
  attempts = k.past ++ k.this ∷ [];
  ordered = k.ordered;
  answered = k.answers refl;
  counted = counted-next numbers count k.past k.this k.counted k.text.0;
  text = subst (Grew a.text c.text) (sym (append-nil (text_of (lines_of (job order files s)) (k.past ++ k.this ∷ [])))) k.text.1;
  left = k.left;
  undone = k.undone refl;
}

failed-one : (order : Order) (a c : Outside) (keeps : Option Prepared) (numbers : List ℕ) (count : ℕ) (error : DriveError) (s t : Dev) → may_pass error ≡ true → After order a c keeps numbers count (Err error) s t → TriedTo order a c keeps (numbers ++ count ∷ []) [] s t
failed-one order a c keeps numbers count error s t e k =
    let same = link-of error e k.ends in
    let q : After order a c keeps numbers count (Err stop.Link) s t = subst (λ z. After order a c keeps numbers count (Err z) s t) same k in
    record {
      spent = q.spent refl;
      fallen = q.fallen refl;
      halted = q.halted;
      fixed = q.fixed;
      planned = q.planned;
      so_far = files-more a.folder.files _ _ (λ files j. failed-job order files a c keeps numbers count s t j) q.after;
    }

pub none-fore : (R : Dev → Dev → Type 0) (a b : Option Peer) → OfTold a b R → a ≡ None → b ≡ None
none-fore R None None r e = refl
none-fore R None (Some b) r e = absurd r
none-fore R (Some a) b r e = absurd cc

untold-more : (order : Order) (x : Trial) (a : Outside) (numbers : List ℕ) (count : ℕ) (error : DriveError) → may_pass error ≡ true → x.old.port.peer ≡ None → Kept x.old.port x.new.port → WhyTried order x (Err error) → TriedUntold (length numbers) a x.old →
    TriedUntold (length (numbers ++ count ∷ [])) a x.new
untold-more order x a numbers count stop.Memory e none kept w u = absurd cc
untold-more order x a numbers count (stop.Directory file) e none kept w u = absurd cc
untold-more order x a numbers count stop.Output e none kept w u = absurd cc
untold-more order x a numbers count stop.Link e none kept (inl r) u =
    let long = length-append numbers (count ∷ []) in
    let all = u.all in
    let failed = u.failed in
    let ended = u.ended in
    let more = kept.no_fewer in
    record { faults = u.faults + 1; ends = u.ends; all = omega (arith, long, all); failed = omega (arith, failed, r); ended = omega (arith, ended, more) }
untold-more order x a numbers count stop.Link e none kept (inr b) u = absurd (subst IsBarred none b)
untold-more order x a numbers count stop.Ended e none kept w u =
    let long = length-append numbers (count ∷ []) in
    let all = u.all in
    let failed = u.failed in
    let ended = u.ended in
    let more = kept.later in
    let r = w.1 in
    record { faults = u.faults; ends = u.ends + 1; all = omega (arith, long, all); failed = omega (arith, failed, more); ended = omega (arith, ended, r) }
untold-more order x a numbers count (stop.Refused text) e none kept w u = absurd cc
untold-more order x a numbers count (stop.Peer y) e none kept w u = absurd cc
untold-more order x a numbers count stop.TooManyInfos e none kept w u = absurd cc
untold-more order x a numbers count (stop.Requirement line name value) e none kept w u = absurd cc
untold-more order x a numbers count (stop.Plan line kind) e none kept w u = absurd cc

pub folder-then : (a b c : Folder) → StillFolder a b → StillFolder b c → StillFolder a c
folder-then a b c f g = record { path = g.path ∙ f.path; files = g.files ∙ f.files; entered = g.entered ∙ f.entered; later = (let x = f.later in let y = g.later in omega (arith, x, y)) }

pub Tried-failed : (order : Order) (a b c : Outside) (kept keeps : Option Prepared) (numbers : List ℕ) (count : ℕ) (error : DriveError) → Sound a.port.peer → HasTried order a b kept numbers (lead (length numbers)) → IsTried order (trial b c (came kept keeps count (Err error))) →
    may_pass error ≡ true → HasTried order a c keeps (numbers ++ count ∷ []) []
Tried-failed order a b c kept keeps numbers count error v h k e = record {
  own = k.own;
  over = told-more (After order a c keeps numbers count (Err error)) (TriedTo order a c keeps (numbers ++ count ∷ []) []) (λ s t q. failed-one order a c keeps numbers count error s t e q) a.port.peer c.port.peer
      (after-told order a b c kept keeps numbers count (Err error) v h k);
  untold = λ none. untold-more order (trial b c (came kept keeps count (Err error))) a numbers count error e (none-fore (TriedTo order a b kept numbers (lead (length numbers))) a.port.peer b.port.peer h.over none) k.kept k.why (h.untold none);
  first = λ z. not-empty numbers count _ z;
  grows = grows-then a.text b.text c.text h.grows k.grows;
  held = Kept-trans a.port b.port c.port h.held k.kept;
  sound = k.sound;
  folder = folder-then a.folder b.folder c.folder h.folder k.folder;
  shown_later = (let x = h.shown_later in let y = k.shown_later in omega (arith, x, y));
}

-- The line before another attempt was printed.
again-job : (order : Order) (files : Files) (kept : Option Prepared) (numbers line : List ℕ) (before mid now : Option (List ℕ)) (s t : Dev) → Grew mid now line → SoFar order files kept numbers [] before mid s t → SoFar order files kept numbers line before now s t
again-job order files kept numbers line before mid now s t g k =
    let text = text_of (lines_of (job order files s)) k.attempts in
    record {
      attempts = k.attempts;
      ordered = k.ordered;
      answered = k.answered;
      counted = k.counted;
      text = Grew-append before mid now text line (subst (Grew before mid) (append-nil text) k.text) g;
      left = k.left;
      undone = k.undone;
    }

pub Tried-again : (order : Order) (a c : Outside) (keeps : Option Prepared) (numbers line : List ℕ) (text : Option (List ℕ)) (unput : ℕ) → HasTried order a c keeps numbers [] → 0 < length numbers → Grew c.text text line → c.unput ≤ unput →
    HasTried order a (outside c.port c.folder text unput) keeps numbers line
Tried-again order a c keeps numbers line text unput h some g later = record {
  own = h.own;
  over = told-more (TriedTo order a c keeps numbers []) (TriedTo order a (outside c.port c.folder text unput) keeps numbers line) (λ s t k. record {
    spent = k.spent;
    fallen = k.fallen;
    halted = k.halted;
    fixed = k.fixed;
    planned = k.planned;
    so_far = files-more a.folder.files _ _ (λ files j. again-job order files keeps numbers line a.text c.text text s t g j) k.so_far;
  }) a.port.peer c.port.peer h.over;
  untold = λ e. (let u = h.untold e in record { faults = u.faults; ends = u.ends; all = u.all; failed = u.failed; ended = u.ended });
  first = λ e. absurd (let n = ap length e in omega (arith, n, some));
  grows = grows-then a.text c.text text h.grows (record { more = line; grew = g });
  held = h.held;
  sound = h.sound;
  folder = h.folder;
  shown_later = (let x = h.shown_later in omega (arith, x, later));
}
