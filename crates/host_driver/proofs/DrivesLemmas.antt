-- What an installation comes to, by its attempts.
use Rattle.std.proofs.Common.{◌≡◌, ◌⊎◌, inl, inr, ℕ, zero, suc, ◌+◌, ◌-◌, ◌<◌, ◌≤◌, Bool, true, false, Option, Some, None, List, [], ◌∷◌, ◌++◌, All, map, length, take, drop, refl, sym, ap, ◌∙◌, subst, arith, append-nil, length-append}
use Rattle.std.specs.Prelude.{is_some, OnOk, Result, Ok, Err, slice_get, slice_set, nat_le, ◌&&◌, codes, decimal}
use Rattle.std.specs.List.{AllByRecursion}
use Rattle.std.proofs.lemmas.List.Elements.{recursion_from_All, All-from_recursion}
use Rattle.std.proofs.lemmas.List.Elements.{All-drop}
use Rattle.std.proofs.lemmas.List.{drop-drop, drop-set-lt}
use Rattle.std.proofs.lemmas.Grind.{take-set_at}
use Rattle.std.proofs.lemmas.Bool.Decides.{nat_tests}
use Rattle.fb_frame.specs.Causes.{Rose}
use Rattle.fb_frame.specs.Sinks.{Grew, GrewPart}
use Rattle.fb_frame.proofs.SinkLemmas.{Grew-append}
use Rattle.dev_model.specs.declared.device.Dev.{Dev}
use Rattle.dev_model.specs.declared.step.Step.{Step}
use Rattle.dev_model.specs.Attempts.{Chain}
use Rattle.dev_model.specs.Partitions.{is_fastboot}
use Rattle.dev_model.specs.Validity.{IsValid}
use Rattle.wire_told.specs.Answered.{Sound}
use Rattle.wire_told.specs.Peers.{Peer}
use Rattle.wire_told.specs.Told.{IsBarred}
use Rattle.wire_told.proofs.PortLemmas.{Kept-trans}
use Rattle.flash_plan.specs.declared.plan.Order.{Order as PlanOrder}
use Rattle.flash_plan.specs.declared.plan.Order.TheVariants.{Active, Resize, Put, Wipe, Table, Boot}
use Rattle.flash_plan.specs.declared.product.Product.{Product}
use Rattle.flash_plan.specs.Files.{Files}
use Rattle.flash_plan.specs.Plans.{steps_of}
use Rattle.flash_plan.specs.Products.{OfFiles}
use Rattle.host_driver.specs.declared.drive.Done.{Done}
use Rattle.host_driver.specs.declared.drive.DriveError.{DriveError}
use Rattle.host_driver.specs.declared.drive.DriveError.TheVariants as stop
use Rattle.host_driver.specs.declared.prepare.Prepared.{Prepared}
use Rattle.host_driver.specs.Driven.{made, LeavesBy, RefusedBy, IsHaltedNow, PutsNext, RoseBy, IsUnmeetable, Spent, IsUndone, Succeeds}
use Rattle.host_driver.specs.Driving.{Why, Caused, MayGiveUp, Tried, MayRetry, IsPlanless, IsLed, TriedUntold, Drove, Drives, IsImageOf, moved, LinkFailed}
use Rattle.host_driver.specs.HeardLast.{HeardBy}
use Rattle.host_driver.specs.Jobs.{Order, Outside, outside, OfTold, OnFiles, Job, job, Has, course}
use Rattle.host_driver.specs.Printing.{Lines, lines_of, Attempt, steps_in, text_of, lead, retry_line, next_line, PrintsBy, EndsBy}
use Rattle.host_driver.specs.Taking.{PutsFile}
use Rattle.host_driver.specs.Trying.{may_pass, goes_on, came, Trial, trial, WhyTried, HeardEnd, IsTried}
use Rattle.host_driver.specs.Wires.{LogGrew, IsWire}
use Rattle.host_driver.proofs.AfterLemmas.{chosen, PlannedFor, SoFar, OneText, EndsOne, EndedBy, AfterJob, made-is, undone-before}
use Rattle.host_driver.proofs.AttemptLemmas.{by-bool}
use Rattle.host_driver.proofs.AlongLemmas.{told-more, grows-then}
use Rattle.host_driver.proofs.CourseText.{last-next, due-next}
use Rattle.host_driver.proofs.HaltedStart.{left-still}
use Rattle.host_driver.proofs.LoopLemmas.{files-more, files-both, none-back, length-map}
use Rattle.host_driver.proofs.TriedLemmas.{TriedTo, HasTried, After, after-told, folder-then, not-empty, counted-next}

-- What an installation of which the last attempt ended so comes to.
abbrev pub ended : ℕ → ℕ → Result (Unit {0}) DriveError → Result Done DriveError
ended count attempts (Ok done) = Ok (record { steps = count; attempts = attempts })
ended count attempts (Err error) = Err error

ended-link : (count attempts : ℕ) (end : Result (Unit {0}) DriveError) → ended count attempts end ≡ Err stop.Link → end ≡ Err stop.Link
ended-link count attempts (Ok done) e = absurd cc
ended-link count attempts (Err error) e = let same : error ≡ stop.Link = cc in ap Err same

-- What attempts leave, by the plan that is made.
zeros-any : (plan : List Step) (s t : Dev) (n : ℕ) (numbers : List ℕ) → IsValid s → AllByRecursion (λ k. k ≡ 0) (n ∷ numbers) → t ≡ s → Chain plan s (n ∷ numbers) t
zeros-any plan s t n [] v z e = subst (λ k. Chain plan s (k ∷ []) t) (sym z.0) (subst (λ d. Chain plan s (0 ∷ []) d) (sym e) (left-still plan s v))
zeros-any plan s t n (m ∷ numbers) v z e =
    subst (λ k. Chain plan s (k ∷ m ∷ numbers) t) (sym z.0)
    (s, left-still plan s v, by-bool (is_fastboot s.mode) (Chain plan s (m ∷ numbers) t) (All (λ k. k ≡ 0) (m ∷ numbers) × (t ≡ s)) (λ f. zeros-any plan s t m numbers v z.1 e) (λ f. (All-from_recursion (λ k. k ≡ 0) (m ∷ numbers) z.1, e)))

leaves-any : (o : Option (List Step)) (s t : Dev) (numbers : List ℕ) → IsValid s → LeavesBy None s numbers t → LeavesBy o s numbers t
leaves-any None s t numbers v l = l
leaves-any (Some plan) s t [] v l = l
leaves-any (Some plan) s t (n ∷ numbers) v l = zeros-any plan s t n numbers v (recursion_from_All (λ k. k ≡ 0) (n ∷ numbers) l.0) l.1

made-left : (order : Order) (files : Files) (keeps : Option Prepared) (s t : Dev) (numbers : List ℕ) → IsValid s → PlannedFor order keeps s t → LeavesBy (chosen files order keeps) s numbers t → LeavesBy (made (job order files s)) s numbers t
made-left order files None s t numbers v p l = leaves-any (made (job order files s)) s t numbers v l
made-left order files (Some p) s t numbers v m l = subst (λ o. LeavesBy o s numbers t) (sym (made-is order files p s m.0)) l

undone-any : (o : Option (List Step)) (s t : Dev) (numbers : List ℕ) → LeavesBy None s numbers t → IsUndone o numbers
undone-any None s t numbers l = tt
undone-any (Some plan) s t numbers l = undone-before plan s t numbers l

made-undone : (order : Order) (files : Files) (keeps : Option Prepared) (s t : Dev) (numbers : List ℕ) → PlannedFor order keeps s t → LeavesBy (chosen files order keeps) s numbers t → IsUndone (chosen files order keeps) numbers → IsUndone (made (job order files s)) numbers
made-undone order files None s t numbers p l u = undone-any (made (job order files s)) s t numbers l
made-undone order files (Some p) s t numbers m l u = subst (λ o. IsUndone o numbers) (sym (made-is order files p s m.0)) u

made-refused : (order : Order) (files : Files) (keeps : Option Prepared) (s t : Dev) (numbers text : List ℕ) → PlannedFor order keeps s t → RefusedBy (chosen files order keeps) s numbers text t → RefusedBy (made (job order files s)) s numbers text t
made-refused order files None s t numbers text p r = absurd r
made-refused order files (Some p) s t numbers text m r = subst (λ o. RefusedBy o s numbers text t) (sym (made-is order files p s m.0)) r

made-done : (order : Order) (files : Files) (a c : Outside) (keeps : Option Prepared) (numbers : List ℕ) (count attempts : ℕ) (done : Unit {0}) (s t : Dev) → PlannedFor order keeps s t → EndedBy order files (IsHaltedNow a.port.faults c.port.faults) keeps numbers count s t (Ok done) →
    Succeeds (job order files s) (numbers ++ count ∷ []) (record { steps = count; attempts = attempts }) t
made-done order files a c None numbers count attempts done s t p e = absurd e
made-done order files a c (Some p) numbers count attempts done s t m e = record {
  plan = steps_of files order.product p.plan;
  made_so = made-is order files p s m.0;
  runs = e.0;
  count = e.1;
  last = last-next numbers count;
}

puts-next : (order : Order) (files : Files) (p : Prepared) (numbers : List ℕ) (count : ℕ) (s t : Dev) (file : List ℕ) (next : PlanOrder) → PlannedFor order (Some p) s t → slice_get p.plan count ≡ Some next → PutsFile order.product next file → PutsNext (job order files s) (numbers ++ count ∷ []) file
puts-next order files p numbers count s t file (Put name place) m at f = record { plan = p.plan; planned = m.0.planned; last = count; last_is = last-next numbers count; name = name; place = place; next = at; file_is = f }
puts-next order files p numbers count s t file (Active slot) m at f = absurd f
puts-next order files p numbers count s t file (Resize name size) m at f = absurd f
puts-next order files p numbers count s t file (Wipe name) m at f = absurd f
puts-next order files p numbers count s t file (Table name wipe) m at f = absurd f
puts-next order files p numbers count s t file (Boot what) m at f = absurd f

puts-image : (product : Product) (next : PlanOrder) (file : List ℕ) → PutsFile product next file → IsImageOf product file
puts-image product (Put name place) file f = record { place = place; there = f }
puts-image product (Active slot) file f = absurd f
puts-image product (Resize name size) file f = absurd f
puts-image product (Wipe name) file f = absurd f
puts-image product (Table name wipe) file f = absurd f
puts-image product (Boot what) file f = absurd f

has-image : (product : Product) (count : ℕ) (file : List ℕ) (keeps : Option Prepared) → Has keeps (λ p. (next : PlanOrder) × (slice_get p.plan count ≡ Some next) × PutsFile product next file) → IsImageOf product file
has-image product count file None h = absurd h
has-image product count file (Some p) h = puts-image product h.0 file h.2

has-next : (order : Order) (files : Files) (keeps : Option Prepared) (numbers : List ℕ) (count : ℕ) (s t : Dev) (file : List ℕ) → PlannedFor order keeps s t → Has keeps (λ p. (next : PlanOrder) × (slice_get p.plan count ≡ Some next) × PutsFile order.product next file) →
    PutsNext (job order files s) (numbers ++ count ∷ []) file
has-next order files None numbers count s t file p h = absurd h
has-next order files (Some p) numbers count s t file m h = puts-next order files p numbers count s t file h.0 m h.1 h.2

planned-same : (order : Order) (keeps : Option Prepared) (s t : Dev) → keeps ≡ None → PlannedFor order keeps s t → t ≡ s
planned-same order keeps s t e p = subst (λ o. PlannedFor order o s t) e p

-- faults and ends of one call are those of a longer one
record Wide (a b : Outside) : Type 0 where
  port : a.port.faults ≤ b.port.faults
  ends : a.port.ends ≤ b.port.ends
  folder : a.folder.faults ≤ b.folder.faults
  output : a.unput ≤ b.unput

caused : (order : Order) (files : Files) (a b c : Outside) (kept keeps : Option Prepared) (numbers : List ℕ) (count attempts : ℕ) (end : Result (Unit {0}) DriveError) (s t : Dev) → Wide a b → WhyTried order (trial b c (came kept keeps count end)) end → After order a c keeps numbers count end s t →
    AfterJob order files a c keeps numbers count end s t → Caused (job order files s) (moved a c) (numbers ++ count ∷ []) t (ended count attempts end)
caused order files a b c kept keeps numbers count attempts (Ok done) s t l w k j = made-done order files a c keeps numbers count attempts done s t k.planned j.ended
caused order files a b c kept keeps numbers count attempts (Err stop.Memory) s t l w k j = tt
caused order files a b c kept keeps numbers count attempts (Err (stop.Directory file)) s t l w k j = ((let r = w.0 in let m = l.folder in omega (arith, r, m)), has-next order files keeps numbers count s t file k.planned w.1)
caused order files a b c kept keeps numbers count attempts (Err stop.Output) s t l w k j = (let m = l.output in omega (arith, w, m))
caused order files a b c kept keeps numbers count attempts (Err stop.Link) s t l w k j =
    (k.spent refl, (let e = length-append numbers (count ∷ []) in omega (arith, e)), made-undone order files keeps s t (numbers ++ count ∷ []) k.planned j.left (j.undone refl))
caused order files a b c kept keeps numbers count attempts (Err stop.Ended) s t l w k j = absurd k.ends
caused order files a b c kept keeps numbers count attempts (Err (stop.Refused text)) s t l w k j = by j.ended
  where
    by : RefusedBy (chosen files order keeps) s (numbers ++ count ∷ []) text t ⊎ IsHaltedNow a.port.faults c.port.faults text t → RefusedBy (made (job order files s)) s (numbers ++ count ∷ []) text t ⊎ IsHaltedNow a.port.faults c.port.faults text t
    by (inl r) = inl (made-refused order files keeps s t (numbers ++ count ∷ []) text k.planned r)
    by (inr h) = inr h
caused order files a b c kept keeps numbers count attempts (Err (stop.Peer x)) s t l w k j = absurd k.ends
caused order files a b c kept keeps numbers count attempts (Err stop.TooManyInfos) s t l w k j = absurd k.ends
caused order files a b c kept keeps numbers count attempts (Err (stop.Requirement line name value)) s t l w k j = j.ended
caused order files a b c kept keeps numbers count attempts (Err (stop.Plan line kind)) s t l w k j = j.ended

-- The text of all attempts.
prints-by : (lines : Lines) (R : ℕ → Type 0) (past : List Attempt) (this : Attempt) (numbers : List ℕ) (count attempts : ℕ) (G : List ℕ → Type 0) (end : Result (Unit {0}) DriveError) → numbers ≡ map steps_in past → OneText lines past this count G end →
    PrintsBy lines R (past ++ this ∷ []) (course (numbers ++ count ∷ []) (ended count attempts end)) G
prints-by lines R past this numbers count attempts G (Ok done) e w = (counted-next numbers count past this e w.0, w.1)
prints-by lines R past this numbers count attempts G (Err stop.Memory) e w = (inl (counted-next numbers count past this e w.0), w.1)
prints-by lines R past this numbers count attempts G (Err (stop.Directory file)) e w = (counted-next numbers count past this e w.0, w.1)
prints-by lines R past this numbers count attempts G (Err stop.Output) e w = record {
  line = w.line;
  due = inl (ap (λ l. l ++ count ∷ []) e ∙ (ap (λ n. map steps_in past ++ n ∷ []) w.counted ∙ sym (due-next past this)), subst (λ o. Has o (λ x. next_line lines x ≡ Some w.line)) (sym (last-next past this)) w.next);
  n = w.n;
  short = w.short;
  grew = w.grew;
}
prints-by lines R past this numbers count attempts G (Err stop.Link) e w = (counted-next numbers count past this e w.0, w.1)
prints-by lines R past this numbers count attempts G (Err stop.Ended) e w = (counted-next numbers count past this e w.0, w.1)
prints-by lines R past this numbers count attempts G (Err (stop.Refused text)) e w = (counted-next numbers count past this e w.0, w.1)
prints-by lines R past this numbers count attempts G (Err (stop.Peer x)) e w = (counted-next numbers count past this e w.0, w.1)
prints-by lines R past this numbers count attempts G (Err stop.TooManyInfos) e w = (counted-next numbers count past this e w.0, w.1)
prints-by lines R past this numbers count attempts G (Err (stop.Requirement line name value)) e w = (counted-next numbers count past this e w.0, w.1)
prints-by lines R past this numbers count attempts G (Err (stop.Plan line kind)) e w = (counted-next numbers count past this e w.0, w.1)

ends-by : (count attempts : ℕ) (this : Attempt) (end : Result (Unit {0}) DriveError) → EndsOne count this end → EndsBy (ended count attempts end) (Some this)
ends-by count attempts this (Ok done) w = w
ends-by count attempts this (Err stop.Memory) w = tt
ends-by count attempts this (Err (stop.Directory file)) w = w
ends-by count attempts this (Err stop.Output) w = tt
ends-by count attempts this (Err stop.Link) w = tt
ends-by count attempts this (Err stop.Ended) w = tt
ends-by count attempts this (Err (stop.Refused text)) w = w
ends-by count attempts this (Err (stop.Peer x)) w = tt
ends-by count attempts this (Err stop.TooManyInfos) w = tt
ends-by count attempts this (Err (stop.Requirement line name value)) w = ap Some w
ends-by count attempts this (Err (stop.Plan line kind)) w = ap Some w

no-numbers : (numbers : List ℕ) → length numbers ≡ 0 → numbers ≡ []
no-numbers [] e = refl
no-numbers (n ∷ numbers) e = absurd (omega (arith, e))

wired-by : (numbers : List ℕ) (count attempts : ℕ) (end : Result (Unit {0}) DriveError) (X : Type 0) → attempts ≡ length numbers + 1 → (numbers ≡ [] → OnOk end X) → (done : Done) → ended count attempts end ≡ Ok done → done.attempts ≡ 1 → X
wired-by numbers count attempts (Ok u) X e f done same one =
    let n : attempts ≡ done.attempts = (let d : ◌≡◌ {A = Done} (record { steps = count; attempts = attempts }) done = cc in ap (λ (d : Done). d.attempts) d) in
    f (no-numbers numbers (omega (arith, n, one, e)))
wired-by numbers count attempts (Err error) X e f done same one = absurd cc

drove : (order : Order) (files : Files) (a b c : Outside) (kept keeps : Option Prepared) (numbers : List ℕ) (count attempts : ℕ) (end : Result (Unit {0}) DriveError) (s t : Dev) → Wide a b → attempts ≡ length numbers + 1 → WhyTried order (trial b c (came kept keeps count end)) end →
    After order a c keeps numbers count end s t → AfterJob order files a c keeps numbers count end s t → (numbers ≡ [] → OnOk end (LogGrew a.port.log c.port.log (IsWire (job order files s)))) →
    Drove (job order files s) a c (course (numbers ++ count ∷ []) (ended count attempts end)) t
drove order files a b c kept keeps numbers count attempts end s t l n w k j wire = record {
  caused = caused order files a b c kept keeps numbers count attempts end s t l w k j;
  left = made-left order files keeps s t (numbers ++ count ∷ []) k.valid k.planned j.left;
  prints = record {
    attempts = j.past ++ j.this ∷ [];
    ordered = j.ordered;
    text = prints-by (lines_of (job order files s)) (MayRetry (job order files s) (moved a c) t) j.past j.this numbers count attempts (Grew a.text c.text) end j.counted j.text;
    ends = subst (EndsBy (ended count attempts end)) (sym (last-next j.past j.this)) (ends-by count attempts j.this end j.last);
    left = made-left order files keeps s t (map steps_in (j.past ++ j.this ∷ [])) k.valid k.planned (subst (λ ns. LeavesBy (chosen files order keeps) s ns t) (counted-next numbers (steps_in j.this) j.past j.this j.counted refl) j.printed);
    unasked = λ e. planned-same order keeps s t (j.unasked e) k.planned;
  };
  wired = wired-by numbers count attempts end (LogGrew a.port.log c.port.log (IsWire (job order files s))) n wire;
}

on-files : (order : Order) (o : Option Files) (a b : Option Peer) (R : Job → Dev → Type 0) → OfTold a b (λ s t. OfFiles o (λ files. R (job order files s) t)) → OnFiles order o a b R
on-files order None a b R r = tt
on-files order (Some files) a b R r = r

-- Why it ended so, over any port.
barred-first : (X : Type 0) (a b : Option Peer) → OfTold a b (λ s t. is_fastboot t.mode ≡ false → X ⊎ (is_fastboot s.mode ≡ false)) → IsBarred b → X ⊎ IsBarred a
barred-first X None None r k = absurd k
barred-first X None (Some y) r k = absurd r
barred-first X (Some x) None r k = absurd r
barred-first X (Some x) (Some y) r k = r k

why-ended : (order : Order) (a b c : Outside) (kept keeps : Option Prepared) (numbers line : List ℕ) (count attempts : ℕ) (end : Result (Unit {0}) DriveError) → Wide a b → Wide b c → HasTried order a b kept numbers line → attempts ≡ length numbers + 1 →
    ((error : DriveError) → end ≡ Err error → may_pass error ≡ true → length numbers ≡ order.options.retries) → WhyTried order (trial b c (came kept keeps count end)) end → Why order a c (length (numbers ++ count ∷ [])) (ended count attempts end)
why-ended order a b c kept keeps numbers line count attempts (Ok done) l m h n all w = (let e = length-append numbers (count ∷ []) in omega (arith, e, n))
why-ended order a b c kept keeps numbers line count attempts (Err stop.Memory) l m h n all w = tt
why-ended order a b c kept keeps numbers line count attempts (Err (stop.Directory file)) l m h n all w = ((let r = w.0 in let x = l.folder in omega (arith, r, x)), has-image order.product count file keeps w.1)
why-ended order a b c kept keeps numbers line count attempts (Err stop.Output) l m h n all w = (let x = l.output in omega (arith, w, x))
why-ended order a b c kept keeps numbers line count attempts (Err stop.Link) l m h n all w = (by w, (let e = length-append numbers (count ∷ []) in let r = all stop.Link refl refl in omega (arith, e, r)))
  where
    wide : Rose a.port.faults b.port.faults ⊎ IsBarred a.port.peer → LinkFailed (moved a c) ⊎ IsBarred a.port.peer
    wide (inl r) = inl (let x = m.port in omega (arith, r, x))
    wide (inr k) = inr k

    by : LinkFailed (moved b c) ⊎ IsBarred b.port.peer → LinkFailed (moved a c) ⊎ IsBarred a.port.peer
    by (inl r) = inl (let x = l.port in omega (arith, r, x))
    by (inr k) = wide (barred-first (Rose a.port.faults b.port.faults) a.port.peer b.port.peer (told-more (TriedTo order a b kept numbers line) (λ s t. is_fastboot t.mode ≡ false → Rose a.port.faults b.port.faults ⊎ (is_fastboot s.mode ≡ false)) (λ s t q. q.fallen) a.port.peer b.port.peer h.over) k)
why-ended order a b c kept keeps numbers line count attempts (Err stop.Ended) l m h n all w =
    (none-back (TriedTo order a b kept numbers line) a.port.peer b.port.peer h.over w.0, (let r = w.1 in let x = l.ends in omega (arith, r, x)), (let e = length-append numbers (count ∷ []) in let r = all stop.Ended refl refl in omega (arith, e, r)))
why-ended order a b c kept keeps numbers line count attempts (Err (stop.Refused text)) l m h n all w = tt
why-ended order a b c kept keeps numbers line count attempts (Err (stop.Peer x)) l m h n all w = none-back (TriedTo order a b kept numbers line) a.port.peer b.port.peer h.over w
why-ended order a b c kept keeps numbers line count attempts (Err stop.TooManyInfos) l m h n all w = none-back (TriedTo order a b kept numbers line) a.port.peer b.port.peer h.over w
why-ended order a b c kept keeps numbers line count attempts (Err (stop.Requirement x name value)) l m h n all w = (w.1, w.2)
why-ended order a b c kept keeps numbers line count attempts (Err (stop.Plan x kind)) l m h n all w = tt

heard-ended : (x : Trial) (count attempts : ℕ) (end : Result (Unit {0}) DriveError) → HeardEnd x end → HeardBy x.new.port (ended count attempts end)
heard-ended x count attempts (Ok done) h = tt
heard-ended x count attempts (Err error) h = h

-- What is known of a told device.
still-ended : (order : Order) (x : Trial) (count attempts : ℕ) (end : Result (Unit {0}) DriveError) → WhyTried order x end → IsPlanless (ended count attempts end) → x.came.keeps ≡ None
still-ended order x count attempts (Ok done) w p = absurd p
still-ended order x count attempts (Err stop.Memory) w p = absurd p
still-ended order x count attempts (Err (stop.Directory file)) w p = absurd p
still-ended order x count attempts (Err stop.Output) w p = absurd p
still-ended order x count attempts (Err stop.Link) w p = absurd p
still-ended order x count attempts (Err stop.Ended) w p = absurd p
still-ended order x count attempts (Err (stop.Refused text)) w p = absurd p
still-ended order x count attempts (Err (stop.Peer y)) w p = absurd p
still-ended order x count attempts (Err stop.TooManyInfos) w p = absurd p
still-ended order x count attempts (Err (stop.Requirement line name value)) w p = w.0
still-ended order x count attempts (Err (stop.Plan line kind)) w p = w

led : (order : Order) (a b c : Outside) (kept keeps : Option Prepared) (numbers : List ℕ) (count attempts : ℕ) (end : Result (Unit {0}) DriveError) (s t : Dev) → WhyTried order (trial b c (came kept keeps count end)) end → After order a c keeps numbers count end s t →
    IsLed (moved a c) (course (numbers ++ count ∷ []) (ended count attempts end)) s t
led order a b c kept keeps numbers count attempts end s t w k = record {
  tried = tries k.tried;
  spent = λ e. k.spent (ended-link count attempts end e);
  still = λ p. planned-same order keeps s t (still-ended order (trial b c (came kept keeps count end)) count attempts end w p) k.planned;
  halted = k.halted;
}
  where
    tries : RoseBy (length numbers) a.port.faults c.port.faults ⊎ ((end ≡ Err stop.Link) × IsUnmeetable (Rose a.port.faults c.port.faults) s t) → Tried (moved a c) (course (numbers ++ count ∷ []) (ended count attempts end)) s t
    tries (inl r) = inl (let e = length-append numbers (count ∷ []) in omega (arith, r, e))
    tries (inr x) = inr (subst (λ z. MayGiveUp (ended count attempts z)) (sym x.0) tt, x.1)

untold-wide : (a b c : Outside) (numbers : List ℕ) (count : ℕ) → Wide b c → TriedUntold (length numbers) a b → TriedUntold (length (numbers ++ count ∷ []) - 1) a c
untold-wide a b c numbers count m u =
    let long = length-append numbers (count ∷ []) in
    let all = u.all in
    let failed = u.failed in
    let finished = u.ended in
    let x = m.port in
    let y = m.ends in
    record { faults = u.faults; ends = u.ends; all = omega (arith, all, long); failed = omega (arith, failed, x); ended = omega (arith, finished, y) }

pub Drives-ended : (order : Order) (a b c : Outside) (kept keeps : Option Prepared) (numbers : List ℕ) (count attempts : ℕ) (end : Result (Unit {0}) DriveError) → Sound a.port.peer → HasTried order a b kept numbers (lead (length numbers)) → IsTried order (trial b c (came kept keeps count end)) →
    length numbers ≤ order.options.retries → attempts ≡ length numbers + 1 → ((error : DriveError) → end ≡ Err error → may_pass error ≡ true → length numbers ≡ order.options.retries) →
    Drives order a c (course (numbers ++ count ∷ []) (ended count attempts end))
Drives-ended order a b c kept keeps numbers count attempts end v h k within n all =
    let l : Wide a b = record { port = h.held.later; ends = h.held.no_fewer; folder = h.folder.later; output = h.shown_later } in
    let m : Wide b c = record { port = k.kept.later; ends = k.kept.no_fewer; folder = k.folder.later; output = k.shown_later } in
    let told = after-told order a b c kept keeps numbers count end v h k in
    record {
      begun = λ e. not-empty numbers count _ e;
      few = (let e = length-append numbers (count ∷ []) in omega (arith, e, within));
      why = why-ended order a b c kept keeps numbers (lead (length numbers)) count attempts end l m h n all k.why;
      heard = heard-ended (trial b c (came kept keeps count end)) count attempts end k.heard;
      device = told-more (After order a c keeps numbers count end) (IsLed (moved a c) (course (numbers ++ count ∷ []) (ended count attempts end))) (λ s t q. led order a b c kept keeps numbers count attempts end s t k.why q) a.port.peer c.port.peer told;
      untold = λ none. untold-wide a b c numbers count m (h.untold none);
      job = on-files order a.folder.files a.port.peer c.port.peer (λ j t. Drove j a c (course (numbers ++ count ∷ []) (ended count attempts end)) t)
          (told-more (After order a c keeps numbers count end) (λ s t. OfFiles a.folder.files (λ files. Drove (job order files s) a c (course (numbers ++ count ∷ []) (ended count attempts end)) t))
          (λ s t q. files-both a.folder.files _ _ _ (λ files j wire. drove order files a b c kept keeps numbers count attempts end s t l n k.why q j wire) q.after q.wired) a.port.peer c.port.peer told);
      grows = grows-then a.text b.text c.text h.grows k.grows;
      kept = Kept-trans a.port b.port c.port h.held k.kept;
      down = k.down;
      sound = k.sound;
      folder = folder-then a.folder b.folder c.folder h.folder k.folder;
      shown_later = (let x = l.output in let y = m.output in omega (arith, x, y));
    }

-- The output failed at the line before another attempt.
part-front : (before now : Option (List ℕ)) (line : List ℕ) → 0 < length line → GrewPart before now line → (k : ℕ) × (k < length line) × Grew before now (take k line)
part-front None None line s g = (0, s, tt)
part-front None (Some now) line s g = absurd g
part-front (Some before) None line s g = absurd g
part-front (Some before) (Some now) line s g = (g.count, g.fewer, g.grew)

retry-some : (k : ℕ) → 0 < length (retry_line k)
retry-some k = let e = length-append (codes "retry " ++ decimal k) (10 ∷ []) in omega (arith, e)

none-of : (keeps : Option Prepared) → is_some keeps ≡ false → keeps ≡ None
none-of None e = refl
none-of (Some p) e = absurd cc

untold-less : (n : ℕ) (a c : Outside) → TriedUntold n a c → TriedUntold (n - 1) a c
untold-less n a c u = by u.faults u.ends u.all u.failed u.ended
  where
    by : (faults ends : ℕ) → faults + ends ≡ n → RoseBy faults a.port.faults c.port.faults → RoseBy ends a.port.ends c.port.ends → TriedUntold (n - 1) a c
    by zero ends e f g = record { faults = 0; ends = ends - 1; all = omega (arith, e); failed = f; ended = omega (arith, g) }
    by (suc faults) ends e f g = record { faults = faults; ends = ends; all = omega (arith, e); failed = omega (arith, f); ended = g }

unshown-job : (order : Order) (files : Files) (a c : Outside) (keeps : Option Prepared) (numbers : List ℕ) (text : Option (List ℕ)) (unput : ℕ) (s t : Dev) → IsValid s → TriedTo order a c keeps numbers [] s t → SoFar order files keeps numbers [] a.text c.text s t → 0 < length numbers → length numbers ≤ order.options.retries →
    Rose a.unput unput → (k : ℕ) × (k < length (retry_line (length numbers))) × Grew c.text text (take k (retry_line (length numbers))) → Drove (job order files s) a (outside c.port c.folder text unput) (course numbers (Err stop.Output)) t
unshown-job order files a c keeps numbers text unput s t v q j some left failed front =
    let lines = text_of (lines_of (job order files s)) j.attempts in
    let long : length j.attempts ≡ length numbers = sym (ap length j.counted ∙ length-map steps_in j.attempts) in
    record {
      caused = failed;
      left = made-left order files keeps s t numbers v q.planned j.left;
      prints = record {
        attempts = j.attempts;
        ordered = j.ordered;
        text = record {
          line = retry_line (length numbers);
          due = inr (j.counted, omega (arith, some, long), ((let x = left in omega (arith, x, long)), subst (λ n. Spent a.port.faults c.port.faults n s t) (sym long) q.spent), ap retry_line (sym long));
          n = front.0;
          short = front.1;
          grew = Grew-append a.text c.text text lines (take front.0 (retry_line (length numbers))) (subst (Grew a.text c.text) (append-nil lines) j.text) front.2;
        };
        ends = tt;
        left = made-left order files keeps s t (map steps_in j.attempts) v q.planned (subst (λ ns. LeavesBy (chosen files order keeps) s ns t) j.counted j.left);
        unasked = λ e. planned-same order keeps s t (none-of keeps (sym j.answered ∙ e)) q.planned;
      };
      wired = λ done e. absurd cc;
    }

valid-over : (a b : Option Peer) (R : Dev → Dev → Type 0) → Sound a → OfTold a b R → OfTold a b (λ s t. IsValid s × R s t)
valid-over None None R v r = tt
valid-over None (Some y) R v r = absurd r
valid-over (Some x) None R v r = absurd r
valid-over (Some x) (Some y) R v r = (v, r)

unshown-tried : (a c : Outside) (n : ℕ) (text : Option (List ℕ)) (unput : ℕ) (numbers : List ℕ) (s t : Dev) → Spent a.port.faults c.port.faults (length numbers) s t → Tried (moved a (outside c.port c.folder text unput)) (course numbers (Err stop.Output)) s t
unshown-tried a c n text unput numbers s t (inl r) = inl (omega (arith, r))
unshown-tried a c n text unput numbers s t (inr x) = inr (tt, x)

pub Drives-unshown : (order : Order) (a c : Outside) (keeps : Option Prepared) (numbers : List ℕ) (text : Option (List ℕ)) (unput : ℕ) → Sound a.port.peer → HasTried order a c keeps numbers [] → c.port.up ≡ false → 0 < length numbers → length numbers ≤ order.options.retries →
    GrewPart c.text text (retry_line (length numbers)) → Rose c.unput unput → c.unput ≤ unput → Drives order a (outside c.port c.folder text unput) (course numbers (Err stop.Output))
Drives-unshown order a c keeps numbers text unput v h down some left part rose later =
    let front = part-front c.text text (retry_line (length numbers)) (retry-some (length numbers)) part in
    let failed : Rose a.unput unput = (let x = h.shown_later in omega (arith, x, rose)) in
    record {
      begun = λ e. absurd (let z = ap length e in omega (arith, z, some));
      few = omega (arith, left);
      why = failed;
      heard = tt;
      device = told-more (TriedTo order a c keeps numbers []) (IsLed (moved a (outside c.port c.folder text unput)) (course numbers (Err stop.Output))) (λ s t q. record {
        tried = unshown-tried a c 0 text unput numbers s t q.spent;
        spent = λ e. absurd cc;
        still = λ p. absurd p;
        halted = q.halted;
      }) a.port.peer c.port.peer h.over;
      untold = λ none. (let u = untold-less (length numbers) a c (h.untold none) in record { faults = u.faults; ends = u.ends; all = u.all; failed = u.failed; ended = u.ended });
      job = on-files order a.folder.files a.port.peer c.port.peer (λ j t. Drove j a (outside c.port c.folder text unput) (course numbers (Err stop.Output)) t)
          (told-more (λ s t. IsValid s × TriedTo order a c keeps numbers [] s t) (λ s t. OfFiles a.folder.files (λ files. Drove (job order files s) a (outside c.port c.folder text unput) (course numbers (Err stop.Output)) t))
          (λ s t q. files-more a.folder.files _ _ (λ files j. unshown-job order files a c keeps numbers text unput s t q.0 q.1 j some left failed front) q.1.so_far) a.port.peer c.port.peer
          (valid-over a.port.peer c.port.peer (TriedTo order a c keeps numbers []) v h.over));
      grows = grows-then a.text c.text text h.grows (record { more = take front.0 (retry_line (length numbers)); grew = front.2 });
      kept = h.held;
      down = down;
      sound = h.sound;
      folder = h.folder;
      shown_later = (let x = h.shown_later in omega (arith, x, later));
    }

-- The numbers of attempts in an array.
pub numbers-next : (xs : List ℕ) (n y : ℕ) → n < length xs → take (n + 1) (slice_set xs n y) ≡ take n xs ++ y ∷ []
numbers-next xs n y h = take-set_at xs n (n + 1) y refl h

pub rest-next : (xs : List ℕ) (n y : ℕ) → All (λ k. k ≡ 0) (drop n xs) → All (λ k. k ≡ 0) (drop (n + 1) (slice_set xs n y))
rest-next xs n y h = subst (λ l. All (λ k. k ≡ 0) l) (drop-drop 1 n xs ∙ sym (drop-set-lt (n + 1) xs n y (omega arith))) (All-drop (λ k. k ≡ 0) 1 (drop n xs) h)

-- Whether another attempt is made.
both-hold : (a b : Bool) → (a && b) ≡ true → (a ≡ true) × (b ≡ true)
both-hold true b e = (refl, e)
both-hold false b e = absurd cc

pub goes-on : (error : DriveError) (attempts retries : ℕ) → goes_on error attempts retries ≡ true → (may_pass error ≡ true) × (attempts ≤ retries)
goes-on error attempts retries e =
    let b = both-hold (may_pass error) (nat_le attempts retries) e in
    (b.0, (let h : nat_le attempts retries ≡ true = b.1 in grind (arith, nat_tests)))

passes-not : (b c : Bool) → (b && c) ≡ false → b ≡ true → c ≡ false
passes-not true c e f = e
passes-not false c e f = absurd cc

pub goes-no-more : (error : DriveError) (attempts retries : ℕ) → goes_on error attempts retries ≡ false → may_pass error ≡ true → retries < attempts
goes-no-more error attempts retries e f =
    let h : nat_le attempts retries ≡ false = passes-not (may_pass error) (nat_le attempts retries) e f in
    grind (arith, nat_tests)

pub lead-next : (k n : ℕ) → k ≡ n + 1 → lead k ≡ retry_line (n + 1)
lead-next zero n e = absurd (omega (arith, e))
lead-next (suc m) n e = ap retry_line e

pub err-same : (x y : DriveError) → ◌≡◌ {A = Result (Unit {0}) DriveError} (Err x) (Err y) → x ≡ y
err-same x y e = cc
