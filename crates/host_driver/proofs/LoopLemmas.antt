-- The orders of a plan, one after another.
use Rattle.std.proofs.Common.{◌≡◌, ℕ, zero, suc, ◌+◌, ◌-◌, ◌^◌, ◌<◌, ◌≤◌, Bool, true, false, Option, Some, None, List, [], ◌∷◌, ◌++◌, length, take, drop, refl, sym, ap, ◌∙◌, subst, arith, append_assoc, append-nil}
use Rattle.std.specs.Prelude.{IsTrue, map, not, slice_get, ◌==◌, if◌then◌else◌}
use Rattle.std.proofs.lemmas.Bool.Decides.{nat_tests}
use Rattle.std.proofs.lemmas.List.Sums.{sum_by-cons}
use Rattle.std.specs.List.{AllByRecursion, list_any}
use Rattle.std.proofs.lemmas.Option.{slice_get_within}
use Rattle.fb_frame.specs.Greeting.{handshake}
use Rattle.fb_frame.specs.Sinks.{Grew}
use Rattle.fb_frame.proofs.SinkLemmas.{Grew-nothing}
use Rattle.fb_message.specs.CommandText.{Reboot}
use Rattle.dev_model.specs.declared.device.Dev.{Dev}
use Rattle.dev_model.specs.Attempts.{is_halted}
use Rattle.dev_model.specs.Partitions.{is_fastboot}
use Rattle.dev_model.specs.Steps.{run, leaves as step_leaves}
use Rattle.wire_told.specs.Peers.{Peer, Apart, Joined, device_of, OfLink}
use Rattle.wire_told.specs.Ports.{PortTold, Drops}
use Rattle.wire_told.specs.Told.{HungUp}
use Rattle.wire_told.specs.Answered.{Sound}
use Rattle.wire_told.proofs.PortLemmas.{Kept-same, Kept-trans}
use Rattle.flash_plan.specs.declared.plan.Order.{Order}
use Rattle.flash_plan.specs.declared.plan.Order.TheVariants.{Active, Resize, Put, Wipe, Table, Boot}
use Rattle.flash_plan.specs.declared.product.Product.{Product}
use Rattle.flash_plan.specs.Files.{Files}
use Rattle.flash_plan.specs.Moves.{leaves}
use Rattle.flash_plan.specs.Plans.{step_of, steps_of, work_of, images_of, tables_in}
use Rattle.flash_plan.specs.Products.{OfFiles}
use Rattle.fb_link.specs.Seen.{Seen, seen}
use Rattle.host_driver.specs.Attempting.{Lined, IsAlong}
use Rattle.host_driver.specs.Beginning.{IsBegun}
use Rattle.host_driver.specs.HeardLast.{HeardThen}
use Rattle.host_driver.specs.Jobs.{OfTold}
use Rattle.host_driver.specs.Printing.{step_line, joined}
use Rattle.host_driver.specs.Running.{Running, lined, plan_cost, leave_last, IsOf, IsFor, IsSoFar, IsRunSoFar, IsDoneAll}
use Rattle.host_driver.specs.Stepping.{Serving, IsStepped, IsFixed}
use Rattle.host_driver.specs.Taking.{Supply, taking, step_in, HasOwn, IsNamed, is_leaving, is_reboot, is_renewing, order_cost, SendsOrder, IsTaken}
use Rattle.host_driver.specs.Wires.{command_wire, WiresOrder, WiresOrders, LogGrew}
use Rattle.host_driver.proofs.AlongLemmas.{told-then, told-same, along-none, along-next, grows-then, grows-line}
use Rattle.host_driver.proofs.DriveFixed.{fixed-same, fixed-then}
use Rattle.host_driver.proofs.DriveTaken.{serving-less, step-leaves}
use Rattle.host_driver.proofs.HaltLemmas.{running}

-- Facts of told files.
pub files-more : (o : Option Files) (P Q : Files → Type 0) → ((files : Files) → P files → Q files) → OfFiles o P → OfFiles o Q
files-more None P Q f p = tt
files-more (Some files) P Q f p = f files p

pub files-both : (o : Option Files) (P Q R : Files → Type 0) → ((files : Files) → P files → Q files → R files) → OfFiles o P → OfFiles o Q → OfFiles o R
files-both None P Q R f p q = tt
files-both (Some files) P Q R f p q = f files p q

pub files-all : (o : Option Files) (P : Files → Type 0) → ((files : Files) → P files) → OfFiles o P
files-all None P f = tt
files-all (Some files) P f = f files

-- Facts of told devices side by side.
pub told-both : (R S T : Dev → Dev → Type 0) → ((s t : Dev) → R s t → S s t → T s t) → (a b : Option Peer) → OfTold a b R → OfTold a b S → OfTold a b T
told-both R S T f None None r q = tt
told-both R S T f None (Some b) r q = absurd r
told-both R S T f (Some a) None r q = absurd r
told-both R S T f (Some a) (Some b) r q = f (device_of a) (device_of b) r q

-- a fact of the device at the end of a connection that serves
pub told-served : (n : ℕ) (a b : Option Peer) (R S : Dev → Dev → Type 0) → ((s t : Dev) → R s t → is_fastboot t.mode ≡ true → S s t) → Serving n b → OfTold a b R → OfTold a b S
told-served n None None R S f q r = tt
told-served n None (Some b) R S f q r = absurd r
told-served n (Some a) None R S f q r = absurd r
told-served n (Some a) (Some (Apart dev)) R S f q r = absurd q
told-served n (Some a) (Some (Joined w)) R S f q r = f (device_of a) w.device r q.runs

pub told-hung : (a b c : Option Peer) (R : Dev → Dev → Type 0) → OfTold a b R → HungUp b c → OfTold a c R
told-hung None None None R r h = tt
told-hung None None (Some c) R r h = absurd h
told-hung None (Some b) c R r h = absurd r
told-hung (Some a) None c R r h = absurd r
told-hung (Some a) (Some b) None R r h = absurd h
told-hung (Some a) (Some b) (Some (Joined w)) R r h = absurd h
told-hung (Some a) (Some b) (Some (Apart dev)) R r h = subst (R (device_of a)) (sym h) r

pub told-is : (a b c : Option Peer) (R : Dev → Dev → Type 0) → OfTold a b R → OfTold b c (λ s t. t ≡ s) → OfTold a c R
told-is a b c R r e = told-then R (λ s t. t ≡ s) R (λ s t u p q. subst (R s) (sym q) p) a b c r e

-- what is untold later was untold before
pub none-back : (R : Dev → Dev → Type 0) (a b : Option Peer) → OfTold a b R → b ≡ None → a ≡ None
none-back R None b r e = refl
none-back R (Some a) None r e = absurd r
none-back R (Some a) (Some b) r e = absurd cc

-- a fact that a later connection has, at the first one
pub link-back : (X : Type 0) (n : ℕ) (R : Dev → Dev → Type 0) (a b : Option Peer) → Serving n a → OfTold a b R → OfLink (λ w. X) b → OfLink (λ w. X) a
link-back X n R None b s r x = tt
link-back X n R (Some (Apart dev)) b s r x = absurd s
link-back X n R (Some (Joined w)) None s r x = absurd r
link-back X n R (Some (Joined w)) (Some (Apart dev)) s r x = absurd x
link-back X n R (Some (Joined w)) (Some (Joined v)) s r x = x

pub link-both : (X Y Z : Type 0) → (X → Y → Z) → (a : Option Peer) → OfLink (λ w. X) a → OfLink (λ w. Y) a → OfLink (λ w. Z) a
link-both X Y Z f None x y = tt
link-both X Y Z f (Some (Apart dev)) x y = absurd x
link-both X Y Z f (Some (Joined w)) x y = f x y

pub link-more : (X Y : Type 0) → (X → Y) → (a : Option Peer) → OfLink (λ w. X) a → OfLink (λ w. Y) a
link-more X Y f None x = tt
link-more X Y f (Some (Apart dev)) x = absurd x
link-more X Y f (Some (Joined w)) x = f x

-- Lists by their places.
drop-next : {X : Type 0} (xs : List X) (n : ℕ) (x : X) → slice_get xs n ≡ Some x → drop n xs ≡ x ∷ drop (suc n) xs
drop-next [] n x e = absurd cc
drop-next (y ∷ xs) zero x e = let same : y ≡ x = cc in ap (λ t. t ∷ xs) same
drop-next (y ∷ xs) (suc n) x e = drop-next xs n x e

take-next : {X : Type 0} (xs : List X) (n : ℕ) (x : X) → slice_get xs n ≡ Some x → take (suc n) xs ≡ take n xs ++ x ∷ []
take-next [] n x e = absurd cc
take-next (y ∷ xs) zero x e = let same : y ≡ x = cc in ap (λ t. t ∷ []) same
take-next (y ∷ xs) (suc n) x e = ap (λ t. y ∷ t) (take-next xs n x e)

pub map-place : {X Y : Type 0} (f : X → Y) (xs : List X) (n : ℕ) (x : X) → slice_get xs n ≡ Some x → slice_get (map f xs) n ≡ Some (f x)
map-place f [] n x e = absurd cc
map-place f (y ∷ xs) zero x e = let same : y ≡ x = cc in ap (λ t. Some (f t)) same
map-place f (y ∷ xs) (suc n) x e = map-place f xs n x e

pub all-place : {X : Type 0} (P : X → Type 0) (xs : List X) (n : ℕ) (x : X) → AllByRecursion P xs → slice_get xs n ≡ Some x → P x
all-place P [] n x a e = absurd cc
all-place P (y ∷ xs) zero x a e = let same : y ≡ x = cc in subst P same a.0
all-place P (y ∷ xs) (suc n) x a e = all-place P xs n x a.1 e

pub length-map : {X Y : Type 0} (f : X → Y) (xs : List X) → length (map f xs) ≡ length xs
length-map f [] = refl
length-map f (x ∷ xs) = ap suc (length-map f xs)

cost-drop : (plan : List Order) (n : ℕ) → plan_cost (drop n plan) ≤ plan_cost plan
cost-drop [] zero = omega arith
cost-drop [] (suc n) = omega arith
cost-drop (o ∷ plan) zero = omega arith
cost-drop (o ∷ plan) (suc n) = let h = cost-drop plan n in let e = sum_by-cons order_cost o plan in omega (arith, h, e)

-- none but the last leaves
leave-place : (plan : List Order) (n : ℕ) (o : Order) → leave_last plan ≡ true → slice_get plan n ≡ Some o → is_leaving o ≡ true → suc n ≡ length plan
leave-place [] n o l e f = absurd cc
leave-place (x ∷ plan) zero o l e f =
    let same : x ≡ o = cc in
    let h : is_leaving x ≡ true = ap is_leaving same ∙ f in
    let z : (length plan == 0) ≡ true = subst (λ b. (if b then length plan == 0 else leave_last plan) ≡ true) h l in
    let none : length plan ≡ 0 = grind (arith, nat_tests) in
    omega (arith, none)
leave-place (x ∷ plan) (suc n) o l e f = by (is_leaving x) (λ q. leave-place plan n o q e f) l
  where
    by : (b : Bool) → (leave_last plan ≡ true → suc n ≡ length plan) → (if b then length plan == 0 else leave_last plan) ≡ true → suc (suc n) ≡ suc (length plan)
    by true k z =
        let none : length plan ≡ 0 = grind (arith, nat_tests) in
        absurd (let within = slice_get_within plan n o e in omega (arith, none, within))
    by false k q = ap suc (k q)

-- where the last one stays, all do
pub stay-all : (plan : List Order) (n : ℕ) (o : Order) → leave_last plan ≡ true → slice_get plan n ≡ Some o → suc n ≡ length plan → is_leaving o ≡ false → list_any is_leaving plan ≡ false
stay-all [] n o l e h f = absurd cc
stay-all (x ∷ []) zero o l e h f = let same : x ≡ o = cc in let g : is_leaving x ≡ false = ap is_leaving same ∙ f in rw g refl
stay-all (x ∷ y ∷ plan) zero o l e h f = absurd (omega (arith, h))
stay-all (x ∷ plan) (suc n) o l e h f = by (is_leaving x) refl (λ q. stay-all plan n o q e (omega (arith, h)) f) l
  where
    by : (b : Bool) → is_leaving x ≡ b → (leave_last plan ≡ true → list_any is_leaving plan ≡ false) → (if b then length plan == 0 else leave_last plan) ≡ true → list_any is_leaving (x ∷ plan) ≡ false
    by true g k z =
        let none : length plan ≡ 0 = grind (arith, nat_tests) in
        absurd (let within = slice_get_within plan n o e in omega (arith, none, within))
    by false g k q = let rest = k q in rw g rest

pub any-steps : (files : Files) (r : Running) (plan : List Order) → list_any step_leaves (steps_of files r.from.product plan) ≡ list_any is_leaving plan
any-steps files r [] = refl
any-steps files r (o ∷ plan) =
    let h = step-leaves (images_of files r.from.product.tasks) (tables_in r.from.product.empty) o in
    let g = any-steps files r plan in
    rw (h, g) refl

-- What is sent.
wires-then : (files : Files) (s : Supply) (plan : List Order) (o : Order) (x y : List ℕ) → WiresOrders files s.product s.most plan x → WiresOrder files s.product s.most o y → WiresOrders files s.product s.most (plan ++ o ∷ []) (x ++ y)
wires-then files s [] o x y e w = (y, [], ap (λ t. t ++ y) e ∙ sym (append-nil y), w, refl)
wires-then files s (p ∷ plan) o x y e w =
    (e.0, e.1 ++ y, ap (λ t. t ++ y) e.2 ∙ append_assoc e.0 e.1 y, e.3, wires-then files s plan o e.1 y e.4 w)

sends-stays : (files : Files) (s : Supply) (o : Order) (x : List ℕ) → is_renewing o ≡ false → SendsOrder files s.product s.most o x → WiresOrder files s.product s.most o x
sends-stays files s (Active slot) x r e = e
sends-stays files s (Resize name size) x r e = e
sends-stays files s (Put name place) x r e = e
sends-stays files s (Wipe name) x r e = e
sends-stays files s (Table name wipe) x r e = e
sends-stays files s (Boot what) x r e = by (leaves what) r
  where
    by : (b : Bool) → not b ≡ false → x ≡ command_wire (Reboot what) ++ (if b then [] else handshake 1)
    by true q = e ∙ sym (append-nil (command_wire (Reboot what)))
    by false q = absurd cc

sends-renews : (files : Files) (s : Supply) (o : Order) (x y : List ℕ) → is_renewing o ≡ true → SendsOrder files s.product s.most o x → y ≡ handshake 1 → WiresOrder files s.product s.most o (x ++ y)
sends-renews files s (Active slot) x y r e h = absurd cc
sends-renews files s (Resize name size) x y r e h = absurd cc
sends-renews files s (Put name place) x y r e h = absurd cc
sends-renews files s (Wipe name) x y r e h = absurd cc
sends-renews files s (Table name wipe) x y r e h = absurd cc
sends-renews files s (Boot what) x y r e h = by (leaves what) r
  where
    by : (b : Bool) → not b ≡ true → x ++ y ≡ command_wire (Reboot what) ++ (if b then [] else handshake 1)
    by true q = absurd cc
    by false q = ap (λ t. t ++ y) e ∙ ap (λ t. command_wire (Reboot what) ++ t) h

pub log-then : (P Q R : List ℕ → Type 0) → ((x y : List ℕ) → P x → Q y → R (x ++ y)) → (a b c : Option (List ℕ)) → LogGrew a b P → LogGrew b c Q → LogGrew a c R
log-then P Q R f None None None l m = tt
log-then P Q R f None None (Some c) l m = absurd m
log-then P Q R f None (Some b) c l m = absurd l
log-then P Q R f (Some a) None c l m = absurd l
log-then P Q R f (Some a) (Some b) None l m = absurd m
log-then P Q R f (Some a) (Some b) (Some c) l m = (l.0 ++ m.0, m.1 ∙ (ap (λ t. t ++ m.0) l.1 ∙ append_assoc a l.0 m.0), f l.0 m.0 l.2 m.2)

log-self : (P : List ℕ → Type 0) → P [] → (a : Option (List ℕ)) → LogGrew a a P
log-self P p None = tt
log-self P p (Some a) = ([], sym (append-nil a), p)

-- Which orders renew the connection, and which don't.
stays-not-reboot : (o : Order) → is_renewing o ≡ false → is_leaving o ≡ false → is_reboot o ≡ false
stays-not-reboot (Active slot) r l = refl
stays-not-reboot (Resize name size) r l = refl
stays-not-reboot (Put name place) r l = refl
stays-not-reboot (Wipe name) r l = refl
stays-not-reboot (Table name wipe) r l = refl
stays-not-reboot (Boot what) r l = by (leaves what) r l
  where
    by : (b : Bool) → not b ≡ false → b ≡ false → true ≡ false
    by true q k = absurd cc
    by false q k = absurd cc

pub renews-not-leaving : (o : Order) → is_renewing o ≡ true → is_leaving o ≡ false
renews-not-leaving (Active slot) r = refl
renews-not-leaving (Resize name size) r = refl
renews-not-leaving (Put name place) r = refl
renews-not-leaving (Wipe name) r = refl
renews-not-leaving (Table name wipe) r = refl
renews-not-leaving (Boot what) r = by (leaves what) r
  where
    by : (b : Bool) → not b ≡ true → b ≡ false
    by true q = absurd cc
    by false q = refl

nothing-sent : (n : ℕ) (p : Option Peer) → Serving n p → OfLink (λ w. ◌≡◌ {A = List ℕ} [] []) p
nothing-sent n None q = tt
nothing-sent n (Some (Apart dev)) q = absurd q
nothing-sent n (Some (Joined w)) q = refl

-- Nothing was taken yet.
pub Run-begun : (r : Running) (a : Seen) → Serving (plan_cost r.plan) a.port.peer → IsRunSoFar r 0 a a
unfolding IsRunSoFar
Run-begun r a s = record {
  along = files-all r.from.files _ (λ files. along-none (lined files r) a);
  log = files-all r.from.files _ (λ files. log-self (λ wire. OfLink (λ w. WiresOrders files r.from.product r.from.most [] wire) a.port.peer) (nothing-sent (plan_cost r.plan) a.port.peer s) a.port.log);
  serving = λ h. s;
  fixed = told-same IsFixed fixed-same a.port.peer;
  lives = lives-self a.port.peer s;
  grows = record { more = []; grew = Grew-nothing a.text };
  heard = λ h. h;
  kept = Kept-same a.port;
}
  where
    lives-self : (p : Option Peer) → Serving (plan_cost r.plan) p → OfTold p p (λ s t. is_halted t.mode ≡ false)
    lives-self None q = tt
    lives-self (Some (Apart dev)) q = absurd q
    lives-self (Some (Joined w)) q = running w.device.mode q.runs

-- One order more.
cost-next : (r : Running) (n : ℕ) (o : Order) → slice_get r.plan n ≡ Some o → plan_cost (drop n r.plan) ≡ order_cost o + plan_cost (drop (suc n) r.plan)
cost-next r n o at = ap plan_cost (drop-next r.plan n o at) ∙ sum_by-cons order_cost o (drop (suc n) r.plan)

none-fore : (R : Dev → Dev → Type 0) (a b : Option Peer) → OfTold a b R → a ≡ None → b ≡ None
none-fore R None None r e = refl
none-fore R None (Some b) r e = absurd r
none-fore R (Some a) b r e = absurd cc

serving-none : (n : ℕ) (a : Option Peer) → a ≡ None → Serving n a
serving-none n a e = subst (Serving n) (sym e) tt

link-never : (a : Option Peer) → OfLink (λ w. ⊥) a → a ≡ None
link-never None x = refl
link-never (Some (Apart dev)) x = absurd x
link-never (Some (Joined w)) x = absurd x

link-of : (P : Dev → Type 0) (X : Type 0) → ((d : Dev) → P d → X) → (a : Option Peer) → OfLink (λ w. P w.device) a → OfLink (λ w. X) a
link-of P X f None p = tt
link-of P X f (Some (Apart dev)) p = absurd p
link-of P X f (Some (Joined w)) p = f w.device p

stays-serving : (r : Running) (n : ℕ) (o : Order) (a b c : Seen) → OfLink (λ w. IsFor r.plan r.from.most w.device) a.port.peer → slice_get r.plan n ≡ Some o → is_renewing o ≡ false →
    IsSoFar r n a b → IsTaken (taking r.from o) b c → suc n < length r.plan → Serving (plan_cost (drop (suc n) r.plan)) c.port.peer
stays-serving r n o a b c fit at stays so t more = by (is_leaving o) refl
  where
    by : (x : Bool) → is_leaving o ≡ x → Serving (plan_cost (drop (suc n) r.plan)) c.port.peer
    by false l =
        t.serving (stays-not-reboot o stays l) (plan_cost (drop (suc n) r.plan))
        (subst (λ k. Serving k b.port.peer) (cost-next r n o at) (so.serving (omega (arith, more))))
    by true l =
        let never = link-of (IsFor r.plan r.from.most) ⊥ (λ d f. (let e = leave-place r.plan n o f.last at l in omega (arith, more, e))) a.port.peer fit in
        serving-none (plan_cost (drop (suc n) r.plan)) c.port.peer
        (none-fore IsFixed b.port.peer c.port.peer t.fixed (none-fore IsFixed a.port.peer b.port.peer so.fixed (link-never a.port.peer never)))

pub steps-at : (files : Files) (r : Running) (n : ℕ) (o : Order) → slice_get r.plan n ≡ Some o → slice_get (lined files r).steps n ≡ Some (step_in files r.from.product o)
steps-at files r n o at = map-place (step_of (images_of files r.from.product.tasks) (tables_in r.from.product.empty)) r.plan n o at

pub lines-at : (files : Files) (r : Running) (n : ℕ) (o : Order) → slice_get r.plan n ≡ Some o → slice_get (lined files r).lines n ≡ Some (step_line (work_of r.from.product).sizes o)
lines-at files r n o at = map-place (step_line (work_of r.from.product).sizes) r.plan n o at

pub along-taken : (files : Files) (r : Running) (n : ℕ) (o : Order) (a b c : Seen) (text : Option (List ℕ)) → slice_get r.plan n ≡ Some o → Grew c.text text (step_line (work_of r.from.product).sizes o) →
    IsAlong (lined files r) n a b → IsStepped (order_cost o) (λ wire. OfLink (λ w. SendsOrder files r.from.product r.from.most o wire) b.port.peer) (step_in files r.from.product o) b c → IsAlong (lined files r) (suc n) a (seen c.port text)
along-taken files r n o a b c text at put al k =
    along-next (order_cost o) (λ wire. OfLink (λ w. SendsOrder files r.from.product r.from.most o wire) b.port.peer) (lined files r) n (step_in files r.from.product o) (step_line (work_of r.from.product).sizes o) a b c text al k
    (steps-at files r n o at) (lines-at files r n o at) put

pub Run-stays : (r : Running) (n : ℕ) (o : Order) (a b c : Seen) (text : Option (List ℕ)) → Serving (plan_cost r.plan) a.port.peer → OfLink (λ w. IsFor r.plan r.from.most w.device) a.port.peer → slice_get r.plan n ≡ Some o →
    is_renewing o ≡ false → IsRunSoFar r n a b → IsTaken (taking r.from o) b c → Grew c.text text (step_line (work_of r.from.product).sizes o) → IsRunSoFar r (suc n) a (seen c.port text)
unfolding IsRunSoFar
Run-stays r n o a b c text s fit at stays so t put = record {
  along = files-both r.from.files _ _ _ (λ files al k. along-taken files r n o a b c text at put al k) so.along t.exact;
  log = files-both r.from.files _ _ _ (λ files l k.
      log-then (λ wire. OfLink (λ w. WiresOrders files r.from.product r.from.most (take n r.plan) wire) a.port.peer) (λ wire. OfLink (λ w. SendsOrder files r.from.product r.from.most o wire) b.port.peer)
      (λ wire. OfLink (λ w. WiresOrders files r.from.product r.from.most (take (suc n) r.plan) wire) a.port.peer)
      (λ x y p q. link-both (WiresOrders files r.from.product r.from.most (take n r.plan) x) (SendsOrder files r.from.product r.from.most o y) (WiresOrders files r.from.product r.from.most (take (suc n) r.plan) (x ++ y))
      (λ u v. subst (λ z. WiresOrders files r.from.product r.from.most z (x ++ y)) (sym (take-next r.plan n o at)) (wires-then files r.from (take n r.plan) o x y u (sends-stays files r.from o y stays v)))
      a.port.peer p (link-back (SendsOrder files r.from.product r.from.most o y) (plan_cost r.plan) IsFixed a.port.peer b.port.peer s so.fixed q))
      a.port.log b.port.log c.port.log l k.log) so.log t.exact;
  serving = λ more. stays-serving r n o a b c fit at stays so t more;
  fixed = told-then IsFixed IsFixed IsFixed fixed-then a.port.peer b.port.peer c.port.peer so.fixed t.fixed;
  lives = told-then IsFixed (λ x y. is_halted y.mode ≡ false) (λ x y. is_halted y.mode ≡ false) (λ x y z p q. q) a.port.peer b.port.peer c.port.peer so.fixed t.lives;
  grows = grows-then a.text b.text text so.grows (grows-then b.text c.text text t.grows (grows-line c.text text (step_line (work_of r.from.product).sizes o) put));
  heard = λ h. t.heard (so.heard h);
  kept = Kept-trans a.port b.port c.port so.kept t.kept;
}

along-is : (plan : Lined) (n : ℕ) (a b : Seen) (e : PortTold) → IsAlong plan n a b → IsBegun b.port e → IsAlong plan n a (seen e b.text)
along-is plan n a b e al g = record {
  ran = told-is a.port.peer b.port.peer e.peer (λ s t. run (take n plan.steps) s ≡ Some t) al.ran g.same;
  shown = told-is a.port.peer b.port.peer e.peer (λ s t. Grew a.text b.text (joined (take n plan.lines))) al.shown g.same;
  grows = al.grows;
  kept = Kept-trans a.port b.port e al.kept g.kept;
}

pub Run-renews : (r : Running) (n : ℕ) (o : Order) (a b c : Seen) (text : Option (List ℕ)) (e : PortTold) → Serving (plan_cost r.plan) a.port.peer → plan_cost r.plan ≤ 2 ^ 60 → slice_get r.plan n ≡ Some o →
    is_renewing o ≡ true → IsRunSoFar r n a b → IsTaken (taking r.from o) b c → Grew c.text text (step_line (work_of r.from.product).sizes o) → IsBegun c.port e → IsRunSoFar r (suc n) a (seen e text)
unfolding IsRunSoFar
Run-renews r n o a b c text e s room at renews so t put g = record {
  along = files-both r.from.files _ _ _ (λ files al k. along-is (lined files r) (suc n) a (seen c.port text) e (along-taken files r n o a b c text at put al k) g) so.along t.exact;
  log = files-both r.from.files _ _ _ (λ files l k.
      log-then (λ wire. OfLink (λ w. WiresOrders files r.from.product r.from.most (take n r.plan) wire) a.port.peer) (λ wire. OfLink (λ w. WiresOrder files r.from.product r.from.most o wire) b.port.peer)
      (λ wire. OfLink (λ w. WiresOrders files r.from.product r.from.most (take (suc n) r.plan) wire) a.port.peer)
      (λ x y p q. link-both (WiresOrders files r.from.product r.from.most (take n r.plan) x) (WiresOrder files r.from.product r.from.most o y) (WiresOrders files r.from.product r.from.most (take (suc n) r.plan) (x ++ y))
      (λ u v. subst (λ z. WiresOrders files r.from.product r.from.most z (x ++ y)) (sym (take-next r.plan n o at)) (wires-then files r.from (take n r.plan) o x y u v))
      a.port.peer p (link-back (WiresOrder files r.from.product r.from.most o y) (plan_cost r.plan) IsFixed a.port.peer b.port.peer s so.fixed q))
      a.port.log b.port.log e.log l
      (log-then (λ wire. OfLink (λ w. SendsOrder files r.from.product r.from.most o wire) b.port.peer) (λ wire. wire ≡ handshake 1) (λ wire. OfLink (λ w. WiresOrder files r.from.product r.from.most o wire) b.port.peer)
      (λ x y p q. link-more (SendsOrder files r.from.product r.from.most o x) (WiresOrder files r.from.product r.from.most o (x ++ y)) (λ u. sends-renews files r.from o x y renews u q) b.port.peer p)
      b.port.log c.port.log e.log k.log g.log)) so.log t.exact;
  serving = λ more. serving-less (2 ^ 61 - 4) (plan_cost (drop (suc n) r.plan)) e.peer (let h = cost-drop r.plan (suc n) in omega (arith, h, room)) g.serving;
  fixed = told-is a.port.peer c.port.peer e.peer IsFixed (told-then IsFixed IsFixed IsFixed fixed-then a.port.peer b.port.peer c.port.peer so.fixed t.fixed) g.same;
  lives = told-is a.port.peer c.port.peer e.peer (λ x y. is_halted y.mode ≡ false)
      (told-then IsFixed (λ x y. is_halted y.mode ≡ false) (λ x y. is_halted y.mode ≡ false) (λ x y z p q. q) a.port.peer b.port.peer c.port.peer so.fixed t.lives) g.same;
  grows = grows-then a.text b.text text so.grows (grows-then b.text c.text text t.grows (grows-line c.text text (step_line (work_of r.from.product).sizes o) put));
  heard = λ h. g.heard;
  kept = Kept-trans a.port b.port e so.kept (Kept-trans b.port c.port e t.kept g.kept);
}

-- All were taken.
pub Run-done : (r : Running) (a b : Seen) (e : PortTold) → IsRunSoFar r (length r.plan) a b → Drops b.port e → Sound e.peer → IsDoneAll r a (seen e b.text)
unfolding IsRunSoFar
Run-done r a b e so d sound = record {
  so_far = record {
    along = files-more r.from.files _ _ (λ files al. record {
      ran = told-hung a.port.peer b.port.peer e.peer (λ s t. run (take (length r.plan) (lined files r).steps) s ≡ Some t) al.ran d.left;
      shown = told-hung a.port.peer b.port.peer e.peer (λ s t. Grew a.text b.text (joined (take (length r.plan) (lined files r).lines))) al.shown d.left;
      grows = al.grows;
      kept = Kept-trans a.port b.port e al.kept d.kept;
    }) so.along;
    log = files-more r.from.files _ _ (λ files l. subst (λ o. LogGrew a.port.log o (λ wire. OfLink (λ w. WiresOrders files r.from.product r.from.most (take (length r.plan) r.plan) wire) a.port.peer)) (sym d.log) l) so.log;
    serving = λ h. absurd (omega (arith, h));
    fixed = told-hung a.port.peer b.port.peer e.peer IsFixed so.fixed d.left;
    lives = told-hung a.port.peer b.port.peer e.peer (λ x y. is_halted y.mode ≡ false) so.lives d.left;
    grows = so.grows;
    heard = λ h. subst (λ o. HeardThen o []) (sym d.heard) (so.heard h);
    kept = Kept-trans a.port b.port e so.kept d.kept;
  };
  down = d.down;
  sound = sound;
}

-- What the next order needs.
named-on : (plan : List Order) (most n : ℕ) (o : Order) (a b : Option Peer) (k : ℕ) → slice_get plan n ≡ Some o → OfLink (λ w. IsFor plan most w.device) a → OfTold a b IsFixed → Serving k b → OfLink (λ w. IsNamed w.device o) b
named-on plan most n o None None k at f r s = tt
named-on plan most n o None (Some b) k at f r s = absurd r
named-on plan most n o (Some (Apart dev)) b k at f r s = absurd f
named-on plan most n o (Some (Joined w)) None k at f r s = absurd r
named-on plan most n o (Some (Joined w)) (Some (Apart dev)) k at f r s = absurd s
named-on plan most n o (Some (Joined w)) (Some (Joined v)) k at f r s = named-same o w.device v.device r.super_name (all-place (IsNamed w.device) plan n o f.named at)
  where
    named-same : (o : Order) (x y : Dev) → y.super_name ≡ x.super_name → IsNamed x o → IsNamed y o
    named-same (Active slot) x y e q = tt
    named-same (Resize name size) x y e q = tt
    named-same (Put name place) x y e q = tt
    named-same (Wipe name) x y e q = tt
    named-same (Table name wipe) x y e q = e ∙ q
    named-same (Boot what) x y e q = tt

fits-on : (plan : List Order) (most k : ℕ) (a b : Option Peer) → OfLink (λ w. IsFor plan most w.device) a → OfTold a b IsFixed → Serving k b → OfLink (λ w. most ≤ w.device.max) b
fits-on plan most k None None f r s = tt
fits-on plan most k None (Some b) f r s = absurd r
fits-on plan most k (Some (Apart dev)) b f r s = absurd f
fits-on plan most k (Some (Joined w)) None f r s = absurd r
fits-on plan most k (Some (Joined w)) (Some (Apart dev)) f r s = absurd s
fits-on plan most k (Some (Joined w)) (Some (Joined v)) f r s = (let h = f.fits in let e = r.most in omega (arith, h, e))

pub Next-named : (r : Running) (n : ℕ) (o : Order) (a b : Seen) → slice_get r.plan n ≡ Some o → OfLink (λ w. IsFor r.plan r.from.most w.device) a.port.peer → IsRunSoFar r n a b → OfLink (λ w. IsNamed w.device o) b.port.peer
unfolding IsRunSoFar
Next-named r n o a b at f so = named-on r.plan r.from.most n o a.port.peer b.port.peer (plan_cost (drop n r.plan)) at f so.fixed (so.serving (slice_get_within r.plan n o at))

pub Next-fits : (r : Running) (n : ℕ) (o : Order) (a b : Seen) → slice_get r.plan n ≡ Some o → OfLink (λ w. IsFor r.plan r.from.most w.device) a.port.peer → IsRunSoFar r n a b → OfLink (λ w. r.from.most ≤ w.device.max) b.port.peer
unfolding IsRunSoFar
Next-fits r n o a b at f so = fits-on r.plan r.from.most (plan_cost (drop n r.plan)) a.port.peer b.port.peer f so.fixed (so.serving (slice_get_within r.plan n o at))

pub Next-serving : (r : Running) (n : ℕ) (o : Order) (a b : Seen) → slice_get r.plan n ≡ Some o → IsRunSoFar r n a b → Serving (order_cost o) b.port.peer
unfolding IsRunSoFar
Next-serving r n o a b at so =
    let e = cost-next r n o at in
    serving-less (plan_cost (drop n r.plan)) (order_cost o) b.port.peer (omega (arith, e)) (so.serving (slice_get_within r.plan n o at))

pub Next-own : (product : Product) (plan : List Order) (n : ℕ) (o : Order) → slice_get plan n ≡ Some o → IsOf product plan → HasOwn product o
Next-own product plan n o at w = all-place (HasOwn product) plan n o w.own at

pub Next-aimed : (r : Running) (n : ℕ) (o : Order) (a b : Seen) (c : Seen) → IsRunSoFar r n a b → IsTaken (taking r.from o) b c → IsTrue a.port.aimed → IsTrue c.port.aimed
unfolding IsRunSoFar
Next-aimed r n o a b c so t e = t.kept.aimed_still ∙ (so.kept.aimed_still ∙ e)

-- One order more, whether or not another connection began.
pub Run-next : (r : Running) (n : ℕ) (o : Order) (a b c : Seen) (text : Option (List ℕ)) (e : PortTold) → Serving (plan_cost r.plan) a.port.peer → OfLink (λ w. IsFor r.plan r.from.most w.device) a.port.peer → plan_cost r.plan ≤ 2 ^ 60 →
    slice_get r.plan n ≡ Some o → IsRunSoFar r n a b → IsTaken (taking r.from o) b c → Grew c.text text (step_line (work_of r.from.product).sizes o) → (is_renewing o ≡ false → e ≡ c.port) → (is_renewing o ≡ true → IsBegun c.port e) →
    IsRunSoFar r (n + 1) a (seen e text)
Run-next r n o a b c text e s fit room at so t put stays begun = subst (λ k. IsRunSoFar r k a (seen e text)) more (by (is_renewing o) refl)
  where
    more : suc n ≡ n + 1
    more = omega arith

    by : (x : Bool) → is_renewing o ≡ x → IsRunSoFar r (suc n) a (seen e text)
    by false q = subst (λ p. IsRunSoFar r (suc n) a (seen p text)) (sym (stays q)) (Run-stays r n o a b c text s fit at q so t put)
    by true q = Run-renews r n o a b c text e s room at q so t put (begun q)

pub Run-end : (r : Running) (n : ℕ) (a b : Seen) (e : PortTold) → n ≡ length r.plan → IsRunSoFar r n a b → Drops b.port e → Sound e.peer → IsDoneAll r a (seen e b.text)
Run-end r n a b e h so d sound = Run-done r a b e (subst (λ k. IsRunSoFar r k a b) h so) d sound
