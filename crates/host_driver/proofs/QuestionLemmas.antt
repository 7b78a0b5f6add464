-- Questions to a device, one after another: what is learned, and where an attempt breaks off in them.
use Rattle.std.proofs.Common.{◌≡◌, inr, ℕ, zero, suc, ◌+◌, ◌<◌, ◌≤◌, Bool, true, false, Option, Some, None, List, [], ◌∷◌, ◌++◌, length, get_or, take, drop, refl, sym, ap, ◌∙◌, subst, arith, append_assoc, append-nil}
use Rattle.std.specs.Prelude.{map, flat_map, nat_le, slice_get, codes, Ok, Err}
use Rattle.std.specs.Result.{result_ok}
use Rattle.std.proofs.lemmas.Bool.Decides.{nat_tests}
use Rattle.std.proofs.lemmas.Grind.{flat_map-append}
use Rattle.std.proofs.lemmas.List.{map-append, take-append-le, take_all}
use Rattle.std.proofs.lemmas.Option.{slice_get_within}
use Rattle.std.proofs.Math.Seq.{take-append_seam, take-append-add, drop-cons}
use Rattle.fb_frame.specs.Framing.{frame}
use Rattle.fb_frame.specs.Sinks.{Grew}
use Rattle.fb_frame.proofs.SinkLemmas.{Grew-append, Grew-nothing}
use Rattle.fb_message.specs.CommandText.{GetVar}
use Rattle.fb_message.specs.declared.reply.Reply.TheVariants.{Okay, Fail}
use Rattle.fb_message.specs.ReplyText.{reply_bytes}
use Rattle.dev_model.specs.declared.device.Dev.{Dev}
use Rattle.dev_model.specs.Validity.{IsValid}
use Rattle.dev_model.specs.Variables.{asked}
use Rattle.wire_told.specs.Answered.{Sound}
use Rattle.wire_told.specs.Peers.{Peer, device_of}
use Rattle.wire_told.specs.Ports.{PortTold, Drops}
use Rattle.wire_told.specs.Told.{HungUp}
use Rattle.wire_told.proofs.PortLemmas.{Kept-same, Kept-trans}
use Rattle.fb_link.specs.Lines.{shown_line}
use Rattle.fb_link.specs.Seen.{Seen, seen}
use Rattle.host_driver.specs.declared.drive.DriveError.{DriveError}
use Rattle.host_driver.specs.declared.drive.DriveError.TheVariants as stop
use Rattle.host_driver.specs.Asking.{Told, told_reply, Tells, IsAsked, IsUnasked, IsUnrefused, ShowsSome, IsCutIn, ShowsBy}
use Rattle.host_driver.specs.HeardLast.{HeardThen, HeardAt, LogEnds, is_answer}
use Rattle.host_driver.specs.Jobs.{OfTold}
use Rattle.host_driver.specs.Printing.{infos_to, joined}
use Rattle.host_driver.specs.Questioning.{OfDevice, shown_to, IsLearned, WhyUnlearned, IsUnlearned, unread_stop, IsFront}
use Rattle.host_driver.specs.Stepping.{Serving, WhyStopped, NoFiles}
use Rattle.host_driver.specs.Wires.{LogGrew, asked_wire, command_wire}
use Rattle.host_driver.proofs.AlongLemmas.{told-then, told-same, told-more, grows-then}
use Rattle.host_driver.proofs.AskLemmas.{joined-append, spelled-name}
use Rattle.host_driver.proofs.PutLemmas.{Serving-less, log-then, log-map, log-self}
use Rattle.host_driver.proofs.BeginLemmas.{hung-still}
use Rattle.host_driver.proofs.TakeLemmas.{wire-is}

-- Facts of a told device, and relations of one.
told-and : (R S : Dev → Dev → Type 0) (a b : Option Peer) → OfTold a b R → OfTold a b S → OfTold a b (λ s t. R s t × S s t)
told-and R S None None r q = tt
told-and R S None (Some y) r q = r
told-and R S (Some x) None r q = r
told-and R S (Some x) (Some y) r q = (r, q)

told-with : (F : Dev → Type 0) (R S : Dev → Dev → Type 0) → ((s t : Dev) → F s → R s t → S s t) → (a b : Option Peer) → OfDevice F a → OfTold a b R → OfTold a b S
told-with F R S f None None h r = tt
told-with F R S f None (Some y) h r = r
told-with F R S f (Some x) None h r = r
told-with F R S f (Some x) (Some y) h r = f (device_of x) (device_of y) h r

pub device-of : (F : Dev → Type 0) (a b : Option Peer) → OfTold a b (λ s t. (t ≡ s) × F s) → OfDevice F b
device-of F None None r = tt
device-of F None (Some y) r = absurd r
device-of F (Some x) None r = tt
device-of F (Some x) (Some y) r = subst F (sym r.0) r.1

pub device-moved : (F : Dev → Type 0) (a b : Option Peer) → OfTold a b (λ s t. t ≡ s) → OfDevice F a → OfDevice F b
device-moved F None None r h = tt
device-moved F None (Some y) r h = absurd r
device-moved F (Some x) None r h = tt
device-moved F (Some x) (Some y) r h = subst F (sym r) h

pub device-any : (a : Option Peer) → OfDevice (λ dev. Unit {0}) a
device-any None = tt
device-any (Some x) = tt

pub device-more : (F G : Dev → Type 0) → ((s : Dev) → F s → G s) → (a : Option Peer) → OfDevice F a → OfDevice G a
device-more F G f None h = tt
device-more F G f (Some x) h = f (device_of x) h

pub device-and : (F G : Dev → Type 0) (a : Option Peer) → OfDevice F a → OfDevice G a → OfDevice (λ dev. F dev × G dev) a
device-and F G None h k = tt
device-and F G (Some x) h k = (h, k)

pub sound-of : (a : Option Peer) → Sound a → OfDevice IsValid a
sound-of None s = tt
sound-of (Some x) s = s

pub of-sound : (a : Option Peer) → OfDevice IsValid a → Sound a
of-sound None s = tt
of-sound (Some x) s = s

pub sound-moved : (a b : Option Peer) → OfTold a b (λ s t. t ≡ s) → Sound a → Sound b
sound-moved a b r s = of-sound b (device-moved IsValid a b r (sound-of a s))

-- The lines and the commands of questions, one after another.
pub shown-append : (dev : Dev) (xs ys : List (List ℕ)) → shown_to dev (xs ++ ys) ≡ shown_to dev xs ++ shown_to dev ys
shown-append dev xs ys = ap (map shown_line) (flat_map-append (infos_to dev) xs ys) ∙ map-append shown_line (flat_map (infos_to dev) xs) (flat_map (infos_to dev) ys)

asked-append : (xs ys : List (List ℕ)) → asked_wire (xs ++ ys) ≡ asked_wire xs ++ asked_wire ys
asked-append xs ys = flat_map-append (λ name. command_wire (GetVar name)) xs ys

-- Nothing is asked.
pub learned-still : (F : Dev → Type 0) (a : Seen) → OfDevice F a.port.peer → IsLearned 0 (λ dev. []) F a a
learned-still F a h = record {
  told = told-with F (λ s t. t ≡ s) (λ s t. (t ≡ s) × F s) (λ s t f e. (e, f)) a.port.peer a.port.peer h (told-same (λ s t. t ≡ s) (λ s. refl) a.port.peer);
  serving = λ spare h. Serving-less (0 + spare) spare a.port.peer (omega arith) h;
  shown = told-same (λ s t. Grew a.text a.text []) (λ s. Grew-nothing a.text) a.port.peer;
  grows = record { more = []; grew = Grew-nothing a.text };
  heard = λ h. h;
  log = log-self (λ bytes. OfTold a.port.peer a.port.peer (λ s t. bytes ≡ [])) (told-same (λ s t. [] ≡ []) (λ s. refl) a.port.peer) a.port.log;
  kept = Kept-same a.port;
}

-- what was learned before, and what is after it
module _ (k m n : ℕ) (f g h : Dev → List (List ℕ)) (F G H : Dev → Type 0) (a b c : Seen) where
  both-told : IsLearned m f F a b → IsLearned n g G b c → OfTold a.port.peer c.port.peer (λ s t. (t ≡ s) × (F s × G s))
  both-told p q =
      told-then (λ s t. (t ≡ s) × F s) (λ s t. (t ≡ s) × G s) (λ s t. (t ≡ s) × (F s × G s))
      (λ s t u x y. (y.0 ∙ x.0, (x.1, subst G x.0 y.1))) a.port.peer b.port.peer c.port.peer p.told q.told

  pub learned-next : IsLearned m f F a b → IsLearned n g G b c → m + n ≤ k → ((s : Dev) → F s → G s → (f s ++ g s ≡ h s) × H s) → IsLearned k h H a c
  learned-next p q few to = record {
    told = told-more (λ s t. (t ≡ s) × (F s × G s)) (λ s t. (t ≡ s) × H s) (λ s t x. (x.0, (to s x.1.0 x.1.1).1)) a.port.peer c.port.peer (both-told p q);
    serving = λ spare s. q.serving spare (p.serving (n + spare) (Serving-less (k + spare) (m + (n + spare)) a.port.peer (omega (arith, few)) s));
    shown = told-then (λ s t. ((t ≡ s) × F s) × Grew a.text b.text (joined (shown_to s (f s)))) (λ s t. ((t ≡ s) × G s) × Grew b.text c.text (joined (shown_to s (g s)))) (λ s t. Grew a.text c.text (joined (shown_to s (h s))))
        (λ s t u x y.
        let next = subst (λ d. Grew b.text c.text (joined (shown_to d (g d)))) x.0.0 y.1 in
        let all = Grew-append a.text b.text c.text (joined (shown_to s (f s))) (joined (shown_to s (g s))) x.1 next in
        subst (Grew a.text c.text)
        (sym (joined-append (shown_to s (f s)) (shown_to s (g s))) ∙ (ap joined (sym (shown-append s (f s) (g s))) ∙ ap (λ names. joined (shown_to s names)) (to s x.0.1 (subst G x.0.0 y.0.1)).0)) all)
        a.port.peer b.port.peer c.port.peer
        (told-and (λ s t. (t ≡ s) × F s) (λ s t. Grew a.text b.text (joined (shown_to s (f s)))) a.port.peer b.port.peer p.told p.shown)
        (told-and (λ s t. (t ≡ s) × G s) (λ s t. Grew b.text c.text (joined (shown_to s (g s)))) b.port.peer c.port.peer q.told q.shown);
    grows = grows-then a.text b.text c.text p.grows q.grows;
    heard = λ x. q.heard (p.heard x);
    log = log-then (λ bytes. OfTold a.port.peer b.port.peer (λ s t. bytes ≡ asked_wire (f s))) (λ bytes. OfTold b.port.peer c.port.peer (λ s t. bytes ≡ asked_wire (g s))) (λ bytes. OfTold a.port.peer c.port.peer (λ s t. bytes ≡ asked_wire (h s)))
        (λ x y i j. told-then (λ s t. ((t ≡ s) × F s) × (x ≡ asked_wire (f s))) (λ s t. ((t ≡ s) × G s) × (y ≡ asked_wire (g s))) (λ s t. x ++ y ≡ asked_wire (h s))
        (λ s t u o q.
        ap (λ z. z ++ y) o.1 ∙ (ap (λ z. asked_wire (f s) ++ z) (q.1 ∙ ap (λ d. asked_wire (g d)) o.0.0)
        ∙ (sym (asked-append (f s) (g s)) ∙ ap asked_wire (to s o.0.1 (subst G o.0.0 q.0.1)).0)))
        a.port.peer b.port.peer c.port.peer
        (told-and (λ s t. (t ≡ s) × F s) (λ s t. x ≡ asked_wire (f s)) a.port.peer b.port.peer p.told i)
        (told-and (λ s t. (t ≡ s) × G s) (λ s t. y ≡ asked_wire (g s)) b.port.peer c.port.peer q.told j))
        a.port.log b.port.log c.port.log p.log q.log;
    kept = Kept-trans a.port b.port c.port p.kept q.kept;
  }

-- how many bytes are left to come after questions
pub learned-serving : (n m k : ℕ) (f : Dev → List (List ℕ)) (F : Dev → Type 0) (a b : Seen) → IsLearned m f F a b → m + n ≤ k → Serving k a.port.peer → Serving n b.port.peer
learned-serving n m k f F a b p few s = p.serving n (Serving-less k (m + n) a.port.peer few s)

-- the device is one that there can be still
pub learned-sound : (m : ℕ) (f : Dev → List (List ℕ)) (F : Dev → Type 0) (a b : Seen) → IsLearned m f F a b → Sound a.port.peer → Sound b.port.peer
learned-sound m f F a b p s = sound-moved a.port.peer b.port.peer (told-more (λ s t. (t ≡ s) × F s) (λ s t. t ≡ s) (λ s t x. x.0) a.port.peer b.port.peer p.told) s

-- the fact is one of the device still
pub learned-known : (m : ℕ) (f : Dev → List (List ℕ)) (F : Dev → Type 0) (a b : Seen) → IsLearned m f F a b → OfDevice F b.port.peer
learned-known m f F a b p = device-of F a.port.peer b.port.peer p.told

-- the same questions and facts, said otherwise
pub learned-as : (m n : ℕ) (f g : Dev → List (List ℕ)) (F G : Dev → Type 0) (a b : Seen) → IsLearned m f F a b → m ≤ n → ((s : Dev) → F s → (f s ≡ g s) × G s) → IsLearned n g G a b
learned-as m n f g F G a b p few to =
    learned-next n 0 m (λ dev. []) f g (λ dev. Unit {0}) F G a a b (learned-still (λ dev. Unit {0}) a (device-any a.port.peer)) p (omega (arith, few)) (λ s u x. to s x)

-- What is shown of more lines.
some-front : (lines more : List (List ℕ)) (x y : Option (List ℕ)) → ShowsSome lines x y → ShowsSome (lines ++ more) x y
some-front lines more x y s = by (nat_le s.count (length lines)) refl
  where
    by : (b : Bool) → nat_le s.count (length lines) ≡ b → ShowsSome (lines ++ more) x y
    by true e = record { count = s.count; grew = subst (λ z. Grew x y (joined z)) (sym (take-append-le s.count lines more (grind (arith, nat_tests, e)))) s.grew }
    by false e =
        let past : length lines ≤ s.count = grind (arith, nat_tests, e) in
        record { count = length lines; grew = subst (λ z. Grew x y (joined z)) (take_all s.count lines past ∙ sym (take-append_seam lines more)) s.grew }

some-after : (lines more : List (List ℕ)) (x y z : Option (List ℕ)) → Grew x y (joined lines) → ShowsSome more y z → ShowsSome (lines ++ more) x z
some-after lines more x y z g s = record {
  count = length lines + s.count;
  grew = subst (Grew x z) (sym (joined-append lines (take s.count more)) ∙ ap joined (sym (take-append-add lines more s.count))) (Grew-append x y z (joined lines) (joined (take s.count more)) g s.grew);
}

get-front : (lines more : List (List ℕ)) (n : ℕ) (line : List ℕ) → slice_get lines n ≡ Some line → slice_get (lines ++ more) n ≡ Some line
get-front [] more n line e = absurd cc
get-front (x ∷ lines) more zero line e = e
get-front (x ∷ lines) more (suc n) line e = get-front lines more n line e

get-after : (lines more : List (List ℕ)) (n : ℕ) → slice_get (lines ++ more) (length lines + n) ≡ slice_get more n
get-after [] more n = let same : 0 + n ≡ n = omega arith in ap (slice_get more) same
get-after (x ∷ lines) more n =
    let same : length (x ∷ lines) + n ≡ suc (length lines + n) = omega arith in
    ap (slice_get (x ∷ (lines ++ more))) same ∙ get-after lines more n

cut-front : (lines more : List (List ℕ)) (x y : Option (List ℕ)) → IsCutIn lines x y → IsCutIn (lines ++ more) x y
cut-front lines more x y c =
    let within = slice_get_within lines c.count c.line c.next in
    record {
      count = c.count;
      line = c.line;
      next = get-front lines more c.count c.line c.next;
      n = c.n;
      short = c.short;
      grew = subst (λ z. Grew x y (joined z ++ take c.n c.line)) (sym (take-append-le c.count lines more (omega (arith, within)))) c.grew;
    }

cut-after : (lines more : List (List ℕ)) (x y z : Option (List ℕ)) → Grew x y (joined lines) → IsCutIn more y z → IsCutIn (lines ++ more) x z
cut-after lines more x y z g c = record {
  count = length lines + c.count;
  line = c.line;
  next = get-after lines more c.count ∙ c.next;
  n = c.n;
  short = c.short;
  grew = subst (Grew x z)
      (sym (append_assoc (joined lines) (joined (take c.count more)) (take c.n c.line))
      ∙ ap (λ t. t ++ take c.n c.line) (sym (joined-append lines (take c.count more)) ∙ ap joined (sym (take-append-add lines more c.count))))
      (Grew-append x y z (joined lines) (joined (take c.count more) ++ take c.n c.line) g c.grew);
}

shows-front : (lines more : List (List ℕ)) (e : DriveError) (x y : Option (List ℕ)) → ShowsBy lines e x y → ShowsBy (lines ++ more) e x y
shows-front lines more stop.Memory x y s = some-front lines more x y s
shows-front lines more (stop.Directory file) x y s = some-front lines more x y s
shows-front lines more stop.Output x y s = cut-front lines more x y s
shows-front lines more stop.Link x y s = some-front lines more x y s
shows-front lines more stop.Ended x y s = some-front lines more x y s
shows-front lines more (stop.Refused text) x y s = some-front lines more x y s
shows-front lines more (stop.Peer kept) x y s = some-front lines more x y s
shows-front lines more stop.TooManyInfos x y s = some-front lines more x y s
shows-front lines more (stop.Requirement line name value) x y s = some-front lines more x y s
shows-front lines more (stop.Plan line kind) x y s = some-front lines more x y s

shows-after : (lines more : List (List ℕ)) (e : DriveError) (x y z : Option (List ℕ)) → Grew x y (joined lines) → ShowsBy more e y z → ShowsBy (lines ++ more) e x z
shows-after lines more stop.Memory x y z g s = some-after lines more x y z g s
shows-after lines more (stop.Directory file) x y z g s = some-after lines more x y z g s
shows-after lines more stop.Output x y z g s = cut-after lines more x y z g s
shows-after lines more stop.Link x y z g s = some-after lines more x y z g s
shows-after lines more stop.Ended x y z g s = some-after lines more x y z g s
shows-after lines more (stop.Refused text) x y z g s = some-after lines more x y z g s
shows-after lines more (stop.Peer kept) x y z g s = some-after lines more x y z g s
shows-after lines more stop.TooManyInfos x y z g s = some-after lines more x y z g s
shows-after lines more (stop.Requirement line name value) x y z g s = some-after lines more x y z g s
shows-after lines more (stop.Plan line kind) x y z g s = some-after lines more x y z g s

none-after : (a b : Option Peer) (R : Dev → Dev → Type 0) → OfTold a b R → b ≡ None → a ≡ None
none-after None b R r e = refl
none-after (Some x) None R r e = absurd r
none-after (Some x) (Some y) R r e = absurd cc

none-before : (a b : Option Peer) (R : Dev → Dev → Type 0) → OfTold a b R → a ≡ None → b ≡ None
none-before None None R r e = refl
none-before None (Some y) R r e = absurd r
none-before (Some x) b R r e = absurd cc

-- Counts that rose since a later moment rose since an earlier one.
why-after : (R : Dev → Dev → Type 0) (e : DriveError) (a b c : PortTold) → OfTold a.peer b.peer R → a.faults ≤ b.faults → a.ends ≤ b.ends → WhyUnlearned b c e → WhyUnlearned a c e
why-after R stop.Memory a b c r f n w = tt
why-after R (stop.Directory file) a b c r f n w = w
why-after R stop.Output a b c r f n w = tt
why-after R stop.Link a b c r f n w = omega (arith, f, w)
why-after R stop.Ended a b c r f n w = (none-after a.peer b.peer R r w.0, (let rose = w.1 in omega (arith, n, rose)))
why-after R (stop.Refused text) a b c r f n w = none-after a.peer b.peer R r w
why-after R (stop.Peer kept) a b c r f n w = none-after a.peer b.peer R r w
why-after R stop.TooManyInfos a b c r f n w = none-after a.peer b.peer R r w
why-after R (stop.Requirement line name value) a b c r f n w = w
why-after R (stop.Plan line kind) a b c r f n w = w

-- An attempt broke off in later questions.
pub unlearned-next : (m : ℕ) (f g h : Dev → List (List ℕ)) (F : Dev → Type 0) (a b c : Seen) (e : DriveError) → IsLearned m f F a b → IsUnlearned g b c e → ((s : Dev) → F s → IsFront (f s ++ g s) (h s)) → IsUnlearned h a c e
unlearned-next m f g h F a b c e p q to = record {
  why = why-after (λ s t. (t ≡ s) × F s) e a.port b.port c.port p.told p.kept.later p.kept.no_fewer q.why;
  still = told-then (λ s t. (t ≡ s) × F s) (λ s t. t ≡ s) (λ s t. t ≡ s) (λ s t u x y. y ∙ x.0) a.port.peer b.port.peer c.port.peer p.told q.still;
  shown = told-then (λ s t. ((t ≡ s) × F s) × Grew a.text b.text (joined (shown_to s (f s)))) (λ s t. ShowsBy (shown_to s (g s)) e b.text c.text) (λ s t. ShowsBy (shown_to s (h s)) e a.text c.text)
      (λ s t u x y.
      let next = subst (λ d. ShowsBy (shown_to d (g d)) e b.text c.text) x.0.0 y in
      let all = shows-after (shown_to s (f s)) (shown_to s (g s)) e a.text b.text c.text x.1 next in
      let front = to s x.0.1 in
      let whole = shows-front (shown_to s (f s) ++ shown_to s (g s)) (shown_to s front.more) e a.text c.text all in
      subst (λ lines. ShowsBy lines e a.text c.text)
      (ap (λ lines. lines ++ shown_to s front.more) (sym (shown-append s (f s) (g s))) ∙ (sym (shown-append s (f s ++ g s) front.more) ∙ ap (shown_to s) (sym front.whole))) whole)
      a.port.peer b.port.peer c.port.peer
      (told-and (λ s t. (t ≡ s) × F s) (λ s t. Grew a.text b.text (joined (shown_to s (f s)))) a.port.peer b.port.peer p.told p.shown) q.shown;
  grows = grows-then a.text b.text c.text p.grows q.grows;
  heard = λ x. q.heard (p.heard x);
  down = q.down;
  sound = q.sound;
  kept = Kept-trans a.port b.port c.port p.kept q.kept;
}

pub unlearned-as : (f g : Dev → List (List ℕ)) (F : Dev → Type 0) (a b : Seen) (e : DriveError) → OfDevice F a.port.peer → IsUnlearned f a b e → ((s : Dev) → F s → IsFront (f s) (g s)) → IsUnlearned g a b e
unlearned-as f g F a b e known p to = unlearned-next 0 (λ dev. []) f g F a a b e (learned-still F a known) p to

-- One question.
pub learned-one : (name : List ℕ) (told : Told) (F : Dev → Type 0) (a b : Seen) → OfTold a.port.peer b.port.peer (λ s t. (t ≡ s) × F s) → IsAsked name told a b → IsLearned 4104 (λ dev. name ∷ []) F a b
learned-one name told F a b t k = record {
  told = t;
  serving = k.serving;
  shown = told-more (λ s t. Grew a.text b.text (joined (map shown_line (infos_to s name)))) (λ s t. Grew a.text b.text (joined (shown_to s (name ∷ []))))
      (λ s t g. subst (λ infos. Grew a.text b.text (joined (map shown_line infos))) (sym (append-nil (infos_to s name))) g) a.port.peer b.port.peer k.shown;
  grows = k.grows;
  heard = k.heard;
  log = log-map (λ bytes. bytes ≡ command_wire (GetVar name)) (λ bytes. OfTold a.port.peer b.port.peer (λ s t. bytes ≡ asked_wire (name ∷ [])))
      (λ x e. told-more (λ s t. (t ≡ s) × F s) (λ s t. x ≡ asked_wire (name ∷ [])) (λ s t o. e ∙ sym (append-nil (command_wire (GetVar name)))) a.port.peer b.port.peer t) a.port.log b.port.log k.log;
  kept = k.kept;
}

why-unasked : (e : DriveError) (a b : PortTold) → WhyStopped NoFiles a b e → IsUnrefused e → WhyUnlearned a b e
why-unasked stop.Memory a b w u = tt
why-unasked (stop.Directory file) a b w u = w
why-unasked stop.Output a b w u = tt
why-unasked stop.Link a b w u = w
why-unasked stop.Ended a b w u = w
why-unasked (stop.Refused text) a b w u = absurd u
why-unasked (stop.Peer kept) a b w u = w
why-unasked stop.TooManyInfos a b w u = w
why-unasked (stop.Requirement line name value) a b w u = w
why-unasked (stop.Plan line kind) a b w u = w

pub unlearned-one : (name : List ℕ) (a b : Seen) (e : DriveError) → IsUnasked name a b e → IsUnlearned (λ dev. name ∷ []) a b e
unlearned-one name a b e k = record {
  why = why-unasked e a.port b.port k.why k.unrefused;
  still = k.still;
  shown = told-more (λ s t. ShowsBy (map shown_line (infos_to s name)) e a.text b.text) (λ s t. ShowsBy (shown_to s (name ∷ [])) e a.text b.text)
      (λ s t g. subst (λ infos. ShowsBy (map shown_line infos) e a.text b.text) (sym (append-nil (infos_to s name))) g) a.port.peer b.port.peer k.shown;
  grows = k.grows;
  heard = k.heard;
  down = k.down;
  sound = k.sound;
  kept = k.kept;
}

-- An answer of which nothing is read is the last that was heard, and its question the last that was sent.
sent-last : (name : List ℕ) (x y : Option (List ℕ)) → length name ≤ 4089 → LogGrew x y (λ bytes. bytes ≡ command_wire (GetVar name)) → LogEnds y (GetVar name)
sent-last name None None h l = (codes "getvar:" ++ name, spelled-name name h, tt)
sent-last name None (Some y) h l = absurd l
sent-last name (Some x) None h l = absurd l
sent-last name (Some x) (Some y) h l =
    let p : List ℕ = codes "getvar:" ++ name in
    (p, spelled-name name h, (x, l.1 ∙ ap (λ z. x ++ z) (l.2 ∙ sym (wire-is (GetVar name) p (spelled-name name h)))))

heard-unread : (name : List ℕ) (told : Told) (b c : PortTold) → length name ≤ 4089 → LogEnds b.log (GetVar name) → HeardThen b.heard (frame (reply_bytes (told_reply told))) → ((text : List ℕ) → told ≡ Ok text → is_answer name text ≡ false) →
    Drops b c → HeardAt c (unread_stop told)
heard-unread name (Ok text) b c h l last other d =
    inr (inr (inr (inr (record {
      question = name;
      sent = subst (λ log. LogEnds log (GetVar name)) (sym d.log) l;
      unread = other text refl;
      heard = subst (λ heard. HeardThen heard (frame (reply_bytes (Okay text)))) (sym d.heard) last;
    }))))
heard-unread name (Err refusal) b c h l last other d = subst (λ heard. HeardThen heard (frame (reply_bytes (Fail refusal)))) (sym d.heard) last

why-unread : (told : Told) (a c : PortTold) → a.peer ≡ None → WhyUnlearned a c (unread_stop told)
why-unread (Ok text) a c e = e
why-unread (Err refusal) a c e = e

untold-both : (R S : Dev → Dev → Type 0) (a b c : Option Peer) → a ≡ None → OfTold a b R → HungUp b c → OfTold a c S
untold-both R S None None None e r h = tt
untold-both R S None None (Some z) e r h = absurd h
untold-both R S None (Some y) c e r h = absurd r
untold-both R S (Some x) b c e r h = absurd cc

-- The connection is ended after questions.
pub learned-hung : (m : ℕ) (f : Dev → List (List ℕ)) (F : Dev → Type 0) (a b : Seen) (c : PortTold) → IsLearned m f F a b → Drops b.port c → OfTold a.port.peer c.peer (λ s t. ((t ≡ s) × F s) × Grew a.text b.text (joined (shown_to s (f s))))
learned-hung m f F a b c p d =
    told-then (λ s t. ((t ≡ s) × F s) × Grew a.text b.text (joined (shown_to s (f s)))) (λ s t. t ≡ s) (λ s t. ((t ≡ s) × F s) × Grew a.text b.text (joined (shown_to s (f s))))
    (λ s t u x y. ((y ∙ x.0.0, x.0.1), x.1)) a.port.peer b.port.peer c.peer
    (told-and (λ s t. (t ≡ s) × F s) (λ s t. Grew a.text b.text (joined (shown_to s (f s)))) a.port.peer b.port.peer p.told p.shown) (hung-still b.port.peer c.peer d.left)

pub memory-unlearned : (m : ℕ) (f h : Dev → List (List ℕ)) (F : Dev → Type 0) (a b : Seen) (c : PortTold) → IsLearned m f F a b → Drops b.port c → Sound c.peer → ((s : Dev) → F s → IsFront (f s) (h s)) → IsUnlearned h a (seen c b.text) stop.Memory
memory-unlearned m f h F a b c p d sound to = record {
  why = tt;
  still = told-more (λ s t. ((t ≡ s) × F s) × Grew a.text b.text (joined (shown_to s (f s)))) (λ s t. t ≡ s) (λ s t x. x.0.0) a.port.peer c.peer (learned-hung m f F a b c p d);
  shown = told-more (λ s t. ((t ≡ s) × F s) × Grew a.text b.text (joined (shown_to s (f s)))) (λ s t. ShowsSome (shown_to s (h s)) a.text b.text)
      (λ s t x.
      let lines = shown_to s (f s) in
      let all : ShowsSome lines a.text b.text = record { count = length lines; grew = subst (λ ls. Grew a.text b.text (joined ls)) (sym (take_all (length lines) lines (omega arith))) x.1 } in
      let front = to s x.0.1 in
      subst (λ ls. ShowsSome ls a.text b.text) (sym (shown-append s (f s) front.more) ∙ ap (shown_to s) (sym front.whole)) (some-front lines (shown_to s front.more) a.text b.text all)) a.port.peer c.peer (learned-hung m f F a b c p d);
  grows = p.grows;
  heard = λ h. tt;
  down = d.down;
  sound = sound;
  kept = Kept-trans a.port b.port c p.kept d.kept;
}

-- What is read of an answer, where a valid device's is read as a fact of it.
tells-asked : (name : List ℕ) (told : Told) (dev : Dev) → Tells name told dev → asked dev name ≡ result_ok told
tells-asked name (Ok text) dev t = t
tells-asked name (Err refusal) dev t = t.0

pub learned-value : (name : List ℕ) (told : Told) (value : Option (List ℕ)) (a b : Seen) → value ≡ result_ok told → IsAsked name told a b → IsLearned 4104 (λ dev. name ∷ []) (λ dev. value ≡ asked dev name) a b
learned-value name told value a b e k =
    learned-one name told (λ dev. value ≡ asked dev name) a b
    (told-more (λ s t. (t ≡ s) × Tells name told s) (λ s t. (t ≡ s) × (value ≡ asked s name)) (λ s t r. (r.0, e ∙ sym (tells-asked name told s r.1))) a.port.peer b.port.peer k.told) k

-- the elements from a place on
pub drop-at : {X : Type 0} (xs : List X) (i : ℕ) (x : X) → i < length xs → get_or xs i x ≡ x → drop i xs ≡ x ∷ drop (suc i) xs
drop-at xs i x h e = drop-cons xs i x h ∙ ap (λ z. z ∷ drop (suc i) xs) e

pub get-at : {X : Type 0} (xs : List X) (i : ℕ) (x : X) → i < length xs → get_or xs i x ≡ x → slice_get xs i ≡ Some x
get-at [] i x h e = absurd (omega (arith, h))
get-at (y ∷ xs) zero x h e = ap Some e
get-at (y ∷ xs) (suc i) x h e = get-at xs i x (omega (arith, h)) e

pub drop-end : {X : Type 0} (xs : List X) (i : ℕ) → length xs ≤ i → drop i xs ≡ []
drop-end [] zero h = refl
drop-end [] (suc i) h = refl
drop-end (x ∷ xs) zero h = absurd (omega (arith, h))
drop-end (x ∷ xs) (suc i) h = drop-end xs i (omega (arith, h))

module _ {X : Type 0} (name : List ℕ) (told : Told) (read : Option (List ℕ) → Option X) (fact : Dev → X) (K : Dev → Type 0) (agree : (dev : Dev) → IsValid dev → K dev → read (asked dev name) ≡ Some (fact dev)) (a b : Seen)
    (valid : Sound a.port.peer) (known : OfDevice K a.port.peer) (k : IsAsked name told a b) where
  read-told : OfTold a.port.peer b.port.peer (λ s t. (t ≡ s) × (read (result_ok told) ≡ Some (fact s)))
  read-told =
      told-with (λ dev. IsValid dev × K dev) (λ s t. (t ≡ s) × Tells name told s) (λ s t. (t ≡ s) × (read (result_ok told) ≡ Some (fact s)))
      (λ s t f r. (r.0, sym (ap read (tells-asked name told s r.1)) ∙ agree s f.0 f.1)) a.port.peer b.port.peer (device-and IsValid K a.port.peer (sound-of a.port.peer valid) known) k.told

  pub read-learned : (x : X) → Some x ≡ read (result_ok told) → IsLearned 4104 (λ dev. name ∷ []) (λ dev. x ≡ fact dev) a b
  read-learned x e =
      learned-one name told (λ dev. x ≡ fact dev) a b
      (told-more (λ s t. (t ≡ s) × (read (result_ok told) ≡ Some (fact s))) (λ s t. (t ≡ s) × (x ≡ fact s))
      (λ s t r. (r.0, some-same x (fact s) (e ∙ r.1))) a.port.peer b.port.peer read-told) k
    where
      some-same : (x y : X) → Some x ≡ Some y → x ≡ y
      some-same x y e = cc

  unread-none : None ≡ read (result_ok told) → a.port.peer ≡ None
  unread-none e = by a.port.peer b.port.peer read-told
    where
      some-none : (x : X) → None ≡ Some x → ⊥
      some-none x e = absurd cc

      by : (p q : Option Peer) → OfTold p q (λ s t. (t ≡ s) × (read (result_ok told) ≡ Some (fact s))) → p ≡ None
      by None q r = refl
      by (Some x) None r = absurd r
      by (Some x) (Some y) r = absurd (some-none (fact (device_of x)) (e ∙ r.1))

  pub read-unlearned : None ≡ read (result_ok told) → ((text : List ℕ) → read (Some text) ≡ None → is_answer name text ≡ false) → length name ≤ 4089 → (c : PortTold) (error : DriveError) → error ≡ unread_stop told → Drops b.port c → Sound c.peer →
      IsUnlearned (λ dev. name ∷ []) a (seen c b.text) error
  read-unlearned e other short c error is d sound = subst (IsUnlearned (λ dev. name ∷ []) a (seen c b.text)) (sym is) (record {
    why = why-unread told a.port c (unread-none e);
    still = none-told (λ s t. t ≡ s);
    shown = none-told (λ s t. ShowsBy (shown_to s (name ∷ [])) (unread_stop told) a.text b.text);
    grows = k.grows;
    heard = λ h. heard-unread name told b.port c short (sent-last name a.port.log b.port.log short k.log) (k.last h) (λ text is. other text (sym (e ∙ ap (λ t. read (result_ok t)) is))) d;
    down = d.down;
    sound = sound;
    kept = Kept-trans a.port b.port c k.kept d.kept;
  })
    where
      none-told : (S : Dev → Dev → Type 0) → OfTold a.port.peer c.peer S
      none-told S = untold-both (λ s t. (t ≡ s) × Tells name told s) S a.port.peer b.port.peer c.peer (unread-none e) k.told d.left
