-- The ends of a call from its parts, and what no call undoes.
use Rattle.std.proofs.Common.{◌≡◌, ◌⊎◌, inl, inr, ℕ, ◌≤◌, Bool, true, false, Option, Some, None, List, [], refl, sym, ap, ◌∙◌, subst, arith}
use Rattle.std.specs.Prelude.{Result, Ok, Err, IsTrue, IsFalse, MatchBool, is_some}
use Rattle.fb_frame.specs.Causes.{Rose}
use Rattle.fb_frame.specs.Sinks.{Grew}
use Rattle.fb_frame.proofs.SinkLemmas.{Grew-nothing}
use Rattle.dev_model.specs.declared.bad_image.BadImage.{BadImage}
use Rattle.fb_link.specs.declared.port.AimError.{AimError}
use Rattle.fb_link.specs.declared.port.AimError.TheVariants as aim
use Rattle.fb_link.specs.Seen.{seen}
use Rattle.wire_told.specs.Places.{Place, IsNothing, IsBad}
use Rattle.wire_told.specs.Ports.{PortTold, Kept, IsAimed, IsAstray, Turns}
use Rattle.flash_plan.specs.declared.options.Options.{Options}
use Rattle.flash_plan.specs.declared.product.Product.{Product}
use Rattle.flash_plan.specs.Products.{OfFiles, product_of}
use Rattle.host_driver.specs.declared.drive.DriveError.{DriveError}
use Rattle.host_driver.specs.declared.drive.DriveError.TheVariants as stop
use Rattle.host_driver.specs.Asking.{Told}
use Rattle.host_driver.specs.Driving.{Grows, Drives, moved, OutputFailed}
use Rattle.host_driver.specs.Jobs.{Outside, Folder, Order, order, outside, OfTold}
use Rattle.host_driver.proofs.AlongLemmas.{grows-then}
use Rattle.host_driver.proofs.TakeLemmas.{grows-part}
use Rattle.word_rules.specs.declared.error.WordsError.{WordsError}
use Rattle.word_rules.specs.declared.error.WordsError.TheVariants as words
use Rattle.host_words.specs.Requests.{Request, FlashAll, GetVar, Sample}
use Rattle.host_top.specs.declared.opening.Unread.{Unread}
use Rattle.host_top.specs.declared.opening.Unread.TheVariants as unread
use Rattle.host_top.specs.Acts.{WhyUnread, IsEntered, unread_verdict, HasRun, HasAsked, IsAnswered, WhyAnswered, answer_verdict}
use Rattle.host_top.specs.Ending.{IsSamePort, Shows, ShowsLast, EndsInFolder, IsUnread, IsUnentered, Unused, IsOpened, EndsAstray, Unaimed, Led, Answers, WhyAsked, Questioned, Ends}
use Rattle.host_top.specs.Hosted.{Lasts}
use Rattle.host_top.specs.LineParts.{aim_verdict, words_verdict}
use Rattle.host_top.specs.Verdicts.{Verdict, Usage, NoMemory, last_line, verdict_of}
use Rattle.host_top.proofs.AimLemmas.{aimed-on, turned-by, untold-still}
use Rattle.host_top.proofs.EndLemmas.{Ran, run-ends}

-- the text grew by the last line, or by a front of it
shows-grow : (v : Verdict) (x z : Option (List ℕ)) (status : ℕ) → Shows v x z status → Grows x z
shows-grow v x z status (inl s) = record { more = last_line v; grew = s.1 }
shows-grow v x z status (inr s) = grows-part x z (last_line v) s.1

last-grows : (v : Option Verdict) (x z : Option (List ℕ)) (status : ℕ) → ShowsLast v x z status → Grows x z
last-grows None x z status s = subst (Grows x) (sym s.1) (record { more = []; grew = Grew-nothing x })
last-grows (Some v) x z status s = shows-grow v x z status s

le-then : (a b c : ℕ) → a ≤ b → b ≤ c → a ≤ c
le-then a b c h g = omega (arith, h, g)

same-le : (n : ℕ) → n ≤ n
same-le n = omega arith

rose-in : (a b c d : ℕ) → a ≤ b → c ≤ d → Rose b c → Rose a d
rose-in a b c d h g r = omega (arith, h, g, r)

same-port : (p : PortTold) → IsSamePort p p
same-port p = record {
  peer = refl;
  up = refl;
  aimed = refl;
  last = refl;
  stands = refl;
  heard = refl;
  log = refl;
  faults = refl;
  ends = refl;
  honest = (λ h. h, λ h. h);
}

-- the folder changed as a folder may, the port as it may, and the last line was put
pub lasts-unused : (p : PortTold) (f g : Folder) (x z : Option (List ℕ)) (m k : ℕ) (v : Verdict) (status : ℕ) → g.path ≡ f.path → g.files ≡ f.files → f.faults ≤ g.faults →
    Shows v x z status → m ≤ k → Lasts (outside p f x m) (outside p g z k)
lasts-unused p f g x z m k v status e h l s t = record {
  path = e;
  files = h;
  folder = l;
  port = same-le p.faults;
  ends = same-le p.ends;
  honest = λ y. y;
  output = t;
  grows = shows-grow v x z status s;
}

pub lasts-astray : (p q : PortTold) (f g : Folder) (x z : Option (List ℕ)) (m k : ℕ) (v : Verdict) (status : ℕ) → g.path ≡ f.path → g.files ≡ f.files → f.faults ≤ g.faults →
    Turns p q → Shows v x z status → m ≤ k → Lasts (outside p f x m) (outside q g z k)
lasts-astray p q f g x z m k v status e h l u s t = record {
  path = e;
  files = h;
  folder = l;
  port = u.later;
  ends = subst (λ n. p.ends ≤ n) (sym u.ends) (same-le p.ends);
  honest = u.honest;
  output = t;
  grows = shows-grow v x z status s;
}

-- a call over a port that was aimed keeps what it keeps
lasts-kept : (p a q : PortTold) (f g : Folder) (x y z : Option (List ℕ)) (m n k : ℕ) (v : Option Verdict) (status : ℕ) → g.path ≡ f.path → g.files ≡ f.files → f.faults ≤ g.faults →
    Turns p a → Kept a q → Grows x y → ShowsLast v y z status → m ≤ n → n ≤ k → Lasts (outside p f x m) (outside q g z k)
lasts-kept p a q f g x y z m n k v status e h l u c w s t r = record {
  path = e;
  files = h;
  folder = l;
  port = le-then p.faults a.faults q.faults u.later c.later;
  ends = subst (λ o. o ≤ q.ends) u.ends c.no_fewer;
  honest = λ o. u.honest (c.honest o);
  output = le-then m n k t r;
  grows = grows-then x y z w (last-grows v y z status s);
}

-- No product was read.
unread-ends : (dir : List ℕ) (wipe : Bool) (p q : PortTold) (f g : Folder) (x z : Option (List ℕ)) (m k : ℕ) (e : Unread) → WhyUnread dir wipe f g e → EndsInFolder dir wipe (outside p f x m) (outside q g z k) (unread_verdict dir e)
unread-ends dir wipe p q f g x z m k unread.Memory w = tt
unread-ends dir wipe p q f g x z m k unread.Folder w =
    let old = outside p f x m in
    let new = outside q g z k in
    let there : IsUnentered dir old new dir = record { why = w.why; named = refl } in
    subst (λ b. MatchBool b (IsUnread dir wipe old new dir) (IsUnentered dir old new dir)) (sym w.astray) there
unread-ends dir wipe p q f g x z m k (unread.File file) w =
    let old = outside p f x m in
    let new = outside q g z k in
    let there : IsUnread dir wipe old new file = record { here = w.entered.here; failed = w.failed; named = w.looked } in
    subst (λ b. MatchBool b (IsUnread dir wipe old new file) (IsUnentered dir old new file)) (sym w.entered.entered) there
unread-ends dir wipe p q f g x z m k (unread.Flawed file flaw) w = record { here = w.0.here; first = w.1 }

pub unread-call : (place : Place) (dir : List ℕ) (options : Options) (p : PortTold) (f g : Folder) (x z : Option (List ℕ)) (m k status : ℕ) (e : Unread) (v : Verdict) → WhyUnread dir options.wipe f g e → v ≡ unread_verdict dir e →
    Shows v x z status → (status ≡ 9 → Rose m k) → Ends (Some (FlashAll place dir options)) (outside p f x m) (outside p g z k) status
unread-call place dir options p f g x z m k status e v w i s u =
    inl
    (record {
      same = same-port p;
      verdict = v;
      why = subst (EndsInFolder dir options.wipe (outside p f x m) (outside p g z k)) (sym i) (unread-ends dir options.wipe p p f g x z m k e w);
      shows = s;
      unput = u;
    })

astray-ends : (place : Place) (dir : List ℕ) (o : Order) (p q : PortTold) (f g : Folder) (x z : Option (List ℕ)) (m k status : ℕ) → IsEntered dir f g → OfFiles f.files (λ files. product_of files o.options.wipe ≡ Ok o.product) →
    IsOpened dir o (outside p f x m) (outside q g z k)
astray-ends place dir o p q f g x z m k status e r = record { here = e.here; read = r; entered = e.entered }

-- The port wasn't aimed, for this cause.
astray-why : (place : Place) (p q : PortTold) (f g : Folder) (x z : Option (List ℕ)) (m k : ℕ) (e : AimError) → (e ≡ aim.NoTarget → IsNothing p.stands place) →
    ((kind : BadImage) → e ≡ aim.BadDevice kind → IsBad p.stands place kind) → (e ≡ aim.Link → Rose p.faults q.faults) → EndsAstray place (outside p f x m) (outside q g z k) (aim_verdict e)
astray-why place p q f g x z m k aim.Memory n b l = tt
astray-why place p q f g x z m k (aim.BadDevice kind) n b l = b kind refl
astray-why place p q f g x z m k aim.Link n b l = inl (l refl)
astray-why place p q f g x z m k aim.NoTarget n b l = inr (n refl)

pub unaimed : (place : Place) (p q : PortTold) (f g : Folder) (x z : Option (List ℕ)) (m k status : ℕ) (r : Result (Unit {0}) AimError) (e : AimError) (v : Verdict) → r ≡ Err e → IsAstray p q place → Turns p q →
    (r ≡ Err aim.NoTarget → IsNothing p.stands place) → ((kind : BadImage) → r ≡ Err (aim.BadDevice kind) → IsBad p.stands place kind) → (r ≡ Err aim.Link → Rose p.faults q.faults) →
    v ≡ aim_verdict e → Shows v x z status → (status ≡ 9 → Rose m k) → Unaimed place (outside p f x m) (outside q g z k) status
unaimed place p q f g x z m k status r e v is a t n b l w s u = record {
  astray = a;
  turns = t;
  verdict = v;
  why = subst (EndsAstray place (outside p f x m) (outside q g z k)) (sym w)
      (astray-why place p q f g x z m k e (λ h. n (is ∙ ap Err h)) (λ kind h. b kind (is ∙ ap Err h)) (λ h. l (is ∙ ap Err h)));
  shows = s;
  unput = u;
}

-- The product was read, and the port wasn't aimed.
pub unaimed-call : (place : Place) (dir : List ℕ) (product : Product) (options : Options) (p q : PortTold) (f g : Folder) (x z : Option (List ℕ)) (m k status : ℕ) → IsEntered dir f g → OfFiles f.files (λ files. product_of files options.wipe ≡ Ok product) →
    Unaimed place (outside p f x m) (outside q g z k) status → Ends (Some (FlashAll place dir options)) (outside p f x m) (outside q g z k) status
unaimed-call place dir product options p q f g x z m k status e r u = inr (product, astray-ends place dir (order product options) p q f g x z m k status e r, inl u)

-- The product was read, the port was aimed, and an installation ran.
pub led-call : (place : Place) (dir : List ℕ) (product : Product) (options : Options) (p a q : PortTold) (f h g : Folder) (x z : Option (List ℕ)) (m k status : ℕ) → IsEntered dir f h → OfFiles f.files (λ files. product_of files options.wipe ≡ Ok product) →
    h.files ≡ f.files → f.faults ≤ h.faults → IsAimed p a place → Turns p a → HasRun (order product options) (outside a h x m) (outside q g z k) status →
    Ends (Some (FlashAll place dir options)) (outside p f x m) (outside q g z k) status
led-call place dir product options p a q f h g x z m k status e r s l i t n =
    inr (
      product,
      record { here = e.here; read = r; entered = subst IsTrue (sym n.drives.folder.entered) e.entered },
      inr
          (run-ends place (order product options) (outside p f x m) (outside q g z k) status
          (record {
            port = a;
            aimed = i;
            turns = t;
            folder = h;
            files = s;
            later = l;
            course = n.course;
            mid = n.mid;
            put = n.put;
            drives = n.drives;
            shows = n.shows;
            shown_later = n.shown_later;
            failed = n.failed;
          })),
    )

pub lasts-led : (p a q : PortTold) (f h g : Folder) (x z : Option (List ℕ)) (m k status : ℕ) (o : Order) → h.path ≡ f.path → h.files ≡ f.files → f.faults ≤ h.faults → Turns p a →
    HasRun o (outside a h x m) (outside q g z k) status → Lasts (outside p f x m) (outside q g z k)
lasts-led p a q f h g x z m k status o e s l t n =
    lasts-kept p a q f g x n.mid z m n.put k (verdict_of n.course.outcome) status (n.drives.folder.path ∙ e) (n.drives.folder.files ∙ s) (le-then f.faults h.faults g.faults l n.drives.folder.later)
    t n.drives.kept n.drives.grows n.shows n.drives.shown_later n.shown_later

-- Why a question ended is why the call did.
question-why : (name : List ℕ) (answer : Result Told DriveError) (p a q : PortTold) (f : Folder) (x z : Option (List ℕ)) (m k : ℕ) → Turns p a → (a.peer ≡ None → q.peer ≡ None) → (answer ≡ Err stop.Output → Rose m k) →
    WhyAnswered a q answer → WhyAsked (outside p f x m) (outside q f z k) (answer_verdict answer)
question-why name (Ok (Ok text)) p a q f x z m k t n o w = w
question-why name (Ok (Err text)) p a q f x z m k t n o w = w
question-why name (Err stop.Memory) p a q f x z m k t n o w = absurd w.0
question-why name (Err (stop.Directory file)) p a q f x z m k t n o w = absurd w.0
question-why name (Err stop.Output) p a q f x z m k t n o w = o refl
question-why name (Err stop.Link) p a q f x z m k t n o w = inl (rose-in p.faults a.faults q.faults q.faults t.later (same-le q.faults) w.0)
question-why name (Err stop.Ended) p a q f x z m k t n o w = inr (n w.0.0, subst (λ e. Rose e q.ends) t.ends w.0.1)
question-why name (Err (stop.Refused text)) p a q f x z m k t n o w = absurd w.1
question-why name (Err (stop.Peer kept)) p a q f x z m k t n o w = (n w.0, w.2)
question-why name (Err stop.TooManyInfos) p a q f x z m k t n o w = (n w.0, w.2)
question-why name (Err (stop.Requirement line word value)) p a q f x z m k t n o w = absurd w.0
question-why name (Err (stop.Plan line kind)) p a q f x z m k t n o w = absurd w.0

-- Nothing is told of a question only where the output failed.
question-output : (answer : Result Told DriveError) (m k status : ℕ) → (answer ≡ Err stop.Output → Rose m k) → (IsTrue (is_some (answer_verdict answer)) → status ≡ 9 → Rose m k) → status ≡ 9 → Rose m k
question-output (Ok (Ok text)) m k status o s e = s refl e
question-output (Ok (Err text)) m k status o s e = s refl e
question-output (Err stop.Memory) m k status o s e = s refl e
question-output (Err (stop.Directory file)) m k status o s e = s refl e
question-output (Err stop.Output) m k status o s e = o refl
question-output (Err stop.Link) m k status o s e = s refl e
question-output (Err stop.Ended) m k status o s e = s refl e
question-output (Err (stop.Refused text)) m k status o s e = s refl e
question-output (Err (stop.Peer kept)) m k status o s e = s refl e
question-output (Err stop.TooManyInfos) m k status o s e = s refl e
question-output (Err (stop.Requirement line word value)) m k status o s e = s refl e
question-output (Err (stop.Plan line kind)) m k status o s e = s refl e

module _ (place : Place) (name : List ℕ) (p a q : PortTold) (f : Folder) (x z : Option (List ℕ)) (m k status : ℕ) (i : IsAimed p a place) (t : Turns p a) (h : HasAsked name (outside a f x m) (outside q f z k) status) where
  output-rose : h.answer ≡ Err stop.Output → Rose m k
  output-rose e = rose-in m m h.put k (same-le m) h.shown_later (h.unput e)

  last-rose : IsTrue (is_some (answer_verdict h.answer)) → status ≡ 9 → Rose m k
  last-rose s e = rose-in m h.put k k h.earlier (same-le k) (h.failed s e)

  -- The port was aimed, and a question was asked.
  pub questioned : Questioned place name (outside p f x m) (outside q f z k) status
  questioned = record {
    verdict = answer_verdict h.answer;
    mid = h.mid;
    grows = h.answered.grows;
    turned = turned-by place (outside p f x m) (outside q f z k) a i h.answered.kept h.answered.down;
    why = question-why name h.answer p a q f x z m k t
        (untold-still (λ s u. (u ≡ s) × Answers s name (answer_verdict h.answer) x h.mid) a.peer q.peer h.answered.told) output-rose h.answered.why;
    device = aimed-on {R = λ s u. (u ≡ s) × Answers s name (answer_verdict h.answer) x h.mid} {Q = λ s u. (u ≡ s) × Answers s name (answer_verdict h.answer) x h.mid} p a q place (λ s u r. r) i h.answered.told;
    shows = h.shows;
    unput = question-output h.answer m k status output-rose last-rose;
  }

  pub lasts-asked : Lasts (outside p f x m) (outside q f z k)
  lasts-asked = lasts-kept p a q f f x h.mid z m h.put k (answer_verdict h.answer) status refl refl (same-le f.faults) t h.answered.kept h.answered.grows h.shows h.earlier h.shown_later

-- The words ask for nothing, or there was no memory to read them.
pub words-end : (request : Option Request) (e : WordsError) (v : Verdict) (p : PortTold) (f : Folder) (x z : Option (List ℕ)) (m k status : ℕ) → (e ≡ words.Usage → request ≡ None) → v ≡ words_verdict e →
    Shows v x z status → (status ≡ 9 → Rose m k) → Ends request (outside p f x m) (outside p f z k) status
words-end request words.Usage v p f x z m k status n w s u =
    subst (λ r. Ends r (outside p f x m) (outside p f z k) status) (sym (n refl))
    (record { same = same-port p; verdict = Usage; why = tt; shows = subst (λ y. Shows y x z status) w s; unput = u })
words-end None words.Memory v p f x z m k status n w s u = record { same = same-port p; verdict = NoMemory; why = tt; shows = subst (λ y. Shows y x z status) w s; unput = u }
words-end (Some (FlashAll place dir options)) words.Memory v p f x z m k status n w s u =
    inl (record { same = same-port p; verdict = NoMemory; why = tt; shows = subst (λ y. Shows y x z status) w s; unput = u })
words-end (Some (GetVar place name)) words.Memory v p f x z m k status n w s u =
    inl (record { same = same-port p; verdict = NoMemory; why = tt; shows = subst (λ y. Shows y x z status) w s; unput = u })
words-end (Some (Sample number)) words.Memory v p f x z m k status n w s u = record { same = same-port p; verdict = NoMemory; why = tt; shows = subst (λ y. Shows y x z status) w s; unput = u }
