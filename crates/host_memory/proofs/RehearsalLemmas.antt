-- What fbflash's call over a port in memory comes to, told of the images.
use Rattle.std.proofs.Common.{◌≡◌, ◌⊎◌, inl, inr, ℕ, suc, ◌+◌, ◌≤◌, Bool, Option, Some, None, List, [], ◌∷◌, ◌++◌, length, map, IsTrue, refl, sym, ap, ◌∙◌, subst, zero-add}
use Rattle.std.specs.Prelude.{Result, Ok, Err, not}
use Rattle.std.proofs.lemmas.Slice.Eq.{bytes_eq-Decides}
use Rattle.fb_frame.specs.Sinks.{Grew}
use Rattle.fb_frame.proofs.SinkLemmas.{Grew-append}
use Rattle.dev_disk.specs.declared.memory.MemoryDisk.{MemoryDisk}
use Rattle.dev_disk.specs.Files.{Files as Images}
use Rattle.dev_disk.specs.Memory.{memory_told, memory_files, memory_faults}
use Rattle.dev_model.specs.declared.device.Dev.{Dev}
use Rattle.dev_model.specs.declared.step.Step.{Step}
use Rattle.dev_store.specs.Faults.{unchanged_is_honest}
use Rattle.wire_told.specs.Peers.{Peer, device_of}
use Rattle.wire_told.specs.Places.{Place, ImageAt, TcpAt, Stand, Device, Bad, Nothing}
use Rattle.flash_plan.specs.declared.options.Options.{Options}
use Rattle.flash_plan.specs.declared.product.Product.{Product}
use Rattle.flash_plan.specs.Files.{Files}
use Rattle.flash_plan.specs.Products.{Fault, product_of}
use Rattle.host_driver.specs.declared.drive.Done.{Done as DoneSo}
use Rattle.host_driver.specs.declared.drive.DriveError.{DriveError}
use Rattle.host_driver.specs.declared.drive.DriveError.TheVariants as stop
use Rattle.host_driver.specs.Driven.{made}
use Rattle.host_driver.specs.Driving.{Caused, Drove, MayRetry, moved, LinkFailed}
use Rattle.host_driver.specs.Jobs.{Outside, outside, Folder, folder, Job, job, order, Has, last_in}
use Rattle.host_driver.specs.Printing.{Attempt, PrintsBy, EndsBy, is_answered, steps_in, text_of, lines_of}
use Rattle.host_words.specs.Requests.{Request, FlashAll, GetVar, Sample}
use Rattle.host_top.specs.Completing.{IsJobOf, IsQuiet, CompletesBy}
use Rattle.host_top.specs.Ending.{EndsInFolder, EndsAstray, EndsOpened, IsTurned, IsOpened, Led, LedOver, OnAimed, Shows, ShowsLast, Unused, with_text}
use Rattle.host_top.specs.Hosted.{Hosted, Leaves, LeftBehind, OfProduct, OfStand, OnFolder}
use Rattle.host_top.specs.Subjects.{KeepsBeside}
use Rattle.host_top.specs.Verdicts.{Verdict, Done, NoMemory, NoFolder, Flawed, NoLink, Unmet, Refusing, NoPeer, TooManyLines, NoPlan, NoDevice, last_line, status_of, verdict_of}
use Rattle.pair_port.specs.Counters.{Counters, new_counters}
use Rattle.pair_port.specs.Pairs.{Pair, disk_of, stand_in, pair_told}
use Rattle.pair_port.specs.Stood.{HoldsDevice, IsStand, StandsBy, stand_at}
use Rattle.host_memory.specs.Rehearsals.{Scene, scene, IsInstalled, IsLeft, IsSameAt, IsKept, LeavesImage, KeepsImages, counts, went, IsUndisturbed, CompletesAt, OfFlash}
use Rattle.host_memory.proofs.StandLemmas.{runs-at}

pub some-inj : {X : Type 0} (a b : X) → Some a ≡ Some b → a ≡ b
some-inj a b e = cc

pub both-at : {X : Type 0} (P : X → X → Type 0) (a b x y : X) → a ≡ b → x ≡ y → P a x → P b y
both-at P a b x y e f h = subst (λ z. P z y) e (subst (λ z. P a z) f h)

-- the count of a new port's faults is its disk's, and that of a port is the number of its breaks and its disk's
pub faults-from : (p : Pair MemoryDisk) (sizes : List ℕ) (breaks : List (Option ℕ)) (disk : MemoryDisk) → p.counters ≡ new_counters sizes breaks → disk_of p.end ≡ disk →
    p.counters.broken + memory_faults (disk_of p.end) ≡ memory_faults disk
faults-from p sizes breaks disk c e =
    subst (λ (k : Counters). k.broken + memory_faults (disk_of p.end) ≡ memory_faults disk) (sym c) (zero-add (memory_faults (disk_of p.end)) ∙ ap (λ (d : MemoryDisk). memory_faults d) e)

pub faults-to : (q : Pair MemoryDisk) (n : ℕ) (disk : MemoryDisk) → n ≡ q.counters.broken → disk_of q.end ≡ disk →
    q.counters.broken + memory_faults (disk_of q.end) ≡ n + memory_faults disk
faults-to q n disk c e =
    ap (λ (k : ℕ). k + memory_faults (disk_of q.end)) (sym c) ∙ ap (λ (d : MemoryDisk). n + memory_faults d) e

length-steps : (attempts : List Attempt) → length (map steps_in attempts) ≡ length attempts
length-steps [] = refl
length-steps (a ∷ attempts) = ap (λ n. suc n) (length-steps attempts)

-- a status that tells another end isn't 0
never : (v : Verdict) (a b : Option (List ℕ)) (k status : ℕ) → status_of v ≡ suc k → Shows v a b status → status ≡ 0 → ⊥
never v a b k status e (inl p) z = zero-not k (sym z ∙ (p.0 ∙ e))
  where
    zero-not : (n : ℕ) → 0 ≡ suc n → ⊥
    zero-not n q = absurd cc
never v a b k status e (inr p) z = zero-not 8 (sym z ∙ p.0)
  where
    zero-not : (n : ℕ) → 0 ≡ suc n → ⊥
    zero-not n q = absurd cc

-- an installation that ends with 0 is done
abbrev IsDone : Result DoneSo DriveError → Type 0
IsDone outcome = (done : DoneSo) × (outcome ≡ Ok done)

done-by : (outcome : Result DoneSo DriveError) (a b : Option (List ℕ)) (status : ℕ) → ShowsLast (verdict_of outcome) a b status → status ≡ 0 → IsDone outcome
done-by (Ok done) a b status s z = (done, refl)
done-by (Err stop.Memory) a b status s z = absurd (never NoMemory a b 1 status refl s z)
done-by (Err (stop.Directory file)) a b status s z = absurd (never (NoFolder file) a b 2 status refl s z)
done-by (Err stop.Output) a b status s z = let e = sym z ∙ s.0 in absurd cc
done-by (Err stop.Link) a b status s z = absurd (never NoLink a b 5 status refl s z)
done-by (Err stop.Ended) a b status s z = absurd (never NoLink a b 5 status refl s z)
done-by (Err (stop.Refused text)) a b status s z = absurd (never (Refusing text) a b 6 status refl s z)
done-by (Err (stop.Peer kept)) a b status s z = absurd (never (NoPeer kept) a b 7 status refl s z)
done-by (Err stop.TooManyInfos) a b status s z = absurd (never TooManyLines a b 7 status refl s z)
done-by (Err (stop.Requirement line name value)) a b status s z = absurd (never (Unmet line name value) a b 4 status refl s z)
done-by (Err (stop.Plan line kind)) a b status s z = absurd (never (NoPlan line kind) a b 9 status refl s z)

shown-done : (done : DoneSo) (a b : Option (List ℕ)) (status : ℕ) → Shows (Done done.steps) a b status → status ≡ 0 → Grew a b (last_line (Done done.steps))
shown-done done a b status (inl p) z = p.1
shown-done done a b status (inr p) z = let e = sym z ∙ p.0 in absurd cc

-- the ends without an installation have other statuses
folder-not : (dir : List ℕ) (wipe : Bool) (old new : Outside) (v : Verdict) (a b : Option (List ℕ)) (status : ℕ) → EndsInFolder dir wipe old new v → Shows v a b status → status ≡ 0 → ⊥
folder-not dir wipe old new NoMemory a b status w s z = never NoMemory a b 1 status refl s z
folder-not dir wipe old new (NoFolder name) a b status w s z = never (NoFolder name) a b 2 status refl s z
folder-not dir wipe old new (Flawed file flaw) a b status w s z = never (Flawed file flaw) a b 3 status refl s z
folder-not dir wipe old new _ a b status w s z = absurd w

astray-not : (place : Place) (old new : Outside) (v : Verdict) (a b : Option (List ℕ)) (status : ℕ) → EndsAstray place old new v → Shows v a b status → status ≡ 0 → ⊥
astray-not place old new NoMemory a b status w s z = never NoMemory a b 1 status refl s z
astray-not place old new NoLink a b status w s z = never NoLink a b 5 status refl s z
astray-not place old new (NoDevice kind) a b status w s z = never (NoDevice kind) a b 10 status refl s z
astray-not place old new _ a b status w s z = absurd w

-- A call over a port p that became q, with a folder and an output.
module _ (p q : Pair MemoryDisk) (at : List ℕ) (files : Files) (entered : Bool) (faults : ℕ) (later : Folder) (text now : Option (List ℕ)) (unput more : ℕ) (holds : HoldsDevice (pair_told memory_told q)) where
  abbrev before : Images
  before = memory_files (disk_of p.end)

  abbrev after : Images
  after = memory_files (disk_of q.end)

  abbrev old : Outside
  old = outside (pair_told memory_told p) (folder (Some at) (Some files) entered faults) text unput

  abbrev new : Outside
  new = outside (pair_told memory_told q) later now more

  abbrev seen : Scene
  seen = scene files before after text now

  same-at : (path : List ℕ) → new.port.stands ≡ old.port.stands → IsSameAt path before after
  same-at path e = some-inj (stand_in (after path)) (stand_in (before path)) (ap (λ s. s (ImageAt path)) e)

  -- the image of the port's target stands for the device that the port tells
  stood-by : (path : List ℕ) (b : Peer) → IsTurned (ImageAt path) old new → new.port.peer ≡ Some b → IsStand (stand_in (after path)) (device_of b)
  stood-by path b turned e =
      subst (λ peer. StandsBy (Some (stand_in (after path))) peer) e
      (subst (λ last. StandsBy (stand_at new.port.stands last) new.port.peer) turned.last holds)

  module _ (path : List ℕ) where
    module _ (turned : IsTurned (ImageAt path) old new) where
      from-still : (x : Stand) (y : Option Peer) → stand_in (before path) ≡ x → new.port.peer ≡ y → OfStand (Some x) y (λ s t. t ≡ s) → IsKept path before after
      from-still (Device s) (Some b) ex ey r = record { device = s; stood = ex; stands = subst (λ d. IsStand (stand_in (after path)) d) r (stood-by path b turned ey) }
      from-still (Device s) None ex ey r = absurd r
      from-still (Bad kind) y ex ey r = absurd r
      from-still Nothing y ex ey r = absurd r

    question-left : (name : List ℕ) (status : ℕ) → Leaves (Some (GetVar (ImageAt path) name)) old new status → IsSameAt path before after ⊎ IsKept path before after
    question-left name status (inl same) = inl (same-at path same.stands)
    question-left name status (inr (inl astray)) = inl (same-at path (astray.stands unchanged_is_honest))
    question-left name status (inr (inr (turned, l))) = inr (from-still turned (stand_in (before path)) new.port.peer refl refl l)

  module _ (path dir : List ℕ) (options : Options) (status : ℕ) where
    module _ (product : Product) (opened : IsOpened dir (order product options) old new) (l : Led (ImageAt path) (order product options) old new status) (z : status ≡ 0) (done : DoneSo) (ended : l.course.outcome ≡ Ok done) where
      abbrev Drives : Job → Dev → Type 0
      Drives j t = Drove j old (with_text l.mid new) l.course t

      from-drove : (s : Dev) (b : Peer) → stand_in (before path) ≡ Device s → new.port.peer ≡ Some b → Drives (job (order product options) files s) (device_of b) → IsInstalled path options seen
      from-drove s b stood peer d =
          let j = job (order product options) files s in
          let c : Caused j (moved old new) l.course.numbers (device_of b) (Ok done) =
          subst (λ x. Caused j (moved old new) l.course.numbers (device_of b) x) ended d.caused in
          let t : PrintsBy (lines_of j) (MayRetry j (moved old (with_text l.mid new)) (device_of b)) d.prints.attempts (record l.course { outcome = Ok done }) (Grew text l.mid) =
          subst (λ x. PrintsBy (lines_of j) (MayRetry j (moved old (with_text l.mid new)) (device_of b)) d.prints.attempts (record l.course { outcome = x }) (Grew text l.mid)) ended d.prints.text in
          let e : EndsBy (Ok done) (last_in d.prints.attempts) = subst (λ x. EndsBy x (last_in d.prints.attempts)) ended d.prints.ends in
          let g = shown-done done l.mid now status (subst (λ x. ShowsLast (verdict_of x) l.mid now status) ended l.shows) z in
          record {
            j = j;
            is_job = record { files = refl; read = opened.read; asked = refl; stood = stood };
            plan = c.plan;
            made_so = c.made_so;
            final = device_of b;
            runs = c.runs;
            stands = stood-by path b l.turned peer;
            reported = record {
              attempts = d.prints.attempts;
              ordered = d.prints.ordered;
              few = subst (λ n. n ≤ options.retries + 1) (ap length t.0 ∙ length-steps d.prints.attempts) l.few;
              last = subst (λ n. Has (last_in d.prints.attempts) (λ a. IsTrue (is_answered a) × (steps_in a ≡ n))) c.count e;
              text = subst (λ n. Grew text now (text_of (lines_of j) d.prints.attempts ++ last_line (Done n))) c.count
                  (Grew-append text l.mid now (text_of (lines_of j) d.prints.attempts) (last_line (Done done.steps)) t.1 g);
            };
          }

      from-aimed : (x : Stand) (y : Option Peer) → stand_in (before path) ≡ x → new.port.peer ≡ y → OnAimed (Some x) y (LedOver (order product options) old (with_text l.mid new) l.course) → IsInstalled path options seen
      from-aimed (Device s) (Some b) ex ey r = from-drove s b ex ey r.1.1
      from-aimed (Device s) None ex ey r = absurd r
      from-aimed (Bad kind) y ex ey r = absurd r
      from-aimed Nothing y ex ey r = absurd r

    pub from-end : (Unused (Some (FlashAll (ImageAt path) dir options)) old new status ⊎ EndsOpened (ImageAt path) dir options old new status) → status ≡ 0 → IsInstalled path options seen
    from-end (inl u) z = absurd (folder-not dir options.wipe old new u.verdict text now status u.why u.shows z)
    from-end (inr (product, opened, inl u)) z = absurd (astray-not (ImageAt path) old new u.verdict text now status u.why u.shows z)
    from-end (inr (product, opened, inr l)) z =
        let d = done-by l.course.outcome l.mid now status l.shows z in
        from-aimed product opened l z d.0 d.1 (stand_in (before path)) new.port.peer refl refl l.device

    -- what is left where it wasn't whole
    module _ (turned : IsTurned (ImageAt path) old new) where
      from-left : (s : Dev) (b : Peer) (product : Product) → stand_in (before path) ≡ Device s → new.port.peer ≡ Some b → product_of files options.wipe ≡ Ok product → LeftBehind old new status (job (order product options) files s) (device_of b) → IsLeft path options seen
      from-left s b product stood peer read l = record {
        j = job (order product options) files s;
        is_job = record { files = refl; read = read; asked = refl; stood = stood };
        numbers = map steps_in l.attempts;
        few = subst (λ n. n ≤ options.retries + 1) (sym (length-steps l.attempts)) l.few;
        final = device_of b;
        left = l.left;
        stands = stood-by path b turned peer;
      }

      from-product : (s : Dev) (b : Peer) (r : Result Product Fault) → stand_in (before path) ≡ Device s → new.port.peer ≡ Some b → product_of files options.wipe ≡ r →
          OfProduct r (λ product. LeftBehind old new status (job (order product options) files s) (device_of b)) → IsLeft path options seen
      from-product s b (Ok product) stood peer read l = from-left s b product stood peer read l
      from-product s b (Err fault) stood peer read l = absurd l

      from-stand : (x : Stand) (y : Option Peer) → stand_in (before path) ≡ x → new.port.peer ≡ y →
          OfStand (Some x) y (λ s t. OnFolder (Some files) options (λ f product. LeftBehind old new status (job (order product options) f s) t)) → IsLeft path options seen
      from-stand (Device s) (Some b) ex ey r = from-product s b (product_of files options.wipe) ex ey refl r
      from-stand (Device s) None ex ey r = absurd r
      from-stand (Bad kind) y ex ey r = absurd r
      from-stand Nothing y ex ey r = absurd r

    flash-left : Leaves (Some (FlashAll (ImageAt path) dir options)) old new status → IsSameAt path before after ⊎ IsLeft path options seen
    flash-left (inl same) = inl (same-at path same.stands)
    flash-left (inr (inl astray)) = inl (same-at path (astray.stands unchanged_is_honest))
    flash-left (inr (inr (turned, l))) = inr (from-stand turned (stand_in (before path)) new.port.peer refl refl l)

    -- a call in which nothing failed
    completes : (from to : ℕ) → old.port.faults ≡ from → new.port.faults ≡ to → at ≡ dir → ((IsQuiet old new) → (j : Job) (plan : List Step) → IsJobOf (ImageAt path) dir options old j → made j ≡ Some plan → CompletesBy j plan status) →
        IsUndisturbed (went (counts from faults unput) (counts to later.faults more)) → CompletesAt path options seen status
    completes from to ef et here c u j plan at_job made_so = c
        (record {
          folder = u.folder;
          link = λ r. u.link (subst (λ n. LinkFailed (went (counts n faults unput) (counts to later.faults more))) ef
              (subst (λ n. LinkFailed (went (counts old.port.faults faults unput) (counts n later.faults more))) et r));
          output = u.output;
        })
        j plan
        (record {
          here = ap not ((bytes_eq-Decides at dir).1 here);
          files = ap Some at_job.files;
          read = at_job.read;
          asked = at_job.asked;
          stands = ap Some at_job.stood;
          serves = runs-at (before path) j.device at_job.stood;
        })
        made_so

  pub leaves-image : (request : Option Request) (status : ℕ) → Leaves request old new status → LeavesImage request seen
  leaves-image None status l = tt
  leaves-image (Some (FlashAll (ImageAt path) dir options)) status l = flash-left path dir options status l
  leaves-image (Some (FlashAll (TcpAt host port) dir options)) status l = tt
  leaves-image (Some (GetVar (ImageAt path) name)) status l = question-left path name status l
  leaves-image (Some (GetVar (TcpAt host port) name)) status l = tt
  leaves-image (Some (Sample n)) status l = tt

  pub keeps-images : (target : Option Place) → KeepsBeside target old.port.stands new.port.stands → KeepsImages target before after
  keeps-images None k = λ path other. same-at path k
  keeps-images (Some place) k = λ path other. some-inj (stand_in (after path)) (stand_in (before path)) (k (ImageAt path) other)

  -- by the whole of what a call comes to
  pub installs : (request : Option Request) (status : ℕ) → Hosted request old new status → OfFlash request (λ path dir options. status ≡ 0 → IsInstalled path options seen)
  installs None status h = tt
  installs (Some (FlashAll (ImageAt path) dir options)) status h = from-end path dir options status h.ends
  installs (Some (FlashAll (TcpAt host port) dir options)) status h = tt
  installs (Some (GetVar place name)) status h = tt
  installs (Some (Sample n)) status h = tt

  pub completes-by : (request : Option Request) (status from to : ℕ) → Hosted request old new status → old.port.faults ≡ from → new.port.faults ≡ to →
      OfFlash request (λ path dir options. dir ≡ at → IsUndisturbed (went (counts from faults unput) (counts to later.faults more)) → CompletesAt path options seen status)
  completes-by None status from to h ef et = tt
  completes-by (Some (FlashAll (ImageAt path) dir options)) status from to h ef et = λ here. completes path dir options status from to ef et (sym here) h.completed
  completes-by (Some (FlashAll (TcpAt host port) dir options)) status from to h ef et = tt
  completes-by (Some (GetVar place name)) status from to h ef et = tt
  completes-by (Some (Sample n)) status from to h ef et = tt
