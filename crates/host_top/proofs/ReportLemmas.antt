-- The end of a call gives what its status reports.
use Rattle.std.proofs.Common.{◌≡◌, ◌⊎◌, inl, inr, ℕ, Bool, true, false, Option, Some, None, List, [], refl, sym, subst}
use Rattle.std.specs.Prelude.{Result, Err, MatchBool, if◌then◌else◌}
use Rattle.dev_model.specs.declared.bad_image.BadImage.{BadImage}
use Rattle.dev_model.specs.declared.device.Dev.{Dev}
use Rattle.wire_told.specs.Peers.{Peer, device_of}
use Rattle.wire_told.specs.Places.{Place, ImageAt, TcpAt, Stand, Stands, Device, Bad, Nothing, IsBad, IsBadBy}
use Rattle.flash_plan.specs.declared.options.Options.{Options}
use Rattle.flash_plan.specs.declared.product.Product.{Product}
use Rattle.flash_plan.specs.Files.{Files}
use Rattle.flash_plan.specs.Products.{Fault, product_of, OfFiles}
use Rattle.host_driver.specs.Driving.{moved, LinkFailed, FolderFailed}
use Rattle.host_driver.specs.Jobs.{Outside}
use Rattle.host_words.specs.Requests.{Request, FlashAll, GetVar, Sample}
use Rattle.host_top.specs.Ending.{IsMet, OnAimed, Shows, IsUnread, IsUnentered, EndsInFolder, EndsInWords, EndsUnasked, EndsEarly, Unused, EndsAstray, Unaimed}
use Rattle.host_top.specs.Hosted.{Excused, ReportsBy, Reports}
use Rattle.host_top.specs.Outcomes.{Outcome, ending, status_of_outcome, target_outcome, found_outcome, files_outcome}
use Rattle.host_top.specs.Subjects.{is_elsewhere}
use Rattle.host_top.specs.Verdicts.{Verdict, Usage, NoMemory, NoFolder, Flawed, NoLink, NoDevice, Unmet, NoPlan, Refusing, NoPeer, TooManyLines, Done, Told, status_of}

-- an excuse goes with every outcome
pub excuse : (o : Option Outcome) (request : Option Request) (old new : Outside) (status : ℕ) → Excused request old new status → ReportsBy o request old new status
excuse None request old new status e = tt
excuse (Some outcome) request old new status e = inr e

-- the outcome where the folder is that of the words, or another
pub here-by : (b : Bool) (x y : Option Outcome) (request : Option Request) (old new : Outside) (status : ℕ) → b ≡ false → ReportsBy y request old new status → ReportsBy (if b then x else y) request old new status
here-by true x y request old new status e r = absurd cc
here-by false x y request old new status e r = r

away-by : (b : Bool) (x y : Option Outcome) (request : Option Request) (old new : Outside) (status : ℕ) → b ≡ true → ReportsBy x request old new status → ReportsBy (if b then x else y) request old new status
away-by true x y request old new status e r = r
away-by false x y request old new status e r = absurd cc

-- the outcome of a product that was read, or of its flaw
pub files-by : (files : Option Files) (options : Options) (stand : Option Stand) (found : Result Product Fault) (request : Option Request) (old new : Outside) (status : ℕ) → OfFiles files (λ f. product_of f options.wipe ≡ found) →
    ((f : Files) → files ≡ Some f → ReportsBy (found_outcome f options found stand) request old new status) → ReportsBy (files_outcome options files stand) request old new status
files-by None options stand found request old new status e r = tt
files-by (Some f) options stand found request old new status e r = subst (λ p. ReportsBy (found_outcome f options p stand) request old new status) (sym e) (r f refl)

-- A port that wasn't used.
module _ (place : Place) (dir : List ℕ) (options : Options) (old new : Outside) (status : ℕ) where
  abbrev Installing : Option Request
  Installing = Some (FlashAll place dir options)

  unread-reports : (entered : Bool) (name : List ℕ) → MatchBool entered (IsUnread dir options.wipe old new name) (IsUnentered dir old new name) → status ≡ 3 → Reports Installing old new status
  unread-reports true name u e = excuse _ Installing old new status (inr (inr (inr (inl (e, u.failed)))))
  unread-reports false name u e = by u.why
    where
      by : FolderFailed (moved old new) ⊎ (is_elsewhere dir old.folder.path ≡ true) → Reports Installing old new status
      by (inl f) = excuse _ Installing old new status (inr (inr (inr (inl (e, f)))))
      by (inr a) = away-by (is_elsewhere dir old.folder.path) (Some (ending [] (NoFolder dir))) (files_outcome options old.folder.files (old.port.stands place)) Installing old new status a (inl e)

  folder-reports : (v : Verdict) → EndsInFolder dir options.wipe old new v → status ≡ status_of v → Reports Installing old new status
  folder-reports NoMemory w e = excuse _ Installing old new status (inl e)
  folder-reports (NoFolder name) w e = unread-reports new.folder.entered name w e
  folder-reports (Flawed file flaw) w e =
      here-by (is_elsewhere dir old.folder.path) (Some (ending [] (NoFolder dir))) (files_outcome options old.folder.files (old.port.stands place)) Installing old new status w.here
      (files-by old.folder.files options (old.port.stands place) (Err (file, flaw)) Installing old new status w.first (λ f g. inl e))
  folder-reports (Done steps) w e = absurd w
  folder-reports (Told text) w e = absurd w
  folder-reports Usage w e = absurd w
  folder-reports (Unmet line word value) w e = absurd w
  folder-reports NoLink w e = absurd w
  folder-reports (Refusing text) w e = absurd w
  folder-reports (NoPeer kept) w e = absurd w
  folder-reports TooManyLines w e = absurd w
  folder-reports (NoPlan line kind) w e = absurd w
  folder-reports (NoDevice kind) w e = absurd w

words-reports : (v : Verdict) (request : Option Request) (old new : Outside) (status : ℕ) → EndsInWords v → status ≡ status_of v → ReportsBy (Some (ending [] Usage)) request old new status
words-reports NoMemory request old new status w e = inr (inl e)
words-reports (NoFolder name) request old new status w e = absurd w
words-reports (Flawed file flaw) request old new status w e = absurd w
words-reports (Done steps) request old new status w e = absurd w
words-reports (Told text) request old new status w e = absurd w
words-reports Usage request old new status w e = inl e
words-reports (Unmet line word value) request old new status w e = absurd w
words-reports NoLink request old new status w e = absurd w
words-reports (Refusing text) request old new status w e = absurd w
words-reports (NoPeer kept) request old new status w e = absurd w
words-reports TooManyLines request old new status w e = absurd w
words-reports (NoPlan line kind) request old new status w e = absurd w
words-reports (NoDevice kind) request old new status w e = absurd w

unasked-reports : (v : Verdict) (o : Option Outcome) (request : Option Request) (old new : Outside) (status : ℕ) → EndsUnasked v → status ≡ status_of v → ReportsBy o request old new status
unasked-reports NoMemory o request old new status w e = excuse o request old new status (inl e)
unasked-reports (NoFolder name) o request old new status w e = absurd w
unasked-reports (Flawed file flaw) o request old new status w e = absurd w
unasked-reports (Done steps) o request old new status w e = absurd w
unasked-reports (Told text) o request old new status w e = absurd w
unasked-reports Usage o request old new status w e = absurd w
unasked-reports (Unmet line word value) o request old new status w e = absurd w
unasked-reports NoLink o request old new status w e = absurd w
unasked-reports (Refusing text) o request old new status w e = absurd w
unasked-reports (NoPeer kept) o request old new status w e = absurd w
unasked-reports TooManyLines o request old new status w e = absurd w
unasked-reports (NoPlan line kind) o request old new status w e = absurd w
unasked-reports (NoDevice kind) o request old new status w e = absurd w

early-reports : (request : Option Request) (old new : Outside) (status : ℕ) (v : Verdict) → EndsEarly request old new v → status ≡ status_of v → Reports request old new status
early-reports None old new status v w e = words-reports v None old new status w e
early-reports (Some (FlashAll place dir options)) old new status v w e = folder-reports place dir options old new status v w e
early-reports (Some (GetVar place name)) old new status v w e = unasked-reports v _ (Some (GetVar place name)) old new status w e
early-reports (Some (Sample n)) old new status v w e = words-reports v (Some (Sample n)) old new status w e

pub unused-reports : (request : Option Request) (old new : Outside) (status : ℕ) → Unused request old new status → Reports request old new status
unused-reports request old new status u = by u.shows
  where
    by : Shows u.verdict old.text new.text status → Reports request old new status
    by (inl s) = early-reports request old new status u.verdict u.why s.0
    by (inr s) = excuse _ request old new status (inr (inr (inl (s.0, u.unput s.0))))

-- A port that wasn't aimed.
bad-by : (stands : Stands) (place : Place) (kind : BadImage) → IsBad stands place kind → IsBadBy (stands place) kind
bad-by stands (ImageAt path) kind b = b
bad-by stands (TcpAt host port) kind b = absurd b

module _ (request : Option Request) (on : Dev → Outcome) (old new : Outside) (status : ℕ) where
  nothing-by : (stand place : Option Stand) → place ≡ stand → place ≡ Some Nothing → status ≡ 6 → ReportsBy (target_outcome on stand) request old new status
  nothing-by None place s n e = tt
  nothing-by (Some Nothing) place s n e = inl e
  nothing-by (Some (Bad kind)) place s n e = absurd cc
  nothing-by (Some (Device dev)) place s n e = absurd cc

  link-by : (stand place : Option Stand) → place ≡ stand → LinkFailed (moved old new) ⊎ (place ≡ Some Nothing) → status ≡ 6 → ReportsBy (target_outcome on stand) request old new status
  link-by stand place s (inl f) e = excuse _ request old new status (inr (inl (e, f)))
  link-by stand place s (inr n) e = nothing-by stand place s n e

  image-by : (stand : Option Stand) (kind : BadImage) → IsBadBy stand kind → status ≡ 11 → ReportsBy (target_outcome on stand) request old new status
  image-by None kind b e = tt
  image-by (Some stand) kind b e = subst (λ s. ReportsBy (target_outcome on (Some s)) request old new status) (sym b) (inl e)

  astray-by : (place : Place) (v : Verdict) → EndsAstray place old new v → status ≡ status_of v → ReportsBy (target_outcome on (old.port.stands place)) request old new status
  astray-by place NoMemory w e = excuse _ request old new status (inl e)
  astray-by place NoLink w e = link-by (old.port.stands place) (old.port.stands place) refl w e
  astray-by place (NoDevice kind) w e = image-by (old.port.stands place) kind (bad-by old.port.stands place kind w) e
  astray-by place (NoFolder name) w e = absurd w
  astray-by place (Flawed file flaw) w e = absurd w
  astray-by place (Done steps) w e = absurd w
  astray-by place (Told text) w e = absurd w
  astray-by place Usage w e = absurd w
  astray-by place (Unmet line word value) w e = absurd w
  astray-by place (Refusing text) w e = absurd w
  astray-by place (NoPeer kept) w e = absurd w
  astray-by place TooManyLines w e = absurd w
  astray-by place (NoPlan line kind) w e = absurd w

  pub unaimed-reports : (place : Place) → Unaimed place old new status → ReportsBy (target_outcome on (old.port.stands place)) request old new status
  unaimed-reports place u = by u.shows
    where
      by : Shows u.verdict old.text new.text status → ReportsBy (target_outcome on (old.port.stands place)) request old new status
      by (inl s) = astray-by place u.verdict u.why s.0
      by (inr s) = excuse _ request old new status (inr (inr (inl (s.0, u.unput s.0))))

-- what a told device gives, where the target is told to stand for it
pub aimed-by : (on : Dev → Outcome) (stand : Option Stand) (b : Option Peer) (R : Dev → Dev → Type 0) (request : Option Request) (old new : Outside) (status : ℕ) → OnAimed stand b R →
    ((s t : Dev) (p : Peer) → b ≡ Some p → t ≡ device_of p → IsMet s → R s t → (status ≡ status_of_outcome (on s)) ⊎ Excused request old new status) → ReportsBy (target_outcome on stand) request old new status
aimed-by on None b R request old new status a f = tt
aimed-by on (Some Nothing) b R request old new status a f = absurd a
aimed-by on (Some (Bad kind)) b R request old new status a f = absurd a
aimed-by on (Some (Device s)) None R request old new status a f = absurd a
aimed-by on (Some (Device s)) (Some p) R request old new status a f = f s (device_of p) p refl refl a.0 a.1
