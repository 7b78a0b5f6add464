-- What follows of a call that ends before the port is used, or whose port isn't aimed.
use Rattle.std.proofs.Common.{◌≡◌, ◌⊎◌, inl, inr, ℕ, false, Option, Some, None, List, refl, sym, ap, subst}
use Rattle.std.specs.Prelude.{IfSome, Bool, true, MatchBool}
use Rattle.dev_model.specs.declared.device.Mode.TheVariants.{Halted}
use Rattle.wire_told.specs.Peers.{Peer, device_of}
use Rattle.wire_told.specs.Places.{Place, IsNothing}
use Rattle.wire_told.specs.Ports.{PortTold}
use Rattle.flash_plan.specs.declared.options.Options.{Options}
use Rattle.host_driver.specs.Driving.{moved, LinkFailed, FolderFailed}
use Rattle.host_driver.specs.Jobs.{Outside}
use Rattle.host_words.specs.Requests.{Request, FlashAll, GetVar, Sample, target_of}
use Rattle.host_top.specs.Ending.{IsSamePort, Shows, EndsInFolder, EndsInWords, EndsUnasked, EndsEarly, Unused, EndsAstray, Unaimed, IsUnread, IsUnentered}
use Rattle.host_top.specs.Hosted.{Follows, Leaves, SpentBy, Spends, Strays}
use Rattle.host_top.specs.Subjects.{IsRefused, IsElsewhere, KeepsBeside}
use Rattle.host_top.specs.Verdicts.{Verdict, Usage, NoMemory, NoFolder, Flawed, NoLink, NoDevice, Unmet, NoPlan, Refusing, NoPeer, TooManyLines, Done, Told, status_of}
use Rattle.host_top.proofs.SaysLemmas.{Says, follows-from}

-- The port that wasn't used, and one that tells no device.
pub same-beside : (target : Option Place) (old new : PortTold) → IsSamePort old new → KeepsBeside target old.stands new.stands
same-beside None old new s = s.stands
same-beside (Some place) old new s = λ other n. ap (λ x. x other) s.stands

same-halts : (b : Option Peer) (old new : Outside) → IsSamePort old.port new.port → IfSome b (λ p. (device_of p).mode ≡ Halted → LinkFailed (moved old new) ⊎ IsSamePort old.port new.port)
same-halts None old new s = tt
same-halts (Some p) old new s = λ h. inr s

none-halts : (b : Option Peer) (old new : Outside) → b ≡ None → IfSome b (λ p. (device_of p).mode ≡ Halted → LinkFailed (moved old new) ⊎ IsSamePort old.port new.port)
none-halts None old new e = tt
none-halts (Some p) old new e = absurd cc

-- What the last line's status says, or 9.
pub shown-says : (P : ℕ → Type 0) (verdict : Verdict) (before now : Option (List ℕ)) (status : ℕ) → P (status_of verdict) → (status ≡ 9 → P 9) → Shows verdict before now status → P status
shown-says P verdict before now status p nine (inl s) = subst P (sym s.0) p
shown-says P verdict before now status p nine (inr s) = subst P (sym s.0) (nine s.0)

module _ (place : Place) (dir : List ℕ) (options : Options) (old new : Outside) where
  folder-why : (entered : Bool) (name : List ℕ) → new.folder.entered ≡ entered → MatchBool entered (IsUnread dir options.wipe old new name) (IsUnentered dir old new name) →
      FolderFailed (moved old new) ⊎ IsElsewhere (Some (FlashAll place dir options)) old.folder.path
  folder-why true name e u = inl u.failed
  folder-why false name e u = u.why

  folder-says : (v : Verdict) → IsSamePort old.port new.port → EndsInFolder dir options.wipe old new v → Says (Some (FlashAll place dir options)) old new (status_of v)
  folder-says NoMemory s e = tt
  folder-says (NoFolder name) s e = (folder-why new.folder.entered name refl e, λ f. s)
  folder-says (Flawed file flaw) s e = s
  folder-says (Done steps) s e = absurd e
  folder-says (Told text) s e = absurd e
  folder-says Usage s e = absurd e
  folder-says (Unmet line word value) s e = absurd e
  folder-says NoLink s e = absurd e
  folder-says (Refusing text) s e = absurd e
  folder-says (NoPeer kept) s e = absurd e
  folder-says TooManyLines s e = absurd e
  folder-says (NoPlan line kind) s e = absurd e
  folder-says (NoDevice kind) s e = absurd e

-- where memory alone may be wanting
unasked-says : (request : Option Request) (old new : Outside) (v : Verdict) → EndsUnasked v → Says request old new (status_of v)
unasked-says request old new NoMemory w = tt
unasked-says request old new (NoFolder name) w = absurd w
unasked-says request old new (Flawed file flaw) w = absurd w
unasked-says request old new (Done steps) w = absurd w
unasked-says request old new (Told text) w = absurd w
unasked-says request old new Usage w = absurd w
unasked-says request old new (Unmet line word value) w = absurd w
unasked-says request old new NoLink w = absurd w
unasked-says request old new (Refusing text) w = absurd w
unasked-says request old new (NoPeer kept) w = absurd w
unasked-says request old new TooManyLines w = absurd w
unasked-says request old new (NoPlan line kind) w = absurd w
unasked-says request old new (NoDevice kind) w = absurd w

-- where the words are refused
words-says : (request : Option Request) (old new : Outside) (v : Verdict) → IsRefused request → IsSamePort old.port new.port → EndsInWords v → Says request old new (status_of v)
words-says request old new NoMemory r s w = tt
words-says request old new (NoFolder name) r s w = absurd w
words-says request old new (Flawed file flaw) r s w = absurd w
words-says request old new (Done steps) r s w = absurd w
words-says request old new (Told text) r s w = absurd w
words-says request old new Usage r s w = (r, s)
words-says request old new (Unmet line word value) r s w = absurd w
words-says request old new NoLink r s w = absurd w
words-says request old new (Refusing text) r s w = absurd w
words-says request old new (NoPeer kept) r s w = absurd w
words-says request old new TooManyLines r s w = absurd w
words-says request old new (NoPlan line kind) r s w = absurd w
words-says request old new (NoDevice kind) r s w = absurd w

early-says : (request : Option Request) (old new : Outside) (v : Verdict) → IsSamePort old.port new.port → EndsEarly request old new v → Says request old new (status_of v)
early-says None old new v s e = words-says None old new v tt s e
early-says (Some (FlashAll place dir options)) old new v s e = folder-says place dir options old new v s e
early-says (Some (GetVar place name)) old new v s e = unasked-says (Some (GetVar place name)) old new v e
early-says (Some (Sample n)) old new v s e = words-says (Some (Sample n)) old new v tt s e

pub unused-follows : (request : Option Request) (old new : Outside) (status : ℕ) → (IsSamePort old.port new.port → Leaves request old new status) → Unused request old new status → Follows request old new status
unused-follows request old new status left u =
    follows-from request old new status
    (shown-says (Says request old new) u.verdict old.text new.text status (early-says request old new u.verdict u.same u.why) u.unput u.shows)
    (left u.same) (same-beside (target_of request) old.port new.port u.same) (same-halts new.port.peer old new u.same)

-- A port that wasn't aimed.
spent-none : (retries : ℕ) (place : Place) (b : Option Peer) (old new : Outside) → b ≡ None → LinkFailed (moved old new) ⊎ IsNothing old.port.stands place → SpentBy retries place b old new
spent-none retries place None old new e (inl l) = inl l
spent-none retries place None old new e (inr l) = inr (inr l)
spent-none retries place (Some b) old new e l = absurd cc

module _ (request : Request) (place : Place) (old new : Outside) where
  astray-says : (v : Verdict) → Strays (target_of (Some request)) old new → (LinkFailed (moved old new) ⊎ IsNothing old.port.stands place → Spends (Some request) old new) →
      EndsAstray place old new v → Says (Some request) old new (status_of v)
  astray-says NoMemory a spent e = tt
  astray-says NoLink a spent e = spent e
  astray-says (NoDevice kind) a spent e = a
  astray-says (NoFolder name) a spent e = absurd e
  astray-says (Flawed file flaw) a spent e = absurd e
  astray-says (Done steps) a spent e = absurd e
  astray-says (Told text) a spent e = absurd e
  astray-says Usage a spent e = absurd e
  astray-says (Unmet line word value) a spent e = absurd e
  astray-says (Refusing text) a spent e = absurd e
  astray-says (NoPeer kept) a spent e = absurd e
  astray-says TooManyLines a spent e = absurd e
  astray-says (NoPlan line kind) a spent e = absurd e

pub flash-unaimed : (place : Place) (dir : List ℕ) (options : Options) (old new : Outside) (status : ℕ) → Unaimed place old new status → Follows (Some (FlashAll place dir options)) old new status
flash-unaimed place dir options old new status u =
    follows-from (Some (FlashAll place dir options)) old new status
    (shown-says (Says (Some (FlashAll place dir options)) old new) u.verdict old.text new.text status
    (astray-says (FlashAll place dir options) place old new u.verdict u.astray (spent-none options.retries place new.port.peer old new u.astray.untold) u.why) u.unput u.shows)
    (inr (inl u.astray)) u.astray.others (none-halts new.port.peer old new u.astray.untold)

pub question-unaimed : (place : Place) (name : List ℕ) (old new : Outside) (status : ℕ) → Unaimed place old new status → Follows (Some (GetVar place name)) old new status
question-unaimed place name old new status u =
    follows-from (Some (GetVar place name)) old new status
    (shown-says (Says (Some (GetVar place name)) old new) u.verdict old.text new.text status
    (astray-says (GetVar place name) place old new u.verdict u.astray (spent-none 0 place new.port.peer old new u.astray.untold) u.why) u.unput u.shows)
    (inr (inl u.astray)) u.astray.others (none-halts new.port.peer old new u.astray.untold)
