-- A piece of an image: what its download and its flash come to.
use Rattle.std.specs.Prelude.{◌≡◌, ℕ, ◌+◌, true, false, List, [], ◌∷◌, ◌++◌, length, Option, Some, None, IfSome}
use Rattle.std.specs.List.{list_all}
use Rattle.fb_frame.specs.Causes.{Rose}
use Rattle.fb_frame.specs.Sinks.{Grew}
use Rattle.fb_message.specs.CommandText.{Download}
use Rattle.fb_message.specs.declared.reply.Reply.{Reply}
use Rattle.fb_message.specs.declared.reply.Reply.TheVariants.{Okay, Load}
use Rattle.fb_link.specs.Concluded.{Concluded, Finished, IsGivenUp}
use Rattle.fb_link.specs.Seen.{Seen}
use Rattle.sparse_image.specs.Cuts.{Part, part_len, part_bytes, HasPartImage}
use Rattle.wire_model.specs.Wire.{Wire}
use Rattle.wire_told.specs.Answered.{Downloading, Unbegun, is_line, reply_frames}
use Rattle.wire_told.specs.Peers.{Peer, OfLink, OnLink}
use Rattle.wire_told.specs.Ports.{PortTold, Kept}
use Rattle.host_driver.specs.declared.drive.DriveError.{DriveError}
use Rattle.host_driver.specs.declared.drive.DriveError.TheVariants as stop
use Rattle.host_driver.specs.Driving.{Grows}
use Rattle.host_driver.specs.HeardLast.{HeardThen, HeardAt}
use Rattle.host_driver.specs.LinkOuts.{IsSent}
use Rattle.host_driver.specs.Stepping.{WhyStopped, IsUnshown}
use Rattle.host_driver.specs.Wires.{data_wire, download_wire, LogGrew}

-- These bytes are those of the part, with its image, where the file is told, and as many in any case.
pub record ArePart (told : Option (List ℕ)) (part : Part) (bytes : List ℕ) : Type 0 where
  pub long : length bytes ≡ part_len part
  pub wanted : IfSome told (λ file. bytes ≡ part_bytes part file)
  pub holds : HasPartImage part told

-- All data of a download was sent; over a told connection it is what is wanted.
pub record SendsBytes (Wanted : List ℕ → Type 0) (old new : PortTold) : Type 0 where
  pub bytes : List ℕ
  pub wanted : OfLink (λ w. Wanted bytes) old.peer
  pub sent : IsSent bytes (data_wire bytes) old new
  pub sending : Downloading 0 new.peer

unfoldable pub AreSent : (List ℕ → Type 0) → PortTold → PortTold → Type 0
AreSent Wanted old new = SendsBytes Wanted old new

-- The download of so many bytes was announced, after so many lines, and none of its data came yet.
pub record HasBegun (size : ℕ) (old new : Seen) (lines : ℕ) : Type 0 where
  pub count : ℕ
  pub concluded : Concluded (Download size) old new (Load count)
  pub counted : lines ≡ length concluded.infos
  pub unbegun : Unbegun new.port.peer
  pub kept : Kept old.port new.port

-- A download of which all data was sent was acknowledged, after so many lines before its data.
pub record HasEnded (lines : ℕ) (old new : Seen) : Type 0 where
  pub line : List ℕ
  pub finished : Finished lines old new (Okay line)
  pub log : new.port.log ≡ old.port.log
  pub kept : Kept old.port new.port

-- what was heard ends with DATA, after so many lines
abbrev pub HeardLoad : ℕ → Option (List ℕ) → Type 0
HeardLoad lines told = (infos : List Reply) × (count : ℕ) × (list_all is_line infos ≡ true)
    × (length infos ≡ lines) × HeardThen told (reply_frames (infos ++ Load count ∷ []))

-- a told device refused nothing
abbrev pub Unrefused : DriveError → Option Peer → Type 0
Unrefused (stop.Refused text) a = a ≡ None
Unrefused _ a = Unit {0}

-- An attempt broke off in a download: a told device is as it was, and nothing was shown. `Before` says what was
-- heard before.
pub record IsUnloaded (Files : List ℕ → Type 0) (Before : Type 0) (old new : Seen) (error : DriveError) :
    Type 0 where
  pub why : WhyStopped Files old.port new.port error
  pub given_up : IsGivenUp old.port new.port
  pub unrefused : Unrefused error old.port.peer
  pub unshown : IsUnshown error old.port.peer
  pub quiet : OfLink (λ w. Grew old.text new.text []) old.port.peer
  pub grows : Grows old.text new.text
  pub heard : Before → HeardAt new.port error
  pub kept : Kept old.port new.port

-- These bytes were downloaded and are loaded; the device is as it was.
pub record IsLoadedBy (bytes : List ℕ) (w v : Wire) : Type 0 where
  pub device : v.device ≡ w.device
  pub loaded : v.loaded ≡ Some bytes
  pub running : v.closed ≡ false
  pub taken : v.taken ≡ w.taken + length (download_wire bytes)

-- What is wanted was downloaded, and a told log grew by that; over a told connection it is loaded.
pub record LoadsBytes (Wanted : List ℕ → Type 0) (old new : PortTold) : Type 0 where
  pub bytes : List ℕ
  pub wanted : OfLink (λ w. Wanted bytes) old.peer
  pub took : OnLink (IsLoadedBy bytes) old.peer new.peer
  pub log : LogGrew old.log new.log (λ wire. OfLink (λ w. wire ≡ download_wire bytes) old.peer)

unfoldable pub AreLoaded : (List ℕ → Type 0) → PortTold → PortTold → Type 0
AreLoaded Wanted old new = LoadsBytes Wanted old new

-- Commands were answered that change no device: of a told one nothing was shown.
pub record GoesOn (old new : Seen) : Type 0 where
  pub quiet : OfLink (λ w. Grew old.text new.text []) old.port.peer
  pub grows : Grows old.text new.text
  pub heard : HeardThen old.port.heard [] → HeardThen new.port.heard []
  pub kept : Kept old.port new.port

-- the file failed: it is this one, and its count of faults rose
abbrev pub IsUnread : List ℕ → ℕ → ℕ → List ℕ → Type 0
IsUnread file before now name = (name ≡ file) × Rose before now
