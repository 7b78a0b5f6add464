-- A command and all of its replies, as a host hears them one after another.
use Rattle.std.specs.Prelude.{◌≡◌, ◌⊎◌, ℕ, ◌+◌, ◌*◌, ◌^◌, ◌<◌, ◌≤◌, Bool, true, false, ◌==◌, List, [], ◌∷◌, ◌++◌, length, flat_map, Option, Some, None, if◌then◌else◌, codes, is_none}
use Rattle.std.specs.List.{list_all}
use Rattle.fb_frame.specs.Framing.{frame}
use Rattle.fb_message.specs.declared.reply.Reply.{Reply}
use Rattle.fb_message.specs.declared.reply.Reply.TheVariants.{Okay, Fail, Info, Text, Load}
use Rattle.fb_message.specs.ReplyText.{reply_bytes, reply_fits}
use Rattle.fb_message.specs.CommandText.{CommandValue, Download, command_of}
use Rattle.dev_model.specs.Validity.{IsValid}
use Rattle.wire_told.specs.Peers.{Peer, device_of, OfLink, OnLink}
use Rattle.wire_model.specs.Says.{Loaded, says}
use Rattle.wire_model.specs.Wire.{Wire, Phase, Shake, Command, Data, after}
use Rattle.wire_model.specs.Halts.{Halts}
use Rattle.wire_told.specs.Told.{done}
use Rattle.wire_told.specs.Told.{failed_in}

-- INFO and TEXT, after which more replies follow
abbrev pub is_line : Reply → Bool
is_line (Info text) = true
is_line (Text text) = true
is_line (Okay text) = false
is_line (Fail text) = false
is_line (Load count) = false

-- some lines, and one reply that is none at the end
abbrev pub ends_well : List Reply → Bool
ends_well [] = false
ends_well (reply ∷ replies) = if is_line reply then ends_well replies else (length replies == 0)

-- the frames of these replies
abbrev pub reply_frames : List Reply → List ℕ
reply_frames replies = flat_map (λ reply. frame (reply_bytes reply)) replies

-- The device did what it says to the command, and these are all its replies, which were heard.
pub record IsSaid (payload : List ℕ) (replies : List Reply) (w u : Wire) : Type 0 where
  pub all : replies ≡ (says w.device w.loaded (command_of payload)).replies
  pub state : record u { out = reply_frames replies ++ u.out } ≡ done payload w

-- A disk call failed while the command was run: the device halted, and this alone was heard.
pub record IsFaulted (payload : List ℕ) (replies : List Reply) (w u : Wire) : Type 0 where
  pub told : replies ≡ Fail (codes "disk fault") ∷ []
  pub halts : Halts w.device w.loaded (command_of payload) u.device
  pub state : u ≡ failed_in payload u.device w

-- a command was sent and all of its replies heard
abbrev pub IsAnswered : Type 0 → List ℕ → List Reply → Wire → Wire → Type 0
IsAnswered broke payload replies w u = IsSaid payload replies w u ⊎ (broke × IsFaulted payload replies w u)

-- Some replies are left to hear, of which the last is no line; with n lines before them fewer than 10,000.
pub record IsListening (n : ℕ) (w : Wire) : Type 0 where
  pub more : List Reply
  pub extra : List ℕ
  pub due : w.out ≡ reply_frames more ++ extra
  pub ends : ends_well more ≡ true
  pub fits : list_all reply_fits more ≡ true
  pub few : n + length more ≤ 10000

abbrev pub Listening : ℕ → Option Peer → Type 0
Listening n a = OfLink (IsListening n) a

-- a whole reply is next
pub record IsNext (w : Wire) : Type 0 where
  pub reply : Reply
  pub more : List ℕ
  pub due : w.out ≡ frame (reply_bytes reply) ++ more
  pub fits : reply_fits reply ≡ true

abbrev pub Next : Option Peer → Type 0
Next a = OfLink IsNext a

-- the bytes of a reply are next, n of them, which are 4 to 256
pub record IsSized (n : ℕ) (w : Wire) : Type 0 where
  pub long : 4 ≤ n
  pub short : n ≤ 256
  pub there : n ≤ length w.out

abbrev pub Sized : Option Peer → ℕ → Type 0
Sized a n = OfLink (IsSized n) a

-- a told device is as it was
abbrev pub Stays : Option Peer → Option Peer → Type 0
Stays None None = Unit {0}
Stays None (Some b) = ⊥
Stays (Some a) None = ⊥
Stays (Some a) (Some b) = device_of b ≡ device_of a

-- a told device is one that there can be
abbrev pub Sound : Option Peer → Type 0
Sound None = Unit {0}
Sound (Some a) = IsValid (device_of a)

-- Between two commands: all was heard, nothing is left over, and the device is one that there can be.
pub record IsBetween (w : Wire) : Type 0 where
  pub quiet : w.out ≡ []
  pub commanding : w.phase ≡ Command
  pub rest : w.rest ≡ []
  pub valid : IsValid w.device

abbrev pub Between : Option Peer → Type 0
Between a = OfLink IsBetween a

-- the connection is open and has taken at most 2 ^ 61 bytes
pub record IsFree (w : Wire) : Type 0 where
  pub running : w.closed ≡ false
  pub bounded : w.taken ≤ 2 ^ 61

-- a command may be sent
abbrev pub Free : Option Peer → Type 0
Free a = OfLink IsFree a

-- the data of a download is awaited, of which so much is due
pub record IsDue (left : ℕ) (w : Wire) : Type 0 where
  pub count : ℕ
  pub got : List ℕ
  pub receiving : w.phase ≡ Data count got
  pub all : count ≡ length got + left
  pub quiet : w.out ≡ []

-- all data came and is loaded, and OKAY is left to hear
pub record IsLoadedNow (w : Wire) : Type 0 where
  pub got : List ℕ
  pub loaded : w.loaded ≡ Some got
  pub commanding : w.phase ≡ Command
  pub okay : w.out ≡ reply_frames (Okay [] ∷ [])

-- Amid a download: the bytes that are left are due, or OKAY is.
pub record IsSending (left : ℕ) (w : Wire) : Type 0 where
  pub running : w.closed ≡ false
  pub rest : w.rest ≡ []
  pub valid : IsValid w.device
  pub bounded : w.taken + 9 * left < 2 ^ 62
  pub due : ((0 < left) × IsDue left w) ⊎ ((left ≡ 0) × IsLoadedNow w)

abbrev pub Downloading : ℕ → Option Peer → Type 0
Downloading left a = OfLink (IsSending left) a

-- OKAY or FAIL
abbrev pub IsVerdict : Reply → Type 0
IsVerdict (Okay text) = Unit {0}
IsVerdict (Fail text) = Unit {0}
IsVerdict (Info text) = ⊥
IsVerdict (Text text) = ⊥
IsVerdict (Load count) = ⊥

-- how many bytes the command announces, where it asks for a download
abbrev pub announces : CommandValue → Option ℕ
announces (Download count) = Some count
announces _ = None

-- these bytes are announced
abbrev pub is_announced : Option ℕ → ℕ → Bool
is_announced None n = false
is_announced (Some count) n = n == count

-- The reply may end the command: FAIL ends each, DATA a download of its count, and OKAY all others.
abbrev pub suits : CommandValue → Reply → Bool
suits command (Okay text) = is_none (announces command)
suits command (Fail text) = true
suits command (Info text) = false
suits command (Text text) = false
suits command (Load n) = is_announced (announces command) n

-- The data that came of a download: the part that did while some is awaited, and all that is loaded after.
abbrev pub got_by : Phase → Loaded → List ℕ
got_by Shake loaded = []
got_by Command None = []
got_by Command (Some got) = got
got_by (Data count got) loaded = got

unfoldable pub got_of : Wire → List ℕ
got_of w = got_by w.phase w.loaded

-- no data came yet
abbrev pub Unbegun : Option Peer → Type 0
Unbegun a = OfLink (λ w. got_of w ≡ []) a

-- The bytes were taken in one frame of data: they came after those before, the device is as it was, and the
-- connection is open.
pub record IsWritten (bytes : List ℕ) (w v : Wire) : Type 0 where
  pub state : v ≡ after w (frame bytes)
  pub device : v.device ≡ w.device
  pub got : got_of v ≡ got_of w ++ bytes
  pub running : v.closed ≡ false
  pub taken : v.taken ≡ w.taken + length (frame bytes)

abbrev pub Wrote : Option Peer → Option Peer → List ℕ → Type 0
Wrote a b bytes = OnLink (IsWritten bytes) a b

-- the data that came before is loaded
abbrev pub Loads : Option Peer → Option Peer → Type 0
Loads a b = OnLink (λ w v. v.loaded ≡ Some (got_of w)) a b
