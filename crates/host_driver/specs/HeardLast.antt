-- What the bytes heard in the last connection end with, and of which command they came, where a port tells
-- them.
use Rattle.std.specs.Prelude.{◌≡◌, ◌≢◌, ◌⊎◌, ℕ, ◌||◌, Bool, true, false, List, [], ◌∷◌, ◌++◌}
use Rattle.std.specs.Prelude.{length, take}
use Rattle.std.specs.Prelude.{Option, Some, IfSome, nat_le, if◌then◌else◌, bytes_eq}
use Rattle.std.specs.Prelude.{codes}
use Rattle.std.specs.List.{list_all, list_any}
use Rattle.std.specs.Option.{option_map_or}
use Rattle.fb_frame.specs.Framing.{head, frame}
use Rattle.fb_frame.specs.Greeting.{handshake}
use Rattle.fb_frame.specs.NameText.{is_name}
use Rattle.fb_message.specs.declared.reply.Reply.{Reply}
use Rattle.fb_message.specs.declared.reply.Reply.TheVariants.{Okay, Fail, Load}
use Rattle.fb_message.specs.CommandText.{CommandValue, GetVar, spelling}
use Rattle.fb_message.specs.ReplyText.{reply_bytes}
use Rattle.wire_told.specs.Answered.{is_line, reply_frames}
use Rattle.wire_told.specs.Ports.{PortTold}
use Rattle.fb_link.specs.Concluded.{IsUndue, IsNoVerdict}
use Rattle.fb_link.specs.Errors.{IsWrongLength}
use Rattle.host_driver.specs.declared.drive.Done.{Done}
use Rattle.host_driver.specs.declared.drive.DriveError.{DriveError}
use Rattle.host_driver.specs.declared.drive.DriveError.TheVariants as stop
use Rattle.host_driver.specs.SizeText.{size_read}
use Rattle.std.specs.Prelude.{Result, Ok, Err}

-- told bytes end with these
abbrev pub EndsWith : Option (List ℕ) → List ℕ → Type 0
EndsWith told bytes = IfSome told (λ all. (front : List ℕ) × (all ≡ front ++ bytes))

-- what was heard in a connection: the handshake, the frames of some replies, and then these bytes
abbrev pub HeardThen : Option (List ℕ) → List ℕ → Type 0
HeardThen told bytes =
    IfSome told (λ all. (before : List Reply) × (all ≡ (handshake 1 ++ reply_frames before) ++ bytes))

-- a slot's letter, with or without `_`
abbrev pub is_slot : List ℕ → Bool
is_slot text = list_any (bytes_eq text) (codes "a" ∷ codes "b" ∷ codes "_a" ∷ codes "_b" ∷ [])

-- The question is one that a host asks, and the text is an answer to it: a host reads no other.
abbrev pub is_answer : List ℕ → List ℕ → Bool
is_answer question text =
    if bytes_eq question (codes "slot-count") then bytes_eq text (codes "0") || bytes_eq text (codes "2")
    else (if bytes_eq question (codes "current-slot") then is_slot text
    else (if bytes_eq question (codes "max-download-size")
    then option_map_or (nat_le 131072) (size_read text) false
    else (if bytes_eq question (codes "super-partition-name") then is_name text
    else (if bytes_eq (take 11 question) (codes "is-logical:")
    then bytes_eq text (codes "yes") || bytes_eq text (codes "no") else true))))

-- the told log ends with the frame of this command
abbrev pub LogEnds : Option (List ℕ) → CommandValue → Type 0
LogEnds log command = (payload : List ℕ) × (spelling command ≡ Some payload) × EndsWith log (frame payload)

-- The last reply was FAIL with this text.
abbrev pub HeardFail : PortTold → List ℕ → Type 0
HeardFail port text = HeardThen port.heard (frame (reply_bytes (Fail text)))

-- the handshake that was heard, which is another than `FB01`
pub record IsOtherHandshake (port : PortTold) (kept : List ℕ) : Type 0 where
  pub heard : IfSome port.heard (λ all. all ≡ kept)
  pub four : length kept ≡ 4
  pub other : kept ≢ handshake 1

-- a length that no reply has, as its eight bytes
pub record IsOtherLength (port : PortTold) (kept : List ℕ) : Type 0 where
  pub n : ℕ
  pub wrong : IsWrongLength n
  pub bytes : kept ≡ head n
  pub heard : HeardThen port.heard kept

-- a reply that the command that was sent last doesn't have
pub record IsUndueReply (port : PortTold) (kept : List ℕ) : Type 0 where
  pub command : CommandValue
  pub sent : LogEnds port.log command
  pub undue : IsUndue command kept
  pub heard : HeardThen port.heard (frame kept)

-- a reply that ends no download, after DATA and some lines
pub record IsUndueEnd (port : PortTold) (kept : List ℕ) : Type 0 where
  pub undue : IsNoVerdict kept
  pub count : ℕ
  pub infos : List Reply
  pub lines : list_all is_line infos ≡ true
  pub heard : HeardThen port.heard (reply_frames (Load count ∷ infos) ++ frame kept)

-- the text of a variable that was asked for, which is no answer to the question
pub record IsOtherText (port : PortTold) (kept : List ℕ) : Type 0 where
  pub question : List ℕ
  pub sent : LogEnds port.log (GetVar question)
  pub unread : is_answer question kept ≡ false
  pub heard : HeardThen port.heard (frame (reply_bytes (Okay kept)))

-- What was kept is what no device of this profile sends, and was heard last.
abbrev pub HeardOther : PortTold → List ℕ → Type 0
HeardOther port kept =
    IsOtherHandshake port kept ⊎ IsOtherLength port kept ⊎ IsUndueReply port kept ⊎ IsUndueEnd port kept
    ⊎ IsOtherText port kept

-- The last that was heard are 10,000 lines of one command, among which the DATA of its download may stand.
pub record HeardMany (port : PortTold) : Type 0 where
  pub first : List Reply
  pub later : List Reply
  pub lines : list_all is_line (first ++ later) ≡ true
  pub many : length (first ++ later) ≡ 10000
  pub heard :
      HeardThen port.heard (reply_frames (first ++ later))
      ⊎ ((count : ℕ) × HeardThen port.heard (reply_frames (first ++ Load count ∷ later)))

-- what was heard last, by the error
abbrev pub HeardAt : PortTold → DriveError → Type 0
HeardAt port (stop.Refused text) = HeardFail port text
HeardAt port (stop.Peer kept) = HeardOther port kept
HeardAt port stop.TooManyInfos = HeardMany port
HeardAt port _ = Unit {0}

abbrev pub HeardBy : PortTold → Result Done DriveError → Type 0
HeardBy port (Ok done) = Unit {0}
HeardBy port (Err error) = HeardAt port error
