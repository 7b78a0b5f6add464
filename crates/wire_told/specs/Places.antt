-- Targets, and what they are told to stand for.
use Rattle.std.specs.Prelude.{◌≡◌, ◌≢◌, ℕ, List, [], ◌++◌, Option, Some, None}
use Rattle.fb_frame.specs.Framing.{head, frame}
use Rattle.dev_model.specs.declared.device.Dev.{Dev}
use Rattle.dev_model.specs.declared.bad_image.BadImage.{BadImage}
use Rattle.dev_model.specs.Validity.{IsValid}
use Rattle.wire_told.specs.Peers.{Peer, Apart, Joined}
use Rattle.wire_told.specs.Told.{MayConnect}

-- a target, with its words as lists
pub data Place : Type 0 where
  ImageAt : List ℕ → Place
  TcpAt : List ℕ → ℕ → Place

-- what a target stands for
pub data Stand : Type 0 where
  Device : Dev → Stand
  Bad : BadImage → Stand
  Nothing : Stand

-- What each place stands for, where it is told. A port may tell it of some places and not of others.
abbrev pub Stands : Type 0
Stands = Place → Option Stand

-- the place is told to stand for nothing
abbrev pub IsNothing : Stands → Place → Type 0
IsNothing stands place = stands place ≡ Some Nothing

-- what stands here is this bad image, where it is told
abbrev pub IsBadBy : Option Stand → BadImage → Type 0
IsBadBy None bad = Unit {0}
IsBadBy (Some stand) bad = stand ≡ Bad bad

-- The place is one of an image, and stands for this bad image where it is told. No address does.
abbrev pub IsBad : Stands → Place → BadImage → Type 0
IsBad stands (ImageAt path) bad = IsBadBy (stands (ImageAt path)) bad
IsBad stands (TcpAt host port) bad = ⊥

-- The device that the port tells is one that there can be, in a mode in which a connection begins, and the
-- one that is told to stand here. A port may tell its device also where it isn't told what stands here.
abbrev pub AimsBy : Option Stand → Option Peer → Type 0
AimsBy None None = Unit {0}
AimsBy None (Some (Joined w)) = ⊥
AimsBy None (Some (Apart dev)) = MayConnect dev × IsValid dev
AimsBy (Some stand) None = ⊥
AimsBy (Some stand) (Some (Joined w)) = ⊥
AimsBy (Some stand) (Some (Apart dev)) = MayConnect dev × IsValid dev × (stand ≡ Device dev)

-- the port is aimed at the place
abbrev pub Aims : Stands → Place → Option Peer → Type 0
Aims stands place peer = AimsBy (stands place) peer

-- the last target is this one, where it is told, and it is told where it is told what stands here
abbrev pub LastBy : Option Stand → Option Place → Place → Type 0
LastBy None None place = Unit {0}
LastBy None (Some last) place = last ≡ place
LastBy (Some stand) last place = last ≡ Some place

-- the last target is this one, where the port tells it
abbrev pub IsLast : Stands → Option Place → Place → Type 0
IsLast stands last place = LastBy (stands place) last place

-- no target but the last one stands for anything else than it did
abbrev pub KeepsOthers : Option Place → Stands → Stands → Type 0
KeepsOthers last stands now = (other : Place) → last ≢ Some other → now other ≡ stands other

-- these bytes were appended to a told list
abbrev pub Appended : Option (List ℕ) → Option (List ℕ) → List ℕ → Type 0
Appended None None bytes = Unit {0}
Appended None (Some b) bytes = ⊥
Appended (Some a) None bytes = ⊥
Appended (Some a) (Some b) bytes = b ≡ a ++ bytes

-- the head of a reply of this length was
unfoldable pub AppendedHead : Option (List ℕ) → Option (List ℕ) → ℕ → Type 0
AppendedHead a b n = Appended a b (head n)

-- the frame of a reply was
unfoldable pub AppendedReply : Option (List ℕ) → Option (List ℕ) → List ℕ → Type 0
AppendedReply a b reply = Appended a b (frame reply)

-- a told list was emptied
abbrev pub Emptied : Option (List ℕ) → Option (List ℕ) → Type 0
Emptied None None = Unit {0}
Emptied None (Some b) = ⊥
Emptied (Some a) None = ⊥
Emptied (Some a) (Some b) = b ≡ []
