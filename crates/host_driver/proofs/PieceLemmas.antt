-- What a download of a piece and its flash leave.
use Rattle.std.proofs.Common.{◌≡◌, ℕ, ◌-◌, Bool, true, false, List, [], ◌++◌, length, drop, Option, Some, None, refl, sym, ap, ◌∙◌, subst, arith}
use Rattle.std.specs.Prelude.{IfSome}
use Rattle.std.proofs.lemmas.List.{append-nil}
use Rattle.std.proofs.Math.Seq.{drop-length}
use Rattle.sparse_image.specs.Cuts.{Part, part_len, part_bytes, PutsPart, HasPartImage}
use Rattle.sparse_image.specs.Outside.{Fell, Grew}
use Rattle.wire_told.specs.Peers.{Peer, Apart, Joined, OfLink, OnLink}
use Rattle.wire_told.specs.Answered.{got_of}
use Rattle.wire_told.specs.Ports.{PortTold}
use Rattle.host_driver.specs.LinkOuts.{IsTaken, IsSending, data_by, room_by, SendsAll}
use Rattle.host_driver.proofs.LinkOutLemmas.{GivenUp-failed, Sending-begun}
use Rattle.host_driver.specs.PutPieces.{ArePart, AreSent}

-- All that was announced was put.
pub full-after : (left n : ℕ) (room : Option ℕ) → left ≡ n → Fell (Some (left - length {A = ℕ} [])) room n → IfSome room (λ m. m ≡ 0)
full-after left n None e f = absurd f
full-after left n (Some room) e f = omega (arith, e, f)

pub up-after : (m n left have : ℕ) (up : Bool) → Fell (Some m) (room_by up left have) n → up ≡ true
up-after m n left have true f = refl
up-after m n left have false f = absurd f

same-part : (told : Option (List ℕ)) (part : Part) (bytes all : List ℕ) → all ≡ bytes → length bytes ≡ part_len part → IfSome told (λ file. bytes ≡ part_bytes part file) → HasPartImage part told → ArePart told part all
same-part told part bytes all e long wanted holds = record {
  long = ap length e ∙ long;
  wanted = subst (λ x. IfSome told (λ file. x ≡ part_bytes part file)) (sym e) wanted;
  holds = holds;
}

put-part : (told : Option (List ℕ)) (part : Part) (x all : List ℕ) (put : Option (List ℕ)) → x ≡ [] → PutsPart part told (Some x) put → IfSome put (λ y. all ≡ y) → HasPartImage part told → ArePart told part all
put-part told part x all None e p w holds = absurd p.grew
put-part told part x all (Some now) e p w holds =
    same-part told part p.bytes all (w ∙ (p.grew ∙ ap (λ t. t ++ p.bytes) e)) p.long p.wanted holds

part-is : (told : Option (List ℕ)) (part : Part) (sent wire all : List ℕ) (a b : Option Peer) (put : Option (List ℕ)) → OnLink (IsTaken sent wire) a b → IfSome (data_by a b []) (λ x. x ≡ []) → PutsPart part told (data_by a b []) put → IfSome put (λ y. all ≡ y) → HasPartImage part told → OfLink (λ w. ArePart told part all) a
part-is told part sent wire all None b put t e p w holds = tt
part-is told part sent wire all (Some (Apart dev)) b put t e p w holds = absurd t
part-is told part sent wire all (Some (Joined u)) None put t e p w holds = absurd t
part-is told part sent wire all (Some (Joined u)) (Some (Apart dev)) put t e p w holds = absurd t
part-is told part sent wire all (Some (Joined u)) (Some (Joined v)) put t e p w holds = put-part told part _ all put e p w holds

pub Part-sent : (told : Option (List ℕ)) (part : Part) (a b c : PortTold) (left : ℕ) (put : Option (List ℕ)) → IsSending a b left → IfSome (data_by a.peer b.peer []) (λ x. x ≡ []) → PutsPart part told (data_by a.peer b.peer []) put → SendsAll put a c → HasPartImage part told → AreSent (ArePart told part) a c
unfolding IsSending SendsAll AreSent
Part-sent told part a b c left put s e p all holds = record {
  bytes = all.bytes;
  wanted = part-is told part s.bytes _ all.bytes a.peer b.peer put s.sent.took e p all.whole holds;
  sent = all.sent;
  sending = all.sending;
}

-- Or these bytes were put.
put-bytes : (x all bytes : List ℕ) (put : Option (List ℕ)) → x ≡ [] → Grew (Some x) put bytes → IfSome put (λ y. all ≡ y) → all ≡ bytes
put-bytes x all bytes None e g w = absurd g
put-bytes x all bytes (Some now) e g w = w ∙ (g ∙ ap (λ t. t ++ bytes) e)

bytes-are : (sent wire all bytes : List ℕ) (a b : Option Peer) (put : Option (List ℕ)) → OnLink (IsTaken sent wire) a b → IfSome (data_by a b []) (λ x. x ≡ []) → Grew (data_by a b []) put bytes → IfSome put (λ y. all ≡ y) → OfLink (λ w. all ≡ bytes) a
bytes-are sent wire all bytes None b put t e g w = tt
bytes-are sent wire all bytes (Some (Apart dev)) b put t e g w = absurd t
bytes-are sent wire all bytes (Some (Joined u)) None put t e g w = absurd t
bytes-are sent wire all bytes (Some (Joined u)) (Some (Apart dev)) put t e g w = absurd t
bytes-are sent wire all bytes (Some (Joined u)) (Some (Joined v)) put t e g w = put-bytes _ all bytes put e g w

pub Bytes-sent : (bytes : List ℕ) (a b c : PortTold) (left : ℕ) (put : Option (List ℕ)) → IsSending a b left → IfSome (data_by a.peer b.peer []) (λ x. x ≡ []) → Grew (data_by a.peer b.peer []) put bytes → SendsAll put a c → AreSent (λ x. x ≡ bytes) a c
unfolding IsSending SendsAll AreSent
Bytes-sent bytes a b c left put s e g all = record {
  bytes = all.bytes;
  wanted = bytes-are s.bytes _ all.bytes bytes a.peer b.peer put s.sent.took e g all.whole;
  sent = all.sent;
  sending = all.sending;
}

-- a download of which no data was sent yet
pub unsent-yet : (a : Option Peer) → IfSome (data_by a a []) (λ bytes. bytes ≡ [])
unsent-yet None = tt
unsent-yet (Some (Apart dev)) = tt
unsent-yet (Some (Joined w)) = append-nil (drop (length (got_of w)) (got_of w)) ∙ drop-length (got_of w)

pub ruleset sends = (full-after, up-after, Part-sent, GivenUp-failed)

pub ruleset sends_bytes = (full-after, up-after, Bytes-sent, GivenUp-failed)

pub ruleset begins = (Sending-begun, unsent-yet)
