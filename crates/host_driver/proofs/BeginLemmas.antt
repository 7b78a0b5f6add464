-- A connection that began, and one that didn't.
use Rattle.std.proofs.Common.{◌≡◌, inl, inr, ℕ, ◌-◌, ◌^◌, Bool, true, false, Option, Some, None, List, [], ◌++◌, length, refl, sym, ap, ◌∙◌, subst, arith, append-nil}
use Rattle.std.specs.Prelude.{IfSome}
use Rattle.fb_frame.specs.Greeting.{handshake}
use Rattle.dev_model.specs.declared.device.Dev.{Dev}
use Rattle.dev_model.specs.Partitions.{is_fastboot}
use Rattle.wire_model.specs.Wire.{Wire}
use Rattle.wire_told.specs.Exchanges.{FreeFor}
use Rattle.wire_told.specs.Peers.{Peer, Apart, Joined, device_of}
use Rattle.wire_told.specs.Places.{Appended}
use Rattle.wire_told.specs.Ports.{PortTold, OpensAt, Drops}
use Rattle.wire_told.proofs.PortLemmas.{Kept-trans}
use Rattle.wire_told.specs.Told.{HungUp, IsBarred}
use Rattle.wire_told.proofs.ExchangeLemmas.{FreeFor-opened}
use Rattle.fb_link.specs.Opened.{HeardAlone, IsOpened, IsUnopened, WhyUnopened, HeardUnopened}
use Rattle.fb_link.specs.declared.link_error.LinkError.{LinkError}
use Rattle.fb_link.specs.declared.link_error.LinkError.TheVariants as link
use Rattle.host_driver.specs.declared.drive.DriveError.{DriveError}
use Rattle.host_driver.specs.declared.drive.DriveError.TheVariants as stop
use Rattle.host_driver.specs.Beginning.{IsBegun, WhyUnbegun, IsUnbegun}
use Rattle.host_driver.specs.HeardLast.{HeardThen, HeardAt}
use Rattle.host_driver.specs.Jobs.{OfTold}
use Rattle.host_driver.specs.Stepping.{Serving, stop_of}
use Rattle.host_driver.specs.Wires.{LogGrew}

opened-same : (a b : Option Peer) → OpensAt a b → OfTold a b (λ s t. t ≡ s)
opened-same None None o = tt
opened-same None (Some q) o = o
opened-same (Some p) None o = o
opened-same (Some p) (Some (Apart dev)) o = absurd o
opened-same (Some p) (Some (Joined w)) o = ap (λ (x : Wire). x.device) o

fastboot-unless : (b : Bool) → (b ≡ false → ⊥) → b ≡ true
fastboot-unless true h = refl
fastboot-unless false h = absurd (h refl)

opened-serves : (a b : Option Peer) → OpensAt a b → (IsBarred a → ⊥) → FreeFor (2 ^ 61 - 4) b → Serving (2 ^ 61 - 4) b
opened-serves None None o n f = tt
opened-serves None (Some q) o n f = absurd o
opened-serves (Some p) None o n f = absurd o
opened-serves (Some p) (Some (Apart dev)) o n f = absurd o
opened-serves (Some p) (Some (Joined w)) o n f = record {
  free = f;
  runs = ap (λ (x : Wire). is_fastboot x.device.mode) o ∙ fastboot-unless (is_fastboot (device_of p).mode) n;
}

alone-then : (a b : Option (List ℕ)) → HeardAlone a b (handshake 1) → HeardThen b []
alone-then None None h = tt
alone-then None (Some b) h = absurd h
alone-then (Some a) None h = absurd h
alone-then (Some a) (Some b) h = ([], h ∙ (sym (append-nil (handshake 1)) ∙ sym (append-nil (handshake 1 ++ []))))

shakes-logged : (a b : Option (List ℕ)) → Appended a b (handshake 1) → LogGrew a b (λ bytes. bytes ≡ handshake 1)
shakes-logged None None f = tt
shakes-logged None (Some b) f = f
shakes-logged (Some a) None f = f
shakes-logged (Some a) (Some b) f = (handshake 1, f, refl)

pub begun-opened : (a b : PortTold) → IsOpened a b → IsBegun a b
begun-opened a b o = record {
  same = opened-same a.peer b.peer o.state;
  serving = opened-serves a.peer b.peer o.state o.unbarred (FreeFor-opened a.peer b.peer o.state);
  heard = alone-then a.heard b.heard o.heard;
  log = shakes-logged a.log b.log o.log;
  kept = o.kept;
}

pub hung-still : (a b : Option Peer) → HungUp a b → OfTold a b (λ s t. t ≡ s)
hung-still None None h = tt
hung-still None (Some q) h = h
hung-still (Some p) None h = h
hung-still (Some p) (Some (Joined w)) h = absurd h
hung-still (Some p) (Some (Apart dev)) h = h

why-unbegun : (e : LinkError) (a b : PortTold) → WhyUnopened e a b → WhyUnbegun a b (stop_of e)
why-unbegun link.Link a b w = w
why-unbegun link.Ended a b w = w
why-unbegun (link.BadHandshake four) a b w = w.0
why-unbegun (link.BadLength n) a b w = absurd w
why-unbegun (link.BadReply reply) a b w = absurd w
why-unbegun link.TooManyInfos a b w = absurd w

four-alone : (a b : Option (List ℕ)) (four : List ℕ) → HeardAlone a b four → IfSome b (λ all. all ≡ four)
four-alone None None four h = tt
four-alone None (Some b) four h = absurd h
four-alone (Some a) None four h = tt
four-alone (Some a) (Some b) four h = h

heard-unbegun : (e : LinkError) (a b : PortTold) → ((four : List ℕ) → e ≡ link.BadHandshake four → length four ≡ 4) → WhyUnopened e a b → HeardUnopened e a.heard b.heard → HeardAt b (stop_of e)
heard-unbegun link.Link a b n w h = tt
heard-unbegun link.Ended a b n w h = tt
heard-unbegun (link.BadHandshake four) a b n w h = inl (record { heard = four-alone a.heard b.heard four h; four = n four refl; other = w.1 })
heard-unbegun (link.BadLength k) a b n w h = absurd w
heard-unbegun (link.BadReply reply) a b n w h = absurd w
heard-unbegun link.TooManyInfos a b n w h = absurd w

pub unbegun-unopened : (e : LinkError) (error : DriveError) (a b : PortTold) → error ≡ stop_of e → ((four : List ℕ) → e ≡ link.BadHandshake four → length four ≡ 4) → IsUnopened e a b → IsUnbegun a b error
unbegun-unopened e error a b same n o = subst (IsUnbegun a b) (sym same) (record {
  why = why-unbegun e a b o.why;
  still = hung-still a.peer b.peer o.left;
  heard = heard-unbegun e a b n o.why o.four;
  down = o.down;
  sound = o.sound;
  kept = o.kept;
})

-- A connection in place of one that was given up.
hung-begun : (a b c : Option Peer) → HungUp a b → OfTold b c (λ s t. t ≡ s) → OfTold a c (λ s t. t ≡ s)
hung-begun None None None h r = tt
hung-begun None None (Some z) h r = absurd r
hung-begun None (Some y) c h r = absurd h
hung-begun (Some x) None c h r = absurd h
hung-begun (Some x) (Some (Joined w)) c h r = absurd h
hung-begun (Some x) (Some (Apart dev)) None h r = absurd r
hung-begun (Some x) (Some (Apart dev)) (Some z) h r = r ∙ h

pub begun-again : (a b c : PortTold) → Drops a b → IsBegun b c → IsBegun a c
begun-again a b c d g = record {
  same = hung-begun a.peer b.peer c.peer d.left g.same;
  serving = g.serving;
  heard = g.heard;
  log = subst (λ o. LogGrew o c.log (λ bytes. bytes ≡ handshake 1)) d.log g.log;
  kept = Kept-trans a b c d.kept g.kept;
}

barred-hung : (a b : Option Peer) → HungUp a b → IsBarred b → IsBarred a
barred-hung None None h r = r
barred-hung None (Some y) h r = absurd h
barred-hung (Some x) None h r = absurd h
barred-hung (Some x) (Some (Joined w)) h r = absurd h
barred-hung (Some x) (Some (Apart dev)) h r = ap (λ (d : Dev). is_fastboot d.mode) (sym h) ∙ r

untold-hung : (a b : Option Peer) → HungUp a b → b ≡ None → a ≡ None
untold-hung None b h e = refl
untold-hung (Some x) None h e = absurd h
untold-hung (Some x) (Some y) h e = absurd cc

why-again : (error : DriveError) (a b c : PortTold) → Drops a b → WhyUnbegun b c error → WhyUnbegun a c error
why-again stop.Memory a b c d w = w
why-again (stop.Directory file) a b c d w = w
why-again stop.Output a b c d w = w
why-again stop.Link a b c d (inl r) = inl (omega (arith, r, d.kept.later))
why-again stop.Link a b c d (inr r) = inr (barred-hung a.peer b.peer d.left r)
why-again stop.Ended a b c d w = (untold-hung a.peer b.peer d.left w.0, (let r = w.1 in omega (arith, r, d.kept.no_fewer)))
why-again (stop.Refused text) a b c d w = w
why-again (stop.Peer kept) a b c d w = untold-hung a.peer b.peer d.left w
why-again stop.TooManyInfos a b c d w = w
why-again (stop.Requirement line name value) a b c d w = w
why-again (stop.Plan line kind) a b c d w = w

pub unbegun-again : (a b c : PortTold) (error : DriveError) → Drops a b → IsUnbegun b c error → IsUnbegun a c error
unbegun-again a b c error d g = record {
  why = why-again error a b c d g.why;
  still = hung-begun a.peer b.peer c.peer d.left g.still;
  heard = g.heard;
  down = g.down;
  sound = g.sound;
  kept = Kept-trans a b c d.kept g.kept;
}
