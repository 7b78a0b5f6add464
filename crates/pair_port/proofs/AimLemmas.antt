-- Where a port turns from images to an address, and to an image.
use Rattle.std.proofs.Common.{◌≡◌, ◌≢◌, ℕ, List, Option, Some, None, Result, Ok, Err, refl, ap, subst}
use Rattle.std.specs.Prelude.{OnOk, OnErr}
use Rattle.std.proofs.Math.Path.{fun_ext}
use Rattle.std.proofs.lemmas.Result.{on_err_weaker}
use Rattle.dev_model.specs.declared.bad_image.BadImage.{BadImage}
use Rattle.wire_told.specs.Peers.{Peer, Apart, Joined}
use Rattle.wire_told.specs.Answered.{Sound}
use Rattle.wire_told.specs.Places.{Place, ImageAt, TcpAt, Stand, Stands, AimsBy, LastBy, IsBad}
use Rattle.wire_told.specs.Ports.{PortTold, IsAimed, IsAstray}
use Rattle.pair_port.specs.declared.any_port.Way.{Way}
use Rattle.pair_port.specs.declared.any_port.Way.TheVariants.{Address}
use Rattle.pair_port.specs.Ways.{Ways, of_images, told_on}

-- where each image stands for what it did, so do all targets
images-same : (s t : Stands) → ((path : List ℕ) → t (ImageAt path) ≡ s (ImageAt path)) → of_images t ≡ of_images s
images-same s t f = fun_ext (λ place. elim place as (λ p. of_images t p ≡ of_images s p) [ ImageAt path ↦ f path | TcpAt host port ↦ refl ])

-- an address that is the last target is no image
no-image : (stand : Option Stand) (last : Option Place) (host path : List ℕ) (port : ℕ) → LastBy stand last (TcpAt host port) → last ≢ Some (ImageAt path)
no-image None None host path port p e = absurd cc
no-image None (Some place) host path port p e = absurd cc
no-image (Some stand) last host path port p e = absurd cc

-- a port to images that was aimed at an address, whether there is such a target or not
left-for : {E : Type 0} (left : Result (Unit {0}) E) (s t : PortTold) (host : List ℕ) (port : ℕ) → OnOk left (IsAimed s t (TcpAt host port)) → OnErr left (IsAstray s t (TcpAt host port)) →
    of_images t.stands ≡ of_images s.stands
left-for (Ok x) s t host port p q = images-same s.stands t.stands (λ path. p.others (ImageAt path) (no-image (t.stands (TcpAt host port)) t.last host path port p.last))
left-for (Err x) s t host port p q = images-same s.stands t.stands (λ path. q.others (ImageAt path) (λ e. absurd cc))

astray-on : (way : Way) (a b s t : PortTold) (place : Place) → of_images t.stands ≡ of_images s.stands → IsAstray a b place → IsAstray (told_on way a s) (told_on Address b t) place
astray-on way a b s t place e f = record {
  astray = f.astray;
  untold = f.untold;
  stands = λ h. e;
  others = λ other n. ap (λ stands. stands other) e;
}

-- the port to addresses is astray, and so is the one that goes both ways
pub address-astray : {A I E F : Type 0} (f : A → PortTold) (h : I → PortTold) (u v : Ways A I) (left : Result (Unit {0}) E) (result : Result (Unit {0}) F) (a : A) (i : I) (place : Place) (host : List ℕ) (port : ℕ) →
    u ≡ v → place ≡ TcpAt host port → OnOk left (IsAimed (h u.images) (h i) place) → OnErr left (IsAstray (h u.images) (h i) place) →
    OnErr result (IsAstray (f u.addresses) (f a) place) → OnErr result (IsAstray (told_on v.way (f v.addresses) (h v.images)) (told_on Address (f a) (h i)) place)
address-astray f h u v left result a i place host port e is p q r =
    let same = left-for left (h u.images) (h i) host port (subst (λ k. OnOk left (IsAimed (h u.images) (h i) k)) is p) (subst (λ k. OnErr left (IsAstray (h u.images) (h i) k)) is q) in
    subst (λ w. OnErr result (IsAstray (told_on w.way (f w.addresses) (h w.images)) (told_on Address (f a) (h i)) place)) e
    (on_err_weaker result (λ b. astray-on u.way (f u.addresses) (f a) (h u.images) (h i) place same b) r)

-- an image that is bad
bad-still : (stands : Stands) (place : Place) (bad : BadImage) → IsBad stands place bad → IsBad (of_images stands) place bad
bad-still stands (ImageAt path) bad p = p
bad-still stands (TcpAt host port) bad p = p

pub image-bad : {A I : Type 0} (h : I → PortTold) (u v : Ways A I) (place : Place) (bad : BadImage) → u ≡ v → IsBad (h u.images).stands place bad → IsBad (of_images (h v.images).stands) place bad
image-bad h u v place bad e p = subst (λ w. IsBad (of_images (h w.images).stands) place bad) e (bad-still (h u.images).stands place bad p)

-- the device of a port that was aimed is one that there can be
pub aimed_sound : (stand : Option Stand) (peer : Option Peer) → AimsBy stand peer → Sound peer
aimed_sound None None p = tt
aimed_sound None (Some (Apart dev)) p = p.1
aimed_sound None (Some (Joined w)) p = absurd p
aimed_sound (Some stand) None p = absurd p
aimed_sound (Some stand) (Some (Apart dev)) p = p.1
aimed_sound (Some stand) (Some (Joined w)) p = absurd p
