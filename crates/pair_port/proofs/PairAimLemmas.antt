-- Aiming, as a port tells it.
use Rattle.std.proofs.Common.{◌≡◌, ◌≢◌, ℕ, ◌≤◌, Bool, true, false, List, Option, Some, None, is_some, option_map, Result, Ok, Err, refl, sym, ap, subst, ◌∙◌, arith}
use Rattle.std.specs.Prelude.{IsTrue, IsFalse, bytes_eq}
use Rattle.std.proofs.lemmas.Slice.Eq.{bytes_eq-Decides}
use std.Path.{fun_ext}
use Rattle.fb_frame.specs.Causes.{Rose}
use Rattle.fb_frame.specs.Told.{Both}
use Rattle.dev_disk.specs.Calls.{IsOpen}
use Rattle.dev_disk.specs.Disks.{DiskTold, open_bytes}
use Rattle.dev_disk.specs.Files.{Files, content, StaysTorn, KeepsOthers as KeepsFiles}
use Rattle.dev_model.specs.declared.bad_image.BadImage.{BadImage}
use Rattle.dev_model.specs.declared.device.Dev.{Dev}
use Rattle.dev_model.specs.Partitions.{is_fastboot}
use Rattle.dev_model.specs.Validity.{IsValid}
use Rattle.dev_store.specs.Faults.{honest_before}
use Rattle.dev_store.specs.Held.{Held}
use Rattle.dev_store.specs.Laws.{RepairedStands, RepairedOwns}
use Rattle.dev_store.specs.Opening.{IsAbsent, IsBadImage, StandsIn, OpensTold, StandsAs, OnFile, OpensImage, LeavesImage, OthersKept}
use Rattle.dev_store.specs.Repairs.{IsRepaired}
use Rattle.dev_store.specs.Stand.{stand}
use Rattle.wire_told.specs.Places.{Place, ImageAt, TcpAt, Stand, Device, Bad, IsNothing, IsBad, Aims, IsLast, KeepsOthers}
use Rattle.wire_told.specs.Ports.{PortTold, Turns, IsAimed, IsAstray}
use Rattle.pair_port.specs.Counters.{Counters}
use Rattle.pair_port.specs.Calls.{OpensEnd, MissesEnd}
use Rattle.pair_port.specs.Pairs.{Pair, End, Alone, Down, disk_of, is_up, is_aimed, peer_by, stand_by, stand_in, stands_in, faults_by, told_by, pair_told}
use Rattle.pair_port.proofs.DeviceLemmas.{runs-at}
use Rattle.pair_port.proofs.KeptLemmas.{Counts, faults-later, faults-rose, others-kept}
use Rattle.pair_port.proofs.PortLemmas.{counts-same, counts-like}

same-telling : (a b : Option Files) (path : List ℕ) → KeepsFiles a b path → is_some b ≡ is_some a
same-telling (Some x) (Some y) path k = refl
same-telling (Some x) None path k = absurd k
same-telling None (Some y) path k = absurd k
same-telling None None path k = refl

-- What both leave.
turns-by : {K : Type 0} (a b : DiskTold) (p q : Pair K) (path : List ℕ) → is_up q.end ≡ false → q.counters ≡ p.counters → KeepsFiles a.files b.files path → a.faults ≤ b.faults → StaysTorn a.torn b.torn →
    Turns (told_by a p) (told_by b q)
turns-by a b p q path u c k l t = record {
  down = u;
  heard = refl;
  log = refl;
  later = faults-later a.files b.files p.counters q.counters a.faults b.faults (same-telling a.files b.files path k) (counts-like p.counters q.counters p.counters c (counts-same p.counters)) l;
  ends = ap (λ (c : Counters). c.ended) c;
  honest = honest_before a.torn b.torn t;
}

pub opens-turns : {K : Type 0} (told : K → DiskTold) (p q : Pair K) (path : List ℕ) → OpensEnd told p.end q.end path → q.counters ≡ p.counters → Turns (pair_told told p) (pair_told told q)
opens-turns told p q path o c =
    subst (λ d. Turns (pair_told told p) (told_by (told d) q)) (sym (ap disk_of o.end_now))
    (turns-by (told (disk_of p.end)) (told o.held.disk) p q path (ap is_up o.end_now) c o.opens.others o.opens.later o.opens.torn)

pub misses-turns : {K : Type 0} (told : K → DiskTold) (p q : Pair K) (path : List ℕ) → MissesEnd told p.end q.end path → q.counters ≡ p.counters → Turns (pair_told told p) (pair_told told q)
misses-turns told p q path m c =
    subst (λ d. Turns (pair_told told p) (told_by (told d) q)) (sym (ap disk_of m.end_now))
    (turns-by (told (disk_of p.end)) (told m.disk) p q path (ap is_up m.end_now) c m.others.others m.others.later m.others.torn)

-- The port is aimed.
last-is : (files : Option Files) (opened : Option (List ℕ)) (path : List ℕ) → IsOpen files opened path → IsLast (stands_in files) (option_map ImageAt opened) (ImageAt path)
last-is None opened path e = subst (λ (o : Option (List ℕ)). IsLast (stands_in None) (option_map ImageAt o) (ImageAt path)) (sym e) tt
last-is (Some f) opened path e = ap (λ (o : Option (List ℕ)). option_map ImageAt o) e

stood : (file : Option (List ℕ)) (dev : Dev) → StandsIn file (Ok dev) → stand_in file ≡ Device dev
stood None dev h = absurd h
stood (Some file) dev h = ap stand_by h

aims-at : {K : Type 0} (a b : Option Files) (path : List ℕ) (held : Held K) (room : ℕ) (left : Dev) → KeepsFiles a b path → OpensTold a path held.device → IsTrue (is_fastboot held.device.mode) → IsValid held.device →
    Aims (stands_in a) (ImageAt path) (peer_by b (Down held room) left)
aims-at (Some x) (Some y) path held room left k o f v =
    let same = runs-at held left f in (
      subst (λ (d : Dev). IsTrue (is_fastboot d.mode)) (sym same) f,
      subst IsValid (sym same) v,
      stood (x path) held.device o ∙ ap Device (sym same),
    )
aims-at (Some x) None path held room left k o f v = absurd k
aims-at None (Some y) path held room left k o f v = absurd k
aims-at None None path held room left k o f v = tt

others-opened : (a b : Option Files) (opened : Option (List ℕ)) (path : List ℕ) → KeepsFiles a b path → IsOpen b opened path → KeepsOthers (option_map ImageAt opened) (stands_in a) (stands_in b)
others-opened (Some x) (Some y) opened path k e = subst (λ (o : Option (List ℕ)). KeepsOthers (option_map ImageAt o) (stands_in (Some x)) (stands_in (Some y))) (sym e) (others-kept (Some x) (Some y) (Some path) k)
others-opened (Some x) None opened path k e = absurd k
others-opened None (Some y) opened path k e = absurd k
others-opened None None opened path k e = λ other n. refl

aims-by : {K : Type 0} (told : K → DiskTold) (p q : Pair K) (path : List ℕ) (o : OpensEnd told p.end q.end path) → IsAimed (pair_told told p) (told_by (told o.held.disk) q) (ImageAt path)
aims-by told p q path o =
    let a = told (disk_of p.end) in
    let b = told o.held.disk in
    record {
      aimed = ap is_aimed o.end_now;
      last = last-is b.files b.open_path path o.opens.open_now;
      aims = subst (λ (e : End _). Aims (stands_in a.files) (ImageAt path) (peer_by b.files e q.left)) (sym o.end_now)
          (aims-at a.files b.files path o.held o.room q.left o.opens.others o.opens.device o.runs o.valid);
      others = others-opened a.files b.files b.open_path path o.opens.others o.opens.open_now;
    }

pub aims : {K : Type 0} (told : K → DiskTold) (p q : Pair K) (path : List ℕ) → OpensEnd told p.end q.end path → IsAimed (pair_told told p) (pair_told told q) (ImageAt path)
aims told p q path o = subst (λ d. IsAimed (pair_told told p) (told_by (told d) q) (ImageAt path)) (sym (ap disk_of o.end_now)) (aims-by told p q path o)

-- It is astray.
untold : {K : Type 0} (files : Option Files) (disk : K) (left : Dev) → peer_by files (Alone disk) left ≡ None
untold None disk left = refl
untold (Some f) disk left = refl

leaves-in : (x y : Option (List ℕ)) → Both StandsAs x y → stand_in y ≡ stand_in x
leaves-in (Some x) (Some y) h = ap stand_by h.stands
leaves-in (Some x) None h = absurd h
leaves-in None (Some y) h = absurd h
leaves-in None None h = refl

leaves-place : (x y : Files) (path other : List ℕ) (b : Bool) → bytes_eq other path ≡ b → KeepsFiles (Some x) (Some y) path → Both StandsAs (x path) (y path) → stand_in (y other) ≡ stand_in (x other)
leaves-place x y path other true e k h =
    let same = (bytes_eq-Decides other path).0 e in
    subst (λ (o : List ℕ). stand_in (y o) ≡ stand_in (x o)) (sym same) (leaves-in (x path) (y path) h)
leaves-place x y path other false e k h =
    ap stand_in (k other (λ same. let no : bytes_eq other path ≡ true = (bytes_eq-Decides other path).1 same in absurd cc))

leaves-at : (a b : Option Files) (path : List ℕ) → KeepsFiles a b path → OnFile StandsAs a b path → (place : Place) → stands_in b place ≡ stands_in a place
leaves-at (Some x) (Some y) path k h (TcpAt host port) = refl
leaves-at (Some x) (Some y) path k h (ImageAt other) = ap (λ (s : Stand). Some s) (leaves-place x y path other (bytes_eq other path) refl k h)
leaves-at (Some x) None path k h place = absurd k
leaves-at None (Some y) path k h place = absurd k
leaves-at None None path k h place = refl

misses-by : {K : Type 0} (told : K → DiskTold) (p q : Pair K) (path : List ℕ) (m : MissesEnd told p.end q.end path) → IsAstray (pair_told told p) (told_by (told m.disk) q) (ImageAt path)
misses-by told p q path m =
    let a = told (disk_of p.end) in
    let b = told m.disk in
    record {
      astray = ap is_aimed m.end_now;
      untold = ap (λ (e : End _). peer_by b.files e q.left) m.end_now ∙ untold b.files m.disk q.left;
      stands = λ h. fun_ext (leaves-at a.files b.files path m.others.others (m.leaves h));
      others = others-kept a.files b.files (Some path) m.others.others;
    }

pub misses : {K : Type 0} (told : K → DiskTold) (p q : Pair K) (path : List ℕ) → MissesEnd told p.end q.end path → IsAstray (pair_told told p) (pair_told told q) (ImageAt path)
misses told p q path m = subst (λ d. IsAstray (pair_told told p) (told_by (told d) q) (ImageAt path)) (sym (ap disk_of m.end_now)) (misses-by told p q path m)

-- Why it is.
pub absent-nothing : (files : Option Files) (path : List ℕ) → IsAbsent files path → IsNothing (stands_in files) (ImageAt path)
absent-nothing None path h = absurd h
absent-nothing (Some f) path h = ap (λ (o : Option (List ℕ)). Some (stand_in o)) h

bad-in : (file : Option (List ℕ)) (bad : BadImage) → StandsIn file (Err bad) → stand_in file ≡ Bad bad
bad-in None bad h = absurd h
bad-in (Some file) bad h = ap stand_by h

pub bad-image : (files : Option Files) (path : List ℕ) (bad : BadImage) → IsBadImage files path bad → IsBad (stands_in files) (ImageAt path) bad
bad-image None path bad h = tt
bad-image (Some f) path bad h = bad-in (f path) bad h

pub misses-rose : {K : Type 0} (told : K → DiskTold) (p q : Pair K) (path : List ℕ) (m : MissesEnd told p.end q.end path) → q.counters ≡ p.counters →
    Rose (told (disk_of p.end)).faults (told (disk_of q.end)).faults → Rose (pair_told told p).faults (pair_told told q).faults
misses-rose told p q path m c r =
    let a = told (disk_of p.end) in
    let b = told (disk_of q.end) in
    let others = subst (λ d. KeepsFiles a.files (told d).files path) (sym (ap disk_of m.end_now)) m.others.others in
    faults-rose a.files b.files p.counters q.counters a.faults b.faults (same-telling a.files b.files path others) (counts-like p.counters q.counters p.counters c (counts-same p.counters)) r

-- An address.
pub address-nothing : (files : Option Files) (host : List ℕ) (port : ℕ) → IsNothing (stands_in files) (TcpAt host port)
address-nothing None host port = refl
address-nothing (Some f) host port = refl

-- What was opened, but isn't taken.
repaired-in : RepairedStands → RepairedOwns → (x y : Option (List ℕ)) (dev : Dev) → StandsIn x (Ok dev) → Both IsRepaired x y → Both StandsAs x y
repaired-in stands owns None (Some y) dev s r = absurd r
repaired-in stands owns None None dev s r = tt
repaired-in stands owns (Some x) None dev s r = absurd r
repaired-in stands owns (Some x) (Some y) dev s r = record { stands = (stands x y dev s r).0 ∙ sym s; owns = λ name. owns x y name r }

leaves-opened : RepairedStands → RepairedOwns → (a b : Option Files) (path : List ℕ) (dev : Dev) → OpensTold a path dev → OnFile IsRepaired a b path → OnFile StandsAs a b path
leaves-opened stands owns (Some x) (Some y) path dev o r = repaired-in stands owns (x path) (y path) dev o r
leaves-opened stands owns (Some x) None path dev o r = absurd r
leaves-opened stands owns None (Some y) path dev o r = absurd r
leaves-opened stands owns None None path dev o r = tt

pub opened-leaves : RepairedStands → RepairedOwns → (a b : DiskTold) (path : List ℕ) (dev : Dev) → OpensImage a b path dev → LeavesImage a b path
opened-leaves stands owns a b path dev o = leaves-opened stands owns a.files b.files path dev o.device o.repaired

pub opened-others : (a b : DiskTold) (path : List ℕ) (dev : Dev) → OpensImage a b path dev → OthersKept a b path
opened-others a b path dev o = record { others = o.others; later = o.later; torn = o.torn }

there : (x y : Option (List ℕ)) (dev : Dev) → StandsIn x (Ok dev) → Both IsRepaired x y → is_some y ≡ true
there None y dev s r = absurd s
there (Some x) None dev s r = absurd r
there (Some x) (Some y) dev s r = refl

told-there : (a b : Option Files) (opened : Option (List ℕ)) (path : List ℕ) (dev : Dev) → OpensTold a path dev → OnFile IsRepaired a b path → IsOpen b opened path → is_some b ≡ true →
    is_some (content b opened) ≡ true
unfolding content
told-there a None opened path dev o r e t = absurd cc
told-there None (Some y) opened path dev o r e t = absurd r
told-there (Some x) (Some y) opened path dev o r e t = ap (λ (p : Option (List ℕ)). is_some (content (Some y) p)) e ∙ there (x path) (y path) dev o r

-- a disk that tells its files tells the bytes of an image that was opened
pub opened-told : (a b : DiskTold) (path : List ℕ) (dev : Dev) → OpensImage a b path dev → IsTrue (is_some b.files) → IsTrue (is_some (open_bytes b))
opened-told a b path dev o t = told-there a.files b.files b.open_path path dev o.device o.repaired o.open_now t
