-- What holds of the other end of a port between two calls.
use Rattle.std.proofs.Common.{◌≡◌, ◌≢◌, ℕ, ◌≤◌, List, Option, Some, None, is_some, option_map, refl, sym, ap, subst, ◌∙◌, arith}
use Rattle.std.specs.Prelude.{IsFalse, IsTrue}
use Rattle.dev_disk.specs.Disks.{DiskTold}
use Rattle.dev_disk.specs.Files.{Files, content}
use Rattle.dev_model.specs.declared.device.Dev.{Dev}
use Rattle.dev_model.specs.declared.device.Mode.{Mode}
use Rattle.dev_model.specs.declared.device.Mode.TheVariants as mode
use Rattle.dev_model.specs.Partitions.{is_fastboot}
use Rattle.dev_store.specs.Faults.{IsHonest}
use Rattle.dev_store.specs.Held.{Held, image_of, Holds, IsWhole}
use Rattle.dev_store.specs.Opening.{OpensImage}
use Rattle.dev_store.specs.Stand.{Stands, stand}
use Rattle.device_engine.specs.Running.{IsInOrder, IsInOrderIn, HasDevice, HasDeviceIn}
use Rattle.device_session.specs.Living.{Live, wire_of}
use Rattle.device_session.proofs.StillLemmas.{running, has-in, whole-in}
use Rattle.wire_model.specs.Wire.{fresh}
use Rattle.wire_told.specs.Peers.{Peer, Apart, Joined, device_of}
use Rattle.wire_told.specs.Places.{ImageAt, Device}
use Rattle.pair_port.specs.Calls.{BeginsEnd, OfHeld, OfDevice, IsUnready}
use Rattle.pair_port.specs.Pairs.{Pair, End, Alone, Down, Up, disk_of, down, is_aimed, device_in, device_at, wire_at, peer_by, stand_by, stand_in, stands_in, TellsFiles, pair_told}
use Rattle.pair_port.specs.Ready.{IsReady, IsReadyEnd, Runs}
use Rattle.pair_port.specs.Stood.{IsStand, StandsBy, stand_at, HoldsDevice, IsUnhalted}
use Rattle.pair_port.proofs.PairAimLemmas.{opened-told}
use Rattle.pair_port.proofs.DeviceLemmas.{runs-at}
use Rattle.pair_port.proofs.LinkLemmas.{disk-down}

order-in : {K : Type 0} (told : K → DiskTold) (held : Held K) (m : Mode) → IsTrue (is_fastboot m) → IsWhole told held → IsInOrderIn m told held
order-in told held mode.Bootloader f w = w
order-in told held mode.Userspace f w = w
order-in told held mode.System f w = absurd cc
order-in told held mode.Recovery f w = absurd cc
order-in told held mode.Halted f w = absurd cc

-- a device that was opened
pub ready-opened : {K : Type 0} (told : K → DiskTold) (old : DiskTold) (held : Held K) (room : ℕ) (left : Dev) (path : List ℕ) → IsWhole told held → IsTrue (is_fastboot held.device.mode) →
    room ≡ held.device.max → OpensImage old (told held.disk) path held.device → IsReady told held room left
ready-opened told old held room left path w f e o = record {
  in_order = order-in told held held.device.mode f w;
  has = has-in told held held.device.mode _ (running held.device.mode f) (runs-at held left f);
  fits = λ r. omega (arith, e);
  image = opened-told old (told held.disk) path held.device o;
}

pub ready-down : {K : Type 0} (told : K → DiskTold) (end : End K) (left : Dev) → IsReadyEnd told end left → IsReadyEnd told (down end) left
ready-down told (Alone disk) left r = tt
ready-down told (Down held room) left r = r
ready-down told (Up live) left r = r.0

-- a session that began with the device
pub ready-begun : {K : Type 0} (told : K → DiskTold) (old new : End K) (left : Dev) → IsReadyEnd told old left → BeginsEnd old new → IsReadyEnd told new left
ready-begun told old new left r b =
    let here : IsReady told b.held b.room left = subst (λ (e : End _). IsReadyEnd told e left) b.there r in
    let there : IsReady told b.live.held b.live.room left =
    subst (λ (n : ℕ). IsReady told b.live.held n left) (sym b.same_room) (subst (λ (h : Held _). IsReady told h b.room left) (sym b.same) here) in
    let runs : Runs b.live = λ unclosed. subst (λ (h : Held _). IsTrue (is_fastboot h.device.mode)) (sym b.same) b.runs in
    subst (λ (e : End _). IsReadyEnd told e left) (sym b.end_now) (there, runs)

-- A device that is in no mode for a connection is told to be in none.
unready-in : {K : Type 0} (told : K → DiskTold) (held : Held K) (left : Dev) (m : Mode) → m ≡ held.device.mode → IsFalse (is_fastboot m) → HasDeviceIn m told held (device_in m held.device left) →
    IsFalse (is_fastboot (device_in m held.device left).mode)
unready-in told held left mode.Bootloader e u h = absurd cc
unready-in told held left mode.Userspace e u h = absurd cc
unready-in told held left mode.System e u h = sym (ap is_fastboot e)
unready-in told held left mode.Recovery e u h = sym (ap is_fastboot e)
unready-in told held left mode.Halted e u h = ap is_fastboot h.0

unready-at : {K : Type 0} (told : K → DiskTold) (held : Held K) (room : ℕ) (left : Dev) → IsReady told held room left → IsUnready held → IsFalse (is_fastboot (device_at held left).mode)
unready-at told held room left r u = unready-in told held left held.device.mode refl u r.has

pub unready-told : {K : Type 0} (told : K → DiskTold) (end : End K) (left : Dev) → IsReadyEnd told end left → OfHeld IsUnready (down end) → OfDevice (λ dev. IsFalse (is_fastboot dev.mode)) end left
unready-told told (Alone disk) left r u = absurd u
unready-told told (Down held room) left r u = unready-at told held room left r u
unready-told told (Up live) left r u = unready-at told live.held live.room left r.0 u

pub aimed-apart : {K : Type 0} (end : End K) → IsTrue (is_aimed end) → OfHeld (λ _. Unit {0}) (down end)
aimed-apart (Alone disk) a = absurd cc
aimed-apart (Down held room) a = tt
aimed-apart (Up live) a = tt

-- What the image stands for.
unfolded : (file : List ℕ) (dev : Dev) → Holds (Some file) dev → Stands file dev
unfolding Holds
unfolded file dev h = h

image-stands : (file : Option (List ℕ)) (dev : Dev) → Holds file dev → IsTrue (is_some file) → IsStand (stand_in file) dev
image-stands None dev h t = absurd cc
image-stands (Some file) dev h t =
    let s = unfolded file dev h in record { found = s.found; is = ap stand_by s.reads; same = s.same; starts = s.starts }

place-stands : (f : Files) (path : Option (List ℕ)) (peer : Peer) → Holds (content (Some f) path) (device_of peer) → IsTrue (is_some (content (Some f) path)) →
    StandsBy (stand_at (stands_in (Some f)) (option_map ImageAt path)) (Some peer)
unfolding content
place-stands f None peer h t = absurd cc
place-stands f (Some path) peer h t = image-stands (f path) (device_of peer) h t

-- the image stands for what is held of a device that didn't halt, and where what failed writes left is honest for
-- the one that was left
holds-in : {K : Type 0} (told : K → DiskTold) (held : Held K) (left : Dev) (m : Mode) → IsInOrderIn m told held → HasDeviceIn m told held (device_in m held.device left) →
    ((device_in m held.device left).mode ≡ mode.Halted → IsHonest (told held.disk).torn) → Holds (image_of told held) (device_in m held.device left)
holds-in told held left mode.Bootloader o h c = o.sound.stands
holds-in told held left mode.Userspace o h c = o.sound.stands
holds-in told held left mode.System o h c = o.sound.stands
holds-in told held left mode.Recovery o h c = o.sound.stands
holds-in told held left mode.Halted o h c = h.1 (c h.0)

ready-holds : {K : Type 0} (told : K → DiskTold) (held : Held K) (room : ℕ) (left : Dev) → IsReady told held room left → ((device_at held left).mode ≡ mode.Halted → IsHonest (told held.disk).torn) →
    Holds (image_of told held) (device_at held left)
ready-holds told held room left r c = holds-in told held left held.device.mode r.in_order r.has c

held-stands : {K : Type 0} (told : K → DiskTold) (held : Held K) (room : ℕ) (left : Dev) (files : Option Files) (peer : Peer) → (told held.disk).files ≡ files → device_of peer ≡ device_at held left →
    IsReady told held room left → ((device_at held left).mode ≡ mode.Halted → IsHonest (told held.disk).torn) → IsTrue (is_some files) →
    StandsBy (stand_at (stands_in files) (option_map ImageAt (told held.disk).open_path)) (Some peer)
held-stands told held room left None peer e d r c t = absurd cc
held-stands told held room left (Some f) peer e d r c t =
    let path = (told held.disk).open_path in
    let holds : Holds (content (Some f) path) (device_of peer) =
    subst (λ (dev : Dev). Holds (content (Some f) path) dev) (sym d) (subst (λ (x : Option Files). Holds (content x path) (device_at held left)) e (ready-holds told held room left r c)) in
    let there : IsTrue (is_some (content (Some f) path)) = subst (λ (x : Option Files). IsTrue (is_some (content x path))) e (r.image (ap is_some e)) in
    place-stands f path peer holds there

end-stands : {K : Type 0} (told : K → DiskTold) (end : End K) (left : Dev) (files : Option Files) → (told (disk_of end)).files ≡ files → IsReadyEnd told end left →
    (OfDevice (λ dev. dev.mode ≡ mode.Halted) end left → IsHonest (told (disk_of end)).torn) →
    StandsBy (stand_at (stands_in files) (option_map ImageAt (told (disk_of end)).open_path)) (peer_by files end left)
end-stands told end left None e r c = tt
end-stands told (Alone disk) left (Some f) e r c = tt
end-stands told (Down held room) left (Some f) e r c = held-stands told held room left (Some f) (Apart (device_at held left)) e refl r c refl
end-stands told (Up live) left (Some f) e r c = held-stands told live.held live.room left (Some f) (Joined (wire_at live left)) e refl r.0 c refl

pub honest-stands : {K : Type 0} (told : K → DiskTold) (p : Pair K) → IsReadyEnd told p.end p.left → IsHonest (told (disk_of p.end)).torn → HoldsDevice (pair_told told p)
honest-stands told p r h = end-stands told p.end p.left (told (disk_of p.end)).files refl r (λ _. h)

unhalted-stands : {K : Type 0} (told : K → DiskTold) (end : End K) (left : Dev) (files : Option Files) → (told (disk_of end)).files ≡ files → IsReadyEnd told end left → IsUnhalted (peer_by files end left) →
    StandsBy (stand_at (stands_in files) (option_map ImageAt (told (disk_of end)).open_path)) (peer_by files end left)
unhalted-stands told end left None e r u = tt
unhalted-stands told (Alone disk) left (Some f) e r u = tt
unhalted-stands told (Down held room) left (Some f) e r u = end-stands told (Down held room) left (Some f) e r (λ h. absurd (u h))
unhalted-stands told (Up live) left (Some f) e r u = end-stands told (Up live) left (Some f) e r (λ h. absurd (u h))

pub running-stands : {K : Type 0} (told : K → DiskTold) (p : Pair K) → IsReadyEnd told p.end p.left → IsUnhalted (pair_told told p).peer → HoldsDevice (pair_told told p)
running-stands told p r u = unhalted-stands told p.end p.left (told (disk_of p.end)).files refl r u

-- the disk holds the image of a device that runs fastboot
pub ready-whole : {K : Type 0} (told : K → DiskTold) (held : Held K) (room : ℕ) (left : Dev) → IsReady told held room left → IsTrue (is_fastboot held.device.mode) → IsWhole told held
ready-whole told held room left r f = whole-in told held held.device.mode f r.in_order
